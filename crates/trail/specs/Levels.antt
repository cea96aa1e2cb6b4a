-- Levels, each by the number of entries when it opened, oldest first. Assumes nothing.
use Rattle.std.specs.Prelude.{ℕ, ◌-◌, ◌<◌, ◌≤◌, List, length, slice_index}

-- no level opened before an older one, and none at more entries than n
abbrev pub Rising : List ℕ → ℕ → Type 0
Rising ls n = (i j : ℕ) → i ≤ j → j < length ls → (slice_index ls i ≤ slice_index ls j) × (slice_index ls j ≤ n)

-- the number of entries when the newest level opened
abbrev pub newest : List ℕ → ℕ
newest ls = slice_index ls (length ls - 1)
