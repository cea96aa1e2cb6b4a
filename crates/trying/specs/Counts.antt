-- Counts of 64 bits, and answers to be counted. Assumes nothing.
use Rattle.std.specs.Prelude.{◌≡◌, ℕ, ◌+◌, ◌-◌, ◌^◌, min, List, slice_get, EachIndex}

-- so many more, or the greatest count where there are not so many
abbrev pub capped_sum : ℕ → ℕ → ℕ
capped_sum n by = min (n + by) (2 ^ 64 - 1)

-- what is given at each place of the expected list is what is expected there
abbrev pub GivesAll : {A : Type 0} → List A → List A → Type 0
GivesAll expected given = EachIndex expected (λ k. slice_get given k ≡ slice_get expected k)
