-- Reasons of a contradiction: the places of standing rows that share no point with a row. Assumes nothing.
-- rows_at: the rows at these places.                  Together: the rows and r have a point.
-- Left: which places below k are left, latest first.   Core: which of all places are left.
-- Minimal: they contradict, and any one left out, they do not.
use Rattle.std.specs.Prelude.{◌≡◌, ℕ, zero, suc, ◌<◌, ◌≤◌, ◌⊎◌, List, [], ◌∷◌, ◌++◌, map, length, take, drop, pos, slice_index_or}
use Rattle.theory.specs.declared.row.Sign.TheVariants.{Zero}
use Rattle.theory.specs.declared.row.Row.{Row}
use Rattle.theory.specs.Rows.{Feasible}

-- stands for the row at a place beyond the last
abbrev pub no_row : Row
no_row = record { side = record { a = Zero; b = Zero; u = 0; v = 0 }; c = pos 0 }

abbrev pub rows_at : List Row → List ℕ → List Row
rows_at rows places = map (λ k. slice_index_or rows k no_row) places

abbrev pub Together : List Row → Row → Type 0
Together rows r = Feasible (rows ++ r ∷ [])

-- the place is left out if the rows before it and those kept after it still contradict r, else it is kept
abbrev pub Left : List Row → Row → ℕ → List ℕ → List ℕ → Type 0
Left rows r zero kept core = core ≡ kept
Left rows r (suc k) kept core =
    ((Together (take k rows ++ rows_at rows kept) r → ⊥) × Left rows r k kept core)
    ⊎ (Together (take k rows ++ rows_at rows kept) r × Left rows r k (k ∷ kept) core)

pub record Core (rows : List Row) (r : Row) (core : List ℕ) : Type 0 where
  pub contradicts : Together rows r → ⊥
  pub left : Left rows r (length rows) [] core

-- the list without the entry at place i
abbrev pub without : ℕ → List ℕ → List ℕ
without i ks = take i ks ++ drop (suc i) ks

-- each below n, and each above those before it
abbrev pub Rising : ℕ → List ℕ → ℕ → Type 0
Rising low [] n = Unit {0}
Rising low (k ∷ ks) n = (low ≤ k) × (k < n) × Rising (suc k) ks n

pub record Minimal (rows : List Row) (r : Row) (core : List ℕ) : Type 0 where
  pub rising : Rising 0 core (length rows)
  pub contradicts : Together (rows_at rows core) r → ⊥
  pub needed : (i : ℕ) → i < length core → Together (rows_at rows (without i core)) r
