-- What a theory means: its standing rows in order of acceptance, its open levels, oldest first, each by the number of rows that stood when it opened, and its sizes. Assumes nothing.
use Rattle.std.specs.Prelude.{ℕ, ◌-◌, ◌≤◌, List, [], ◌∷◌, ◌++◌, length, take, slice_index}
use Rattle.theory.specs.declared.row.Row.{Row}
use Rattle.theory.specs.declared.sizes.Sizes.{Sizes}
use Rattle.theory.specs.Rows.{Feasible}
use Rattle.theory.specs.Rules.{Limits}

pub record Meaning : Type 0 where
  pub rows : List Row
  pub levels : List ℕ
  pub sizes : Sizes

abbrev pub empty : Sizes → Meaning
empty z = record { rows = []; levels = []; sizes = z }

abbrev pub with_row : Meaning → Row → Meaning
with_row m r = record { rows = m.rows ++ r ∷ []; levels = m.levels; sizes = m.sizes }

abbrev pub with_level : Meaning → Meaning
with_level m = record { rows = m.rows; levels = m.levels ++ length m.rows ∷ []; sizes = m.sizes }

-- the number of rows that stood when the newest level opened
abbrev pub newest : List ℕ → ℕ
newest ls = slice_index ls (length ls - 1)

-- the newest level closed, and the rows accepted since it opened removed
abbrev pub without_level : Meaning → Meaning
without_level m = record { rows = take (newest m.levels) m.rows; levels = take (length m.levels - 1) m.levels; sizes = m.sizes }

-- what every theory keeps
pub record Sane (m : Meaning) : Type 0 where
  pub limits : Limits m.sizes
  pub rows_fit : length m.rows ≤ m.sizes.space
  pub levels_fit : length m.levels ≤ m.sizes.depth
  pub point : Feasible m.rows
