-- The levels of a dense theory. Assumes nothing.
-- Stack: each level's matrix is that of the rows of its time.
use Rattle.std.specs.Prelude.{ℕ, ◌≤◌, List, [], ◌∷◌, length, take}
use Rattle.std.specs.Coded.{le_prop}
use Rattle.theory.specs.declared.row.Row.{Row}
use Rattle.differences.specs.Tabled.{Tabled}
use Rattle.differences.specs.Props.{Tabled-prop}
use Rattle.dense.specs.declared.Level.{Level}
use Rattle.dense.specs.Entries.{entry}

-- the levels opened at rising numbers of rows, from low on
abbrev pub Stack : ℕ → List Row → List Level → Type 0
Stack low rows [] = low ≤ length rows
Stack low rows (l ∷ ls) = (low ≤ l.count) × Tabled 64 (take l.count rows) (entry l.matrix) × Stack l.count rows ls

pub Stack-prop : (low : ℕ) (rows : List Row) (ls : List Level) → IsProp (Stack low rows ls)
Stack-prop low rows [] = le_prop
Stack-prop low rows (l ∷ ls) = hlevel (le_prop, Tabled-prop, Stack-prop l.count rows ls)
