-- The levels' tables stand for the first rows, when a row comes, a level opens and the newest level closes. Assumes nothing.
use Rattle.std.specs.Prelude.{◌≡◌, ℕ, ◌≤◌, List, [], ◌∷◌, ◌++◌, length, take}
use Rattle.std.proofs.Common.{arith}
use Rattle.std.proofs.lemmas.List.{length_push, length-take-le, take-append-le, take-take, take_all}
use Rattle.theory.specs.declared.row.Row.{Row}
use Rattle.dense.specs.declared.Level.{Level}
use Rattle.dense.specs.Entries.{entry}
use Rattle.differences.specs.Tabled.{Tabled}
use Rattle.dense.specs.Levels.{Stack}

stack_low : (low : ℕ) (rows : List Row) (ls : List Level) → Stack low rows ls → low ≤ length rows
stack_low low rows [] h = h
stack_low low rows (l ∷ ls) h = omega (arith, h.0, stack_low l.count rows ls h.2)

-- one more row
pub stack_row : (low : ℕ) (rows : List Row) (ls : List Level) (r : Row) → Stack low rows ls → Stack low (rows ++ r ∷ []) ls
stack_row low rows [] r h = rw (length_push rows r) (omega arith)
stack_row low rows (l ∷ ls) r h =
    let within = stack_low l.count rows ls h.2 in
    (h.0, rw (take-append-le l.count rows (r ∷ []) within) h.1, stack_row l.count rows ls r h.2)

-- one more level, which opens now
pub stack_push : (low : ℕ) (rows : List Row) (ls : List Level) (l : Level) → l.count ≡ length rows → Tabled 64 rows (entry l.matrix) → Stack low rows ls → Stack low rows (ls ++ l ∷ [])
stack_push low rows [] l now t h = (omega arith, rw (take_all l.count rows (omega arith)) t, omega arith)
stack_push low rows (x ∷ ls) l now t h = (h.0, h.1, stack_push x.count rows ls l now t h.2)

-- what closing the level l leaves, and what it was
pub record Closed (low : ℕ) (rows : List Row) (ls : List Level) (l : Level) : Type 0 where
  pub from_low : low ≤ l.count
  pub within : l.count ≤ length rows
  pub table : Tabled 64 (take l.count rows) (entry l.matrix)
  pub rest : Stack low (take l.count rows) ls

-- the newest level closes, and the rows that came since are gone
pub stack_pop : (low : ℕ) (rows : List Row) (ls : List Level) (l : Level) → Stack low rows (ls ++ l ∷ []) → Closed low rows ls l
stack_pop low rows [] l h = record { from_low = h.0; within = h.2; table = h.1; rest = rw (length-take-le l.count rows h.2) h.0 }
stack_pop low rows (x ∷ ls) l h =
    let c = stack_pop x.count rows ls l h.2 in
    record { from_low = omega (arith, h.0, c.from_low); within = c.within; table = c.table; rest = (h.0, rw (take-take x.count l.count rows c.from_low) h.1, c.rest) }
