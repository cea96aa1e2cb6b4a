-- What a filter holds and keeps beside the rows below it. Assumes nothing.
-- Filtered: some rows with those left out that the others imply.   Stack: such are also the rows of each level's time.
-- Over: what a filter means, beside what the theory below means.   Passed: what becomes of the rows below when a row is passed on.
use Rattle.std.specs.Prelude.{◌≡◌, ℕ, ◌≤◌, ◌⊎◌, List, [], ◌∷◌, ◌++◌, length, take, Ok, Err, Result}
use Rattle.std.specs.Coded.{×_prop, le_prop}
use Rattle.std.proofs.Props.{props}
use Rattle.std.specs.List.{AllByRecursion}
use Rattle.theory.specs.declared.refusal.Refusal.{Refusal}
use Rattle.theory.specs.declared.refusal.Refusal.TheVariants.{Contradiction}
use Rattle.theory.specs.declared.row.Row.{Row}
use Rattle.theory.specs.Rows.{Point, Meets, Feasible}
use Rattle.theory.specs.Meaning.{Meaning, with_row}

-- no more rows, and the same points
pub record Filtered (rows kept : List Row) : Type 0 where
  pub fewer : length kept ≤ length rows
  pub to : (p : Point) → AllByRecursion (Meets p) rows → AllByRecursion (Meets p) kept
  pub from : (p : Point) → AllByRecursion (Meets p) kept → AllByRecursion (Meets p) rows

pub Filtered-prop : (rows kept : List Row) → IsProp (Filtered rows kept)
Filtered-prop rows kept = Prim.hlevel props

-- the levels opened at rising numbers of rows, here from low on and below from base on
abbrev pub Stack : (low base : ℕ) → (rows kept : List Row) → (levels marks : List ℕ) → Type 0
Stack low base rows kept [] [] = (low ≤ length rows) × (base ≤ length kept)
Stack low base rows kept [] (m ∷ ms) = ⊥
Stack low base rows kept (l ∷ ls) [] = ⊥
Stack low base rows kept (l ∷ ls) (m ∷ ms) = (low ≤ l) × (base ≤ m) × Filtered (take l rows) (take m kept) × Stack l m rows kept ls ms

-- the filter means m where the theory below means b
pub record Over (m b : Meaning) : Type 0 where
  pub sizes : m.sizes ≡ b.sizes
  pub same : Filtered m.rows b.rows
  pub stack : Stack 0 0 m.rows b.rows m.levels b.levels
  pub rows_fit : length m.rows ≤ m.sizes.space

-- the row is implied, or it is put; refused, no point would be left
abbrev pub Passed : Meaning → Row → Result (Unit {0}) Refusal → Meaning → Type 0
Passed m r (Ok _) n = Feasible (m.rows ++ r ∷ []) × (((n ≡ m) × ((p : Point) → AllByRecursion (Meets p) m.rows → Meets p r)) ⊎ (n ≡ with_row m r))
Passed m r (Err e) n = (e ≡ Contradiction) × (Feasible (m.rows ++ r ∷ []) → ⊥) × (n ≡ m)

pub Stack-prop : (low base : ℕ) (rows kept : List Row) (levels marks : List ℕ) → IsProp (Stack low base rows kept levels marks)
Stack-prop low base rows kept [] [] = ×_prop le_prop le_prop
Stack-prop low base rows kept [] (m ∷ ms) = λ x. absurd x
Stack-prop low base rows kept (l ∷ ls) [] = λ x. absurd x
Stack-prop low base rows kept (l ∷ ls) (m ∷ ms) = let rest = Stack-prop l m rows kept ls ms in Prim.hlevel (props, rest)

pub Over-prop : (m b : Meaning) → IsProp (Over m b)
Over-prop m b = Prim.hlevel (props, Stack-prop)
