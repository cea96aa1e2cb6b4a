-- What is asked of the theory below, and what its answers are. Assumes nothing.
-- Ready: the rows below bound differences.      Reads: an answer is what every table of the greatest differences has.
-- Answered: what a question gives and leaves.   Ready-prop: any two proofs are equal.
use Rattle.std.specs.Prelude.{◌≡◌, ℕ, ℤ, Option}
use Rattle.std.specs.List.{AllByRecursion}
use Rattle.std.proofs.Props.{props}
use Rattle.theory.specs.Meaning.{Meaning}
use Rattle.bounds.specs.Tables.{Differences}
use Rattle.differences.specs.Sides.{Difference}
use Rattle.differences.specs.Tabled.{Near, Tabled}

abbrev pub Ready : Meaning → Type 0
Ready m = AllByRecursion (Difference m.sizes.unknowns m.sizes.reach) m.rows

pub Ready-prop : (m : Meaning) → IsProp (Ready m)
Ready-prop m = hlevel props

abbrev pub Reads : Meaning → (Differences → Option ℤ) → Option ℤ → Type 0
Reads m f o = (D : Differences) → Tabled m.sizes.unknowns m.rows D → o ≡ f D

-- no answer of the theory below, and no half of one, lies further from 0: 64 times the greatest bound of a row
abbrev pub far : ℕ
far = 256000000

-- no sum of two halves
abbrev pub further : ℕ
further = 512000000

pub record Answered (limit : ℕ) (m : Meaning) (f : Differences → Option ℤ) (o : Option ℤ) (n : Meaning) : Type 0 where
  pub reads : Reads m f o
  pub near : Near limit o
  pub same : n ≡ m
