-- The sizes of a bottom, and what a side and a row that bound a difference say. Assumes nothing.
-- first, second: the unknowns whose difference a side of opposite signs is.   Ends: the side is their difference.
-- Difference: the row bounds one, by a number that is not far from 0.          Fair: the row passes a bottom's rules by itself.
use Rattle.std.specs.Prelude.{◌≡◌, ℕ, ◌<◌, ◌≤◌, ◌-ℤ◌, None, unsigned_abs}
use Rattle.theory.specs.declared.row.Sign.{Sign}
use Rattle.theory.specs.declared.row.Sign.TheVariants.{Zero, Plus, Minus}
use Rattle.theory.specs.declared.row.Side.{Side}
use Rattle.theory.specs.declared.row.Row.{Row}
use Rattle.theory.specs.declared.sizes.Breadth.TheVariants as breadth
use Rattle.theory.specs.declared.sizes.Sizes.{Sizes}
use Rattle.theory.specs.Rows.{Point, value}
use Rattle.theory.specs.Rules.{row_fault}

abbrev pub bottom_sizes : Sizes
bottom_sizes = record { unknowns = 64; space = 1024; depth = 128; reach = 4000000; breadth = breadth.Differences }

abbrev pub Fair : Row → Type 0
Fair r = row_fault bottom_sizes r ≡ None

-- the first of two where the sign is not a minus, else the second
abbrev pub pick : Sign → ℕ → ℕ → ℕ
pick Zero u v = u
pick Plus u v = u
pick Minus u v = v

abbrev pub first : Side → ℕ
first s = pick s.a s.u s.v

abbrev pub second : Side → ℕ
second s = pick s.a s.v s.u

-- the side is the difference of two unknowns below n
pub record Ends (n : ℕ) (s : Side) : Type 0 where
  pub first_in : first s < n
  pub second_in : second s < n
  pub is : (p : Point) → value p s ≡ p (first s) -ℤ p (second s)

-- the row bounds such a difference by a number at most reach away from 0
pub record Difference (n reach : ℕ) (r : Row) : Type 0 where
  pub ends : Ends n r.side
  pub near : unsigned_abs r.c ≤ reach
