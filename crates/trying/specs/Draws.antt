-- What dice draw over the first n unknowns. Assumes nothing.
-- IsDifference: a side that is the difference of two of them, or of one and itself.
-- IsSide: a side of one or two of them, whose signs break no rule.
-- IsAbout: a call whose side, where it has one, is such, and whose bound, where it offers a row, is −2 to 2.
use Rattle.std.specs.Prelude.{◌≡◌, ℕ, ◌<◌, ◌≤◌, false, unsigned_abs}
use Rattle.histories.specs.declared.Call.{Call}
use Rattle.histories.specs.declared.Call.TheVariants.{Push, Pop, Offer, Tightest, RowAt}
use Rattle.theory.specs.declared.row.Side.{Side}
use Rattle.theory.specs.declared.sizes.Breadth.TheVariants.{Differences}
use Rattle.theory.specs.Rules.{breadth_of, bad_signs}

pub record IsDifference (n : ℕ) (s : Side) : Type 0 where
  pub u : s.u < n
  pub v : s.v < n
  pub breadth : breadth_of s.a s.b ≡ Differences

pub record IsSide (n : ℕ) (s : Side) : Type 0 where
  pub u : s.u < n
  pub v : s.v < n
  pub signs : bad_signs s ≡ false

abbrev pub IsAbout : (Side → Type 0) → Call → Type 0
IsAbout P Push = Unit {0}
IsAbout P Pop = Unit {0}
IsAbout P (Offer row) = P row.side × (unsigned_abs row.c ≤ 2)
IsAbout P (Tightest side) = P side
IsAbout P (RowAt place) = Unit {0}
