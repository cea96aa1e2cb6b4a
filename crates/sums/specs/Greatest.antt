-- The greatest value of terms over the points that meet rows, or that there is none. Assumes nothing.
use Rattle.std.specs.Prelude.{List, ℤ, ◌≤ℤ◌, Some, None, Option}
use Rattle.std.specs.List.{AllByRecursion}
use Rattle.theory.specs.declared.row.Row.{Row}
use Rattle.theory.specs.Rows.{Point, Meets}
use Rattle.sums.specs.declared.Terms.{Terms}
use Rattle.sums.specs.Terms.{value_by}

abbrev pub GreatestOf : List Row → Terms → Option ℤ → Type 0
GreatestOf rows ts (Some m) = ((p : Point) → AllByRecursion (Meets p) rows → value_by p ts ≤ℤ m) × ((p : Point) × AllByRecursion (Meets p) rows × (m ≤ℤ value_by p ts))
GreatestOf rows ts None = (m : ℤ) → (p : Point) × AllByRecursion (Meets p) rows × (m ≤ℤ value_by p ts)
