-- Tables of the greatest differences of rows. Assumes nothing.
-- Bounds: the table has a bound for the row.  Tabled: the table is that of the greatest differences.  Near: a bound lies near 0.
use Rattle.std.specs.Prelude.{ℕ, ◌≤◌, List, ℤ, Some, None, Option, unsigned_abs}
use Rattle.std.specs.List.{AllByRecursion}
use Rattle.theory.specs.declared.row.Row.{Row}
use Rattle.theory.specs.Rows.{Point, Meets}
use Rattle.bounds.specs.Tables as tables
use Rattle.bounds.specs.Tables.{Differences, Metric, AtMost}
use Rattle.differences.specs.Sides.{first, second}

-- a bound that is there is at most n away from 0
abbrev pub Near : ℕ → Option ℤ → Type 0
Near n None = Unit {0}
Near n (Some d) = unsigned_abs d ≤ n

-- the table has a bound for the row that is no greater
abbrev pub Bounds : Differences → Row → Type 0
Bounds D r = AtMost (D (first r.side) (second r.side)) r.c

-- the table is closed, has a bound for each row, and says no more than the rows do
pub record Tabled (n : ℕ) (rows : List Row) (D : Differences) : Type 0 where
  pub metric : Metric n D
  pub has : AllByRecursion (Bounds D) rows
  pub keeps : (p : Point) → AllByRecursion (Meets p) rows → tables.Meets n p D
