-- The facts of a table and of its rows have one proof at most, so a type can keep them as its invariant. Assumes nothing.
use Rattle.std.specs.Prelude.{ℕ, List, ℤ, Some, None, Option}
use Rattle.std.specs.Coded.{Unit-prop}
use Rattle.std.specs.List.{AllByRecursion}
use Rattle.std.proofs.Props.{props}
use Rattle.theory.specs.declared.row.Row.{Row}
use Rattle.bounds.specs.Tables.{Differences, AtMost, Allows}
use Rattle.differences.specs.Sides.{Difference}
use Rattle.differences.specs.Tabled.{Tabled}

AtMost-prop : (o : Option ℤ) (c : ℤ) → IsProp (AtMost o c)
AtMost-prop None c = hlevel
AtMost-prop (Some d) c = hlevel props

Allows-prop : (o : Option ℤ) (x : ℤ) → IsProp (Allows o x)
Allows-prop None x = Unit-prop
Allows-prop (Some d) x = hlevel props

pub Tabled-prop : (n : ℕ) (rows : List Row) (D : Differences) → IsProp (Tabled n rows D)
Tabled-prop n rows D = hlevel (props, AtMost-prop, Allows-prop)

pub AllDifferences-prop : (n reach : ℕ) (rows : List Row) → IsProp (AllByRecursion (Difference n reach) rows)
AllDifferences-prop n reach rows = hlevel props
