-- What rows say of points. Assumes nothing.
-- Point: a whole number for each unknown.   value: what a left side comes to at a point.
-- Meets: the point meets the row.            Feasible: some point meets all the rows.
-- Greatest: the greatest value of a left side over the points that meet all the rows, or that there is none.
use Rattle.std.specs.Prelude.{ℕ, List, ℤ, pos, ◌+ℤ◌, neg_ℤ, ◌≤ℤ◌, Some, None, Option}
use Rattle.std.specs.List.{AllByRecursion}
use Rattle.theory.specs.declared.row.Sign.{Sign}
use Rattle.theory.specs.declared.row.Sign.TheVariants.{Zero, Plus, Minus}
use Rattle.theory.specs.declared.row.Side.{Side}
use Rattle.theory.specs.declared.row.Row.{Row}

abbrev pub Point : Type 0
Point = ℕ → ℤ

-- a sign times a number
abbrev pub signed : Sign → ℤ → ℤ
signed Zero x = pos 0
signed Plus x = x
signed Minus x = neg_ℤ x

abbrev pub value : Point → Side → ℤ
value p s = signed s.a (p s.u) +ℤ signed s.b (p s.v)

abbrev pub Meets : Point → Row → Type 0
Meets p r = value p r.side ≤ℤ r.c

abbrev pub Feasible : List Row → Type 0
Feasible rows = (p : Point) × AllByRecursion (Meets p) rows

-- Some m: no point goes above m, and one comes to it. None: some point goes as high as is asked.
abbrev pub Greatest : List Row → Side → Option ℤ → Type 0
Greatest rows s (Some m) = ((p : Point) → AllByRecursion (Meets p) rows → value p s ≤ℤ m) × ((p : Point) × AllByRecursion (Meets p) rows × (m ≤ℤ value p s))
Greatest rows s None = (m : ℤ) → (p : Point) × AllByRecursion (Meets p) rows × (m ≤ℤ value p s)
