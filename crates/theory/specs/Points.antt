-- Least points. Assumes nothing.
-- Least: the point meets all the rows, x(0) is least among the points that do, then x(1) among those left, and so on.
-- values: the values of the unknowns below n, in order.
use Rattle.std.specs.Prelude.{◌≡◌, ℕ, zero, suc, ◌<◌, List, [], ◌∷◌, ◌++◌, ℤ, ◌≤ℤ◌}
use Rattle.std.specs.List.{AllByRecursion}
use Rattle.theory.specs.declared.row.Row.{Row}
use Rattle.theory.specs.Rows.{Point, Meets}

-- the points p and q have the same values below k
abbrev pub SameBelow : ℕ → Point → Point → Type 0
SameBelow k p q = (j : ℕ) → j < k → q j ≡ p j

pub record Least (n : ℕ) (rows : List Row) (p : Point) : Type 0 where
  pub meets : AllByRecursion (Meets p) rows
  pub least : (k : ℕ) → k < n → (q : Point) → AllByRecursion (Meets q) rows → SameBelow k p q → p k ≤ℤ q k

abbrev pub values : ℕ → Point → List ℤ
values zero p = []
values (suc n) p = values n p ++ p n ∷ []
