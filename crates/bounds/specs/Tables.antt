-- Tables of upper bounds on differences of literals, and what it means that a table is closed and that a point keeps it. Assumes nothing.
-- Unknowns that count are those below n; what a table says of others is left open.
use Rattle.std.specs.Prelude.{◌≡◌, ℕ, ◌/◌, ◌<◌, ℤ, pos, negsuc, ◌+ℤ◌, ◌-ℤ◌, ◌≤ℤ◌, Some, None, Option}
use Rattle.std.specs.Int.{int_min}
use Rattle.bounds.specs.Literals.{Point, Literal, plus, minus, index, mirror, at}

-- V s t bounds s − t from above, or not at all
abbrev pub Table : Type 0
Table = Literal → Literal → Option ℤ

-- D i j bounds x(i) − x(j) from above, or not at all
abbrev pub Differences : Type 0
Differences = ℕ → ℕ → Option ℤ

-- there is a bound, and it is at most c
abbrev pub AtMost : Option ℤ → ℤ → Type 0
AtMost None c = ⊥
AtMost (Some d) c = d ≤ℤ c

-- x keeps the bound
abbrev pub Allows : Option ℤ → ℤ → Type 0
Allows None x = Unit {0}
Allows (Some d) x = x ≤ℤ d

-- half of a number, rounded down: half of −3 is −2
abbrev pub half : ℤ → ℤ
half (pos n) = pos (n / 2)
half (negsuc n) = negsuc (n / 2)

-- the lesser of two bounds; the one that is there, where one is not
abbrev pub least_of : Option ℤ → Option ℤ → Option ℤ
least_of None b = b
least_of (Some x) None = Some x
least_of (Some x) (Some y) = Some (int_min x y)

-- the sum of two bounds; absent where one of them is
abbrev pub sum_of : Option ℤ → Option ℤ → Option ℤ
sum_of None b = None
sum_of (Some x) None = None
sum_of (Some x) (Some y) = Some (x +ℤ y)

-- the bounds that follow by adding two are in the table already, and so are mirrored ones; what bounds twice a literal is even
pub record Closed (n : ℕ) (V : Table) : Type 0 where
  pub zero : (s : Literal) → index s < n → V s s ≡ Some (pos 0)
  pub coherent : (s t : Literal) → index s < n → index t < n → V s t ≡ V (mirror t) (mirror s)
  pub triangle : (s r t : Literal) (a b : ℤ) → index s < n → index r < n → index t < n → AtMost (V s r) a → AtMost (V r t) b → AtMost (V s t) (a +ℤ b)
  pub even : (s : Literal) (d : ℤ) → index s < n → AtMost (V s (mirror s)) d → AtMost (V s (mirror s)) (half d +ℤ half d)

-- closed, and the bounds that follow by adding halves are in the table too
pub record Strong (n : ℕ) (V : Table) : Type 0 where
  pub closed : Closed n V
  pub halves : (s t : Literal) (a b : ℤ) → index s < n → index t < n → AtMost (V s (mirror s)) (a +ℤ a) → AtMost (V (mirror t) t) (b +ℤ b) → AtMost (V s t) (a +ℤ b)

-- the point p keeps every bound of V between literals below n
abbrev pub Keeps : ℕ → Point → Table → Type 0
Keeps n p V = (s t : Literal) → index s < n → index t < n → Allows (V s t) (at p s -ℤ at p t)

-- the table of a difference table: no bound between literals of unlike sign
abbrev pub differences : Differences → Table
differences D (plus i) (plus j) = D i j
differences D (plus i) (minus j) = None
differences D (minus i) (plus j) = None
differences D (minus i) (minus j) = D j i

-- the bounds that follow by adding two are in the difference table already
pub record Metric (n : ℕ) (D : Differences) : Type 0 where
  pub zero : (i : ℕ) → i < n → D i i ≡ Some (pos 0)
  pub triangle : (i k j : ℕ) (a b : ℤ) → i < n → k < n → j < n → AtMost (D i k) a → AtMost (D k j) b → AtMost (D i j) (a +ℤ b)

-- the point p keeps every bound of D between unknowns below n
abbrev pub Meets : ℕ → Point → Differences → Type 0
Meets n p D = (i j : ℕ) → i < n → j < n → Allows (D i j) (p i -ℤ p j)

-- the difference table D with the row x(u) − x(v) ≤ c added
abbrev pub with_row : Differences → ℕ → ℕ → ℤ → Differences
with_row D u v c i j = least_of (D i j) (sum_of (sum_of (D i u) (Some c)) (D v j))

-- the row x(u) − x(v) ≤ c does not contradict the difference table D
abbrev pub Admits : Differences → ℕ → ℕ → ℤ → Type 0
Admits D u v c = (d : ℤ) → D v u ≡ Some d → pos 0 ≤ℤ (d +ℤ c)
