-- How the unknowns are given values one after another so that a table is kept: each takes the greatest of its lower bounds over those that have values already. Assumes nothing.
use Rattle.std.specs.Prelude.{◌≡◌, ℕ, zero, suc, ◌<◌, cond, ◌⊎◌, List, [], ◌∷◌, ℤ, pos, ◌-ℤ◌, neg_ℤ, Some, None, Option, ◌==◌}
use Rattle.std.specs.Int.{int_max}
use Rattle.bounds.specs.Literals.{Point, Literal, plus, minus, index, mirror, at}
use Rattle.bounds.specs.Tables.{Table, Allows, half}

-- k is one of ks
abbrev pub Among : List ℕ → ℕ → Type 0
Among [] k = ⊥
Among (j ∷ ks) k = (k ≡ j) ⊎ Among ks k

-- each of ks is below n
abbrev pub Within : ℕ → List ℕ → Type 0
Within n ks = (k : ℕ) → Among ks k → k < n

-- the point p keeps the bounds of V between literals of ks
abbrev pub KeepsOver : List ℕ → Point → Table → Type 0
KeepsOver ks p V = (s t : Literal) → Among ks (index s) → Among ks (index t) → Allows (V s t) (at p s -ℤ at p t)

-- the points p and q have the same values at ks
abbrev pub Agree : List ℕ → Point → Point → Type 0
Agree ks p q = (k : ℕ) → Among ks k → q k ≡ p k

-- the point p with the unknown of t changed so that t is x
abbrev pub put : Point → Literal → ℤ → Point
put p (plus k) x j = cond (j == k) x (p j)
put p (minus k) x j = cond (j == k) (neg_ℤ x) (p j)

-- the greater of two bounds; the one that is there, where one is not
abbrev pub greatest_of : Option ℤ → Option ℤ → Option ℤ
greatest_of None b = b
greatest_of (Some x) None = Some x
greatest_of (Some x) (Some y) = Some (int_max x y)

-- the lower bound on t where r − t has the bound o and r is y
abbrev pub low_beside : ℤ → Option ℤ → Option ℤ
low_beside y None = None
low_beside y (Some d) = Some (y -ℤ d)

-- the lower bound on t where −t − t has the bound o
abbrev pub low_alone : Option ℤ → Option ℤ
low_alone None = None
low_alone (Some d) = Some (neg_ℤ (half d))

-- the greatest lower bound on t where the unknowns ks have their values by p
abbrev pub low : Table → Point → Literal → List ℕ → Option ℤ
low V p t [] = low_alone (V (mirror t) t)
low V p t (k ∷ ks) = greatest_of (low V p t ks) (greatest_of (low_beside (p k) (V (plus k) t)) (low_beside (neg_ℤ (p k)) (V (minus k) t)))

-- the lower bound; else the upper one; else 0
abbrev pub pick : Option ℤ → Option ℤ → ℤ
pick (Some x) b = x
pick None (Some y) = neg_ℤ y
pick None None = pos 0

-- the value that the unknown k takes after ks
abbrev pub value : Table → Point → List ℕ → ℕ → ℤ
value V p ks k = pick (low V p (plus k) ks) (low V p (minus k) ks)

-- ks and the unknowns below m, the last one first
abbrev pub upto : List ℕ → ℕ → List ℕ
upto ks zero = ks
upto ks (suc m) = m ∷ upto ks m

-- the point p with the unknowns below m given their values in turn, after ks
abbrev pub fill : Table → Point → List ℕ → ℕ → Point
fill V p ks zero = p
fill V p ks (suc m) = put (fill V p ks m) (plus m) (value V (fill V p ks m) (upto ks m) m)
