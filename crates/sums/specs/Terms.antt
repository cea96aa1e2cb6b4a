-- Left sides and rows in the terms of the theory below, where the unknown 2k stands for x(k) and 2k + 1 for −x(k). Assumes nothing.
-- lit: a literal of the code as one of the mathematics.     literal_by, terms_of: the terms of a side.   Opposite: those of its opposite.
-- value_by: what terms come to at a point.                   Within: they are about unknowns below n, not twice about one.
-- images: what a row is sent down as.                        sent: what rows are sent down as.
-- greatest_by: the greatest value of terms, by a table of the greatest differences below.
use Rattle.std.specs.Prelude.{◌≡◌, ℕ, ◌/◌, ◌<◌, List, [], ◌∷◌, ◌++◌, ℤ, ◌+ℤ◌, ◌-ℤ◌, Option, ◌≢◌}
use Rattle.theory.specs.declared.row.Sign.{Sign}
use Rattle.theory.specs.declared.row.Sign.TheVariants as sign
use Rattle.theory.specs.declared.row.Side.{Side}
use Rattle.theory.specs.declared.row.Row.{Row}
use Rattle.theory.specs.declared.sizes.Breadth.TheVariants.{Sums}
use Rattle.theory.specs.declared.sizes.Sizes.{Sizes}
use Rattle.bounds.specs.Literals as of
use Rattle.bounds.specs.Literals.{Point, index, mirror, at}
use Rattle.bounds.specs.Tables.{Differences}
use Rattle.bounds.specs.Doubling.{code, alone, tight}
use Rattle.sums.specs.declared.Literal.{Literal}
use Rattle.sums.specs.declared.Literal.TheVariants.{Plus, Minus}
use Rattle.sums.specs.declared.Terms.{Terms}
use Rattle.sums.specs.declared.Terms.TheVariants.{One, Two}

abbrev pub lit : Literal → of.Literal
lit (Plus k) = of.plus k
lit (Minus k) = of.minus k

abbrev pub literal_by : Sign → ℕ → Literal
literal_by sign.Zero k = Plus k
literal_by sign.Plus k = Plus k
literal_by sign.Minus k = Minus k

abbrev pub terms_by : Sign → Literal → ℕ → Terms
terms_by sign.Zero s v = One s
terms_by sign.Plus s v = Two s (Minus v)
terms_by sign.Minus s v = Two s (Plus v)

abbrev pub terms_of : Side → Terms
terms_of s = terms_by s.b (literal_by s.a s.u) s.v

abbrev pub Opposite : Terms → Terms → Type 0
Opposite (One s) (One r) = lit r ≡ mirror (lit s)
Opposite (One s) (Two q r) = ⊥
Opposite (Two s t) (One r) = ⊥
Opposite (Two s t) (Two q r) = (q ≡ t) × (r ≡ s)

abbrev pub value_by : Point → Terms → ℤ
value_by p (One s) = at p (lit s)
value_by p (Two s t) = at p (lit s) -ℤ at p (lit t)

abbrev pub Within : ℕ → Terms → Type 0
Within n (One s) = index (lit s) < n
Within n (Two s t) = (index (lit s) < n) × (index (lit t) < n) × (index (lit s) ≢ index (lit t))

-- s − t, as a side below
abbrev pub differ : of.Literal → of.Literal → Side
differ s t = record { a = sign.Plus; b = sign.Minus; u = code s; v = code t }

abbrev pub row_of : of.Literal → of.Literal → ℤ → Row
row_of s t c = record { side = differ s t; c = c }

abbrev pub images : Terms → ℤ → List Row
images (One s) c = row_of (lit s) (mirror (lit s)) (c +ℤ c) ∷ []
images (Two s t) c = row_of (lit s) (lit t) c ∷ row_of (mirror (lit t)) (mirror (lit s)) c ∷ []

abbrev pub sent : List Row → List Row
sent [] = []
sent (r ∷ rows) = images (terms_of r.side) r.c ++ sent rows

abbrev pub greatest_by : Differences → Terms → Option ℤ
greatest_by D (One s) = alone D (lit s)
greatest_by D (Two s t) = tight D (lit s) (lit t)

-- half of the sizes below, rounded down, and all left sides
abbrev pub half_sizes : Sizes → Sizes
half_sizes z = record { unknowns = z.unknowns / 2; space = z.space / 2; depth = z.depth; reach = z.reach / 2; breadth = Sums }
