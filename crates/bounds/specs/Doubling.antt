-- Tables over twice as many unknowns: 2k stands for the unknown k, and 2k + 1 for its opposite. Assumes nothing.
-- code: the unknown that stands for a literal.            spread: a point over the literals, as one over such unknowns.
-- half_of: half of a bound.                               tight: the lesser of a bound and of a sum of halves.
-- Mirrored: a difference table that says the same of mirrored literals, and whose halves leave room for a point.
use Rattle.std.specs.Prelude.{◌≡◌, ℕ, ◌+◌, ◌*◌, ◌/◌, ◌%◌, ◌<◌, cond, ℤ, pos, ◌+ℤ◌, ◌≤ℤ◌, Some, None, Option, ◌==◌}
use Rattle.bounds.specs.Literals.{Point, Literal, plus, minus, index, mirror, at}
use Rattle.bounds.specs.Tables.{Table, Differences, AtMost, half, least_of, sum_of}

abbrev pub code : Literal → ℕ
code (plus k) = 2 * k
code (minus k) = 2 * k + 1

-- the literal that an unknown stands for
abbrev pub literal : ℕ → Literal
literal j = cond (j % 2 == 0) (plus (j / 2)) (minus (j / 2))

abbrev pub spread : Point → Point
spread p j = at p (literal j)

abbrev pub half_of : Option ℤ → Option ℤ
half_of None = None
half_of (Some d) = Some (half d)

-- half of the bound on twice the literal
abbrev pub alone : Differences → Literal → Option ℤ
alone D s = half_of (D (code s) (code (mirror s)))

-- the bound on s − t from those on s and on −t alone
abbrev pub by_halves : Differences → Literal → Literal → Option ℤ
by_halves D s t = sum_of (alone D s) (alone D (mirror t))

abbrev pub tight : Differences → Table
tight D s t = least_of (D (code s) (code t)) (by_halves D s t)

pub record Mirrored (n : ℕ) (D : Differences) : Type 0 where
  pub zero : (s : Literal) → index s < n → D (code s) (code s) ≡ Some (pos 0)
  pub coherent : (s t : Literal) → index s < n → index t < n → D (code s) (code t) ≡ D (code (mirror t)) (code (mirror s))
  pub triangle : (s r t : Literal) (a b : ℤ) → index s < n → index r < n → index t < n → AtMost (D (code s) (code r)) a → AtMost (D (code r) (code t)) b → AtMost (D (code s) (code t)) (a +ℤ b)
  pub room : (s : Literal) (a b : ℤ) → index s < n → AtMost (alone D s) a → AtMost (alone D (mirror s)) b → pos 0 ≤ℤ (a +ℤ b)
