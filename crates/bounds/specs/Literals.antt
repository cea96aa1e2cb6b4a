-- Unknowns are numbered from 0, a point gives each of them a whole number, and a literal is an unknown or its opposite. Assumes nothing.
use Rattle.std.specs.Prelude.{ℕ, ℤ, neg_ℤ}

-- gives each unknown a whole number
abbrev pub Point : Type 0
Point = ℕ → ℤ

-- the unknown k, and its opposite
pub data Literal : Type 0 where
  plus : ℕ → Literal
  minus : ℕ → Literal

-- which unknown a literal is about
abbrev pub index : Literal → ℕ
index (plus k) = k
index (minus k) = k

-- the opposite literal
abbrev pub mirror : Literal → Literal
mirror (plus k) = minus k
mirror (minus k) = plus k

-- what a literal is at a point
abbrev pub at : Point → Literal → ℤ
at p (plus k) = p k
at p (minus k) = neg_ℤ (p k)
