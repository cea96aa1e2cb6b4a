-- A literal and its mirror, a point with one value changed, and half of a number. Assumes nothing.
use Rattle.std.proofs.Common.{◌≡◌, ℕ, eqb, ◌⊎◌, ℤ, pos, negsuc, ◌+ℤ◌, neg_ℤ, ◌≤ℤ◌, sym, refl, ap, ◌∙◌, inl, inr, arith}
use lib.IntN.{neg_ℤ-neg_ℤ}
use Rattle.std.proofs.lemmas.Int.{ints}
use Rattle.std.proofs.lemmas.Bool.{eq-eqb, ne_eqb, cond-true, cond-false}
use Rattle.bounds.specs.Literals.{Point, Literal, plus, minus, index, mirror, at}
use Rattle.bounds.specs.Tables.{half}
use Rattle.bounds.specs.Extension.{put}

pub mirror_mirror : (t : Literal) → mirror (mirror t) ≡ t
mirror_mirror (plus k) = refl
mirror_mirror (minus k) = refl

-- a literal and its mirror are about one unknown
pub mirrored : (P : ℕ → Type 0) (t : Literal) → P (index t) → P (index (mirror t))
mirrored P (plus k) h = h
mirrored P (minus k) h = h

pub at_mirror : (p : Point) (t : Literal) → at p (mirror t) ≡ neg_ℤ (at p t)
at_mirror p (plus k) = refl
at_mirror p (minus k) = sym (neg_ℤ-neg_ℤ (p k))

-- literals of one unknown are equal or mirrors
pub same_index : (s t : Literal) → index s ≡ index t → (s ≡ t) ⊎ (s ≡ mirror t)
same_index (plus i) (plus j) e = inl (ap plus e)
same_index (plus i) (minus j) e = inr (ap plus e)
same_index (minus i) (plus j) e = inr (ap minus e)
same_index (minus i) (minus j) e = inl (ap minus e)

-- twice the half is the number or one less
pub half_is : (d : ℤ) → ((half d +ℤ half d) ≤ℤ d) × (d ≤ℤ ((half d +ℤ half d) +ℤ pos 1))
half_is (pos n) = (omega (arith, ints), omega (arith, ints))
half_is (negsuc n) = (omega (arith, ints), omega (arith, ints))

pub put_same : (p : Point) (t : Literal) (x : ℤ) → at (put p t x) t ≡ x
put_same p (plus k) x = cond-true (eqb k k) x (p k) (eq-eqb k k refl)
put_same p (minus k) x = ap neg_ℤ (cond-true (eqb k k) (neg_ℤ x) (p k) (eq-eqb k k refl)) ∙ neg_ℤ-neg_ℤ x

pub put_other : (p : Point) (t : Literal) (x : ℤ) (j : ℕ) → (j ≡ index t → ⊥) → put p t x j ≡ p j
put_other p (plus k) x j ne = cond-false (eqb j k) x (p j) (ne_eqb j k ne)
put_other p (minus k) x j ne = cond-false (eqb j k) (neg_ℤ x) (p j) (ne_eqb j k ne)

-- points that have the same value at an unknown have the same value at its literals
pub at_same : (p q : Point) (t : Literal) → q (index t) ≡ p (index t) → at q t ≡ at p t
at_same p q (plus k) e = e
at_same p q (minus k) e = ap neg_ℤ e

pub same_at : (p q : Point) (t : Literal) → at q t ≡ at p t → q (index t) ≡ p (index t)
same_at p q (plus k) e = e
same_at p q (minus k) e = omega (arith, ints)
