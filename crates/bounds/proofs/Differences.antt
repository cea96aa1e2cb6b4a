-- Difference tables are strongly closed tables, so they have points and their bounds are attained. Assumes nothing.
use Rattle.std.proofs.Common.{◌≡◌, ℕ, ◌<◌, ℤ, pos, ◌+ℤ◌, ◌-ℤ◌, ◌≤ℤ◌, Some, refl, arith}
use Rattle.std.proofs.lemmas.Int.{ints}
use Rattle.bounds.specs.Literals.{Point, Literal, plus, minus, index, mirror}
use Rattle.bounds.specs.Tables.{Differences, AtMost, Allows, Strong, Metric, Meets, differences}
use Rattle.bounds.proofs.Bounds.{at_most_more}
use Rattle.bounds.proofs.Fill.{filled}
use Rattle.bounds.proofs.Attain.{attained}

module _ (n : ℕ) (D : Differences) (m : Metric n D) where
  zeros : (s : Literal) → index s < n → differences D s s ≡ Some (pos 0)
  zeros (plus i) = m.zero i
  zeros (minus i) = m.zero i

  turns : (s t : Literal) → index s < n → index t < n → differences D s t ≡ differences D (mirror t) (mirror s)
  turns (plus i) (plus j) s_in t_in = refl
  turns (plus i) (minus j) s_in t_in = refl
  turns (minus i) (plus j) s_in t_in = refl
  turns (minus i) (minus j) s_in t_in = refl

  adds : (s r t : Literal) (a b : ℤ) → index s < n → index r < n → index t < n → AtMost (differences D s r) a → AtMost (differences D r t) b → AtMost (differences D s t) (a +ℤ b)
  adds (plus i) (plus k) (plus j) a b s_in r_in t_in h l = m.triangle i k j a b s_in r_in t_in h l
  adds (plus i) (plus k) (minus j) a b s_in r_in t_in h l = l
  adds (plus i) (minus k) t a b s_in r_in t_in h l = absurd h
  adds (minus i) (plus k) t a b s_in r_in t_in h l = absurd h
  adds (minus i) (minus k) (plus j) a b s_in r_in t_in h l = l
  adds (minus i) (minus k) (minus j) a b s_in r_in t_in h l = at_most_more (D j i) (b +ℤ a) (a +ℤ b) (m.triangle j k i b a t_in r_in s_in l h) (omega (arith, ints))

  unbounded : {X : Type 0} (s : Literal) (d : ℤ) → AtMost (differences D s (mirror s)) d → X
  unbounded (plus i) d h = absurd h
  unbounded (minus i) d h = absurd h

  pub differences_strong : Strong n (differences D)
  differences_strong = record {
    closed = record { zero = zeros; coherent = turns; triangle = adds; even = λ s d s_in h. unbounded s d h };
    halves = λ s t a b s_in t_in h l. unbounded s (a +ℤ a) h;
  }

  pub difference_filled : (p : Point) × Meets n p D
  difference_filled = let all = filled n (differences D) differences_strong.closed in (all.0, λ u v. all.1 (plus u) (plus v))

  pub difference_attained : (i j : ℕ) → i < n → j < n → (c : ℤ) → Allows (D i j) c → (p : Point) × Meets n p D × (c ≤ℤ (p i -ℤ p j))
  difference_attained i j i_in j_in c ok =
      let all = attained n (differences D) differences_strong (plus i) (plus j) i_in j_in c ok in
      (all.0, (λ u v. all.1 (plus u) (plus v)), all.2)
