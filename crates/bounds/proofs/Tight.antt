-- The tight table of a mirrored difference table is strongly closed, and what a point that keeps it is. Assumes nothing.
-- A sum of two bounds is a sum of two differences, of a difference and two halves, or of four halves.
use Rattle.std.proofs.Common.{◌≡◌, ℕ, ◌<◌, ◌⊎◌, ℤ, pos, ◌+ℤ◌, ◌-ℤ◌, ◌≤ℤ◌, Some, None, Option, sym, refl, ap, subst, inl, inr, ⊎_elim, arith}
use lib.Signed.{≤ℤ_refl}
use Rattle.std.proofs.lemmas.Int.{ints}
use Rattle.bounds.specs.Literals.{Point, Literal, index, mirror, at}
use Rattle.bounds.specs.Tables.{Differences, AtMost, Allows, half, sum_of, Strong, Keeps}
use Rattle.bounds.specs.Doubling.{code, alone, by_halves, tight, Mirrored}
use Rattle.bounds.proofs.Attain.{attained}
use Rattle.bounds.proofs.Bounds.{at_most_more, between, least_left, least_right, least_cases, least_allows, sum_at_most, sum_parts, sum_allows, zero_stays}
use Rattle.bounds.proofs.Doubling.{half_at_most, half_from, half_allows, half_allows_twice, half_sum}
use Rattle.bounds.proofs.Signs.{mirror_mirror, mirrored, at_mirror, half_is}

-- the bound x on s − t is a sum of halves
record Halves (D : Differences) (s t : Literal) (x : ℤ) : Type 0 where
  first : ℤ
  second : ℤ
  from_first : AtMost (alone D s) first
  from_second : AtMost (alone D (mirror t)) second
  in_all : (first +ℤ second) ≤ℤ x

module _ (D : Differences) (s t : Literal) (x : ℤ) where
  direct : AtMost (D (code s) (code t)) x → AtMost (tight D s t) x
  direct = least_left (D (code s) (code t)) (by_halves D s t) x

  halved : Halves D s t x → AtMost (tight D s t) x
  halved h = least_right (D (code s) (code t)) (by_halves D s t) x (at_most_more _ _ x (sum_at_most (alone D s) (alone D (mirror t)) h.first h.second h.from_first h.from_second) h.in_all)

  tight_cases : AtMost (tight D s t) x → AtMost (D (code s) (code t)) x ⊎ Halves D s t x
  tight_cases h = ⊎_elim inl (λ k. let p = sum_parts (alone D s) (alone D (mirror t)) x k in inr (record { first = p.0; second = p.1; from_first = p.2; from_second = p.3; in_all = p.4 })) (least_cases (D (code s) (code t)) (by_halves D s t) x h)

twice : (D : Differences) (s : Literal) (a : ℤ) → AtMost (alone D s) a → AtMost (tight D s (mirror s)) (a +ℤ a)
twice D s a h = halved D s (mirror s) (a +ℤ a) (record { first = a; second = a; from_first = h; from_second = rw (mirror_mirror s) h; in_all = ≤ℤ_refl (a +ℤ a) })

sum_turned : (a b : Option ℤ) → sum_of a b ≡ sum_of b a
sum_turned None None = refl
sum_turned None (Some y) = refl
sum_turned (Some x) None = refl
sum_turned (Some x) (Some y) = ap Some (omega (arith, ints))

module _ (n : ℕ) (D : Differences) (m : Mirrored n D) where
  zeros : (s : Literal) → index s < n → tight D s s ≡ Some (pos 0)
  zeros s s_in = rw (m.zero s s_in) (zero_stays _ (λ x h. let p = sum_parts (alone D s) (alone D (mirror s)) x h in omega (arith, ints, m.room s p.0 p.1 s_in p.2 p.3, p.4)))

  turns : (s t : Literal) → index s < n → index t < n → tight D s t ≡ tight D (mirror t) (mirror s)
  turns s t s_in t_in = rw (m.coherent s t s_in t_in, mirror_mirror s, sum_turned (alone D s) (alone D (mirror t)))

  -- D(s, −s) is at most D(s, r) + D(r, −r) + D(−r, −s), so a bound on r alone gives one on s alone
  carried : (s r : Literal) (a x : ℤ) → index s < n → index r < n → AtMost (D (code s) (code r)) a → AtMost (alone D r) x → AtMost (alone D s) (a +ℤ x)
  carried s r a x s_in r_in h k =
      let ms_in = mirrored (λ i. i < n) s s_in in
      let mr_in = mirrored (λ i. i < n) r r_in in
      let there = m.triangle s r (mirror r) a _ s_in r_in mr_in h (half_from (D (code r) (code (mirror r))) x k) in
      let back = m.triangle s (mirror r) (mirror s) _ a s_in mr_in ms_in there (rw (m.coherent s r s_in r_in) at h) in
      half_at_most (D (code s) (code (mirror s))) _ (a +ℤ x) back (omega (arith, ints))

  joins : (s r t : Literal) (a b : ℤ) → index s < n → index r < n → index t < n → AtMost (D (code s) (code r)) a ⊎ Halves D s r a → AtMost (D (code r) (code t)) b ⊎ Halves D r t b → AtMost (tight D s t) (a +ℤ b)
  joins s r t a b s_in r_in t_in (inl h) (inl k) = direct D s t (a +ℤ b) (m.triangle s r t a b s_in r_in t_in h k)
  joins s r t a b s_in r_in t_in (inl h) (inr k) =
      halved D s t (a +ℤ b) (record { first = a +ℤ k.first; second = k.second; from_first = carried s r a k.first s_in r_in h k.from_first; from_second = k.from_second; in_all = omega (arith, ints) })
  joins s r t a b s_in r_in t_in (inr h) (inl k) =
      let mr_in = mirrored (λ i. i < n) r r_in in
      let mt_in = mirrored (λ i. i < n) t t_in in
      let turned = rw (m.coherent r t r_in t_in) at k in
      halved D s t (a +ℤ b) (record { first = h.first; second = b +ℤ h.second; from_first = h.from_first; from_second = carried (mirror t) (mirror r) b h.second mt_in mr_in turned h.from_second; in_all = omega (arith, ints) })
  joins s r t a b s_in r_in t_in (inr h) (inr k) =
      let over = m.room r k.first h.second r_in k.from_first h.from_second in
      halved D s t (a +ℤ b) (record { first = h.first; second = k.second; from_first = h.from_first; from_second = k.from_second; in_all = omega (arith, ints) })

  -- what the tight table has of twice a literal is the half of what D has
  pub tight_alone : (s : Literal) (d a : ℤ) → AtMost (tight D s (mirror s)) d → d ≤ℤ ((a +ℤ a) +ℤ pos 1) → AtMost (alone D s) a
  tight_alone s d a h l =
      ⊎_elim
      (λ k. half_at_most (D (code s) (code (mirror s))) d a k l)
      (λ k. half_sum (alone D s) k.first k.second a k.from_first (subst (λ r. AtMost (alone D r) k.second) (mirror_mirror s) k.from_second) (omega (arith, ints, k.in_all)))
      (tight_cases D s (mirror s) d h)

  pub tight_strong : Strong n (tight D)
  tight_strong = record {
    closed = record {
      zero = zeros;
      coherent = turns;
      triangle = λ s r t a b s_in r_in t_in h k. joins s r t a b s_in r_in t_in (tight_cases D s r a h) (tight_cases D r t b k);
      even = λ s d s_in h. twice D s (half d) (tight_alone s d (half d) h (half_is d).1);
    };
    halves = λ s t a b s_in t_in h k.
        let back = subst (λ r. AtMost (tight D (mirror t) r) (b +ℤ b)) (sym (mirror_mirror t)) k in
        halved D s t (a +ℤ b) (record { first = a; second = b; from_first = tight_alone s (a +ℤ a) a h (omega (arith, ints)); from_second = tight_alone (mirror t) (b +ℤ b) b back (omega (arith, ints)); in_all = ≤ℤ_refl (a +ℤ b) });
  }

-- a point that keeps the bounds of D, spread over the literals, keeps the tight table
pub tight_kept : (n : ℕ) (D : Differences) (p : Point) → ((s t : Literal) → index s < n → index t < n → Allows (D (code s) (code t)) (at p s -ℤ at p t)) → Keeps n p (tight D)
tight_kept n D p h s t s_in t_in =
    let own : (r : Literal) → index r < n → Allows (alone D r) (at p r) = λ r r_in.
    let both : at p r -ℤ at p (mirror r) ≡ at p r +ℤ at p r = omega (arith, ints, at_mirror p r) in
    half_allows (D (code r) (code (mirror r))) (at p r) (subst (Allows (D (code r) (code (mirror r)))) both (h r (mirror r) r_in (mirrored (λ i. i < n) r r_in))) in
    let sum = sum_allows (alone D s) (alone D (mirror t)) (at p s) (at p (mirror t)) (own s s_in) (own (mirror t) (mirrored (λ i. i < n) t t_in)) in
    let whole : at p s +ℤ at p (mirror t) ≡ at p s -ℤ at p t = omega (arith, ints, at_mirror p t) in
    least_allows (D (code s) (code t)) (by_halves D s t) (at p s -ℤ at p t) (h s t s_in t_in) (subst (Allows (by_halves D s t)) whole sum)

allows_by : (o : Option ℤ) (x : ℤ) → ((a : ℤ) → AtMost o a → x ≤ℤ a) → Allows o x
allows_by None x h = tt
allows_by (Some d) x h = h d (≤ℤ_refl d)

-- a point that keeps the tight table keeps the halves
pub tight_allows : (n : ℕ) (D : Differences) (p : Point) → Keeps n p (tight D) → (s : Literal) → index s < n → Allows (alone D s) (at p s)
tight_allows n D p kept s s_in =
    allows_by (alone D s) (at p s)
    (λ a h.
    let both = between (tight D s (mirror s)) (a +ℤ a) _ (twice D s a h) (kept s (mirror s) s_in (mirrored (λ k. k < n) s s_in)) in
    omega (arith, ints, both, at_mirror p s))

-- a literal by itself comes up to every number that its half allows
pub tight_attained : (n : ℕ) (D : Differences) → Mirrored n D → (s : Literal) → index s < n → (c : ℤ) → Allows (alone D s) c → (p : Point) × Keeps n p (tight D) × (c ≤ℤ at p s)
tight_attained n D m s s_in c ok =
    let sum = sum_allows (alone D s) (alone D (mirror (mirror s))) c c ok (rw (mirror_mirror s) ok) in
    let both = least_allows (D (code s) (code (mirror s))) (by_halves D s (mirror s)) (c +ℤ c) (half_allows_twice (D (code s) (code (mirror s))) c ok) sum in
    let f = attained n (tight D) (tight_strong n D m) s (mirror s) s_in (mirrored (λ k. k < n) s s_in) (c +ℤ c) both in
    (f.0, f.1, omega (arith, ints, f.2, at_mirror f.0 s))
