-- Each bound of a strongly closed table is attained, and where there is no bound every number is: t is put low enough, then s as high as it may be, then the rest is filled in. Assumes nothing.
use Rattle.std.proofs.Common.{◌≡◌, ℕ, ◌<◌, ◌⊎◌, List, [], ◌∷◌, ℤ, pos, ◌+ℤ◌, ◌-ℤ◌, neg_ℤ, ◌≤ℤ◌, Some, None, Option, sym, refl, ◌∙◌, subst, inl, inr, ⊎_elim, arith}
use lib.Signed.{≤ℤ_refl}
use Rattle.std.specs.Int.{int_min, int_max}
use Rattle.std.proofs.lemmas.Int.{ints, clamps}
use Rattle.bounds.specs.Literals.{Point, Literal, index, mirror, at}
use Rattle.bounds.specs.Tables.{Table, AtMost, Allows, half, Strong, Keeps}
use Rattle.bounds.specs.Extension.{Within, KeepsOver, put, low}
use Rattle.bounds.proofs.Bounds.{at_most_more, between}
use Rattle.bounds.proofs.Signs.{mirror_mirror, mirrored, at_mirror, same_index, half_is, put_same, at_same}
use Rattle.bounds.proofs.Lows.{Lower, Top, low_is}
use Rattle.bounds.proofs.Extend.{opposed}
use Rattle.bounds.proofs.Place.{Enough, placed}
use Rattle.bounds.proofs.Fill.{filled_from}

-- P holds of every number that is low enough
abbrev Lowly : (ℤ → Type 0) → Type 0
Lowly P = (limit : ℤ) × ((y : ℤ) → y ≤ℤ limit → P y)

lowly_half : (o : Option ℤ) (c : ℤ) → Lowly (λ y. (d : ℤ) → AtMost o (d +ℤ d) → (c +ℤ y) ≤ℤ d)
lowly_half None c = (pos 0, λ y l d h. absurd h)
lowly_half (Some a) c = (half a -ℤ c, λ y l d h. omega (arith, ints, half_is a))

lowly_twice : (o : Option ℤ) (c : ℤ) → Lowly (λ y. (e : ℤ) → AtMost o e → ((c +ℤ y) +ℤ y) ≤ℤ e)
lowly_twice None c = (pos 0, λ y l e h. absurd h)
lowly_twice (Some a) c = (half (a -ℤ c), λ y l e h. omega (arith, ints, half_is (a -ℤ c)))

lowly_top : (Q : ℤ → Type 0) (o : Option ℤ) → Top Q o → Lowly (λ y. (z : ℤ) → Q z → z ≤ℤ neg_ℤ y)
lowly_top Q None h = (pos 0, λ y l z k. absurd (h z k))
lowly_top Q (Some u) h = (neg_ℤ u, λ y l z k. omega (arith, ints, h.1 z k))

-- a number that is at least a and each number with P
high : (P : ℤ → Type 0) (o : Option ℤ) (a : ℤ) → Top P o → (x : ℤ) × ((z : ℤ) → P z → z ≤ℤ x) × (a ≤ℤ x)
high P None a h = (a, (λ z k. absurd (h z k)), ≤ℤ_refl a)
high P (Some u) a h = (int_max u a, (λ z k. omega (arith, ints, clamps, h.1 z k)), omega (arith, ints, clamps))

module _ (n : ℕ) (V : Table) (st : Strong n V) (s t : Literal) (s_in : index s < n) (t_in : index t < n) (c : ℤ) (ok : Allows (V s t) c) where
  abbrev origin : Point
  origin k = pos 0

  -- the value y of t leaves room for s above it by c
  record Start (y : ℤ) : Type 0 where
    above : Enough V origin [] t y
    below : Enough V origin [] (mirror t) (neg_ℤ y)
    by_half : (d : ℤ) → AtMost (V s (mirror s)) (d +ℤ d) → (c +ℤ y) ≤ℤ d
    by_sum : (e : ℤ) → AtMost (V s (mirror t)) e → ((c +ℤ y) +ℤ y) ≤ℤ e

  abbrev m_in : index (mirror t) < n
  m_in = mirrored (λ k. k < n) t t_in

  -- with no unknown given, a lower bound of t comes from the table alone
  own : (y : ℤ) → Lower V origin [] t y → AtMost (V (mirror t) t) (neg_ℤ (y +ℤ y))
  own y = ⊎_elim (λ h. h) (λ r. absurd r.1)

  start : (o : Option ℤ) → Top (Lower V origin [] t) o → (y : ℤ) × Start y
  start (Some y) h =
      let mine = own y h.0 in (
        y,
        record {
          above = h.1;
          below = λ z l. omega (arith, ints, opposed n V st.closed origin [] (λ k. absurd) (λ a b. absurd) t t_in y z h.0 l);
          by_half = λ d k. omega (arith, ints, between (V s t) _ c (st.halves s t d (neg_ℤ y) s_in t_in k (at_most_more _ _ _ mine (omega (arith, ints)))) ok);
          by_sum = λ e k. omega (arith, ints, between (V s t) _ c (st.closed.triangle s (mirror t) t e _ s_in m_in t_in k mine) ok);
        },
      )
  start None h =
      let a = lowly_half (V s (mirror s)) c in
      let b = lowly_twice (V s (mirror t)) c in
      let d = lowly_top _ _ (low_is n V st.closed origin (mirror t) m_in []) in
      let y = int_min a.0 (int_min b.0 d.0) in (
        y,
        record {
          above = λ z l. absurd (h z l);
          below = d.1 y (omega (arith, ints, clamps));
          by_half = a.1 y (omega (arith, ints, clamps));
          by_sum = b.1 y (omega (arith, ints, clamps));
        },
      )

  module _ (y : ℤ) (h : Start y) where
    abbrev first : Point
    first = put origin t y

    abbrev ks : List ℕ
    ks = index t ∷ []

    within : Within n ks
    within k = ⊎_elim (λ e. subst (λ j. j < n) (sym e) t_in) absurd

    kept : KeepsOver ks first V
    kept = (placed n V st.closed origin [] (λ k. absurd) (λ a b. absurd) t t_in y h.above h.below).0

    -- every upper bound of s leaves room above t by c
    room : (u : ℤ) → Lower V first ks (mirror s) u → (c +ℤ y) ≤ℤ neg_ℤ u
    room u (inl l) = h.by_half (neg_ℤ u) (at_most_more (V s (mirror s)) _ _ (subst (λ w. AtMost (V w (mirror s)) (neg_ℤ (u +ℤ u))) (mirror_mirror s) l) (omega (arith, ints)))
    room u (inr a) = let (r, m, l) = a in beside r l (⊎_elim (same_index r t) absurd m)
      where
        beside : (r : Literal) → AtMost (V r (mirror s)) (at first r -ℤ u) → (r ≡ t) ⊎ (r ≡ mirror t) → (c +ℤ y) ≤ℤ neg_ℤ u
        beside r l (inl e) =
            let from : AtMost (V (mirror (mirror t)) (mirror s)) (at first t -ℤ u) = rw (mirror_mirror t) (subst (λ w. AtMost (V w (mirror s)) (at first w -ℤ u)) e l) in
            omega (arith, ints, put_same origin t y, h.by_sum (at first t -ℤ u) (rw (st.closed.coherent s (mirror t) s_in m_in) from))
        beside r l (inr e) =
            let from = subst (λ w. AtMost (V w (mirror s)) (at first w -ℤ u)) e l in
            omega (arith, ints, put_same origin t y, at_mirror first t, between (V s t) (at first (mirror t) -ℤ u) c (rw (st.closed.coherent s t s_in t_in) from) ok)

    -- the value x of s is between its bounds and above y by c
    record Second (x : ℤ) : Type 0 where
      above : Enough V first ks s x
      below : Enough V first ks (mirror s) (neg_ℤ x)
      far : (c +ℤ y) ≤ℤ x

    second : (o : Option ℤ) → Top (Lower V first ks (mirror s)) o → (x : ℤ) × Second x
    second (Some u) k = (
      neg_ℤ u,
      record {
        above = λ z l. omega (arith, ints, opposed n V st.closed first ks within kept s s_in z u l k.0);
        below = λ z l. omega (arith, ints, k.1 z l);
        far = room u k.0;
      },
    )
    second None k =
        let x = high _ _ (c +ℤ y) (low_is n V st.closed first s s_in ks) in
        (x.0, record { above = x.1; below = λ z l. absurd (k z l); far = x.2 })

    whole : (x : ℤ) → Second x → (p : Point) × Keeps n p V × (c ≤ℤ (at p s -ℤ at p t))
    whole x k =
        let both = placed n V st.closed first ks within kept s s_in x k.above k.below in
        let all = filled_from n V st.closed (put first s x) (index s ∷ ks) (λ j. ⊎_elim (λ e. subst (λ i. i < n) (sym e) s_in) (within j)) both.0 in
        let s_is : at all.0 s ≡ x = at_same (put first s x) all.0 s (all.2 (index s) (inl refl)) ∙ put_same first s x in
        let t_is : at all.0 t ≡ y = at_same (put first s x) all.0 t (all.2 (index t) (inr (inl refl))) ∙ at_same first (put first s x) t (both.1 (index t) (inl refl)) ∙ put_same origin t y in
        (all.0, all.1, omega (arith, ints, k.far))

    finished : (p : Point) × Keeps n p V × (c ≤ℤ (at p s -ℤ at p t))
    finished = let two = second (low V first (mirror s) ks) (low_is n V st.closed first (mirror s) (mirrored (λ k. k < n) s s_in) ks) in whole two.0 two.1

pub attained : (n : ℕ) (V : Table) → Strong n V → (s t : Literal) → index s < n → index t < n → (c : ℤ) → Allows (V s t) c → (p : Point) × Keeps n p V × (c ≤ℤ (at p s -ℤ at p t))
attained n V st s t s_in t_in c ok =
    let one = start n V st s t s_in t_in c ok (low V (λ k. pos 0) t []) (low_is n V st.closed (λ k. pos 0) t t_in []) in
    finished n V st s t s_in t_in c ok one.0 one.1
