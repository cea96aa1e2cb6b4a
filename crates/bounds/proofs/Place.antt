-- A value between the bounds of a further unknown keeps the table. Assumes nothing.
use Rattle.std.proofs.Common.{◌≡◌, ℕ, ◌<◌, ◌⊎◌, List, ◌∷◌, ℤ, ◌+ℤ◌, ◌-ℤ◌, neg_ℤ, ◌≤ℤ◌, Some, None, Option, sym, ap, ◌∙◌, subst, inl, inr, ⊎_elim, arith}
use lib.Signed.{≤ℤ_refl}
use Rattle.std.proofs.lemmas.Int.{ints}
use Rattle.std.proofs.lemmas.Bool.{cases_eq}
use Rattle.bounds.specs.Literals.{Point, Literal, index, mirror, at}
use Rattle.bounds.specs.Tables.{Table, AtMost, Allows, half, Closed}
use Rattle.bounds.specs.Extension.{Among, Within, KeepsOver, Agree, put}
use Rattle.bounds.proofs.Signs.{mirrored, at_mirror, same_index, half_is, put_same, put_other, at_same, same_at}
use Rattle.bounds.proofs.Lows.{Lower, even_back}

-- x is at least each lower bound of t
abbrev pub Enough : Table → Point → List ℕ → Literal → ℤ → Type 0
Enough V p ks t x = (y : ℤ) → Lower V p ks t y → y ≤ℤ x

beside : (o : Option ℤ) (z x : ℤ) → ((y : ℤ) → AtMost o (z -ℤ y) → y ≤ℤ x) → Allows o (z -ℤ x)
beside None z x h = tt
beside (Some d) z x h = omega (arith, ints, h (z -ℤ d) (omega (arith, ints)))

alone : (o : Option ℤ) (x : ℤ) → ((d : ℤ) → AtMost o d → AtMost o (half d +ℤ half d)) → ((y : ℤ) → AtMost o (neg_ℤ (y +ℤ y)) → y ≤ℤ x) → Allows o (neg_ℤ x -ℤ x)
alone None x even h = tt
alone (Some d) x even h = let twice = even d (≤ℤ_refl d) in omega (arith, ints, half_is d, h (neg_ℤ (half d)) (omega (arith, ints)))

module _ (n : ℕ) (V : Table) (cl : Closed n V) (p : Point) (ks : List ℕ) (ks_in : Within n ks) (kept : KeepsOver ks p V) (t : Literal) (t_in : index t < n) (x : ℤ) (low : Enough V p ks t x) (high : Enough V p ks (mirror t) (neg_ℤ x)) where
  -- a value that is there already is a lower bound of its own
  known : (u : Literal) → Among ks (index u) → Lower V p ks u (at p u)
  known u m = inr (u, m, subst (λ o. AtMost o (at p u -ℤ at p u)) (sym (cl.zero u (ks_in _ m))) (omega (arith, ints)))

  agrees : Agree ks p (put p t x)
  agrees j m = by (cases_eq j (index t))
    where
      by : (j ≡ index t) ⊎ (j ≡ index t → ⊥) → put p t x j ≡ p j
      by (inl e) =
          let m' : Among ks (index t) = subst (Among ks) e m in
          let is : x ≡ at p t = omega (arith, ints, low (at p t) (known t m'), high (at p (mirror t)) (known (mirror t) (mirrored (Among ks) t m')), at_mirror p t) in
          subst (λ i. put p t x i ≡ p i) (sym e) (same_at p (put p t x) t (put_same p t x ∙ is))
      by (inr ne) = put_other p t x j ne

  enough : (u : Literal) → index u ≡ index t → Enough V p ks u (at (put p t x) u)
  enough u e y l =
      ⊎_elim
      (λ is. subst (λ z. y ≤ℤ z) (sym (ap (at (put p t x)) is ∙ put_same p t x)) (low y (subst (λ s. Lower V p ks s y) is l)))
      (λ is. subst (λ z. y ≤ℤ z) (sym (ap (at (put p t x)) is ∙ at_mirror (put p t x) t ∙ ap neg_ℤ (put_same p t x))) (high y (subst (λ s. Lower V p ks s y) is l)))
      (same_index u t e)

  same : (s : Literal) → Among ks (index s) → at (put p t x) s ≡ at p s
  same s m = at_same p (put p t x) s (agrees (index s) m)

  to_new : (s u : Literal) → Among ks (index s) → index u ≡ index t → Allows (V s u) (at (put p t x) s -ℤ at (put p t x) u)
  to_new s u m e = rw (same s m) (beside (V s u) (at p s) (at (put p t x) u) (λ y l. enough u e y (inr (s, m, l))))

  from_new : (s u : Literal) → index s ≡ index t → Among ks (index u) → Allows (V s u) (at (put p t x) s -ℤ at (put p t x) u)
  from_new s u d m =
      let s_in : index s < n = subst (λ k. k < n) (sym d) t_in in
      let turned = to_new (mirror u) (mirror s) (mirrored (Among ks) u m) (mirrored (λ k. k ≡ index t) s d) in
      let is : at (put p t x) (mirror u) -ℤ at (put p t x) (mirror s) ≡ at (put p t x) s -ℤ at (put p t x) u = omega (arith, ints, at_mirror (put p t x) u, at_mirror (put p t x) s) in
      rw (cl.coherent s u s_in (ks_in _ m)) (subst (Allows (V (mirror u) (mirror s))) is turned)

  at_new : (s u : Literal) → index s ≡ index t → index u ≡ index t → Allows (V s u) (at (put p t x) s -ℤ at (put p t x) u)
  at_new s u d e =
      let u_in : index u < n = subst (λ k. k < n) (sym e) t_in in
      ⊎_elim
      (λ is. rw is (rw (cl.zero u u_in) (omega (arith, ints))))
      (λ is. rw is (rw (at_mirror (put p t x) u) (alone (V (mirror u) u) (at (put p t x) u) (even_back cl u u_in) (λ y l. enough u e y (inl l)))))
      (same_index s u (d ∙ sym e))

  keeps : KeepsOver (index t ∷ ks) (put p t x) V
  keeps s u (inl d) (inl e) = at_new s u d e
  keeps s u (inl d) (inr m) = from_new s u d m
  keeps s u (inr l) (inl e) = to_new s u l e
  keeps s u (inr l) (inr m) = rw (same s l, same u m) (kept s u l m)

  -- t can be x where x is at least its lower bounds and −x at least those of its mirror; what is given already stays
  pub placed : KeepsOver (index t ∷ ks) (put p t x) V × Agree ks p (put p t x)
  placed = (keeps, agrees)
