-- The bounds of a further unknown leave room for a value where the table is closed. Assumes nothing.
use Rattle.std.proofs.Common.{ℕ, ◌<◌, ◌⊎◌, List, ◌∷◌, ℤ, pos, ◌+ℤ◌, ◌-ℤ◌, neg_ℤ, ◌≤ℤ◌, refl, subst, inl, inr, arith}
use Rattle.std.proofs.lemmas.Int.{ints}
use Rattle.bounds.specs.Literals.{Point, Literal, index, mirror, at}
use Rattle.bounds.specs.Tables.{Table, AtMost, Closed}
use Rattle.bounds.specs.Extension.{Among, Within, KeepsOver, Agree}
use Rattle.bounds.proofs.Bounds.{at_most_more, between}
use Rattle.bounds.proofs.Signs.{mirror_mirror, mirrored, at_mirror, at_same}
use Rattle.bounds.proofs.Lows.{Lower}

-- V has t at most y where the unknowns ks have their values by p
abbrev Upper : Table → Point → List ℕ → Literal → ℤ → Type 0
Upper V p ks t y = AtMost (V t (mirror t)) (y +ℤ y) ⊎ ((r : Literal) × Among ks (index r) × AtMost (V t r) (y -ℤ at p r))

module _ (n : ℕ) (V : Table) (cl : Closed n V) where
  turned : (s t : Literal) (a : ℤ) → index s < n → index t < n → AtMost (V s t) a → AtMost (V (mirror t) (mirror s)) a
  turned s t a s_in t_in h = subst (λ o. AtMost o a) (cl.coherent s t s_in t_in) h

  -- three bounds in a row
  along : (a b c d : Literal) (x y z : ℤ) → index a < n → index b < n → index c < n → index d < n → AtMost (V a b) x → AtMost (V b c) y → AtMost (V c d) z → AtMost (V a d) (x +ℤ (y +ℤ z))
  along a b c d x y z a_in b_in c_in d_in h k l = cl.triangle a b d x (y +ℤ z) a_in b_in d_in h (cl.triangle b c d y z b_in c_in d_in k l)

  module _ (p : Point) (ks : List ℕ) (ks_in : Within n ks) (kept : KeepsOver ks p V) where
    upper_of : (t : Literal) → index t < n → (y : ℤ) → Lower V p ks (mirror t) y → Upper V p ks t (neg_ℤ y)
    upper_of t t_in y (inl h) = inl (at_most_more _ _ _ (subst (λ s. AtMost (V s (mirror t)) (neg_ℤ (y +ℤ y))) (mirror_mirror t) h) (omega (arith, ints)))
    upper_of t t_in y (inr b) =
        let (r, m, h) = b in
        let up = turned r (mirror t) (at p r -ℤ y) (ks_in _ m) (mirrored (λ i. i < n) t t_in) h in
        inr (mirror r, mirrored (Among ks) r m, at_most_more _ _ _ (subst (λ s. AtMost (V s (mirror r)) (at p r -ℤ y)) (mirror_mirror t) up) (omega (arith, ints, at_mirror p r)))

    -- a lower bound is at most an upper bound
    room : (t : Literal) → index t < n → (x y : ℤ) → Lower V p ks t x → Upper V p ks t y → x ≤ℤ y
    room t t_in x y (inl h) (inl k) =
        let none = subst (λ o. AtMost o ((y +ℤ y) +ℤ neg_ℤ (x +ℤ x))) (cl.zero t t_in) (cl.triangle t (mirror t) t _ _ t_in (mirrored (λ i. i < n) t t_in) t_in k h) in
        omega (arith, ints)
    room t t_in x y (inl h) (inr b) =
        let (r, m, k) = b in
        let r_in = ks_in (index r) m in
        let m' = mirrored (Among ks) r m in
        let round = along (mirror r) (mirror t) t r _ _ _ (ks_in _ m') (mirrored (λ i. i < n) t t_in) t_in r_in (turned t r _ t_in r_in k) h k in
        omega (arith, ints, at_mirror p r, between (V (mirror r) r) _ _ round (kept (mirror r) r m' m))
    room t t_in x y (inr a) (inl k) =
        let (r, m, h) = a in
        let r_in = ks_in (index r) m in
        let m' = mirrored (Among ks) r m in
        let round = along r t (mirror t) (mirror r) _ _ _ r_in t_in (mirrored (λ i. i < n) t t_in) (ks_in _ m') h k (turned r t _ r_in t_in h) in
        omega (arith, ints, at_mirror p r, between (V r (mirror r)) _ _ round (kept r (mirror r) m m'))
    room t t_in x y (inr a) (inr b) =
        let (r, m, h) = a in
        let (s, l, k) = b in
        omega (arith, ints, between (V r s) _ _ (cl.triangle r t s _ _ (ks_in _ m) t_in (ks_in _ l) h k) (kept r s m l))

    -- a lower bound of a literal and one of its mirror add up to at most 0
    pub opposed : (t : Literal) → index t < n → (x y : ℤ) → Lower V p ks t x → Lower V p ks (mirror t) y → (x +ℤ y) ≤ℤ pos 0
    opposed t t_in x y low high = let l = room t t_in x (neg_ℤ y) low (upper_of t t_in y high) in omega (arith, ints)

-- a point that keeps V over one more unknown and agrees with p on ks has each lower bound met
pub low_holds : (V : Table) (p q : Point) (ks : List ℕ) (t : Literal) → KeepsOver (index t ∷ ks) q V → Agree ks p q → (y : ℤ) → Lower V p ks t y → y ≤ℤ at q t
low_holds V p q ks t kept agree y (inl h) =
    omega (arith, ints, at_mirror q t, between (V (mirror t) t) _ _ h (kept (mirror t) t (mirrored (Among (index t ∷ ks)) t (inl refl)) (inl refl)))
low_holds V p q ks t kept agree y (inr b) =
    let (r, m, h) = b in
    omega (arith, ints, at_same p q r (agree (index r) m), between (V r t) _ _ h (kept r t (inr m) (inl refl)))
