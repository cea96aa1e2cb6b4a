-- What a lower bound of a literal is, and that `low` is the greatest of them. Assumes nothing.
use Rattle.std.proofs.Common.{◌≡◌, ℕ, ◌<◌, ◌⊎◌, List, [], ◌∷◌, ℤ, ◌+ℤ◌, ◌-ℤ◌, neg_ℤ, ◌≤ℤ◌, Some, None, Option, refl, subst, inl, inr, ⊎_elim, arith}
use lib.Signed.{lt_z, ≤ℤ_refl}
use Rattle.std.proofs.lemmas.Int.{ints, clamps}
use Rattle.std.proofs.lemmas.Bool.{cond_both}
use Rattle.bounds.specs.Literals.{Point, Literal, plus, minus, index, mirror, at}
use Rattle.bounds.specs.Tables.{Table, AtMost, half, Closed}
use Rattle.bounds.specs.Extension.{Among, greatest_of, low_beside, low_alone, low}
use Rattle.bounds.proofs.Signs.{half_is, same_index}

-- o is the greatest number with P, or there is none
abbrev pub Top : (ℤ → Type 0) → Option ℤ → Type 0
Top P None = (y : ℤ) → P y → ⊥
Top P (Some x) = P x × ((y : ℤ) → P y → y ≤ℤ x)

top_either : (P Q : ℤ → Type 0) (a b : Option ℤ) → Top P a → Top Q b → Top (λ y. P y ⊎ Q y) (greatest_of a b)
top_either P Q None None h k = λ y. ⊎_elim (h y) (k y)
top_either P Q None (Some z) h k = (inr k.0, λ y. ⊎_elim (λ l. absurd (h y l)) (k.1 y))
top_either P Q (Some x) None h k = (inl h.0, λ y. ⊎_elim (h.1 y) (λ l. absurd (k y l)))
top_either P Q (Some x) (Some z) h k = (
  cond_both (lt_z z x) x z (λ m. P m ⊎ Q m) (λ e. inl h.0) (λ e. inr k.0),
  λ y. ⊎_elim (λ l. omega (arith, ints, clamps, h.1 y l)) (λ l. omega (arith, ints, clamps, k.1 y l)),
)

top_same : (P Q : ℤ → Type 0) (o : Option ℤ) → ((y : ℤ) → P y → Q y) → ((y : ℤ) → Q y → P y) → Top P o → Top Q o
top_same P Q None f g h = λ y l. h y (g y l)
top_same P Q (Some x) f g h = (f x h.0, λ y l. h.1 y (g y l))

-- V has t at least x where the unknowns ks have their values by p
abbrev pub Lower : Table → Point → List ℕ → Literal → ℤ → Type 0
Lower V p ks t x = AtMost (V (mirror t) t) (neg_ℤ (x +ℤ x)) ⊎ ((r : Literal) × Among ks (index r) × AtMost (V r t) (at p r -ℤ x))

top_alone : (o : Option ℤ) → ((d : ℤ) → AtMost o d → AtMost o (half d +ℤ half d)) → Top (λ x. AtMost o (neg_ℤ (x +ℤ x))) (low_alone o)
top_alone None even = λ y l. l
top_alone (Some d) even = let twice = even d (≤ℤ_refl d) in (omega (arith, ints), λ y l. omega (arith, ints, half_is d))

top_beside : (z : ℤ) (o : Option ℤ) → Top (λ x. AtMost o (z -ℤ x)) (low_beside z o)
top_beside z None = λ y l. l
top_beside z (Some d) = (omega (arith, ints), λ y l. omega (arith, ints))

-- a lower bound over one more unknown
module _ (V : Table) (p : Point) (t : Literal) (k : ℕ) (ks : List ℕ) where
  abbrev Here : ℤ → Type 0
  Here x = AtMost (V (plus k) t) (p k -ℤ x) ⊎ AtMost (V (minus k) t) (neg_ℤ (p k) -ℤ x)

  more_in : (x : ℤ) → Lower V p ks t x ⊎ Here x → Lower V p (k ∷ ks) t x
  more_in x = ⊎_elim (⊎_elim inl (λ r. inr (r.0, inr r.1, r.2))) (⊎_elim (λ h. inr (plus k, inl refl, h)) (λ h. inr (minus k, inl refl, h)))

  more_out : (x : ℤ) → Lower V p (k ∷ ks) t x → Lower V p ks t x ⊎ Here x
  more_out x = ⊎_elim (λ h. inl (inl h)) (λ r. ⊎_elim (λ e. inr (here r.0 e r.2)) (λ m. inl (inr (r.0, m, r.2))) r.1)
    where
      here : (r : Literal) → index r ≡ k → AtMost (V r t) (at p r -ℤ x) → Here x
      here r e h = ⊎_elim (λ is. inl (subst (λ s. AtMost (V s t) (at p s -ℤ x)) is h)) (λ is. inr (subst (λ s. AtMost (V s t) (at p s -ℤ x)) is h)) (same_index r (plus k) e)

pub even_back : {n : ℕ} {V : Table} → Closed n V → (t : Literal) → index t < n → (d : ℤ) → AtMost (V (mirror t) t) d → AtMost (V (mirror t) t) (half d +ℤ half d)
even_back cl (plus k) k_in d h = cl.even (minus k) d k_in h
even_back cl (minus k) k_in d h = cl.even (plus k) d k_in h

-- `low` is the greatest lower bound, or there is none
pub low_is : (n : ℕ) (V : Table) → Closed n V → (p : Point) (t : Literal) → index t < n → (ks : List ℕ) → Top (Lower V p ks t) (low V p t ks)
low_is n V cl p t t_in [] = top_same _ _ _ (λ y. inl) (λ y. ⊎_elim (λ h. h) (λ r. absurd r.1)) (top_alone (V (mirror t) t) (even_back cl t t_in))
low_is n V cl p t t_in (k ∷ ks) =
    top_same _ _ _ (more_in V p t k ks) (more_out V p t k ks)
    (top_either _ _ _ _ (low_is n V cl p t t_in ks) (top_either _ _ _ _ (top_beside (p k) (V (plus k) t)) (top_beside (neg_ℤ (p k)) (V (minus k) t))))
