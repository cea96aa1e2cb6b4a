-- Two values of a point that lie far apart can be moved one further apart, so that every row with a small bound is still met: between them there is a window that holds no value, and what lies above it is moved by one. Assumes nothing.
use Rattle.std.proofs.Common.{◌≡◌, ℕ, zero, suc, ◌+◌, ◌*◌, ◌<◌, ◌≤◌, cond, ◌⊎◌, ℤ, pos, negsuc, ◌+ℤ◌, ◌-ℤ◌, neg_ℤ, nat_abs, ◌≤ℤ◌, ◌<ℤ◌, sym, ◌∙◌, subst, inl, inr, ⊎_elim, suc-mul, arith}
use lib.Signed.{lt_z, ≤ℤ_refl}
use Rattle.std.proofs.lemmas.Int.{ints, by_lt_z}
use Rattle.std.proofs.lemmas.Bool.{cases_lt}
use Rattle.bounds.specs.Literals.{Point}

-- 1 where x lies above h, else 0
abbrev tick : ℤ → ℤ → ℕ
tick h x = cond (lt_z h x) 1 0

over : (h x : ℤ) → h <ℤ x → tick h x ≡ 1
over h x l = grind (arith, ints)

not_over : (h x : ℤ) → x ≤ℤ h → tick h x ≡ 0
not_over h x l = grind (arith, ints)

-- how many of the unknowns below n have a value above h
abbrev above : Point → ℤ → ℕ → ℕ
above p h zero = 0
above p h (suc n) = tick h (p n) + above p h n

-- x lies outside the window from h up to g
abbrev Outside : ℤ → ℤ → ℤ → Type 0
Outside h g x = (x ≤ℤ h) ⊎ (g <ℤ x)

-- from h up to g the count of x falls, or x lies outside
tick_falls : (h g x : ℤ) → h ≤ℤ g → (tick g x < tick h x) ⊎ ((tick g x ≡ tick h x) × Outside h g x)
tick_falls h g x l =
    by_lt_z g x
    (λ a. inr (over g x a ∙ sym (over h x (omega (arith, ints))), inr a))
    (λ a. by_lt_z h x (λ b. inl (omega (arith, over h x b, not_over g x a))) (λ b. inr (not_over g x a ∙ sym (not_over h x b), inl b)))

falls : (p : Point) (h g : ℤ) (n : ℕ) → h ≤ℤ g → above p g n ≤ above p h n
falls p h g zero l = omega arith
falls p h g (suc n) l = omega (arith, falls p h g n l, tick_falls h g (p n) l)

-- where as many values lie above g as above h, none lies between
none_between : (p : Point) (h g : ℤ) (n : ℕ) → h ≤ℤ g → above p h n ≤ above p g n → (k : ℕ) → k < n → Outside h g (p k)
none_between p h g zero l same k k_in = absurd (omega arith)
none_between p h g (suc n) l same k k_in = by (λ e. none_between p h g n l e k) (tick_falls h g (p n) l) (cases_lt k n)
  where
    by : (above p h n ≤ above p g n → k < n → Outside h g (p k)) → (tick g (p n) < tick h (p n)) ⊎ ((tick g (p n) ≡ tick h (p n)) × Outside h g (p n)) → (k < n) ⊎ (n ≤ k) → Outside h g (p k)
    by earlier (inl s) w = absurd (omega (arith, falls p h g n l))
    by earlier (inr s) (inl below) = earlier (omega arith) below
    by earlier (inr s) (inr last) = let is : n ≡ k = omega arith in subst (λ i. Outside h g (p i)) is s.1

some_above : (p : Point) (h : ℤ) (n k : ℕ) → k < n → h <ℤ p k → 0 < above p h n
some_above p h zero k k_in up = absurd (omega arith)
some_above p h (suc n) k k_in up =
    ⊎_elim
    (λ below. omega (arith, some_above p h n k below up))
    (λ last. let is : k ≡ n = omega arith in omega (arith, over h (p n) (subst (λ i. h <ℤ p i) is up)))
    (cases_lt k n)

-- a window of width R above low and below high that holds no value
record Window (n R : ℕ) (p : Point) (low high : ℤ) : Type 0 where
  foot : ℤ
  from_low : low ≤ℤ foot
  to_high : (foot +ℤ pos R) <ℤ high
  empty : (k : ℕ) → k < n → Outside foot (foot +ℤ pos R) (p k)

-- from h on, f windows below the value of i, and at most f values above h
window : (n R : ℕ) (p : Point) (i : ℕ) → i < n → (f : ℕ) (low h : ℤ) → low ≤ℤ h → (h +ℤ pos (f * R)) <ℤ p i → above p h n ≤ f → Window n R p low (p i)
window n R p i i_in zero low h start room few = absurd (omega (arith, some_above p h n i i_in (omega (arith, ints))))
window n R p i i_in (suc f) low h start room few =
    let split : suc f * R ≡ f * R + R = suc-mul f R in
    ⊎_elim
    (λ fewer. window n R p i i_in f low (h +ℤ pos R) (omega (arith, ints)) (omega (arith, ints)) (omega arith))
    (λ same. record { foot = h; from_low = start; to_high = omega (arith, ints); empty = none_between p h (h +ℤ pos R) n (omega (arith, ints)) same })
    (cases_lt (above p (h +ℤ pos R) n) (above p h n))

-- the point p with each value above h moved by d
abbrev moved : Point → ℤ → ℤ → Point
moved p h d k = cond (lt_z h (p k)) (p k +ℤ d) (p k)

moved_is : (p : Point) (h d : ℤ) (k : ℕ) → ((h <ℤ p k) × (moved p h d k ≡ p k +ℤ d)) ⊎ ((p k ≤ℤ h) × (moved p h d k ≡ p k))
moved_is p h d k = by_lt_z h (p k) (λ l. inl (l, grind (arith, ints))) (λ l. inr (l, grind (arith, ints)))

-- a number of size m at most, and one of a greater size
near : (z : ℤ) (m : ℕ) → nat_abs z ≤ m → (z ≤ℤ pos m) × (neg_ℤ (pos m) ≤ℤ z)
near (pos a) m l = (omega (arith, ints), omega (arith, ints))
near (negsuc a) m l = (omega (arith, ints), omega (arith, ints))

far : (z : ℤ) (m : ℕ) → m < nat_abs z → (pos m <ℤ z) ⊎ (z <ℤ neg_ℤ (pos m))
far (pos a) m l = inl (omega (arith, ints))
far (negsuc a) m l = inr (omega (arith, ints))

few_above : (p : Point) (h : ℤ) (n : ℕ) → above p h n ≤ n
few_above p h zero = omega arith
few_above p h (suc n) = by_lt_z h (p n) (λ l. omega (arith, few_above p h n, over h (p n) l)) (λ l. omega (arith, few_above p h n, not_over h (p n) l))

-- each row with a bound of size R at most that p meets is met by q
abbrev pub StillMet : (n R : ℕ) → Point → Point → Type 0
StillMet n R p q = (u v : ℕ) (c : ℤ) → u < n → v < n → nat_abs c ≤ R → (p u -ℤ p v) ≤ℤ c → (q u -ℤ q v) ≤ℤ c

module _ (n R : ℕ) (p : Point) {low high : ℤ} (w : Window n R p low high) where
  raised : StillMet n R p (moved p w.foot (pos 1))
  raised u v c u_in v_in small row = omega (arith, ints, near c R small, w.empty u u_in, moved_is p w.foot (pos 1) u, moved_is p w.foot (pos 1) v)

  lowered : StillMet n R p (moved p w.foot (negsuc 0))
  lowered u v c u_in v_in small row = omega (arith, ints, near c R small, w.empty v v_in, moved_is p w.foot (negsuc 0) u, moved_is p w.foot (negsuc 0) v)

pub wider : (n R : ℕ) (p : Point) (i j : ℕ) → i < n → j < n → n * R < nat_abs (p i -ℤ p j) → (q : Point) × StillMet n R p q × ((q i -ℤ q j) ≡ ((p i -ℤ p j) +ℤ pos 1))
wider n R p i j i_in j_in apart = by (far (p i -ℤ p j) (n * R) apart)
  where
    by : (pos (n * R) <ℤ (p i -ℤ p j)) ⊎ ((p i -ℤ p j) <ℤ neg_ℤ (pos (n * R))) → (q : Point) × StillMet n R p q × ((q i -ℤ q j) ≡ ((p i -ℤ p j) +ℤ pos 1))
    by (inl l) =
        let w = window n R p i i_in n (p j) (p j) (≤ℤ_refl (p j)) (omega (arith, ints)) (few_above p (p j) n) in
        (moved p w.foot (pos 1), raised n R p w, omega (arith, ints, moved_is p w.foot (pos 1) i, moved_is p w.foot (pos 1) j))
    by (inr l) =
        let w = window n R p j j_in n (p i) (p i) (≤ℤ_refl (p i)) (omega (arith, ints)) (few_above p (p i) n) in
        (moved p w.foot (negsuc 0), lowered n R p w, omega (arith, ints, moved_is p w.foot (negsuc 0) i, moved_is p w.foot (negsuc 0) j))
