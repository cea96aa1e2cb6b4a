-- A closed table has a point that keeps it, and that agrees with any values given that keep it among themselves. Assumes nothing.
use Rattle.std.proofs.Common.{ℕ, zero, suc, ◌<◌, ◌≤◌, List, [], ◌∷◌, ℤ, pos, ◌+ℤ◌, neg_ℤ, ◌≤ℤ◌, Some, None, Option, refl, ◌∙◌, inl, inr, ⊎_elim, arith}
use Rattle.std.proofs.lemmas.Int.{ints}
use Rattle.std.proofs.lemmas.Bool.{cases_lt}
use Rattle.bounds.specs.Literals.{Point, plus, minus, index}
use Rattle.bounds.specs.Tables.{Table, Closed, Keeps}
use Rattle.bounds.specs.Extension.{Among, Within, KeepsOver, Agree, put, low, pick, value, upto, fill}
use Rattle.bounds.proofs.Lows.{Top, low_is}
use Rattle.bounds.proofs.Extend.{opposed}
use Rattle.bounds.proofs.Place.{placed}

-- the pick is at least each number with P, and its opposite at least each with Q
picked : (P Q : ℤ → Type 0) (a b : Option ℤ) → Top P a → Top Q b → ((x y : ℤ) → P x → Q y → (x +ℤ y) ≤ℤ pos 0) → ((y : ℤ) → P y → y ≤ℤ pick a b) × ((y : ℤ) → Q y → y ≤ℤ neg_ℤ (pick a b))
picked P Q (Some x) b h k room = (h.1, λ y l. omega (arith, ints, room x y h.0 l))
picked P Q None (Some z) h k room = (λ y l. absurd (h y l), λ y l. omega (arith, ints, k.1 y l))
picked P Q None None h k room = (λ y l. absurd (h y l), λ y l. absurd (k y l))

-- ks, and the unknowns below m, are among what is filled up to m
pub given : (ks : List ℕ) (m k : ℕ) → Among ks k → Among (upto ks m) k
given ks zero k a = a
given ks (suc m) k a = inr (given ks m k a)

pub reached : (ks : List ℕ) (m k : ℕ) → k < m → Among (upto ks m) k
reached ks zero k l = absurd (omega arith)
reached ks (suc m) k l = ⊎_elim (λ b. inr (reached ks m k b)) (λ e. inl (omega arith)) (cases_lt k m)

module _ (n : ℕ) (V : Table) (cl : Closed n V) where
  -- one more unknown takes its value; what is given already stays
  pub extended : (p : Point) (ks : List ℕ) → Within n ks → KeepsOver ks p V → (k : ℕ) → k < n → KeepsOver (k ∷ ks) (put p (plus k) (value V p ks k)) V × Agree ks p (put p (plus k) (value V p ks k))
  extended p ks ks_in kept k k_in =
      let is = picked _ _ (low V p (plus k) ks) (low V p (minus k) ks) (low_is n V cl p (plus k) k_in ks) (low_is n V cl p (minus k) k_in ks) (opposed n V cl p ks ks_in kept (plus k) k_in) in
      placed n V cl p ks ks_in kept (plus k) k_in (value V p ks k) is.0 is.1

  module _ (p : Point) (ks : List ℕ) (ks_in : Within n ks) (kept : KeepsOver ks p V) where
    pub upto_in : (m : ℕ) → m ≤ n → Within n (upto ks m)
    upto_in zero l = ks_in
    upto_in (suc m) l = λ k. ⊎_elim (λ e. omega arith) (upto_in m (omega arith) k)

    -- the point filled up to m keeps the table so far and the values given
    pub fills : (m : ℕ) → m ≤ n → KeepsOver (upto ks m) (fill V p ks m) V × Agree ks p (fill V p ks m)
    fills zero l = (kept, λ k a. refl)
    fills (suc m) l =
        let before = fills m (omega arith) in
        let next = extended (fill V p ks m) (upto ks m) (upto_in m (omega arith)) before.0 m (omega arith) in
        (next.0, λ k a. next.1 k (given ks m k a) ∙ before.1 k a)

    -- a point that keeps the table and the values given
    pub filled_from : (q : Point) × Keeps n q V × Agree ks p q
    filled_from =
        let all = fills n (omega arith) in
        (fill V p ks n, (λ s t s_in t_in. all.0 s t (reached ks n (index s) s_in) (reached ks n (index t) t_in)), all.1)

-- a point that keeps the table
pub filled : (n : ℕ) (V : Table) → Closed n V → (p : Point) × Keeps n p V
filled n V cl = let all = filled_from n V cl (λ k. pos 0) [] (λ k. absurd) (λ s t m. absurd m) in (all.0, all.1)
