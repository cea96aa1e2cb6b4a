-- How many unknowns are not settled, when one is settled. Assumes nothing.
use Rattle.std.proofs.Common.{◌≡◌, ℕ, zero, suc, ◌+◌, ◌<◌, ◌≤◌, cond, eqb, sym, refl, ap, ◌∙◌, subst, ⊎_elim, arith}
use Rattle.std.proofs.lemmas.Bool.{eq-eqb, ne_eqb, cases_eq, cond-true, cond-false}
use Rattle.sparse.specs.Distances.{unsettled}

abbrev tick : ℕ → ℕ
tick a = cond (eqb a 2) 0 1

settled_tick : (a : ℕ) → a ≡ 2 → tick a ≡ 0
settled_tick a is = cond-true (eqb a 2) 0 1 (eq-eqb a 2 is)

open_tick : (a : ℕ) → (a ≡ 2 → ⊥) → tick a ≡ 1
open_tick a is = cond-false (eqb a 2) 0 1 (ne_eqb a 2 is)

same_tick : (a b : ℕ) → (a ≡ 2 → b ≡ 2) → (b ≡ 2 → a ≡ 2) → tick a ≡ tick b
same_tick a b there back =
    ⊎_elim
    (λ is. settled_tick a is ∙ sym (settled_tick b (there is)))
    (λ not. open_tick a not ∙ sym (open_tick b (λ is. not (back is))))
    (cases_eq a 2)

pub count_within : (m : ℕ → ℕ) (k : ℕ) → unsettled m k ≤ k
unfolding unsettled
count_within m zero = omega arith
count_within m (suc k) = ⊎_elim (λ is. omega (arith, count_within m k, settled_tick (m k) is)) (λ not. omega (arith, count_within m k, open_tick (m k) not)) (cases_eq (m k) 2)

pub count_same : (m m' : ℕ → ℕ) (k : ℕ) → ((r : ℕ) → r < k → (m' r ≡ 2 → m r ≡ 2) × (m r ≡ 2 → m' r ≡ 2)) → unsettled m k ≡ unsettled m' k
unfolding unsettled
count_same m m' zero same = refl
count_same m m' (suc k) same =
    let here = same k (omega arith) in
    omega (arith, same_tick (m k) (m' k) here.1 here.0, count_same m m' k (λ r r_in. same r (omega arith)))

-- v is settled now, and was not
pub count_less : (m m' : ℕ → ℕ) (v k : ℕ) → v < k → (m v ≡ 2 → ⊥) → m' v ≡ 2 → ((r : ℕ) → (r ≡ v → ⊥) → m' r ≡ m r) → unsettled m k ≡ unsettled m' k + 1
unfolding unsettled
count_less m m' v zero v_in was now other = absurd (omega arith)
count_less m m' v (suc k) v_in was now other =
    ⊎_elim
    (λ is.
    let rest = count_same m m' k (λ r r_in. let same = other r (λ e. absurd (omega arith)) in ((λ two. sym same ∙ two), (λ two. same ∙ two))) in
    omega (arith, open_tick (m k) (subst (λ i. m i ≡ 2 → ⊥) (sym is) was), settled_tick (m' k) (ap m' is ∙ now)))
    (λ not. omega (arith, ap tick (other k not), count_less m m' v k (omega arith) was now other))
    (cases_eq k v)

-- v is not settled
pub count_some : (m : ℕ → ℕ) (v k : ℕ) → v < k → (m v ≡ 2 → ⊥) → 0 < unsettled m k
unfolding unsettled
count_some m v zero v_in not = absurd (omega arith)
count_some m v (suc k) v_in not =
    ⊎_elim
    (λ is. omega (arith, open_tick (m k) (subst (λ i. m i ≡ 2 → ⊥) (sym is) not)))
    (λ other. omega (arith, count_some m v k (omega arith) not))
    (cases_eq k v)
