-- The walk over the edges out of the nearest unknown, and its settling. Assumes nothing.
use Rattle.std.proofs.Common.{◌≡◌, ℕ, ◌+◌, ◌-◌, ◌*◌, ◌<◌, ◌≤◌, List, length, get_or, ℤ, ◌+ℤ◌, nat_abs, ◌≤ℤ◌, ◌<ℤ◌, sym, ap, ◌∙◌, subst, ⊎_elim, arith}
use Rattle.std.specs.List.{AllWithin}
use Rattle.std.proofs.lemmas.List.{get_or_default}
use Rattle.std.proofs.lemmas.Bool.{cases_lt, cases_eq}
use Rattle.theory.specs.Rows.{Point}
use Rattle.sparse.specs.declared.graph.Edge.{Edge}
use Rattle.sparse.specs.Edges.{source, target, Met, Keeps, Link}
use Rattle.sparse.specs.Distances.{key, Relaxed, Partial, Offered, Walk, Walked, Stepped, unsettled}
use Rattle.sparse.proofs.Graphs.{Stands}
use Rattle.sparse.proofs.Counts.{count_same, count_less}
use Rattle.sparse.proofs.Offers.{partial_offered, nearest_offered, relaxed_offered, relaxed_new, same_value, still_settled, was_settled}

pub offered_as : {m m' : ℕ → ℕ} {val val' : ℕ → ℤ} {t t' : ℕ} {x x' : ℤ} → t ≡ t' → x ≡ x' → Offered t x m val m' val' → Offered t' x' m val m' val'
offered_as {m} {m'} {val} {val'} {t} {t'} {x} {x'} at is o = subst (λ y. Offered t' y m val m' val') is (subst (λ u. Offered u x m val m' val') at o)

-- the walk over the edges out of v has come to the place that k tells
pub record Underway (es : List Edge) (v k : ℕ) (m m' : ℕ → ℕ) (val val' : ℕ → ℤ) : Type 0 where
  pub reached : 0 < m' v
  pub within : k ≤ length es
  pub last : (d : Edge) → 0 < k → source (get_or es (k - 1) d) ≡ v
  pub walked : Walked es v k m m' val val'

-- longer chains are allowed
pub partial_more : {es : List Edge} {p : Point} {start : ℕ} {limit : ℤ} {m : ℕ → ℕ} {val : ℕ → ℤ} (n k : ℕ) → n ≤ k → Partial es p start limit n m val → Partial es p start limit k m val
partial_more n k more s = record {
  known = s.known;
  inside = s.inside;
  begun = s.begun;
  implied = s.implied;
  relaxed = s.relaxed;
  ordered = s.ordered;
  below = s.below;
  small = λ r r_in some. let l = s.small r r_in some in omega arith;
}

module _ (es : List Edge) (ends : AllWithin (λ f. (source f < 64) × (target f < 64)) es 0 (length es)) (v i : ℕ) (i_in : i < length es) (e : Edge) (e_is : e ≡ get_or es i e) (out : source e ≡ v) (e_near : nat_abs e.row.c ≤ 4000000) (next : Link es (source e) e.next i) where
  module _ (m m₁ m₂ : ℕ → ℕ) (val val₁ val₂ : ℕ → ℤ) (o : Offered (target e) (val v +ℤ e.row.c) m₁ val₁ m₂ val₂) where
    pub walk_step : Walked es v (i + 1) m m₁ val val₁ → Walked es v e.next m m₂ val val₂
    walk_step walked p start limit n keeps s near =
        let w = walked p start limit n keeps s near in
        let met : (x : Point) → Keeps x es → Met x e = λ x kept. subst (Met x) (sym e_is) (kept i e (omega arith) i_in) in
        let e_in = subst (λ f. target f < 64) (sym e_is) (ends i e (omega arith) i_in).1 in
        let short = subst (λ y. nat_abs y ≤ 4000000 * n) (sym w.value) w.short in
        let o' = subst (λ y. Offered (target e) (y +ℤ e.row.c) m₁ val₁ m₂ val₂) (sym w.value) o in
        let same = same_value es p start limit n m₁ val₁ w.partial v w.nearest short e out e_in e_near met keeps m₂ val₂ o' in
        record {
          partial = partial_offered es p start limit n m₁ val₁ w.partial v w.nearest short e out e_in e_near met keeps m₂ val₂ o' ends;
          nearest = nearest_offered es p start limit n m₁ val₁ w.partial v w.nearest short e out e_in e_near met keeps m₂ val₂ o';
          value = same.1 ∙ w.value;
          short = w.short;
          done = λ k d low high from_v.
              ⊎_elim
              (λ before. absurd (next.none k d low before (from_v ∙ sym out)))
              (λ after.
              ⊎_elim
              (λ is. subst (λ j. source (get_or es j d) ≡ v → Relaxed m₂ val₂ (get_or es j d)) (sym is)
              (λ h. subst (Relaxed m₂ val₂) (e_is ∙ get_or_default es i e d i_in) (relaxed_new es p start limit n m₁ val₁ w.partial v w.nearest short e out e_in e_near met keeps m₂ val₂ o')) from_v)
              (λ other.
              let inside = ends k d (omega arith) high in
              relaxed_offered es p start limit n m₁ val₁ w.partial v w.nearest short e out e_in e_near met keeps m₂ val₂ o' (get_or es k d) inside.0 inside.1
              (ap val₂ from_v ∙ same.1 ∙ sym (ap val₁ from_v)) (w.done k d (omega arith) high from_v))
              (cases_eq k i))
              (cases_lt k i);
          settled = λ r r_in. (
            (λ two. (w.settled r r_in).0 (was_settled es p start limit n m₁ val₁ w.partial v w.nearest short e out e_in e_near met keeps m₂ val₂ o' r r_in two)),
            (λ two. (still_settled es p start limit n m₁ val₁ w.partial v w.nearest short e out e_in e_near met keeps m₂ val₂ o' r r_in ((w.settled r r_in).1 two)).0),
          );
        }

-- the edge at the place i, to which the walk has come, is offered, and the walk goes on to the edge before it
module _ (es : List Edge) (ends : AllWithin (λ f. (source f < 64) × (target f < 64)) es 0 (length es)) (v i : ℕ) (e : Edge) (e_is : e ≡ get_or es i e) (at : Stands es i e)
    (m m₁ m₂ : ℕ → ℕ) (val val₁ val₂ : ℕ → ℤ) (o : Offered (target e) (val v +ℤ e.row.c) m₁ val₁ m₂ val₂) where
  stays_reached : 0 < m₁ v → 0 < m₂ v
  stays_reached some =
      ⊎_elim
      (λ is. rw is (⊎_elim (λ old. omega (arith, old.0, old.2)) (λ new. omega (arith, new.1)) o.here))
      (λ other. rw (o.marks v other) some)
      (cases_eq v (target e))

  pub walk_on : Underway es v (i + 1) m m₁ val val₁ → Underway es v e.next m m₂ val val₂
  walk_on w =
      let one : i + 1 - 1 ≡ i = omega arith in
      let out = ap source e_is ∙ rw one at (w.last e (omega arith)) in
      record {
        reached = stays_reached w.reached;
        within = let next = at.next.within in let inside = at.within in omega arith;
        last = λ d more. at.next.last d more ∙ out;
        walked = walk_step es ends v i at.within e e_is out at.near at.next m m₁ m₂ val val₁ val₂ o w.walked;
      }

-- all edges out of v are offered, and v is settled
module _ (es : List Edge) (v : ℕ) (m m₁ m₂ : ℕ → ℕ) (val₁ : ℕ → ℤ) (here : m₂ v ≡ 2) (other : (r : ℕ) → (r ≡ v → ⊥) → m₂ r ≡ m₁ r)
    (p : Point) (start : ℕ) (limit : ℤ) (n : ℕ) (x : ℤ) (w : Walk es v 0 m m₁ val₁ p start limit n x) where
  grows : (r : ℕ) → 0 < m₁ r → 0 < m₂ r
  grows r some = ⊎_elim (λ is. omega (arith, ap m₂ is)) (λ not. rw (other r not) some) (cases_eq r v)

  was : (r : ℕ) → 0 < m₂ r → 0 < m₁ r
  was r some = ⊎_elim (λ is. omega (arith, ap m₁ is, w.nearest.tentative)) (λ not. rw (other r not) at some) (cases_eq r v)

  partial_settled : Partial es p start limit (n + 1) m₂ val₁
  partial_settled = record {
    known = λ r r_in. ⊎_elim (λ is. omega (arith, ap m₂ is)) (λ not. rw (other r not) (w.partial.known r r_in)) (cases_eq r v);
    inside = w.partial.inside;
    begun = (grows start w.partial.begun.0, w.partial.begun.1);
    implied = λ y kept r r_in some. w.partial.implied y kept r r_in (was r some);
    relaxed = λ k d low high two.
        let r : Relaxed m₁ val₁ (get_or es k d) =
        ⊎_elim
        (λ is. w.done k d low high is)
        (λ not. w.partial.relaxed k d low high (sym (other _ not) ∙ two))
        (cases_eq (source (get_or es k d)) v) in
        (grows _ r.0, r.1);
    ordered = λ a b a_in b_in two one.
        let b_not : b ≡ v → ⊥ = λ is. absurd (omega (arith, ap m₂ is)) in
        let one₁ = sym (other b b_not) ∙ one in
        ⊎_elim
        (λ is. subst (λ j. key p val₁ j ≤ℤ key p val₁ b) (sym is) (w.nearest.least b b_in one₁))
        (λ not. w.partial.ordered a b a_in b_in (sym (other a not) ∙ two) one₁)
        (cases_eq a v);
    below = λ a a_in two.
        ⊎_elim
        (λ is. subst (λ j. key p val₁ j <ℤ limit) (sym is) w.nearest.below)
        (λ not. w.partial.below a a_in (sym (other a not) ∙ two))
        (cases_eq a v);
    small = λ r r_in some. w.partial.small r r_in (was r some);
  }

  fewer : unsettled m 64 ≡ unsettled m₂ 64 + 1
  fewer = count_same m m₁ 64 w.settled ∙ count_less m₁ m₂ v 64 w.nearest.within (λ two. absurd (omega (arith, w.nearest.tentative))) here other

pub walk_end : (es : List Edge) (v : ℕ) (m m₁ m₂ : ℕ → ℕ) (val val₁ : ℕ → ℤ) → m₂ v ≡ 2 → ((r : ℕ) → (r ≡ v → ⊥) → m₂ r ≡ m₁ r) → Walked es v 0 m m₁ val val₁ → Stepped es v m m₂ val val₁
walk_end es v m m₁ m₂ val val₁ here other walked p start limit n keeps s near =
    let w = walked p start limit n keeps s near in
    (partial_settled es v m m₁ m₂ val₁ here other p start limit n (val v) w, fewer es v m m₁ m₂ val₁ here other p start limit n (val v) w)
