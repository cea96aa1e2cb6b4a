-- A search keeps what it is to keep when an edge out of the nearest unknown is offered to its target. Assumes nothing.
use Rattle.std.proofs.Common.{◌≡◌, ℕ, ◌+◌, ◌*◌, ◌<◌, ◌≤◌, ◌⊎◌, List, length, get_or, ℤ, ◌+ℤ◌, nat_abs, ◌≤ℤ◌, ◌<ℤ◌, sym, refl, ◌∙◌, subst, inl, inr, ⊎_elim, arith}
use Rattle.std.specs.List.{AllWithin}
use Rattle.std.proofs.lemmas.Int.{ints}
use Rattle.std.proofs.lemmas.Bool.{cases_eq}
use Rattle.theory.specs.Rows.{Point}
use Rattle.sparse.specs.declared.graph.Edge.{Edge}
use Rattle.sparse.specs.Edges.{source, target, Met, Keeps}
use Rattle.sparse.specs.Distances.{key, Relaxed, Partial, Nearest, Offered}

-- the size of a sum
pub size_sum : (a b : ℤ) (m n : ℕ) → nat_abs a ≤ m → nat_abs b ≤ n → nat_abs (a +ℤ b) ≤ m + n
size_sum a b m n a_small b_small = grind (arith, ints)

module _ (es : List Edge) (p : Point) (start : ℕ) (limit : ℤ) (n : ℕ) (m : ℕ → ℕ) (val : ℕ → ℤ) (s : Partial es p start limit (n + 1) m val)
    (v : ℕ) (near : Nearest p limit m val v) (short : nat_abs (val v) ≤ 4000000 * n)
    (e : Edge) (out : source e ≡ v) (e_in : target e < 64) (e_near : nat_abs e.row.c ≤ 4000000) (implied : (x : Point) → Keeps x es → Met x e) (keeps : Keeps p es)
    (m' : ℕ → ℕ) (val' : ℕ → ℤ) (o : Offered (target e) (val v +ℤ e.row.c) m val m' val') where
  -- the reduced length is not negative
  reduced : p (target e) ≤ℤ (p v +ℤ e.row.c)
  reduced = subst (λ w. p (target e) ≤ℤ (p w +ℤ e.row.c)) out (implied p keeps)

  -- an unknown is as it was, or it is the target, which was not settled, and has the new value
  data Change (r : ℕ) : Type 0 where
    same : m' r ≡ m r → val' r ≡ val r → Change r
    new : r ≡ target e → (m r ≡ 2 → ⊥) → m' r ≡ 1 → val' r ≡ val v +ℤ e.row.c → (0 < m r → (val v +ℤ e.row.c) <ℤ val r) → Change r

  change : (r : ℕ) → r < 64 → Change r
  change r r_in = ⊎_elim (λ is. subst Change (sym is) (at_target o.here)) (λ other. same (o.marks r other) (o.values r other)) (cases_eq r (target e))
    where
      at_target : ((0 < m (target e)) × (val (target e) ≤ℤ (val v +ℤ e.row.c)) × (m' (target e) ≡ m (target e)) × (val' (target e) ≡ val (target e)))
          ⊎ (((m (target e) ≡ 0) ⊎ ((val v +ℤ e.row.c) <ℤ val (target e))) × (m' (target e) ≡ 1) × (val' (target e) ≡ val v +ℤ e.row.c)) → Change (target e)
      at_target (inl k) = same k.2 k.3
      at_target (inr k) = new refl
          (λ two. let low = s.ordered (target e) v e_in near.within two near.tentative in ⊎_elim (λ none. omega arith) (λ less. omega (arith, ints, reduced)) k.0)
          k.1 k.2
          (λ some. ⊎_elim (λ none. absurd (omega arith)) (λ less. less) k.0)

  -- what was reached is reached, and no later
  falls : (r : ℕ) → r < 64 → 0 < m r → (0 < m' r) × (val' r ≤ℤ val r)
  falls r r_in some = by (change r r_in)
    where
      by : Change r → (0 < m' r) × (val' r ≤ℤ val r)
      by (same marks values) = (omega arith, omega (arith, ints))
      by (new is free marks values less) = (omega arith, omega (arith, ints, less some))

  pub still_settled : (r : ℕ) → r < 64 → m r ≡ 2 → (m' r ≡ 2) × (val' r ≡ val r)
  still_settled r r_in two = by (change r r_in)
    where
      by : Change r → (m' r ≡ 2) × (val' r ≡ val r)
      by (same marks values) = (marks ∙ two, values)
      by (new is free marks values less) = absurd (free two)

  pub was_settled : (r : ℕ) → r < 64 → m' r ≡ 2 → m r ≡ 2
  was_settled r r_in two = by (change r r_in)
    where
      by : Change r → m r ≡ 2
      by (same marks values) = sym marks ∙ two
      by (new is free marks values less) = absurd (omega arith)

  -- the key of the nearest is no greater than that of each tentative unknown
  least : (b : ℕ) → b < 64 → m' b ≡ 1 → key p val v ≤ℤ key p val' b
  least b b_in one = by (change b b_in)
    where
      by : Change b → key p val v ≤ℤ key p val' b
      by (same marks values) = let l = near.least b b_in (sym marks ∙ one) in omega (arith, ints)
      by (new is free marks values less) = let r = subst (λ w. p w ≤ℤ (p v +ℤ e.row.c)) (sym is) reduced in omega (arith, ints)

  -- the nearest itself is as it was
  pub same_value : (m' v ≡ 1) × (val' v ≡ val v)
  same_value = by (change v near.within)
    where
      by : Change v → (m' v ≡ 1) × (val' v ≡ val v)
      by (same marks values) = (marks ∙ near.tentative, values)
      by (new is free marks values less) =
          let r = subst (λ w. p w ≤ℤ (p v +ℤ e.row.c)) (sym is) reduced in
          absurd (omega (arith, ints, less (omega (arith, near.tentative))))

  pub nearest_offered : Nearest p limit m' val' v
  nearest_offered =
      let is = same_value.1 in
      record {
        within = near.within;
        tentative = same_value.0;
        below = let b = near.below in omega (arith, ints);
        least = λ b b_in one. let l = least b b_in one in omega (arith, ints);
      }

  -- an edge that was relaxed is relaxed
  pub relaxed_offered : (f : Edge) → source f < 64 → target f < 64 → val' (source f) ≡ val (source f) → Relaxed m val f → Relaxed m' val' f
  relaxed_offered f s_in t_in is r = let l = falls (target f) t_in r.0 in (l.0, omega (arith, ints, r.1))

  -- the offered edge is relaxed
  pub relaxed_new : Relaxed m' val' e
  relaxed_new = subst (λ w. (0 < m' (target e)) × (val' (target e) ≤ℤ (val' w +ℤ e.row.c))) (sym out) (by o.here)
    where
      by : ((0 < m (target e)) × (val (target e) ≤ℤ (val v +ℤ e.row.c)) × (m' (target e) ≡ m (target e)) × (val' (target e) ≡ val (target e)))
          ⊎ (((m (target e) ≡ 0) ⊎ ((val v +ℤ e.row.c) <ℤ val (target e))) × (m' (target e) ≡ 1) × (val' (target e) ≡ val v +ℤ e.row.c))
          → (0 < m' (target e)) × (val' (target e) ≤ℤ (val' v +ℤ e.row.c))
      by (inl k) = (omega (arith, k.2, k.0), omega (arith, ints, k.3, k.1, same_value.1))
      by (inr k) = (omega (arith, k.1), omega (arith, ints, k.2, same_value.1))

  module _ (ends : AllWithin (λ f. (source f < 64) × (target f < 64)) es 0 (length es)) where
    pub partial_offered : Partial es p start limit (n + 1) m' val'
    partial_offered = record {
      known = λ r r_in. known r (s.known r r_in) (change r r_in);
      inside = s.inside;
      begun = let l = falls start s.inside s.begun.0 in (l.0, omega (arith, ints, s.begun.1));
      implied = λ x kept r r_in some. meets x kept r some (λ was. s.implied x kept r r_in was) (change r r_in);
      relaxed = λ k d low high two.
          let f = get_or es k d in
          let inside = ends k d low high in
          let was = was_settled (source f) inside.0 two in
          relaxed_offered f inside.0 inside.1 (still_settled (source f) inside.0 was).1 (s.relaxed k d low high was);
      ordered = λ a b a_in b_in two one.
          let was = was_settled a a_in two in
          let l = least b b_in one in
          let h = s.ordered a v a_in near.within was near.tentative in
          omega (arith, ints, (still_settled a a_in was).1);
      below = λ a a_in two. let was = was_settled a a_in two in omega (arith, ints, s.below a a_in was, (still_settled a a_in was).1);
      small = λ r r_in some. sized r some (λ was. s.small r r_in was) (change r r_in);
    }
      where
        known : (r : ℕ) → m r ≤ 2 → Change r → m' r ≤ 2
        known r l (same marks values) = omega arith
        known r l (new is free marks values less) = omega arith

        meets : (x : Point) → Keeps x es → (r : ℕ) → 0 < m' r → (0 < m r → x r ≤ℤ (x start +ℤ val r)) → Change r → x r ≤ℤ (x start +ℤ val' r)
        meets x kept r some was (same marks values) = omega (arith, ints, was (omega arith))
        meets x kept r some was (new is free marks values less) =
            let row = subst (λ w. x w ≤ℤ (x (source e) +ℤ e.row.c)) (sym is) (implied x kept) in
            let row' = subst (λ w. x r ≤ℤ (x w +ℤ e.row.c)) out row in
            let at_v = s.implied x kept v near.within (omega (arith, near.tentative)) in
            omega (arith, ints)

        sized : (r : ℕ) → 0 < m' r → (0 < m r → nat_abs (val r) ≤ 4000000 * (n + 1)) → Change r → nat_abs (val' r) ≤ 4000000 * (n + 1)
        sized r some was (same marks values) = rw values (was (omega arith))
        sized r some was (new is free marks values less) =
            let sum = size_sum (val v) e.row.c (4000000 * n) 4000000 short e_near in
            rw values (omega arith)
