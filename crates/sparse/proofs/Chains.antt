-- Chains of edges, when one edge more comes and when the newest leaves. Assumes nothing.
use Rattle.std.proofs.Common.{◌≡◌, ℕ, ◌+◌, ◌-◌, ◌<◌, ◌≤◌, ◌≢◌, List, [], ◌∷◌, ◌++◌, length, get_or, set, sym, refl, subst, ⊎_elim, arith}
use Rattle.std.proofs.lemmas.List.{length_push, get_or_push, get_or_append_left, get_or-set_same, get_or-set_other}
use Rattle.std.proofs.lemmas.Bool.{cases_lt, cases_eq}
use Rattle.sparse.specs.declared.graph.Edge.{Edge}
use Rattle.sparse.specs.Edges.{source, Link, Chained}

module _ (es : List Edge) (e : Edge) where
  -- the place behind the others is the new edge's, and the places before it are as they were
  new_at : (d : Edge) → get_or (es ++ e ∷ []) (length es) d ≡ e
  new_at d = get_or_push es e d (length es) refl

  old_at : (k : ℕ) (d : Edge) → k < length es → get_or (es ++ e ∷ []) k d ≡ get_or es k d
  old_at k d k_in = get_or_append_left es (e ∷ []) d k k_in

  link_up : (v lo hi : ℕ) → hi ≤ length es → Link es v lo hi → Link (es ++ e ∷ []) v lo hi
  link_up v lo hi hi_in l = record {
    within = l.within;
    none = λ k d low high out. l.none k d low high (rw (old_at k d (omega arith)) at out);
    last = λ d some. let w = l.within in rw (old_at (lo - 1) d (omega arith)) (l.last d some);
  }

  link_down : (v lo hi : ℕ) → hi ≤ length es → Link (es ++ e ∷ []) v lo hi → Link es v lo hi
  link_down v lo hi hi_in l = record {
    within = l.within;
    none = λ k d low high out. l.none k d low high (rw (old_at k d (omega arith)) out);
    last = λ d some. let w = l.within in rw (old_at (lo - 1) d (omega arith)) at (l.last d some);
  }

  -- past an edge that is not out of v
  link_past : (v lo : ℕ) → (source e ≡ v → ⊥) → Link es v lo (length es) → Link (es ++ e ∷ []) v lo (length es + 1)
  link_past v lo other l = record {
    within = let w = l.within in omega arith;
    none = λ k d low high out.
        ⊎_elim
        (λ old. l.none k d low old (rw (old_at k d old) at out))
        (λ new. let is : length es ≡ k = omega arith in other (subst (λ i. source (get_or (es ++ e ∷ []) i d) ≡ v → source e ≡ v) is (λ h. rw (new_at d) at h) out))
        (cases_lt k (length es));
    last = λ d some. let w = l.within in rw (old_at (lo - 1) d (omega arith)) (l.last d some);
  }

  link_before : (v lo : ℕ) → (source e ≡ v → ⊥) → Link (es ++ e ∷ []) v lo (length es + 1) → Link es v lo (length es)
  link_before v lo other l =
      let w = l.within in
      let not_new : lo ≢ length es + 1 = λ is.
      let one : lo - 1 ≡ length es = omega arith in
      other (subst (λ i. source (get_or (es ++ e ∷ []) i e) ≡ v → source e ≡ v) (sym one) (λ h. rw (new_at e) at h) (l.last e (omega arith))) in
      link_down v lo (length es) (omega arith) (record {
        within = omega arith;
        none = λ k d low high. l.none k d low (omega arith);
        last = l.last;
      })

module _ (es : List Edge) (e : Edge) (hs : List ℕ) (long : 64 ≤ length hs) (e_in : source e < 64) where
  -- a new edge, which links to the newest before it
  pub chained_add : Chained es hs → e.next ≡ get_or hs (source e) 0 → Chained (es ++ e ∷ []) (set hs (source e) (length es + 1))
  chained_add c is = record {
    heads = λ v v_in. subst (Link (es ++ e ∷ []) v (get_or (set hs (source e) (length es + 1)) v 0)) (sym (length_push es e)) (at_head v v_in);
    nexts = λ i d i_in. ⊎_elim (old_next i d) (new_next i d (rw (length_push es e) at i_in)) (cases_lt i (length es));
  }
    where
      at_head : (v : ℕ) → v < 64 → Link (es ++ e ∷ []) v (get_or (set hs (source e) (length es + 1)) v 0) (length es + 1)
      at_head v v_in =
          ⊎_elim
          (λ same. subst (λ w. Link (es ++ e ∷ []) w (get_or (set hs (source e) (length es + 1)) w 0) (length es + 1)) (sym same)
          (rw (get_or-set_same hs (source e) (length es + 1) 0 (omega arith)) (record {
            within = omega arith;
            none = λ k d low high. absurd (omega arith);
            last = λ d some. let one : length es + 1 - 1 ≡ length es = omega arith in rw (one, new_at es e d) refl;
          })))
          (λ other. rw (get_or-set_other hs (source e) v (length es + 1) 0 other) (link_past es e v _ (λ h. other (sym h)) (c.heads v v_in)))
          (cases_eq v (source e))

      old_next : (i : ℕ) (d : Edge) → i < length es → Link (es ++ e ∷ []) (source (get_or (es ++ e ∷ []) i d)) (get_or (es ++ e ∷ []) i d).next i
      old_next i d i_in = rw (old_at es e i d i_in) (link_up es e _ _ i (omega arith) (c.nexts i d i_in))

      link_new : Link (es ++ e ∷ []) (source e) (get_or hs (source e) 0) (length es) → Link (es ++ e ∷ []) (source e) e.next (length es)
      link_new l = subst (λ k. Link (es ++ e ∷ []) (source e) k (length es)) (sym is) l

      new_next : (i : ℕ) (d : Edge) → i < length es + 1 → length es ≤ i → Link (es ++ e ∷ []) (source (get_or (es ++ e ∷ []) i d)) (get_or (es ++ e ∷ []) i d).next i
      new_next i d i_in new =
          let here : length es ≡ i = omega arith in
          subst (λ k. Link (es ++ e ∷ []) (source (get_or (es ++ e ∷ []) k d)) (get_or (es ++ e ∷ []) k d).next k) here
          (rw (new_at es e d) (link_new (link_up es e (source e) _ (length es) (omega arith) (c.heads (source e) e_in))))

  -- the newest edge leaves, and its head is the one that it linked to
  pub chained_drop : Chained (es ++ e ∷ []) hs → Chained es (set hs (source e) e.next)
  chained_drop c = record {
    heads = λ v v_in.
        ⊎_elim
        (λ same. subst (λ w. Link es w (get_or (set hs (source e) e.next) w 0) (length es)) (sym same)
        (rw (get_or-set_same hs (source e) e.next 0 (omega arith))
        (link_down es e _ _ (length es) (omega arith) (rw (new_at es e e) at (c.nexts (length es) e (omega (arith, length_push es e)))))))
        (λ other. rw (get_or-set_other hs (source e) v e.next 0 other)
        (link_before es e v _ (λ h. other (sym h)) (subst (Link (es ++ e ∷ []) v (get_or hs v 0)) (length_push es e) (c.heads v v_in))))
        (cases_eq v (source e));
    nexts = λ i d i_in.
        link_down es e _ _ i (omega arith) (rw (old_at es e i d i_in) at (c.nexts i d (omega (arith, length_push es e))));
  }
