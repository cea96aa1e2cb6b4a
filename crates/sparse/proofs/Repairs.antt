-- What a new edge makes of the potentials. Assumes nothing.
use Rattle.std.proofs.Common.{◌≡◌, ℕ, ◌<◌, ◌≤◌, List, [], ◌∷◌, ◌++◌, length, get_or, ℤ, ◌+ℤ◌, neg_ℤ, nat_abs, ◌≤ℤ◌, sym, ap, ◌∙◌, ⊎_elim, arith}
use Rattle.std.specs.List.{AllWithin}
use Rattle.std.proofs.lemmas.List.{length_push}
use Rattle.std.proofs.lemmas.List.Elements.{AllWithin-push}
use Rattle.std.proofs.lemmas.Int.{ints}
use Rattle.std.proofs.lemmas.Bool.{cases_eq}
use Rattle.theory.specs.declared.row.Row.{Row}
use Rattle.theory.specs.Rows.{Point}
use Rattle.sparse.specs.declared.graph.Edge.{Edge}
use Rattle.differences.specs.Sides.{first, second}
use Rattle.sparse.specs.Edges.{source, target, Met, Keeps}
use Rattle.sparse.specs.Points.{Holds}
use Rattle.sparse.specs.Distances.{Found, Lowered}
use Rattle.sparse.proofs.Greatest.{near}

-- the edge e leads from s to t and has the length c
pub record Leads (e : Edge) (s t : ℕ) (c : ℤ) : Type 0 where
  pub out : s ≡ source e
  pub into : t ≡ target e
  pub long : c ≡ e.row.c

pub row_leads : (e : Edge) (row : Row) (s t : ℕ) → e.row ≡ row → t ≡ first row.side → s ≡ second row.side → Leads e s t row.c
row_leads e row s t is into out = record {
  out = out ∙ ap (λ (r : Row). second r.side) (sym is);
  into = into ∙ ap (λ (r : Row). first r.side) (sym is);
  long = ap (λ (r : Row). r.c) (sym is);
}

leads_met : (x : Point) (e : Edge) (s t : ℕ) (c : ℤ) → Leads e s t c → x t ≤ℤ (x s +ℤ c) → Met x e
leads_met x e s t c l row = omega (arith, ints, ap x l.out, ap x l.into, l.long)

pub met_leads : (x : Point) (e : Edge) (s t : ℕ) (c : ℤ) → Leads e s t c → Met x e → x t ≤ℤ (x s +ℤ c)
met_leads x e s t c l met = omega (arith, ints, ap x l.out, ap x l.into, l.long)

module _ (es : List Edge) (p : Point) (h : Holds es p) (s t : ℕ) (c : ℤ) where
  -- the potentials meet the row already
  pub holds_met : p t ≤ℤ (p s +ℤ c) → (e : Edge) → Leads e s t c → Holds (es ++ e ∷ []) p
  holds_met met e l = record {
    keeps = AllWithin-push (Met p) es e h.keeps (leads_met p e s t c l met);
    high = h.high;
    low = λ r r_in. let low = h.low r r_in in let long = length_push es e in omega (arith, ints);
  }

  module _ (s_in : s < 64) (t_in : t < 64) (c_near : nat_abs c ≤ 4000000) (ends : AllWithin (λ f. (source f < 64) × (target f < 64)) es 0 (length es))
      (m : ℕ → ℕ) (val : ℕ → ℤ) (f : Found es p t (neg_ℤ (p s +ℤ c)) m val) where
    -- a settled source closes a circle of negative length
    pub circle : m s ≡ 2 → (x : Point) → Keeps x es → x t ≤ℤ (x s +ℤ c) → ⊥
    circle two x kept row =
        let low = f.partial.below s s_in two in
        let chain = f.partial.implied x kept s s_in (omega arith) in
        omega (arith, ints)

    module _ (not_settled : m s ≡ 2 → ⊥) (p' : Point) (lowered : (r : ℕ) → r < 64 → Lowered (p s +ℤ c) (m r) (val r) (p r) (p' r)) where
      -- no potential rises
      falls : (r : ℕ) → r < 64 → p' r ≤ℤ p r
      falls r r_in =
          ⊎_elim
          (λ two. let low = f.partial.below r r_in two in let is = (lowered r r_in).0 two in omega (arith, ints))
          (λ not. let is = (lowered r r_in).1 not in omega (arith, ints))
          (cases_eq (m r) 2)

      -- a reached unknown's potential is at most its value from base on
      reached : (r : ℕ) → r < 64 → 0 < m r → p' r ≤ℤ ((p s +ℤ c) +ℤ val r)
      reached r r_in some =
          ⊎_elim
          (λ two. let is = (lowered r r_in).0 two in omega (arith, ints))
          (λ not.
          let known = f.partial.known r r_in in
          let one : m r ≡ 1 = ⊎_elim (λ is. is) (λ other. absurd (not (omega arith))) (cases_eq (m r) 1) in
          let far = f.ended r r_in one in
          let is = (lowered r r_in).1 not in
          omega (arith, ints))
          (cases_eq (m r) 2)

      keeps_old : Keeps p' es
      keeps_old k d low high =
          let g = get_or es k d in
          let g_in = ends k d low high in
          ⊎_elim
          (λ two.
          let r = f.partial.relaxed k d low high two in
          let at = (lowered (source g) g_in.0).0 two in
          omega (arith, ints, reached (target g) g_in.1 r.0, r.1))
          (λ not.
          let at = (lowered (source g) g_in.0).1 not in
          omega (arith, ints, falls (target g) g_in.1, h.keeps k d low high))
          (cases_eq (m (source g)) 2)

      meets_new : p' t ≤ℤ (p' s +ℤ c)
      meets_new =
          let at = (lowered s s_in).1 not_settled in
          let begun = f.partial.begun in
          omega (arith, ints, reached t t_in begun.0, begun.1)

      pub holds_repaired : (e : Edge) → Leads e s t c → Holds (es ++ e ∷ []) p'
      holds_repaired e l = record {
        keeps = AllWithin-push (Met p') es e keeps_old (leads_met p' e s t c l meets_new);
        high = λ r r_in. omega (arith, ints, falls r r_in, h.high r r_in);
        low = λ r r_in.
            let long = length_push es e in
            ⊎_elim
            (λ two.
            let v = near (val r) 256000000 (f.partial.small r r_in (omega arith)) in
            let size = near c 4000000 c_near in
            let base = h.low s s_in in
            let is = (lowered r r_in).0 two in
            omega (arith, ints))
            (λ not. let is = (lowered r r_in).1 not in let low = h.low r r_in in omega (arith, ints))
            (cases_eq (m r) 2);
      }
