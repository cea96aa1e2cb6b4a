-- The repair for a new row in the terms of the code, where sums are computed in 64 bits. Assumes nothing.
use Rattle.std.proofs.Common.{◌≡◌, ℕ, ◌<◌, ◌≤◌, true, List, [], ◌∷◌, ◌++◌, length, ℤ, pos, ◌+ℤ◌, ◌-ℤ◌, neg_ℤ, nat_abs, sym, ap, ◌∙◌, subst, arith, w64, SFits, to_z, of_z}
use lib.Signed.{le_z}
use Rattle.std.specs.List.{AllWithin}
use Rattle.theory.specs.declared.row.Row.{Row}
use Rattle.theory.specs.Rows.{Point}
use Rattle.sparse.specs.declared.graph.Edge.{Edge}
use Rattle.differences.specs.Sides.{Fair, first, second}
use Rattle.sparse.specs.Edges.{Met, Keeps}
use Rattle.sparse.specs.Points.{Holds}
use Rattle.sparse.specs.Distances.{Found, Lowered}
use Rattle.differences.proofs.Sides.{ends_of, fair_side, fair_near}
use Rattle.differences.proofs.Sums.{computed, sum_is}
use Rattle.sparse.proofs.Sums.{opposite_is, at_most}
use Rattle.sparse.proofs.Graphs.{fair_ends}
use Rattle.sparse.proofs.Greatest.{small_point}
use Rattle.sparse.proofs.Repairs.{row_leads, met_leads, holds_met, circle, holds_repaired}

-- the row leads from s, with the potential a, to t
pub record Asked (p : Point) (row : Row) (s t : ℕ) (a : ℤ) : Type 0 where
  pub out : s ≡ second row.side
  pub into : t ≡ first row.side
  pub is : a ≡ p s
  pub s_in : s < 64
  pub t_in : t < 64
  pub near : nat_abs a ≤ 266240000000
  pub c_near : nat_abs row.c ≤ 4000000

pub asked : (es : List Edge) (p : Point) (row : Row) (s t : ℕ) (a : ℤ) → length es ≤ 1024 → Holds es p → Fair row → (t ≡ first row.side) × (s ≡ second row.side) → a ≡ p s → Asked p row s t a
asked es p row s t a few h fair ends is =
    let e = ends_of row.side (fair_side row fair) in
    let s_in : s < 64 = omega (arith, ends.1, e.second_in) in
    record {
      out = ends.1;
      into = ends.0;
      is = is;
      s_in = s_in;
      t_in = omega (arith, ends.0, e.first_in);
      near = subst (λ z. nat_abs z ≤ 266240000000) (sym is) (small_point es p few h s s_in);
      c_near = fair_near row fair;
    }

module _ (es : List Edge) (p : Point) (h : Holds es p) (row : Row) (s t : ℕ) (a : ℤ) (k : Asked p row s t a) where
  base_is : computed a row.c ≡ p s +ℤ row.c
  base_is = sum_is a row.c (omega (arith, k.near)) k.c_near ∙ ap (λ z. z +ℤ row.c) k.is

  pub told_met : (x : ℤ) → SFits w64 x → x ≡ p t → le_z (to_z w64 (of_z w64 x)) (computed a row.c) ≡ true → (e : Edge) → e.row ≡ row → Holds (es ++ e ∷ []) p
  told_met x fits is met e e_is =
      let low = at_most a row.c k.near k.c_near x fits met in
      holds_met es p h s t row.c (rw (k.is, is) at low) e (row_leads e row s t e_is k.into k.out)

  module _ (fair : AllWithin (λ e. Fair e.row) es 0 (length es)) (m : ℕ → ℕ) (val : ℕ → ℤ) (f : Found es p t (to_z w64 (of_z w64 (pos 0 -ℤ computed a row.c))) m val) where
    found : Found es p t (neg_ℤ (p s +ℤ row.c)) m val
    found = subst (λ l. Found es p t l m val) (opposite_is a row.c k.near k.c_near ∙ ap (λ z. neg_ℤ (z +ℤ row.c)) k.is) f

    pub told_circle : m s ≡ 2 → (e : Edge) (x : Point) → e.row ≡ row → Keeps x es → Met x e → ⊥
    told_circle two e x e_is kept met =
        circle es p h s t row.c k.s_in k.t_in k.c_near (fair_ends es fair) m val found two x kept (met_leads x e s t row.c (row_leads e row s t e_is k.into k.out) met)

    pub told_repaired : (m s ≡ 2 → ⊥) → (p' : Point) → ((r : ℕ) → r < 64 → Lowered (computed a row.c) (m r) (val r) (p r) (p' r)) → (e : Edge) → e.row ≡ row → Holds (es ++ e ∷ []) p'
    told_repaired not p' lowered e e_is =
        holds_repaired es p h s t row.c k.s_in k.t_in k.c_near (fair_ends es fair) m val found not p'
        (λ r r_in. ((λ two. (lowered r r_in).0 two ∙ ap (λ b. b +ℤ val r) base_is), (lowered r r_in).1))
        e (row_leads e row s t e_is k.into k.out)
