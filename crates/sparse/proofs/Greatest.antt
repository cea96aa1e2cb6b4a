-- The values of a search without a limit are the greatest differences. Assumes nothing.
use Rattle.std.proofs.Common.{◌≡◌, ℕ, ◌+◌, ◌*◌, ◌<◌, ◌≤◌, cond, eqb, ◌⊎◌, List, length, get_or, ℤ, pos, negsuc, ◌+ℤ◌, ◌-ℤ◌, neg_ℤ, nat_abs, ◌≤ℤ◌, Some, None, Option, SomeIff, sym, ap, ◌∙◌, subst, inl, inr, ⊎_elim, arith}
use Rattle.std.specs.List.{AllWithin}
use Rattle.std.proofs.lemmas.Int.{ints}
use Rattle.std.proofs.lemmas.Bool.{cases_eq, eq-eqb, ne_eqb, cond-true, cond-false}
use Rattle.theory.specs.declared.row.Side.{Side}
use Rattle.theory.specs.Rows.{Point, Greatest, value}
use Rattle.theory.specs.Rules.{side_fault}
use Rattle.sparse.specs.declared.graph.Edge.{Edge}
use Rattle.differences.specs.Sides.{bottom_sizes, first, second, Fair}
use Rattle.sparse.specs.Edges.{source, target, Met, Keeps, rows_in}
use Rattle.sparse.specs.Points.{Holds}
use Rattle.sparse.specs.Distances.{Found}
use Rattle.differences.proofs.Sides.{ends_of, fair_near}
use Rattle.sparse.proofs.Graphs.{fair_ends}
use Rattle.sparse.specs.Sanity.{all_from_keeps}
use Rattle.sparse.proofs.Rows.{keeps_from_all}

-- a number within n of 0
pub near : (z : ℤ) (n : ℕ) → nat_abs z ≤ n → (z ≤ℤ pos n) × (neg_ℤ (pos n) ≤ℤ z)
near (pos a) n l = (omega (arith, ints), omega (arith, ints))
near (negsuc a) n l = (omega (arith, ints), omega (arith, ints))

-- the potentials of at most 1024 rows
abbrev pub SmallPoint : Point → Type 0
SmallPoint p = (r : ℕ) → r < 64 → nat_abs (p r) ≤ 266240000000

pub small_point : (es : List Edge) (p : Point) → length es ≤ 1024 → Holds es p → SmallPoint p
small_point es p few h r r_in = small (p r) (h.high r r_in) (h.low r r_in)
  where
    small : (z : ℤ) → z ≤ℤ pos 0 → neg_ℤ (pos (260000000 * length es)) ≤ℤ z → nat_abs z ≤ 266240000000
    small (pos a) up down = omega (arith, ints)
    small (negsuc a) up down = omega (arith, ints)

module _ (es : List Edge) (fair : AllWithin (λ e. Fair e.row) es 0 (length es)) (p : Point) (keeps : Keeps p es) (small : SmallPoint p) (start : ℕ) (m : ℕ → ℕ) (val : ℕ → ℤ) (f : Found es p start (pos 9223372036854775807) m val) where
  -- what is reached is settled
  settled : (r : ℕ) → r < 64 → 0 < m r → m r ≡ 2
  settled r r_in some =
      ⊎_elim
      (λ one.
      let v = near (val r) 256000000 (f.partial.small r r_in some) in
      let q = near (p r) 266240000000 (small r r_in) in
      absurd (omega (arith, ints, f.ended r r_in one)))
      (λ not. let l = f.partial.known r r_in in omega arith)
      (cases_eq (m r) 1)

  -- the values, and where there are none the potentials from a large number on
  abbrev far : ℤ → Point
  far top r = cond (eqb (m r) 2) (val r) (p r +ℤ top)

  far_settled : (top : ℤ) (r : ℕ) → m r ≡ 2 → far top r ≡ val r
  far_settled top r two = cond-true (eqb (m r) 2) (val r) (p r +ℤ top) (eq-eqb (m r) 2 two)

  far_other : (top : ℤ) (r : ℕ) → (m r ≡ 2 → ⊥) → far top r ≡ p r +ℤ top
  far_other top r not = cond-false (eqb (m r) 2) (val r) (p r +ℤ top) (ne_eqb (m r) 2 not)

  far_keeps : (top : ℤ) → pos 300000000000 ≤ℤ top → Keeps (far top) es
  far_keeps top high k d low within = by (cases_eq (m (source e)) 2) (cases_eq (m (target e)) 2)
    where
      e : Edge
      e = get_or es k d

      ends : (source e < 64) × (target e < 64)
      ends = fair_ends es fair k d low within

      by : (m (source e) ≡ 2) ⊎ (m (source e) ≡ 2 → ⊥) → (m (target e) ≡ 2) ⊎ (m (target e) ≡ 2 → ⊥) → Met (far top) e
      by (inl s) (inl t) = let r = f.partial.relaxed k d low within s in rw (far_settled top (source e) s, far_settled top (target e) t) r.1
      by (inl s) (inr t) = let r = f.partial.relaxed k d low within s in absurd (t (settled (target e) ends.1 r.0))
      by (inr s) (inl t) =
          let v = near (val (target e)) 256000000 (f.partial.small (target e) ends.1 (omega arith)) in
          let q = near (p (source e)) 266240000000 (small (source e) ends.0) in
          let c = near e.row.c 4000000 (fair_near e.row (fair k d low within)) in
          omega (arith, ints, far_other top (source e) s, far_settled top (target e) t)
      by (inr s) (inr t) = omega (arith, ints, far_other top (source e) s, far_other top (target e) t, keeps k d low within)

  module _ (side : Side) (side_fair : side_fault bottom_sizes side ≡ None) (from : second side ≡ start) where
    -- what the side comes to at a point
    side_is : (x : Point) → value x side ≡ x (first side) -ℤ x start
    side_is x = (ends_of side side_fair).is x ∙ ap (λ r. x (first side) -ℤ x r) from

    first_in : first side < 64
    first_in = (ends_of side side_fair).first_in

    start_is : (top : ℤ) → far top start ≤ℤ pos 0
    start_is top =
        let begun = f.partial.begun in
        omega (arith, ints, far_settled top start (settled start f.partial.inside begun.0), begun.1)

    greatest_none : (m (first side) ≡ 2 → ⊥) → Greatest (rows_in es) side None
    greatest_none not = λ top.
        let high = pos (600000000000 + nat_abs top) in
        let t = near top (nat_abs top) (omega arith) in
        let q = near (p (first side)) 266240000000 (small (first side) first_in) in
        (far high, all_from_keeps (far high) es fair (far_keeps high (omega (arith, ints))), omega (arith, ints, side_is (far high), start_is high, far_other high (first side) not))

    greatest_some : m (first side) ≡ 2 → Greatest (rows_in es) side (Some (val (first side)))
    greatest_some two =
        let high = pos 300000000000 in (
          (λ x meets. omega (arith, ints, side_is x, f.partial.implied x (keeps_from_all x es fair meets) (first side) first_in (omega arith))),
          (far high, all_from_keeps (far high) es fair (far_keeps high (omega (arith, ints))), omega (arith, ints, side_is (far high), start_is high, far_settled high (first side) two)),
        )

    pub greatest_is : (o : Option ℤ) → SomeIff o (m (first side) ≡ 2) (val (first side)) → Greatest (rows_in es) side o
    greatest_is None not = greatest_none not
    greatest_is (Some x) h = subst (λ y. Greatest (rows_in es) side (Some y)) (sym h.1) (greatest_some h.0)
