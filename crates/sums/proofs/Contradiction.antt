-- A row contradicts others exactly where the greatest value of its opposite, plus its bound, is below 0. Assumes nothing.
use Rattle.std.proofs.Common.{◌≡◌, List, [], ◌∷◌, ◌++◌, ℤ, pos, ◌+ℤ◌, neg_ℤ, ◌≤ℤ◌, ◌<ℤ◌, Some, None, Option, arith}
use Rattle.std.proofs.ByRecursion.{All-push}
use Rattle.std.proofs.lemmas.Int.{ints}
use Rattle.theory.specs.declared.row.Row.{Row}
use Rattle.theory.specs.declared.row.Side.{Side}
use Rattle.theory.specs.Rows.{Point, Meets, Feasible, Greatest, value}
use Rattle.sums.specs.declared.Terms.{Terms}
use Rattle.sums.specs.Greatest.{GreatestOf}
use Rattle.sums.specs.Terms.{value_by}
use Rattle.sums.proofs.Sent.{all_parts}

-- the greatest value of a side is that of its terms
pub greatest_of_side : (rows : List Row) (s : Side) (ts : Terms) → ((p : Point) → value p s ≡ value_by p ts) → (o : Option ℤ) → GreatestOf rows ts o → Greatest rows s o
greatest_of_side rows s ts is (Some m) g = (λ p h. rw (is p) (g.0 p h), (g.1.0, g.1.1, rw (is g.1.0) g.1.2))
greatest_of_side rows s ts is None g = λ m. let w = g m in (w.0, w.1, rw (is w.0) w.2)

module _ (rows : List Row) (r : Row) (ts : Terms) (turned : (p : Point) → value p r.side ≡ neg_ℤ (value_by p ts)) where
  far_off : (m : ℤ) → pos 0 ≤ℤ (m +ℤ r.c) → (p : Point) → m ≤ℤ value_by p ts → Meets p r
  far_off m met p up = rw (turned p) (omega (arith, ints))

  pub point_if_none : GreatestOf rows ts None → Feasible (rows ++ r ∷ [])
  point_if_none g = let w = g (neg_ℤ r.c) in (w.0, All-push (Meets w.0) rows r w.1 (far_off (neg_ℤ r.c) (omega (arith, ints)) w.0 w.2))

  pub point_if_met : (m : ℤ) → GreatestOf rows ts (Some m) → pos 0 ≤ℤ (m +ℤ r.c) → Feasible (rows ++ r ∷ [])
  point_if_met m g met = let w = g.1 in (w.0, All-push (Meets w.0) rows r w.1 (far_off m met w.0 w.2))

  pub no_point_if_below : (m : ℤ) → GreatestOf rows ts (Some m) → (m +ℤ r.c) <ℤ pos 0 → Feasible (rows ++ r ∷ []) → ⊥
  no_point_if_below m g below f =
      let parts = all_parts (Meets f.0) rows (r ∷ []) f.1 in
      let up = g.0 f.0 parts.0 in
      let row = rw (turned f.0) at parts.1.0 in
      omega (arith, ints)
