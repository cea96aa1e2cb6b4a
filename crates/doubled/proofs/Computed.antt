-- What the test of the sum of a greatest value and a row's bound says of the row. Assumes nothing.
use Rattle.std.proofs.Common.{◌≡◌, ◌≤◌, Bool, true, false, List, [], ◌∷◌, ◌++◌, ℤ, neg_ℤ, nat_abs, Some, None, Option, sym, ◌∙◌, true≢false, arith}
use Rattle.std.specs.Option.{MatchOption}
use Rattle.theory.specs.declared.row.Row.{Row}
use Rattle.theory.specs.Rows.{Point, Feasible, value}
use Rattle.differences.specs.Tabled.{Near}
use Rattle.differences.proofs.Sums.{tests_below, sum_below, sum_met}
use Rattle.sums.specs.declared.Terms.{Terms}
use Rattle.sums.specs.Greatest.{GreatestOf}
use Rattle.sums.specs.Terms.{value_by}
use Rattle.sums.proofs.Contradiction.{point_if_none, point_if_met, no_point_if_below}
use Rattle.doubled.specs.Asking.{further}

-- rule 7: o is the greatest value of the opposite's terms, and broken what the test of its sum with the row's bound gave
module _ (rows : List Row) (r : Row) (ts : Terms) (turned : (p : Point) → value p r.side ≡ neg_ℤ (value_by p ts)) (c_near : nat_abs r.c ≤ 2000000) (broken : Bool) (Q : ℤ → Type 0) where
  pub point_checked : (o : Option ℤ) → GreatestOf rows ts o → Near further o → MatchOption o (broken ≡ false) Q → ((x : ℤ) → Q x → tests_below x r.c ≡ broken) → (broken ≡ true → Feasible (rows ++ r ∷ []) → ⊥) × (broken ≡ false → Feasible (rows ++ r ∷ []))
  point_checked None g near h test = (λ told f. absurd (true≢false (sym told ∙ h)), λ told. point_if_none rows r ts turned g)
  point_checked (Some x) g near h test = (
    λ told. no_point_if_below rows r ts turned x g (sum_below x r.c (omega (arith, near)) (omega (arith, c_near)) (test x h ∙ told)),
    λ told. point_if_met rows r ts turned x g (sum_met x r.c (omega (arith, near)) (omega (arith, c_near)) (test x h ∙ told)),
  )
