-- What a table of the standing rows says of one more row, and the table with it. Assumes nothing.
use Rattle.std.proofs.Common.{◌≡◌, ◌≤◌, Bool, true, false, List, [], ◌∷◌, ◌++◌, ℤ, ◌+ℤ◌, Some, None, Option, nat_abs, sym, ◌∙◌, subst, true≢false, arith, w64, SFits, to_z, of_z}
use Rattle.std.specs.Option.{MatchOption}
use Rattle.std.specs.List.{AllByRecursion}
use Rattle.std.proofs.ByRecursion.{All-push}
use Rattle.std.proofs.lemmas.Option.{none-some}
use Rattle.theory.specs.declared.row.Row.{Row}
use Rattle.theory.specs.Rows.{Feasible}
use Rattle.bounds.specs.Tables.{Differences}
use Rattle.differences.specs.Sides.{first, second, Fair, Difference}
use Rattle.differences.specs.Tabled.{Near, Tabled}
use Rattle.differences.proofs.Sides.{fair_difference, fair_near}
use Rattle.differences.proofs.Tables.{Agrees, Same, next, same_tabled, table_near, table_agrees, table_with_row, table_takes, table_contradicts}
use Rattle.dense.specs.Entries.{far}
use Rattle.differences.proofs.Sums.{tests_below, sum_fits, sum_below, sum_met}

module _ (rows : List Row) (D : Differences) (differences : AllByRecursion (Difference 64 4000000) rows) (table : Tabled 64 rows D) (r : Row) (fair : Fair r) where
  near_bound : (x : ℤ) → D (second r.side) (first r.side) ≡ Some x → nat_abs x ≤ far
  near_bound x is =
      let e = (fair_difference r fair).ends in
      subst (Near far) is (table_near 64 4000000 _ _ differences table (second r.side) (first r.side) e.second_in e.first_in)

  takes : Agrees D r → Feasible (rows ++ r ∷ [])
  takes = table_takes 64 4000000 _ _ table r (fair_difference r fair) differences

  pub bound_fits : (x : ℤ) → D (second r.side) (first r.side) ≡ Some x → SFits w64 (to_z w64 (of_z w64 x) +ℤ to_z w64 (of_z w64 r.c))
  bound_fits x is = sum_fits x r.c (omega (arith, near_bound x is)) (fair_near r fair)

  -- rule 7: o is the entry of the mirrored difference, and broken what the test of its sum with the row's bound gave
  module _ (broken : Bool) (Q : ℤ → Type 0) where
    pub point_checked : (o : Option ℤ) → D (second r.side) (first r.side) ≡ o → MatchOption o (broken ≡ false) Q → ((x : ℤ) → Q x → tests_below x r.c ≡ broken) → (broken ≡ true → Feasible (rows ++ r ∷ []) → ⊥) × (broken ≡ false → Feasible (rows ++ r ∷ []))
    point_checked None is h test = (λ told f. absurd (true≢false (sym told ∙ h)), λ told. takes (λ x at_x. absurd (none-some x (sym is ∙ at_x))))
    point_checked (Some x) is h test =
        let near : nat_abs x ≤ 1000000000000 = omega (arith, near_bound x is) in
        let c_near = fair_near r fair in (
          λ told. table_contradicts 64 4000000 _ _ table r (fair_difference r fair) x is (sum_below x r.c near c_near (test x h ∙ told)),
          λ told. let met = sum_met x r.c near c_near (test x h ∙ told) in takes (λ y at_y. let same : x ≡ y = cc in rw same at met),
        )

  -- the row is accepted
  pub table_accepts : (E : Differences) → Feasible (rows ++ r ∷ []) → Same 64 (next D r) E → Tabled 64 (rows ++ r ∷ []) E
  table_accepts E point same =
      let row = fair_difference r fair in
      same_tabled 64 4000000 _ _ same _ (All-push (Difference 64 4000000) _ r differences row) (table_with_row 64 4000000 _ _ table r row (table_agrees 64 4000000 _ _ table r row point))
