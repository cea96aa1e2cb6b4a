-- Rows that bound differences and have a point have a table of their greatest differences: it is made row by row. Assumes nothing.
use Rattle.std.proofs.Common.{◌≡◌, ℕ, cond, eqb, List, [], ◌∷◌, ◌++◌, ℤ, pos, ◌+ℤ◌, ◌-ℤ◌, ◌≤ℤ◌, Some, None, refl, subst, ⊎_elim, append_assoc, append-nil, arith}
use Rattle.std.specs.List.{AllByRecursion}
use Rattle.std.proofs.lemmas.Int.{ints}
use Rattle.std.proofs.lemmas.Bool.{cases_eq, eq-eqb, ne_eqb}
use Rattle.theory.specs.declared.row.Row.{Row}
use Rattle.theory.specs.Rows.{Point, Meets, Feasible}
use Rattle.bounds.specs.Tables.{Differences, AtMost, Allows, Metric}
use Rattle.differences.specs.Sides.{Difference}
use Rattle.differences.specs.Tabled.{Tabled}
use Rattle.differences.proofs.Tables.{next, table_agrees, table_with_row}

-- the table of no rows
abbrev no_rows : Differences
no_rows i j = cond (eqb i j) (Some (pos 0)) None

own_zero : (i : ℕ) → no_rows i i ≡ Some (pos 0)
own_zero i = rw (eq-eqb i i refl)

only_own : (i j : ℕ) (a : ℤ) → AtMost (no_rows i j) a → (i ≡ j) × (pos 0 ≤ℤ a)
only_own i j a h =
    ⊎_elim
    (λ e. (e, rw (eq-eqb i j e) at h))
    (λ ne. absurd (rw (ne_eqb i j ne) at h))
    (cases_eq i j)

no_rows_metric : (n : ℕ) → Metric n no_rows
no_rows_metric n = record {
  zero = λ i i_in. own_zero i;
  triangle = λ i k j a b i_in k_in j_in h l.
      let first = only_own i k a h in
      let second = only_own k j b l in
      let same : i ≡ j = omega arith in
      subst (λ x. AtMost (no_rows i x) (a +ℤ b)) same (rw (own_zero i) (omega (arith, ints)));
}

no_rows_kept : (p : Point) (i j : ℕ) → Allows (no_rows i j) (p i -ℤ p j)
no_rows_kept p i j =
    ⊎_elim
    (λ e. subst (λ x. Allows (no_rows i x) (p i -ℤ p x)) e (rw (own_zero i) (omega (arith, ints))))
    (λ ne. rw (ne_eqb i j ne) tt)
    (cases_eq i j)

no_rows_tabled : (n : ℕ) → Tabled n [] no_rows
no_rows_tabled n = record { metric = no_rows_metric n; has = tt; keeps = λ p meets i j i_in j_in. no_rows_kept p i j }

front : (P : Row → Type 0) (rows more : List Row) → AllByRecursion P (rows ++ more) → AllByRecursion P rows
front P [] more h = tt
front P (r ∷ rows) more h = (h.0, front P rows more h.1)

module _ (n reach : ℕ) where
  -- a table with more rows put in, one after another
  extended : (rows : List Row) (D : Differences) → Tabled n rows D → (more : List Row) → AllByRecursion (Difference n reach) more → Feasible (rows ++ more) → (E : Differences) × Tabled n (rows ++ more) E
  extended rows D t [] fair point = (D, rw append-nil t)
  extended rows D t (r ∷ more) fair point =
      let regrouped : Feasible ((rows ++ r ∷ []) ++ more) = rw (append_assoc rows (r ∷ []) more) point in
      let sofar : Feasible (rows ++ r ∷ []) = (regrouped.0, front (Meets regrouped.0) (rows ++ r ∷ []) more regrouped.1) in
      let step = table_with_row n reach rows D t r fair.0 (table_agrees n reach rows D t r fair.0 sofar) in
      let rest = extended (rows ++ r ∷ []) (next D r) step more fair.1 regrouped in
      (rest.0, rw (append_assoc rows (r ∷ []) more) at rest.1)

  pub table_exists : (rows : List Row) → AllByRecursion (Difference n reach) rows → Feasible rows → (D : Differences) × Tabled n rows D
  table_exists rows fair point = extended [] no_rows (no_rows_tabled n) rows fair point
