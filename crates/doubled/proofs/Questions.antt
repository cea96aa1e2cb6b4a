-- An answer of the theory below is what every table of the greatest differences has, and it lies near 0; so do halves, sums and lesser ones. Assumes nothing.
use Rattle.std.specs.Prelude.{◌≡◌, ℕ, ◌*◌, ◌<◌, ◌≤◌, ℤ, Some, None, Option}
use Rattle.std.proofs.Common.{sym, subst, mul-le-mul, arith}
use Rattle.std.proofs.lemmas.Int.{ints}
use Rattle.theory.specs.Meaning.{Meaning, Sane}
use Rattle.theory.specs.Rows.{Greatest}
use Rattle.theory.proofs.Unique.{greatest_unique}
use Rattle.bounds.specs.Literals.{Literal}
use Rattle.bounds.specs.Tables.{Differences}
use Rattle.bounds.specs.Doubling.{code}
use Rattle.differences.specs.Sides.{Ends}
use Rattle.differences.specs.Tabled.{Near, Tabled}
use Rattle.differences.proofs.Existence.{table_exists}
use Rattle.differences.proofs.Tables.{table_greatest, table_near}
use Rattle.sums.specs.Terms.{differ}
use Rattle.doubled.specs.Asking.{Ready, Reads, Answered, far}

near_more : (a b : ℕ) (o : Option ℤ) → a ≤ b → Near a o → Near b o
near_more a b None l h = tt
near_more a b (Some d) l h = omega arith

module _ (m : Meaning) (ready : Ready m) (sane : Sane m) where
  pub table_of : (D : Differences) × Tabled m.sizes.unknowns m.rows D
  table_of = table_exists m.sizes.unknowns m.sizes.reach m.rows ready sane.point

  far_enough : m.sizes.unknowns * m.sizes.reach ≤ far
  far_enough = mul-le-mul sane.limits.unknowns sane.limits.reach

  pub asked_below : (n : Meaning) (s t : Literal) (o : Option ℤ) → code s < m.sizes.unknowns → code t < m.sizes.unknowns → Greatest m.rows (differ s t) o → n ≡ m → Answered far m (λ D. D (code s) (code t)) o n
  asked_below n s t o s_in t_in g same =
      let ends : Ends m.sizes.unknowns (differ s t) = record { first_in = s_in; second_in = t_in; is = λ p. omega (arith, ints) } in
      let reads : Reads m (λ D. D (code s) (code t)) o = λ D h. greatest_unique m.rows (differ s t) o _ g (table_greatest m.sizes.unknowns m.sizes.reach m.rows D ready h (differ s t) ends) in
      let near = table_near m.sizes.unknowns m.sizes.reach m.rows table_of.0 ready table_of.1 (code s) (code t) s_in t_in in
      record { reads = reads; near = near_more _ far o far_enough (subst (Near _) (sym (reads table_of.0 table_of.1)) near); same = same }
