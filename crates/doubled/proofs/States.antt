-- What each step makes of what the layer means and of what the theory below means. Assumes nothing.
use Rattle.std.specs.Prelude.{◌≡◌, ◌+◌, ◌<◌, ◌≤◌, [], ◌∷◌, ◌++◌, length, ℤ, None, Option}
use Rattle.std.proofs.Common.{nat_abs, ap, subst, ◌∙◌, arith}
use Rattle.std.specs.List.{AllByRecursion}
use Rattle.std.proofs.Math.Logic.{∥∥₁_map}
use Rattle.std.proofs.ByRecursion.{All-push, All-take}
use Rattle.std.proofs.lemmas.List.{length_push, length-take-le}
use Rattle.theory.specs.declared.row.Row.{Row}
use Rattle.theory.specs.Rows.{Meets, Feasible}
use Rattle.theory.specs.Rules.{row_fault}
use Rattle.theory.specs.Meaning.{Meaning, Sane, newest, with_row, with_level, without_level}
use Rattle.bounds.specs.Doubling.{spread}
use Rattle.differences.specs.Tabled.{Tabled}
use Rattle.sums.specs.declared.Terms.{Terms}
use Rattle.doubled.specs.Asking.{Ready, Answered, further}
use Rattle.sums.specs.Greatest.{GreatestOf}
use Rattle.doubled.specs.State.{Over, with_images}
use Rattle.doubled.specs.Sanity.{over_long}
use Rattle.sums.specs.Terms.{terms_of, Within, greatest_by}
use Rattle.sums.proofs.Above.{greatest_above}
use Rattle.doubled.proofs.Levels.{rising_more, rising_push, rising_closed, marks_row, marks_push, marks_newest, marks_closed, sent_take}
use Rattle.doubled.proofs.Questions.{table_of}
use Rattle.sums.proofs.Sent.{Fair, fair_near, sent_push, sent_few, sent_fair, sent_met}

module _ (m b : Meaning) (o : Over m b) where
  fair_below : AllByRecursion (Fair b.sizes) m.rows
  fair_below = rw o.sizes at o.fair

  over_ready : Ready b
  over_ready = rw o.rows (sent_fair b.sizes m.rows fair_below)

  -- the bound of a row that passes the rules
  pub over_near : Sane b → (r : Row) → row_fault m.sizes r ≡ None → nat_abs r.c ≤ 2000000
  over_near s r fair = let reach = ap (λ z. z.reach) o.sizes in omega (arith, s.limits.reach, fair_near m.sizes r fair)

  -- an answer read off the table below is the greatest value here
  pub over_greatest : Sane b → (n : Meaning) (ts : Terms) (a : Option ℤ) → Within m.sizes.unknowns ts → Answered further b (λ D. greatest_by D ts) a n → GreatestOf m.rows ts a
  over_greatest s n ts a within h =
      let (D, t) = table_of b over_ready s in
      rw (h.reads D t) (greatest_above b.sizes m.rows fair_below D (subst (λ rows. Tabled b.sizes.unknowns rows D) o.rows t) o.point ts (rw o.sizes at within))

  -- the images of a row that leaves a point are met by that point, spread out
  pub over_point : (r : Row) → row_fault m.sizes r ≡ None → Feasible (m.rows ++ r ∷ []) → Feasible (with_images b (terms_of r.side) r.c).rows
  over_point r fair point =
      let all = All-push (Fair b.sizes) m.rows r fair_below (rw o.sizes at fair) in
      (spread point.0, rw (o.rows, ← sent_push m.rows r) (sent_met b.sizes point.0 (m.rows ++ r ∷ []) all point.1))

  pub over_room : length m.rows < m.sizes.space → length b.rows + 2 ≤ b.sizes.space
  over_room room = rw o.rows (omega (arith, sent_few m.rows, ap (λ z. z.space) o.sizes))

  -- n and k are what the layer and the theory below mean after a step
  module _ (n k : Meaning) where
    pub over_row : (r : Row) → row_fault m.sizes r ≡ None → length m.rows < m.sizes.space → Feasible (m.rows ++ r ∷ []) → n ≡ with_row m r → k ≡ with_images b (terms_of r.side) r.c → Over n k
    over_row r fair room point n_is k_is =
        rw (n_is, k_is) (record {
          sizes = o.sizes;
          rows = rw (o.rows, sent_push m.rows r);
          levels = o.levels ∙ marks_row m.rows r m.levels o.rising;
          rising = rising_more 0 _ _ m.levels (omega (arith, length_push m.rows r)) o.rising;
          fair = All-push (λ x. row_fault m.sizes x ≡ None) m.rows r o.fair fair;
          rows_fit = omega (arith, length_push m.rows r);
          point = ∣ point ∣₁;
        })

    pub over_push : n ≡ with_level m → k ≡ with_level b → Over n k
    over_push n_is k_is =
        rw (n_is, k_is) (record {
          sizes = o.sizes;
          rows = o.rows;
          levels = rw (o.levels, o.rows) (marks_push m.rows m.levels);
          rising = rising_push 0 (length m.rows) m.levels o.rising;
          fair = o.fair;
          rows_fit = o.rows_fit;
          point = o.point;
        })

    pub over_pop : 0 < length b.levels → n ≡ without_level m → k ≡ without_level b → Over n k
    over_pop opened n_is k_is =
        let some : 0 < length m.levels = omega (arith, over_long m b o) in
        let l = newest m.levels in
        let closed = rising_closed (length m.rows) m.levels some o.rising in
        let long = length-take-le l m.rows closed.1 in
        rw (n_is, k_is) (record {
          sizes = o.sizes;
          rows = rw (o.levels, o.rows, marks_newest m.rows m.levels some) (sent_take m.rows l);
          levels = rw o.levels (marks_closed m.rows m.levels some o.rising);
          rising = rw long closed.0;
          fair = All-take (λ x. row_fault m.sizes x ≡ None) l m.rows o.fair;
          rows_fit = omega (arith, o.rows_fit, long, closed.1);
          point = ∥∥₁_map o.point (λ f. (f.0, All-take (Meets f.0) l m.rows f.1));
        })
