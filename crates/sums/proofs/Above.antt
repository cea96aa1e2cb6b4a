-- The table of the greatest differences of what rows are sent down as gives, made tight, the greatest values of the rows themselves. Assumes nothing.
use Rattle.std.proofs.Common.{◌≡◌, ℕ, ◌/◌, ◌<◌, List, ℤ, pos, ◌+ℤ◌, ◌≤ℤ◌, Some, None, Option, refl, arith}
use lib.Signed.{≤ℤ_refl}
use Rattle.std.specs.List.{AllByRecursion}
use Rattle.std.proofs.Math.Logic.{∥∥₁_elim}
use Rattle.std.proofs.Props.{props}
use Rattle.std.proofs.lemmas.Int.{ints}
use Rattle.theory.specs.declared.row.Row.{Row}
use Rattle.theory.specs.declared.sizes.Sizes.{Sizes}
use Rattle.theory.specs.Rows.{Point, Meets, Feasible, Greatest, value}
use Rattle.theory.proofs.Unique.{greatest_unique}
use Rattle.bounds.specs.Literals.{Literal, index, mirror, at}
use Rattle.bounds.specs.Tables.{Differences, AtMost, Allows, Keeps}
use Rattle.bounds.specs.Doubling.{code, spread, alone, tight, Mirrored}
use Rattle.bounds.proofs.Attain.{attained}
use Rattle.bounds.proofs.Bounds.{between}
use Rattle.bounds.proofs.Doubling.{code_in, spread_code}
use Rattle.bounds.proofs.Fill.{filled}
use Rattle.bounds.proofs.Signs.{mirrored, at_mirror}
use Rattle.bounds.proofs.Tight.{tight_strong, tight_kept, tight_allows, tight_attained}
use Rattle.differences.specs.Tabled.{Tabled}
use Rattle.differences.proofs.Existence.{table_exists}
use Rattle.differences.proofs.Tables.{table_greatest}
use Rattle.sums.specs.declared.Terms.{Terms}
use Rattle.sums.specs.declared.Terms.TheVariants.{One, Two}
use Rattle.sums.specs.Greatest.{GreatestOf}
use Rattle.sums.specs.Terms.{lit, value_by, Within, differ, sent, greatest_by}
use Rattle.sums.proofs.Sides.{turned, turned_code, turned_back, differ_ends}
use Rattle.sums.proofs.Sent.{Fair, sent_turned, sent_fair, sent_met, sent_meets}

-- the greatest of a mirrored difference is that of the difference
greatest_turned : (rows : List Row) (s t : Literal) (o : Option ℤ) → Greatest (sent rows) (differ (mirror t) (mirror s)) o → Greatest (sent rows) (differ s t) o
greatest_turned rows s t o g = by o g
  where
    turns : (p : Point) → value (turned p) (differ s t) ≡ value p (differ (mirror t) (mirror s))
    turns p = omega (arith, ints, turned_code p s, turned_code p t)

    back : (p : Point) → value (turned p) (differ (mirror t) (mirror s)) ≡ value p (differ s t)
    back p = omega (arith, ints, turned_back p s, turned_back p t)

    by : (o : Option ℤ) → Greatest (sent rows) (differ (mirror t) (mirror s)) o → Greatest (sent rows) (differ s t) o
    by (Some m) g = (λ p h. rw (back p) at (g.0 (turned p) (sent_turned p rows h)), (turned g.1.0, sent_turned g.1.0 rows g.1.1, rw (turns g.1.0) g.1.2))
    by None g = λ m. let w = g m in (turned w.0, sent_turned w.0 rows w.1, rw (turns w.0) w.2)

module _ (z : Sizes) (rows : List Row) (fair : AllByRecursion (Fair z) rows) (D : Differences) (t : Tabled z.unknowns (sent rows) D) where
  abbrev n : ℕ
  n = z.unknowns / 2

  inside : (s : Literal) → index s < n → code s < z.unknowns
  inside s s_in = code_in n z.unknowns s s_in (omega arith)

  greatest_below : (s r : Literal) → index s < n → index r < n → Greatest (sent rows) (differ s r) (D (code s) (code r))
  greatest_below s r s_in r_in = table_greatest z.unknowns z.reach (sent rows) D (sent_fair z rows fair) t (differ s r) (differ_ends n z.unknowns (omega arith) s r s_in r_in)

  coheres : (s r : Literal) → index s < n → index r < n → D (code s) (code r) ≡ D (code (mirror r)) (code (mirror s))
  coheres s r s_in r_in =
      let turned_one = greatest_turned rows s r (D (code (mirror r)) (code (mirror s))) (greatest_below (mirror r) (mirror s) (mirrored (λ k. k < n) r r_in) (mirrored (λ k. k < n) s s_in)) in
      greatest_unique (sent rows) (differ s r) _ _ (greatest_below s r s_in r_in) turned_one

  -- the points that meet the rows are those that keep the tight table
  meets_keeps : (p : Point) → AllByRecursion (Meets p) rows → Keeps n p (tight D)
  meets_keeps p h = tight_kept n D p (λ s r s_in r_in. rw (← spread_code p s, ← spread_code p r) (t.keeps (spread p) (sent_met z p rows fair h) (code s) (code r) (inside s s_in) (inside r r_in)))

  -- where some point meets the rows, halves leave room for one
  mirrored_table : ∥ Feasible rows ∥₁ → Mirrored n D
  mirrored_table point = record {
    zero = λ s s_in. t.metric.zero (code s) (inside s s_in);
    coherent = coheres;
    triangle = λ s r q a b s_in r_in q_in. t.metric.triangle (code s) (code r) (code q) a b (inside s s_in) (inside r r_in) (inside q q_in);
    room = λ s a b s_in h k. ∥∥₁_elim point (hlevel props) (λ p. room p s a b s_in h k);
  }
    where
      room : Feasible rows → (s : Literal) (a b : ℤ) → index s < n → AtMost (alone D s) a → AtMost (alone D (mirror s)) b → pos 0 ≤ℤ (a +ℤ b)
      room point s a b s_in h k =
          let keeps = meets_keeps point.0 point.1 in
          let up = between (alone D s) a (at point.0 s) h (tight_allows n D point.0 keeps s s_in) in
          let down = between (alone D (mirror s)) b (at point.0 (mirror s)) k (tight_allows n D point.0 keeps (mirror s) (mirrored (λ j. j < n) s s_in)) in
          omega (arith, ints, up, down, at_mirror point.0 s)

  keeps_meets : (p : Point) → Keeps n p (tight D) → AllByRecursion (Meets p) rows
  keeps_meets p kept = sent_meets z D p kept rows fair t.has

  module _ (point : ∥ Feasible rows ∥₁) where
    pub point_of_table : Feasible rows
    point_of_table = let f = filled n (tight D) (tight_strong n D (mirrored_table point)).closed in (f.0, keeps_meets f.0 f.1)

    -- terms come up to every number that their bound allows
    comes_to : (ts : Terms) → Within n ts → (x : ℤ) → Allows (greatest_by D ts) x → (p : Point) × AllByRecursion (Meets p) rows × (x ≤ℤ value_by p ts)
    comes_to (One s) w x ok = let f = tight_attained n D (mirrored_table point) (lit s) w x ok in (f.0, keeps_meets f.0 f.1, f.2)
    comes_to (Two s r) w x ok = let f = attained n (tight D) (tight_strong n D (mirrored_table point)) (lit s) (lit r) w.0 w.1 x ok in (f.0, keeps_meets f.0 f.1, f.2)

    stays_under : (ts : Terms) → Within n ts → (p : Point) → AllByRecursion (Meets p) rows → Allows (greatest_by D ts) (value_by p ts)
    stays_under (One s) w p h = tight_allows n D p (meets_keeps p h) (lit s) w
    stays_under (Two s r) w p h = meets_keeps p h (lit s) (lit r) w.0 w.1

    greatest_is : (ts : Terms) → Within n ts → (o : Option ℤ) → greatest_by D ts ≡ o → GreatestOf rows ts o
    greatest_is ts w None is = λ m. comes_to ts w m (rw is tt)
    greatest_is ts w (Some m) is = (λ p h. rw is at (stays_under ts w p h), comes_to ts w m (rw is (≤ℤ_refl m)))

    pub greatest_above : (ts : Terms) → Within n ts → GreatestOf rows ts (greatest_by D ts)
    greatest_above ts w = greatest_is ts w (greatest_by D ts) refl

-- a point of what the rows are sent as shows a point of the rows, where there is some
pub point_above : (z : Sizes) (rows : List Row) → AllByRecursion (Fair z) rows → Feasible (sent rows) → ∥ Feasible rows ∥₁ → Feasible rows
point_above z rows fair below point = let (D, t) = table_exists z.unknowns z.reach (sent rows) (sent_fair z rows fair) below in point_of_table z rows fair D t point
