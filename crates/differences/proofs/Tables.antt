-- What a table of the greatest differences of rows gives: a point, the greatest values, small entries, and the table of one more row; and that there is one. Assumes nothing.
use Rattle.std.proofs.Common.{◌≡◌, ℕ, ◌*◌, ◌<◌, List, [], ◌∷◌, ◌++◌, ℤ, pos, ◌+ℤ◌, ◌-ℤ◌, nat_abs, ◌≤ℤ◌, ◌<ℤ◌, Some, None, Option, refl, ⊎_elim, arith}
use lib.Signed.{≤ℤ_refl}
use Rattle.std.specs.List.{AllByRecursion}
use Rattle.std.proofs.ByRecursion.{All-push, All-weaker}
use Rattle.std.proofs.lemmas.Int.{ints}
use Rattle.std.proofs.lemmas.Bool.{cases_lt}
use Rattle.theory.specs.declared.row.Side.{Side}
use Rattle.theory.specs.declared.row.Row.{Row}
use Rattle.theory.specs.Rows.{Point, Meets, Feasible, Greatest}
use Rattle.bounds.specs.Tables as tables
use Rattle.bounds.specs.Tables.{Differences, Metric, Allows, with_row}
use Rattle.bounds.proofs.Bounds.{between}
use Rattle.bounds.proofs.Differences.{difference_filled, difference_attained}
use Rattle.bounds.proofs.Gap.{wider, StillMet}
use Rattle.bounds.proofs.Row.{row_keeps, row_enters, row_sound, metric_with_row}
use Rattle.differences.specs.Sides.{first, second, Ends, Difference}
use Rattle.differences.specs.Tabled.{Near, Bounds, Tabled}

-- the row does not contradict the table
abbrev pub Agrees : Differences → Row → Type 0
Agrees D r = (d : ℤ) → D (second r.side) (first r.side) ≡ Some d → pos 0 ≤ℤ (d +ℤ r.c)

-- the table that the row makes of D
abbrev pub next : Differences → Row → Differences
next D r = with_row D (first r.side) (second r.side) r.c

-- the bounds of D and of E are the same
abbrev pub Same : ℕ → Differences → Differences → Type 0
Same n D E = (i j : ℕ) → i < n → j < n → E i j ≡ D i j

all_front : (P : Row → Type 0) (rows : List Row) (r : Row) → AllByRecursion P (rows ++ r ∷ []) → AllByRecursion P rows × P r
all_front P [] r h = (tt, h.0)
all_front P (x ∷ rows) r h = let rest = all_front P rows r h.1 in ((h.0, rest.0), rest.1)

module _ (n reach : ℕ) where
  -- a point that keeps the table meets the rows that are in it
  meets_rows : (D : Differences) (p : Point) → tables.Meets n p D → (rows : List Row) → AllByRecursion (Difference n reach) rows → AllByRecursion (Bounds D) rows → AllByRecursion (Meets p) rows
  meets_rows D p meets [] fair has = tt
  meets_rows D p meets (r ∷ rows) fair has =
      let e = fair.0.ends in
      let row = between (D (first r.side) (second r.side)) r.c _ has.0 (meets _ _ e.first_in e.second_in) in
      (rw (e.is p) row, meets_rows D p meets rows fair.1 has.1)

  -- a point whose small differences are no greater than those of a point that meets the rows
  still_meets : (p q : Point) → StillMet n reach p q → (rows : List Row) → AllByRecursion (Difference n reach) rows → AllByRecursion (Meets p) rows → AllByRecursion (Meets q) rows
  still_meets p q still [] fair meets = tt
  still_meets p q still (r ∷ rows) fair meets =
      let e = fair.0.ends in
      (rw (e.is q) (still _ _ r.c e.first_in e.second_in fair.0.near (rw (e.is p) at meets.0)), still_meets p q still rows fair.1 meets.1)

  module _ (rows : List Row) (D : Differences) (fair : AllByRecursion (Difference n reach) rows) (t : Tabled n rows D) where
    pub table_feasible : Feasible rows
    table_feasible = let f = difference_filled n D t.metric in (f.0, meets_rows D f.0 f.1 rows fair t.has)

    -- a difference comes up to every number that its entry allows
    comes_to : (i j : ℕ) → i < n → j < n → (c : ℤ) → Allows (D i j) c → (p : Point) × AllByRecursion (Meets p) rows × (c ≤ℤ (p i -ℤ p j))
    comes_to i j i_in j_in c a =
        let f = difference_attained n D t.metric i j i_in j_in c a in
        (f.0, meets_rows D f.0 f.1 rows fair t.has, f.2)

    greatest_by : (s : Side) → Ends n s → (o : Option ℤ) → D (first s) (second s) ≡ o → Greatest rows s o
    greatest_by s e None is = λ m.
        let f = comes_to (first s) (second s) e.first_in e.second_in m (rw is tt) in
        (f.0, f.1, rw (e.is f.0) f.2)
    greatest_by s e (Some m) is =
        let f = comes_to (first s) (second s) e.first_in e.second_in m (rw is (≤ℤ_refl m)) in
        (λ p meets. rw (e.is p) (rw is at (t.keeps p meets (first s) (second s) e.first_in e.second_in)), (f.0, f.1, rw (e.is f.0) f.2))

    pub table_greatest : (s : Side) → Ends n s → Greatest rows s (D (first s) (second s))
    table_greatest s e = greatest_by s e (D (first s) (second s)) refl

    near_by : (i j : ℕ) → i < n → j < n → (o : Option ℤ) → D i j ≡ o → Near (n * reach) o
    near_by i j i_in j_in None is = tt
    near_by i j i_in j_in (Some d) is =
        let f = comes_to i j i_in j_in d (rw is (≤ℤ_refl d)) in
        let top : (f.0 i -ℤ f.0 j) ≤ℤ d = rw is at (t.keeps f.0 f.1 i j i_in j_in) in
        let same : f.0 i -ℤ f.0 j ≡ d = omega (arith, ints, f.2) in
        ⊎_elim
        (λ apart.
        let w = wider n reach f.0 i j i_in j_in (rw same apart) in
        let over : (w.0 i -ℤ w.0 j) ≤ℤ d = rw is at (t.keeps w.0 (still_meets f.0 w.0 w.1 rows fair f.1) i j i_in j_in) in
        absurd (omega (arith, ints, w.2)))
        (λ small. small)
        (cases_lt (n * reach) (nat_abs d))

    -- the entries are small, since each is a greatest value of rows with small bounds
    pub table_near : (i j : ℕ) → i < n → j < n → Near (n * reach) (D i j)
    table_near i j i_in j_in = near_by i j i_in j_in (D i j) refl

  module _ (D E : Differences) (same : Same n D E) where
    same_metric : Metric n D → Metric n E
    same_metric m = record {
      zero = λ i i_in. rw (same i i i_in i_in) (m.zero i i_in);
      triangle = λ i k j a b i_in k_in j_in h l. rw (same i j i_in j_in) (m.triangle i k j a b i_in k_in j_in (rw (same i k i_in k_in) at h) (rw (same k j k_in j_in) at l));
    }

    same_has : (rows : List Row) → AllByRecursion (Difference n reach) rows → AllByRecursion (Bounds D) rows → AllByRecursion (Bounds E) rows
    same_has [] fair has = tt
    same_has (r ∷ rows) fair has =
        let e = fair.0.ends in
        (rw (same _ _ e.first_in e.second_in) has.0, same_has rows fair.1 has.1)

    pub same_tabled : (rows : List Row) → AllByRecursion (Difference n reach) rows → Tabled n rows D → Tabled n rows E
    same_tabled rows fair t = record {
      metric = same_metric t.metric;
      has = same_has rows fair t.has;
      keeps = λ p meets i j i_in j_in. rw (same i j i_in j_in) (t.keeps p meets i j i_in j_in);
    }

  module _ (rows : List Row) (D : Differences) (t : Tabled n rows D) (r : Row) (fair_row : Difference n reach r) where
    pub table_with_row : Agrees D r → Tabled n (rows ++ r ∷ []) (next D r)
    table_with_row agrees =
        let e = fair_row.ends in
        record {
          metric = metric_with_row n D _ _ r.c t.metric e.first_in e.second_in agrees;
          has = All-push _ rows r (All-weaker _ _ (λ x h. row_keeps D _ _ r.c _ _ x.c h) rows t.has) (row_enters n D _ _ r.c t.metric e.first_in e.second_in);
          keeps = λ p meets.
              let parts = all_front (Meets p) rows r meets in
              row_sound n D _ _ r.c e.first_in e.second_in p (t.keeps p parts.0) (rw (e.is p) at parts.1);
        }

    -- a point of all the rows shows that the row agrees with the table
    pub table_agrees : Feasible (rows ++ r ∷ []) → Agrees D r
    table_agrees f d is =
        let e = fair_row.ends in
        let parts = all_front (Meets f.0) rows r f.1 in
        let row = rw (e.is f.0) at parts.1 in
        let back = rw is at (t.keeps f.0 parts.0 (second r.side) (first r.side) e.second_in e.first_in) in
        omega (arith, ints, row, back)

    pub table_contradicts : (d : ℤ) → D (second r.side) (first r.side) ≡ Some d → (d +ℤ r.c) <ℤ pos 0 → Feasible (rows ++ r ∷ []) → ⊥
    table_contradicts d is below f = omega (arith, ints, table_agrees f d is)

    pub table_takes : AllByRecursion (Difference n reach) rows → Agrees D r → Feasible (rows ++ r ∷ [])
    table_takes fair agrees = table_feasible (rows ++ r ∷ []) (next D r) (All-push (Difference n reach) rows r fair fair_row) (table_with_row agrees)
