-- What every run from an empty meaning keeps: the rows have a point and pass their rules, the counts fit the sizes, and the levels rise to the number of rows. Assumes nothing.
use Rattle.std.proofs.Common.{◌≡◌, ℕ, ◌+◌, ◌-◌, ◌<◌, ◌≤◌, List, [], ◌∷◌, ◌++◌, length, take, pos, None, Ok, Err, sym, refl, ap, ◌∙◌, subst, arith}
use Rattle.std.specs.List.{AllByRecursion}
use Rattle.std.proofs.lemmas.List.{length_push, length-take, length-take-le, take_more, take_all}
use Rattle.std.proofs.ByRecursion.{All-push, All-take}
use Rattle.std.proofs.lemmas.Bool.{leb-false}
use Rattle.theory.specs.declared.row.Row.{Row}
use Rattle.theory.specs.declared.sizes.Sizes.{Sizes}
use Rattle.theory.specs.Rows.{Feasible, Meets}
use Rattle.theory.specs.Rules.{row_fault}
use Rattle.theory.specs.Meaning.{Meaning, empty, newest, with_row, with_level, without_level}
use Rattle.theory.specs.Calls.{put_fault}
use Rattle.theory.proofs.Faults.{passed_both}
use Rattle.histories.specs.declared.Call.{Call}
use Rattle.histories.specs.declared.Call.TheVariants.{Push, Pop, Offer, Tightest, RowAt}
use Rattle.histories.specs.Steps.{Answer, Step}
use Rattle.histories.specs.Runs.{Run}
use Rattle.histories.specs.Told.{Rising}

abbrev pub Passed : Sizes → Row → Type 0
Passed z r = row_fault z r ≡ None

pub record Orderly (z : Sizes) (m : Meaning) : Type 0 where
  pub fixed : m.sizes ≡ z
  pub point : Feasible m.rows
  pub passed : AllByRecursion (Passed m.sizes) m.rows
  pub rows_fit : length m.rows ≤ m.sizes.space
  pub levels_fit : length m.levels ≤ m.sizes.depth
  pub rising : Rising 0 m.levels (length m.rows)

pub rising_bound : (k : ℕ) (ls : List ℕ) (n : ℕ) → Rising k ls n → k ≤ n
rising_bound k [] n h = h
rising_bound k (l ∷ ls) n h = let more = rising_bound l ls n h.1 in omega arith

rising_higher : (k : ℕ) (ls : List ℕ) (n n' : ℕ) → n ≤ n' → Rising k ls n → Rising k ls n'
rising_higher k [] n n' le h = omega arith
rising_higher k (l ∷ ls) n n' le h = (h.0, rising_higher l ls n n' le h.1)

rising_push : (k : ℕ) (ls : List ℕ) (n : ℕ) → Rising k ls n → Rising k (ls ++ n ∷ []) n
rising_push k [] n h = (h, omega arith)
rising_push k (l ∷ ls) n h = (h.0, rising_push l ls n h.1)

rising_pop : (k : ℕ) (ls : List ℕ) (l n : ℕ) → Rising k (ls ++ l ∷ []) n → Rising k ls l × (l ≤ n)
rising_pop k [] l n h = (h.0, h.1)
rising_pop k (x ∷ ls) l n h = let rest = rising_pop x ls l n h.1 in ((h.0, rest.0), rest.1)

-- a list that is not empty, apart from its last
last_apart : (ls : List ℕ) → 0 < length ls → ls ≡ take (length ls - 1) ls ++ newest ls ∷ []
last_apart ls h =
    let back : length ls - 1 + 1 ≡ length ls = omega arith in
    sym (take_all (length ls) ls (omega arith)) ∙ ap (λ n. take n ls) (sym back) ∙ take_more ls (length ls - 1) 0 (omega arith)

pub orderly_empty : (z : Sizes) → Orderly z (empty z)
orderly_empty z = record { fixed = refl; point = (λ _. pos 0, tt); passed = tt; rows_fit = omega arith; levels_fit = omega arith; rising = omega arith }

orderly_row : (z : Sizes) (m : Meaning) (r : Row) → put_fault m r ≡ None → Feasible (m.rows ++ r ∷ []) → Orderly z m → Orderly z (with_row m r)
orderly_row z m r fault point h =
    let parts = passed_both (row_fault m.sizes r) _ _ fault in
    record {
      fixed = h.fixed;
      point = point;
      passed = All-push (Passed m.sizes) m.rows r h.passed parts.0;
      rows_fit = let room = leb-false _ _ parts.1 in simp length_push (omega arith);
      levels_fit = h.levels_fit;
      rising = rising_higher 0 m.levels (length m.rows) _ (simp length_push (omega arith)) h.rising;
    }

orderly_level : (z : Sizes) (m : Meaning) → length m.levels < m.sizes.depth → Orderly z m → Orderly z (with_level m)
orderly_level z m room h = record {
  fixed = h.fixed;
  point = h.point;
  passed = h.passed;
  rows_fit = h.rows_fit;
  levels_fit = simp length_push (omega arith);
  rising = rising_push 0 m.levels (length m.rows) h.rising;
}

orderly_pop : (z : Sizes) (m : Meaning) → 0 < length m.levels → Orderly z m → Orderly z (without_level m)
orderly_pop z m some h =
    let n = newest m.levels in
    let apart = subst (λ ls. Rising 0 ls (length m.rows)) (last_apart m.levels some) h.rising in
    let below = rising_pop 0 (take (length m.levels - 1) m.levels) n (length m.rows) apart in
    let long : length (take n m.rows) ≡ n = length-take-le n m.rows below.1 in
    record {
      fixed = h.fixed;
      point = (h.point.0, All-take (Meets h.point.0) n m.rows h.point.1);
      passed = All-take (Passed m.sizes) n m.rows h.passed;
      rows_fit = let fit = h.rows_fit in omega (arith, long, below.1);
      levels_fit = let fit = h.levels_fit in simp length-take (omega arith);
      rising = subst (Rising 0 (take (length m.levels - 1) m.levels)) (sym long) below.0;
    }

pub step_orderly : (z : Sizes) (m n : Meaning) (c : Call) (a : Answer) → Step m c a n → Orderly z m → Orderly z n
step_orderly z m n Push a (Ok x, p, s) h = subst (Orderly z) (sym s.1) (orderly_level z m s.0 h)
step_orderly z m n Push a (Err x, p, s) h = subst (Orderly z) (sym s.2) h
step_orderly z m n Pop a (Ok x, p, s) h = subst (Orderly z) (sym s.1) (orderly_pop z m s.0 h)
step_orderly z m n Pop a (Err x, p, s) h = subst (Orderly z) (sym s.2) h
step_orderly z m n (Offer r) a (Ok x, p, s) h = subst (Orderly z) (sym s.2) (orderly_row z m r s.0 s.1 h)
step_orderly z m n (Offer r) a (Err x, p, s) h = subst (Orderly z) (sym s.1) h
step_orderly z m n (Tightest l) a (Ok x, p, s) h = subst (Orderly z) (sym s.2) h
step_orderly z m n (Tightest l) a (Err x, p, s) h = subst (Orderly z) (sym s.1) h
step_orderly z m n (RowAt k) a (Ok x, p, s) h = subst (Orderly z) (sym s.2) h
step_orderly z m n (RowAt k) a (Err x, p, s) h = subst (Orderly z) (sym s.2) h

pub run_orderly : (z : Sizes) (m n : Meaning) (cs : List Call) (bs : List Answer) → Run m cs bs n → Orderly z m → Orderly z n
run_orderly z m n [] [] r h = subst (Orderly z) r h
run_orderly z m n [] (b ∷ bs) r h = absurd r
run_orderly z m n (c ∷ cs) [] r h = absurd r
run_orderly z m n (c ∷ cs) (b ∷ bs) r h = run_orderly z r.0 n cs bs r.2 (step_orderly z m r.0 c b r.1 h)
