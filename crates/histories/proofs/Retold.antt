-- A new engine that is told what stands after a run takes all of it. Assumes nothing.
use Rattle.std.proofs.Common.{◌≡◌, ℕ, ◌+◌, ◌-◌, ◌<◌, ◌≤◌, List, [], ◌∷◌, ◌++◌, map, length, take, drop, Ok, sym, refl, ap, subst, arith}
use Rattle.std.specs.List.{AllByRecursion}
use Rattle.std.proofs.lemmas.List.{append-nil, append_assoc, length-append, map-append, take-append-drop, take-take, length-take-le, take_at, drop-take, length-map, length-drop}
use Rattle.std.proofs.ByRecursion.{All-take}
use Rattle.std.proofs.lemmas.Bool.{lt-leb}
use Rattle.theory.specs.declared.row.Row.{Row}
use Rattle.theory.specs.declared.sizes.Sizes.{Sizes}
use Rattle.theory.specs.Rows.{Feasible, Meets}
use Rattle.theory.specs.Rules.{row_fault}
use Rattle.theory.specs.Meaning.{Meaning, empty}
use Rattle.theory.proofs.Faults.{both_passed}
use Rattle.histories.specs.declared.Call.{Call}
use Rattle.histories.specs.declared.Call.TheVariants.{Push, Offer}
use Rattle.histories.specs.Runs.{Run}
use Rattle.histories.specs.Told.{part, told_from, told, all_done, done_count, Rising}
use Rattle.histories.proofs.Joins.{run_append}
use Rattle.histories.proofs.Orderly.{Passed, Orderly, rising_bound}

abbrev standing : Sizes → List Row → List ℕ → Meaning
standing z rows levels = record { rows = rows; levels = levels; sizes = z }

-- a list of rows that may stand
record Fit (z : Sizes) (rows : List Row) : Type 0 where
  point : Feasible rows
  passed : AllByRecursion (Passed z) rows
  room : length rows ≤ z.space

fit_take : (z : Sizes) (n : ℕ) (rows : List Row) → n ≤ length rows → Fit z rows → Fit z (take n rows)
fit_take z n rows within f = record {
  point = (f.point.0, All-take (Meets f.point.0) n rows f.point.1);
  passed = All-take (Passed z) n rows f.passed;
  room = let r = f.room in omega (arith, length-take-le n rows within);
}

-- what comes before the rest of a list that may stand may stand
fit_front : (z : Sizes) (xs ys : List Row) → Fit z (xs ++ ys) → Fit z xs
fit_front z xs ys f = subst (Fit z) (take_at xs ys (length xs) refl) (fit_take z (length xs) (xs ++ ys) (simp length-append (omega arith)) f)

all_last : (P : Row → Type 0) (xs : List Row) (x : Row) → AllByRecursion P (xs ++ x ∷ []) → P x
all_last P [] x h = h.0
all_last P (y ∷ xs) x h = all_last P xs x h.1

-- rows that may stand after those that stand are taken one by one
offers_taken : (z : Sizes) (ls : List ℕ) (front rest : List Row) → Fit z (front ++ rest) → Run (standing z front ls) (map Offer rest) (all_done (map Offer rest)) (standing z (front ++ rest) ls)
offers_taken z ls front [] f = ap (λ rows. standing z rows ls) (sym (append-nil front))
offers_taken z ls front (r ∷ rest) f =
    let joined : (front ++ r ∷ []) ++ rest ≡ front ++ r ∷ rest = append_assoc front (r ∷ []) rest in
    let g = subst (Fit z) (sym joined) f in
    let one = fit_front z (front ++ r ∷ []) rest g in
    let room = one.room in
    let short : length front < z.space = omega (arith, length-append front (r ∷ [])) in
    let pass = both_passed (row_fault z r) _ _ (all_last (Passed z) front r one.passed) (lt-leb z.space (length front) short) in
    (standing z (front ++ r ∷ []) ls, (Ok tt, refl, (pass, one.point, refl)), subst (λ rows. Run (standing z (front ++ r ∷ []) ls) (map Offer rest) (all_done (map Offer rest)) (standing z rows ls)) joined (offers_taken z ls (front ++ r ∷ []) rest g))

-- the rows from place k on
rest_taken : (z : Sizes) (ls : List ℕ) (rows : List Row) (k : ℕ) → k ≤ length rows → Fit z rows → Run (standing z (take k rows) ls) (map Offer (drop k rows)) (all_done (map Offer (drop k rows))) (standing z rows ls)
rest_taken z ls rows k within f =
    let whole = take-append-drop k rows in
    subst (λ xs. Run (standing z (take k rows) ls) (map Offer (drop k rows)) (all_done (map Offer (drop k rows))) (standing z xs ls)) whole
    (offers_taken z ls (take k rows) (drop k rows) (subst (Fit z) (sym whole) f))

part_is : (k l : ℕ) (rows : List Row) → k ≤ l → drop k (take l rows) ≡ part k l rows
part_is k l rows le = let more : l ≡ k + (l - k) = omega arith in subst (λ n. drop k (take n rows) ≡ part k l rows) (sym more) (drop-take k (l - k) rows)

told_taken : (z : Sizes) (rows : List Row) → Fit z rows → (ls open' : List ℕ) (k : ℕ) → Rising k ls (length rows) → length (open' ++ ls) ≤ z.depth → Run (standing z (take k rows) open') (told_from k rows ls) (all_done (told_from k rows ls)) (standing z rows (open' ++ ls))
told_taken z rows f [] open' k up room =
    subst (λ os. Run (standing z (take k rows) open') (map Offer (drop k rows)) (all_done (map Offer (drop k rows))) (standing z rows os)) (sym (append-nil open')) (rest_taken z open' rows k up f)
told_taken z rows f (l ∷ ls) open' k up room =
    let high = rising_bound l ls (length rows) up.1 in
    let long : length (take l rows) ≡ l = length-take-le l rows high in
    let same : take k (take l rows) ≡ take k rows = take-take k l rows up.0 in
    let offers = map Offer (part k l rows) in
    let cut : drop k (take l rows) ≡ part k l rows = part_is k l rows up.0 in
    let first' = subst (λ xs. Run (standing z xs open') (map Offer (drop k (take l rows))) (all_done (map Offer (drop k (take l rows)))) (standing z (take l rows) open')) same (rest_taken z open' (take l rows) k (omega (arith, long, up.0)) (fit_take z l rows high f)) in
    let first = subst (λ xs. Run (standing z (take k rows) open') (map Offer xs) (all_done (map Offer xs)) (standing z (take l rows) open')) cut first' in
    let joined : (open' ++ l ∷ []) ++ ls ≡ open' ++ l ∷ ls = append_assoc open' (l ∷ []) ls in
    let rest = told_taken z rows f ls (open' ++ l ∷ []) l up.1 (subst (λ os. length os ≤ z.depth) (sym joined) room) in
    let opened : length open' < z.depth = omega (arith, length-append open' (l ∷ ls)) in
    let pushed : standing z (take l rows) (open' ++ l ∷ []) ≡ standing z (take l rows) (open' ++ length (take l rows) ∷ []) = ap (λ n. standing z (take l rows) (open' ++ n ∷ [])) (sym long) in
    let tail = subst (λ os. Run (standing z (take l rows) (open' ++ l ∷ [])) (told_from l rows ls) (all_done (told_from l rows ls)) (standing z rows os)) joined rest in
    let dones = map-append (λ _. _) offers (Push ∷ told_from l rows ls) in
    subst (λ bs. Run (standing z (take k rows) open') (offers ++ Push ∷ told_from l rows ls) bs (standing z rows (open' ++ l ∷ ls))) (sym dones)
    (run_append _ (standing z (take l rows) open') _ offers (Push ∷ told_from l rows ls) (all_done offers) _ first
    (standing z (take l rows) (open' ++ l ∷ []), (Ok tt, refl, (opened, pushed)), tail))

pub retold : (z : Sizes) (m : Meaning) → Orderly z m → Run (empty z) (told m) (all_done (told m)) m
retold z m h = subst (λ y. Run (empty y) (told m) (all_done (told m)) m) h.fixed (told_taken m.sizes m.rows (record { point = h.point; passed = h.passed; room = h.rows_fit }) m.levels [] 0 h.rising h.levels_fit)

pub done_count_all_done : (cs : List Call) → done_count (all_done cs) ≡ length cs
done_count_all_done [] = refl
done_count_all_done (c ∷ cs) = let rest = done_count_all_done cs in omega arith

told_length : (rows : List Row) (ls : List ℕ) (k : ℕ) → Rising k ls (length rows) → length (told_from k rows ls) + k ≡ length rows + length ls
told_length rows [] k up = let n = length-map (drop k rows) Offer in let d = length-drop k rows in omega arith
told_length rows (l ∷ ls) k up =
    let rest = told_length rows ls l up.1 in
    let high = rising_bound l ls (length rows) up.1 in
    let both = length-append (map Offer (part k l rows)) (Push ∷ told_from l rows ls) in
    let n = length-map (part k l rows) Offer in
    let long = length-take-le (l - k) (drop k rows) (omega (arith, length-drop k rows)) in
    omega arith

-- as many calls tell what stands as there are rows and levels
pub told_count : (z : Sizes) (m : Meaning) → Orderly z m → done_count (all_done (told m)) ≡ length m.rows + length m.levels
told_count z m h = let n = done_count_all_done (told m) in let l = told_length m.rows m.levels 0 h.rising in omega arith
