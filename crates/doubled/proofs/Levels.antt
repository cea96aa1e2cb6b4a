-- The levels below beside those here, when a row comes, a level opens and the newest level closes. Assumes nothing.
use Rattle.std.specs.Prelude.{◌≡◌, ℕ, ◌-◌, ◌<◌, ◌≤◌, List, [], ◌∷◌, ◌++◌, length, take, drop, refl}
use Rattle.std.proofs.Common.{sym, ap, subst, ◌∙◌, arith, take-append-drop}
use Rattle.std.proofs.lemmas.List.{length-map, take-append-le, take-take, take_all, take_at, take_more, take-map, get_or-map, map_push}
use Rattle.theory.specs.declared.row.Row.{Row}
use Rattle.theory.specs.Meaning.{newest}
use Rattle.doubled.specs.State.{marks, Rising}
use Rattle.sums.specs.Terms.{sent}
use Rattle.sums.proofs.Sent.{sent_append}

pub rising_more : (low top more : ℕ) (ls : List ℕ) → top ≤ more → Rising low ls top → Rising low ls more
rising_more low top more [] l h = omega arith
rising_more low top more (x ∷ ls) l h = (h.0, rising_more x top more ls l h.1)

pub rising_push : (low top : ℕ) (ls : List ℕ) → Rising low ls top → Rising low (ls ++ top ∷ []) top
rising_push low top [] h = (h, omega arith)
rising_push low top (x ∷ ls) h = (h.0, rising_push x top ls h.1)

rising_pop : (low top l : ℕ) (ls : List ℕ) → Rising low (ls ++ l ∷ []) top → Rising low ls l × (l ≤ top)
rising_pop low top l [] h = (h.0, h.1)
rising_pop low top l (x ∷ ls) h = let rest = rising_pop x top l ls h.1 in ((h.0, rest.0), rest.1)

-- a list and its last
last_split : (ls : List ℕ) → 0 < length ls → take (length ls - 1) ls ++ newest ls ∷ [] ≡ ls
last_split ls h = sym (take_more ls (length ls - 1) 0 (omega arith)) ∙ take_all _ ls (omega arith)

pub rising_closed : (top : ℕ) (ls : List ℕ) → 0 < length ls → Rising 0 ls top → Rising 0 (take (length ls - 1) ls) (newest ls) × (newest ls ≤ top)
rising_closed top ls some h = rising_pop 0 top (newest ls) (take (length ls - 1) ls) (subst (λ x. Rising 0 x top) (sym (last_split ls some)) h)

rising_low : (low top : ℕ) (ls : List ℕ) → Rising low ls top → low ≤ top
rising_low low top [] h = h
rising_low low top (l ∷ ls) h = omega (arith, h.0, rising_low l top ls h.1)

-- the levels below depend on the rows of their time alone
marks_same : (xs ys : List Row) (low top : ℕ) (ls : List ℕ) → Rising low ls top → ((k : ℕ) → k ≤ top → take k xs ≡ take k ys) → marks xs ls ≡ marks ys ls
marks_same xs ys low top [] h same = refl
marks_same xs ys low top (l ∷ ls) h same =
    let here = same l (rising_low l top ls h.1) in
    let rest = marks_same xs ys l top ls h.1 same in
    λ i. length (sent (here i)) ∷ rest i

pub marks_row : (rows : List Row) (r : Row) (ls : List ℕ) → Rising 0 ls (length rows) → marks rows ls ≡ marks (rows ++ r ∷ []) ls
marks_row rows r ls h = marks_same rows (rows ++ r ∷ []) 0 (length rows) ls h (λ k l. sym (take-append-le k rows (r ∷ []) l))

pub marks_push : (rows : List Row) (ls : List ℕ) → marks rows ls ++ length (sent rows) ∷ [] ≡ marks rows (ls ++ length rows ∷ [])
marks_push rows ls =
    let all : length (sent (take (length rows) rows)) ≡ length (sent rows) = ap (λ xs. length (sent xs)) (take_all (length rows) rows (omega arith)) in
    sym (map_push (λ l. length (sent (take l rows))) ls (length rows) ∙ ap (λ k. marks rows ls ++ k ∷ []) all)

-- the rows that stood below when a level opened are those that the rows of the time were sent as
pub sent_take : (rows : List Row) (k : ℕ) → take (length (sent (take k rows))) (sent rows) ≡ sent (take k rows)
sent_take rows k =
    let parts : sent rows ≡ sent (take k rows) ++ sent (drop k rows) = ap sent (sym (take-append-drop k rows)) ∙ sent_append (take k rows) (drop k rows) in
    ap (take (length (sent (take k rows)))) parts ∙ take_at (sent (take k rows)) (sent (drop k rows)) _ refl

pub marks_newest : (rows : List Row) (ls : List ℕ) → 0 < length ls → newest (marks rows ls) ≡ length (sent (take (newest ls) rows))
marks_newest rows ls some = rw (length-map ls (λ l. length (sent (take l rows)))) (get_or-map (λ l. length (sent (take l rows))) ls (length ls - 1) 0 0 (omega arith))

pub marks_closed : (rows : List Row) (ls : List ℕ) → 0 < length ls → Rising 0 ls (length rows) → take (length (marks rows ls) - 1) (marks rows ls) ≡ marks (take (newest ls) rows) (take (length ls - 1) ls)
marks_closed rows ls some h =
    let closed = rising_closed (length rows) ls some h in
    let shorter = take-map (λ l. length (sent (take l rows))) (length ls - 1) ls in
    let same = marks_same rows (take (newest ls) rows) 0 (newest ls) (take (length ls - 1) ls) closed.0 (λ k l. sym (take-take k (newest ls) rows l)) in
    rw (length-map ls (λ l. length (sent (take l rows)))) (shorter ∙ same)
