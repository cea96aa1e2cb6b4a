-- Levels still rise with their age when one more opens. Assumes nothing.
use Rattle.std.proofs.Common.{ℕ, List, [], ◌∷◌, ◌++◌, length, ⊎_elim, arith}
use Rattle.std.proofs.lemmas.List.{length_push, get_or_push, get_or_append_left}
use Rattle.std.proofs.lemmas.Bool.{cases_lt}
use Rattle.trail.specs.Levels.{Rising}

pub rising_open : (ls : List ℕ) (n : ℕ) → Rising ls n → Rising (ls ++ n ∷ []) n
rising_open ls n rising i j older within =
    let long = length_push ls n in
    ⊎_elim
    (λ old.
    let r = rising i j older old in
    let at_i = get_or_append_left ls (n ∷ []) 0 i (omega arith) in
    let at_j = get_or_append_left ls (n ∷ []) 0 j old in
    (omega arith, omega arith))
    (λ new.
    let at_j = get_or_push ls n 0 j (omega arith) in
    ⊎_elim
    (λ old. let r = rising i i (omega arith) old in let at_i = get_or_append_left ls (n ∷ []) 0 i old in (omega arith, omega arith))
    (λ also. let at_i = get_or_push ls n 0 i (omega arith) in (omega arith, omega arith))
    (cases_lt i (length ls)))
    (cases_lt j (length ls))
