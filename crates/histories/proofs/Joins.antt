-- Runs put one after the other. Assumes nothing.
use Rattle.std.proofs.Common.{◌≡◌, ℕ, ◌+◌, ◌<◌, List, [], ◌∷◌, ◌++◌, length, get_or, take, sym, refl, ap, ◌∙◌, subst}
use Rattle.std.proofs.lemmas.List.{take_more}
use Rattle.theory.specs.Meaning.{Meaning}
use Rattle.histories.specs.declared.Call.{Call}
use Rattle.histories.specs.Steps.{Answer, Step}
use Rattle.histories.specs.Runs.{Run}

pub run_append : (m k n : Meaning) (cs ds : List Call) (bs ans : List Answer) → Run m cs bs k → Run k ds ans n → Run m (cs ++ ds) (bs ++ ans) n
run_append m k n [] ds [] ans r s = subst (λ x. Run x ds ans n) (sym r) s
run_append m k n [] ds (b ∷ bs) ans r s = absurd r
run_append m k n (c ∷ cs) ds [] ans r s = absurd r
run_append m k n (c ∷ cs) ds (b ∷ bs) ans r s = (r.0, r.1, run_append r.0 k n cs ds bs ans r.2 s)

-- one call more of a list of calls
pub run_more : (m k n : Meaning) (cs : List Call) (i : ℕ) (c : Call) (bs bs' : List Answer) (a : Answer) → i < length cs → c ≡ get_or cs i c → Run m (take i cs) bs k → Step k c a n → bs' ≡ bs ++ a ∷ [] → Run m (take (i + 1) cs) bs' n
run_more m k n cs i c bs bs' a within read r s e =
    let more : take (i + 1) cs ≡ take i cs ++ c ∷ [] = take_more cs i c within ∙ ap (λ x. take i cs ++ x ∷ []) (sym read) in
    subst (λ xs. Run m xs bs' n) (sym more) (subst (λ ys. Run m (take i cs ++ c ∷ []) ys n) (sym e) (run_append m k n (take i cs) (c ∷ []) bs (a ∷ []) r (n, s, refl)))
