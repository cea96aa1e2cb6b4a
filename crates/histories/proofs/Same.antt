-- A step and a run have one outcome, and a refused step changes nothing. Assumes nothing.
use Rattle.std.proofs.Common.{◌≡◌, ℕ, List, [], ◌∷◌, Ok, Err, sym, refl, ap, ◌∙◌, subst, arith}
use Rattle.theory.specs.Meaning.{Meaning}
use Rattle.theory.proofs.Unique.{put_unique, push_unique, pop_unique, tightest_unique, row_unique}
use Rattle.theory.specs.declared.refusal.Refusal.{Refusal}
use Rattle.histories.specs.declared.Call.{Call}
use Rattle.histories.specs.declared.Call.TheVariants.{Push, Pop, Offer, Tightest, RowAt}
use Rattle.histories.specs.declared.Reply.{Reply}
use Rattle.histories.specs.Steps.{Answer, Step, done_answer, value_answer, row_answer}
use Rattle.histories.specs.Runs.{Run}

-- answers that tell equal results are equal
module _ {R : Type 0} {a b : Answer} {k n : Meaning} (tell : R → Answer) where
  both : (r s : R) → a ≡ tell r → b ≡ tell s → (r ≡ s) × (k ≡ n) → (a ≡ b) × (k ≡ n)
  both r s p q same = (p ∙ ap tell same.0 ∙ sym q, same.1)

pub step_unique : (m k n : Meaning) (c : Call) (a b : Answer) → Step m c a k → Step m c b n → (a ≡ b) × (k ≡ n)
step_unique m k n Push a b s t = both done_answer s.0 t.0 s.1 t.1 (push_unique m s.0 t.0 k n s.2 t.2)
step_unique m k n Pop a b s t = both done_answer s.0 t.0 s.1 t.1 (pop_unique m s.0 t.0 k n s.2 t.2)
step_unique m k n (Offer r) a b s t = both done_answer s.0 t.0 s.1 t.1 (put_unique m r s.0 t.0 k n s.2 t.2)
step_unique m k n (Tightest x) a b s t = both value_answer s.0 t.0 s.1 t.1 (tightest_unique m x s.0 t.0 k n s.2 t.2)
step_unique m k n (RowAt i) a b s t = both row_answer s.0 t.0 s.1 t.1 (row_unique m i s.0 t.0 k n s.2 t.2)

pub run_unique : (m k n : Meaning) (cs : List Call) (as' bs : List Answer) → Run m cs as' k → Run m cs bs n → (as' ≡ bs) × (k ≡ n)
run_unique m k n [] [] [] r s = (refl, sym r ∙ s)
run_unique m k n [] [] (b ∷ bs) r s = absurd s
run_unique m k n [] (a ∷ as') bs r s = absurd r
run_unique m k n (c ∷ cs) [] bs r s = absurd r
run_unique m k n (c ∷ cs) (a ∷ as') [] r s = absurd s
run_unique m k n (c ∷ cs) (a ∷ as') (b ∷ bs) r s =
    let now' = step_unique m r.0 s.0 c a b r.1 s.1 in
    let rest = run_unique s.0 k n cs as' bs (subst (λ x. Run x cs as' k) now'.1 r.2) s.2 in
    ((λ i. now'.0 i ∷ rest.0 i), rest.1)

clash : {x : Answer} {e : Refusal} {r : Reply} → Err e ≡ x → x ≡ Ok r → ⊥
clash p q = let z : ◌≡◌ {A = ℕ} 0 1 = cc in omega arith

pub refused_keeps : (m n : Meaning) (c : Call) (e : Refusal) → Step m c (Err e) n → n ≡ m
refused_keeps m n Push e (Ok x, p, h) = absurd (clash p refl)
refused_keeps m n Push e (Err x, p, h) = h.2
refused_keeps m n Pop e (Ok x, p, h) = absurd (clash p refl)
refused_keeps m n Pop e (Err x, p, h) = h.2
refused_keeps m n (Offer r) e (Ok x, p, h) = absurd (clash p refl)
refused_keeps m n (Offer r) e (Err x, p, h) = h.1
refused_keeps m n (Tightest s) e (Ok x, p, h) = h.2
refused_keeps m n (Tightest s) e (Err x, p, h) = h.1
refused_keeps m n (RowAt k) e (Ok x, p, h) = h.2
refused_keeps m n (RowAt k) e (Err x, p, h) = h.2
