-- A loop that writes one place of a list after the other. Assumes nothing.
use Rattle.std.proofs.Common.{◌≡◌, ℕ, ◌+◌, ◌<◌, ◌≤◌, ◌≢◌, List, length, get_or, set, sym, ◌∙◌, subst, arith, below_more}
use Rattle.std.proofs.lemmas.List.{length-set, get_or-set_same, get_or-set_other}

-- the first n places of xs have P, and the others hold what they held in old
pub record Done {X : Type 0} (d : X) (P : ℕ → X → Type 0) (old : List X) (n : ℕ) (xs : List X) : Type 0 where
  pub long : length xs ≡ length old
  pub done : (k : ℕ) → k < n → P k (get_or xs k d)
  pub same : (k : ℕ) → n ≤ k → get_or xs k d ≡ get_or old k d

module _ {X : Type 0} {d : X} {P : ℕ → X → Type 0} {old : List X} {n : ℕ} {xs : List X} (n_in : n < length old) (so_far : Done d P old n xs) where
  -- place n is written too
  pub done_more : (x : X) → P n x → Done d P old (n + 1) (set xs n x)
  done_more x here = record {
    long = length-set xs n x ∙ so_far.long;
    done = below_more _ _
        (λ k l. let ne : k ≢ n = omega arith in subst (P k) (sym (get_or-set_other xs n k x d ne)) (so_far.done k l))
        (subst (P n) (sym (get_or-set_same xs n x d (omega (arith, so_far.long)))) here);
    same = λ k l. let ne : k ≢ n = omega arith in get_or-set_other xs n k x d ne ∙ so_far.same k (omega arith);
  }
