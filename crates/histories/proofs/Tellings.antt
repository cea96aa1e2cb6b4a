-- The steps of the loop that writes out what tells a new engine. Assumes nothing.
use Rattle.std.proofs.Common.{ℕ, ◌+◌, ◌<◌, ◌≤◌, List, ◌∷◌, length, get_or, drop, subst}
use Rattle.std.proofs.lemmas.List.{drop_more}
use Rattle.histories.specs.Told.{Rising}
use Rattle.histories.proofs.Orderly.{rising_bound}

-- the next level lies between the place that was reached and the end, and the levels after it rise on
pub rising_next : (k : ℕ) (ls : List ℕ) (n i : ℕ) → i < length ls → Rising k (drop i ls) n → (k ≤ get_or ls i 0) × (get_or ls i 0 ≤ n) × Rising (get_or ls i 0) (drop (i + 1) ls) n
rising_next k ls n i within up =
    let here : Rising k (get_or ls i 0 ∷ drop (i + 1) ls) n = subst (λ xs. Rising k xs n) (drop_more ls i 0 within) up in
    (here.0, rising_bound (get_or ls i 0) (drop (i + 1) ls) n here.1, here.1)
