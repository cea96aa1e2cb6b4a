-- A line of the matrix of no rows. Assumes nothing.
use Rattle.std.proofs.Common.{◌≡◌, ℕ, ◌<◌, List, length, set, replicate, ℤ, pos, Some, None, Option, sym, refl, ap, ◌∙◌, ⊎_elim, arith}
use Rattle.std.proofs.lemmas.List.{get_or-set_same, get_or-set_other, get_or-replicate}
use Rattle.std.proofs.lemmas.Bool.{eq-eqb, ne_eqb, cases_eq}
use Rattle.dense.specs.Entries.{of_line, no_bounds}

-- a line without bounds, after its own unknown's place is written
pub diagonal : (line : List (Option ℤ)) (i : ℕ) → i < 64 → line ≡ replicate 64 None → (j : ℕ) → j < 64 → of_line (set line i (Some (pos 0))) j ≡ no_bounds i j
diagonal line i i_in is j j_in =
    let long : length line ≡ 64 = ap length is in
    ⊎_elim
    (λ same. rw (← same, eq-eqb i i refl) (get_or-set_same line i (Some (pos 0)) None (omega arith)))
    (λ other. rw (ne_eqb i j other) (get_or-set_other line i j (Some (pos 0)) None (λ e. other (sym e)) ∙ ap (λ l. of_line l j) is ∙ get_or-replicate 64 j None None j_in))
    (cases_eq i j)
