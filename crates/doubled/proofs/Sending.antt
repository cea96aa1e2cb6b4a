-- The two images of a row between two unknowns are accepted below, one after the other, where some point is left. Assumes nothing.
use Rattle.std.proofs.Common.{◌≡◌, ℕ, ◌+◌, ◌<◌, ◌≤◌, [], ◌∷◌, ◌++◌, length, ℤ, nat_abs, sym, refl, ◌∙◌, append_assoc, arith}
use Rattle.std.proofs.lemmas.List.{length_push}
use Rattle.theory.specs.Meaning.{Meaning, with_row}
use Rattle.theory.specs.Rows.{Meets, Feasible}
use Rattle.bounds.specs.Literals.{Literal, index, mirror}
use Rattle.bounds.proofs.Doubling.{code_in, code_apart}
use Rattle.bounds.proofs.Signs.{mirrored}
use Rattle.doubled.specs.State.{Takes}
use Rattle.sums.specs.Terms.{row_of, half_sizes}
use Rattle.sums.proofs.Sent.{all_parts}

module _ (m : Meaning) (s t : Literal) (c : ℤ) where
  abbrev n : ℕ
  n = (half_sizes m.sizes).unknowns

  module _ (near : nat_abs c ≤ (half_sizes m.sizes).reach) (room : length m.rows + 2 ≤ m.sizes.space) (s_in : index s < n) (t_in : index t < n) (apart : index s ≡ index t → ⊥) (point : Feasible (m.rows ++ row_of s t c ∷ row_of (mirror t) (mirror s) c ∷ [])) where
    regrouped : Feasible ((m.rows ++ row_of s t c ∷ []) ++ row_of (mirror t) (mirror s) c ∷ [])
    regrouped = rw (append_assoc m.rows (row_of s t c ∷ []) (row_of (mirror t) (mirror s) c ∷ [])) point

    pub takes_difference : Takes m s t c
    takes_difference = record {
      first = code_in n m.sizes.unknowns s s_in (omega arith);
      second = code_in n m.sizes.unknowns t t_in (omega arith);
      apart = code_apart s t apart;
      near = omega arith;
      room = omega arith;
      point = (regrouped.0, (all_parts (Meets regrouped.0) (m.rows ++ row_of s t c ∷ []) _ regrouped.1).0);
    }

    mirrors_apart : index (mirror t) ≡ index (mirror s) → ⊥
    mirrors_apart e = apart (sym (same s) ∙ sym e ∙ same t)
      where
        same : (r : Literal) → index (mirror r) ≡ index r
        same r = mirrored (λ k. k ≡ index r) r refl

    pub takes_mirrored : Takes (with_row m (row_of s t c)) (mirror t) (mirror s) c
    takes_mirrored = record {
      first = code_in n m.sizes.unknowns (mirror t) (mirrored (λ k. k < n) t t_in) (omega arith);
      second = code_in n m.sizes.unknowns (mirror s) (mirrored (λ k. k < n) s s_in) (omega arith);
      apart = code_apart (mirror t) (mirror s) mirrors_apart;
      near = omega arith;
      room = omega (arith, length_push m.rows (row_of s t c));
      point = regrouped;
    }
