-- The scan for the nearest unknown, from one unknown to the next. Assumes nothing.
use Rattle.std.proofs.Common.{◌≡◌, ℕ, ◌<◌, List, [], ◌∷◌, ◌++◌, length, get_or, ℤ, ◌≤ℤ◌, ◌<ℤ◌, Some, None, Option, sym, refl, ◌∙◌, subst, inl, inr, zero-add, arith, MatchOption}
use lib.Signed.{≤ℤ_refl}
use Rattle.std.specs.List.{AllWithin, range_with_len}
use Rattle.std.proofs.lemmas.Int.{ints}
use Rattle.std.proofs.lemmas.List.{length_push, get_or_push, get_or_append_left}
use Rattle.std.proofs.lemmas.List.FromFn.{length-range_with_len, get_or-range_with_len}
use Rattle.std.proofs.lemmas.List.Elements.{AllWithin-push}
use Rattle.theory.specs.Rows.{Point}
use Rattle.sparse.specs.declared.distances.Best.{Best}
use Rattle.sparse.specs.Distances.{key, Better, Nearest, NoneNearer}

-- the scan for the nearest has gone over the unknowns rs
pub record Scan (p : Point) (limit : ℤ) (m : ℕ → ℕ) (val : ℕ → ℤ) (rs : List ℕ) (best : Best) : Type 0 where
  pub least : AllWithin (λ b. m b ≡ 1 → best.key ≤ℤ key p val b) rs 0 (length rs)
  pub has : MatchOption best.unknown (best.key ≡ limit) (λ v. ((i : ℕ) × (i < length rs) × (v ≡ get_or rs i 0)) × (m v ≡ 1) × (key p val v ≡ best.key) × (best.key <ℤ limit))

module _ (p : Point) (limit : ℤ) (m : ℕ → ℕ) (val : ℕ → ℤ) where
  pub scan_none : (best : Best) → best.key ≡ limit → best.unknown ≡ None → Scan p limit m val [] best
  scan_none best is none = record { least = λ k d low high. absurd (omega arith); has = rw none is }

  -- what is known of the best that a scan over rs has found
  abbrev Has : List ℕ → ℤ → Option ℕ → Type 0
  Has rs x o = MatchOption o (x ≡ limit) (λ v. ((i : ℕ) × (i < length rs) × (v ≡ get_or rs i 0)) × (m v ≡ 1) × (key p val v ≡ x) × (x <ℤ limit))

  -- the best so far is still within the scan
  later : (rs : List ℕ) (r : ℕ) (x : ℤ) (o : Option ℕ) → Has rs x o → Has (rs ++ r ∷ []) x o
  later rs r x None h = h
  later rs r x (Some v) h = ((h.0.0, omega (arith, h.0.1, length_push rs r), h.0.2 ∙ sym (get_or_append_left rs (r ∷ []) 0 h.0.0 h.0.1)), h.1, h.2, h.3)

  -- the best is below the limit, or is the limit
  no_more : (rs : List ℕ) (x : ℤ) (o : Option ℕ) → Has rs x o → x ≤ℤ limit
  no_more rs x None h = subst (λ y. x ≤ℤ y) h (≤ℤ_refl x)
  no_more rs x (Some v) h = omega (arith, ints, h.3)

  pub scan_more : (rs : List ℕ) (r : ℕ) (best best' : Best) → Scan p limit m val rs best → Better (key p val) m best r best' → Scan p limit m val (rs ++ r ∷ []) best'
  scan_more rs r best best' s (inl h) = rw h.0 (record {
    least = AllWithin-push (λ b. m b ≡ 1 → best.key ≤ℤ key p val b) rs r s.least h.1;
    has = later rs r best.key best.unknown s.has;
  })
  scan_more rs r best best' s (inr h) = rw h.0 (record {
    least = AllWithin-push (λ b. m b ≡ 1 → key p val r ≤ℤ key p val b) rs r (λ k d low high one. omega (arith, ints, s.least k d low high one, h.2)) (λ one. ≤ℤ_refl (key p val r));
    has = ((length rs, omega (arith, length_push rs r), sym (get_or_push rs r 0 (length rs) refl)), h.1, refl, omega (arith, ints, h.2, no_more rs best.key best.unknown s.has));
  })

  found : (x : ℤ) (o : Option ℕ) → ((b : ℕ) → b < 64 → m b ≡ 1 → x ≤ℤ key p val b) → Has (range_with_len 0 64) x o → MatchOption o (NoneNearer p limit m val) (Nearest p limit m val)
  found x None least h = λ b b_in one. subst (λ y. y ≤ℤ key p val b) h (least b b_in one)
  found x (Some v) least h = record {
    within = omega (arith, h.0.1, h.0.2, get_or-range_with_len 0 64 h.0.0 0, length-range_with_len 0 64);
    tentative = h.1;
    below = omega (arith, ints, h.2, h.3);
    least = λ b b_in one. subst (λ y. y ≤ℤ key p val b) (sym h.2) (least b b_in one);
  }

  pub scan_all : (best : Best) → Scan p limit m val (range_with_len 0 64) best → MatchOption best.unknown (NoneNearer p limit m val) (Nearest p limit m val)
  scan_all best s = found best.key best.unknown least s.has
    where
      least : (b : ℕ) → b < 64 → m b ≡ 1 → best.key ≤ℤ key p val b
      least b b_in = subst (λ v. m v ≡ 1 → best.key ≤ℤ key p val v) (get_or-range_with_len 0 64 b 0 b_in ∙ zero-add b) (s.least b 0 (omega arith) (omega (arith, length-range_with_len 0 64)))
