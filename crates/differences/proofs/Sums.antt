-- The sum of a number and a row's bound as code computes it in 64 bits, and the test of whether it is below 0. Assumes nothing.
use Rattle.std.proofs.Common.{◌≡◌, ◌≤◌, Bool, true, false, ℤ, pos, ◌+ℤ◌, nat_abs, ◌≤ℤ◌, ◌<ℤ◌, ◌∙◌, arith, w64, SFits, to_z, of_z, rules}
use lib.Signed.{lt_z}
use Rattle.std.proofs.lemmas.Int.{ints, to_z-of_z}

-- the sum as the code has it
abbrev pub computed : ℤ → ℤ → ℤ
computed a b = to_z w64 (of_z w64 (to_z w64 (of_z w64 a) +ℤ to_z w64 (of_z w64 b)))

-- the code's test of whether a + b is below 0
abbrev pub tests_below : ℤ → ℤ → Bool
tests_below a b = lt_z (computed a b) (pos 0)

-- the bound on a is a round number above all that the crates hold
module _ (a b : ℤ) (a_near : nat_abs a ≤ 1000000000000) (b_near : nat_abs b ≤ 4000000) where
  pub sum_fits : SFits w64 (to_z w64 (of_z w64 a) +ℤ to_z w64 (of_z w64 b))
  sum_fits = search rules

  pub sum_is : computed a b ≡ a +ℤ b
  sum_is =
      let a_fits : SFits w64 a = search rules in
      let b_fits : SFits w64 b = search rules in
      to_z-of_z w64 _ sum_fits ∙ rw (to_z-of_z w64 a a_fits, to_z-of_z w64 b b_fits)

  pub sum_below : tests_below a b ≡ true → (a +ℤ b) <ℤ pos 0
  sum_below h = let k = rw sum_is at h in grind (arith, ints)

  pub sum_met : tests_below a b ≡ false → pos 0 ≤ℤ (a +ℤ b)
  sum_met h = let k = rw sum_is at h in grind (arith, ints)
