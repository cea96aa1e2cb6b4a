-- The sum of a potential and a row's bound, as the code computes it, compared with a number and subtracted from 0. Assumes nothing.
use Rattle.std.proofs.Common.{◌≡◌, ◌≤◌, true, false, ℤ, pos, ◌+ℤ◌, ◌-ℤ◌, neg_ℤ, nat_abs, ◌≤ℤ◌, ◌<ℤ◌, ◌∙◌, arith, w64, SFits, to_z, of_z, rules}
use lib.Signed.{le_z}
use Rattle.std.proofs.lemmas.Int.{ints, to_z-of_z}
use Rattle.differences.proofs.Sums.{computed, sum_is}

module _ (a b : ℤ) (a_near : nat_abs a ≤ 266240000000) (b_near : nat_abs b ≤ 4000000) where
  is : computed a b ≡ a +ℤ b
  is = sum_is a b (omega (arith, a_near)) b_near

  pub sum_near : nat_abs (a +ℤ b) ≤ 266244000000
  sum_near = grind (arith, ints)

  pub opposite_fits : SFits w64 (pos 0 -ℤ computed a b)
  opposite_fits = rw is (let l = sum_near in search rules)

  pub opposite_is : to_z w64 (of_z w64 (pos 0 -ℤ computed a b)) ≡ neg_ℤ (a +ℤ b)
  opposite_is = to_z-of_z w64 _ opposite_fits ∙ rw is (omega (arith, ints))

  module _ (x : ℤ) (x_fits : SFits w64 x) where
    pub at_most : le_z (to_z w64 (of_z w64 x)) (computed a b) ≡ true → x ≤ℤ (a +ℤ b)
    at_most h = let k = rw (to_z-of_z w64 x x_fits, is) at h in grind (arith, ints)

    pub above : le_z (to_z w64 (of_z w64 x)) (computed a b) ≡ false → (a +ℤ b) <ℤ x
    above h = let k = rw (to_z-of_z w64 x x_fits, is) at h in grind (arith, ints)
