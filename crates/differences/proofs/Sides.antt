-- A side that passes a bottom's rules is the difference of its two ends. Assumes nothing.
use Rattle.std.proofs.Common.{◌≡◌, ℕ, ◌≤◌, nat_abs, None, arith}
use Rattle.std.proofs.lemmas.Int.{ints}
use Rattle.theory.specs.declared.row.Sign.{Sign}
use Rattle.theory.specs.declared.row.Sign.TheVariants.{Zero, Plus, Minus}
use Rattle.theory.specs.declared.row.Side.{Side}
use Rattle.theory.specs.declared.row.Row.{Row}
use Rattle.theory.specs.Rules.{side_fault}
use Rattle.differences.specs.Sides.{bottom_sizes, Fair, Ends, Difference}

ends_by_signs : (a b : Sign) (u v : ℕ) → side_fault bottom_sizes (record { a = a; b = b; u = u; v = v }) ≡ None → Ends 64 (record { a = a; b = b; u = u; v = v })
ends_by_signs Zero b u v h = absurd (grind arith)
ends_by_signs Plus Zero u v h = absurd (grind arith)
ends_by_signs Plus Plus u v h = absurd (grind arith)
ends_by_signs Plus Minus u v h = record { first_in = grind arith; second_in = grind arith; is = λ p. omega (arith, ints) }
ends_by_signs Minus Zero u v h = absurd (grind arith)
ends_by_signs Minus Plus u v h = record { first_in = grind arith; second_in = grind arith; is = λ p. omega (arith, ints) }
ends_by_signs Minus Minus u v h = absurd (grind arith)

pub ends_of : (s : Side) → side_fault bottom_sizes s ≡ None → Ends 64 s
ends_of s h = ends_by_signs s.a s.b s.u s.v h

pub fair_side : (r : Row) → Fair r → side_fault bottom_sizes r.side ≡ None
fair_side r h = grind arith

pub fair_near : (r : Row) → Fair r → nat_abs r.c ≤ 4000000
fair_near r h = grind arith

pub fair_difference : (r : Row) → Fair r → Difference 64 4000000 r
fair_difference r h = record { ends = ends_of r.side (fair_side r h); near = fair_near r h }
