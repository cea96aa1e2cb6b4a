use Rattle.std.proofs.Common.{[]}
use Rattle.dense.specs.Entries.{LineHolds, no_bounds}
use Rattle.differences.proofs.Lines.{Done}
use Rattle.dense.proofs.matrix.Matrix.new.Given as goal

abbrev pub invariant-loop-i : goal.invariant-loop-i
invariant-loop-i l = Done [] (λ i line. LineHolds line (no_bounds i)) l.initial.line-items l.i l.line-items
