use Rattle.std.proofs.Common.{[]}
use Rattle.bounds.specs.Tables.{with_row}
use Rattle.dense.specs.Entries.{entry, LineHolds}
use Rattle.differences.proofs.Lines.{Done}
use Rattle.dense.proofs.matrix.Matrix.relax.Given as goal

abbrev pub invariant-loop-line : goal.invariant-loop-line
invariant-loop-line l = Done [] (λ i line. LineHolds line (with_row (entry l.fn.self) l.u l.v l.c i)) l.fn.self.lines l.line-index l.line-items
