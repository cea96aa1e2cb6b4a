use Rattle.std.proofs.Common.{◌≡◌, None}
use Rattle.dense.specs.Entries.{line_with_row}
use Rattle.differences.proofs.Lines.{Done}
use Rattle.dense.proofs.matrix.relax_line.Given as goal

abbrev pub invariant-loop-j : goal.invariant-loop-j
invariant-loop-j l = Done None (λ k x. x ≡ line_with_row l.fn.line l.u l.c l.onward k) l.fn.line l.j l.line
