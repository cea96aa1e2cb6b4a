use Rattle.std.proofs.Common.{rules}
use Rattle.differences.proofs.Lines.{done_more}
use Rattle.dense.proofs.matrix.Matrix.relax.Goals as goal

pub loop-line-preserved : goal.loop-line-preserved
loop-line-preserved c = done_more (search rules) c.loop-line.invariant _ (search rules)
