use Rattle.std.proofs.Common.{rules}
use Rattle.differences.proofs.Lines.{done_more}
use Rattle.dense.proofs.matrix.relax_line.Goals as goal

pub loop-j-preserved : goal.loop-j-preserved
loop-j-preserved c = done_more (search rules) c.loop-j.invariant _ (search rules)
