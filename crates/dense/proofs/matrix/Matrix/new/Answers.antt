use Rattle.std.proofs.Common.{◌∙◌, arith, rules}
use Rattle.std.proofs.lemmas.List.{get_or-replicate}
use Rattle.differences.proofs.Lines.{done_more}
use Rattle.dense.proofs.Lines.{diagonal}
use Rattle.dense.proofs.matrix.Matrix.new.Goals as goal

pub loop-i-preserved : goal.loop-i-preserved
loop-i-preserved c =
    let is = c.loop-i.invariant.same c.loop-i.i (omega arith) ∙ get_or-replicate 64 c.loop-i.i _ _ (omega arith) in
    done_more (search rules) c.loop-i.invariant _ (diagonal _ c.loop-i.i (omega arith) is)
