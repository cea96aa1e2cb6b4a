use Rattle.std.proofs.Common.{◌∙◌}
use Rattle.dense.proofs.Stacks.{stack_push}
use Rattle.dense.proofs.DenseTheory.push.Goals as goal

pub invariant_of-self-clause-stack : goal.invariant_of-self-clause-stack
invariant_of-self-clause-stack c =
    let d = c.args.self.now in
    rw c.push_reserved.ensures.items (stack_push 0 _ _ _ (c.len.ensures ∙ d.rows.ok.0) d.table d.stack)
