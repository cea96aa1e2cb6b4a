use Rattle.std.proofs.ByRecursion.{All-take}
use Rattle.differences.specs.Sides.{Difference}
use Rattle.dense.proofs.Stacks.{stack_pop}
use Rattle.dense.proofs.DenseTheory.pop.Goals as goal

pub invariant_of-self-2-clause-table : goal.invariant_of-self-2-clause-table
invariant_of-self-2-clause-table c =
    rw c.truncate.ensures.items (stack_pop 0 _ _ _ (rw (c.pop.ensures.items, c.in_ok-level.ensures.ok_part) at c.args.self.now.stack)).table

pub invariant_of-self-2-clause-differences : goal.invariant_of-self-2-clause-differences
invariant_of-self-2-clause-differences c =
    rw c.truncate.ensures.items (All-take (Difference 64 4000000) _ _ c.args.self.now.differences)

pub invariant_of-self-2-clause-stack : goal.invariant_of-self-2-clause-stack
invariant_of-self-2-clause-stack c =
    rw c.truncate.ensures.items (stack_pop 0 _ _ _ (rw (c.pop.ensures.items, c.in_ok-level.ensures.ok_part) at c.args.self.now.stack)).rest
