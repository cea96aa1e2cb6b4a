use Rattle.std.proofs.Common.{◌∙◌}
use Rattle.sparse.proofs.Runs.{nearest_small, run_stepped}
use Rattle.sparse.proofs.distances.Distances.run.Goals as goal

pub settle-requires-clause-small : goal.settle-requires-clause-small
settle-requires-clause-small c = nearest_small c.loop-v.invariant.1 c.in-Some.v c.in-Some.ensures

pub loop-v-smaller : goal.loop-v-smaller
loop-v-smaller c = (run_stepped c.loop-v.invariant.1 _ _ _ c.args.lengths.holds.keeps c.in-Some.ensures c.settle.ensures.stepped).1

pub loop-v-preserved : goal.loop-v-preserved
loop-v-preserved c = (
  c.settle.ensures.same ∙ c.loop-v.invariant.0,
  (run_stepped c.loop-v.invariant.1 _ _ _ c.args.lengths.holds.keeps c.in-Some.ensures c.settle.ensures.stepped).0,
)
