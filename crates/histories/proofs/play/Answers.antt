use Rattle.std.proofs.Common.{arith, rules}
use Rattle.histories.proofs.Joins.{run_more}
use Rattle.histories.proofs.play.Goals as goal

pub loop-call-preserved : goal.loop-call-preserved
loop-call-preserved g c = (
  run_more _ c.loop-call.engine _ c.args.calls.now c.loop-call.call-index _ _ _ _ c.loop-call-test.true (search rules) c.loop-call.invariant.0 c.perform.ensures c.push_reserved.ensures.items,
  omega arith,
  omega arith,
)
