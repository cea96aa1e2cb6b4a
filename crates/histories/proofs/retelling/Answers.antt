use Rattle.histories.proofs.Tellings.{rising_next}
use Rattle.histories.proofs.retelling.Goals as goal

pub tell_part-requires : goal.tell_part-requires
tell_part-requires c = let up = rising_next c.loop-level.from c.args.levels.now _ c.loop-level.level-index c.loop-level-test.true c.loop-level.invariant.1 in record { rising = up.0; within = up.1 }
