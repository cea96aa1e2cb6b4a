use Rattle.doubled.proofs.States.{over_push}
use Rattle.doubled.proofs.DoubledTheory.push.Goals as goal

pub invariant_of-self-2 : goal.invariant_of-self-2
invariant_of-self-2 g c = record { over = over_push _ _ c.args.self.now.over _ _ (cc) c.in_ok-push.ensures.1 }
