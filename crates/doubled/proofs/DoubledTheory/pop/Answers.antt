use Rattle.doubled.proofs.States.{over_pop}
use Rattle.doubled.proofs.DoubledTheory.pop.Goals as goal

pub invariant_of-self-2 : goal.invariant_of-self-2
invariant_of-self-2 g c = record { over = over_pop _ _ c.args.self.now.over _ _ c.in_ok-pop.ensures.0 (cc) c.in_ok-pop.ensures.1 }
