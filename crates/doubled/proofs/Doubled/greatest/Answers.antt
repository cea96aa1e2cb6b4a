use Rattle.doubled.proofs.States.{over_greatest}
use Rattle.doubled.proofs.Doubled.greatest.Goals as goal

pub returns-clause-value : goal.returns-clause-value
returns-clause-value g c = over_greatest _ _ c.args.self.now.over (g.met.T.Theory.sane c.args.self.now.below.theory) _ c.args.terms c.tight.result c.requires.within c.tight.ensures
