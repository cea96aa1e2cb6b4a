use Rattle.filter.proofs.States.{over_tightest}
use Rattle.filter.proofs.FilterTheory.tightest.Goals as goal

pub returns : goal.returns
returns g c = over_tightest _ _ (g.T.Theory.meaning c.tightest.new.self) c.args.side c.tightest.result c.args.self.now.over c.tightest.ensures
