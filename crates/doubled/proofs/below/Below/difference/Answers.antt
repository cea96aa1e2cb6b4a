use Rattle.sums.specs.Terms.{lit}
use Rattle.doubled.proofs.Questions.{asked_below}
use Rattle.doubled.proofs.below.Below.difference.Goals as goal

pub returns : goal.returns
returns g c =
    let said = rw (c.unwrap.ensures, c.minus.ensures) at c.tightest.ensures in
    asked_below _ c.args.self.now.ready (g.met.T.Theory.sane c.args.self.now.theory) _ (lit c.args.s) (lit c.args.t) c.unwrap.result c.requires.first c.requires.second said.1 said.2
