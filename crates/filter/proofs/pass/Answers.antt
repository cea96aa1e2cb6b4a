use Rattle.std.proofs.Common.{◌≤ℤ◌, arith}
use Rattle.std.proofs.lemmas.Int.{ints}
use Rattle.filter.proofs.States.{passed_by_bound}
use Rattle.filter.proofs.pass.Goals as goal

pub returns : goal.returns
returns g c =
    let said = c.in_ok-most.ensures in
    let under : c.in-Some.most ≤ℤ c.args.row.c = grind (arith, ints) in
    passed_by_bound _ _ c.args.row c.in-Some.most said.2 (g.met.T.Theory.sane _) (rw c.in-Some.is at said.1) under
