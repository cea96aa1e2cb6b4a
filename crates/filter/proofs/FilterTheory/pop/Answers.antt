use Rattle.std.proofs.Common.{◌<◌, length, refl, arith}
use Rattle.std.proofs.lemmas.Result.{err_from_is_err_and}
use Rattle.filter.proofs.States.{over_depth, over_pop}
use Rattle.filter.proofs.FilterTheory.pop.Goals as goal

pub returns-in_err-pop : goal.returns-in_err-pop
returns-in_err-pop g c =
    let p = err_from_is_err_and c.from_residual.result c.from_residual.ensures.1 in
    let said = c.in_err-pop.ensures in
    rw (p.1, p.2) (omega (arith, said.0, over_depth _ _ c.args.self.now.over), said.1, refl)

pub invariant_of-self-2 : goal.invariant_of-self-2
invariant_of-self-2 g c =
    let some : 0 < length c.args.self.now.standing.levels = omega (arith, c.in_ok-pop.ensures.0, over_depth _ _ c.args.self.now.over) in
    rw (c.close_level.ensures, c.in_ok-pop.ensures.1) record { over = over_pop _ _ c.args.self.now.over some }
