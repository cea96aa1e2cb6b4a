use Rattle.std.proofs.Common.{refl, arith}
use Rattle.std.proofs.lemmas.Result.{err_from_is_err_and}
use Rattle.filter.proofs.States.{over_depth, over_push}
use Rattle.filter.proofs.FilterTheory.push.Goals as goal

pub returns-in_err-push : goal.returns-in_err-push
returns-in_err-push g c =
    let p = err_from_is_err_and c.from_residual.result c.from_residual.ensures.1 in
    let said = c.in_err-push.ensures in
    rw (p.1, p.2) (omega (arith, said.0, over_depth _ _ c.args.self.now.over), said.1, refl)

pub open_level-requires : goal.open_level-requires
open_level-requires g c = omega (arith, c.in_ok-push.ensures.0, over_depth _ _ c.args.self.now.over)

pub invariant_of-self-2 : goal.invariant_of-self-2
invariant_of-self-2 g c = rw (c.open_level.ensures, c.in_ok-push.ensures.1) record { over = over_push _ _ c.args.self.now.over }

pub returns : goal.returns
returns g c = (omega (arith, c.in_ok-push.ensures.0, over_depth _ _ c.args.self.now.over), c.open_level.ensures)
