use Rattle.std.proofs.Common.{refl}
use Rattle.std.proofs.lemmas.Result.{err_from_is_err_and}
use Rattle.theory.proofs.Faults.{check_refuses, point_refuses}
use Rattle.doubled.proofs.DoubledTheory.put.Goals as goal

pub returns-in_err-check_put : goal.returns-in_err-check_put
returns-in_err-check_put g c =
    let p = err_from_is_err_and c.from_residual.result c.from_residual.ensures.1 in
    rw (p.1, p.2) (check_refuses _ _ _ (cc c.in_err-check_put.ensures), refl)

pub returns-in_err-check_point : goal.returns-in_err-check_point
returns-in_err-check_point g c =
    let p = err_from_is_err_and c.from_residual-in_err-check_point.result c.from_residual-in_err-check_point.ensures.1 in
    let said = c.in_err-check_point.ensures in
    rw (p.1, p.2) (point_refuses _ _ _ (rw (c.sizes.ensures, c.row_count.ensures) at c.in_ok-check_put.ensures) said.answers, said.same)
