use Rattle.std.proofs.Common.{refl}
use Rattle.std.proofs.lemmas.Result.{err_from_is_err_and}
use Rattle.theory.proofs.Faults.{fault_of_err, no_fault_of_ok}
use Rattle.sums.proofs.Contradiction.{greatest_of_side}
use Rattle.sums.proofs.Sides.{said_by}
use Rattle.doubled.proofs.DoubledTheory.tightest.Goals as goal

pub returns-in_err-check_side : goal.returns-in_err-check_side
returns-in_err-check_side g c =
    let p = err_from_is_err_and c.from_residual.result c.from_residual.ensures.1 in
    rw (p.1, p.2) (fault_of_err _ _ (rw c.sizes.ensures at c.in_err-check_side.ensures), refl)

pub returns : goal.returns
returns g c =
    let sizes = c.args.self.now.standing.sizes in
    let fair = no_fault_of_ok _ (rw c.sizes.ensures at c.in_ok-check_side.ensures) in
    (fair, greatest_of_side _ c.args.side _ (said_by sizes c.args.side fair _ (cc)) c.greatest.result c.greatest.ensures.value, c.greatest.ensures.same)
