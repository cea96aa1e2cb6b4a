use Rattle.std.proofs.Common.{sym}
use Rattle.std.proofs.lemmas.Result.{err_from_is_err_and}
use Rattle.theory.proofs.Faults.{told_first}
use Rattle.theory.proofs.rules.check_row.Goals as goal

pub returns-in-err-check-side : goal.returns-in-err-check-side
returns-in-err-check-side c =
    let p = err_from_is_err_and c.from-residual.result c.from-residual.ensures.1 in
    let h = c.in-err-check-side.ensures in
    rw (p.1, p.2) (sym (told_first _ _ _ _ (sym h)))
