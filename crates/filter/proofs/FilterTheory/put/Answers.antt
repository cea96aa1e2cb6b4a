use Rattle.std.proofs.Common.{refl}
use Rattle.std.proofs.lemmas.Result.{err_from_is_err_and}
use Rattle.theory.proofs.Faults.{check_refuses, point_refuses, no_fault_of_ok}
use Rattle.filter.proofs.Rows.{filtered_possible, filtered_impossible}
use Rattle.filter.proofs.States.{fault_below, over_passed, put_room}
use Rattle.filter.proofs.FilterTheory.put.Goals as goal

pub returns-in_err-check_put : goal.returns-in_err-check_put
returns-in_err-check_put g c =
    let p = err_from_is_err_and c.from_residual.result c.from_residual.ensures.1 in
    rw (p.1, p.2) (check_refuses _ _ _ (rw (c.sizes.ensures, c.row_count.ensures) at c.in_err-check_put.ensures), refl)

pub pass-requires : goal.pass-requires
pass-requires g c = fault_below _ _ c.args.self.now.over c.args.row (no_fault_of_ok _ (rw (c.sizes.ensures, c.row_count.ensures) at c.in_ok-check_put.ensures))

pub returns-in_err-pass : goal.returns-in_err-pass
returns-in_err-pass g c =
    let p = err_from_is_err_and c.from_residual-in_err-pass.result c.from_residual-in_err-pass.ensures.1 in
    let passed = rw (c.sizes.ensures, c.row_count.ensures) at c.in_ok-check_put.ensures in
    let said = c.in_err-pass.ensures in
    rw (p.1, p.2) (point_refuses _ _ _ passed (said.0, filtered_impossible _ _ c.args.self.now.over.same _ said.1), refl)

pub invariant_of-self-2 : goal.invariant_of-self-2
invariant_of-self-2 g c =
    let passed = rw (c.sizes.ensures, c.row_count.ensures) at c.in_ok-check_put.ensures in
    let room = put_room c.args.self.now.standing c.args.row (no_fault_of_ok _ passed) in
    rw c.add.ensures record { over = over_passed _ _ c.args.self.now.over c.args.row room _ c.in_ok-pass.ensures.1 }

pub returns : goal.returns
returns g c =
    let passed = rw (c.sizes.ensures, c.row_count.ensures) at c.in_ok-check_put.ensures in
    (no_fault_of_ok _ passed, filtered_possible _ _ c.args.self.now.over.same _ c.in_ok-pass.ensures.0, c.add.ensures)
