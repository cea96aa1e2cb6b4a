use Rattle.std.proofs.Common.{◌≡◌, None, refl}
use Rattle.std.proofs.lemmas.Result.{err_from_is_err_and}
use Rattle.theory.specs.Calls.{put_fault}
use Rattle.theory.proofs.Faults.{check_refuses, no_fault_of_ok, passed_both}
use Rattle.trail.specs.Trails.{items}
use Rattle.sparse.specs.Graphs.{edges_of, levels_of}
use Rattle.sparse.specs.State.{meaning_of}
use Rattle.sparse.proofs.States.{graph_rising, saved_answered, holds_answered, put_answered}
use Rattle.sparse.proofs.SparseTheory.put.Goals as goal

pub returns-in_err-check_put : goal.returns-in_err-check_put
returns-in_err-check_put c =
    let p = err_from_is_err_and c.from_residual.result c.from_residual.ensures.1 in
    rw (p.1, p.2) (check_refuses _ _ _ (cc c.in_err-check_put.ensures), refl)

pub invariant_of-self-clause-holds : goal.invariant_of-self-clause-holds
invariant_of-self-clause-holds c = holds_answered _ _ c.args.row c.args.self.now.potentials _ c.accept.result c.args.self.now.holds c.accept.ensures.answers

pub invariant_of-self-clause-saved_each : goal.invariant_of-self-clause-saved_each
invariant_of-self-clause-saved_each c =
    let s = c.args.self.now in
    rw c.accept.ensures.levels (saved_answered (edges_of s.graph) (levels_of s.graph) (items s.saved) (graph_rising s.graph) s.saved_each c.args.row s.potentials _ c.accept.result _ c.accept.ensures.answers)

pub returns : goal.returns
returns c =
    let s = c.args.self.now in
    let passed : put_fault (meaning_of s) c.args.row ≡ None = rw (← c.row_count.ensures) (no_fault_of_ok _ c.in_ok-check_put.ensures) in
    put_answered s.graph c.accept.new.graph c.args.row s.potentials c.accept.new.potentials c.accept.result (passed_both _ _ _ passed).0 c.accept.ensures.levels passed c.accept.ensures.answers
