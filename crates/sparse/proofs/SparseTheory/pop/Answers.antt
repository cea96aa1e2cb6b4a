use Rattle.std.proofs.Common.{◌<◌, length, rules}
use Rattle.std.proofs.lemmas.List.{take-map}
use Rattle.theory.specs.Meaning.{newest}
use Rattle.sparse.specs.declared.graph.Edge.{Edge}
use Rattle.sparse.specs.Graphs.{edges_of, levels_of}
use Rattle.trail.specs.Trails.{items}
use Rattle.sparse.proofs.States.{Fits, graph_rising, fits_close}
use Rattle.sparse.proofs.SparseTheory.pop.Goals as goal
use Rattle.sparse.proofs.SparseTheory.pop.Goals.{After-close_level}

fits : (c : After-close_level) → Fits (edges_of c.close_level.new.graph) (levels_of c.close_level.new.graph) (items c.close_level.new.saved) c.close_level.new.potentials
fits c =
    let s = c.args.self.now in
    let said = c.close_level.ensures in
    let some : 0 < length (levels_of s.graph) = search rules in
    rw (said.edges, said.closed) (fits_close (edges_of s.graph) (levels_of s.graph) (items s.saved) (graph_rising s.graph) s.saved_each _ _ said.saved s.one_each some)

pub invariant_of-self-clause-saved_each : goal.invariant_of-self-clause-saved_each
invariant_of-self-clause-saved_each c = (fits (goal.at.invariant_of-self-clause-saved_each c).After-close_level).saved_each

pub invariant_of-self-clause-holds : goal.invariant_of-self-clause-holds
invariant_of-self-clause-holds c = (fits (goal.at.invariant_of-self-clause-holds c).After-close_level).holds

pub invariant_of-self-clause-one_each : goal.invariant_of-self-clause-one_each
invariant_of-self-clause-one_each c = (fits (goal.at.invariant_of-self-clause-one_each c).After-close_level).one_each

pub returns : goal.returns
returns c =
    let s = c.args.self.now in
    (search rules, rw (c.close_level.ensures.edges, c.close_level.ensures.closed, take-map (λ (e : Edge). e.row) (newest (levels_of s.graph)) (edges_of s.graph)))
