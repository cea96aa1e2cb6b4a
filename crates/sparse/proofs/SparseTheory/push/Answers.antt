use Rattle.sparse.specs.Graphs.{edges_of, levels_of}
use Rattle.trail.specs.Trails.{items}
use Rattle.sparse.proofs.States.{graph_rising, saved_open}
use Rattle.sparse.proofs.SparseTheory.push.Goals as goal

pub invariant_of-self-clause-saved_each : goal.invariant_of-self-clause-saved_each
invariant_of-self-clause-saved_each c =
    let s = c.args.self.now in
    let said = c.open_level.ensures in
    rw (said.edges, said.opened, said.saved) (saved_open (edges_of s.graph) (levels_of s.graph) (items s.saved) (graph_rising s.graph) s.saved_each s.potentials s.one_each s.holds)
