use Rattle.std.proofs.Common.{◌≡◌}
use Rattle.sparse.specs.Graphs.{edges_of}
use Rattle.sparse.specs.Points.{point_of}
use Rattle.sparse.specs.Searches.{mark_of, value_of}
use Rattle.sparse.specs.Distances.{unsettled}
use Rattle.sparse.proofs.Runs.{Underway}
use Rattle.sparse.proofs.distances.Distances.run.Given as goal

abbrev pub invariant-loop-v : goal.invariant-loop-v
invariant-loop-v l =
    (l.self.marks.ghost_name ≡ l.initial.self.marks.ghost_name)
    × Underway (edges_of l.lengths.graph.now) (point_of l.lengths.potentials.now) l.start l.limit (mark_of l.self) (value_of l.self)

abbrev pub decreases-loop-v : goal.decreases-loop-v
decreases-loop-v l = unsettled (mark_of l.self) 64
