use Rattle.std.proofs.Common.{◌≡◌}
use Rattle.sparse.specs.Edges.{number_of}
use Rattle.sparse.specs.Graphs.{edges_of}
use Rattle.sparse.specs.Searches.{mark_of, value_of}
use Rattle.sparse.proofs.Walks.{Underway}
use Rattle.sparse.proofs.distances.Distances.relax.Given as goal

abbrev pub invariant-loop-place : goal.invariant-loop-place
invariant-loop-place l =
    (l.self.marks.ghost_name ≡ l.initial.self.marks.ghost_name)
    × Underway (edges_of l.graph) l.v (number_of l.place) (mark_of l.initial.self) (mark_of l.self) (value_of l.initial.self) (value_of l.self)

abbrev pub decreases-loop-place : goal.decreases-loop-place
decreases-loop-place l = number_of l.place
