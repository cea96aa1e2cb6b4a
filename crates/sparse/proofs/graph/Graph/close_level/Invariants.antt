use Rattle.std.proofs.Common.{◌≡◌, ◌≤◌, length, take}
use Rattle.sparse.specs.Graphs.{edges_of, levels_of}
use Rattle.sparse.proofs.graph.Graph.close_level.Given as goal

abbrev pub invariant-loop-self : goal.invariant-loop-self
invariant-loop-self l =
    (edges_of l.self ≡ take (length (edges_of l.self)) (edges_of l.initial.self))
    × (levels_of l.self ≡ levels_of l.initial.self)
    × (l.began ≤ length (edges_of l.self))

abbrev pub decreases-loop-self : goal.decreases-loop-self
decreases-loop-self l = length (edges_of l.self)
