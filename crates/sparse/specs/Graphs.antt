-- What a graph means. Assumes nothing.
use Rattle.std.specs.Prelude.{ℕ, List}
use Rattle.trail.specs.Trails.{items, levels}
use Rattle.sparse.specs.declared.graph.Edge.{Edge}
use Rattle.sparse.specs.declared.graph.Graph.{Graph}

abbrev pub edges_of : Graph → List Edge
edges_of g = items g.edges

abbrev pub levels_of : Graph → List ℕ
levels_of g = levels g.edges
