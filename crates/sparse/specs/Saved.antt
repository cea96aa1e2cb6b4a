-- The potentials that were saved when the open levels opened. Assumes nothing.
use Rattle.std.specs.Prelude.{ℕ, ◌<◌, List, length, take, slice_index, slice_index_or}
use Rattle.sparse.specs.declared.graph.Edge.{Edge}
use Rattle.sparse.specs.declared.potentials.Potentials.{Potentials}
use Rattle.sparse.specs.Points.{point_of, Holds}

-- for each level, the saved potentials hold with the edges that there were when it opened
abbrev pub Saved : List Edge → List ℕ → List Potentials → Type 0
Saved es ls ps = (i : ℕ) (d : Potentials) → i < length ls → Holds (take (slice_index ls i) es) (point_of (slice_index_or ps i d))
