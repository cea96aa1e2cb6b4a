-- What a sparse theory means. Assumes nothing.
use Rattle.theory.specs.Meaning.{Meaning}
use Rattle.sparse.specs.declared.Sparse.{Sparse}
use Rattle.differences.specs.Sides.{bottom_sizes}
use Rattle.sparse.specs.Edges.{rows_in}
use Rattle.sparse.specs.Graphs.{edges_of, levels_of}

-- its rows, levels and sizes
abbrev pub meaning_of : Sparse → Meaning
meaning_of s = record { rows = rows_in (edges_of s.graph); levels = levels_of s.graph; sizes = bottom_sizes }
