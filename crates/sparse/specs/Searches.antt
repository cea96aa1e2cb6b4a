-- The mark and the value of an unknown, in a search for distances. Assumes nothing.
use Rattle.std.specs.Prelude.{ℕ, ℤ, pos, slice_index, slice_index_or}
use Rattle.sparse.specs.declared.distances.Distances.{Distances}

abbrev pub mark_of : Distances → ℕ → ℕ
mark_of s r = slice_index s.marks.now r

abbrev pub value_of : Distances → ℕ → ℤ
value_of s r = slice_index_or s.values r (pos 0)
