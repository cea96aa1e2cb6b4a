use Rattle.std.proofs.Common.{pos, get_or}
use Rattle.sparse.specs.Searches.{mark_of, value_of}
use Rattle.sparse.specs.Distances.{Lowered}
use Rattle.differences.proofs.Lines.{Done}
use Rattle.sparse.proofs.distances.Distances.lower.Given as goal

abbrev pub invariant-loop-r : goal.invariant-loop-r
invariant-loop-r l = Done (pos 0) (λ k x. Lowered l.base (mark_of l.self k) (value_of l.self k) (get_or l.initial.potential-items k (pos 0)) x) l.initial.potential-items l.r l.potential-items
