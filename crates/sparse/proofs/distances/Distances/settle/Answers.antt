use Rattle.std.proofs.Common.{arith}
use Rattle.std.proofs.lemmas.List.{get_or-set_same, get_or-set_other}
use Rattle.sparse.specs.Graphs.{edges_of}
use Rattle.sparse.specs.Searches.{mark_of, value_of}
use Rattle.sparse.proofs.Walks.{walk_end}
use Rattle.sparse.proofs.distances.Distances.settle.Goals as goal

pub returns-clause-stepped : goal.returns-clause-stepped
returns-clause-stepped c =
    let v = c.args.v in
    let s = c.relax.new.self in
    walk_end (edges_of c.args.graph.now) v (mark_of c.args.self.now) (mark_of s) _ (value_of c.args.self.now) (value_of s)
    (get_or-set_same s.marks.now v 2 0 (omega (arith, c.requires.within, s.long))) (λ r other. get_or-set_other s.marks.now v r 2 0 other) c.relax.ensures.walked
