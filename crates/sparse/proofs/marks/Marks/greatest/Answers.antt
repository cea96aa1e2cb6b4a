use Rattle.std.proofs.Common.{◌≡◌, SomeIff, sym, subst}
use Rattle.sparse.specs.Graphs.{edges_of}
use Rattle.sparse.specs.Searches.{mark_of, value_of}
use Rattle.sparse.proofs.Greatest.{small_point, greatest_is}
use Rattle.sparse.proofs.marks.Marks.greatest.Goals as goal

pub returns : goal.returns
returns c =
    let g = c.args.lengths.graph.now in
    let holds = c.args.lengths.holds in
    let s = c.run.new.self in
    let told = subst (λ r. SomeIff c.distance.result (mark_of s r ≡ 2) (value_of s r)) c.ends-target.ensures.0 c.distance.ensures in
    greatest_is (edges_of g) g.fair _ holds.keeps (small_point (edges_of g) _ g.edges_fit holds) _ _ _ c.run.ensures.found c.args.side c.requires.fair (sym c.ends-target.ensures.1) _ told
