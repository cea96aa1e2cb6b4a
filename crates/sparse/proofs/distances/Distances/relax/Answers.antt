use Rattle.std.proofs.Common.{◌<◌, length, ap, ◌∙◌, subst, arith}
use Rattle.sparse.specs.Edges.{number_of}
use Rattle.sparse.specs.Graphs.{edges_of}
use Rattle.sparse.specs.Searches.{mark_of, value_of}
use Rattle.sparse.specs.Distances.{Walked}
use Rattle.differences.proofs.Sums.{sum_is}
use Rattle.sparse.proofs.Graphs.{stands, fair_ends}
use Rattle.sparse.proofs.Offers.{size_sum}
use Rattle.sparse.proofs.Walks.{Underway, walk_on, offered_as}
use Rattle.sparse.proofs.distances.Distances.relax.Goals as goal

pub offer-requires-clause-small : goal.offer-requires-clause-small
offer-requires-clause-small c =
    let g = c.args.graph.now in
    let within : c.in-Some.i < length (edges_of g) = omega (arith, c.loop-place.invariant.1.within, ap number_of c.in-Some.is) in
    let at = stands (edges_of g) g.heads.now g.fair g.chained c.in-Some.i c.edge-edge.result within c.edge-edge.ensures in
    let value = value_of c.args.self.now c.args.v in
    rw (sum_is value c.edge-edge.result.row.c (omega (arith, c.requires.small)) at.near) (size_sum value c.edge-edge.result.row.c 252000000 4000000 c.requires.small at.near)

pub loop-place-preserved : goal.loop-place-preserved
loop-place-preserved c =
    let g = c.args.graph.now in
    let e = c.edge-edge.result in
    let w = c.loop-place.invariant.1 in
    let within : c.in-Some.i < length (edges_of g) = omega (arith, w.within, ap number_of c.in-Some.is) in
    let at = stands (edges_of g) g.heads.now g.fair g.chained c.in-Some.i e within c.edge-edge.ensures in
    let sum = sum_is (value_of c.args.self.now c.args.v) e.row.c (omega (arith, c.requires.small)) at.near in
    let offered = offered_as c.ends-target.ensures.0 sum c.offer.ensures.offered in
    let here = subst (λ k. Underway (edges_of g) c.args.v k (mark_of c.args.self.now) (mark_of c.loop-place.self) (value_of c.args.self.now) (value_of c.loop-place.self)) (ap number_of c.in-Some.is) w in (
      c.offer.ensures.same ∙ c.loop-place.invariant.0,
      rw c.before-place.ensures (walk_on (edges_of g) (fair_ends (edges_of g) g.fair) c.args.v c.in-Some.i e c.edge-edge.ensures at _ _ _ _ _ _ offered here),
    )

pub returns-clause-walked : goal.returns-clause-walked
returns-clause-walked c = subst (λ o. Walked (edges_of c.args.graph.now) c.args.v (number_of o) (mark_of c.args.self.now) (mark_of c.loop-place.self) (value_of c.args.self.now) (value_of c.loop-place.self)) c.in_default.is c.loop-place.invariant.1.walked
