use Rattle.std.proofs.Common.{◌≡◌, ◌≤◌, nat_abs, sym, refl, subst, arith, w64, SFits, rules}
use Rattle.sparse.specs.Points.{point_of}
use Rattle.sparse.specs.Searches.{mark_of}
use Rattle.differences.proofs.Sums.{sum_fits, sum_is}
use Rattle.sparse.proofs.Sums.{sum_near, opposite_fits}
use Rattle.sparse.proofs.Repairing.{Asked, asked, told_met, told_circle, told_repaired}
use Rattle.sparse.proofs.marks.Marks.repair.Goals as goal
use Rattle.sparse.proofs.marks.Marks.repair.Goals.{After-at}

-- what is known of the row once its potential is read
row_asked : (c : After-at) → Asked (point_of c.args.potentials.now) c.args.row c.ends-target.result.1 c.ends-target.result.0 c.at.result
row_asked c = asked _ _ c.args.row _ _ _ c.args.graph.now.edges_fit c.requires.holds c.requires.fair c.ends-target.ensures c.at.ensures

pub overflow_add-base : goal.overflow_add-base
overflow_add-base c =
    let k = row_asked (goal.at.overflow_add-base c).After-at in
    sum_fits c.at.result c.args.row.c (omega (arith, k.near)) k.c_near

pub returns-then-at-base : goal.returns-then-at-base
returns-then-at-base c =
    let k = row_asked (goal.at.returns-then-at-base c).After-at in
    let fits : SFits w64 c.at-2.result = search rules in
    told_met _ _ c.requires.holds c.args.row _ _ _ k c.at-2.result fits c.at-2.ensures c.if-at-base.true

pub overflow_sub-base : goal.overflow_sub-base
overflow_sub-base c =
    let k = row_asked (goal.at.overflow_sub-base c).After-at in
    opposite_fits c.at.result c.args.row.c k.near k.c_near

pub run-requires-clause-within : goal.run-requires-clause-within
run-requires-clause-within c = (row_asked (goal.at.run-requires-clause-within c).After-at).t_in

pub lower-requires : goal.lower-requires
lower-requires c =
    let k = row_asked (goal.at.lower-requires c).After-at in
    subst (λ z. nat_abs z ≤ 266244000000) (sym (sum_is c.at.result c.args.row.c (omega (arith, k.near)) k.c_near)) (sum_near c.at.result c.args.row.c k.near k.c_near)

pub distance-requires : goal.distance-requires
distance-requires c = (row_asked (goal.at.distance-requires c).After-at).s_in

pub invariant_of-self-clause-clear : goal.invariant_of-self-clause-clear
invariant_of-self-clause-clear c = λ r r_in. grind (arith, c.drop-distances.ensures r r_in, c.new-distances.ensures.same, c.run.ensures.same)

pub returns-then-is_some : goal.returns-then-is_some
returns-then-is_some c =
    let k = row_asked (goal.at.returns-then-is_some c).After-at in
    let two : mark_of c.run.new.self c.ends-target.result.1 ≡ 2 = search rules in
    (refl, told_circle _ _ c.requires.holds c.args.row _ _ _ k c.args.graph.now.fair _ _ c.run.ensures.found two, refl)

pub invariant_of-self-2-clause-clear : goal.invariant_of-self-2-clause-clear
invariant_of-self-2-clause-clear c = λ r r_in. grind (arith, c.drop-distances-2.ensures r r_in, c.new-distances.ensures.same, c.run.ensures.same)

pub returns : goal.returns
returns c =
    let k = row_asked (goal.at.returns c).After-at in
    let not : mark_of c.run.new.self c.ends-target.result.1 ≡ 2 → ⊥ = search rules in
    told_repaired _ _ c.requires.holds c.args.row _ _ _ k c.args.graph.now.fair _ _ c.run.ensures.found not _ c.lower.ensures
