use Rattle.std.proofs.Common.{subst, refl, arith, rules}
use Rattle.differences.specs.Tabled.{Near}
use Rattle.sums.proofs.Sent.{opposite_is}
use Rattle.doubled.specs.Asking.{further}
use Rattle.differences.proofs.Sums.{sum_fits}
use Rattle.doubled.proofs.Computed.{point_checked}
use Rattle.doubled.proofs.States.{over_near}
use Rattle.doubled.proofs.Doubled.check_point.Goals as goal

pub is_some_and-requires : goal.is_some_and-requires
is_some_and-requires g c = λ most is _ _ _ _ _.
    let d = c.args.self.now in
    let near = subst (Near further) is c.greatest-most.ensures.near in
    let c_near = over_near _ _ d.over (g.met.T.Theory.sane d.below.theory) c.args.row c.requires.fair in
    sum_fits most c.args.row.c (omega (arith, near)) (omega (arith, c_near))

pub returns-then-is_some_and-clause-answers : goal.returns-then-is_some_and-clause-answers
returns-then-is_some_and-clause-answers g c =
    let d = c.args.self.now in
    let row = c.args.row in
    let turned = opposite_is d.standing.sizes row c.requires.fair c.opposite.result (rw c.from.ensures at c.opposite.ensures) in
    let near = over_near _ _ d.over (g.met.T.Theory.sane d.below.theory) row c.requires.fair in
    (refl, (point_checked _ row _ turned near _ _ _ c.greatest-most.ensures.value c.greatest-most.ensures.near c.is_some_and.ensures (λ x q. search rules)).0 c.if-is_some_and.true)

pub returns-clause-answers : goal.returns-clause-answers
returns-clause-answers g c =
    let d = c.args.self.now in
    let row = c.args.row in
    let turned = opposite_is d.standing.sizes row c.requires.fair c.opposite.result (rw c.from.ensures at c.opposite.ensures) in
    let near = over_near _ _ d.over (g.met.T.Theory.sane d.below.theory) row c.requires.fair in
    (point_checked _ row _ turned near _ _ _ c.greatest-most.ensures.value c.greatest-most.ensures.near c.is_some_and.ensures (λ x q. search rules)).1 c.if-is_some_and.false
