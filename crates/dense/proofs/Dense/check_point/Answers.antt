use Rattle.std.proofs.Common.{sym, ◌∙◌, refl, rules}
use Rattle.dense.proofs.Steps.{bound_fits, point_checked}
use Rattle.dense.proofs.Dense.check_point.Goals as goal

pub is_some_and-requires : goal.is_some_and-requires
is_some_and-requires c = λ most is _ _ _ _ _.
    let d = c.args.self.now in
    bound_fits _ _ d.differences d.table c.args.row c.requires.fair most (simp (c.ends-u.ensures.0, c.ends-u.ensures.1) at (sym c.at.ensures ∙ is))

pub returns-then-is_some_and : goal.returns-then-is_some_and
returns-then-is_some_and c =
    let d = c.args.self.now in
    let entry = simp (c.ends-u.ensures.0, c.ends-u.ensures.1) at (sym c.at.ensures) in
    (refl, (point_checked _ _ d.differences d.table c.args.row c.requires.fair _ _ _ entry c.is_some_and.ensures (λ x q. search rules)).0 c.if-is_some_and.true)

pub returns : goal.returns
returns c =
    let d = c.args.self.now in
    let entry = simp (c.ends-u.ensures.0, c.ends-u.ensures.1) at (sym c.at.ensures) in
    (point_checked _ _ d.differences d.table c.args.row c.requires.fair _ _ _ entry c.is_some_and.ensures (λ x q. search rules)).1 c.if-is_some_and.false
