use Rattle.std.proofs.Common.{subst, sym, arith}
use Rattle.std.proofs.lemmas.List.{length-set, length-take-le, take_more_set}
use Rattle.trail.specs.Levels.{Rising}
use Rattle.trail.proofs.Levels.{rising_open}
use Rattle.trail.proofs.Trail.open_level.Goals as goal

pub invariant_of-self-clause-levels_fit : goal.invariant_of-self-clause-levels_fit
invariant_of-self-clause-levels_fit g c =
    let t = c.args.self.now in
    omega (arith, c.requires.room, length-take-le t.depth t.marks.now t.levels_fit, length-set t.marks.now t.depth t.len)

pub invariant_of-self-clause-rising : goal.invariant_of-self-clause-rising
invariant_of-self-clause-rising g c =
    let t = c.args.self.now in
    let more = take_more_set t.marks.now t.depth t.len (omega (arith, c.requires.room, length-take-le t.depth t.marks.now t.levels_fit)) in
    subst (λ ls. Rising ls t.len) (sym more) (rising_open _ t.len t.rising)
