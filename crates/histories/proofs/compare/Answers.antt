use Rattle.std.proofs.Common.{length, vec_items, sym, refl, ap, subst, subst₂}
use Rattle.histories.specs.Runs.{Run}
use Rattle.histories.specs.Told.{Rising}
use Rattle.histories.proofs.Laws.{rises, law}
use Rattle.histories.proofs.compare.Goals as goal

pub tell-requires : goal.tell-requires
tell-requires g c =
    let played = subst (λ m. Run m c.args.calls.now (vec_items c.in_ok-answers.answers) c.play.new.engine) c.requires.fresh c.in_ok-answers.ensures in
    let up = rises c.args.one.now.sizes c.args.calls.now _ c.play.new.engine played in
    subst₂ (λ ls rows. Rising 0 ls (length rows)) (sym c.levels.ensures) (sym c.rows.ensures) up

pub returns : goal.returns
returns g c =
    let played = subst (λ m. Run m c.args.calls.now (vec_items c.in_ok-answers.answers) c.play.new.engine) c.requires.fresh c.in_ok-answers.ensures in
    law c.args.one.now.sizes c.args.calls.now (vec_items c.in_ok-answers.answers) c.play.new.engine played c.args.next _ _ _ _ _ _ _ refl
    c.requires.alike c.rows.ensures c.levels.ensures c.in_ok-taken.ensures c.perform.ensures c.perform-2.ensures (ap length c.rows-rows.ensures) (ap length c.levels-levels.ensures)
