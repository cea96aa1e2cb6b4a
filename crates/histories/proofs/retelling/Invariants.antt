use Rattle.std.proofs.Common.{◌≡◌, ◌++◌, length, drop, vec_items}
use Rattle.histories.specs.Told.{told_from, Rising}
use Rattle.histories.proofs.retelling.Given as goal

abbrev pub invariant-loop-level : goal.invariant-loop-level
invariant-loop-level l =
    (vec_items l.calls ++ told_from l.from l.rows (drop l.level-index l.levels) ≡ told_from 0 l.rows l.levels)
    × Rising l.from (drop l.level-index l.levels) (length l.rows)
