use Rattle.std.proofs.Common.{w64, SFits, rules}
use Rattle.std.proofs.lemmas.Int.{to_z-of_z}
use Rattle.doubled.proofs.States.{over_point, over_room, over_row}
use Rattle.doubled.proofs.Doubled.accept.Goals as goal

pub send-requires-clause-room : goal.send-requires-clause-room
send-requires-clause-room g c = over_room _ _ c.args.self.now.over c.requires.room

pub send-requires-clause-point : goal.send-requires-clause-point
send-requires-clause-point g c =
    let fits : SFits w64 c.args.row.c = search rules in
    rw (to_z-of_z w64 c.args.row.c fits, c.from.ensures) (over_point _ _ c.args.self.now.over c.args.row c.requires.fair c.requires.point)

pub invariant_of-self : goal.invariant_of-self
invariant_of-self g c =
    let fits : SFits w64 c.args.row.c = search rules in
    let below = rw (to_z-of_z w64 c.args.row.c fits, c.from.ensures) at c.send.ensures.after in
    record { over = over_row _ _ c.args.self.now.over _ _ c.args.row c.requires.fair c.requires.room c.requires.point (cc) below }
