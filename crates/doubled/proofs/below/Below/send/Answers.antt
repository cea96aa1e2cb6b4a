use Rattle.std.proofs.Common.{w64}
use Rattle.std.proofs.lemmas.Int.{to_z-of_z}
use Rattle.sums.specs.Terms.{lit}
use Rattle.doubled.proofs.Sending.{takes_difference, takes_mirrored}
use Rattle.doubled.proofs.below.Below.send.Goals as goal

pub put-requires-in-Two : goal.put-requires-in-Two
put-requires-in-Two g c =
    let within = rw c.in-Two.is at c.requires.within in
    let takes = takes_difference _ (lit c.in-Two.s) (lit c.in-Two.t) c.args.c c.requires.near c.requires.room within.0 within.1 within.2 (rw c.in-Two.is at c.requires.point) in
    rw (to_z-of_z w64 c.args.c c.ranges.c) takes

pub put-requires-in-Two-2 : goal.put-requires-in-Two-2
put-requires-in-Two-2 g c =
    let within = rw c.in-Two.is at c.requires.within in
    let takes = takes_mirrored _ (lit c.in-Two.s) (lit c.in-Two.t) c.args.c c.requires.near c.requires.room within.0 within.1 within.2 (rw c.in-Two.is at c.requires.point) in
    let after = rw (to_z-of_z w64 c.args.c c.ranges.c) at c.put-in-Two.ensures in
    rw (c.mirror-in-Two.ensures, c.mirror-in-Two-2.ensures, after, to_z-of_z w64 c.args.c c.ranges.c) takes
