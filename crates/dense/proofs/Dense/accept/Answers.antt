use Rattle.std.proofs.Common.{w64, SFits, rules}
use Rattle.std.proofs.ByRecursion.{All-push}
use Rattle.std.proofs.lemmas.Int.{to_z-of_z}
use Rattle.differences.specs.Sides.{Difference}
use Rattle.differences.proofs.Sides.{fair_difference}
use Rattle.differences.proofs.Tables.{table_near}
use Rattle.dense.proofs.Stacks.{stack_row}
use Rattle.dense.proofs.Steps.{table_accepts}
use Rattle.dense.proofs.Dense.accept.Goals as goal

pub relax-requires-clause-small : goal.relax-requires-clause-small
relax-requires-clause-small c = let d = c.args.self.now in table_near 64 4000000 _ _ d.differences d.table

pub invariant_of-self-clause-table : goal.invariant_of-self-clause-table
invariant_of-self-clause-table c =
    let d = c.args.self.now in
    let fits : SFits w64 c.args.row.c = search rules in
    let relaxed = simp (to_z-of_z, c.ends-u.ensures.0, c.ends-u.ensures.1) at c.relax.ensures in
    rw c.push_reserved.ensures.items (table_accepts _ _ d.differences d.table c.args.row c.requires.fair _ c.requires.point relaxed)

pub invariant_of-self-clause-differences : goal.invariant_of-self-clause-differences
invariant_of-self-clause-differences c =
    rw c.push_reserved.ensures.items (All-push (Difference 64 4000000) _ c.args.row c.args.self.now.differences (fair_difference c.args.row c.requires.fair))

pub invariant_of-self-clause-stack : goal.invariant_of-self-clause-stack
invariant_of-self-clause-stack c =
    rw c.push_reserved.ensures.items (stack_row 0 _ _ c.args.row c.args.self.now.stack)
