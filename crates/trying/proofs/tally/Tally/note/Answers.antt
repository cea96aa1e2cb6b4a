use Rattle.std.proofs.Common.{◌≡◌, false, not, Option, Some, inl, arith}
use Rattle.std.specs.Option.{option_eq}
use Rattle.std.specs.Result.{result_eq}
use Rattle.histories.specs.Steps.{Answer}
use Rattle.histories.specs.contracts.ReplyPartialEq.TheImpl as reply
use Rattle.theory.specs.contracts.refusal.RefusalPartialEq.TheImpl as refusal
use Rattle.trying.proofs.tally.Tally.note.Goals as goal
use Rattle.trying.proofs.tally.Tally.note.Goals.{then-is_err, else-is_err}

-- an answer that does not differ from the expected one by `!=` is that one
same : (given : Option Answer) (expected : Answer) → false ≡ not (option_eq (result_eq reply.eq-value.it refusal.eq-value.it) given (Some expected)) → given ≡ Some expected
same given expected h = grind arith

pub returns-else-ne-clause-wrong : goal.returns-else-ne-clause-wrong
returns-else-ne-clause-wrong c =
    inl (same _ _ c.if-ne.ensures, elim c.if-is_err.branch [ then-is_err w ↦ cc | else-is_err w ↦ cc ])
