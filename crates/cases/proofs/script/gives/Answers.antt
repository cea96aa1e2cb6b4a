use Rattle.std.proofs.Common.{◌≡◌, true, Option, Some, slice_get, sym, ◌∙◌, arith}
use Rattle.std.proofs.lemmas.Grind.{common_steps}
use Rattle.std.proofs.lemmas.Option.{gets}
use Rattle.std.specs.Option.{option_eq}
use Rattle.std.specs.Result.{result_eq}
use Rattle.histories.specs.Steps.{Answer}
use Rattle.histories.specs.contracts.ReplyPartialEq.TheImpl as reply
use Rattle.theory.specs.contracts.refusal.RefusalPartialEq.TheImpl as refusal
use Rattle.cases.proofs.script.gives.Goals as goal

-- an answer that is equal by `==` to the expected one is that one
same : (given : Option Answer) (expected : Answer) → option_eq (result_eq reply.eq-value.it refusal.eq-value.it) given (Some expected) ≡ true → given ≡ Some expected
same given expected h = grind arith

alike : (given : Option Answer) (expected : Answer) → given ≡ Some expected → option_eq (result_eq reply.eq-value.it refusal.eq-value.it) given (Some expected) ≡ true
alike given expected h = grind arith

pub returns : goal.returns
returns c =
    let found : c.copied.result ≡ slice_get c.args.history.now.answers.items c.args.place = grind (arith, common_steps, gets) in
    (λ h. sym found ∙ same _ _ (sym c.eq.ensures ∙ h), λ h. c.eq.ensures ∙ alike _ _ (found ∙ h))
