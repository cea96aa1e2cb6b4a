-- The text of a reply, of an answer and of a fault. Assumes nothing.
use Rattle.std.specs.Prelude.{ℕ, List, ◌++◌, Some, None, Ok, Err, codes}
use Rattle.std.specs.Fmt.{signed_decimal}
use Rattle.theory.specs.Refusals.{refusal_text}
use Rattle.theory.specs.Text.{row_text}
use Rattle.histories.specs.declared.Fault.{Fault}
use Rattle.histories.specs.declared.Fault.TheVariants.{Memory, Unlike}
use Rattle.histories.specs.declared.Reply.{Reply}
use Rattle.histories.specs.declared.Reply.TheVariants.{Done, Value, Found}
use Rattle.histories.specs.Steps.{Answer}

abbrev pub reply_text : Reply → List ℕ
reply_text Done = codes "ok"
reply_text (Value None) = codes "ok nothing"
reply_text (Value (Some v)) = codes "ok " ++ signed_decimal v
reply_text (Found r) = codes "ok " ++ row_text r

abbrev pub answer_text : Answer → List ℕ
answer_text (Ok r) = reply_text r
answer_text (Err e) = refusal_text e

abbrev pub fault_text : Fault → List ℕ
fault_text Memory = codes "out of memory"
fault_text Unlike = codes "theories of different sizes"
