-- What one call on an engine answers and leaves. Assumes nothing.
use Rattle.std.specs.Prelude.{◌≡◌, ℤ, Ok, Err, Option, Result}
use Rattle.theory.specs.declared.refusal.Refusal.{Refusal}
use Rattle.theory.specs.declared.row.Row.{Row}
use Rattle.theory.specs.Meaning.{Meaning}
use Rattle.theory.specs.Calls as calls
use Rattle.histories.specs.declared.Call.{Call}
use Rattle.histories.specs.declared.Call.TheVariants.{Push, Pop, Offer, Tightest, RowAt}
use Rattle.histories.specs.declared.Reply.{Reply}
use Rattle.histories.specs.declared.Reply.TheVariants.{Done, Value, Found}

-- what a call is answered: a reply, or the refusal
abbrev pub Answer : Type 0
Answer = Result Reply Refusal

-- the answer by case: a call that is taken, a tightest value, a row, or the refusal
abbrev pub done_answer : Result (Unit {0}) Refusal → Answer
done_answer (Ok _) = Ok Done
done_answer (Err e) = Err e

abbrev pub value_answer : Result (Option ℤ) Refusal → Answer
value_answer (Ok g) = Ok (Value g)
value_answer (Err e) = Err e

abbrev pub row_answer : Result Row Refusal → Answer
row_answer (Ok r) = Ok (Found r)
row_answer (Err e) = Err e

-- the call c is answered by a, and the rows and levels of m become those of n
abbrev pub Step : Meaning → Call → Answer → Meaning → Type 0
Step m Push a n = (r : Result (Unit {0}) Refusal) × (a ≡ done_answer r) × calls.Push m r n
Step m Pop a n = (r : Result (Unit {0}) Refusal) × (a ≡ done_answer r) × calls.Pop m r n
Step m (Offer row) a n = (r : Result (Unit {0}) Refusal) × (a ≡ done_answer r) × calls.Put m row r n
Step m (Tightest s) a n = (r : Result (Option ℤ) Refusal) × (a ≡ value_answer r) × calls.Tightest m s r n
Step m (RowAt k) a n = (r : Result Row Refusal) × (a ≡ row_answer r) × calls.RowAt m k r n
