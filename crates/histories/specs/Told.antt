-- How a new engine is told what stands. Assumes nothing.
use Rattle.std.specs.Prelude.{◌≡◌, ℕ, ◌-◌, ◌≤◌, Bool, true, false, List, [], ◌∷◌, ◌++◌, map, filter, length, take, drop, Ok, Err}
use Rattle.theory.specs.declared.row.Row.{Row}
use Rattle.theory.specs.Meaning.{Meaning}
use Rattle.histories.specs.Runs.{Run}
use Rattle.histories.specs.declared.Call.{Call}
use Rattle.histories.specs.declared.Call.TheVariants.{Push, Offer}
use Rattle.histories.specs.declared.Reply.TheVariants.{Done, Value, Found}
use Rattle.histories.specs.Steps.{Answer}

-- the rows from place k up to place l
abbrev pub part : ℕ → ℕ → List Row → List Row
part k l rows = take (l - k) (drop k rows)

-- from the row at place k on: the rows up to where a level opened, a push, and so on to the last row
abbrev pub told_from : ℕ → List Row → List ℕ → List Call
told_from k rows [] = map Offer (drop k rows)
told_from k rows (l ∷ ls) = map Offer (part k l rows) ++ Push ∷ told_from l rows ls

-- an offer for each row, and a push for each open level in its place
abbrev pub told : Meaning → List Call
told m = told_from 0 m.rows m.levels

-- each call is taken
abbrev pub all_done : List Call → List Answer
all_done cs = map (λ _. Ok Done) cs

-- the call was taken
abbrev pub is_done : Answer → Bool
is_done (Ok Done) = true
is_done (Ok (Value v)) = false
is_done (Ok (Found r)) = false
is_done (Err e) = false

-- how many calls were taken
abbrev pub done_count : List Answer → ℕ
done_count answers = length (filter is_done answers)

-- levels that rise from at least k to at most n
abbrev pub Rising : ℕ → List ℕ → ℕ → Type 0
Rising k [] n = k ≤ n
Rising k (l ∷ ls) n = (k ≤ l) × Rising l ls n

-- the calls that tell the rows and levels, made from m on, leave n, and k of them are taken
abbrev pub Tells : Meaning → List Row → List ℕ → Meaning → ℕ → Type 0
Tells m rows levels n k = (answers : List Answer) × Run m (told_from 0 rows levels) answers n × (k ≡ done_count answers)
