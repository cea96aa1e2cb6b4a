-- Runs of calls. Assumes nothing.
use Rattle.std.specs.Prelude.{◌≡◌, List, [], ◌∷◌}
use Rattle.theory.specs.Meaning.{Meaning}
use Rattle.histories.specs.declared.Call.{Call}
use Rattle.histories.specs.Steps.{Answer, Step}

-- the calls, made one after the other from m on, get these answers and leave n
abbrev pub Run : Meaning → List Call → List Answer → Meaning → Type 0
Run m [] [] n = m ≡ n
Run m [] (a ∷ rest) n = ⊥
Run m (c ∷ cs) [] n = ⊥
Run m (c ∷ cs) (a ∷ rest) n = (k : Meaning) × Step m c a k × Run k cs rest n

-- the calls, made one after the other from m on, get these answers
abbrev pub Answered : Meaning → List Call → List Answer → Type 0
Answered m calls answers = (n : Meaning) × Run m calls answers n
