-- The law of histories: an answer depends on the standing rows, the open levels and the sizes, and on nothing else. Assumes nothing.
use Rattle.std.specs.Prelude.{◌≡◌, ◌+◌, List, length, vec_items, Err}
use Rattle.theory.specs.declared.refusal.Refusal.{Refusal}
use Rattle.theory.specs.declared.sizes.Sizes.{Sizes}
use Rattle.theory.specs.Meaning.{Meaning, empty}
use Rattle.histories.specs.declared.Call.{Call}
use Rattle.histories.specs.declared.Fault.{Fault}
use Rattle.histories.specs.declared.Fault.TheVariants.{Memory, Unlike}
use Rattle.histories.specs.declared.History.{History}
use Rattle.histories.specs.Steps.{Answer, Step}
use Rattle.histories.specs.Runs.{Run}
use Rattle.histories.specs.Told.{told, all_done}

-- a refused call changes neither rows nor levels
abbrev pub RefusalsKeep : Type 0
RefusalsKeep = (m n : Meaning) (c : Call) (e : Refusal) → Step m c (Err e) n → n ≡ m

-- a call has one answer and leaves one meaning
abbrev pub OneAnswer : Type 0
OneAnswer = (m k n : Meaning) (c : Call) (a b : Answer) → Step m c a k → Step m c b n → (a ≡ b) × (k ≡ n)

pub record Law (z : Sizes) (calls : List Call) (next : Call) (h : History) : Type 0 where
  -- the rows and levels that the calls leave, as defined from the calls alone
  pub stands : Meaning
  pub played : Run (empty z) calls (vec_items h.answers) stands
  pub rows : h.rows ≡ length stands.rows
  pub levels : h.levels ≡ length stands.levels
  -- a new engine that is told them takes all, and then they stand there
  pub retold : Run (empty z) (told stands) (all_done (told stands)) stands
  pub taken : h.taken ≡ h.rows + h.levels
  -- both answer the next call alike, and leave the same
  pub left : Meaning
  pub first : Step stands next h.first left
  pub second : Step stands next h.second left
  pub alike : h.first ≡ h.second
  pub refusals : RefusalsKeep
  pub unique : OneAnswer

-- why there is no history: want of memory, or theories of different sizes
abbrev pub Faulted : Sizes → Sizes → Fault → Type 0
Faulted z y Memory = Unit {0}
Faulted z y Unlike = z ≡ y → ⊥
