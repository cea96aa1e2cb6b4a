-- When an engine or a layer starts over a theory. Assumes nothing.
-- UnstartedBy: why it does not.     StartedOver: what stands where it does.     StartedWith, Started: what a start answers.
use Rattle.std.specs.Prelude.{◌≡◌, Ok, Err, Result, ◌≢◌}
use Rattle.theory.specs.declared.refusal.Refusal.TheVariants.{Unfit}
use Rattle.theory.specs.declared.sizes.Sizes.{Sizes}
use Rattle.theory.specs.Meaning.{Meaning, empty}
use Rattle.standing.specs.declared.start.Cause.{Cause}
use Rattle.standing.specs.declared.start.Cause.TheVariants.{Memory, Refused}
use Rattle.standing.specs.declared.start.Unstarted.{Unstarted}

-- over an empty theory only; want of memory is told of an empty one
abbrev pub UnstartedBy : Meaning → Cause → Type 0
UnstartedBy below Memory = below ≡ empty below.sizes
UnstartedBy below (Refused e) = (below ≢ empty below.sizes) × (e ≡ Unfit)

-- nothing stands, and the theory below is empty
abbrev pub StartedOver : Meaning → Sizes → Meaning → Type 0
StartedOver below sizes m = (m ≡ empty sizes) × (below ≡ empty below.sizes)

-- the theory itself and what stands over it, or the theory itself and the cause
abbrev pub StartedWith : {T : Type 0} → (T → Meaning) → Sizes → T → Result (T × Meaning) (Unstarted T) → Type 0
StartedWith below sizes t (Ok s) = (s.0 ≡ t) × StartedOver (below t) sizes s.1
StartedWith below sizes t (Err u) = (u.theory ≡ t) × UnstartedBy (below t) u.cause

-- an M that means nothing but these sizes over the theory t, or t itself and the cause
abbrev pub Started : {T M : Type 0} → (T → Meaning) → (M → Meaning) → (Sizes → Sizes) → T → Result M (Unstarted T) → Type 0
Started below meaning sizes t (Ok m) = StartedOver (below t) (sizes (below t).sizes) (meaning m)
Started below meaning sizes t (Err u) = (u.theory ≡ t) × UnstartedBy (below t) u.cause
