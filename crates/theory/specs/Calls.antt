-- What each call of a theory answers and leaves: a relation between the meaning before, the arguments, the answer and the meaning after. Assumes nothing.
-- A refusal leaves the meaning as it was, and so does a question.
use Rattle.std.specs.Prelude.{◌≡◌, ℕ, ◌<◌, ◌≤◌, List, [], ◌∷◌, ◌++◌, length, ℤ, Some, None, Ok, Err, Option, Result, ◌≢◌, slice_index_or}
use Rattle.theory.specs.declared.refusal.Refusal.{Refusal}
use Rattle.theory.specs.declared.refusal.Refusal.TheVariants as refusal
use Rattle.theory.specs.declared.row.Row.{Row}
use Rattle.theory.specs.declared.row.Side.{Side}
use Rattle.theory.specs.Rows.{Feasible, Greatest}
use Rattle.theory.specs.Rules.{side_fault, put_fault_of}
use Rattle.theory.specs.Meaning.{Meaning, empty, with_row, with_level, without_level}

-- the first of the rules 1 to 6 that a put of r breaks
abbrev pub put_fault : Meaning → Row → Option Refusal
put_fault m r = put_fault_of m.sizes (length m.rows) r

-- e is the first broken rule, or where none of those is broken, the contradiction
abbrev pub RefusedBy : Option Refusal → Refusal → Type 0 → Type 0
RefusedBy (Some f) e no_point = e ≡ f
RefusedBy None e no_point = (e ≡ refusal.Contradiction) × no_point

abbrev pub Put : Meaning → Row → Result (Unit {0}) Refusal → Meaning → Type 0
Put m r (Ok _) n = (put_fault m r ≡ None) × Feasible (m.rows ++ r ∷ []) × (n ≡ with_row m r)
Put m r (Err e) n = RefusedBy (put_fault m r) e (Feasible (m.rows ++ r ∷ []) → ⊥) × (n ≡ m)

abbrev pub Push : Meaning → Result (Unit {0}) Refusal → Meaning → Type 0
Push m (Ok _) n = (length m.levels < m.sizes.depth) × (n ≡ with_level m)
Push m (Err e) n = (m.sizes.depth ≤ length m.levels) × (e ≡ refusal.Depth) × (n ≡ m)

abbrev pub Pop : Meaning → Result (Unit {0}) Refusal → Meaning → Type 0
Pop m (Ok _) n = (0 < length m.levels) × (n ≡ without_level m)
Pop m (Err e) n = (length m.levels ≡ 0) × (e ≡ refusal.NoLevel) × (n ≡ m)

abbrev pub Tightest : Meaning → Side → Result (Option ℤ) Refusal → Meaning → Type 0
Tightest m s (Ok g) n = (side_fault m.sizes s ≡ None) × Greatest m.rows s g × (n ≡ m)
Tightest m s (Err e) n = (side_fault m.sizes s ≡ Some e) × (n ≡ m)

abbrev pub RowAt : Meaning → ℕ → Result Row Refusal → Meaning → Type 0
RowAt m k (Ok r) n = (k < length m.rows) × (r ≡ slice_index_or m.rows k r) × (n ≡ m)
RowAt m k (Err e) n = (length m.rows ≤ k) × (e ≡ refusal.NoRow) × (n ≡ m)

-- a start over a theory asks that it is empty
abbrev pub EmptyChecked : Meaning → Result (Unit {0}) Refusal → Type 0
EmptyChecked m (Ok _) = m ≡ empty m.sizes
EmptyChecked m (Err e) = (m ≢ empty m.sizes) × (e ≡ refusal.Unfit)

-- rule 7: some point meets the rows and r, or none does
abbrev pub PointChecked : List Row → Row → Result (Unit {0}) Refusal → Type 0
PointChecked rows r (Ok _) = Feasible (rows ++ r ∷ [])
PointChecked rows r (Err e) = (e ≡ refusal.Contradiction) × (Feasible (rows ++ r ∷ []) → ⊥)
