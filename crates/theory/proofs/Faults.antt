-- How a check that goes on after another tells the first broken rule. Assumes nothing.
use Rattle.std.proofs.Common.{◌≡◌, ℕ, Bool, true, false, Some, None, Ok, Err, Option, refl, arith}
use Rattle.theory.specs.declared.refusal.Refusal.{Refusal}
use Rattle.theory.specs.declared.refusal.Refusal.TheVariants.{Contradiction}
use Rattle.theory.specs.Calls.{RefusedBy}
use Rattle.theory.specs.Rules.{told, or_else}

-- what the first check refuses, both refuse
pub told_first : (o : Option Refusal) (broken : Bool) (f e : Refusal) → told o ≡ Err e → told (or_else o broken f) ≡ Err e
told_first None broken f e h = absurd (let z : ◌≡◌ {A = ℕ} 0 1 = cc in omega arith)
told_first (Some x) broken f e h = h

-- where both passed, each did
pub passed_both : (o : Option Refusal) (broken : Bool) (f : Refusal) → or_else o broken f ≡ None → (o ≡ None) × (broken ≡ false)
passed_both None false f h = (refl, refl)
passed_both None true f h = absurd (let z : ◌≡◌ {A = ℕ} 0 1 = cc in omega arith)
passed_both (Some x) broken f h = absurd (let z : ◌≡◌ {A = ℕ} 0 1 = cc in omega arith)

pub both_passed : (o : Option Refusal) (broken : Bool) (f : Refusal) → o ≡ None → broken ≡ false → or_else o broken f ≡ None
both_passed o broken f p q = rw (p, q) refl

-- what the answer of a check says of the first broken rule
pub fault_of_err : (o : Option Refusal) (e : Refusal) → Err e ≡ told o → o ≡ Some e
fault_of_err None e h = absurd (let z : ◌≡◌ {A = ℕ} 0 1 = cc in omega arith)
fault_of_err (Some f) e h = cc

pub no_fault_of_ok : (o : Option Refusal) → Ok tt ≡ told o → o ≡ None
no_fault_of_ok None h = refl
no_fault_of_ok (Some f) h = absurd (let z : ◌≡◌ {A = ℕ} 0 1 = cc in omega arith)

module _ (o : Option Refusal) (e : Refusal) (no_point : Type 0) where
  -- a check refuses by the first broken rule
  pub check_refuses : Err e ≡ told o → RefusedBy o e no_point
  check_refuses h = rw (fault_of_err o e h) refl

  -- what passed the check is refused as a contradiction
  pub point_refuses : Ok tt ≡ told o → (e ≡ Contradiction) × no_point → RefusedBy o e no_point
  point_refuses h says = rw (no_fault_of_ok o h) says
