-- Each relation between a call, its answer and what it leaves holds of one answer only, and of one meaning after. Assumes nothing.
use Rattle.std.proofs.Common.{◌≡◌, ℕ, List, ℤ, pos, ◌+ℤ◌, Some, None, Ok, Err, Option, Result, sym, refl, ap, ◌∙◌, arith}
use Rattle.std.proofs.lemmas.Int.{ints}
use Rattle.std.proofs.lemmas.List.{get_or_read}
use Rattle.theory.specs.declared.refusal.Refusal.{Refusal}
use Rattle.theory.specs.declared.row.Row.{Row}
use Rattle.theory.specs.declared.row.Side.{Side}
use Rattle.theory.specs.Rows.{Greatest}
use Rattle.theory.specs.Meaning.{Meaning}
use Rattle.theory.specs.Calls.{put_fault, RefusedBy, Put, Push, Pop, Tightest, RowAt}

none_some : {A : Type 0} {o : Option A} {x : A} → o ≡ None → o ≡ Some x → ⊥
none_some p q = let z : ◌≡◌ {A = ℕ} 0 1 = cc in omega arith

pub greatest_unique : (rows : List Row) (s : Side) (g h : Option ℤ) → Greatest rows s g → Greatest rows s h → g ≡ h
greatest_unique rows s (Some m) (Some n) p q =
    let above = q.0 p.1.0 p.1.1 in
    let below = p.0 q.1.0 q.1.1 in
    let up = p.1.2 in
    let down = q.1.2 in
    ap Some (omega (arith, ints))
greatest_unique rows s (Some m) None p q = let w = q (m +ℤ pos 1) in let above = p.0 w.0 w.1 in let up = w.2 in absurd (omega (arith, ints))
greatest_unique rows s None (Some m) p q = let w = p (m +ℤ pos 1) in let above = q.0 w.0 w.1 in let up = w.2 in absurd (omega (arith, ints))
greatest_unique rows s None None p q = refl

refused_unique : (o : Option Refusal) (e f : Refusal) (no_point : Type 0) → RefusedBy o e no_point → RefusedBy o f no_point → e ≡ f
refused_unique (Some x) e f no_point p q = p ∙ sym q
refused_unique None e f no_point p q = p.0 ∙ sym q.0

at_none : (o : Option Refusal) (e : Refusal) (no_point : Type 0) → o ≡ None → RefusedBy o e no_point → no_point
at_none None e no_point h p = p.1
at_none (Some x) e no_point h p = absurd (none_some h refl)

pub put_unique : (m : Meaning) (r : Row) (a b : Result (Unit {0}) Refusal) (k n : Meaning) → Put m r a k → Put m r b n → (a ≡ b) × (k ≡ n)
put_unique m r (Ok x) (Ok y) k n p q = (refl, p.2 ∙ sym q.2)
put_unique m r (Ok x) (Err e) k n p q = absurd (at_none (put_fault m r) e _ p.0 q.0 p.1)
put_unique m r (Err e) (Ok x) k n p q = absurd (at_none (put_fault m r) e _ q.0 p.0 q.1)
put_unique m r (Err e) (Err f) k n p q = (ap Err (refused_unique (put_fault m r) e f _ p.0 q.0), p.1 ∙ sym q.1)

pub push_unique : (m : Meaning) (a b : Result (Unit {0}) Refusal) (k n : Meaning) → Push m a k → Push m b n → (a ≡ b) × (k ≡ n)
push_unique m (Ok x) (Ok y) k n p q = (refl, p.1 ∙ sym q.1)
push_unique m (Ok x) (Err e) k n p q = absurd (omega arith)
push_unique m (Err e) (Ok x) k n p q = absurd (omega arith)
push_unique m (Err e) (Err f) k n p q = (ap Err (p.1 ∙ sym q.1), p.2 ∙ sym q.2)

pub pop_unique : (m : Meaning) (a b : Result (Unit {0}) Refusal) (k n : Meaning) → Pop m a k → Pop m b n → (a ≡ b) × (k ≡ n)
pop_unique m (Ok x) (Ok y) k n p q = (refl, p.1 ∙ sym q.1)
pop_unique m (Ok x) (Err e) k n p q = absurd (omega arith)
pop_unique m (Err e) (Ok x) k n p q = absurd (omega arith)
pop_unique m (Err e) (Err f) k n p q = (ap Err (p.1 ∙ sym q.1), p.2 ∙ sym q.2)

pub tightest_unique : (m : Meaning) (s : Side) (a b : Result (Option ℤ) Refusal) (k n : Meaning) → Tightest m s a k → Tightest m s b n → (a ≡ b) × (k ≡ n)
tightest_unique m s (Ok g) (Ok h) k n p q = (ap Ok (greatest_unique m.rows s g h p.1 q.1), p.2 ∙ sym q.2)
tightest_unique m s (Ok g) (Err e) k n p q = absurd (none_some p.0 q.0)
tightest_unique m s (Err e) (Ok g) k n p q = absurd (none_some q.0 p.0)
tightest_unique m s (Err e) (Err f) k n p q = let same : Some e ≡ Some f = sym p.0 ∙ q.0 in let one : e ≡ f = cc in (ap Err one, p.1 ∙ sym q.1)

pub row_unique : (m : Meaning) (k : ℕ) (a b : Result Row Refusal) (n n' : Meaning) → RowAt m k a n → RowAt m k b n' → (a ≡ b) × (n ≡ n')
row_unique m k (Ok r) (Ok s) n n' p q = (ap Ok (get_or_read m.rows k r p.0 p.1 s ∙ sym q.1), p.2 ∙ sym q.2)
row_unique m k (Ok r) (Err e) n n' p q = absurd (omega arith)
row_unique m k (Err e) (Ok r) n n' p q = absurd (omega arith)
row_unique m k (Err e) (Err f) n n' p q = (ap Err (p.1 ∙ sym q.1), p.2 ∙ sym q.2)
