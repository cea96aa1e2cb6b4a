-- Literals and the unknowns that stand for them, and halves of bounds. Assumes nothing.
use Rattle.std.proofs.Common.{◌≡◌, ℕ, ◌+◌, ◌*◌, ◌/◌, ◌%◌, ◌<◌, eqb, ℤ, pos, ◌+ℤ◌, ◌≤ℤ◌, Some, None, Option, ap, ◌∙◌, arith}
use Rattle.std.proofs.lemmas.Int.{ints}
use Rattle.std.proofs.lemmas.Bool.{eq-eqb, ne_eqb, cond-true, cond-false}
use Rattle.bounds.specs.Literals.{Point, Literal, plus, minus, index, mirror, at}
use Rattle.bounds.specs.Tables.{AtMost, Allows}
use Rattle.bounds.specs.Doubling.{code, literal, spread, half_of}
use Rattle.bounds.proofs.Signs.{half_is}

-- the unknown that stands for a literal of an unknown below n is below 2n
pub code_in : (n m : ℕ) (s : Literal) → index s < n → 2 * n < m + 1 → code s < m
code_in n m (plus k) h l = omega arith
code_in n m (minus k) h l = omega arith

-- literals of unlike unknowns, and a literal and its mirror, are unlike below too
pub code_apart : (s t : Literal) → (index s ≡ index t → ⊥) → code s ≡ code t → ⊥
code_apart (plus i) (plus j) h e = h (omega arith)
code_apart (plus i) (minus j) h e = omega arith
code_apart (minus i) (plus j) h e = omega arith
code_apart (minus i) (minus j) h e = h (omega arith)

pub code_mirror : (s : Literal) → code s ≡ code (mirror s) → ⊥
code_mirror (plus k) e = omega arith
code_mirror (minus k) e = omega arith

pub literal_code : (s : Literal) → literal (code s) ≡ s
literal_code (plus k) =
    let even : (2 * k) % 2 ≡ 0 = omega arith in
    let is : (2 * k) / 2 ≡ k = omega arith in
    cond-true (eqb ((2 * k) % 2) 0) _ _ (eq-eqb _ 0 even) ∙ ap plus is
literal_code (minus k) =
    let odd : (2 * k + 1) % 2 ≡ 1 = omega arith in
    let is : (2 * k + 1) / 2 ≡ k = omega arith in
    cond-false (eqb ((2 * k + 1) % 2) 0) _ _ (ne_eqb _ 0 (λ e. omega arith)) ∙ ap minus is

pub spread_code : (p : Point) (s : Literal) → spread p (code s) ≡ at p s
spread_code p s = ap (at p) (literal_code s)

-- a bound on twice a number bounds the number by its half
pub half_at_most : (o : Option ℤ) (d a : ℤ) → AtMost o d → d ≤ℤ ((a +ℤ a) +ℤ pos 1) → AtMost (half_of o) a
half_at_most None d a h l = h
half_at_most (Some x) d a h l = omega (arith, ints, half_is x)

pub half_from : (o : Option ℤ) (a : ℤ) → AtMost (half_of o) a → AtMost o ((a +ℤ a) +ℤ pos 1)
half_from None a h = h
half_from (Some x) a h = omega (arith, ints, half_is x)

pub half_allows : (o : Option ℤ) (x : ℤ) → Allows o (x +ℤ x) → Allows (half_of o) x
half_allows None x h = tt
half_allows (Some d) x h = omega (arith, ints, half_is d)

pub half_allows_twice : (o : Option ℤ) (x : ℤ) → Allows (half_of o) x → Allows o (x +ℤ x)
half_allows_twice None x h = tt
half_allows_twice (Some d) x h = omega (arith, ints, half_is d)

-- two bounds on one number
pub half_sum : (o : Option ℤ) (x y d : ℤ) → AtMost o x → AtMost o y → (x +ℤ y) ≤ℤ ((d +ℤ d) +ℤ pos 1) → AtMost o d
half_sum None x y d h k l = h
half_sum (Some z) x y d h k l = omega (arith, ints)
