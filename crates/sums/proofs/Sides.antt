-- What the terms of a side come to, and what the images of a row say of points. Assumes nothing.
use Rattle.std.proofs.Common.{◌≡◌, ℕ, ◌*◌, ◌<◌, ◌≤◌, ℤ, ◌+ℤ◌, ◌-ℤ◌, neg_ℤ, nat_abs, ◌≤ℤ◌, None, sym, ap, arith}
use Rattle.std.specs.List.{AllByRecursion}
use Rattle.std.proofs.lemmas.Int.{ints}
use Rattle.theory.specs.declared.row.Sign.{Sign}
use Rattle.theory.specs.declared.row.Sign.TheVariants.{Zero, Plus, Minus}
use Rattle.theory.specs.declared.row.Side.{Side}
use Rattle.theory.specs.declared.sizes.Sizes.{Sizes}
use Rattle.theory.specs.Rows.{Point, Meets, value}
use Rattle.theory.specs.Rules.{side_fault}
use Rattle.bounds.specs.Literals.{Literal, index, mirror}
use Rattle.bounds.specs.Doubling.{code, literal, spread}
use Rattle.bounds.proofs.Doubling.{code_in, literal_code, spread_code}
use Rattle.bounds.proofs.Signs.{mirror_mirror, mirrored, at_mirror}
use Rattle.differences.specs.Sides.{Ends, Difference}
use Rattle.sums.specs.declared.Terms.{Terms}
use Rattle.sums.specs.declared.Terms.TheVariants.{One, Two}
use Rattle.sums.specs.Terms.{lit, terms_of, Opposite, value_by, Within, differ, row_of, images}

-- a side that passes the rules 1 to 3 is what its terms are
pub record Said (n : ℕ) (s : Side) : Type 0 where
  pub within : Within n (terms_of s)
  pub is : (p : Point) → value p s ≡ value_by p (terms_of s)

said_by_signs : (z : Sizes) (a b : Sign) (u v : ℕ) → side_fault z (record { a = a; b = b; u = u; v = v }) ≡ None → Said z.unknowns (record { a = a; b = b; u = u; v = v })
said_by_signs z Zero b u v h = absurd (grind arith)
said_by_signs z Plus Zero u v h = record { within = grind arith; is = λ p. omega (arith, ints) }
said_by_signs z Plus Plus u v h = record { within = (grind arith, grind arith, λ e. grind arith); is = λ p. omega (arith, ints) }
said_by_signs z Plus Minus u v h = record { within = (grind arith, grind arith, λ e. grind arith); is = λ p. omega (arith, ints) }
said_by_signs z Minus Zero u v h = record { within = grind arith; is = λ p. omega (arith, ints) }
said_by_signs z Minus Plus u v h = record { within = (grind arith, grind arith, λ e. grind arith); is = λ p. omega (arith, ints) }
said_by_signs z Minus Minus u v h = record { within = (grind arith, grind arith, λ e. grind arith); is = λ p. omega (arith, ints) }

pub said_of : (z : Sizes) (s : Side) → side_fault z s ≡ None → Said z.unknowns s
said_of z s h = said_by_signs z s.a s.b s.u s.v h

pub said_by : (z : Sizes) (s : Side) → side_fault z s ≡ None → (ts : Terms) → ts ≡ terms_of s → (p : Point) → value p s ≡ value_by p ts
said_by z s h ts is p = rw is ((said_of z s h).is p)

pub opposite_value : (p : Point) (s r : Terms) → Opposite s r → value_by p r ≡ neg_ℤ (value_by p s)
opposite_value p (One s) (One r) h = rw h (at_mirror p (lit s))
opposite_value p (One s) (Two q r) h = absurd h
opposite_value p (Two s t) (One r) h = absurd h
opposite_value p (Two s t) (Two q r) h = rw (h.0, h.1) (omega (arith, ints))

pub opposite_within : (n : ℕ) (s r : Terms) → Opposite s r → Within n s → Within n r
opposite_within n (One s) (One r) h w = rw h (mirrored (λ k. k < n) (lit s) w)
opposite_within n (One s) (Two q r) h w = absurd h
opposite_within n (Two s t) (One r) h w = absurd h
opposite_within n (Two s t) (Two q r) h w = rw (h.0, h.1) (w.1, w.0, λ e. w.2 (sym e))

-- what a row between literals says of a point below
row_says : (p : Point) (s t : Literal) (c : ℤ) → (p (code s) -ℤ p (code t)) ≤ℤ c → Meets p (row_of s t c)
row_says p s t c h = omega (arith, ints)

row_said : (p : Point) (s t : Literal) (c : ℤ) → Meets p (row_of s t c) → (p (code s) -ℤ p (code t)) ≤ℤ c
row_said p s t c h = omega (arith, ints)

-- a point above that meets a row, spread out, meets the images
pub images_met : (p : Point) (ts : Terms) (c : ℤ) → value_by p ts ≤ℤ c → AllByRecursion (Meets (spread p)) (images ts c)
images_met p (One s) c h =
    (row_says (spread p) (lit s) (mirror (lit s)) (c +ℤ c) (rw (spread_code p (lit s), spread_code p (mirror (lit s)), at_mirror p (lit s)) (omega (arith, ints))), tt)
images_met p (Two s t) c h = (
  row_says (spread p) (lit s) (lit t) c (rw (spread_code p (lit s), spread_code p (lit t)) h),
  (row_says (spread p) (mirror (lit t)) (mirror (lit s)) c (rw (spread_code p (mirror (lit t)), spread_code p (mirror (lit s)), at_mirror p (lit t), at_mirror p (lit s)) (omega (arith, ints))), tt),
)

-- the point below with each literal at the opposite of what its mirror was
abbrev pub turned : Point → Point
turned p j = neg_ℤ (p (code (mirror (literal j))))

pub turned_code : (p : Point) (s : Literal) → turned p (code s) ≡ neg_ℤ (p (code (mirror s)))
turned_code p s = ap (λ r. neg_ℤ (p (code (mirror r)))) (literal_code s)

pub turned_back : (p : Point) (s : Literal) → turned p (code (mirror s)) ≡ neg_ℤ (p (code s))
turned_back p s = rw (turned_code p (mirror s), mirror_mirror s)

-- the images of a row come in mirrored pairs
pub images_turned : (p : Point) (ts : Terms) (c : ℤ) → AllByRecursion (Meets p) (images ts c) → AllByRecursion (Meets (turned p)) (images ts c)
images_turned p (One s) c h =
    let was = row_said p (lit s) (mirror (lit s)) (c +ℤ c) h.0 in
    (row_says (turned p) (lit s) (mirror (lit s)) (c +ℤ c) (rw (turned_code p (lit s), turned_back p (lit s)) (omega (arith, ints))), tt)
images_turned p (Two s t) c h =
    let one = row_said p (lit s) (lit t) c h.0 in
    let two = row_said p (mirror (lit t)) (mirror (lit s)) c h.1.0 in (
      row_says (turned p) (lit s) (lit t) c (rw (turned_code p (lit s), turned_code p (lit t)) (omega (arith, ints))),
      (row_says (turned p) (mirror (lit t)) (mirror (lit s)) c (rw (turned_back p (lit t), turned_back p (lit s)) (omega (arith, ints))), tt),
    )

module _ (n N : ℕ) (half : 2 * n ≤ N) where
  pub differ_ends : (s t : Literal) → index s < n → index t < n → Ends N (differ s t)
  differ_ends s t s_in t_in = record { first_in = code_in n N s s_in (omega arith); second_in = code_in n N t t_in (omega arith); is = λ p. omega (arith, ints) }

  -- the images bound differences, twice as far from 0 at most
  pub images_near : (reach : ℕ) (ts : Terms) (c : ℤ) → Within n ts → 2 * nat_abs c ≤ reach → AllByRecursion (Difference N reach) (images ts c)
  images_near reach (One s) c w l = (record { ends = differ_ends (lit s) (mirror (lit s)) w (mirrored (λ k. k < n) (lit s) w); near = omega (arith, ints) }, tt)
  images_near reach (Two s t) c w l = (
    record { ends = differ_ends (lit s) (lit t) w.0 w.1; near = omega arith },
    (record { ends = differ_ends (mirror (lit t)) (mirror (lit s)) (mirrored (λ k. k < n) (lit t) w.1) (mirrored (λ k. k < n) (lit s) w.0); near = omega arith }, tt),
  )
