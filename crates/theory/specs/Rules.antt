-- The rules that a left side and a row have to pass by themselves, and the limits of the sizes. Assumes nothing.
-- Each rule is a test that is true where the rule is broken; side_fault and row_fault name the first broken one.
use Rattle.std.specs.Prelude.{ℕ, ◌≤◌, Bool, true, false, cond, not, ◌&&◌, ◌||◌, Some, None, Ok, Err, Option, Result, ◌==◌, nat_le, nat_lt, unsigned_abs}
use Rattle.theory.specs.declared.refusal.Refusal.{Refusal}
use Rattle.theory.specs.declared.refusal.Refusal.TheVariants as refusal
use Rattle.theory.specs.declared.row.Sign.{Sign}
use Rattle.theory.specs.declared.row.Sign.TheVariants.{Zero, Plus, Minus}
use Rattle.theory.specs.declared.row.Side.{Side}
use Rattle.theory.specs.declared.row.Row.{Row}
use Rattle.theory.specs.declared.sizes.Breadth.{Breadth}
use Rattle.theory.specs.declared.sizes.Breadth.TheVariants.{Differences, Bounds, Sums}
use Rattle.theory.specs.declared.sizes.Sizes.{Sizes}

abbrev pub breadth_number : Breadth → ℕ
breadth_number Differences = 1
breadth_number Bounds = 2
breadth_number Sums = 3

pub record Limits (s : Sizes) : Type 0 where
  pub unknowns : s.unknowns ≤ 64
  pub space : s.space ≤ 1024
  pub depth : s.depth ≤ 128
  pub reach : s.reach ≤ 4000000

abbrev pub zero_sign : Sign → Bool
zero_sign Zero = true
zero_sign Plus = false
zero_sign Minus = false

-- the least breadth that takes a side with these signs: one unknown, opposite signs, equal signs
abbrev pub breadth_of : Sign → Sign → Breadth
breadth_of a Zero = Bounds
breadth_of Zero Plus = Bounds
breadth_of Zero Minus = Bounds
breadth_of Plus Plus = Sums
breadth_of Plus Minus = Differences
breadth_of Minus Plus = Differences
breadth_of Minus Minus = Sums

abbrev pub bad_signs : Side → Bool
bad_signs s = zero_sign s.a || (zero_sign s.b && not (s.v == 0))

abbrev pub unknown_beyond : ℕ → Side → Bool
unknown_beyond n s = nat_le n s.u || (not (zero_sign s.b) && nat_le n s.v)

abbrev pub unknown_twice : Side → Bool
unknown_twice s = not (zero_sign s.b) && s.u == s.v

abbrev pub outside_breadth : Breadth → Side → Bool
outside_breadth w s = nat_lt (breadth_number w) (breadth_number (breadth_of s.a s.b))

abbrev pub side_fault : Sizes → Side → Option Refusal
side_fault z s =
    cond (bad_signs s) (Some refusal.Signs)
    (cond (unknown_beyond z.unknowns s) (Some refusal.Unknown)
    (cond (unknown_twice s) (Some refusal.Twice)
    (cond (outside_breadth z.breadth s) (Some refusal.Breadth) None)))

abbrev pub or_else : Option Refusal → Bool → Refusal → Option Refusal
or_else (Some e) broken f = Some e
or_else None broken f = cond broken (Some f) None

abbrev pub row_fault : Sizes → Row → Option Refusal
row_fault z r = or_else (side_fault z r.side) (nat_lt z.reach (unsigned_abs r.c)) refusal.Reach

-- rules 1 to 6 for a row where so many rows stand
abbrev pub put_fault_of : Sizes → ℕ → Row → Option Refusal
put_fault_of z rows r = or_else (row_fault z r) (nat_le z.space rows) refusal.Space

-- rule 8 where so many levels are open
abbrev pub push_fault_of : Sizes → ℕ → Option Refusal
push_fault_of z levels = cond (nat_le z.depth levels) (Some refusal.Depth) None

-- rule 9
abbrev pub pop_fault_of : ℕ → Option Refusal
pop_fault_of levels = cond (levels == 0) (Some refusal.NoLevel) None

-- the answer of a check
abbrev pub told : Option Refusal → Result (Unit {0}) Refusal
told None = Ok tt
told (Some e) = Err e
