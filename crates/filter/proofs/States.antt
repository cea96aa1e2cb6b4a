-- What each step makes of what a filter means and of what the theory below means. Assumes nothing.
use Rattle.std.specs.Prelude.{◌≡◌, ℕ, ◌-◌, ◌<◌, ◌⊎◌, List, [], ◌∷◌, ◌++◌, length, take, ℤ, ◌≤ℤ◌, Some, None, Ok, Err, Option, Result, refl}
use Rattle.std.proofs.Common.{sym, ap, subst, ◌∙◌, inl, inr, arith}
use Rattle.std.specs.List.{AllByRecursion}
use Rattle.std.proofs.lemmas.List.{length_push, length-take-le, take_all, take_more}
use Rattle.std.proofs.ByRecursion.{All-push}
use Rattle.std.proofs.lemmas.Bool.{lt-leb}
use Rattle.std.proofs.lemmas.Int.{ints}
use Rattle.theory.specs.declared.refusal.Refusal.{Refusal}
use Rattle.theory.specs.declared.row.Row.{Row}
use Rattle.theory.specs.declared.row.Side.{Side}
use Rattle.theory.specs.Rows.{Point, Meets, Greatest}
use Rattle.theory.specs.Meaning.{Meaning, Sane, newest, with_row, with_level, without_level}
use Rattle.theory.specs.Calls.{put_fault, Tightest}
use Rattle.theory.proofs.Faults.{passed_both, both_passed}
use Rattle.filter.specs.Filters.{Stack, Over, Passed}
use Rattle.filter.specs.Sanity.{over_long}
use Rattle.filter.proofs.Rows.{filtered_greatest, filtered_put, filtered_held}
use Rattle.filter.proofs.Stacks.{stack_held, stack_put, stack_push, stack_pop}

module _ (m b : Meaning) (o : Over m b) where
  module _ (r : Row) (room : length m.rows < m.sizes.space) where
    held_stack : Stack 0 0 (m.rows ++ r ∷ []) b.rows m.levels b.levels
    held_stack = stack_held 0 0 m.rows b.rows m.levels b.levels r o.stack

    over_held : ((p : Point) → AllByRecursion (Meets p) b.rows → Meets p r) → Over (with_row m r) b
    over_held implied = record {
      sizes = o.sizes;
      same = filtered_held _ _ o.same r implied;
      stack = held_stack;
      rows_fit = omega (arith, length_push m.rows r);
    }

    over_put : Over (with_row m r) (with_row b r)
    over_put = record {
      sizes = o.sizes;
      same = filtered_put _ _ o.same r;
      stack = stack_put 0 0 (m.rows ++ r ∷ []) b.rows m.levels b.levels r held_stack;
      rows_fit = omega (arith, length_push m.rows r);
    }

    pub over_passed : (n : Meaning) → ((n ≡ b) × ((p : Point) → AllByRecursion (Meets p) b.rows → Meets p r)) ⊎ (n ≡ with_row b r) → Over (with_row m r) n
    over_passed n (inl h) = subst (Over (with_row m r)) (sym h.0) (over_held h.1)
    over_passed n (inr e) = subst (Over (with_row m r)) (sym e) over_put

  pub over_push : Over (with_level m) (with_level b)
  over_push = record { sizes = o.sizes; same = o.same; stack = stack_push 0 0 m.rows b.rows m.levels b.levels o.same o.stack; rows_fit = o.rows_fit }

-- a list and its last
last_split : (ls : List ℕ) → 0 < length ls → take (length ls - 1) ls ++ newest ls ∷ [] ≡ ls
last_split ls h =
    let more = take_more ls (length ls - 1) 0 (omega arith) in
    sym more ∙ take_all _ ls (omega arith)

pub over_pop : (m b : Meaning) → Over m b → 0 < length m.levels → Over (without_level m) (without_level b)
over_pop m b o some =
    let ls = (without_level m).levels in
    let ms = (without_level b).levels in
    let l = newest m.levels in
    let k = newest b.levels in
    let split : Stack 0 0 m.rows b.rows (ls ++ l ∷ []) (ms ++ k ∷ []) = rw (last_split m.levels some, last_split b.levels (omega (arith, over_long m b o))) o.stack in
    let c = stack_pop 0 0 m.rows b.rows ls ms l k split in
    record { sizes = o.sizes; same = c.same; stack = c.rest; rows_fit = omega (arith, o.rows_fit, length-take-le l m.rows c.within, c.within) }

-- a put that breaks none of the rules 1 to 6 finds room
pub put_room : (m : Meaning) (r : Row) → put_fault m r ≡ None → length m.rows < m.sizes.space
put_room m r h = grind arith

-- and so does the theory below, which has no more rows
pub fault_below : (m b : Meaning) → Over m b → (r : Row) → put_fault m r ≡ None → put_fault b r ≡ None
fault_below m b over r h =
    let room : length b.rows < b.sizes.space = omega (arith, put_room m r h, over.same.fewer, ap (λ z. z.space) over.sizes) in
    both_passed _ _ _ (rw over.sizes at (passed_both _ _ _ h).0) (lt-leb _ _ room)

-- a row whose side has a greatest value of c or less is implied
pub passed_by_bound : (m n : Meaning) (r : Row) (most : ℤ) → n ≡ m → Sane m → Greatest m.rows r.side (Some most) → most ≤ℤ r.c → Passed m r (Ok tt) n
passed_by_bound m n r most is sane g under =
    let implied : (p : Point) → AllByRecursion (Meets p) m.rows → Meets p r = λ p h. let top = g.0 p h in omega (arith, ints) in
    let point = sane.point in
    ((point.0, All-push (Meets point.0) m.rows r point.1 (implied point.0 point.1)), inl (is, implied))

-- a question below is one here
pub over_tightest : (m b n : Meaning) (s : Side) (a : Result (Option ℤ) Refusal) → Over m b → Tightest b s a n → Tightest m s a m
over_tightest m b n s (Ok o) over h = (rw over.sizes h.0, filtered_greatest _ _ over.same s o h.1, refl)
over_tightest m b n s (Err e) over h = (rw over.sizes h.0, refl)

-- as many levels are open as below, and as many may be
pub over_depth : (m b : Meaning) → Over m b → (length m.levels ≡ length b.levels) × (m.sizes.depth ≡ b.sizes.depth)
over_depth m b over = (over_long m b over, ap (λ z. z.depth) over.sizes)
