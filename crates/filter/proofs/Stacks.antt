-- The rows of each level's time stay filtered, when a row comes, a level opens and the newest level closes. Assumes nothing.
use Rattle.std.specs.Prelude.{ℕ, ◌≤◌, List, [], ◌∷◌, ◌++◌, length, take}
use Rattle.std.proofs.Common.{arith}
use Rattle.std.proofs.lemmas.List.{length_push, length-take-le, take-append-le, take-take, take_all}
use Rattle.theory.specs.declared.row.Row.{Row}
use Rattle.filter.specs.Filters.{Filtered, Stack}

stack_low : (low base : ℕ) (rows kept : List Row) (ls ms : List ℕ) → Stack low base rows kept ls ms → (low ≤ length rows) × (base ≤ length kept)
stack_low low base rows kept [] [] h = h
stack_low low base rows kept [] (m ∷ ms) h = absurd h
stack_low low base rows kept (l ∷ ls) [] h = absurd h
stack_low low base rows kept (l ∷ ls) (m ∷ ms) h = let rest = stack_low l m rows kept ls ms h.3 in (omega (arith, h.0, rest.0), omega (arith, h.1, rest.1))

-- one more row here, and none or one below
pub stack_held : (low base : ℕ) (rows kept : List Row) (ls ms : List ℕ) (r : Row) → Stack low base rows kept ls ms → Stack low base (rows ++ r ∷ []) kept ls ms
stack_held low base rows kept [] [] r h = (rw (length_push rows r) (omega (arith, h.0)), h.1)
stack_held low base rows kept [] (m ∷ ms) r h = absurd h
stack_held low base rows kept (l ∷ ls) [] r h = absurd h
stack_held low base rows kept (l ∷ ls) (m ∷ ms) r h =
    let within = (stack_low l m rows kept ls ms h.3).0 in
    (h.0, h.1, rw (take-append-le l rows (r ∷ []) within) h.2, stack_held l m rows kept ls ms r h.3)

pub stack_put : (low base : ℕ) (rows kept : List Row) (ls ms : List ℕ) (r : Row) → Stack low base rows kept ls ms → Stack low base rows (kept ++ r ∷ []) ls ms
stack_put low base rows kept [] [] r h = (h.0, rw (length_push kept r) (omega (arith, h.1)))
stack_put low base rows kept [] (m ∷ ms) r h = absurd h
stack_put low base rows kept (l ∷ ls) [] r h = absurd h
stack_put low base rows kept (l ∷ ls) (m ∷ ms) r h =
    let within = (stack_low l m rows kept ls ms h.3).1 in
    (h.0, h.1, rw (take-append-le m kept (r ∷ []) within) h.2, stack_put l m rows kept ls ms r h.3)

-- one more level, which opens now
pub stack_push : (low base : ℕ) (rows kept : List Row) (ls ms : List ℕ) → Filtered rows kept → Stack low base rows kept ls ms → Stack low base rows kept (ls ++ length rows ∷ []) (ms ++ length kept ∷ [])
stack_push low base rows kept [] [] now h = (h.0, h.1, rw (take_all (length rows) rows (omega arith), take_all (length kept) kept (omega arith)) now, (omega arith, omega arith))
stack_push low base rows kept [] (m ∷ ms) now h = absurd h
stack_push low base rows kept (l ∷ ls) [] now h = absurd h
stack_push low base rows kept (l ∷ ls) (m ∷ ms) now h = (h.0, h.1, h.2, stack_push l m rows kept ls ms now h.3)

pub record Closed (low base : ℕ) (rows kept : List Row) (ls ms : List ℕ) (l m : ℕ) : Type 0 where
  pub from_low : low ≤ l
  pub from_base : base ≤ m
  pub within : l ≤ length rows
  pub below_within : m ≤ length kept
  pub same : Filtered (take l rows) (take m kept)
  pub rest : Stack low base (take l rows) (take m kept) ls ms

-- the newest level closes, and the rows that came since are gone
pub stack_pop : (low base : ℕ) (rows kept : List Row) (ls ms : List ℕ) (l m : ℕ) → Stack low base rows kept (ls ++ l ∷ []) (ms ++ m ∷ []) → Closed low base rows kept ls ms l m
stack_pop low base rows kept [] [] l m h = record {
  from_low = h.0;
  from_base = h.1;
  within = h.3.0;
  below_within = h.3.1;
  same = h.2;
  rest = (rw (length-take-le l rows h.3.0) h.0, rw (length-take-le m kept h.3.1) h.1);
}
stack_pop low base rows kept [] (b ∷ []) l m h = absurd h.3
stack_pop low base rows kept [] (b ∷ c ∷ ms) l m h = absurd h.3
stack_pop low base rows kept (a ∷ []) [] l m h = absurd h.3
stack_pop low base rows kept (a ∷ c ∷ ls) [] l m h = absurd h.3
stack_pop low base rows kept (a ∷ ls) (b ∷ ms) l m h =
    let c = stack_pop a b rows kept ls ms l m h.3 in
    record {
      from_low = omega (arith, h.0, c.from_low);
      from_base = omega (arith, h.1, c.from_base);
      within = c.within;
      below_within = c.below_within;
      same = c.same;
      rest = (h.0, h.1, rw (take-take a l rows c.from_low, take-take b m kept c.from_base) h.2, c.rest);
    }
