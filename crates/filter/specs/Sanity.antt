-- The law of theories, met by a filter: what it means has a point, and fits its sizes, since what the theory below means does. Assumes nothing.
use Rattle.std.specs.Prelude.{◌≡◌, ℕ, List, [], ◌∷◌, length}
use Rattle.std.proofs.Common.{arith}
use Rattle.theory.specs.declared.row.Row.{Row}
use Rattle.theory.specs.Rows.{Feasible}
use Rattle.theory.specs.Meaning.{Meaning, Sane}
use Rattle.filter.specs.Filters.{Filtered, Stack, Over}

-- as many levels are open here as below
pub stack_long : (low base : ℕ) (rows kept : List Row) (ls ms : List ℕ) → Stack low base rows kept ls ms → length ls ≡ length ms
stack_long low base rows kept [] [] h = omega arith
stack_long low base rows kept [] (m ∷ ms) h = absurd h
stack_long low base rows kept (l ∷ ls) [] h = absurd h
stack_long low base rows kept (l ∷ ls) (m ∷ ms) h = let rest = stack_long l m rows kept ls ms h.3 in omega arith

pub filtered_feasible : (rows kept : List Row) → Filtered rows kept → Feasible kept → Feasible rows
filtered_feasible rows kept f k = (k.0, f.from k.0 k.1)

pub over_long : (m b : Meaning) → Over m b → length m.levels ≡ length b.levels
over_long m b o = stack_long 0 0 m.rows b.rows m.levels b.levels o.stack

pub over_sane : (m b : Meaning) → Over m b → Sane b → Sane m
over_sane m b o s = record {
  limits = rw o.sizes s.limits;
  rows_fit = o.rows_fit;
  levels_fit = rw o.sizes (omega (arith, s.levels_fit, over_long m b o));
  point = filtered_feasible _ _ o.same s.point;
}
