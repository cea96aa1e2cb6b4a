-- Rows filtered and not have the same points, so they agree in what they leave possible and in the greatest values. Assumes nothing.
use Rattle.std.specs.Prelude.{List, [], ◌∷◌, ◌++◌, ℤ, Some, None, Option}
use Rattle.std.proofs.Common.{arith}
use Rattle.std.specs.List.{AllByRecursion}
use Rattle.std.proofs.ByRecursion.{All-push}
use Rattle.std.proofs.lemmas.List.{length_push}
use Rattle.theory.specs.declared.row.Row.{Row}
use Rattle.theory.specs.declared.row.Side.{Side}
use Rattle.theory.specs.Rows.{Point, Meets, Feasible, Greatest}
use Rattle.filter.specs.Filters.{Filtered}

all_front : (P : Row → Type 0) (rows : List Row) (r : Row) → AllByRecursion P (rows ++ r ∷ []) → AllByRecursion P rows × P r
all_front P [] r h = (tt, h.0)
all_front P (x ∷ rows) r h = let rest = all_front P rows r h.1 in ((h.0, rest.0), rest.1)

module _ (rows kept : List Row) (f : Filtered rows kept) where
  pub filtered_greatest : (s : Side) (o : Option ℤ) → Greatest kept s o → Greatest rows s o
  filtered_greatest s (Some m) g = (λ p h. g.0 p (f.to p h), (g.1.0, f.from g.1.0 g.1.1, g.1.2))
  filtered_greatest s None g = λ m. let w = g m in (w.0, f.from w.0 w.1, w.2)

  -- one more row on both sides
  pub filtered_put : (r : Row) → Filtered (rows ++ r ∷ []) (kept ++ r ∷ [])
  filtered_put r = record {
    fewer = omega (arith, f.fewer, length_push rows r, length_push kept r);
    to = λ p h. let parts = all_front (Meets p) rows r h in All-push (Meets p) kept r (f.to p parts.0) parts.1;
    from = λ p h. let parts = all_front (Meets p) kept r h in All-push (Meets p) rows r (f.from p parts.0) parts.1;
  }

  -- an implied row is held back
  pub filtered_held : (r : Row) → ((p : Point) → AllByRecursion (Meets p) kept → Meets p r) → Filtered (rows ++ r ∷ []) kept
  filtered_held r implied = record {
    fewer = omega (arith, f.fewer, length_push rows r);
    to = λ p h. f.to p (all_front (Meets p) rows r h).0;
    from = λ p h. All-push (Meets p) rows r (f.from p h) (implied p h);
  }

  pub filtered_possible : (r : Row) → Feasible (kept ++ r ∷ []) → Feasible (rows ++ r ∷ [])
  filtered_possible r k = (k.0, (filtered_put r).from k.0 k.1)

  pub filtered_impossible : (r : Row) → (Feasible (kept ++ r ∷ []) → ⊥) → Feasible (rows ++ r ∷ []) → ⊥
  filtered_impossible r none k = none (k.0, (filtered_put r).to k.0 k.1)
