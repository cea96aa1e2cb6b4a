-- The law of theories, met by the sparse bottom: what a state means has a point, and fits its sizes. Assumes nothing.
use Rattle.std.specs.Prelude.{List}
use Rattle.std.proofs.Common.{get_or, arith}
use Rattle.std.specs.List.{AllByRecursion}
use Rattle.std.proofs.ByRecursion.{All-map, all_from_every}
use Rattle.std.proofs.lemmas.Int.{ints}
use Rattle.std.proofs.lemmas.List.{length-map}
use Rattle.theory.specs.Meaning.{Sane}
use Rattle.theory.specs.Rows.{Point, Meets, Feasible}
use Rattle.differences.specs.Sides.{Fair}
use Rattle.differences.proofs.Sides.{ends_of, fair_side}
use Rattle.sparse.specs.declared.graph.Edge.{Edge}
use Rattle.sparse.specs.declared.Sparse.{Sparse}
use Rattle.sparse.specs.Edges.{rows_in, Met, Keeps, AllFair}
use Rattle.sparse.specs.Graphs.{edges_of}
use Rattle.sparse.specs.Points.{point_of}
use Rattle.sparse.specs.State.{meaning_of}

pub meets_from_met : (x : Point) (e : Edge) → Fair e.row → Met x e → Meets x e.row
meets_from_met x e fair h = let is = (ends_of e.row.side (fair_side e.row fair)).is x in rw is (omega (arith, ints))

-- a point that keeps fair edges meets their rows
pub all_from_keeps : (x : Point) (es : List Edge) → AllFair es → Keeps x es → AllByRecursion (Meets x) (rows_in es)
all_from_keeps x es fair h = All-map (Meets x) (λ (e : Edge). e.row) es (all_from_every (λ e. Meets x e.row) es (λ k d low high. meets_from_met x (get_or es k d) (fair k d low high) (h k d low high)))

-- the potentials are a point that meets the standing rows
pub feasible_meaning : (s : Sparse) → Feasible (rows_in (edges_of s.graph))
feasible_meaning s = (point_of s.potentials, all_from_keeps _ _ s.graph.fair s.holds.keeps)

pub sane_meaning : (s : Sparse) → Sane (meaning_of s)
sane_meaning s = record {
  limits = record { unknowns = omega arith; space = omega arith; depth = omega arith; reach = omega arith };
  rows_fit = omega (arith, s.graph.edges_fit, length-map (edges_of s.graph) (λ (e : Edge). e.row));
  levels_fit = s.graph.levels_fit;
  point = feasible_meaning s;
}
