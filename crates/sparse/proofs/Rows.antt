-- A point that meets the rows of fair edges keeps the edges; the other way round stands in specs/Sanity.antt. Assumes nothing.
use Rattle.std.proofs.Common.{List, length, get_or, subst, arith}
use Rattle.std.specs.List.{AllWithin, AllByRecursion}
use Rattle.std.proofs.lemmas.List.{length-map, get_or-map}
use Rattle.std.proofs.ByRecursion.{All-get_or}
use Rattle.std.proofs.lemmas.Int.{ints}
use Rattle.theory.specs.Rows.{Point, Meets}
use Rattle.sparse.specs.declared.graph.Edge.{Edge}
use Rattle.differences.specs.Sides.{Fair}
use Rattle.sparse.specs.Edges.{Met, Keeps, rows_in}
use Rattle.differences.proofs.Sides.{ends_of, fair_side}

module _ (x : Point) (e : Edge) (fair : Fair e.row) where
  pub met_from_meets : Meets x e.row → Met x e
  met_from_meets h = let is = (ends_of e.row.side (fair_side e.row fair)).is x in let k = rw is at h in omega (arith, ints)

module _ (x : Point) (es : List Edge) (fair : AllWithin (λ e. Fair e.row) es 0 (length es)) where
  pub keeps_from_all : AllByRecursion (Meets x) (rows_in es) → Keeps x es
  keeps_from_all h k d low high =
      let at = get_or-map (λ (e : Edge). e.row) es k d d.row high in
      met_from_meets x (get_or es k d) (fair k d low high) (subst (Meets x) at (All-get_or (Meets x) (rows_in es) k d.row (omega (arith, length-map es (λ (e : Edge). e.row))) h))
