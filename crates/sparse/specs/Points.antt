-- The point that potentials are, and what is kept of it. Assumes nothing.
-- Holds: the potentials meet the rows of the edges, and lie between −260000000 for each of them and 0.
-- Repaired, Accepted: what a new row makes of the potentials, and of the edges too.
use Rattle.std.specs.Prelude.{◌≡◌, ℕ, ◌*◌, ◌<◌, List, [], ◌∷◌, ◌++◌, length, pos, neg_ℤ, ◌≤ℤ◌, Ok, Err, Result, slice_index_or}
use Rattle.theory.specs.declared.refusal.Refusal.{Refusal}
use Rattle.theory.specs.declared.refusal.Refusal.TheVariants.{Contradiction}
use Rattle.theory.specs.declared.row.Row.{Row}
use Rattle.theory.specs.Rows.{Point}
use Rattle.sparse.specs.declared.graph.Edge.{Edge}
use Rattle.sparse.specs.declared.potentials.Potentials.{Potentials}
use Rattle.sparse.specs.Edges.{Met, Keeps, Added}

abbrev pub point_of : Potentials → Point
point_of p u = slice_index_or p.values u (pos 0)

pub record Holds (es : List Edge) (p : Point) : Type 0 where
  pub keeps : Keeps p es
  pub high : (r : ℕ) → r < 64 → p r ≤ℤ pos 0
  pub low : (r : ℕ) → r < 64 → neg_ℤ (pos (260000000 * length es)) ≤ℤ p r

-- no point meets the edges and the row
abbrev pub NoPoint : List Edge → Row → Type 0
NoPoint es row = (e : Edge) (x : Point) → e.row ≡ row → Keeps x es → Met x e → ⊥

-- Ok: the potentials hold with an edge of the row. Err: no point meets the edges and the row, and the potentials are as they were.
abbrev pub Repaired : List Edge → Row → Potentials → Result (Unit {0}) Refusal → Potentials → Type 0
Repaired es row p (Ok _) p' = (e : Edge) → e.row ≡ row → Holds (es ++ e ∷ []) (point_of p')
Repaired es row p (Err f) p' = (f ≡ Contradiction) × NoPoint es row × (p' ≡ p)

-- Ok: there is an edge of the row more, and the potentials hold. Err: no point meets the edges and the row, and all is as it was.
abbrev pub Accepted : List Edge → Row → Potentials → Result (Unit {0}) Refusal → List Edge → Potentials → Type 0
Accepted es row p (Ok _) es' p' = Added es row es' × Holds es' (point_of p')
Accepted es row p (Err f) es' p' = (f ≡ Contradiction) × NoPoint es row × (es' ≡ es) × (p' ≡ p)
