-- Rows as edges, and the chains by which the edges out of an unknown are reached. Assumes nothing.
-- source, target: the row x(target) − x(source) ≤ c is an edge out of the source to the target, of length c.
-- Met: a point meets the row of an edge.      Keeps: it meets those of all the edges.
-- number_of: the number that is stored for a place, which counts from 1, or for none.
-- Link: the newest edge out of v below hi stands at lo − 1, and lo is 0 where there is none.
-- Chained: each head links to the newest edge, and each edge to the one before it out of the same unknown.
use Rattle.std.specs.Prelude.{◌≡◌, ℕ, ◌+◌, ◌-◌, ◌<◌, ◌≤◌, List, [], ◌∷◌, ◌++◌, map, length, Option, Some, None, ◌+ℤ◌, ◌≤ℤ◌, ◌≢◌, slice_index, slice_index_or}
use Rattle.std.specs.List.{AllWithin}
use Rattle.theory.specs.declared.row.Row.{Row}
use Rattle.theory.specs.Rows.{Point}
use Rattle.sparse.specs.declared.graph.Edge.{Edge}
use Rattle.differences.specs.Sides.{first, second, Fair}

abbrev pub source : Edge → ℕ
source e = second e.row.side

abbrev pub target : Edge → ℕ
target e = first e.row.side

abbrev pub Met : Point → Edge → Type 0
Met x e = x (target e) ≤ℤ (x (source e) +ℤ e.row.c)

abbrev pub Keeps : Point → List Edge → Type 0
Keeps x es = AllWithin (Met x) es 0 (length es)

abbrev pub number_of : Option ℕ → ℕ
number_of None = 0
number_of (Some i) = i + 1

pub record Link (es : List Edge) (v lo hi : ℕ) : Type 0 where
  pub within : lo ≤ hi
  pub none : (k : ℕ) (d : Edge) → lo ≤ k → k < hi → source (slice_index_or es k d) ≢ v
  pub last : (d : Edge) → 0 < lo → source (slice_index_or es (lo - 1) d) ≡ v

pub record Chained (es : List Edge) (hs : List ℕ) : Type 0 where
  pub heads : (v : ℕ) → v < 64 → Link es v (slice_index hs v) (length es)
  pub nexts : (i : ℕ) (d : Edge) → i < length es → Link es (source (slice_index_or es i d)) (slice_index_or es i d).next i

-- the rows of all the edges pass a bottom's rules
abbrev pub AllFair : List Edge → Type 0
AllFair es = AllWithin (λ e. Fair e.row) es 0 (length es)

abbrev pub rows_in : List Edge → List Row
rows_in es = map (λ e. e.row) es

-- one more edge, of the row r
pub record Added (es : List Edge) (r : Row) (es' : List Edge) : Type 0 where
  pub edge : Edge
  pub row : edge.row ≡ r
  pub is : es' ≡ es ++ edge ∷ []
