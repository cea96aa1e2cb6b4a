-- What a put, a push and a pop make of the edges, the levels, the potentials and those that were saved. Assumes nothing.
use Rattle.std.proofs.Common.{◌≡◌, ℕ, ◌-◌, ◌<◌, List, [], ◌∷◌, ◌++◌, length, get_or, take, None, Ok, Err, Result, sym, refl, ap, ◌∙◌, subst, ⊎_elim, arith}
use Rattle.std.specs.List.{AllByRecursion}
use Rattle.std.proofs.lemmas.List.{length_push, length-take-le, map_push, take-append-le, take-take, take_all, get_or-take, get_or_push, get_or_append_left}
use Rattle.std.proofs.lemmas.Bool.{cases_lt}
use Rattle.theory.specs.declared.refusal.Refusal.{Refusal}
use Rattle.theory.specs.declared.row.Row.{Row}
use Rattle.theory.specs.Calls.{Put, put_fault}
use Rattle.theory.specs.Meaning.{Meaning, newest}
use Rattle.theory.specs.Rows.{Feasible, Meets}
use Rattle.trail.specs.Levels.{Rising}
use Rattle.differences.specs.Sides.{bottom_sizes, Fair}
use Rattle.sparse.specs.declared.graph.Edge.{Edge}
use Rattle.sparse.specs.declared.graph.Graph.{Graph}
use Rattle.sparse.specs.declared.potentials.Potentials.{Potentials}
use Rattle.sparse.specs.Edges.{rows_in, AllFair, Added}
use Rattle.sparse.specs.Graphs.{edges_of, levels_of}
use Rattle.sparse.specs.Points.{point_of, Holds, NoPoint, Accepted}
use Rattle.sparse.specs.Saved.{Saved}
use Rattle.sparse.specs.Sanity.{all_from_keeps}
use Rattle.sparse.proofs.Rows.{keeps_from_all, met_from_meets}

-- no level of a graph opened before an older one, and none at more edges than there are
pub graph_rising : (g : Graph) → Rising (levels_of g) (length (edges_of g))
graph_rising g = subst (Rising (levels_of g)) (sym (length-take-le g.edges.len g.edges.entries.now g.edges.fits)) g.edges.rising

-- the potentials and those that were saved fit the edges and the levels
pub record Fits (es : List Edge) (ls : List ℕ) (ps : List Potentials) (p : Potentials) : Type 0 where
  pub saved_each : Saved es ls ps
  pub holds : Holds es (point_of p)
  pub one_each : length ps ≡ length ls

module _ (es : List Edge) (ls : List ℕ) (ps : List Potentials) (rising : Rising ls (length es)) (saved : Saved es ls ps) where
  -- an edge more
  saved_more : (r : Row) (es' : List Edge) → Added es r es' → Saved es' ls ps
  saved_more r es' added i d i_in = rw (added.is, take-append-le (get_or ls i 0) es (added.edge ∷ []) (rising i i (omega arith) i_in).1) (saved i d i_in)

  -- a level opens, and keeps the potentials
  pub saved_open : (p : Potentials) → length ps ≡ length ls → Holds es (point_of p) → Saved es (ls ++ length es ∷ []) (ps ++ p ∷ [])
  saved_open p one_each holds i d i_in =
      ⊎_elim
      (λ old. rw (get_or_append_left ls (length es ∷ []) 0 i old, get_or_append_left ps (p ∷ []) d i (omega arith)) (saved i d old))
      (λ new.
      let here : length ls ≡ i = omega (arith, length_push ls (length es)) in
      rw (get_or_push ls (length es) 0 i here, get_or_push ps p d i (one_each ∙ here), take_all (length es) es (omega arith)) holds)
      (cases_lt i (length ls))

  -- the newest level closes, and its potentials are taken back
  module _ (rest : List Potentials) (p : Potentials) (taken : ps ≡ rest ++ p ∷ []) (one_each : length ps ≡ length ls) (some : 0 < length ls) where
    count : length rest ≡ length ls - 1
    count = omega (arith, ap length taken, length_push rest p)

    saved_close : Saved (take (newest ls) es) (take (length ls - 1) ls) rest
    saved_close i d i_in =
        let last = length ls - 1 in
        let fewer = length-take-le last ls (omega arith) in
        let within : i < last = omega arith in
        let older = (rising i last (omega arith) (omega arith)).0 in
        let at = ap (λ xs. get_or xs i d) taken ∙ get_or_append_left rest (p ∷ []) d i (omega (arith, count)) in
        rw (get_or-take last ls i 0 within, take-take (get_or ls i 0) (newest ls) es older) (subst (λ q. Holds (take (get_or ls i 0) es) (point_of q)) at (saved i d (omega arith)))

    holds_close : Holds (take (newest ls) es) (point_of p)
    holds_close =
        let last = length ls - 1 in
        let at = ap (λ xs. get_or xs last p) taken ∙ get_or_push rest p p last count in
        subst (λ q. Holds (take (newest ls) es) (point_of q)) at (saved last p (omega arith))

    one_each_close : length rest ≡ length (take (length ls - 1) ls)
    one_each_close = count ∙ sym (length-take-le (length ls - 1) ls (omega arith))

    pub fits_close : Fits (take (newest ls) es) (take (length ls - 1) ls) rest p
    fits_close = record { saved_each = saved_close; holds = holds_close; one_each = one_each_close }

  -- a row is answered
  pub saved_answered : (row : Row) (p p' : Potentials) (r : Result (Unit {0}) Refusal) (es' : List Edge) → Accepted es row p r es' p' → Saved es' ls ps
  saved_answered row p p' (Ok x) es' h = saved_more row es' h.0
  saved_answered row p p' (Err e) es' h = rw h.2 saved

pub holds_answered : (es es' : List Edge) (row : Row) (p p' : Potentials) (r : Result (Unit {0}) Refusal) → Holds es (point_of p) → Accepted es row p r es' p' → Holds es' (point_of p')
holds_answered es es' row p p' (Ok x) holds h = h.1
holds_answered es es' row p p' (Err e) holds h = rw (h.2, h.3) holds

all_front : (P : Row → Type 0) (rows : List Row) (r : Row) → AllByRecursion P (rows ++ r ∷ []) → AllByRecursion P rows × P r
all_front P [] r h = (tt, h.0)
all_front P (x ∷ rows) r h = let rest = all_front P rows r h.1 in ((h.0, rest.0), rest.1)

no_point : (es : List Edge) → AllFair es → (row : Row) → Fair row → NoPoint es row → Feasible (rows_in es ++ row ∷ []) → ⊥
no_point es fair row row_fair none f =
    let parts = all_front (Meets f.0) (rows_in es) row f.1 in
    let e : Edge = record { row = row; next = 0 } in
    none e f.0 refl (keeps_from_all f.0 es fair parts.0) (met_from_meets f.0 e row_fair parts.1)

rows_more : (es es' : List Edge) (r : Row) → Added es r es' → rows_in es' ≡ rows_in es ++ r ∷ []
rows_more es es' r added = ap rows_in added.is ∙ map_push (λ (e : Edge). e.row) es added.edge ∙ ap (λ x. rows_in es ++ x ∷ []) added.row

abbrev meaning : List Edge → List ℕ → Meaning
meaning es ls = record { rows = rows_in es; levels = ls; sizes = bottom_sizes }

-- the answer to a row that passes the rules 1 to 6 is that of a put
pub put_answered : (g g' : Graph) (row : Row) (p p' : Potentials) (r : Result (Unit {0}) Refusal) → Fair row → levels_of g' ≡ levels_of g → put_fault (meaning (edges_of g) (levels_of g)) row ≡ None → Accepted (edges_of g) row p r (edges_of g') p' → Put (meaning (edges_of g) (levels_of g)) row r (meaning (edges_of g') (levels_of g'))
put_answered g g' row p p' (Ok x) fair same passed h =
    let rows = rows_more (edges_of g) (edges_of g') row h.0 in
    (passed, subst Feasible rows (point_of p', all_from_keeps (point_of p') (edges_of g') g'.fair h.1.keeps), rw (rows, same))
put_answered g g' row p p' (Err e) fair same passed h = (rw passed (h.0, no_point (edges_of g) g.fair row fair h.1), rw (h.2, same))
