-- What is known of the edges of a graph, and of a graph when an edge comes or leaves. Assumes nothing.
use Rattle.std.proofs.Common.{◌≡◌, ℕ, ◌<◌, ◌≤◌, List, [], ◌∷◌, ◌++◌, length, get_or, take, nat_abs, replicate, sym, refl, ap, ◌∙◌, subst, arith}
use Rattle.std.specs.List.{AllWithin}
use Rattle.std.proofs.lemmas.List.{length_push, get_or_push, get_or_append_left, length-take-le, get_or-replicate, length-replicate}
use Rattle.std.proofs.lemmas.List.Elements.{AllWithin-push}
use Rattle.theory.specs.declared.row.Row.{Row}
use Rattle.sparse.specs.declared.graph.Edge.{Edge}
use Rattle.differences.specs.Sides.{Fair}
use Rattle.sparse.specs.Edges.{source, target, Link, Chained, AllFair, Added}
use Rattle.differences.proofs.Sides.{ends_of, fair_side, fair_near}

pub source_in : (e : Edge) → Fair e.row → source e < 64
source_in e fair = (ends_of e.row.side (fair_side e.row fair)).second_in

pub fair_ends : (es : List Edge) → AllFair es → AllWithin (λ e. (source e < 64) × (target e < 64)) es 0 (length es)
fair_ends es fair k d low high = let e = ends_of (get_or es k d).row.side (fair_side (get_or es k d).row (fair k d low high)) in (e.second_in, e.first_in)

-- what is known of the edge at the place i
pub record Stands (es : List Edge) (i : ℕ) (e : Edge) : Type 0 where
  pub within : i < length es
  pub source_in : source e < 64
  pub target_in : target e < 64
  pub near : nat_abs e.row.c ≤ 4000000
  pub next : Link es (source e) e.next i

pub stands : (es : List Edge) (hs : List ℕ) → AllFair es → Chained es hs → (i : ℕ) (e : Edge) → i < length es → e ≡ get_or es i e → Stands es i e
stands es hs all_fair chained i e i_in is =
    let fair = subst (λ f. Fair f.row) (sym is) (all_fair i e (omega arith) i_in) in
    let ends = ends_of e.row.side (fair_side e.row fair) in
    record {
      within = i_in;
      source_in = ends.second_in;
      target_in = ends.first_in;
      near = fair_near e.row fair;
      next = subst (λ f. Link es (source f) f.next i) (sym is) (chained.nexts i e i_in);
    }

pub fair_add : (es es' : List Edge) (r : Row) → AllFair es → Fair r → Added es r es' → AllFair es'
fair_add es es' r all_fair fair a = rw a.is (AllWithin-push (λ x. Fair x.row) es a.edge all_fair (rw a.row fair))

-- the edge that leaves
pub newest_fair : (es es' : List Edge) (e : Edge) → es ≡ es' ++ e ∷ [] → AllFair es → Fair e.row
newest_fair es es' e is fair = subst (λ x. Fair x.row) (get_or_push es' e e (length es') refl) (rw is at fair (length es') e (omega arith) (omega (arith, length_push es' e)))

-- the chains where there are no edges
pub chained_empty : (es : List Edge) (hs : List ℕ) → es ≡ [] → ((v : ℕ) → v < 64 → get_or hs v 0 ≡ 0) → Chained es hs
chained_empty es hs none clear = rw none (record {
  heads = λ v v_in. rw (clear v v_in) (record { within = omega arith; none = λ k d low high. absurd (omega arith); last = λ d some. absurd (omega arith) });
  nexts = λ i d i_in. absurd (omega arith);
})

-- the first places, which were filled, hold 0, whatever stands behind them
pub clear_front : (n : ℕ) (xs front rest : List ℕ) → n ≤ length xs → front ≡ replicate (length (take n xs)) 0 → (k : ℕ) → k < n → get_or (front ++ rest) k 0 ≡ 0
clear_front n xs front rest long is k k_in =
    let filled : front ≡ replicate n 0 = is ∙ ap (λ l. replicate l 0) (length-take-le n xs long) in
    rw filled (get_or_append_left (replicate n 0) rest 0 k (omega (arith, length-replicate {A = ℕ} n 0)) ∙ get_or-replicate n k 0 0 k_in)
