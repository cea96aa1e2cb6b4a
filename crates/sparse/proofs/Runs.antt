-- A search from its first offer to its end. Assumes nothing.
use Rattle.std.proofs.Common.{ℕ, ◌-◌, ◌<◌, ◌≤◌, List, ℤ, nat_abs, arith}
use Rattle.theory.specs.Rows.{Point}
use Rattle.sparse.specs.declared.graph.Edge.{Edge}
use Rattle.sparse.specs.Edges.{Keeps}
use Rattle.sparse.specs.Distances.{Partial, Stepped, Nearest, unsettled}
use Rattle.sparse.proofs.Counts.{count_within, count_some}
use Rattle.sparse.proofs.Walks.{partial_more}

-- as many edges as unknowns are settled
abbrev pub Underway : List Edge → Point → ℕ → ℤ → (ℕ → ℕ) → (ℕ → ℤ) → Type 0
Underway es p start limit m val = Partial es p start limit (64 - unsettled m 64) m val

module _ {es : List Edge} {p : Point} {start : ℕ} {limit : ℤ} {m : ℕ → ℕ} {val : ℕ → ℤ} (s : Underway es p start limit m val) where
  -- a chain to an unknown that is not settled leaves room for one edge more
  pub nearest_small : (v : ℕ) → Nearest p limit m val v → nat_abs (val v) ≤ 252000000
  nearest_small v near =
      let some = count_some m v 64 near.within (λ two. absurd (omega (arith, near.tentative))) in
      let l = s.small v near.within (omega (arith, near.tentative)) in
      omega arith

  pub run_stepped : (v : ℕ) (m' : ℕ → ℕ) (val' : ℕ → ℤ) → Keeps p es → Nearest p limit m val v → Stepped es v m m' val val' → Underway es p start limit m' val' × (unsettled m' 64 < unsettled m 64)
  run_stepped v m' val' keeps near stepped =
      let t = stepped p start limit (64 - unsettled m 64) keeps s near in
      let within = count_within m 64 in
      (partial_more _ (64 - unsettled m' 64) (omega (arith, t.1)) t.0, omega (arith, t.1))
