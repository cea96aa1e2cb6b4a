-- One more row in a difference table: the bounds that follow by adding stay complete, and exactly the points that meet the row are left. Assumes nothing.
use Rattle.std.proofs.Common.{◌≡◌, ℕ, ◌<◌, ◌⊎◌, ℤ, pos, ◌+ℤ◌, ◌-ℤ◌, ◌≤ℤ◌, Some, None, Option, sym, refl, subst, inl, inr, ⊎_elim, arith}
use lib.Signed.{≤ℤ_refl}
use Rattle.std.proofs.lemmas.Int.{ints}
use Rattle.bounds.specs.Literals.{Point}
use Rattle.bounds.specs.Tables.{Differences, AtMost, Allows, sum_of, Metric, Meets, with_row, Admits}
use Rattle.bounds.proofs.Bounds.{at_most_more, between, least_left, least_right, least_cases, least_allows, least_allows_left, sum_at_most, sum_parts, sum_allows, zero_stays}

-- the bound x on i − j through the row u − v ≤ c
record Through (D : Differences) (u v : ℕ) (c : ℤ) (i j : ℕ) (x : ℤ) : Type 0 where
  before : ℤ
  after : ℤ
  to_row : AtMost (D i u) before
  from_row : AtMost (D v j) after
  in_all : ((before +ℤ c) +ℤ after) ≤ℤ x

module _ (D : Differences) (u v : ℕ) (c : ℤ) (i j : ℕ) where
  -- a bound of the table stays
  pub row_keeps : (x : ℤ) → AtMost (D i j) x → AtMost (with_row D u v c i j) x
  row_keeps x h = least_left (D i j) _ x h

  through : (x : ℤ) → Through D u v c i j x → AtMost (with_row D u v c i j) x
  through x t =
      let sum = sum_at_most (sum_of (D i u) (Some c)) (D v j) (t.before +ℤ c) t.after (sum_at_most (D i u) (Some c) t.before c t.to_row (≤ℤ_refl c)) t.from_row in
      least_right (D i j) _ x (at_most_more _ _ x sum t.in_all)

  row_parts : (x : ℤ) → AtMost (sum_of (sum_of (D i u) (Some c)) (D v j)) x → Through D u v c i j x
  row_parts x s =
      let outer = sum_parts (sum_of (D i u) (Some c)) (D v j) x s in
      let inner = sum_parts (D i u) (Some c) outer.0 outer.2 in
      let c_is : c ≤ℤ inner.1 = inner.3 in
      record { before = inner.0; after = outer.1; to_row = inner.2; from_row = outer.3; in_all = omega (arith, ints, inner.4, outer.4) }

  row_cases : (x : ℤ) → AtMost (with_row D u v c i j) x → AtMost (D i j) x ⊎ Through D u v c i j x
  row_cases x h = ⊎_elim inl (λ s. inr (row_parts x s)) (least_cases (D i j) _ x h)

-- a bound on the way back that admits the row with c does not cancel it
no_turn : (o : Option ℤ) (c x : ℤ) → ((d : ℤ) → o ≡ Some d → pos 0 ≤ℤ (d +ℤ c)) → AtMost o x → pos 0 ≤ℤ (x +ℤ c)
no_turn None c x ok h = absurd h
no_turn (Some d) c x ok h = omega (arith, ints, ok d refl)

-- a point that meets the table and the row meets the new table
pub row_sound : (n : ℕ) (D : Differences) (u v : ℕ) (c : ℤ) → u < n → v < n → (p : Point) → Meets n p D → (p u -ℤ p v) ≤ℤ c → Meets n p (with_row D u v c)
row_sound n D u v c u_in v_in p meets row i j i_in j_in =
    let sum = sum_allows (sum_of (D i u) (Some c)) (D v j) ((p i -ℤ p u) +ℤ (p u -ℤ p v)) (p v -ℤ p j) (sum_allows (D i u) (Some c) (p i -ℤ p u) (p u -ℤ p v) (meets i u i_in u_in) row) (meets v j v_in j_in) in
    let whole : ((p i -ℤ p u) +ℤ (p u -ℤ p v)) +ℤ (p v -ℤ p j) ≡ p i -ℤ p j = omega (arith, ints) in
    least_allows (D i j) _ (p i -ℤ p j) (meets i j i_in j_in) (subst (Allows (sum_of (sum_of (D i u) (Some c)) (D v j))) whole sum)

module _ (n : ℕ) (D : Differences) (u v : ℕ) (c : ℤ) (m : Metric n D) (u_in : u < n) (v_in : v < n) where
  -- the row itself is in the new table
  pub row_enters : AtMost (with_row D u v c u v) c
  row_enters = through D u v c u v c (record { before = pos 0; after = pos 0; to_row = own u u_in; from_row = own v v_in; in_all = omega (arith, ints) })
    where
      own : (k : ℕ) → k < n → AtMost (D k k) (pos 0)
      own k k_in = subst (λ o. AtMost o (pos 0)) (sym (m.zero k k_in)) (≤ℤ_refl (pos 0))

  -- a point that meets the new table meets the table and the row
  pub row_complete : (p : Point) → Meets n p (with_row D u v c) → Meets n p D × ((p u -ℤ p v) ≤ℤ c)
  row_complete p meets = (λ i j i_in j_in. least_allows_left (D i j) _ (p i -ℤ p j) (meets i j i_in j_in), between (with_row D u v c u v) c (p u -ℤ p v) row_enters (meets u v u_in v_in))

  module _ (ok : Admits D u v c) where
    back : (i : ℕ) (a b : ℤ) → i < n → AtMost (D v i) a → AtMost (D i u) b → pos 0 ≤ℤ ((a +ℤ b) +ℤ c)
    back i a b i_in h k = no_turn (D v u) c (a +ℤ b) ok (m.triangle v i u a b v_in i_in u_in h k)

    zeros : (i : ℕ) → i < n → with_row D u v c i i ≡ Some (pos 0)
    zeros i i_in = rw (m.zero i i_in) (zero_stays _ not_under)
      where
        not_under : (x : ℤ) → AtMost (sum_of (sum_of (D i u) (Some c)) (D v i)) x → pos 0 ≤ℤ x
        not_under x s = let t = row_parts D u v c i i x s in omega (arith, ints, back i t.after t.before i_in t.from_row t.to_row)

    joins : (i k j : ℕ) (a b : ℤ) → i < n → k < n → j < n → AtMost (D i k) a ⊎ Through D u v c i k a → AtMost (D k j) b ⊎ Through D u v c k j b → AtMost (with_row D u v c i j) (a +ℤ b)
    joins i k j a b i_in k_in j_in (inl h) (inl l) = row_keeps D u v c i j (a +ℤ b) (m.triangle i k j a b i_in k_in j_in h l)
    joins i k j a b i_in k_in j_in (inl h) (inr t) =
        through D u v c i j (a +ℤ b)
        (record { before = a +ℤ t.before; after = t.after; to_row = m.triangle i k u a t.before i_in k_in u_in h t.to_row; from_row = t.from_row; in_all = omega (arith, ints) })
    joins i k j a b i_in k_in j_in (inr s) (inl l) =
        through D u v c i j (a +ℤ b)
        (record { before = s.before; after = s.after +ℤ b; to_row = s.to_row; from_row = m.triangle v k j s.after b v_in k_in j_in s.from_row l; in_all = omega (arith, ints) })
    joins i k j a b i_in k_in j_in (inr s) (inr t) =
        through D u v c i j (a +ℤ b)
        (record { before = s.before; after = t.after; to_row = s.to_row; from_row = t.from_row; in_all = omega (arith, ints, back k s.after t.before k_in s.from_row t.to_row) })

    pub metric_with_row : Metric n (with_row D u v c)
    metric_with_row = record { zero = zeros; triangle = λ i k j a b i_in k_in j_in h l. joins i k j a b i_in k_in j_in (row_cases D u v c i k a h) (row_cases D u v c k j b l) }
