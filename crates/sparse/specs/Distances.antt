-- How the distances from one unknown are found by the method of Dijkstra, on reduced lengths. Assumes nothing.
-- m, val: the mark and the value of each unknown. A mark is 0 where the unknown is not reached, 1 where its value is
-- tentative and 2 where it is settled. A value is the length of a chain of edges from the start, not reduced.
-- key: the value less the potential. Along an edge it never falls, since the reduced length c − (p(target) − p(source)) is not
-- negative; so the keys in the order of settling are those of the reduced distances, less the start's potential.
use Rattle.std.specs.Prelude.{◌≡◌, ℕ, zero, suc, ◌+◌, ◌*◌, ◌<◌, ◌≤◌, cond, ◌⊎◌, List, length, ℤ, pos, ◌+ℤ◌, ◌-ℤ◌, ◌≤ℤ◌, ◌<ℤ◌, Some, ◌==◌, ◌≢◌, slice_index, unsigned_abs}
use Rattle.std.specs.List.{AllWithin}
use Rattle.theory.specs.Rows.{Point}
use Rattle.sparse.specs.declared.graph.Edge.{Edge}
use Rattle.sparse.specs.declared.distances.Best.{Best}
use Rattle.sparse.specs.Edges.{source, target, Keeps}

-- no unknown is reached
abbrev pub Clear : List ℕ → Type 0
Clear marks = (r : ℕ) → r < 64 → slice_index marks r ≡ 0

abbrev pub key : Point → (ℕ → ℤ) → ℕ → ℤ
key p val r = val r -ℤ p r

-- the edge's target is reached, and no later than over the edge
abbrev pub Relaxed : (ℕ → ℕ) → (ℕ → ℤ) → Edge → Type 0
Relaxed m val e = (0 < m (target e)) × (val (target e) ≤ℤ (val (source e) +ℤ e.row.c))

-- what is kept on the way, where chains have at most n edges
pub record Partial (es : List Edge) (p : Point) (start : ℕ) (limit : ℤ) (n : ℕ) (m : ℕ → ℕ) (val : ℕ → ℤ) : Type 0 where
  pub known : (r : ℕ) → r < 64 → m r ≤ 2
  pub inside : start < 64
  pub begun : (0 < m start) × (val start ≤ℤ pos 0)
  pub implied : (x : Point) → Keeps x es → (r : ℕ) → r < 64 → 0 < m r → x r ≤ℤ (x start +ℤ val r)
  pub relaxed : AllWithin (λ e. m (source e) ≡ 2 → Relaxed m val e) es 0 (length es)
  pub ordered : (a b : ℕ) → a < 64 → b < 64 → m a ≡ 2 → m b ≡ 1 → key p val a ≤ℤ key p val b
  pub below : (a : ℕ) → a < 64 → m a ≡ 2 → key p val a <ℤ limit
  pub small : (r : ℕ) → r < 64 → 0 < m r → unsigned_abs (val r) ≤ 4000000 * n

-- v has the least key of the tentative ones, below the limit
pub record Nearest (p : Point) (limit : ℤ) (m : ℕ → ℕ) (val : ℕ → ℤ) (v : ℕ) : Type 0 where
  pub within : v < 64
  pub tentative : m v ≡ 1
  pub below : key p val v <ℤ limit
  pub least : (b : ℕ) → b < 64 → m b ≡ 1 → key p val v ≤ℤ key p val b

-- no tentative key is below the limit
abbrev pub NoneNearer : Point → ℤ → (ℕ → ℕ) → (ℕ → ℤ) → Type 0
NoneNearer p limit m val = (b : ℕ) → b < 64 → m b ≡ 1 → limit ≤ℤ key p val b

-- the best of a scan after r: as it was, unless r is tentative and has a lesser key
abbrev pub Better : (ℕ → ℤ) → (ℕ → ℕ) → Best → ℕ → Best → Type 0
Better keys m best r best' =
    ((best' ≡ best) × (m r ≡ 1 → best.key ≤ℤ keys r))
    ⊎ ((best' ≡ record { key = keys r; unknown = Some r }) × (m r ≡ 1) × (keys r <ℤ best.key))

abbrev pub SmallValues : (ℕ → ℕ) → (ℕ → ℤ) → Type 0
SmallValues m val = (r : ℕ) → r < 64 → 0 < m r → unsigned_abs (val r) ≤ 256000000

-- the distances are found: no unknown is left whose key is below the limit
pub record Found (es : List Edge) (p : Point) (start : ℕ) (limit : ℤ) (m : ℕ → ℕ) (val : ℕ → ℤ) : Type 0 where
  pub partial : Partial es p start limit 64 m val
  pub ended : NoneNearer p limit m val

-- how many of the unknowns below n are not settled
unfoldable pub unsettled : (ℕ → ℕ) → ℕ → ℕ
unsettled m zero = 0
unsettled m (suc n) = cond (m n == 2) 0 1 + unsettled m n

-- what the offer of a chain to t of length x makes of marks and values
pub record Offered (t : ℕ) (x : ℤ) (m : ℕ → ℕ) (val : ℕ → ℤ) (m' : ℕ → ℕ) (val' : ℕ → ℤ) : Type 0 where
  pub marks : (r : ℕ) → (r ≢ t) → m' r ≡ m r
  pub values : (r : ℕ) → (r ≢ t) → val' r ≡ val r
  pub here :
      ((0 < m t) × (val t ≤ℤ x) × (m' t ≡ m t) × (val' t ≡ val t))
      ⊎ (((m t ≡ 0) ⊎ (x <ℤ val t)) × (m' t ≡ 1) × (val' t ≡ x))

-- the edges out of v at the place k and after it have been offered, whatever the potentials, the start and the limit
pub record Walk (es : List Edge) (v k : ℕ) (m : ℕ → ℕ) (m' : ℕ → ℕ) (val' : ℕ → ℤ) (p : Point) (start : ℕ) (limit : ℤ) (n : ℕ) (x : ℤ) : Type 0 where
  pub partial : Partial es p start limit (n + 1) m' val'
  pub nearest : Nearest p limit m' val' v
  pub value : val' v ≡ x
  pub short : unsigned_abs x ≤ 4000000 * n
  pub done : AllWithin (λ e. source e ≡ v → Relaxed m' val' e) es k (length es)
  pub settled : (r : ℕ) → r < 64 → (m' r ≡ 2 → m r ≡ 2) × (m r ≡ 2 → m' r ≡ 2)

abbrev pub Walked : List Edge → (v k : ℕ) (m m' : ℕ → ℕ) (val val' : ℕ → ℤ) → Type 0
Walked es v k m m' val val' =
    (p : Point) (start : ℕ) (limit : ℤ) (n : ℕ) → Keeps p es → Partial es p start limit n m val → Nearest p limit m val v
    → Walk es v k m m' val' p start limit n (val v)

-- v has been settled
abbrev pub Stepped : List Edge → ℕ → (m m' : ℕ → ℕ) (val val' : ℕ → ℤ) → Type 0
Stepped es v m m' val val' =
    (p : Point) (start : ℕ) (limit : ℤ) (n : ℕ) → Keeps p es → Partial es p start limit n m val → Nearest p limit m val v
    → Partial es p start limit (n + 1) m' val' × (unsettled m 64 ≡ unsettled m' 64 + 1)

-- the potential y of an unknown with the mark m, the value x and the old potential y₀, once the settled ones are lowered to their values from base on
abbrev pub Lowered : (base : ℤ) (m : ℕ) (x y₀ y : ℤ) → Type 0
Lowered base m x y₀ y = (m ≡ 2 → y ≡ base +ℤ x) × ((m ≢ 2) → y ≡ y₀)
