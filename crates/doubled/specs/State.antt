-- What a doubled theory means beside the theory below it, and what its methods need and leave. Assumes nothing.
-- marks: the levels below.   Rising: levels open at rising numbers of rows.   Over: what the layer means, beside what the theory below means.
-- Takes: a row that is accepted below.   with_images: the meaning below after a row.
-- Rising-prop, Over-prop: any two proofs are equal. So Over says that some point meets the rows, and not which; the law of theories makes one of a point below.
use Rattle.std.specs.Prelude.{◌≡◌, ℕ, ◌<◌, ◌≤◌, List, [], ◌∷◌, ◌++◌, map, length, take, ℤ, None, unsigned_abs}
use Rattle.std.specs.List.{AllByRecursion}
use Rattle.std.specs.Coded.{×_prop, le_prop}
use Rattle.std.proofs.Props.{props}
use Rattle.theory.specs.declared.row.Row.{Row}
use Rattle.theory.specs.Meaning.{Meaning}
use Rattle.theory.specs.Rows.{Feasible}
use Rattle.theory.specs.Rules.{row_fault}
use Rattle.bounds.specs.Literals.{Literal}
use Rattle.bounds.specs.Doubling.{code}
use Rattle.sums.specs.declared.Terms.{Terms}
use Rattle.sums.specs.Terms.{row_of, images, sent, half_sizes}

-- each level by the number of rows that stood below when it opened
abbrev pub marks : List Row → List ℕ → List ℕ
marks rows levels = map (λ l. length (sent (take l rows))) levels

abbrev pub Rising : ℕ → List ℕ → ℕ → Type 0
Rising low [] top = low ≤ top
Rising low (l ∷ ls) top = (low ≤ l) × Rising l ls top

pub Rising-prop : (low : ℕ) (ls : List ℕ) (top : ℕ) → IsProp (Rising low ls top)
Rising-prop low [] top = le_prop
Rising-prop low (l ∷ ls) top = ×_prop le_prop (Rising-prop l ls top)

pub record Over (m b : Meaning) : Type 0 where
  pub sizes : m.sizes ≡ half_sizes b.sizes
  pub rows : b.rows ≡ sent m.rows
  pub levels : b.levels ≡ marks m.rows m.levels
  pub rising : Rising 0 m.levels (length m.rows)
  pub fair : AllByRecursion (λ r. row_fault m.sizes r ≡ None) m.rows
  pub rows_fit : length m.rows ≤ m.sizes.space
  pub point : ∥ Feasible m.rows ∥₁

pub Over-prop : (m b : Meaning) → IsProp (Over m b)
Over-prop m b = hlevel (props, Rising-prop)

-- a theory that means m accepts s − t ≤ c
pub record Takes (m : Meaning) (s t : Literal) (c : ℤ) : Type 0 where
  pub first : code s < m.sizes.unknowns
  pub second : code t < m.sizes.unknowns
  pub apart : code s ≡ code t → ⊥
  pub near : unsigned_abs c ≤ m.sizes.reach
  pub room : length m.rows < m.sizes.space
  pub point : Feasible (m.rows ++ row_of s t c ∷ [])

-- the meaning with the images of a row put in
abbrev pub with_images : Meaning → Terms → ℤ → Meaning
with_images m ts c = record { rows = m.rows ++ images ts c; levels = m.levels; sizes = m.sizes }
