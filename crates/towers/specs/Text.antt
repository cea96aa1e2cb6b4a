-- The text of a bottom, as it is read and printed. Assumes nothing.
use Rattle.std.specs.Prelude.{◌≡◌, ℕ, List, Ok, Err, Result, codes}
use Rattle.towers.specs.declared.Bottom.{Bottom}
use Rattle.towers.specs.declared.Bottom.TheVariants.{Dense, Sparse}
use Rattle.towers.specs.declared.NoBottom.{NoBottom}

abbrev pub bottom_text : Bottom → List ℕ
bottom_text Dense = codes "dense"
bottom_text Sparse = codes "sparse"

-- a word is read as the bottom whose text it is, and refused where there is none
abbrev pub ReadsBottom : List ℕ → Result Bottom NoBottom → Type 0
ReadsBottom word (Ok b) = word ≡ bottom_text b
ReadsBottom word (Err e) = (b : Bottom) → word ≡ bottom_text b → ⊥
