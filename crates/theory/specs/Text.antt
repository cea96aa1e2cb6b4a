-- The text of signs and rows, as it is read and printed. Assumes nothing.
use Rattle.std.specs.Prelude.{◌≡◌, ℕ, List, ◌++◌, Ok, Err, Result, codes, decimal}
use Rattle.std.specs.Fmt.{signed_decimal}
use Rattle.theory.specs.declared.row.Sign.{Sign}
use Rattle.theory.specs.declared.row.Sign.TheVariants.{Zero, Plus, Minus}
use Rattle.theory.specs.declared.row.NoSign.{NoSign}
use Rattle.theory.specs.declared.row.Row.{Row}

abbrev pub sign_text : Sign → List ℕ
sign_text Zero = codes "0"
sign_text Plus = codes "1"
sign_text Minus = codes "-1"

-- a word is read as the sign whose text it is, and refused where there is none
abbrev pub ReadsSign : List ℕ → Result Sign NoSign → Type 0
ReadsSign word (Ok s) = word ≡ sign_text s
ReadsSign word (Err e) = (s : Sign) → word ≡ sign_text s → ⊥

-- a u b v c, parted by one space
abbrev pub row_text : Row → List ℕ
row_text r = sign_text r.side.a ++ (codes " " ++ (decimal r.side.u ++ (codes " " ++ (sign_text r.side.b ++ (codes " " ++ (decimal r.side.v ++ (codes " " ++ signed_decimal r.c)))))))
