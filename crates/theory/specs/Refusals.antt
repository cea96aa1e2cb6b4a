-- The number of each refusal, and how it is told. Assumes nothing.
use Rattle.std.specs.Prelude.{ℕ, List, ◌++◌, codes, decimal}
use Rattle.theory.specs.declared.refusal.Refusal.{Refusal}
use Rattle.theory.specs.declared.refusal.Refusal.TheVariants.{Signs, Unknown, Twice, Breadth, Reach, Space, Contradiction, Depth, NoLevel, NoRow, Unfit}

abbrev pub number_of : Refusal → ℕ
number_of Signs = 1
number_of Unknown = 2
number_of Twice = 3
number_of Breadth = 4
number_of Reach = 5
number_of Space = 6
number_of Contradiction = 7
number_of Depth = 8
number_of NoLevel = 9
number_of NoRow = 10
number_of Unfit = 13

abbrev pub refusal_text : Refusal → List ℕ
refusal_text e = codes "refused " ++ decimal (number_of e)
