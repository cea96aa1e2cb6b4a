-- What a trail means. Assumes nothing.
-- items: its entries.       levels: for each open level the number of entries when it opened, oldest first.
-- room, level_room: how many of each its memory holds.
use Rattle.std.specs.Prelude.{◌≡◌, ℕ, List, length, take}
use Rattle.trail.specs.Levels as of
use Rattle.trail.specs.declared.Trail.{Trail}

abbrev pub items : {E : Type 0} → Trail E → List E
items t = take t.len t.entries.now

abbrev pub levels : {E : Type 0} → Trail E → List ℕ
levels t = take t.depth t.marks.now

abbrev pub room : {E : Type 0} → Trail E → ℕ
room t = length t.entries.now

abbrev pub level_room : {E : Type 0} → Trail E → ℕ
level_room t = length t.marks.now

-- the memory is as it was
pub record Roomy {E : Type 0} (t t' : Trail E) : Type 0 where
  pub entries : room t' ≡ room t
  pub marks : level_room t' ≡ level_room t

-- the number of entries when the newest level opened
abbrev pub newest : List ℕ → ℕ
newest = of.newest
