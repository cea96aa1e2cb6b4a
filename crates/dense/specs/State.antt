-- What a dense theory means: its rows, levels and sizes. Assumes nothing.
use Rattle.std.specs.Prelude.{map, vec_items}
use Rattle.theory.specs.Meaning.{Meaning}
use Rattle.differences.specs.Sides.{bottom_sizes}
use Rattle.dense.specs.declared.Dense.{Dense}

abbrev pub meaning_of : Dense → Meaning
meaning_of d = record { rows = vec_items d.rows; levels = map (λ l. l.count) (vec_items d.levels); sizes = bottom_sizes }
