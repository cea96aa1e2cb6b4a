-- The law of theories, met by the dense bottom: what a state means has a point, and fits its sizes. Assumes nothing.
use Rattle.std.proofs.Common.{arith}
use Rattle.std.proofs.lemmas.List.{length-map}
use Rattle.theory.specs.Meaning.{Sane}
use Rattle.dense.specs.declared.Dense.{Dense}
use Rattle.dense.specs.State.{meaning_of}
use Rattle.differences.proofs.Tables.{table_feasible}

pub sane_meaning : (d : Dense) → Sane (meaning_of d)
sane_meaning d = record {
  limits = record { unknowns = omega arith; space = omega arith; depth = omega arith; reach = omega arith };
  rows_fit = omega (arith, d.rows_fit, d.rows.ok.0);
  levels_fit = simp length-map (omega (arith, d.levels_fit, d.levels.ok.0));
  point = table_feasible 64 4000000 _ _ d.differences d.table;
}
