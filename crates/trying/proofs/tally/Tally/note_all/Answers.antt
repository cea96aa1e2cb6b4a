use Rattle.std.proofs.Common.{arith}
use Rattle.std.proofs.lemmas.Grind.{common_steps}
use Rattle.std.proofs.lemmas.List.Sums.{count_by_more_yes, count_by_more_no}
use Rattle.std.proofs.lemmas.Option.{gets}
use Rattle.trying.proofs.tally.Tally.note_all.Goals as goal

pub loop-place-preserved : goal.loop-place-preserved
loop-place-preserved c = record {
  calls = omega arith;
  refused = grind (arith, count_by_more_yes, count_by_more_no);
  grown = grind (arith, common_steps);
  wrong = grind (arith, common_steps, gets);
}
