use Rattle.std.proofs.Common.{◌≡◌, vec_len}
use Rattle.trying.proofs.measure.Load.new.Given as goal

abbrev pub invariant-loop : goal.invariant-loop
invariant-loop g l = record {
  rows : vec_len l.load.rows ≡ l.counter;
  sides : vec_len l.load.sides ≡ l.counter;
}
