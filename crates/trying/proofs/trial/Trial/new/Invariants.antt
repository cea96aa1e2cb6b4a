use Rattle.std.proofs.Common.{◌≡◌, vec_len}
use denote.Param.Always.{always_mut}
use Rattle.trying.proofs.trial.Trial.new.Given as goal

abbrev pub invariant-loop : goal.invariant-loop
invariant-loop g l = record {
  callable : always_mut g.D.FnMut l.initial.draw → always_mut g.D.FnMut l.draw;
  calls : vec_len l.trial.calls ≡ l.counter;
  answers : vec_len l.trial.answers ≡ l.counter;
}
