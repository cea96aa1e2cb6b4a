use Rattle.std.proofs.Common.{◌≡◌, ℕ, ◌-◌, ◌^◌, ◌<◌, ◌≤◌, ◌↔◌, is_err, take, count_by}
use Rattle.std.specs.List.{slice_get}
use Rattle.trying.specs.Counts.{capped_sum}
use Rattle.trying.proofs.tally.Tally.note_all.Given as goal

abbrev pub invariant-loop-place : goal.invariant-loop-place
invariant-loop-place l = record {
  calls : l.self.calls ≡ capped_sum l.initial.self.calls l.place;
  refused : l.self.refused ≡ capped_sum l.initial.self.refused (count_by is_err (take l.place l.expected));
  grown : l.initial.self.wrong < 2 ^ 64 - 1 → l.initial.self.wrong ≤ l.self.wrong;
  wrong : l.initial.self.wrong < 2 ^ 64 - 1 → (l.self.wrong ≡ l.initial.self.wrong) ↔ ((k : ℕ) → k < l.place → slice_get l.given k ≡ slice_get l.expected k);
}
