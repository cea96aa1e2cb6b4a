use Rattle.std.proofs.Common.{drop, rules}
use Rattle.sparse.proofs.Graphs.{clear_front}
use Rattle.sparse.proofs.distances.clear.Goals as goal

pub returns : goal.returns
returns c = clear_front 64 c.args.marks.now c.fill.new.self (drop 64 c.args.marks.now) c.requires (c.fill.ensures.after (search rules))
