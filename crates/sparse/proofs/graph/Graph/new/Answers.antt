use Rattle.std.proofs.Common.{◌++◌, drop, rules}
use Rattle.trail.specs.Trails.{items}
use Rattle.sparse.proofs.Graphs.{chained_empty, clear_front}
use Rattle.sparse.proofs.graph.Graph.new.Goals as goal

pub invariant_of-result-clause-chained : goal.invariant_of-result-clause-chained
invariant_of-result-clause-chained c =
    let clear = clear_front 64 c.args.heads.now c.fill.new.self (drop 64 c.args.heads.now) c.requires.heads (c.fill.ensures.after (search rules)) in
    chained_empty (items c.new.result) (c.fill.new.self ++ drop 64 c.args.heads.now) c.new.ensures.items clear
