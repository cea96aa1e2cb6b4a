use Rattle.std.proofs.Common.{set, ap}
use Rattle.trail.specs.Trails.{items}
use Rattle.sparse.proofs.Chains.{chained_drop}
use Rattle.sparse.proofs.Graphs.{source_in, newest_fair}
use Rattle.sparse.proofs.graph.unlink.Goals as goal

pub returns-clause-chained : goal.returns-clause-chained
returns-clause-chained c =
    let es = items c.take_back-edge.new.self in
    let hs = c.args.heads.now in
    let e = c.take_back-edge.result in
    let is = c.take_back-edge.ensures.items in
    rw (ap (λ i. set hs i e.next) c.ends-source.ensures.1)
    (chained_drop es e hs c.requires.long (source_in e (newest_fair _ es e is c.requires.fair)) (rw is at c.requires.chained))
