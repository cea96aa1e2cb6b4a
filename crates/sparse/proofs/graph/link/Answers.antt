use Rattle.std.proofs.Common.{◌≡◌, ◌+◌, length, get_or, set, ap, ◌∙◌}
use Rattle.std.proofs.lemmas.List.{length_push}
use Rattle.trail.specs.Trails.{items}
use Rattle.sparse.specs.declared.graph.Edge.{Edge}
use Rattle.sparse.specs.Edges.{source}
use Rattle.sparse.proofs.Chains.{chained_add}
use Rattle.sparse.proofs.Graphs.{source_in}
use Rattle.sparse.proofs.graph.link.Goals as goal

pub returns-clause-chained : goal.returns-clause-chained
returns-clause-chained c =
    let es = items c.args.edges.now in
    let hs = c.args.heads.now in
    let at = c.ends-source.ensures.1 in
    let e : Edge = record { row = c.args.row; next = get_or hs c.ends-source.result.1 0 } in
    let one_more : c.len.result ≡ length es + 1 = c.len.ensures ∙ ap length c.add.ensures.items ∙ length_push es e in
    rw (c.add.ensures.items, ap (λ i. set hs i c.len.result) at ∙ ap (set hs (source e)) one_more)
    (chained_add es e hs c.requires.long (source_in e c.requires.fair) c.requires.chained (ap (λ i. get_or hs i 0) at))
