use Rattle.std.proofs.Common.{rules}
use Rattle.std.proofs.lemmas.Iterator.{YieldsList-from_slice, YieldsList-from_map}
use Rattle.std.proofs.lemmas.Iterator.Adapters.{items_from_extend}
use Rattle.histories.specs.declared.Call.TheVariants.{Offer}
use Rattle.histories.specs.Told.{part}
use Rattle.histories.proofs.tell_part.Goals as goal

pub returns : goal.returns
returns c =
    let rows = part c.args.from c.args.to c.args.rows.now in
    let h = items_from_extend c.extend.result c.extend.ensures.ran (YieldsList-from_map _ Offer (YieldsList-from_slice rows cc) c.map.ensures.closure (λ x r q k. search rules)) in
    search rules
