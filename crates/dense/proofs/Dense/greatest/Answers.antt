use Rattle.differences.proofs.Tables.{table_greatest}
use Rattle.differences.proofs.Sides.{ends_of}
use Rattle.dense.proofs.Dense.greatest.Goals as goal

pub returns : goal.returns
returns c =
    let d = c.args.self.now in
    simp (c.at.ensures, c.ends-u.ensures.0, c.ends-u.ensures.1)
    (table_greatest 64 4000000 _ _ d.differences d.table c.args.side (ends_of c.args.side c.requires.fair))
