use Rattle.sparse.proofs.accept.Goals as goal

pub returns-clause-answers : goal.returns-clause-answers
returns-clause-answers c =
    let added = c.add.ensures.edges in
    (added, rw added.is (c.in_ok-repair.ensures added.edge added.row))
