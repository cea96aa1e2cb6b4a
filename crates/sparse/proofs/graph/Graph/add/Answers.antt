use Rattle.sparse.proofs.Graphs.{fair_add}
use Rattle.sparse.proofs.graph.Graph.add.Goals as goal

pub invariant_of-self-clause-fair : goal.invariant_of-self-clause-fair
invariant_of-self-clause-fair c = fair_add _ _ c.args.row c.args.self.now.fair c.requires.fair c.link.ensures.edges
