use Rattle.std.proofs.Common.{pos}
use Rattle.std.proofs.lemmas.List.{get_or-replicate}
use Rattle.sparse.proofs.potentials.Potentials.zero.Goals as goal

pub returns : goal.returns
returns c = λ u u_in. get_or-replicate 64 u (pos 0) (pos 0) u_in
