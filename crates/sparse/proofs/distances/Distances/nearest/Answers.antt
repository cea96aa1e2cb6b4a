use Rattle.std.proofs.Common.{refl, subst, rules, w64, to_z, of_z}
use Rattle.std.specs.List.{range_with_len}
use Rattle.std.proofs.iter.Yields.{nat_range_steps}
use Rattle.std.proofs.lemmas.Fn.{fold_over}
use Rattle.std.proofs.lemmas.Iterator.{YieldsList-from_range}
use Rattle.std.proofs.lemmas.Int.{to_z-of_z}
use Rattle.sparse.specs.Points.{point_of}
use Rattle.sparse.specs.Searches.{mark_of, value_of}
use Rattle.sparse.specs.Distances.{key, Better}
use Rattle.sparse.proofs.Scans.{Scan, scan_none, scan_more, scan_all}
use Rattle.sparse.proofs.distances.Distances.nearest.Goals as goal

pub returns : goal.returns
returns c =
    let p = point_of c.args.lengths.potentials.now in
    let m = mark_of c.args.self.now in
    let val = value_of c.args.self.now in
    let limit = to_z w64 (of_z w64 c.args.limit) in
    let range = YieldsList-from_range 0 64 64 refl refl in
    let scan = fold_over nat_range_steps (λ x. x) _ (λ rs best. Scan p limit m val rs best) _
    (λ rs best r best' f j k. let h : Better (key p val) m best r best' = search rules in (scan_more p limit m val rs r best best' j h, search rules))
    (record { start = 0; end = 64 }) (range_with_len 0 64) _ c.fold-best.result range.runs (scan_none p limit m val _ refl refl) c.fold-best.ensures.ran in
    scan_all p c.args.limit m val c.fold-best.result (subst (λ l. Scan p l m val (range_with_len 0 64) c.fold-best.result) (to_z-of_z w64 c.args.limit c.ranges.limit) scan)
