-- The law of theories, met by the doubled layer: what it means has a point, and fits its sizes, since what the theory below means does. Assumes nothing.
use Rattle.std.specs.Prelude.{◌≡◌, length, take}
use Rattle.std.proofs.Common.{sym, arith}
use Rattle.std.proofs.lemmas.List.{length-map}
use Rattle.theory.specs.Meaning.{Meaning, Sane}
use Rattle.sums.specs.Terms.{sent}
use Rattle.sums.proofs.Above.{point_above}
use Rattle.doubled.specs.State.{Over}

-- as many levels are open here as below
pub over_long : (m b : Meaning) → Over m b → length m.levels ≡ length b.levels
over_long m b o = rw o.levels (sym (length-map m.levels (λ l. length (sent (take l m.rows)))))

pub over_sane : (m b : Meaning) → Over m b → Sane b → Sane m
over_sane m b o s =
    let z = o.sizes in
    record {
      limits = rw z (record { unknowns = omega (arith, s.limits.unknowns); space = omega (arith, s.limits.space); depth = s.limits.depth; reach = omega (arith, s.limits.reach) });
      rows_fit = o.rows_fit;
      levels_fit = rw z (omega (arith, s.levels_fit, over_long m b o));
      point = point_above b.sizes m.rows (rw z at o.fair) (rw o.rows at s.point) o.point;
    }
