-- The lesser and the sum of two bounds, as what they are at most and what keeps them. Assumes nothing.
use Rattle.std.proofs.Common.{◌≡◌, ◌⊎◌, ℤ, pos, ◌+ℤ◌, ◌≤ℤ◌, Some, None, Option, refl, ap, inl, inr, arith}
use lib.Signed.{≤ℤ_refl}
use Rattle.std.proofs.lemmas.Int.{ints, clamps, by_lt_z}
use Rattle.bounds.specs.Tables.{AtMost, Allows, least_of, sum_of}

pub at_most_more : (o : Option ℤ) (a b : ℤ) → AtMost o a → a ≤ℤ b → AtMost o b
at_most_more None a b h l = h
at_most_more (Some d) a b h l = omega (arith, ints)

-- what is at most c and allows x
pub between : (o : Option ℤ) (c x : ℤ) → AtMost o c → Allows o x → x ≤ℤ c
between None c x h k = absurd h
between (Some d) c x h k = omega (arith, ints)

pub least_left : (a b : Option ℤ) (c : ℤ) → AtMost a c → AtMost (least_of a b) c
least_left None b c h = absurd h
least_left (Some x) None c h = h
least_left (Some x) (Some y) c h = omega (arith, ints, clamps)

pub least_right : (a b : Option ℤ) (c : ℤ) → AtMost b c → AtMost (least_of a b) c
least_right None b c h = h
least_right (Some x) None c h = absurd h
least_right (Some x) (Some y) c h = omega (arith, ints, clamps)

pub least_cases : (a b : Option ℤ) (c : ℤ) → AtMost (least_of a b) c → AtMost a c ⊎ AtMost b c
least_cases None b c h = inr h
least_cases (Some x) None c h = inl h
least_cases (Some x) (Some y) c h = by_lt_z x y (λ l. inl (omega (arith, ints, clamps))) (λ l. inr (omega (arith, ints, clamps)))

pub least_allows : (a b : Option ℤ) (x : ℤ) → Allows a x → Allows b x → Allows (least_of a b) x
least_allows None b x h k = k
least_allows (Some y) None x h k = h
least_allows (Some y) (Some z) x h k = omega (arith, ints, clamps)

pub least_allows_left : (a b : Option ℤ) (x : ℤ) → Allows (least_of a b) x → Allows a x
least_allows_left None b x h = tt
least_allows_left (Some y) None x h = h
least_allows_left (Some y) (Some z) x h = omega (arith, ints, clamps)

pub sum_at_most : (a b : Option ℤ) (x y : ℤ) → AtMost a x → AtMost b y → AtMost (sum_of a b) (x +ℤ y)
sum_at_most None b x y h k = h
sum_at_most (Some v) None x y h k = k
sum_at_most (Some v) (Some w) x y h k = omega (arith, ints)

pub sum_parts : (a b : Option ℤ) (c : ℤ) → AtMost (sum_of a b) c → (x y : ℤ) × AtMost a x × AtMost b y × ((x +ℤ y) ≤ℤ c)
sum_parts None b c h = absurd h
sum_parts (Some v) None c h = absurd h
sum_parts (Some v) (Some w) c h = (v, w, ≤ℤ_refl v, ≤ℤ_refl w, h)

pub sum_allows : (a b : Option ℤ) (x y : ℤ) → Allows a x → Allows b y → Allows (sum_of a b) (x +ℤ y)
sum_allows None b x y h k = tt
sum_allows (Some v) None x y h k = tt
sum_allows (Some v) (Some w) x y h k = omega (arith, ints)

-- the lesser of 0 and a bound that is not below it
pub zero_stays : (o : Option ℤ) → ((x : ℤ) → AtMost o x → pos 0 ≤ℤ x) → least_of (Some (pos 0)) o ≡ Some (pos 0)
zero_stays None h = refl
zero_stays (Some x) h = let up = h x (≤ℤ_refl x) in ap Some (omega (arith, ints, clamps))
