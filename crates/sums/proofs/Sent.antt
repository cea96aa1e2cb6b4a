-- What rows are sent down as: how many they are, that they bound differences, and which points meet them. Assumes nothing.
use Rattle.std.proofs.Common.{◌≡◌, ◌*◌, ◌/◌, ◌<◌, ◌≤◌, List, [], ◌∷◌, ◌++◌, length, ℤ, ◌+ℤ◌, neg_ℤ, nat_abs, ◌≤ℤ◌, None, sym, refl, ap, ◌∙◌, append_assoc, append-nil, arith, length-append}
use Rattle.std.specs.List.{AllByRecursion}
use Rattle.std.proofs.ByRecursion.{All-append}
use Rattle.std.proofs.lemmas.Int.{ints}
use Rattle.theory.specs.declared.row.Row.{Row}
use Rattle.theory.specs.declared.sizes.Sizes.{Sizes}
use Rattle.theory.specs.Rows.{Point, Meets, value}
use Rattle.theory.specs.Rules.{side_fault, row_fault}
use Rattle.bounds.specs.Literals.{mirror}
use Rattle.bounds.specs.Tables.{Differences, Keeps}
use Rattle.bounds.specs.Doubling.{code, by_halves, tight, spread}
use Rattle.bounds.proofs.Bounds.{between, least_left}
use Rattle.bounds.proofs.Signs.{at_mirror, mirrored}
use Rattle.differences.specs.Sides.{Difference}
use Rattle.differences.specs.Tabled.{Bounds}
use Rattle.sums.specs.declared.Terms.{Terms}
use Rattle.sums.specs.declared.Terms.TheVariants.{One, Two}
use Rattle.sums.specs.Terms.{lit, terms_of, Opposite, value_by, Within, images, sent, half_sizes}
use Rattle.sums.proofs.Sides.{Said, said_of, opposite_value, opposite_within, images_met, images_turned, images_near, turned}

pub sent_append : (xs ys : List Row) → sent (xs ++ ys) ≡ sent xs ++ sent ys
sent_append [] ys = refl
sent_append (r ∷ xs) ys = ap (λ more. images (terms_of r.side) r.c ++ more) (sent_append xs ys) ∙ sym (append_assoc (images (terms_of r.side) r.c) (sent xs) (sent ys))

pub sent_push : (rows : List Row) (r : Row) → sent (rows ++ r ∷ []) ≡ sent rows ++ images (terms_of r.side) r.c
sent_push rows r = sent_append rows (r ∷ []) ∙ ap (λ more. sent rows ++ more) (append-nil (images (terms_of r.side) r.c))

pub images_few : (ts : Terms) (c : ℤ) → length (images ts c) ≤ 2
images_few (One s) c = omega arith
images_few (Two s t) c = omega arith

pub sent_few : (rows : List Row) → length (sent rows) ≤ 2 * length rows
sent_few [] = omega arith
sent_few (r ∷ rows) = rw (length-append (images (terms_of r.side) r.c) (sent rows)) (omega (arith, images_few (terms_of r.side) r.c, sent_few rows))

pub all_parts : (P : Row → Type 0) (xs ys : List Row) → AllByRecursion P (xs ++ ys) → AllByRecursion P xs × AllByRecursion P ys
all_parts P [] ys h = (tt, h)
all_parts P (x ∷ xs) ys h = let rest = all_parts P xs ys h.1 in ((h.0, rest.0), rest.1)

pub sent_turned : (p : Point) (rows : List Row) → AllByRecursion (Meets p) (sent rows) → AllByRecursion (Meets (turned p)) (sent rows)
sent_turned p [] h = tt
sent_turned p (r ∷ rows) h =
    let parts = all_parts (Meets p) (images (terms_of r.side) r.c) (sent rows) h in
    All-append (Meets (turned p)) (images (terms_of r.side) r.c) (sent rows) (images_turned p (terms_of r.side) r.c parts.0) (sent_turned p rows parts.1)

-- the row passes the rules of the layer over a theory of the sizes z
abbrev pub Fair : Sizes → Row → Type 0
Fair z r = row_fault (half_sizes z) r ≡ None

fair_side : (z : Sizes) (r : Row) → row_fault z r ≡ None → side_fault z r.side ≡ None
fair_side z r h = grind arith

pub fair_near : (z : Sizes) (r : Row) → row_fault z r ≡ None → nat_abs r.c ≤ z.reach
fair_near z r h = grind arith

pub fair_said : (z : Sizes) (r : Row) → row_fault z r ≡ None → Said z.unknowns r.side
fair_said z r h = said_of z r.side (fair_side z r h)

module _ (z : Sizes) where
  pub images_fair : (r : Row) → Fair z r → AllByRecursion (Difference z.unknowns z.reach) (images (terms_of r.side) r.c)
  images_fair r h = images_near (z.unknowns / 2) z.unknowns (omega arith) z.reach (terms_of r.side) r.c (fair_said (half_sizes z) r h).within (omega (arith, fair_near (half_sizes z) r h))

  pub sent_fair : (rows : List Row) → AllByRecursion (Fair z) rows → AllByRecursion (Difference z.unknowns z.reach) (sent rows)
  sent_fair [] h = tt
  sent_fair (r ∷ rows) h = All-append (Difference z.unknowns z.reach) (images (terms_of r.side) r.c) (sent rows) (images_fair r h.0) (sent_fair rows h.1)

  -- a point that meets the rows, spread out, meets what they are sent as
  pub sent_met : (p : Point) (rows : List Row) → AllByRecursion (Fair z) rows → AllByRecursion (Meets p) rows → AllByRecursion (Meets (spread p)) (sent rows)
  sent_met p [] fair h = tt
  sent_met p (r ∷ rows) fair h =
      let said = fair_said (half_sizes z) r fair.0 in
      All-append (Meets (spread p)) (images (terms_of r.side) r.c) (sent rows) (images_met p (terms_of r.side) r.c (rw (said.is p) at h.0)) (sent_met p rows fair.1 h.1)

  module _ (D : Differences) (p : Point) (kept : Keeps (z.unknowns / 2) p (tight D)) where
    -- a point that keeps the tight table of a table that has the images of a row meets the row
    image_meets : (ts : Terms) (c : ℤ) → Within (z.unknowns / 2) ts → AllByRecursion (Bounds D) (images ts c) → value_by p ts ≤ℤ c
    image_meets (One s) c w has =
        let bound = between (tight D (lit s) (mirror (lit s))) (c +ℤ c) _ (least_left (D (code (lit s)) (code (mirror (lit s)))) (by_halves D (lit s) (mirror (lit s))) (c +ℤ c) has.0) (kept (lit s) (mirror (lit s)) w (mirrored (λ k. k < z.unknowns / 2) (lit s) w)) in
        omega (arith, ints, bound, at_mirror p (lit s))
    image_meets (Two s t) c w has = between (tight D (lit s) (lit t)) c _ (least_left (D (code (lit s)) (code (lit t))) (by_halves D (lit s) (lit t)) c has.0) (kept (lit s) (lit t) w.0 w.1)

    pub sent_meets : (rows : List Row) → AllByRecursion (Fair z) rows → AllByRecursion (Bounds D) (sent rows) → AllByRecursion (Meets p) rows
    sent_meets [] fair has = tt
    sent_meets (r ∷ rows) fair has =
        let said = fair_said (half_sizes z) r fair.0 in
        let parts = all_parts (Bounds D) (images (terms_of r.side) r.c) (sent rows) has in
        (rw (said.is p) (image_meets (terms_of r.side) r.c said.within parts.0), sent_meets rows fair.1 parts.1)

-- the terms of the opposite of the side of a row that passes the rules
pub opposite_in : (z : Sizes) (r : Row) → row_fault z r ≡ None → (ts : Terms) → Opposite (terms_of r.side) ts → Within z.unknowns ts
opposite_in z r fair ts turned_terms = opposite_within z.unknowns (terms_of r.side) ts turned_terms (fair_said z r fair).within

pub opposite_is : (z : Sizes) (r : Row) → row_fault z r ≡ None → (ts : Terms) → Opposite (terms_of r.side) ts → (p : Point) → value p r.side ≡ neg_ℤ (value_by p ts)
opposite_is z r fair ts turned_terms p = omega (arith, ints, (fair_said z r fair).is p, opposite_value p (terms_of r.side) ts turned_terms)
