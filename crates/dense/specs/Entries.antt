-- What a matrix holds at its places. Assumes nothing.
-- of_line, entry: what stands at a place.     LineHolds, Holds: what stands at every place.
-- Small: all bounds of a matrix lie near 0.
-- no_bounds: the matrix of no rows.           line_with_row: a line after one more row.
use Rattle.std.specs.Prelude.{◌≡◌, ℕ, ◌<◌, cond, List, [], ℤ, pos, Some, None, Option, ◌==◌, slice_index_or}
use Rattle.bounds.specs.Tables.{Differences, least_of, sum_of}
use Rattle.differences.specs.Tabled.{Near}
use Rattle.dense.specs.declared.matrix.Matrix.{Matrix}

abbrev pub of_line : List (Option ℤ) → ℕ → Option ℤ
of_line line j = slice_index_or line j None

abbrev pub entry : Matrix → Differences
entry m i j = of_line (slice_index_or m.lines i []) j

abbrev pub LineHolds : List (Option ℤ) → (ℕ → Option ℤ) → Type 0
LineHolds line f = (j : ℕ) → j < 64 → of_line line j ≡ f j

abbrev pub Holds : Matrix → Differences → Type 0
Holds m D = (i j : ℕ) → i < 64 → j < 64 → entry m i j ≡ D i j

-- 64 times the greatest bound of a row, and once more: no entry and no entry with a row lies further from 0
abbrev pub far : ℕ
far = 256000000

abbrev pub further : ℕ
further = 260000000

abbrev pub Small : Matrix → Type 0
Small m = (i j : ℕ) → i < 64 → j < 64 → Near far (entry m i j)

abbrev pub no_bounds : Differences
no_bounds i j = cond (i == j) (Some (pos 0)) None

-- the chains from a line's unknown to u, over a row with the bound c, and on
abbrev pub line_with_row : List (Option ℤ) → ℕ → ℤ → List (Option ℤ) → ℕ → Option ℤ
line_with_row line u c onward j = least_of (of_line line j) (sum_of (sum_of (of_line line u) (Some c)) (of_line onward j))
