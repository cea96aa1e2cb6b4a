-- The memory behind what stands. Assumes nothing.
use Rattle.std.specs.Prelude.{◌^◌, ◌<◌, ◌≤◌, length, vec_items, vec_capacity}
use Rattle.standing.specs.declared.Standing.TheInside.{Inside}

-- no more stands than the sizes allow, and there is room for all that they allow
pub record Fits (s : Inside) : Type 0 where
  pub rows : length (vec_items s.rows) ≤ s.sizes.space
  pub levels : length (vec_items s.levels) ≤ s.sizes.depth
  pub space : s.sizes.space < 2 ^ 32
  pub depth : s.sizes.depth < 2 ^ 32
  pub row_room : s.sizes.space ≤ vec_capacity s.rows
  pub level_room : s.sizes.depth ≤ vec_capacity s.levels
