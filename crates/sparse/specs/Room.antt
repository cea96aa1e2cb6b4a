-- What a sparse theory asks of its memory. Assumes nothing.
use Rattle.std.specs.Prelude.{◌≤◌, length}
use Rattle.sparse.specs.declared.memory.Memory.{Memory}

-- each slice has its least length
abbrev pub Enough : Memory → Type 0
Enough m = (1024 ≤ length m.edges.now) × (128 ≤ length m.levels.now) × (128 ≤ length m.saved.now) × (64 ≤ length m.heads.now) × (64 ≤ length m.marks.now)
