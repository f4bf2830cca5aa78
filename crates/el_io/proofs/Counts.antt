-- What it means that a count rose.
use Rattle.std.proofs.Common.{◌≢◌, ℕ, ◌-◌, ◌^◌, ◌<◌, ◌≤◌, arith}
use Rattle.el_io.specs.Outside.{Rose}

-- a count of at most 2 ^ 64 - 1 rose where it is greater than before, or stands at 2 ^ 64 - 1
pub rose_if : (before now : ℕ) → (now ≢ 2 ^ 64 - 1 → before < now) → now ≤ 2 ^ 64 - 1 → Rose before now
rose_if before now greater last = grind (arith)

pub rose_only_if : (before now : ℕ) → now ≤ 2 ^ 64 - 1 → Rose before now → now ≢ 2 ^ 64 - 1 → before < now
rose_only_if before now last rose ne = grind (arith)
