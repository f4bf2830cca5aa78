-- The laws that sums of parameters need, in one place.
use Rattle.std.proofs.Common.{ℕ, ◌^◌, ◌<◌}
use Rattle.el_base.specs.declared.operation.Op2.TheVariants.{Add32, Sub32, Mul32}
use Rattle.word_ops.specs.Operations.{op2_result}
use Rattle.word_ops.proofs.Below.{below_width2}
pub use Rattle.word_ops.proofs.ByOperation.{add32, add64, sub32, sub64, mul32, mul64, neg32, neg64}

-- results of sums, differences and products are below 2 ^ 32, whatever the operands
pub add32_below : (a b : ℕ) → op2_result Add32 a b < 2 ^ 32
add32_below = below_width2 Add32

pub sub32_below : (a b : ℕ) → op2_result Sub32 a b < 2 ^ 32
sub32_below = below_width2 Sub32

pub mul32_below : (a b : ℕ) → op2_result Mul32 a b < 2 ^ 32
mul32_below = below_width2 Mul32
