use Rattle.std.proofs.Common.{refl}
use Rattle.kernel_compile.proofs.Answers.{as_read}
use Rattle.kernel_compile.proofs.compiling.compile.Goals as goal

pub returns-clause-as_read : goal.returns-clause-as_read
returns-clause-as_read c = as_read c.args.bytes.now c.in_ok-kernel.kernel _ refl refl c.in_ok-kernel.ensures.only
