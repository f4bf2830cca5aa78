use Rattle.std.proofs.Common.{refl}
use Rattle.elastic_top.proofs.compiling.compile.Goals as goal

pub returns-in-Err-clause-err : goal.returns-in-Err-clause-err
returns-in-Err-clause-err c = record { files = c.args.kernel; refused = c.in-Err.refused; is = refl; named = refl; holds = c.in-Err.ensures.err }
