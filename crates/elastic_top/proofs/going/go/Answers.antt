use Rattle.std.proofs.Common.{refl}
use Rattle.elastic_top.proofs.going.go.Goals as goal

pub returns-in-Err-clause-err : goal.returns-in-Err-clause-err
returns-in-Err-clause-err g c = record {
  files = record { kernel = c.args.kernel; inputs = c.args.inputs };
  refused = c.in-Err.refused;
  is = refl;
  named = (refl, refl);
  holds = c.in-Err.ensures.err;
}
