use Rattle.std.proofs.Common.{inl, inr, refl}
use Rattle.elastic_top.proofs.interpretation.interpret.Goals as goal

pub returns-in-Err-clause-err : goal.returns-in-Err-clause-err
returns-in-Err-clause-err c = inl (record { files = c.args.kernel; refused = c.in-Err.refused; is = refl; named = refl; holds = c.in-Err.ensures.says })

pub returns-clause-err : goal.returns-clause-err
returns-clause-err c = inr (record {
  files = record { kernel = c.args.kernel; inputs = c.args.inputs };
  refused = c.in-Err-interpret_text.refused;
  is = refl;
  named = (refl, refl);
  holds = record { kernel = c.in-Ok.read; read = c.in-Ok.ensures.says; holds = c.in-Err-interpret_text.ensures.err };
})
