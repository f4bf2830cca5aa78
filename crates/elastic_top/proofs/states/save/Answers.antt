use Rattle.std.proofs.Common.{inl, inr, refl}
use Rattle.elastic_top.proofs.states.save.Goals as goal

pub returns-in-Err-clause-err : goal.returns-in-Err-clause-err
returns-in-Err-clause-err c = inl (record { files = c.args.netlist; refused = c.in-Err.refused; is = refl; named = refl; holds = c.in-Err.ensures.err })

pub returns-clause-err : goal.returns-clause-err
returns-clause-err c = inr (record {
  files = _;
  refused = c.in-Err-save_text.refused;
  is = refl;
  named = (refl, refl);
  holds = record { net = c.in-Ok.net; read = c.in-Ok.ensures.ok; holds = c.in-Err-save_text.ensures.err };
})
