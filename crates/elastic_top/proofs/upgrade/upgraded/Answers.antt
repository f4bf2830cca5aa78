use Rattle.std.proofs.Common.{refl}
use Rattle.net_front.specs.declared.refusal.NetlistRefusal.TheVariants as netlist
use Rattle.elastic_top.proofs.upgrade.upgraded.Goals as goal

pub returns-in-Err-clause-err : goal.returns-in-Err-clause-err
returns-in-Err-clause-err c = record { files = c.args.file; refused = c.in-Err.refused; is = refl; named = refl; holds = c.in-Err.ensures.err }

pub returns-clause-err : goal.returns-clause-err
returns-clause-err c = record { files = c.args.file; refused = netlist.Memory; is = refl; named = refl; holds = tt }
