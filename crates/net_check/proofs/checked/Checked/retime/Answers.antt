use Rattle.net_check.proofs.ChangeLemmas.{tables_after}
use Rattle.net_check.proofs.checked.Checked.retime.Goals as goal

pub invariant_of-self : goal.invariant_of-self
invariant_of-self c =
    let k = c.self.invariant in
    let t = tables_after c.args.changes.now c.self.inside.net c.retime_net.new.net c.self.inside.into c.self.inside.out_of c.self.inside.pins.items c.retime_net.result k.ins k.outs k.pins k.checked c.retime_net.ensures.changed c.retime_net.ensures.kept c.retime_net.ensures.checked in
    record { ins = t.0.0; outs = t.0.1; pins = t.1.0; checked = t.1.1 }
