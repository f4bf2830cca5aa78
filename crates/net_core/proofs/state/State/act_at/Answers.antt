use Rattle.std.proofs.Common.{◌∙◌, ap, sym, refl}
use Rattle.net_core.proofs.StateLemmas.{unit_is, plan_shape}
use Rattle.net_core.proofs.state.State.act_at.Goals as goal

pub act_numbered-requires-clause-shape : goal.act_numbered-requires-clause-shape
act_numbered-requires-clause-shape c =
    let same = c.as_slice.ensures ∙ ap (λ n. n.units) c.net.ensures.net in
    let k = unit_is c.args.net.now c.as_slice.result.now c.args.unit c.index-as_slice-at.result same (rw same c.requires.within) c.index-as_slice-at.is in
    record { array = _; shaped = plan_shape c.args.net.now c.args.self.now c.args.unit c.index-as_slice-at.result c.index.result.now _ c.requires.of c.requires.within (sym k) c.index.ensures refl }
