use Rattle.std.proofs.Common.{◌∙◌, sym, ap}
use Rattle.std.specs.List.{slice_get}
use Rattle.net_types.specs.declared.firing.Act.TheVariants.{From, Send}
use Rattle.net_core.specs.Plans.{own_of}
use Rattle.net_core.specs.Finds.{unit_acts}
use Rattle.net_core.proofs.NumberedLemmas.{some_below}
use Rattle.net_core.proofs.acts.act_numbered.Goals as goal

pub returns-in-Fork : goal.returns-in-Fork
returns-in-Fork c =
    c.then_some.ensures ∙ some_below c.in-Fork.outs Send c.args.number
    ∙ sym (ap (λ k. slice_get (unit_acts k (own_of c.args.cell.now)) c.args.number) c.in-Fork.is)

pub returns-in-Cmerge : goal.returns-in-Cmerge
returns-in-Cmerge c =
    c.then_some-in-Cmerge.ensures ∙ some_below c.in-Cmerge.ins From c.args.number
    ∙ sym (ap (λ k. slice_get (unit_acts k (own_of c.args.cell.now)) c.args.number) c.in-Cmerge.is)
