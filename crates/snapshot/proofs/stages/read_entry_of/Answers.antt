use Rattle.std.proofs.Common.{sym, ap, ◌∙◌}
use Rattle.net_types.specs.declared.net.Net.{Net}
use Rattle.snapshot.proofs.EntryLemmas.{kind_read, entry_of}
use Rattle.snapshot.proofs.stages.read_entry_of.Goals as goal

pub returns-in-Lsq : goal.returns-in-Lsq
returns-in-Lsq c =
    let net = c.args.net.now in
    let same = c.net-net.ensures.net in
    entry_of net c.args.unit c.in-Lsq.array c.in-Lsq.depth c.in-Lsq.ports c.as_slice-in-Lsq-2.result.now c.in-Lsq.groups c.in-Lsq.forward
    c.as_slice-in-Lsq.result.now c.index-as_slice-array.result c.width-width.result _ _ c.read_entry.result c.net-net.ensures.checked
    (sym (kind_read net c.as_slice.result.now c.args.unit c.index-as_slice-unit.result (c.as_slice.ensures ∙ ap (λ (n : Net). n.units) same) c.requires c.index-as_slice-unit.is) ∙ c.in-Lsq.is)
    (c.as_slice-in-Lsq.ensures ∙ ap (λ (n : Net). n.arrays) same)
    c.width-width.ensures c.as_slice-in-Lsq-2.ensures c.in_ok-rest.ensures c.read_entry.ensures
