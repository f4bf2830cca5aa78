use Rattle.std.proofs.Common.{◌≡◌, ◌∙◌, ap, subst, sym}
use Rattle.net_types.specs.declared.net.Net.{Net}
use Rattle.net_check.specs.Retimed.{changed_from}
use Rattle.net_check.specs.private.Times.{KeepsOthers, times_before}
use Rattle.net_check.proofs.ChangeLemmas.{keeps_others, saved_name, taken_back}
use Rattle.net_check.proofs.retiming.retime_net.Goals as goal

pub check_times-requires : goal.check_times-requires
check_times-requires c =
    subst (λ cs. KeepsOthers (record c.args.net.now { chans = cs })) (sym c.make_changes.ensures) (keeps_others c.args.changes.now c.args.net.now c.requires.checked)

pub make_changes-requires-in-Err : goal.make_changes-requires-in-Err
make_changes-requires-in-Err c =
    saved_name c.args.net.now.chans c.args.changes.now c.as_slice-in-Err.result.now c.make_changes.new.chans
    (c.as_slice-in-Err.ensures ∙ c.in_ok-before.ensures ∙ ap (λ zs. times_before zs c.args.changes.now) c.as_slice.ensures) c.make_changes.ensures c.requires.named

pub returns-clause-kept : goal.returns-clause-kept
returns-clause-kept c =
    let cs = c.args.net.now.chans in
    let e : c.make_changes-in-Err.new.chans ≡ cs =
    c.make_changes-in-Err.ensures ∙ ap (λ zs. changed_from c.as_slice-in-Err.result.now 0 zs) c.make_changes.ensures
    ∙ ap (λ ys. changed_from ys 0 (changed_from c.args.changes.now 0 cs)) (c.as_slice-in-Err.ensures ∙ c.in_ok-before.ensures ∙ ap (λ zs. times_before zs c.args.changes.now) c.as_slice.ensures) ∙ taken_back cs c.args.changes.now in
    ap (λ zs. record c.args.net.now { chans = zs }) e
