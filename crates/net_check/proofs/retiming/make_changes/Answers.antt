use Rattle.std.proofs.Common.{◌≡◌, ◌<◌, ◌∙◌, length, ap, sym, subst, arith}
use Rattle.std.specs.Prelude.{take}
use Rattle.std.proofs.lemmas.List.{take_all}
use Rattle.net_check.specs.Retimed.{changed_from}
use Rattle.net_check.proofs.ChangeLemmas.{no_change, begin_changes, change_more, length_changed}
use Rattle.net_check.proofs.retiming.make_changes.Goals as goal

pub loop-change-init : goal.loop-change-init
loop-change-init c = begin_changes c.args.chans.now

pub make_change-requires : goal.make_change-requires
make_change-requires c =
    let n = ap length c.loop-change.invariant ∙ length_changed (take c.loop-change.change-index c.args.changes.now) 0 c.args.chans.now in
    let h = c.requires c.loop-change.change-index no_change c.loop-change-test.true in
    omega arith

pub loop-change-preserved : goal.loop-change-preserved
loop-change-preserved c =
    change_more c.args.changes.now no_change c.loop-change.change-index c.args.chans.now c.loop-change.chans c.make_change.new.chans c.loop-change-test.true
    (c.requires c.loop-change.change-index no_change c.loop-change-test.true) c.loop-change.invariant c.make_change.ensures

pub returns : goal.returns
returns c =
    let e = take_all c.loop-change.change-index c.args.changes.now c.loop-change-test.false in
    c.loop-change.invariant ∙ ap (λ xs. changed_from xs 0 c.args.chans.now) e
