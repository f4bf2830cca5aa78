use Rattle.std.proofs.Common.{subst, sym}
use Rattle.net_check.specs.declared.refusal.At.{At}
use Rattle.net_check.specs.Headers.{CulpritC8, IsHeader}
use Rattle.net_check.specs.private.Tallies.{IsComplete}
use Rattle.net_check.proofs.MarkLemmas.{false_iff, true_iff}
use Rattle.net_check.proofs.FirstLemmas.{within_same, past_same, read_same}
use Rattle.net_check.proofs.HeaderLemmas.{first_fault, more_none, no_fault, keeps_of, complete_of}
use Rattle.net_check.proofs.headers.check_header.Goals as goal

pub returns-then-is_faulty : goal.returns-then-is_faulty
returns-then-is_faulty c =
    let P : At → Type 0 = CulpritC8 c.args.net.now in
    let e = c.as_slice-unit-items.ensures in
    let t = c.in_ok-tally.tally in
    subst P (sym c.unit_at.ensures)
    (first_fault c.args.net.now t.entry t.exit t.params.items t.queues.items c.loop-u.u _ c.is_faulty.result (within_same _ _ _ e c.loop-u-test.true) (read_same _ _ _ _ e c.unit-item.is) c.in_ok-tally.ensures c.loop-u.invariant c.is_faulty.ensures c.if-is_faulty.true)

pub loop-u-preserved : goal.loop-u-preserved
loop-u-preserved c =
    let e = c.as_slice-unit-items.ensures in
    let t = c.in_ok-tally.tally in
    more_none c.args.net.now t.entry t.exit t.params.items t.queues.items c.loop-u.u _ c.is_faulty.result (within_same _ _ _ e c.loop-u-test.true) (read_same _ _ _ _ e c.unit-item.is) c.loop-u.invariant c.is_faulty.ensures c.if-is_faulty.false

pub returns-then-not-is_complete : goal.returns-then-not-is_complete
returns-then-not-is_complete c =
    let e = c.as_slice-unit-items.ensures in
    let t = c.in_ok-tally.tally in (
      no_fault c.args.net.now t.entry t.exit t.params.items t.queues.items c.loop-u.u (past_same _ _ _ e c.loop-u-test.false) c.in_ok-tally.ensures c.loop-u.invariant,
      λ k. false_iff _ (IsComplete t.entry t.exit t.params.items) c.is_complete.ensures c.if-not-is_complete.true (complete_of c.args.net.now t.entry t.exit t.params.items t.queues.items c.in_ok-tally.ensures k),
    )

pub returns-then-not-branch : goal.returns-then-not-branch
returns-then-not-branch c =
    let e = c.as_slice-unit-items.ensures in
    let t = c.in_ok-tally.tally in (
      no_fault c.args.net.now t.entry t.exit t.params.items t.queues.items c.loop-u.u (past_same _ _ _ e c.loop-u-test.false) c.in_ok-tally.ensures c.loop-u.invariant,
      λ k. false_iff _ (IsHeader c.args.net.now) c.in_ok-is_header.ensures c.if-not-branch.true k.header,
    )

pub returns : goal.returns
returns c =
    let e = c.as_slice-unit-items.ensures in
    let t = c.in_ok-tally.tally in
    keeps_of c.args.net.now t.entry t.exit t.params.items t.queues.items c.loop-u.u (past_same _ _ _ e c.loop-u-test.false) c.in_ok-tally.ensures c.loop-u.invariant
    (true_iff _ (IsComplete t.entry t.exit t.params.items) c.is_complete.ensures c.if-not-is_complete.false) (true_iff _ (IsHeader c.args.net.now) c.in_ok-is_header.ensures c.if-not-branch.false)
