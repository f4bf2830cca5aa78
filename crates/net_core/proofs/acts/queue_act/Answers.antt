use Rattle.std.proofs.Common.{◌-◌, Some, sym, ap, ◌∙◌, arith}
use Rattle.lsq_core.specs.Views.{oldest_of}
use Rattle.net_core.specs.Finds.{exec_of}
use Rattle.net_core.proofs.NumberedLemmas.{at_alloc, at_addr, at_data, at_exec, at_reply, at_retire, at_end, at_none}
use Rattle.net_core.proofs.acts.queue_act.Goals as goal

pub returns-then-number-groups : goal.returns-then-number-groups
returns-then-number-groups c = let l = c.if-number-groups.true in sym (at_alloc c.args.ports c.args.groups (oldest_of c.args.queue.now.queue) c.args.number l)

pub returns-then-number-ports : goal.returns-then-number-ports
returns-then-number-ports c =
    let l = c.if-number-groups.false in
    sym (at_addr c.args.ports c.args.groups (oldest_of c.args.queue.now.queue) c.args.number (c.args.number - c.args.groups) (omega arith) c.if-number-ports.true)

pub returns-then-number-ports-2 : goal.returns-then-number-ports-2
returns-then-number-ports-2 c =
    let l = c.if-number-groups.false in
    let m = c.if-number-ports.false in
    sym (at_data c.args.ports c.args.groups (oldest_of c.args.queue.now.queue) c.args.number (c.args.number - c.args.groups - c.args.ports) (omega arith) c.if-number-ports-2.true)

pub returns-then-number-eq0 : goal.returns-then-number-eq0
returns-then-number-eq0 c =
    let l = c.if-number-groups.false in
    let m = c.if-number-ports.false in
    let n = c.if-number-ports-2.false in
    let z = c.if-number-eq0.true in
    ap Some c.exec_of.ensures ∙ ap (λ o. Some (exec_of o)) c.oldest.ensures ∙ sym (at_exec c.args.ports c.args.groups (oldest_of c.args.queue.now.queue) c.args.number (omega arith))

pub returns-then-number-ports-3 : goal.returns-then-number-ports-3
returns-then-number-ports-3 c =
    let l = c.if-number-groups.false in
    let m = c.if-number-ports.false in
    let n = c.if-number-ports-2.false in
    let z = c.if-number-eq0.false in
    sym (at_reply c.args.ports c.args.groups (oldest_of c.args.queue.now.queue) c.args.number (c.args.number - c.args.groups - c.args.ports - c.args.ports - 1) (omega arith) c.if-number-ports-3.true)

pub returns-in-0 : goal.returns-in-0
returns-in-0 c =
    let l = c.if-number-groups.false in
    let m = c.if-number-ports.false in
    let n = c.if-number-ports-2.false in
    let z = c.if-number-eq0.false in
    let r = c.if-number-ports-3.false in
    let w = c.in-0.is in
    sym (at_retire c.args.ports c.args.groups (oldest_of c.args.queue.now.queue) c.args.number (omega arith))

pub returns-in-1 : goal.returns-in-1
returns-in-1 c =
    let l = c.if-number-groups.false in
    let m = c.if-number-ports.false in
    let n = c.if-number-ports-2.false in
    let z = c.if-number-eq0.false in
    let r = c.if-number-ports-3.false in
    let w = c.in-1.is in
    sym (at_end c.args.ports c.args.groups (oldest_of c.args.queue.now.queue) c.args.number (omega arith))

pub returns-in_default : goal.returns-in_default
returns-in_default c =
    let l = c.if-number-groups.false in
    let m = c.if-number-ports.false in
    let n = c.if-number-ports-2.false in
    let z = c.if-number-eq0.false in
    let r = c.if-number-ports-3.false in
    sym (at_none c.args.ports c.args.groups (oldest_of c.args.queue.now.queue) c.args.number (c.args.number - c.args.groups - c.args.ports - c.args.ports - 1 - c.args.ports - 2) (omega arith))
