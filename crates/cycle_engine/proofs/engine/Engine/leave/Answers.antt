use Rattle.std.proofs.Common.{◌≡◌, ◌+◌, ℕ, false, inr, length, sym, subst, arith}
use Rattle.lsq_core.specs.Bits.{IsSet}
use Rattle.cycle_engine.specs.private.Marking.{Holds}
use Rattle.cycle_engine.specs.private.Pending.{out_number}
use Rattle.cycle_engine.proofs.MarkLemmas.{holds_last}
use Rattle.cycle_engine.proofs.PendingLemmas.{going_pending, left_more, out_room, shut_more, turn_pending}
use Rattle.cycle_engine.proofs.SendLemmas.{send_number}
use Rattle.cycle_engine.proofs.TurnLemmas.{pushed_holds, turn_again}
use Rattle.cycle_engine.proofs.engine.Engine.leave.Goals as goal

pub overflow_add-base : goal.overflow_add-base
overflow_add-base c =
    let z = send_number c.args.net.now c.args.self.now.used.base.items (length c.args.self.now.used.last.items) c.args.unit c.args.outs c.args.out c.requires.within c.requires.fork c.requires.out c.requires.ready.places in
    let y = c.requires.base in
    let k = c.args.self.now.used.last.ok.0 in
    let n = c.args.self.now.used.last.small in
    omega arith

pub overflow_add-base-then-is_shut : goal.overflow_add-base-then-is_shut
overflow_add-base-then-is_shut c =
    let z = send_number c.args.net.now c.args.self.now.used.base.items (length c.args.self.now.used.last.items) c.args.unit c.args.outs c.args.out c.requires.within c.requires.fork c.requires.out c.requires.ready.places in
    let y = c.requires.base in
    let k = c.args.self.now.used.last.ok.0 in
    let n = c.args.self.now.used.last.small in
    let f = c.from.ensures in
    omega arith

pub set-requires : goal.set-requires
set-requires c =
    let w = out_room c.args.net.now (length c.args.self.now.used.last.items) c.args.unit c.args.outs c.args.out c.args.self.now.used.base.items c.args.self.now.pending c.requires.ready.places c.requires.ready.pending c.requires.within c.requires.fork c.requires.out in
    let a = w.0 in
    let y = c.requires.base in
    let f = c.from.ensures in
    omega arith

pub returns-then-is_shut-clause-left : goal.returns-then-is_shut-clause-left
returns-then-is_shut-clause-left c left =
    let S : ℕ → Type 0 = λ n. IsSet n false c.args.self.now.pending.outs c.set.new.self.outs in
    let number : c.args.base + 1 + c.from.result ≡ out_number c.args.self.now.used.base.items c.args.unit c.args.out = (let y = c.requires.base in let f = c.from.ensures in omega arith) in
    left_more c.args.net.now c.args.self.now c.args.unit c.args.out c.set.new.self (subst S number c.set.ensures.outs) c.set.ensures.noted c.requires.noted left

pub returns-then-is_shut-clause-tried : goal.returns-then-is_shut-clause-tried
returns-then-is_shut-clause-tried c past start marks n t =
    let S : ℕ → Type 0 = λ n. IsSet n false c.args.self.now.pending.outs c.set.new.self.outs in
    let number : c.args.base + 1 + c.from.result ≡ out_number c.args.self.now.used.base.items c.args.unit c.args.out = (let y = c.requires.base in let f = c.from.ensures in omega arith) in
    let shut = shut_more c.args.net.now c.args.self.now c.args.unit c.args.outs c.args.out c.set.new.self false c.requires.within c.requires.fork c.requires.out c.requires.ready.places (subst S number c.set.ensures.outs) c.set.ensures.noted
    start (λ z. c.is_shut.ensures c.if-is_shut.true start t.going.began) t.going.shut in
    turn_pending c.args.net.now past c.args.bounds c.args.now start marks c.args.self.now c.set.new.self c.args.unit 2 n (going_pending c.args.net.now past c.args.bounds c.args.now start c.args.self.now c.set.new.self t.going shut) t

pub returns-in_ok-push-clause-left : goal.returns-in_ok-push-clause-left
returns-in_ok-push-clause-left c left j l = inr (subst (Holds c.args.unit) (sym c.in_ok-push.ensures) (holds_last c.args.self.now.again.items c.args.unit))

pub returns-in_ok-push-clause-tried : goal.returns-in_ok-push-clause-tried
returns-in_ok-push-clause-tried c past start marks n t =
    turn_again c.args.net.now past c.args.bounds c.args.now start marks c.args.self.now c.push.new.self c.args.unit 2 n (λ v h. subst (Holds v) (sym c.in_ok-push.ensures) (pushed_holds c.args.self.now.again.items c.args.unit v h)) t
