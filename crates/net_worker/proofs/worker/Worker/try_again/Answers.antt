use Rattle.std.proofs.Common.{refl}
use Rattle.net_worker.proofs.Asking.{asked_made}
use Rattle.net_worker.proofs.Firing.{goes_then_asked}
use Rattle.net_worker.proofs.Tries.{one_of, held_then_asked}
use Rattle.net_worker.proofs.worker.Worker.try_again.Goals as goal

pub returns-then-try_act-clause-tried : goal.returns-then-try_act-clause-tried
returns-then-try_act-clause-tried c = c.if-try_act.ensures.fired refl

pub returns : goal.returns
returns c =
    let t = c.args.tables.now in
    let a = c.args.self.now in
    let m = c.try_act.new.self in
    let b = c.note.new.self in
    let f = c.args.firing in
    record {
      made = asked_made t m b c.try_act.ensures.made c.note.ensures.asked;
      later = goes_then_asked t a m b c.try_act.ensures.made c.try_act.ensures.later c.note.ensures.asked;
      tried = one_of t a b f c.note.result c.of.result c.of.ensures (held_then_asked t a m b f (c.if-try_act.ensures.held refl) c.note.ensures.asked) c.note.ensures.waiting;
    }
