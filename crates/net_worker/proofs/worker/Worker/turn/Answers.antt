use Rattle.std.proofs.Common.{◌≡◌, ◌+◌, length, ap, subst, arith}
use Rattle.net_worker.proofs.Firing.{goes_looked}
use Rattle.net_worker.proofs.Glancing.{looked_same, looked_trans, same_whole}
use Rattle.net_worker.proofs.Turning.{looked_then, looked_asked}
use Rattle.net_worker.proofs.worker.Worker.turn.Goals as goal

pub pass-requires-clause-whole : goal.pass-requires-clause-whole
pass-requires-clause-whole c =
    same_whole c.args.tables.now c.args.self.now c.ask.new.self
    (looked_same c.args.self.now c.ask.new.self (looked_trans c.args.self.now c.look.new.self c.ask.new.self c.look.ensures.looked c.ask.ensures.looked)) c.requires.whole

pub returns-then-self : goal.returns-then-self
returns-then-self c =
    let t = c.args.tables.now in
    let a = c.args.self.now in
    let m = c.look.new.self in
    let b = c.ask.new.self in
    let l = looked_trans a m b c.look.ensures.looked c.ask.ensures.looked in
    record {
      made = c.ask.ensures.made;
      later = goes_looked t a b c.requires.made c.ask.ensures.made l;
      added = omega (arith, ap (λ l. length l.items) l.log);
      none = λ _. looked_then t a m b c.look.ensures.looked c.look.ensures.seen c.ask.ensures.looked c.ask.ensures.denied;
    }

pub returns : goal.returns
returns c =
    let t = c.args.tables.now in
    let a = c.args.self.now in
    let m = c.look.new.self in
    let n = c.ask.new.self in
    let b = c.pass.new.self in
    let l = looked_trans a m n c.look.ensures.looked c.ask.ensures.looked in
    let all = looked_then t a m n c.look.ensures.looked c.look.ensures.seen c.ask.ensures.looked c.ask.ensures.denied in
    record {
      made = c.pass.ensures.made;
      later = λ z s. c.pass.ensures.later z (goes_looked t a n c.requires.made c.ask.ensures.made l z s);
      added = subst (λ g. length b.log.items ≡ length g.items + c.pass.result) l.log c.pass.ensures.added;
      none = λ q. looked_asked t a n b all c.if-self.false (c.pass.ensures.none q);
    }
