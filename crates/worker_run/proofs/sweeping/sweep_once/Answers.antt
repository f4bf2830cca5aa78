use Rattle.std.proofs.Common.{ap, arith, inl, inr}
use Rattle.worker_run.proofs.RestLemmas.{rests}
use Rattle.worker_run.proofs.SweepLemmas.{full_still, swept_self}
use Rattle.worker_run.proofs.sweeping.sweep_once.Goals as goal

pub returns-then-not-turn-clause-swept : goal.returns-then-not-turn-clause-swept
returns-then-not-turn-clause-swept g c = swept_self c.args.tables.now c.args.worker.now c.requires.made

pub returns-clause-swept : goal.returns-clause-swept
returns-clause-swept g c = record { made = c.go_on.ensures.made; same = c.go_on.ensures.same }

pub returns-clause-turn : goal.returns-clause-turn
returns-clause-turn g c =
    let t = c.args.tables.now in
    let a = c.args.worker.now in
    let b = c.go_on.new.self in
    record {
      none = λ q. inr (elim (c.go_on.ensures.none q).1 [
        | inl h ↦ inr (rests t a b c.requires.made c.go_on.ensures.made c.go_on.ensures.same.number (ap (λ l. l.items) (c.go_on.ensures.none q).0) h.0 h.1)
        | inr f ↦ inl (full_still t a b c.requires.made c.go_on.ensures.made (c.go_on.ensures.none q).0 f)
      ]);
      some = λ l. omega (arith, l, c.go_on.ensures.added, c.requires.made.room, c.go_on.ensures.made.room, c.go_on.ensures.same.share);
    }
