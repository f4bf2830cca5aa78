use Rattle.std.proofs.Common.{◌≡◌, refl, arith}
use Rattle.net_worker.proofs.Asking.{asked_self, asked_trans, asked_back, asked_made, puts_asked_self, takes_asked_self}
use Rattle.net_worker.proofs.Firing.{later_same, goes_asked, goes_then_asked}
use Rattle.net_worker.proofs.Glancing.{same_whole, looked_same, asked_looked}
use Rattle.net_worker.proofs.worker.Worker.pass.Goals as goal

pub visits-init : goal.visits-init
visits-init c = record { made = c.requires.made; goes = λ z l. l; added = omega arith; none = λ _. asked_self c.args.self.now }

pub visit-made-requires-clause-made : goal.visit-made-requires-clause-made
visit-made-requires-clause-made c =
    asked_made c.args.tables.now c.visits.self _ c.visits.invariant.made
    (record { number = refl; share = refl; log = refl; clock = refl; portion = refl; outs = refl; ins = refl; closed = refl; resting = refl; waits = λ _ h. h; puts = puts_asked_self c.visits.self.puts.items; takes = takes_asked_self c.visits.self.takes.items })

pub visit-made-requires-clause-whole : goal.visit-made-requires-clause-whole
visit-made-requires-clause-whole c =
    same_whole c.args.tables.now c.visits.self _
    (looked_same c.visits.self _ (asked_looked c.visits.self _ (record { number = refl; share = refl; log = refl; clock = refl; portion = refl; outs = refl; ins = refl; closed = refl; resting = refl; waits = λ _ h. h; puts = puts_asked_self c.visits.self.puts.items; takes = takes_asked_self c.visits.self.takes.items })))
    (same_whole c.args.tables.now c.args.self.now c.visits.self (later_same c.args.tables.now c.args.self.now c.visits.self c.requires.made c.visits.invariant.goes) c.requires.whole)

pub returns-in_default-clause-made : goal.returns-in_default-clause-made
returns-in_default-clause-made c =
    asked_made c.args.tables.now c.visits.self _ c.visits.invariant.made
    (record { number = refl; share = refl; log = refl; clock = refl; portion = refl; outs = refl; ins = refl; closed = refl; resting = refl; waits = λ _ h. h; puts = puts_asked_self c.visits.self.puts.items; takes = takes_asked_self c.visits.self.takes.items })

pub returns-in_default-clause-later : goal.returns-in_default-clause-later
returns-in_default-clause-later c =
    goes_then_asked c.args.tables.now c.args.self.now c.visits.self _ c.visits.invariant.made c.visits.invariant.goes
    (record { number = refl; share = refl; log = refl; clock = refl; portion = refl; outs = refl; ins = refl; closed = refl; resting = refl; waits = λ _ h. h; puts = puts_asked_self c.visits.self.puts.items; takes = takes_asked_self c.visits.self.takes.items })

pub returns-in_default-clause-none : goal.returns-in_default-clause-none
returns-in_default-clause-none c = λ q.
    asked_trans c.args.self.now c.visits.self _ (c.visits.invariant.none q)
    (record { number = refl; share = refl; log = refl; clock = refl; portion = refl; outs = refl; ins = refl; closed = refl; resting = refl; waits = λ _ h. h; puts = puts_asked_self c.visits.self.puts.items; takes = takes_asked_self c.visits.self.takes.items })

pub visits-preserved : goal.visits-preserved
visits-preserved c = record {
  made = c.visit-made.ensures.made;
  goes = λ z l. c.visit-made.ensures.later z
      (goes_asked c.args.tables.now c.visits.self _ c.visits.invariant.made
      (record { number = refl; share = refl; log = refl; clock = refl; portion = refl; outs = refl; ins = refl; closed = refl; resting = refl; waits = λ _ h. h; puts = puts_asked_self c.visits.self.puts.items; takes = takes_asked_self c.visits.self.takes.items })
      z (c.visits.invariant.goes z l));
  added = omega (arith, c.visit-made.ensures.added, c.visits.invariant.added);
  none = λ q.
      (let x : c.visits.fired ≡ 0 = omega arith in
      let y : c.visit-made.result ≡ 0 = omega arith in
      asked_back c.args.self.now c.visits.self _ c.visit-made.new.self (c.visit-made.ensures.none y)
      (record { number = refl; share = refl; log = refl; clock = refl; portion = refl; outs = refl; ins = refl; closed = refl; resting = refl; waits = λ _ h. h; puts = puts_asked_self c.visits.self.puts.items; takes = takes_asked_self c.visits.self.takes.items })
      (c.visits.invariant.none x));
}
