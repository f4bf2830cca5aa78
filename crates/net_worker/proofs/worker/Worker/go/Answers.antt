use Rattle.std.proofs.Common.{◌≡◌, refl, subst, arith}
use Rattle.net_worker.specs.Going.{TriedAs}
use Rattle.net_worker.proofs.Firing.{later_same, goes_looked}
use Rattle.net_worker.proofs.Glancing.{same_whole, puts_looked_self, takes_looked_self}
use Rattle.net_worker.proofs.HeldBack.{all_held_back, rested_held_back, all_still_held}
use Rattle.net_worker.proofs.worker.Worker.go.Goals as goal

pub returns-then-self-clause-held : goal.returns-then-self-clause-held
returns-then-self-clause-held c = λ _.
    (let x : c.turns-fired.result ≡ 0 = omega arith in
    rested_held_back c.args.tables.now c.args.self.now c.turns-fired.new.self c.net.ensures.checked c.requires.whole c.turns-fired.ensures.made (c.turns-fired.ensures.none x) c.if-self.true)

pub exact_pass-requires-clause-whole : goal.exact_pass-requires-clause-whole
exact_pass-requires-clause-whole c = same_whole c.args.tables.now c.args.self.now c.turns-fired.new.self (later_same c.args.tables.now c.args.self.now c.turns-fired.new.self c.requires.made c.turns-fired.ensures.later) c.requires.whole

pub returns-in-Made-clause-later : goal.returns-in-Made-clause-later
returns-in-Made-clause-later c = λ z l. c.exact_pass.ensures.later z (c.turns-fired.ensures.later z l)

pub returns-in-Held-clause-later : goal.returns-in-Held-clause-later
returns-in-Held-clause-later c = λ z l. c.exact_pass.ensures.later z (c.turns-fired.ensures.later z l)

pub returns-in-Held-clause-held : goal.returns-in-Held-clause-held
returns-in-Held-clause-held c = λ _.
    (let t = c.args.tables.now in
    let a = c.args.self.now in
    let n = c.turns-fired.new.self in
    let b = c.exact_pass.new.self in
    let x : c.turns-fired.result ≡ 0 = omega arith in
    let l = c.turns-fired.ensures.none x in
    all_held_back t a n b c.net.ensures.checked c.requires.whole c.exact_pass.ensures.made l.looked l.seen (subst (λ r. TriedAs t r n b) c.in-Held.is c.exact_pass.ensures.tried))

pub returns-in-Waiting-clause-made : goal.returns-in-Waiting-clause-made
returns-in-Waiting-clause-made c =
    let m = c.exact_pass.ensures.made in
    record {
      of = m.of;
      counts = m.counts;
      own = m.own;
      room = m.room;
      ends = m.ends;
      ends_too = m.ends_too;
      clock = m.clock;
      after = m.after;
      local = m.local;
      sees = m.sees;
      exit = m.exit;
      held = m.held;
      held_stamps = m.held_stamps;
      puts_out = m.puts_out;
      takes_in = m.takes_in;
      outs = m.outs;
      outs_only = m.outs_only;
      ins = m.ins;
      ins_only = m.ins_only;
      repaid = m.repaid;
      rests = λ _. (subst (λ r. TriedAs c.args.tables.now r c.turns-fired.new.self c.exact_pass.new.self) c.in-Waiting.is c.exact_pass.ensures.tried).1;
    }

pub returns-in-Waiting-clause-later : goal.returns-in-Waiting-clause-later
returns-in-Waiting-clause-later c = λ z l.
    goes_looked c.args.tables.now c.exact_pass.new.self _ c.exact_pass.ensures.made (returns-in-Waiting-clause-made c)
    (record {
      number = refl;
      share = refl;
      log = refl;
      clock = refl;
      outs = refl;
      ins = refl;
      closed = refl;
      puts = puts_looked_self c.exact_pass.new.self.puts.items;
      takes = takes_looked_self c.exact_pass.new.self.takes.items;
    }) z (c.exact_pass.ensures.later z (c.turns-fired.ensures.later z l))

pub returns-in-Waiting-clause-held : goal.returns-in-Waiting-clause-held
returns-in-Waiting-clause-held c = λ _.
    (let t = c.args.tables.now in
    let a = c.args.self.now in
    let n = c.turns-fired.new.self in
    let b = c.exact_pass.new.self in
    let x : c.turns-fired.result ≡ 0 = omega arith in
    let l = c.turns-fired.ensures.none x in
    all_still_held t a b _ (record { clock = refl; portion = refl; puts = refl; takes = refl })
    (all_held_back t a n b c.net.ensures.checked c.requires.whole c.exact_pass.ensures.made l.looked l.seen (subst (λ r. TriedAs t r n b) c.in-Waiting.is c.exact_pass.ensures.tried).0))
