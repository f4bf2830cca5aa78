use Rattle.std.proofs.Common.{refl, ◌∙◌}
use Rattle.net_worker.proofs.Asking.{asked_made, puts_asked_self, takes_asked_trans}
use Rattle.net_worker.proofs.Glancing.{asked_looked, looked_trans, puts_looked_self, handed_takes}
use Rattle.net_worker.proofs.Looks.{made_looks}
use Rattle.net_worker.proofs.worker.Worker.look_at.Goals as goal

pub returns-then-held_in-gt0-clause-made : goal.returns-then-held_in-gt0-clause-made
returns-then-held_in-gt0-clause-made c =
    asked_made c.args.tables.now c.args.self.now _ c.requires.made
    (record { number = refl; share = refl; log = refl; clock = refl; portion = refl; outs = refl; ins = refl; closed = refl; resting = refl; waits = λ _ h. h; puts = puts_asked_self c.args.self.now.puts.items; takes = c.flush_at.ensures.asked })

pub returns-then-held_in-gt0-clause-looked : goal.returns-then-held_in-gt0-clause-looked
returns-then-held_in-gt0-clause-looked c =
    asked_looked c.args.self.now _
    (record { number = refl; share = refl; log = refl; clock = refl; portion = refl; outs = refl; ins = refl; closed = refl; resting = refl; waits = λ _ h. h; puts = puts_asked_self c.args.self.now.puts.items; takes = c.flush_at.ensures.asked })

pub returns-in_default-clause-made : goal.returns-in_default-clause-made
returns-in_default-clause-made c =
    asked_made c.args.tables.now c.args.self.now _ c.requires.made
    (record {
      number = refl;
      share = refl;
      log = refl;
      clock = refl;
      portion = refl;
      outs = refl;
      ins = refl;
      closed = refl;
      resting = refl;
      waits = λ _ h. h;
      puts = puts_asked_self c.args.self.now.puts.items;
      takes = takes_asked_trans c.args.self.now.takes.items c.flush_at.new.takes.items c.peek_at.new.takes.items c.flush_at.ensures.asked c.in_default.ensures.none;
    })

pub returns-in_default-clause-looked : goal.returns-in_default-clause-looked
returns-in_default-clause-looked c =
    asked_looked c.args.self.now _
    (record {
      number = refl;
      share = refl;
      log = refl;
      clock = refl;
      portion = refl;
      outs = refl;
      ins = refl;
      closed = refl;
      resting = refl;
      waits = λ _ h. h;
      puts = puts_asked_self c.args.self.now.puts.items;
      takes = takes_asked_trans c.args.self.now.takes.items c.flush_at.new.takes.items c.peek_at.new.takes.items c.flush_at.ensures.asked c.in_default.ensures.none;
    })

pub returns-clause-made : goal.returns-clause-made
returns-clause-made c =
    let t = c.args.tables.now in
    let mid = record c.args.self.now { takes = c.flush_at.new.takes; take_places = c.flush_at.ensures.chans ∙ c.args.self.now.take_places } in
    let h = c.in-Some.ensures.some in
    made_looks t mid _ c.args.chan h.before h.after c.in-Some.token
    (asked_made t c.args.self.now mid c.requires.made (record { number = refl; share = refl; log = refl; clock = refl; portion = refl; outs = refl; ins = refl; closed = refl; resting = refl; waits = λ _ h. h; puts = puts_asked_self c.args.self.now.puts.items; takes = c.flush_at.ensures.asked }))
    (record {
      into = c.requires.into;
      old = h.was;
      none = h.none;
      taken = h.taken;
      held = h.held;
      same = h.same;
      credits = h.credits;
      takes = h.is;
      number = refl;
      share = refl;
      log = refl;
      clock = refl;
      puts = refl;
      outs = refl;
      ins = refl;
      closed = refl;
      resting = refl;
      of = c.put_in.ensures.of;
      here = c.put_in.ensures.same;
      state = c.put_in.ensures.state;
    })

pub returns-clause-looked : goal.returns-clause-looked
returns-clause-looked c =
    let mid = record c.args.self.now { takes = c.flush_at.new.takes; take_places = c.flush_at.ensures.chans ∙ c.args.self.now.take_places } in
    looked_trans c.args.self.now mid _
    (asked_looked c.args.self.now mid (record { number = refl; share = refl; log = refl; clock = refl; portion = refl; outs = refl; ins = refl; closed = refl; resting = refl; waits = λ _ h. h; puts = puts_asked_self c.args.self.now.puts.items; takes = c.flush_at.ensures.asked }))
    (record {
      number = refl;
      share = refl;
      log = refl;
      clock = refl;
      outs = refl;
      ins = refl;
      closed = refl;
      puts = puts_looked_self c.args.self.now.puts.items;
      takes = handed_takes c.args.chan c.in-Some.token c.flush_at.new.takes.items c.peek_at.new.takes.items c.in-Some.ensures.some;
    })
