use Rattle.std.proofs.Common.{refl}
use Rattle.net_worker.proofs.Asking.{asked_made, puts_asked_self, takes_asked_self}
use Rattle.net_worker.proofs.Firing.{fired_made, goes_asked, goes_again}
use Rattle.net_worker.proofs.worker.Worker.try_act.Goals as goal

pub look_again-requires : goal.look_again-requires
look_again-requires c = record {
  made = asked_made c.args.tables.now c.fire.new.self _ (fired_made c.args.tables.now c.args.self.now c.fire.new.self c.args.firing c.requires.made c.requires.whole c.in-Some.ensures.fired)
      (record { number = refl; share = refl; log = refl; clock = refl; portion = refl; outs = refl; ins = refl; closed = refl; resting = refl; waits = λ _ h. h; puts = puts_asked_self c.fire.new.self.puts.items; takes = takes_asked_self c.fire.new.self.takes.items });
}

pub returns-in_default-clause-made : goal.returns-in_default-clause-made
returns-in_default-clause-made c = asked_made c.args.tables.now c.args.self.now c.fire.new.self c.requires.made c.in_default.ensures.held.asked

pub returns-in_default-clause-later : goal.returns-in_default-clause-later
returns-in_default-clause-later c = goes_asked c.args.tables.now c.args.self.now c.fire.new.self c.requires.made c.in_default.ensures.held.asked

pub returns-clause-later : goal.returns-clause-later
returns-clause-later c =
    goes_again c.args.tables.now c.args.self.now c.fire.new.self _ c.look_again.new.self c.args.firing c.look_again.ensures.looked c.look_again.ensures.made c.requires.made c.requires.whole c.in-Some.ensures.fired
    (record { number = refl; share = refl; log = refl; clock = refl; portion = refl; outs = refl; ins = refl; closed = refl; resting = refl; waits = λ _ h. h; puts = puts_asked_self c.fire.new.self.puts.items; takes = takes_asked_self c.fire.new.self.takes.items })
