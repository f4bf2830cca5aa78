use Rattle.std.proofs.Common.{◌≡◌, ap}
use Rattle.cycle_engine.specs.declared.engine.Engine.{Engine}
use Rattle.cycle_engine.specs.Cycles.{after_in}
use Rattle.net_core.specs.States.{state_of}
use Rattle.cycle_engine.specs.private.Fed.{IsFedBy}
use Rattle.cycle_engine.specs.private.Trials.{dated_of, IsEngine}
use Rattle.cycle_engine.proofs.FedLemmas.{fed_by}
use Rattle.cycle_engine.proofs.MakeLemmas.{moves_within, laid_within, dates_made, made_is, made_engine, on_ok}
use Rattle.cycle_engine.proofs.engine.Engine.make.Goals as goal

pub note-requires-clause-within : goal.note-requires-clause-within
note-requires-clause-within c = moves_within c.args.net.now c.args.self.now c.args.firing c.args.planned.plan c.args.planned.moves c.requires.planned.moves c.requires.engine c.requires.planned.effect

pub note_put-requires-clause-within : goal.note_put-requires-clause-within
note_put-requires-clause-within c = laid_within c.args.net.now c.args.self.now c.args.firing c.args.planned.plan c.args.planned.moves c.requires.planned.moves c.requires.planned.room

pub tell-requires-clause-within : goal.tell-requires-clause-within
tell-requires-clause-within c = laid_within c.args.net.now c.args.self.now c.args.firing c.args.planned.plan c.args.planned.moves c.requires.planned.moves c.requires.planned.room

-- the engine after the firing
abbrev made : goal.After-tell → Engine
made c = record {
  state = c.make_dated.new.self;
  begun = c.args.self.now.begun;
  fired = c.push.new.self;
  used = c.stamp.new.self;
  made = c.args.self.now.made;
  log = c.note-2.new.log;
  marks = c.tell.new.marks;
  notes = c.tell.new.notes;
  feeds = c.args.self.now.feeds;
  freed = c.note.new.self;
  pending = c.args.self.now.pending;
  again = c.args.self.now.again;
  control = c.note_put.new.noted;
  fed = c.note_put.new.fed;
}

pub returns-clause-after : goal.returns-clause-after
returns-clause-after c =
    on_ok c.tell.result (dated_of (made c) ≡ after_in c.args.net.now c.args.now (dated_of c.args.self.now) c.args.firing) (made_is c.args.net.now c.args.now c.args.self.now (made c) c.args.firing c.args.planned.plan c.requires.planned.effect c.make_dated.ensures.state
    (dates_made c.args.net.now c.args.now c.args.self.now c.args.firing c.args.planned.plan c.args.planned.moves c.make_dated.new.self.tokens.dates c.requires.engine c.requires.planned.effect c.requires.planned.apart
    c.requires.planned.moves c.make_dated.ensures.dates))

pub returns-clause-engine : goal.returns-clause-engine
returns-clause-engine c =
    on_ok c.tell.result (IsEngine c.args.net.now (made c)) (made_engine c.args.net.now c.args.now c.args.self.now (made c) c.args.firing c.args.planned.plan c.requires.engine c.requires.planned.effect (made_is c.args.net.now c.args.now c.args.self.now (made c) c.args.firing c.args.planned.plan c.requires.planned.effect c.make_dated.ensures.state
    (dates_made c.args.net.now c.args.now c.args.self.now c.args.firing c.args.planned.plan c.args.planned.moves c.make_dated.new.self.tokens.dates c.requires.engine c.requires.planned.effect c.requires.planned.apart
    c.requires.planned.moves c.make_dated.ensures.dates)) c.make_dated.ensures.of)

pub returns-clause-fed : goal.returns-clause-fed
returns-clause-fed c =
    on_ok c.tell.result (IsFedBy c.args.net.now (state_of (made c).state) c.args.self.now.used.base.items c.args.firing c.args.at c.args.planned.moves.laid c.args.self.now.fed (made c).fed)
    (fed_by c.args.net.now (state_of (made c).state) c.args.self.now.used.base.items c.stamp.new.self.base.items c.args.firing c.args.at c.args.planned.moves.laid c.args.self.now.fed c.leave.new.self (made c).fed
    (ap (λ (v : _). v.items) c.stamp.ensures.base) c.leave.ensures c.note_put.ensures.kept c.note_put.ensures.marked)
