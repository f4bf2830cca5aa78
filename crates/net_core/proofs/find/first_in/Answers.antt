use Rattle.std.proofs.Common.{arith}
use Rattle.net_core.specs.States.{state_of}
use Rattle.net_core.proofs.SearchLemmas.{none_next}
use Rattle.net_core.proofs.find.first_in.Goals as goal

pub returns-then-enabled : goal.returns-then-enabled
returns-then-enabled g c = record {
  number = c.loop-number.number;
  from = c.loop-number.invariant.from;
  within = omega arith;
  is = c.act-act.ensures;
  fires = c.enabled.ensures.0 c.if-enabled.true;
  before = c.loop-number.invariant.none;
}

pub loop-number-preserved : goal.loop-number-preserved
loop-number-preserved g c = record {
  from = omega arith;
  none = none_next c.args.net.now (state_of (g.S.Searched.stored c.args.state.now)) c.args.unit c.args.family c.args.numbers.start c.loop-number.number c.act-act.result c.enabled.result c.loop-number.invariant.none
      c.act-act.ensures c.enabled.ensures c.if-enabled.false;
}

pub returns : goal.returns
returns g c = λ j k l h. c.loop-number.invariant.none j k (omega arith) h
