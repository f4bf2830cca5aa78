use Rattle.std.proofs.Common.{◌∙◌, ap, subst, length, arith}
use Rattle.net_core.specs.States.{state_of}
use Rattle.net_core.specs.Finds.{IsQuiet, IsLeastAct}
use Rattle.net_core.proofs.FindLemmas.{least_from, quiet_next, quiet_from}
use Rattle.net_core.proofs.state.State.find_from.Goals as goal

pub returns-in-Some : goal.returns-in-Some
returns-in-Some c =
    least_from c.args.net.now (state_of c.args.self.now) c.args.place c.loop-at.at c.in-Some.act c.loop-at.invariant.from c.loop-at.invariant.quiet
    (subst (λ a. IsLeastAct c.args.net.now (state_of c.args.self.now) c.loop-at.at a c.in-Some.act) c.act_from.ensures c.in-Some.ensures)

pub loop-at-preserved : goal.loop-at-preserved
loop-at-preserved c = record {
  from = omega arith;
  quiet = quiet_next c.args.net.now (state_of c.args.self.now) c.args.place c.loop-at.at c.loop-at.invariant.quiet
      (subst (λ a. IsQuiet c.args.net.now (state_of c.args.self.now) c.loop-at.at a) c.act_from.ensures c.in_default.ensures);
}

pub returns : goal.returns
returns c =
    let l = ap length (c.as_slice-count.ensures ∙ ap (λ n. n.units) c.net.ensures.net) in
    quiet_from c.args.net.now (state_of c.args.self.now) c.args.place c.loop-at.at c.net.ensures.checked c.requires.long (omega arith) c.loop-at.invariant.quiet
