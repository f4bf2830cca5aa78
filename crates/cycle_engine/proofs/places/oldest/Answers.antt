use Rattle.std.proofs.Common.{◌∙◌, ap, sym, length, arith}
use Rattle.net_types.specs.declared.net.Net.{Net}
use Rattle.net_types.specs.declared.firing.Act.TheVariants.{Exec}
use Rattle.net_types.specs.Nets.{firing}
use Rattle.net_core.specs.States.{state_of}
use Rattle.cycle_engine.proofs.PlaceLemmas.{fires_within}
use Rattle.cycle_engine.proofs.ExecLemmas.{other_none, oldest_none, oldest_some}
use Rattle.cycle_engine.proofs.places.oldest.Goals as goal

pub returns-then-unit-as_slice : goal.returns-then-unit-as_slice
returns-then-unit-as_slice c j n =
    let l = fires_within c.args.net.now (state_of c.args.state.now) (firing c.args.unit (Exec j)) c.net.ensures.checked c.requires.long n in
    let same = ap length (c.as_slice.ensures ∙ ap (λ (n : Net). n.units) c.net.ensures.net) in
    omega (arith, l, same, c.if-unit-as_slice.true)

pub returns-in_default : goal.returns-in_default
returns-in_default c = other_none c.args.net.now (state_of c.args.state.now) c.args.unit c.in_default.ensures

pub returns-in-None : goal.returns-in-None
returns-in-None c = oldest_none c.args.net.now (state_of c.args.state.now) c.args.unit c.in-Some.ensures.array c.in-Some.queue.now c.in-Some.ensures.shape c.in-Some.ensures.state c.len.ensures.order c.len.ensures.ports (sym c.oldest.ensures ∙ c.in-None.is)

pub returns-in-Some-oldest : goal.returns-in-Some-oldest
returns-in-Some-oldest c = oldest_some c.args.net.now (state_of c.args.state.now) c.args.unit c.in-Some.ensures.array c.in-Some.queue.now c.in-Some.ensures.shape c.in-Some.ensures.state c.len.ensures.order c.len.ensures.ports c.in-Some-oldest.serial (sym c.oldest.ensures ∙ c.in-Some-oldest.is)
