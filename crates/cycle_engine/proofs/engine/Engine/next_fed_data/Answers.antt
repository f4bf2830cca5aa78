use Rattle.std.proofs.Common.{ℕ, subst, refl, arith, inr}
use Rattle.net_types.specs.declared.firing.Act.TheVariants.{Data}
use Rattle.net_core.specs.States.{state_of}
use Rattle.cycle_engine.specs.private.Fed.{HasNoneFed, IsNextFed}
use Rattle.cycle_engine.proofs.FedLemmas.{fed_next, fed_none, fed_past}
use Rattle.cycle_engine.proofs.TokenLemmas.{joined, joined_none}
use Rattle.cycle_engine.proofs.engine.Engine.next_fed_data.Goals as goal

pub returns-then-port-ports : goal.returns-then-port-ports
returns-then-port-ports c =
    let e = c.args.self.now in
    let s = state_of e.state in
    let l = c.requires.ports in
    let m = c.if-port-ports.true in
    joined_none c.args.net.now s c.args.unit (Data 0) c.args.from c.in-Some.port
    (joined c.args.net.now s c.args.unit (Data 0) c.args.from c.loop-at.at c.in-Some.port c.loop-at.invariant c.in-Some.ensures)
    (fed_past c.args.net.now s e.used e.fed c.args.unit c.args.queue.now c.requires.view c.requires.unit c.requires.fed c.requires.numbers c.requires.many (Data 0) (inr refl) c.in-Some.port (omega arith))

pub returns-in_default-next : goal.returns-in_default-next
returns-in_default-next c =
    let e = c.args.self.now in
    let s = state_of e.state in
    let N : ℕ → Type 0 = λ x. HasNoneFed e.fed x c.in-Some.port c.args.ports in
    joined_none c.args.net.now s c.args.unit (Data 0) c.args.from c.in-Some.port
    (joined c.args.net.now s c.args.unit (Data 0) c.args.from c.loop-at.at c.in-Some.port c.loop-at.invariant c.in-Some.ensures)
    (fed_none c.args.net.now s e.used e.fed c.args.unit c.args.queue.now c.requires.view c.requires.unit c.requires.fed c.requires.numbers c.requires.many (Data 0) (inr refl) c.in-Some.port c.args.ports c.requires.ports
    (subst N c.first-first.ensures.first c.in_default-next.ensures))

pub loop-at-preserved : goal.loop-at-preserved
loop-at-preserved c =
    let e = c.args.self.now in
    let s = state_of e.state in
    let N : ℕ → Type 0 = λ x. IsNextFed e.fed x c.in-Some.port c.in-Some-next.next in
    joined c.args.net.now s c.args.unit (Data 0) c.args.from c.in-Some.port c.in-Some-next.next
    (joined c.args.net.now s c.args.unit (Data 0) c.args.from c.loop-at.at c.in-Some.port c.loop-at.invariant c.in-Some.ensures)
    (fed_next c.args.net.now s e.used e.fed c.args.unit c.args.queue.now c.requires.view c.requires.unit c.requires.fed c.requires.numbers c.requires.many (Data 0) (inr refl) c.in-Some.port c.in-Some-next.next
    (subst N c.first-first.ensures.first c.in-Some-next.ensures))

pub returns : goal.returns
returns c =
    let e = c.args.self.now in
    let s = state_of e.state in
    let l = c.requires.ports in
    let m = c.loop-at-test.false in
    joined_none c.args.net.now s c.args.unit (Data 0) c.args.from c.loop-at.at c.loop-at.invariant
    (fed_past c.args.net.now s e.used e.fed c.args.unit c.args.queue.now c.requires.view c.requires.unit c.requires.fed c.requires.numbers c.requires.many (Data 0) (inr refl) c.loop-at.at (omega arith))
