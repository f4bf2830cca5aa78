use Rattle.std.proofs.Common.{ap}
use Rattle.net_core.specs.Held.{Lane}
use Rattle.net_worker.proofs.PortionLemmas.{in_here, lane_changed, rest_changed, taken_state}
use Rattle.net_worker.proofs.portion.Portion.take_in.Goals as goal

pub returns-clause-of : goal.returns-clause-of
returns-clause-of c =
    lane_changed c.self.inside c.self.invariant c.args.self.now c.self.view_is c.args.net.now c.args.chan c.index-place.result.now c.index_mut.result.now c.take.new.self c.requires.of
    (in_here c.self.inside c.self.invariant c.args.self.now c.self.view_is _ c.args.chan c.index-place.result.now c.deref.ensures c.index-place.ensures c.requires.here) c.index_mut.ensures.value (ap (λ (l : Lane). l.slots) c.take.ensures)

pub returns-clause-state : goal.returns-clause-state
returns-clause-state c =
    taken_state c.self.inside c.self.invariant c.args.self.now c.self.view_is c.args.chan c.index-place.result.now c.index_mut.result.now c.take.new.self
    (in_here c.self.inside c.self.invariant c.args.self.now c.self.view_is _ c.args.chan c.index-place.result.now c.deref.ensures c.index-place.ensures c.requires.here) c.index_mut.ensures.value c.take.ensures

pub returns-clause-rest : goal.returns-clause-rest
returns-clause-rest c =
    rest_changed c.self.inside c.self.invariant c.args.self.now c.self.view_is c.args.net.now c.args.chan c.index-place.result.now c.index_mut.result.now c.take.new.self c.requires.of
    (in_here c.self.inside c.self.invariant c.args.self.now c.self.view_is _ c.args.chan c.index-place.result.now c.deref.ensures c.index-place.ensures c.requires.here) c.index_mut.ensures.value (ap (λ (l : Lane). l.slots) c.take.ensures)
