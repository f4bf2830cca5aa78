use Rattle.std.proofs.Common.{◌∙◌, ◌≡◌, ap, subst, sym, true}
use Rattle.net_core.specs.Held.{laid_on}
use Rattle.net_core.specs.Plans.{admits, chans_of}
use Rattle.net_worker.proofs.Here.{here_trans, unit_on}
use Rattle.net_worker.proofs.PortionLemmas.{unit_here}
use Rattle.net_worker.proofs.PortionMoves.{cell_was, first_room, laid_here, laid_kept, made_counts, made_of, made_state, rest_again, room_kept, serial_was, taken_here}
use Rattle.net_worker.proofs.portion.Portion.make_moves.Goals as goal
use Rattle.net_core.specs.declared.plan.Moves.{Moves}

pub take_all-requires-clause-here : goal.take_all-requires-clause-here
take_all-requires-clause-here c = taken_here c.args.net.now c.args.self.now.state c.args.firing c.args.plan c.args.moves c.requires.of c.requires.effect c.requires.moves c.args.self.now c.requires.here

pub lay-requires-clause-here : goal.lay-requires-clause-here
lay-requires-clause-here c =
    laid_kept c.args.self.now c.take_all.new.self c.args.moves.laid c.take_all.ensures.same
    (laid_here c.args.net.now c.args.self.now c.args.firing.unit c.args.plan.put c.args.moves.laid c.requires.here (ap (λ (m : Moves). m.laid) c.requires.moves) c.requires.room)

pub lay-requires-clause-room : goal.lay-requires-clause-room
lay-requires-clause-room c =
    room_kept c.args.self.now.state.tokens c.take_all.new.self.state.tokens (chans_of c.args.moves.taken) c.args.moves.laid c.take_all.ensures.tokens c.take_all.ensures.rest.slots
    (first_room c.args.net.now c.args.self.now.state c.args.firing c.args.plan c.args.moves c.requires.of c.requires.effect c.requires.moves c.requires.room)

pub change-stray-requires-clause-admits : goal.change-stray-requires-clause-admits
change-stray-requires-clause-admits c =
    subst (λ q. admits q c.args.plan.change ≡ true) (sym (cell_was c.args.net.now c.args.self.now.state c.args.firing c.args.plan c.args.moves c.requires.of c.requires.effect c.requires.moves
    c.self.inside c.self.invariant c.lay.new.self c.self.view_is (rest_again c.take_all.ensures.rest c.lay.ensures.rest) (c.lay.ensures.tokens ∙ ap (laid_on c.args.moves.laid) c.take_all.ensures.tokens)
    c.index-place.result.now c.index_mut.result.now
    (unit_here c.self.inside c.self.invariant c.lay.new.self c.self.view_is _ c.args.firing.unit c.index-place.result.now c.deref.ensures c.index-place.ensures
    (unit_on c.args.self.now c.lay.new.self c.args.firing.unit (here_trans c.args.self.now c.take_all.new.self c.lay.new.self c.take_all.ensures.same c.lay.ensures.same) c.requires.here.unit)) c.index_mut.ensures.value)) c.requires.admits

pub change-stray-requires-clause-serial : goal.change-stray-requires-clause-serial
change-stray-requires-clause-serial c =
    serial_was c.args.net.now c.args.self.now.state c.args.firing c.args.plan c.args.moves c.requires.of c.requires.effect c.requires.moves
    c.self.inside c.self.invariant c.lay.new.self c.self.view_is (rest_again c.take_all.ensures.rest c.lay.ensures.rest) (c.lay.ensures.tokens ∙ ap (laid_on c.args.moves.laid) c.take_all.ensures.tokens)
    c.index-place.result.now c.index_mut.result.now
    (unit_here c.self.inside c.self.invariant c.lay.new.self c.self.view_is _ c.args.firing.unit c.index-place.result.now c.deref.ensures c.index-place.ensures
    (unit_on c.args.self.now c.lay.new.self c.args.firing.unit (here_trans c.args.self.now c.take_all.new.self c.lay.new.self c.take_all.ensures.same c.lay.ensures.same) c.requires.here.unit)) c.index_mut.ensures.value c.requires.counts

pub returns-clause-of : goal.returns-clause-of
returns-clause-of c =
    made_of c.args.net.now c.args.self.now.state c.args.firing c.args.plan c.args.moves c.requires.of c.requires.effect c.requires.moves
    c.self.inside c.self.invariant c.lay.new.self c.self.view_is (rest_again c.take_all.ensures.rest c.lay.ensures.rest) (c.lay.ensures.tokens ∙ ap (laid_on c.args.moves.laid) c.take_all.ensures.tokens)
    c.index-place.result.now c.index_mut.result.now
    (unit_here c.self.inside c.self.invariant c.lay.new.self c.self.view_is _ c.args.firing.unit c.index-place.result.now c.deref.ensures c.index-place.ensures
    (unit_on c.args.self.now c.lay.new.self c.args.firing.unit (here_trans c.args.self.now c.take_all.new.self c.lay.new.self c.take_all.ensures.same c.lay.ensures.same) c.requires.here.unit)) c.index_mut.ensures.value
    c.requires.apart c.requires.admits c.change-stray.new.self c.change-stray.ensures.cell _ c.change-stray.ensures.stray c.count_strays.new.strays c.count_strays.ensures c.net.ensures.checked c.requires.counts

pub returns-clause-state : goal.returns-clause-state
returns-clause-state c =
    made_state c.args.net.now c.args.self.now.state c.args.firing c.args.plan c.args.moves c.requires.of c.requires.effect c.requires.moves
    c.self.inside c.self.invariant c.lay.new.self c.self.view_is (rest_again c.take_all.ensures.rest c.lay.ensures.rest) (c.lay.ensures.tokens ∙ ap (laid_on c.args.moves.laid) c.take_all.ensures.tokens)
    c.index-place.result.now c.index_mut.result.now
    (unit_here c.self.inside c.self.invariant c.lay.new.self c.self.view_is _ c.args.firing.unit c.index-place.result.now c.deref.ensures c.index-place.ensures
    (unit_on c.args.self.now c.lay.new.self c.args.firing.unit (here_trans c.args.self.now c.take_all.new.self c.lay.new.self c.take_all.ensures.same c.lay.ensures.same) c.requires.here.unit)) c.index_mut.ensures.value
    c.requires.apart c.requires.admits c.change-stray.new.self c.change-stray.ensures.cell _ c.change-stray.ensures.stray c.count_strays.new.strays c.count_strays.ensures

pub returns-clause-counts : goal.returns-clause-counts
returns-clause-counts c =
    made_counts c.args.net.now c.args.self.now.state c.args.firing c.args.plan c.args.moves c.requires.of c.requires.effect c.requires.moves
    c.self.inside c.self.invariant c.lay.new.self c.self.view_is (rest_again c.take_all.ensures.rest c.lay.ensures.rest) (c.lay.ensures.tokens ∙ ap (laid_on c.args.moves.laid) c.take_all.ensures.tokens)
    c.index-place.result.now c.index_mut.result.now
    (unit_here c.self.inside c.self.invariant c.lay.new.self c.self.view_is _ c.args.firing.unit c.index-place.result.now c.deref.ensures c.index-place.ensures
    (unit_on c.args.self.now c.lay.new.self c.args.firing.unit (here_trans c.args.self.now c.take_all.new.self c.lay.new.self c.take_all.ensures.same c.lay.ensures.same) c.requires.here.unit)) c.index_mut.ensures.value
    c.requires.apart c.requires.admits c.change-stray.new.self c.change-stray.ensures.cell _ c.change-stray.ensures.stray c.count_strays.new.strays c.count_strays.ensures c.net.ensures.checked
