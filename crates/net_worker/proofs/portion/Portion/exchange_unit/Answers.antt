use Rattle.net_worker.proofs.PortionLemmas.{unit_here}
use Rattle.net_worker.proofs.PortionMoves.{given_unit, held_unit, held_unit_of, keeps_it, serial_below, shaped_as}
use Rattle.net_worker.proofs.portion.Portion.exchange_unit.Goals as goal

pub exchange_cell-requires-clause-keeps : goal.exchange_cell-requires-clause-keeps
exchange_cell-requires-clause-keeps c =
    keeps_it c.self.inside c.self.invariant c.args.self.now c.self.view_is c.args.net.now c.requires.of c.args.unit c.index-place.result.now c.index_mut.result.now
    (unit_here c.self.inside c.self.invariant c.args.self.now c.self.view_is _ c.args.unit c.index-place.result.now c.deref.ensures c.index-place.ensures c.requires.here) c.index_mut.ensures.value

pub exchange_cell-requires-clause-shape : goal.exchange_cell-requires-clause-shape
exchange_cell-requires-clause-shape c =
    shaped_as c.self.inside c.self.invariant c.args.self.now c.self.view_is c.args.net.now c.requires.of c.args.unit c.index-place.result.now c.index_mut.result.now
    (unit_here c.self.inside c.self.invariant c.args.self.now c.self.view_is _ c.args.unit c.index-place.result.now c.deref.ensures c.index-place.ensures c.requires.here) c.index_mut.ensures.value

pub exchange_cell-requires-clause-serial : goal.exchange_cell-requires-clause-serial
exchange_cell-requires-clause-serial c =
    serial_below c.self.inside c.self.invariant c.args.self.now c.self.view_is c.args.net.now c.requires.of c.args.unit c.index-place.result.now c.index_mut.result.now
    (unit_here c.self.inside c.self.invariant c.args.self.now c.self.view_is _ c.args.unit c.index-place.result.now c.deref.ensures c.index-place.ensures c.requires.here) c.index_mut.ensures.value

pub returns-clause-of : goal.returns-clause-of
returns-clause-of c =
    held_unit_of c.self.inside c.self.invariant c.args.self.now c.self.view_is c.args.net.now c.requires.of c.args.unit c.index-place.result.now c.index_mut.result.now
    (unit_here c.self.inside c.self.invariant c.args.self.now c.self.view_is _ c.args.unit c.index-place.result.now c.deref.ensures c.index-place.ensures c.requires.here) c.index_mut.ensures.value
    c.args.into.now c.requires.of_state c.requires.within c.exchange_cell.new.other c.exchange_cell.ensures.other

pub returns-clause-state : goal.returns-clause-state
returns-clause-state c =
    given_unit c.self.inside c.self.invariant c.args.self.now c.self.view_is c.args.net.now c.requires.of c.args.unit c.index-place.result.now c.index_mut.result.now
    (unit_here c.self.inside c.self.invariant c.args.self.now c.self.view_is _ c.args.unit c.index-place.result.now c.deref.ensures c.index-place.ensures c.requires.here) c.index_mut.ensures.value
    c.args.into.now c.exchange_cell.new.self c.requires.of_state c.requires.within c.exchange_cell.ensures.rest c.exchange_cell.ensures.cells

pub returns-clause-held : goal.returns-clause-held
returns-clause-held c =
    held_unit c.self.inside c.self.invariant c.args.self.now c.self.view_is c.args.net.now c.requires.of c.args.unit c.index-place.result.now c.index_mut.result.now
    (unit_here c.self.inside c.self.invariant c.args.self.now c.self.view_is _ c.args.unit c.index-place.result.now c.deref.ensures c.index-place.ensures c.requires.here) c.index_mut.ensures.value
    c.args.into.now c.requires.of_state c.requires.within c.exchange_cell.new.other c.exchange_cell.ensures.other
