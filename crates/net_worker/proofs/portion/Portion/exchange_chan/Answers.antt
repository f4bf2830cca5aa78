use Rattle.net_worker.proofs.PortionLemmas.{in_here, slots_read}
use Rattle.net_worker.proofs.PortionMoves.{given_chan, held_chan, held_chan_of}
use Rattle.net_worker.proofs.portion.Portion.exchange_chan.Goals as goal

pub exchange_channel-requires-clause-slots : goal.exchange_channel-requires-clause-slots
exchange_channel-requires-clause-slots c =
    slots_read c.self.inside c.self.invariant c.args.self.now c.self.view_is c.args.net.now c.args.chan c.index-place.result.now c.index_mut.result.now c.requires.of
    (in_here c.self.inside c.self.invariant c.args.self.now c.self.view_is _ c.args.chan c.index-place.result.now c.deref.ensures c.index-place.ensures c.requires.here) c.index_mut.ensures.value

pub returns-clause-of : goal.returns-clause-of
returns-clause-of c =
    held_chan_of c.self.inside c.self.invariant c.args.self.now c.self.view_is c.args.net.now c.requires.of c.args.chan c.index-place.result.now c.index_mut.result.now
    (in_here c.self.inside c.self.invariant c.args.self.now c.self.view_is _ c.args.chan c.index-place.result.now c.deref.ensures c.index-place.ensures c.requires.here) c.index_mut.ensures.value c.args.into.now
    c.exchange_channel.new.other _ c.exchange_channel.ensures.other

pub returns-clause-state : goal.returns-clause-state
returns-clause-state c =
    given_chan c.self.inside c.self.invariant c.args.self.now c.self.view_is c.args.net.now c.requires.of c.args.chan c.index-place.result.now c.index_mut.result.now
    (in_here c.self.inside c.self.invariant c.args.self.now c.self.view_is _ c.args.chan c.index-place.result.now c.deref.ensures c.index-place.ensures c.requires.here) c.index_mut.ensures.value c.args.into.now
    c.exchange_channel.new.self c.exchange_channel.ensures.rest c.exchange_channel.ensures.tokens

pub returns-clause-held : goal.returns-clause-held
returns-clause-held c =
    held_chan c.self.inside c.self.invariant c.args.self.now c.self.view_is c.args.net.now c.requires.of c.args.chan c.index-place.result.now c.index_mut.result.now
    (in_here c.self.inside c.self.invariant c.args.self.now c.self.view_is _ c.args.chan c.index-place.result.now c.deref.ensures c.index-place.ensures c.requires.here) c.index_mut.ensures.value c.args.into.now
    c.exchange_channel.new.other _ c.exchange_channel.ensures.other
