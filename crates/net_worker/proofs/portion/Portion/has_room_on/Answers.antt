use Rattle.net_worker.proofs.PortionLemmas.{channel_within, out_here, outs_within, room_read}
use Rattle.net_worker.proofs.portion.Portion.has_room_on.Goals as goal

pub index-requires : goal.index-requires
index-requires c =
    channel_within c.self.inside c.self.invariant c.args.self.now c.self.view_is _
    (out_here c.self.inside c.self.invariant c.args.self.now c.self.view_is _ c.args.chan c.index-place.result.now c.deref-then-chan-len.ensures c.index-place.ensures
    (c.requires.here (outs_within c.self.inside c.self.invariant c.args.self.now c.self.view_is c.args.net.now _ c.args.chan c.len.result c.requires.of c.deref.ensures c.len.ensures c.if-chan-len.true)))

pub returns-then-chan-len : goal.returns-then-chan-len
returns-then-chan-len c =
    room_read c.self.inside c.self.invariant c.args.self.now c.self.view_is c.args.net.now c.args.chan c.index-place.result.now c.index.result.now c.has_room.result c.requires.of
    (out_here c.self.inside c.self.invariant c.args.self.now c.self.view_is _ c.args.chan c.index-place.result.now c.deref-then-chan-len.ensures c.index-place.ensures
    (c.requires.here (outs_within c.self.inside c.self.invariant c.args.self.now c.self.view_is c.args.net.now _ c.args.chan c.len.result c.requires.of c.deref.ensures c.len.ensures c.if-chan-len.true)))
    c.index.ensures c.has_room.ensures
