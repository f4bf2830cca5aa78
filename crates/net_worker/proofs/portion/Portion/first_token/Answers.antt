use Rattle.std.proofs.Common.{◌∙◌, ap}
use Rattle.net_core.specs.Fire.{first}
use Rattle.net_worker.proofs.PortionLemmas.{channel_within, in_here, ins_within, tokens_read}
use Rattle.net_worker.proofs.portion.Portion.first_token.Goals as goal

pub index-requires : goal.index-requires
index-requires c =
    channel_within c.self.inside c.self.invariant c.args.self.now c.self.view_is _
    (in_here c.self.inside c.self.invariant c.args.self.now c.self.view_is _ c.args.chan c.index-place.result.now c.deref-then-chan-len.ensures c.index-place.ensures
    (c.requires (ins_within c.self.inside c.self.invariant c.args.self.now c.self.view_is _ c.args.chan c.len.result c.deref.ensures c.len.ensures c.if-chan-len.true)))

pub returns-then-chan-len : goal.returns-then-chan-len
returns-then-chan-len c =
    c.head.ensures ∙ ap first (tokens_read c.self.inside c.self.invariant c.args.self.now c.self.view_is c.args.chan c.index-place.result.now c.index.result.now
    (in_here c.self.inside c.self.invariant c.args.self.now c.self.view_is _ c.args.chan c.index-place.result.now c.deref-then-chan-len.ensures c.index-place.ensures
    (c.requires (ins_within c.self.inside c.self.invariant c.args.self.now c.self.view_is _ c.args.chan c.len.result c.deref.ensures c.len.ensures c.if-chan-len.true)))
    c.index.ensures)
