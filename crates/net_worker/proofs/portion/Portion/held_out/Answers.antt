use Rattle.std.proofs.Common.{length, ap, ◌∙◌}
use Rattle.net_worker.proofs.PortionLemmas.{out_here, tokens_read}
use Rattle.net_worker.proofs.portion.Portion.held_out.Goals as goal

pub returns : goal.returns
returns c =
    c.held.ensures ∙ ap length (tokens_read c.self.inside c.self.invariant c.args.self.now c.self.view_is c.args.chan c.index-place.result.now c.index.result.now
    (out_here c.self.inside c.self.invariant c.args.self.now c.self.view_is _ c.args.chan c.index-place.result.now c.deref.ensures c.index-place.ensures c.requires.here) c.index.ensures)
