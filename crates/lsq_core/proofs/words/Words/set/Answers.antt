use Rattle.std.proofs.Common.{◌/◌, slice_set, refl, ◌∙◌}
use Rattle.lsq_core.proofs.BitLemmas.{put_in, take_out}
use Rattle.lsq_core.proofs.words.Words.set.Goals as goal
use Rattle.lsq_core.proofs.words.Words.set.Goals.{then-within, else-within}

pub returns : goal.returns
returns c =
    elim c.if-within.branch [
      | then-within w ↦ put_in c.as_slice.result.now c.args.self.now (slice_set c.self.inside.words.items (c.args.at / 64) c.if-within.new) c.args.at c.if-within.new c.args.within (c.as_slice.ensures.value ∙ c.self.view_is) c.requires w.if-within.true w.new-is (rw (c.as_slice.ensures.value) refl)
      | else-within w ↦ take_out c.as_slice.result.now c.args.self.now (slice_set c.self.inside.words.items (c.args.at / 64) c.if-within.new) c.args.at c.if-within.new c.args.within (c.as_slice.ensures.value ∙ c.self.view_is) c.requires w.if-within.false w.new-is (rw (c.as_slice.ensures.value) refl)
    ]
