use Rattle.std.proofs.Common.{decimal}
use Rattle.el_base.specs.Limits.{IsNumbered}
use Rattle.net_text.proofs.ReadLemmas.{reads_by, reads_after}
use Rattle.net_text.proofs.read_pieces.number_after.Goals as goal

pub returns-in-Some : goal.returns-in-Some
returns-in-Some c = reads_after IsNumbered decimal c.args.word.now c.in-Some.number.now c.args.text.now c.read_u32.result c.in-Some.ensures
    (reads_by IsNumbered decimal c.in-Some.number.now c.read_u32.result c.read_u32.ensures.named c.read_u32.ensures.every)
