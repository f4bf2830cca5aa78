use Rattle.el_base.specs.Names.{op2_name}
use Rattle.net_text.specs.Fits.{Always}
use Rattle.net_text.proofs.ReadLemmas.{reads_named, reads_after}
use Rattle.net_text.proofs.read_units.op2_after.Goals as goal

pub returns : goal.returns
returns c = reads_after Always op2_name c.args.word.now c.in_ok-after.field-0.now c.args.text.now c.of_name.result c.in_ok-after.ensures
    (reads_named op2_name c.in_ok-after.field-0.now c.of_name.result c.of_name.ensures.named c.of_name.ensures.every)
