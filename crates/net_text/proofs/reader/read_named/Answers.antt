use Rattle.net_text.specs.Fits.{NameFits}
use Rattle.net_text.specs.Reads.{kernel_text}
use Rattle.net_text.proofs.ReadLemmas.{none_read}
use Rattle.net_text.proofs.Texts.{says_no_second, says_second}
use Rattle.net_text.proofs.reader.read_named.Goals as goal

pub returns-in_default : goal.returns-in_default
returns-in_default c = says_no_second c.args.version c.args.text.now c.in_default.ensures

pub returns-in_default-2 : goal.returns-in_default-2
returns-in_default-2 c = says_second c.args.version c.args.text.now c.in-Some.kernel.now c.in-Some.body.now c.in-Some.ensures.0 c.in-Some.ensures.1
    (none_read NameFits kernel_text c.in-Some.kernel.now c.in_ok-name.field-0 c.in_default-2.is c.in_ok-name.ensures)
