use Rattle.net_text.proofs.Texts.{says_no_first, says_first}
use Rattle.net_text.proofs.reader.read_text.Goals as goal

pub returns-in_default : goal.returns-in_default
returns-in_default c = says_no_first c.args.bytes.now c.in_default.ensures

pub returns-in_default-read_version : goal.returns-in_default-read_version
returns-in_default-read_version c = says_first c.args.bytes.now c.in-Some.first.now c.in-Some.rest.now c.in-Some.ensures.0 c.in-Some.ensures.1 c.in_default-read_version.ensures
