use Rattle.net_text.proofs.Counts.{numbered}
use Rattle.net_text.proofs.Only.{only_answer}
use Rattle.net_text.proofs.reader.read.Goals as goal

pub returns : goal.returns
returns c = record {
  says = c.read_text.ensures;
  only = only_answer c.args.bytes.now c.read_text.result c.read_text.ensures;
  numbered = numbered c.args.bytes.now c.read_text.result c.read_text.ensures c.requires;
}
