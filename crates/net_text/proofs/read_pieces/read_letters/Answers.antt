use Rattle.net_text.specs.Pieces.{port_letter}
use Rattle.net_text.proofs.Lists.{map_at}
use Rattle.net_text.proofs.read_pieces.read_letters.Goals as goal

pub returns-in-None : goal.returns-in-None
returns-in-None c = λ ps fits e. let at = map_at port_letter ps c.args.bytes.now c.loop-byte.byte-index e c.loop-byte-test.true in c.in-None.ensures at.0 tt at.1
