use Rattle.net_text.specs.Reads.{PairFits, pair_text}
use Rattle.net_text.proofs.ReadLemmas.{reads_after}
use Rattle.net_text.proofs.read_pieces.pair_after.Goals as goal

pub returns-in-Some : goal.returns-in-Some
returns-in-Some c = reads_after PairFits (pair_text 32) c.args.word.now c.in-Some.pair.now c.args.text.now c.read_two.result c.in-Some.ensures c.read_two.ensures
