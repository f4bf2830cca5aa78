use Rattle.std.proofs.Common.{length}
use Rattle.command_words.proofs.reading.+seed_of.Given as goal

abbrev pub decreases-seed_of : goal.decreases-seed_of
decreases-seed_of l = length l.kinds.now
