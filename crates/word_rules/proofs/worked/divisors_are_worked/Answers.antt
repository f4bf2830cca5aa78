use Rattle.word_rules.proofs.WorkedNumbers.{three, seven, signed_seven, four}
use Rattle.word_rules.proofs.worked.divisors_are_worked.Goals as goal

pub returns : goal.returns
returns c = record { three = three; seven = seven; signed_seven = signed_seven; four = four }
