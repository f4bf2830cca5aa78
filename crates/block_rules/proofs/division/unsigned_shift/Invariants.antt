use Rattle.std.proofs.Common.{◌≡◌, ◌-◌}
use Rattle.std.specs.List.{find, range_with_len}
use Rattle.word_rules.specs.Amounts.{serves}
use Rattle.block_rules.proofs.division.unsigned_shift.Given as goal

abbrev pub invariant-loop-amount : goal.invariant-loop-amount
invariant-loop-amount l = find (serves l.top l.divisor) (range_with_len 32 32) ≡ find (serves l.top l.divisor) (range_with_len l.amount (64 - l.amount))
