use Rattle.std.proofs.Common.{◌≡◌, [], length}
use Rattle.std.specs.List.{All}
use Rattle.net_check.proofs.cycles.no_targets.Given as goal

abbrev pub invariant-loop : goal.invariant-loop
invariant-loop l = record { len : length l.targets.items ≡ l.counter; none : All (λ list. list ≡ []) l.targets.items }
