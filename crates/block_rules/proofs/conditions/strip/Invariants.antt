use Rattle.std.proofs.Common.{◌≡◌, ◌-◌}
use Rattle.block_rules.specs.Conditions.{peeled_times, stripped}
use Rattle.block_rules.proofs.conditions.strip.Given as goal

abbrev pub invariant-loop : goal.invariant-loop
invariant-loop l = peeled_times (8 - l.counter) l.args l.steps l.stripped ≡ stripped l.args l.steps l.condition
