use Rattle.std.proofs.Common.{◌≡◌, ◌^◌, ◌≤◌, take}
use Rattle.el_base.specs.Digits.{capped_value}
use Rattle.el_base.proofs.digits.capped_value.Given as goal

abbrev pub invariant-loop-digit : goal.invariant-loop-digit
invariant-loop-digit l = record {
  bound : l.value ≤ 2 ^ 100;
  worth : l.value ≡ capped_value (take l.digit-index l.digits);
}
