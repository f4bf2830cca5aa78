-- Private: only contracts of this crate cite it. The rules, each with its number.
use Rattle.std.specs.Prelude.{ℕ}
use Rattle.net_check.specs.declared.refusal.Rule.{Rule}
use Rattle.net_check.specs.declared.refusal.Rule.TheVariants.{C1, C2, C3, C4, C5, C6, C7, C8}

abbrev pub rule_number : Rule → ℕ
rule_number C1 = 1
rule_number C2 = 2
rule_number C3 = 3
rule_number C4 = 4
rule_number C5 = 5
rule_number C6 = 6
rule_number C7 = 7
rule_number C8 = 8
