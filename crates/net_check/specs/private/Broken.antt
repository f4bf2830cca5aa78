-- Private: only contracts of this crate cite it. What a rule's refusal says.
use Rattle.std.specs.Prelude.{◌≡◌, ◌+◌, Option, Some, None}
use Rattle.net_check.specs.declared.refusal.At.{At}
use Rattle.net_check.specs.declared.refusal.Rule.{Rule as RuleName}
use Rattle.net_check.specs.declared.refusal.NetRefusal.{NetRefusal}
use Rattle.net_check.specs.declared.refusal.NetRefusal.TheVariants.{Rule}
use Rattle.net_check.specs.private.Rules.{rule_number}

-- the refusal is by the rule, and names what was found
abbrev pub IsRefusalBy : RuleName → Option At → NetRefusal → Type 0
IsRefusalBy rule None e = ⊥
IsRefusalBy rule (Some x) e = e ≡ Rule (29 + rule_number rule) x
