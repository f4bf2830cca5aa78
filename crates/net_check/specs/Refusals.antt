-- Refusals of nets: the first rule that a net breaks, and a refusal's number, word and place.
use Rattle.std.specs.Prelude.{◌≡◌, ℕ, ◌+◌, ◌==◌, cond, Option, Some, None, List, ◌∷◌, ◌++◌, codes}
use Rattle.std.specs.List.{All}
use Rattle.net_types.specs.declared.net.Net.{Net}
use Rattle.net_check.specs.declared.refusal.At.{At}
use Rattle.net_check.specs.declared.refusal.NetRefusal.{NetRefusal}
use Rattle.net_check.specs.declared.refusal.NetRefusal.TheVariants.{Rule, Memory}
use Rattle.net_check.specs.Keeps.{Keeps, Culprit, rules_in_order}

-- the net keeps all rules that are tried before the rule i, breaks this one, and this is what it names
pub record IsFirstBroken (net : Net) (i : ℕ) (x : At) : Type 0 where
  pub earlier : List ℕ
  pub later : List ℕ
  pub tried : rules_in_order ≡ earlier ++ i ∷ later
  pub kept : All (Keeps net) earlier
  pub broken : Keeps net i → ⊥
  pub culprit : Culprit net x i

-- the number is that of a rule, 30 for C1 to 37 for C8, and this is the first that the net breaks
pub record IsRuleRefusal (net : Net) (number : ℕ) (x : At) : Type 0 where
  pub rule : ℕ
  pub numbered : number ≡ 29 + rule
  pub first : IsFirstBroken net rule x

-- the cause of a refusal; want of memory has none in the net
abbrev pub RefusalHolds : Net → NetRefusal → Type 0
RefusalHolds net (Rule number x) = IsRuleRefusal net number x
RefusalHolds net Memory = Unit {0}

-- the printed number; none for want of memory alone
abbrev pub refusal_number : NetRefusal → Option ℕ
refusal_number (Rule number x) = Some number
refusal_number Memory = None

-- the printed word of the rule of this number, 30 to 37
abbrev pub rule_word : ℕ → List ℕ
rule_word n =
    cond (n == 30) (codes "C1")
    (cond (n == 31) (codes "C2")
    (cond (n == 32) (codes "C3")
    (cond (n == 33) (codes "C4")
    (cond (n == 34) (codes "C5")
    (cond (n == 35) (codes "C6")
    (cond (n == 36) (codes "C7")
    (cond (n == 37) (codes "C8") (codes "Rule"))))))))

abbrev pub refusal_word : NetRefusal → List ℕ
refusal_word (Rule number x) = rule_word number
refusal_word Memory = codes "Memory"

-- what the rule names
abbrev pub refusal_at : NetRefusal → Option At
refusal_at (Rule number x) = Some x
refusal_at Memory = None
