-- Laws of the rules: what all of them give, cycles and endless walks, and the one refusal of a net.
use Rattle.std.specs.Prelude.{◌≡◌, ◌↔◌, ℕ, List}
use Rattle.std.specs.List.{All}
use Rattle.net_types.specs.declared.net.Net.{Net}
use Rattle.net_types.specs.Numbered.{AreNumbered}
use Rattle.net_types.specs.Rules.{KeepsC1, KeepsC2}
use Rattle.net_check.specs.declared.refusal.At.{At}
use Rattle.net_check.specs.Cycles.{KeepsC4, IsClosedWalk, IsEndless}
use Rattle.net_check.specs.Keeps.{Keeps, rules_in_order}
use Rattle.net_check.specs.Refusals.{IsRuleRefusal}
use Rattle.net_check.specs.Checks.{IsChecked, EndsWithin}
use Rattle.net_check.specs.Headers.{KeepsC8}
use Rattle.net_check.specs.Shapes.{KeepsC7}
use Rattle.net_check.specs.Sizes.{KeepsC3}
use Rattle.net_check.specs.Controls.{KeepsC5}
use Rattle.net_check.specs.Ends.{KeepsC6}
use Rattle.net_check.specs.Retimed.{SamePlain}

-- a net of numbered units and channels that keeps the eight rules is a checked one
abbrev pub AllRulesCheck : Type 0
AllRulesCheck = (net : Net) → AreNumbered net → All (Keeps net) rules_in_order → IsChecked net

-- and a checked net keeps them
abbrev pub CheckedKeepsAll : Type 0
CheckedKeepsAll = (net : Net) → IsChecked net → All (Keeps net) rules_in_order

-- from each unit on a cycle of delay 0 one can walk backward without end
abbrev pub CyclesAreEndless : Type 0
CyclesAreEndless = (net : Net) (cs : List ℕ) → (w : IsClosedWalk net cs) → IsEndless net w.unit

-- and where one can walk backward without end, there is such a cycle
abbrev pub EndlessHasCycle : Type 0
EndlessHasCycle = (net : Net) (u : ℕ) → IsEndless net u → (cs : List ℕ) × IsClosedWalk net cs

-- the cycles and the endless walks are absent together
abbrev pub NoCycleIsNoneEndless : Type 0
NoCycleIsNoneEndless = (net : Net) → ((cs : List ℕ) → IsClosedWalk net cs → ⊥) ↔ ((u : ℕ) → IsEndless net u → ⊥)

-- a net has one refusal at most: one rule, which names one thing; and none where it keeps the rules
abbrev pub OneRefusal : Type 0
OneRefusal = (net : Net) (m n : ℕ) (x y : At) → IsRuleRefusal net m x → IsRuleRefusal net n y → (m ≡ n) × (x ≡ y)

abbrev pub CheckedIsNotRefused : Type 0
CheckedIsNotRefused = (net : Net) (n : ℕ) (x : At) → IsChecked net → IsRuleRefusal net n x → ⊥

-- the rules that read no slots and no delays: what keeps them in one net keeps them in the other
pub record KeepsUntimed (net net2 : Net) : Type 0 where
  pub c1 : KeepsC1 net → KeepsC1 net2
  pub c2 : KeepsC2 net → KeepsC2 net2
  pub c5 : KeepsC5 net → KeepsC5 net2
  pub c6 : KeepsC6 net → KeepsC6 net2
  pub c7 : KeepsC7 net → KeepsC7 net2
  pub c8 : KeepsC8 net → KeepsC8 net2

-- nets that are equal but for slots and delays keep all rules but C3 and C4 together
abbrev pub TimesBreakTwoRules : Type 0
TimesBreakTwoRules = (net net2 : Net) → SamePlain net net2 → KeepsUntimed net net2

-- a checked net with other slots and delays that keeps C3 and C4 is a checked one
abbrev pub TwoRulesCheckAgain : Type 0
TwoRulesCheckAgain = (net net2 : Net) → IsChecked net → SamePlain net net2 → KeepsC3 net2 → KeepsC4 net2 → IsChecked net2

-- by C1 the ends of channels are places of units of the net
abbrev pub EndsAreOfUnits : Type 0
EndsAreOfUnits = (net : Net) → KeepsC1 net → EndsWithin net
