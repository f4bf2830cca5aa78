-- The eight rules of nets by their numbers, the order in which they are tried, and the culprits that they name.
use Rattle.std.specs.Prelude.{ℕ, List, [], ◌∷◌}
use Rattle.net_types.specs.declared.net.Net.{Net}
use Rattle.net_types.specs.Rules.{KeepsC1, KeepsC2}
use Rattle.net_check.specs.declared.refusal.At.{At}
use Rattle.net_check.specs.Headers.{KeepsC8, CulpritC8}
use Rattle.net_check.specs.Shapes.{KeepsC7, CulpritC7}
use Rattle.net_check.specs.Places.{CulpritC1, CulpritC2}
use Rattle.net_check.specs.Sizes.{KeepsC3, CulpritC3}
use Rattle.net_check.specs.Cycles.{KeepsC4, CulpritC4}
use Rattle.net_check.specs.Controls.{KeepsC5, CulpritC5}
use Rattle.net_check.specs.Ends.{KeepsC6, CulpritC6}

-- the net keeps the rule of this number; of another number there is none to keep
pub data Keeps (net : Net) : ℕ → Type 0 where
  keeps_c1 : KeepsC1 net → Keeps net 1
  keeps_c2 : KeepsC2 net → Keeps net 2
  keeps_c3 : KeepsC3 net → Keeps net 3
  keeps_c4 : KeepsC4 net → Keeps net 4
  keeps_c5 : KeepsC5 net → Keeps net 5
  keeps_c6 : KeepsC6 net → Keeps net 6
  keeps_c7 : KeepsC7 net → Keeps net 7
  keeps_c8 : KeepsC8 net → Keeps net 8

-- the rules in the order in which they are tried
abbrev pub rules_in_order : List ℕ
rules_in_order = 8 ∷ 7 ∷ 1 ∷ 2 ∷ 3 ∷ 4 ∷ 5 ∷ 6 ∷ []

-- what the rule of this number names where it is broken
pub data Culprit (net : Net) (x : At) : ℕ → Type 0 where
  culprit_c1 : CulpritC1 net x → Culprit net x 1
  culprit_c2 : CulpritC2 net x → Culprit net x 2
  culprit_c3 : CulpritC3 net x → Culprit net x 3
  culprit_c4 : CulpritC4 net x → Culprit net x 4
  culprit_c5 : CulpritC5 net x → Culprit net x 5
  culprit_c6 : CulpritC6 net x → Culprit net x 6
  culprit_c7 : CulpritC7 net x → Culprit net x 7
  culprit_c8 : CulpritC8 net x → Culprit net x 8
