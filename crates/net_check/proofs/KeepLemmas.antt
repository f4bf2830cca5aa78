-- A rule that is kept by its number, and a culprit, are those of that rule.
use Rattle.net_types.specs.declared.net.Net.{Net}
use Rattle.net_types.specs.Rules.{KeepsC1, KeepsC2}
use Rattle.net_check.specs.declared.refusal.At.{At}
use Rattle.net_check.specs.Headers.{KeepsC8, CulpritC8}
use Rattle.net_check.specs.Shapes.{KeepsC7, CulpritC7}
use Rattle.net_check.specs.Places.{CulpritC1, CulpritC2}
use Rattle.net_check.specs.Sizes.{KeepsC3, CulpritC3}
use Rattle.net_check.specs.Cycles.{KeepsC4, CulpritC4}
use Rattle.net_check.specs.Controls.{KeepsC5, CulpritC5}
use Rattle.net_check.specs.Ends.{KeepsC6, CulpritC6}
use Rattle.net_check.specs.Keeps.{Keeps, keeps_c1, keeps_c2, keeps_c3, keeps_c4, keeps_c5, keeps_c6, keeps_c7, keeps_c8, Culprit, culprit_c1, culprit_c2, culprit_c3, culprit_c4, culprit_c5, culprit_c6, culprit_c7, culprit_c8}

pub kept_1 : (net : Net) → Keeps net 1 → KeepsC1 net
kept_1 net (keeps_c1 k) = k

pub kept_2 : (net : Net) → Keeps net 2 → KeepsC2 net
kept_2 net (keeps_c2 k) = k

pub kept_3 : (net : Net) → Keeps net 3 → KeepsC3 net
kept_3 net (keeps_c3 k) = k

pub kept_4 : (net : Net) → Keeps net 4 → KeepsC4 net
kept_4 net (keeps_c4 k) = k

pub kept_5 : (net : Net) → Keeps net 5 → KeepsC5 net
kept_5 net (keeps_c5 k) = k

pub kept_6 : (net : Net) → Keeps net 6 → KeepsC6 net
kept_6 net (keeps_c6 k) = k

pub kept_7 : (net : Net) → Keeps net 7 → KeepsC7 net
kept_7 net (keeps_c7 k) = k

pub kept_8 : (net : Net) → Keeps net 8 → KeepsC8 net
kept_8 net (keeps_c8 k) = k

pub culprit_1 : (net : Net) (x : At) → Culprit net x 1 → CulpritC1 net x
culprit_1 net x (culprit_c1 h) = h

pub culprit_2 : (net : Net) (x : At) → Culprit net x 2 → CulpritC2 net x
culprit_2 net x (culprit_c2 h) = h

pub culprit_3 : (net : Net) (x : At) → Culprit net x 3 → CulpritC3 net x
culprit_3 net x (culprit_c3 h) = h

pub culprit_4 : (net : Net) (x : At) → Culprit net x 4 → CulpritC4 net x
culprit_4 net x (culprit_c4 h) = h

pub culprit_5 : (net : Net) (x : At) → Culprit net x 5 → CulpritC5 net x
culprit_5 net x (culprit_c5 h) = h

pub culprit_6 : (net : Net) (x : At) → Culprit net x 6 → CulpritC6 net x
culprit_6 net x (culprit_c6 h) = h

pub culprit_7 : (net : Net) (x : At) → Culprit net x 7 → CulpritC7 net x
culprit_7 net x (culprit_c7 h) = h

pub culprit_8 : (net : Net) (x : At) → Culprit net x 8 → CulpritC8 net x
culprit_8 net x (culprit_c8 h) = h
