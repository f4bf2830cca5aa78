-- The mark of queues: what a circuit does without it, it does with it.
use Rattle.std.specs.Prelude.{ℕ, true, Option, List}
use Rattle.net_types.specs.declared.net.Net.{Net}
use Rattle.net_types.specs.declared.firing.Firing.{Firing}
use Rattle.net_types.specs.declared.firing.Inputs.{Inputs}
use Rattle.net_check.specs.Checks.{IsChecked}
use Rattle.net_check.specs.Keeps.{Keeps}
use Rattle.net_check.specs.Laws.{KeepsUntimed}
use Rattle.net_core.specs.Fire.{State}
use Rattle.net_core.specs.Laws.{IsSpent}
use Rattle.net_core.specs.Runs.{Run, Exited}
use Rattle.queue_marks.specs.Marked.{forwarding, with_marks, HasMark}

-- each run of a net is a run of the net with the marks, and leads to the same state but for the marks:
-- tokens, arrays, strays and what units keep beside the marks are equal
abbrev pub MarksAllowRuns : Type 0
MarksAllowRuns = (net : Net) (inputs : Inputs) (fs : List Firing) (s : State) → Run net inputs fs s → Run (forwarding net) inputs fs (with_marks net s)

-- where nothing is left without the marks, nothing is left with them, and the exit took the same
pub record EndsAlike (net : Net) (s : State) : Type 0 where
  pub spent : IsSpent net s → IsSpent (forwarding net) (with_marks net s)
  pub exited : (r : Option ℕ) → Exited net r s → Exited (forwarding net) r (with_marks net s)

abbrev pub MarksEndAlike : Type 0
MarksEndAlike = (net : Net) (s : State) → EndsAlike net s

-- each rule that a net keeps the net with the marks keeps
abbrev pub MarksKeepRules : Type 0
MarksKeepRules = (net : Net) (n : ℕ) → Keeps net n → Keeps (forwarding net) n

-- so it is of those that read no slots and no delays, rule by rule
abbrev pub MarksKeepUntimed : Type 0
MarksKeepUntimed = (net : Net) → KeepsUntimed net (forwarding net)

-- so with a checked net the net with the marks is one
abbrev pub MarksKeepChecked : Type 0
MarksKeepChecked = (net : Net) → IsChecked net → IsChecked (forwarding net)

-- each queue of the net with the marks has the mark
abbrev pub QueuesHaveMark : Type 0
QueuesHaveMark = (net : Net) → HasMark true (forwarding net)
