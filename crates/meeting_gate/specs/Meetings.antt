-- Gates at which workers meet.
use Rattle.std.specs.Prelude.{◌≡◌, ℕ, length}
use Rattle.meeting_gate.specs.declared.meeting.Meeting.{Meeting}

-- a gate counts the questions of so many workers
abbrev pub Counts : ℕ → Meeting → Type 0
Counts workers gate = length gate.asked.items ≡ workers
