use Rattle.std.proofs.Common.{◌≡◌, take}
use Rattle.std.specs.List.{All}
use Rattle.net_replay.specs.Schedules.{FiringFits, schedule_text}
use Rattle.net_replay.proofs.schedule_printer.print_schedule.Given as goal

abbrev pub invariant-loop-firing : goal.invariant-loop-firing
invariant-loop-firing l = record {
  written : l.text.items ≡ schedule_text (take l.firing-index l.firings);
  fit : All FiringFits (take l.firing-index l.firings);
}
