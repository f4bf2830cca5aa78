-- How faults of runs are printed.
use Rattle.std.specs.Prelude.{ℕ, List, codes, Option, Some, None}
use Rattle.net_replay.specs.declared.fault.ReplayFault.{ReplayFault}
use Rattle.net_replay.specs.declared.fault.ReplayFault.TheVariants as replays
use Rattle.net_replay.specs.declared.fault.RunFault.{RunFault}
use Rattle.net_replay.specs.declared.fault.RunFault.TheVariants as runs

-- the number by which a fault is printed
abbrev pub replay_number : ReplayFault → Option ℕ
replay_number (replays.NotEnabled i) = Some 61
replay_number replays.Memory = None

abbrev pub run_number : RunFault → Option ℕ
run_number (runs.Limit n) = Some 70
run_number runs.Stuck = Some 71
run_number (runs.Stray a) = Some 72
run_number runs.Memory = None

-- and the word
abbrev pub replay_word : ReplayFault → List ℕ
replay_word (replays.NotEnabled i) = codes "NotEnabled"
replay_word replays.Memory = codes "Memory"

abbrev pub run_word : RunFault → List ℕ
run_word (runs.Limit n) = codes "Limit"
run_word runs.Stuck = codes "Stuck"
run_word (runs.Stray a) = codes "Stray"
run_word runs.Memory = codes "Memory"

-- the firing, from 0, that is not enabled
abbrev pub index_of : ReplayFault → Option ℕ
index_of (replays.NotEnabled i) = Some i
index_of replays.Memory = None

-- the limit that was come to
abbrev pub limit_of : RunFault → Option ℕ
limit_of (runs.Limit n) = Some n
limit_of runs.Stuck = None
limit_of (runs.Stray a) = None
limit_of runs.Memory = None

-- the array that an address lay past
abbrev pub array_of : RunFault → Option ℕ
array_of (runs.Limit n) = None
array_of runs.Stuck = None
array_of (runs.Stray a) = Some a
array_of runs.Memory = None
