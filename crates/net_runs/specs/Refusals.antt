-- The number and the word by which refusals of runs are printed: those of the reader of inputs, of the reader of schedules, of replays and of runs.
use Rattle.std.specs.Prelude.{ℕ, List, codes, Option, None}
use Rattle.inputs_text.specs.Refusals.{refusal_number as input_number, refusal_word as input_word}
use Rattle.net_replay.specs.Readings.{refusal_number as schedule_number, refusal_word as schedule_word}
use Rattle.net_replay.specs.Faults.{replay_number, replay_word, run_number, run_word}
use Rattle.net_replay.specs.declared.fault.ReplayFault.TheVariants as replays
use Rattle.net_replay.specs.declared.fault.RunFault.TheVariants as runs
use Rattle.net_runs.specs.declared.refusal.RunRefusal.{RunRefusal}
use Rattle.net_runs.specs.declared.refusal.RunRefusal.TheVariants as refusal

-- want of memory has no number
abbrev pub run_refusal_number : RunRefusal → Option ℕ
run_refusal_number (refusal.Inputs r) = input_number r
run_refusal_number (refusal.Schedule r) = schedule_number r
run_refusal_number (refusal.NotEnabled i) = replay_number (replays.NotEnabled i)
run_refusal_number (refusal.Limit n) = run_number (runs.Limit n)
run_refusal_number refusal.Stuck = run_number runs.Stuck
run_refusal_number (refusal.Stray array name) = run_number (runs.Stray array)
run_refusal_number refusal.Memory = None

abbrev pub run_refusal_word : RunRefusal → List ℕ
run_refusal_word (refusal.Inputs r) = input_word r
run_refusal_word (refusal.Schedule r) = schedule_word r
run_refusal_word (refusal.NotEnabled i) = replay_word (replays.NotEnabled i)
run_refusal_word (refusal.Limit n) = run_word (runs.Limit n)
run_refusal_word refusal.Stuck = run_word runs.Stuck
run_refusal_word (refusal.Stray array name) = run_word (runs.Stray array)
run_refusal_word refusal.Memory = codes "Memory"
