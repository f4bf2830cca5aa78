-- The number and the word by which refusals to go on from a saved state are printed: those of the reader of snapshots and of runs.
use Rattle.std.specs.Prelude.{ℕ, List, codes, Option, None}
use Rattle.snapshot.specs.Refusals.{refusal_number as snapshot_number, refusal_word as snapshot_word}
use Rattle.net_replay.specs.Faults.{run_number, run_word}
use Rattle.net_replay.specs.declared.fault.RunFault.TheVariants as runs
use Rattle.net_runs.specs.declared.resume_refusal.ResumeRefusal.{ResumeRefusal}
use Rattle.net_runs.specs.declared.resume_refusal.ResumeRefusal.TheVariants as refusal

-- want of memory has no number
abbrev pub resume_refusal_number : ResumeRefusal → Option ℕ
resume_refusal_number (refusal.Snapshot r) = snapshot_number r
resume_refusal_number (refusal.Limit n) = run_number (runs.Limit n)
resume_refusal_number refusal.Stuck = run_number runs.Stuck
resume_refusal_number (refusal.Stray array name) = run_number (runs.Stray array)
resume_refusal_number refusal.Memory = None

abbrev pub resume_refusal_word : ResumeRefusal → List ℕ
resume_refusal_word (refusal.Snapshot r) = snapshot_word r
resume_refusal_word (refusal.Limit n) = run_word (runs.Limit n)
resume_refusal_word refusal.Stuck = run_word runs.Stuck
resume_refusal_word (refusal.Stray array name) = run_word (runs.Stray array)
resume_refusal_word refusal.Memory = codes "Memory"
