-- The statuses of refusals.
use Rattle.std.proofs.Common.{◌≡◌, ◌≢◌, ◌≤◌, inl, inr, ℕ, List, refl, sym, subst, arith, Contains, Option, Some, None}
use Rattle.std.specs.Prelude.{Err, IsSome}
use Rattle.std.proofs.lemmas.Bool.{false≢true}
use Rattle.net_types.specs.declared.net.Net.{Net}
use Rattle.command_words.specs.declared.verb.Verb.{Verb}
use Rattle.command_words.specs.declared.verb.Verb.TheVariants as verb
use Rattle.command_words.specs.Tables.{Text}
use Rattle.command_words.specs.declared.command.Chosen.{Chosen}
use Rattle.net_runs.specs.declared.options.RunOptions.{RunOptions}
use Rattle.net_runs.specs.declared.refusal.RunRefusal.{RunRefusal}
use Rattle.net_runs.specs.declared.refusal.RunRefusal.TheVariants as run
use Rattle.net_runs.specs.Refusals.{run_refusal_number}
use Rattle.net_runs.specs.Runs.{Runs}
use Rattle.net_runs.specs.Replays.{Replays}
use Rattle.net_runs.specs.Saves.{Saves}
use Rattle.net_runs.specs.declared.resume_refusal.ResumeRefusal.{ResumeRefusal}
use Rattle.net_runs.specs.declared.resume_refusal.ResumeRefusal.TheVariants as resume
use Rattle.net_runs.specs.ResumeRefusals.{resume_refusal_number}
use Rattle.kernel_runs.specs.declared.options.CircuitOptions.{CircuitOptions}
use Rattle.kernel_runs.specs.declared.refusal.GoRefusal.{GoRefusal}
use Rattle.kernel_runs.specs.declared.refusal.GoRefusal.TheVariants as go
use Rattle.kernel_runs.specs.Goes.{Goes, IsNoRun}
use Rattle.kernel_ref.specs.declared.refusal.InterpretRefusal.{InterpretRefusal}
use Rattle.kernel_ref.specs.declared.refusal.InterpretRefusal.TheVariants as interpret
use Rattle.elastic_top.specs.Answers.{AnswersBy, BenchesSeed, at}
use Rattle.elastic_top.specs.Options.{at_or, circuit_of, options_of}
use Rattle.elastic_top.specs.Faults.{fault_code, go_code, interpret_code, numbered_fault, refusal_code, label_number, resume_code, run_code}
use Rattle.elastic_top.specs.Statuses.{statuses, statuses_of}
use Rattle.elastic_top.specs.declared.fault.Refusal.{Refusal}
use Rattle.elastic_top.specs.declared.fault.Refusal.TheVariants.{Kernel, Net as OfNetlist, Run, Go, Interpret, Resume, Bench}

-- ---- a command's own refusals have its statuses

run_own : (net : Net) (bytes : Text) (o : RunOptions) (r : RunRefusal) → Runs net bytes o (Err r) → Contains (statuses_of verb.Run) (run_code r)
run_own net bytes o (run.Inputs x) is = (4, omega arith, refl)
run_own net bytes o (run.Schedule x) is = absurd is
run_own net bytes o (run.NotEnabled i) is = absurd is
run_own net bytes o (run.Limit n) is = (5, omega arith, refl)
run_own net bytes o run.Stuck is = (6, omega arith, refl)
run_own net bytes o (run.Stray array name) is = (7, omega arith, refl)
run_own net bytes o run.Memory is = (8, omega arith, refl)

replay_own : (net : Net) (bytes schedule : Text) (r : RunRefusal) → Replays net bytes schedule (Err r) → Contains (statuses_of verb.Replay) (run_code r)
replay_own net bytes schedule (run.Inputs x) is = (4, omega arith, refl)
replay_own net bytes schedule (run.Schedule x) is = (5, omega arith, refl)
replay_own net bytes schedule (run.NotEnabled i) is = (5, omega arith, refl)
replay_own net bytes schedule (run.Limit n) is = absurd is
replay_own net bytes schedule run.Stuck is = (6, omega arith, refl)
replay_own net bytes schedule (run.Stray array name) is = (7, omega arith, refl)
replay_own net bytes schedule run.Memory is = (8, omega arith, refl)

save_own : (net : Net) (bytes : Text) (k : ℕ) (r : RunRefusal) → Saves net bytes k (Err r) → Contains (statuses_of verb.Save) (run_code r)
save_own net bytes k (run.Inputs x) is = (4, omega arith, refl)
save_own net bytes k (run.Schedule x) is = absurd is
save_own net bytes k (run.NotEnabled i) is = absurd is
save_own net bytes k (run.Limit n) is = absurd is
save_own net bytes k run.Stuck is = absurd is
save_own net bytes k (run.Stray array name) is = absurd is
save_own net bytes k run.Memory is = (5, omega arith, refl)

resume_own : (r : ResumeRefusal) → Contains (statuses_of verb.Resume) (resume_code r)
resume_own (resume.Snapshot x) = (9, omega arith, refl)
resume_own (resume.Limit n) = (4, omega arith, refl)
resume_own resume.Stuck = (5, omega arith, refl)
resume_own (resume.Stray array name) = (6, omega arith, refl)
resume_own resume.Memory = (7, omega arith, refl)

circuit_own : (net : Net) (bytes : Text) (o : RunOptions) (r : RunRefusal) → IsNoRun net bytes o r → Contains (statuses_of verb.Go) (run_code r)
circuit_own net bytes o (run.Inputs x) is = (4, omega arith, refl)
circuit_own net bytes o (run.Schedule x) is = absurd is.runs
circuit_own net bytes o (run.NotEnabled i) is = absurd is.runs
circuit_own net bytes o (run.Limit n) is = (5, omega arith, refl)
circuit_own net bytes o run.Stuck is = absurd (is.moves refl)
circuit_own net bytes o (run.Stray array name) is = (6, omega arith, refl)
circuit_own net bytes o run.Memory is = absurd (is.cause refl)

go_own : (kernel inputs : Text) (c : CircuitOptions) (o : RunOptions) (r : GoRefusal) → Goes kernel inputs c o (Err r) → Contains (statuses_of verb.Go) (go_code r)
go_own kernel inputs c o (go.Kernel x) is = (3, omega arith, refl)
go_own kernel inputs c o (go.Run r) is = circuit_own is.net inputs o r is.holds
go_own kernel inputs c o go.Memory is = (7, omega arith, refl)

ref_own : (r : InterpretRefusal) → Contains (statuses_of verb.Ref) (interpret_code r)
ref_own (interpret.Inputs x) = (4, omega arith, refl)
ref_own (interpret.Undefined place) = (7, omega arith, refl)
ref_own (interpret.OutOfTurns n) = (8, omega arith, refl)
ref_own interpret.Memory = (5, omega arith, refl)

-- the status of a refusal that is equal to one with a status of the list
with_status : (v : Verb) (r s : Refusal) → r ≡ s → Contains (statuses_of v) (refusal_code s) → Contains (statuses_of v) (refusal_code r)
with_status v r s e has = subst (λ (x : Refusal). Contains (statuses_of v) (refusal_code x)) (sym e) has

bench_own : (seed : Option ℕ) (r : Refusal) → BenchesSeed seed (Err r) → Contains (statuses_of verb.Bench) (refusal_code r)
bench_own None r a = absurd a
bench_own (Some number) r a = with_status verb.Bench r (Bench a.0) a.1 (2, omega arith, refl)

pub own : (v : Verb) (plain : List Text) (chosen : Chosen) (contents : List Text) (r : Refusal) → AnswersBy v plain chosen contents (Err r) → Contains (statuses_of v) (refusal_code r)
own verb.Compile plain chosen contents r a = with_status verb.Compile r (Kernel a.files a.refused) a.is (3, omega arith, refl)
own verb.Go plain chosen contents r a =
    with_status verb.Go r (Go a.files a.refused) a.is (go_own (at contents 0) (at contents 1) (circuit_of chosen) (options_of chosen) a.refused a.holds)
own verb.Run plain chosen contents r a = elim a [
  | inl a ↦ with_status verb.Run r (OfNetlist a.files a.refused) a.is (3, omega arith, refl)
  | inr a ↦ with_status verb.Run r (Run a.files a.refused) a.is (run_own a.holds.net (at contents 1) (options_of chosen) a.refused a.holds.holds)
]
own verb.Replay plain chosen contents r a = elim a [
  | inl a ↦ with_status verb.Replay r (OfNetlist a.files a.refused) a.is (3, omega arith, refl)
  | inr a ↦ with_status verb.Replay r (Run a.files a.refused) a.is (replay_own a.holds.net (at contents 1) (at contents 2) a.refused a.holds.holds)
]
own verb.Bench plain chosen contents r a = bench_own chosen.seed r a
own verb.Upgrade plain chosen contents r a = with_status verb.Upgrade r (OfNetlist a.files a.refused) a.is (3, omega arith, refl)
own verb.Ref plain chosen contents r a = elim a [
  | inl a ↦ with_status verb.Ref r (Kernel a.files a.refused) a.is (3, omega arith, refl)
  | inr a ↦ with_status verb.Ref r (Interpret a.files a.refused) a.is (ref_own a.refused)
]
own verb.Save plain chosen contents r a = elim a [
  | inl a ↦ with_status verb.Save r (OfNetlist a.files a.refused) a.is (3, omega arith, refl)
  | inr a ↦ with_status verb.Save r (Run a.files a.refused) a.is (save_own a.holds.net (at contents 1) (at_or chosen.at) a.refused a.holds.holds)
]
own verb.Resume plain chosen contents r a = elim a [
  | inl a ↦ with_status verb.Resume r (OfNetlist a.files a.refused) a.is (3, omega arith, refl)
  | inr a ↦ with_status verb.Resume r (Resume a.files a.refused) a.is (resume_own a.refused)
]

-- ---- each refusal has one of the statuses, none of words or of the outside, and that of want of memory only where it is that

pub record IsJudged (numbered : Type 0) (code : ℕ) : Type 0 where
  pub listed : Contains statuses code
  pub some : code ≢ 0
  pub spelled : code ≢ 1
  pub unread : code ≢ 2
  pub unwritten : code ≢ 3
  pub long : code ≢ 12
  pub memory : numbered → code ≢ 11

judged_by : (numbered : Type 0) (code : ℕ) → Contains statuses code → 4 ≤ code → code ≢ 12 → (numbered → code ≢ 11) → IsJudged numbered code
judged_by numbered code listed few long memory = record {
  listed = listed;
  some = λ e. absurd (omega (arith, e, few));
  spelled = λ e. absurd (omega (arith, e, few));
  unread = λ e. absurd (omega (arith, e, few));
  unwritten = λ e. absurd (omega (arith, e, few));
  long = long;
  memory = memory;
}

run_judged : (r : RunRefusal) → IsJudged (IsSome (run_refusal_number r)) (run_code r)
run_judged (run.Inputs x) = judged_by _ 6 (6, omega arith, refl) (omega arith) (λ e. absurd (omega (arith, e))) (λ n e. absurd (omega (arith, e)))
run_judged (run.Schedule x) = judged_by _ 7 (7, omega arith, refl) (omega arith) (λ e. absurd (omega (arith, e))) (λ n e. absurd (omega (arith, e)))
run_judged (run.NotEnabled i) = judged_by _ 7 (7, omega arith, refl) (omega arith) (λ e. absurd (omega (arith, e))) (λ n e. absurd (omega (arith, e)))
run_judged (run.Limit n) = judged_by _ 8 (8, omega arith, refl) (omega arith) (λ e. absurd (omega (arith, e))) (λ n e. absurd (omega (arith, e)))
run_judged run.Stuck = judged_by _ 9 (9, omega arith, refl) (omega arith) (λ e. absurd (omega (arith, e))) (λ n e. absurd (omega (arith, e)))
run_judged (run.Stray array name) = judged_by _ 10 (10, omega arith, refl) (omega arith) (λ e. absurd (omega (arith, e))) (λ n e. absurd (omega (arith, e)))
run_judged run.Memory = judged_by _ 11 (11, omega arith, refl) (omega arith) (λ e. absurd (omega (arith, e))) (λ n e. absurd (false≢true n))

resume_judged : (r : ResumeRefusal) → IsJudged (IsSome (resume_refusal_number r)) (resume_code r)
resume_judged (resume.Snapshot x) = judged_by _ 15 (15, omega arith, refl) (omega arith) (λ e. absurd (omega (arith, e))) (λ n e. absurd (omega (arith, e)))
resume_judged (resume.Limit n) = judged_by _ 8 (8, omega arith, refl) (omega arith) (λ e. absurd (omega (arith, e))) (λ n e. absurd (omega (arith, e)))
resume_judged resume.Stuck = judged_by _ 9 (9, omega arith, refl) (omega arith) (λ e. absurd (omega (arith, e))) (λ n e. absurd (omega (arith, e)))
resume_judged (resume.Stray array name) = judged_by _ 10 (10, omega arith, refl) (omega arith) (λ e. absurd (omega (arith, e))) (λ n e. absurd (omega (arith, e)))
resume_judged resume.Memory = judged_by _ 11 (11, omega arith, refl) (omega arith) (λ e. absurd (omega (arith, e))) (λ n e. absurd (false≢true n))

pub judged : (r : Refusal) → IsJudged (IsSome (label_number r)) (refusal_code r)
judged (Kernel f x) = judged_by _ 4 (4, omega arith, refl) (omega arith) (λ e. absurd (omega (arith, e))) (λ n e. absurd (omega (arith, e)))
judged (OfNetlist f x) = judged_by _ 5 (5, omega arith, refl) (omega arith) (λ e. absurd (omega (arith, e))) (λ n e. absurd (omega (arith, e)))
judged (Run f r) = run_judged r
judged (Go f (go.Kernel x)) = judged_by _ 4 (4, omega arith, refl) (omega arith) (λ e. absurd (omega (arith, e))) (λ n e. absurd (omega (arith, e)))
judged (Go f (go.Run r)) = run_judged r
judged (Go f go.Memory) = judged_by _ 11 (11, omega arith, refl) (omega arith) (λ e. absurd (omega (arith, e))) (λ n e. absurd (false≢true n))
judged (Interpret f (interpret.Inputs x)) = judged_by _ 6 (6, omega arith, refl) (omega arith) (λ e. absurd (omega (arith, e))) (λ n e. absurd (omega (arith, e)))
judged (Interpret f (interpret.Undefined place)) = judged_by _ 13 (13, omega arith, refl) (omega arith) (λ e. absurd (omega (arith, e))) (λ n e. absurd (omega (arith, e)))
judged (Interpret f (interpret.OutOfTurns t)) = judged_by _ 14 (14, omega arith, refl) (omega arith) (λ e. absurd (omega (arith, e))) (λ n e. absurd (omega (arith, e)))
judged (Interpret f interpret.Memory) = judged_by _ 11 (11, omega arith, refl) (omega arith) (λ e. absurd (omega (arith, e))) (λ n e. absurd (false≢true n))
judged (Resume f r) = resume_judged r
judged (Bench m) = judged_by _ 11 (11, omega arith, refl) (omega arith) (λ e. absurd (omega (arith, e))) (λ n e. absurd (false≢true n))

-- the fault that is made of a refusal has no status of the outside
pub record IsNotOutside (code : ℕ) : Type 0 where
  pub unread : code ≢ 2
  pub unwritten : code ≢ 3
  pub long : code ≢ 12

pub not_outside : (r : Refusal) (n : Option ℕ) → IsNotOutside (fault_code (numbered_fault n r))
not_outside r None = record { unread = λ e. absurd (omega (arith, e)); unwritten = λ e. absurd (omega (arith, e)); long = λ e. absurd (omega (arith, e)) }
not_outside r (Some n) = record { unread = (judged r).unread; unwritten = (judged r).unwritten; long = (judged r).long }
