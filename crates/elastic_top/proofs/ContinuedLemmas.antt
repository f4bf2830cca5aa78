-- What is saved and gone on from prints as a run; and which file is too long.
use Rattle.std.proofs.Common.{◌≡◌, ◌≢◌, ◌<◌, inl, inr, ℕ, zero, suc, List, [], ◌∷◌, length, take, get_or, refl, sym, ap, subst, ◌∙◌, arith}
use Rattle.std.specs.Prelude.{IsSome, is_some, Some, None, Result, Ok, Err}
use Rattle.std.proofs.lemmas.Bool.{false≢true}
use Rattle.el_base.specs.Labels.{printed}
use Rattle.el_io.specs.Outside.{Told, IsWhole, MayPass}
use Rattle.net_types.specs.declared.net.Net.{Net}
use Rattle.net_check.specs.Laws.{CheckedIsNotRefused}
use Rattle.net_text.specs.Fits.{HeaderFits}
use Rattle.net_front.specs.Answers.{IsNetlist, NetlistSays}
use Rattle.net_runs.specs.declared.options.RunOptions.{RunOptions}
use Rattle.net_runs.specs.declared.refusal.RunRefusal.{RunRefusal}
use Rattle.net_runs.specs.declared.refusal.RunRefusal.TheVariants as run
use Rattle.net_runs.specs.declared.resume_refusal.ResumeRefusal.{ResumeRefusal}
use Rattle.net_runs.specs.declared.resume_refusal.ResumeRefusal.TheVariants as resume
use Rattle.net_runs.specs.Laws.{AsksForNoCycles, IsAnswerOfRun, SavedRunsResume}
use Rattle.net_runs.specs.Refusals.{run_refusal_number, run_refusal_word}
use Rattle.net_runs.specs.ResumeRefusals.{resume_refusal_number, resume_refusal_word}
use Rattle.net_runs.specs.Resumes.{Resumes}
use Rattle.net_runs.specs.Runs.{Runs}
use Rattle.net_runs.specs.Saves.{Saves}
use Rattle.command_words.specs.declared.verb.Verb.TheVariants.{Run, Save, Resume}
use Rattle.command_words.specs.Tables.{Text}
use Rattle.elastic_top.specs.Answers.{NamesFile, NamesRun, OfNet, ResumesNet, RunsNet, Wraps, at}
use Rattle.elastic_top.specs.Continued.{ResumedCallsPrintAsRuns, LongFilesAreOne}
use Rattle.elastic_top.specs.Faults.{label_number, refusal_code, refusal_parts, resume_code, resume_parts, run_code, run_parts}
use Rattle.elastic_top.specs.Files.{Wanted}
use Rattle.elastic_top.specs.OneAnswer.{PrintTheSame}
use Rattle.elastic_top.specs.Options.{at_or, limit_or, options_of}
use Rattle.elastic_top.specs.Reading.{AreHeld, IsTooLong}
use Rattle.elastic_top.specs.declared.fault.Refusal.{Refusal}
use Rattle.elastic_top.specs.declared.fault.Refusal.TheVariants as work
use Rattle.elastic_top.specs.declared.fault.RunFiles.{RunFiles}
use Rattle.elastic_top.proofs.OneAnswerLemmas.{IsTold, is_told, by_verb, error_or, is_text, text_or}
use Rattle.elastic_top.proofs.PrintedLemmas.{same_net, no_netlist, run_told}

-- ---- what is printed of two refusals

abbrev run_label : RunRefusal → Text
run_label r = printed (run_refusal_number r) (run_refusal_word r)

abbrev resume_label : ResumeRefusal → Text
resume_label r = printed (resume_refusal_number r) (resume_refusal_word r)

-- two refusals have one status and one line
record IsAlike (file : Text) (files : RunFiles) (r : ResumeRefusal) (q : RunRefusal) : Type 0 where
  pub code : resume_code r ≡ run_code q
  pub parts : resume_parts file (resume_label r) r ≡ run_parts files (run_label q) q

error_is : (q r : RunRefusal) → ◌≡◌ {A = Result Text RunRefusal} (Err q) (Err r) → r ≡ q
error_is q r e = sym (ap (error_or q) e)

alike : (file : Text) (files : RunFiles) (r : ResumeRefusal) (q : RunRefusal) → IsAnswerOfRun (Err r) (Err q) → IsAlike file files r q
alike file files (resume.Snapshot x) q is = absurd is
alike file files (resume.Limit n) q is = subst (IsAlike file files (resume.Limit n)) (error_is q (run.Limit n) is) (record { code = refl; parts = refl })
alike file files resume.Stuck q is = subst (IsAlike file files resume.Stuck) (error_is q run.Stuck is) (record { code = refl; parts = refl })
alike file files (resume.Stray array name) q is =
    subst (IsAlike file files (resume.Stray array name)) (error_is q (run.Stray array name) is) (record { code = refl; parts = refl })
alike file files resume.Memory q is = subst (IsAlike file files resume.Memory) (error_is q run.Memory is) (record { code = refl; parts = refl })

no_text_of : (r : ResumeRefusal) (t : Text) → IsAnswerOfRun (Err r) (Ok t) → ⊥
no_text_of (resume.Snapshot x) t is = is
no_text_of (resume.Limit n) t is = subst is_text is tt
no_text_of resume.Stuck t is = subst is_text is tt
no_text_of (resume.Stray array name) t is = subst is_text is tt
no_text_of resume.Memory t is = subst is_text is tt

resume_told : (r : ResumeRefusal) → IsSome (resume_refusal_number r) → r ≢ resume.Memory
resume_told r has e = false≢true (sym (ap (λ (x : ResumeRefusal). is_some (resume_refusal_number x)) e) ∙ has)

-- ---- three calls

header : (bytes : Text) (net : Net) → IsNetlist bytes net → HeaderFits net
header bytes net is = record { name = is.read.0.name; scalars = is.read.0.scalars; arrays = is.read.0.arrays }

module _ (checks : CheckedIsNotRefused) (law : SavedRunsResume) (netlist word other inputs ns is snap : Text) (k : ℕ) (o : RunOptions)
    (plain : AsksForNoCycles o) (saved : OfNet ns (λ net. Saves net is k (Ok snap))) where
  one_answer : (x : Result Text ResumeRefusal) (y : Result Text RunRefusal) → x ≢ Err resume.Memory → y ≢ Err run.Memory
      → OfNet ns (λ net. Resumes net snap o.limit o.count x) → OfNet ns (λ net. Runs net is o y) → IsAnswerOfRun x y
  one_answer x y m n a b =
      law b.net is snap k o x y b.read.checked (header ns b.net b.read)
      (subst (λ (net : Net). Saves net is k (Ok snap)) (same_net ns b.net saved.net b.read.read saved.read.read) saved.holds) plain m n
      (subst (λ (net : Net). Resumes net snap o.limit o.count x) (same_net ns b.net a.net b.read.read a.read.read) a.holds) b.holds

  -- a netlist that is refused has no state
  not_refused : (name : Text) (r : Refusal) → IsTold (Err r) → Wraps work.Net (NamesFile name) (λ x. NetlistSays ns (Err x)) r → ⊥
  not_refused name r m a = no_netlist checks ns saved.net a.refused saved.read (subst (λ (x : Refusal). IsSome (label_number x)) a.is m) a.holds

  abbrev ResumeRefused : Refusal → Type 0
  ResumeRefused r = Wraps work.Resume (NamesFile word) (λ x. OfNet ns (λ net. Resumes net snap o.limit o.count (Err x))) r

  abbrev RunRefused : Refusal → Type 0
  RunRefused r = Wraps work.Run (NamesRun inputs None) (λ x. OfNet ns (λ net. Runs net is o (Err x))) r

  some_resumed : (r : Refusal) → IsTold (Err r) → (w : ResumeRefused r) → ◌≢◌ {A = Result Text ResumeRefusal} (Err w.refused) (Err resume.Memory)
  some_resumed r m w e = resume_told w.refused (subst (λ (x : Refusal). IsSome (label_number x)) w.is m) (ap (error_or w.refused) e)

  some_run : (r : Refusal) → IsTold (Err r) → (w : RunRefused r) → ◌≢◌ {A = Result Text RunRefusal} (Err w.refused) (Err run.Memory)
  some_run r m w e = run_told w.refused (subst (λ (x : Refusal). IsSome (label_number x)) w.is m) (ap (error_or w.refused) e)

  prints_as_run : (a b : Result Text Refusal) → IsTold a → IsTold b → ResumesNet netlist word o.limit o.count ns snap a → RunsNet other inputs o ns is b
      → PrintTheSame a b
  prints_as_run (Ok s) (Ok t) m n a b = sym (ap (text_or t) (one_answer (Ok s) (Ok t) (λ e. absurd (cc)) (λ e. absurd (cc)) a b))
  prints_as_run (Ok s) (Err q) m n a (inl b) = absurd (not_refused other q n b)
  prints_as_run (Ok s) (Err q) m n a (inr b) =
      absurd (subst is_text (sym (one_answer (Ok s) (Err b.refused) (λ e. absurd (cc)) (some_run q n b) a b.holds)) tt)
  prints_as_run (Err r) (Ok t) m n (inl a) b = absurd (not_refused netlist r m a)
  prints_as_run (Err r) (Ok t) m n (inr a) b =
      absurd (no_text_of a.refused t (one_answer (Err a.refused) (Ok t) (some_resumed r m a) (λ e. absurd (cc)) a.holds b))
  prints_as_run (Err r) (Err q) m n (inl a) b = absurd (not_refused netlist r m a)
  prints_as_run (Err r) (Err q) m n (inr a) (inl b) = absurd (not_refused other q n b)
  prints_as_run (Err r) (Err q) m n (inr a) (inr b) =
      let same : IsAlike a.files.now b.files a.refused b.refused =
      alike a.files.now b.files a.refused b.refused (one_answer (Err a.refused) (Err b.refused) (some_resumed r m a) (some_run q n b) a.holds b.holds) in (
        ap refusal_code a.is ∙ same.code ∙ sym (ap refusal_code b.is),
        ap refusal_parts a.is ∙ same.parts ∙ sym (ap refusal_parts b.is),
      )

pub resumed_calls_print_as_runs : CheckedIsNotRefused → SavedRunsResume → ResumedCallsPrintAsRuns
resumed_calls_print_as_runs checks law c d e saved resumed ran a b on x y =
    let o : RunOptions = options_of e.chosen in
    let first : OfNet (at saved 0) (λ net. Saves net (at saved 1) (at_or c.chosen.at) (Ok (at resumed 1))) =
    by_verb Save c saved (Ok (at resumed 1)) on.saves on.answer in
    let second : ResumesNet (at d.plain 0) (at d.plain 1) (limit_or d.chosen.limit) d.chosen.count (at resumed 0) (at resumed 1) a =
    by_verb Resume d resumed a on.resumes x in
    let third : RunsNet (at e.plain 0) (at e.plain 1) o (at ran 0) (at ran 1) b = by_verb Run e ran b on.runs y in
    prints_as_run checks law (at d.plain 0) (at d.plain 1) (at e.plain 0) (at e.plain 1) (at saved 0) (at saved 1) (at resumed 1) (at_or c.chosen.at) o on.plain first
    a b
    (is_told d resumed a x) (is_told e ran b y)
    (subst (λ n. ResumesNet (at d.plain 0) (at d.plain 1) n o.count (at saved 0) (at resumed 1) a) on.limit
    (subst (λ q. ResumesNet (at d.plain 0) (at d.plain 1) (limit_or d.chosen.limit) q (at saved 0) (at resumed 1) a) on.count
    (subst (λ t. ResumesNet (at d.plain 0) (at d.plain 1) (limit_or d.chosen.limit) d.chosen.count t (at resumed 1) a) on.net second)))
    (subst (λ t. RunsNet (at e.plain 0) (at e.plain 1) o (at saved 0) t b) on.inputs
    (subst (λ t. RunsNet (at e.plain 0) (at e.plain 1) o t (at ran 1) b) on.run_net third))

-- ---- long files

-- a file that was read before a place is not longer than its limit, where it is told what it holds
whole_before : (holds : Text → Told) (files : List Wanted) (contents : List Text) (i n : ℕ) (d : Wanted) → i < n → i < length files
    → AreHeld holds (take n files) contents → (bytes : Text) × IsWhole (holds (get_or files i d).name) (get_or files i d).limit bytes
whole_before holds [] contents i n d before within held = absurd (omega (arith, within))
whole_before holds (f ∷ files) contents i zero d before within held = absurd (omega (arith, before))
whole_before holds (f ∷ files) [] i (suc n) d before within held = absurd held
whole_before holds (f ∷ files) (b ∷ bs) zero (suc n) d before within held = (b, held.0)
whole_before holds (f ∷ files) (b ∷ bs) (suc i) (suc n) d before within held =
    whole_before holds files bs i n d (omega (arith, before)) (omega (arith, within)) held.1

not_passed : (told : Told) (limit : ℕ) (bytes : Text) → told ≢ None → IsWhole told limit bytes → MayPass told limit → ⊥
not_passed None limit bytes some whole more = some refl
not_passed (Some None) limit bytes some whole more = more
not_passed (Some (Some held)) limit bytes some whole more =
    let same : length held ≡ length bytes = ap length whole.bytes in omega (arith, same, whole.bound, more)

not_earlier : (holds : Text → Told) (long : ℕ) (files : List Wanted) (name other : Text) (a : IsTooLong holds long files name)
    (b : IsTooLong holds long files other) → holds name ≢ None → a.reached.place < b.reached.place → ⊥
not_earlier holds long files name other a b told before =
    let read = whole_before holds files b.reached.contents a.reached.place b.reached.place a.file before a.reached.within b.reached.read in
    let whole : IsWhole (holds a.file.name) a.file.limit read.0 = subst (λ (f : Wanted). IsWhole (holds f.name) f.limit read.0) (sym a.reached.here) read.1 in
    not_passed (holds name) a.file.limit read.0 told (subst (λ n. IsWhole (holds n) a.file.limit read.0) (sym a.named) whole) a.more

equal : (x y : ℕ) → (x < y → ⊥) → (y < x → ⊥) → x ≡ y
equal zero zero f g = refl
equal zero (suc y) f g = absurd (f (omega arith))
equal (suc x) zero f g = absurd (g (omega arith))
equal (suc x) (suc y) f g = ap suc (equal x y (λ l. f (omega (arith, l))) (λ l. g (omega (arith, l))))

pub long_files_are_one : LongFilesAreOne
long_files_are_one holds long files name other a b m n =
    let first : a.reached.place < b.reached.place → ⊥ = not_earlier holds long files name other a b m in
    let second : b.reached.place < a.reached.place → ⊥ = not_earlier holds long files other name b a n in
    equal a.reached.place b.reached.place first second
