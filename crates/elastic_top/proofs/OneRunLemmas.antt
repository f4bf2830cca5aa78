-- Calls of run print one thing, by however many workers.
use Rattle.std.proofs.Common.{◌≡◌, ◌≢◌, inl, inr, ℕ, refl, sym, ap, subst, ◌∙◌}
use Rattle.std.specs.Prelude.{IsSome, Option, Some, None, Result, Ok, Err}
use Rattle.std.specs.Option.{option_copied}
use Rattle.std.proofs.lemmas.Bool.{false≢true}
use Rattle.el_base.specs.Labels.{printed}
use Rattle.net_types.specs.declared.net.Net.{Net}
use Rattle.net_text.specs.declared.refusal.TextRefusal.{TextRefusal}
use Rattle.net_text.specs.declared.refusal.TextRefusal.TheVariants as text
use Rattle.net_text.specs.Refusals.{Says as SaysNet}
use Rattle.net_text.proofs.Only.{only_answer}
use Rattle.net_check.specs.declared.refusal.NetRefusal.{NetRefusal}
use Rattle.net_check.specs.declared.refusal.NetRefusal.TheVariants as rule
use Rattle.net_check.specs.Laws.{CheckedIsNotRefused, OneRefusal}
use Rattle.net_check.specs.Refusals.{RefusalHolds}
use Rattle.net_front.specs.declared.refusal.NetlistRefusal.{NetlistRefusal}
use Rattle.net_front.specs.declared.refusal.NetlistRefusal.TheVariants as netlist
use Rattle.net_front.specs.Answers.{NetlistSays}
use Rattle.net_front.specs.Refusals.{netlist_number, netlist_word}
use Rattle.net_replay.specs.Readings.{refusal_line as schedule_line}
use Rattle.net_runs.specs.declared.options.RunOptions.{RunOptions}
use Rattle.net_runs.specs.declared.refusal.RunRefusal.{RunRefusal}
use Rattle.net_runs.specs.declared.refusal.RunRefusal.TheVariants as run
use Rattle.cycle_engine.specs.Bounds.{CyclesAreOne}
use Rattle.inputs_text.specs.Texts.{IsOfOneInputs}
use Rattle.net_runs.specs.Laws.{with_workers, RunTextsAreOne}
use Rattle.net_runs.specs.Refusals.{run_refusal_number, run_refusal_word}
use Rattle.net_runs.specs.Runs.{Runs}
use Rattle.command_words.specs.declared.verb.Verb.TheVariants.{Run}
use Rattle.command_words.specs.Tables.{Text}
use Rattle.elastic_top.specs.Answers.{NamesFile, NamesRun, OfNet, RunsNet, Wraps, at}
use Rattle.elastic_top.specs.Faults.{label_number, refusal_code, refusal_parts, net_parts, run_code, run_parts, line_parts, input_parts, front}
use Rattle.elastic_top.specs.OneAnswer.{PrintTheSame, RunsPrintOnce, RunsTellAsMany, TellsNoOrder, by_workers}
use Rattle.elastic_top.specs.Options.{options_of}
use Rattle.elastic_top.specs.declared.fault.Refusal.{Refusal}
use Rattle.elastic_top.specs.declared.fault.Refusal.TheVariants as work
use Rattle.elastic_top.specs.declared.fault.RunFiles.{RunFiles}
use Rattle.elastic_top.proofs.CycleLemmas.{RunsTellOneThing, tell_as_many}
use Rattle.elastic_top.proofs.OneAnswerLemmas.{IsTold, is_told, by_verb, error_or, is_text, text_or}
use Rattle.elastic_top.proofs.PrintedLemmas.{same_net, no_netlist, no_text, run_told}

-- ---- one refusal of a netlist

abbrev refusal_or : TextRefusal → Result Net TextRefusal → TextRefusal
refusal_or r (Ok net) = r
refusal_or r (Err q) = q

one_text : (bytes : Text) (r q : TextRefusal) → r ≢ text.Memory → q ≢ text.Memory → SaysNet bytes (Err r) → SaysNet bytes (Err q) → r ≡ q
one_text bytes r q m n a b = elim (only_answer bytes (Err r) a (Err q) (λ e. n (ap (refusal_or q) e)) b) [
  | inl e ↦ ap (refusal_or r) e
  | inr e ↦ absurd (m (ap (refusal_or r) e))
]

one_rule : OneRefusal → (net : Net) (r q : NetRefusal) → r ≢ rule.Memory → q ≢ rule.Memory → RefusalHolds net r → RefusalHolds net q → r ≡ q
one_rule law net (rule.Rule k x) (rule.Rule l y) m n a b = let e = law net k l x y a b in ap (λ i. rule.Rule i x) e.0 ∙ ap (λ p. rule.Rule l p) e.1
one_rule law net (rule.Rule k x) rule.Memory m n a b = absurd (n refl)
one_rule law net rule.Memory q m n a b = absurd (m refl)

one_netlist : OneRefusal → (bytes : Text) (r q : NetlistRefusal) → IsSome (netlist_number r) → IsSome (netlist_number q) → NetlistSays bytes (Err r) → NetlistSays bytes (Err q) → r ≡ q
one_netlist law bytes (netlist.Text r) (netlist.Text q) m n a b = ap netlist.Text (one_text bytes r q a.told b.told a.cause b.cause)
one_netlist law bytes (netlist.Text r) (netlist.Rule q) m n a b = absurd (no_text bytes b.net r b.read a.told a.cause)
one_netlist law bytes (netlist.Text r) netlist.Memory m n a b = absurd (false≢true n)
one_netlist law bytes (netlist.Rule r) (netlist.Text q) m n a b = absurd (no_text bytes a.net q a.read b.told b.cause)
one_netlist law bytes (netlist.Rule r) (netlist.Rule q) m n a b =
    ap netlist.Rule (one_rule law b.net r q a.told b.told (subst (λ (k : Net). RefusalHolds k r) (same_net bytes b.net a.net b.read a.read) a.cause) b.cause)
one_netlist law bytes (netlist.Rule r) netlist.Memory m n a b = absurd (false≢true n)
one_netlist law bytes netlist.Memory q m n a b = absurd (false≢true m)

-- ---- what is printed of two refusals

-- the same refusal of work on the same files prints the same
same_run : (f g : RunFiles) (label : Text) (r : RunRefusal) → f.inputs.now ≡ g.inputs.now → option_copied f.schedule ≡ option_copied g.schedule → run_parts f label r ≡ run_parts g label r
same_run f g label (run.Inputs r) i s = ap (λ w. input_parts w label r) i
same_run f g label (run.Schedule r) i s = ap (λ o. line_parts (front o) label (schedule_line r)) s
same_run f g label (run.NotEnabled n) i s = ap (λ o. line_parts (front o) label (Some n)) s
same_run f g label (run.Limit n) i s = refl
same_run f g label run.Stuck i s = refl
same_run f g label (run.Stray array name) i s = refl
same_run f g label run.Memory i s = refl

abbrev net_label : NetlistRefusal → Text
net_label r = printed (netlist_number r) (netlist_word r)

abbrev run_label : RunRefusal → Text
run_label r = printed (run_refusal_number r) (run_refusal_word r)

-- ---- two calls

abbrev NetRefused : Text → Text → Refusal → Type 0
NetRefused word bytes r = Wraps work.Net (NamesFile word) (λ x. NetlistSays bytes (Err x)) r

abbrev RunRefused : Text → Text → RunOptions → Text → Refusal → Type 0
RunRefused inputs bytes o is r = Wraps work.Run (NamesRun inputs None) (λ x. OfNet bytes (λ net. Runs net is o (Err x))) r

module _ (checks : CheckedIsNotRefused) (one : OneRefusal) (law : RunsTellOneThing) (word inputs ns is : Text) (o : RunOptions) (workers : Option ℕ) (plain : TellsNoOrder o workers) where
  nets_once : (r q : Refusal) → IsTold (Err r) → IsTold (Err q) → NetRefused word ns r → NetRefused word ns q → PrintTheSame (Err r) (Err q)
  nets_once r q m n a b =
      let has_a : IsSome (netlist_number a.refused) = subst (λ (x : Refusal). IsSome (label_number x)) a.is m in
      let has_b : IsSome (netlist_number b.refused) = subst (λ (x : Refusal). IsSome (label_number x)) b.is n in
      let same : a.refused ≡ b.refused = one_netlist one ns a.refused b.refused has_a has_b a.holds b.holds in (
        ap refusal_code a.is ∙ sym (ap refusal_code b.is),
        ap refusal_parts a.is ∙ ap (λ w. net_parts w (net_label a.refused) a.refused) (a.named ∙ sym b.named)
            ∙ ap (λ x. net_parts b.files.now (net_label x) x) same ∙ sym (ap refusal_parts b.is),
      )

  -- a netlist that is refused has no run
  not_both : (p : RunOptions) (r : Refusal) → IsTold (Err r) → NetRefused word ns r → (H : Net → Type 0) → OfNet ns H → ⊥
  not_both p r m a H run = no_netlist checks ns run.net a.refused run.read (subst (λ (x : Refusal). IsSome (label_number x)) a.is m) a.holds

  some_run : (p : RunOptions) (r : Refusal) → IsTold (Err r) → (w : RunRefused inputs ns p is r) → ◌≢◌ {A = Result Text RunRefusal} (Err w.refused) (Err run.Memory)
  some_run p r m w e = run_told w.refused (subst (λ (x : Refusal). IsSome (label_number x)) w.is m) (ap (error_or w.refused) e)

  -- two runs have one answer
  answers_one : (x y : Result Text RunRefusal) → x ≢ Err run.Memory → y ≢ Err run.Memory → OfNet ns (λ net. Runs net is o x) → OfNet ns (λ net. Runs net is (with_workers o workers) y) → x ≡ y
  answers_one x y m n a b =
      law b.net is o workers x y b.read.checked plain m n (subst (λ (k : Net). Runs k is o x) (same_net ns b.net a.net b.read.read a.read.read) a.holds) b.holds

  run_once : (a b : Result Text Refusal) → IsTold a → IsTold b → RunsNet word inputs o ns is a → RunsNet word inputs (with_workers o workers) ns is b → PrintTheSame a b
  run_once (Ok s) (Ok t) m n a b = ap (text_or s) (answers_one (Ok s) (Ok t) (λ e. absurd (cc)) (λ e. absurd (cc)) a b)
  run_once (Ok s) (Err q) m n a (inl b) = not_both o q n b _ a
  run_once (Ok s) (Err q) m n a (inr b) = subst is_text (answers_one (Ok s) (Err b.refused) (λ e. absurd (cc)) (some_run (with_workers o workers) q n b) a b.holds) tt
  run_once (Err r) (Ok t) m n (inl a) b = not_both o r m a _ b
  run_once (Err r) (Ok t) m n (inr a) b = subst is_text (sym (answers_one (Err a.refused) (Ok t) (some_run o r m a) (λ e. absurd (cc)) a.holds b)) tt
  run_once (Err r) (Err q) m n (inl a) (inl b) = nets_once r q m n a b
  run_once (Err r) (Err q) m n (inl a) (inr b) = absurd (not_both o r m a _ b.holds)
  run_once (Err r) (Err q) m n (inr a) (inl b) = absurd (not_both o q n b _ a.holds)
  run_once (Err r) (Err q) m n (inr a) (inr b) =
      let same : a.refused ≡ b.refused = ap (error_or a.refused) (answers_one (Err a.refused) (Err b.refused) (some_run o r m a) (some_run (with_workers o workers) q n b) a.holds b.holds) in (
        ap refusal_code a.is ∙ ap run_code same ∙ sym (ap refusal_code b.is),
        ap refusal_parts a.is ∙ same_run a.files b.files (run_label a.refused) a.refused (a.named.0 ∙ sym b.named.0) (a.named.1 ∙ sym b.named.1)
            ∙ ap (λ x. run_parts b.files (run_label x) x) same ∙ sym (ap refusal_parts b.is),
      )

pub runs_print_once : CheckedIsNotRefused → OneRefusal → RunsTellOneThing → RunsPrintOnce
runs_print_once checks one law c contents workers a b e plain x y =
    run_once checks one law (at c.plain 0) (at c.plain 1) (at contents 0) (at contents 1) (options_of c.chosen) workers plain a b (is_told c contents a x)
    (is_told (by_workers c workers) contents b y) (by_verb Run c contents a e x) (by_verb Run (by_workers c workers) contents b e y)

pub runs_tell_as_many : IsOfOneInputs → RunTextsAreOne → CyclesAreOne → RunsTellAsMany
runs_tell_as_many one texts law c contents workers s t e counted x y =
    let a : OfNet (at contents 0) (λ net. Runs net (at contents 1) (options_of c.chosen) (Ok s)) = by_verb Run c contents (Ok s) e x in
    let b : OfNet (at contents 0) (λ net. Runs net (at contents 1) (with_workers (options_of c.chosen) workers) (Ok t)) = by_verb Run (by_workers c workers) contents (Ok t) e y in
    tell_as_many one texts law b.net (at contents 1) s t (options_of c.chosen) workers b.read.checked counted
    (subst (λ (k : Net). Runs k (at contents 1) (options_of c.chosen) (Ok s)) (same_net (at contents 0) b.net a.net b.read.read a.read.read) a.holds) b.holds
