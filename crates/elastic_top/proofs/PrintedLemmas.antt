-- What replays and runs of a printed circuit show, and calls that have nothing to refuse.
use Rattle.std.proofs.Common.{◌≡◌, ◌≢◌, inl, inr, refl, sym, ap, subst, ◌∙◌}
use Rattle.std.specs.Prelude.{IsSome, is_some, Result, Ok, Err}
use Rattle.std.proofs.lemmas.Bool.{false≢true}
use Rattle.c_ast.specs.declared.typed.Typed.{Typed}
use Rattle.c_ast.specs.Nodes.{typed_nodes}
use Rattle.c_calls.specs.Inlined.{inlined}
use Rattle.c_calls.specs.Texts.{TypedExists}
use Rattle.net_types.specs.declared.net.Net.{Net}
use Rattle.net_text.specs.declared.refusal.TextRefusal.{TextRefusal}
use Rattle.net_text.specs.declared.refusal.TextRefusal.TheVariants as text
use Rattle.net_text.specs.Refusals.{Says as SaysNet}
use Rattle.net_text.proofs.Only.{only_answer}
use Rattle.net_check.specs.declared.refusal.NetRefusal.{NetRefusal}
use Rattle.net_check.specs.declared.refusal.NetRefusal.TheVariants as rule
use Rattle.net_check.specs.Checks.{IsChecked}
use Rattle.net_check.specs.Laws.{CheckedIsNotRefused}
use Rattle.net_check.specs.Refusals.{RefusalHolds}
use Rattle.net_front.specs.declared.refusal.NetlistRefusal.{NetlistRefusal}
use Rattle.net_front.specs.declared.refusal.NetlistRefusal.TheVariants as netlist
use Rattle.net_front.specs.Answers.{IsNetlist, NetlistSays}
use Rattle.net_front.specs.Refusals.{netlist_number}
use Rattle.net_runs.specs.declared.options.RunOptions.{RunOptions}
use Rattle.net_runs.specs.declared.refusal.RunRefusal.{RunRefusal}
use Rattle.net_runs.specs.declared.refusal.RunRefusal.TheVariants as run
use Rattle.net_runs.specs.Laws.{IsSoundRun, RunsAreComplete}
use Rattle.net_runs.specs.Refusals.{run_refusal_number}
use Rattle.net_runs.specs.Replays.{Replays}
use Rattle.net_runs.specs.Runs.{Runs}
use Rattle.kernel_front.specs.Laws.{TextsThatTypeAreKernels}
use Rattle.kernel_runs.specs.Circuits.{Compiles}
use Rattle.kernel_runs.specs.Printed.{ReplaysAreRight, RunsAreRight, InterpretedKernelsGo}
use Rattle.kernel_runs.specs.Refusals.{go_number}
use Rattle.command_words.specs.declared.verb.Verb.TheVariants.{Compile, Go, Run, Replay}
use Rattle.command_words.specs.Tables.{Text}
use Rattle.elastic_top.specs.Answers.{OfNet, RunsNet, GoesKernel, at}
use Rattle.elastic_top.specs.Faults.{label_number}
use Rattle.elastic_top.specs.Laws.{EndingKernelsGo, KernelsAreCompiled}
use Rattle.elastic_top.specs.Options.{circuit_of, options_of, interpretation_of}
use Rattle.elastic_top.specs.Printed.{ReplaysShowTheEnd, RunsShowTheEnd, SoundRunsAreAnswered, TypedTextsAreCompiled, TypedTextsGo, InterpretedKernelsAreRun}
use Rattle.elastic_top.specs.declared.fault.Refusal.{Refusal}
use Rattle.elastic_top.proofs.OneAnswerLemmas.{by_verb}
use Rattle.elastic_top.proofs.SoundLemmas.{go_told}

-- ---- the printed circuit

pub replays_show : ReplaysAreRight → ReplaysShowTheEnd
replays_show law c d compiled contents shown k p z out r t on e is =
    let printed : Compiles (at compiled 0) (circuit_of c.chosen) (Ok (at contents 0)) = by_verb Compile c compiled (Ok (at contents 0)) on.compiles on.answer in
    let of : OfNet (at contents 0) (λ net. Replays net (at contents 1) (at contents 2) (Ok shown)) = by_verb Replay d contents (Ok shown) e is in
    law (at compiled 0) (at contents 0) (at contents 1) (at contents 2) shown (circuit_of c.chosen) (record { typed = k; nodes = on.nodes }) of.net on.kernel printed of.read.read of.holds p z out r t
    on.given on.ends

pub runs_show : RunsAreRight → RunsShowTheEnd
runs_show law c d compiled contents shown k p z out r t on e is =
    let printed : Compiles (at compiled 0) (circuit_of c.chosen) (Ok (at contents 0)) = by_verb Compile c compiled (Ok (at contents 0)) on.compiles on.answer in
    let of : OfNet (at contents 0) (λ net. Runs net (at contents 1) (options_of d.chosen) (Ok shown)) = by_verb Run d contents (Ok shown) e is in
    law (at compiled 0) (at contents 0) (at contents 1) shown (circuit_of c.chosen) (options_of d.chosen) (record { typed = k; nodes = on.nodes }) of.net on.kernel printed of.read.read of.holds p z out r t
    on.given on.ends

-- ---- run

abbrev is_ok : Result Net TextRefusal → Type 0
is_ok (Ok net) = Unit {0}
is_ok (Err r) = ⊥

abbrev net_or : Net → Result Net TextRefusal → Net
net_or n (Ok net) = net
net_or n (Err r) = n

abbrev refusal_or : TextRefusal → Result Net TextRefusal → TextRefusal
refusal_or r (Ok net) = r
refusal_or r (Err q) = q

pub same_net : (bytes : Text) (net net2 : Net) → SaysNet bytes (Ok net) → SaysNet bytes (Ok net2) → net2 ≡ net
same_net bytes net net2 a b = elim (only_answer bytes (Ok net) a (Ok net2) (λ e. subst is_ok e tt) b) [
  | inl e ↦ sym (ap (net_or net) e)
  | inr e ↦ absurd (subst is_ok e tt)
]

pub no_text : (bytes : Text) (net : Net) (r : TextRefusal) → SaysNet bytes (Ok net) → r ≢ text.Memory → SaysNet bytes (Err r) → ⊥
no_text bytes net r a some says = elim (only_answer bytes (Ok net) a (Err r) (λ e. some (ap (refusal_or r) e)) says) [
  | inl e ↦ subst is_ok e tt
  | inr e ↦ subst is_ok e tt
]

no_rule : CheckedIsNotRefused → (net : Net) (r : NetRefusal) → IsChecked net → r ≢ rule.Memory → RefusalHolds net r → ⊥
no_rule law net (rule.Rule number place) checked some is = law net number place checked is
no_rule law net rule.Memory checked some is = some refl

pub no_netlist : CheckedIsNotRefused → (bytes : Text) (net : Net) (r : NetlistRefusal) → IsNetlist bytes net → IsSome (netlist_number r) → NetlistSays bytes (Err r) → ⊥
no_netlist law bytes net (netlist.Text r) a told is = no_text bytes net r a.read is.told is.cause
no_netlist law bytes net (netlist.Rule r) a told is =
    no_rule law net r a.checked is.told (subst (λ (n : Net). RefusalHolds n r) (same_net bytes net is.net a.read is.read) is.cause)
no_netlist law bytes net netlist.Memory a told is = false≢true told

pub run_told : (r : RunRefusal) → IsSome (run_refusal_number r) → r ≢ run.Memory
run_told r has e = false≢true (sym (ap (λ (x : RunRefusal). is_some (run_refusal_number x)) e) ∙ has)

module _ (law : CheckedIsNotRefused) (complete : RunsAreComplete) (word inputs_word bytes inputs : Text) (o : RunOptions) (net : Net) (list : IsNetlist bytes net) (sound : IsSoundRun net inputs o) where
  none : (r : Refusal) → IsSome (label_number r) → RunsNet word inputs_word o bytes inputs (Err r) → ⊥
  none r told (inl w) = no_netlist law bytes net w.refused list (subst (λ (x : Refusal). IsSome (label_number x)) w.is told) w.holds
  none r told (inr w) =
      let has : IsSome (run_refusal_number w.refused) = subst (λ (x : Refusal). IsSome (label_number x)) w.is told in
      let same : w.holds.net ≡ net = same_net bytes net w.holds.net list.read w.holds.read.read in
      complete net inputs o w.refused list.checked sound (run_told w.refused has) (subst (λ (n : Net). Runs n inputs o (Err w.refused)) same w.holds.holds)

pub sound_runs : CheckedIsNotRefused → RunsAreComplete → SoundRunsAreAnswered
sound_runs law complete c contents net e list sound r is =
    none law complete (at c.plain 0) (at c.plain 1) (at contents 0) (at contents 1) (options_of c.chosen) net list sound r is.0 (by_verb Run c contents (Err r) e is)

-- ---- compile and go

pub typed_compiled : KernelsAreCompiled → TextsThatTypeAreKernels → TypedExists → TypedTextsAreCompiled
typed_compiled law kernels some c contents p e spells typing small =
    let P = some p typing in
    let k : Typed = inlined P.0 in
    law c contents (record { typed = k; nodes = typed_nodes k }) e
    (kernels (at contents 0) P.0 k (record { program = p; within = spells; typing = typing; casts = P.1 }) refl (small P.0 k P.1 refl))

pub typed_go : EndingKernelsGo → TextsThatTypeAreKernels → TypedTextsGo
typed_go law kernels c contents P k e spells made small ends =
    law c contents e (record { kernel = record { typed = k; nodes = typed_nodes k }; read = kernels (at contents 0) P k spells made small; ends = ends })

pub interpreted_run : InterpretedKernelsGo → InterpretedKernelsAreRun
interpreted_run law c plain chosen contents told ended e within r is =
    let w : GoesKernel (at c.plain 0) (at c.plain 1) (circuit_of c.chosen) (options_of c.chosen) (at contents 0) (at contents 1) (Err r) = by_verb Go c contents (Err r) e is in
    let has : IsSome (go_number w.refused) = subst (λ (x : Refusal). IsSome (label_number x)) w.is is.0 in
    law (at contents 0) (at contents 1) told ended.kernel (circuit_of c.chosen) (options_of c.chosen) (interpretation_of chosen) w.refused ended.read ended.holds within (go_told w.refused has) w.holds
