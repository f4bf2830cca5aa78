-- Calls of compile and of go print one thing, and one net.
use Rattle.std.proofs.Common.{◌≡◌, ◌≢◌, ◌⊎◌, inl, inr, ℕ, Bool, List, refl, sym, ap, subst, ◌∙◌, arith}
use Rattle.std.specs.Prelude.{IsSome, Option, Result, Ok, Err}
use Rattle.el_base.specs.Labels.{printed}
use Rattle.net_types.specs.declared.net.Net.{Net}
use Rattle.net_types.specs.declared.firing.Inputs.{Inputs}
use Rattle.net_core.specs.Runs.{Long}
use Rattle.net_text.specs.Refusals.{Says as SaysNet}
use Rattle.kernel_front.specs.declared.refusal.KernelRefusal.{KernelRefusal}
use Rattle.kernel_front.specs.declared.refusal.KernelRefusal.TheVariants as front
use Rattle.kernel_front.specs.Refusals.{refusal_number as kernel_number, refusal_word as kernel_word, refusal_span as kernel_span}
use Rattle.net_runs.specs.declared.options.RunOptions.{RunOptions}
use Rattle.net_runs.specs.declared.refusal.RunRefusal.TheVariants as run
use Rattle.net_runs.specs.Given.{Gives}
use Rattle.net_runs.specs.Laws.{with_workers}
use Rattle.kernel_runs.specs.declared.options.CircuitOptions.{CircuitOptions}
use Rattle.kernel_runs.specs.declared.refusal.GoRefusal.{GoRefusal}
use Rattle.kernel_runs.specs.declared.refusal.GoRefusal.TheVariants as go
use Rattle.kernel_runs.specs.Circuits.{Compiles}
use Rattle.kernel_runs.specs.Goes.{Goes}
use Rattle.kernel_runs.specs.OneAnswer.{CompilesHaveOneAnswer, OneNetIsPrinted, LimitDecides, LimitIsOfPrintedNet}
use Rattle.kernel_runs.specs.Refusals.{go_number, go_word}
use Rattle.command_words.specs.declared.verb.Verb.{Verb}
use Rattle.command_words.specs.declared.verb.Verb.TheVariants.{Compile, Go}
use Rattle.command_words.specs.declared.command.Chosen.{Chosen}
use Rattle.command_words.specs.Tables.{Text}
use Rattle.command_words.specs.Commands.{Asked}
use Rattle.elastic_top.specs.Answers.{Answers, AnswersBy, IsSaid, CompilesKernel, GoesKernel, at}
use Rattle.elastic_top.specs.Faults.{label_number, refusal_code, refusal_parts, go_code, go_parts, span_parts, input_parts}
use Rattle.elastic_top.specs.OneAnswer.{PrintTheSame, CompilesPrintOnce, by_workers, TellsNoOrder, GoesPrintOnce, with_wrap, WrapChangesNothing, CompilesFor, OneNetIsShown, answer_code, StatusEightIsLong}
use Rattle.elastic_top.specs.Options.{circuit_of, options_of, limit_or}
use Rattle.elastic_top.specs.declared.fault.KernelFiles.{KernelFiles}
use Rattle.elastic_top.specs.declared.fault.Refusal.{Refusal}
use Rattle.elastic_top.proofs.CycleLemmas.{GoesTellOneThing}
use Rattle.elastic_top.proofs.SoundLemmas.{kernel_told, go_told}

-- ---- answers by the verb

-- a text, or a refusal that has a number
abbrev pub IsTold : Result Text Refusal → Type 0
IsTold (Ok text) = Unit {0}
IsTold (Err r) = IsSome (label_number r)

pub is_told : (c : Asked) (contents : List Text) (a : Result Text Refusal) → Answers c contents a → IsTold a
is_told c contents (Ok text) is = tt
is_told c contents (Err r) is = is.0

pub by_verb : (v : Verb) (c : Asked) (contents : List Text) (a : Result Text Refusal) → c.verb ≡ v → Answers c contents a → AnswersBy v c.plain c.chosen contents a
by_verb v c contents (Ok text) e is = subst (λ x. AnswersBy x c.plain c.chosen contents (Ok text)) e is
by_verb v c contents (Err r) e is = subst (λ x. AnswersBy x c.plain c.chosen contents (Err r)) e is.1

answers : (c : Asked) (contents : List Text) (a : Result Text Refusal) → IsTold a → IsSaid c contents a → Answers c contents a
answers c contents (Ok text) told is = is
answers c contents (Err r) told is = (told, is)

-- ---- compile

abbrev pub text_or : {E : Type 0} → Text → Result Text E → Text
text_or t (Ok text) = text
text_or t (Err e) = t

abbrev pub error_or : {E : Type 0} → E → Result Text E → E
error_or e (Ok text) = e
error_or e (Err x) = x

abbrev pub is_text : {E : Type 0} → Result Text E → Type 0
is_text (Ok text) = Unit {0}
is_text (Err e) = ⊥

abbrev kernel_parts : Text → KernelRefusal → List Text
kernel_parts word r = span_parts word (printed (kernel_number r) (kernel_word r)) (kernel_span r)

module _ (law : CompilesHaveOneAnswer) (word bytes : Text) (o : CircuitOptions) where
  no_memory : (r : Refusal) → IsTold (Err r) → (w : CompilesKernel word o bytes (Err r)) → ◌≢◌ {A = Result Text KernelRefusal} (Err w.refused) (Err front.Memory)
  no_memory r told w e = kernel_told w.refused (subst (λ (x : Refusal). IsSome (label_number x)) w.is told) (ap (error_or w.refused) e)

  compile_once : (a b : Result Text Refusal) → IsTold a → IsTold b → CompilesKernel word o bytes a → CompilesKernel word o bytes b → PrintTheSame a b
  compile_once (Ok s) (Ok t) m n a b = ap (text_or s) (law bytes o (Ok s) (Ok t) (λ e. absurd (cc)) (λ e. absurd (cc)) a b)
  compile_once (Ok s) (Err q) m n a b = subst is_text (law bytes o (Ok s) (Err b.refused) (λ e. absurd (cc)) (no_memory q n b) a b.holds) tt
  compile_once (Err r) (Ok t) m n a b = subst is_text (sym (law bytes o (Err a.refused) (Ok t) (no_memory r m a) (λ e. absurd (cc)) a.holds b)) tt
  compile_once (Err r) (Err q) m n a b =
      let same : a.refused ≡ b.refused = ap (error_or a.refused) (law bytes o (Err a.refused) (Err b.refused) (no_memory r m a) (no_memory q n b) a.holds b.holds) in (
        ap refusal_code a.is ∙ sym (ap refusal_code b.is),
        ap refusal_parts a.is ∙ ap (λ w. kernel_parts w a.refused) (a.named ∙ sym b.named) ∙ ap (kernel_parts b.files.now) same ∙ sym (ap refusal_parts b.is),
      )

pub compiles_print_once : CompilesHaveOneAnswer → CompilesPrintOnce
compiles_print_once law c contents a b e x y =
    compile_once law (at c.plain 0) (at contents 0) (circuit_of c.chosen) a b (is_told c contents a x) (is_told c contents b y) (by_verb Compile c contents a e x) (by_verb Compile c contents b e y)

-- ---- go

same_parts : (f g : KernelFiles) (label : Text) (r : GoRefusal) → f.kernel.now ≡ g.kernel.now → f.inputs.now ≡ g.inputs.now → go_parts f label r ≡ go_parts g label r
same_parts f g label (go.Kernel r) k i = ap (λ w. span_parts w label (kernel_span r)) k
same_parts f g label (go.Run (run.Inputs r)) k i = ap (λ w. input_parts w label r) i
same_parts f g label (go.Run (run.Schedule r)) k i = refl
same_parts f g label (go.Run (run.NotEnabled n)) k i = refl
same_parts f g label (go.Run (run.Limit n)) k i = refl
same_parts f g label (go.Run run.Stuck) k i = refl
same_parts f g label (go.Run (run.Stray array name)) k i = refl
same_parts f g label (go.Run run.Memory) k i = refl
same_parts f g label go.Memory k i = refl

module _ (law : GoesTellOneThing) (kernel inputs ks is : Text) (c : CircuitOptions) (o : RunOptions) (workers : Option ℕ) (plain : TellsNoOrder o workers) where
  no_want : (p : RunOptions) (r : Refusal) → IsTold (Err r) → (w : GoesKernel kernel inputs c p ks is (Err r)) → ◌≢◌ {A = Result Text GoRefusal} (Err w.refused) (Err go.Memory)
  no_want p r told w e = go_told w.refused (subst (λ (x : Refusal). IsSome (label_number x)) w.is told) (ap (error_or w.refused) e)

  go_once : (a b : Result Text Refusal) → IsTold a → IsTold b → GoesKernel kernel inputs c o ks is a
      → GoesKernel kernel inputs c (with_workers o workers) ks is b → PrintTheSame a b
  go_once (Ok s) (Ok t) m n a b = ap (text_or s) (law ks is c o workers (Ok s) (Ok t) plain (λ e. absurd (cc)) (λ e. absurd (cc)) a b)
  go_once (Ok s) (Err q) m n a b = subst is_text (law ks is c o workers (Ok s) (Err b.refused) plain (λ e. absurd (cc)) (no_want (with_workers o workers) q n b) a b.holds) tt
  go_once (Err r) (Ok t) m n a b = subst is_text (sym (law ks is c o workers (Err a.refused) (Ok t) plain (no_want o r m a) (λ e. absurd (cc)) a.holds b)) tt
  go_once (Err r) (Err q) m n a b =
      let same : a.refused ≡ b.refused = ap (error_or a.refused) (law ks is c o workers (Err a.refused) (Err b.refused) plain (no_want o r m a) (no_want (with_workers o workers) q n b) a.holds b.holds) in (
        ap refusal_code a.is ∙ ap go_code same ∙ sym (ap refusal_code b.is),
        ap refusal_parts a.is
            ∙ same_parts a.files b.files (printed (go_number a.refused) (go_word a.refused)) a.refused (a.named.0 ∙ sym b.named.0) (a.named.1 ∙ sym b.named.1)
            ∙ ap (λ r. go_parts b.files (printed (go_number r) (go_word r)) r) same ∙ sym (ap refusal_parts b.is),
      )

pub goes_print_once : GoesTellOneThing → GoesPrintOnce
goes_print_once law c contents workers a b e plain x y =
    go_once law (at c.plain 0) (at c.plain 1) (at contents 0) (at contents 1) (circuit_of c.chosen) (options_of c.chosen) workers plain a b (is_told c contents a x)
    (is_told (by_workers c workers) contents b y) (by_verb Go c contents a e x) (by_verb Go (by_workers c workers) contents b e y)

-- ---- signed results

abbrev WrapsAlike : List Text → Chosen → List Text → Bool → Result Text Refusal → Verb → Type 0
WrapsAlike plain chosen contents wrap a v = AnswersBy v plain chosen contents a → AnswersBy v plain (record chosen { wrap = wrap }) contents a

compiles_alike : (plain : List Text) (chosen : Chosen) (contents : List Text) (wrap : Bool) (a : Result Text Refusal) → WrapsAlike plain chosen contents wrap a Compile
compiles_alike plain chosen contents wrap (Ok text) is = is
compiles_alike plain chosen contents wrap (Err r) is = record { files = is.files; refused = is.refused; is = is.is; named = is.named; holds = is.holds }

goes_alike : (plain : List Text) (chosen : Chosen) (contents : List Text) (wrap : Bool) (a : Result Text Refusal) → WrapsAlike plain chosen contents wrap a Go
goes_alike plain chosen contents wrap (Ok text) is = is
goes_alike plain chosen contents wrap (Err r) is = record { files = is.files; refused = is.refused; is = is.is; named = is.named; holds = is.holds }

pub wrap_changes_nothing : WrapChangesNothing
wrap_changes_nothing c contents a wrap one is =
    answers (with_wrap c wrap) contents a (is_told c contents a is) (by one (by_verb c.verb c contents a refl is))
  where
    by : (c.verb ≡ Compile) ⊎ (c.verb ≡ Go) → WrapsAlike c.plain c.chosen contents wrap a c.verb
    by (inl e) = subst (WrapsAlike c.plain c.chosen contents wrap a) (sym e) (compiles_alike c.plain c.chosen contents wrap a)
    by (inr e) = subst (WrapsAlike c.plain c.chosen contents wrap a) (sym e) (goes_alike c.plain c.chosen contents wrap a)

-- ---- two calls

module _ (c d : Asked) (compiled contents : List Text) (text : Text) (for : CompilesFor text c compiled d contents) where
  compiles : Compiles (at contents 0) (circuit_of d.chosen) (Ok text)
  compiles =
      let one : Compiles (at compiled 0) (circuit_of c.chosen) (Ok text) = by_verb Compile c compiled (Ok text) for.compiles for.answer in
      subst (λ bytes. Compiles bytes (circuit_of d.chosen) (Ok text)) for.kernel (subst (λ (o : CircuitOptions). Compiles (at compiled 0) o (Ok text)) for.circuit one)

  module _ (net : Net) (inputs : Inputs) (says : SaysNet text (Ok net)) (given : Gives net (at contents 1) inputs) (law : LimitIsOfPrintedNet) where
    decides : LimitDecides net (at contents 0) (at contents 1) (circuit_of d.chosen) (options_of d.chosen) inputs
    decides = law (at contents 0) (at contents 1) text (circuit_of d.chosen) (options_of d.chosen) net inputs compiles says given

    go_long : (r : GoRefusal) → go_code r ≡ 8 → Goes (at contents 0) (at contents 1) (circuit_of d.chosen) (options_of d.chosen) (Err r) → Long net inputs (limit_or d.chosen.limit)
    go_long (go.Kernel r) e is = absurd (omega arith)
    go_long (go.Run (run.Inputs r)) e is = absurd (omega arith)
    go_long (go.Run (run.Schedule r)) e is = absurd (omega arith)
    go_long (go.Run (run.NotEnabled n)) e is = absurd (omega arith)
    go_long (go.Run (run.Limit n)) e is = (decides.long n is).1
    go_long (go.Run run.Stuck) e is = absurd (omega arith)
    go_long (go.Run (run.Stray array name)) e is = absurd (omega arith)
    go_long (go.Run run.Memory) e is = absurd (omega arith)
    go_long go.Memory e is = absurd (omega arith)

    long : (a : Result Text Refusal) → Answers d contents a → answer_code a ≡ 8 → Long net inputs (limit_or d.chosen.limit)
    long (Ok gone) is e = absurd (omega arith)
    long (Err r) is e =
        let w : GoesKernel (at d.plain 0) (at d.plain 1) (circuit_of d.chosen) (options_of d.chosen) (at contents 0) (at contents 1) (Err r) = by_verb Go d contents (Err r) for.goes is in
        go_long w.refused (sym (ap refusal_code w.is) ∙ e) w.holds

    eight : (a : Result Text Refusal) → Answers d contents a → Long net inputs (limit_or d.chosen.limit) → answer_code a ≡ 8
    eight (Ok gone) is more =
        let w : GoesKernel (at d.plain 0) (at d.plain 1) (circuit_of d.chosen) (options_of d.chosen) (at contents 0) (at contents 1) (Ok gone) = by_verb Go d contents (Ok gone) for.goes is in
        absurd (subst is_text (decides.refused (Ok gone) more (λ e. absurd (cc)) w) tt)
    eight (Err r) is more =
        let w : GoesKernel (at d.plain 0) (at d.plain 1) (circuit_of d.chosen) (options_of d.chosen) (at contents 0) (at contents 1) (Err r) = by_verb Go d contents (Err r) for.goes is in
        let told : IsSome (go_number w.refused) = subst (λ (x : Refusal). IsSome (label_number x)) w.is is.0 in
        ap refusal_code w.is ∙ ap (λ x. go_code (error_or w.refused x)) (decides.refused (Err w.refused) more (λ e. go_told w.refused told (ap (error_or w.refused) e)) w.holds)

pub one_net : OneNetIsPrinted → OneNetIsShown
one_net law c d compiled contents text gone for is =
    law (at contents 0) (at contents 1) text gone (circuit_of d.chosen) (options_of d.chosen) (compiles c d compiled contents text for) (by_verb Go d contents (Ok gone) for.goes is)

pub status_eight : LimitIsOfPrintedNet → StatusEightIsLong
status_eight law c d compiled contents text net inputs a for says given is =
    (long c d compiled contents text for net inputs says given law a is, eight c d compiled contents text for net inputs says given law a is)
