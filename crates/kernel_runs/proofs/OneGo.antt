-- Two answers for one kernel, and the net that is printed for it.
use Rattle.std.proofs.Common.{◌≡◌, ◌≢◌, inl, inr, ℕ, List, length, ◌++◌, refl, sym, ap, subst, ◌∙◌}
use Rattle.std.specs.Prelude.{Bool, true, false, codes, Option, Result, Ok, Err}
use Rattle.c_ast.specs.declared.typed.Typed.{Typed}
use Rattle.c_meaning.specs.declared.profile.Profile.TheVariants.{Plain}
use Rattle.net_types.specs.declared.net.Net.{Net}
use Rattle.net_types.specs.declared.firing.Inputs.{Inputs}
use Rattle.net_check.specs.Checks.{IsChecked}
use Rattle.net_core.specs.Runs.{Long}
use Rattle.net_text.specs.declared.refusal.TextRefusal.{TextRefusal}
use Rattle.net_text.specs.Refusals.{ReadsBack, Says as SaysNet}
use Rattle.net_text.specs.Texts.{NetText, IsOneText}
use Rattle.inputs_text.specs.Texts.{IsOfOneInputs}
use Rattle.kernel_front.specs.declared.reading.Kernel.{Kernel}
use Rattle.kernel_front.specs.declared.refusal.KernelRefusal.{KernelRefusal}
use Rattle.kernel_front.specs.declared.refusal.KernelRefusal.TheVariants as front
use Rattle.kernel_front.specs.Answers.{Says, HasOneAnswer}
use Rattle.kernel_compile.specs.Compiling.{IsCircuit, CircuitsAreOne}
use Rattle.net_runs.specs.declared.options.RunOptions.{RunOptions}
use Rattle.net_runs.specs.declared.refusal.RunRefusal.{RunRefusal}
use Rattle.net_runs.specs.declared.refusal.RunRefusal.TheVariants as run
use Rattle.net_runs.specs.Given.{Bytes, Gives}
use Rattle.net_runs.specs.Runs.{Runs}
use Rattle.net_runs.specs.Laws.{AsksForNoCycles, with_workers}
use Rattle.net_runs.proofs.OneRuns.{Alike, Kind, kind_of_answer, kinds_one, runs_one, texts_show}
use Rattle.kernel_runs.specs.declared.options.CircuitOptions.{CircuitOptions}
use Rattle.kernel_runs.specs.declared.refusal.GoRefusal.{GoRefusal}
use Rattle.kernel_runs.specs.declared.refusal.GoRefusal.TheVariants as refusal
use Rattle.kernel_runs.specs.Circuits.{OfCircuit, IsNoKernel, Compiles}
use Rattle.kernel_runs.specs.Goes.{Goes}
use Rattle.kernel_runs.specs.OneAnswer.{CompilesHaveOneAnswer, GoesHaveOneAnswer, RefusalsAreOne, TextsShowOneRun, OneNetIsPrinted, LimitDecides, LimitIsOfPrintedNet}
use Rattle.kernel_runs.proofs.RefusedLemmas.{one_kernel, kernel_or_not, no_kernel}

-- ---- the net of a text

abbrev is_net : Result Net TextRefusal → Type 0
is_net (Ok net) = Unit {0}
is_net (Err r) = ⊥

abbrev net_or : Net → Result Net TextRefusal → Net
net_or n (Ok net) = net
net_or n (Err r) = n

-- the text is read as this net alone
pub same_net : (text : Bytes) (net net2 : Net) → ReadsBack text net → SaysNet text (Ok net2) → net2 ≡ net
same_net text net net2 back says = elim (back (Ok net2) says) [
  | inl e ↦ ap (net_or net2) e
  | inr e ↦ absurd (subst is_net e tt)
]

-- ---- the kernel, its refusal and its circuit

said : (bytes : Bytes) (c : CircuitOptions) (r : KernelRefusal) → Compiles bytes c (Err r) → Says bytes (Err r)
said bytes c (front.Lex r) is = is
said bytes c (front.Parse r) is = is
said bytes c (front.Types r) is = is
said bytes c (front.Inline r) is = is
said bytes c front.Memory is = tt

abbrev is_want : KernelRefusal → Bool
is_want (front.Lex r) = false
is_want (front.Parse r) = false
is_want (front.Types r) = false
is_want (front.Inline r) = false
is_want front.Memory = true

told : (bytes : Bytes) (r : KernelRefusal) → IsNoKernel bytes r → (r ≢ front.Memory) × Says bytes (Err r)
told bytes (front.Lex r) is = (λ e. absurd (cc), is)
told bytes (front.Parse r) is = (λ e. absurd (cc), is)
told bytes (front.Types r) is = (λ e. absurd (cc), is)
told bytes (front.Inline r) is = (λ e. absurd (cc), is)
told bytes front.Memory is = absurd is

abbrev refusal_or : KernelRefusal → Result Kernel KernelRefusal → KernelRefusal
refusal_or r (Ok kernel) = r
refusal_or r (Err q) = q

abbrev run_or : RunRefusal → Result Bytes RunRefusal → RunRefusal
run_or r (Ok text) = r
run_or r (Err q) = q

abbrev text_or : Bytes → Result Bytes RunRefusal → Bytes
text_or t (Ok text) = text
text_or t (Err q) = t

abbrev is_text : Result Bytes RunRefusal → Type 0
is_text (Ok text) = Unit {0}
is_text (Err q) = ⊥

abbrev is_go_text : Result Bytes GoRefusal → Bool
is_go_text (Ok text) = true
is_go_text (Err e) = false

abbrev go_or : GoRefusal → Result Bytes GoRefusal → GoRefusal
go_or r (Ok text) = r
go_or r (Err q) = q

abbrev GoAlike : RunOptions → Result Bytes GoRefusal → Result Bytes GoRefusal → Type 0
GoAlike o a b = (is_go_text a ≡ true → is_go_text b ≡ true → AsksForNoCycles o)

never : {A : Type 0} → ◌≡◌ {A = Bool} false true → A
never e = absurd (cc)

module _ (one : (bytes : List ℕ) → HasOneAnswer bytes) (nets : CircuitsAreOne) (texts : IsOneText NetText) where
  refused_one : (bytes : Bytes) (r q : KernelRefusal) → r ≢ front.Memory → q ≢ front.Memory → Says bytes (Err r) → Says bytes (Err q) → r ≡ q
  refused_one bytes r q m n a b = elim (one bytes (Err r) a (Err q) (λ e. n (ap (refusal_or q) e)) b) [
    | inl e ↦ ap (refusal_or r) e
    | inr e ↦ absurd (m (ap (refusal_or r) e))
  ]

  pub net_one : (bytes : Bytes) (c : CircuitOptions) (H G : Typed → Net → Type 0) (a : OfCircuit bytes c H) (b : OfCircuit bytes c G) → a.net ≡ b.net
  net_one bytes c H G a b =
      let same : a.kernel ≡ b.kernel = one_kernel one bytes a.kernel b.kernel a.read b.read in
      nets c.timing c.forward b.kernel.typed a.net b.net (subst (λ (l : Kernel). IsCircuit c.timing c.forward l.typed a.net) same a.circuit) b.circuit

  text_one : (m n : Net) (s t : Bytes) → m ≡ n → NetText m s → NetText n t → s ≡ t
  text_one m n s t e a b = texts n s t (subst (λ (x : Net). NetText x s) e a) b

  pub compiles_one : CompilesHaveOneAnswer
  compiles_one bytes c (Ok s) (Ok t) m n a b = ap Ok (text_one a.net b.net s t (net_one bytes c _ _ a b) a.holds.whole b.holds.whole)
  compiles_one bytes c (Ok s) (Err q) m n a b = absurd (kernel_or_not one bytes a.kernel q a.read (λ e. n (ap Err e)) (said bytes c q b))
  compiles_one bytes c (Err r) (Ok t) m n a b = absurd (kernel_or_not one bytes b.kernel r b.read (λ e. m (ap Err e)) (said bytes c r a))
  compiles_one bytes c (Err r) (Err q) m n a b = ap Err (refused_one bytes r q (λ e. m (ap Err e)) (λ e. n (ap Err e)) (said bytes c r a) (said bytes c q b))

  -- ---- runs

  module _ (readings : IsOfOneInputs) (bytes inputs : Bytes) (c : CircuitOptions) (o : RunOptions) (workers : Option ℕ) where
    -- two runs of one circuit
    module _ (H G : Typed → Net → Type 0) (a : OfCircuit bytes c H) (b : OfCircuit bytes c G) where
      checked : IsChecked b.net
      checked = (b.circuit.good Plain).checked

      both_one : (r q : Result Bytes RunRefusal) → Alike o r q → r ≢ Err run.Memory → q ≢ Err run.Memory → Runs a.net inputs o r → Runs b.net inputs (with_workers o workers) q → r ≡ q
      both_one r q alike m n x y =
          runs_one readings b.net checked inputs o workers r q alike m n (subst (λ (k : Net). Runs k inputs o r) (net_one bytes c H G a b) x) y

    goes_ones : (a b : Result Bytes GoRefusal) → GoAlike o a b → a ≢ Err refusal.Memory → b ≢ Err refusal.Memory → Goes bytes inputs c o a
        → Goes bytes inputs c (with_workers o workers) b → a ≡ b
    goes_ones (Ok s) (Ok t) alike m n a b =
        let x = a.holds in
        let y = b.holds in
        let ran : x.run_text ≡ y.run_text =
        ap (text_or x.run_text) (both_one _ _ a b (Ok x.run_text) (Ok y.run_text) (λ p q. alike refl refl) (λ e. absurd (cc)) (λ e. absurd (cc)) x.runs y.runs) in
        let same : x.net_text ≡ y.net_text = text_one a.net b.net x.net_text y.net_text (net_one bytes c _ _ a b) x.printed.whole y.printed.whole in
        ap Ok (x.whole ∙ ap (λ z. z ++ codes "%%\n" ++ x.run_text) same ∙ ap (λ z. y.net_text ++ codes "%%\n" ++ z) ran ∙ sym y.whole)
    goes_ones (Ok s) (Err (refusal.Kernel q)) alike m n a b = absurd (no_kernel one bytes a.kernel q a.read b)
    goes_ones (Ok s) (Err (refusal.Run q)) alike m n a b =
        absurd (subst is_text (both_one _ _ a b (Ok a.holds.run_text) (Err q) (λ x y. never y) (λ e. absurd (cc)) (λ e. b.holds.cause (ap (run_or q) e)) a.holds.runs b.holds.runs) tt)
    goes_ones (Ok s) (Err refusal.Memory) alike m n a b = absurd (n refl)
    goes_ones (Err (refusal.Kernel r)) (Ok t) alike m n a b = absurd (no_kernel one bytes b.kernel r b.read a)
    goes_ones (Err (refusal.Kernel r)) (Err (refusal.Kernel q)) alike m n a b =
        let x = told bytes r a in
        let y = told bytes q b in
        ap (λ e. Err (refusal.Kernel e)) (refused_one bytes r q x.0 y.0 x.1 y.1)
    goes_ones (Err (refusal.Kernel r)) (Err (refusal.Run q)) alike m n a b = absurd (no_kernel one bytes b.kernel r b.read a)
    goes_ones (Err (refusal.Kernel r)) (Err refusal.Memory) alike m n a b = absurd (n refl)
    goes_ones (Err (refusal.Run r)) (Ok t) alike m n a b =
        absurd (subst is_text (sym (both_one _ _ a b (Err r) (Ok b.holds.run_text) (λ x y. never x) (λ e. a.holds.cause (ap (run_or r) e)) (λ e. absurd (cc)) a.holds.runs b.holds.runs)) tt)
    goes_ones (Err (refusal.Run r)) (Err (refusal.Kernel q)) alike m n a b = absurd (no_kernel one bytes a.kernel q a.read b)
    goes_ones (Err (refusal.Run r)) (Err (refusal.Run q)) alike m n a b =
        ap (λ e. Err (refusal.Run (run_or r e))) (both_one _ _ a b (Err r) (Err q) (λ x y. never x) (λ e. a.holds.cause (ap (run_or r) e)) (λ e. b.holds.cause (ap (run_or q) e)) a.holds.runs b.holds.runs)
    goes_ones (Err (refusal.Run r)) (Err refusal.Memory) alike m n a b = absurd (n refl)
    goes_ones (Err refusal.Memory) b alike m n x y = absurd (m refl)

  pub goes_one : IsOfOneInputs → GoesHaveOneAnswer
  goes_one readings bytes inputs c o workers a b plain m n x y = goes_ones readings bytes inputs c o workers a b (λ p q. plain) m n x y

  pub refusals_one : IsOfOneInputs → RefusalsAreOne
  refusals_one readings bytes inputs c o workers e b m n x y = sym (goes_ones readings bytes inputs c o workers (Err e) b (λ p q. never p) (λ is. m (ap (go_or e) is)) n x y)

  pub texts_one : IsOfOneInputs → TextsShowOneRun
  texts_one readings bytes inputs s t c o workers a b =
      let same : a.net ≡ b.net = net_one bytes c _ _ a b in
      let x = a.holds in
      let y = b.holds in
      let show = subst
      (λ (k : Net). (r : Runs k inputs o (Ok x.run_text)) → (r.holds.holds.told.results ≡ y.runs.holds.holds.told.results) × (length r.holds.firings ≡ length y.runs.holds.firings)) (sym same)
      (λ r. texts_show readings b.net (b.circuit.good Plain).checked inputs o workers x.run_text y.run_text r y.runs) x.runs in
      (same, text_one a.net b.net x.net_text y.net_text same x.printed.whole y.printed.whole, show.0, show.1)

  pub one_printed : OneNetIsPrinted
  one_printed bytes inputs text gone c o compiled goes =
      let same : goes.net ≡ compiled.net = net_one bytes c _ _ goes compiled in
      let x = goes.holds in
      record {
        run_text = x.run_text;
        whole = x.whole ∙ ap (λ z. z ++ codes "%%\n" ++ x.run_text) (text_one goes.net compiled.net x.net_text text same x.printed.whole compiled.holds.whole);
        runs = λ net says. subst (λ (k : Net). Runs k inputs o (Ok x.run_text)) (same ∙ sym (same_net text compiled.net net compiled.holds.read says)) x.runs;
      }

  -- ---- the limit

  module _ (readings : IsOfOneInputs) (kernel bytes text : Bytes) (c : CircuitOptions) (o : RunOptions) (net : Net) (inputs : Inputs) (compiled : Compiles kernel c (Ok text))
      (says : SaysNet text (Ok net)) (given : Gives net bytes inputs) where
    read_back : net ≡ compiled.net
    read_back = same_net text compiled.net net compiled.holds.read says

    net_checked : IsChecked net
    net_checked = subst IsChecked (sym read_back) (compiled.circuit.good Plain).checked

    -- the net of an answer is the one that is read
    there : (H : Typed → Net → Type 0) (a : OfCircuit kernel c H) (r : Result Bytes RunRefusal) → Runs a.net bytes o r → Runs net bytes o r
    there H a r is = subst (λ (k : Net). Runs k bytes o r) (net_one kernel c H _ a compiled ∙ sym read_back) is

    too_long : (n : ℕ) → Goes kernel bytes c o (Err (refusal.Run (run.Limit n))) → (n ≡ o.limit) × Long net inputs o.limit
    too_long n goes =
        let runs = there _ goes (Err (run.Limit n)) goes.holds.runs in
        let same : runs.1.inputs ≡ inputs = readings net.scalars net.arrays runs.1.inputs inputs bytes runs.1.given given in
        (runs.0, subst (λ i. Long net i o.limit) same (subst (Long net runs.1.inputs) runs.0 runs.1.holds))

    limited : (r : Result Bytes RunRefusal) → Long net inputs o.limit → r ≢ Err run.Memory → Runs net bytes o r → r ≡ Err (run.Limit o.limit)
    limited r long some is =
        kinds_one readings net net_checked bytes o r (Err (run.Limit o.limit)) (λ x y. never y) some (λ e. absurd (cc)) (kind_of_answer net bytes o r is) (Kind.longer inputs refl given long)

    cut : (a : Result Bytes GoRefusal) → Long net inputs o.limit → a ≢ Err refusal.Memory → Goes kernel bytes c o a → a ≡ Err (refusal.Run (run.Limit o.limit))
    cut (Ok t) long some goes = absurd (subst is_text (limited (Ok goes.holds.run_text) long (λ e. absurd (cc)) (there _ goes (Ok goes.holds.run_text) goes.holds.runs)) tt)
    cut (Err (refusal.Kernel r)) long some goes = absurd (no_kernel one kernel compiled.kernel r compiled.read goes)
    cut (Err (refusal.Run r)) long some goes =
        ap (λ e. Err (refusal.Run (run_or r e))) (limited (Err r) long (λ e. goes.holds.cause (ap (run_or r) e)) (there _ goes (Err r) goes.holds.runs))
    cut (Err refusal.Memory) long some goes = absurd (some refl)

    decided : LimitDecides net kernel bytes c o inputs
    decided = record { long = too_long; refused = cut }

  pub limit_decides : IsOfOneInputs → LimitIsOfPrintedNet
  limit_decides readings kernel bytes text c o net inputs compiled says given = decided readings kernel bytes text c o net inputs compiled says given
