-- Runs of one net on one text of inputs tell one thing where no firings are written, also of cycles where both are made alike.
use Rattle.std.proofs.Common.{◌≡◌, ◌≢◌, ℕ, List, length, ◌++◌, refl, sym, ap, subst, ◌∙◌}
use Rattle.std.specs.Prelude.{Bool, true, false, codes, Option, Some, None, Result, Ok, Err}
use Rattle.c_meaning.specs.declared.profile.Profile.TheVariants.{Plain}
use Rattle.net_types.specs.declared.net.Net.{Net}
use Rattle.net_types.specs.declared.firing.Firing.{Firing}
use Rattle.net_types.specs.declared.firing.Inputs.{Inputs}
use Rattle.net_check.specs.Checks.{IsChecked}
use Rattle.net_core.specs.Fire.{State}
use Rattle.net_core.specs.Runs.{AtRest}
use Rattle.cycle_engine.specs.Bounds.{CyclesAreOne}
use Rattle.inputs_text.specs.Texts.{IsOfOneInputs}
use Rattle.net_runs.specs.declared.options.RunOptions.{RunOptions}
use Rattle.net_runs.specs.declared.refusal.RunRefusal.{RunRefusal}
use Rattle.net_runs.specs.declared.refusal.RunRefusal.TheVariants as run
use Rattle.net_runs.specs.Given.{Bytes}
use Rattle.net_runs.specs.Laws.{with_workers, RefusedRunsAreOne, RunTextsAreOne}
use Rattle.net_runs.specs.Results.{count_line, cycles_line, log_lines}
use Rattle.net_runs.specs.Runs.{AreMadeIn, Runs}
use Rattle.kernel_runs.specs.declared.options.CircuitOptions.{CircuitOptions}
use Rattle.kernel_runs.specs.declared.refusal.GoRefusal.{GoRefusal}
use Rattle.kernel_runs.specs.declared.refusal.GoRefusal.TheVariants as go
use Rattle.kernel_runs.specs.Goes.{Goes}
use Rattle.kernel_runs.specs.OneAnswer.{RefusalsAreOne, TextsShowOneRun}
use Rattle.elastic_top.specs.OneAnswer.{AreCountedAlike, AreEqualButForOrder, AreMadeAlike, TellsNoOrder}

-- two answers of a run, want of memory aside, are equal
abbrev pub RunsTellOneThing : Type 0
RunsTellOneThing = (net : Net) (bytes : Bytes) (o : RunOptions) (workers : Option ℕ) (a b : Result Bytes RunRefusal) → IsChecked net → TellsNoOrder o workers
    → a ≢ Err run.Memory → b ≢ Err run.Memory → Runs net bytes o a → Runs net bytes (with_workers o workers) b → a ≡ b

-- and so are two of a kernel's circuit and its run
abbrev pub GoesTellOneThing : Type 0
GoesTellOneThing = (bytes inputs : Bytes) (c : CircuitOptions) (o : RunOptions) (workers : Option ℕ) (a b : Result Bytes GoRefusal) → TellsNoOrder o workers
    → a ≢ Err go.Memory → b ≢ Err go.Memory → Goes bytes inputs c o a → Goes bytes inputs c (with_workers o workers) b → a ≡ b

-- ---- the number of cycles

module _ (law : CyclesAreOne) (net : Net) (checked : IsChecked net) (inputs : Inputs) (fs gs : List Firing) (s t : State) (n m : ℕ) (rest : AtRest net s) (end : AtRest net t) where
  -- the same number of cycles is told
  same_number : (v w : Option ℕ) → AreMadeAlike v w → AreMadeIn v net inputs fs s n → AreMadeIn w net inputs gs t m → n ≡ m
  same_number None None alike a b =
      a.counted ∙ law net inputs a.cycles b.cycles a.are.to b.are.to checked a.are.run b.are.run (subst (AtRest net) (sym a.are.state) rest) (subst (AtRest net) (sym b.are.state) end) a.are.ends b.are.ends
      ∙ sym b.counted
  same_number None (Some w) alike a b = absurd alike
  same_number (Some v) None alike a b = absurd alike
  same_number (Some v) (Some w) alike a b = a ∙ sym b

same_line : (told : Bool) (n m : ℕ) → (told ≡ true → n ≡ m) → cycles_line told n ≡ cycles_line told m
same_line true n m same = ap (cycles_line true) (same refl)
same_line false n m same = refl

-- ---- runs

module _ (one : IsOfOneInputs) (texts : RunTextsAreOne) (law : CyclesAreOne) where
  -- the results and the numbers are the same
  same_front : (net : Net) (bytes s t : Bytes) (o : RunOptions) (workers : Option ℕ) → IsChecked net → AreCountedAlike o workers
      → (a : Runs net bytes o (Ok s)) (b : Runs net bytes (with_workers o workers) (Ok t))
      → a.holds.holds.told.results ++ count_line o.count (length a.holds.firings) ++ cycles_line o.cycles a.holds.holds.number
      ≡ b.holds.holds.told.results ++ count_line o.count (length b.holds.firings) ++ cycles_line o.cycles b.holds.holds.number
  same_front net bytes s t o workers checked counted a b =
      let x = a.holds in
      let y = b.holds in
      let same = texts net bytes s t o workers checked a b in
      let inputs : b.inputs ≡ a.inputs = one net.scalars net.arrays b.inputs a.inputs bytes b.given a.given in
      let made : AreMadeIn workers net a.inputs y.firings y.state y.holds.number = subst (λ i. AreMadeIn workers net i y.firings y.state y.holds.number) inputs y.holds.made in
      let number : o.cycles ≡ true → x.holds.number ≡ y.holds.number
      = λ e. same_number law net checked a.inputs x.firings y.firings x.state y.state x.holds.number y.holds.number x.one.run.rest y.one.run.rest o.workers workers (counted e) x.holds.made made in
      ap (λ r. r ++ count_line o.count (length x.firings) ++ cycles_line o.cycles x.holds.number) same.0
      ∙ ap (λ n. y.holds.told.results ++ count_line o.count n ++ cycles_line o.cycles x.holds.number) same.1
      ∙ ap (λ l. y.holds.told.results ++ count_line o.count (length y.firings) ++ l) (same_line o.cycles x.holds.number y.holds.number number)

  -- and the texts, but for the order of the firings
  pub tell_as_many : (net : Net) (bytes s t : Bytes) (o : RunOptions) (workers : Option ℕ) → IsChecked net → AreCountedAlike o workers → Runs net bytes o (Ok s)
      → Runs net bytes (with_workers o workers) (Ok t) → AreEqualButForOrder o.log s t
  tell_as_many net bytes s t o workers checked counted a b =
      let y = b.holds in
      record {
        front = y.holds.told.results ++ count_line o.count (length y.firings) ++ cycles_line o.cycles y.holds.number;
        told = a.holds.firings;
        again = y.firings;
        first = a.holds.holds.told.whole ∙ ap (λ f. f ++ log_lines o.log a.holds.firings) (same_front net bytes s t o workers checked counted a b);
        second = y.holds.told.whole;
        many = (texts net bytes s t o workers checked a b).1;
      }

  -- which there is none of where none are written
  same_text : (net : Net) (bytes s t : Bytes) (o : RunOptions) (workers : Option ℕ) → IsChecked net → TellsNoOrder o workers → Runs net bytes o (Ok s) → Runs net bytes (with_workers o workers) (Ok t)
      → s ≡ t
  same_text net bytes s t o workers checked alike a b =
      let e = tell_as_many net bytes s t o workers checked alike.cycles a b in
      e.first ∙ ap (λ l. e.front ++ log_lines l e.told) alike.log ∙ ap (λ l. e.front ++ log_lines l e.again) (sym alike.log) ∙ sym e.second

pub runs_tell_one : IsOfOneInputs → RunTextsAreOne → CyclesAreOne → RefusedRunsAreOne → RunsTellOneThing
runs_tell_one one texts law refused net bytes o workers (Ok s) (Ok t) checked alike m n a b = ap Ok (same_text one texts law net bytes s t o workers checked alike a b)
runs_tell_one one texts law refused net bytes o workers (Ok s) (Err e) checked alike m n a b = refused net bytes (with_workers o workers) o.workers e (Ok s) checked (λ is. n (ap Err is)) m b a
runs_tell_one one texts law refused net bytes o workers (Err e) b checked alike m n x y = sym (refused net bytes o workers e b checked (λ is. m (ap Err is)) n x y)

-- ---- kernels' circuits and their runs

module _ (one : IsOfOneInputs) (texts : RunTextsAreOne) (law : CyclesAreOne) (shown : TextsShowOneRun) where
  same_gone : (bytes inputs s t : Bytes) (c : CircuitOptions) (o : RunOptions) (workers : Option ℕ) → TellsNoOrder o workers → Goes bytes inputs c o (Ok s) → Goes bytes inputs c (with_workers o workers) (Ok t) → s ≡ t
  same_gone bytes inputs s t c o workers alike a b =
      let x = a.holds in
      let y = b.holds in
      let show = shown bytes inputs s t c o workers a b in
      let runs : Runs b.net inputs o (Ok x.run_text) = subst (λ (k : Net). Runs k inputs o (Ok x.run_text)) show.0 x.runs in
      let ran : x.run_text ≡ y.run_text = same_text one texts law b.net inputs x.run_text y.run_text o workers (b.circuit.good Plain).checked alike runs y.runs in
      x.whole ∙ ap (λ z. z ++ codes "%%\n" ++ x.run_text) show.1 ∙ ap (λ z. y.net_text ++ codes "%%\n" ++ z) ran ∙ sym y.whole

  pub goes_tell_one : RefusalsAreOne → GoesTellOneThing
  goes_tell_one refused bytes inputs c o workers (Ok s) (Ok t) alike m n a b = ap Ok (same_gone bytes inputs s t c o workers alike a b)
  goes_tell_one refused bytes inputs c o workers (Ok s) (Err e) alike m n a b = refused bytes inputs c (with_workers o workers) o.workers e (Ok s) (λ is. n (ap Err is)) m b a
  goes_tell_one refused bytes inputs c o workers (Err e) b alike m n x y = sym (refused bytes inputs c o workers e b (λ is. m (ap Err is)) n x y)
