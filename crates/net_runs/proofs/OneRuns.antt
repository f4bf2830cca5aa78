-- Two answers of a run of one net on one text of inputs, by however many workers.
use Rattle.std.proofs.Common.{◌≡◌, ◌≢◌, ℕ, ◌<◌, List, length, get_or, inl, inr, refl, sym, ap, subst, ◌∙◌, ◌++◌, append_assoc, arith}
use Rattle.std.specs.Prelude.{Bool, true, false, [], Option, Result, Ok, Err, map}
use Rattle.std.proofs.lemmas.Bool.{cases_lt}
use Rattle.std.proofs.lemmas.List.{ext_get_or}
use Rattle.el_base.specs.declared.ty.Array.{Array}
use Rattle.net_types.specs.declared.net.Net.{Net}
use Rattle.net_types.specs.declared.net.Unit.{Unit as UnitKind}
use Rattle.net_types.specs.declared.net.Unit.TheVariants.{Exit}
use Rattle.net_types.specs.declared.firing.Firing.{Firing}
use Rattle.net_types.specs.declared.firing.Inputs.{Inputs}
use Rattle.net_types.specs.Nets.{kind_of}
use Rattle.net_check.specs.Checks.{IsChecked}
use Rattle.net_check.specs.Headers.{is_exit}
use Rattle.net_core.specs.Fire.{State}
use Rattle.net_core.specs.Runs.{Run, Long, HasExited}
use Rattle.net_core.specs.States.{strays_at}
use Rattle.inputs_text.specs.declared.refusal.InputRefusal.{InputRefusal}
use Rattle.inputs_text.specs.declared.refusal.InputRefusal.TheVariants as input
use Rattle.inputs_text.specs.Results.{array_lines, return_line}
use Rattle.inputs_text.specs.Texts.{IsOfOneInputs}
use Rattle.inputs_text.proofs.OnlyLemmas.{only_answer}
use Rattle.net_runs.specs.declared.options.RunOptions.{RunOptions}
use Rattle.net_runs.specs.declared.refusal.RunRefusal.{RunRefusal}
use Rattle.net_runs.specs.declared.refusal.RunRefusal.TheVariants as run
use Rattle.net_runs.specs.Given.{Bytes, Gives, IsNoInputs}
use Rattle.inputs_text.specs.StateResults.{IsTextOf}
use Rattle.net_runs.specs.Results.{AreResultsOf, IsStrayIn, count_line, cycles_line, log_lines}
use Rattle.net_runs.specs.Runs.{RestsWithin, Runs}
use Rattle.net_runs.specs.Laws.{AsksForNoCycles, with_workers, RunsAreOne, RefusedRunsAreOne, RunTextsAreOne}
use Rattle.net_runs.proofs.LawLemmas.{given_not_refused}

pub exit_kind : (u : UnitKind) → is_exit u ≡ true → u ≡ Exit
exit_kind Exit e = refl
exit_kind _ e = cc

abbrev pub Answer : Type 0
Answer = Result Bytes RunRefusal

-- ---- two states at rest of one net

module _ (one : IsOfOneInputs) (net : Net) (bytes : Bytes) (o : RunOptions) where
  module _ (P Q : List Firing → State → Type 0) (i j : Inputs) (gi : Gives net bytes i) (gj : Gives net bytes j) (a : RestsWithin net i o.limit P) where
    same_given : j ≡ i
    same_given = one net.scalars net.arrays j i bytes gj gi

    pub same_end : (b : RestsWithin net j o.limit Q) → (a.state ≡ b.state) × (length a.firings ≡ length b.firings)
    same_end b =
        let run_is : Run net i b.firings b.state = subst (λ x. Run net x b.firings b.state) same_given b.one.run.run in
        let e = a.one.all.at_rest b.firings b.state run_is b.one.run.rest in
        (sym e.0, sym e.1)

    pub not_longer : Long net j o.limit → ⊥
    not_longer long =
        let l : o.limit < length a.firings = (a.one.all.long o.limit).0 (subst (λ x. Long net x o.limit) same_given long) in
        let w = a.within in
        omega arith

-- ---- what a state at rest shows

module _ (net : Net) (checked : IsChecked net) (s : State) where
  pub results_one : (x y : Bytes) → IsTextOf net s x → IsTextOf net s y → x ≡ y
  results_one x y a b =
      let exit = checked.one_exit in
      let kind : kind_of net exit.unit ≡ Exit = exit_kind (kind_of net exit.unit) exit.here in
      let value : a.value ≡ b.value = sym (a.took exit.unit kind) ∙ b.took exit.unit kind in
      let values : a.values ≡ b.values =
      ext_get_or [] a.values b.values (a.elements.count ∙ sym b.elements.count) (λ n l.
      (let m : n < length net.arrays = subst (λ z. n < z) a.elements.count l in
      a.elements.each n m ∙ sym (b.elements.each n m))) in
      a.whole ∙ ap (λ vs. array_lines net.arrays vs ++ return_line net.result a.value) values ∙ ap (λ v. array_lines net.arrays b.values ++ return_line net.result v) value ∙ sym b.whole

module _ (net : Net) (s : State) where
  earlier : (m n : ℕ) (x y : Bytes) → IsStrayIn net s m x → IsStrayIn net s n y → m < n → ⊥
  earlier m n x y a b l =
      let none : strays_at s m ≡ 0 = b.first.first m l in
      let some = a.first.has in
      omega arith

  stray_one : (m n : ℕ) (x y : Bytes) → IsStrayIn net s m x → IsStrayIn net s n y → m ≡ n
  stray_one m n x y a b = elim (cases_lt m n) [
    | inl l ↦ absurd (earlier m n x y a b l)
    | inr ge ↦ elim (cases_lt n m) [
      | inl l ↦ absurd (earlier n m y x b a l)
      | inr le ↦ omega arith
    ]
  ]

  name_one : (m n : ℕ) (x y : Bytes) → IsStrayIn net s m x → IsStrayIn net s n y → x ≡ y
  name_one m n x y a b = a.named ∙ ap (λ k. get_or (map (λ (z : Array). z.name) net.arrays) k []) (stray_one m n x y a b) ∙ sym b.named

-- ---- the kinds of answers

-- what a state at rest, come to by so many firings, says of an answer
pub data Ends (net : Net) (o : RunOptions) (r : Answer) (made : ℕ) (s : State) : Type 0 where
  shows : (text results more : Bytes) → r ≡ Ok text → AreResultsOf net s results → text ≡ results ++ count_line o.count made ++ more → (AsksForNoCycles o → more ≡ []) → Ends net o r made s
  sticks : r ≡ Err run.Stuck → (HasExited net s → ⊥) → Ends net o r made s
  strays : (array : ℕ) (name : Bytes) → r ≡ Err (run.Stray array name) → IsStrayIn net s array name → Ends net o r made s

pub data Kind (net : Net) (bytes : Bytes) (o : RunOptions) (r : Answer) : Type 0 where
  wants : r ≡ Err run.Memory → Kind net bytes o r
  unread : (e : InputRefusal) → r ≡ Err (run.Inputs e) → IsNoInputs net bytes e → Kind net bytes o r
  longer : (i : Inputs) → r ≡ Err (run.Limit o.limit) → Gives net bytes i → Long net i o.limit → Kind net bytes o r
  rests : (i : Inputs) → Gives net bytes i → RestsWithin net i o.limit (λ fs s. Ends net o r (length fs) s) → Kind net bytes o r

none_more : (o : RunOptions) (n : ℕ) (fs : List Firing) → AsksForNoCycles o → cycles_line o.cycles n ++ log_lines o.log fs ≡ []
none_more o n fs p = ap (λ b. cycles_line b n ++ log_lines o.log fs) p.cycles ∙ ap (λ b. log_lines b fs) p.log

pub kind_of_answer : (net : Net) (bytes : Bytes) (o : RunOptions) (r : Answer) → Runs net bytes o r → Kind net bytes o r
kind_of_answer net bytes o (Ok text) is =
    let rest = is.holds in
    let told = rest.holds.told in
    Kind.rests is.inputs is.given (record {
      firings = rest.firings;
      state = rest.state;
      one = rest.one;
      within = rest.within;
      holds = Ends.shows text told.results (cycles_line o.cycles rest.holds.number ++ log_lines o.log rest.firings) refl told.are
          (told.whole ∙ append_assoc (told.results ++ count_line o.count (length rest.firings)) (cycles_line o.cycles rest.holds.number) (log_lines o.log rest.firings)) (none_more o rest.holds.number rest.firings);
    })
kind_of_answer net bytes o (Err (run.Inputs e)) is = Kind.unread e refl is
kind_of_answer net bytes o (Err (run.Schedule e)) is = absurd is
kind_of_answer net bytes o (Err (run.NotEnabled n)) is = absurd is
kind_of_answer net bytes o (Err (run.Limit n)) is = Kind.longer is.1.inputs (ap (λ k. Err (run.Limit k)) is.0) is.1.given (subst (Long net is.1.inputs) is.0 is.1.holds)
kind_of_answer net bytes o (Err run.Stuck) is =
    let rest = is.holds in
    Kind.rests is.inputs is.given (record { firings = rest.firings; state = rest.state; one = rest.one; within = rest.within; holds = Ends.sticks refl rest.holds })
kind_of_answer net bytes o (Err (run.Stray array name)) is =
    let rest = is.holds in
    Kind.rests is.inputs is.given (record { firings = rest.firings; state = rest.state; one = rest.one; within = rest.within; holds = Ends.strays array name refl rest.holds })
kind_of_answer net bytes o (Err run.Memory) is = Kind.wants refl

-- ---- two answers

abbrev pub is_shown : Answer → Bool
is_shown (Ok text) = true
is_shown (Err e) = false

-- either is a refusal, or no cycles are asked for
abbrev pub Alike : RunOptions → Answer → Answer → Type 0
Alike o r q = (is_shown r ≡ true → is_shown q ≡ true → AsksForNoCycles o)

module _ (net : Net) (checked : IsChecked net) (o : RunOptions) (r q : Answer) (alike : Alike o r q) where
  ends_one : (made : ℕ) (s : State) → Ends net o r made s → Ends net o q made s → r ≡ q
  ends_one made s (Ends.shows x a m is are whole few) (Ends.shows y b n it too all less) =
      let plain : AsksForNoCycles o = alike (ap is_shown is) (ap is_shown it) in
      let same : a ≡ b = results_one net checked s a b are.shown too.shown in
      let texts : x ≡ y =
      whole ∙ ap (λ z. z ++ count_line o.count made ++ m) same ∙ ap (λ z. b ++ count_line o.count made ++ z) (few plain ∙ sym (less plain)) ∙ sym all in
      is ∙ ap Ok texts ∙ sym it
  ends_one made s (Ends.shows x a m is are whole few) (Ends.sticks it not) = absurd (not are.exited)
  ends_one made s (Ends.shows x a m is are whole few) (Ends.strays n name it stray) = absurd (let none = are.clean n stray.first.within in let some = stray.first.has in omega arith)
  ends_one made s (Ends.sticks is not) (Ends.shows y b n it too all less) = absurd (not too.exited)
  ends_one made s (Ends.sticks is not) (Ends.sticks it still) = is ∙ sym it
  ends_one made s (Ends.sticks is not) (Ends.strays n name it stray) = absurd (not stray.exited)
  ends_one made s (Ends.strays m word is stray) (Ends.shows y b n it too all less) = absurd (let none = too.clean m stray.first.within in let some = stray.first.has in omega arith)
  ends_one made s (Ends.strays m word is stray) (Ends.sticks it still) = absurd (still stray.exited)
  ends_one made s (Ends.strays m word is stray) (Ends.strays n name it other) =
      is ∙ ap (λ k. Err (run.Stray k word)) (stray_one net s m n word name stray other) ∙ ap (λ w. Err (run.Stray n w)) (name_one net s m n word name stray other) ∙ sym it

module _ (one : IsOfOneInputs) (net : Net) (checked : IsChecked net) (bytes : Bytes) (o : RunOptions) where
  abbrev Of : Answer → List Firing → State → Type 0
  Of r fs s = Ends net o r (length fs) s

  unread_one : (e f : InputRefusal) → IsNoInputs net bytes e → IsNoInputs net bytes f → e ≡ f
  unread_one e f a b =
      let told : ◌≢◌ {A = Result Inputs InputRefusal} (Err f) (Err input.Memory) = λ is. b.cause (let same : f ≡ input.Memory = cc in same) in
      elim (only_answer net.scalars net.arrays bytes (Err e) a.says (Err f) told b.says) [
        | inl is ↦ (let same : e ≡ f = cc in same)
        | inr is ↦ absurd (a.cause (let same : e ≡ input.Memory = cc in same))
      ]

  rests_one : (r q : Answer) (i j : Inputs) → Alike o r q → Gives net bytes i → Gives net bytes j → RestsWithin net i o.limit (Of r) → RestsWithin net j o.limit (Of q) → r ≡ q
  rests_one r q i j alike gi gj a b =
      let same = same_end one net bytes o (Of r) (Of q) i j gi gj a b in
      let there : Ends net o q (length a.firings) a.state = subst (λ s. Ends net o q (length a.firings) s) (sym same.0) (subst (λ n. Ends net o q n b.state) (sym same.1) b.holds) in
      ends_one net checked o r q alike (length a.firings) a.state a.holds there

  pub kinds_one : (r q : Answer) → Alike o r q → r ≢ Err run.Memory → q ≢ Err run.Memory → Kind net bytes o r → Kind net bytes o q → r ≡ q
  kinds_one r q alike m n (Kind.wants is) b = absurd (m is)
  kinds_one r q alike m n (Kind.unread e is bad) (Kind.wants it) = absurd (n it)
  kinds_one r q alike m n (Kind.unread e is bad) (Kind.unread f it nor) = is ∙ ap (λ x. Err (run.Inputs x)) (unread_one e f bad nor) ∙ sym it
  kinds_one r q alike m n (Kind.unread e is bad) (Kind.longer j it given long) = absurd (given_not_refused net bytes j e given bad)
  kinds_one r q alike m n (Kind.unread e is bad) (Kind.rests j given b) = absurd (given_not_refused net bytes j e given bad)
  kinds_one r q alike m n (Kind.longer i is given long) (Kind.wants it) = absurd (n it)
  kinds_one r q alike m n (Kind.longer i is given long) (Kind.unread f it nor) = absurd (given_not_refused net bytes i f given nor)
  kinds_one r q alike m n (Kind.longer i is given long) (Kind.longer j it too more) = is ∙ sym it
  kinds_one r q alike m n (Kind.longer i is given long) (Kind.rests j too b) = absurd (not_longer one net bytes o (Of q) (Of q) j i too given b long)
  kinds_one r q alike m n (Kind.rests i given a) (Kind.wants it) = absurd (n it)
  kinds_one r q alike m n (Kind.rests i given a) (Kind.unread f it nor) = absurd (given_not_refused net bytes i f given nor)
  kinds_one r q alike m n (Kind.rests i given a) (Kind.longer j it too long) = absurd (not_longer one net bytes o (Of r) (Of r) i j given too a long)
  kinds_one r q alike m n (Kind.rests i given a) (Kind.rests j too b) = rests_one r q i j alike given too a b

-- ---- by however many workers

module _ (net : Net) (bytes : Bytes) (o : RunOptions) (workers : Option ℕ) where
  same_ends : (r : Answer) (made : ℕ) (s : State) → Ends net (with_workers o workers) r made s → Ends net o r made s
  same_ends r made s (Ends.shows text results more is are whole none) = Ends.shows text results more is are whole (λ p. none (record { cycles = p.cycles; log = p.log }))
  same_ends r made s (Ends.sticks is not) = Ends.sticks is not
  same_ends r made s (Ends.strays array name is stray) = Ends.strays array name is stray

  -- an answer is of the same kind
  pub same_kind : (r : Answer) → Kind net bytes (with_workers o workers) r → Kind net bytes o r
  same_kind r (Kind.wants is) = Kind.wants is
  same_kind r (Kind.unread e is bad) = Kind.unread e is bad
  same_kind r (Kind.longer i is given long) = Kind.longer i is given long
  same_kind r (Kind.rests i given a) =
      Kind.rests i given (record { firings = a.firings; state = a.state; one = a.one; within = a.within; holds = same_ends r (length a.firings) a.state a.holds })

module _ (one : IsOfOneInputs) (net : Net) (checked : IsChecked net) (bytes : Bytes) (o : RunOptions) (workers : Option ℕ) where
  pub runs_one : (r q : Answer) → Alike o r q → r ≢ Err run.Memory → q ≢ Err run.Memory → Runs net bytes o r → Runs net bytes (with_workers o workers) q → r ≡ q
  runs_one r q alike m n a b =
      kinds_one one net checked bytes o r q alike m n (kind_of_answer net bytes o r a) (same_kind net bytes o workers q (kind_of_answer net bytes (with_workers o workers) q b))

  -- two texts show the same results and as many firings
  pub texts_show : (s t : Bytes) (a : Runs net bytes o (Ok s)) (b : Runs net bytes (with_workers o workers) (Ok t))
      → (a.holds.holds.told.results ≡ b.holds.holds.told.results) × (length a.holds.firings ≡ length b.holds.firings)
  texts_show s t a b =
      let same = same_end one net bytes o _ _ a.inputs b.inputs a.given b.given a.holds b.holds in
      let x = a.holds.holds.told in
      let y = b.holds.holds.told in
      (results_one net checked a.holds.state x.results y.results x.are.shown (subst (λ (z : State). IsTextOf net z y.results) (sym same.0) y.are.shown), same.1)

-- ---- the laws

abbrev error_or : RunRefusal → Answer → RunRefusal
error_or r (Ok text) = r
error_or r (Err e) = e

pub runs_are_one : IsOfOneInputs → RunsAreOne
runs_are_one one net bytes o workers a b checked plain m n x y = runs_one one net checked bytes o workers a b (λ p q. plain) m n x y

-- a refusal shows nothing
never : {A : Type 0} → ◌≡◌ {A = Bool} false true → A
never e = absurd (cc)

pub refused_runs_are_one : IsOfOneInputs → RefusedRunsAreOne
refused_runs_are_one one net bytes o workers e b checked m n x y =
    sym (runs_one one net checked bytes o workers (Err e) b (λ p q. never p) (λ is. m (ap (error_or e) is)) n x y)

pub run_texts_are_one : IsOfOneInputs → RunTextsAreOne
run_texts_are_one one net bytes s t o workers checked a b = texts_show one net checked bytes o workers s t a b
