-- A kernel and a text have one answer.
use Rattle.std.proofs.Common.{◌≡◌, ◌≢◌, ◌⊎◌, inl, inr, ℕ, List, ◌++◌, map, Option, Result, Ok, Err, refl, sym, ap, ◌∙◌, subst}
use Rattle.net_types.specs.declared.firing.Inputs.{Inputs}
use Rattle.c_ast.specs.declared.typed.Typed.{Typed}
use Rattle.c_meaning.specs.Bounds.{EndsIsOne, KernelsKeepEnds}
use Rattle.c_meaning.specs.Headers.{scalars_of, flat}
use Rattle.c_meaning.specs.KernelPatterns.{array_patterns, result_pattern}
use Rattle.inputs_text.specs.declared.refusal.InputRefusal.{InputRefusal}
use Rattle.inputs_text.specs.declared.refusal.InputRefusal.TheVariants as input
use Rattle.inputs_text.specs.Results.{array_lines, return_line}
use Rattle.inputs_text.proofs.OnlyLemmas.{only_answer}
use Rattle.ref_interp.specs.declared.kernel.Outcome.{Outcome}
use Rattle.ref_interp.specs.declared.kernel.Outcome.TheVariants as outcome
use Rattle.ref_interp.specs.Outcomes.{Says, input_numbers}
use Rattle.ref_interp.specs.Turns.{KernelsNeedNoMore}
use Rattle.ref_interp.proofs.Whole.{says_one}
use Rattle.kernel_ref.specs.declared.options.InterpretOptions.{InterpretOptions}
use Rattle.kernel_ref.specs.declared.refusal.InterpretRefusal.{InterpretRefusal}
use Rattle.kernel_ref.specs.declared.refusal.InterpretRefusal.TheVariants as refusal
use Rattle.kernel_ref.specs.Texts.{Bytes, On, IsNoInputs, Gives}
use Rattle.kernel_ref.specs.Results.{EndsWith, turns_line}
use Rattle.kernel_ref.specs.Answers.{Interprets, IsOnly}
use Rattle.kernel_ref.specs.Laws.{InputsHaveOneAnswer, EndingKernelsAreNotRefused}

abbrev Given : Type 0
Given = Result Inputs InputRefusal

abbrev Answer : Type 0
Answer = Result Bytes InterpretRefusal

inputs_are : (i j : Inputs) → ◌≡◌ {A = Given} (Ok i) (Ok j) → i ≡ j
inputs_are i j e = cc

input_refusal_is : (r q : InputRefusal) → ◌≡◌ {A = Given} (Err r) (Err q) → r ≡ q
input_refusal_is r q e = cc

given_or_not : {P : Type 0} (i : Inputs) (r : InputRefusal) → ◌≡◌ {A = Given} (Ok i) (Err r) → P
given_or_not i r e = absurd (cc)

refusal_is : (r q : InterpretRefusal) → ◌≡◌ {A = Answer} (Err r) (Err q) → r ≡ q
refusal_is r q e = cc

text_or_not : {P : Type 0} (text : Bytes) (r : InterpretRefusal) → ◌≡◌ {A = Answer} (Ok text) (Err r) → P
text_or_not text r e = absurd (cc)

-- the answer of an outcome
abbrev text_of : InterpretOptions → Typed → List (List ℕ) → Option ℕ → ℕ → Bytes
text_of o k arrays value turns = (array_lines (map flat k.arrays) arrays ++ return_line k.result value) ++ turns_line o.count turns

abbrev answer_of : InterpretOptions → Typed → Outcome → Answer
answer_of o k (outcome.Ends arrays value turns) = Ok (text_of o k arrays value turns)
answer_of o k (outcome.Undefined at) = Err (refusal.Undefined at)
answer_of o k outcome.OutOfTurns = Err (refusal.OutOfTurns o.turns)

record OfOutcome (o : InterpretOptions) (answer : Answer) (k : Typed) (i : Inputs) : Type 0 where
  outcome : Outcome
  says : Says k o.profile (input_numbers k i) o.turns outcome
  is : answer ≡ answer_of o k outcome

-- an answer is of the bytes of inputs, or of the outcome of the run on them
record OfNoInputs (k : Typed) (bytes : Bytes) (answer : Answer) : Type 0 where
  r : InputRefusal
  is : answer ≡ Err (refusal.Inputs r)
  no : IsNoInputs k bytes r

abbrev OfRun : Typed → Bytes → InterpretOptions → Answer → Type 0
OfRun k bytes o answer = On k bytes (OfOutcome o answer k)

abbrev Kind : Typed → Bytes → InterpretOptions → Answer → Type 0
Kind k bytes o answer = OfNoInputs k bytes answer ⊎ OfRun k bytes o answer

kind_of : (k : Typed) (bytes : Bytes) (o : InterpretOptions) (answer : Answer) → answer ≢ Err refusal.Memory → Interprets k bytes o answer → Kind k bytes o answer
kind_of k bytes o (Ok text) some h =
    let e = h.holds in
    inr (record {
      inputs = h.inputs;
      given = h.given;
      fit = h.fit;
      holds = record {
        outcome = outcome.Ends e.arrays e.value e.turns;
        says = e.ends;
        is = ap Ok (e.whole ∙ ap (λ t. t ++ turns_line o.count e.turns) e.shown);
      };
    })
kind_of k bytes o (Err (refusal.Inputs r)) some h = inl (record { r = r; is = refl; no = h })
kind_of k bytes o (Err (refusal.Undefined at)) some h =
    inr (record { inputs = h.inputs; given = h.given; fit = h.fit; holds = record { outcome = outcome.Undefined at; says = h.holds; is = refl } })
kind_of k bytes o (Err (refusal.OutOfTurns n)) some h =
    let n_is : n ≡ o.turns = h.holds.0 in
    inr (record {
      inputs = h.inputs;
      given = h.given;
      fit = h.fit;
      holds = record {
        outcome = outcome.OutOfTurns;
        says = subst (λ m. Says k o.profile (input_numbers k h.inputs) m outcome.OutOfTurns) n_is h.holds.1;
        is = ap (λ m. Err (refusal.OutOfTurns m)) n_is;
      };
    })
kind_of k bytes o (Err refusal.Memory) some h = absurd (some refl)

module _ (one : EndsIsOne) (keeps : KernelsKeepEnds) (needs : KernelsNeedNoMore) where
  -- ---- of the inputs

  same_inputs : (k : Typed) (bytes : Bytes) (i j : Inputs) → Gives k bytes i → Gives k bytes j → i ≡ j
  same_inputs k bytes i j h g = elim (only_answer (scalars_of k.params) (map flat k.arrays) bytes (Ok i) h (Ok j) (λ e. given_or_not j input.Memory e) g) [
    | inl e ↦ inputs_are i j e
    | inr e ↦ given_or_not i input.Memory e
  ]

  inputs_or_not : {P : Type 0} (k : Typed) (bytes : Bytes) (i : Inputs) (r : InputRefusal) → Gives k bytes i → IsNoInputs k bytes r → P
  inputs_or_not k bytes i r h g = elim (only_answer (scalars_of k.params) (map flat k.arrays) bytes (Ok i) h (Err r) (λ e. g.cause (input_refusal_is r input.Memory e)) g.says) [
    | inl e ↦ given_or_not i r e
    | inr e ↦ given_or_not i input.Memory e
  ]

  same_input_refusal : (k : Typed) (bytes : Bytes) (r q : InputRefusal) → IsNoInputs k bytes r → IsNoInputs k bytes q → r ≡ q
  same_input_refusal k bytes r q h g = elim (only_answer (scalars_of k.params) (map flat k.arrays) bytes (Err r) h.says (Err q) (λ e. g.cause (input_refusal_is q input.Memory e)) g.says) [
    | inl e ↦ input_refusal_is r q e
    | inr e ↦ absurd (h.cause (input_refusal_is r input.Memory e))
  ]

  -- ---- of the run

  one_outcome : (o : InterpretOptions) (a b : Answer) (k : Typed) (bytes : Bytes) → On k bytes (OfOutcome o a k) → On k bytes (OfOutcome o b k) → a ≡ b
  one_outcome o a b k bytes x y =
      let at : OfOutcome o b k x.inputs = subst (OfOutcome o b k) (same_inputs k bytes y.inputs x.inputs y.given x.given) y.holds in
      let same : x.holds.outcome ≡ at.outcome = says_one k o.profile (input_numbers k x.inputs) o.turns at.outcome x.holds.outcome one keeps needs at.says x.holds.says in
      x.holds.is ∙ ap (answer_of o k) same ∙ sym at.is

  one_kind : (k : Typed) (bytes : Bytes) (o : InterpretOptions) (a b : Answer) → Kind k bytes o a → Kind k bytes o b → a ≡ b
  one_kind k bytes o a b (inl x) (inl y) = x.is ∙ ap (λ r. Err (refusal.Inputs r)) (same_input_refusal k bytes x.r y.r x.no y.no) ∙ sym y.is
  one_kind k bytes o a b (inl x) (inr y) = inputs_or_not k bytes y.inputs x.r y.given x.no
  one_kind k bytes o a b (inr x) (inl y) = inputs_or_not k bytes x.inputs y.r x.given y.no
  one_kind k bytes o a b (inr x) (inr y) = one_outcome o a b k bytes x y

  same_answer : (k : Typed) (bytes : Bytes) (o : InterpretOptions) (a b : Answer) → a ≢ Err refusal.Memory → b ≢ Err refusal.Memory
      → Interprets k bytes o a → Interprets k bytes o b → a ≡ b
  same_answer k bytes o a b m n h g = one_kind k bytes o a b (kind_of k bytes o a m h) (kind_of k bytes o b n g)

  memory_or_not : (a : Answer) → (a ≡ Err refusal.Memory) ⊎ (a ≢ Err refusal.Memory)
  memory_or_not (Ok text) = inr (λ e. text_or_not text refusal.Memory e)
  memory_or_not (Err (refusal.Inputs r)) = inr (λ e. absurd (cc))
  memory_or_not (Err (refusal.Undefined at)) = inr (λ e. absurd (cc))
  memory_or_not (Err (refusal.OutOfTurns n)) = inr (λ e. absurd (cc))
  memory_or_not (Err refusal.Memory) = inl refl

  pub one_answer : InputsHaveOneAnswer
  one_answer k bytes o answer h other n g = elim (memory_or_not answer) [
    | inl memory ↦ inr memory
    | inr m ↦ inl (same_answer k bytes o answer other m n h g)
  ]

-- ---- kernels that end

pub complete : InputsHaveOneAnswer → EndingKernelsAreNotRefused
complete law k bytes o r ending some is =
    let e = ending.holds in
    let arrays = array_patterns k.arrays e.out in
    let value = result_pattern k.result e.r in
    let results = array_lines (map flat k.arrays) arrays ++ return_line k.result value in
    let text = results ++ turns_line o.count e.turns in
    let answer : Interprets k bytes o (Ok text) = record {
      inputs = ending.inputs;
      given = ending.given;
      fit = ending.fit;
      holds = record {
        arrays = arrays;
        value = value;
        turns = e.turns;
        ends = record { out = e.out; r = e.r; ends = e.ends; within = e.within; arrays_are = refl; value_is = refl };
        results = results;
        shown = refl;
        whole = refl;
      };
    } in
    elim (law k bytes o (Ok text) answer (Err r) (λ m. some (refusal_is r refusal.Memory m)) is) [
      | inl e ↦ text_or_not text r e
      | inr e ↦ text_or_not text refusal.Memory e
    ]
