-- The layers, joined.
use Rattle.std.proofs.Common.{◌≡◌, ℕ, zero, suc, ◌+◌, ◌≤◌, ◌⊎◌, Option, Some, List, [], ◌∷◌, length, refl, sym, ap, subst, ◌∙◌, inl, inr, arith}
use Rattle.std.specs.Prelude.{ℤ}
use Rattle.c_ast.specs.declared.typed.Typed.{Typed}
use Rattle.c_ast.specs.Nodes.{typed_nodes}
use Rattle.c_meaning.specs.declared.profile.Profile.{Profile}
use Rattle.c_meaning.specs.Stores.{Inputs as Numbers, AreFitting}
use Rattle.c_meaning.specs.Statements.{Ends}
use Rattle.c_meaning.specs.Headers.{kernel_header}
use Rattle.c_meaning.specs.Lawful.{Lawful}
use Rattle.c_meaning.specs.KernelPatterns.{array_patterns, result_pattern}
use Rattle.ir.specs.Graphs.{passage, first_visit, weight}
use Rattle.ir.specs.Visits.{Visit, Passing, Onward, onto, leaves, next_visit, next_of, AreNext, Finishes, over_visits}
use Rattle.net_types.specs.declared.net.Net.{Net}
use Rattle.net_types.specs.declared.net.Unit.TheVariants.{Exit}
use Rattle.net_types.specs.declared.firing.Inputs.{Inputs}
use Rattle.net_types.specs.declared.firing.Firing.{Firing}
use Rattle.net_types.specs.Headers.{net_header}
use Rattle.net_types.specs.Inputs.{InputsFit}
use Rattle.net_types.specs.Nets.{kind_of}
use Rattle.net_check.specs.Retimed.{Retimed}
use Rattle.net_core.specs.Fire.{State, tokens_at}
use Rattle.net_core.specs.Runs.{Run, AtRest, HasExited}
use Rattle.net_core.specs.Laws.{Completion, OneSlotServes, StaysAtRest, SpentIsAtRest}
use Rattle.queue_marks.specs.Laws.{MarksAllowRuns, MarksEndAlike}
use Rattle.queue_marks.specs.Marked.{marked}
use Rattle.kernel_compile.specs.Compiling.{CircuitsRest}
use Rattle.kernel_compile.specs.Goods.{HoldsEnd, RestsInTime, Computes, input_patterns, PatternsFit}
use Rattle.kernel_compile.specs.Layers.{KernelNetsAreGood}
use Rattle.kernel_compile.proofs.Counting.{joined_firings}
use Rattle.kernel_compile.proofs.Asked.{parameters_few}
use Rattle.kernel_compile.proofs.Marking.{Runner, runner_marked}
use Rattle.kernel_compile.proofs.Slots.{has_slots, one_slots, fits_same, kinds_same}

-- ---- a run of a graph goes on for as many visits as are wanted, or returns

record GoesOn (f : Passing) (v : Visit) (n : ℕ) : Type 0 where
  rest : List Visit
  next : AreNext f v rest
  long : length rest ≡ n

record Stops (f : Passing) (v : Visit) : Type 0 where
  rest : List Visit
  result : Option ℕ
  arrays : List (List ℕ)
  ends : Finishes f v rest result arrays

walk_more : (f : Passing) (v w : Visit) (n : ℕ) → next_visit f v ≡ Some w → GoesOn f w n ⊎ Stops f w → GoesOn f v (suc n) ⊎ Stops f v
walk_more f v w n e (inl a) = inl (record { rest = w ∷ a.rest; next = (e, a.next); long = ap suc a.long })
walk_more f v w n e (inr a) = inr (record { rest = w ∷ a.rest; result = a.result; arrays = a.arrays; ends = (e, a.ends) })

walk_by : (f : Passing) (v : Visit) (n : ℕ) → ((w : Visit) → GoesOn f w n ⊎ Stops f w) → (o : Onward) → (f v).onward ≡ o → GoesOn f v (suc n) ⊎ Stops f v
walk_by f v n ih (leaves r) e = inr (record { rest = []; result = r; arrays = (f v).arrays; ends = record { result = e; last_arrays = refl } })
walk_by f v n ih (onto b vs) e =
    let w : Visit = record { block = b; given = vs; arrays = (f v).arrays } in
    walk_more f v w n (ap (λ o. next_of o (f v).arrays) e) (ih w)

walk : (f : Passing) (v : Visit) (n : ℕ) → GoesOn f v n ⊎ Stops f v
walk f v zero = inl (record { rest = []; next = tt; long = refl })
walk f v (suc n) = walk_by f v n (λ w. walk f w n) (f v).onward refl

-- ---- runs of a net

module _ (law : Completion) (serves : OneSlotServes) (stays : StaysAtRest) (fit_law : PatternsFit) (k : Typed) (net : Net) (lawful : Lawful k) (is : Runner k net) where
  header_is : net_header net ≡ kernel_header k
  header_is = is.header ∙ is.of_kernel.header

  module _ (net2 : Net) (ret : Retimed net net2) where
    moved : (i : Inputs) (fs : List Firing) (t : State) → Run net i fs t → Run net2 i fs t
    moved i fs t run = serves net net2 i fs t (one_slots net is.slots) ret run

    rested : (s : State) → ((c : ℕ) → tokens_at s c ≡ []) → AtRest net s → AtRest net2 s
    rested s empty rest = stays net net2 s ret.same (has_slots net net2 is.slots ret.same) empty rest

    kind_laid : (x : ℕ) → kind_of net2 x ≡ Exit → kind_of net x ≡ Exit
    kind_laid x e = sym (kinds_same net net2 ret.same x) ∙ e

    -- as many visits as firings and one more would need more firings than there are
    exits : (i : Inputs) (fs : List Firing) (s : State) → InputsFit net2 i → Run net2 i fs s → AtRest net2 s → HasExited net2 s
    exits i fs s fit run rest = by (walk (passage is.graph) (first_visit i.scalars i.arrays) (length fs))
      where
        by : GoesOn (passage is.graph) (first_visit i.scalars i.arrays) (length fs) ⊎ Stops (passage is.graph) (first_visit i.scalars i.arrays) → HasExited net2 s
        by (inl a) =
            let w = is.follows i (first_visit i.scalars i.arrays ∷ a.rest) (fits_same net net2 ret.same i fit) (refl, a.next) in
            let most = (law net2 i fs s ret.checked run rest).longest w.firings w.to (moved i w.firings w.to w.run) in
            let d : length a.rest ≡ length fs = a.long in
            let m : suc (length a.rest) ≤ length w.firings = w.some in
            absurd (omega arith)
        by (inr a) =
            let w = is.completes i a.rest a.result a.arrays (fits_same net net2 ret.same i fit) a.ends in
            let v = w.follows in
            let y = (law net2 i v.firings v.to ret.checked (moved i v.firings v.to v.run) (rested v.to w.spent.tokens w.rests)).at_rest fs s run rest in
            subst (λ q. HasExited net2 q) (sym y.0) (λ x e. w.exited.fired x (kind_laid x e))

    -- both the bound and the end come of one list
    pub ending : (p : Profile) (z : Numbers) (out : List (List ℤ)) (r : Option ℤ) (t : ℕ) → AreFitting k.params k.arrays z → Ends k p z out r t → RestsInTime net2 k z out r t
    ending p z out r t fit ends =
        let g = is.graph in
        let i = input_patterns k z in
        let d = is.of_kernel.runs p z out r t fit ends in
        let w = is.completes i d.rest (result_pattern k.result r) (array_patterns k.arrays out) (fit_law net k z header_is fit) d.ends in
        let v = w.follows in
        let once = 1 + length g.scalars + length g.arrays in
        record {
          firings = v.firings;
          to = v.to;
          run = moved i v.firings v.to v.run;
          rests = rested v.to w.spent.tokens w.rests;
          few = joined_firings (typed_nodes k) t (over_visits (weight g) (first_visit i.scalars i.arrays ∷ d.rest)) once (length v.firings) d.cheap v.few (parameters_few k g lawful is.of_kernel);
          holds = record {
            exited = record { fired = λ x e. w.exited.fired x (kind_laid x e); value = λ x e. w.exited.value x (kind_laid x e) };
            arrays = w.arrays_are;
            clean = w.clean d.clean;
          };
        }

    computes : (p : Profile) → Computes net2 k p
    computes p = record {
      exits = exits;
      bounded = λ z out r t fs s fit ends run.
          let e = ending p z out r t fit ends in
          let y = (law net2 (input_patterns k z) e.firings e.to ret.checked e.run e.rests).longest fs s run in
          let m = e.few in
          omega arith;
      right = λ z out r t fs s fit ends run rest.
          let e = ending p z out r t fit ends in
          let y = (law net2 (input_patterns k z) e.firings e.to ret.checked e.run e.rests).at_rest fs s run rest in
          subst (λ q. HoldsEnd net2 k out r q) (sym y.0) e.holds;
    }

pub kernel_nets_good : Completion → OneSlotServes → StaysAtRest → PatternsFit → MarksAllowRuns → MarksEndAlike → SpentIsAtRest → KernelNetsAreGood
kernel_nets_good law serves stays fit runs ends spent k net net2 forward p lawful is ret =
    let m = marked forward net in
    let r = runner_marked runs ends spent forward k net is in
    record {
      checked = ret.checked;
      header = ap net_header ret.same ∙ header_is law serves stays fit k m lawful r;
      retimed = λ net3 again. computes law serves stays fit k m lawful r net3 (record { same = again.same ∙ ret.same; checked = again.checked }) p;
    }

pub circuits_rest : Completion → OneSlotServes → StaysAtRest → PatternsFit → MarksAllowRuns → MarksEndAlike → SpentIsAtRest → CircuitsRest
circuits_rest law serves stays fit runs ends spent t forward k m n lawful is ret =
    let laid = runner_marked runs ends spent forward k is.plain is.of_graph in
    ending law serves stays fit k (marked forward is.plain) lawful laid n (record { same = ret.same ∙ is.placed.same; checked = ret.checked })
