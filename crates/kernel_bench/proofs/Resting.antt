-- The circuit of a bench's kernel comes to rest within the limit, with the counts that the kernel ends with.
use Rattle.std.proofs.Common.{◌≡◌, ℕ, suc, ◌+◌, ◌*◌, ◌<◌, ◌≤◌, List, [], ◌∷◌, map, length, get_or, false, None, refl, sym, ◌∙◌, ap, subst, lit≤, arith}
use Rattle.std.specs.Prelude.{pos}
use Rattle.std.specs.List.{sum}
use Rattle.el_base.specs.declared.ty.Ty.TheVariants.{I32}
use Rattle.el_base.specs.Numbers.{pattern}
use Rattle.c_meaning.specs.declared.profile.Profile.TheVariants.{Plain}
use Rattle.net_types.specs.declared.firing.Firing.{Firing}
use Rattle.net_types.specs.declared.net.Net.{Net}
use Rattle.net_types.specs.Inputs.{InputsFit}
use Rattle.net_types.specs.Nets.{chan_at}
use Rattle.net_core.specs.Fire.{State}
use Rattle.net_core.specs.Laws.{Completion}
use Rattle.net_core.specs.Runs.{Run, AtRest, Long}
use Rattle.net_core.specs.States.{state_of, elements_at}
use Rattle.net_replay.specs.declared.fault.RunFault.{RunFault}
use Rattle.net_replay.specs.declared.fault.RunFault.TheVariants as fault
use Rattle.cycle_engine.specs.declared.runs.Timed.{Timed}
use Rattle.cycle_engine.specs.Cuts.{joined}
use Rattle.cycle_engine.specs.Joins.{CyclesAreRuns, CutsAreLong}
use Rattle.cycle_engine.specs.Timings.{IsTimed, HasFewCycles, IsTimingFault}
use Rattle.kernel_compile.specs.Goods.{Good, GoodNetsCompute, EndsInTime, PatternsFit, input_patterns}
use Rattle.kernel_bench.specs.Benches.{TellsBench, WorkedKernelEnds}
use Rattle.kernel_bench.specs.Drawn.{bench_places, bench_weights, bench_zeros, bench_numbers, bench_inputs}
use Rattle.kernel_bench.specs.Histogram.{hist}
use Rattle.kernel_bench.specs.Summaries.{summary_text}
use Rattle.kernel_bench.proofs.Counted.{places_long, places_near, weights_long, weights_at, zeros_long, zeros_at}
use Rattle.kernel_bench.proofs.Rounds.{element_few, pattern_small}
use Rattle.kernel_bench.proofs.Typed.{nodes}

-- ---- small numbers are their own patterns

abbrev AreSmall : List ℕ → Type 0
AreSmall ns = (i : ℕ) → i < length ns → get_or ns i 0 < 2147483648

patterns_are : (ns : List ℕ) → AreSmall ns → map (pattern I32) (map pos ns) ≡ ns
patterns_are [] h = refl
patterns_are (n ∷ ns) h =
    let a = pattern_small n (h 0 (omega arith)) in
    let b = patterns_are ns (λ i l. h (suc i) (omega (arith, l))) in
    λ i. a i ∷ b i

inputs_are : (number : ℕ) → input_patterns hist (bench_numbers number) ≡ bench_inputs number
inputs_are number =
    let xs = patterns_are (bench_places number) (λ i l. omega (arith, places_near number i (omega (arith, l, places_long number)))) in
    let ws = patterns_are bench_weights (λ i l. omega (arith, weights_at i (omega (arith, l, weights_long)), l, weights_long)) in
    let hs = patterns_are bench_zeros (λ i l. omega (arith, zeros_at i (omega (arith, l, zeros_long)))) in
    λ i. record { scalars = 1024 ∷ []; arrays = xs i ∷ ws i ∷ hs i ∷ [] }

-- ---- a good net on the inputs of a number

module _ (number : ℕ) (net : Net) (good : Good net hist Plain) where
  pub inputs_fit : PatternsFit → (ends : WorkedKernelEnds) → InputsFit net (bench_inputs number)
  inputs_fit law ends = subst (InputsFit net) (inputs_are number) (law net hist (bench_numbers number) good.header (ends number).fitting)

  pub not_long : EndsInTime → WorkedKernelEnds → Long net (bench_inputs number) 32000000 → ⊥
  not_long law ends long =
      let to = ends number in
      law net hist Plain (bench_numbers number) (map pos (bench_places number) ∷ map pos bench_weights ∷ map pos to.counts ∷ []) None 3076 32000000 good to.fitting to.ends
      (subst (λ n. 256 * n * (3076 + 1) ≤ 32000000) (sym nodes) (lit≤ tt)) (subst (λ i. Long net i 32000000) (sym (inputs_are number)) long)

  pub elements_are : GoodNetsCompute → (ends : WorkedKernelEnds) → (fs : List Firing) (s : State) → Run net (bench_inputs number) fs s → AtRest net s → elements_at s 2 ≡ (ends number).counts
  elements_are law ends fs s run rest =
      let to = ends number in
      let holds = (law net hist Plain good).right (bench_numbers number) (map pos (bench_places number) ∷ map pos bench_weights ∷ map pos to.counts ∷ []) None 3076 fs s to.fitting to.ends
      (subst (λ i. Run net i fs s) (sym (inputs_are number)) run) rest in
      ap (λ xss. get_or xss 2 []) holds.arrays ∙ patterns_are to.counts (λ i l. omega (arith, element_few to.counts i l, to.total))

  pub has_three : length net.arrays ≡ 3
  has_three = ap (λ h. length h.arrays) good.header

  -- ---- a run by cycles

  pub not_limited : CutsAreLong → EndsInTime → WorkedKernelEnds → (e : RunFault) (n : ℕ) → e ≡ fault.Limit n → IsTimingFault net (bench_inputs number) 32000000 e → ⊥
  not_limited cuts law ends e n is says =
      let cut : IsTimingFault net (bench_inputs number) 32000000 (fault.Limit n) = subst (IsTimingFault net (bench_inputs number) 32000000) is says in
      not_long law ends (cuts net (bench_inputs number) 32000000 cut.1)

  module _ (runs : CyclesAreRuns) (t : Timed) (timed : IsTimed net (bench_inputs number) 32000000 false t) where
    made : t.firings ≡ length (joined timed.cycles)
    made = timed.firings ∙ sym (runs net (bench_inputs number) timed.cycles timed.to timed.runs).count

    leads : Run net (bench_inputs number) (joined timed.cycles) (state_of t.state)
    leads = subst (Run net (bench_inputs number) (joined timed.cycles)) (sym timed.state) (runs net (bench_inputs number) timed.cycles timed.to timed.runs).run

    few : HasFewCycles net t → (most : ℕ) → ((d : ℕ) → (chan_at net d).delay ≤ most) → length timed.cycles ≤ length (joined timed.cycles) * (most + 1)
    few bound most below =
        let P : ℕ → Type 0 = λ n. n ≤ length (joined timed.cycles) * (most + 1) in
        let Q : ℕ → Type 0 = λ n. t.cycles ≤ n * (most + 1) in
        subst P timed.number (subst Q made (bound most below))

    pub total_is : GoodNetsCompute → WorkedKernelEnds → sum (elements_at (state_of t.state) 2) ≡ 524800
    total_is law ends = ap sum (elements_are law ends (joined timed.cycles) (state_of t.state) leads timed.rest) ∙ (ends number).total

    pub tells : Completion → GoodNetsCompute → WorkedKernelEnds → HasFewCycles net t → (text : List ℕ) → text ≡ summary_text t.firings t.cycles (sum (elements_at (state_of t.state) 2))
        → TellsBench net (bench_inputs number) text
    tells completes law ends bound text is = record {
      firings = joined timed.cycles;
      state = state_of t.state;
      one = record {
        run = record { run = leads; rest = timed.rest };
        all = completes net (bench_inputs number) (joined timed.cycles) (state_of t.state) good.checked leads timed.rest;
      };
      cycles = timed.cycles;
      are = record { to = timed.to; run = timed.runs; state = sym timed.state; ends = timed.ends; together = refl; few = few bound };
      whole =
          is
          ∙ ap (λ n. summary_text n t.cycles (sum (elements_at (state_of t.state) 2))) made
          ∙ ap (λ n. summary_text (length (joined timed.cycles)) n (sum (elements_at (state_of t.state) 2))) timed.number;
      total = total_is law ends;
    }
