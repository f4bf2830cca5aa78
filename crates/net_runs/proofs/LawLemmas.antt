-- A sound run has no refusal.
use Rattle.std.proofs.Common.{◌≡◌, ◌≢◌, inl, inr, refl, sym, subst, arith}
use Rattle.std.specs.Prelude.{Result, Ok, Err}
use Rattle.net_types.specs.declared.net.Net.{Net}
use Rattle.net_types.specs.declared.firing.Inputs.{Inputs}
use Rattle.net_core.specs.Fire.{State}
use Rattle.net_core.specs.Runs.{HasExited, Long}
use Rattle.net_core.specs.States.{strays_at}
use Rattle.inputs_text.specs.declared.refusal.InputRefusal.{InputRefusal}
use Rattle.inputs_text.specs.declared.refusal.InputRefusal.TheVariants as input
use Rattle.inputs_text.proofs.OnlyLemmas.{one_inputs, only_answer}
use Rattle.net_runs.specs.declared.options.RunOptions.{RunOptions}
use Rattle.net_runs.specs.declared.refusal.RunRefusal.TheVariants as refusal
use Rattle.net_runs.specs.Given.{Bytes, Gives, IsNoInputs}
use Rattle.net_runs.specs.Results.{IsStrayIn}
use Rattle.net_runs.specs.Runs.{RestsWithin}
use Rattle.net_runs.specs.Laws.{IsSoundRun, RunsAreComplete}

-- a text of inputs is not refused
pub given_not_refused : (net : Net) (bytes : Bytes) (inputs : Inputs) (e : InputRefusal) → Gives net bytes inputs → IsNoInputs net bytes e → ⊥
given_not_refused net bytes inputs e given refused =
    let told : ◌≢◌ {A = Result Inputs InputRefusal} (Err e) (Err input.Memory) = λ is. refused.cause (let same : e ≡ input.Memory = cc in same) in
    elim (only_answer net.scalars net.arrays bytes (Ok inputs) given (Err e) told refused.says) [
      | inl is ↦ absurd (cc)
      | inr is ↦ absurd (cc)
    ]

same_state : (net : Net) (bytes : Bytes) (o : RunOptions) (sound : IsSoundRun net bytes o) (inputs : Inputs) → Gives net bytes inputs
    → (Holds : State → Type 0) → RestsWithin net inputs o.limit (λ firings s. Holds s) → Holds sound.state
same_state net bytes o sound inputs given Holds rests =
    let one : inputs ≡ sound.inputs = one_inputs net.scalars net.arrays inputs sound.inputs bytes given sound.given in
    let there : RestsWithin net sound.inputs o.limit (λ firings s. Holds s) = subst (λ i. RestsWithin net i o.limit (λ firings s. Holds s)) one rests in
    subst Holds (sym (there.one.all.at_rest sound.firings sound.state sound.rests.run sound.rests.rest).0) there.holds

pub complete : RunsAreComplete
complete net bytes o (refusal.Inputs e) checked sound some is = given_not_refused net bytes sound.inputs e sound.given is
complete net bytes o (refusal.Schedule e) checked sound some is = is
complete net bytes o (refusal.NotEnabled i) checked sound some is = is
complete net bytes o (refusal.Limit n) checked sound some is =
    let one : is.1.inputs ≡ sound.inputs = one_inputs net.scalars net.arrays is.1.inputs sound.inputs bytes is.1.given sound.given in
    sound.short (subst (λ i. Long net i o.limit) one (subst (Long net is.1.inputs) is.0 is.1.holds))
complete net bytes o refusal.Stuck checked sound some is =
    same_state net bytes o sound is.inputs is.given (λ s. HasExited net s → ⊥) is.holds sound.sound.exited
complete net bytes o (refusal.Stray array name) checked sound some is =
    let stray : IsStrayIn net sound.state array name = same_state net bytes o sound is.inputs is.given (λ s. IsStrayIn net s array name) is.holds in
    let none : strays_at sound.state array ≡ 0 = sound.sound.clean array stray.first.within in
    absurd (omega (arith, stray.first.has, none))
complete net bytes o refusal.Memory checked sound some is = some refl
