use Rattle.std.proofs.Common.{◌≡◌, ◌∙◌, ℕ, List, [], ap, map, subst, sym}
use Rattle.net_types.specs.declared.net.Chan.{Chan}
use Rattle.net_core.specs.Held.{Held}
use Rattle.net_core.specs.Runs.{opening}
use Rattle.net_core.specs.States.{CountsWithin, IsOf, slots_in, state_of, with_slots}
use Rattle.net_core.specs.declared.state.State.{State as Stored}
use Rattle.net_core.proofs.OpenLemmas.{no_tokens, opening_counts, same_held}
use Rattle.net_core.proofs.state.State.new.Goals as goal

module _ (c : goal.After-drop-state-2) where
  chans : c.as_slice.result.now ≡ c.args.net.now.chans
  chans = c.as_slice.ensures ∙ ap (λ n. n.chans) c.net.ensures.net

  tokens : c.in_ok-state-2.field-0.tokens ≡ map (λ (d : Chan). []) c.args.net.now.chans
  tokens = c.in_ok-state-2.ensures.tokens ∙ ap (map (λ (d : Chan). [])) chans

  slots : c.in_ok-state-2.field-0.slots ≡ slots_in c.args.net.now
  slots = c.in_ok-state-2.ensures.slots ∙ ap (map (λ (d : Chan). d.slots)) chans

  dates : c.in_ok-state-2.field-0.dates ≡ map (λ (d : Chan). []) c.args.net.now.chans
  dates = c.in_ok-state-2.ensures.dates ∙ ap (map (λ (d : Chan). [])) chans

  abbrev made : Held → Stored
  made h = record c.in_ok-state.state { tokens = h }

  laid : (with_slots (slots_in c.args.net.now) c.in_ok-state.state).tokens ≡ c.in_ok-state-2.field-0
  laid = same_held c.in_ok-state-2.field-0 c.args.net.now.chans tokens slots dates

pub returns-clause-of : goal.returns-clause-of
returns-clause-of c = subst (λ h. IsOf c.args.net.now (made c h)) (laid c) c.in_ok-state.ensures.of

pub returns-clause-state : goal.returns-clause-state
returns-clause-state c = subst (λ h. state_of (made c h) ≡ opening c.args.net.now c.args.inputs.now) (laid c) c.in_ok-state.ensures.state

pub returns-clause-counts : goal.returns-clause-counts
returns-clause-counts c = subst (CountsWithin 0) (sym (returns-clause-state c)) (opening_counts c.args.net.now c.args.inputs.now)

pub returns-clause-dates : goal.returns-clause-dates
returns-clause-dates c = dates c
