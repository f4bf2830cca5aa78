use Rattle.std.proofs.Common.{◌+◌, ◌≡◌, ◌≢◌, ◌<◌, ◌≤◌, ◌⊎◌, arith, ap, length, map, sym, subst, ◌∙◌, refl, get_or, set, List, ℕ, [], false, true, inl, inr}
use Rattle.std.proofs.lemmas.List.{get_or_read}
use Rattle.net_types.specs.declared.net.Net.{Net}
use Rattle.net_types.specs.declared.net.Unit.{Unit as Kind}
use Rattle.net_types.specs.declared.net.Unit.TheVariants.{Sink}
use Rattle.net_types.specs.Nets.{kind_of, into}
use Rattle.net_text.proofs.ReadLemmas.{none_read, some_read}
use Rattle.snapshot.specs.Texts.{no_array, no_scalar, words}
use Rattle.snapshot.proofs.Steps.{pass_answer, pass_result}
use Rattle.snapshot.specs.Fits.{ValueFits}
use Rattle.snapshot.specs.private.Words.{FiredFits, number_words, value_after}
use Rattle.snapshot.specs.private.Drafts.{ToFired, ToValue, at_fired, at_value}
use Rattle.snapshot.proofs.ExitLemmas.{after_fits}
use Rattle.snapshot.proofs.Stages1.{fired_pass, fired_taken}
use Rattle.snapshot.proofs.stages.take_fired.Goals as goal

pub returns-in_default : goal.returns-in_default
returns-in_default c =
    let e = c.as_slice-units.ensures ∙ ap (λ (n : Net). n.units) c.net.ensures.net in
    let net = c.args.net.now in
    let d = c.args.draft.now.saved in
    let ws = map (λ w. w.now) c.args.words.now in
    pass_result net (ToFired net c.args.from d) (ToValue net d) (at_fired net c.args.from) (at_value net) (words ws) c.take_value.new.draft c.take_value.result
    (fired_pass net c.requires.checked ws c.requires.words c.args.from d c.requires.blank (λ u f. c.in_default.ensures u (subst (λ us. FiredFits us c.args.from u) (sym e) f))) c.take_value.ensures

pub returns : goal.returns
returns c =
    let e = c.as_slice-units.ensures ∙ ap (λ (n : Net). n.units) c.net.ensures.net in
    let net = c.args.net.now in
    let d = c.args.draft.now.saved in
    let ws = map (λ w. w.now) c.args.words.now in
    let u = c.in-Some.unit in
    let f : FiredFits net.units c.args.from u = subst (λ us. FiredFits us c.args.from u) e c.in-Some.ensures.0 in
    let low : u < length c.as_slice-units.result.now = omega (arith, f.within, ap length e) in
    let kind = get_or_read c.as_slice-units.result.now u c.index-units-unit.result low c.index-units-unit.is (Sink 0) ∙ ap (λ us. get_or us u (Sink 0)) e in
    let o = c.value_after-value.ensures ∙ ap (λ (n : Net). value_after n.result c.index-units-unit.result d.parts.value) c.net-2.ensures.net ∙ ap (λ k. value_after net.result k d.parts.value) kind in
    let long : u < length d.parts.fired = omega (arith, f.within, c.requires.may.fits.by_unit.fired_long) in
    fired_taken net c.requires.checked ws c.requires.words c.args.from d u c.set.new.self c.value_after-value.result c.requires.may c.requires.blank f c.in-Some.ensures.1 c.set.ensures
    (λ x is. subst (λ v. ValueFits net.result (get_or c.set.new.self x false) v) (sym o) (after_fits net c.requires.checked d c.requires.may u c.set.new.self long c.set.ensures x is))
