use Rattle.std.proofs.Common.{◌+◌, ◌≡◌, ◌≢◌, ◌<◌, ◌≤◌, ◌⊎◌, arith, ap, length, map, sym, subst, ◌∙◌, refl, get_or, set, List, ℕ, [], false, true, inl, inr}
use Rattle.std.proofs.lemmas.List.{get_or_read}
use Rattle.net_types.specs.declared.net.Net.{Net}
use Rattle.snapshot.specs.Texts.{no_array, no_scalar, words}
use Rattle.snapshot.specs.declared.draft.Stage.{Stage}
use Rattle.snapshot.specs.declared.draft.Stage.TheVariants.{First, Made, Scalars, Fired, Chans, Forks, Queues, Opened, Entries, Arrays, Strays, Ended}
use Rattle.snapshot.specs.private.Drafts.{ToFired, ToScalars, at_fired, at_scalars}
use Rattle.snapshot.proofs.Stages1.{scalars_pass, zip_long}
use Rattle.snapshot.proofs.Steps.{pass_result}
use Rattle.snapshot.proofs.Turns.{scalar_never, scalar_told}
use Rattle.snapshot.proofs.stages.take_scalar.Goals as goal

pub returns-then-next-scalars : goal.returns-then-next-scalars
returns-then-next-scalars c =
    let e = c.as_slice-scalars.ensures ∙ ap (λ (n : Net). n.scalars) c.net.ensures.net in
    let net = c.args.net.now in
    let d = c.args.draft.now.saved in
    let l = words (map (λ w. w.now) c.args.words.now) in
    pass_result net (ToScalars c.args.next d) (ToFired net 0 d) (at_scalars net c.args.next) (at_fired net 0) l c.take_fired.new.draft c.take_fired.result
    (scalars_pass net l c.args.next d c.requires.blank.within (omega (arith, c.if-next-scalars.true, ap length e))) c.take_fired.ensures

pub set-requires : goal.set-requires
set-requires c =
    let e = c.as_slice-scalars.ensures ∙ ap (λ (n : Net). n.scalars) c.net.ensures.net in
    omega (arith, c.if-next-scalars.false, ap length e, zip_long c.args.net.now.scalars c.args.draft.now.saved.parts.given.scalars c.requires.may.fits.stands.fit.scalars)

pub returns-in_default : goal.returns-in_default
returns-in_default c =
    let e = c.as_slice-scalars.ensures ∙ ap (λ (n : Net). n.scalars) c.net.ensures.net in
    let x = c.index-scalars-next.result in
    scalar_never c.args.net.now (map (λ w. w.now) c.args.words.now) c.requires.words c.args.next x (omega (arith, c.if-next-scalars.false, ap length e))
    (get_or_read c.as_slice-scalars.result.now c.args.next x (omega (arith, c.if-next-scalars.false)) c.index-scalars-next.is no_scalar ∙ ap (λ l. get_or l c.args.next no_scalar) e)
    c.in_default.ensures.name c.args.draft.now.saved c.in_default.ensures.reads

pub returns : goal.returns
returns c =
    let e = c.as_slice-scalars.ensures ∙ ap (λ (n : Net). n.scalars) c.net.ensures.net in
    let x = c.index-scalars-next.result in
    scalar_told c.args.net.now (map (λ w. w.now) c.args.words.now) c.requires.words c.args.next x (omega (arith, c.if-next-scalars.false, ap length e))
    (get_or_read c.as_slice-scalars.result.now c.args.next x (omega (arith, c.if-next-scalars.false)) c.index-scalars-next.is no_scalar ∙ ap (λ l. get_or l c.args.next no_scalar) e)
    c.in-Some.ensures.name c.args.draft.now.saved c.in-Some.pattern c.set.new.self c.requires.may c.requires.blank c.in-Some.ensures.reads.0 c.in-Some.ensures.reads.1 c.set.ensures
