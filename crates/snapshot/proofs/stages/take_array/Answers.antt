use Rattle.std.proofs.Common.{◌+◌, ◌≡◌, ◌<◌, ◌≤◌, arith, ap, length, map, sym, subst, ◌∙◌, refl, get_or, set, List, ℕ, [], false}
use Rattle.std.proofs.lemmas.List.{get_or_read}
use Rattle.net_types.specs.declared.net.Net.{Net}
use Rattle.net_types.specs.declared.net.Unit.{Unit as Kind}
use Rattle.net_types.specs.Nets.{kind_of}
use Rattle.net_check.specs.Ends.{is_lsq}
use Rattle.net_text.proofs.ReadLemmas.{none_read, some_read}
use Rattle.snapshot.specs.Texts.{no_array, no_scalar, words}
use Rattle.net_types.specs.Inputs.{AreElementsOf}
use Rattle.snapshot.specs.private.Words.{array_words}
use Rattle.snapshot.specs.private.Drafts.{ToArrays, ToStrays, at_arrays, at_strays}
use Rattle.snapshot.proofs.Stages6.{array_long, arrays_pass}
use Rattle.snapshot.proofs.Steps.{pass_answer}
use Rattle.snapshot.proofs.Turns.{array_never, array_told}
use Rattle.snapshot.proofs.stages.take_array.Goals as goal

pub returns-then-next-arrays : goal.returns-then-next-arrays
returns-then-next-arrays c =
    let e = c.as_slice-arrays.ensures ∙ ap (λ (n : Net). n.arrays) c.net.ensures.net in
    let net = c.args.net.now in
    let d = c.args.draft.now.saved in
    let l = words (map (λ w. w.now) c.args.words.now) in
    pass_answer net (ToArrays net c.args.next d) (ToStrays net 0 d) (at_arrays net c.args.next) (at_strays net 0) l c.take_stray.new.draft
    (arrays_pass net l c.args.next d c.requires.within (omega (arith, c.if-next-arrays.true, ap length e))) c.take_stray.result c.take_stray.ensures

pub set-requires : goal.set-requires
set-requires c =
    let e = c.as_slice-arrays.ensures ∙ ap (λ (n : Net). n.arrays) c.net.ensures.net in
    omega (arith, c.if-next-arrays.false, ap length e, array_long c.args.net.now.arrays c.args.draft.now.saved.parts.given.arrays c.requires.may.fits.stands.fit.arrays)

pub returns-in_default : goal.returns-in_default
returns-in_default c =
    let e = c.as_slice-arrays.ensures ∙ ap (λ (n : Net). n.arrays) c.net.ensures.net in
    let x = c.index-arrays-next.result in
    array_never c.args.net.now (map (λ w. w.now) c.args.words.now) c.requires.words c.args.next x (omega (arith, c.if-next-arrays.false, ap length e))
    (get_or_read c.as_slice-arrays.result.now c.args.next x (omega (arith, c.if-next-arrays.false)) c.index-arrays-next.is no_array ∙ ap (λ l. get_or l c.args.next no_array) e)
    c.in_ok-elements.ensures.name c.args.draft.now.saved
    (none_read (AreElementsOf x) (array_words x) (map (λ w. w.now) c.args.words.now) c.in_ok-elements.field-0 c.in_default.is c.in_ok-elements.ensures.reads)

pub returns : goal.returns
returns c =
    let e = c.as_slice-arrays.ensures ∙ ap (λ (n : Net). n.arrays) c.net.ensures.net in
    let x = c.index-arrays-next.result in
    let read = some_read (AreElementsOf x) (array_words x) (map (λ w. w.now) c.args.words.now) c.in_ok-elements.field-0 c.in-Some.elements c.in-Some.is c.in_ok-elements.ensures.reads in
    array_told c.args.net.now (map (λ w. w.now) c.args.words.now) c.requires.words c.args.next x (omega (arith, c.if-next-arrays.false, ap length e))
    (get_or_read c.as_slice-arrays.result.now c.args.next x (omega (arith, c.if-next-arrays.false)) c.index-arrays-next.is no_array ∙ ap (λ l. get_or l c.args.next no_array) e)
    c.in_ok-elements.ensures.name c.args.draft.now.saved c.in-Some.elements c.set.new.self c.requires.may read.0 read.1 c.set.ensures
