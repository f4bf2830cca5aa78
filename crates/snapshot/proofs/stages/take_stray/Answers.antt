use Rattle.std.proofs.Common.{◌+◌, ◌≡◌, ◌<◌, ◌≤◌, arith, ap, length, map, sym, ◌∙◌, refl, get_or}
use Rattle.std.proofs.lemmas.List.{get_or_read}
use Rattle.net_types.specs.declared.net.Net.{Net}
use Rattle.snapshot.specs.Texts.{no_array, no_scalar, words}
use Rattle.snapshot.proofs.Stages6.{end_taken}
use Rattle.snapshot.proofs.Turns.{stray_never, stray_told}
use Rattle.snapshot.proofs.stages.take_stray.Goals as goal

pub returns-then-next-arrays : goal.returns-then-next-arrays
returns-then-next-arrays c =
    let e = c.as_slice-arrays.ensures ∙ ap (λ (n : Net). n.arrays) c.net.ensures.net in
    end_taken c.args.net.now (map (λ w. w.now) c.args.words.now) c.requires.words c.args.next c.requires.within (omega (arith, c.if-next-arrays.true, ap length e)) c.args.draft.now.saved c.requires.may (sym (c.if-not-is_end.ensures.0 refl))

pub returns-in_default : goal.returns-in_default
returns-in_default c =
    let e = c.as_slice-arrays.ensures ∙ ap (λ (n : Net). n.arrays) c.net.ensures.net in
    stray_never c.args.net.now (map (λ w. w.now) c.args.words.now) c.requires.words c.args.next c.index-arrays-next.result (omega (arith, c.if-next-arrays.false, ap length e))
    (get_or_read c.as_slice-arrays.result.now c.args.next c.index-arrays-next.result (omega (arith, c.if-next-arrays.false)) c.index-arrays-next.is no_array ∙ ap (λ l. get_or l c.args.next no_array) e)
    c.in_default.ensures.name c.args.draft.now.saved c.in_default.ensures.reads

pub returns : goal.returns
returns c =
    let e = c.as_slice-arrays.ensures ∙ ap (λ (n : Net). n.arrays) c.net.ensures.net in
    stray_told c.args.net.now (map (λ w. w.now) c.args.words.now) c.requires.words c.args.next c.index-arrays-next.result (omega (arith, c.if-next-arrays.false, ap length e))
    (get_or_read c.as_slice-arrays.result.now c.args.next c.index-arrays-next.result (omega (arith, c.if-next-arrays.false)) c.index-arrays-next.is no_array ∙ ap (λ l. get_or l c.args.next no_array) e)
    c.in-Some.ensures.name c.args.draft.now.saved c.in-Some.count c.set.new.self c.requires.may c.in-Some.ensures.reads.0 c.in-Some.ensures.reads.1 c.set.ensures
