use Rattle.std.proofs.Common.{◌+◌, ◌≡◌, ◌<◌, ◌≤◌, arith, ap, length, map, sym, subst, ◌∙◌, refl, get_or, set, List, ℕ, [], false}
use Rattle.std.proofs.lemmas.List.{get_or_read}
use Rattle.net_types.specs.declared.net.Net.{Net}
use Rattle.net_types.specs.declared.net.Unit.{Unit as Kind}
use Rattle.net_types.specs.Nets.{kind_of}
use Rattle.net_check.specs.Ends.{is_lsq}
use Rattle.net_text.proofs.ReadLemmas.{none_read, some_read}
use Rattle.snapshot.specs.Texts.{no_array, no_scalar, words}
use Rattle.lsq_core.specs.declared.part.QueuePart.{QueuePart}
use Rattle.lsq_core.specs.declared.entry.Entry.{Entry}
use Rattle.snapshot.specs.private.Words.{IsFirstQueue}
use Rattle.snapshot.specs.private.Drafts.{ToArrays, ToQueues, at_arrays, at_queues}
use Rattle.snapshot.proofs.Stages4.{queue_refused, queue_taken, queues_pass}
use Rattle.snapshot.proofs.Steps.{pass_result}
use Rattle.snapshot.proofs.stages.take_queue.Goals as goal

pub returns-then-queue-units : goal.returns-then-queue-units
returns-then-queue-units c =
    let e = c.as_slice-units.ensures ∙ ap (λ (n : Net). n.units) c.net.ensures.net in
    let f : IsFirstQueue c.args.net.now.units c.args.from c.queue_from-queue.result = subst (λ us. IsFirstQueue us c.args.from c.queue_from-queue.result) e c.queue_from-queue.ensures in
    let net = c.args.net.now in
    let d = c.args.draft.now.saved in
    let ws = map (λ w. w.now) c.args.words.now in
    pass_result net (ToQueues net c.args.from d) (ToArrays net 0 d) (at_queues net c.args.from) (at_arrays net 0) (words ws) c.take_array.new.draft c.take_array.result
    (queues_pass net c.net.ensures.checked ws c.requires.words c.args.from d c.requires.may c.requires.within (λ j low high. f.none j low (omega (arith, c.if-queue-units.true, ap length e, high)))) c.take_array.ensures

pub returns-in_default : goal.returns-in_default
returns-in_default c =
    let e = c.as_slice-units.ensures ∙ ap (λ (n : Net). n.units) c.net.ensures.net in
    let f : IsFirstQueue c.args.net.now.units c.args.from c.queue_from-queue.result = subst (λ us. IsFirstQueue us c.args.from c.queue_from-queue.result) e c.queue_from-queue.ensures in
    let high : c.queue_from-queue.result < length c.args.net.now.units = omega (arith, c.if-queue-units.false, ap length e) in
    queue_refused c.args.net.now c.net.ensures.checked (map (λ w. w.now) c.args.words.now) c.requires.words c.args.from c.queue_from-queue.result f.from high (f.here high) f.none c.args.draft.now.saved c.in_default.ensures

pub returns : goal.returns
returns c =
    let e = c.as_slice-units.ensures ∙ ap (λ (n : Net). n.units) c.net.ensures.net in
    let f : IsFirstQueue c.args.net.now.units c.args.from c.queue_from-queue.result = subst (λ us. IsFirstQueue us c.args.from c.queue_from-queue.result) e c.queue_from-queue.ensures in
    let high : c.queue_from-queue.result < length c.args.net.now.units = omega (arith, c.if-queue-units.false, ap length e) in
    let P : List Entry → List QueuePart = λ es. set c.args.draft.now.saved.parts.queues c.queue_from-queue.result (record { next = c.in-Some.next; entries = es }) in
    queue_taken c.args.net.now c.net.ensures.checked (map (λ w. w.now) c.args.words.now) c.requires.words c.args.from c.queue_from-queue.result f.from high (f.here high) f.none c.args.draft.now.saved
    c.in-Some.next c.set.new.self c.requires.may c.in-Some.ensures.0 c.in-Some.ensures.1 (c.set.ensures ∙ ap P c.new-entries.ensures)
