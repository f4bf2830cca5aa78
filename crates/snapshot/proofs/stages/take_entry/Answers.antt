use Rattle.std.proofs.Common.{◌+◌, ◌<◌, arith, ap, length, map, set, sym, ◌∙◌}
use Rattle.lsq_core.specs.declared.entry.Entry.{Entry}
use Rattle.lsq_core.specs.declared.part.QueuePart.{QueuePart}
use Rattle.lsq_core.specs.Views.{entry_at}
use Rattle.net_core.specs.Parts.{no_part}
use Rattle.snapshot.specs.Texts.{words}
use Rattle.snapshot.specs.private.Drafts.{ToEntries, ToQueues, at_entries, at_queues, entries_of}
use Rattle.snapshot.proofs.EntriesLemmas.{lent_item, refill_set}
use Rattle.snapshot.proofs.Slims.{array_thin}
use Rattle.snapshot.proofs.Stages3.{entry_line_same}
use Rattle.snapshot.proofs.Stages5.{entries_pass, entries_refused, entries_taken}
use Rattle.snapshot.proofs.Steps.{pass_result}
use Rattle.snapshot.proofs.stages.take_entry.Goals as goal

pub returns-then-read-entries : goal.returns-then-read-entries
returns-then-read-entries c =
    let net = c.args.net.now in
    let d = c.args.draft.now.saved in
    let ws = map (λ w. w.now) c.args.words.now in
    let u = c.args.queue in
    let i = c.args.read in
    let long : u < length d.parts.queues = omega (arith, c.requires.queue.within, c.requires.may.fits.by_unit.queues_long) in
    let own = c.as_slice-entries.ensures ∙ ap (λ (q : QueuePart). q.entries) (lent_item d.parts.queues c.as_slice.result.now u c.index-as_slice-queue.result no_part c.as_slice.ensures long c.index-as_slice-queue.is) in
    pass_result net (ToEntries net u i d) (ToQueues net (u + 1) d) (at_entries net u i) (at_queues net (u + 1)) (words ws) c.take_queue.new.draft c.take_queue.result
    (entries_pass net c.requires.checked (array_thin net) ws c.requires.words u c.requires.queue i d (omega (arith, c.if-read-entries.true, ap length own))) c.take_queue.ensures

pub returns-in_default : goal.returns-in_default
returns-in_default c =
    let net = c.args.net.now in
    let d = c.args.draft.now.saved in
    let ws = map (λ w. w.now) c.args.words.now in
    let u = c.args.queue in
    let i = c.args.read in
    let long : u < length d.parts.queues = omega (arith, c.requires.queue.within, c.requires.may.fits.by_unit.queues_long) in
    let own = c.as_slice-entries.ensures ∙ ap (λ (q : QueuePart). q.entries) (lent_item d.parts.queues c.as_slice.result.now u c.index-as_slice-queue.result no_part c.as_slice.ensures long c.index-as_slice-queue.is) in
    entries_refused net c.requires.checked (array_thin net) ws c.requires.words u c.requires.queue i d c.requires.may (omega (arith, c.if-read-entries.false, ap length own))
    (λ x of serial is. c.in_default.ensures x of is)

pub returns-then-entry-serial : goal.returns-then-entry-serial
returns-then-entry-serial c =
    let net = c.args.net.now in
    let d = c.args.draft.now.saved in
    let ws = map (λ w. w.now) c.args.words.now in
    let u = c.args.queue in
    let i = c.args.read in
    let long : u < length d.parts.queues = omega (arith, c.requires.queue.within, c.requires.may.fits.by_unit.queues_long) in
    let own = c.as_slice-entries.ensures ∙ ap (λ (q : QueuePart). q.entries) (lent_item d.parts.queues c.as_slice.result.now u c.index-as_slice-queue.result no_part c.as_slice.ensures long c.index-as_slice-queue.is) in
    let told = ap (λ es. (entry_at es i).serial) own in
    entries_refused net c.requires.checked (array_thin net) ws c.requires.words u c.requires.queue i d c.requires.may (omega (arith, c.if-read-entries.false, ap length own))
    (λ x of serial is. c.if-entry-serial.true (ap (λ (y : Entry). y.serial) (sym (entry_line_same net c.requires.checked (array_thin net) u x c.in-Some.entry of c.in-Some.ensures.0 (is ∙ sym c.in-Some.ensures.1))) ∙ serial ∙ sym told))

pub returns : goal.returns
returns c =
    let net = c.args.net.now in
    let d = c.args.draft.now.saved in
    let qs = d.parts.queues in
    let ws = map (λ w. w.now) c.args.words.now in
    let u = c.args.queue in
    let i = c.args.read in
    let x = c.in-Some.entry in
    let long : u < length d.parts.queues = omega (arith, c.requires.queue.within, c.requires.may.fits.by_unit.queues_long) in
    let own = c.as_slice-entries.ensures ∙ ap (λ (q : QueuePart). q.entries) (lent_item qs c.as_slice.result.now u c.index-as_slice-queue.result no_part c.as_slice.ensures long c.index-as_slice-queue.is) in
    let told = ap (λ es. (entry_at es i).serial) own in
    let lent = lent_item qs c.as_mut_slice.result.now u c.index-as_mut_slice-queue.result no_part c.as_mut_slice.ensures.value long c.index-as_mut_slice-queue.is in
    let P : QueuePart → QueuePart = λ q. record { next = q.next; entries = set q.entries i x } in
    let new = refill_set qs c.as_mut_slice.result.now u c.set_entry.new.queue c.as_mut_slice.ensures.value ∙ ap (λ q. set qs u q) (c.set_entry.ensures ∙ ap P lent) in
    entries_taken net c.requires.checked (array_thin net) ws c.requires.words u c.requires.queue i d c.requires.may x _ (omega (arith, c.if-read-entries.false, ap length own)) c.in-Some.ensures.0 (c.if-entry-serial.false ∙ told) c.in-Some.ensures.1 new
