use Rattle.std.proofs.Common.{◌∷◌, ◌-◌}
use Rattle.lsq_core.specs.declared.part.QueuePart.{QueuePart}
use Rattle.net_types.specs.declared.net.Unit.TheVariants.{Sink}
use Rattle.net_core.specs.Parts.{no_part}
use Rattle.snapshot.specs.private.Words.{depth_of, first_stores, fresh_run}
use Rattle.std.proofs.Common.{◌+◌, ◌≡◌, ◌≢◌, ◌<◌, ◌≤◌, ◌⊎◌, arith, ap, length, map, sym, subst, ◌∙◌, refl, get_or, set, List, ℕ, [], false, true, inl, inr, codes}
use Rattle.std.proofs.lemmas.List.{get_or_read}
use Rattle.net_types.specs.declared.net.Net.{Net}
use Rattle.net_types.specs.declared.net.Chan.{Chan}
use Rattle.net_types.specs.Nets.{nowhere, kind_of}
use Rattle.net_text.proofs.ReadLemmas.{none_read, some_read}
use Rattle.snapshot.specs.Texts.{words}
use Rattle.snapshot.proofs.Steps.{pass_result}
use Rattle.snapshot.specs.private.Drafts.{ToOpened, ToQueues, at_entries, at_queues}
use Rattle.snapshot.proofs.Slims.{array_thin}
use Rattle.snapshot.proofs.Stages5.{opened_pass, opened_refused, opened_taken}
use Rattle.snapshot.proofs.stages.take_opened.Goals as goal
use Rattle.snapshot.proofs.stages.take_opened.Goals.{then-entry-next-via-then-entry-next, then-entry-next-via-else-entry-next+then-next-entry}

pub returns-in_default : goal.returns-in_default
returns-in_default c =
    let net = c.args.net.now in
    let d = c.args.draft.now.saved in
    let ws = map (λ w. w.now) c.args.words.now in
    pass_result net (ToOpened net c.args.queue d) (ToQueues net (c.args.queue + 1) d) (at_entries net c.args.queue 0) (at_queues net (c.args.queue + 1)) (words ws) c.take_queue.new.draft c.take_queue.result
    (opened_pass net c.requires.checked (array_thin net) ws c.requires.words c.args.queue c.requires.opened.at d c.requires.may c.requires.opened c.in_default.ensures) c.take_queue.ensures

pub returns-then-entry-next : goal.returns-then-entry-next
returns-then-entry-next c =
    let net = c.args.net.now in
    let d = c.args.draft.now.saved in
    let ws = map (λ w. w.now) c.args.words.now in
    let u = c.args.queue in
    let e = c.as_slice.ensures ∙ ap (λ (n : Net). n.units) c.net.ensures.net in
    let low : u < length c.as_slice.result.now = omega (arith, c.requires.opened.at.within, ap length e) in
    let kind = get_or_read c.as_slice.result.now u c.index-as_slice-queue.result low c.index-as_slice-queue.is (Sink 0) ∙ ap (λ us. get_or us u (Sink 0)) e in
    let long : u < length c.as_slice-2.result.now = omega (arith, c.requires.opened.at.within, ap length c.as_slice-2.ensures, c.requires.may.fits.by_unit.queues_long) in
    let part = get_or_read c.as_slice-2.result.now u c.index-as_slice-queue-2.result long c.index-as_slice-queue-2.is no_part ∙ ap (λ qs. get_or qs u no_part) c.as_slice-2.ensures in
    let own = ap (λ (q : QueuePart). q.next) (sym c.index-as_slice-queue-2.is ∙ part) in
    let told = ap (λ (q : QueuePart). q.next) part in
    opened_refused net c.requires.checked (array_thin net) ws c.requires.words u c.requires.opened.at d c.in-Some.entry c.in-Some.ensures.0 c.in-Some.ensures.1
    (elim c.then-entry-next.branch [
      | then-entry-next-via-then-entry-next w ↦ inl (omega (arith, w.if-entry-next.true, own, told))
      | then-entry-next-via-else-entry-next+then-next-entry w ↦ inr (omega (arith, w.if-next-entry.true, w.depth_of.ensures ∙ ap depth_of kind, own, told))
    ])

pub returns : goal.returns
returns c =
    let net = c.args.net.now in
    let d = c.args.draft.now.saved in
    let ws = map (λ w. w.now) c.args.words.now in
    let u = c.args.queue in
    let e = c.as_slice.ensures ∙ ap (λ (n : Net). n.units) c.net.ensures.net in
    let low : u < length c.as_slice.result.now = omega (arith, c.requires.opened.at.within, ap length e) in
    let kind = get_or_read c.as_slice.result.now u c.index-as_slice-queue.result low c.index-as_slice-queue.is (Sink 0) ∙ ap (λ us. get_or us u (Sink 0)) e in
    let long : u < length c.as_slice-2.result.now = omega (arith, c.requires.opened.at.within, ap length c.as_slice-2.ensures, c.requires.may.fits.by_unit.queues_long) in
    let part = get_or_read c.as_slice-2.result.now u c.index-as_slice-queue-2.result long c.index-as_slice-queue-2.is no_part ∙ ap (λ qs. get_or qs u no_part) c.as_slice-2.ensures in
    let own = ap (λ (q : QueuePart). q.next) (sym c.index-as_slice-queue-2.is ∙ part) in
    let told = ap (λ (q : QueuePart). q.next) part in
    let x = c.in-Some.entry in
    let n = (get_or c.as_slice-2.result.now u c.index-as_slice-queue-2.result).next in
    let k = first_stores (kind_of net u) in
    let stores = c.first_stores.ensures ∙ ap first_stores kind in
    let new = c.set.ensures ∙ ap (λ es. set d.parts.queues u (record { next = n; entries = es })) (c.in_ok-entries.ensures ∙ ap (λ b. x ∷ fresh_run (x.serial + 1) (n - (x.serial + 1)) b) stores)
    ∙ ap (λ i. set d.parts.queues u (record { next = i; entries = x ∷ fresh_run (x.serial + 1) (i - (x.serial + 1)) k })) own in
    opened_taken net c.requires.checked (array_thin net) ws c.requires.words u c.requires.opened.at d c.requires.may x c.set.new.self c.in-Some.ensures.0 c.in-Some.ensures.1 (omega (arith, c.if-entry-next.false, own, told))
    (omega (arith, c.if-next-entry.false, c.depth_of.ensures ∙ ap depth_of kind, own, told)) new
