use Rattle.std.proofs.Common.{◌∙◌, ap, List, subst, sym}
use Rattle.std.specs.Iterator.{YieldsFirst}
use Rattle.std.specs.List.{slice_get}
use Rattle.firing_log.specs.declared.entry.Entry.{Entry}
use Rattle.firing_log.specs.Made.{HaveStamps}
use Rattle.firing_log.proofs.Reading.{later_is, later_stamps, none_left}
use Rattle.firing_log.proofs.entries.EntriesIterator.next.Goals as goal

pub returns-in_err-entry-clause-steps : goal.returns-in_err-entry-clause-steps
returns-in_err-entry-clause-steps c =
    let i = c.self.inside in
    let none = sym c.self.view_is ∙ none_left i.before i.made.now i.numbers.now i.serials.now i.stamps.now (ap (λ (es : List Entry). slice_get es 0) c.self.view_is ∙ sym c.in_err-entry.ensures) in
    subst (λ r. YieldsFirst (λ (s : List Entry). s) c.args.self.now r c.args.self.now) (sym c.from_residual.ensures) (none, none)

pub invariant_of-self : goal.invariant_of-self
invariant_of-self c =
    let i = c.self.inside in
    let m = c.in_ok-made.field-0.now in
    let e = c.in_ok-entry.entry in
    subst HaveStamps
    (sym (later_is e.stamp m i.made.now c.past_if-self-inside.result.now i.numbers.now i.serials.now i.stamps.now c.past_if-self-inside-2.result.now c.past_if-self-inside-3.result.now c.past_if-self-inside-4.result.now
    c.has_number.result c.has_serial.result c.past_if-self-inside.ensures c.past_if-self-inside-2.ensures c.has_number.ensures c.past_if-self-inside-3.ensures c.has_serial.ensures c.past_if-self-inside-4.ensures))
    (later_stamps i.before m e i.made.now i.numbers.now i.serials.now i.stamps.now c.in_ok-made.ensures.value (c.in_ok-entry.ensures ∙ ap (λ (es : List Entry). slice_get es 0) (sym c.self.view_is)) c.self.invariant)
