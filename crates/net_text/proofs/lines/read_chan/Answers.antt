use Rattle.net_text.specs.Fits.{ChanFits}
use Rattle.net_text.specs.Reads.{chan_text}
use Rattle.net_text.proofs.LineTexts.{chan_cut, to_cut, to_uncut, width_cut, width_uncut, slots_cut, slots_uncut}
use Rattle.net_text.proofs.ReadLemmas.{none_some, reads_none}
use Rattle.net_text.proofs.lines.read_chan.Goals as goal

pub returns-in_err-to : goal.returns-in_err-to
returns-in_err-to c = reads_none ChanFits chan_text c.args.line.now _ c.from_residual-in_err-to.ensures (λ v fits e.
    let s1 = chan_cut v c.args.line.now c.in_ok-after.field-0.now c.in_ok-from.from.now c.in_ok-from.rest.now fits e c.in_ok-after.ensures c.in_ok-from.ensures in
    to_uncut v c.in_ok-from.rest.now s1.1 c.in_err-to.ensures)

pub returns-in_err-width : goal.returns-in_err-width
returns-in_err-width c = reads_none ChanFits chan_text c.args.line.now _ c.from_residual-in_err-width.ensures (λ v fits e.
    let s1 = chan_cut v c.args.line.now c.in_ok-after.field-0.now c.in_ok-from.from.now c.in_ok-from.rest.now fits e c.in_ok-after.ensures c.in_ok-from.ensures in
    let s2 = to_cut v c.in_ok-from.rest.now c.in_ok-to.to.now c.in_ok-to.rest.now fits s1.1 c.in_ok-to.ensures in
    width_uncut v c.in_ok-to.rest.now s2.1 c.in_err-width.ensures)

pub returns-in_err-slots : goal.returns-in_err-slots
returns-in_err-slots c = reads_none ChanFits chan_text c.args.line.now _ c.from_residual-in_err-slots.ensures (λ v fits e.
    let s1 = chan_cut v c.args.line.now c.in_ok-after.field-0.now c.in_ok-from.from.now c.in_ok-from.rest.now fits e c.in_ok-after.ensures c.in_ok-from.ensures in
    let s2 = to_cut v c.in_ok-from.rest.now c.in_ok-to.to.now c.in_ok-to.rest.now fits s1.1 c.in_ok-to.ensures in
    let s3 = width_cut v c.in_ok-to.rest.now c.in_ok-width.width.now c.in_ok-width.rest.now fits s2.1 c.in_ok-width.ensures in
    slots_uncut v c.in_ok-width.rest.now s3.1 c.in_err-slots.ensures)

pub returns-in_err-delay : goal.returns-in_err-delay
returns-in_err-delay c = reads_none ChanFits chan_text c.args.line.now _ c.from_residual-in_err-delay.ensures (λ v fits e.
    let s1 = chan_cut v c.args.line.now c.in_ok-after.field-0.now c.in_ok-from.from.now c.in_ok-from.rest.now fits e c.in_ok-after.ensures c.in_ok-from.ensures in
    let s2 = to_cut v c.in_ok-from.rest.now c.in_ok-to.to.now c.in_ok-to.rest.now fits s1.1 c.in_ok-to.ensures in
    let s3 = width_cut v c.in_ok-to.rest.now c.in_ok-width.width.now c.in_ok-width.rest.now fits s2.1 c.in_ok-width.ensures in
    let s4 = slots_cut v c.in_ok-width.rest.now c.in_ok-slots.slots.now c.in_ok-slots.rest.now fits s3.1 c.in_ok-slots.ensures in
    c.in_err-delay.ensures (v.delay, v.ctl) fits.delay s4.1)

pub returns-in_err-read_place : goal.returns-in_err-read_place
returns-in_err-read_place c = reads_none ChanFits chan_text c.args.line.now _ c.from_residual-in_err-read_place.ensures (λ v fits e.
    let s1 = chan_cut v c.args.line.now c.in_ok-after.field-0.now c.in_ok-from.from.now c.in_ok-from.rest.now fits e c.in_ok-after.ensures c.in_ok-from.ensures in
    c.in_err-read_place.ensures v.from fits.from s1.0)

pub returns-in_err-read_place-2 : goal.returns-in_err-read_place-2
returns-in_err-read_place-2 c = reads_none ChanFits chan_text c.args.line.now _ c.from_residual-in_err-read_place-2.ensures (λ v fits e.
    let s1 = chan_cut v c.args.line.now c.in_ok-after.field-0.now c.in_ok-from.from.now c.in_ok-from.rest.now fits e c.in_ok-after.ensures c.in_ok-from.ensures in
    let s2 = to_cut v c.in_ok-from.rest.now c.in_ok-to.to.now c.in_ok-to.rest.now fits s1.1 c.in_ok-to.ensures in
    c.in_err-read_place-2.ensures v.to fits.to s2.0)

pub returns-in_err-read_u32 : goal.returns-in_err-read_u32
returns-in_err-read_u32 c = reads_none ChanFits chan_text c.args.line.now _ c.from_residual-in_err-read_u32.ensures (λ v fits e.
    let s1 = chan_cut v c.args.line.now c.in_ok-after.field-0.now c.in_ok-from.from.now c.in_ok-from.rest.now fits e c.in_ok-after.ensures c.in_ok-from.ensures in
    let s2 = to_cut v c.in_ok-from.rest.now c.in_ok-to.to.now c.in_ok-to.rest.now fits s1.1 c.in_ok-to.ensures in
    let s3 = width_cut v c.in_ok-to.rest.now c.in_ok-width.width.now c.in_ok-width.rest.now fits s2.1 c.in_ok-width.ensures in
    none_some v.width (c.in_err-read_u32.ensures.every v.width fits.width s3.0))

pub returns-in_err-read_u32-2 : goal.returns-in_err-read_u32-2
returns-in_err-read_u32-2 c = reads_none ChanFits chan_text c.args.line.now _ c.from_residual-in_err-read_u32-2.ensures (λ v fits e.
    let s1 = chan_cut v c.args.line.now c.in_ok-after.field-0.now c.in_ok-from.from.now c.in_ok-from.rest.now fits e c.in_ok-after.ensures c.in_ok-from.ensures in
    let s2 = to_cut v c.in_ok-from.rest.now c.in_ok-to.to.now c.in_ok-to.rest.now fits s1.1 c.in_ok-to.ensures in
    let s3 = width_cut v c.in_ok-to.rest.now c.in_ok-width.width.now c.in_ok-width.rest.now fits s2.1 c.in_ok-width.ensures in
    let s4 = slots_cut v c.in_ok-width.rest.now c.in_ok-slots.slots.now c.in_ok-slots.rest.now fits s3.1 c.in_ok-slots.ensures in
    none_some v.slots (c.in_err-read_u32-2.ensures.every v.slots fits.slots s4.0))
