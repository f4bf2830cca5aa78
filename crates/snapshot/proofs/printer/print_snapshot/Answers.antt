use Rattle.std.proofs.Common.{length}
use Rattle.net_types.specs.Nets.{kind_of}
use Rattle.snapshot.specs.Texts.{each, first_line, made_line, end_line, scalar_lines, fired_lines, value_lines, chan_lines, fork_lines, queue_lines, array_lines, stray_lines}
use Rattle.snapshot.proofs.Whole.{whole_text}
use Rattle.snapshot.proofs.printer.print_snapshot.Goals as goal

pub put_scalars-requires : goal.put_scalars-requires
put_scalars-requires c = rw (c.as_slice.ensures, c.as_slice-2.ensures, c.net-net.ensures.net) c.requires.fits.stands.fit.scalars

pub put_queues-requires : goal.put_queues-requires
put_queues-requires c = rw (c.as_slice-6.ensures, c.as_slice-7.ensures, c.net-net.ensures.net) c.requires.fits.by_unit.queues_long

pub put_arrays-requires : goal.put_arrays-requires
put_arrays-requires c = rw (c.as_slice-arrays.ensures, c.as_slice-8.ensures, c.net-net.ensures.net) c.requires.fits.stands.fit.arrays

pub put_strays-requires : goal.put_strays-requires
put_strays-requires c = rw (c.as_slice-arrays.ensures, c.as_slice-9.ensures, c.net-net.ensures.net) c.requires.fits.stands.strays

pub returns : goal.returns
returns c =
    let net = c.args.net.now in
    let p = c.args.saved.now.parts in
    let made = c.args.saved.now.made in
    let fits = c.requires.fits in
    whole_text first_line (made_line made) end_line (each (scalar_lines net.scalars p.given.scalars) 0 (length net.scalars)) (each (fired_lines p.fired) 0 (length net.units)) (value_lines p.value)
    (each (chan_lines p.tokens) 0 (length net.chans)) (each (fork_lines p.sent) 0 (length net.units)) (each (queue_lines (kind_of net) p.queues) 0 (length net.units))
    (each (array_lines net.arrays p.given.arrays) 0 (length net.arrays)) (each (stray_lines net.arrays p.strays) 0 (length net.arrays)) _ _ _ _ _ _ _ _ _ _ _ _
    c.new-text.ensures.items c.in_ok-put_line.ensures.ok c.in_ok-put_line-2.ensures.ok
    (rw (c.as_slice.ensures, c.as_slice-2.ensures, c.net-net.ensures.net) at c.in_ok-put_scalars.ensures)
    (rw (c.as_slice-3.ensures, fits.by_unit.fired_long) at c.in_ok-put_fired.ensures)
    c.in_ok-put_value.ensures
    (rw (c.as_slice-4.ensures, fits.stands.chans) at c.in_ok-put_chans.ensures)
    (rw (c.as_slice-5.ensures, fits.by_unit.sent_long) at c.in_ok-put_forks.ensures)
    (rw (c.as_slice-6.ensures, c.as_slice-7.ensures, c.net-net.ensures.net) at c.in_ok-put_queues.ensures)
    (rw (c.as_slice-arrays.ensures, c.as_slice-8.ensures, c.net-net.ensures.net) at c.in_ok-put_arrays.ensures)
    (rw (c.as_slice-arrays.ensures, c.as_slice-9.ensures, c.net-net.ensures.net) at c.in_ok-put_strays.ensures)
    c.in_ok-put_line-3.ensures.ok
