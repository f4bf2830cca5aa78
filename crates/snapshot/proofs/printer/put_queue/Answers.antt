use Rattle.std.proofs.Common.{◌∷◌, [], codes, decimal, refl}
use Rattle.snapshot.specs.Texts.{words}
use Rattle.snapshot.proofs.Printed.{entries_of, entry_more}
use Rattle.snapshot.proofs.printer.put_queue.Goals as goal

pub returns : goal.returns
returns c = entries_of (words (codes "queue" ∷ decimal c.args.unit ∷ decimal c.args.queue.now.next ∷ [])) c.args.queue.now.entries c.loop-entry.entry-index _ _ _ c.in_ok-put_line.ensures.ok c.loop-entry.invariant (rw c.as_slice-entry-items.ensures at c.loop-entry-test.false)

pub loop-entry-preserved : goal.loop-entry-preserved
loop-entry-preserved c = entry_more _ _ _ c.loop-entry.entry-index _ _ c.args.queue.now.entries c.loop-entry.invariant
    (rw c.as_slice-entry-items.ensures at c.in_ok-put_entry.ensures) refl (rw c.as_slice-entry-items.ensures at c.loop-entry-test.true)
