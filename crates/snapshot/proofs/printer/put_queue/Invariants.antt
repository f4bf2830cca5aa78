use Rattle.std.proofs.Common.{◌≡◌, ◌++◌, take, map}
use Rattle.net_text.specs.Bodies.{text_of}
use Rattle.snapshot.specs.Texts.{entry_line}
use Rattle.snapshot.proofs.printer.put_queue.Given as goal

abbrev pub invariant-loop-entry : goal.invariant-loop-entry
invariant-loop-entry l = l.text.items ≡ l.initial.text.items ++ text_of (map entry_line (take l.entry-index l.queue.entries))
