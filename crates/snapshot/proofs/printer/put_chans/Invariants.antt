use Rattle.std.proofs.Common.{◌≡◌, ◌++◌}
use Rattle.net_text.specs.Bodies.{text_of}
use Rattle.snapshot.specs.Texts.{each, chan_lines}
use Rattle.snapshot.proofs.printer.put_chans.Given as goal

abbrev pub invariant-loop-chan : goal.invariant-loop-chan
invariant-loop-chan l = l.text.items ≡ l.initial.text.items ++ text_of (each (chan_lines l.tokens) 0 l.chan)
