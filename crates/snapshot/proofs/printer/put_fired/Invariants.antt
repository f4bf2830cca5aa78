use Rattle.std.proofs.Common.{◌≡◌, ◌++◌}
use Rattle.net_text.specs.Bodies.{text_of}
use Rattle.snapshot.specs.Texts.{each, fired_lines}
use Rattle.snapshot.proofs.printer.put_fired.Given as goal

abbrev pub invariant-loop-u : goal.invariant-loop-u
invariant-loop-u l = l.text.items ≡ l.initial.text.items ++ text_of (each (fired_lines l.fired) 0 l.u)
