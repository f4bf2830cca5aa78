use Rattle.std.proofs.Common.{◌≡◌, ◌++◌}
use Rattle.net_text.specs.Bodies.{text_of}
use Rattle.snapshot.specs.Texts.{each, array_lines}
use Rattle.snapshot.proofs.printer.put_arrays.Given as goal

abbrev pub invariant-loop-a : goal.invariant-loop-a
invariant-loop-a l = l.text.items ≡ l.initial.text.items ++ text_of (each (array_lines l.arrays l.elements) 0 l.a)
