use Rattle.std.proofs.Common.{◌≡◌, ◌++◌}
use Rattle.net_text.specs.Bodies.{text_of}
use Rattle.snapshot.specs.Texts.{each, scalar_lines}
use Rattle.snapshot.proofs.printer.put_scalars.Given as goal

abbrev pub invariant-loop-j : goal.invariant-loop-j
invariant-loop-j l = l.text.items ≡ l.initial.text.items ++ text_of (each (scalar_lines l.scalars l.patterns) 0 l.j)
