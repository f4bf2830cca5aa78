use Rattle.std.proofs.Common.{◌≡◌, ◌++◌}
use Rattle.net_text.specs.Bodies.{text_of}
use Rattle.snapshot.specs.Texts.{each, fork_lines}
use Rattle.snapshot.proofs.printer.put_forks.Given as goal

abbrev pub invariant-loop-u : goal.invariant-loop-u
invariant-loop-u l = l.text.items ≡ l.initial.text.items ++ text_of (each (fork_lines l.sent) 0 l.u)
