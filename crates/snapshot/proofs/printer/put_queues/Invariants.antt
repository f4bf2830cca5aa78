use Rattle.std.proofs.Common.{◌≡◌, ◌++◌, get_or}
use Rattle.net_types.specs.declared.net.Unit.TheVariants.{Sink}
use Rattle.net_text.specs.Bodies.{text_of}
use Rattle.snapshot.specs.Texts.{each, queue_lines}
use Rattle.snapshot.proofs.printer.put_queues.Given as goal

abbrev pub invariant-loop-u : goal.invariant-loop-u
invariant-loop-u l = l.text.items ≡ l.initial.text.items ++ text_of (each (queue_lines (λ k. get_or l.units k (Sink 0)) l.queues) 0 l.u)
