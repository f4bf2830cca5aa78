use Rattle.std.proofs.Common.{◌≡◌, ◌++◌, ◌∷◌, take, decimal}
use Rattle.std.specs.List.{flat_map}
use Rattle.snapshot.proofs.printer.put_sent.Given as goal

abbrev pub invariant-loop-out : goal.invariant-loop-out
invariant-loop-out l = l.text.items ≡ l.initial.text.items ++ flat_map (λ n. 32 ∷ decimal n) (take l.out-index l.sent)
