use Rattle.std.proofs.Common.{◌≡◌, ◌++◌, ◌∷◌, take, decimal}
use Rattle.std.specs.List.{flat_map}
use Rattle.snapshot.proofs.printer.put_tokens.Given as goal

abbrev pub invariant-loop-token : goal.invariant-loop-token
invariant-loop-token l = l.text.items ≡ l.initial.text.items ++ flat_map (λ n. 32 ∷ decimal n) (take l.token-index l.tokens)
