use Rattle.std.proofs.Common.{◌≡◌, map, take, decimal}
use Rattle.std.specs.List.{All}
use Rattle.snapshot.specs.private.Words.{PatternFits}
use Rattle.snapshot.proofs.fields.read_tokens.Given as goal

abbrev pub invariant-loop-word : goal.invariant-loop-word
invariant-loop-word l = record { fits : All (PatternFits l.width) l.tokens; same : map decimal l.tokens ≡ map (λ w. w.now) (take l.word-index l.words) }
