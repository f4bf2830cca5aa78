use Rattle.std.proofs.Common.{◌≡◌, map, take}
use Rattle.std.specs.List.{All}
use Rattle.net_types.specs.Inputs.{IsPatternOf}
use Rattle.inputs_text.specs.Results.{written}
use Rattle.snapshot.proofs.fields.read_elements.Given as goal

abbrev pub invariant-loop-word : goal.invariant-loop-word
invariant-loop-word l = record { fits : All (IsPatternOf l.ty) l.elements; same : map (written l.ty) l.elements ≡ map (λ w. w.now) (take l.word-index l.words) }
