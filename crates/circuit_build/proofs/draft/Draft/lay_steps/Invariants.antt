use Rattle.std.proofs.Common.{◌≡◌, drop}
use Rattle.circuit_build.specs.Steps.{steps_laid}
use Rattle.circuit_build.proofs.draft.Draft.lay_steps.Given as goal

-- what is laid, with what the other steps give, is the whole
abbrev pub invariant-loop-step : goal.invariant-loop-step
invariant-loop-step l = steps_laid l.arrays (drop l.step-index l.steps) l.self ≡ steps_laid l.arrays l.steps l.initial.self
