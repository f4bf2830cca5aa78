use Rattle.std.proofs.Common.{◌≢◌, ℕ, ◌<◌, get_or}
use Rattle.command_words.specs.declared.choice.ClassDelay.{ClassDelay}
use Rattle.command_words.proofs.delays.has_class.Given as goal

abbrev pub invariant-loop-delay : goal.invariant-loop-delay
invariant-loop-delay l = (k : ℕ) (d : ClassDelay) → k < l.delay-index → (get_or l.delays k d).class ≢ l.class
