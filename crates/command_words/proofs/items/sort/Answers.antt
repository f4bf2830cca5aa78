use Rattle.std.proofs.Common.{rules, ◌≡◌, ℕ, ◌<◌, length, get_or, refl, lit<, arith, subst}
use Rattle.command_words.specs.declared.choice.TheConstants.{CHOICES}
use Rattle.command_words.specs.declared.choice.Choice.{Choice}
use Rattle.command_words.specs.declared.choice.Choice.TheVariants.{Delay, Slots, Depth, Workers, Limit, Turns, At, Count, Cycles, Log, Forward, Wrap}
use Rattle.command_words.specs.Steps.{IsNoUse}
use Rattle.command_words.proofs.items.sort.Goals as goal

place : (o : Choice) → (k : ℕ) × (k < length CHOICES) × ((d : Choice) → get_or CHOICES k d ≡ o)
place Delay = (0, lit< tt, λ d. refl)
place Slots = (1, lit< tt, λ d. refl)
place Depth = (2, lit< tt, λ d. refl)
place Workers = (3, lit< tt, λ d. refl)
place Limit = (4, lit< tt, λ d. refl)
place Turns = (5, lit< tt, λ d. refl)
place At = (6, lit< tt, λ d. refl)
place Count = (7, lit< tt, λ d. refl)
place Cycles = (8, lit< tt, λ d. refl)
place Log = (9, lit< tt, λ d. refl)
place Forward = (10, lit< tt, λ d. refl)
place Wrap = (11, lit< tt, λ d. refl)

pub returns : goal.returns
returns c = record {
  end = search rules;
  plain = search rules;
  no_use = λ o. let at = place o in
      subst (IsNoUse c.args.word.now) (at.2 o) (c.loop-choice.invariant at.0 o (omega (arith, c.loop-choice-test.false, at.1)));
}
