use Rattle.std.proofs.Common.{◌≡◌, ℕ, ◌<◌, length, get_or, refl, ap, ◌∙◌, lit<, arith}
use Rattle.command_words.specs.declared.verb.TheConstants.{VERBS}
use Rattle.command_words.specs.declared.verb.Verb.{Verb}
use Rattle.command_words.specs.declared.verb.Verb.TheVariants.{Compile, Go, Run, Replay, Bench, Upgrade, Ref, Save, Resume}
use Rattle.command_words.specs.Tables.{verb_word}
use Rattle.command_words.proofs.verb.Verb.of_word.Goals as goal

place : (v : Verb) → (k : ℕ) × (k < length VERBS) × ((d : Verb) → get_or VERBS k d ≡ v)
place Compile = (0, lit< tt, λ d. refl)
place Go = (1, lit< tt, λ d. refl)
place Run = (2, lit< tt, λ d. refl)
place Replay = (3, lit< tt, λ d. refl)
place Bench = (4, lit< tt, λ d. refl)
place Upgrade = (5, lit< tt, λ d. refl)
place Ref = (6, lit< tt, λ d. refl)
place Save = (7, lit< tt, λ d. refl)
place Resume = (8, lit< tt, λ d. refl)

pub returns-clause-every : goal.returns-clause-every
returns-clause-every c v e =
    let at = place v in
    absurd (c.loop-verb.invariant at.0 v (omega (arith, c.loop-verb-test.false, at.1)) (ap verb_word (at.2 v) ∙ e))
