use Rattle.std.proofs.Common.{◌≡◌, ◌∷◌, ◌++◌, ℕ, ◌<◌, length, get_or, refl, ap, ◌∙◌, lit<, arith, sym}
use Rattle.command_words.specs.declared.choice.TheConstants.{CLASSES}
use Rattle.command_words.specs.declared.choice.Class.{Class}
use Rattle.command_words.specs.declared.choice.Class.TheVariants as class
use Rattle.command_words.specs.Tables.{class_word}
use Rattle.command_words.proofs.delays.delay_of.Goals as goal

place : (v : Class) → (k : ℕ) × (k < length CLASSES) × ((d : Class) → get_or CLASSES k d ≡ v)
place class.Logic = (0, lit< tt, λ d. refl)
place class.Mul = (1, lit< tt, λ d. refl)
place class.Div = (2, lit< tt, λ d. refl)
place class.Read = (3, lit< tt, λ d. refl)
place class.Lsq = (4, lit< tt, λ d. refl)

pub returns-clause-none : goal.returns-clause-none
returns-clause-none c = λ none d is.
    let at = place d.class in
    c.loop-class.invariant at.0 d.class is.digits (omega (arith, c.loop-class-test.false, at.1)) (is.spelled ∙ ap (λ c. class_word c ++ (61 ∷ is.digits)) (sym (at.2 d.class)))
