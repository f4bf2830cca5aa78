use Rattle.std.proofs.Common.{rules, ◌≢◌, sym, ◌∙◌, IsTrue}
use Rattle.std.proofs.lemmas.Bool.{false≢true}
use Rattle.command_words.specs.Tables.{kind_of, is_own}
use Rattle.command_words.specs.declared.choice.ValueKind.TheVariants.{Flag}
use Rattle.command_words.proofs.Moves.{moves_joined, foreign_value, flag_value}
use Rattle.command_words.proofs.items.joined_step.Goals as goal

pub returns-then-not-is_own-clause-none : goal.returns-then-not-is_own-clause-none
returns-then-not-is_own-clause-none c = λ none. foreign_value _ _ _ _ c.requires (search rules)

pub returns-in-Number : goal.returns-in-Number
returns-in-Number c =
    let own : IsTrue (is_own c.args.verb c.args.choice) = search rules in
    let valued : kind_of c.args.choice ≢ Flag = λ flag. absurd (search rules) in
    record { some = moves_joined c.args.verb c.args.word.now c.args.choice c.args.value.now c.requires own valued; none = λ e. absurd (false≢true (sym e)) }

pub returns-in-Flag-clause-none : goal.returns-in-Flag-clause-none
returns-in-Flag-clause-none c = λ none. flag_value c.args.verb c.args.word.now c.args.choice c.args.value.now c.requires (sym c.kind.ensures ∙ c.in-Flag.is)
