use Rattle.std.proofs.Common.{rules, ◌≢◌, sym, ◌∙◌, IsTrue}
use Rattle.std.proofs.lemmas.Bool.{false≢true}
use Rattle.command_words.specs.Tables.{kind_of, is_own}
use Rattle.command_words.specs.declared.choice.ValueKind.TheVariants.{Flag}
use Rattle.command_words.proofs.Moves.{moves_flag, moves_waits, foreign_word}
use Rattle.command_words.proofs.items.alone_step.Goals as goal

pub returns-then-not-is_own-clause-none : goal.returns-then-not-is_own-clause-none
returns-then-not-is_own-clause-none c = λ none. foreign_word _ _ _ c.requires (search rules)

pub returns-in-Flag-clause-some : goal.returns-in-Flag-clause-some
returns-in-Flag-clause-some c =
    let own : IsTrue (is_own c.args.verb c.args.choice) = search rules in
    moves_flag c.args.verb c.args.word.now c.args.choice c.requires own (sym c.kind.ensures ∙ c.in-Flag.is)

pub returns-in-Number : goal.returns-in-Number
returns-in-Number c =
    let own : IsTrue (is_own c.args.verb c.args.choice) = search rules in
    let valued : kind_of c.args.choice ≢ Flag = λ flag. absurd (search rules) in
    record { some = moves_waits c.args.verb c.args.word.now c.args.choice c.requires own valued; none = λ e. absurd (false≢true (sym e)) }
