use Rattle.std.proofs.Common.{ap, ◌∙◌, arith, length}
use Rattle.el_base.specs.Words.{is_identifier}
use Rattle.c_lex.proofs.Numerals.{word_is_identifier, word_some}
use Rattle.c_lex.proofs.turn.word_turn.Goals as goal

pub meaning_of-requires : goal.meaning_of-requires
meaning_of-requires c = ap is_identifier c.word_of-word.ensures.word ∙ word_is_identifier c.args.text.now c.requires.letter

pub returns-clause-fits : goal.returns-clause-fits
returns-clause-fits c =
    let some = word_some c.args.text.now c.requires.letter in
    (omega (arith, some, ap length c.word_of-word.ensures.word), omega (arith, c.word_of-word.ensures.within))
