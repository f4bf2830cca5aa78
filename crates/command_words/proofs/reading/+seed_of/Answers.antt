use Rattle.std.proofs.Common.{rules, ◌∷◌, subst}
use Rattle.command_words.specs.Commands.{ArePlain, word_texts}
use Rattle.command_words.proofs.CommandLemmas.{plain_rest}
use Rattle.command_words.proofs.reading.+seed_of.Goals as goal

pub seed_of-requires : goal.seed_of-requires
seed_of-requires t c = (
  search rules,
  plain_rest c.in-Some.kind.now c.in-Some.other_kinds.now c.in-Some-split_first.word.now.now (word_texts c.in-Some-split_first.other_words.now)
      (subst (λ ws. ArePlain (c.in-Some.kind.now ∷ c.in-Some.other_kinds.now) (word_texts ws)) c.in-Some-split_first.ensures.cases.0
      (subst (λ ks. ArePlain ks (word_texts c.args.words.now)) c.in-Some.ensures.cases.0 c.requires)),
)
