use Rattle.std.proofs.Common.{rules, ◌≡◌, ◌∙◌, sym, subst}
use Rattle.std.specs.Prelude.{IsTrue}
use Rattle.command_words.specs.Items.{items_of}
use Rattle.command_words.specs.Tables.{plain_of}
use Rattle.command_words.specs.Commands.{GoTogether, IsSeed, word_texts}
use Rattle.command_words.proofs.CommandLemmas.{chosen_once, one_seed}
use Rattle.command_words.proofs.reading.command_of.Goals as goal

pub returns-then-not-go_together-clause-none : goal.returns-then-not-go_together-clause-none
returns-then-not-go_together-clause-none c = λ none d same spelled.
    let has : IsSeed (plain_of c.args.verb) (word_texts c.in_ok-plain.plain.items) c.seed_of-seed.result =
    rw (c.plain-2.ensures, c.as_slice-2.ensures.value) at c.seed_of-seed.ensures in
    let is : c.in-Some.chosen.seed ≡ c.seed_of-seed.result = rw c.in-Some.is at c.in_ok-chosen.ensures.seed in
    let seed : d.chosen.seed ≡ c.in-Some.chosen.seed =
    one_seed d.verb c.args.verb d.plain (word_texts c.in_ok-plain.plain.items) d.chosen.seed c.in-Some.chosen.seed same (sym spelled.words ∙ sym c.in_ok-plain.ensures) spelled.seed
    (subst (IsSeed (plain_of c.args.verb) (word_texts c.in_ok-plain.plain.items)) (sym is) has) in
    let chosen : d.chosen ≡ c.in-Some.chosen =
    chosen_once (items_of c.args.items.now) d.chosen c.in-Some.chosen seed spelled.chosen (rw c.in-Some.is at c.in_ok-chosen.ensures.some) in
    let holds : IsTrue c.go_together.result = c.go_together.ensures.no (subst GoTogether chosen spelled.together) in
    search rules
