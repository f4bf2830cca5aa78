use Rattle.std.proofs.Common.{◌≡◌, ◌∷◌, ◌∙◌, sym, Option, Some}
use Rattle.std.specs.Prelude.{string_bytes}
use Rattle.std.proofs.lemmas.Result.{IfOk-weaker}
use Rattle.command_words.specs.declared.verb.Verb.{Verb}
use Rattle.command_words.specs.Tables.{verb_word}
use Rattle.command_words.specs.Items.{items_of}
use Rattle.command_words.specs.Commands.{texts}
use Rattle.command_words.proofs.Moves.{rest_texts}
use Rattle.command_words.proofs.CommandLemmas.{read_of}
use Rattle.command_words.proofs.reading.read_by_definition.Goals as goal

pub returns-clause-none : goal.returns-clause-none
returns-clause-none c =
    let split : texts c.args.words.now ≡ string_bytes c.first-item.result ∷ _ =
    rest_texts c.args.words.now c.first-item.result c.in-len1-up.len_at_least c.first-item.is in
    let one : (v : Verb) → verb_word v ≡ string_bytes c.first-item.result → v ≡ c.in-Some.verb =
    λ v e. let f : ◌≡◌ {A = Option Verb} (Some c.in-Some.verb) (Some v) = c.in-Some.ensures.every v (e ∙ sym c.as_str.ensures.value) in cc in
    IfOk-weaker c.command_of.result _ _
    (λ r none is_none d command.
    let read = read_of (texts c.args.words.now) _ (string_bytes c.first-item.result) c.in-Some.verb (items_of c.in-Some-2.items.items) d split one
    (rw c.in-Some-2.is at c.in_ok-items.ensures.some) command in
    none is_none d read.same (rw c.as_slice.ensures.value read.spelled))
    c.command_of.ensures.none
