use Rattle.std.proofs.lemmas.Result.{IfOk-weaker}
use Rattle.command_words.specs.Items.{items_of}
use Rattle.command_words.specs.Commands.{texts}
use Rattle.command_words.proofs.CommandLemmas.{spelled_by}
use Rattle.command_words.proofs.reading.read_words.Goals as goal

pub returns-then-is_confirmed-clause-none : goal.returns-then-is_confirmed-clause-none
returns-then-is_confirmed-clause-none c =
    IfOk-weaker c.command.result _ _
    (λ r none is_none d spells.
    let read = spelled_by (texts c.args.words.now) c.in-Some.candidate.verb (items_of c.in-Some.candidate.items.items) d (c.is_confirmed.ensures c.if-is_confirmed.true) spells in
    none is_none d read.same read.spelled)
    c.command.ensures.none
