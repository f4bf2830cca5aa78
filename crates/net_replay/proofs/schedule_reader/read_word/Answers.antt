use Rattle.std.proofs.Common.{◌++◌, ◌∙◌, ap, sym, arith}
use Rattle.net_replay.specs.Words.{word_text}
use Rattle.net_replay.proofs.ActLemmas.{word_place}
use Rattle.net_replay.proofs.schedule_reader.read_word.Goals as goal

pub returns : goal.returns
returns c w more e =
    let place = word_place w in
    c.loop-word.invariant place.0 w more (omega (arith, c.loop-word-test.false, place.1)) (e ∙ ap (λ v. word_text v ++ more) (sym (place.2 w)))
