use Rattle.std.proofs.Common.{arith, rules, ◌++◌, ◌∷◌, [], sym, ap, ◌∙◌}
use Rattle.std.specs.Int.{w128}
use Rattle.std.proofs.lemmas.Int.{to_z-of_z}
use Rattle.std.proofs.lemmas.List.{append_assoc}
use mir.Val.{SFits}
use Rattle.inputs_text.specs.Lines.{words}
use Rattle.inputs_text.proofs.NumeralLemmas.{measures_more}
use Rattle.inputs_text.proofs.numerals.read_words.Goals as goal

pub words-preserved : goal.words-preserved
words-preserved c =
    let fits : SFits w128 c.in-Some-read_numeral.number = search rules in
    let adds = rw (to_z-of_z w128 c.in-Some-read_numeral.number fits) at c.in_ok-add.ensures in
    let so_far = c.words.invariant in
    let more = measures_more c.args.slot so_far.done c.words.numbers c.add.new.numbers c.in-Some.word.now c.in-Some-read_numeral.number so_far.measured
    c.in-Some-read_numeral.ensures.0 c.in-Some-read_numeral.ensures.1 adds in
    record {
      done = so_far.done ++ c.in-Some.word.now ∷ [];
      whole = so_far.whole ∙ ap (λ ws. so_far.done ++ ws) c.in-Some.ensures.0 ∙ sym (append_assoc so_far.done (c.in-Some.word.now ∷ []) (words c.in-Some.after.now));
      measured = more;
      room = omega (arith, so_far.room, c.in-Some.ensures.1, c.in_ok-add.ensures.count);
    }
