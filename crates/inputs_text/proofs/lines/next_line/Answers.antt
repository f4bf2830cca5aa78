use Rattle.std.proofs.Common.{arith, sym, ◌∙◌, ap, ◌∷◌, ◌+◌, length, take, drop, eqb, ◌<◌}
use Rattle.std.specs.Str.Lines.{lines}
use Rattle.std.proofs.lemmas.List.{take_rest, length-drop, length-take-le}
use Rattle.inputs_text.proofs.LineLemmas.{first_is, lines_more, lines_last, stripped_shorter}
use Rattle.inputs_text.proofs.lines.next_line.Goals as goal

pub returns-in-Some : goal.returns-in-Some
returns-in-Some c =
    let end = sym c.place_of.ensures ∙ c.in-Some.is in
    let first = first_is (λ b. eqb b 10) c.args.bytes.now c.in-Some.end end in
    rw take_rest (record {
      is = lines_more c.args.bytes.now c.in-Some.end end ∙ ap (λ l. l ∷ lines (drop (c.in-Some.end + 1) c.args.bytes.now)) (sym c.without_return.ensures);
      shorter = omega (arith, first.1, length-drop (c.in-Some.end + 1) c.args.bytes.now);
      within = rw c.without_return.ensures (omega (arith, first.1, stripped_shorter (take c.in-Some.end c.args.bytes.now), length-take-le c.in-Some.end c.args.bytes.now));
    })

pub returns-in-None : goal.returns-in-None
returns-in-None c =
    let some : 0 < length c.args.bytes.now = grind arith in
    record { is = lines_last c.args.bytes.now (sym c.place_of.ensures ∙ c.in-None.is) some; shorter = some; within = omega arith }
