use Rattle.std.proofs.Common.{◌≡◌, Some, length, ap, ◌∙◌, rules}
use Rattle.std.specs.Prelude.{bytes_eq}
use Rattle.c_ast.specs.Pieces as spec
use Rattle.c_ast.specs.Tokens.{number_for}
use Rattle.c_lex.specs.Turns.{defines_of, numeral_of, shown}
use Rattle.c_lex.proofs.Going.{redefined_turn}
use Rattle.c_lex.proofs.turn.accepted_turn.Goals as goal

pub returns-clause-turn : goal.returns-clause-turn
returns-clause-turn c =
    let named : c.in-Some.name ≡ c.in-Define.name.now = search rules in
    let n : spec.Numeral = record { spelling = c.in-Define.spelling.now; value = c.in-Define.value; ty = c.in-Define.ty } in
    let is : shown (Some c.args.directive) ≡ Some (spec.defines c.in-Define.name.now c.in-Define.at n c.in-Define.len) = search rules in
    redefined_turn c.args.bytes.now c.args.cursor.offset c.in-Define.at c.in-Define.len c.on.result.offset (length c.as_slice-else-is_same.result.now) (defines_of c.args.defines.now) (shown (Some c.args.directive))
    c.in-Define.name.now n (numeral_of c.in-Some-number_for.known.now) c.breaks.result
    is
    (c.in-Some-number_for.ensures ∙ ap (number_for (defines_of c.args.defines.now)) named)
    (c.if-is_same.ensures ∙ ap (λ x. bytes_eq x c.in-Define.spelling.now) c.as_slice.ensures.value)
    (c.breaks.ensures.turn c.args.bytes.now c.args.cursor.offset (defines_of c.args.defines.now) c.on.ensures.at)
    c.on.ensures.offset
    (ap length (c.as_slice-else-is_same.ensures.bytes ∙ named))

pub returns-clause-fits : goal.returns-clause-fits
returns-clause-fits c = c.breaks.ensures.fits _ _
