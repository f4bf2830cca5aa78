use Rattle.std.proofs.Common.{refl, sym, ap, subst, ◌∙◌, ◌++◌, ◌∷◌, [], arith}
use Rattle.std.proofs.lemmas.List.{append-nil}
use Rattle.el_base.specs.declared.span.Span.{Span}
use Rattle.el_base.proofs.DigitLemmas.{rest_is}
use Rattle.c_ast.specs.declared.token.Token.{Token}
use Rattle.c_ast.specs.declared.token.Word.{Word}
use Rattle.c_lex.specs.Turns.{defines_of, TurnFits}
use Rattle.c_lex.proofs.Going.{lexed_more, lexed_stop, turned}
use Rattle.c_lex.proofs.lexer.take.Goals as goal

abbrev token : Word → Span → Token
token w s = record { word = w; span = s }

pub returns-in-Skips : goal.returns-in-Skips
returns-in-Skips c =
    let fits = subst (TurnFits _ (defines_of c.args.defines.now)) c.in-Skips.is c.in_ok-turn.ensures.fits in (
      c.on.ensures.at,
      omega (arith, c.on.ensures.offset, fits.0),
      lexed_more c.args.bytes.now c.args.text.now c.args.position.cursor.offset _ c.in-Skips.len c.args.position.first _ (defines_of c.args.defines.now) _ _ c.args.tokens.now _ _ c.requires.so_far
          (turned _ _ _ _ _ _ _ _ (rest_is c.args.text.now c.args.position.cursor.offset) c.in-Skips.is c.in_ok-turn.ensures.turn) c.on.ensures.offset (sym (append-nil c.args.tokens.now)) refl,
    )

pub returns-in_ok-push-in-Gives : goal.returns-in_ok-push-in-Gives
returns-in_ok-push-in-Gives c =
    let fits = subst (TurnFits _ (defines_of c.args.defines.now)) c.in-Gives.is c.in_ok-turn.ensures.fits in (
      c.on-in-Gives.ensures.at,
      omega (arith, c.on-in-Gives.ensures.offset, fits.0),
      lexed_more c.args.bytes.now c.args.text.now c.args.position.cursor.offset _ c.in-Gives.len c.args.position.first _ (defines_of c.args.defines.now) _ _ c.args.tokens.now _ _ c.requires.so_far
          (turned _ _ _ _ _ _ _ _ (rest_is c.args.text.now c.args.position.cursor.offset) c.in-Gives.is c.in_ok-turn.ensures.turn) c.on-in-Gives.ensures.offset
          (c.in_ok-push-in-Gives.ensures.ok ∙ ap (λ s. c.args.tokens.now ++ token c.in-Gives.word s ∷ []) (c.span-span.ensures c.args.bytes.now c.requires.at)) refl,
    )

pub returns-in_ok-add-in-Defines : goal.returns-in_ok-add-in-Defines
returns-in_ok-add-in-Defines c =
    let fits = subst (TurnFits _ (defines_of c.args.defines.now)) c.in-Defines.is c.in_ok-turn.ensures.fits in (
      c.on-in-Defines.ensures.at,
      omega (arith, c.on-in-Defines.ensures.offset, fits.0),
      lexed_more c.args.bytes.now c.args.text.now c.args.position.cursor.offset _ c.in-Defines.len c.args.position.first _ (defines_of c.args.defines.now) _ _ c.args.tokens.now _ _ c.requires.so_far
          (turned _ _ _ _ _ _ _ _ (rest_is c.args.text.now c.args.position.cursor.offset) c.in-Defines.is c.in_ok-turn.ensures.turn) c.on-in-Defines.ensures.offset (sym (append-nil c.args.tokens.now))
          c.in_ok-add-in-Defines.ensures,
    )

pub returns-in-Breaks : goal.returns-in-Breaks
returns-in-Breaks c = lexed_stop c.args.bytes.now c.args.text.now c.args.position.cursor.offset c.args.position.first (defines_of c.args.defines.now) c.args.tokens.now _ c.requires.so_far
    (turned _ _ _ _ _ _ _ _ (rest_is c.args.text.now c.args.position.cursor.offset) c.in-Breaks.is c.in_ok-turn.ensures.turn)
