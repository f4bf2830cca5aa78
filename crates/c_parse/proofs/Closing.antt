-- What stands behind a part, so that the part does not go on.
use Rattle.std.proofs.Common.{List, [], ◌∷◌, Bool, true, false}
use Rattle.el_base.specs.declared.span.Span.{Span}
use Rattle.c_ast.specs.declared.token.Token.{Token}
use Rattle.c_ast.specs.declared.token.Word.{Word}
use Rattle.c_ast.specs.declared.token.Word.TheVariants as word
use Rattle.c_ast.specs.declared.key.Key.TheVariants as key
use Rattle.c_ast.specs.declared.mark.Mark.TheVariants as mark
use Rattle.c_ast.specs.Derives.{marked}

-- what stands behind an expression, an assignment or a step: a mark at which nothing goes on that may be absent
pub data Closed : List Token → Type 0 where
  closing : (s : Span) (ts : List Token) → Closed (marked mark.Close s ∷ ts)
  bracket : (s : Span) (ts : List Token) → Closed (marked mark.CloseBracket s ∷ ts)
  colon : (s : Span) (ts : List Token) → Closed (marked mark.Colon s ∷ ts)
  semicolon : (s : Span) (ts : List Token) → Closed (marked mark.Semicolon s ∷ ts)
  comma : (s : Span) (ts : List Token) → Closed (marked mark.Comma s ∷ ts)

abbrev pub is_int_word : Word → Bool
is_int_word (word.Key key.Int) = true
is_int_word w = false

-- what stands behind a type: no int
abbrev pub is_int : List Token → Bool
is_int [] = false
is_int (t ∷ ts) = is_int_word t.word
