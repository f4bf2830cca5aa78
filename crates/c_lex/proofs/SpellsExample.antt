-- A worked example of `Spells`: the smallest kernel text and its tree.
use Rattle.std.proofs.Common.{ℕ, true, false, List, [], ◌∷◌, drop, refl}
use Rattle.std.specs.Prelude.{None, codes}
use Rattle.el_base.specs.declared.span.Span.{Span}
use Rattle.c_ast.specs.Derives.{keyed, marked, named, Derives, DerivesResult, DerivesParams, DerivesItems}
use Rattle.c_ast.specs.Pieces.{comment_len, word_of, key_of, mark_of}
use Rattle.c_ast.specs.Spells.{Spells}
use Rattle.c_ast.specs.Tokens.{place_after, span_at, whole, Blanked, ends, byte, meaning_of, turn, Lexed, stop, piece}
use Rattle.c_ast.specs.declared.token.Token.{Token}
use Rattle.c_ast.specs.declared.key.Key.TheVariants as key
use Rattle.c_ast.specs.declared.mark.Mark.TheVariants as mark
use Rattle.c_ast.specs.declared.tree.Tree.{Tree}

abbrev bytes : List ℕ
bytes = codes "void f(){}"

-- so many bytes of the first line, from byte k on
abbrev at : ℕ → ℕ → ℕ → Span
at k n column = record { start = k; end = n; line = 1; column = column }

abbrev tokens : List Token
tokens = keyed key.Void (at 0 4 1) ∷ named (codes "f") (at 5 6 6) ∷ marked mark.Open (at 6 7 7) ∷ marked mark.Close (at 7 8 8)
    ∷ marked mark.OpenBrace (at 8 9 9) ∷ marked mark.CloseBrace (at 9 10 10) ∷ []

abbrev tree : Tree
tree = record { name = codes "f"; at = at 5 6 6; result = None; params = []; body = [] }

blanks : Blanked bytes 0 bytes bytes whole
unfolding comment_len
blanks = byte _ _ _ _ _ refl (byte _ _ _ _ _ refl (byte _ _ _ _ _ refl (byte _ _ _ _ _ refl (byte _ _ _ _ _ refl (
    byte _ _ _ _ _ refl (byte _ _ _ _ _ refl (byte _ _ _ _ _ refl (byte _ _ _ _ _ refl (byte _ _ _ _ _ refl (ends 10))))))))))

pieces : Lexed bytes 0 true [] bytes tokens whole
unfolding turn word_of key_of mark_of meaning_of span_at place_after
pieces =
    piece 0 4 true false [] [] bytes (keyed key.Void (at 0 4 1) ∷ []) (drop 1 tokens) whole refl (
    piece 4 1 false false [] [] (drop 4 bytes) [] (drop 1 tokens) whole refl (
    piece 5 1 false false [] [] (drop 5 bytes) (named (codes "f") (at 5 6 6) ∷ []) (drop 2 tokens) whole refl (
    piece 6 1 false false [] [] (drop 6 bytes) (marked mark.Open (at 6 7 7) ∷ []) (drop 3 tokens) whole refl (
    piece 7 1 false false [] [] (drop 7 bytes) (marked mark.Close (at 7 8 8) ∷ []) (drop 4 tokens) whole refl (
    piece 8 1 false false [] [] (drop 8 bytes) (marked mark.OpenBrace (at 8 9 9) ∷ []) (drop 5 tokens) whole refl (
    piece 9 1 false false [] [] (drop 9 bytes) (marked mark.CloseBrace (at 9 10 10) ∷ []) [] whole refl (
    stop 10 false [] [] whole refl)))))))

derived : Derives tokens tree
derived = Derives.kernel (keyed key.Void (at 0 4 1) ∷ []) [] [] (codes "f") (at 5 6 6) (at 6 7 7) (at 7 8 8) (at 8 9 9) (at 9 10 10) None [] []
    (DerivesResult.void (at 0 4 1)) DerivesParams.none DerivesItems.done

-- the text spells the tree of a kernel f without parameters and statements
pub example : Spells bytes tree
example = record {
  tokens = tokens;
  read = record { text = bytes; comments_end = whole; tokens_end = whole; blanked = blanks; lexed = pieces; ends = refl };
  derived = derived;
}
