-- Worked examples. First of the nesting and of a predictive parser's trace: the kernel `void f(void) { x = -(1); }`, whose tokens all have one place here.
use Rattle.std.specs.Prelude.{◌≡◌, ℕ, List, [], ◌∷◌, codes}
use Rattle.el_base.specs.declared.span.Span.{Span}
use Rattle.el_base.specs.declared.ty.Ty.TheVariants.{I32}
use Rattle.c_ast.specs.declared.token.Token.{Token}
use Rattle.c_ast.specs.declared.tree.Tree.{Tree}
use Rattle.c_ast.specs.declared.key.Key.TheVariants as key
use Rattle.c_ast.specs.declared.mark.Mark.TheVariants as mark
use Rattle.c_ast.specs.Derives.{marked, keyed, named, numbered, Derives}
use Rattle.c_ast.specs.Nesting.{nesting}
use Rattle.c_ast.specs.Prefixes.{IsUnexpected, IsCut}
use Rattle.c_parse.specs.Symbols.{kernel_symbols}
use Rattle.c_parse.specs.Values.{Value}
use Rattle.c_parse.specs.Traces.{Trace, trace, laid}

abbrev pub value_tokens : Span → List Token
value_tokens s = marked mark.Minus s ∷ marked mark.Open s ∷ numbered 1 I32 s ∷ marked mark.Close s ∷ []

abbrev pub stmt_tokens : Span → List Token
stmt_tokens s = named (codes "x") s ∷ marked mark.Assign s ∷ marked mark.Minus s ∷ marked mark.Open s ∷ numbered 1 I32 s ∷ marked mark.Close s ∷ marked mark.Semicolon s ∷ []

abbrev pub sample_tokens : Span → List Token
sample_tokens s = keyed key.Void s ∷ named (codes "f") s ∷ marked mark.Open s ∷ keyed key.Void s ∷ marked mark.Close s ∷ marked mark.OpenBrace s
    ∷ named (codes "x") s ∷ marked mark.Assign s ∷ marked mark.Minus s ∷ marked mark.Open s ∷ numbered 1 I32 s ∷ marked mark.Close s ∷ marked mark.Semicolon s ∷ marked mark.CloseBrace s ∷ []

-- the parentheses of the parameters, the block, the operator in it, and the group in that
abbrev pub sample_nesting : List ℕ
sample_nesting = 0 ∷ 0 ∷ 1 ∷ 1 ∷ 1 ∷ 1 ∷ 1 ∷ 1 ∷ 2 ∷ 3 ∷ 3 ∷ 3 ∷ 1 ∷ 1 ∷ []

pub record SampleNests (s : Span) : Type 0 where
  pub tree : Tree
  pub derived : Derives (sample_tokens s) tree
  pub nests : nesting derived ≡ sample_nesting
  pub traced : trace kernel_symbols [] (sample_tokens s) ≡ laid sample_nesting (sample_tokens s) (Trace.complete (Value.of_tree (sample_tokens s) tree ∷ []))

-- ---- refusals: `void f(void) {`, and `int f(int a) { return a + ; }`, whose semicolon has a place of its own

abbrev pub cut_tokens : Span → List Token
cut_tokens s = keyed key.Void s ∷ named (codes "f") s ∷ marked mark.Open s ∷ keyed key.Void s ∷ marked mark.Close s ∷ marked mark.OpenBrace s ∷ []

abbrev pub unexpected_tokens : Span → Span → List Token
unexpected_tokens s z = keyed key.Int s ∷ named (codes "f") s ∷ marked mark.Open s ∷ keyed key.Int s ∷ named (codes "a") s ∷ marked mark.Close s ∷ marked mark.OpenBrace s
    ∷ keyed key.Return s ∷ named (codes "a") s ∷ marked mark.Plus s ∷ marked mark.Semicolon z ∷ marked mark.CloseBrace s ∷ []

pub record SampleRefuses (s z : Span) : Type 0 where
  pub cut : IsCut (cut_tokens s)
  pub unexpected : IsUnexpected (unexpected_tokens s z) z
