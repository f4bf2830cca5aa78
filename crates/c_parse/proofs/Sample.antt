-- The worked examples hold: the verdicts on their tokens are computed.
use Rattle.std.proofs.Common.{List, [], ◌∷◌, false, None, lit<, refl}
use Rattle.std.specs.Prelude.{codes}
use Rattle.el_base.specs.declared.span.Span.{Span}
use Rattle.el_base.specs.declared.ty.Ty.TheVariants.{I32}
use Rattle.c_ast.specs.declared.token.Token.{Token}
use Rattle.c_ast.specs.declared.key.Key.TheVariants as key
use Rattle.c_ast.specs.declared.mark.Mark.TheVariants as mark
use Rattle.c_ast.specs.declared.tree.Unary.TheVariants as unary
use Rattle.c_ast.specs.declared.tree.Target.{Target}
use Rattle.c_ast.specs.declared.tree.Expr.{Expr}
use Rattle.c_ast.specs.declared.tree.ExprKind.TheVariants as expr
use Rattle.c_ast.specs.declared.tree.Stmt.{Stmt}
use Rattle.c_ast.specs.declared.tree.StmtKind.TheVariants as stmt
use Rattle.c_ast.specs.Derives.{marked, keyed, named, numbered, place_of, between, expr_of, stmt_of, IsUnary, IsAssigning, DerivesExpr, DerivesIndices, DerivesTarget, DerivesSimple, DerivesStmt, DerivesItems, DerivesParams, DerivesResult, Derives}
use Rattle.c_parse.specs.Traces.{Verdict}
use Rattle.c_ast.specs.Prefixes.{kernel_nesting}
use Rattle.c_parse.specs.Symbols.{kernel_symbols}
use Rattle.c_parse.proofs.KernelExactness.{traced_kernels}
use Rattle.c_parse.proofs.Exactness.{judged_means}
use Rattle.c_parse.specs.Sample.{value_tokens, stmt_tokens, SampleNests, cut_tokens, unexpected_tokens, SampleRefuses}

abbrev one : Span → Expr
one s = expr_of (expr.Number 1 I32) (numbered 1 I32 s ∷ [])

abbrev value : Span → Expr
value s = expr_of (expr.Unary unary.Minus (one s)) (value_tokens s)

-- each level from 0 to 11 has what is of level 11, and from 0 to 12 what is of level 12
abbrev from_11 : (ts : List Token) (e : Expr) → DerivesExpr 11 ts e → DerivesExpr 0 ts e
from_11 ts e d = DerivesExpr.tighter 0 ts e (lit< tt) (DerivesExpr.tighter 1 ts e (lit< tt) (DerivesExpr.tighter 2 ts e (lit< tt) (DerivesExpr.tighter 3 ts e (lit< tt)
    (DerivesExpr.tighter 4 ts e (lit< tt) (DerivesExpr.tighter 5 ts e (lit< tt) (DerivesExpr.tighter 6 ts e (lit< tt) (DerivesExpr.tighter 7 ts e (lit< tt)
    (DerivesExpr.tighter 8 ts e (lit< tt) (DerivesExpr.tighter 9 ts e (lit< tt) (DerivesExpr.tighter 10 ts e (lit< tt) d))))))))))

abbrev from_12 : (ts : List Token) (e : Expr) → DerivesExpr 12 ts e → DerivesExpr 11 ts e
from_12 ts e d = DerivesExpr.tighter 11 ts e (lit< tt) d

abbrev value_derives : (s : Span) → DerivesExpr 0 (value_tokens s) (value s)
value_derives s = from_11 (value_tokens s) (value s) (DerivesExpr.prefixed mark.Minus unary.Minus (between mark.Open s (numbered 1 I32 s ∷ []) mark.Close s) s (one s) IsUnary.minus
    (from_12 (between mark.Open s (numbered 1 I32 s ∷ []) mark.Close s) (one s) (DerivesExpr.parens (numbered 1 I32 s ∷ []) s s (one s)
    (from_11 (numbered 1 I32 s ∷ []) (one s) (from_12 (numbered 1 I32 s ∷ []) (one s) (DerivesExpr.number 1 I32 s))))))

abbrev target : Span → Target
target s = record { name = codes "x"; at = place_of (named (codes "x") s ∷ []); indices = [] }

abbrev assignment : Span → Stmt
assignment s = stmt_of (stmt.Assign (target s) None (value s)) (named (codes "x") s ∷ marked mark.Assign s ∷ value_tokens s)

abbrev items : (s : Span) → DerivesItems (stmt_tokens s) (assignment s ∷ [])
items s = DerivesItems.statement false (stmt_tokens s) [] (assignment s) [] (DerivesStmt.simple (named (codes "x") s ∷ marked mark.Assign s ∷ value_tokens s) s (assignment s)
    (DerivesSimple.assign (named (codes "x") s ∷ []) (value_tokens s) mark.Assign s (target s) None (value s) (DerivesTarget.target (codes "x") s [] [] DerivesIndices.no_more) IsAssigning.plain (value_derives s))) DerivesItems.done

pub sample_nests : (s : Span) → SampleNests s
sample_nests s = record {
  tree = record { name = codes "f"; at = s; result = None; params = []; body = assignment s ∷ [] };
  derived = Derives.kernel (keyed key.Void s ∷ []) (keyed key.Void s ∷ []) (stmt_tokens s) (codes "f") s s s s s None [] (assignment s ∷ []) (DerivesResult.void s) (DerivesParams.none_by_void s) (items s);
  nests = refl;
  traced = refl;
}

pub sample_refuses : (s z : Span) → SampleRefuses s z
sample_refuses s z =
    let means = judged_means Derives kernel_nesting kernel_symbols traced_kernels in
    record { cut = means (cut_tokens s) Verdict.cut refl; unexpected = means (unexpected_tokens s z) (Verdict.unexpected z) refl }
