-- Private: the typed expression of a program of an operator whose operands are typed, with the casts that it implies.
use Rattle.el_base.specs.declared.span.Span.{Span}
use Rattle.c_ast.specs.declared.tree.Unary.{Unary}
use Rattle.c_ast.specs.declared.tree.Binary.{Binary}
use Rattle.c_ast.specs.declared.program.ProgExpr.{ProgExpr}
use Rattle.c_ast.specs.declared.program.ProgExprKind.TheVariants as typed
use Rattle.c_ast.specs.ResultTypes.{promoted, usual, joint_type, result_type, unary_type}
use Rattle.c_ast.specs.Casts.{left_type, right_type}
use Rattle.c_ast.specs.ProgramCasts.{prog_of, prog_converted}

abbrev pub prog_unary_of : Unary → ProgExpr → Span → ProgExpr
prog_unary_of op f s = prog_of (typed.Unary op (prog_converted (promoted f.ty) f)) (unary_type op (promoted f.ty)) s

abbrev pub prog_binary_of : Binary → ProgExpr → ProgExpr → Span → ProgExpr
prog_binary_of op f h s =
    prog_of (typed.Binary op (prog_converted (left_type op f.ty h.ty) f) (prog_converted (right_type op f.ty h.ty) h)) (result_type op (joint_type op f.ty h.ty)) s

abbrev pub prog_choice_of : ProgExpr → ProgExpr → ProgExpr → Span → ProgExpr
prog_choice_of f h j s = prog_of (typed.Choose f (prog_converted (usual h.ty j.ty) h) (prog_converted (usual h.ty j.ty) j)) (usual h.ty j.ty) s
