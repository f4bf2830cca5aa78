-- The tree of a bench's kernel is that of its tokens.
use Rattle.std.proofs.Common.{ℕ, List, [], ◌∷◌, ◌++◌, false, true, Some, None, lit<, refl}
use Rattle.std.specs.Prelude.{codes}
use Rattle.el_base.specs.declared.span.Span.{Span}
use Rattle.el_base.specs.declared.ty.Ty.TheVariants.{I32}
use Rattle.c_ast.specs.declared.token.Token.{Token}
use Rattle.c_ast.specs.declared.key.Key.TheVariants as key
use Rattle.c_ast.specs.declared.mark.Mark.TheVariants as mark
use Rattle.c_ast.specs.declared.tree.Binary.TheVariants as op
use Rattle.c_ast.specs.declared.tree.Expr.{Expr}
use Rattle.c_ast.specs.declared.tree.ExprKind.TheVariants as expr
use Rattle.c_ast.specs.Derives.{marked, keyed, named, numbered, between, for_tokens, IsBinary, IsAssigning, IsStep, DerivesType, DerivesExpr, DerivesIndices, DerivesTarget, DerivesSimple, DerivesOption, DerivesStep, DerivesDeclared, DerivesDeclarators, DerivesDeclaration, DerivesFirst, DerivesStmt, DerivesItems, DerivesDims, DerivesParam, DerivesParamList, DerivesParams, DerivesResult, Derives}
use Rattle.c_ast.specs.ProgramTexts.{DerivesHelpers, DerivesProgram, IsShallowProgram}
use Rattle.c_parse.specs.Traces.{Verdict}
use Rattle.c_parse.proofs.ProgramExactness.{judged_means}
use Rattle.kernel_bench.specs.Histogram.{line_span, param_n, param_x, param_w, param_h, hist_params, zero_expr, declare_stmt, less_expr, step_target, step_stmt, place_expr, add_target, weight_expr, add_stmt, for_stmt, hist_tree, hist_program}
use Rattle.kernel_bench.proofs.Lexing.{tokens}

-- ---- each level up to 8 has what is of level 8, up to 7 what is of level 7, and up to 12 what is of level 12

abbrev from_12_to_8 : (ts : List Token) (e : Expr) → DerivesExpr 12 ts e → DerivesExpr 8 ts e
from_12_to_8 ts e d = DerivesExpr.tighter 8 ts e (lit< tt) (DerivesExpr.tighter 9 ts e (lit< tt) (DerivesExpr.tighter 10 ts e (lit< tt) (DerivesExpr.tighter 11 ts e (lit< tt) d)))

abbrev from_12_to_7 : (ts : List Token) (e : Expr) → DerivesExpr 12 ts e → DerivesExpr 7 ts e
from_12_to_7 ts e d = DerivesExpr.tighter 7 ts e (lit< tt) (from_12_to_8 ts e d)

abbrev from_7 : (ts : List Token) (e : Expr) → DerivesExpr 7 ts e → DerivesExpr 0 ts e
from_7 ts e d = DerivesExpr.tighter 0 ts e (lit< tt) (DerivesExpr.tighter 1 ts e (lit< tt) (DerivesExpr.tighter 2 ts e (lit< tt) (DerivesExpr.tighter 3 ts e (lit< tt)
    (DerivesExpr.tighter 4 ts e (lit< tt) (DerivesExpr.tighter 5 ts e (lit< tt) (DerivesExpr.tighter 6 ts e (lit< tt) d))))))

abbrev from_12 : (ts : List Token) (e : Expr) → DerivesExpr 12 ts e → DerivesExpr 0 ts e
from_12 ts e d = from_7 ts e (from_12_to_7 ts e d)

-- ---- the head of the loop

abbrev int_word : List Token
int_word = keyed key.Int32 (line_span 77 84) ∷ []

abbrev zero_tokens : List Token
zero_tokens = numbered 0 I32 (line_span 89 90) ∷ []

abbrev declared_tokens : List Token
declared_tokens = named (codes "i") (line_span 85 86) ∷ marked mark.Assign (line_span 87 88) ∷ zero_tokens

abbrev first_tokens : List Token
first_tokens = int_word ++ (declared_tokens ++ marked mark.Semicolon (line_span 90 91) ∷ [])

first_derives : DerivesFirst first_tokens (declare_stmt ∷ [])
first_derives = DerivesFirst.declares first_tokens (declare_stmt ∷ []) (DerivesDeclaration.declaration int_word declared_tokens (line_span 90 91) I32 (declare_stmt ∷ []) (DerivesType.fixed_32 (line_span 77 84))
    (DerivesDeclarators.last_one I32 declared_tokens declare_stmt
    (DerivesDeclared.with_value I32 (codes "i") (line_span 85 86) (line_span 87 88) zero_tokens zero_expr (from_12 zero_tokens zero_expr (DerivesExpr.number 0 I32 (line_span 89 90))))))

abbrev i_tokens : List Token
i_tokens = named (codes "i") (line_span 92 93) ∷ []

abbrev n_tokens : List Token
n_tokens = named (codes "n") (line_span 96 97) ∷ []

abbrev less_tokens : List Token
less_tokens = i_tokens ++ marked mark.Less (line_span 94 95) ∷ n_tokens

abbrev i_expr : Expr
i_expr = record { kind = expr.Name (codes "i"); at = line_span 92 93 }

abbrev n_expr : Expr
n_expr = record { kind = expr.Name (codes "n"); at = line_span 96 97 }

less_derives : DerivesOption less_tokens (Some less_expr)
less_derives = DerivesOption.present less_tokens less_expr (from_7 less_tokens less_expr
    (DerivesExpr.joined 7 mark.Less op.Lt i_tokens n_tokens (line_span 94 95) i_expr n_expr IsBinary.less
    (from_12_to_7 i_tokens i_expr (DerivesExpr.name (codes "i") (line_span 92 93))) (from_12_to_8 n_tokens n_expr (DerivesExpr.name (codes "n") (line_span 96 97)))))

abbrev step_tokens : List Token
step_tokens = (named (codes "i") (line_span 99 100) ∷ []) ++ marked mark.Increment (line_span 100 102) ∷ []

step_derives : DerivesStep step_tokens (Some step_stmt)
step_derives = DerivesStep.present step_tokens step_stmt (DerivesSimple.step_after (named (codes "i") (line_span 99 100) ∷ []) mark.Increment (line_span 100 102) step_target true
    (DerivesTarget.target (codes "i") (line_span 99 100) [] [] DerivesIndices.no_more) IsStep.up)

-- ---- the body

abbrev x_index_tokens : List Token
x_index_tokens = named (codes "i") (line_span 108 109) ∷ []

abbrev x_index : Expr
x_index = record { kind = expr.Name (codes "i"); at = line_span 108 109 }

abbrev place_tokens : List Token
place_tokens = named (codes "x") (line_span 106 107) ∷ (between mark.OpenBracket (line_span 107 108) x_index_tokens mark.CloseBracket (line_span 109 110) ++ [])

place_derives : DerivesExpr 0 place_tokens place_expr
place_derives = from_12 place_tokens place_expr (DerivesExpr.element (codes "x") (line_span 106 107) (between mark.OpenBracket (line_span 107 108) x_index_tokens mark.CloseBracket (line_span 109 110) ++ []) x_index []
    (DerivesIndices.one_more x_index_tokens [] (line_span 107 108) (line_span 109 110) x_index [] (from_12 x_index_tokens x_index (DerivesExpr.name (codes "i") (line_span 108 109))) DerivesIndices.no_more))

abbrev add_tokens : List Token
add_tokens = named (codes "h") (line_span 104 105) ∷ (between mark.OpenBracket (line_span 105 106) place_tokens mark.CloseBracket (line_span 110 111) ++ [])

add_derives : DerivesTarget add_tokens add_target
add_derives = DerivesTarget.target (codes "h") (line_span 104 105) (between mark.OpenBracket (line_span 105 106) place_tokens mark.CloseBracket (line_span 110 111) ++ []) (place_expr ∷ [])
    (DerivesIndices.one_more place_tokens [] (line_span 105 106) (line_span 110 111) place_expr [] place_derives DerivesIndices.no_more)

abbrev w_index_tokens : List Token
w_index_tokens = named (codes "i") (line_span 117 118) ∷ []

abbrev w_index : Expr
w_index = record { kind = expr.Name (codes "i"); at = line_span 117 118 }

abbrev weight_tokens : List Token
weight_tokens = named (codes "w") (line_span 115 116) ∷ (between mark.OpenBracket (line_span 116 117) w_index_tokens mark.CloseBracket (line_span 118 119) ++ [])

weight_derives : DerivesExpr 0 weight_tokens weight_expr
weight_derives = from_12 weight_tokens weight_expr (DerivesExpr.element (codes "w") (line_span 115 116) (between mark.OpenBracket (line_span 116 117) w_index_tokens mark.CloseBracket (line_span 118 119) ++ []) w_index []
    (DerivesIndices.one_more w_index_tokens [] (line_span 116 117) (line_span 118 119) w_index [] (from_12 w_index_tokens w_index (DerivesExpr.name (codes "i") (line_span 117 118))) DerivesIndices.no_more))

abbrev assign_tokens : List Token
assign_tokens = add_tokens ++ marked mark.AddAssign (line_span 112 114) ∷ weight_tokens

abbrev body_tokens : List Token
body_tokens = assign_tokens ++ marked mark.Semicolon (line_span 119 120) ∷ []

body_derives : DerivesStmt false body_tokens add_stmt
body_derives = DerivesStmt.simple assign_tokens (line_span 119 120) add_stmt
    (DerivesSimple.assign add_tokens weight_tokens mark.AddAssign (line_span 112 114) add_target (Some op.Add) weight_expr add_derives IsAssigning.plus weight_derives)

-- ---- the loop

abbrev loop_tokens : List Token
loop_tokens = for_tokens (line_span 72 75) (line_span 76 77) first_tokens less_tokens (line_span 97 98) step_tokens (line_span 102 103) body_tokens

items_derive : DerivesItems (loop_tokens ++ []) (for_stmt ∷ [])
items_derive = DerivesItems.statement false loop_tokens [] for_stmt []
    (DerivesStmt.for_loop false (line_span 72 75) (line_span 76 77) (line_span 97 98) (line_span 102 103) first_tokens less_tokens step_tokens body_tokens (declare_stmt ∷ []) (Some less_expr) (Some step_stmt) add_stmt
    first_derives less_derives step_derives body_derives) DerivesItems.done

-- ---- the parameters

abbrev dim_tokens : Span → ℕ → Span → Span → List Token
dim_tokens a n b c = between mark.OpenBracket a (numbered n I32 b ∷ []) mark.CloseBracket c ++ []

dim_derives : (a b c : Span) (n : ℕ) → DerivesDims (dim_tokens a n b c) (n ∷ [])
dim_derives a b c n = DerivesDims.one_more a b c n I32 [] [] DerivesDims.no_more

abbrev n_param : List Token
n_param = (keyed key.Int32 (line_span 10 17) ∷ []) ++ named (codes "n") (line_span 18 19) ∷ []

n_derives : DerivesParam n_param param_n
n_derives = DerivesParam.param (keyed key.Int32 (line_span 10 17) ∷ []) [] I32 (codes "n") (line_span 18 19) [] (DerivesType.fixed_32 (line_span 10 17)) DerivesDims.no_more

abbrev x_param : List Token
x_param = (keyed key.Int32 (line_span 21 28) ∷ []) ++ named (codes "x") (line_span 29 30) ∷ dim_tokens (line_span 30 31) 1024 (line_span 31 35) (line_span 35 36)

x_derives : DerivesParam x_param param_x
x_derives = DerivesParam.param (keyed key.Int32 (line_span 21 28) ∷ []) (dim_tokens (line_span 30 31) 1024 (line_span 31 35) (line_span 35 36)) I32 (codes "x") (line_span 29 30) (1024 ∷ []) (DerivesType.fixed_32 (line_span 21 28))
    (dim_derives (line_span 30 31) (line_span 31 35) (line_span 35 36) 1024)

abbrev w_param : List Token
w_param = (keyed key.Int32 (line_span 38 45) ∷ []) ++ named (codes "w") (line_span 46 47) ∷ dim_tokens (line_span 47 48) 1024 (line_span 48 52) (line_span 52 53)

w_derives : DerivesParam w_param param_w
w_derives = DerivesParam.param (keyed key.Int32 (line_span 38 45) ∷ []) (dim_tokens (line_span 47 48) 1024 (line_span 48 52) (line_span 52 53)) I32 (codes "w") (line_span 46 47) (1024 ∷ []) (DerivesType.fixed_32 (line_span 38 45))
    (dim_derives (line_span 47 48) (line_span 48 52) (line_span 52 53) 1024)

abbrev h_param : List Token
h_param = (keyed key.Int32 (line_span 55 62) ∷ []) ++ named (codes "h") (line_span 63 64) ∷ dim_tokens (line_span 64 65) 64 (line_span 65 67) (line_span 67 68)

h_derives : DerivesParam h_param param_h
h_derives = DerivesParam.param (keyed key.Int32 (line_span 55 62) ∷ []) (dim_tokens (line_span 64 65) 64 (line_span 65 67) (line_span 67 68)) I32 (codes "h") (line_span 63 64) (64 ∷ []) (DerivesType.fixed_32 (line_span 55 62))
    (dim_derives (line_span 64 65) (line_span 65 67) (line_span 67 68) 64)

abbrev last_two : List Token
last_two = w_param ++ marked mark.Comma (line_span 53 54) ∷ h_param

abbrev last_three : List Token
last_three = x_param ++ marked mark.Comma (line_span 36 37) ∷ last_two

abbrev all_params : List Token
all_params = n_param ++ marked mark.Comma (line_span 19 20) ∷ last_three

params_derive : DerivesParams all_params hist_params
params_derive = DerivesParams.some all_params hist_params (DerivesParamList.one_more n_param last_three (line_span 19 20) param_n (param_x ∷ param_w ∷ param_h ∷ []) n_derives
    (DerivesParamList.one_more x_param last_two (line_span 36 37) param_x (param_w ∷ param_h ∷ []) x_derives
    (DerivesParamList.one_more w_param h_param (line_span 53 54) param_w (param_h ∷ []) w_derives (DerivesParamList.last_one h_param param_h h_derives))))

-- ---- the kernel

derived : Derives tokens hist_tree
derived = Derives.kernel (keyed key.Void (line_span 0 4) ∷ []) all_params (loop_tokens ++ []) (codes "hist") (line_span 5 9) (line_span 9 10) (line_span 68 69) (line_span 70 71) (line_span 121 122) None hist_params (for_stmt ∷ [])
    (DerivesResult.void (line_span 0 4)) params_derive items_derive

-- ---- the program, which is the kernel alone

pub program_derived : DerivesProgram tokens hist_program
program_derived = DerivesProgram.program [] tokens [] hist_tree DerivesHelpers.no_more derived

pub program_shallow : IsShallowProgram tokens
program_shallow = judged_means tokens Verdict.whole refl
