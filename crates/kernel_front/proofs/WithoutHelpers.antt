-- A program without helpers becomes the typed tree of its kernel: of no part of it are a block or a variable made, and what is left of a part is what that part of the kernel is cast to.
use Rattle.std.proofs.Common.{◌≡◌, ℕ, ◌+◌, List, [], ◌++◌, length, Option, Some, None, ◌≤◌, refl, sym, ◌∙◌, ap, subst, append-nil, arith}
use Rattle.std.specs.Prelude.{Bool, true, false, if◌then◌else◌, option_map}
use Rattle.el_base.specs.Limits.{max_nodes}
use Rattle.el_base.specs.declared.span.Span.{Span}
use Rattle.el_base.specs.declared.ty.Ty.{Ty}
use Rattle.c_ast.specs.declared.tree.Unary.{Unary}
use Rattle.c_ast.specs.declared.tree.Binary.{Binary}
use Rattle.c_ast.specs.declared.tree.Expr.{Expr}
use Rattle.c_ast.specs.declared.tree.Target.{Target}
use Rattle.c_ast.specs.declared.tree.Stmt.{Stmt}
use Rattle.c_ast.specs.declared.tree.Tree.{Tree}
use Rattle.c_ast.specs.declared.typed.Object.TheVariants as object
use Rattle.c_ast.specs.declared.typed.TypedTarget.{TypedTarget}
use Rattle.c_ast.specs.declared.typed.TypedExpr.{TypedExpr}
use Rattle.c_ast.specs.declared.typed.TypedExprKind.{TypedExprKind}
use Rattle.c_ast.specs.declared.typed.TypedExprKind.TheVariants as expr
use Rattle.c_ast.specs.declared.typed.TypedStmt.{TypedStmt}
use Rattle.c_ast.specs.declared.typed.TypedStmtKind.{TypedStmtKind}
use Rattle.c_ast.specs.declared.typed.TypedStmtKind.TheVariants as stmt
use Rattle.c_ast.specs.declared.program.ProgExpr.{ProgExpr}
use Rattle.c_ast.specs.declared.program.ProgExprKind.TheVariants as prog
use Rattle.c_ast.specs.declared.program.ProgTarget.{ProgTarget}
use Rattle.c_ast.specs.declared.program.ProgStmt.{ProgStmt}
use Rattle.c_ast.specs.declared.program.ProgStmtKind.TheVariants as act
use Rattle.c_ast.specs.declared.program.ProgTree.{ProgTree}
use Rattle.c_ast.specs.declared.program.TypedHelper.{TypedHelper}
use Rattle.c_ast.specs.declared.program.TypedProgram.{TypedProgram}
use Rattle.c_ast.specs.Nodes.{tree_nodes}
use Rattle.c_ast.specs.Typing.{Typing}
use Rattle.c_ast.specs.Programs.{TypingProgram}
use Rattle.c_ast.specs.ResultTypes.{promoted, usual, joint_type, result_type, unary_type}
use Rattle.c_ast.specs.Casts.{Context, of_type, same_type, left_type, right_type, assigned_type, act_at, Casts}
use Rattle.c_ast.specs.ProgramCasts.{prog_of, prog_converted, prog_at, CastsCallExpr, CastsCallExprs, CastsCallTarget, CastsCallOption, CastsCallStmt, CastsCallHeld, CastsCallStmts, CastsHelpers, CastsProgram}
use Rattle.c_ast.specs.ProgramCasts as rule
use Rattle.c_ast.proofs.CastNodes.{tree_same}
use Rattle.c_calls.specs.Inlined.{Outs, OutOption, OutStmts, OutHeld, whole, inline_list, writings, target_to, body_of, inlined, Inlined}
use Rattle.c_calls.specs.Laws.{InlinedIsLawful}
use Rattle.c_calls.specs.Texts.{TypedIsOne, TypedIsLawful}
use Rattle.c_inline.specs.Making.{out_of, outs_of, option_of, stmt_of, stmts_of, held_of}
use Rattle.c_inline.proofs.Parts.{out_number, out_var, out_element, out_unary, out_cast, out_binary, out_choice, element_out, block_stmt, stmt_block, stmt_declare, stmt_return, stmt_assign, stmt_step, stmt_if, stmt_while, stmt_do, stmt_for, stmt_break, stmt_continue, stmt_empty}
use Rattle.c_inline.proofs.Parts.{alone as only}
use Rattle.c_types.specs.Laws.{alone, AloneKeepsRules}
use Rattle.c_types.specs.TypedParts.{typed_kind, typed_expr, typed_exprs, typed_target, typed_act, typed_stmt, typed_stmts}
use Rattle.c_types.proofs.AloneCasts.{at_number, at_var, at_element, at_unary, at_cast, at_binary, at_choice, at_block, at_declaration, at_assignment, at_step, at_if, at_while, at_do, at_for, at_break, at_continue, at_return, at_empty, no_helper, whole_act, tree_casts}
use Rattle.c_types.proofs.AloneCasts.{whole as whole_expr}
use Rattle.c_meaning.proofs.Elaboration as kernel
use Rattle.c_calls.proofs.CastOnce as program
use Rattle.c_calls.proofs.CastExists.{program_casts}
use Rattle.kernel_front.specs.declared.reading.Kernel.{Kernel}
use Rattle.kernel_front.specs.Answers.{SpellsWithin, SpellsTyped, IsKernel}
use Rattle.kernel_front.specs.Laws.{AloneBecomesCast, IsCast, TextsWithoutHelpersAreCast}
use Rattle.kernel_front.proofs.Answering.{OfTexts, lawful_program}
use Rattle.kernel_front.proofs.OneAnswer.{OneReading, OneParse, same_program}

none_before : (v : ℕ) → 0 + v ≡ v
none_before v = omega arith

-- ---- expressions

-- what is left of the expression is the tree's, and nothing is made besides
abbrev IsLeft : ProgExpr → Type 0
IsLeft g = (n : ℕ) → out_of [] 0 n g ≡ whole (typed_kind g.kind)

abbrev all_left : List TypedExpr → Outs
all_left fs = record { before = []; exprs = fs; types = [] }

abbrev AreLeft : List ProgExpr → Type 0
AreLeft gs = (n : ℕ) → outs_of [] 0 n gs ≡ all_left (typed_exprs gs)

left_as : (g : ProgExpr) (m : TypedExprKind) → ((n : ℕ) → out_of [] 0 n g ≡ whole m) → typed_expr g ≡ of_type m g.ty g.at → IsLeft g
left_as g m h is n = h n ∙ ap (λ (f : TypedExpr). whole f.kind) (sym is ∙ whole_expr g)

var_left : (v : ℕ) (t : Ty) (s : Span) → IsLeft (prog_of (prog.Var v) t s)
var_left v t s = left_as (prog_of (prog.Var v) t s) (expr.Var v) (λ n. out_var [] 0 n (prog_of (prog.Var v) t s) v refl ∙ ap (λ m. whole (expr.Var m)) (none_before v)) (at_var v t s)

unary_left : (op : Unary) (x : ProgExpr) (t : Ty) (s : Span) → IsLeft x → IsLeft (prog_of (prog.Unary op x) t s)
unary_left op x t s h =
    let g = prog_of (prog.Unary op x) t s in
    left_as g (expr.Unary op (typed_expr x)) (λ n. rw (out_unary [] 0 n g op x refl, h n, whole_expr x)) (at_unary op x t s)

cast_left : (implied : Bool) (x : ProgExpr) (t : Ty) (s : Span) → IsLeft x → IsLeft (prog_of (prog.Cast implied x) t s)
cast_left implied x t s h =
    let g = prog_of (prog.Cast implied x) t s in
    left_as g (expr.Cast implied (typed_expr x)) (λ n. rw (out_cast [] 0 n g implied x refl, h n, whole_expr x)) (at_cast implied x t s)

binary_left : (op : Binary) (x y : ProgExpr) (t : Ty) (s : Span) → IsLeft x → IsLeft y → IsLeft (prog_of (prog.Binary op x y) t s)
binary_left op x y t s h k =
    let g = prog_of (prog.Binary op x y) t s in
    left_as g (expr.Binary op (typed_expr x) (typed_expr y)) (λ n. rw (out_binary [] 0 n g op x y refl, h n, k (n + 0), whole_expr x, whole_expr y)) (at_binary op x y t s)

choice_left : (x y z : ProgExpr) (t : Ty) (s : Span) → IsLeft x → IsLeft y → IsLeft z → IsLeft (prog_of (prog.Choose x y z) t s)
choice_left x y z t s h k l =
    let g = prog_of (prog.Choose x y z) t s in
    left_as g (expr.Choose (typed_expr x) (typed_expr y) (typed_expr z))
    (λ n. rw (out_choice [] 0 n g x y z refl, h n, k (n + 0), l (n + 0 + 0), whole_expr x, whole_expr y, whole_expr z)) (at_choice x y z t s)

converted_left : (t : Ty) (g : ProgExpr) → IsLeft g → IsLeft (prog_converted t g)
converted_left t g h = by (same_type t g.ty)
  where
    by : (b : Bool) → IsLeft (if b then g else prog_of (prog.Cast true g) t g.at)
    by true = h
    by false = cast_left true g t g.at h

mutual
  expr_left : {c : Context} {e : Expr} {f : ProgExpr} → CastsCallExpr [] c e f → IsLeft f
  expr_left (rule.number c n t s) =
      left_as (prog_of (prog.Number n) t s) (expr.Number n) (λ m. out_number [] 0 m (prog_of (prog.Number n) t s) n refl) (at_number n t s)
  expr_left (rule.name c x v t s h) = var_left v t s
  expr_left (rule.element c x a t ds es fs s h hs) =
      let g = prog_of (prog.Element a fs) t s in
      left_as g (expr.Element a (typed_exprs fs)) (λ n. out_element [] 0 n g a fs refl ∙ ap (element_out a) (exprs_left hs n)) (at_element a fs t s)
  expr_left (rule.call c x j k es fs s h some long hs) = absurd (no_helper (j, k) some)
  expr_left (rule.whole c x v t s h) = var_left v t s
  expr_left (rule.unary c op e f s h) = unary_left op (prog_converted (promoted f.ty) f) (unary_type op (promoted f.ty)) s (converted_left (promoted f.ty) f (expr_left h))
  expr_left (rule.cast c t e f s h) = cast_left false f t s (expr_left h)
  expr_left (rule.binary c op e g f h s p q) =
      binary_left op (prog_converted (left_type op f.ty h.ty) f) (prog_converted (right_type op f.ty h.ty) h) (result_type op (joint_type op f.ty h.ty)) s
      (converted_left (left_type op f.ty h.ty) f (expr_left p)) (converted_left (right_type op f.ty h.ty) h (expr_left q))
  expr_left (rule.choose c e g i f h j s p q r) =
      let t = usual h.ty j.ty in
      choice_left f (prog_converted t h) (prog_converted t j) t s (expr_left p) (converted_left t h (expr_left q)) (converted_left t j (expr_left r))

  exprs_left : {c : Context} {es : List Expr} {fs : List ProgExpr} → CastsCallExprs [] c es fs → AreLeft fs
  exprs_left (rule.no_more c) n = refl
  exprs_left (rule.one_more c e f es fs p q) n = rw (expr_left p n, exprs_left q (n + 0), whole_expr f)

abbrev IsLeftIfAny : Option ProgExpr → Type 0
IsLeftIfAny g = (n : ℕ) → option_of [] 0 n g ≡ (let f : OutOption = record { before = []; expr = option_map typed_expr g; types = [] } in f)

some_left : (g : ProgExpr) → IsLeft g → IsLeftIfAny (Some g)
some_left g h n = rw (h n, whole_expr g)

option_left : {c : Context} {e : Option Expr} {f : Option ProgExpr} → CastsCallOption [] c e f → IsLeftIfAny f
option_left (rule.absent c) = λ n. refl
option_left (rule.present c e f h) = some_left f (expr_left h)

record IsLeftTarget (g : ProgTarget) : Type 0 where
  indices : AreLeft g.indices
  is : target_to 0 g (typed_exprs g.indices) ≡ typed_target g

target_left : {c : Context} {x : Target} {g : ProgTarget} {t : Ty} → CastsCallTarget [] c x g t → IsLeftTarget g
target_left (rule.to_var c x v t s h) = record { indices = λ n. refl; is = ap (λ v. let f : TypedTarget = record { to = object.Var v; at = s; indices = [] } in f) (none_before v) }
target_left (rule.to_element c x a t ds e es fs s h hs) = record { indices = exprs_left hs; is = refl }

-- ---- statements

abbrev IsLeftStmt : ProgStmt → Type 0
IsLeftStmt g = (n : ℕ) → stmt_of [] 0 n g ≡ only (typed_act g.kind)

abbrev stmts_left : List TypedStmt → OutStmts
stmts_left fs = record { stmts = fs; types = [] }

abbrev AreLeftStmts : List ProgStmt → Type 0
AreLeftStmts gs = (n : ℕ) → stmts_of [] 0 n gs ≡ stmts_left (typed_stmts gs)

abbrev IsLeftHeld : Option ProgStmt → Type 0
IsLeftHeld g = (n : ℕ) → held_of [] 0 n g ≡ (let f : OutHeld = record { stmt = option_map typed_stmt g; types = [] } in f)

act_as : (g : ProgStmt) (m : TypedStmtKind) → ((n : ℕ) → stmt_of [] 0 n g ≡ only m) → typed_stmt g ≡ act_at m g.at → IsLeftStmt g
act_as g m h is n = h n ∙ ap (λ (f : TypedStmt). only f.kind) (sym is ∙ whole_act g)

declare_left : (v : ℕ) (e : Option ProgExpr) (s : Span) → IsLeftIfAny e → IsLeftStmt (prog_at (act.Declare v e) s)
declare_left v e s h =
    let g = prog_at (act.Declare v e) s in
    act_as g (stmt.Declare v (option_map typed_expr e)) (λ n. rw (stmt_declare [] 0 n g v e refl, h n, none_before v)) (at_declaration v e s)

return_left : (e : Option ProgExpr) (s : Span) → IsLeftIfAny e → IsLeftStmt (prog_at (act.Return e) s)
return_left e s h =
    let g = prog_at (act.Return e) s in
    act_as g (stmt.Return (option_map typed_expr e)) (λ n. rw (stmt_return [] 0 n g e refl, h n)) (at_return e s)

assign_left : (to : ProgTarget) (op : Option Binary) (e : ProgExpr) (s : Span) → IsLeftTarget to → IsLeft e → IsLeftStmt (prog_at (act.Assign to op e) s)
assign_left to op e s h k =
    let g = prog_at (act.Assign to op e) s in
    act_as g (stmt.Assign (typed_target to) op (typed_expr e)) (λ n. rw (stmt_assign [] 0 n g to op e refl, h.indices n, k (n + 0), h.is, whole_expr e)) (at_assignment to op e s)

mutual
  stmt_left : {r : Option Ty} {c d : Context} {a : Stmt} {b : ProgStmt} → CastsCallStmt [] r c a b d → IsLeftStmt b
  stmt_left (rule.block r c d ss ts s h) =
      let g = prog_at (act.Block ts) s in
      act_as g (stmt.Block (typed_stmts ts)) (λ n. stmt_block [] 0 n g ts refl ∙ ap block_stmt (stmts_are_left h n)) (at_block ts s)
  stmt_left (rule.declare r c x t s) = declare_left (length c.types) None s (λ n. refl)
  stmt_left (rule.declare_value r c x t e f s h) = declare_left (length c.types) (Some (prog_converted t f)) s (some_left (prog_converted t f) (converted_left t f (expr_left h)))
  stmt_left (rule.assign r c target to t op e f s h i) =
      let u = assigned_type op t f.ty in
      assign_left to op (prog_converted u f) s (target_left h) (converted_left u f (expr_left i))
  stmt_left (rule.step r c target to t up s h) =
      let g = prog_at (act.Step to up) s in
      let k : IsLeftTarget to = target_left h in
      act_as g (stmt.Step (typed_target to) up) (λ n. rw (stmt_step [] 0 n g to up refl, k.indices n, k.is)) (at_step to up s)
  stmt_left (rule.choice r c d d2 e f a b o p s h i j) =
      let g = prog_at (act.If f b p) s in
      act_as g (stmt.If (typed_expr f) (typed_stmt b) (option_map typed_stmt p))
      (λ n. rw (stmt_if [] 0 n g f b p refl, expr_left h n, stmt_left i (n + 0), held_left j (n + 0 + 0), whole_expr f, whole_act b)) (at_if f b p s)
  stmt_left (rule.while_loop r c d e f a b s h i) =
      let g = prog_at (act.While f b) s in
      act_as g (stmt.While (typed_expr f) (typed_stmt b)) (λ n. rw (stmt_while [] 0 n g f b refl, expr_left h n, stmt_left i (n + 0), whole_expr f, whole_act b)) (at_while f b s)
  stmt_left (rule.do_loop r c d e f a b s h i) =
      let g = prog_at (act.DoWhile b f) s in
      act_as g (stmt.DoWhile (typed_stmt b) (typed_expr f)) (λ n. rw (stmt_do [] 0 n g b f refl, stmt_left h n, expr_left i (n + 0), whole_expr f, whole_act b)) (at_do b f s)
  stmt_left (rule.for_loop r c d d2 d3 ss ts e f o p a b s h i j k) =
      let g = prog_at (act.For ts f p b) s in
      act_as g (stmt.For (typed_stmts ts) (option_map typed_expr f) (option_map typed_stmt p) (typed_stmt b))
      (λ n. rw (stmt_for [] 0 n g ts f p b refl, stmts_are_left h n, option_left i (n + 0), held_left j (n + 0 + 0), stmt_left k (n + 0 + 0 + 0), whole_act b)) (at_for ts f p b s)
  stmt_left (rule.leaving r c s) = act_as (prog_at act.Break s) stmt.Break (λ n. stmt_break [] 0 n (prog_at act.Break s) refl) (at_break s)
  stmt_left (rule.continuing r c s) = act_as (prog_at act.Continue s) stmt.Continue (λ n. stmt_continue [] 0 n (prog_at act.Continue s) refl) (at_continue s)
  stmt_left (rule.return_nothing r c s) = return_left None s (λ n. refl)
  stmt_left (rule.return_value t c e f s h) = return_left (Some (prog_converted t f)) s (some_left (prog_converted t f) (converted_left t f (expr_left h)))
  stmt_left (rule.empty r c s) = act_as (prog_at act.Empty s) stmt.Empty (λ n. stmt_empty [] 0 n (prog_at act.Empty s) refl) (at_empty s)

  held_left : {r : Option Ty} {c d : Context} {o : Option Stmt} {p : Option ProgStmt} → CastsCallHeld [] r c o p d → IsLeftHeld p
  held_left (rule.no_statement r c) n = refl
  held_left (rule.a_statement r c d a b h) n = rw (stmt_left h n, whole_act b)

  stmts_are_left : {r : Option Ty} {c d : Context} {ss : List Stmt} {ts : List ProgStmt} → CastsCallStmts [] r c ss ts d → AreLeftStmts ts
  stmts_are_left (rule.done r c) n = refl
  stmts_are_left (rule.more r c d d2 a b ss ts h i) n = rw (stmt_left h n, stmts_are_left i (n + 0), whole_act b)

-- ---- kernels

no_helpers : {ks : List TypedHelper} → CastsHelpers [] [] ks → ks ≡ []
no_helpers (CastsHelpers.no_helpers hs) = refl

-- the tree without calls that a program without helpers becomes is what its kernel is cast to
inlined_casts : (tree : Tree) (P : TypedProgram) → CastsProgram (alone tree) P → Casts tree (inlined P)
inlined_casts tree P h =
    let k : ProgTree = P.kernel in
    let out : body_of P ≡ stmts_left (typed_stmts k.body)
    = ap (λ hs. inline_list (writings [] hs) 0 (length k.vars) k.body) (no_helpers h.helpers_cast) ∙ stmts_are_left h.body_casts (length k.vars) in
    tree_casts [] tree k (inlined P) refl
    (record {
      same_name = h.same_name;
      same_place = h.same_place;
      same_result = h.same_result;
      same_params = h.same_params;
      arrays_are = h.arrays_are;
      last = h.last;
      body_casts = h.body_casts;
      vars_are = h.vars_are;
    }) refl refl refl refl (ap (λ (o : OutStmts). k.vars ++ o.types) out ∙ append-nil k.vars) refl (ap (λ (o : OutStmts). o.stmts) out)

pub becomes_cast : AloneBecomesCast
becomes_cast tree typed k typing casts =
    let is : Casts tree (inlined typed) = inlined_casts tree typed casts in
    (λ made. subst (Casts tree) (sym made) is, λ h. kernel.one_tree h ∙ sym (kernel.one_tree is))

-- ---- texts

few : (bytes : List ℕ) (tree : Tree) → SpellsWithin bytes (alone tree) → tree_nodes tree ≤ max_nodes
few bytes tree h = let n = h.small in omega (arith, n)

module _ (checked : AloneKeepsRules) (one : TypedIsOne) (one_reading : OneReading) (one_parse : OneParse) (law : TypedIsLawful) (of_texts : OfTexts) (lawful : InlinedIsLawful) where
  of_program : (tree : Tree) → Typing tree → CastsProgram (alone tree) (program.cast_program (alone tree))
  of_program tree typing = program_casts (alone tree) ((checked tree).1 typing)

  cast_of : (bytes : List ℕ) (tree : Tree) (k : Kernel) → SpellsWithin bytes (alone tree) → IsKernel bytes k → IsCast tree k
  cast_of bytes tree k within is =
      let same : is.spelled.program ≡ alone tree = same_program one_reading one_parse one bytes is.spelled.program (alone tree) is.spelled.within within in
      let typing : Typing tree = (checked tree).0 (subst TypingProgram same is.spelled.typing) in
      let casts : Casts tree k.typed = (becomes_cast tree is.program k.typed typing (subst (λ p. CastsProgram p is.program) same is.spelled.casts)).0 is.inlined in
      record { typing = typing; casts = casts; nodes = is.typed_nodes ∙ tree_same tree k.typed casts }

  kernel_of : (bytes : List ℕ) (tree : Tree) (k : Kernel) → SpellsWithin bytes (alone tree) → IsCast tree k → IsKernel bytes k
  kernel_of bytes tree k within is =
      let typed = program.cast_program (alone tree) in
      let casts : CastsProgram (alone tree) typed = of_program tree is.typing in
      let made : Inlined typed k.typed = (becomes_cast tree typed k.typed is.typing casts).1 is.casts in
      let spelled : SpellsTyped bytes typed = record { program = alone tree; within = within; typing = (checked tree).1 is.typing; casts = casts } in
      record {
        program = typed;
        spelled = spelled;
        inlined = made;
        lawful = lawful typed k.typed (lawful_program law of_texts bytes typed spelled) made;
        typed_nodes = is.nodes ∙ sym (tree_same tree k.typed is.casts);
        small = subst (λ n. n ≤ max_nodes) (sym is.nodes) (few bytes tree within);
      }

  pub texts_are_cast : TextsWithoutHelpersAreCast
  texts_are_cast bytes tree k within = (cast_of bytes tree k within, kernel_of bytes tree k within)
