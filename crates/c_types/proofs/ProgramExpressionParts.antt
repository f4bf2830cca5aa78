-- The parts of an expression or target of a program that keeps the typing rules keep them, and its name is declared as it is used.
use Rattle.std.proofs.Common.{◌≡◌, ℕ, ◌<◌, List, length, All, Option, Some, None, sym, subst, get_or}
use Rattle.std.specs.Prelude.{IfSome}
use Rattle.std.proofs.lemmas.List.Elements.{All-weaker, All-get_or}
use Rattle.el_base.specs.declared.ty.Ty.{Ty}
use Rattle.c_ast.specs.declared.tree.Unary.{Unary}
use Rattle.c_ast.specs.declared.tree.Binary.{Binary}
use Rattle.c_ast.specs.declared.tree.Target.{Target}
use Rattle.c_ast.specs.declared.tree.Expr.{Expr}
use Rattle.c_ast.specs.declared.tree.ExprKind.{ExprKind}
use Rattle.c_ast.specs.declared.tree.ExprKind.TheVariants as expr
use Rattle.c_ast.specs.declared.tree.Helper.{Helper}
use Rattle.c_ast.specs.Typing.{TypingKind, TypingExpr}
use Rattle.c_types.specs.Contexts.{Bindings}
use Rattle.c_types.specs.TypingParts.{TypingUseIn}
use Rattle.c_types.specs.ProgramParts.{Around, names_with, TypingExprWith, TypingTargetWith}
use Rattle.c_types.proofs.ProgramNames.{use_inside, IsCalled, call_inside}
use Rattle.c_types.proofs.TypingRows.{used_element, used_call, in_element, in_call, in_unary, in_cast, in_binary, in_choice}

module _ (helpers : List Helper) where
  -- a part, as its reference gives it
  part : (w : Around helpers) (v : Bindings) (a b : Expr) → b ≡ a → TypingExpr (names_with w v) a → TypingExprWith helpers v b
  part w v a b same h = subst (TypingExprWith helpers v) (sym same) (record { around = w; typing = h })

  kind_typing : (v : Bindings) (e : Expr) (k : ExprKind) (h : TypingExprWith helpers v e) → e.kind ≡ k → TypingKind (names_with h.around v) k
  kind_typing v e k h is = subst (TypingKind (names_with h.around v)) is h.typing

  pub name_use : (v : Bindings) (e : Expr) (x : List ℕ) → TypingExprWith helpers v e → e.kind ≡ expr.Name x → TypingUseIn v x 0
  name_use v e x h is = use_inside h.around v x 0 (kind_typing v e (expr.Name x) h is)

  pub element_use : (v : Bindings) (e : Expr) (x : List ℕ) (es : List Expr) (n : ℕ) → TypingExprWith helpers v e → e.kind ≡ expr.Element x es → n ≡ length es → TypingUseIn v x n
  element_use v e x es n h is long = subst (TypingUseIn v x) (sym long) (use_inside h.around v x (length es) (used_element (names_with h.around v) x es (kind_typing v e (expr.Element x es) h is)))

  pub call_use : (v : Bindings) (e : Expr) (x : List ℕ) (es : List Expr) → TypingExprWith helpers v e → e.kind ≡ expr.Call x es → IsCalled helpers v x (length es)
  call_use v e x es h is = call_inside h.around v x (length es) (used_call (names_with h.around v) x es (kind_typing v e (expr.Call x es) h is))

  pub all_parts : (w : Around helpers) (v : Bindings) (es us : List Expr) → us ≡ es → All (TypingExpr (names_with w v)) es → All (TypingExprWith helpers v) us
  all_parts w v es us same h =
      subst (All (TypingExprWith helpers v)) (sym same) (All-weaker (TypingExpr (names_with w v)) (TypingExprWith helpers v) (λ e k. record { around = w; typing = k }) es h)

  pub element_parts : (v : Bindings) (e : Expr) (x : List ℕ) (es us : List Expr) → TypingExprWith helpers v e → e.kind ≡ expr.Element x es → us ≡ es → All (TypingExprWith helpers v) us
  element_parts v e x es us h is same = all_parts h.around v es us same (in_element (names_with h.around v) x es (kind_typing v e (expr.Element x es) h is))

  pub call_parts : (v : Bindings) (e : Expr) (x : List ℕ) (es us : List Expr) → TypingExprWith helpers v e → e.kind ≡ expr.Call x es → us ≡ es → All (TypingExprWith helpers v) us
  call_parts v e x es us h is same = all_parts h.around v es us same (in_call (names_with h.around v) x es (kind_typing v e (expr.Call x es) h is))

  pub unary_part : (v : Bindings) (e : Expr) (op : Unary) (a b : Expr) → TypingExprWith helpers v e → e.kind ≡ expr.Unary op a → b ≡ a → TypingExprWith helpers v b
  unary_part v e op a b h is same = part h.around v a b same (in_unary (names_with h.around v) op a (kind_typing v e (expr.Unary op a) h is))

  pub cast_part : (v : Bindings) (e : Expr) (t : Ty) (a b : Expr) → TypingExprWith helpers v e → e.kind ≡ expr.Cast t a → b ≡ a → TypingExprWith helpers v b
  cast_part v e t a b h is same = part h.around v a b same (in_cast (names_with h.around v) t a (kind_typing v e (expr.Cast t a) h is))

  pub left_part : (v : Bindings) (e : Expr) (op : Binary) (a g b : Expr) → TypingExprWith helpers v e → e.kind ≡ expr.Binary op a g → b ≡ a → TypingExprWith helpers v b
  left_part v e op a g b h is same = part h.around v a b same ((in_binary (names_with h.around v) op a g (kind_typing v e (expr.Binary op a g) h is)).0)

  pub right_part : (v : Bindings) (e : Expr) (op : Binary) (a g b : Expr) → TypingExprWith helpers v e → e.kind ≡ expr.Binary op a g → b ≡ g → TypingExprWith helpers v b
  right_part v e op a g b h is same = part h.around v g b same ((in_binary (names_with h.around v) op a g (kind_typing v e (expr.Binary op a g) h is)).1)

  pub cond_part : (v : Bindings) (e a g i b : Expr) → TypingExprWith helpers v e → e.kind ≡ expr.Choose a g i → b ≡ a → TypingExprWith helpers v b
  cond_part v e a g i b h is same = part h.around v a b same ((in_choice (names_with h.around v) a g i (kind_typing v e (expr.Choose a g i) h is)).0)

  pub then_part : (v : Bindings) (e a g i b : Expr) → TypingExprWith helpers v e → e.kind ≡ expr.Choose a g i → b ≡ g → TypingExprWith helpers v b
  then_part v e a g i b h is same = part h.around v g b same ((in_choice (names_with h.around v) a g i (kind_typing v e (expr.Choose a g i) h is)).1)

  pub other_part : (v : Bindings) (e a g i b : Expr) → TypingExprWith helpers v e → e.kind ≡ expr.Choose a g i → b ≡ i → TypingExprWith helpers v b
  other_part v e a g i b h is same = part h.around v i b same ((in_choice (names_with h.around v) a g i (kind_typing v e (expr.Choose a g i) h is)).2)

  -- an expression of a list that is gone over
  pub item_typing : (v : Bindings) (es : List Expr) (i : ℕ) (e : Expr) → All (TypingExprWith helpers v) es → i < length es → e ≡ get_or es i e → TypingExprWith helpers v e
  item_typing v es i e h lt is = subst (TypingExprWith helpers v) (sym is) (All-get_or (TypingExprWith helpers v) es i e lt h)

  -- what may be absent
  pub option_typing : (w : Around helpers) (v : Bindings) (o : Option Expr) → IfSome o (TypingExpr (names_with w v)) → IfSome o (TypingExprWith helpers v)
  option_typing w v None h = tt
  option_typing w v (Some e) h = record { around = w; typing = h }

  -- ---- targets

  pub target_use : (v : Bindings) (x y : Target) (n : ℕ) → TypingTargetWith helpers v x → y ≡ x → n ≡ length y.indices → TypingUseIn v y.name n
  target_use v x y n h same long =
      let here : TypingTargetWith helpers v y = subst (TypingTargetWith helpers v) (sym same) h in
      subst (TypingUseIn v y.name) (sym long) (use_inside here.around v y.name (length y.indices) here.typing.0)

  pub target_parts : (v : Bindings) (x y : Target) (us : List Expr) → TypingTargetWith helpers v x → y ≡ x → us ≡ y.indices → All (TypingExprWith helpers v) us
  target_parts v x y us h same is =
      let here : TypingTargetWith helpers v y = subst (TypingTargetWith helpers v) (sym same) h in all_parts here.around v y.indices us is here.typing.1
