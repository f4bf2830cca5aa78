-- The statements that are made for a lawful one are lawful, no condition stands after one that returns, and each variable that is made or was set is set.
use Rattle.std.proofs.Common.{◌≡◌, ℕ, ◌+◌, ◌≤◌, List, [], ◌∷◌, ◌++◌, length, Option, Some, None, refl, sym, ◌∙◌, ap, subst, arith, length-append}
use Rattle.std.specs.Prelude.{Bool, true, false, All, Contains, slice_get}
use Rattle.std.proofs.lemmas.List.Elements.{All-nil, All-cons, All-head, All-tail, All-append, Contains-append_left}
use Rattle.std.proofs.lemmas.Option.{get_or_from_slice_get}
use mathlib.Core.Former.{Count}
use Rattle.el_base.specs.declared.span.Span.{Span}
use Rattle.el_base.specs.declared.ty.Ty.{Ty}
use Rattle.el_base.specs.declared.ty.Ty.TheVariants.{I32}
use Rattle.c_ast.specs.Casts.{of_type, left_type, right_type}
use Rattle.c_ast.specs.ResultTypes.{joint_type, result_type}
use Rattle.c_ast.specs.declared.tree.Binary.{Binary}
use Rattle.c_ast.specs.declared.tree.Binary.TheVariants.{Both, Either}
use Rattle.c_ast.specs.declared.typed.Object.{Object}
use Rattle.c_ast.specs.declared.typed.Object.TheVariants as object
use Rattle.c_ast.specs.declared.typed.TypedTarget.{TypedTarget}
use Rattle.c_ast.specs.declared.typed.TypedExpr.{TypedExpr}
use Rattle.c_ast.specs.declared.typed.TypedExprKind.TheVariants as expr
use Rattle.c_ast.specs.declared.typed.TypedStmt.{TypedStmt}
use Rattle.c_ast.specs.declared.typed.TypedStmtKind.{TypedStmtKind, Row_of-TypedStmt, end_of-TypedStmt, more_of-TypedStmt, Held-TypedStmtKind-If-2}
use Rattle.c_ast.specs.declared.typed.TypedStmtKind as tree
use Rattle.c_ast.specs.declared.normal.NormalStmt.{NormalStmt}
use Rattle.c_ast.specs.declared.normal.NormalStmtKind.{NormalStmtKind}
use Rattle.c_ast.specs.declared.normal.NormalStmtKind.TheVariants as normal
use Rattle.c_meaning.specs.declared.profile.Profile.{Profile}
use Rattle.c_meaning.specs.Stores.{Objects}
use Rattle.c_meaning.specs.Statements.{object_type, step_operator}
use Rattle.c_meaning.specs.Lawful.{IsElement, IsVar, IsObject, AreOperands, LawfulExpr, LawfulOption, LawfulReturn, LawfulDeclaration, LawfulStmt, LawfulStmtHeld, LawfulStmts, LawfulNormalExpr, LawfulNormalStmt, object_vars, stmt_vars_of, stmt_vars_held, stmt_vars_row, all_vars, normal_vars_of, all_normal_vars}
use Rattle.c_meaning.specs.Quiet.{Quiet}
use Rattle.c_meaning.specs.PartLaws.{IfAny, LawfulNormalAt, QuietAt, IsEmptyWithout, normal_vars_if_any}
use Rattle.c_meaning.proofs.TypeLemmas.{usual_self, operands_are}
use Rattle.c_meaning.proofs.PartsOfLawful.{lawful_number, lawful_variable, lawful_element, lawful_cast, lawful_binary, outside_number, outside_variable, outside_element, outside_cast, outside_binary, normal_block, normal_declaration, normal_assignment, normal_choice, normal_while_loop, normal_do_loop, normal_for_loop, normal_leaving, normal_continuing, normal_returning, normal_empty, quiet_block, quiet_declaration, quiet_assignment, quiet_choice, quiet_while_loop, quiet_do_loop, quiet_for_loop, quiet_leaving, quiet_continuing, quiet_returning, quiet_empty}
use Rattle.c_meaning.proofs.PartsOfNumbers.{normal_vars_block, normal_vars_declaration, normal_vars_assignment, normal_vars_choice, normal_vars_while_loop, normal_vars_do_loop, normal_vars_for_loop, normal_vars_leaving, normal_vars_continuing, normal_vars_returning, normal_vars_empty}
use Rattle.c_meaning.proofs.StoreParts.{Keeps, keeps_append, Sets, sets_none, sets_then, array_type_is}
use Rattle.c_meaning.proofs.RangeOperators.{zero_in}
use Rattle.c_norm.specs.Expand.{Out, Outs, whole, decided_by, expand_expr, rest_of, expand_all, set_all}
use Rattle.c_norm.specs.Forms.{Made, normal_at, block_of, optional, rest_if_any, object_kind, cast_to, new_value, target_with, compound, assignment_form, step_form, MadeIfAny, form_of, held_form, row_form, all_forms}
use Rattle.c_norm.proofs.Meanings.{wide, Room, room_left, room_right}
use Rattle.c_norm.proofs.LawfulExprs.{keeps_left, keeps_right, keeps_to, normal_vars_append, sides_free, one_in, Settles, all_lawful, all_quiet, append_settles, append_sets, LawfulOut, LawfulOuts, expansion_lawful, all_expansions, set_expansions}

-- ---- types of operands

left_is_joint : (op : Binary) (t u : Ty) → decided_by op ≡ None → left_type op t u ≡ joint_type op t u
left_is_joint Both t u d = absurd (cc)
left_is_joint Either t u d = absurd (cc)
left_is_joint op t u d = refl

-- the old value is converted to the joint type, and the other operand has its type already
joint_operands : (op : Binary) (t u : Ty) → u ≡ right_type op t u → decided_by op ≡ None → AreOperands op (joint_type op t u) u (result_type op (joint_type op t u))
joint_operands op t u e d =
    let r = result_type op (joint_type op t u) in
    subst (λ b. AreOperands op (joint_type op t u) b r) (sym e) (subst (λ a. AreOperands op a (right_type op t u) r) (left_is_joint op t u d) (operands_are op t u))

step_operands : (up : Bool) (t : Ty) → AreOperands (step_operator up) (joint_type (step_operator up) t I32) (joint_type (step_operator up) t I32) (result_type (step_operator up) (joint_type (step_operator up) t I32))
step_operands true t = (sym (usual_self t I32), sym (usual_self t I32), sym (usual_self t I32))
step_operands false t = (sym (usual_self t I32), sym (usual_self t I32), sym (usual_self t I32))

returned : (E : TypedExpr → Type 0) (r : Option Ty) (e : TypedExpr) → LawfulReturn E r (Some e) → E e
returned E None e h = absurd h
returned E (Some t) e h = h.1

returns_as : (E F : TypedExpr → Type 0) (r : Option Ty) (e e2 : TypedExpr) → LawfulReturn E r (Some e) → e2.ty ≡ e.ty → F e2 → LawfulReturn F r (Some e2)
returns_as E F None e e2 h q i = absurd h
returns_as E F (Some t) e e2 h q i = (q ∙ h.0, i)

returns_nothing : (E F : TypedExpr → Type 0) (r : Option Ty) → LawfulReturn E r None → LawfulReturn F r None
returns_nothing E F None h = tt
returns_nothing E F (Some t) h = absurd h

module _ (k : Objects) (ws : List Ty) (own : (v : ℕ) (t : Ty) → IsVar k v t → slice_get ws v ≡ Some t) (base : Profile) (result : Option Ty) where
  abbrev k2 : Objects
  k2 = wide k ws

  -- the kernel's objects under whatever profile: the form asks for types alone
  abbrev k0 : Objects
  k0 = record { profile = base; vars = k.vars; arrays = k.arrays }

  abbrev AllSettle : List NormalStmt → Type 0
  AllSettle ss = All (Settles k ws own) ss

  abbrev Normal : TypedExpr → Type 0
  Normal = LawfulNormalExpr k2

  -- ---- what is made

  -- what is made, in a loop or not, for a statement that declares or assigns some variables; those that are made begin at f
  pub record LawfulMade (l : Bool) (f : ℕ) (old : List ℕ) (stmts : List NormalStmt) (types : List Ty) : Type 0 where
    pub lawful : All (LawfulNormalAt k2 result l) stmts
    pub quiet : All (QuietAt true) stmts
    pub kept : Keeps old (all_normal_vars stmts)
    pub sets : Sets f (f + length types) (all_normal_vars stmts)

  record LawfulHeld (l : Bool) (f : ℕ) (old : List ℕ) (o : MadeIfAny) : Type 0 where
    lawful : IfAny (LawfulNormalAt k2 result l) o.stmt
    quiet : IfAny (QuietAt true) o.stmt
    kept : Keeps old (normal_vars_if_any o.stmt)
    sets : Sets f (f + length o.types) (normal_vars_if_any o.stmt)

  record LawfulOptional (f : ℕ) (o : Out) (rest : Option TypedExpr) : Type 0 where
    settles : AllSettle o.before
    sets : Sets f (f + length o.types) (all_normal_vars o.before)
    lawful : LawfulOption Normal rest
    empty : IsEmptyWithout rest o.before

  -- one statement, which sets the variables us
  one_lawful : (l : Bool) (f g : ℕ) (old us : List ℕ) (kind : NormalStmtKind) (at : Span) (types : List Ty) → LawfulNormalStmt k2 result l kind → Quiet true kind → normal_vars_of kind ≡ us → Keeps old us → Sets f g us → f + length types ≤ g → LawfulMade l f old (normal_at kind at ∷ []) types
  one_lawful l f g old us kind at types h q e kept sets le =
      let x = normal_at kind at in
      record {
        lawful = All-cons (LawfulNormalAt k2 result l) x [] h (All-nil (LawfulNormalAt k2 result l));
        quiet = All-cons (QuietAt true) x [] q (All-nil (QuietAt true));
        kept = keeps_to old (us ++ []) (normal_vars_of kind ++ []) (ap (λ vs. vs ++ []) (sym e)) (keeps_left old us [] kept);
        sets = λ v a b. subst (λ vs. Contains (vs ++ []) v) (sym e) (Contains-append_left us [] v (sets v a (omega arith)));
      }

  append_lawful : (l : Bool) (f : ℕ) (old old2 : List ℕ) (xs ys : List NormalStmt) (ts us : List Ty) → LawfulMade l f old xs ts → LawfulMade l (f + length ts) old2 ys us → LawfulMade l f (old ++ old2) (xs ++ ys) (ts ++ us)
  append_lawful l f old old2 xs ys ts us h i = record {
    lawful = All-append (LawfulNormalAt k2 result l) xs ys h.lawful i.lawful;
    quiet = All-append (QuietAt true) xs ys h.quiet i.quiet;
    kept = keeps_to (old ++ old2) (all_normal_vars xs ++ all_normal_vars ys) (all_normal_vars (xs ++ ys)) (sym (normal_vars_append xs ys)) (keeps_append old old2 (all_normal_vars xs) (all_normal_vars ys) h.kept i.kept);
    sets = append_sets k ws own f ts us xs ys h.sets i.sets;
  }

  none_lawful : (l : Bool) (f : ℕ) → LawfulMade l f [] [] []
  none_lawful l f = record { lawful = All-nil (LawfulNormalAt k2 result l); quiet = All-nil (QuietAt true); kept = λ v c. c; sets = sets_none f (f + 0) [] (omega arith) }

  -- settings, and then one statement that makes no variable
  made_lawful : (l : Bool) (f : ℕ) (old : List ℕ) (before : List NormalStmt) (kind : NormalStmtKind) (at : Span) (types : List Ty) → AllSettle before → Sets f (f + length types) (all_normal_vars before) → LawfulNormalStmt k2 result l kind → Quiet true kind → Keeps old (normal_vars_of kind)
      → LawfulMade l f old (before ++ normal_at kind at ∷ []) types
  made_lawful l f old before kind at types settles sets h q kept =
      let x = normal_at kind at in
      let rest = normal_vars_of kind ++ [] in
      let vars : all_normal_vars before ++ rest ≡ all_normal_vars (before ++ x ∷ []) = sym (normal_vars_append before (x ∷ [])) in
      record {
        lawful = All-append (LawfulNormalAt k2 result l) before (x ∷ []) (all_lawful k ws own before settles result l) (All-cons (LawfulNormalAt k2 result l) x [] h (All-nil (LawfulNormalAt k2 result l)));
        quiet = All-append (QuietAt true) before (x ∷ []) (all_quiet k ws own before settles true) (All-cons (QuietAt true) x [] q (All-nil (QuietAt true)));
        kept = keeps_to old (all_normal_vars before ++ rest) (all_normal_vars (before ++ x ∷ [])) vars (keeps_right old (all_normal_vars before) rest (keeps_left old (normal_vars_of kind) [] kept));
        sets = λ v a b. subst (λ z. Contains z v) vars (Contains-append_left (all_normal_vars before) rest v (sets v a b));
      }

  -- ---- expressions

  expr_lawful : (f : ℕ) (e : TypedExpr) → LawfulExpr k e → Room ws f (expand_expr f e).types → LawfulOut k ws own f e.kind e.ty (expand_expr f e)
  expr_lawful f e h room = expansion_lawful k ws own e.kind e.ty e.at f h room

  option_lawful : (f : ℕ) (e : Option TypedExpr) → LawfulOption (LawfulExpr k) e → Room ws f (optional f e).types → LawfulOptional f (optional f e) (rest_if_any (optional f e) e)
  option_lawful f None h room = record { settles = All-nil (Settles k ws own); sets = sets_none f (f + 0) [] (omega arith); lawful = tt; empty = refl }
  option_lawful f (Some e) h room = let x = expr_lawful f e h room in record { settles = x.settles; sets = x.sets; lawful = (x.lawful, x.outside); empty = tt }

  all_normal : (f n : ℕ) (o : Outs) → LawfulOuts k ws own f n o → All Normal o.exprs
  all_normal f n o h i d lt = (h.lawful i d lt, h.outside i d lt)

  -- ---- assignments

  object_widened : (to : Object) (n m : ℕ) (t : Ty) → m ≡ n → IsObject k to n t → IsObject k2 to m t
  object_widened (object.Var v) n m t e h = (own v t h.0, e ∙ h.1)
  object_widened (object.Array a) n m t e h = subst (λ i. IsElement k a i t) (sym e) h

  object_type_is : (to : Object) (n : ℕ) (t : Ty) → IsObject k to n t → object_type k0 to ≡ t
  object_type_is (object.Var v) n t h = get_or_from_slice_get k.vars v t I32 h.0
  object_type_is (object.Array a) n t h = array_type_is k.arrays a h.0 h.1 ∙ h.2

  old_lawful : (to : Object) (exprs : List TypedExpr) (t : Ty) (at : Span) → IsObject k2 to (length exprs) t → All Normal exprs → Normal (of_type (object_kind to exprs) t at)
  old_lawful (object.Var v) exprs t at h i = ((lawful_variable v k2 t).1 h.0, (outside_variable v).1 tt)
  old_lawful (object.Array a) exprs t at h i = ((lawful_element a exprs k2 t).1 (h, λ n d lt. (i n d lt).0), (outside_element a exprs).1 (λ n d lt. (i n d lt).1))

  no_implied : {A : Type 0} → false ≡ true → A
  no_implied e = absurd (cc)

  written_cast : (t : Ty) (e : TypedExpr) → Normal e → Normal (cast_to t e)
  written_cast t e h = ((lawful_cast false e k2 t).1 (λ q. no_implied q, h.0), (outside_cast false e).1 h.1)

  new_lawful : (op : Binary) (d : Option Bool) (t j : Ty) (old e : TypedExpr) (s : Span) → decided_by op ≡ d → (decided_by op ≡ None → AreOperands op j e.ty (result_type op j)) → Normal old → Normal e → Normal (new_value d op t j old e s)
  new_lawful op None t j old e s q ops ho he =
      let c = cast_to j old in
      let b = of_type (expr.Binary op c e) (result_type op j) s in
      let hc = written_cast j old ho in
      written_cast t b ((lawful_binary op c e k2 (result_type op j)).1 (ops q, hc.0, he.0), (outside_binary op c e).1 (sides_free op c.kind e.kind q, hc.1, he.1))
  new_lawful op (Some d) t j old e s q ops ho he = ((lawful_number 0 k2 t).1 (zero_in t), (outside_number 0).1 tt)

  assigned_vars : (target : TypedTarget) (e : TypedExpr) (old : List ℕ) → old ≡ object_vars target.to → Keeps old (normal_vars_of (normal.Assign target e))
  assigned_vars target e old q = keeps_to old old (normal_vars_of (normal.Assign target e)) (q ∙ sym (normal_vars_assignment target e)) (λ v c. c)

  assign_lawful : (l : Bool) (f : ℕ) (i : Outs) (o : Out) (target : TypedTarget) (t : Ty) (e : TypedExpr) (s : Span) → LawfulOuts k ws own f (length target.indices) i → AllSettle o.before → Sets (f + length i.types) (f + length i.types + length o.types) (all_normal_vars o.before)
      → IsObject k target.to (length target.indices) t → e.ty ≡ t → Normal e → LawfulMade l f (object_vars target.to) (i.before ++ o.before ++ normal_at (normal.Assign (target_with target i.exprs) e) s ∷ []) (i.types ++ o.types)
  assign_lawful l f i o target t e s hi settles sets is ty he =
      let to = target_with target i.exprs in
      made_lawful l f (object_vars target.to) (i.before ++ o.before) (normal.Assign to e) s (i.types ++ o.types) (append_settles k ws own i.before o.before hi.settles settles) (append_sets k ws own f i.types o.types i.before o.before hi.sets sets)
      ((normal_assignment to e k2 result l).1 (t, (object_widened target.to (length target.indices) (length i.exprs) t hi.long is, all_normal f (length target.indices) i hi), ty, he)) ((quiet_assignment to e true).1 tt) (assigned_vars to e (object_vars target.to) refl)

  plain_lawful : (l : Bool) (f : ℕ) (target : TypedTarget) (e : TypedExpr) (s : Span) → LawfulStmt k result l (tree.Assign target None e) → Room ws f (assignment_form k0 f target None e s).types
      → LawfulMade l f (object_vars target.to) (assignment_form k0 f target None e s).stmts (assignment_form k0 f target None e s).types
  plain_lawful l f target e s h room =
      let i = expand_all f target.indices in
      let g = f + length i.types in
      let o = expand_expr g e in
      let x = all_expansions k ws own target.indices f h.1.1 (room_left ws f i.types o.types room) in
      let y = expr_lawful g e h.3 (room_right ws f i.types o.types room) in
      assign_lawful l f i o target h.0 (rest_of o e) s x y.settles y.sets h.1.0 h.2 (y.lawful, y.outside)

  compound_lawful : (l : Bool) (f : ℕ) (target : TypedTarget) (op : Binary) (t t0 j : Ty) (o : Out) (e : TypedExpr) (s : Span) → IsObject k target.to (length target.indices) t → t0 ≡ t → All (LawfulExpr k) target.indices → (decided_by op ≡ None → AreOperands op j e.ty (result_type op j))
      → Normal (rest_of o e) → AllSettle o.before → (let i = set_all f target.indices in Sets (f + length i.types) (f + length i.types + length o.types) (all_normal_vars o.before)) → Room ws f (set_all f target.indices).types
      → LawfulMade l f (object_vars target.to) (compound (set_all f target.indices) target op t0 j o e s).stmts (compound (set_all f target.indices) target op t0 j o e s).types
  compound_lawful l f target op t t0 j o e s is same hi ops he settles sets room =
      let i = set_all f target.indices in
      let x = set_expansions k ws own target.indices f hi room in
      let all = all_normal f (length target.indices) i x in
      let old = old_lawful target.to i.exprs t0 target.at (object_widened target.to (length target.indices) (length i.exprs) t0 x.long (subst (λ u. IsObject k target.to (length target.indices) u) (sym same) is)) all in
      let new = new_value (decided_by op) op t0 j (of_type (object_kind target.to i.exprs) t0 target.at) (rest_of o e) s in
      let n = new_lawful op (decided_by op) t0 j (of_type (object_kind target.to i.exprs) t0 target.at) (rest_of o e) s refl ops old he in
      assign_lawful l f i o target t new s x settles sets is (new_type (decided_by op) op t0 j (of_type (object_kind target.to i.exprs) t0 target.at) (rest_of o e) s ∙ same) n
    where
      new_type : (d : Option Bool) (op : Binary) (t j : Ty) (old e : TypedExpr) (s : Span) → (new_value d op t j old e s).ty ≡ t
      new_type None op t j old e s = refl
      new_type (Some d) op t j old e s = refl

  assignment_lawful : (l : Bool) (f : ℕ) (target : TypedTarget) (op : Option Binary) (e : TypedExpr) (s : Span) → LawfulStmt k result l (tree.Assign target op e) → Room ws f (assignment_form k0 f target op e s).types
      → LawfulMade l f (object_vars target.to) (assignment_form k0 f target op e s).stmts (assignment_form k0 f target op e s).types
  assignment_lawful l f target None e s h room = plain_lawful l f target e s h room
  assignment_lawful l f target (Some op) e s h room =
      let i = set_all f target.indices in
      let g = f + length i.types in
      let o = expand_expr g e in
      let t0 = object_type k0 target.to in
      let same = object_type_is target.to (length target.indices) h.0 h.1.0 in
      let y = expr_lawful g e h.3 (room_right ws f i.types o.types room) in
      compound_lawful l f target op h.0 t0 (joint_type op t0 e.ty) o e s h.1.0 same h.1.1 (joint_operands op t0 e.ty (subst (λ t. e.ty ≡ right_type op t e.ty) (sym same) h.2)) (y.lawful, y.outside) y.settles y.sets (room_left ws f i.types o.types room)

  step_lawful : (l : Bool) (f : ℕ) (target : TypedTarget) (up : Bool) (s : Span) → LawfulStmt k result l (tree.Step target up) → Room ws f (step_form k0 f target (step_operator up) s).types
      → LawfulMade l f (object_vars target.to) (step_form k0 f target (step_operator up) s).stmts (step_form k0 f target (step_operator up) s).types
  step_lawful l f target up s h room =
      let i = set_all f target.indices in
      let t0 = object_type k0 target.to in
      let j = joint_type (step_operator up) t0 I32 in
      let e = of_type (expr.Number 1) j s in
      let g = f + length i.types in
      compound_lawful l f target (step_operator up) h.0 t0 j (whole (expr.Number 1)) e s h.1.0 (object_type_is target.to (length target.indices) h.0 h.1.0) h.1.1 (λ q. step_operands up t0) ((lawful_number 1 k2 j).1 (one_in j), (outside_number 1).1 tt)
      (All-nil (Settles k ws own)) (sets_none g (g + 0) [] (omega arith)) (room_left ws f i.types [] room)

  -- ---- statements with parts

  -- a block of what is made
  part_lawful : (l : Bool) (f : ℕ) (old : List ℕ) (y : Made) (at : Span) → LawfulMade l f old y.stmts y.types → LawfulHeld l f old (record { stmt = Some (block_of y at); types = y.types })
  part_lawful l f old y at h = record {
    lawful = (normal_block y.stmts k2 result l).1 h.lawful;
    quiet = (quiet_block y.stmts true).1 h.quiet;
    kept = keeps_to old (all_normal_vars y.stmts) (normal_vars_of (block_of y at).kind) (sym (normal_vars_block y.stmts)) h.kept;
    sets = λ v a b. subst (λ z. Contains z v) (sym (normal_vars_block y.stmts)) (h.sets v a b);
  }

  -- ---- simple statements

  declare_lawful : (l : Bool) (f v : ℕ) (e : Option TypedExpr) (s : Span) → LawfulDeclaration k (LawfulExpr k) v e → LawfulOption (LawfulExpr k) e → Room ws f (optional f e).types → LawfulMade l f (v ∷ []) (form_of k0 f (tree.Declare v e) s).stmts (form_of k0 f (tree.Declare v e) s).types
  declare_lawful l f v e s h he room =
      let o = optional f e in
      let rest = rest_if_any o e in
      let x = option_lawful f e he room in
      made_lawful l f (v ∷ []) o.before (normal.Declare v rest) s o.types x.settles x.sets ((normal_declaration v rest k2 result l).1 (declared e h x.lawful)) ((quiet_declaration v rest true).1 tt)
      (keeps_to (v ∷ []) (v ∷ []) (normal_vars_of (normal.Declare v rest)) (sym (normal_vars_declaration v rest)) (λ u c. c))
    where
      declared : (e : Option TypedExpr) → LawfulDeclaration k (LawfulExpr k) v e → LawfulOption Normal (rest_if_any (optional f e) e) → LawfulDeclaration k2 Normal v (rest_if_any (optional f e) e)
      declared None h i = (h.0, own v h.0 h.1)
      declared (Some e) h i = (own v e.ty h.0, i)

  return_lawful : (l : Bool) (f : ℕ) (e : Option TypedExpr) (s : Span) → LawfulReturn (LawfulExpr k) result e → LawfulOption (LawfulExpr k) e → Room ws f (optional f e).types → LawfulMade l f [] (form_of k0 f (tree.Return e) s).stmts (form_of k0 f (tree.Return e) s).types
  return_lawful l f e s h he room =
      let o = optional f e in
      let rest = rest_if_any o e in
      let x = option_lawful f e he room in
      made_lawful l f [] o.before (normal.Return rest) s o.types x.settles x.sets ((normal_returning rest k2 result l).1 (returns e h x.lawful)) ((quiet_returning rest true).1 refl) (keeps_to [] [] (normal_vars_of (normal.Return rest)) (sym (normal_vars_returning rest)) (λ u c. c))
    where
      returns : (e : Option TypedExpr) → LawfulReturn (LawfulExpr k) result e → LawfulOption Normal (rest_if_any (optional f e) e) → LawfulReturn Normal result (rest_if_any (optional f e) e)
      returns None h i = returns_nothing (LawfulExpr k) Normal result h
      returns (Some e) h i = returns_as (LawfulExpr k) Normal result e (rest_of (expand_expr f e) e) h refl i

  mutual
    pub stmt_lawful : (x : TypedStmtKind) (l : Bool) (s : Span) (f : ℕ) → LawfulStmt k result l x → Room ws f (form_of k0 f x s).types → LawfulMade l f (stmt_vars_of x) (form_of k0 f x s).stmts (form_of k0 f x s).types
    stmt_lawful (tree.Block' n row) l s f h room =
        let b = row_form k0 f row in
        let x = stmts_lawful row l f h room in
        let old = stmt_vars_row row in
        one_lawful l f (f + length b.types) old (all_normal_vars b.stmts) (normal.Block b.stmts) s b.types ((normal_block b.stmts k2 result l).1 x.lawful) ((quiet_block b.stmts true).1 x.quiet) (normal_vars_block b.stmts) x.kept x.sets (omega arith)
    stmt_lawful (tree.Declare v None) l s f h room = declare_lawful l f v None s h tt room
    stmt_lawful (tree.Declare v (Some e)) l s f h room = declare_lawful l f v (Some e) s h h.1 room
    stmt_lawful (tree.Assign target op e) l s f h room = assignment_lawful l f target op e s h room
    stmt_lawful (tree.Step target up) l s f h room = step_lawful l f target up s h room
    stmt_lawful (tree.If' cond b (more_of-TypedStmt x at end_of-TypedStmt) o) l s f h room =
        let c = expand_expr f cond in
        let g = f + length c.types in
        let y = form_of k0 g x at in
        let g2 = g + length y.types in
        let n = held_form k0 g2 o in
        let tail = room_right ws f c.types (y.types ++ n.types) room in
        let hc = expr_lawful f cond h.0 (room_left ws f c.types (y.types ++ n.types) room) in
        let hy = part_lawful l g (stmt_vars_of x) y at (stmt_lawful x l at g h.1 (room_left ws g y.types n.types tail)) in
        let ho = held_lawful o l g2 h.2 (room_right ws g y.types n.types tail) in
        let rest = rest_of c cond in
        let a = all_normal_vars c.before in
        let b = normal_vars_of (block_of y at).kind in
        let d = normal_vars_if_any n.stmt in
        let p = length-append c.types (y.types ++ n.types) in
        let q = length-append y.types n.types in
        one_lawful l f (g2 + length n.types) (stmt_vars_of x ++ stmt_vars_held o) (a ++ b ++ d) (normal.If c.before rest (block_of y at) n.stmt) s (c.types ++ (y.types ++ n.types))
        ((normal_choice c.before rest (block_of y at) n.stmt k2 result l).1 (all_lawful k ws own c.before hc.settles result l, (hc.lawful, hc.outside), hy.lawful, ho.lawful))
        ((quiet_choice c.before rest (block_of y at) n.stmt true).1 (all_quiet k ws own c.before hc.settles true, hy.quiet, ho.quiet)) (normal_vars_choice c.before rest (block_of y at) n.stmt)
        (keeps_append (stmt_vars_of x) (stmt_vars_held o) (a ++ b) d (keeps_right (stmt_vars_of x) a b hy.kept) ho.kept) (sets_then f g2 (g2 + length n.types) (a ++ b) d (sets_then f g g2 a b hc.sets hy.sets) ho.sets) (omega arith)
    stmt_lawful (tree.While' cond b (more_of-TypedStmt x at end_of-TypedStmt)) l s f h room =
        let c = expand_expr f cond in
        let g = f + length c.types in
        let y = form_of k0 g x at in
        let hc = expr_lawful f cond h.0 (room_left ws f c.types y.types room) in
        let hy = part_lawful true g (stmt_vars_of x) y at (stmt_lawful x true at g h.1 (room_right ws f c.types y.types room)) in
        let rest = rest_of c cond in
        let a = all_normal_vars c.before in
        let b = normal_vars_of (block_of y at).kind in
        let p = length-append c.types y.types in
        one_lawful l f (g + length y.types) (stmt_vars_of x) (a ++ b) (normal.While c.before rest (block_of y at)) s (c.types ++ y.types)
        ((normal_while_loop c.before rest (block_of y at) k2 result l).1 (all_lawful k ws own c.before hc.settles result false, (hc.lawful, hc.outside), hy.lawful))
        ((quiet_while_loop c.before rest (block_of y at) true).1 (all_quiet k ws own c.before hc.settles false, hy.quiet)) (normal_vars_while_loop c.before rest (block_of y at))
        (keeps_right (stmt_vars_of x) a b hy.kept) (sets_then f g (g + length y.types) a b hc.sets hy.sets) (omega arith)
    stmt_lawful (tree.DoWhile' b (more_of-TypedStmt x at end_of-TypedStmt) cond) l s f h room =
        let y = form_of k0 f x at in
        let g = f + length y.types in
        let c = expand_expr g cond in
        let hy = part_lawful true f (stmt_vars_of x) y at (stmt_lawful x true at f h.0 (room_left ws f y.types c.types room)) in
        let hc = expr_lawful g cond h.1 (room_right ws f y.types c.types room) in
        let rest = rest_of c cond in
        let a = normal_vars_of (block_of y at).kind in
        let b = all_normal_vars c.before in
        let p = length-append y.types c.types in
        one_lawful l f (g + length c.types) (stmt_vars_of x) (a ++ b) (normal.DoWhile (block_of y at) c.before rest) s (y.types ++ c.types)
        ((normal_do_loop (block_of y at) c.before rest k2 result l).1 (hy.lawful, all_lawful k ws own c.before hc.settles result false, (hc.lawful, hc.outside)))
        ((quiet_do_loop (block_of y at) c.before rest true).1 (hy.quiet, all_quiet k ws own c.before hc.settles false)) (normal_vars_do_loop (block_of y at) c.before rest)
        (keeps_left (stmt_vars_of x) a b hy.kept) (sets_then f g (g + length c.types) a b hy.sets hc.sets) (omega arith)
    stmt_lawful (tree.For' n first cond o b (more_of-TypedStmt x at end_of-TypedStmt)) l s f h room =
        let i = row_form k0 f first in
        let g = f + length i.types in
        let c = optional g cond in
        let g2 = g + length c.types in
        let p = held_form k0 g2 o in
        let g3 = g2 + length p.types in
        let y = form_of k0 g3 x at in
        let end = g3 + length y.types in
        let tail = room_right ws f i.types (c.types ++ (p.types ++ y.types)) room in
        let tail2 = room_right ws g c.types (p.types ++ y.types) tail in
        let hi = stmts_lawful first false f h.0 (room_left ws f i.types (c.types ++ (p.types ++ y.types)) room) in
        let hc = option_lawful g cond h.1 (room_left ws g c.types (p.types ++ y.types) tail) in
        let ho = held_lawful o false g2 h.2 (room_left ws g2 p.types y.types tail2) in
        let hy = part_lawful true g3 (stmt_vars_of x) y at (stmt_lawful x true at g3 h.3 (room_right ws g2 p.types y.types tail2)) in
        let rest = rest_if_any c cond in
        let old = stmt_vars_row first ++ stmt_vars_held o in
        let a = all_normal_vars i.stmts in
        let b = all_normal_vars c.before in
        let d = normal_vars_if_any p.stmt in
        let e = normal_vars_of (block_of y at).kind in
        let r = length-append i.types (c.types ++ (p.types ++ y.types)) in
        let q = length-append c.types (p.types ++ y.types) in
        let u = length-append p.types y.types in
        one_lawful l f end (old ++ stmt_vars_of x) (a ++ b ++ d ++ e) (normal.For i.stmts c.before rest p.stmt (block_of y at)) s (i.types ++ (c.types ++ (p.types ++ y.types)))
        ((normal_for_loop i.stmts c.before rest p.stmt (block_of y at) k2 result l).1 (hi.lawful, all_lawful k ws own c.before hc.settles result false, hc.lawful, hc.empty, ho.lawful, hy.lawful))
        ((quiet_for_loop i.stmts c.before rest p.stmt (block_of y at) true).1 (hi.quiet, all_quiet k ws own c.before hc.settles false, ho.quiet, hy.quiet)) (normal_vars_for_loop i.stmts c.before rest p.stmt (block_of y at))
        (keeps_append old (stmt_vars_of x) (a ++ b ++ d) e (keeps_append (stmt_vars_row first) (stmt_vars_held o) (a ++ b) d (keeps_left (stmt_vars_row first) a b hi.kept) ho.kept) hy.kept)
        (sets_then f g3 end (a ++ b ++ d) e (sets_then f g2 g3 (a ++ b) d (sets_then f g g2 a b hi.sets hc.sets) ho.sets) hy.sets) (omega arith)
    stmt_lawful tree.Break l s f h room =
        one_lawful l f f [] [] normal.Break s [] ((normal_leaving k2 result l).1 h) ((quiet_leaving true).1 tt) normal_vars_leaving (λ u c. c) (sets_none f f [] (omega arith)) (omega arith)
    stmt_lawful tree.Continue l s f h room =
        one_lawful l f f [] [] normal.Continue s [] ((normal_continuing k2 result l).1 h) ((quiet_continuing true).1 tt) normal_vars_continuing (λ u c. c) (sets_none f f [] (omega arith)) (omega arith)
    stmt_lawful (tree.Return None) l s f h room = return_lawful l f None s h tt room
    stmt_lawful (tree.Return (Some e)) l s f h room = return_lawful l f (Some e) s h (returned (LawfulExpr k) result e h) room
    stmt_lawful tree.Empty l s f h room =
        one_lawful l f f [] [] normal.Empty s [] ((normal_empty k2 result l).1 tt) ((quiet_empty true).1 tt) normal_vars_empty (λ u c. c) (sets_none f f [] (omega arith)) (omega arith)

    held_lawful : (o : Held-TypedStmtKind-If-2) (l : Bool) (f : ℕ) → LawfulStmtHeld k result l o → Room ws f (held_form k0 f o).types → LawfulHeld l f (stmt_vars_held o) (held_form k0 f o)
    held_lawful tree.None' l f h room = record { lawful = tt; quiet = tt; kept = λ v c. c; sets = sets_none f (f + 0) [] (omega arith) }
    held_lawful (tree.Some' b (more_of-TypedStmt x at end_of-TypedStmt)) l f h room =
        part_lawful l f (stmt_vars_of x) (form_of k0 f x at) at (stmt_lawful x l at f h room)

    stmts_lawful : {n : Count} (row : Row_of-TypedStmt n) (l : Bool) (f : ℕ) → LawfulStmts k result l row → Room ws f (row_form k0 f row).types → LawfulMade l f (stmt_vars_row row) (row_form k0 f row).stmts (row_form k0 f row).types
    stmts_lawful end_of-TypedStmt l f h room = none_lawful l f
    stmts_lawful (more_of-TypedStmt x at row) l f h room =
        let y = form_of k0 f x at in
        let g = f + length y.types in
        let r = row_form k0 g row in
        append_lawful l f (stmt_vars_of x) (stmt_vars_row row) y.stmts r.stmts y.types r.types (stmt_lawful x l at f h.0 (room_left ws f y.types r.types room)) (stmts_lawful row l g h.1 (room_right ws f y.types r.types room))

  -- the statements of a kernel's block
  pub body_lawful : (xs : List TypedStmt) (f : ℕ) → All (λ x. LawfulStmt k result false x.kind) xs → Room ws f (all_forms k0 f xs).types → LawfulMade false f (all_vars xs) (all_forms k0 f xs).stmts (all_forms k0 f xs).types
  body_lawful [] f h room = none_lawful false f
  body_lawful (x ∷ xs) f h room =
      let y = form_of k0 f x.kind x.at in
      let g = f + length y.types in
      let r = all_forms k0 g xs in
      append_lawful false f (stmt_vars_of x.kind) (all_vars xs) y.stmts r.stmts y.types r.types (stmt_lawful x.kind false x.at f (All-head (λ x. LawfulStmt k result false x.kind) x xs h) (room_left ws f y.types r.types room))
      (body_lawful xs g (All-tail (λ x. LawfulStmt k result false x.kind) x xs h) (room_right ws f y.types r.types room))
