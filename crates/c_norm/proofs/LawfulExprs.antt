-- The expansion of a lawful expression is lawful: what is set before it, what is left of it, and each variable that is made is set.
use Rattle.std.proofs.Common.{◌≡◌, ℕ, ◌+◌, ◌≤◌, List, [], ◌∷◌, ◌++◌, length, Option, Some, None, refl, sym, ◌∙◌, ap, subst, inl, inr, arith, length-append, append_assoc, rules}
use Rattle.std.specs.Prelude.{Bool, true, false, pos, All, Contains, slice_get, ◌==◌}
use Rattle.std.proofs.lemmas.Bool.{cases_lt, eqb-true}
use Rattle.std.proofs.lemmas.List.Elements.{All-nil, All-cons, All-head, All-tail, All-append, Contains-append_left, Contains-append_right}
use Rattle.std.proofs.lemmas.Option.{slice_get-get_or}
use denote.Hole.Carrier.{hidden}
use mathlib.Core.Former.{Count}
use Rattle.el_base.specs.declared.span.Span.{Span}
use Rattle.el_base.specs.declared.ty.Ty.{Ty}
use Rattle.el_base.specs.declared.ty.Ty.TheVariants.{I8, I32}
use Rattle.el_base.specs.Numbers.{IsInRange}
use Rattle.c_ast.specs.Casts.{of_type}
use Rattle.c_ast.specs.ResultTypes.{joint_type}
use Rattle.c_ast.specs.declared.tree.Binary.{Binary}
use Rattle.c_ast.specs.declared.tree.Binary.TheVariants.{Both, Either}
use Rattle.c_ast.specs.declared.typed.Object.TheVariants as object
use Rattle.c_ast.specs.declared.typed.TypedTarget.{TypedTarget}
use Rattle.c_ast.specs.declared.typed.TypedExpr.{TypedExpr}
use Rattle.c_ast.specs.declared.typed.TypedExprKind.{TypedExprKind, Row_of-TypedExpr, end_of-TypedExpr, more_of-TypedExpr}
use Rattle.c_ast.specs.declared.typed.TypedExprKind as tree
use Rattle.c_ast.specs.declared.typed.TypedExprKind.TheVariants as expr
use Rattle.c_ast.specs.declared.typed.TypedExprKind.TheBlock.{shape-the_row-TypedExpr-0, hidden-the_row-TypedExpr-0, shape-the_row-TypedExpr-1, hidden-the_row-TypedExpr-1}
use Rattle.c_ast.specs.declared.normal.NormalStmt.{NormalStmt}
use Rattle.c_meaning.specs.declared.profile.Profile.TheVariants.{Plain}
use Rattle.c_meaning.specs.Stores.{Objects}
use Rattle.c_meaning.specs.Lawful.{IsElement, IsVar, AreOperands, AreSides, row_length, is_implied, LawfulKind, LawfulRow, LawfulExpr, LawfulNormalExpr, ReadsNone, both_or_either, SidesReadNone, ReadsOutside, normal_vars_of, all_normal_vars}
use Rattle.c_meaning.specs.Sizes.{reads}
use Rattle.c_meaning.specs.PartLaws.{LawfulNormalAt, QuietAt}
use Rattle.c_meaning.proofs.PartsOfLawful.{lawful_number, lawful_variable, lawful_element, lawful_unary, lawful_cast, lawful_binary, lawful_choice, none_number, outside_number, outside_variable, outside_element, outside_unary, outside_cast, outside_binary, outside_choice, normal_block, normal_assignment, normal_choice, quiet_block, quiet_assignment, quiet_choice}
use Rattle.c_meaning.proofs.PartsOfNumbers.{normal_vars_block, normal_vars_assignment, normal_vars_choice}
use Rattle.c_meaning.proofs.StoreParts.{Keeps, Sets, sets_none, sets_then, sets_to}
use Rattle.c_meaning.proofs.RangeOperators.{zero_in}
use Rattle.c_meaning.proofs.ReadLemmas.{sides_none}
use Rattle.c_norm.specs.Expand.{Out, Outs, whole, setting, constant, truth_of, side, choice, decided_by, joined_out, logical_out, binary_out, choose_out, expand, expand_row, expand_expr, rest_of, expand_all, set_all}
use Rattle.c_norm.proofs.Meanings.{wide, decides, Room, room_left, room_right}

-- ---- lists of variables

pub keeps_left : (a b c : List ℕ) → Keeps a b → Keeps a (b ++ c)
keeps_left a b c h v i = Contains-append_left b c v (h v i)

pub keeps_right : (a b c : List ℕ) → Keeps a c → Keeps a (b ++ c)
keeps_right a b c h v i = Contains-append_right b c v (h v i)

pub keeps_to : (a b c : List ℕ) → b ≡ c → Keeps a b → Keeps a c
keeps_to a b c e h v i = subst (λ l. Contains l v) e (h v i)

-- what is set in one statement more
pub normal_vars_append : (xs ys : List NormalStmt) → all_normal_vars (xs ++ ys) ≡ all_normal_vars xs ++ all_normal_vars ys
normal_vars_append [] ys = refl
normal_vars_append (x ∷ xs) ys = ap (λ l. normal_vars_of x.kind ++ l) (normal_vars_append xs ys) ∙ sym (append_assoc (normal_vars_of x.kind) (all_normal_vars xs) (all_normal_vars ys))

pub sets_more : (f g h : ℕ) (xs : List NormalStmt) (x : NormalStmt) → Sets f g (all_normal_vars xs) → Sets g h (normal_vars_of x.kind) → Sets f h (all_normal_vars (xs ++ x ∷ []))
sets_more f g h xs x s t v a b =
    subst (λ l. Contains l v) (sym (normal_vars_append xs (x ∷ []))) (sets_then f g h (all_normal_vars xs) (normal_vars_of x.kind ++ []) s (λ u c d. Contains-append_left (normal_vars_of x.kind) [] u (t u c d)) v a b)

-- ---- where arrays are read

mutual
  none_read : (e : TypedExprKind) → reads e ≡ 0 → ReadsNone e
  none_read (tree.Number n) h = tt
  none_read (tree.Var v) h = tt
  none_read (tree.Element' a n row) h = absurd (omega arith)
  none_read (tree.Unary' op b (more_of-TypedExpr e t at end_of-TypedExpr)) h = none_read e h
  none_read (tree.Cast' implied b (more_of-TypedExpr e t at end_of-TypedExpr)) h = none_read e h
  none_read (tree.Binary' op b (more_of-TypedExpr e t at end_of-TypedExpr) b2 (more_of-TypedExpr e2 t2 at2 end_of-TypedExpr)) h = (none_read e (omega arith), none_read e2 (omega arith))
  none_read (tree.Choose' b (more_of-TypedExpr e t at end_of-TypedExpr) b2 (more_of-TypedExpr e2 t2 at2 end_of-TypedExpr) b3 (more_of-TypedExpr e3 t3 at3 end_of-TypedExpr)) h =
      (none_read e (omega arith), none_read e2 (omega arith), none_read e3 (omega arith))

mutual
  none_outside : (e : TypedExprKind) → ReadsNone e → ReadsOutside e
  none_outside (tree.Number n) h = tt
  none_outside (tree.Var v) h = tt
  none_outside (tree.Element' a n row) h = absurd h
  none_outside (tree.Unary' op b (more_of-TypedExpr e t at end_of-TypedExpr)) h = none_outside e h
  none_outside (tree.Cast' implied b (more_of-TypedExpr e t at end_of-TypedExpr)) h = none_outside e h
  none_outside (tree.Binary' op b (more_of-TypedExpr e t at end_of-TypedExpr) b2 (more_of-TypedExpr e2 t2 at2 end_of-TypedExpr)) h = (sides_none (both_or_either op) e e2 h.0 h.1, none_outside e h.0, none_outside e2 h.1)
  none_outside (tree.Choose' b (more_of-TypedExpr e t at end_of-TypedExpr) b2 (more_of-TypedExpr e2 t2 at2 end_of-TypedExpr) b3 (more_of-TypedExpr e3 t3 at3 end_of-TypedExpr)) h = (none_outside e h.0, h.1, h.2)

-- an operator that evaluates both operands has no sides
pub sides_free : (op : Binary) (e e2 : TypedExprKind) → decided_by op ≡ None → SidesReadNone (both_or_either op) e e2
sides_free Both e e2 d = absurd (cc)
sides_free Either e e2 d = absurd (cc)
sides_free op e e2 d = tt

pub one_in : (t : Ty) → IsInRange t (pos 1)
one_in I8 = record { above = search rules; below = search rules }
one_in t = record { above = search rules; below = search rules }

module _ (k : Objects) (ws : List Ty) (own : (v : ℕ) (t : Ty) → IsVar k v t → slice_get ws v ≡ Some t) where
  abbrev k2 : Objects
  k2 = wide k ws

  -- what is lawful of the kernel is lawful with more variables
  mutual
    pub kind_widened : (e : TypedExprKind) (t : Ty) → LawfulKind k e t → LawfulKind k2 e t
    kind_widened (tree.Number n) t h = h
    kind_widened (tree.Var v) t h = own v t h
    kind_widened (tree.Element' a n row) t h = (h.0, row_widened row h.1)
    kind_widened (tree.Unary' op b (more_of-TypedExpr e u at end_of-TypedExpr)) t h = (h.0, h.1, kind_widened e u h.2)
    kind_widened (tree.Cast' implied b (more_of-TypedExpr e u at end_of-TypedExpr)) t h = (h.0, kind_widened e u h.1)
    kind_widened (tree.Binary' op b (more_of-TypedExpr e u at end_of-TypedExpr) b2 (more_of-TypedExpr e2 u2 at2 end_of-TypedExpr)) t h = (h.0, kind_widened e u h.1, kind_widened e2 u2 h.2)
    kind_widened (tree.Choose' b (more_of-TypedExpr e u at end_of-TypedExpr) b2 (more_of-TypedExpr e2 u2 at2 end_of-TypedExpr) b3 (more_of-TypedExpr e3 u3 at3 end_of-TypedExpr)) t h =
        (h.0, kind_widened e u h.1, kind_widened e2 u2 h.2, kind_widened e3 u3 h.3)

    row_widened : {n : Count} (row : Row_of-TypedExpr n) → LawfulRow k row → LawfulRow k2 row
    row_widened end_of-TypedExpr h = tt
    row_widened (more_of-TypedExpr e u at row) h = (kind_widened e u h.0, row_widened row h.1)

  -- ---- settings: they are lawful wherever they stand, and nothing returns in them

  abbrev pub Settles : NormalStmt → Type 0
  Settles s = (r : Option Ty) (l m : Bool) → LawfulNormalAt k2 r l s × QuietAt m s

  pub all_lawful : (ss : List NormalStmt) → All Settles ss → (r : Option Ty) (l : Bool) → All (LawfulNormalAt k2 r l) ss
  all_lawful ss h r l i d lt = (h i d lt r l true).0

  pub all_quiet : (ss : List NormalStmt) → All Settles ss → (m : Bool) → All (QuietAt m) ss
  all_quiet ss h m i d lt = (h i d lt None true m).1

  pub first_var : (f : ℕ) (t : Ty) (ts : List Ty) → Room ws f (t ∷ ts) → IsVar k2 f t
  first_var f t ts room = slice_get-get_or ws f I32 (let w = room.within in omega arith) ∙ ap Some room.types.0

  pub setting_settles : (v : ℕ) (e : TypedExpr) (at : Span) → IsVar k2 v e.ty → LawfulNormalExpr k2 e → Settles (setting v e at)
  setting_settles v e at var h r l m =
      let target : TypedTarget = record { to = object.Var v; at = at; indices = [] } in
      ((normal_assignment target e k2 r l).1 (e.ty, ((var, refl), All-nil (LawfulNormalExpr k2)), refl, h), (quiet_assignment target e m).1 tt)

  side_settles : (v : ℕ) (before : List NormalStmt) (e : TypedExpr) (at : Span) → All Settles before → IsVar k2 v e.ty → LawfulNormalExpr k2 e → Settles (side v before e at)
  side_settles v before e at b var h r l m =
      let ss = before ++ setting v e at ∷ [] in
      let all = All-append Settles before (setting v e at ∷ []) b (All-cons Settles (setting v e at) [] (setting_settles v e at var h) (All-nil Settles)) in
      ((normal_block ss k2 r l).1 (all_lawful ss all r l), (quiet_block ss m).1 (all_quiet ss all m))

  choice_settles : (v : ℕ) (cond : TypedExpr) (yes_part no_part : NormalStmt) (at : Span) → LawfulNormalExpr k2 cond → Settles yes_part → Settles no_part → Settles (choice v cond yes_part no_part at)
  choice_settles v cond yes_part no_part at c y n r l m =
      ((normal_choice [] cond yes_part (Some no_part) k2 r l).1 (All-nil (LawfulNormalAt k2 r l), c, (y r l m).0, (n r l m).0), (quiet_choice [] cond yes_part (Some no_part) m).1 (All-nil (QuietAt m), (y r l m).1, (n r l m).1))

  setting_vars : (v : ℕ) (e : TypedExpr) (at : Span) → normal_vars_of (setting v e at).kind ≡ v ∷ []
  setting_vars v e at = normal_vars_assignment (record { to = object.Var v; at = at; indices = [] }) e

  setting_sets : (v : ℕ) (e : TypedExpr) (at : Span) → Sets v (v + 1) (normal_vars_of (setting v e at).kind)
  setting_sets v e at u a b = subst (λ l. Contains l u) (sym (setting_vars v e at)) (0, omega arith, omega arith)

  side_sets : (g v : ℕ) (before : List NormalStmt) (e : TypedExpr) (at : Span) → Sets g v (all_normal_vars before) → Sets g (v + 1) (normal_vars_of (side v before e at).kind)
  side_sets g v before e at s u a b =
      subst (λ l. Contains l u) (sym (normal_vars_block (before ++ setting v e at ∷ []))) (sets_more g v (v + 1) before (setting v e at) s (setting_sets v e at) u a b)

  yes_set : (v : ℕ) (cond : TypedExpr) (yes_part no_part : NormalStmt) (at : Span) (u : ℕ) → Contains (normal_vars_of yes_part.kind) u → Contains (normal_vars_of (choice v cond yes_part no_part at).kind) u
  yes_set v cond yes_part no_part at u c = subst (λ l. Contains l u) (sym (normal_vars_choice [] cond yes_part (Some no_part))) (Contains-append_left (normal_vars_of yes_part.kind) (normal_vars_of no_part.kind) u c)

  no_set : (v : ℕ) (cond : TypedExpr) (yes_part no_part : NormalStmt) (at : Span) (u : ℕ) → Contains (normal_vars_of no_part.kind) u → Contains (normal_vars_of (choice v cond yes_part no_part at).kind) u
  no_set v cond yes_part no_part at u c = subst (λ l. Contains l u) (sym (normal_vars_choice [] cond yes_part (Some no_part))) (Contains-append_right (normal_vars_of yes_part.kind) (normal_vars_of no_part.kind) u c)

  -- ---- expansions

  -- the expansion o of an expression e of a type, whose variables begin at f
  pub record LawfulOut (f : ℕ) (e : TypedExprKind) (ty : Ty) (o : Out) : Type 0 where
    pub settles : All Settles o.before
    pub sets : Sets f (f + length o.types) (all_normal_vars o.before)
    pub lawful : LawfulKind k2 o.kind ty
    pub outside : ReadsOutside o.kind
    pub implied : is_implied e ≡ false → is_implied o.kind ≡ false

  pub record LawfulOuts (f count : ℕ) (o : Outs) : Type 0 where
    pub settles : All Settles o.before
    pub sets : Sets f (f + length o.types) (all_normal_vars o.before)
    pub lawful : All (LawfulExpr k2) o.exprs
    pub outside : All (λ e. ReadsOutside e.kind) o.exprs
    pub long : length o.exprs ≡ count

  whole_lawful : (e : TypedExprKind) (ty : Ty) (f : ℕ) → LawfulKind k e ty → ReadsOutside e → LawfulOut f e ty (whole e)
  whole_lawful e ty f h r = record { settles = All-nil Settles; sets = sets_none f (f + 0) [] (omega arith); lawful = kind_widened e ty h; outside = r; implied = λ q. q }

  constant_lawful : (m : ℕ) (s : Span) → IsInRange I32 (pos m) → LawfulNormalExpr k2 (constant m s)
  constant_lawful m s h = ((lawful_number m k2 I32).1 h, (outside_number m).1 tt)

  truth_lawful : (e : TypedExpr) (s : Span) → LawfulNormalExpr k2 e → LawfulNormalExpr k2 (truth_of e s)
  truth_lawful e s h =
      let one = constant_lawful 1 s (one_in I32) in
      let none = constant_lawful 0 s (zero_in I32) in
      ((lawful_choice e (constant 1 s) (constant 0 s) k2 I32).1 ((refl, refl, refl), h.0, one.0, none.0), (outside_choice e (constant 1 s) (constant 0 s)).1 (h.1, (none_number 1).1 tt, (none_number 0).1 tt))

  var_lawful : (v : ℕ) (t : Ty) → IsVar k2 v t → LawfulKind k2 (expr.Var v) t
  var_lawful v t h = (lawful_variable v k2 t).1 h

  var_outside : (v : ℕ) → ReadsOutside (expr.Var v)
  var_outside v = (outside_variable v).1 tt

  pub append_settles : (xs ys : List NormalStmt) → All Settles xs → All Settles ys → All Settles (xs ++ ys)
  append_settles xs ys h i = All-append Settles xs ys h i

  -- the variables of two lists of settings
  pub append_sets : (f : ℕ) (ts us : List Ty) (xs ys : List NormalStmt) → Sets f (f + length ts) (all_normal_vars xs) → Sets (f + length ts) (f + length ts + length us) (all_normal_vars ys) → Sets f (f + length (ts ++ us)) (all_normal_vars (xs ++ ys))
  append_sets f ts us xs ys s t v a b =
      let l = length-append ts us in
      subst (λ z. Contains z v) (sym (normal_vars_append xs ys)) (sets_then f (f + length ts) (f + length ts + length us) (all_normal_vars xs) (all_normal_vars ys) s t v a (omega arith))

  joined_lawful : (op : Binary) (f : ℕ) (e e2 kind : TypedExprKind) (t t2 ty : Ty) (at at2 : Span) (o o2 : Out) → decided_by op ≡ None → AreOperands op t t2 ty → LawfulOut f e t o → LawfulOut (f + length o.types) e2 t2 o2 → LawfulOut f kind ty (joined_out op o t at o2 t2 at2)
  unfolding shape-the_row-TypedExpr-0 hidden-the_row-TypedExpr-0 shape-the_row-TypedExpr-1 hidden-the_row-TypedExpr-1 hidden
  joined_lawful op f e e2 kind t t2 ty at at2 o o2 d ops h i =
      let a = of_type o.kind t at in
      let b = of_type o2.kind t2 at2 in
      record {
        settles = append_settles o.before o2.before h.settles i.settles;
        sets = append_sets f o.types o2.types o.before o2.before h.sets i.sets;
        lawful = (lawful_binary op a b k2 ty).1 (ops, h.lawful, i.lawful);
        outside = (outside_binary op a b).1 (sides_free op o.kind o2.kind d, h.outside, i.outside);
        implied = λ q. refl;
      }

  -- a choice after the settings of its condition
  chosen_lawful : (f v : ℕ) (e kind : TypedExprKind) (t ty : Ty) (at s : Span) (o : Out) (yes_part no_part : NormalStmt) (all : List Ty) → LawfulOut f e t o → Settles yes_part → Settles no_part → IsVar k2 v ty → Sets (f + length o.types) (v + 1) (normal_vars_of (choice v (of_type o.kind t at) yes_part no_part s).kind) → f + length all ≤ v + 1
      → LawfulOut f kind ty (record { before = o.before ++ choice v (of_type o.kind t at) yes_part no_part s ∷ []; kind = expr.Var v; types = all })
  unfolding shape-the_row-TypedExpr-0 hidden-the_row-TypedExpr-0 shape-the_row-TypedExpr-1 hidden-the_row-TypedExpr-1 hidden
  chosen_lawful f v e kind t ty at s o yes_part no_part all h y n var sets le =
      let cond = of_type o.kind t at in
      let x = choice v cond yes_part no_part s in
      record {
        settles = append_settles o.before (x ∷ []) h.settles (All-cons Settles x [] (choice_settles v cond yes_part no_part s (h.lawful, h.outside) y n) (All-nil Settles));
        sets = sets_to f (v + 1) (f + length all) (all_normal_vars (o.before ++ x ∷ [])) le (sets_more f (f + length o.types) (v + 1) o.before x h.sets sets);
        lawful = var_lawful v ty var;
        outside = var_outside v;
        implied = λ q. refl;
      }

  three_types : (f : ℕ) (xs ys : List Ty) (t : Ty) → f + length (xs ++ (ys ++ t ∷ [])) ≤ f + length xs + length ys + 1
  three_types f xs ys t = let e = length-append xs (ys ++ t ∷ []) in let d = length-append ys (t ∷ []) in omega arith

  logical_lawful : (d : Bool) (f : ℕ) (e e2 kind : TypedExprKind) (t t2 : Ty) (at at2 s : Span) (o o2 : Out) → LawfulOut f e t o → LawfulOut (f + length o.types) e2 t2 o2 → IsVar k2 (f + length o.types + length o2.types) I32
      → LawfulOut f kind I32 (logical_out d (f + length o.types + length o2.types) o t at o2 t2 at2 s)
  logical_lawful false f e e2 kind t t2 at at2 s o o2 h i var =
      let g = f + length o.types in
      let v = g + length o2.types in
      let b = of_type o2.kind t2 at2 in
      let yes_part = side v o2.before (truth_of b s) s in
      let no_part = side v [] (constant 0 s) s in
      chosen_lawful f v e kind t I32 at s o yes_part no_part (o.types ++ (o2.types ++ I32 ∷ [])) h (side_settles v o2.before (truth_of b s) s i.settles var (truth_lawful b s (i.lawful, i.outside)))
      (side_settles v [] (constant 0 s) s (All-nil Settles) var (constant_lawful 0 s (zero_in I32))) var (λ u c q. yes_set v (of_type o.kind t at) yes_part no_part s u (side_sets g v o2.before (truth_of b s) s i.sets u c q)) (three_types f o.types o2.types I32)
  logical_lawful true f e e2 kind t t2 at at2 s o o2 h i var =
      let g = f + length o.types in
      let v = g + length o2.types in
      let b = of_type o2.kind t2 at2 in
      let yes_part = side v [] (constant 1 s) s in
      let no_part = side v o2.before (truth_of b s) s in
      chosen_lawful f v e kind t I32 at s o yes_part no_part (o.types ++ (o2.types ++ I32 ∷ [])) h (side_settles v [] (constant 1 s) s (All-nil Settles) var (constant_lawful 1 s (one_in I32)))
      (side_settles v o2.before (truth_of b s) s i.settles var (truth_lawful b s (i.lawful, i.outside))) var (λ u c q. no_set v (of_type o.kind t at) yes_part no_part s u (side_sets g v o2.before (truth_of b s) s i.sets u c q)) (three_types f o.types o2.types I32)

  binary_lawful : (op : Binary) (d : Option Bool) (z : Bool) (kind e e2 : TypedExprKind) (f : ℕ) (t t2 ty : Ty) (at at2 s : Span) (o o2 : Out) → decided_by op ≡ d → AreOperands op t t2 ty → LawfulKind k kind ty → (z ≡ true → ReadsOutside kind)
      → (Room ws f o.types → LawfulOut f e t o) → (Room ws (f + length o.types) o2.types → LawfulOut (f + length o.types) e2 t2 o2) → Room ws f (binary_out d z kind op (f + length o.types + length o2.types) o t at o2 t2 at2 s).types
      → LawfulOut f kind ty (binary_out d z kind op (f + length o.types + length o2.types) o t at o2 t2 at2 s)
  binary_lawful op None z kind e e2 f t t2 ty at at2 s o o2 q ops w none h i room = joined_lawful op f e e2 kind t t2 ty at at2 o o2 q ops (h (room_left ws f o.types o2.types room)) (i (room_right ws f o.types o2.types room))
  binary_lawful op (Some d) true kind e e2 f t t2 ty at at2 s o o2 q ops w none h i room = whole_lawful kind ty f w (none refl)
  binary_lawful op (Some d) false kind e e2 f t t2 ty at at2 s o o2 q ops w none h i room =
      let l = decides Plain op d q in
      let v = f + length o.types + length o2.types in
      let tail = room_right ws f o.types (o2.types ++ I32 ∷ []) room in
      let x = logical_lawful d f e e2 kind t t2 at at2 s o o2 (h (room_left ws f o.types (o2.types ++ I32 ∷ []) room)) (i (room_left ws (f + length o.types) o2.types (I32 ∷ []) tail)) (first_var v I32 [] (room_right ws (f + length o.types) o2.types (I32 ∷ []) tail)) in
      subst (λ y. LawfulOut f kind y (logical_out d v o t at o2 t2 at2 s)) (sym (ops.2 ∙ l.type (joint_type op t t2))) x

  choose_lawful : (z : Bool) (kind e e2 e3 : TypedExprKind) (f : ℕ) (t t2 t3 ty : Ty) (at at2 at3 s : Span) (o o2 o3 : Out) → AreSides t2 t3 ty → LawfulKind k e2 t2 → LawfulKind k e3 t3 → (z ≡ true → ReadsNone e2 × ReadsNone e3)
      → (Room ws f o.types → LawfulOut f e t o) → (Room ws (f + length o.types) o2.types → LawfulOut (f + length o.types) e2 t2 o2) → (Room ws (f + length o.types + length o2.types) o3.types → LawfulOut (f + length o.types + length o2.types) e3 t3 o3)
      → Room ws f (choose_out z (of_type e2 t2 at2) (of_type e3 t3 at3) (f + length o.types + length o2.types + length o3.types) o t at o2 t2 at2 o3 t3 at3 ty s).types
      → LawfulOut f kind ty (choose_out z (of_type e2 t2 at2) (of_type e3 t3 at3) (f + length o.types + length o2.types + length o3.types) o t at o2 t2 at2 o3 t3 at3 ty s)
  unfolding shape-the_row-TypedExpr-0 hidden-the_row-TypedExpr-0 shape-the_row-TypedExpr-1 hidden-the_row-TypedExpr-1 hidden
  choose_lawful true kind e e2 e3 f t t2 t3 ty at at2 at3 s o o2 o3 sides w2 w3 none h i j room =
      let a = h room in
      let n = none refl in
      let cond = of_type o.kind t at in
      let x = of_type e2 t2 at2 in
      let y = of_type e3 t3 at3 in
      record {
        settles = a.settles;
        sets = a.sets;
        lawful = (lawful_choice cond x y k2 ty).1 (sides, a.lawful, kind_widened e2 t2 w2, kind_widened e3 t3 w3);
        outside = (outside_choice cond x y).1 (a.outside, n.0, n.1);
        implied = λ q. refl;
      }
  choose_lawful false kind e e2 e3 f t t2 t3 ty at at2 at3 s o o2 o3 sides w2 w3 none h i j room =
      let g = f + length o.types in
      let g2 = g + length o2.types in
      let v = g2 + length o3.types in
      let types = o.types ++ (o2.types ++ (o3.types ++ ty ∷ [])) in
      let tail = room_right ws f o.types (o2.types ++ (o3.types ++ ty ∷ [])) room in
      let tail3 = room_right ws g o2.types (o3.types ++ ty ∷ []) tail in
      let a = h (room_left ws f o.types (o2.types ++ (o3.types ++ ty ∷ [])) room) in
      let b = i (room_left ws g o2.types (o3.types ++ ty ∷ []) tail) in
      let c = j (room_left ws g2 o3.types (ty ∷ []) tail3) in
      let var = first_var v ty [] (room_right ws g2 o3.types (ty ∷ []) tail3) in
      let x = of_type o2.kind t2 at2 in
      let y = of_type o3.kind t3 at3 in
      let yes_part = side v o2.before x s in
      let no_part = side v o3.before y s in
      let var2 = subst (λ u. IsVar k2 v u) (sides.2 ∙ sym sides.0) var in
      let var3 = subst (λ u. IsVar k2 v u) (sides.2 ∙ sym sides.1) var in
      let l = length-append o.types (o2.types ++ (o3.types ++ ty ∷ [])) in
      let l2 = length-append o2.types (o3.types ++ ty ∷ []) in
      let l3 = length-append o3.types (ty ∷ []) in
      let cond = of_type o.kind t at in
      let in_yes : Sets g g2 (normal_vars_of (choice v cond yes_part no_part s).kind) = λ u p q. yes_set v cond yes_part no_part s u (subst (λ l. Contains l u) (sym (normal_vars_block (o2.before ++ setting v x s ∷ []))) (subst (λ l. Contains l u) (sym (normal_vars_append o2.before (setting v x s ∷ []))) (Contains-append_left (all_normal_vars o2.before) (all_normal_vars (setting v x s ∷ [])) u (b.sets u p q)))) in
      let in_no : Sets g2 (v + 1) (normal_vars_of (choice v cond yes_part no_part s).kind) = λ u p q. no_set v cond yes_part no_part s u (side_sets g2 v o3.before y s c.sets u p q) in
      let both : Sets g (v + 1) (normal_vars_of (choice v cond yes_part no_part s).kind) = λ u p q. elim (cases_lt u g2) [ inl l ↦ in_yes u p l | inr l ↦ in_no u l q ] in
      chosen_lawful f v e kind t ty at s o yes_part no_part types a (side_settles v o2.before x s b.settles var2 (b.lawful, b.outside)) (side_settles v o3.before y s c.settles var3 (c.lawful, c.outside)) var both (omega arith)

  element_lawful : (a f : ℕ) (e : TypedExprKind) (count : ℕ) (ty : Ty) (o : Outs) → IsElement k a count ty → LawfulOuts f count o → LawfulOut f e ty (record { before = o.before; kind = expr.Element a o.exprs; types = o.types })
  unfolding shape-the_row-TypedExpr-0 hidden-the_row-TypedExpr-0 shape-the_row-TypedExpr-1 hidden-the_row-TypedExpr-1 hidden
  element_lawful a f e count ty o is h = record {
    settles = h.settles;
    sets = h.sets;
    lawful = (lawful_element a o.exprs k2 ty).1 (subst (λ n. IsElement k a n ty) (sym h.long) is, h.lawful);
    outside = (outside_element a o.exprs).1 h.outside;
    implied = λ q. refl;
  }

  no_outs : (f : ℕ) → LawfulOuts f 0 (record { before = []; exprs = []; types = [] })
  no_outs f = record { settles = All-nil Settles; sets = sets_none f (f + 0) [] (omega arith); lawful = All-nil (LawfulExpr k2); outside = All-nil (λ e. ReadsOutside e.kind); long = refl }

  more_outs : (f count : ℕ) (e : TypedExprKind) (t : Ty) (at : Span) (o : Out) (r : Outs) → LawfulOut f e t o → LawfulOuts (f + length o.types) count r → LawfulOuts f (1 + count) (record { before = o.before ++ r.before; exprs = of_type o.kind t at ∷ r.exprs; types = o.types ++ r.types })
  more_outs f count e t at o r h i = record {
    settles = append_settles o.before r.before h.settles i.settles;
    sets = append_sets f o.types r.types o.before r.before h.sets i.sets;
    lawful = All-cons (LawfulExpr k2) (of_type o.kind t at) r.exprs h.lawful i.lawful;
    outside = All-cons (λ e. ReadsOutside e.kind) (of_type o.kind t at) r.exprs h.outside i.outside;
    long = let l = i.long in omega arith;
  }

  mutual
    unfolding shape-the_row-TypedExpr-0 hidden-the_row-TypedExpr-0 shape-the_row-TypedExpr-1 hidden-the_row-TypedExpr-1 hidden

    pub expansion_lawful : (e : TypedExprKind) (ty : Ty) (s : Span) (f : ℕ) → LawfulKind k e ty → Room ws f (expand f e ty s).types → LawfulOut f e ty (expand f e ty s)
    expansion_lawful (tree.Number n) ty s f h room = whole_lawful (tree.Number n) ty f h tt
    expansion_lawful (tree.Var v) ty s f h room = whole_lawful (tree.Var v) ty f h tt
    expansion_lawful (tree.Element' a n row) ty s f h room = element_lawful a f (tree.Element' a n row) (row_length row) ty (expand_row f row) h.0 (row_expansions row f h.1 room)
    expansion_lawful (tree.Unary' op b (more_of-TypedExpr e t at end_of-TypedExpr)) ty s f h room =
        let o = expand f e t at in
        let i = expansion_lawful e t at f h.2 room in
        let a = of_type o.kind t at in
        record { settles = i.settles; sets = i.sets; lawful = (lawful_unary op a k2 ty).1 (h.0, h.1, i.lawful); outside = (outside_unary op a).1 i.outside; implied = λ q. refl }
    expansion_lawful (tree.Cast' implied b (more_of-TypedExpr e t at end_of-TypedExpr)) ty s f h room =
        let o = expand f e t at in
        let i = expansion_lawful e t at f h.1 room in
        let a = of_type o.kind t at in
        record { settles = i.settles; sets = i.sets; lawful = (lawful_cast implied a k2 ty).1 (λ q. i.implied (h.0 q), i.lawful); outside = (outside_cast implied a).1 i.outside; implied = λ q. q }
    expansion_lawful (tree.Binary' op b (more_of-TypedExpr e t at end_of-TypedExpr) b2 (more_of-TypedExpr e2 t2 at2 end_of-TypedExpr)) ty s f h room =
        let o = expand f e t at in
        let g = f + length o.types in
        let o2 = expand g e2 t2 at2 in
        let kind = tree.Binary' op b (more_of-TypedExpr e t at end_of-TypedExpr) b2 (more_of-TypedExpr e2 t2 at2 end_of-TypedExpr) in
        binary_lawful op (decided_by op) (reads e + reads e2 == 0) kind e e2 f t t2 ty at at2 s o o2 refl h.0 h (λ q. let z = eqb-true (reads e + reads e2) 0 q in none_outside kind (none_read kind z))
        (λ r. expansion_lawful e t at f h.1 r) (λ r. expansion_lawful e2 t2 at2 g h.2 r) room
    expansion_lawful (tree.Choose' b (more_of-TypedExpr e t at end_of-TypedExpr) b2 (more_of-TypedExpr e2 t2 at2 end_of-TypedExpr) b3 (more_of-TypedExpr e3 t3 at3 end_of-TypedExpr)) ty s f h room =
        let o = expand f e t at in
        let g = f + length o.types in
        let o2 = expand g e2 t2 at2 in
        let g2 = g + length o2.types in
        let o3 = expand g2 e3 t3 at3 in
        let kind = tree.Choose' b (more_of-TypedExpr e t at end_of-TypedExpr) b2 (more_of-TypedExpr e2 t2 at2 end_of-TypedExpr) b3 (more_of-TypedExpr e3 t3 at3 end_of-TypedExpr) in
        choose_lawful (reads e2 + reads e3 == 0) kind e e2 e3 f t t2 t3 ty at at2 at3 s o o2 o3 h.0 h.2 h.3 (λ q. let z = eqb-true (reads e2 + reads e3) 0 q in (none_read e2 (omega arith), none_read e3 (omega arith)))
        (λ r. expansion_lawful e t at f h.1 r) (λ r. expansion_lawful e2 t2 at2 g h.2 r) (λ r. expansion_lawful e3 t3 at3 g2 h.3 r) room

    row_expansions : {n : Count} (row : Row_of-TypedExpr n) (f : ℕ) → LawfulRow k row → Room ws f (expand_row f row).types → LawfulOuts f (row_length row) (expand_row f row)
    row_expansions end_of-TypedExpr f h room = no_outs f
    row_expansions (more_of-TypedExpr e t at row) f h room =
        let o = expand f e t at in
        let g = f + length o.types in
        let r = expand_row g row in
        more_outs f (row_length row) e t at o r (expansion_lawful e t at f h.0 (room_left ws f o.types r.types room)) (row_expansions row g h.1 (room_right ws f o.types r.types room))

  -- ---- the indices of a target

  pub all_expansions : (es : List TypedExpr) (f : ℕ) → All (LawfulExpr k) es → Room ws f (expand_all f es).types → LawfulOuts f (length es) (expand_all f es)
  all_expansions [] f h room = no_outs f
  all_expansions (e ∷ es) f h room =
      let o = expand_expr f e in
      let g = f + length o.types in
      let r = expand_all g es in
      let x = more_outs f (length es) e.kind e.ty e.at o r (expansion_lawful e.kind e.ty e.at f (All-head (LawfulExpr k) e es h) (room_left ws f o.types r.types room)) (all_expansions es g (All-tail (LawfulExpr k) e es h) (room_right ws f o.types r.types room)) in
      record { settles = x.settles; sets = x.sets; lawful = x.lawful; outside = x.outside; long = let l = x.long in omega arith }

  pub set_expansions : (es : List TypedExpr) (f : ℕ) → All (LawfulExpr k) es → Room ws f (set_all f es).types → LawfulOuts f (length es) (set_all f es)
  set_expansions [] f h room = no_outs f
  set_expansions (e ∷ es) f h room =
      let o = expand_expr f e in
      let v = f + length o.types in
      let r = set_all (v + 1) es in
      let tail = room_right ws f o.types (e.ty ∷ r.types) room in
      let there : Room ws (v + 1) r.types = record { types = tail.types.1; within = let w = tail.within in omega arith } in
      let x = expansion_lawful e.kind e.ty e.at f (All-head (LawfulExpr k) e es h) (room_left ws f o.types (e.ty ∷ r.types) room) in
      let y = set_expansions es (v + 1) (All-tail (LawfulExpr k) e es h) there in
      let st = setting v (rest_of o e) e.at in
      let var = of_type (expr.Var v) e.ty e.at in
      let is = first_var v e.ty r.types tail in
      let l = length-append o.types (e.ty ∷ r.types) in
      let rest_sets : Sets v (v + 1 + length r.types) (normal_vars_of st.kind ++ all_normal_vars r.before) = sets_then v (v + 1) (v + 1 + length r.types) (normal_vars_of st.kind) (all_normal_vars r.before) (setting_sets v (rest_of o e) e.at) y.sets in
      let all_sets : Sets f (v + 1 + length r.types) (all_normal_vars o.before ++ (normal_vars_of st.kind ++ all_normal_vars r.before)) = sets_then f v (v + 1 + length r.types) (all_normal_vars o.before) (normal_vars_of st.kind ++ all_normal_vars r.before) x.sets rest_sets in
      record {
        settles = append_settles o.before (st ∷ r.before) x.settles (All-cons Settles st r.before (setting_settles v (rest_of o e) e.at is (x.lawful, x.outside)) y.settles);
        sets = λ u a b. subst (λ z. Contains z u) (sym (normal_vars_append o.before (st ∷ r.before))) (all_sets u a (omega arith));
        lawful = All-cons (LawfulExpr k2) var r.exprs (var_lawful v e.ty is) y.lawful;
        outside = All-cons (λ e. ReadsOutside e.kind) var r.exprs (var_outside v) y.outside;
        long = let q = y.long in omega arith;
      }
