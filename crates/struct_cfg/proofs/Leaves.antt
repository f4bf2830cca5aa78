-- Statements without a jump, returns and conditions are followed where the law of their expressions holds.
use Rattle.std.proofs.Common.{◌≡◌, ℕ, zero, suc, ◌+◌, ◌<◌, ◌≤◌, List, [], ◌∷◌, map, length, get_or, Option, Some, None, refl, sym, ◌∙◌, ap, subst, arith, length-append, ⊎_elim}
use Rattle.std.specs.Prelude.{true, false, ℤ, pos, IsTrue, set, slice_get, All}
use Rattle.std.proofs.lemmas.Bool.{cases_eq}
use Rattle.std.proofs.lemmas.List.{length-set, get_or-set_same, get_or-set_other}
use Rattle.std.proofs.lemmas.Option.{slice_get_within, get_or_from_slice_get, none-some, same_Some}
use Rattle.el_base.specs.declared.ty.Ty.{Ty}
use Rattle.el_base.specs.declared.ty.Ty.TheVariants.{I32}
use Rattle.el_base.specs.Numbers.{IsInRange, pattern}
use Rattle.c_ast.specs.declared.typed.ArrayOf.{ArrayOf}
use Rattle.c_ast.specs.declared.typed.TypedExpr.{TypedExpr}
use Rattle.c_ast.specs.declared.typed.Object.{Object}
use Rattle.c_ast.specs.declared.typed.Object.TheVariants as object
use Rattle.el_base.specs.declared.span.Span.{Span}
use Rattle.ir.specs.declared.cfg.CfgJump.TheVariants.{Go, Two, Return}
use Rattle.ir.specs.Steps.{value_at, through, beginning}
use Rattle.ir.specs.Visits.{Visit, onto}
use Rattle.ir.specs.Graphs.{side}
use Rattle.c_meaning.specs.KernelPatterns.{result_pattern}
use Rattle.c_meaning.specs.Types.{conv}
use Rattle.c_meaning.specs.Operators.{is_zero}
use Rattle.c_meaning.specs.Stores.{Store, IsSetIn, AreSetIn, set_var, unset_var, unset_vars, set_element, place}
use Rattle.c_meaning.specs.Expressions.{Val, undefined_value, value, later, meaning, val, Vals, undefined_values, values, all_values, always}
use Rattle.c_meaning.specs.Runs.{normally, by_return, ends, taking, with_val}
use Rattle.c_meaning.specs.Statements.{of_var, of_element, placed_after, place_by, element_place, meant_if_any, storing, assigned_to, assigned, array_type, declared_run, returned}
use Rattle.c_meaning.specs.Counts.{tally, only, expr_price, option_price, target_price}
use Rattle.c_meaning.specs.Lawful.{LawfulNormalExpr, IsVar, IsElement, LawfulDeclaration, LawfulAssignment}
use Rattle.struct_cfg.specs.declared.draft.Draft.{Draft}
use Rattle.struct_cfg.specs.Drafts.{here, next_value}
use Rattle.struct_cfg.specs.Drafts as drafts
use Rattle.struct_cfg.specs.Exprs.{expr_laying, condition_laying, store_laying}
use Rattle.struct_cfg.specs.Lowering.{with_expr, value_of, with_condition, condition_of, assign_var, assign_element, assign_to, declare}
use Rattle.struct_cfg.specs.Seen.{IsValue, Sees, type_of}
use Rattle.struct_cfg.specs.Shares.{GivesStore}
use Rattle.struct_cfg.specs.Places.{Setting, Spot, spot, entry, count, work, At, Frame, Follow}
use Rattle.struct_cfg.proofs.Works.{through_append}
use Rattle.struct_cfg.proofs.Bounds.{kind_cheap}
use Rattle.struct_cfg.proofs.Stores.{store_cheap, condition_cheap}
use Rattle.struct_cfg.proofs.Walks.{Does, reach_more, stay}
use Rattle.struct_cfg.proofs.Blocks.{Stands, ExprLaw, evaluated, told, next_is, leads, goes, returns, within_some}
use Rattle.struct_cfg.proofs.Loops.{Picks}

-- a variable's number may be set where it lies in the type
set_in : (ts : List Ty) (xs : List (Option ℤ)) (i : ℕ) (v : Option ℤ) → AreSetIn ts xs → ((t : Ty) → slice_get ts i ≡ Some t → IsSetIn t v) → AreSetIn ts (set xs i v)
set_in [] [] i v h q = h
set_in [] (x ∷ xs) i v h q = absurd h
set_in (t ∷ ts) [] i v h q = absurd h
set_in (t ∷ ts) (x ∷ xs) zero v h q = (q t refl, h.1)
set_in (t ∷ ts) (x ∷ xs) (suc i) v h q = (h.0, set_in ts xs i v h.1 q)

module _ (o : Setting) where
  abbrev arrays : List ArrayOf
  arrays = o.objects.arrays

  -- ---- a variable is set, or unset

  unset_one : (p : Spot) (v : Visit) (s : Store) (x : ℕ) → At o p v s → At o p v (unset_var x s)
  unset_one p v s x at = record {
    block = at.block;
    given = at.given;
    env = at.env;
    vars = length-set s.vars x None ∙ at.vars;
    sees = record {
      each = λ y z e.
          let within : y < length (set s.vars x None) = within_some (set s.vars x None) y z e in
          ⊎_elim (λ q. absurd (none-some z (sym (ap (λ i. get_or (set s.vars x None) i None) q ∙ get_or-set_same s.vars x None None (subst (λ i. i < length s.vars) q (omega (arith, length-set s.vars x None)))) ∙ e)))
          (λ n. at.sees.each y z (sym (get_or-set_other s.vars x y None None n) ∙ e)) (cases_eq y x);
      arrays = at.sees.arrays;
      fitting = record { vars = set_in o.objects.vars s.vars x None at.sees.fitting.vars (λ t e. tt); arrays = at.sees.fitting.arrays };
      clean = at.sees.clean;
    };
  }

  pub unset_all : (p : Spot) (v : Visit) (xs : List ℕ) (s : Store) → At o p v s → At o p v (unset_vars xs s)
  unset_all p v [] s at = at
  unset_all p v (x ∷ xs) s at = unset_all p v xs (unset_var x s) (unset_one p v s x at)

  pub set_one : (d : Draft) (v : Visit) (s : Store) (x a : ℕ) (t : Ty) (z : ℤ) → slice_get o.objects.vars x ≡ Some t → IsInRange t z → At o (spot d) v s → IsValue (work (spot d) v) a (pattern t z) → At o (spot (drafts.with_value x a d)) v (set_var x z s)
  set_one d v s x a t z named range at h =
      let lt = slice_get_within o.objects.vars x t named in
      let typed : type_of o.objects x ≡ t = get_or_from_slice_get o.objects.vars x t I32 named in
      record {
        block = at.block;
        given = at.given;
        env = length-set d.env x a ∙ at.env;
        vars = length-set s.vars x (Some z) ∙ at.vars;
        sees = record {
          each = λ y u e.
              ⊎_elim
              (λ q. let is : u ≡ z = same_Some u z (sym e ∙ ap (λ i. get_or (set s.vars x (Some z)) i None) q ∙ get_or-set_same s.vars x (Some z) None (omega (arith, at.vars))) in
              let place_is : get_or (set d.env x a) y 0 ≡ a = ap (λ i. get_or (set d.env x a) i 0) q ∙ get_or-set_same d.env x a 0 (omega (arith, at.env)) in
              let p_is : pattern t z ≡ pattern (type_of o.objects y) u = ap (λ i. pattern i z) (sym typed) ∙ ap (λ i. pattern (type_of o.objects i) z) (sym q) ∙ ap (pattern (type_of o.objects y)) (sym is) in
              subst (λ i. IsValue (work (spot d) v) i (pattern (type_of o.objects y) u)) (sym place_is) (subst (IsValue (work (spot d) v) a) p_is h))
              (λ n. let old = at.sees.each y u (sym (get_or-set_other s.vars x y (Some z) None n) ∙ e) in
              subst (λ i. IsValue (work (spot d) v) i (pattern (type_of o.objects y) u)) (sym (get_or-set_other d.env x y a 0 n)) old)
              (cases_eq y x);
          arrays = at.sees.arrays;
          fitting = record {
            vars = set_in o.objects.vars s.vars x (Some z) at.sees.fitting.vars (λ u e. subst (λ i. IsInRange i z) (same_Some t u (sym named ∙ e)) range);
            arrays = at.sees.fitting.arrays;
          };
          clean = at.sees.clean;
        };
      }

  -- ---- costs in the open block

  expr_cheap : (e : TypedExpr) (d : Draft) → length (with_expr arrays e d).steps ≤ length d.steps + expr_price e
  expr_cheap e d = let c = kind_cheap arrays d.env e.kind e.ty (next_value d) in omega (arith, length-append d.steps (expr_laying arrays d.env e (next_value d)).steps)

  cond_cheap : (e : TypedExpr) (d : Draft) → length (with_condition arrays e d).steps ≤ length d.steps + (expr_price e + 2)
  cond_cheap e d = let c = condition_cheap arrays d.env e (next_value d) in omega (arith, length-append d.steps (condition_laying arrays d.env e (next_value d)).steps)

  element_cheap : (a : ℕ) (is : List TypedExpr) (e : TypedExpr) (d : Draft) → length (assign_element arrays a is e d).steps ≤ length d.steps + (1 + target_price is + expr_price e)
  element_cheap a is e d = let c = store_cheap arrays d.env a is e (next_value d) in omega (arith, length-append d.steps (store_laying arrays d.env a is e (next_value d)).steps)

  -- a run that takes its turns and ends normally in the same block
  done_there : (f : Frame) (d e : Draft) (v : Visit) (s : Store) (st : Store → Store) (n m j c : ℕ) → here e ≡ here d → At o (spot e) v (st s) → j ≡ 0 → length e.steps ≤ length d.steps + c
      → (let r = taking n (λ s m. record { how = normally; store = st s; left = m }) s m in Follow o 0 0 f (spot d) v (spot e) r.how r.store j c)
  done_there f d e v s st zero m j c same at i cheap = record { path = []; to = v; walks = refl; few = omega (arith, i); cheap = omega (arith, cheap); at = at }
  done_there f d e v s st (suc n) zero j c same at i cheap = tt
  done_there f d e v s st (suc n) (suc m) j c same at i cheap = done_there f d e v s st n m j c same at i cheap

  module _ (conv_same : (t : Ty) (x : ℤ) → IsInRange t x → conv t x ≡ x) where
    -- ---- target = value for a variable, and declarations

    var_type : (x : ℕ) (t : Ty) → IsVar o.objects x t → type_of o.objects x ≡ t
    var_type x t h = get_or_from_slice_get o.objects.vars x t I32 h

    var_set : (x : ℕ) (e : TypedExpr) (d : Draft) (v : Visit) (s : Store) (z : ℤ) (t : ℕ) → ExprLaw o.objects e → At o (spot d) v s → IsVar o.objects x e.ty → val o.objects s e ≡ value z t → At o (spot (assign_var arrays x e d)) v (set_var x (conv (type_of o.objects x) z) s)
    var_set x e d v s z t law at named is =
        let h = evaluated o e d v s z t law at is in
        let r = law.range s z t at.sees.fitting is in
        let typed = var_type x e.ty named in
        let same : conv (type_of o.objects x) z ≡ z = conv_same (type_of o.objects x) z (subst (λ u. IsInRange u z) (sym typed) r) in
        subst (λ u. At o (spot (assign_var arrays x e d)) v (set_var x u s)) (sym same) (set_one (with_expr arrays e d) v s x (value_of arrays e d) e.ty z named r h.at h.is)

    assign_value : (f : Frame) (x : ℕ) (e : TypedExpr) (d : Draft) (v : Visit) (s : Store) (m j c t : ℕ) (u : Val) → ExprLaw o.objects e → At o (spot d) v s → IsVar o.objects x e.ty → val o.objects s e ≡ u → j ≡ 0 → expr_price e ≤ c
        → (let r = with_val (later t u) (storing (type_of o.objects x) (of_var x)) s m in Follow o 0 0 f (spot d) v (spot (assign_var arrays x e d)) r.how r.store j c)
    assign_value f x e d v s m j c t (undefined_value p) law at lawful is i le = tt
    assign_value f x e d v s m j c t (value z n) law at lawful is i le = done_there f d (assign_var arrays x e d) v s (λ s. set_var x (conv (type_of o.objects x) z) s) (t + n) m j c refl (var_set x e d v s z n law at lawful is) i (omega (arith, expr_cheap e d, le))

    declared_value : (f : Frame) (x : ℕ) (e : TypedExpr) (d : Draft) (v : Visit) (s : Store) (m j c : ℕ) (u : Val) → ExprLaw o.objects e → At o (spot d) v s → IsVar o.objects x e.ty → val o.objects s e ≡ u → j ≡ 0 → expr_price e ≤ c
        → (let r = with_val u (storing (type_of o.objects x) (of_var x)) s m in Follow o 0 0 f (spot d) v (spot (assign_var arrays x e d)) r.how r.store j c)
    declared_value f x e d v s m j c (undefined_value p) law at lawful is i le = tt
    declared_value f x e d v s m j c (value z n) law at lawful is i le = done_there f d (assign_var arrays x e d) v s (λ s. set_var x (conv (type_of o.objects x) z) s) n m j c refl (var_set x e d v s z n law at lawful is) i (omega (arith, expr_cheap e d, le))

    pub declare_does : (law : (e : TypedExpr) → LawfulNormalExpr o.objects e → ExprLaw o.objects e) (f : Frame) (x : ℕ) (i : Option TypedExpr) (d : Draft) → LawfulDeclaration o.objects (LawfulNormalExpr o.objects) x i
        → Does o 0 0 f (spot d) (spot (declare arrays x i d)) (declared_run o.objects x (meant_if_any o.objects i)) (only (tally 0 (option_price i)))
    declare_does law f x None d lawful v s m at = stay o (spot d) v (unset_vars (x ∷ []) s) (unset_all (spot d) v (x ∷ []) s at)
    declare_does law f x (Some e) d lawful v s m at = declared_value f x e d v s m 0 (expr_price e) (val o.objects s e) (law e lawful.1) at lawful.0 refl refl (omega arith)

    -- ---- target = value

    element_typed : (as_of : List ArrayOf) (a : ℕ) (x : ArrayOf) → slice_get as_of a ≡ Some x → array_type as_of a ≡ x.ty
    element_typed [] a x e = absurd (none-some x e)
    element_typed (y ∷ ys) zero x e = ap (λ q. q.ty) (same_Some y x e)
    element_typed (y ∷ ys) (suc a) x e = element_typed ys a x e

    element_set : (a : ℕ) (is : List TypedExpr) (e : TypedExpr) (d : Draft) (v : Visit) (s : Store) (js : List ℤ) (t at : ℕ) (z : ℤ) (u : ℕ) → ((env : List ℕ) → GivesStore o.objects env a is e) → ExprLaw o.objects e → IsElement o.objects a (length is) e.ty → At o (spot d) v s
        → all_values (map (meaning o.objects) is) s ≡ values js t → place arrays a js ≡ Some at → val o.objects s e ≡ value z u → At o (spot (assign_element arrays a is e d)) v (set_element a at (conv (array_type arrays a) z) s)
    element_set a is e d v s js t at z u gives law named h ei pl ez =
        let g = gives d.env in
        let w = work (spot d) v in
        let l = store_laying arrays d.env a is e (next_value d) in
        let r = law.range s z u h.sees.fitting ez in
        let typed : array_type arrays a ≡ e.ty = element_typed arrays a named.0 named.1 ∙ named.2 in
        let same : conv (array_type arrays a) z ≡ z = conv_same (array_type arrays a) z (subst (λ q. IsInRange q z) (sym typed) r) in
        let seen : Sees o.objects d.env (through l.steps w) (set_element a at z s) =
        subst (λ n. Sees o.objects d.env (through (store_laying arrays d.env a is e n).steps w) (set_element a at z s)) (next_is o d v s h) (g.gives w s js t at z u h.sees ei pl ez) in
        let run : work (spot (assign_element arrays a is e d)) v ≡ through l.steps w = through_append d.steps l.steps (beginning v.given v.arrays) in
        record {
          block = h.block;
          given = h.given;
          env = h.env;
          vars = h.vars;
          sees = subst (λ q. Sees o.objects d.env (work (spot (assign_element arrays a is e d)) v) (set_element a at q s)) (sym same) (subst (λ q. Sees o.objects d.env q (set_element a at z s)) (sym run) seen);
        }

    element_value : (f : Frame) (a : ℕ) (is : List TypedExpr) (e : TypedExpr) (d : Draft) (v : Visit) (s : Store) (m : ℕ) (js : List ℤ) (t at : ℕ) (u : Val) → ((env : List ℕ) → GivesStore o.objects env a is e) → ExprLaw o.objects e → IsElement o.objects a (length is) e.ty → At o (spot d) v s
        → all_values (map (meaning o.objects) is) s ≡ values js t → place arrays a js ≡ Some at → val o.objects s e ≡ u
        → (let r = with_val (later t u) (storing (array_type arrays a) (of_element a at)) s m in Follow o 0 0 f (spot d) v (spot (assign_element arrays a is e d)) r.how r.store 0 (1 + target_price is + expr_price e))
    element_value f a is e d v s m js t at (undefined_value p) gives law named h ei pl ez = tt
    element_value f a is e d v s m js t at (value z u) gives law named h ei pl ez = done_there f d (assign_element arrays a is e d) v s (λ s. set_element a at (conv (array_type arrays a) z) s) (t + u) m 0 (1 + target_price is + expr_price e) refl (element_set a is e d v s js t at z u gives law named h ei pl ez) refl (element_cheap a is e d)

    placed_element : (f : Frame) (a : ℕ) (is : List TypedExpr) (e : TypedExpr) (d : Draft) (v : Visit) (s : Store) (m : ℕ) (p : Span) (js : List ℤ) (t : ℕ) (r : Option ℕ) → ((env : List ℕ) → GivesStore o.objects env a is e) → ExprLaw o.objects e → IsElement o.objects a (length is) e.ty → At o (spot d) v s
        → all_values (map (meaning o.objects) is) s ≡ values js t → place arrays a js ≡ r
        → (let q = assigned_to (array_type arrays a) (placed_after p t (element_place a r)) (meaning o.objects e) s m in Follow o 0 0 f (spot d) v (spot (assign_element arrays a is e d)) q.how q.store 0 (1 + target_price is + expr_price e))
    placed_element f a is e d v s m p js t None gives law named h ei pl = tt
    placed_element f a is e d v s m p js t (Some at) gives law named h ei pl = element_value f a is e d v s m js t at (val o.objects s e) gives law named h ei pl refl

    indexed_element : (f : Frame) (a : ℕ) (is : List TypedExpr) (e : TypedExpr) (d : Draft) (v : Visit) (s : Store) (m : ℕ) (p : Span) (vs : Vals) → ((env : List ℕ) → GivesStore o.objects env a is e) → ExprLaw o.objects e → IsElement o.objects a (length is) e.ty → At o (spot d) v s
        → all_values (map (meaning o.objects) is) s ≡ vs
        → (let q = assigned_to (array_type arrays a) (place_by arrays (object.Array a) p vs) (meaning o.objects e) s m in Follow o 0 0 f (spot d) v (spot (assign_element arrays a is e d)) q.how q.store 0 (1 + target_price is + expr_price e))
    indexed_element f a is e d v s m p (undefined_values q) gives law named h ei = tt
    indexed_element f a is e d v s m p (values js t) gives law named h ei = placed_element f a is e d v s m p js t (place arrays a js) gives law named h ei refl

    pub assign_does : (law : (e : TypedExpr) → LawfulNormalExpr o.objects e → ExprLaw o.objects e)
        → (stores : (env : List ℕ) (a : ℕ) (is : List TypedExpr) (e : TypedExpr) → IsElement o.objects a (length is) e.ty → All (LawfulNormalExpr o.objects) is → LawfulNormalExpr o.objects e → GivesStore o.objects env a is e)
        → (f : Frame) (to : Object) (at : Span) (is : List TypedExpr) (e : TypedExpr) (d : Draft) → LawfulAssignment o.objects (LawfulNormalExpr o.objects) (record { to = to; at = at; indices = is }) None e
        → Does o 0 0 f (spot d) (spot (assign_to arrays to is e d)) (assigned o.objects (record { to = to; at = at; indices = map (meaning o.objects) is }) (meaning o.objects e)) (only (tally 0 (1 + target_price is + expr_price e)))
    assign_does law stores f (object.Var x) at [] e d lawful v s m h =
        let named : IsVar o.objects x e.ty = subst (IsVar o.objects x) (sym lawful.2) lawful.1.0.0 in
        assign_value f x e d v s m 0 (1 + target_price [] + expr_price e) 0 (val o.objects s e) (law e lawful.3) h named refl refl (omega arith)
    assign_does law stores f (object.Var x) at (i ∷ is) e d lawful v s m h = absurd (omega (arith, lawful.1.0.1))
    assign_does law stores f (object.Array a) at is e d lawful v s m h =
        let named : IsElement o.objects a (length is) e.ty = subst (IsElement o.objects a (length is)) (sym lawful.2) lawful.1.0 in
        indexed_element f a is e d v s m at (all_values (map (meaning o.objects) is) s) (λ env. stores env a is e named lawful.1.1 lawful.3) (law e lawful.3) named h refl

  -- ---- returns

  none_result : (r : Option Ty) → (let n : Option ℕ = None in n ≡ result_pattern r None)
  none_result None = refl
  none_result (Some t) = refl

  return_value : (f : Frame) (e : TypedExpr) (d : Draft) (q : Spot) (v : Visit) (s : Store) (m n j c : ℕ) (z : ℤ) → IsTrue f.free → o.result ≡ Some e.ty → Stands o.graph (with_expr arrays e d) (Return (Some (value_of arrays e d)))
      → At o (spot (with_expr arrays e d)) v s → IsValue (work (spot (with_expr arrays e d)) v) (value_of arrays e d) (pattern e.ty z) → j ≡ 1 → expr_price e ≤ c
      → (let r = taking n (ends (by_return (Some z))) s m in Follow o 0 0 f (spot d) v q r.how r.store j c)
  return_value f e d q v s m zero j c z free t st at h i le =
      let w = work (spot (with_expr arrays e d)) v in
      let is : Some (value_at w.values (value_of arrays e d)) ≡ result_pattern o.result (Some z) = ap Some h.is ∙ ap (λ r. result_pattern r (Some z)) (sym t) in
      let g = returns o (with_expr arrays e d) v s (Some (value_of arrays e d)) (Some z) at st is in
      (free, record { path = g.path; last = g.last; walks = g.walks; result = g.result; arrays = g.arrays; clean = g.clean; shown = g.shown; few = omega (arith, g.few); cheap = omega (arith, g.cheap, expr_cheap e d) })
  return_value f e d q v s zero (suc n) j c z free t st at h i le = tt
  return_value f e d q v s (suc m) (suc n) j c z free t st at h i le = return_value f e d q v s m n j c z free t st at h i le

  return_from : (f : Frame) (e : TypedExpr) (d : Draft) (q : Spot) (v : Visit) (s : Store) (m j c : ℕ) (u : Val) → IsTrue f.free → o.result ≡ Some e.ty → Stands o.graph (with_expr arrays e d) (Return (Some (value_of arrays e d))) → ExprLaw o.objects e → At o (spot d) v s → val o.objects s e ≡ u → j ≡ 1 → expr_price e ≤ c
      → (let r = with_val u (λ x. ends (by_return (Some x))) s m in Follow o 0 0 f (spot d) v q r.how r.store j c)
  return_from f e d q v s m j c (undefined_value p) free t st law at is i le = tt
  return_from f e d q v s m j c (value z n) free t st law at is i le = let h = evaluated o e d v s z n law at is in return_value f e d q v s m n j c z free t st h.at h.is i le

  pub return_does : (f : Frame) (e : TypedExpr) (d : Draft) (q : Spot) → IsTrue f.free → o.result ≡ Some e.ty → Stands o.graph (with_expr arrays e d) (Return (Some (value_of arrays e d))) → ExprLaw o.objects e
      → Does o 0 0 f (spot d) q (returned (meant_if_any o.objects (Some e))) (only (tally 1 (expr_price e)))
  return_does f e d q free t st law v s m at = return_from f e d q v s m 1 (expr_price e) (val o.objects s e) free t st law at refl refl (omega arith)

  pub return_none_does : (f : Frame) (d : Draft) (q : Spot) → IsTrue f.free → Stands o.graph d (Return None) → Does o 0 0 f (spot d) q (returned (meant_if_any o.objects None)) (only (tally 1 0))
  return_none_does f d q free st v s m at = (free, returns o d v s None None at st (none_result o.result))

  -- ---- conditions

  side_zero : (c x y : ℕ) (vs : List ℕ) → c ≡ 0 → side c (onto x vs) (onto y vs) ≡ onto y vs
  side_zero zero x y vs e = refl
  side_zero (suc c) x y vs e = absurd (omega arith)

  side_more : (c x y : ℕ) (vs : List ℕ) → 0 < c → side c (onto x vs) (onto y vs) ≡ onto x vs
  side_more zero x y vs e = absurd (omega arith)
  side_more (suc c) x y vs e = refl

  pub picks : (e : TypedExpr) (d : Draft) (a b : ℕ) → ExprLaw o.objects e → Stands o.graph (with_condition arrays e d) (Two (condition_of arrays e d) a b) → Picks o (spot d) (meaning o.objects e) a b (expr_price e)
  picks e d a b law st = record {
    yes_part = λ v s x t at is z.
        let h = told o e d v s x t law at is in
        let w = work (spot (with_condition arrays e d)) v in
        let some : 0 < value_at w.values (condition_of arrays e d) = subst (λ i. 0 < i) (sym h.evaluated.is.is) (h.some z) in
        let r = leads o (with_condition arrays e d) (Two (condition_of arrays e d) a b) v s a h.evaluated.at st (side_more (value_at w.values (condition_of arrays e d)) a b (map (value_at w.values) d.env) some) in
        let k = cond_cheap e d in
        record { path = r.path; to = r.to; walks = r.walks; few = r.few; cheap = omega (arith, r.cheap); at = r.at };
    no_part = λ v s x t at is z.
        let h = told o e d v s x t law at is in
        let w = work (spot (with_condition arrays e d)) v in
        let none : value_at w.values (condition_of arrays e d) ≡ 0 = h.evaluated.is.is ∙ h.none z in
        let r = leads o (with_condition arrays e d) (Two (condition_of arrays e d) a b) v s b h.evaluated.at st (side_zero (value_at w.values (condition_of arrays e d)) a b (map (value_at w.values) d.env) none) in
        let k = cond_cheap e d in
        record { path = r.path; to = r.to; walks = r.walks; few = r.few; cheap = omega (arith, r.cheap); at = r.at };
  }

  one_of_value : (x : ℤ) (t : ℕ) → value (pos 1) 0 ≡ value x t → pos 1 ≡ x
  one_of_value x t e = cc

  -- an absent condition holds
  pub picks_always : (d : Draft) (a b : ℕ) → Stands o.graph d (Go a) → Picks o (spot d) (always (pos 1)) a b 0
  picks_always d a b st = record {
    yes_part = λ v s x t at is z. reach_more o 0 (spot d) (entry (count o) a) v s 1 0 1 (0 + 2) (goes o d v s a at st) (omega arith) (omega arith);
    no_part = λ v s x t at is z. let e : pos 1 ≡ x = one_of_value x t is in let y : false ≡ true = ap is_zero e ∙ z in absurd (cc);
  }
