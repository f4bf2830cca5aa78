-- Targets and values of assignments: the expansions of indices, and the new value of an object.
use Rattle.std.proofs.Common.{◌≡◌, ℕ, ◌+◌, ◌*◌, ◌≤◌, List, [], ◌∷◌, ◌++◌, map, length, Option, Some, None, refl, sym, ◌∙◌, ap, subst, arith, length-append}
use Rattle.std.specs.Prelude.{Bool, false, ℤ, sum_by, All}
use Rattle.std.proofs.lemmas.List.Sums.{sum_by-cons}
use Rattle.std.proofs.lemmas.List.Elements.{All-head, All-tail}
use Rattle.std.proofs.lemmas.Option.{slice_get_within}
use Rattle.el_base.specs.declared.span.Span.{Span}
use Rattle.el_base.specs.declared.ty.Ty.{Ty}
use Rattle.c_ast.specs.Casts.{of_type}
use Rattle.c_ast.specs.Nodes.{typed_expr_nodes, typed_exprs_nodes}
use Rattle.c_ast.specs.ResultTypes.{result_type}
use Rattle.c_ast.specs.declared.tree.Binary.{Binary}
use Rattle.c_ast.specs.declared.tree.Binary.TheVariants.{Mul, Both, Either}
use Rattle.c_ast.specs.declared.typed.Object.{Object}
use Rattle.c_ast.specs.declared.typed.Object.TheVariants as object
use Rattle.c_ast.specs.declared.typed.TypedExpr.{TypedExpr}
use Rattle.c_ast.specs.declared.typed.TypedExprKind.TheVariants as expr
use Rattle.c_meaning.specs.declared.profile.Profile.{Profile}
use Rattle.c_meaning.specs.Types.{conv}
use Rattle.c_meaning.specs.Operators.{binary_value}
use Rattle.c_meaning.specs.Stores.{Store, Objects, read_var, place}
use Rattle.c_meaning.specs.Expressions.{value, values, Meaning, meaning, kind_meaning, all_values, after_turns, element_at, element, on_one, on_two}
use Rattle.c_meaning.specs.Counts.{counted, kind_price, expr_price, target_price, operator_price}
use Rattle.c_meaning.specs.Lawful.{LawfulExpr, IsObject, is_implied}
use Rattle.c_meaning.specs.Ranges.{ValuesFit}
use Rattle.c_meaning.specs.Statements.{Place, of_var, of_element, object_place, element_place, read_place, joined_in}
use Rattle.c_meaning.proofs.TreeEquations.{expr_var, expr_element, expr_cast, expr_binary}
use Rattle.c_meaning.proofs.PartsOfNumbers.{price_number, price_variable, price_element, price_cast, price_binary}
use Rattle.c_meaning.proofs.ValueParts.{element_of_arrays}
use Rattle.c_norm.specs.Expand.{Outs, setting, decided_by, expand_expr, rest_of, expand_all, set_all}
use Rattle.c_norm.specs.Forms.{object_kind, cast_to, new_value}
use Rattle.c_norm.proofs.Stores.{Matches}
use Rattle.c_norm.proofs.Expands.{Has}
use Rattle.c_norm.proofs.Rows.{ExpandsAll, none_expand, set_more}
use Rattle.c_norm.proofs.Built.{counted_all, Silent, silent_append, silent_one, counted_append, setting_sets, setting_silent}
use Rattle.c_norm.proofs.Costs.{kind_cost, kind_bounded, root_at_most}
use Rattle.c_norm.proofs.Meanings.{wide, value_kept, joins, Room, room_left, room_right}
use Rattle.c_norm.proofs.Expanded.{RowExpansion, expanded, no_row, more_law}

abbrev pub costs : List TypedExpr → ℕ
costs [] = 0
costs (e ∷ es) = kind_cost e.kind + costs es

-- an expression costs at most 13 for each node, with 11 to spare
pub expr_bounded : (k : Objects) (e : TypedExpr) → LawfulExpr k e → kind_cost e.kind + 11 ≤ 13 * typed_expr_nodes e
expr_bounded k e h = let i = kind_bounded k e.kind e.ty h in let r = root_at_most (is_implied e.kind) in omega arith

pub costs_bounded : (k : Objects) (es : List TypedExpr) → All (LawfulExpr k) es → costs es + 11 * length es ≤ 13 * typed_exprs_nodes es
costs_bounded k [] h = omega arith
costs_bounded k (e ∷ es) h =
    let i = expr_bounded k e (All-head (LawfulExpr k) e es h) in let j = costs_bounded k es (All-tail (LawfulExpr k) e es h) in let q = sum_by-cons typed_expr_nodes e es in omega arith

pub target_price_is : (es : List TypedExpr) → target_price es ≡ 1 + sum_by (λ e. 4 + expr_price e) es
target_price_is [] = refl
target_price_is (e ∷ es) = let i = target_price_is es in let q = sum_by-cons (λ e. 4 + expr_price e) e es in omega arith

-- ---- the price of a new value

plain_price : (op : Binary) → decided_by op ≡ None → operator_price op ≤ 1
plain_price Both e = absurd (cc)
plain_price Either e = absurd (cc)
plain_price op e = omega arith

object_price : (to : Object) (exprs : List TypedExpr) (n : ℕ) → sum_by (λ e. 4 + expr_price e) exprs ≡ 5 * n → kind_price (object_kind to exprs) ≤ 1 + 5 * n
object_price (object.Var v) exprs n h = let p = price_variable v in omega arith
object_price (object.Array a) exprs n h = let p = price_element a exprs in omega arith

pub new_price : (op : Binary) (d : Option Bool) (t j : Ty) (to : Object) (exprs : List TypedExpr) (n : ℕ) (at : Span) (e : TypedExpr) (s : Span) → decided_by op ≡ d → sum_by (λ e. 4 + expr_price e) exprs ≡ 5 * n
    → expr_price (new_value d op t j (of_type (object_kind to exprs) t at) e s) ≤ 5 + 5 * n + expr_price e
new_price op None t j to exprs n at e s d h =
    let old = of_type (object_kind to exprs) t at in
    let a = price_cast false (of_type (expr.Binary op (cast_to j old) e) (result_type op j) s) in
    let b = price_binary op (cast_to j old) e in
    let c = price_cast false old in
    let o = object_price to exprs n h in
    let q = plain_price op d in
    omega arith
new_price op (Some x) t j to exprs n at e s d h = let p = price_number 0 in omega arith

-- ---- expansions

module _ (k : Objects) (ws : List Ty) (fit : ValuesFit) where
  abbrev k2 : Objects
  k2 = wide k ws

  abbrev all : ℕ
  all = length ws

  pub all_expanded : (es : List TypedExpr) (f : ℕ) → length k.vars ≤ f → All (LawfulExpr k) es → Room ws f (expand_all f es).types → RowExpansion k ws fit f (4 * length es + costs es) (map (meaning k) es) (expand_all f es)
  all_expanded [] f own h room = no_row k ws fit f own
  all_expanded (e ∷ es) f own h room =
      let o = expand_expr f e in
      let g = f + length o.types in
      let r = expand_all g es in
      let x = expanded k ws fit e.kind e.ty e.at f own (All-head (LawfulExpr k) e es h) (room_left ws f o.types r.types room) in
      let y = all_expanded es g (omega arith) (All-tail (LawfulExpr k) e es h) (room_right ws f o.types r.types room) in
      let z = more_law k ws fit f (kind_cost e.kind) (4 * length es + costs es) (meaning k e) (map (meaning k) es) e.ty e.at o r x y in
      record { most = z.most; cheap = let c = z.cheap in omega arith; does = z.does; silent = z.silent }

  -- indices that are set to variables
  pub record SetExpansion (f n cost : ℕ) (ms : List Meaning) (o : Outs) : Type 0 where
    pub most : ℕ
    pub cheap : most ≤ cost
    pub does : ExpandsAll k all f (f + length o.types) ms (counted_all k2 o.before) (map (meaning k2) o.exprs) most
    pub silent : Silent (counted_all k2 o.before)
    pub price : sum_by (λ e. 4 + expr_price e) o.exprs ≡ 5 * n

  set_types : (f : ℕ) (xs ys : List Ty) (t : Ty) → f + length xs + 1 + length ys ≡ f + length (xs ++ t ∷ ys)
  set_types f xs ys t = let e = length-append xs (t ∷ ys) in omega arith

  pub set_expanded : (es : List TypedExpr) (f : ℕ) → length k.vars ≤ f → All (LawfulExpr k) es → Room ws f (set_all f es).types → SetExpansion f (length es) (2 * length es + costs es) (map (meaning k) es) (set_all f es)
  set_expanded [] f own h room = record {
    most = 0;
    cheap = omega arith;
    does = subst (λ g. ExpandsAll k all f g [] [] [] 0) (let e : f ≡ f + 0 = omega arith in e) (none_expand k all f own);
    silent = refl;
    price = refl;
  }
  set_expanded (e ∷ es) f own h room =
      let o = expand_expr f e in
      let v = f + length o.types in
      let r = set_all (v + 1) es in
      let le = All-head (LawfulExpr k) e es h in
      let tail = room_right ws f o.types (e.ty ∷ r.types) room in
      let there : Room ws (v + 1) r.types = record { types = tail.types.1; within = let w = tail.within in omega arith } in
      let x = expanded k ws fit e.kind e.ty e.at f own le (room_left ws f o.types (e.ty ∷ r.types) room) in
      let y = set_expanded es (v + 1) (omega arith) (All-tail (LawfulExpr k) e es h) there in
      let st = setting v (rest_of o e) e.at in
      let var = of_type (expr.Var v) e.ty e.at in
      let q = 2 + kind_price o.kind in
      let most = x.most + q + y.most in
      let lefts = map (meaning k2) r.exprs in
      let a = set_more k all e.at e.ty f v v (v + 1 + length r.types) x.most q y.most (meaning k e) (meaning k2 (rest_of o e)) (map (meaning k) es) lefts (counted_all k2 o.before) (counted_all k2 r.before) (counted k2 st) x.does (omega arith) (let w = tail.within in omega arith)
      (setting_sets k2 v e.ty (rest_of o e) e.at tail.types.0) (value_kept k all fit e.kind e.ty e.at le) y.does in
      let b = subst (λ l. ExpandsAll k all f (v + 1 + length r.types) (meaning k e ∷ map (meaning k) es) (counted_all k2 o.before ++ counted k2 st ∷ counted_all k2 r.before) (l ∷ lefts) most) (sym (expr_var v k2 e.ty e.at)) a in
      let c = subst (λ p. ExpandsAll k all f (v + 1 + length r.types) (meaning k e ∷ map (meaning k) es) p (meaning k2 var ∷ lefts) most) (sym (counted_append k2 o.before (st ∷ r.before))) b in
      record {
        most = most;
        cheap = let c = x.cheap in let d = y.cheap in omega arith;
        does = subst (λ g. ExpandsAll k all f g (meaning k e ∷ map (meaning k) es) (counted_all k2 (o.before ++ st ∷ r.before)) (meaning k2 var ∷ lefts) most) (set_types f o.types r.types e.ty) c;
        silent = subst Silent (sym (counted_append k2 o.before (st ∷ r.before))) (silent_append (counted_all k2 o.before) (counted k2 st ∷ counted_all k2 r.before) x.silent (silent_append (counted k2 st ∷ []) (counted_all k2 r.before) (silent_one (counted k2 st) (setting_silent k2 v (rest_of o e) e.at)) y.silent));
        price = let p = sum_by-cons (λ e. 4 + expr_price e) var r.exprs in let w = price_variable v in let z = y.price in omega arith;
      }

  -- ---- the old value of an object, and the new one

  some_is : {A : Type 0} (a b : A) → Some a ≡ Some b → a ≡ b
  some_is a b e = cc

  element_has : (a : ℕ) (exprs : List TypedExpr) (t : Ty) (at : Span) (s r : Store) (is : List ℤ) (u : ℕ) (q : Option ℕ) (p : Place) (old : ℤ) → all_values (map (meaning k2) exprs) r ≡ values is u → place k.arrays a is ≡ q → element_place a q ≡ Some p → read_place s p ≡ Some old → Matches k all s r
      → Has (kind_meaning k2 (expr.Element a exprs) t at) r old
  element_has a exprs t at s r is u None p old ia iq ip io m = absurd (cc)
  element_has a exprs t at s r is u (Some i) p old ia iq ip io m = record {
    turns = u;
    is = ap (λ f. f r) (expr_element a exprs k2 t at) ∙ ap (λ vs. element k2 at r a vs) ia ∙ ap (λ o. after_turns at u (element_at r a o)) iq ∙ ap (after_turns at u) (sym (element_of_arrays a (Some i) s r m.arrays) ∙ subst (λ w. read_place s w ≡ Some old) (sym (some_is (of_element a i) p ip)) io);
  }

  pub old_has : (to : Object) (exprs : List TypedExpr) (n : ℕ) (ty t : Ty) (at : Span) (s r : Store) (is : List ℤ) (u : ℕ) (p : Place) (old : ℤ) → IsObject k to n ty → all_values (map (meaning k2) exprs) r ≡ values is u → object_place k.arrays to is ≡ Some p → read_place s p ≡ Some old → Matches k all s r
      → Has (kind_meaning k2 (object_kind to exprs) t at) r old
  old_has (object.Var v) exprs n ty t at s r [] u p old h ia ip io m = record {
    turns = 0;
    is =
        let e : read_var s v ≡ Some old = subst (λ w. read_place s w ≡ Some old) (sym (some_is (of_var v) p ip)) io in
        ap (λ f. f r) (expr_var v k2 t at) ∙ ap (after_turns at 0) (sym (m.vars v (slice_get_within k.vars v ty h.0)) ∙ e);
  }
  old_has (object.Var v) exprs n ty t at s r (i ∷ is) u p old h ia ip io m = absurd (cc)
  old_has (object.Array a) exprs n ty t at s r is u p old h ia ip io m = element_has a exprs t at s r is u (place k.arrays a is) p old ia refl ip io m

  -- the type of the result makes no difference to an operator that evaluates both operands
  joint_value : (p : Profile) (op : Binary) (j : Ty) (x y : ℤ) → binary_value p op (result_type op j) x y ≡ binary_value p op j x y
  joint_value p Mul j x y = refl
  joint_value p op j x y = refl

  -- an operator that needs not both is none of an assignment
  pub no_logical : (p : Profile) (op : Binary) (j : Ty) (x y z : ℤ) (d : Option Bool) → decided_by op ≡ d → joined_in p op j x y ≡ Some z → d ≡ None
  no_logical p op j x y z None e i = refl
  no_logical p Both j x y z (Some d) e i = absurd (cc)
  no_logical p Either j x y z (Some d) e i = absurd (cc)
  no_logical p op j x y z (Some d) e i = absurd (cc)

  pub new_has : (op : Binary) (t j : Ty) (old e : TypedExpr) (s : Span) (r : Store) (x y z : ℤ) → decided_by op ≡ None → Has (meaning k2 old) r x → Has (meaning k2 e) r y → joined_in k.profile op j x y ≡ Some z → Has (meaning k2 (new_value None op t j old e s)) r (conv t z)
  new_has op t j old e s r x y z d a b i =
      let c = cast_to j old in
      let w = of_type (expr.Binary op c e) (result_type op j) s in
      let turns = a.turns + b.turns in
      let ci : meaning k2 c r ≡ value (conv j x) a.turns = ap (λ f. f r) (expr_cast false old k2 j old.at) ∙ ap (on_one old.at (λ x. Some (conv j x))) a.is in
      let wi : meaning k2 w r ≡ value z turns =
      ap (λ f. f r) (expr_binary op c e k2 (result_type op j) s) ∙ ap (λ f. f r) (joins k.profile op (result_type op j) s (meaning k2 c) (meaning k2 e) d)
      ∙ ap (λ v. on_two s (binary_value k.profile op (result_type op j)) v (meaning k2 e r)) ci ∙ ap (λ v. on_two s (binary_value k.profile op (result_type op j)) (value (conv j x) a.turns) v) b.is
      ∙ ap (after_turns s turns) (joint_value k.profile op j (conv j x) y ∙ i) in
      record { turns = turns; is = ap (λ f. f r) (expr_cast false w k2 t s) ∙ ap (on_one s (λ x. Some (conv t x))) wi }
