-- Each lawful expression of the kernel by its expansion: what is set before it runs first, and what is left has its value.
use Rattle.std.proofs.Common.{◌≡◌, ℕ, ◌+◌, ◌≤◌, List, [], ◌∷◌, ◌++◌, map, length, Option, Some, None, refl, sym, ◌∙◌, ap, subst, arith, length-append}
use Rattle.std.specs.Prelude.{Bool, true, false, not, ℤ, pos, sum_by, ◌==◌}
use Rattle.std.proofs.lemmas.List.Sums.{sum_by-cons}
use mathlib.Core.Former.{Count}
use Rattle.el_base.specs.declared.span.Span.{Span}
use Rattle.el_base.specs.declared.ty.Ty.{Ty}
use Rattle.el_base.specs.declared.ty.Ty.TheVariants.{I32}
use Rattle.c_ast.specs.Casts.{of_type}
use Rattle.c_ast.specs.declared.tree.Binary.{Binary}
use Rattle.c_ast.specs.declared.typed.TypedExpr.{TypedExpr}
use Rattle.c_ast.specs.declared.typed.TypedExprKind.{TypedExprKind, Row_of-TypedExpr, end_of-TypedExpr, more_of-TypedExpr}
use Rattle.c_ast.specs.declared.typed.TypedExprKind as tree
use Rattle.c_ast.specs.declared.typed.TypedExprKind.TheVariants as expr
use Rattle.c_ast.specs.declared.normal.NormalStmt.{NormalStmt}
use Rattle.c_meaning.specs.Types.{conv}
use Rattle.c_meaning.specs.Operators.{is_zero, unary_value, binary_value}
use Rattle.c_meaning.specs.Stores.{Store, Objects}
use Rattle.c_meaning.specs.Expressions.{value, Meaning, meaning, kind_meaning, row_meanings, on_one, on_two, chosen, as_truth, always, binary_meaning, element, all_values}
use Rattle.c_meaning.specs.Counts.{counted, kind_price, expr_price}
use Rattle.c_meaning.specs.Lawful.{LawfulKind, LawfulRow}
use Rattle.c_meaning.specs.Ranges.{ValuesFit}
use Rattle.c_meaning.specs.Sizes.{reads}
use Rattle.c_meaning.proofs.TreeEquations.{expr_number, expr_var, expr_element, expr_unary, expr_cast, expr_binary, expr_choose}
use Rattle.c_meaning.proofs.PartsOfNumbers.{price_number, price_variable, price_element, price_unary, price_cast, price_binary, price_choice}
use Rattle.c_meaning.proofs.ValueParts.{value_one}
use Rattle.c_norm.specs.Expand.{Out, Outs, whole, setting, constant, truth_of, side, choice, decided_by, joined_out, logical_out, binary_out, choose_out, expand, expand_row}
use Rattle.c_norm.proofs.Expands.{Expands, Fills, Same, whole_expands, one_expands, two_expand, choose_expands, set_fills, choice_expands}
use Rattle.c_norm.proofs.Stores.{Matches}
use Rattle.c_norm.proofs.Rows.{ExpandsAll, none_expand, more_expand, element_expands}
use Rattle.c_norm.proofs.Built.{counted_all, Silent, silent_append, silent_one, counted_append, setting_sets, choice_silent, choice_chooses}
use Rattle.c_norm.proofs.Costs.{operator_cost, operator_kept, kind_cost, row_cost, kind_kept}
use Rattle.c_norm.proofs.Meanings.{wide, whole_same, value_kept, joins, yes_side, no_side, decides, truth_kept, truth_from, truth_expands, Room, room_left, room_right}

module _ (k : Objects) (ws : List Ty) (fit : ValuesFit) where
  abbrev k2 : Objects
  k2 = wide k ws

  abbrev all : ℕ
  all = length ws

  -- the expansion o of an expression of a meaning, whose variables begin at f
  pub record Expansion (f cost : ℕ) (m : Meaning) (ty : Ty) (at : Span) (o : Out) : Type 0 where
    pub most : ℕ
    pub cheap : most + kind_price o.kind ≤ cost
    pub does : Expands k all f (f + length o.types) m (counted_all k2 o.before) (kind_meaning k2 o.kind ty at) most
    pub silent : Silent (counted_all k2 o.before)

  pub record RowExpansion (f cost : ℕ) (ms : List Meaning) (o : Outs) : Type 0 where
    pub most : ℕ
    pub cheap : most + sum_by (λ e. 4 + expr_price e) o.exprs ≤ cost
    pub does : ExpandsAll k all f (f + length o.types) ms (counted_all k2 o.before) (map (meaning k2) o.exprs) most
    pub silent : Silent (counted_all k2 o.before)

  pub whole_law : (e : TypedExprKind) (ty : Ty) (at : Span) (f : ℕ) → length k.vars ≤ f → LawfulKind k e ty → Expansion f (kind_cost e) (kind_meaning k e ty at) ty at (whole e)
  whole_law e ty at f own h = record {
    most = 0;
    cheap = let c = kind_kept e in omega arith;
    does = subst (λ g. Expands k all f g (kind_meaning k e ty at) [] (kind_meaning k2 e ty at) 0) (let e : f ≡ f + 0 = omega arith in e) (whole_expands k all f (kind_meaning k e ty at) (kind_meaning k2 e ty at) own (whole_same k ws e ty at h));
    silent = refl;
  }

  unary_law : (op : _) (f c : ℕ) (m : Meaning) (t ty : Ty) (at s : Span) (o : Out) → Expansion f c m t at o → Expansion f (1 + c) (λ z. on_one s (unary_value k.profile op ty) (m z)) ty s (record { before = o.before; kind = expr.Unary op (of_type o.kind t at); types = o.types })
  unary_law op f c m t ty at s o i = record {
    most = i.most;
    cheap = let p = price_unary op (of_type o.kind t at) in let q = i.cheap in omega arith;
    does = subst (λ l. Expands k all f (f + length o.types) (λ z. on_one s (unary_value k.profile op ty) (m z)) (counted_all k2 o.before) l i.most) (sym (expr_unary op (of_type o.kind t at) k2 ty s))
        (one_expands k all s (unary_value k.profile op ty) f (f + length o.types) i.most m (kind_meaning k2 o.kind t at) (counted_all k2 o.before) i.does);
    silent = i.silent;
  }

  cast_law : (implied : Bool) (f c : ℕ) (m : Meaning) (t ty : Ty) (at s : Span) (o : Out) → Expansion f c m t at o → Expansion f (1 + c) (λ z. on_one s (λ x. Some (conv ty x)) (m z)) ty s (record { before = o.before; kind = expr.Cast implied (of_type o.kind t at); types = o.types })
  cast_law implied f c m t ty at s o i = record {
    most = i.most;
    cheap = let p = price_cast implied (of_type o.kind t at) in let q = i.cheap in omega arith;
    does = subst (λ l. Expands k all f (f + length o.types) (λ z. on_one s (λ x. Some (conv ty x)) (m z)) (counted_all k2 o.before) l i.most) (sym (expr_cast implied (of_type o.kind t at) k2 ty s))
        (one_expands k all s (λ x. Some (conv ty x)) f (f + length o.types) i.most m (kind_meaning k2 o.kind t at) (counted_all k2 o.before) i.does);
    silent = i.silent;
  }

  -- the variables of two parts, one after the other
  two_types : (f : ℕ) (xs ys : List Ty) → f + length xs + length ys ≡ f + length (xs ++ ys)
  two_types f xs ys = let e = length-append xs ys in omega arith

  joined_law : (op : Binary) (f c c2 : ℕ) (m m2 : Meaning) (t t2 ty : Ty) (at at2 s : Span) (o o2 : Out) → decided_by op ≡ None → Expansion f c m t at o → Expansion (f + length o.types) c2 m2 t2 at2 o2
      → Expansion f (operator_cost op + c + c2) (binary_meaning k.profile op ty s m m2) ty s (joined_out op o t at o2 t2 at2)
  joined_law op f c c2 m m2 t t2 ty at at2 s o o2 d i j =
      let a2 = kind_meaning k2 o.kind t at in
      let b2 = kind_meaning k2 o2.kind t2 at2 in
      let most = i.most + j.most in
      let parts = counted_all k2 o.before ++ counted_all k2 o2.before in
      let x : Expands k all f (f + length o.types + length o2.types) (λ z. on_two s (binary_value k.profile op ty) (m z) (m2 z)) parts (λ z. on_two s (binary_value k.profile op ty) (a2 z) (b2 z)) most =
      two_expand k all s (binary_value k.profile op ty) f (f + length o.types) (f + length o.types + length o2.types) i.most j.most m m2 a2 b2 (counted_all k2 o.before) (counted_all k2 o2.before) i.does j.does in
      let left : (λ z. on_two s (binary_value k.profile op ty) (a2 z) (b2 z)) ≡ kind_meaning k2 (expr.Binary op (of_type o.kind t at) (of_type o2.kind t2 at2)) ty s =
      sym (joins k.profile op ty s a2 b2 d) ∙ sym (expr_binary op (of_type o.kind t at) (of_type o2.kind t2 at2) k2 ty s) in
      let y = subst (λ w. Expands k all f (f + length o.types + length o2.types) w parts (λ z. on_two s (binary_value k.profile op ty) (a2 z) (b2 z)) most) (sym (joins k.profile op ty s m m2 d)) x in
      let z = subst (λ l. Expands k all f (f + length o.types + length o2.types) (binary_meaning k.profile op ty s m m2) parts l most) left y in
      let v = subst (λ p. Expands k all f (f + length o.types + length o2.types) (binary_meaning k.profile op ty s m m2) p (kind_meaning k2 (expr.Binary op (of_type o.kind t at) (of_type o2.kind t2 at2)) ty s) most) (sym (counted_append k2 o.before o2.before)) z in
      record {
        most = most;
        cheap = let p = price_binary op (of_type o.kind t at) (of_type o2.kind t2 at2) in let q = operator_kept op in let ci = i.cheap in let cj = j.cheap in omega arith;
        does = subst (λ g. Expands k all f g (binary_meaning k.profile op ty s m m2) (counted_all k2 (o.before ++ o2.before)) (kind_meaning k2 (expr.Binary op (of_type o.kind t at) (of_type o2.kind t2 at2)) ty s) most) (two_types f o.types o2.types) v;
        silent = subst Silent (sym (counted_append k2 o.before o2.before)) (silent_append (counted_all k2 o.before) (counted_all k2 o2.before) i.silent j.silent);
      }

  -- ---- choices

  -- a variable is set to what is left
  fills : (t : Ty) (f g v p : ℕ) (m : Meaning) (e : TypedExpr) (s : Span) (before : List NormalStmt) → Expands k all f g m (counted_all k2 before) (meaning k2 e) p → g ≤ v → Room ws v (t ∷ []) → ((s r : Store) (x : ℤ) (u : ℕ) → Matches k all s r → m s ≡ value x u → conv t x ≡ x)
      → Fills k all f v m (counted_all k2 before ++ counted k2 (setting v e s) ∷ []) (p + (2 + expr_price e))
  fills t f g v p m e s before i le room kept =
      set_fills k all t f g v p (2 + expr_price e) m (meaning k2 e) (counted_all k2 before) (counted k2 (setting v e s)) i le (let w = room.within in omega arith) (setting_sets k2 v t e s room.types.0) kept

  constant_fills : (f v n : ℕ) (s : Span) → length k.vars ≤ f → f ≤ v → Room ws v (I32 ∷ []) → conv I32 (pos n) ≡ pos n → Fills k all f v (λ z. value (pos n) 0) (counted k2 (setting v (constant n s) s) ∷ []) (0 + (2 + 1))
  constant_fills f v n s own le room kept =
      let left : meaning k2 (constant n s) ≡ (λ z. value (pos n) 0) = expr_number n k2 I32 s in
      let x = whole_expands k all f (λ z. value (pos n) 0) (λ z. value (pos n) 0) own (λ a b h. refl) in
      let y = subst (λ l. Expands k all f f (λ z. value (pos n) 0) [] l 0) (sym left) x in
      let same : (a b : Store) (z : ℤ) (u : ℕ) → Matches k all a b → value (pos n) 0 ≡ value z u → conv I32 z ≡ z = λ a b z u h e. let is = value_one (pos n) z 0 u e in ap (conv I32) (sym is) ∙ kept ∙ is in
      subst (λ q. Fills k all f v (λ z. value (pos n) 0) (counted k2 (setting v (constant n s) s) ∷ []) (0 + (2 + q))) (price_number n) (fills I32 f f v 0 (λ z. value (pos n) 0) (constant n s) s [] y le room same)

  truth_price : (e : TypedExpr) (s : Span) → expr_price (truth_of e s) ≡ 5 + expr_price e
  truth_price e s = let p = price_choice e (constant 1 s) (constant 0 s) in let q = price_number 1 in let r = price_number 0 in omega arith

  truth_fills : (f g v p : ℕ) (m : Meaning) (e : TypedExpr) (s : Span) (before : List NormalStmt) → Expands k all f g m (counted_all k2 before) (meaning k2 e) p → g ≤ v → Room ws v (I32 ∷ [])
      → Fills k all f v (λ z. as_truth (m z)) (counted_all k2 before ++ counted k2 (setting v (truth_of e s) s) ∷ []) (p + (2 + (5 + expr_price e)))
  truth_fills f g v p m e s before i le room =
      let left : meaning k2 (truth_of e s) ≡ (λ z. chosen (meaning k2 e z) (always (pos 1)) (always (pos 0)) z) =
      expr_choose e (constant 1 s) (constant 0 s) k2 I32 s ∙ ap (λ a z. chosen (meaning k2 e z) a (meaning k2 (constant 0 s)) z) (expr_number 1 k2 I32 s) ∙ ap (λ a z. chosen (meaning k2 e z) (always (pos 1)) a z) (expr_number 0 k2 I32 s) in
      let x = truth_expands k all f g p m (meaning k2 e) (counted_all k2 before) i in
      let y = subst (λ l. Expands k all f g (λ z. as_truth (m z)) (counted_all k2 before) l p) (sym left) x in
      let same : (a b : Store) (z : ℤ) (u : ℕ) → Matches k all a b → as_truth (m a) ≡ value z u → conv I32 z ≡ z = λ a b z u h e. let o = truth_from (m a) z u e in ap (conv I32) (sym o.number) ∙ truth_kept (not (is_zero o.z)) ∙ o.number in
      subst (λ q. Fills k all f v (λ z. as_truth (m z)) (counted_all k2 before ++ counted k2 (setting v (truth_of e s) s) ∷ []) (p + (2 + q))) (truth_price e s) (fills I32 f g v p (λ z. as_truth (m z)) (truth_of e s) s before y le room same)

  -- a choice that sets v, after the expansion of its condition
  chosen_law : (f h v p q r cost : ℕ) (c a b : Meaning) (t ty : Ty) (at s : Span) (o : Out) (before before2 : List NormalStmt) (e e2 : TypedExpr) (types : List Ty) (i : Expansion f cost c t at o)
      → Fills k all (f + length o.types) v a (counted_all k2 before ++ counted k2 (setting v e s) ∷ []) q → Fills k all h v b (counted_all k2 before2 ++ counted k2 (setting v e2 s) ∷ []) r → f + length o.types ≤ h
      → Silent (counted_all k2 before) → Silent (counted_all k2 before2) → v + 1 ≡ f + length types
      → Expansion f (cost + 2 + (q + r) + 1) (λ z. chosen (c z) a b z) ty s (record { before = o.before ++ choice v (of_type o.kind t at) (side v before e s) (side v before2 e2 s) s ∷ []; kind = expr.Var v; types = types })
  chosen_law f h v p q r cost c a b t ty at s o before before2 e e2 types i fa fb le sa sb end =
      let cond = of_type o.kind t at in
      let stmt = choice v cond (side v before e s) (side v before2 e2 s) s in
      let most = i.most + (expr_price cond + 2 + (q + r)) in
      let x = choice_expands k all s f (f + length o.types) h v i.most (expr_price cond) q r c (meaning k2 cond) a b (counted_all k2 o.before) (counted_all k2 before ++ counted k2 (setting v e s) ∷ []) (counted_all k2 before2 ++ counted k2 (setting v e2 s) ∷ []) (counted k2 stmt)
      i.does fa fb le (choice_chooses k2 v cond before e before2 e2 s sa sb) in
      let y = subst (λ l. Expands k all f (v + 1) (λ z. chosen (c z) a b z) (counted_all k2 o.before ++ counted k2 stmt ∷ []) l most) (sym (expr_var v k2 ty s)) x in
      let z = subst (λ l. Expands k all f (v + 1) (λ z. chosen (c z) a b z) l (kind_meaning k2 (expr.Var v) ty s) most) (sym (counted_append k2 o.before (stmt ∷ []))) y in
      record {
        most = most;
        cheap = let w = i.cheap in let u = price_variable v in omega arith;
        does = subst (λ g. Expands k all f g (λ z. chosen (c z) a b z) (counted_all k2 (o.before ++ stmt ∷ [])) (kind_meaning k2 (expr.Var v) ty s) most) end z;
        silent = subst Silent (sym (counted_append k2 o.before (stmt ∷ []))) (silent_append (counted_all k2 o.before) (counted k2 stmt ∷ []) i.silent (silent_one (counted k2 stmt) (choice_silent k2 v cond (side v before e s) (side v before2 e2 s) s)));
      }

  less : (f c d : ℕ) (m : Meaning) (ty : Ty) (at : Span) (o : Out) → c ≤ d → Expansion f c m ty at o → Expansion f d m ty at o
  less f c d m ty at o le i = record { most = i.most; cheap = let c = i.cheap in omega arith; does = i.does; silent = i.silent }

  -- the variables of two parts and of the choice
  three_types : (f : ℕ) (xs ys : List Ty) (t : Ty) → f + length xs + length ys + 1 ≡ f + length (xs ++ (ys ++ t ∷ []))
  three_types f xs ys t = let e = length-append xs (ys ++ t ∷ []) in let d = length-append ys (t ∷ []) in omega arith

  four_types : (f : ℕ) (xs ys zs : List Ty) (t : Ty) → f + length xs + length ys + length zs + 1 ≡ f + length (xs ++ (ys ++ (zs ++ t ∷ [])))
  four_types f xs ys zs t = let e = length-append xs (ys ++ (zs ++ t ∷ [])) in let d = length-append ys (zs ++ t ∷ []) in let c = length-append zs (t ∷ []) in omega arith

  logical_law : (d : Bool) (f c c2 : ℕ) (m m2 : Meaning) (t t2 ty : Ty) (at at2 s : Span) (o o2 : Out) → length k.vars ≤ f → Expansion f c m t at o → Expansion (f + length o.types) c2 m2 t2 at2 o2 → Room ws (f + length o.types + length o2.types) (I32 ∷ [])
      → Expansion f (13 + c + c2) (λ z. chosen (m z) (yes_side d m2) (no_side d m2) z) ty s (logical_out d (f + length o.types + length o2.types) o t at o2 t2 at2 s)
  logical_law false f c c2 m m2 t t2 ty at at2 s o o2 own i j room =
      let g = f + length o.types in
      let v = g + length o2.types in
      let b = of_type o2.kind t2 at2 in
      let q = j.most + (2 + (5 + expr_price b)) in
      let r = 0 + (2 + 1) in
      let fa = truth_fills g v v j.most m2 b s o2.before j.does (omega arith) room in
      let fb = constant_fills g v 0 s (omega arith) (omega arith) room refl in
      less f (c + 2 + (q + r) + 1) (13 + c + c2) (λ z. chosen (m z) (yes_side false m2) (no_side false m2) z) ty s (logical_out false v o t at o2 t2 at2 s) (let w = j.cheap in omega arith)
      (chosen_law f g v i.most q r c m (yes_side false m2) (no_side false m2) t ty at s o o2.before [] (truth_of b s) (constant 0 s) (o.types ++ (o2.types ++ I32 ∷ [])) i fa fb (omega arith) j.silent refl (three_types f o.types o2.types I32))
  logical_law true f c c2 m m2 t t2 ty at at2 s o o2 own i j room =
      let g = f + length o.types in
      let v = g + length o2.types in
      let b = of_type o2.kind t2 at2 in
      let q = 0 + (2 + 1) in
      let r = j.most + (2 + (5 + expr_price b)) in
      let fa = constant_fills g v 1 s (omega arith) (omega arith) room refl in
      let fb = truth_fills g v v j.most m2 b s o2.before j.does (omega arith) room in
      less f (c + 2 + (q + r) + 1) (13 + c + c2) (λ z. chosen (m z) (yes_side true m2) (no_side true m2) z) ty s (logical_out true v o t at o2 t2 at2 s) (let w = j.cheap in omega arith)
      (chosen_law f g v i.most q r c m (yes_side true m2) (no_side true m2) t ty at s o [] o2.before (constant 1 s) (truth_of b s) (o.types ++ (o2.types ++ I32 ∷ [])) i fa fb (omega arith) refl j.silent (three_types f o.types o2.types I32))

  binary_law : (op : Binary) (d : Option Bool) (z : Bool) (kind : TypedExprKind) (f c c2 : ℕ) (m m2 : Meaning) (t t2 ty : Ty) (at at2 s : Span) (o o2 : Out) → length k.vars ≤ f → decided_by op ≡ d
      → Expansion f (operator_cost op + c + c2) (binary_meaning k.profile op ty s m m2) ty s (whole kind) → (Room ws f o.types → Expansion f c m t at o) → (Room ws (f + length o.types) o2.types → Expansion (f + length o.types) c2 m2 t2 at2 o2)
      → Room ws f (binary_out d z kind op (f + length o.types + length o2.types) o t at o2 t2 at2 s).types → Expansion f (operator_cost op + c + c2) (binary_meaning k.profile op ty s m m2) ty s (binary_out d z kind op (f + length o.types + length o2.types) o t at o2 t2 at2 s)
  binary_law op None z kind f c c2 m m2 t t2 ty at at2 s o o2 own e w i j room = joined_law op f c c2 m m2 t t2 ty at at2 s o o2 e (i (room_left ws f o.types o2.types room)) (j (room_right ws f o.types o2.types room))
  binary_law op (Some d) true kind f c c2 m m2 t t2 ty at at2 s o o2 own e w i j room = w
  binary_law op (Some d) false kind f c c2 m m2 t t2 ty at at2 s o o2 own e w i j room =
      let l = decides k.profile op d e in
      let v = f + length o.types + length o2.types in
      let tail = room_right ws f o.types (o2.types ++ I32 ∷ []) room in
      let x = logical_law d f c c2 m m2 t t2 ty at at2 s o o2 own (i (room_left ws f o.types (o2.types ++ I32 ∷ []) room)) (j (room_left ws (f + length o.types) o2.types (I32 ∷ []) tail)) (room_right ws (f + length o.types) o2.types (I32 ∷ []) tail) in
      let y = less f (13 + c + c2) (operator_cost op + c + c2) (λ z. chosen (m z) (yes_side d m2) (no_side d m2) z) ty s (logical_out d v o t at o2 t2 at2 s) (let q = l.cost in omega arith) x in
      subst (λ n. Expansion f (operator_cost op + c + c2) n ty s (logical_out d v o t at o2 t2 at2 s)) (sym (l.means ty s m m2)) y

  choose_law : (z : Bool) (f c c2 c3 : ℕ) (m m2 m3 : Meaning) (x y : TypedExpr) (t t2 t3 ty : Ty) (at at2 at3 s : Span) (o o2 o3 : Out) → length k.vars ≤ f → Same k all m2 (meaning k2 x) → Same k all m3 (meaning k2 y) → expr_price x ≤ c2 → expr_price y ≤ c3
      → ((s r : Store) (x : ℤ) (u : ℕ) → Matches k all s r → m2 s ≡ value x u → conv ty x ≡ x) → ((s r : Store) (x : ℤ) (u : ℕ) → Matches k all s r → m3 s ≡ value x u → conv ty x ≡ x)
      → (Room ws f o.types → Expansion f c m t at o) → (Room ws (f + length o.types) o2.types → Expansion (f + length o.types) c2 m2 t2 at2 o2) → (Room ws (f + length o.types + length o2.types) o3.types → Expansion (f + length o.types + length o2.types) c3 m3 t3 at3 o3)
      → Room ws f (choose_out z x y (f + length o.types + length o2.types + length o3.types) o t at o2 t2 at2 o3 t3 at3 ty s).types
      → Expansion f (7 + c + c2 + c3) (λ w. chosen (m w) m2 m3 w) ty s (choose_out z x y (f + length o.types + length o2.types + length o3.types) o t at o2 t2 at2 o3 t3 at3 ty s)
  choose_law true f c c2 c3 m m2 m3 x y t t2 t3 ty at at2 at3 s o o2 o3 own sx sy px py k2s k3s i j l room =
      let a = i room in
      let cond = of_type o.kind t at in
      record {
        most = a.most;
        cheap = let p = price_choice cond x y in let q = a.cheap in omega arith;
        does = subst (λ w. Expands k all f (f + length o.types) (λ w. chosen (m w) m2 m3 w) (counted_all k2 o.before) w a.most) (sym (expr_choose cond x y k2 ty s))
            (choose_expands k all f (f + length o.types) a.most m (meaning k2 cond) m2 (meaning k2 x) m3 (meaning k2 y) (counted_all k2 o.before) a.does sx sy);
        silent = a.silent;
      }
  choose_law false f c c2 c3 m m2 m3 x y t t2 t3 ty at at2 at3 s o o2 o3 own sx sy px py k2s k3s i j l room =
      let g = f + length o.types in
      let h = g + length o2.types in
      let v = h + length o3.types in
      let tail = room_right ws f o.types (o2.types ++ (o3.types ++ ty ∷ [])) room in
      let tail3 = room_right ws g o2.types (o3.types ++ ty ∷ []) tail in
      let a = i (room_left ws f o.types (o2.types ++ (o3.types ++ ty ∷ [])) room) in
      let b = j (room_left ws g o2.types (o3.types ++ ty ∷ []) tail) in
      let d = l (room_left ws h o3.types (ty ∷ []) tail3) in
      let last = room_right ws h o3.types (ty ∷ []) tail3 in
      let q = b.most + (2 + kind_price o2.kind) in
      let r = d.most + (2 + kind_price o3.kind) in
      let fa = fills ty g h v b.most m2 (of_type o2.kind t2 at2) s o2.before b.does (omega arith) last k2s in
      let fb = fills ty h v v d.most m3 (of_type o3.kind t3 at3) s o3.before d.does (omega arith) last k3s in
      less f (c + 2 + (q + r) + 1) (7 + c + c2 + c3) (λ w. chosen (m w) m2 m3 w) ty s (choose_out false x y v o t at o2 t2 at2 o3 t3 at3 ty s) (let w = b.cheap in let u = d.cheap in omega arith)
      (chosen_law f h v a.most q r c m m2 m3 t ty at s o o2.before o3.before (of_type o2.kind t2 at2) (of_type o3.kind t3 at3) (o.types ++ (o2.types ++ (o3.types ++ ty ∷ []))) a fa fb (omega arith) b.silent d.silent (four_types f o.types o2.types o3.types ty))

  pub more_law : (f c c2 : ℕ) (m : Meaning) (ms : List Meaning) (t : Ty) (at : Span) (o : Out) (r : Outs) → Expansion f c m t at o → RowExpansion (f + length o.types) c2 ms r
      → RowExpansion f (4 + c + c2) (m ∷ ms) (record { before = o.before ++ r.before; exprs = of_type o.kind t at ∷ r.exprs; types = o.types ++ r.types })
  more_law f c c2 m ms t at o r i j =
      let e = of_type o.kind t at in
      let most = i.most + j.most in
      let lefts = meaning k2 e ∷ map (meaning k2) r.exprs in
      let x = more_expand k all f (f + length o.types) (f + length o.types + length r.types) i.most j.most m (meaning k2 e) ms (map (meaning k2) r.exprs) (counted_all k2 o.before) (counted_all k2 r.before) i.does j.does in
      let y = subst (λ p. ExpandsAll k all f (f + length o.types + length r.types) (m ∷ ms) p lefts most) (sym (counted_append k2 o.before r.before)) x in
      record {
        most = most;
        cheap = let q = sum_by-cons (λ e. 4 + expr_price e) e r.exprs in let ci = i.cheap in let cj = j.cheap in omega arith;
        does = subst (λ g. ExpandsAll k all f g (m ∷ ms) (counted_all k2 (o.before ++ r.before)) lefts most) (two_types f o.types r.types) y;
        silent = subst Silent (sym (counted_append k2 o.before r.before)) (silent_append (counted_all k2 o.before) (counted_all k2 r.before) i.silent j.silent);
      }

  element_law : (a f c : ℕ) (ms : List Meaning) (ty : Ty) (s : Span) (o : Outs) → RowExpansion f c ms o → Expansion f (1 + c) (λ z. element k s z a (all_values ms z)) ty s (record { before = o.before; kind = expr.Element a o.exprs; types = o.types })
  element_law a f c ms ty s o i = record {
    most = i.most;
    cheap = let p = price_element a o.exprs in let q = i.cheap in omega arith;
    does = subst (λ l. Expands k all f (f + length o.types) (λ z. element k s z a (all_values ms z)) (counted_all k2 o.before) l i.most) (sym (expr_element a o.exprs k2 ty s))
        (element_expands k all k2 s a f (f + length o.types) i.most ms (map (meaning k2) o.exprs) (counted_all k2 o.before) refl i.does);
    silent = i.silent;
  }

  pub no_row : (f : ℕ) → length k.vars ≤ f → RowExpansion f 0 [] (record { before = []; exprs = []; types = [] })
  no_row f own = record {
    most = 0;
    cheap = omega arith;
    does = subst (λ g. ExpandsAll k all f g [] [] [] 0) (let e : f ≡ f + 0 = omega arith in e) (none_expand k all f own);
    silent = refl;
  }

  mutual
    pub expanded : (e : TypedExprKind) (ty : Ty) (s : Span) (f : ℕ) → length k.vars ≤ f → LawfulKind k e ty → Room ws f (expand f e ty s).types → Expansion f (kind_cost e) (kind_meaning k e ty s) ty s (expand f e ty s)
    expanded (tree.Number n) ty s f own h room = whole_law (tree.Number n) ty s f own h
    expanded (tree.Var v) ty s f own h room = whole_law (tree.Var v) ty s f own h
    expanded (tree.Element' a n row) ty s f own h room = element_law a f (row_cost row) (row_meanings k row) ty s (expand_row f row) (row_expanded row f own h.1 room)
    expanded (tree.Unary' op b (more_of-TypedExpr e t at end_of-TypedExpr)) ty s f own h room = unary_law op f (kind_cost e) (kind_meaning k e t at) t ty at s (expand f e t at) (expanded e t at f own h.2 room)
    expanded (tree.Cast' implied b (more_of-TypedExpr e t at end_of-TypedExpr)) ty s f own h room = cast_law implied f (kind_cost e) (kind_meaning k e t at) t ty at s (expand f e t at) (expanded e t at f own h.1 room)
    expanded (tree.Binary' op b (more_of-TypedExpr e t at end_of-TypedExpr) b2 (more_of-TypedExpr e2 t2 at2 end_of-TypedExpr)) ty s f own h room =
        let o = expand f e t at in
        let g = f + length o.types in
        let kind = tree.Binary' op b (more_of-TypedExpr e t at end_of-TypedExpr) b2 (more_of-TypedExpr e2 t2 at2 end_of-TypedExpr) in
        binary_law op (decided_by op) (reads e + reads e2 == 0) kind f (kind_cost e) (kind_cost e2) (kind_meaning k e t at) (kind_meaning k e2 t2 at2) t t2 ty at at2 s o (expand g e2 t2 at2) own refl (whole_law kind ty s f own h)
        (λ r. expanded e t at f own h.1 r) (λ r. expanded e2 t2 at2 g (omega arith) h.2 r) room
    expanded (tree.Choose' b (more_of-TypedExpr e t at end_of-TypedExpr) b2 (more_of-TypedExpr e2 t2 at2 end_of-TypedExpr) b3 (more_of-TypedExpr e3 t3 at3 end_of-TypedExpr)) ty s f own h room =
        let o = expand f e t at in
        let g = f + length o.types in
        let o2 = expand g e2 t2 at2 in
        let i = g + length o2.types in
        let kept2 = subst (λ w. (s r : Store) (x : ℤ) (u : ℕ) → Matches k all s r → kind_meaning k e2 t2 at2 s ≡ value x u → conv w x ≡ x) (h.0.0 ∙ sym h.0.2) (value_kept k all fit e2 t2 at2 h.2) in
        let kept3 = subst (λ w. (s r : Store) (x : ℤ) (u : ℕ) → Matches k all s r → kind_meaning k e3 t3 at3 s ≡ value x u → conv w x ≡ x) (h.0.1 ∙ sym h.0.2) (value_kept k all fit e3 t3 at3 h.3) in
        choose_law (reads e2 + reads e3 == 0) f (kind_cost e) (kind_cost e2) (kind_cost e3) (kind_meaning k e t at) (kind_meaning k e2 t2 at2) (kind_meaning k e3 t3 at3) (of_type e2 t2 at2) (of_type e3 t3 at3) t t2 t3 ty at at2 at3 s o o2 (expand i e3 t3 at3) own
        (whole_same k ws e2 t2 at2 h.2) (whole_same k ws e3 t3 at3 h.3) (kind_kept e2) (kind_kept e3) kept2 kept3
        (λ r. expanded e t at f own h.1 r) (λ r. expanded e2 t2 at2 g (omega arith) h.2 r) (λ r. expanded e3 t3 at3 i (omega arith) h.3 r) room

    row_expanded : {n : Count} (row : Row_of-TypedExpr n) (f : ℕ) → length k.vars ≤ f → LawfulRow k row → Room ws f (expand_row f row).types → RowExpansion f (row_cost row) (row_meanings k row) (expand_row f row)
    row_expanded end_of-TypedExpr f own h room = no_row f own
    row_expanded (more_of-TypedExpr e t at row) f own h room =
        let o = expand f e t at in
        let g = f + length o.types in
        let r = expand_row g row in
        more_law f (kind_cost e) (row_cost row) (kind_meaning k e t at) (row_meanings k row) t at o r (expanded e t at f own h.0 (room_left ws f o.types r.types room)) (row_expanded row g (omega arith) h.1 (room_right ws f o.types r.types room))
