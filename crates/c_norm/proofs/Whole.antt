-- Each lawful statement of the kernel is imitated by the statements that it is made of.
use Rattle.std.proofs.Common.{◌≡◌, ℕ, zero, suc, ◌+◌, ◌*◌, ◌<◌, ◌≤◌, List, [], ◌∷◌, ◌++◌, length, get_or, Option, Some, None, refl, sym, ◌∙◌, ap, subst, arith, map}
use Rattle.std.specs.Prelude.{Bool, ℤ, All, true, false, pos, flat_map, option_map}
use Rattle.std.proofs.lemmas.Option.{slice_get_within}
use Rattle.el_base.specs.declared.span.Span.{Span}
use Rattle.el_base.specs.declared.ty.Ty.{Ty}
use Rattle.el_base.specs.declared.ty.Ty.TheVariants.{I32}
use Rattle.c_ast.specs.Casts.{of_type}
use Rattle.c_ast.specs.declared.typed.Object.{Object}
use Rattle.c_ast.specs.declared.typed.Object.TheVariants as object
use Rattle.c_ast.specs.declared.typed.TypedExpr.{TypedExpr}
use Rattle.c_ast.specs.declared.typed.TypedStmtKind.{TypedStmtKind, Row_of-TypedStmt, end_of-TypedStmt, more_of-TypedStmt, Held-TypedStmtKind-If-2}
use Rattle.c_ast.specs.declared.typed.TypedStmtKind as tree
use Rattle.c_ast.specs.declared.normal.NormalStmt.{NormalStmt}
use Rattle.c_ast.specs.declared.normal.NormalStmtKind.{NormalStmtKind}
use Rattle.c_ast.specs.declared.normal.NormalStmtKind.TheVariants as normal
use Rattle.c_ast.specs.declared.normal.NormalStmtKind.TheOpen as part_of
use Rattle.c_meaning.specs.Types.{conv}
use Rattle.c_meaning.specs.Stores.{Store, Objects, IsFitting, set_var}
use Rattle.c_meaning.specs.Expressions.{value, Meaning, meaning, kind_meaning, Val, undefined_value, values, all_values, after_turns, always}
use Rattle.c_meaning.specs.Runs.{How, normally, by_return, Run, ends, turn, with_val, with_value, loop, by_break, by_continue, both_runs, branch, looped}
use Rattle.c_meaning.specs.Statements.{Act, meant_if_any, in_order, nothing, object_type, kind_act, declared_run, a_return, a_declaration, Place, Placed, no_place, placed, meant_target, assigned, assigned_to, updated_at, joined_in, joined_with, object_place, target_place, read_place, write_place, an_assignment, block, entering, part, run_if_any, condition, step_operator, act_if_any, row_acts, act, a_break, a_continue, an_empty}
use Rattle.c_meaning.specs.Counts.{tally, Counting, only, counting_after, Counted, run_of, acts_of, counts_in_order, expr_price, counted, assignment_price, counting, counts_branch, counts_part, counts_if_any, counts_loop, counts_looped, counts_entering, counts_both, step_run, step_counts, option_price}
use Rattle.c_meaning.specs.Lawful.{LawfulExpr, LawfulStmt, IsObject, LawfulStmtHeld, LawfulStmts, LawfulOption, LawfulReturn}
use Rattle.c_meaning.specs.Ranges.{ValuesFit, StatementsFit}
use Rattle.c_meaning.proofs.RunParts.{taken}
use Rattle.c_meaning.proofs.CountGrowth.{counted_kind}
use Rattle.c_norm.specs.Expand.{Out, expand_expr, rest_of, decided_by, expand_all, set_all, whole}
use Rattle.c_norm.specs.Forms.{normal_at, form_of, object_kind, new_value, target_with, compound, assignment_form, Made, block_of, optional, rest_if_any, step_form, held_form, row_form, all_forms}
use Rattle.c_norm.proofs.Takes.{Takes, takes_turn, takes_end}
use Rattle.c_norm.proofs.Stores.{Matches, set_matches}
use Rattle.c_norm.proofs.Built.{counted_all, built, declare_built, return_built, declared_by, declared_append, counted_append, assign_built, Silent, silent_append, a_block_of, an_if_of, a_while_of, a_do_of, a_for_of, act_if_held, block_built, if_built, while_built, do_built, for_built, break_built, continue_built, empty_built}
use Rattle.c_norm.proofs.Costs.{kind_cost}
use Rattle.c_norm.proofs.Dimensions.{FewDimensions, at_most_three}
use Rattle.c_norm.proofs.Meanings.{wide, Room, room_left, room_right}
use Rattle.c_norm.proofs.Expanded.{Expansion, expanded}
use Rattle.c_norm.proofs.Leaves.{value_leaf, conv_twice, written, assign_leaf, assigned_takes}
use Rattle.c_norm.proofs.Imitates.{Sim, weaker, kernel_turn, form_turn, unset_sim, nothing_sim, one_sim, Condition, both_sims, jump_sim, append_sim, branch_sims, looped_sims, loop_sim}
use Rattle.c_ast.specs.Nodes.{act_nodes, typed_expr_nodes, typed_opt_nodes, held_act_nodes, acts_nodes, typed_stmt_nodes, typed_stmts_nodes}
use Rattle.c_ast.specs.declared.tree.Binary.{Binary}
use Rattle.c_ast.specs.declared.typed.TypedTarget.{TypedTarget}
use Rattle.c_meaning.proofs.ValueParts.{value_one, value_two}
use Rattle.c_norm.proofs.Expands.{Expands, Has, whole_expands}
use Rattle.c_norm.proofs.Targets.{costs, expr_bounded, costs_bounded, target_price_is, all_expanded, set_expanded, old_has, new_has, new_price, no_logical}
use Rattle.std.proofs.lemmas.List.Sums.{sum_by-cons}
use Rattle.std.proofs.lemmas.List.Elements.{All-head, All-tail}
use mathlib.Core.Former.{Count}
use Rattle.c_ast.specs.ResultTypes.{joint_type}
use Rattle.c_ast.specs.declared.typed.TypedExprKind.TheVariants as expr
use Rattle.c_ast.specs.declared.typed.TypedStmt.{TypedStmt}
use Rattle.c_meaning.specs.declared.profile.Profile.{Profile}
use Rattle.c_meaning.proofs.TreeEquations.{expr_number}
use Rattle.c_meaning.proofs.PartsOfNumbers.{price_number}

-- the value that an operator joins, and the old one
pub record Joined (at : Span) (f : ℤ → ℤ → Option ℤ) (o : Option ℤ) (v : Val) (z : ℤ) (w : ℕ) : Type 0 where
  pub old : ℤ
  pub y : ℤ
  pub old_is : o ≡ Some old
  pub right : v ≡ value y w
  pub gives : f old y ≡ Some z

joined_value : (at : Span) (f : ℤ → ℤ → Option ℤ) (old y : ℤ) (t : ℕ) (o : Option ℤ) (z : ℤ) (w : ℕ) → f old y ≡ o → after_turns at t o ≡ value z w → Joined at f (Some old) (value y t) z w
joined_value at f old y t None z w e i = absurd (cc)
joined_value at f old y t (Some x) z w e i = record { old = old; y = y; old_is = refl; right = ap (value y) (value_two x z t w i); gives = e ∙ ap Some (value_one x z t w i) }

joined : (at : Span) (f : ℤ → ℤ → Option ℤ) (o : Option ℤ) (v : Val) (z : ℤ) (w : ℕ) → joined_with at f o v ≡ value z w → Joined at f o v z w
joined at f None v z w e = absurd (cc)
joined at f (Some old) (undefined_value q) z w e = absurd (cc)
joined at f (Some old) (value y t) z w e = joined_value at f old y t (f old y) z w refl e

returned_lawful : (k : Objects) (r : Option Ty) (e : TypedExpr) → LawfulReturn (LawfulExpr k) r (Some e) → LawfulExpr k e
returned_lawful k None e h = absurd h
returned_lawful k (Some t) e h = h.1

module _ (k : Objects) (ws : List Ty) (fit : ValuesFit) (stay : StatementsFit) (result : Option Ty) (price : ℕ) (le : length k.vars ≤ length ws) (own : (v : ℕ) → v < length k.vars → get_or ws v I32 ≡ get_or k.vars v I32) (flat : FewDimensions k) (base : Profile) where
  abbrev k2 : Objects
  k2 = wide k ws

  abbrev all : ℕ
  all = length ws

  -- the kernel's objects under whatever profile: the form asks for types alone
  abbrev k0 : Objects
  k0 = record { profile = base; vars = k.vars; arrays = k.arrays }

  abbrev pub Does : ℕ → Run → Run → Counting → Type 0
  Does spare a b c = Sim k all price le spare a b c

  -- an act of the kernel by the statements that are made for it
  pub record Imitated (a : Act) (ss : List NormalStmt) : Type 0 where
    pub sim : Does 1 a.run (in_order (acts_of (counted_all k2 ss))) (counts_in_order (counted_all k2 ss))
    pub declares : declared_by (counted_all k2 ss) ≡ a.declares

  pub weak : (i : ℕ) (a b : Run) (c : Counting) → Does i a b c → Does 0 a b c
  weak i a b c z = weaker k all price le 0 0 i 0 a (λ i. b) (λ i. c) (omega arith) (omega arith) z

  -- a statement of the kernel leaves a store that fits
  pub stays : (kind : TypedStmtKind) (loop : Bool) (at : Span) → LawfulStmt k result loop kind → (s : Store) (n : ℕ) → IsFitting k s → IsFitting k ((kind_act k kind).run s n).store
  stays kind loop at h s n f = (stay k result loop (record { kind = kind; at = at }) s n h f).store

  pub none_more : (xs : List ℕ) → xs ++ [] ≡ xs
  none_more [] = refl
  none_more (x ∷ xs) = ap (λ l. x ∷ l) (none_more xs)

  -- one statement, by what it is built of
  pub one : (a : Act) (kind : NormalStmtKind) (at : Span) (c : Counted) → counted_kind k2 kind ≡ c → Does 1 a.run (run_of c) c.counts → c.act.declares ≡ a.declares → Imitated a (normal_at kind at ∷ [])
  one a kind at c e z d = record {
    sim = subst (λ x. Does 1 a.run (in_order (acts_of (x ∷ []))) (counts_in_order (x ∷ []))) (sym e) (one_sim k all price le 1 a.run c z);
    declares = ap (λ (x : Counted). x.act.declares ++ []) e ∙ none_more c.act.declares ∙ d;
  }

  -- a turn of both
  pub both_turn : (a b : Run) (c : Counting) → Does 0 a b c → Does 1 (turn a) (turn b) (counting_after 1 c)
  both_turn a b c z = weaker k all price le 0 0 2 1 (turn a) (λ i. turn b) (λ i. counting_after 1 c) (omega arith) (omega arith) (kernel_turn k all price le 0 a (λ i. turn b) (λ i. counting_after 1 c) (form_turn k all price le 0 a b c z))

  -- ---- simple ends

  pub ends_does : (h : How) (j : ℕ) → j ≤ 1 → Does 1 (turn (ends h)) (turn (ends h)) (counting_after 1 (only (tally j 0)))
  ends_does h j one s t zero same end = absurd end
  ends_does h j one s t (suc n) same end = record {
    least = 0;
    last = t;
    turns = 1 + 0;
    jumps = j;
    cost = 0;
    within = omega arith;
    takes = λ i. takes_turn (ends h) (only (tally j 0)) t t h 0 j 0 (takes_end h j 0 t);
    same = same;
    few = omega arith;
    cheap = let e : price * suc n ≡ price + price * n = omega arith in omega arith;
  }

  -- ---- one value

  module _ (h : ℤ → How) (st : ℤ → Store → Store) where
    abbrev ending : ℤ → Run
    ending z s n = ends (h z) (st z s) n

    value_final : (m : Meaning) (j p : ℕ) (r : Store) (z : ℤ) (w : ℕ) → m r ≡ value z w → Takes (turn (with_value m ending)) (counting_after 1 (only (tally j p))) r (h z) (st z r) (1 + w) j p
    value_final m j p r z w e =
        let x : Takes (with_value m ending) (only (tally j p)) r (h z) (st z r) w j p = record { runs = λ l. ap (λ v. with_val v ending r (w + l)) e ∙ taken w (ending z) r l; counted = λ l. refl } in
        takes_turn (with_value m ending) (only (tally j p)) r (st z r) (h z) w j p x

    -- an expression with its settings, and a statement that ends by its value
    value_imitated : (f cost j p : ℕ) (m : Meaning) (ty : Ty) (at s : Span) (o : Out) (ds : List ℕ) (kind : NormalStmtKind) (c : Counted) → Expansion k ws fit f cost m ty at o → j ≤ 1 → cost ≤ price → p ≡ expr_price (of_type o.kind ty at) → counted_kind k2 kind ≡ c
        → c.act.declares ≡ ds → ((r : Store) (z : ℤ) (w : ℕ) → kind_meaning k2 o.kind ty at r ≡ value z w → Takes (run_of c) c.counts r (h z) (st z r) (1 + w) j p)
        → ((s r : Store) (z : ℤ) → Matches k all s r → IsFitting k (st z s) → Matches k all (st z s) (st z r)) → ((s : Store) (n : ℕ) → IsFitting k s → IsFitting k (turn (with_value m ending) s n).store)
        → Imitated (record { declares = ds; run = turn (with_value m ending) }) (o.before ++ normal_at kind s ∷ [])
    value_imitated f cost j p m ty at s o ds kind c i one total price_is e d final near fits =
        let stmt = normal_at kind s in
        let x = value_leaf k all price le h st f (f + length o.types) i.most j p m (kind_meaning k2 o.kind ty at) (counted_all k2 o.before) c i.does one (let a = i.cheap in omega arith) final near fits in
        let parts : counted_all k2 o.before ++ c ∷ [] ≡ counted_all k2 (o.before ++ stmt ∷ []) = ap (λ y. counted_all k2 o.before ++ y ∷ []) (sym e) ∙ sym (counted_append k2 o.before (stmt ∷ [])) in
        record {
          sim = subst (λ l. Does 1 (turn (with_value m ending)) (in_order (acts_of l)) (counts_in_order l)) parts x;
          declares = ap declared_by (sym parts) ∙ declared_append (counted_all k2 o.before) (c ∷ []) ∙ ap (λ l. l ++ declared_by (c ∷ [])) i.silent ∙ none_more c.act.declares ∙ d;
        }

  pub return_imitated : (loop : Bool) (f : ℕ) (e : TypedExpr) (s : Span) → length k.vars ≤ f → LawfulStmt k result loop (tree.Return (Some e)) → LawfulExpr k e → kind_cost e.kind ≤ price → Room ws f (expand_expr f e).types → Imitated (kind_act k (tree.Return (Some e))) (form_of k f (tree.Return (Some e)) s).stmts
  return_imitated loop f e s n h l total room =
      let o = expand_expr f e in
      let c = built k2 (a_return (meant_if_any k2 (Some (rest_of o e)))) (part_of.Return (Some (rest_of o e))) in
      value_imitated (λ z. by_return (Some z)) (λ z s. s) f (kind_cost e.kind) 1 (expr_price (rest_of o e)) (meaning k e) e.ty e.at s o [] (normal.Return (Some (rest_of o e))) c (expanded k ws fit e.kind e.ty e.at f n l room) (omega arith) total refl (return_built k2 (Some (rest_of o e))) refl
      (λ r z w i. value_final (λ z. by_return (Some z)) (λ z s. s) (meaning k2 (rest_of o e)) 1 (expr_price (rest_of o e)) r z w i) (λ s r z m f. m) (stays (tree.Return (Some e)) loop s h)

  pub type_kept : (to : Object) (n : ℕ) (ty : Ty) → IsObject k to n ty → object_type k2 to ≡ object_type k to
  type_kept (object.Var v) n ty h = own v (slice_get_within k.vars v ty h.0)
  type_kept (object.Array a) n ty h = refl

  pub declare_imitated : (loop : Bool) (f v : ℕ) (e : TypedExpr) (s : Span) → length k.vars ≤ f → LawfulStmt k result loop (tree.Declare v (Some e)) → kind_cost e.kind ≤ price → Room ws f (expand_expr f e).types → Imitated (kind_act k (tree.Declare v (Some e))) (form_of k f (tree.Declare v (Some e)) s).stmts
  declare_imitated loop f v e s n h total room =
      let o = expand_expr f e in
      let t = get_or k.vars v I32 in
      let c = built k2 (a_declaration v (meant_if_any k2 (Some (rest_of o e)))) (part_of.Declare v (Some (rest_of o e))) in
      let is : get_or ws v I32 ≡ t = own v (slice_get_within k.vars v e.ty h.0) in
      value_imitated (λ z. normally) (λ z s. set_var v (conv t z) s) f (kind_cost e.kind) 0 (expr_price (rest_of o e)) (meaning k e) e.ty e.at s o (v ∷ []) (normal.Declare v (Some (rest_of o e))) c (expanded k ws fit e.kind e.ty e.at f n h.1 room) (omega arith) total refl
      (declare_built k2 v (Some (rest_of o e))) refl
      (λ r z w i. subst (λ t. Takes (run_of c) c.counts r normally (set_var v (conv t z) r) (1 + w) 0 (expr_price (rest_of o e))) is (value_final (λ z. normally) (λ z s. set_var v (conv (get_or ws v I32) z) s) (meaning k2 (rest_of o e)) 0 (expr_price (rest_of o e)) r z w i))
      (λ s r z m f. set_matches k all s r v (Some (conv t z)) le m f) (stays (tree.Declare v (Some e)) loop s h)

  pub unset_does : (v : ℕ) → Does 1 (turn (declared_run k v None)) (turn (declared_run k2 v None)) (counting_after 1 (only (tally 0 0)))
  unset_does v = both_turn (declared_run k v None) (declared_run k2 v None) (only (tally 0 0)) (unset_sim k all price le 0 (v ∷ []) (v ∷ []) nothing nothing (only (tally 0 0)) refl (nothing_sim k all price le))

  -- settings of indices and value, and one assignment
  leaf_imitated : (run : Run) (before before2 : List NormalStmt) (kind : _) (s : Span) (c : Counted) → counted_kind k2 kind ≡ c → c.act.declares ≡ [] → Silent (counted_all k2 before) → Silent (counted_all k2 before2)
      → Sim k all price le 1 (turn run) (in_order (acts_of (counted_all k2 before ++ counted_all k2 before2 ++ c ∷ []))) (counts_in_order (counted_all k2 before ++ counted_all k2 before2 ++ c ∷ []))
      → Imitated (record { declares = []; run = turn run }) (before ++ before2 ++ normal_at kind s ∷ [])
  leaf_imitated run before before2 kind s c e d sa sb x =
      let stmt = normal_at kind s in
      let parts : counted_all k2 before ++ counted_all k2 before2 ++ c ∷ [] ≡ counted_all k2 (before ++ before2 ++ stmt ∷ []) =
      ap (λ y. counted_all k2 before ++ counted_all k2 before2 ++ y ∷ []) (sym e) ∙ ap (λ l. l ++ counted k2 stmt ∷ []) (sym (counted_append k2 before before2)) ∙ sym (counted_append k2 (before ++ before2) (stmt ∷ [])) in
      record {
        sim = subst (λ l. Sim k all price le 1 (turn run) (in_order (acts_of l)) (counts_in_order l)) parts x;
        declares = ap declared_by (sym parts) ∙ declared_append (counted_all k2 before ++ counted_all k2 before2) (c ∷ []) ∙ ap (λ l. l ++ declared_by (c ∷ [])) (silent_append (counted_all k2 before) (counted_all k2 before2) sa sb) ∙ none_more c.act.declares ∙ d;
      }

  -- the built assignment, where its target and value have what is asked
  final_takes : (target : TypedTarget) (exprs : List TypedExpr) (e : TypedExpr) (n : ℕ) (ty : Ty) (r : Store) (is : List ℤ) (u : ℕ) (p : Place) (y : ℤ) (w : ℕ) → IsObject k target.to n ty → all_values (map (meaning k2) exprs) r ≡ values is u → object_place k.arrays target.to is ≡ Some p → meaning k2 e r ≡ value y w
      → Takes (run_of (built k2 (an_assignment (meant_target k2 (target_with target exprs)) None e.ty (meaning k2 e)) (part_of.Assign (target_with target exprs) e))) (built k2 (an_assignment (meant_target k2 (target_with target exprs)) None e.ty (meaning k2 e)) (part_of.Assign (target_with target exprs) e)).counts r normally (write_place p (conv (object_type k target.to) y) r) (1 + (u + w)) 0 (assignment_price (target_with target exprs) e)
  final_takes target exprs e n ty r is u p y w h ia ip iv =
      let mt = meant_target k2 (target_with target exprs) in
      let q = assignment_price (target_with target exprs) e in
      let x = assigned_takes k2 mt (meaning k2 e) r is u p y w q ia ip iv in
      let z = subst (λ t. Takes (assigned k2 mt (meaning k2 e)) (only (tally 0 q)) r normally (write_place p (conv t y) r) (u + w) 0 q) (type_kept target.to n ty h) x in
      takes_turn (assigned k2 mt (meaning k2 e)) (only (tally 0 q)) r (write_place p (conv (object_type k target.to) y) r) normally (u + w) 0 q z

  -- ---- target = value

  abbrev PlainLink : Store → Place → ℤ → ℤ → Type 0
  PlainLink s p y z = z ≡ y

  abbrev plain_written : Ty → Object → Span → List Meaning → Meaning → Placed → Run
  plain_written t to at ms m pl s n = written k all price le t to at ms m (λ p s. m s) PlainLink pl s n

  plain_is : (t : Ty) (to : Object) (at : Span) (ms : List Meaning) (m : Meaning) (pl : Placed) (s : Store) (n : ℕ) → plain_written t to at ms m pl s n ≡ assigned_to t pl m s n
  plain_is t to at ms m (no_place q) s n = refl
  plain_is t to at ms m (placed p u) s n = refl

  pub plain_imitated : (loop : Bool) (f : ℕ) (target : TypedTarget) (e : TypedExpr) (s : Span) (ty : Ty) → length k.vars ≤ f → LawfulStmt k result loop (tree.Assign target None e) → IsObject k target.to (length target.indices) ty → All (LawfulExpr k) target.indices → LawfulExpr k e
      → 13 * act_nodes (tree.Assign target None e) ≤ price → Room ws f ((expand_all f target.indices).types ++ (expand_expr (f + length (expand_all f target.indices).types) e).types) → Imitated (kind_act k (tree.Assign target None e)) (assignment_form k f target None e s).stmts
  plain_imitated loop f target e s ty n h ho hi he total room =
      let i = expand_all f target.indices in
      let g = f + length i.types in
      let o = expand_expr g e in
      let t = object_type k target.to in
      let ms = map (meaning k) target.indices in
      let m = meaning k e in
      let x = all_expanded k ws fit target.indices f n hi (room_left ws f i.types o.types room) in
      let y = expanded k ws fit e.kind e.ty e.at g (omega arith) he (room_right ws f i.types o.types room) in
      let to = target_with target i.exprs in
      let rest = rest_of o e in
      let c = built k2 (an_assignment (meant_target k2 to) None rest.ty (meaning k2 rest)) (part_of.Assign to rest) in
      let q = assignment_price to rest in
      let sum : x.most + y.most + q ≤ price = let a = x.cheap in let b = y.cheap in let tp = target_price_is i.exprs in let cb = costs_bounded k target.indices hi in let eb = expr_bounded k e he in omega arith in
      let runs : (λ s n. plain_written t target.to target.at ms m (target_place k (meant_target k target) s) s n) ≡ assigned k (meant_target k target) m = λ j s n. plain_is t target.to target.at ms m (target_place k (meant_target k target) s) s n j in
      let fits = subst (λ (run : Run). (s : Store) (n : ℕ) → IsFitting k s → IsFitting k (turn run s n).store) (sym runs) (stays (tree.Assign target None e) loop s h) in
      let leaf = assign_leaf k all price le t target.to target.at ms m (λ p s. m s) PlainLink f g (g + length o.types) x.most y.most q (map (meaning k2) i.exprs) (meaning k2 rest) (counted_all k2 i.before) (counted_all k2 o.before) c x.does y.does sum
      (λ s p z w v. record { y = z; right = v; link = refl })
      (λ s r is p y z near ia ip iv link. record { turns = 1 + (ia.turns + iv.turns); takes = final_takes target i.exprs rest (length target.indices) ty r is ia.turns p z iv.turns ho ia.is ip (iv.is ∙ ap (λ w. value w iv.turns) (sym link)) })
      fits in
      let sim = subst (λ (run : Run). Sim k all price le 1 (turn run) (in_order (acts_of (counted_all k2 i.before ++ counted_all k2 o.before ++ c ∷ []))) (counts_in_order (counted_all k2 i.before ++ counted_all k2 o.before ++ c ∷ []))) runs leaf in
      leaf_imitated (assigned k (meant_target k target) m) i.before o.before (normal.Assign to rest) s c (assign_built k2 to rest) refl x.silent y.silent sim

  -- ---- target op= value

  abbrev JoinLink : Binary → Ty → Store → Place → ℤ → ℤ → Type 0
  JoinLink op j s p y z = (old : ℤ) × (read_place s p ≡ Some old) × (joined_in k.profile op j old y ≡ Some z)

  abbrev join_value : Span → Binary → Ty → Meaning → Place → Store → Val
  join_value at op j m p s = joined_with at (joined_in k.profile op j) (read_place s p) (m s)

  abbrev join_written : Binary → Ty → Ty → Object → Span → List Meaning → Meaning → Placed → Run
  join_written op j t to at ms m pl s n = written k all price le t to at ms m (join_value at op j m) (JoinLink op j) pl s n

  join_is : (op : Binary) (j t : Ty) (to : Object) (at : Span) (ms : List Meaning) (m : Meaning) (pl : Placed) (s : Store) (n : ℕ) → join_written op j t to at ms m pl s n ≡ updated_at t at (joined_in k.profile op j) pl m s n
  join_is op j t to at ms m (no_place q) s n = refl
  join_is op j t to at ms m (placed p u) s n = refl

  pub compound_imitated : (kind : TypedStmtKind) (loop : Bool) (f h pe : ℕ) (target : TypedTarget) (op : Binary) (j : Ty) (m : Meaning) (o : Out) (e : TypedExpr) (place : Span) (ty : Ty) → length k.vars ≤ f → LawfulStmt k result loop kind → IsObject k target.to (length target.indices) ty → All (LawfulExpr k) target.indices
      → (kind_act k kind).run ≡ turn (λ s n. updated_at (object_type k target.to) target.at (joined_in k.profile op j) (target_place k (meant_target k target) s) m s n)
      → (kind_act k kind).declares ≡ []
      → Expands k all (f + length (set_all f target.indices).types) h m (counted_all k2 o.before) (meaning k2 (rest_of o e)) pe → Silent (counted_all k2 o.before)
      → 12 * length target.indices + costs target.indices + 7 + (pe + expr_price (rest_of o e)) ≤ price → Room ws f (set_all f target.indices).types
      → Imitated (kind_act k kind) (compound (set_all f target.indices) target op (object_type k target.to) j o e place).stmts
  compound_imitated kind loop f h pe target op j m o e place ty n law ho hi run none ee silent total room =
      let i = set_all f target.indices in
      let g = f + length i.types in
      let t = object_type k target.to in
      let ms = map (meaning k) target.indices in
      let mt = meant_target k target in
      let x = set_expanded k ws fit target.indices f n hi room in
      let to = target_with target i.exprs in
      let old = of_type (object_kind target.to i.exprs) t target.at in
      let new = new_value (decided_by op) op t j old (rest_of o e) place in
      let c = built k2 (an_assignment (meant_target k2 to) None new.ty (meaning k2 new)) (part_of.Assign to new) in
      let q = assignment_price to new in
      let sum : x.most + pe + q ≤ price =
      let a = x.cheap in let tp = target_price_is i.exprs in let p = x.price in let np = new_price op (decided_by op) t j target.to i.exprs (length target.indices) target.at (rest_of o e) place refl x.price in omega arith in
      let body = λ (s : Store) (n : ℕ). join_written op j t target.to target.at ms m (target_place k mt s) s n in
      let body2 = λ (s : Store) (n : ℕ). updated_at t target.at (joined_in k.profile op j) (target_place k mt s) m s n in
      let runs : body ≡ body2 = λ i s n. join_is op j t target.to target.at ms m (target_place k mt s) s n i in
      let whole_run : turn body ≡ (kind_act k kind).run = ap turn runs ∙ sym run in
      let fits = subst (λ (r : Run). (s : Store) (n : ℕ) → IsFitting k s → IsFitting k (r s n).store) (sym whole_run) (stays kind loop place law) in
      let leaf = assign_leaf k all price le t target.to target.at ms m (join_value target.at op j m) (JoinLink op j) f g h x.most pe q (map (meaning k2) i.exprs) (meaning k2 (rest_of o e)) (counted_all k2 i.before) (counted_all k2 o.before) c x.does ee sum
      (λ s p z w v. let d = joined target.at (joined_in k.profile op j) (read_place s p) (m s) z w v in record { y = d.y; right = d.right; link = (d.old, d.old_is, d.gives) })
      (λ s r is p y z near ia ip iv link.
      let d = no_logical k ws fit k.profile op j link.0 y z (decided_by op) refl link.2 in
      let oh = old_has k ws fit target.to i.exprs (length target.indices) ty t target.at s r is ia.turns p link.0 ho ia.is ip link.1 near in
      let nh = new_has k ws fit op t j old (rest_of o e) place r link.0 y z d oh iv link.2 in
      let nh2 = subst (λ b. Has (meaning k2 (new_value b op t j old (rest_of o e) place)) r (conv t z)) (sym d) nh in
      record { turns = 1 + (ia.turns + nh2.turns); takes = subst (λ v. Takes (run_of c) c.counts r normally (write_place p v r) (1 + (ia.turns + nh2.turns)) 0 q) (conv_twice t z) (final_takes target i.exprs new (length target.indices) ty r is ia.turns p (conv t z) nh2.turns ho ia.is ip nh2.is) })
      fits in
      let sim = subst (λ (r : Run). Sim k all price le 1 r (in_order (acts_of (counted_all k2 i.before ++ counted_all k2 o.before ++ c ∷ []))) (counts_in_order (counted_all k2 i.before ++ counted_all k2 o.before ++ c ∷ []))) (ap turn runs) leaf in
      let made_it = leaf_imitated body2 i.before o.before (normal.Assign to new) place c (assign_built k2 to new) refl x.silent silent sim in
      record { sim = subst (λ (r : Run). Sim k all price le 1 r (in_order (acts_of (counted_all k2 (i.before ++ o.before ++ normal_at (normal.Assign to new) place ∷ [])))) (counts_in_order (counted_all k2 (i.before ++ o.before ++ normal_at (normal.Assign to new) place ∷ [])))) (sym run) made_it.sim; declares = made_it.declares ∙ sym none }

  -- a condition by its expansion
  condition_of : (f : ℕ) (e : TypedExpr) → length k.vars ≤ f → LawfulExpr k e → 13 * typed_expr_nodes e ≤ price → Room ws f (expand_expr f e).types → Condition k all price le (expr_price (rest_of (expand_expr f e) e)) (meaning k e) (counted_all k2 (expand_expr f e).before) (meaning k2 (rest_of (expand_expr f e) e))
  condition_of f e n h total room =
      let o = expand_expr f e in
      let x = expanded k ws fit e.kind e.ty e.at f n h room in
      record { from = f; to = f + length o.types; most = x.most; does = x.does; cheap = let c = x.cheap in let b = expr_bounded k e h in omega arith }

  option_condition : (f : ℕ) (e : Option TypedExpr) → length k.vars ≤ f → LawfulOption (LawfulExpr k) e → 13 * typed_opt_nodes e + 13 ≤ price → Room ws f (optional f e).types
      → Condition k all price le (option_price (rest_if_any (optional f e) e)) (condition (meant_if_any k e)) (counted_all k2 (optional f e).before) (condition (meant_if_any k2 (rest_if_any (optional f e) e)))
  option_condition f None n h total room = record { from = f; to = f; most = 0; does = whole_expands k all f (always (pos 1)) (always (pos 1)) n (λ s r m. refl); cheap = omega arith }
  option_condition f (Some e) n h total room = condition_of f e n h (omega arith) room

  -- a part is a block of what it is made of
  block_sim : (a : Act) (y : Made) (at : Span) → Imitated a y.stmts → Does 1 (part a) (part (counted k2 (block_of y at)).act) (counts_part (counted k2 (block_of y at)))
  block_sim a y at i =
      let parts = counted_all k2 y.stmts in
      let e : a.declares ++ [] ≡ declared_by parts = none_more a.declares ∙ sym i.declares in
      let x = unset_sim k all price le 1 (a.declares ++ []) (declared_by parts) a.run (in_order (acts_of parts)) (counts_in_order parts) e i.sim in
      let z = form_turn k all price le 1 (part a) (block (acts_of parts)) (counts_entering parts (counts_in_order parts)) x in
      subst (λ (c : Counted). Does 1 (part a) (part c.act) (counts_part c)) (sym (block_built k2 y.stmts)) z

  -- a part that may be absent
  pub record HeldIs (o : Option Act) (s : Option NormalStmt) : Type 0 where
    pub second : Does 0 (run_if_any o) (run_if_any (act_if_held (option_map (counted k2) s))) (counts_if_any (option_map (counted k2) s))
    pub step : Does 0 (run_if_any o) (step_run (option_map (counted k2) s)) (step_counts (option_map (counted k2) s))
    pub same_run : run_if_any (act_if_held (option_map (counted k2) s)) ≡ step_run (option_map (counted k2) s)

  pub record RowIs (acts : List Act) (ss : List NormalStmt) : Type 0 where
    pub sim : Does 0 (in_order acts) (in_order (acts_of (counted_all k2 ss))) (counts_in_order (counted_all k2 ss))
    pub declares : declared_by (counted_all k2 ss) ≡ flat_map (λ (a : Act). a.declares) acts

  pub more_row : (a : Act) (acts : List Act) (xs ys : List NormalStmt) → Imitated a xs → RowIs acts ys → RowIs (a ∷ acts) (xs ++ ys)
  more_row a acts xs ys i j =
      let e = sym (counted_append k2 xs ys) in
      record {
        sim = subst (λ l. Does 0 (in_order (a ∷ acts)) (in_order (acts_of l)) (counts_in_order l)) e (append_sim k all price le a.run (in_order acts) (counted_all k2 xs) (counted_all k2 ys) (weak 1 a.run (in_order (acts_of (counted_all k2 xs))) (counts_in_order (counted_all k2 xs)) i.sim) j.sim);
        declares = ap declared_by (sym e) ∙ declared_append (counted_all k2 xs) (counted_all k2 ys) ∙ ap (λ l. l ++ declared_by (counted_all k2 ys)) i.declares ∙ ap (λ l. a.declares ++ l) j.declares;
      }

  pub entered : (acts : List Act) (parts : List Counted) (a b : Run) (c : Counting) → declared_by parts ≡ flat_map (λ (x : Act). x.declares) acts → Does 0 a b c → Does 0 (entering acts a) (entering (acts_of parts) b) (counts_entering parts c)
  entered acts parts a b c e z = unset_sim k all price le 0 (flat_map (λ (x : Act). x.declares) acts) (declared_by parts) a b c (sym e) z

  if_is : (f : ℕ) (cond : TypedExpr) (a : Act) (y : Made) (at s : Span) (o : Option Act) (n : Option NormalStmt) → Condition k all price le (expr_price (rest_of (expand_expr f cond) cond)) (meaning k cond) (counted_all k2 (expand_expr f cond).before) (meaning k2 (rest_of (expand_expr f cond) cond)) → Imitated a y.stmts → HeldIs o n
      → Imitated (record { declares = []; run = turn (branch (in_order []) (meaning k cond) (part a) (run_if_any o)) }) (normal_at (normal.If (expand_expr f cond).before (rest_of (expand_expr f cond) cond) (block_of y at) n) s ∷ [])
  if_is f cond a y at s o n cd i h =
      let e = expand_expr f cond in
      let before = counted_all k2 e.before in
      let rest = rest_of e cond in
      let b = counted k2 (block_of y at) in
      let no = option_map (counted k2) n in
      let yes_form = part b.act in
      let no_form = run_if_any (act_if_held no) in
      let x = branch_sims k all price le (expr_price rest) (meaning k cond) (meaning k2 rest) before (part a) (run_if_any o) (λ i. yes_form) (λ i. no_form) (λ i. counts_part b) (λ i. counts_if_any no) cd (weak 1 (part a) yes_form (counts_part b) (block_sim a y at i)) h.second in
      let w = weaker k all price le 1 0 0 0 (branch nothing (meaning k cond) (part a) (run_if_any o)) (λ i. branch (in_order (acts_of before)) (meaning k2 rest) yes_form no_form) (λ i. counts_branch before (expr_price rest) (meaning k2 rest) (counts_part b) (counts_if_any no)) (omega arith) (omega arith) x in
      one (record { declares = []; run = turn (branch (in_order []) (meaning k cond) (part a) (run_if_any o)) }) (normal.If e.before rest (block_of y at) n) s (an_if_of k2 before rest b no) (if_built k2 e.before rest (block_of y at) n)
      (both_turn (branch nothing (meaning k cond) (part a) (run_if_any o)) (branch (in_order (acts_of before)) (meaning k2 rest) yes_form no_form) (counts_branch before (expr_price rest) (meaning k2 rest) (counts_part b) (counts_if_any no)) w) refl

  while_sim : (p : ℕ) (m m2 : Meaning) (before : List Counted) (a : Act) (y : Made) (at : Span) → Condition k all price le p m before m2 → Imitated a y.stmts
      → Does 0 (loop nothing m (part a) nothing) (loop (in_order (acts_of before)) m2 (part (counted k2 (block_of y at)).act) nothing) (counts_loop before p m2 (counted k2 (block_of y at)) None)
  while_sim p m m2 before a y at cd i =
      let b = counted k2 (block_of y at) in
      loop_sim k all price le p m m2 before cd (part a) nothing b None (weak 1 (part a) (part b.act) (counts_part b) (block_sim a y at i)) (nothing_sim k all price le)

  while_is : (f : ℕ) (cond : TypedExpr) (a : Act) (y : Made) (at s : Span) → Condition k all price le (expr_price (rest_of (expand_expr f cond) cond)) (meaning k cond) (counted_all k2 (expand_expr f cond).before) (meaning k2 (rest_of (expand_expr f cond) cond)) → Imitated a y.stmts
      → Imitated (record { declares = []; run = turn (loop (in_order []) (meaning k cond) (part a) nothing) }) (normal_at (normal.While (expand_expr f cond).before (rest_of (expand_expr f cond) cond) (block_of y at)) s ∷ [])
  while_is f cond a y at s cd i =
      let e = expand_expr f cond in
      let before = counted_all k2 e.before in
      let rest = rest_of e cond in
      let b = counted k2 (block_of y at) in
      let x = while_sim (expr_price rest) (meaning k cond) (meaning k2 rest) before a y at cd i in
      one (record { declares = []; run = turn (loop (in_order []) (meaning k cond) (part a) nothing) }) (normal.While e.before rest (block_of y at)) s (a_while_of k2 before rest b) (while_built k2 e.before rest (block_of y at))
      (both_turn (loop nothing (meaning k cond) (part a) nothing) (loop (in_order (acts_of before)) (meaning k2 rest) (part b.act) nothing) (counts_loop before (expr_price rest) (meaning k2 rest) b None) x) refl

  do_is : (f : ℕ) (cond : TypedExpr) (a : Act) (y : Made) (at s : Span) → Condition k all price le (expr_price (rest_of (expand_expr f cond) cond)) (meaning k cond) (counted_all k2 (expand_expr f cond).before) (meaning k2 (rest_of (expand_expr f cond) cond)) → Imitated a y.stmts
      → Imitated (record { declares = []; run = turn (looped (part a) (loop (in_order []) (meaning k cond) (part a) nothing)) }) (normal_at (normal.DoWhile (block_of y at) (expand_expr f cond).before (rest_of (expand_expr f cond) cond)) s ∷ [])
  do_is f cond a y at s cd i =
      let e = expand_expr f cond in
      let before = counted_all k2 e.before in
      let rest = rest_of e cond in
      let b = counted k2 (block_of y at) in
      let again = loop nothing (meaning k cond) (part a) nothing in
      let again2 = loop (in_order (acts_of before)) (meaning k2 rest) (part b.act) nothing in
      let counts = counts_loop before (expr_price rest) (meaning k2 rest) b None in
      let x = looped_sims k all price le (part a) again (λ i. part b.act) (λ i. again2) (λ i. counts_part b) (λ i. counts) (weak 1 (part a) (part b.act) (counts_part b) (block_sim a y at i)) (while_sim (expr_price rest) (meaning k cond) (meaning k2 rest) before a y at cd i) in
      let z = kernel_turn k all price le 0 (looped (part a) again) (λ i. looped (part b.act) again2) (λ i. counts_looped b counts) x in
      let j = jump_sim k all price le 1 (turn (looped (part a) again)) (looped (part b.act) again2) (counts_looped b counts) z in
      one (record { declares = []; run = turn (looped (part a) (loop (in_order []) (meaning k cond) (part a) nothing)) }) (normal.DoWhile (block_of y at) e.before rest) s (a_do_of k2 b before rest) (do_built k2 (block_of y at) e.before rest)
      (form_turn k all price le 1 (turn (looped (part a) again)) (looped (part b.act) again2) (counting (tally 1 0) (counts_looped b counts)) j) refl

  for_is : (f : ℕ) (acts : List Act) (first : List NormalStmt) (cond : Option TypedExpr) (a : Act) (y : Made) (at s : Span) (o : Option Act) (n : Option NormalStmt)
      → Condition k all price le (option_price (rest_if_any (optional f cond) cond)) (condition (meant_if_any k cond)) (counted_all k2 (optional f cond).before) (condition (meant_if_any k2 (rest_if_any (optional f cond) cond))) → RowIs acts first → HeldIs o n → Imitated a y.stmts
      → Imitated (record { declares = []; run = turn (entering acts (both_runs (in_order acts) (loop (in_order []) (condition (meant_if_any k cond)) (part a) (run_if_any o)))) }) (normal_at (normal.For first (optional f cond).before (rest_if_any (optional f cond) cond) n (block_of y at)) s ∷ [])
  for_is f acts first cond a y at s o n cd row h i =
      let e = optional f cond in
      let before = counted_all k2 e.before in
      let rest = rest_if_any e cond in
      let b = counted k2 (block_of y at) in
      let step = option_map (counted k2) n in
      let parts = counted_all k2 first in
      let m = condition (meant_if_any k cond) in
      let m2 = condition (meant_if_any k2 rest) in
      let again = loop nothing m (part a) (run_if_any o) in
      let form_with = λ (r : Run). loop (in_order (acts_of before)) m2 (part b.act) r in
      let counts = counts_loop before (option_price rest) m2 b step in
      let x = loop_sim k all price le (option_price rest) m m2 before cd (part a) (run_if_any o) b step (weak 1 (part a) (part b.act) (counts_part b) (block_sim a y at i)) h.step in
      let x2 = subst (λ r. Does 0 again (form_with r) counts) (sym h.same_run) x in
      let form = form_with (run_if_any (act_if_held step)) in
      let z = both_sims k all price le (in_order acts) again (λ i. in_order (acts_of parts)) (λ i. form) (λ i. counts_in_order parts) (λ i. counts) row.sim x2 in
      let w = entered acts parts (both_runs (in_order acts) again) (both_runs (in_order (acts_of parts)) form) (counts_both (in_order (acts_of parts)) (counts_in_order parts) counts) row.declares z in
      one (record { declares = []; run = turn (entering acts (both_runs (in_order acts) (loop (in_order []) (condition (meant_if_any k cond)) (part a) (run_if_any o)))) }) (normal.For first e.before rest n (block_of y at)) s (a_for_of k2 parts before rest step b) (for_built k2 first e.before rest n (block_of y at))
      (both_turn (entering acts (both_runs (in_order acts) again)) (entering (acts_of parts) (both_runs (in_order (acts_of parts)) form)) (counts_entering parts (counts_both (in_order (acts_of parts)) (counts_in_order parts) counts)) w) refl

  type_same : (to : Object) → object_type k0 to ≡ object_type k to
  type_same (object.Var v) = refl
  type_same (object.Array a) = refl

  assign_is : (loop : Bool) (f : ℕ) (target : TypedTarget) (op : Option Binary) (e : TypedExpr) (s : Span) → length k.vars ≤ f → LawfulStmt k result loop (tree.Assign target op e) → 13 * act_nodes (tree.Assign target op e) ≤ price → Room ws f (assignment_form k0 f target op e s).types
      → Imitated (kind_act k (tree.Assign target op e)) (assignment_form k0 f target op e s).stmts
  assign_is loop f target None e s n h total room = plain_imitated loop f target e s h.0 n h h.1.0 h.1.1 h.3 total room
  assign_is loop f target (Some op) e s n h total room =
      let i = set_all f target.indices in
      let g = f + length i.types in
      let o = expand_expr g e in
      let j = joint_type op (object_type k target.to) e.ty in
      let x = expanded k ws fit e.kind e.ty e.at g (omega arith) h.3 (room_right ws f i.types o.types room) in
      let sum : 12 * length target.indices + costs target.indices + 7 + (x.most + expr_price (rest_of o e)) ≤ price =
      let c = x.cheap in let b = expr_bounded k e h.3 in let cb = costs_bounded k target.indices h.1.1 in let t3 = at_most_three k flat target.to (length target.indices) h.0 h.1.0 in omega arith in
      subst (λ t. Imitated (kind_act k (tree.Assign target (Some op) e)) (compound i target op t (joint_type op t e.ty) o e s).stmts) (sym (type_same target.to))
      (compound_imitated (tree.Assign target (Some op) e) loop f (g + length o.types) x.most target op j (meaning k e) o e s h.0 n h h.1.0 h.1.1 refl refl x.does x.silent sum (room_left ws f i.types o.types room))

  step_is : (loop : Bool) (f : ℕ) (target : TypedTarget) (up : Bool) (s : Span) → length k.vars ≤ f → LawfulStmt k result loop (tree.Step target up) → 13 * act_nodes (tree.Step target up) ≤ price → Room ws f (step_form k0 f target (step_operator up) s).types
      → Imitated (kind_act k (tree.Step target up)) (step_form k0 f target (step_operator up) s).stmts
  step_is loop f target up s n h total room =
      let i = set_all f target.indices in
      let g = f + length i.types in
      let op = step_operator up in
      let one_of_type = λ (t : Ty). of_type (expr.Number 1) (joint_type op t I32) s in
      let t0 = object_type k target.to in
      let e = one_of_type t0 in
      let o = whole (expr.Number 1) in
      let ex = subst (λ l. Expands k all g g (always (pos 1)) [] l 0) (sym (expr_number 1 k2 (joint_type op t0 I32) s)) (whole_expands k all g (always (pos 1)) (always (pos 1)) (omega arith) (λ s r m. refl)) in
      let sum : 12 * length target.indices + costs target.indices + 7 + (0 + expr_price (rest_of o e)) ≤ price =
      let p = price_number 1 in let cb = costs_bounded k target.indices h.1.1 in let t3 = at_most_three k flat target.to (length target.indices) h.0 h.1.0 in omega arith in
      subst (λ t. Imitated (kind_act k (tree.Step target up)) (compound i target op t (joint_type op t I32) o (one_of_type t) s).stmts) (sym (type_same target.to))
      (compound_imitated (tree.Step target up) loop f g 0 target op (joint_type op t0 I32) (always (pos 1)) o e s h.0 n h h.1.0 h.1.1 refl refl ex refl sum (room_left ws f i.types [] room))

  mutual
    pub imitated : (x : TypedStmtKind) (loop : Bool) (s : Span) (f : ℕ) → length k.vars ≤ f → LawfulStmt k result loop x → 13 * act_nodes x ≤ price → Room ws f (form_of k0 f x s).types → Imitated (kind_act k x) (form_of k0 f x s).stmts
    imitated (tree.Block' n row) loop s f w h total room =
        let b = row_form k0 f row in
        let parts = counted_all k2 b.stmts in
        let r = row_imitated row loop f w h (omega arith) room in
        one (kind_act k (tree.Block' n row)) (normal.Block b.stmts) s (a_block_of k2 parts) (block_built k2 b.stmts)
        (both_turn (block (row_acts k row)) (block (acts_of parts)) (counts_entering parts (counts_in_order parts)) (entered (row_acts k row) parts (in_order (row_acts k row)) (in_order (acts_of parts)) (counts_in_order parts) r.declares r.sim)) refl
    imitated (tree.Declare v None) loop s f w h total room =
        one (kind_act k (tree.Declare v None)) (normal.Declare v None) s (built k2 (a_declaration v None) (part_of.Declare v None)) (declare_built k2 v None) (unset_does v) refl
    imitated (tree.Declare v (Some e)) loop s f w h total room = declare_imitated loop f v e s w h (let b = expr_bounded k e h.1 in omega arith) room
    imitated (tree.Assign target op e) loop s f w h total room = assign_is loop f target op e s w h total room
    imitated (tree.Step target up) loop s f w h total room = step_is loop f target up s w h total room
    imitated (tree.If' cond b (more_of-TypedStmt x at end_of-TypedStmt) o) loop s f w h total room =
        let c = expand_expr f cond in
        let g = f + length c.types in
        let y = form_of k0 g x at in
        let n = held_form k0 (g + length y.types) o in
        let tail = room_right ws f c.types (y.types ++ n.types) room in
        if_is f cond (kind_act k x) y at s (act_if_any k o) n.stmt (condition_of f cond w h.0 (omega arith) (room_left ws f c.types (y.types ++ n.types) room))
        (imitated x loop at g (omega arith) h.1 (omega arith) (room_left ws g y.types n.types tail)) (held_imitated o loop (g + length y.types) (omega arith) h.2 (omega arith) (room_right ws g y.types n.types tail))
    imitated (tree.While' cond b (more_of-TypedStmt x at end_of-TypedStmt)) loop s f w h total room =
        let c = expand_expr f cond in
        let g = f + length c.types in
        let y = form_of k0 g x at in
        while_is f cond (kind_act k x) y at s (condition_of f cond w h.0 (omega arith) (room_left ws f c.types y.types room)) (imitated x true at g (omega arith) h.1 (omega arith) (room_right ws f c.types y.types room))
    imitated (tree.DoWhile' b (more_of-TypedStmt x at end_of-TypedStmt) cond) loop s f w h total room =
        let y = form_of k0 f x at in
        let g = f + length y.types in
        let c = expand_expr g cond in
        do_is g cond (kind_act k x) y at s (condition_of g cond (omega arith) h.1 (omega arith) (room_right ws f y.types c.types room)) (imitated x true at f w h.0 (omega arith) (room_left ws f y.types c.types room))
    imitated (tree.For' n first cond o b (more_of-TypedStmt x at end_of-TypedStmt)) loop s f w h total room =
        let i = row_form k0 f first in
        let g = f + length i.types in
        let c = optional g cond in
        let g2 = g + length c.types in
        let p = held_form k0 g2 o in
        let g3 = g2 + length p.types in
        let y = form_of k0 g3 x at in
        let tail = room_right ws f i.types (c.types ++ (p.types ++ y.types)) room in
        let tail2 = room_right ws g c.types (p.types ++ y.types) tail in
        for_is g (row_acts k first) i.stmts cond (kind_act k x) y at s (act_if_any k o) p.stmt (option_condition g cond (omega arith) h.1 (omega arith) (room_left ws g c.types (p.types ++ y.types) tail))
        (row_imitated first false f w h.0 (omega arith) (room_left ws f i.types (c.types ++ (p.types ++ y.types)) room)) (held_imitated o false g2 (omega arith) h.2 (omega arith) (room_left ws g2 p.types y.types tail2)) (imitated x true at g3 (omega arith) h.3 (omega arith) (room_right ws g2 p.types y.types tail2))
    imitated tree.Break loop s f w h total room = one (kind_act k tree.Break) normal.Break s (built k2 a_break part_of.Break) (break_built k2) (ends_does by_break 1 (omega arith)) refl
    imitated tree.Continue loop s f w h total room = one (kind_act k tree.Continue) normal.Continue s (built k2 a_continue part_of.Continue) (continue_built k2) (ends_does by_continue 1 (omega arith)) refl
    imitated (tree.Return None) loop s f w h total room = one (kind_act k (tree.Return None)) (normal.Return None) s (built k2 (a_return None) (part_of.Return None)) (return_built k2 None) (ends_does (by_return None) 1 (omega arith)) refl
    imitated (tree.Return (Some e)) loop s f w h total room = let l = returned_lawful k result e h in return_imitated loop f e s w h l (let b = expr_bounded k e l in omega arith) room
    imitated tree.Empty loop s f w h total room = one (kind_act k tree.Empty) normal.Empty s (built k2 an_empty part_of.Empty) (empty_built k2) (ends_does normally 0 (omega arith)) refl

    held_imitated : (o : Held-TypedStmtKind-If-2) (loop : Bool) (f : ℕ) → length k.vars ≤ f → LawfulStmtHeld k result loop o → 13 * held_act_nodes o ≤ price → Room ws f (held_form k0 f o).types → HeldIs (act_if_any k o) (held_form k0 f o).stmt
    held_imitated tree.None' loop f w h total room = record { second = nothing_sim k all price le; step = nothing_sim k all price le; same_run = refl }
    held_imitated (tree.Some' b (more_of-TypedStmt x at end_of-TypedStmt)) loop f w h total room =
        let y = form_of k0 f x at in
        let a = kind_act k x in
        let c = counted k2 (block_of y at) in
        let z = block_sim a y at (imitated x loop at f w h total room) in
        record { second = weak 1 (part a) (part c.act) (counts_part c) z; step = jump_sim k all price le 0 (part a) (part c.act) (counts_part c) z; same_run = refl }

    row_imitated : {n : Count} (row : Row_of-TypedStmt n) (loop : Bool) (f : ℕ) → length k.vars ≤ f → LawfulStmts k result loop row → 13 * acts_nodes row ≤ price → Room ws f (row_form k0 f row).types → RowIs (row_acts k row) (row_form k0 f row).stmts
    row_imitated end_of-TypedStmt loop f w h total room = record { sim = nothing_sim k all price le; declares = refl }
    row_imitated (more_of-TypedStmt x at row) loop f w h total room =
        let y = form_of k0 f x at in
        let g = f + length y.types in
        let r = row_form k0 g row in
        more_row (kind_act k x) (row_acts k row) y.stmts r.stmts (imitated x loop at f w h.0 (omega arith) (room_left ws f y.types r.types room)) (row_imitated row loop g (omega arith) h.1 (omega arith) (room_right ws f y.types r.types room))

  -- the statements of a kernel's block
  pub all_imitated : (xs : List TypedStmt) (f : ℕ) → length k.vars ≤ f → All (λ x. LawfulStmt k result false x.kind) xs → 13 * typed_stmts_nodes xs ≤ price → Room ws f (all_forms k0 f xs).types → RowIs (map (act k) xs) (all_forms k0 f xs).stmts
  all_imitated [] f w h total room = record { sim = nothing_sim k all price le; declares = refl }
  all_imitated (x ∷ xs) f w h total room =
      let y = form_of k0 f x.kind x.at in
      let g = f + length y.types in
      let r = all_forms k0 g xs in
      let q = sum_by-cons typed_stmt_nodes x xs in
      more_row (act k x) (map (act k) xs) y.stmts r.stmts (imitated x.kind false x.at f w (All-head (λ x. LawfulStmt k result false x.kind) x xs h) (omega arith) (room_left ws f y.types r.types room))
      (all_imitated xs g (omega arith) (All-tail (λ x. LawfulStmt k result false x.kind) x xs h) (omega arith) (room_right ws f y.types r.types room))
