-- Each statement with calls runs as the statement that it becomes: both ways.
use Rattle.std.proofs.Common.{◌≡◌, ℕ, ℤ, ◌+◌, ◌<◌, ◌≤◌, List, [], ◌∷◌, ◌++◌, length, map, Option, Some, None, refl, sym, ◌∙◌, ap, subst, arith, append-nil, append_assoc, ◌⊎◌, inl, inr}
use Rattle.std.specs.Prelude.{Bool, true, false, IsTrue, Contains, All, unwrap_or, pos, option_map}
use Rattle.std.proofs.lemmas.Bool.{false≢true}
use Rattle.std.proofs.lemmas.List.{length-append, map-append}
use Rattle.std.proofs.lemmas.Grind.{flat_map-append}
use Rattle.std.proofs.lemmas.Option.{unwrap_or-slice_get}
use Rattle.std.proofs.lemmas.List.Elements.{Contains-append_left, Contains-append_right, Contains-append_cases, All-head, All-tail}
use mathlib.Core.Former.{Count}
use Rattle.el_base.specs.declared.span.Span.{Span}
use Rattle.el_base.specs.declared.ty.Ty.{Ty}
use Rattle.el_base.specs.declared.ty.Ty.TheVariants.{I32}
use Rattle.c_ast.specs.declared.tree.Binary.{Binary}
use Rattle.c_ast.specs.declared.typed.ArrayOf.{ArrayOf}
use Rattle.c_ast.specs.declared.typed.Object.{Object}
use Rattle.c_ast.specs.declared.typed.Object.TheVariants as object
use Rattle.c_ast.specs.declared.typed.TypedExpr.{TypedExpr}
use Rattle.c_ast.specs.declared.typed.TypedStmt.{TypedStmt}
use Rattle.c_ast.specs.declared.typed.TypedStmtKind.{TypedStmtKind}
use Rattle.c_ast.specs.declared.typed.TypedStmtKind.TheVariants as stmt
use Rattle.c_ast.specs.declared.program.ProgExpr.{ProgExpr}
use Rattle.c_ast.specs.declared.program.ProgStmt.{ProgStmt}
use Rattle.c_ast.specs.declared.program.ProgStmtKind.{ProgStmtKind, Row_of-ProgStmt, end_of-ProgStmt, more_of-ProgStmt, Held-ProgStmtKind-If-2}
use Rattle.c_ast.specs.declared.program.ProgStmtKind as act
use Rattle.c_ast.specs.Casts.{act_at}
use Rattle.c_ast.specs.ResultTypes.{joint_type}
use Rattle.c_meaning.specs.Types.{conv}
use Rattle.c_meaning.specs.Operators.{is_zero}
use Rattle.c_meaning.specs.Stores.{Store, Objects, unset_vars, set_var, read_var, read_element, place}
use Rattle.c_meaning.specs.Expressions.{Meaning, always, meaning}
use Rattle.c_meaning.specs.Lawful.{IsObject}
use Rattle.c_meaning.specs.Runs.{How, normally, by_break, by_continue, by_return, Run, ends, turn, go_on, both_runs, with_value, run_of, looped, loop}
use Rattle.c_meaning.specs.Statements.{Act, Place, of_var, of_element, object_type, object_place, element_place, read_place, write_place, storing, assignment, joined_in, step_operator, in_order, block, nothing, part, run_if_any, condition, act as typed_act, kind_act, meant_if_any, declared_run}
use Rattle.c_meaning.proofs.TreeEquations.{stmt_block, stmt_declare, stmt_assign, stmt_stepping, stmt_if, stmt_while, stmt_do_while, stmt_for, stmt_break, stmt_continue, stmt_return, stmt_empty}
use Rattle.c_calls.specs.Meanings.{prog_meaning, prog_if_any, prog_kind_act, prog_act, prog_act_if_any, prog_row_acts}
use Rattle.c_calls.specs.Inlined.{behind, moved, inline_stmt, inline_stmts, inline_list, inline_held, inline_option, inline_of, inline_all, rest_of, target_to}
use Rattle.c_calls.specs.Lawful.{LawfulCallExpr, LawfulCallStmt, LawfulCallStmts, LawfulCallHeld, LawfulCallReturn, IfAnyExpr, ReadsAt, IsObjectOf, IsScoped, IsHeldScoped, AreScoped, ListScoped, AreOnce, declared_of, declared_row, declared_held, all_declared, in_scope_after, in_scope_after_row, in_scope_after_list}
use Rattle.c_calls.proofs.Lists.{no_member, here, there, member_cases}
use Rattle.c_calls.proofs.Stores.{held_same, put, Agree, Lists, agree_less, agree_put, agree_scope, agree_open, agree_enter, agree_element}
use Rattle.c_calls.proofs.Imitates.{Rel}
use Rattle.c_calls.proofs.Expands.{acts, acts_append, declares_of, Two, both_give, Expands, whole_expands, pair_expands, Both, uses_turn, left_turn, own_both}
use Rattle.c_calls.proofs.Values.{val_means, val_gives, vals_means, vals_gives}
use Rattle.c_calls.proofs.Blocks.{Seg, one_alone}
use Rattle.c_calls.proofs.ExprTrees.{World, objects_of, seg_first, seg_rest, expands, no_expands, cons_expands, near, plain, owns}
use Rattle.c_calls.proofs.Own.{value_uses, value_left, Alike, neither, each, outcomes, New, joined_value, written, new_of, Given, assigns, assign_uses, assign_left, target_of}
use Rattle.c_calls.proofs.Boths.{both_map, both_from, both_respell, both_turns, both_turn, both_both, both_nothing, both_break, both_continue, both_return, both_side, both_loop, both_do}
use Rattle.c_calls.proofs.Scopes.{once_left, once_right, once_apart, direct, direct_row, direct_list, made_by, made, made_row, made_list, direct_is, direct_row_is, made_is, made_row_is, direct_declared, direct_row_declared, direct_list_declared, lists_less, lists_append, declared_below, direct_lists, direct_row_lists, small_after, small_after_row, scope_grows, scope_grows_row}

-- ---- scopes

abbrev pub Apart : List ℕ → List ℕ → Type 0
Apart us ds = (w : ℕ) → Contains us w → Contains ds w → ⊥

apart_left : (us xs ys : List ℕ) → Apart us (xs ++ ys) → Apart us xs
apart_left us xs ys a w c d = a w c (Contains-append_left xs ys w d)

apart_right : (us xs ys : List ℕ) → Apart us (xs ++ ys) → Apart us ys
apart_right us xs ys a w c d = a w c (Contains-append_right xs ys w d)

scope_cases : (a : ProgStmtKind) (vs : List ℕ) (w : ℕ) → Contains (in_scope_after vs a) w → Contains vs w ⊎ Contains (direct a) w
scope_cases (act.Block' n row) vs w c = inl c
scope_cases (act.Declare v init) vs w c = by_cases (member_cases v vs w c)
  where
    by_cases : (w ≡ v) ⊎ Contains vs w → Contains vs w ⊎ Contains (v ∷ []) w
    by_cases (inl e) = inr (subst (Contains (v ∷ [])) (sym e) (here v []))
    by_cases (inr c) = inl c
scope_cases (act.Assign target op e) vs w c = inl c
scope_cases (act.Step target up) vs w c = inl c
scope_cases (act.If' cond x a o) vs w c = inl c
scope_cases (act.While' cond x a) vs w c = inl c
scope_cases (act.DoWhile' x a cond) vs w c = inl c
scope_cases (act.For' n first cond o x a) vs w c = inl c
scope_cases act.Break vs w c = inl c
scope_cases act.Continue vs w c = inl c
scope_cases (act.Return e) vs w c = inl c
scope_cases act.Empty vs w c = inl c

-- the others stay apart from what comes into scope
scope_apart : (a : ProgStmtKind) (vs us : List ℕ) → Apart us vs → Apart us (declared_of a) → Apart us (in_scope_after vs a)
scope_apart a vs us f g w c d = by_cases (scope_cases a vs w d)
  where
    by_cases : Contains vs w ⊎ Contains (direct a) w → ⊥
    by_cases (inl x) = f w c x
    by_cases (inr x) = g w c (direct_declared a w x)

scope_apart_row : {n : Count} (row : Row_of-ProgStmt n) (vs us : List ℕ) → Apart us vs → Apart us (declared_row row) → Apart us (in_scope_after_row vs row)
scope_apart_row end_of-ProgStmt vs us f g = f
scope_apart_row (more_of-ProgStmt a at row) vs us f g = scope_apart_row row (in_scope_after vs a) us (scope_apart a vs us f (apart_left us (declared_of a) (declared_row row) g)) (apart_right us (declared_of a) (declared_row row) g)

pub scope_apart_list : (ss : List ProgStmt) (vs us : List ℕ) → Apart us vs → Apart us (all_declared ss) → Apart us (in_scope_after_list vs ss)
scope_apart_list [] vs us f g = f
scope_apart_list (a ∷ rest) vs us f g = scope_apart_list rest (in_scope_after vs a.kind) us (scope_apart a.kind vs us f (apart_left us (declared_of a.kind) (all_declared rest) g)) (apart_right us (declared_of a.kind) (all_declared rest) g)

-- the others, with those that the statements behind declare, stay apart from what a statement declares
others_apart : (us d ds da : List ℕ) → ((w : ℕ) → Contains d w → Contains ds w) → AreOnce (da ++ ds) → Apart us da → Apart (d ++ us) da
others_apart us d ds da f once g w c e = by_cases (Contains-append_cases d us w c)
  where
    by_cases : Contains d w ⊎ Contains us w → ⊥
    by_cases (inl x) = once_apart da ds w once e (f w x)
    by_cases (inr x) = g w x e

with_scope : (n b : ℕ) (vs vs2 us ts : List ℕ) → Lists n b vs us ts → ((w : ℕ) → Contains vs2 w → w < n) → Apart us vs2 → Lists n b vs2 us ts
with_scope n b vs vs2 us ts l s a = record { small = s; few = l.few; apart = a; made = l.made }

-- ---- statements behind the blocks of their calls

go_same : (h : How) (a b : Run) (s : Store) (n : ℕ) → ((s : Store) (n : ℕ) → a s n ≡ b s n) → go_on h a s n ≡ go_on h b s n
go_same normally a b s n e = e s n
go_same h a b s n e = refl

pub last_alone : (K : Objects) (before : List TypedStmt) (kind : TypedStmtKind) (at : Span) (s : Store) (n : ℕ) → in_order (acts K (before ++ act_at kind at ∷ [])) s n ≡ both_runs (in_order (acts K before)) (kind_act K kind).run s n
last_alone K before kind at s n =
    let e = in_order (acts K before) s n in
    acts_append K before (act_at kind at ∷ []) s n ∙ go_same e.how (in_order (kind_act K kind ∷ [])) (kind_act K kind).run e.store e.left (one_alone (kind_act K kind))

-- the block of a statement with calls
pub behind_block : (K : Objects) (before : List TypedStmt) (kind : TypedStmtKind) (at : Span) (ds : List ℕ) → declares_of (acts K before) ≡ [] → (kind_act K kind).declares ≡ ds → (s : Store) (n : ℕ)
    → block (acts K (before ++ act_at kind at ∷ [])) s n ≡ both_runs (in_order (acts K before)) (kind_act K kind).run (unset_vars ds s) n
behind_block K before kind at ds q e s n =
    let xs = acts K (before ++ act_at kind at ∷ []) in
    let d : declares_of xs ≡ ds = ap declares_of (map-append (typed_act K) before (act_at kind at ∷ [])) ∙ flat_map-append (λ (a : Act). a.declares) (acts K before) (kind_act K kind ∷ []) ∙ ap (λ z. z ++ declares_of (kind_act K kind ∷ [])) q ∙ append-nil (kind_act K kind).declares ∙ e in
    ap (λ z. in_order xs (unset_vars z s) n) d ∙ last_alone K before kind at (unset_vars ds s) n

pub behind_runs : (K : Objects) (R S M : Rel) (ret inside : Bool) (before : List TypedStmt) (kind : TypedStmtKind) (at : Span) (a : ℕ → Run) → declares_of (acts K before) ≡ [] → (kind_act K kind).declares ≡ [] → Both R S M ret inside a (both_runs (in_order (acts K before)) (kind_act K kind).run)
    → Both R S M ret inside a (kind_act K (behind before kind at)).run
behind_runs K R S M ret inside [] kind at a q e x = x
behind_runs K R S M ret inside (c ∷ cs) kind at a q e x =
    let before = c ∷ cs in
    subst (λ (z : Act). Both R S M ret inside a z.run) (sym (stmt_block (before ++ act_at kind at ∷ []) K))
    (both_turn R S M ret inside a (block (acts K (before ++ act_at kind at ∷ [])))
    (both_respell R S M ret inside a a (both_runs (in_order (acts K before)) (kind_act K kind).run) (block (acts K (before ++ act_at kind at ∷ []))) (λ n s l. refl) (λ s l. behind_block K before kind at [] q e s l) x))

-- ---- what is assigned to

new_same : (k K : Objects) (to to2 : Object) (op : Option Binary) (ty : Ty) → k.profile ≡ K.profile → object_type K to2 ≡ object_type k to → new_of K to2 op ty ≡ new_of k to op ty
new_same k K to to2 None ty p e = refl
new_same k K to to2 (Some o) ty p e =
    ap (λ t. joined_value (joined_in K.profile o (joint_type o t ty))) e ∙ ap (λ q. joined_value (joined_in q o (joint_type o (object_type k to) ty))) (sym p)

one_written : (S : Rel) (p q : Place) (t : Ty) (w : Option ℤ) (s r : Store) → ((z : ℤ) → S (write_place p z s) (write_place q z r)) → Alike S (option_map (λ z. write_place p (conv t z) s) w) (option_map (λ z. write_place q (conv t z) r) w)
one_written S p q t None s r f = neither
one_written S p q t (Some z) s r f = each (write_place p (conv t z) s) (write_place q (conv t z) r) (f (conv t z))

both_written : (S : Rel) (p q : Place) (t : Ty) (f : New) (z : ℤ) (s r : Store) → read_place s p ≡ read_place r q → ((z : ℤ) → S (write_place p z s) (write_place q z r)) → Alike S (written t (Some p) f z s) (written t (Some q) f z r)
both_written S p q t f z s r e g = subst (λ o. Alike S (written t (Some p) f z s) (option_map (λ w. write_place q (conv t w) r) (f o z))) e (one_written S p q t (f (read_place s p) z) s r g)

var_written : (S : Rel) (ka Ka : List ArrayOf) (v v2 : ℕ) (is : List ℤ) (t : Ty) (f : New) (z : ℤ) (s r : Store) → read_var s v ≡ read_var r v2 → ((z : ℤ) → S (set_var v z s) (set_var v2 z r))
    → Alike S (written t (object_place ka (object.Var v) is) f z s) (written t (object_place Ka (object.Var v2) is) f z r)
var_written S ka Ka v v2 [] t f z s r e g = both_written S (of_var v) (of_var v2) t f z s r e g
var_written S ka Ka v v2 (i ∷ is) t f z s r e g = neither

element_written : (S : Rel) (a : ℕ) (o : Option ℕ) (t : Ty) (f : New) (z : ℤ) (s r : Store) → s.arrays ≡ r.arrays → ((i : ℕ) (z : ℤ) → S (write_place (of_element a i) z s) (write_place (of_element a i) z r))
    → Alike S (written t (element_place a o) f z s) (written t (element_place a o) f z r)
element_written S a None t f z s r e g = neither
element_written S a (Some i) t f z s r e g = both_written S (of_element a i) (of_element a i) t f z s r (ap (λ arrays. read_element (record { vars = s.vars; arrays = arrays }) a i) e) (g i)

-- ---- whether it may return

abbrev pub returns : Option (Option Ty) → Bool
returns None = false
returns (Some t) = true

return_value : (E : ProgExpr → Type 0) (r : Option (Option Ty)) (e : ProgExpr) → LawfulCallReturn E r (Some e) → IsTrue (returns r) × E e
return_value E None e l = absurd l
return_value E (Some None) e l = absurd l
return_value E (Some (Some t)) e l = (refl, l.1)

return_nothing : (E : ProgExpr → Type 0) (r : Option (Option Ty)) → LawfulCallReturn E r None → IsTrue (returns r)
return_nothing E None l = absurd l
return_nothing E (Some None) l = refl
return_nothing E (Some (Some t)) l = refl

module _ (W : World) (r : Option (Option Ty)) where
  abbrev k : Objects
  k = objects_of W.profile W.kv W.ka

  abbrev K : Objects
  K = objects_of W.profile W.Kv W.Ka

  abbrev n : ℕ
  n = length W.kv

  abbrev base : ℕ
  base = W.b + length W.kv

  abbrev ret : Bool
  ret = returns r

  abbrev pub Near_to : List ℕ → List ℕ → List ℕ → Rel
  Near_to vs us ts s t = Agree k K W.b W.own W.low vs us ts s t

  less : (vs us ts vs2 us2 ts2 : List ℕ) → ((w : ℕ) → Contains vs2 w → Contains vs w) → ((w : ℕ) → Contains us2 w → Contains us w) → ((w : ℕ) → Contains ts2 w → Contains ts w) → (s t : Store) → Near_to vs us ts s t → Near_to vs2 us2 ts2 s t
  less vs us ts vs2 us2 ts2 f g h s t a = agree_less k K W.b W.own W.low vs us ts vs2 us2 ts2 s t f g h a

  -- from a store where d is unset with calls and x without, to one with vs2 in scope
  abbrev pub Runs : List ℕ → List ℕ → List ℕ → List ℕ → List ℕ → List ℕ → Bool → (ℕ → Run) → Run → Type 0
  Runs vs us ts vs2 d x inside a b = Both (Near_to vs (d ++ us) (x ++ ts)) (Near_to vs2 us ts) (Near_to vs us ts) ret inside a b

  runs_cons : (vs us ts vs1 vs2 d x d2 x2 : List ℕ) (inside : Bool) (a a2 : ℕ → Run) (b b2 : Run) → ((w : ℕ) → Contains vs w → Contains vs1 w) → Runs vs (d2 ++ us) (x2 ++ ts) vs1 d x inside a b → Runs vs1 us ts vs2 d2 x2 inside a2 b2
      → Runs vs us ts vs2 (d ++ d2) (x ++ x2) inside (λ n. both_runs (a n) (a2 n)) (both_runs b b2)
  runs_cons vs us ts vs1 vs2 d x d2 x2 inside a a2 b b2 f first rest =
      both_both (Near_to vs ((d ++ d2) ++ us) ((x ++ x2) ++ ts)) (Near_to vs1 (d2 ++ us) (x2 ++ ts)) (Near_to vs2 us ts) (Near_to vs us ts) ret inside a a2 b b2
      (both_map (Near_to vs (d ++ (d2 ++ us)) (x ++ (x2 ++ ts))) (Near_to vs ((d ++ d2) ++ us) ((x ++ x2) ++ ts)) (Near_to vs1 (d2 ++ us) (x2 ++ ts)) (Near_to vs1 (d2 ++ us) (x2 ++ ts)) (Near_to vs (d2 ++ us) (x2 ++ ts)) (Near_to vs us ts) ret inside inside a b
      (λ s t z. subst (λ q. Near_to vs q (x ++ (x2 ++ ts)) s t) (append_assoc d d2 us) (subst (λ q. Near_to vs ((d ++ d2) ++ us) q s t) (append_assoc x x2 ts) z)) (λ s t z. z)
      (less vs (d2 ++ us) (x2 ++ ts) vs us ts (λ w c. c) (λ w c. Contains-append_right d2 us w c) (λ w c. Contains-append_right x2 ts w c)) (λ e. e) first)
      (both_map (Near_to vs1 (d2 ++ us) (x2 ++ ts)) (Near_to vs1 (d2 ++ us) (x2 ++ ts)) (Near_to vs2 us ts) (Near_to vs2 us ts) (Near_to vs1 us ts) (Near_to vs us ts) ret inside inside a2 b2
      (λ s t z. z) (λ s t z. z) (less vs1 us ts vs us ts f (λ w c. c) (λ w c. c)) (λ e. e) rest)

  -- a block, or a part, or the scope of a for: what it declares directly is unset
  pub enter : (vs us ts d x : List ℕ) (S M : Rel) (inside : Bool) (a : ℕ → Run) (b : Run) (ds : ℕ → List ℕ) (xs : List ℕ) → Lists n W.b vs d x → ((i : ℕ) → ds i ≡ d) → xs ≡ x → Both (Near_to vs (d ++ us) (x ++ ts)) S M ret inside a b
      → Both (Near_to vs us ts) S M ret inside (λ i s l. a i (unset_vars (ds i) s) l) (λ s l. b (unset_vars xs s) l)
  enter vs us ts d x S M inside a b ds xs l e h z =
      both_respell (Near_to vs us ts) S M ret inside (λ i s l. a i (unset_vars d s) l) (λ i s l. a i (unset_vars (ds i) s) l) (λ s l. b (unset_vars x s) l) (λ s l. b (unset_vars xs s) l)
      (λ i s l0. ap (λ q. a i (unset_vars q s) l0) (e i)) (λ s l0. ap (λ q. b (unset_vars q s) l0) h)
      (both_from (Near_to vs (d ++ us) (x ++ ts)) (Near_to vs us ts) S M ret inside a b (unset_vars d) (unset_vars x) (λ s t q. agree_enter k K W.b W.own W.low vs us ts d x s t l q) z)

  -- back to the scope outside
  leave : (vs us ts vs2 d x : List ℕ) (inside : Bool) (a : ℕ → Run) (b : Run) → ((w : ℕ) → Contains vs w → Contains vs2 w) → Runs vs us ts vs2 d x inside a b → Both (Near_to vs (d ++ us) (x ++ ts)) (Near_to vs us ts) (Near_to vs us ts) ret inside a b
  leave vs us ts vs2 d x inside a b f z =
      both_map (Near_to vs (d ++ us) (x ++ ts)) (Near_to vs (d ++ us) (x ++ ts)) (Near_to vs2 us ts) (Near_to vs us ts) (Near_to vs us ts) (Near_to vs us ts) ret inside inside a b (λ s t q. q) (less vs2 us ts vs us ts f (λ w c. c) (λ w c. c)) (λ s t q. q) (λ e. e) z

  -- ---- expressions

  exprs : (vs us ts : List ℕ) (l : Lists n W.b vs us ts) (f : ℕ) (es : List ProgExpr) → base ≤ f → Seg W.Kv f (inline_all W.writings W.b f es).types → All (LawfulCallExpr k W.signatures true) es → All (ReadsAt vs) es
      → Expands K (Near_to vs us ts) f (f + length (inline_all W.writings W.b f es).types) (vals_means (λ i. map (prog_meaning k (W.calls i)) es)) (inline_all W.writings W.b f es).before (vals_gives (map (meaning K) (inline_all W.writings W.b f es).exprs))
  exprs vs us ts l f [] le seg a c = no_expands W vs us ts l f le
  exprs vs us ts l f (e ∷ es) le seg a c =
      let i = inline_of W.writings W.b f e in
      let g = f + length i.types in
      let o = inline_all W.writings W.b g es in
      let h = g + length o.types in
      let size = length-append i.types o.types in
      let z : g + length o.types ≡ f + length (i.types ++ o.types) = omega arith in
      let m : ℕ → Meaning = λ j. prog_meaning k (W.calls j) e in
      let xs : ℕ → List Meaning = λ j. map (prog_meaning k (W.calls j)) es in
      subst (λ j. Expands K (Near_to vs us ts) f j (vals_means (λ j. m j ∷ xs j)) (i.before ++ o.before) (vals_gives (meaning K (rest_of i e) ∷ map (meaning K) o.exprs))) z
      (cons_expands W vs us ts l f g h m xs i.before o.before (meaning K (rest_of i e)) (map (meaning K) o.exprs) le (expands W vs us ts l f e.kind e.ty e.at le (seg_first W.Kv f i.types o.types seg) (All-head (LawfulCallExpr k W.signatures true) e es a) (All-head (ReadsAt vs) e es c))
      (exprs vs us ts l g es (omega arith) (seg_rest W.Kv f i.types o.types seg) (All-tail (LawfulCallExpr k W.signatures true) e es a) (All-tail (ReadsAt vs) e es c)))

  -- ---- declarations

  var_type : (v : ℕ) → v < n → object_type K (object.Var (W.b + v)) ≡ object_type k (object.Var v)
  var_type v lt = sym (unwrap_or-slice_get W.Kv (W.b + v) I32) ∙ ap (λ o. unwrap_or o I32) (W.types v lt) ∙ unwrap_or-slice_get W.kv v I32

  set_again : (vs us ts : List ℕ) (v : ℕ) (z : Option ℤ) (s t : Store) → Lists n W.b vs us ts → v < n → (Contains us v → ⊥) → Near_to vs us ts s t → Near_to (v ∷ vs) us ts (put v z s) (put (W.b + v) z t)
  set_again vs us ts v z s t l lt other a = agree_put k K W.b W.own W.low vs us ts v z s t l lt (let e = W.room in let g = W.stores in let h = W.count in omega arith) other a

  declare_runs : (before : List TypedStmt) (v : ℕ) (vs us ts : List ℕ) (inside : Bool) (at : Span) (x : Option TypedExpr) (a : ℕ → Run) → Lists n W.b vs (v ∷ us) ts → declares_of (acts K before) ≡ []
      → Both (Near_to (v ∷ vs) us ts) (Near_to (v ∷ vs) us ts) (Near_to (v ∷ vs) us ts) ret inside a (both_runs (in_order (acts K before)) (kind_act K (stmt.Declare (W.b + v) x)).run)
      → Runs vs us ts (v ∷ vs) (v ∷ []) (made_by before (W.b + v)) inside a (kind_act K (behind before (stmt.Declare (W.b + v) x) at)).run
  declare_runs [] v vs us ts inside at x a l q z =
      both_map (Near_to (v ∷ vs) us ts) (Near_to vs (v ∷ us) ((W.b + v) ∷ ts)) (Near_to (v ∷ vs) us ts) (Near_to (v ∷ vs) us ts) (Near_to (v ∷ vs) us ts) (Near_to vs us ts) ret inside inside a (kind_act K (stmt.Declare (W.b + v) x)).run
      (λ s t y. agree_scope k K W.b W.own W.low vs us ts v s t (y.unset_too (W.b + v) (here (W.b + v) ts)) (less vs (v ∷ us) ((W.b + v) ∷ ts) vs (v ∷ us) ts (λ w c. c) (λ w c. c) (there (W.b + v) ts) s t y))
      (λ s t y. y) (less (v ∷ vs) us ts vs us ts (there v vs) (λ w c. c) (λ w c. c)) (λ e. e) z
  declare_runs (c ∷ cs) v vs us ts inside at x a l q z =
      let before = c ∷ cs in
      let kind = stmt.Declare (W.b + v) x in
      let R0 = Near_to vs (v ∷ us) ts in
      let Ra = Near_to (v ∷ vs) us ts in
      let M0 = Near_to vs us ts in
      let b = both_runs (in_order (acts K before)) (kind_act K kind).run in
      let opened = both_from Ra R0 Ra Ra ret inside a b (λ s. s) (put (W.b + v) None) (λ s t y. agree_open k K W.b W.own W.low vs us ts v s t l y) z in
      let unset = both_map R0 R0 Ra Ra Ra M0 ret inside inside a (λ s l. b (put (W.b + v) None s) l) (λ s t y. y) (λ s t y. y) (less (v ∷ vs) us ts vs us ts (there v vs) (λ w c. c) (λ w c. c)) (λ e. e) opened in
      subst (λ (y : Act). Both R0 Ra M0 ret inside a y.run) (sym (stmt_block (before ++ act_at kind at ∷ []) K))
      (both_turn R0 Ra M0 ret inside a (block (acts K (before ++ act_at kind at ∷ [])))
      (both_respell R0 Ra M0 ret inside a a (λ s l. b (put (W.b + v) None s) l) (block (acts K (before ++ act_at kind at ∷ []))) (λ i s l. refl)
      (λ s l. behind_block K before kind at ((W.b + v) ∷ []) q (ap (λ (y : Act). y.declares) (stmt_declare (W.b + v) x K)) s l) unset))

  -- ---- assignments

  place_alike : (vs us ts : List ℕ) (to : Object) (count : ℕ) (t : Ty) (at : Span) (op : Option Binary) (ty : Ty) (inside : Bool) (M : Rel) → Lists n W.b vs us ts → IsObject k to count t → IsObjectOf vs to → (x : Given)
      → Both (Near_to vs us ts) (Near_to vs us ts) M ret inside (λ i. assigns k to at op ty x) (assigns K (moved W.b to) at op ty x)
  place_alike vs us ts (object.Var v) count t at op ty inside M l is c x =
      let S = Near_to vs us ts in
      let to = object.Var v in
      let to2 = object.Var (W.b + v) in
      let lt : v < n = l.small v c in
      let e = var_type v lt in
      outcomes S S M ret inside (λ s. written (object_type k to) (object_place k.arrays to x.0) (new_of k to op ty) x.1 s) (λ s. written (object_type K to2) (object_place K.arrays to2 x.0) (new_of K to2 op ty) x.1 s) at at
      (λ s r a.
      let same = var_written S k.arrays K.arrays v (W.b + v) x.0 (object_type k to) (new_of k to op ty) x.1 s r (a.same v c)
      (λ z. less (v ∷ vs) us ts vs us ts (there v vs) (λ w d. d) (λ w d. d) (set_var v z s) (set_var (W.b + v) z r) (set_again vs us ts v (Some z) s r l lt (λ d. l.apart v d c) a)) in
      subst (λ f. Alike S (written (object_type k to) (object_place k.arrays to x.0) (new_of k to op ty) x.1 s) (written (object_type K to2) (object_place K.arrays to2 x.0) f x.1 r)) (sym (new_same k K to to2 op ty refl e))
      (subst (λ ty1. Alike S (written (object_type k to) (object_place k.arrays to x.0) (new_of k to op ty) x.1 s) (written ty1 (object_place K.arrays to2 x.0) (new_of k to op ty) x.1 r)) (sym e) same))
  place_alike vs us ts (object.Array a) count t at op ty inside M l is c x =
      let S = Near_to vs us ts in
      let to = object.Array a in
      let own = owns W vs us ts l a is.0 is.1 in
      outcomes S S M ret inside (λ s. written (object_type k to) (object_place k.arrays to x.0) (new_of k to op ty) x.1 s) (λ s. written (object_type K to) (object_place K.arrays to x.0) (new_of K to op ty) x.1 s) at at
      (λ s r y.
      let same = element_written S a (place W.ka a x.0) (object_type k to) (new_of k to op ty) x.1 s r (held_same W.own W.low.arrays s.arrays r.arrays own.0 y.arrays) (λ i z. agree_element k K W.b W.own W.low vs us ts a i z s r own.0 y) in
      subst (λ ka. Alike S (written (object_type k to) (object_place k.arrays to x.0) (new_of k to op ty) x.1 s) (written (object_type (objects_of W.profile W.Kv ka) to) (object_place ka to x.0) (new_of (objects_of W.profile W.Kv ka) to op ty) x.1 r)) own.1
      (subst (λ f. Alike S (written (object_type k to) (object_place k.arrays to x.0) (new_of k to op ty) x.1 s) (written (object_type k to) (object_place k.arrays to x.0) f x.1 r)) (sym (new_same k (objects_of W.profile W.Kv W.ka) to to op ty refl refl)) same))

  -- an assignment, of indices and a value
  assign_runs : (vs us ts : List ℕ) (l : Lists n W.b vs us ts) (f g h : ℕ) (to : Object) (count : ℕ) (t : Ty) (at at2 : Span) (op : Option Binary) (ty : Ty) (inside : Bool) (xs : ℕ → List Meaning) (c : ℕ → Meaning) (xs2 : List Meaning) (c2 : Meaning) (b1 b2 before : List TypedStmt) (kind : TypedStmtKind)
      → base ≤ f → IsObject k to count t → IsObjectOf vs to → Expands K (Near_to vs us ts) f g (vals_means xs) b1 (vals_gives xs2) → Expands K (Near_to vs us ts) g h (val_means c) b2 (val_gives c2) → b1 ++ b2 ≡ before
      → (kind_act K kind).declares ≡ [] → (kind_act K kind).run ≡ turn (assignment K (target_of (moved W.b to) at xs2) op ty c2)
      → Both (Near_to vs us ts) (Near_to vs us ts) (Near_to vs us ts) ret inside (λ i. turn (assignment k (target_of to at (xs i)) op ty (c i))) (kind_act K (behind before kind at2)).run
  assign_runs vs us ts l f g h to count t at at2 op ty inside xs c xs2 c2 b1 b2 before kind le is scope e1 e2 same quiet runs =
      let S = Near_to vs us ts in
      let two = pair_expands K S f g h (vals_means xs) (val_means c) b1 b2 (vals_gives xs2) (val_gives c2) (near W vs us ts l f le) e1 e2 in
      let a : ℕ → Run = λ i. assignment k (target_of to at (xs i)) op ty (c i) in
      let b = assignment K (target_of (moved W.b to) at xs2) op ty c2 in
      let m = Two (vals_means xs) (val_means c) in
      let left = both_give (vals_gives xs2) (val_gives c2) in
      let own = own_both K S S S ret inside f h m (b1 ++ b2) left (λ i. turn (a i)) (turn b) (λ i. assigns k to at op ty) (assigns K (moved W.b to) at op ty) (near W vs us ts l f le) two
      (uses_turn m a (λ i. assigns k to at op ty) (assign_uses k to at xs op ty c)) (left_turn left b (assigns K (moved W.b to) at op ty) (assign_left K (moved W.b to) at xs2 op ty c2))
      (place_alike vs us ts to count t at op ty inside S l is scope) in
      subst (λ bs. Both S S S ret inside (λ i. turn (a i)) (kind_act K (behind bs kind at2)).run) same
      (behind_runs K S S S ret inside (b1 ++ b2) kind at2 (λ i. turn (a i)) two.quiet quiet
      (subst (λ z. Both S S S ret inside (λ i. turn (a i)) (both_runs (in_order (acts K (b1 ++ b2))) z)) (sym runs) own))

  -- ---- a for, where its parts run

  for_runs : (vs us ts vs2 d x : List ℕ) (inside : Bool) (A : ℕ → List Act) (B : List Act) (c : ℕ → Meaning) (c2 : Meaning) (body : ℕ → Run) (body2 : Run) (step : ℕ → Run) (step2 : Run) (kind : TypedStmtKind) → ((w : ℕ) → Contains vs w → Contains vs2 w) → Lists n W.b vs d x → ((i : ℕ) → declares_of (A i) ≡ d) → declares_of B ≡ x
      → Runs vs us ts vs2 d x false (λ i. in_order (A i)) (in_order B) → ((i : ℕ) (s t : Store) → Near_to vs2 us ts s t → c2 t ≡ c i s)
      → Both (Near_to vs2 us ts) (Near_to vs2 us ts) (Near_to vs2 us ts) ret true body body2 → Both (Near_to vs2 us ts) (Near_to vs2 us ts) (Near_to vs2 us ts) ret false step step2
      → (kind_act K kind).run ≡ turn (λ s l. both_runs (in_order B) (loop nothing c2 body2 step2) (unset_vars (declares_of B) s) l)
      → Both (Near_to vs us ts) (Near_to vs us ts) (Near_to vs us ts) ret inside (λ i. turn (λ s l. both_runs (in_order (A i)) (loop nothing (c i) (body i) (step i)) (unset_vars (declares_of (A i)) s) l)) (kind_act K kind).run
  for_runs vs us ts vs2 d x inside A B c c2 body body2 step step2 kind grows l e h first is bodies steps run =
      let S = Near_to vs us ts in
      let T = Near_to vs2 us ts in
      let R0 = Near_to vs (d ++ us) (x ++ ts) in
      let out = less vs2 us ts vs us ts grows (λ w q. q) (λ w q. q) in
      let firsts = both_map R0 R0 T T S S ret false inside (λ i. in_order (A i)) (in_order B) (λ s t q. q) (λ s t q. q) (λ s t q. q) (λ q. absurd (false≢true q)) first in
      let steps2 = both_map T T T T T T ret false inside step step2 (λ s t q. q) (λ s t q. q) (λ s t q. q) (λ q. absurd (false≢true q)) steps in
      let loops = both_map T T T S T S ret inside inside (λ i. loop nothing (c i) (body i) (step i)) (loop nothing c2 body2 step2) (λ s t q. q) out out (λ q. q) (both_loop T ret inside c c2 body step body2 step2 is bodies steps2) in
      let both = both_both R0 T S S ret inside (λ i. in_order (A i)) (λ i. loop nothing (c i) (body i) (step i)) (in_order B) (loop nothing c2 body2 step2) firsts loops in
      let entered = enter vs us ts d x S S inside (λ i. both_runs (in_order (A i)) (loop nothing (c i) (body i) (step i))) (both_runs (in_order B) (loop nothing c2 body2 step2)) (λ i. declares_of (A i)) (declares_of B) l e h both in
      subst (λ z. Both S S S ret inside (λ i. turn (λ s l. both_runs (in_order (A i)) (loop nothing (c i) (body i) (step i)) (unset_vars (declares_of (A i)) s) l)) z) (sym run)
      (both_turns S S S ret inside (λ i s l. both_runs (in_order (A i)) (loop nothing (c i) (body i) (step i)) (unset_vars (declares_of (A i)) s) l) (λ s l. both_runs (in_order B) (loop nothing c2 body2 step2) (unset_vars (declares_of B) s) l) entered)

  -- ---- choices

  if_runs : (vs us ts : List ℕ) (l : Lists n W.b vs us ts) (f g : ℕ) (c : ℕ → Meaning) (c2 : Meaning) (before : List TypedStmt) (kind : TypedStmtKind) (at : Span) (inside : Bool) (yes_run no_run : ℕ → Run) (yes2 no2 : Run) → base ≤ f → Expands K (Near_to vs us ts) f g (val_means c) before (val_gives c2)
      → Both (Near_to vs us ts) (Near_to vs us ts) (Near_to vs us ts) ret inside yes_run yes2 → Both (Near_to vs us ts) (Near_to vs us ts) (Near_to vs us ts) ret inside no_run no2
      → (kind_act K kind).declares ≡ [] → (kind_act K kind).run ≡ turn (turn (with_value c2 (λ x. run_of (is_zero x) no2 yes2)))
      → Both (Near_to vs us ts) (Near_to vs us ts) (Near_to vs us ts) ret inside (λ i. turn (turn (with_value (c i) (λ x. run_of (is_zero x) (no_run i) (yes_run i))))) (kind_act K (behind before kind at)).run
  if_runs vs us ts l f g c c2 before kind at inside yes_run no_run yes2 no2 le e y z quiet runs =
      let S = Near_to vs us ts in
      let next : ℕ → ℤ → Run = λ i x. run_of (is_zero x) (no_run i) (yes_run i) in
      let next2 : ℤ → Run = λ x. run_of (is_zero x) no2 yes2 in
      let a : ℕ → Run = λ i. turn (turn (with_value (c i) (next i))) in
      let own = own_both K S S S ret inside f g (val_means c) before (val_gives c2) a (turn (turn (with_value c2 next2))) next next2 (near W vs us ts l f le) e
      (uses_turn (val_means c) (λ i. turn (with_value (c i) (next i))) next (uses_turn (val_means c) (λ i. with_value (c i) (next i)) next (value_uses c next)))
      (left_turn (val_gives c2) (turn (with_value c2 next2)) next2 (left_turn (val_gives c2) (with_value c2 next2) next2 (value_left c2 next2)))
      (λ x. both_side (is_zero x) S S S ret inside no_run yes_run no2 yes2 z y) in
      behind_runs K S S S ret inside before kind at a e.quiet quiet (subst (λ w. Both S S S ret inside a (both_runs (in_order (acts K before)) w)) (sym runs) own)

  return_runs : (vs us ts : List ℕ) (l : Lists n W.b vs us ts) (f g : ℕ) (c : ℕ → Meaning) (c2 : Meaning) (before : List TypedStmt) (kind : TypedStmtKind) (at : Span) (inside : Bool) → base ≤ f → IsTrue ret → Expands K (Near_to vs us ts) f g (val_means c) before (val_gives c2)
      → (kind_act K kind).declares ≡ [] → (kind_act K kind).run ≡ turn (with_value c2 (λ x. ends (by_return (Some x))))
      → Both (Near_to vs us ts) (Near_to vs us ts) (Near_to vs us ts) ret inside (λ i. turn (with_value (c i) (λ x. ends (by_return (Some x))))) (kind_act K (behind before kind at)).run
  return_runs vs us ts l f g c c2 before kind at inside le yes_ret e quiet runs =
      let S = Near_to vs us ts in
      let next : ℤ → Run = λ x. ends (by_return (Some x)) in
      let a : ℕ → Run = λ i. turn (with_value (c i) next) in
      let own = own_both K S S S ret inside f g (val_means c) before (val_gives c2) a (turn (with_value c2 next)) (λ i. next) next (near W vs us ts l f le) e
      (uses_turn (val_means c) (λ i. with_value (c i) next) (λ i. next) (value_uses c (λ i. next)))
      (left_turn (val_gives c2) (with_value c2 next) next (value_left c2 next))
      (λ x. both_return S S S ret inside (Some x) yes_ret (λ s t z. z)) in
      behind_runs K S S S ret inside before kind at a e.quiet quiet (subst (λ w. Both S S S ret inside a (both_runs (in_order (acts K before)) w)) (sym runs) own)

  -- a declaration with a value
  value_runs : (vs us ts : List ℕ) (v : ℕ) (f : ℕ) (e : ProgExpr) (at : Span) (inside : Bool) → base ≤ f → Seg W.Kv f (inline_of W.writings W.b f e).types → v < n → LawfulCallExpr k W.signatures true e → ReadsAt (v ∷ vs) e → Lists n W.b vs (v ∷ us) ts → Lists n W.b (v ∷ vs) us ts
      → Runs vs us ts (v ∷ vs) (v ∷ []) (made_by (inline_of W.writings W.b f e).before (W.b + v)) inside (λ i. turn (with_value (prog_meaning k (W.calls i) e) (storing (object_type k (object.Var v)) (of_var v))))
      (kind_act K (behind (inline_of W.writings W.b f e).before (stmt.Declare (W.b + v) (Some (rest_of (inline_of W.writings W.b f e) e))) at)).run
  value_runs vs us ts v f e at inside le seg lt lw sc l0 l1 =
      let S = Near_to (v ∷ vs) us ts in
      let o = inline_of W.writings W.b f e in
      let c : ℕ → Meaning = λ i. prog_meaning k (W.calls i) e in
      let c2 = meaning K (rest_of o e) in
      let t1 = object_type k (object.Var v) in
      let t2 = object_type K (object.Var (W.b + v)) in
      let next : ℤ → Run = storing t1 (of_var v) in
      let next2 : ℤ → Run = storing t2 (of_var (W.b + v)) in
      let a : ℕ → Run = λ i. turn (with_value (c i) next) in
      let x = expands W (v ∷ vs) us ts l1 f e.kind e.ty e.at le seg lw sc in
      let drop = less (v ∷ (v ∷ vs)) us ts (v ∷ vs) us ts (there v (v ∷ vs)) (λ w d. d) (λ w d. d) in
      let own = own_both K S S S ret inside f (f + length o.types) (val_means c) o.before (val_gives c2) a (turn (with_value c2 next2)) (λ i. next) next2 (near W (v ∷ vs) us ts l1 f le) x
      (uses_turn (val_means c) (λ i. with_value (c i) next) (λ i. next) (value_uses c (λ i. next)))
      (left_turn (val_gives c2) (with_value c2 next2) next2 (value_left c2 next2))
      (λ z. outcomes S S S ret inside (λ s. Some (put v (Some (conv t1 z)) s)) (λ s. Some (put (W.b + v) (Some (conv t2 z)) s)) at at
      (λ s t y. each (put v (Some (conv t1 z)) s) (put (W.b + v) (Some (conv t2 z)) t)
      (subst (λ ty. S (put v (Some (conv t1 z)) s) (put (W.b + v) (Some (conv ty z)) t)) (sym (var_type v lt))
      (drop (put v (Some (conv t1 z)) s) (put (W.b + v) (Some (conv t1 z)) t) (set_again (v ∷ vs) us ts v (Some (conv t1 z)) s t l1 lt (λ d. l1.apart v d (here v vs)) y))))) in
      declare_runs o.before v vs us ts inside at (Some (rest_of o e)) a l0 x.quiet
      (subst (λ (w : Act). Both S S S ret inside a (both_runs (in_order (acts K o.before)) w.run)) (sym (stmt_declare (W.b + v) (Some (rest_of o e)) K)) own)

  condition_same : (vs us ts : List ℕ) (l : Lists n W.b vs us ts) (f : ℕ) (cond : Option ProgExpr) → IfAnyExpr (LawfulCallExpr k W.signatures false) cond → IfAnyExpr (ReadsAt vs) cond → (i : ℕ) (s t : Store) → Near_to vs us ts s t
      → condition (meant_if_any K (inline_option W.writings W.b f cond).expr) t ≡ condition (prog_if_any k (W.calls i) cond) s
  condition_same vs us ts l f None lw sc i s t a = refl
  condition_same vs us ts l f (Some e) lw sc i s t a = (plain W vs us ts l f e.kind e.ty e.at lw sc).same i s t a

  -- ---- blocks and parts, where what they hold runs

  part_runs : (vs us ts : List ℕ) (f : ℕ) (a : ProgStmtKind) (at : Span) (inside : Bool) → ((w : ℕ) → Contains vs w → w < n) → LawfulCallStmt k W.signatures r inside a → IsScoped a vs
      → Runs vs us ts (in_scope_after vs a) (direct a) (made W.writings W.b f a) inside (λ i. (prog_kind_act k (W.calls i) a).run) (kind_act K (inline_stmt W.writings W.b f a at).kind).run
      → Both (Near_to vs us ts) (Near_to vs us ts) (Near_to vs us ts) ret inside (λ i. part (prog_kind_act k (W.calls i) a)) (part (kind_act K (inline_stmt W.writings W.b f a at).kind))
  part_runs vs us ts f a at inside small lw sc z =
      let A : ℕ → Act = λ i. prog_kind_act k (W.calls i) a in
      let B = kind_act K (inline_stmt W.writings W.b f a at).kind in
      enter vs us ts (direct a) (made W.writings W.b f a) (Near_to vs us ts) (Near_to vs us ts) inside (λ i. (A i).run) B.run (λ i. (A i).declares ++ []) (B.declares ++ [])
      (direct_lists k W.signatures r W.writings W.b f a inside vs small lw sc) (λ i. append-nil (A i).declares ∙ direct_is k (W.calls i) a) (append-nil B.declares ∙ made_is K W.writings W.b f a at)
      (leave vs us ts (in_scope_after vs a) (direct a) (made W.writings W.b f a) inside (λ i. (A i).run) B.run (scope_grows a vs) z)

  block_runs : (vs us ts : List ℕ) (f : ℕ) {c : Count} (row : Row_of-ProgStmt c) (inside : Bool) → ((w : ℕ) → Contains vs w → w < n) → LawfulCallStmts k W.signatures r inside row → AreScoped row vs
      → Runs vs us ts (in_scope_after_row vs row) (direct_row row) (made_row W.writings W.b f row) inside (λ i. in_order (prog_row_acts k (W.calls i) row)) (in_order (acts K (inline_stmts W.writings W.b f row).stmts))
      → Both (Near_to vs us ts) (Near_to vs us ts) (Near_to vs us ts) ret inside (λ i. block (prog_row_acts k (W.calls i) row)) (block (acts K (inline_stmts W.writings W.b f row).stmts))
  block_runs vs us ts f row inside small lw sc z =
      let A : ℕ → List Act = λ i. prog_row_acts k (W.calls i) row in
      let B = acts K (inline_stmts W.writings W.b f row).stmts in
      enter vs us ts (direct_row row) (made_row W.writings W.b f row) (Near_to vs us ts) (Near_to vs us ts) inside (λ i. in_order (A i)) (in_order B) (λ i. declares_of (A i)) (declares_of B)
      (direct_row_lists k W.signatures r W.writings W.b f row inside vs small lw sc) (λ i. direct_row_is k (W.calls i) row) (made_row_is K W.writings W.b f row)
      (leave vs us ts (in_scope_after_row vs row) (direct_row row) (made_row W.writings W.b f row) inside (λ i. in_order (A i)) (in_order B) (scope_grows_row row vs) z)

  mutual
    pub runs : (f : ℕ) (a : ProgStmtKind) (at : Span) (inside : Bool) (vs us ts : List ℕ) → base ≤ f → Seg W.Kv f (inline_stmt W.writings W.b f a at).types → LawfulCallStmt k W.signatures r inside a → IsScoped a vs → AreOnce (declared_of a) → Lists n W.b vs us ts → Apart us (declared_of a)
        → Runs vs us ts (in_scope_after vs a) (direct a) (made W.writings W.b f a) inside (λ i. (prog_kind_act k (W.calls i) a).run) (kind_act K (inline_stmt W.writings W.b f a at).kind).run
    runs f (act.Block' c row) at inside vs us ts le seg lw sc o l ap0 =
        let S = Near_to vs us ts in
        let i = inline_stmts W.writings W.b f row in
        let A : ℕ → Run = λ j. block (prog_row_acts k (W.calls j) row) in
        subst (λ (z : Act). Both S S S ret inside (λ j. turn (A j)) z.run) (sym (stmt_block i.stmts K))
        (both_turns S S S ret inside A (block (acts K i.stmts)) (block_runs vs us ts f row inside l.small lw sc (rows f row inside vs us ts le seg lw sc o l ap0)))
    runs f (act.Declare v None) at inside vs us ts le seg lw sc o l ap0 =
        let lt = declared_below k W.signatures v None lw in
        let R0 = Near_to vs (v ∷ us) ((W.b + v) ∷ ts) in
        let Ra = Near_to (v ∷ vs) us ts in
        let M = Near_to vs us ts in
        let D = (kind_act K (stmt.Declare (W.b + v) None)).run in
        let A : ℕ → Run = λ i. turn (declared_run k v None) in
        subst (λ (z : Act). Both R0 Ra M ret inside A z.run) (sym (stmt_declare (W.b + v) None K))
        (both_turns R0 Ra M ret inside (λ i. declared_run k v None) (declared_run K (W.b + v) None)
        (outcomes R0 Ra M ret inside (λ s. Some (put v None s)) (λ s. Some (put (W.b + v) None s)) at at
        (λ s t y. each (put v None s) (put (W.b + v) None t)
        (set_again vs us ts v None s t l lt (λ d. ap0 v d (here v [])) (less vs (v ∷ us) ((W.b + v) ∷ ts) vs us ts (λ w d. d) (there v us) (there (W.b + v) ts) s t y)))))
    runs f (act.Declare v (Some e)) at inside vs us ts le seg lw sc o l ap0 =
        let lt = declared_below k W.signatures v (Some e) lw in
        let l0 : Lists n W.b vs (v ∷ us) ts = record { small = l.small; few = λ w c. few_at w lt l.few (member_cases v us w c); apart = λ w c d. apart_at w vs sc.0 l.apart d (member_cases v us w c); made = λ x c. let m = l.made x c in (m.0, m.1, there v us m.0 m.2) } in
        let l1 = with_scope n W.b vs (v ∷ vs) us ts l (small_after k W.signatures r W.writings W.b (act.Declare v (Some e)) inside vs l.small lw) (scope_apart (act.Declare v (Some e)) vs us l.apart ap0) in
        value_runs vs us ts v f e at inside le seg lt lw.1 sc.1 l0 l1
      where
        few_at : (w : ℕ) → v < n → ((w : ℕ) → Contains us w → w < n) → (w ≡ v) ⊎ Contains us w → w < n
        few_at w lt g (inl q) = omega arith
        few_at w lt g (inr c) = g w c

        apart_at : (w : ℕ) (vs : List ℕ) → ¬ (Contains vs v) → Apart us vs → Contains vs w → (w ≡ v) ⊎ Contains us w → ⊥
        apart_at w vs no0 g d (inl q) = no0 (subst (Contains vs) q d)
        apart_at w vs no0 g d (inr c) = g w c d
    runs f (act.Assign target op e) at inside vs us ts le seg lw sc o l ap0 =
        let i = inline_all W.writings W.b f target.indices in
        let g = f + length i.types in
        let o = inline_of W.writings W.b g e in
        let to = target_to W.b target i.exprs in
        assign_runs vs us ts l f g (g + length o.types) target.to (length target.indices) lw.0 target.at at op e.ty inside (λ j. map (prog_meaning k (W.calls j)) target.indices) (λ j. prog_meaning k (W.calls j) e) (map (meaning K) i.exprs) (meaning K (rest_of o e)) i.before o.before (i.before ++ o.before) (stmt.Assign to op (rest_of o e))
        le lw.1.0 sc.0.0 (exprs vs us ts l f target.indices le (seg_first W.Kv f i.types o.types seg) lw.1.1 sc.0.1) (expands W vs us ts l g e.kind e.ty e.at (omega arith) (seg_rest W.Kv f i.types o.types seg) lw.3 sc.1) refl
        (ap (λ (z : Act). z.declares) (stmt_assign to op (rest_of o e) K)) (ap (λ (z : Act). z.run) (stmt_assign to op (rest_of o e) K))
    runs f (act.Step target up) at inside vs us ts le seg lw sc o l ap0 =
        let i = inline_all W.writings W.b f target.indices in
        let g = f + length i.types in
        let S = Near_to vs us ts in
        let to = target_to W.b target i.exprs in
        let one : Meaning = always (pos 1) in
        assign_runs vs us ts l f g g target.to (length target.indices) lw.0 target.at at (Some (step_operator up)) I32 inside (λ j. map (prog_meaning k (W.calls j)) target.indices) (λ j. one) (map (meaning K) i.exprs) one i.before [] i.before (stmt.Step to up)
        le lw.1.0 sc.0 (exprs vs us ts l f target.indices le seg lw.1.1 sc.1)
        (whole_expands K S g g (val_means (λ j. one)) (val_gives one) (omega arith) (λ r0 q x z h. h) (λ n0 s t x u r0 h. (u, h)) (λ s t x r0 h. record { least = 0; uses = h.0; is = λ j. h.1 })) (append-nil i.before)
        (ap (λ (z : Act). z.declares) (stmt_stepping to up K)) (ap (λ (z : Act). z.run) (stmt_stepping to up K))
    runs f (act.If' cond x (more_of-ProgStmt a at0 end_of-ProgStmt) other) at inside vs us ts le seg lw sc o l ap0 =
        let i = inline_of W.writings W.b f cond in
        let g = f + length i.types in
        let y = inline_stmt W.writings W.b g a at0 in
        let h = g + length y.types in
        let z = inline_held W.writings W.b h other in
        let rest = seg_rest W.Kv f i.types (y.types ++ z.types) seg in
        let e = stmt_if (rest_of i cond) (act_at y.kind at0) z.stmt K in
        if_runs vs us ts l f g (λ j. prog_meaning k (W.calls j) cond) (meaning K (rest_of i cond)) i.before (stmt.If (rest_of i cond) (act_at y.kind at0) z.stmt) at inside (λ j. part (prog_kind_act k (W.calls j) a)) (λ j. run_if_any (prog_act_if_any k (W.calls j) other)) (part (kind_act K y.kind)) (run_if_any (option_map (typed_act K) z.stmt))
        le (expands W vs us ts l f cond.kind cond.ty cond.at le (seg_first W.Kv f i.types (y.types ++ z.types) seg) lw.0 sc.0)
        (part_runs vs us ts g a at0 inside l.small lw.1 sc.1 (runs g a at0 inside vs us ts (omega arith) (seg_first W.Kv g y.types z.types rest) lw.1 sc.1 (once_left (declared_of a) (declared_held other) o) l (apart_left us (declared_of a) (declared_held other) ap0)))
        (held h other inside vs us ts (omega arith) (seg_rest W.Kv g y.types z.types rest) lw.2 sc.2 (once_right (declared_of a) (declared_held other) o) l (apart_right us (declared_of a) (declared_held other) ap0))
        (ap (λ (w : Act). w.declares) e) (ap (λ (w : Act). w.run) e)
    runs f (act.While' cond x (more_of-ProgStmt a at0 end_of-ProgStmt)) at inside vs us ts le seg lw sc o l ap0 =
        let S = Near_to vs us ts in
        let i = inline_of W.writings W.b f cond in
        let g = f + length i.types in
        let y = inline_stmt W.writings W.b g a at0 in
        let p = plain W vs us ts l f cond.kind cond.ty cond.at lw.0 sc.0 in
        let c : ℕ → Meaning = λ j. prog_meaning k (W.calls j) cond in
        let A : ℕ → Run = λ j. part (prog_kind_act k (W.calls j) a) in
        let B = part (kind_act K y.kind) in
        let body = part_runs vs us ts g a at0 true l.small lw.1 sc.1 (runs g a at0 true vs us ts (omega arith) (seg_rest W.Kv f i.types y.types seg) lw.1 sc.1 o l ap0) in
        subst (λ (w : Act). Both S S S ret inside (λ j. turn (loop nothing (c j) (A j) nothing)) w.run) (sym (stmt_while (rest_of i cond) (act_at y.kind at0) K))
        (both_turns S S S ret inside (λ j. loop nothing (c j) (A j) nothing) (loop nothing (meaning K (rest_of i cond)) B nothing)
        (both_loop S ret inside c (meaning K (rest_of i cond)) A (λ j. nothing) B nothing p.same body (both_nothing S S S ret inside (λ s t q. q))))
    runs f (act.DoWhile' x (more_of-ProgStmt a at0 end_of-ProgStmt) cond) at inside vs us ts le seg lw sc o l ap0 =
        let S = Near_to vs us ts in
        let y = inline_stmt W.writings W.b f a at0 in
        let g = f + length y.types in
        let i = inline_of W.writings W.b g cond in
        let p = plain W vs us ts l g cond.kind cond.ty cond.at lw.1 sc.1 in
        let c : ℕ → Meaning = λ j. prog_meaning k (W.calls j) cond in
        let A : ℕ → Run = λ j. part (prog_kind_act k (W.calls j) a) in
        let B = part (kind_act K y.kind) in
        let body = part_runs vs us ts f a at0 true l.small lw.0 sc.0 (runs f a at0 true vs us ts le (seg_first W.Kv f y.types i.types seg) lw.0 sc.0 o l ap0) in
        let c2 = meaning K (rest_of i cond) in
        subst (λ (w : Act). Both S S S ret inside (λ j. turn (looped (A j) (loop nothing (c j) (A j) nothing))) w.run) (sym (stmt_do_while (act_at y.kind at0) (rest_of i cond) K))
        (both_turns S S S ret inside (λ j. looped (A j) (loop nothing (c j) (A j) nothing)) (looped B (loop nothing c2 B nothing))
        (both_do S ret inside c c2 A (λ j. nothing) B nothing p.same body (both_nothing S S S ret inside (λ s t q. q))))
    runs f (act.For' c first cond other x (more_of-ProgStmt a at0 end_of-ProgStmt)) at inside vs us ts le seg lw sc o l ap0 =
        let i = inline_stmts W.writings W.b f first in
        let g = f + length i.types in
        let oc = inline_option W.writings W.b g cond in
        let h = g + length oc.types in
        let z = inline_held W.writings W.b h other in
        let m = h + length z.types in
        let y = inline_stmt W.writings W.b m a at0 in
        let seg1 = seg_rest W.Kv f i.types (oc.types ++ (z.types ++ y.types)) seg in
        let seg2 = seg_rest W.Kv g oc.types (z.types ++ y.types) seg1 in
        let vs2 = in_scope_after_row vs first in
        let df = declared_row first in
        let dh = declared_held other in
        let da = declared_of a in
        let o1 = once_left (df ++ dh) da o in
        let ap1 = apart_left us (df ++ dh) da ap0 in
        let l2 = with_scope n W.b vs vs2 us ts l (small_after_row k W.signatures r W.writings W.b first false vs l.small lw.0) (scope_apart_row first vs us l.apart (apart_left us df dh ap1)) in
        for_runs vs us ts vs2 (direct_row first) (made_row W.writings W.b f first) inside (λ j. prog_row_acts k (W.calls j) first) (acts K i.stmts) (λ j. condition (prog_if_any k (W.calls j) cond)) (condition (meant_if_any K oc.expr)) (λ j. part (prog_kind_act k (W.calls j) a)) (part (kind_act K y.kind)) (λ j. run_if_any (prog_act_if_any k (W.calls j) other)) (run_if_any (option_map (typed_act K) z.stmt))
        (stmt.For i.stmts oc.expr z.stmt (act_at y.kind at0)) (scope_grows_row first vs) (direct_row_lists k W.signatures r W.writings W.b f first false vs l.small lw.0 sc.0) (λ j. direct_row_is k (W.calls j) first) (made_row_is K W.writings W.b f first)
        (rows f first false vs us ts le (seg_first W.Kv f i.types (oc.types ++ (z.types ++ y.types)) seg) lw.0 sc.0 (once_left df dh o1) l (apart_left us df dh ap1))
        (condition_same vs2 us ts l2 g cond lw.1 sc.1)
        (part_runs vs2 us ts m a at0 true l2.small lw.3 sc.3 (runs m a at0 true vs2 us ts (omega arith) (seg_rest W.Kv h z.types y.types seg2) lw.3 sc.3 (once_right (df ++ dh) da o) l2 (apart_right us (df ++ dh) da ap0)))
        (held h other false vs2 us ts (omega arith) (seg_first W.Kv h z.types y.types seg2) lw.2 sc.2 (once_right df dh o1) l2 (apart_right us df dh ap1))
        (ap (λ (w : Act). w.run) (stmt_for i.stmts oc.expr z.stmt (act_at y.kind at0) K))
    runs f act.Break at inside vs us ts le seg lw sc o l ap0 =
        let S = Near_to vs us ts in
        subst (λ (w : Act). Both S S S ret inside (λ j. turn (ends by_break)) w.run) (sym (stmt_break K)) (both_turns S S S ret inside (λ j. ends by_break) (ends by_break) (both_break S S S ret inside lw (λ s t q. q)))
    runs f act.Continue at inside vs us ts le seg lw sc o l ap0 =
        let S = Near_to vs us ts in
        subst (λ (w : Act). Both S S S ret inside (λ j. turn (ends by_continue)) w.run) (sym (stmt_continue K)) (both_turns S S S ret inside (λ j. ends by_continue) (ends by_continue) (both_continue S S S ret inside lw (λ s t q. q)))
    runs f (act.Return None) at inside vs us ts le seg lw sc o l ap0 =
        let S = Near_to vs us ts in
        subst (λ (w : Act). Both S S S ret inside (λ j. turn (ends (by_return None))) w.run) (sym (stmt_return None K))
        (both_turns S S S ret inside (λ j. ends (by_return None)) (ends (by_return None)) (both_return S S S ret inside None (return_nothing (LawfulCallExpr k W.signatures true) r lw) (λ s t q. q)))
    runs f (act.Return (Some e)) at inside vs us ts le seg lw sc o l ap0 =
        let i = inline_of W.writings W.b f e in
        let facts = return_value (LawfulCallExpr k W.signatures true) r e lw in
        return_runs vs us ts l f (f + length i.types) (λ j. prog_meaning k (W.calls j) e) (meaning K (rest_of i e)) i.before (stmt.Return (Some (rest_of i e))) at inside le facts.0 (expands W vs us ts l f e.kind e.ty e.at le seg facts.1 sc)
        (ap (λ (z : Act). z.declares) (stmt_return (Some (rest_of i e)) K)) (ap (λ (z : Act). z.run) (stmt_return (Some (rest_of i e)) K))
    runs f act.Empty at inside vs us ts le seg lw sc o l ap0 =
        let S = Near_to vs us ts in
        subst (λ (w : Act). Both S S S ret inside (λ j. turn nothing) w.run) (sym (stmt_empty K)) (both_turns S S S ret inside (λ j. nothing) nothing (both_nothing S S S ret inside (λ s t q. q)))

    held : (f : ℕ) (a : Held-ProgStmtKind-If-2) (inside : Bool) (vs us ts : List ℕ) → base ≤ f → Seg W.Kv f (inline_held W.writings W.b f a).types → LawfulCallHeld k W.signatures r inside a → IsHeldScoped a vs → AreOnce (declared_held a) → Lists n W.b vs us ts → Apart us (declared_held a)
        → Both (Near_to vs us ts) (Near_to vs us ts) (Near_to vs us ts) ret inside (λ i. run_if_any (prog_act_if_any k (W.calls i) a)) (run_if_any (option_map (typed_act K) (inline_held W.writings W.b f a).stmt))
    held f act.None' inside vs us ts le seg lw sc o l ap0 = both_nothing (Near_to vs us ts) (Near_to vs us ts) (Near_to vs us ts) ret inside (λ s t q. q)
    held f (act.Some' x (more_of-ProgStmt a at end_of-ProgStmt)) inside vs us ts le seg lw sc o l ap0 = part_runs vs us ts f a at inside l.small lw sc (runs f a at inside vs us ts le seg lw sc o l ap0)

    pub rows : (f : ℕ) {c : Count} (row : Row_of-ProgStmt c) (inside : Bool) (vs us ts : List ℕ) → base ≤ f → Seg W.Kv f (inline_stmts W.writings W.b f row).types → LawfulCallStmts k W.signatures r inside row → AreScoped row vs → AreOnce (declared_row row) → Lists n W.b vs us ts → Apart us (declared_row row)
        → Runs vs us ts (in_scope_after_row vs row) (direct_row row) (made_row W.writings W.b f row) inside (λ i. in_order (prog_row_acts k (W.calls i) row)) (in_order (acts K (inline_stmts W.writings W.b f row).stmts))
    rows f end_of-ProgStmt inside vs us ts le seg lw sc o l ap0 = both_nothing (Near_to vs us ts) (Near_to vs us ts) (Near_to vs us ts) ret inside (λ s t q. q)
    rows f (more_of-ProgStmt a at row) inside vs us ts le seg lw sc o l ap0 =
        let y = inline_stmt W.writings W.b f a at in
        let g = f + length y.types in
        let rest = inline_stmts W.writings W.b g row in
        let vs1 = in_scope_after vs a in
        let d2 = direct_row row in
        let x2 = made_row W.writings W.b g row in
        let apa = apart_left us (declared_of a) (declared_row row) ap0 in
        let small1 = small_after k W.signatures r W.writings W.b a inside vs l.small lw.0 in
        let l1 = with_scope n W.b vs vs1 us ts l small1 (scope_apart a vs us l.apart apa) in
        let ld = lists_less n W.b vs1 vs d2 x2 (scope_grows a vs) (direct_row_lists k W.signatures r W.writings W.b g row inside vs1 small1 lw.1 sc.1) in
        runs_cons vs us ts vs1 (in_scope_after_row vs1 row) (direct a) (made W.writings W.b f a) d2 x2 inside (λ i. (prog_kind_act k (W.calls i) a).run) (λ i. in_order (prog_row_acts k (W.calls i) row)) (kind_act K y.kind).run (in_order (acts K rest.stmts)) (scope_grows a vs)
        (runs f a at inside vs (d2 ++ us) (x2 ++ ts) le (seg_first W.Kv f y.types rest.types seg) lw.0 sc.0 (once_left (declared_of a) (declared_row row) o) (lists_append n W.b vs d2 x2 us ts ld l) (others_apart us d2 (declared_row row) (declared_of a) (direct_row_declared row) o apa))
        (rows g row inside vs1 us ts (omega arith) (seg_rest W.Kv f y.types rest.types seg) lw.1 sc.1 (once_right (declared_of a) (declared_row row) o) l1 (apart_right us (declared_of a) (declared_row row) ap0))

  -- ---- the statements of a body

  direct_list_lists : (f : ℕ) (ss : List ProgStmt) (inside : Bool) (vs : List ℕ) → ((w : ℕ) → Contains vs w → w < n) → All (λ s. LawfulCallStmt k W.signatures r inside s.kind) ss → ListScoped ss vs → Lists n W.b vs (direct_list ss) (made_list W.writings W.b f ss)
  direct_list_lists f [] inside vs small lw sc = record { small = small; few = λ w c. no_member w c; apart = λ w c d. no_member w c; made = λ x c. no_member x c }
  direct_list_lists f (a ∷ rest) inside vs small lw sc =
      let g = f + length (inline_stmt W.writings W.b f a.kind a.at).types in
      let lw0 = All-head (λ (s : ProgStmt). LawfulCallStmt k W.signatures r inside s.kind) a rest lw in
      lists_append n W.b vs (direct a.kind) (made W.writings W.b f a.kind) (direct_list rest) (made_list W.writings W.b g rest) (direct_lists k W.signatures r W.writings W.b f a.kind inside vs small lw0 sc.0)
      (lists_less n W.b (in_scope_after vs a.kind) vs (direct_list rest) (made_list W.writings W.b g rest) (scope_grows a.kind vs)
      (direct_list_lists g rest inside (in_scope_after vs a.kind) (small_after k W.signatures r W.writings W.b a.kind inside vs small lw0) (All-tail (λ (s : ProgStmt). LawfulCallStmt k W.signatures r inside s.kind) a rest lw) sc.1))

  pub body_lists : (f : ℕ) (ss : List ProgStmt) (inside : Bool) (vs : List ℕ) → ((w : ℕ) → Contains vs w → w < n) → All (λ s. LawfulCallStmt k W.signatures r inside s.kind) ss → ListScoped ss vs → Lists n W.b vs (direct_list ss) (made_list W.writings W.b f ss)
  body_lists f ss inside vs small lw sc = direct_list_lists f ss inside vs small lw sc

  pub small_after_list : (ss : List ProgStmt) (inside : Bool) (vs : List ℕ) → ((w : ℕ) → Contains vs w → w < n) → All (λ s. LawfulCallStmt k W.signatures r inside s.kind) ss → (w : ℕ) → Contains (in_scope_after_list vs ss) w → w < n
  small_after_list [] inside vs small lw w c = small w c
  small_after_list (a ∷ rest) inside vs small lw w c =
      small_after_list rest inside (in_scope_after vs a.kind) (small_after k W.signatures r W.writings W.b a.kind inside vs small (All-head (λ (s : ProgStmt). LawfulCallStmt k W.signatures r inside s.kind) a rest lw)) (All-tail (λ (s : ProgStmt). LawfulCallStmt k W.signatures r inside s.kind) a rest lw) w c

  pub body_runs : (f : ℕ) (ss : List ProgStmt) (inside : Bool) (vs us ts : List ℕ) → base ≤ f → Seg W.Kv f (inline_list W.writings W.b f ss).types → All (λ s. LawfulCallStmt k W.signatures r inside s.kind) ss → ListScoped ss vs → AreOnce (all_declared ss) → Lists n W.b vs us ts → Apart us (all_declared ss)
      → Runs vs us ts (in_scope_after_list vs ss) (direct_list ss) (made_list W.writings W.b f ss) inside (λ i. in_order (map (prog_act k (W.calls i)) ss)) (in_order (acts K (inline_list W.writings W.b f ss).stmts))
  body_runs f [] inside vs us ts le seg lw sc o l ap0 = both_nothing (Near_to vs us ts) (Near_to vs us ts) (Near_to vs us ts) ret inside (λ s t q. q)
  body_runs f (a ∷ rest) inside vs us ts le seg lw sc o l ap0 =
      let y = inline_stmt W.writings W.b f a.kind a.at in
      let g = f + length y.types in
      let more = inline_list W.writings W.b g rest in
      let vs1 = in_scope_after vs a.kind in
      let d2 = direct_list rest in
      let x2 = made_list W.writings W.b g rest in
      let da = declared_of a.kind in
      let dr = all_declared rest in
      let lw0 = All-head (λ (s : ProgStmt). LawfulCallStmt k W.signatures r inside s.kind) a rest lw in
      let lw1 = All-tail (λ (s : ProgStmt). LawfulCallStmt k W.signatures r inside s.kind) a rest lw in
      let apa = apart_left us da dr ap0 in
      let small1 = small_after k W.signatures r W.writings W.b a.kind inside vs l.small lw0 in
      let l1 = with_scope n W.b vs vs1 us ts l small1 (scope_apart a.kind vs us l.apart apa) in
      let ld = lists_less n W.b vs1 vs d2 x2 (scope_grows a.kind vs) (direct_list_lists g rest inside vs1 small1 lw1 sc.1) in
      runs_cons vs us ts vs1 (in_scope_after_list vs1 rest) (direct a.kind) (made W.writings W.b f a.kind) d2 x2 inside (λ i. (prog_act k (W.calls i) a).run) (λ i. in_order (map (prog_act k (W.calls i)) rest)) (kind_act K y.kind).run (in_order (acts K more.stmts)) (scope_grows a.kind vs)
      (runs f a.kind a.at inside vs (d2 ++ us) (x2 ++ ts) le (seg_first W.Kv f y.types more.types seg) lw0 sc.0 (once_left da dr o) (lists_append n W.b vs d2 x2 us ts ld l) (others_apart us d2 dr da (direct_list_declared rest) o apa))
      (body_runs g rest inside vs1 us ts (omega arith) (seg_rest W.Kv f y.types more.types seg) lw1 sc.1 (once_right da dr o) l1 (apart_right us da dr ap0))
