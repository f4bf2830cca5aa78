-- A helper whose calls of earlier helpers are written as blocks: its own calls are, too.
use Rattle.std.proofs.Common.{◌≡◌, ℕ, ℤ, zero, suc, ◌+◌, ◌-◌, ◌<◌, ◌≤◌, List, [], ◌∷◌, ◌++◌, length, map, Option, Some, None, refl, sym, ◌∙◌, ap, subst, arith, append-nil, append_assoc, ◌⊎◌, inl, inr}
use Rattle.std.specs.Prelude.{false, Contains, slice_get, replicate, pos}
use Rattle.std.proofs.lemmas.Bool.{false≢true, cases_lt}
use Rattle.std.proofs.lemmas.List.{length-append, length-map, length-replicate, map-append}
use Rattle.std.proofs.lemmas.Grind.{flat_map-append}
use Rattle.std.proofs.lemmas.Option.{get_or_from_slice_get}
use Rattle.std.proofs.lemmas.List.Elements.{Contains-append_right, Contains-append_cases}
use Rattle.el_base.specs.declared.span.Span.{Span}
use Rattle.el_base.specs.declared.ty.Ty.{Ty}
use Rattle.el_base.specs.declared.ty.Ty.TheVariants.{I32}
use Rattle.c_ast.specs.declared.tree.Param.{Param}
use Rattle.c_ast.specs.declared.typed.ArrayOf.{ArrayOf}
use Rattle.c_ast.specs.declared.typed.Object.TheVariants as object
use Rattle.c_ast.specs.declared.typed.TypedExpr.{TypedExpr}
use Rattle.c_ast.specs.declared.typed.TypedStmt.{TypedStmt}
use Rattle.c_ast.specs.declared.typed.TypedStmtKind.{TypedStmtKind}
use Rattle.c_ast.specs.declared.typed.TypedStmtKind.TheVariants as stmt
use Rattle.c_ast.specs.declared.program.ProgStmt.{ProgStmt}
use Rattle.c_ast.specs.declared.program.TypedHelper.{TypedHelper}
use Rattle.c_ast.specs.Casts.{act_at}
use Rattle.c_meaning.specs.declared.profile.Profile.{Profile}
use Rattle.c_meaning.specs.Types.{conv}
use Rattle.c_meaning.specs.Stores.{Store, Objects, unset_vars}
use Rattle.c_meaning.specs.Expressions.{value, values, Meaning, on_one, later, all_values, meaning}
use Rattle.c_meaning.specs.Profiles.{IsDefined}
use Rattle.c_meaning.specs.Runs.{How, normally, by_break, by_continue, by_return, undefined, out_of_turns, Ended, Run, turn, both_runs}
use Rattle.c_meaning.specs.Statements.{Act, object_type, assignment, in_order, block, act as typed_act, kind_act}
use Rattle.c_meaning.proofs.TreeEquations.{stmt_block, stmt_declare, stmt_assign}
use Rattle.c_meaning.proofs.ValueParts.{value_two, operand, later_is}
use Rattle.c_meaning.proofs.StoreParts.{Below, below_then}
use Rattle.c_meaning.proofs.RunParts.{had, go_end}
use Rattle.c_calls.specs.Meanings.{Called, called_by, prog_meaning, prog_act, converted_to, call_store, given_by, given_after, helper_call, helper_calls}
use Rattle.c_calls.specs.Inlined.{Out, OutStmts, Writing, written_by, behind, inline_list, inline_of, rest_of, declaring, fresh_target, writing, writings}
use Rattle.c_calls.specs.Lawful.{Signature, signature_of, LawfulHelper, LawfulHelpers, numbers_from, all_declared, in_scope_after_list}
use Rattle.c_calls.proofs.Lists.{no_member, here, there, member_cases}
use Rattle.c_calls.proofs.Stores.{put, put_same, put_below, unset_in, unset_out, unset_count, unset_arrays, unset_below, Agree, Lists}
use Rattle.c_calls.proofs.Imitates.{Rel, After, ended}
use Rattle.c_calls.proofs.Expands.{acts, acts_append, go_of, Reaches, reach_both, declares_of, Expands, Done, Gave, both_give, flip, Both, UsesLeft, left_turn}
use Rattle.c_calls.proofs.Values.{val_means, val_gives, vals_gives}
use Rattle.c_calls.proofs.Blocks.{Filled, Called_by, IsCallBlock, Seg, EachDepends, Writes, reach_one}
use Rattle.c_calls.proofs.ExprTrees.{World, objects_of, seg_first, seg_rest, expands}
use Rattle.c_calls.proofs.Own.{assigns, assign_left, target_of, Given}
use Rattle.c_calls.proofs.Scopes.{once_right, direct, direct_list, direct_is, made_list, made_list_is, behind_declares, lists_none}
use Rattle.c_calls.proofs.Statements.{body_runs, body_lists, small_after_list, behind_block, last_alone}
use Rattle.c_calls.proofs.Arguments.{sets, sets_below, sets_past, args_reach, args_back, values_count, args_same, slice_right, slice_left, params_fit, typed_from}

-- ---- what a helper gave

record GaveBy (t : Ty) (n : ℕ) (m : Meaning) (how : How) (s : Store) (left : ℕ) (y : ℤ) (d : ℕ) : Type 0 where
  normal : how ≡ normally
  x : ℤ
  u : ℕ
  is : m s ≡ value x u
  result : y ≡ conv t x
  sum : d ≡ n - left + u

some_is : (x y : ℤ) → Some x ≡ Some y → y ≡ x
some_is x y e = cc

gave_by : (t : Ty) (at : Span) (n : ℕ) (m : Meaning) (how : How) (s : Store) (left : ℕ) (y : ℤ) (d : ℕ) → given_by t at n m how s left ≡ value y d → d ≤ n → GaveBy t n m how s left y d
gave_by t at n m normally s left y d e le =
    let h = later_is (n - left) d (on_one at (λ z. Some (conv t z)) (m s)) y e in
    let o = operand at (λ z. Some (conv t z)) (m s) y h.r h.is in
    record { normal = refl; x = o.x; u = h.r; is = o.is; result = some_is (conv t o.x) y o.gives; sum = h.all }
gave_by t at n m by_break s left y d e le = absurd (cc)
gave_by t at n m by_continue s left y d e le = absurd (cc)
gave_by t at n m (by_return v) s left y d e le = absurd (cc)
gave_by t at n m (undefined p) s left y d e le = absurd (cc)
gave_by t at n m out_of_turns s left y d e le = let h = value_two (pos 0) y (suc n) d e in absurd (omega arith)

gives_up : (t : Ty) (at : Span) (n : ℕ) (m : Meaning) (s : Store) (left : ℕ) (x : ℤ) (u : ℕ) → m s ≡ value x u → given_after t at n m (ended normally s left) ≡ value (conv t x) (n - left + u)
gives_up t at n m s left x u e = ap (λ v. later (n - left) (on_one at (λ z. Some (conv t z)) v)) e

-- nothing leaves
after_normal : (S M : Rel) (h : How) (s t : Store) → After S M false false h s t → (h ≡ normally) × S s t
after_normal S M normally s t a = (refl, a)
after_normal S M by_break s t a = absurd (false≢true a.0)
after_normal S M by_continue s t a = absurd (false≢true a.0)
after_normal S M (by_return v) s t a = absurd (false≢true a.0)
after_normal S M (undefined at) s t a = absurd a
after_normal S M out_of_turns s t a = absurd a

is_defined : (h : How) → h ≡ normally → IsDefined h
is_defined h e = subst (λ i. IsDefined i) (sym e) tt

-- ---- the first numbers

pub numbers_below : (a m w : ℕ) → Contains (numbers_from a m) w → w < a + m
numbers_below a zero w c = no_member w c
numbers_below a (suc m) w c = by_cases (λ d. numbers_below (suc a) m w d) (member_cases a (numbers_from (suc a) m) w c)
  where
    by_cases : (Contains (numbers_from (suc a) m) w → w < suc a + m) → (w ≡ a) ⊎ Contains (numbers_from (suc a) m) w → w < a + suc m
    by_cases f (inl e) = omega arith
    by_cases f (inr d) = let h = f d in omega arith

pub numbers_all : (a m j : ℕ) → j < m → Contains (numbers_from a m) (a + j)
numbers_all a zero j lt = absurd (omega arith)
numbers_all a (suc m) zero lt = let e : a ≡ a + 0 = omega arith in subst (Contains (a ∷ numbers_from (suc a) m)) e (here a (numbers_from (suc a) m))
numbers_all a (suc m) (suc j) lt = let e : suc a + j ≡ a + suc j = omega arith in subst (Contains (a ∷ numbers_from (suc a) m)) e (there a (numbers_from (suc a) m) (suc a + j) (numbers_all (suc a) m j (omega arith)))

same_le : (x : ℕ) → x ≤ x
same_le x = omega arith

-- a store has at least as many variables as are asked
pub store_long : (zs : List ℤ) (m : ℕ) → m ≤ length (map Some zs ++ replicate (m - length zs) None)
store_long zs m =
    let rest : List (Option ℤ) = replicate (m - length zs) None in
    let c : length (map Some zs) ≡ length zs = length-map zs Some in
    let d : length rest ≡ m - length zs = length-replicate (m - length zs) None in
    omega (arith, length-append (map Some zs) rest)

-- ---- segments of the tree's variables

pub seg_room : (vars : List Ty) (f : ℕ) (ts : List Ty) → Seg vars f ts → f + length ts ≤ length vars
seg_room vars f ts s =
    omega (arith, ap length s.is, length-append s.pre (ts ++ s.post), length-append ts s.post, s.at)

pub seg_types : (vars : List Ty) (f : ℕ) (ts : List Ty) → Seg vars f ts → (v : ℕ) → v < length ts → slice_get vars (f + v) ≡ slice_get ts v
seg_types vars f ts s v lt =
    ap (λ xs. slice_get xs (f + v)) s.is ∙ ap (λ i. slice_get (s.pre ++ (ts ++ s.post)) (i + v)) (sym s.at) ∙ slice_right s.pre (ts ++ s.post) v ∙ slice_left ts s.post v lt

-- ---- what a list of statements declares

pub direct_list_is : (k : Objects) (cs : List Called) (ss : List ProgStmt) → declares_of (map (prog_act k cs) ss) ≡ direct_list ss
direct_list_is k cs [] = refl
direct_list_is k cs (a ∷ rest) = ap (λ ds. ds ++ declares_of (map (prog_act k cs) rest)) (direct_is k cs a.kind) ∙ ap (λ ds. direct a.kind ++ ds) (direct_list_is k cs rest)

declaring_from : (K : Objects) (at : Span) (es : List TypedExpr) (v x : ℕ) → Contains (declares_of (acts K (declaring v es at))) x → v ≤ x
declaring_from K at [] v x c = no_member x c
declaring_from K at (e ∷ es) v x c =
    by_cases (λ d. declaring_from K at es (v + 1) x d) (Contains-append_cases (kind_act K (stmt.Declare v (Some e))).declares (declares_of (acts K (declaring (v + 1) es at))) x c)
  where
    one : Contains (v ∷ []) x → v ≤ x
    one d = one_at (member_cases v [] x d)
      where
        one_at : (x ≡ v) ⊎ Contains [] x → v ≤ x
        one_at (inl q) = omega arith
        one_at (inr q) = no_member x q

    by_cases : (Contains (declares_of (acts K (declaring (v + 1) es at))) x → v + 1 ≤ x) → Contains (kind_act K (stmt.Declare v (Some e))).declares x ⊎ Contains (declares_of (acts K (declaring (v + 1) es at))) x → v ≤ x
    by_cases f (inl d) = one (subst (λ q. Contains q x) (ap (λ (a : Act). a.declares) (stmt_declare v (Some e) K)) d)
    by_cases f (inr d) = let h = f d in omega arith

-- ---- a statement behind the blocks of its calls, that declares nothing

behind_reach : (K : Objects) (before : List TypedStmt) (kind : TypedStmtKind) (at : Span) (t last : Store) (m : ℕ) → declares_of (acts K before) ≡ [] → (kind_act K kind).declares ≡ [] → Reaches (both_runs (in_order (acts K before)) (kind_act K kind).run) t m last
    → (j : ℕ) × Reaches (kind_act K (behind before kind at)).run t j last
behind_reach K [] kind at t last m q d x = (m, x)
behind_reach K (c ∷ cs) kind at t last m q d x =
    let before = c ∷ cs in (
      suc m,
      λ l.
          let e : suc m + l ≡ suc (m + l) = omega arith in
          ap (λ (a : Act). a.run t (suc m + l)) (stmt_block (before ++ act_at kind at ∷ []) K) ∙ ap (λ i. turn (block (acts K (before ++ act_at kind at ∷ []))) t i) e ∙ behind_block K before kind at [] q d t (m + l) ∙ x l,
    )

record Behind (K : Objects) (before : List TypedStmt) (kind : TypedStmtKind) (at : Span) (t : Store) (l : ℕ) : Type 0 where
  rest : ℕ
  less : rest ≤ l
  is : (kind_act K (behind before kind at)).run t l ≡ both_runs (in_order (acts K before)) (kind_act K kind).run t rest

behind_down : (K : Objects) (before : List TypedStmt) (kind : TypedStmtKind) (at : Span) (t : Store) (l : ℕ) → declares_of (acts K before) ≡ [] → (kind_act K kind).declares ≡ [] → IsDefined ((kind_act K (behind before kind at)).run t l).how → Behind K before kind at t l
behind_down K [] kind at t l q d x = record { rest = l; less = omega arith; is = refl }
behind_down K (c ∷ cs) kind at t l q d x =
    let before = c ∷ cs in
    let all = acts K (before ++ act_at kind at ∷ []) in
    let e = ap (λ (a : Act). a.run t l) (stmt_block (before ++ act_at kind at ∷ []) K) in
    let h = had 1 (block all) t l (subst (λ (z : Ended). IsDefined z.how) e x) in
    record { rest = h.rest; less = let s = h.sum in omega arith; is = e ∙ h.is ∙ behind_block K before kind at [] q d t h.rest }

-- ---- what is known of the helpers before

pub record Knows (p : Profile) (Kv : List Ty) (Ka : List ArrayOf) (n : ℕ) (hs : List Signature) (ws : List Writing) (cs : ℕ → List Called) : Type 0 where
  pub many_writings : length ws ≡ length hs
  pub many_calls : (i : ℕ) → length (cs i) ≡ length hs
  pub written : (h : ℕ) (g : Signature) → slice_get hs h ≡ Some g → Writes n (objects_of p Kv Ka) g (written_by (slice_get ws h)) (λ i. called_by (slice_get (cs i) h))

module _ (p : Profile) (Kv : List Ty) (Ka : List ArrayOf) (n : ℕ) (stores : length Kv ≤ n) (hs : List Signature) (ws : List Writing) (cs : ℕ → List Called) (knows : Knows p Kv Ka n hs ws cs) (h : TypedHelper) (lw : LawfulHelper hs h)
    (f : ℕ) (es : List TypedExpr) (at : Span) (many : length es ≡ length h.params) (seg : Seg Kv f (writing ws h f es at).types) (deps : EachDepends (objects_of p Kv Ka) f es) where
  abbrev K : Objects
  K = objects_of p Kv Ka

  abbrev k : Objects
  k = objects_of p h.vars []

  abbrev v : ℕ
  v = f + length h.vars

  abbrev i : OutStmts
  i = inline_list ws f (v + 1) h.body

  abbrev g : ℕ
  g = v + 1 + length i.types

  abbrev o : Out
  o = inline_of ws f g h.value

  abbrev vs : List ℕ
  vs = numbers_from 0 (length h.params)

  abbrev vs2 : List ℕ
  vs2 = in_scope_after_list vs h.body

  abbrev ds : List ℕ
  ds = direct_list h.body

  abbrev xs : List ℕ
  xs = made_list ws f (v + 1) h.body

  seg_r : Seg Kv v (h.result ∷ (i.types ++ o.types))
  seg_r = seg_rest Kv f h.vars (h.result ∷ (i.types ++ o.types)) seg

  seg_i : Seg Kv (v + 1) (i.types ++ o.types)
  seg_i = seg_rest Kv v (h.result ∷ []) (i.types ++ o.types) seg_r

  room : f + length h.vars ≤ length Kv
  room = seg_room Kv f h.vars (seg_first Kv f h.vars (h.result ∷ (i.types ++ o.types)) seg)

  room_fresh : v < length Kv
  room_fresh = let a = seg_room Kv v (h.result ∷ []) (seg_first Kv v (h.result ∷ []) (i.types ++ o.types) seg_r) in omega arith

  types : (w : ℕ) → w < length h.vars → slice_get Kv (f + w) ≡ slice_get h.vars w
  types w lt = seg_types Kv f h.vars (seg_first Kv f h.vars (h.result ∷ (i.types ++ o.types)) seg) w lt

  fresh_type : object_type K (object.Var v) ≡ h.result
  fresh_type =
      let a : v + 0 ≡ v = omega arith in
      get_or_from_slice_get Kv v h.result I32 (ap (slice_get Kv) (sym a) ∙ seg_types Kv v (h.result ∷ []) (seg_first Kv v (h.result ∷ []) (i.types ++ o.types) seg_r) 0 (omega arith))

  abbrev world : (low : Store) → length low.vars ≡ n → World
  world low count = record {
    profile = p;
    kv = h.vars;
    ka = [];
    Kv = Kv;
    Ka = Ka;
    b = f;
    n = n;
    own = false;
    low = low;
    signatures = hs;
    writings = ws;
    calls = cs;
    arrays = refl;
    count = count;
    room = room;
    stores = stores;
    types = types;
    written = knows.written;
  }

  fits : length h.params ≤ length h.vars
  fits = params_fit h.params h.vars lw.first_vars

  small : (w : ℕ) → Contains vs w → w < length h.vars
  small w c = let a = numbers_below 0 (length h.params) w c in let b = fits in omega arith

  dl : (low : Store) (count : length low.vars ≡ n) → Lists (length h.vars) f vs ds xs
  dl low count = body_lists (world low count) None (v + 1) h.body false vs small (lw.statements p) lw.scoped.scoped

  l2 : (low : Store) (count : length low.vars ≡ n) → Lists (length h.vars) f vs2 [] []
  l2 low count = lists_none (length h.vars) f vs2 (small_after_list (world low count) None h.body false vs small (lw.statements p))

  body_both : (low : Store) (count : length low.vars ≡ n) → Both (λ s t. Agree k K f false low vs (ds ++ []) (xs ++ []) s t) (λ s t. Agree k K f false low vs2 [] [] s t) (λ s t. Agree k K f false low vs [] [] s t) false false (λ j. in_order (map (prog_act k (cs j)) h.body)) (in_order (acts K i.stmts))
  body_both low count = body_runs (world low count) None (v + 1) h.body false vs [] [] (omega arith) (seg_first Kv (v + 1) i.types o.types seg_i) (lw.statements p) lw.scoped.scoped (once_right (numbers_from 0 (length h.params)) (all_declared h.body) lw.scoped.once)
      (lists_none (length h.vars) f vs small) (λ w c d. no_member w c)

  value_expands : (low : Store) (count : length low.vars ≡ n) → Expands K (λ s t. Agree k K f false low vs2 [] [] s t) g (g + length o.types) (val_means (λ j. prog_meaning k (cs j) h.value)) o.before (val_gives (meaning K (rest_of o h.value)))
  value_expands low count = expands (world low count) vs2 [] [] (l2 low count) g h.value.kind h.value.ty h.value.at (omega arith) (seg_rest Kv (v + 1) i.types o.types seg_i) (lw.result p) lw.reads

  -- ---- the block

  abbrev kind_f : TypedStmtKind
  kind_f = stmt.Assign (fresh_target v at) None (rest_of o h.value)

  abbrev last_stmt : TypedStmtKind
  last_stmt = behind o.before kind_f at

  abbrev all_stmts : List TypedStmt
  all_stmts = declaring f es at ++ (i.stmts ++ act_at last_stmt at ∷ [])

  abbrev us0 : List ℕ
  us0 = declares_of (acts K all_stmts)

  kind_f_is : (kind_act K kind_f).run ≡ turn (assignment K (target_of (object.Var v) at []) None h.value.ty (meaning K (rest_of o h.value)))
  kind_f_is = ap (λ (a : Act). a.run) (stmt_assign (fresh_target v at) None (rest_of o h.value) K)

  kind_f_declares : (kind_act K kind_f).declares ≡ []
  kind_f_declares = ap (λ (a : Act). a.declares) (stmt_assign (fresh_target v at) None (rest_of o h.value) K)

  us0_is : us0 ≡ declares_of (acts K (declaring f es at)) ++ (xs ++ [])
  us0_is =
      let a = acts K (declaring f es at) in
      let b = acts K i.stmts in
      let c = kind_act K last_stmt ∷ [] in
      ap declares_of (map-append (typed_act K) (declaring f es at) (i.stmts ++ act_at last_stmt at ∷ [])) ∙ flat_map-append (λ (z : Act). z.declares) a (map (typed_act K) (i.stmts ++ act_at last_stmt at ∷ []))
      ∙ ap (λ z. declares_of a ++ z) (ap declares_of (map-append (typed_act K) i.stmts (act_at last_stmt at ∷ [])) ∙ flat_map-append (λ (z : Act). z.declares) b c ∙ ap (λ z. z ++ declares_of c) (made_list_is K ws f (v + 1) h.body) ∙ ap (λ z. xs ++ (z ++ [])) (behind_declares K o.before kind_f at kind_f_declares))

  us0_from : (low : Store) (count : length low.vars ≡ n) (x : ℕ) → Contains us0 x → f ≤ x
  us0_from low count x c = by_cases (Contains-append_cases (declares_of (acts K (declaring f es at))) (xs ++ []) x (subst (λ q. Contains q x) us0_is c))
    where
      by_cases : Contains (declares_of (acts K (declaring f es at))) x ⊎ Contains (xs ++ []) x → f ≤ x
      by_cases (inl d) = declaring_from K at es f x d
      by_cases (inr d) = let m = (dl low count).made x (subst (λ q. Contains q x) (append-nil xs) d) in let e = m.1 in omega arith

  -- ---- where the body begins

  start : (t : Store) (count : length t.vars ≡ n) (zs : List ℤ) → length zs ≡ length h.params → Agree k K f false t vs (ds ++ []) (xs ++ []) (unset_vars ds (call_store p h zs)) (sets K f zs (unset_vars us0 t))
  start t count zs size =
      let l = dl t count in
      let t1 = unset_vars us0 t in
      let t2 = sets K f zs t1 in
      let keeps = sets_below K f f zs t1 (omega arith) in
      let c1 = unset_count us0 t in
      let s1 = call_store p h zs in
      let typed = typed_from K h.params h.vars f lw.first_vars types in
      record {
        same = λ w c. unset_out ds w s1 (λ d. l.apart w d c) ∙ args_same K h.params zs f w t1 (replicate (length h.vars - length (converted_to h.params zs)) None) size typed (let a = fits in let b = room in let s = stores in omega arith) (let a = numbers_below 0 (length h.params) w c in omega arith);
        unset = λ w c. unset_in ds w s1 (subst (λ q. Contains q w) (append-nil ds) c);
        unset_too = λ x c.
            let d = subst (λ q. Contains q x) (append-nil xs) c in
            let m = l.made x d in
            let past = no_number m.0 (λ b. l.apart m.0 m.2 b) (cases_lt m.0 (length h.params)) in
            sets_past K f x zs t1 (let e = m.1 in omega arith) ∙ unset_in us0 x t (subst (λ q. Contains q x) (sym us0_is) (Contains-append_right (declares_of (acts K (declaring f es at))) (xs ++ []) x c));
        below = λ x lt. sym (keeps.vars x lt) ∙ unset_out us0 x t (λ c. let b = us0_from t count x c in omega arith);
        arrays = sym keeps.arrays ∙ unset_arrays us0 t;
        long = let a = unset_count ds s1 in let b = store_long (converted_to h.params zs) (length h.vars) in omega arith;
        count = sym keeps.count ∙ c1;
      }
    where
      no_number : (w : ℕ) → (Contains vs w → ⊥) → (w < length h.params) ⊎ (length h.params ≤ w) → length h.params ≤ w
      no_number w no_member0 (inl lt) = let e : 0 + w ≡ w = omega arith in absurd (no_member0 (subst (Contains vs) e (numbers_all 0 (length h.params) w lt)))
      no_number w no_member0 (inr le) = le

  -- ---- the value

  abbrev c2 : Meaning
  c2 = meaning K (rest_of o h.value)

  last_uses : UsesLeft (both_give (vals_gives []) (val_gives c2)) (turn (assignment K (target_of (object.Var v) at []) None h.value.ty c2)) (assigns K (object.Var v) at None h.value.ty)
  last_uses = left_turn (both_give (vals_gives []) (val_gives c2)) (assignment K (target_of (object.Var v) at []) None h.value.ty c2) (assigns K (object.Var v) at None h.value.ty) (assign_left K (object.Var v) at [] None h.value.ty c2)

  last_reach : (q : Store) (x : ℤ) (d : Done g (val_gives c2) (in_order (acts K o.before)) q x) → declares_of (acts K o.before) ≡ [] → (j : ℕ) × Reaches (kind_act K last_stmt).run q j (put v (Some (conv h.result x)) d.last)
  last_reach q x d quiet =
      let k1 = last_uses.up d.last ([], x) ((0, refl), d.has) in
      let stored : Reaches (kind_act K kind_f).run d.last k1.0 (put v (Some (conv (object_type K (object.Var v)) x)) d.last) = λ l. ap (λ z. z d.last (k1.0 + l)) kind_f_is ∙ k1.1 l tt in
      let typed = subst (λ ty. Reaches (kind_act K kind_f).run d.last k1.0 (put v (Some (conv ty x)) d.last)) fresh_type stored in
      behind_reach K o.before kind_f at q (put v (Some (conv h.result x)) d.last) (d.turns + k1.0) quiet kind_f_declares
      (reach_both (in_order (acts K o.before)) (kind_act K kind_f).run q d.last (put v (Some (conv h.result x)) d.last) d.turns k1.0 d.takes typed)

  abbrev call_block_run : Run
  call_block_run = (kind_act K (stmt.Block all_stmts)).run

  abbrev inner : Run
  inner s m = in_order (acts K all_stmts) (unset_vars us0 s) m

  block_run : (t : Store) (l : ℕ) → call_block_run t l ≡ turn inner t l
  block_run t l = ap (λ (a : Act). a.run t l) (stmt_block all_stmts K)

  many_given : (t : Store) (zs : List ℤ) (u : ℕ) → all_values (map (meaning K) es) t ≡ values zs u → length zs ≡ length h.params
  many_given t zs u e = values_count (map (meaning K) es) t zs u e ∙ length-map es (meaning K) ∙ many

  -- ---- a call is such a block

  call_forth : (m : ℕ) (t : Store) (zs : List ℤ) (y : ℤ) (d : ℕ) → length t.vars ≡ n → vals_gives (map (meaning K) es) t zs → helper_call p m (cs m) h zs ≡ value y d → d ≤ m → Filled f v call_block_run t y
  call_forth m t zs y d count has call lt =
      let size = many_given t zs has.0 has.1 in
      let s1 = call_store p h zs in
      let A = map (prog_act k (cs m)) h.body in
      let e0 = turn (block A) s1 m in
      let q = gave_by h.result h.at m (prog_meaning k (cs m) h.value) e0.how e0.store e0.left y d call lt in
      let hd = had 1 (block A) s1 m (is_defined e0.how q.normal) in
      let s0 = unset_vars ds s1 in
      let e1 = in_order A s0 hd.rest in
      let same : e0 ≡ e1 = hd.is ∙ ap (λ z. in_order A (unset_vars z s1) hd.rest) (direct_list_is k (cs m) h.body) in
      let normal1 : e1.how ≡ normally = ap (λ (z : Ended). z.how) (sym same) ∙ q.normal in
      let t1 = unset_vars us0 t in
      let t2 = sets K f zs t1 in
      let sim = (body_both t count).forth m s0 t2 hd.rest (let w = hd.sum in omega arith) (start t count zs size) (is_defined e1.how normal1) in
      let near = (after_normal (λ s t0. Agree k K f false t vs2 [] [] s t0) (λ s t0. Agree k K f false t vs [] [] s t0) e1.how e1.store sim.last sim.after).1 in
      let E = value_expands t count in
      let dn = E.forth m e1.store sim.last q.x q.u near (ap (λ (z : Ended). prog_meaning k (cs m) h.value z.store) (sym same) ∙ q.is) (let w = q.sum in omega arith) in
      let fin = last_reach sim.last q.x dn E.quiet in
      let last3 = put v (Some (conv h.result q.x)) dn.last in
      let args = args_reach K at es zs has.0 f f t t1 (omega arith) deps (unset_below f us0 t (us0_from t count)) has.1 in
      let body : Reaches (in_order (acts K i.stmts)) t2 sim.turns sim.last = λ l. sim.takes 0 0 l ∙ ap (λ w. ended w sim.last l) normal1 in
      let tail = reach_both (in_order (acts K i.stmts)) (in_order (kind_act K last_stmt ∷ [])) t2 sim.last last3 sim.turns fin.0 body (reach_one (kind_act K last_stmt) sim.last last3 fin.0 fin.1) in
      let tail2 : Reaches (in_order (acts K (i.stmts ++ act_at last_stmt at ∷ []))) t2 (sim.turns + fin.0) last3 = λ l. acts_append K i.stmts (act_at last_stmt at ∷ []) t2 (sim.turns + fin.0 + l) ∙ tail l in
      let whole = reach_both (in_order (acts K (declaring f es at))) (in_order (acts K (i.stmts ++ act_at last_stmt at ∷ []))) t1 t2 last3 args.0 (sim.turns + fin.0) args.1 tail2 in
      let all = args.0 + (sim.turns + fin.0) in
      let b1 : Below f t sim.last = record { vars = λ x lt0. sym (near.below x lt0); arrays = sym near.arrays; count = sym near.count } in
      let b2 = below_then f f g t sim.last dn.last (omega arith) (omega arith) b1 dn.kept in
      record {
        turns = suc all;
        last = last3;
        takes = λ l.
            let e : suc all + l ≡ suc (all + l) = omega arith in
            block_run t (suc all + l) ∙ ap (λ j. turn inner t j) e ∙ acts_append K (declaring f es at) (i.stmts ++ act_at last_stmt at ∷ []) t1 (all + l) ∙ whole l;
        kept = below_then f f f t dn.last last3 (omega arith) (omega arith) b2 (put_below f v (Some (conv h.result q.x)) dn.last (omega arith));
        read = put_same v (Some (conv h.result q.x)) dn.last (let a = b2.count in let b = room_fresh in let w = stores in omega arith) ∙ ap Some (sym q.result);
      }

  nil_is : (js : List ℤ) (u : ℕ) → values [] 0 ≡ values js u → js ≡ []
  nil_is js u e = cc

  last_is : (x : Given) (q : Store) (l : ℕ) → x.0 ≡ [] → assigns K (object.Var v) at None h.value.ty x q l ≡ ended normally (put v (Some (conv h.result x.1)) q) l
  last_is x q l e = ap (λ js. assigns K (object.Var v) at None h.value.ty (js, x.1) q l) e ∙ ap (λ ty. ended normally (put v (Some (conv ty x.1)) q) l) fresh_type

  -- the call, where the body ran so and the value was this, for each bound from some on
  call_up : (zs : List ℤ) (last : Store) (x : ℤ) (least turns least2 uses : ℕ) → ((i j l : ℕ) → in_order (map (prog_act k (cs (least + i))) h.body) (unset_vars ds (call_store p h zs)) (turns + l) ≡ ended normally last l)
      → ((i : ℕ) → prog_meaning k (cs (least2 + i)) h.value last ≡ value x uses) → (j : ℕ) → (let m = suc turns + (least + least2) + j in helper_call p m (cs m) h zs ≡ value (conv h.result x) (suc turns + uses))
  call_up zs last x least turns least2 uses runs is j =
      let m = suc turns + (least + least2) + j in
      let rest = least + least2 + j in
      let s1 = call_store p h zs in
      let mean = prog_meaning k (cs m) h.value in
      let e1 : m ≡ suc (turns + rest) = omega arith in
      let e2 : m ≡ least + (suc turns + least2 + j) = omega arith in
      let e3 : m ≡ least2 + (suc turns + least + j) = omega arith in
      let e4 : m - rest + uses ≡ suc turns + uses = omega arith in
      let body : turn (block (map (prog_act k (cs m)) h.body)) s1 m ≡ ended normally last rest =
      ap (λ z. turn (block (map (prog_act k (cs m)) h.body)) s1 z) e1 ∙ ap (λ z. in_order (map (prog_act k (cs m)) h.body) (unset_vars z s1) (turns + rest)) (direct_list_is k (cs m) h.body)
      ∙ ap (λ z. in_order (map (prog_act k (cs z)) h.body) (unset_vars ds s1) (turns + rest)) e2 ∙ runs (suc turns + least2 + j) 0 rest in
      ap (λ z. given_after h.result h.at m mean z) body ∙ gives_up h.result h.at m mean last rest x uses (ap (λ z. prog_meaning k (cs z) h.value last) e3 ∙ is (suc turns + least + j)) ∙ ap (λ z. value (conv h.result x) z) e4

  f_below_g : f ≤ g
  f_below_g = omega arith

  f_below_v : f ≤ v
  f_below_v = omega arith

  fresh_in : (l m : ℕ) → l ≡ n → l ≡ m → v < m
  fresh_in l m e h = let b = room_fresh in let w = stores in omega arith

  abbrev decl_run : Run
  decl_run = in_order (acts K (declaring f es at))

  abbrev rest_run : Run
  rest_run = in_order (acts K (i.stmts ++ act_at last_stmt at ∷ []))

  abbrev body_run0 : Run
  body_run0 = in_order (acts K i.stmts)

  abbrev last_run : Run
  last_run = (kind_act K last_stmt).run

  abbrev before_run : Run
  before_run = in_order (acts K o.before)

  abbrev store_run : Run
  store_run = (kind_act K kind_f).run

  go_next : (b : Run) (q : How) (s : Store) (m : ℕ) → q ≡ normally → go_of b (ended q s m) ≡ b s m
  go_next b q s m e = ap (λ w. go_of b (ended w s m)) e

  -- the value was stored
  record StoredBack (q : Store) (m : ℕ) : Type 0 where
    x : ℤ
    worth : val_gives c2 q x
    rest : ℕ
    less : rest ≤ m
    is : store_run q m ≡ ended normally (put v (Some (conv h.result x)) q) rest

  stored_back : (q : Store) (m : ℕ) → IsDefined (store_run q m).how → StoredBack q m
  stored_back q m d =
      let kf : store_run q m ≡ turn (assignment K (target_of (object.Var v) at []) None h.value.ty c2) q m = ap (λ z. z q m) kind_f_is in
      let fd = last_uses.down q m (subst (λ (z : Ended). IsDefined z.how) kf d) in
      record { x = fd.given.1; worth = fd.first.1; rest = fd.rest; less = fd.less; is = kf ∙ fd.is ∙ last_is fd.given q fd.rest (nil_is fd.given.0 fd.first.0.0 fd.first.0.1) }

  -- the value was evaluated, and then stored
  record LastBack (last q : Store) (m : ℕ) : Type 0 where
    x : ℤ
    store : Store
    rest : ℕ
    kept : Below g q store
    less : rest ≤ m
    gave : Gave (val_means (λ j. prog_meaning k (cs j) h.value)) last x
    is : last_run q m ≡ ended normally (put v (Some (conv h.result x)) store) rest

  three : (a b c d : ℕ) → a ≤ b → b ≤ c → c ≤ d → a ≤ d
  three a b c d x y z = omega arith

  last_at : (t : Store) (count : length t.vars ≡ n) (last q : Store) (m m2 : ℕ) → Agree k K f false t vs2 [] [] last q → m2 ≤ m → last_run q m ≡ both_runs before_run store_run q m2 → IsDefined (both_runs before_run store_run q m2).how → LastBack last q m
  last_at t count last q m m2 near le is d =
      let E = value_expands t count in
      let e2 = before_run q m2 in
      let un = E.back last q m2 near (go_end e2.how store_run e2.store e2.left d) in
      let is5 : both_runs before_run store_run q m2 ≡ store_run e2.store e2.left = go_next store_run e2.how e2.store e2.left un.normal in
      let st = stored_back e2.store e2.left (subst (λ (z : Ended). IsDefined z.how) is5 d) in
      record { x = st.x; store = e2.store; rest = st.rest; kept = un.kept; less = three st.rest e2.left m2 m st.less un.less le; gave = un.gave st.x st.worth; is = is ∙ is5 ∙ st.is }

  last_back : (t : Store) (count : length t.vars ≡ n) (last q : Store) (m : ℕ) → Agree k K f false t vs2 [] [] last q → IsDefined (last_run q m).how → LastBack last q m
  last_back t count last q m near d =
      let bh = behind_down K o.before kind_f at q m (value_expands t count).quiet kind_f_declares d in
      last_at t count last q m bh.rest near bh.less bh.is (subst (λ (z : Ended). IsDefined z.how) bh.is d)

  -- the body ran
  record BodyBack (t : Store) (zs : List ℤ) (m : ℕ) : Type 0 where
    last : Store
    least : ℕ
    turns : ℕ
    runs : (i j l : ℕ) → in_order (map (prog_act k (cs (least + i))) h.body) (unset_vars ds (call_store p h zs)) (turns + l) ≡ ended normally last l
    store : Store
    rest : ℕ
    less : rest ≤ m
    near : Agree k K f false t vs2 [] [] last store
    is : both_runs body_run0 last_run (sets K f zs (unset_vars us0 t)) m ≡ last_run store rest

  body_back : (t : Store) (count : length t.vars ≡ n) (zs : List ℤ) → length zs ≡ length h.params → (m : ℕ) → IsDefined (both_runs body_run0 last_run (sets K f zs (unset_vars us0 t)) m).how → BodyBack t zs m
  body_back t count zs size m d =
      let t2 = sets K f zs (unset_vars us0 t) in
      let s0 = unset_vars ds (call_store p h zs) in
      let e1 = body_run0 t2 m in
      let sim = (body_both t count).back m t2 s0 m (same_le m) (start t count zs size) (go_end e1.how last_run e1.store e1.left d) in
      let an = after_normal (flip (λ s t0. Agree k K f false t vs2 [] [] s t0)) (flip (λ s t0. Agree k K f false t vs [] [] s t0)) e1.how e1.store sim.last sim.after in
      record {
        last = sim.last;
        least = sim.least;
        turns = sim.turns;
        runs = λ i1 j1 l1. sim.takes i1 j1 l1 ∙ ap (λ w. ended w sim.last l1) an.0;
        store = e1.store;
        rest = e1.left;
        less = sim.less;
        near = an.1;
        is = go_next last_run e1.how e1.store e1.left an.0;
      }

  -- the parameters were declared
  record DeclBack (t : Store) (l : ℕ) : Type 0 where
    given : List ℤ
    turns : ℕ
    all : all_values (map (meaning K) es) t ≡ values given turns
    rest : ℕ
    less : rest ≤ l
    is : call_block_run t l ≡ both_runs body_run0 last_run (sets K f given (unset_vars us0 t)) rest

  after_decl : (q : How) (s t2 : Store) (m : ℕ) → q ≡ normally → s ≡ t2 → go_of rest_run (ended q s m) ≡ both_runs body_run0 last_run t2 m
  after_decl q s t2 m e w = go_next rest_run q s m e ∙ ap (λ z. rest_run z m) w ∙ last_alone K i.stmts last_stmt at t2 m

  two_less : (a b c : ℕ) → a ≤ b → b ≤ c → a ≤ c
  two_less a b c x y = omega arith

  decl_at : (t : Store) (l m : ℕ) → length t.vars ≡ n → m ≤ l → call_block_run t l ≡ both_runs decl_run rest_run (unset_vars us0 t) m → IsDefined (both_runs decl_run rest_run (unset_vars us0 t) m).how → DeclBack t l
  decl_at t l m count le is d =
      let t1 = unset_vars us0 t in
      let e0 = decl_run t1 m in
      let ab = args_back K at es f f t t1 m (same_le f) deps (unset_below f us0 t (us0_from t count)) (go_end e0.how rest_run e0.store e0.left d) in
      record { given = ab.given; turns = ab.turns; all = ab.all; rest = e0.left; less = two_less e0.left m l ab.less le; is = is ∙ after_decl e0.how e0.store (sets K f ab.given t1) e0.left ab.normal ab.last }

  one_less : (l m : ℕ) → l ≡ 1 + m → m ≤ l
  one_less l m e = omega arith

  decl_back : (t : Store) (l : ℕ) → length t.vars ≡ n → IsDefined (call_block_run t l).how → DeclBack t l
  decl_back t l count d =
      let hd = had 1 inner t l (subst (λ (z : Ended). IsDefined z.how) (block_run t l) d) in
      let is : call_block_run t l ≡ both_runs decl_run rest_run (unset_vars us0 t) hd.rest = block_run t l ∙ hd.is ∙ acts_append K (declaring f es at) (i.stmts ++ act_at last_stmt at ∷ []) (unset_vars us0 t) hd.rest in
      decl_at t l hd.rest count (one_less l hd.rest hd.sum) is (subst (λ (z : Ended). IsDefined z.how) is d)

  kept_below : (t last q : Store) → Agree k K f false t vs2 [] [] last q → Below f t q
  kept_below t last q near = record { vars = λ y lt0. sym (near.below y lt0); arrays = sym near.arrays; count = sym near.count }

  call_at : (t : Store) (l : ℕ) (count : length t.vars ≡ n) (a : DeclBack t l) (b : BodyBack t a.given a.rest) (c : LastBack b.last b.store b.rest) → Called_by f v (vals_gives (map (meaning K) es)) (λ j. helper_call p j (cs j) h) t l (ended normally (put v (Some (conv h.result c.x)) c.store) c.rest)
  call_at t l count a b c =
      let b2 = below_then f f g t b.store c.store (same_le f) f_below_g (kept_below t b.last b.store b.near) c.kept in
      record {
        normal = refl;
        kept = below_then f f f t c.store (put v (Some (conv h.result c.x)) c.store) (same_le f) (same_le f) b2 (put_below f v (Some (conv h.result c.x)) c.store f_below_v);
        less = three c.rest b.rest a.rest l c.less b.less a.less;
        given = a.given;
        had = (a.turns, a.all);
        result = conv h.result c.x;
        least = suc b.turns + (b.least + c.gave.least);
        uses = suc b.turns + c.gave.uses;
        is = call_up a.given b.last c.x b.least b.turns c.gave.least c.gave.uses b.runs c.gave.is;
        read = put_same v (Some (conv h.result c.x)) c.store (fresh_in (length t.vars) (length c.store.vars) count b2.count);
      }

  call_back : (t : Store) (l : ℕ) → length t.vars ≡ n → IsDefined (call_block_run t l).how → Called_by f v (vals_gives (map (meaning K) es)) (λ j. helper_call p j (cs j) h) t l (call_block_run t l)
  call_back t l count d =
      let a = decl_back t l count d in
      let d2 = subst (λ (z : Ended). IsDefined z.how) a.is d in
      let b = body_back t count a.given (many_given t a.given a.turns a.all) a.rest d2 in
      let c = last_back t count b.last b.store b.rest b.near (subst (λ (z : Ended). IsDefined z.how) b.is d2) in
      subst (λ (z : Ended). Called_by f v (vals_gives (map (meaning K) es)) (λ j. helper_call p j (cs j) h) t l z) (sym (a.is ∙ b.is ∙ c.is)) (call_at t l count a b c)

  pub call_block : IsCallBlock n K f (f + length (writing ws h f es at).types) (writing ws h f es at).block v (vals_gives (map (meaning K) es)) (λ j. helper_call p j (cs j) h)
  call_block = record {
    from = omega arith;
    to = let e = length-append h.vars (h.result ∷ (i.types ++ o.types)) in omega arith;
    quiet = ap (λ (a : Act). a.declares) (stmt_block all_stmts K);
    forth = call_forth;
    back = call_back;
  }

-- ---- the helpers one after another

block_same : (n : ℕ) (K : Objects) (f g : ℕ) (b : TypedStmt) (fresh : ℕ) (left : Store → List ℤ → Type 0) (c d : ℕ → Called) → ((j : ℕ) (zs : List ℤ) → d j zs ≡ c j zs) → IsCallBlock n K f g b fresh left c → IsCallBlock n K f g b fresh left d
block_same n K f g b fresh left c d e x = record {
  from = x.from;
  to = x.to;
  quiet = x.quiet;
  forth = λ m t zs y u count has is lt. x.forth m t zs y u count has (sym (e m zs) ∙ is) lt;
  back = λ t l count q. let z = x.back t l count q in record { normal = z.normal; kept = z.kept; less = z.less; given = z.given; had = z.had; result = z.result; least = z.least; uses = z.uses; is = λ j. e (z.least + j) z.given ∙ z.is j; read = z.read };
}

writes_same : (n : ℕ) (K : Objects) (g : Signature) (w w2 : Writing) (c d : ℕ → Called) → w ≡ w2 → ((j : ℕ) (zs : List ℤ) → d j zs ≡ c j zs) → Writes n K g w c → Writes n K g w2 d
writes_same n K g w w2 c d e h x =
    subst (λ q. Writes n K g q d) e (λ f es at many seg deps. block_same n K f (f + length (w f es at).types) (w f es at).block (w f es at).fresh (vals_gives (map (meaning K) es)) c d h (x f es at many seg deps))

one_signature : (s g : Signature) (i : ℕ) → slice_get (s ∷ []) i ≡ Some g → (i ≡ 0) × (s ≡ g)
one_signature s g zero e = (refl, some_signature s g e)
  where
    some_signature : (s g : Signature) → Some s ≡ Some g → s ≡ g
    some_signature s g e = cc
one_signature s g (suc i) e = absurd (cc)

module _ (p : Profile) (Kv : List Ty) (Ka : List ArrayOf) (n : ℕ) (stores : length Kv ≤ n) where
  knows_more : (hs : List Signature) (ws : List Writing) (cs : ℕ → List Called) (h : TypedHelper) → Knows p Kv Ka n hs ws cs → LawfulHelper hs h → Knows p Kv Ka n (hs ++ signature_of h ∷ []) (ws ++ writing ws h ∷ []) (λ j. cs j ++ helper_call p j (cs j) h ∷ [])
  knows_more hs ws cs h knows lw = record {
    many_writings = length-append ws (writing ws h ∷ []) ∙ ap (λ z. z + 1) knows.many_writings ∙ sym (length-append hs (signature_of h ∷ []));
    many_calls = λ j. length-append (cs j) (helper_call p j (cs j) h ∷ []) ∙ ap (λ z. z + 1) (knows.many_calls j) ∙ sym (length-append hs (signature_of h ∷ []));
    written = λ i g e. written_at i g e (cases_lt i (length hs));
  }
    where
      written_at : (i : ℕ) (g : Signature) → slice_get (hs ++ signature_of h ∷ []) i ≡ Some g → (i < length hs) ⊎ (length hs ≤ i)
          → Writes n (objects_of p Kv Ka) g (written_by (slice_get (ws ++ writing ws h ∷ []) i)) (λ j. called_by (slice_get (cs j ++ helper_call p j (cs j) h ∷ []) i))
      written_at i g e (inl lt) =
          writes_same n (objects_of p Kv Ka) g (written_by (slice_get ws i)) (written_by (slice_get (ws ++ writing ws h ∷ []) i)) (λ j. called_by (slice_get (cs j) i)) (λ j. called_by (slice_get (cs j ++ helper_call p j (cs j) h ∷ []) i))
          (ap written_by (sym (slice_left ws (writing ws h ∷ []) i (let a = knows.many_writings in omega arith))))
          (λ j zs. ap (λ c. called_by c zs) (slice_left (cs j) (helper_call p j (cs j) h ∷ []) i (let a = knows.many_calls j in omega arith)))
          (knows.written i g (sym (slice_left hs (signature_of h ∷ []) i lt) ∙ e))
      written_at i g e (inr le) =
          let at : i ≡ length hs + (i - length hs) = omega arith in
          let one = one_signature (signature_of h) g (i - length hs) (sym (ap (slice_get (hs ++ signature_of h ∷ [])) at ∙ slice_right hs (signature_of h ∷ []) (i - length hs)) ∙ e) in
          let here0 : i ≡ length hs + 0 = omega (arith, one.0) in
          let at_w : i ≡ length ws + 0 = let a = knows.many_writings in omega arith in
          writes_same n (objects_of p Kv Ka) g (writing ws h) (written_by (slice_get (ws ++ writing ws h ∷ []) i)) (λ j. helper_call p j (cs j) h) (λ j. called_by (slice_get (cs j ++ helper_call p j (cs j) h ∷ []) i))
          (sym (ap written_by (ap (slice_get (ws ++ writing ws h ∷ [])) at_w ∙ slice_right ws (writing ws h ∷ []) 0)))
          (λ j zs. let at_c : i ≡ length (cs j) + 0 = let a = knows.many_calls j in omega arith in ap (λ c. called_by c zs) (ap (slice_get (cs j ++ helper_call p j (cs j) h ∷ [])) at_c ∙ slice_right (cs j) (helper_call p j (cs j) h ∷ []) 0))
          (subst (λ s. Writes n (objects_of p Kv Ka) s (writing ws h) (λ j. helper_call p j (cs j) h)) one.1
          (λ f es at0 many seg deps. call_block p Kv Ka n stores hs ws cs knows h lw f es at0 (many ∙ length-map h.params (λ (q : Param). q.ty)) seg deps))

  pub helpers_known : (rest : List TypedHelper) (hs : List Signature) (ws : List Writing) (cs : ℕ → List Called) → Knows p Kv Ka n hs ws cs → LawfulHelpers hs rest → Knows p Kv Ka n (hs ++ map signature_of rest) (writings ws rest) (λ j. helper_calls p j (cs j) rest)
  helpers_known [] hs ws cs knows lw = subst (λ z. Knows p Kv Ka n z ws cs) (sym (append-nil hs)) knows
  helpers_known (h ∷ rest) hs ws cs knows lw =
      subst (λ z. Knows p Kv Ka n z (writings ws (h ∷ rest)) (λ j. helper_calls p j (cs j) (h ∷ rest))) (append_assoc hs (signature_of h ∷ []) (map signature_of rest))
      (helpers_known rest (hs ++ signature_of h ∷ []) (ws ++ writing ws h ∷ []) (λ j. cs j ++ helper_call p j (cs j) h ∷ []) (knows_more hs ws cs h knows lw.0) lw.1)
