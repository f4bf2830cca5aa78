-- The blocks of calls of lawful helpers are lawful, and so is the tree without calls of a lawful program.
use Rattle.std.proofs.Common.{◌≡◌, ℕ, zero, suc, ◌+◌, ◌-◌, ◌<◌, ◌≤◌, List, [], ◌∷◌, ◌++◌, length, map, take, Option, Some, None, refl, sym, ◌∙◌, ap, subst, arith, ◌⊎◌, inl, inr, append-nil, append_assoc}
use Rattle.std.specs.Prelude.{Bool, true, false, All, Contains, slice_get}
use Rattle.std.proofs.lemmas.Bool.{cases_lt, false≢true}
use Rattle.std.proofs.lemmas.List.{length-append, length-map}
use Rattle.std.proofs.lemmas.List.Elements.{All-nil, All-cons, All-head, All-tail, All-append, Contains-append_left, Contains-append_right}
use Rattle.el_base.specs.declared.span.Span.{Span}
use Rattle.el_base.specs.declared.ty.Ty.{Ty}
use Rattle.c_ast.specs.Casts.{act_at}
use Rattle.c_ast.specs.declared.tree.Param.{Param}
use Rattle.c_ast.specs.declared.typed.TypedExpr.{TypedExpr}
use Rattle.c_ast.specs.declared.typed.TypedStmt.{TypedStmt}
use Rattle.c_ast.specs.declared.typed.TypedStmtKind.{TypedStmtKind}
use Rattle.c_ast.specs.declared.typed.TypedStmtKind.TheVariants as stmt
use Rattle.c_ast.specs.declared.program.TypedHelper.{TypedHelper}
use Rattle.c_ast.specs.declared.program.TypedProgram.{TypedProgram}
use Rattle.c_meaning.specs.declared.profile.Profile.{Profile}
use Rattle.c_meaning.specs.declared.profile.Profile.TheVariants.{Plain}
use Rattle.c_meaning.specs.Stores.{Objects, scalar_type, scalar_types}
use Rattle.c_meaning.specs.Statements.{objects}
use Rattle.c_meaning.specs.Lawful.{IsVar, LawfulExpr, LawfulStmt, stmt_vars_of, all_vars, LawfulHeader, AreUsed, Lawful}
use Rattle.c_meaning.specs.PartLaws.{LawfulAt}
use Rattle.c_meaning.proofs.PartsOfLawful.{stmt_block, stmt_declaration, stmt_assignment}
use Rattle.c_meaning.proofs.PartsOfNumbers.{vars_block, vars_declaration, vars_assignment}
use Rattle.c_meaning.proofs.StoreParts.{Sets, sets_none, sets_then}
use Rattle.c_meaning.proofs.ListParts.{take_first}
use Rattle.c_calls.specs.Meanings.{helper_objects, prog_objects}
use Rattle.c_calls.specs.Inlined.{Writing, written_by, inline_list, inline_of, rest_of, behind, declaring, fresh_target, writing, writings, body_of, inlined}
use Rattle.c_calls.specs.Lawful.{Signature, signature_of, all_prog_vars, LawfulHelper, LawfulHelpers, LawfulProgram}
use Rattle.c_calls.specs.Laws.{InlinedIsLawful}
use Rattle.c_calls.proofs.Lists.{here}
use Rattle.c_calls.proofs.Arguments.{slice_left, ty_head, ty_tail}
use Rattle.c_calls.proofs.Blocks.{Seg}
use Rattle.c_calls.proofs.ExprTrees.{is_element_none, seg_first, seg_rest}
use Rattle.c_calls.proofs.Helpers.{seg_types}
use Rattle.c_calls.proofs.LawfulBlocks.{sets_same, vars_append, types_of, Settles, LawfulWritten, LawfulWriting, LawfulOut, all_settle, behind_lawful, behind_vars, Within, expr_out}
use Rattle.c_calls.proofs.LawfulTrees.{LawfulOutStmts, list_out}

-- ---- the declarations of the parameters

-- the variables from v on have the types of these expressions
abbrev TypedAs : Objects → ℕ → List TypedExpr → Type 0
TypedAs K v [] = Unit {0}
TypedAs K v (e ∷ es) = IsVar K v e.ty × TypedAs K (v + 1) es

declaring_settles : (K : Objects) (v : ℕ) (es : List TypedExpr) (s : Span) → TypedAs K v es → All (LawfulExpr K) es → All (Settles K) (declaring v es s)
declaring_settles K v [] s h l = All-nil (Settles K)
declaring_settles K v (e ∷ es) s h l =
    All-cons (Settles K) (act_at (stmt.Declare v (Some e)) s) (declaring (v + 1) es s) (λ r loop. (stmt_declaration v (Some e) K r loop).1 (h.0, All-head (LawfulExpr K) e es l)) (declaring_settles K (v + 1) es s h.1 (All-tail (LawfulExpr K) e es l))

declaring_sets : (v : ℕ) (es : List TypedExpr) (s : Span) → Sets v (v + length es) (all_vars (declaring v es s))
declaring_sets v [] s = sets_none v (v + 0) [] (omega arith)
declaring_sets v (e ∷ es) s =
    let first = stmt_vars_of (stmt.Declare v (Some e)) in
    let more = all_vars (declaring (v + 1) es s) in
    let one : Sets v (v + 1) (v ∷ []) = λ u a b. let eq : v ≡ u = omega arith in subst (λ w. Contains (v ∷ []) w) eq (here v []) in
    let e1 : v + 1 + length es ≡ v + length (e ∷ es) = omega arith in
    subst (λ g. Sets v g (first ++ more)) e1
    (sets_then v (v + 1) (v + 1 + length es) first more (sets_same v (v + 1) (v ∷ []) first (vars_declaration v (Some e)) one) (declaring_sets (v + 1) es s))

-- the variables of a helper begin with its parameters, whose types the arguments have
typed_as : (K : Objects) (qs : List Param) (es : List TypedExpr) (vars : List Ty) (v : ℕ) → take (length qs) vars ≡ map (λ (q : Param). q.ty) qs → types_of es ≡ map (λ (q : Param). q.ty) qs → ((i : ℕ) → i < length vars → slice_get K.vars (v + i) ≡ slice_get vars i) → TypedAs K v es
typed_as K qs [] vars v p t h = tt
typed_as K [] (e ∷ es) vars v p t h = absurd (cc)
typed_as K (q ∷ qs) (e ∷ es) [] v p t h = absurd (cc)
typed_as K (q ∷ qs) (e ∷ es) (x ∷ xs) v p t h =
    let qts = map (λ (q : Param). q.ty) qs in
    let at : v ≡ v + 0 = omega arith in
    let same : x ≡ e.ty = ty_head x q.ty (take (length qs) xs) qts p ∙ sym (ty_head e.ty q.ty (types_of es) qts t) in (
      ap (slice_get K.vars) at ∙ h 0 (omega arith) ∙ ap Some same,
      typed_as K qs es xs (v + 1) (ty_tail x q.ty (take (length qs) xs) qts p) (ty_tail e.ty q.ty (types_of es) qts t) (λ i lt. let m : v + 1 + i ≡ v + suc i = omega arith in ap (slice_get K.vars) m ∙ h (suc i) (omega arith)),
    )

-- scalars alone: a variable for each parameter
pub many_scalars : (qs : List Param) → All (λ q. q.dims ≡ []) qs → length (scalar_types qs) ≡ length qs
many_scalars [] h = refl
many_scalars (q ∷ qs) h =
    let P : Param → Type 0 = λ q. q.dims ≡ [] in
    let e = All-head P q qs h in
    length-append (scalar_type q.dims q.ty) (scalar_types qs)
    ∙ omega (arith, many_scalars qs (All-tail P q qs h), scalar_one q.dims q.ty e)
  where
    scalar_one : (ds : List ℕ) (t : Ty) → ds ≡ [] → length (scalar_type ds t) ≡ 1
    scalar_one [] t e = refl
    scalar_one (d ∷ ds) t e = absurd (cc)

-- ---- a variable of the tree

pub is_below : (ts : List Ty) (v : ℕ) (t : Ty) → slice_get ts v ≡ Some t → v < length ts
is_below [] v t e = absurd (cc)
is_below (x ∷ xs) zero t e = omega arith
is_below (x ∷ xs) (suc v) t e = let r = is_below xs v t e in omega arith

var_in : (vars : List Ty) (f : ℕ) (ts : List Ty) → Seg vars f ts → (v : ℕ) (t : Ty) → slice_get ts v ≡ Some t → slice_get vars (f + v) ≡ Some t
var_in vars f ts seg v t e = seg_types vars f ts seg v (is_below ts v t e) ∙ e

-- ---- helpers

-- the helpers of a list are written so
abbrev AreWritten : Objects → List Signature → List Writing → Type 0
AreWritten K [] [] = Unit {0}
AreWritten K [] (w ∷ ws) = ⊥
AreWritten K (g ∷ gs) [] = ⊥
AreWritten K (g ∷ gs) (w ∷ ws) = LawfulWriting K g w × AreWritten K gs ws

written_more : (K : Objects) (gs : List Signature) (ws : List Writing) (g : Signature) (w : Writing) → AreWritten K gs ws → LawfulWriting K g w → AreWritten K (gs ++ g ∷ []) (ws ++ w ∷ [])
written_more K [] [] g w a l = (l, tt)
written_more K [] (v ∷ vs) g w a l = absurd a
written_more K (j ∷ js) [] g w a l = absurd a
written_more K (j ∷ js) (v ∷ vs) g w a l = (a.0, written_more K js vs g w a.1 l)

written_at : (K : Objects) (gs : List Signature) (ws : List Writing) → AreWritten K gs ws → (h : ℕ) (g : Signature) → slice_get gs h ≡ Some g → LawfulWriting K g (written_by (slice_get ws h))
written_at K [] ws a h g e = absurd (cc)
written_at K (j ∷ js) [] a h g e = absurd a
written_at K (j ∷ js) (v ∷ vs) a zero g e = subst (λ q. LawfulWriting K q v) (same j g e) a.0
  where
    same : (j g : Signature) → Some j ≡ Some g → j ≡ g
    same j g e = cc
written_at K (j ∷ js) (v ∷ vs) a (suc h) g e = written_at K js vs a.1 h g e

module _ (p : Profile) (K : Objects) (hs : List Signature) (ws : List Writing) (known : AreWritten K hs ws) (h : TypedHelper) (lw : LawfulHelper hs h) (f : ℕ) (es : List TypedExpr) (s : Span) (types : types_of es ≡ map (λ (q : Param). q.ty) h.params) (args : All (LawfulExpr K) es)
    (seg : Seg K.vars f (writing ws h f es s).types) where
  abbrev v : ℕ
  v = f + length h.vars

  abbrev k : Objects
  k = helper_objects p h

  abbrev ss : List TypedStmt
  ss = (inline_list ws f (v + 1) h.body).stmts

  abbrev body_types : List Ty
  body_types = (inline_list ws f (v + 1) h.body).types

  abbrev g : ℕ
  g = v + 1 + length body_types

  abbrev before : List TypedStmt
  before = (inline_of ws f g h.value).before

  abbrev value_types : List Ty
  value_types = (inline_of ws f g h.value).types

  abbrev left : TypedExpr
  left = rest_of (inline_of ws f g h.value) h.value

  abbrev assign : TypedStmtKind
  assign = stmt.Assign (fresh_target v s) None left

  abbrev last : TypedStmt
  last = act_at (behind before assign s) s

  abbrev decls : List TypedStmt
  decls = declaring f es s

  seg_h : Seg K.vars f h.vars
  seg_h = seg_first K.vars f h.vars (h.result ∷ (body_types ++ value_types)) seg

  seg_r : Seg K.vars v (h.result ∷ (body_types ++ value_types))
  seg_r = seg_rest K.vars f h.vars (h.result ∷ (body_types ++ value_types)) seg

  seg_i : Seg K.vars (v + 1) (body_types ++ value_types)
  seg_i = seg_rest K.vars v (h.result ∷ []) (body_types ++ value_types) seg_r

  within : Within k K f hs ws
  within = record { own_var = λ w t e. var_in K.vars f h.vars seg_h w t e; own_element = λ a n t e. is_element_none a e.0 e.1; written = written_at K hs ws known }

  fresh_is : IsVar K v h.result
  fresh_is = let e : v ≡ v + 0 = omega arith in ap (slice_get K.vars) e ∙ var_in K.vars v (h.result ∷ (body_types ++ value_types)) seg_r 0 h.result refl

  body_out : (R : Option Ty) (loop : Bool) → LawfulOutStmts k K f hs ws within None R tt (v + 1) (all_prog_vars h.body) loop (inline_list ws f (v + 1) h.body)
  body_out R loop = list_out k K f hs ws within None R tt (v + 1) h.body false loop (λ z. absurd (false≢true z)) (seg_first K.vars (v + 1) body_types value_types seg_i) (lw.statements p)

  value_out : LawfulOut K g h.value.ty (inline_of ws f g h.value)
  value_out = expr_out k K f hs ws within true g h.value.kind h.value.ty h.value.at (seg_rest K.vars (v + 1) body_types value_types seg_i) (lw.result p)

  assign_lawful : (R : Option Ty) (loop : Bool) → LawfulStmt K R loop assign
  assign_lawful R loop = (stmt_assignment (fresh_target v s) None left K R loop).1 (h.result, ((fresh_is, refl), All-nil (LawfulExpr K)), lw.typed, value_out.lawful)

  decls_settle : All (Settles K) decls
  decls_settle = declaring_settles K f es s (typed_as K h.params es h.vars f lw.first_vars types (λ i lt. seg_types K.vars f h.vars seg_h i lt)) args

  settles : Settles K (act_at (stmt.Block (decls ++ (ss ++ last ∷ []))) s)
  settles R loop =
      let P = LawfulAt K R loop in
      (stmt_block (decls ++ (ss ++ last ∷ [])) K R loop).1
      (All-append P decls (ss ++ last ∷ []) (all_settle K decls decls_settle R loop)
      (All-append P ss (last ∷ []) (body_out R loop).lawful (All-cons P last [] (behind_lawful K before assign s R loop value_out.settles (assign_lawful R loop)) (All-nil P))))

  -- ---- each variable of the call is declared or assigned in its block

  abbrev own : List ℕ
  own = all_vars decls

  abbrev inner : List ℕ
  inner = all_vars ss

  abbrev ending : List ℕ
  ending = stmt_vars_of last.kind

  vars_are : stmt_vars_of (stmt.Block (decls ++ (ss ++ last ∷ []))) ≡ own ++ (inner ++ ending)
  vars_are = vars_block (decls ++ (ss ++ last ∷ [])) ∙ vars_append decls (ss ++ last ∷ []) ∙ ap (λ l. own ++ l) (vars_append ss (last ∷ []) ∙ ap (λ l. inner ++ l) (append-nil ending))

  ending_are : ending ≡ all_vars before ++ v ∷ []
  ending_are = behind_vars before assign s ∙ ap (λ l. all_vars before ++ l) (vars_assignment (fresh_target v s) None left)

  in_inner : (u : ℕ) → Contains inner u → Contains (own ++ (inner ++ ending)) u
  in_inner u c = Contains-append_right own (inner ++ ending) u (Contains-append_left inner ending u c)

  in_ending : (u : ℕ) → Contains (all_vars before ++ v ∷ []) u → Contains (own ++ (inner ++ ending)) u
  in_ending u c = Contains-append_right own (inner ++ ending) u (Contains-append_right inner ending u (subst (λ l. Contains l u) (sym ending_are) c))

  many : length es ≡ length h.params
  many = let a = ap length types in let b = length-map es (λ (e : TypedExpr). e.ty) in let c = length-map h.params (λ (q : Param). q.ty) in omega arith

  -- the helper's own
  own_in : (w : ℕ) → w < length h.vars → Contains (own ++ (inner ++ ending)) (f + w)
  own_in w lt = by_cases (lw.used w lt)
    where
      by_cases : (w < length (scalar_types h.params)) ⊎ Contains (all_prog_vars h.body) w → Contains (own ++ (inner ++ ending)) (f + w)
      by_cases (inl l) = let a = many_scalars h.params lw.scalars in let b = many in Contains-append_left own (inner ++ ending) (f + w) (declaring_sets f es s (f + w) (omega arith) (omega arith))
      by_cases (inr c) = in_inner (f + w) ((body_out None false).moves w c)

  made_in : (u : ℕ) → v ≤ u → u < g + length value_types → Contains (own ++ (inner ++ ending)) u
  made_in u le lt = by_fresh (cases_lt u (v + 1))
    where
      by_inner : v + 1 ≤ u → (u < g) ⊎ (g ≤ u) → Contains (own ++ (inner ++ ending)) u
      by_inner a (inl l) = in_inner u ((body_out None false).sets u a l)
      by_inner a (inr l) = in_ending u (Contains-append_left (all_vars before) (v ∷ []) u (value_out.sets u l lt))

      by_fresh : (u < v + 1) ⊎ (v + 1 ≤ u) → Contains (own ++ (inner ++ ending)) u
      by_fresh (inl l) = let e : v ≡ u = omega arith in in_ending u (subst (λ w. Contains (all_vars before ++ v ∷ []) w) e (Contains-append_right (all_vars before) (v ∷ []) v (here v [])))
      by_fresh (inr l) = by_inner l (cases_lt u g)

  all_sets : Sets f (f + length (h.vars ++ h.result ∷ (body_types ++ value_types))) (stmt_vars_of (stmt.Block (decls ++ (ss ++ last ∷ []))))
  all_sets u le lt = subst (λ l. Contains l u) (sym vars_are) (by_cases (cases_lt u v))
    where
      by_cases : (u < v) ⊎ (v ≤ u) → Contains (own ++ (inner ++ ending)) u
      by_cases (inl l) = let e : f + (u - f) ≡ u = omega arith in subst (λ w. Contains (own ++ (inner ++ ending)) w) e (own_in (u - f) (omega arith))
      by_cases (inr l) =
          made_in u l (omega (arith, length-append h.vars (h.result ∷ (body_types ++ value_types)), length-append body_types value_types))

  call_written : LawfulWritten K f (signature_of h) (writing ws h f es s)
  call_written = record { settles = settles; sets = all_sets; fresh = fresh_is }

helpers_written : (p : Profile) (K : Objects) (rest : List TypedHelper) (hs : List Signature) (ws : List Writing) → AreWritten K hs ws → LawfulHelpers hs rest → AreWritten K (hs ++ map signature_of rest) (writings ws rest)
helpers_written p K [] hs ws known lw = subst (λ gs. AreWritten K gs ws) (sym (append-nil hs)) known
helpers_written p K (h ∷ rest) hs ws known lw =
    let one = written_more K hs ws (signature_of h) (writing ws h) known (λ f es s types args seg. call_written p K hs ws known h lw.0 f es s types args seg) in
    subst (λ gs. AreWritten K gs (writings ws (h ∷ rest))) (append_assoc hs (signature_of h ∷ []) (map signature_of rest)) (helpers_written p K rest (hs ++ signature_of h ∷ []) (ws ++ writing ws h ∷ []) one lw.1)

-- ---- programs

module _ (P : TypedProgram) (lw : LawfulProgram P) where
  abbrev made : List Ty
  made = (body_of P).types

  abbrev tree : Profile → Objects
  tree p = objects p (inlined P)

  seg_made : Seg (P.kernel.vars ++ made) (length P.kernel.vars) made
  seg_made = record { pre = P.kernel.vars; post = []; is = ap (λ z. P.kernel.vars ++ z) (sym (append-nil made)); at = refl }

  kernel_within : (p : Profile) → Within (prog_objects p P.kernel) (tree p) 0 (map signature_of P.helpers) (writings [] P.helpers)
  kernel_within p = record {
    own_var = λ v t e. let z : 0 + v ≡ v = omega arith in ap (slice_get (P.kernel.vars ++ made)) z ∙ slice_left P.kernel.vars made v (is_below P.kernel.vars v t e) ∙ e;
    own_element = λ a n t e. e;
    written = written_at (tree p) (map signature_of P.helpers) (writings [] P.helpers) (helpers_written p (tree p) P.helpers [] [] tt lw.helpers);
  }

  kernel_out : (p : Profile) → LawfulOutStmts (prog_objects p P.kernel) (tree p) 0 (map signature_of P.helpers) (writings [] P.helpers) (kernel_within p) (Some P.kernel.result) P.kernel.result refl (length P.kernel.vars) (all_prog_vars P.kernel.body) false (body_of P)
  kernel_out p = list_out (prog_objects p P.kernel) (tree p) 0 (map signature_of P.helpers) (writings [] P.helpers) (kernel_within p) (Some P.kernel.result) P.kernel.result refl (length P.kernel.vars) P.kernel.body false false (λ z. z) seg_made (lw.statements p)

  header_kept : (p : Profile) → LawfulHeader P.kernel.params (tree p)
  header_kept p =
      let h = lw.header p in
      record { distinct = h.distinct; dimensions = h.dimensions; few_elements = h.few_elements; first_vars = take_first (scalar_types P.kernel.params) P.kernel.vars made h.first_vars; arrays_are = h.arrays_are }

  all_used : AreUsed P.kernel.params (P.kernel.vars ++ made) (all_vars (body_of P).stmts)
  all_used v lt = by_cases (cases_lt v (length P.kernel.vars))
    where
      own_used : (v < length (scalar_types P.kernel.params)) ⊎ Contains (all_prog_vars P.kernel.body) v → (v < length (scalar_types P.kernel.params)) ⊎ Contains (all_vars (body_of P).stmts) v
      own_used (inl l) = inl l
      own_used (inr c) = let z : 0 + v ≡ v = omega arith in inr (subst (λ u. Contains (all_vars (body_of P).stmts) u) z ((kernel_out Plain).moves v c))

      by_cases : (v < length P.kernel.vars) ⊎ (length P.kernel.vars ≤ v) → (v < length (scalar_types P.kernel.params)) ⊎ Contains (all_vars (body_of P).stmts) v
      by_cases (inl l) = own_used (lw.used v l)
      by_cases (inr l) = let e = length-append P.kernel.vars made in inr ((kernel_out Plain).sets v l (omega arith))

  is_lawful : Lawful (inlined P)
  is_lawful = record { header = header_kept; used = all_used; statements = λ p. (kernel_out p).lawful }

pub inlined_is_lawful : InlinedIsLawful
inlined_is_lawful P k lw is = subst Lawful (sym is) (is_lawful P lw)
