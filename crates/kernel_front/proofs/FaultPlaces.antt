-- Each fault of a program stands at the place of a word of its tokens: of a name, or of `return`, `break` or `continue`.
use Rattle.std.proofs.Common.{◌≡◌, ℕ, suc, ◌+◌, ◌-◌, ◌≤◌, Bool, true, false, not, ◌||◌, nat_lt, nat_eq, if◌then◌else◌, List, [], ◌∷◌, ◌++◌, length, All, Option, Some, None, sym, ap, ◌∙◌, subst, arith}
use Rattle.std.proofs.lemmas.Bool.Decides.{nat_tests}
use Rattle.std.proofs.lemmas.List.Elements.{All-nil, All-cons, All-append}
use Rattle.std.specs.List.{list_any}
use denote.Hole.Carrier.{hidden}
use Rattle.el_base.specs.declared.span.Span.{Span}
use Rattle.el_base.specs.declared.ty.Ty.{Ty}
use Rattle.el_base.specs.Limits.{max_dimensions, max_elements}
use Rattle.c_ast.specs.declared.token.Token.{Token}
use Rattle.c_ast.specs.declared.mark.Mark.{Mark}
use Rattle.c_ast.specs.declared.mark.Mark.TheVariants as mark
use Rattle.c_ast.specs.declared.key.Key.TheVariants as key
use Rattle.c_ast.specs.declared.tree.Unary.{Unary}
use Rattle.c_ast.specs.declared.tree.Binary.{Binary}
use Rattle.c_ast.specs.declared.tree.Param.{Param}
use Rattle.c_ast.specs.declared.tree.Target.{Target}
use Rattle.c_ast.specs.declared.tree.Expr.{Expr}
use Rattle.c_ast.specs.declared.tree.ExprKind.{ExprKind}
use Rattle.c_ast.specs.declared.tree.ExprKind.TheVariants as expr
use Rattle.c_ast.specs.declared.tree.ExprKind.TheBlock.{shape-the_row-Expr-0, hidden-the_row-Expr-0, shape-the_row-Expr-1, hidden-the_row-Expr-1}
use Rattle.c_ast.specs.declared.tree.Stmt.{Stmt}
use Rattle.c_ast.specs.declared.tree.StmtKind.{StmtKind}
use Rattle.c_ast.specs.declared.tree.StmtKind.TheVariants as stmt
use Rattle.c_ast.specs.declared.tree.StmtKind.TheBlock.{shape-the_row-Stmt-0, hidden-the_row-Stmt-0, shape-the_row-Stmt-1, hidden-the_row-Stmt-1, back-StmtKind-If-2}
use Rattle.c_ast.specs.declared.tree.Tree.{Tree}
use Rattle.c_ast.specs.declared.tree.Helper.{Helper}
use Rattle.c_ast.specs.declared.tree.Program.{Program}
use Rattle.c_ast.specs.Derives.{marked, keyed, named, last_span, place_of, between, if_tokens, do_tokens, DerivesExpr, DerivesIndices, DerivesArgs, DerivesMoreArgs, DerivesTarget, DerivesSimple, DerivesOption, DerivesStep, DerivesDeclared, DerivesDeclarators, DerivesDeclaration, DerivesFirst, DerivesStmt, DerivesItems, DerivesParam, DerivesParamList, DerivesParams, Derives}
use Rattle.c_ast.specs.ProgramTexts.{block_tokens, DerivesHelper, DerivesHelpers, DerivesProgram}
use Rattle.c_ast.specs.Programs.{joins_both, where_whole}
use Rattle.c_ast.specs.Typing.{row_length, elements_of}
use Rattle.c_types.specs.declared.fault.Rule.{Rule}
use Rattle.c_types.specs.declared.fault.Rule.TheVariants as rule
use Rattle.c_types.specs.declared.fault.Fault.{Fault}
use Rattle.c_types.specs.Places.{fault, first_bytes}
use Rattle.c_types.specs.Scopes.{declared_in, is_new_in, with_entry}
use Rattle.c_types.specs.Faults.{Sorts, broken_by_use, broken_by_call, if_broken, use_faults, row_faults, kind_faults, option_faults, target_faults, exprs_faults, unless, is_returnable, sorts_after, sorts_after_row, act_faults, held_faults, acts_faults, stmt_faults, stmts_faults, sort_of_dims, param_faults, params_faults, sorts_after_params, block_faults, sorts_at_end}
use Rattle.c_types.specs.CallPlaces.{kind_places, row_places, exprs_places, option_places, target_places, act_places, held_places, acts_places, stmt_places, stmts_places, helper_places, helpers_places}
use Rattle.c_types.specs.ProgramFaults.{helper_faults, sorts_after_helper, helpers_faults, sorts_after_helpers, kernel_faults, program_faults}
use Rattle.kernel_front.proofs.Laid.{AreLaid}

-- ---- tokens that stand one after another

pub record Laid (Q : Span → Type 0) (ts : List Token) : Type 0 where
  pub from : ℕ
  pub laid : AreLaid Q from ts

module _ (Q : Span → Type 0) where
  front_from : (k : ℕ) (ts us : List Token) → AreLaid Q k (ts ++ us) → AreLaid Q k ts
  front_from k [] us h = tt
  front_from k (t ∷ ts) us h = (h.0, h.1, h.2, front_from t.span.end ts us h.3)

  back_from : (k : ℕ) (ts us : List Token) → AreLaid Q k (ts ++ us) → Laid Q us
  back_from k [] us h = record { from = k; laid = h }
  back_from k (t ∷ ts) us h = back_from t.span.end ts us h.3

  front : (ts us : List Token) → Laid Q (ts ++ us) → Laid Q ts
  front ts us h = record { from = h.from; laid = front_from h.from ts us h.laid }

  back : (ts us : List Token) → Laid Q (ts ++ us) → Laid Q us
  back ts us h = back_from h.from ts us h.laid

  rest : (t : Token) (ts : List Token) → Laid Q (t ∷ ts) → Laid Q ts
  rest t ts h = record { from = t.span.end; laid = h.laid.3 }

  inside : (m n : Mark) (s z : Span) (ts : List Token) → Laid Q (between m s ts n z) → Laid Q ts
  inside m n s z ts h = front ts (marked n z ∷ []) (rest (marked m s) (ts ++ marked n z ∷ []) h)

  -- a place ends no sooner than its first token
  last_end : (s : Span) (ts : List Token) → AreLaid Q s.end ts → s.end ≤ (last_span s ts).end
  last_end s [] h = omega arith
  last_end s (t ∷ ts) h = omega (arith, h.0, h.1, last_end t.span ts h.3)

  end_is : (n a e : ℕ) → a + n ≤ e → (if nat_lt n (e - a) then a + n else e) ≡ a + n
  end_is n a e h = grind (arith, nat_tests)

  -- the first bytes of a place that begins with a word are the word's
  word_place : (n : ℕ) (t : Token) (ts : List Token) → AreLaid Q t.span.end ts → t.span.end ≡ t.span.start + n → first_bytes n (place_of (t ∷ ts)) ≡ t.span
  word_place n t ts h long =
      let s : Span = t.span in
      ap (λ e. let r : Span = record { start = s.start; end = e; line = s.line; column = s.column } in r)
      (end_is n s.start (last_span s ts).end (omega (arith, long, last_end s ts h)) ∙ sym long)

  name_place : (x : List ℕ) (s : Span) (ts : List Token) → Laid Q (named x s ∷ ts) → Q (first_bytes (length x) (place_of (named x s ∷ ts)))
  name_place x s ts h = subst Q (sym (word_place (length x) (named x s) ts h.laid.3 h.laid.2.2)) h.laid.2.0

  return_place : (s : Span) (ts : List Token) → Laid Q (keyed key.Return s ∷ ts) → Q (first_bytes 6 (place_of (keyed key.Return s ∷ ts)))
  return_place s ts h = subst Q (sym (word_place 6 (keyed key.Return s) ts h.laid.3 h.laid.2.2)) h.laid.2.0

  -- ---- faults

  pub record ArePlaced (fs : List Fault) : Type 0 where
    pub each : All (λ f. Q f.span) fs

  nothing : ArePlaced []
  nothing = record { each = All-nil (λ f. Q f.span) }

  both : {fs gs : List Fault} → ArePlaced fs → ArePlaced gs → ArePlaced (fs ++ gs)
  both {fs} {gs} h k = record { each = All-append (λ (f : Fault). Q f.span) fs gs h.each k.each }

  one : (r : Rule) (s : Span) → Q s → ArePlaced (fault r s ∷ [])
  one r s h = record { each = All-cons (λ (f : Fault). Q f.span) (fault r s) [] h (All-nil (λ f. Q f.span)) }

  if_broken_placed : (o : Option Rule) (s : Span) → Q s → ArePlaced (if_broken o s)
  if_broken_placed None s h = nothing
  if_broken_placed (Some r) s h = one r s h

  unless_placed : (b : Bool) (r : Rule) (s : Span) → Q s → ArePlaced (unless b r s)
  unless_placed true r s h = nothing
  unless_placed false r s h = one r s h

  use_placed : (names : Sorts) (x : List ℕ) (n : ℕ) (s : Span) (ts : List Token) → Laid Q (named x s ∷ ts) → ArePlaced (use_faults names x n (place_of (named x s ∷ ts)))
  use_placed names x n s ts h = if_broken_placed (broken_by_use (declared_in names x) n) _ (name_place x s ts h)

  -- ---- expressions

  -- in whatever scopes, and wherever calls may stand or not
  abbrev KindPlaced : ExprKind → Span → Type 0
  KindPlaced kind at = ((names : Sorts) → ArePlaced (kind_faults names kind at)) × ((may : Bool) → ArePlaced (kind_places may kind at))

  abbrev ExprPlaced : Expr → Type 0
  ExprPlaced e = KindPlaced e.kind e.at

  abbrev ExprsPlaced : List Expr → Type 0
  ExprsPlaced [] = Unit {0}
  ExprsPlaced (e ∷ es) = ExprPlaced e × ExprsPlaced es

  row_placed : (es : List Expr) → ExprsPlaced es → ((names : Sorts) → ArePlaced (row_faults names (hidden-the_row-Expr-0 es))) × ((may : Bool) → ArePlaced (row_places may (hidden-the_row-Expr-0 es)))
  unfolding shape-the_row-Expr-0 hidden-the_row-Expr-0 shape-the_row-Expr-1 hidden-the_row-Expr-1 hidden
  row_placed [] h = (λ names. nothing, λ may. nothing)
  row_placed (e ∷ es) h =
      let more = row_placed es h.1 in
      (λ names. both (h.0.0 names) (more.0 names), λ may. both (h.0.1 may) (more.1 may))

  exprs_placed : (es : List Expr) → ExprsPlaced es → ((names : Sorts) → ArePlaced (exprs_faults names es)) × ((may : Bool) → ArePlaced (exprs_places may es))
  exprs_placed [] h = (λ names. nothing, λ may. nothing)
  exprs_placed (e ∷ es) h =
      let more = exprs_placed es h.1 in
      (λ names. both (h.0.0 names) (more.0 names), λ may. both (h.0.1 may) (more.1 may))

  element_placed : (x : List ℕ) (es : List Expr) (s : Span) (ts : List Token) → Laid Q (named x s ∷ ts) → ExprsPlaced es
      → KindPlaced (expr.Element x es) (place_of (named x s ∷ ts))
  element_placed x es s ts h parts = (
    λ names. both (use_placed names x (row_length (hidden-the_row-Expr-0 es)) s ts h) ((row_placed es parts).0 names),
    (row_placed es parts).1,
  )

  call_placed : (x : List ℕ) (es : List Expr) (s : Span) (ts : List Token) → Laid Q (named x s ∷ ts) → ExprsPlaced es
      → KindPlaced (expr.Call x es) (place_of (named x s ∷ ts))
  call_placed x es s ts h parts = (
    λ names. both (if_broken_placed (broken_by_call (declared_in names x) (row_length (hidden-the_row-Expr-0 es))) _ (name_place x s ts h)) ((row_placed es parts).0 names),
    λ may. both (unless_placed may rule.CallPlace _ (name_place x s ts h)) ((row_placed es parts).1 may),
  )

  unary_placed : (op : Unary) (a : Expr) (at : Span) → ExprPlaced a → KindPlaced (expr.Unary op a) at
  unfolding shape-the_row-Expr-0 hidden-the_row-Expr-0 shape-the_row-Expr-1 hidden-the_row-Expr-1 hidden
  unary_placed op a at h = (λ names. h.0 names, λ may. h.1 may)

  cast_placed : (t : Ty) (a : Expr) (at : Span) → ExprPlaced a → KindPlaced (expr.Cast t a) at
  unfolding shape-the_row-Expr-0 hidden-the_row-Expr-0 shape-the_row-Expr-1 hidden-the_row-Expr-1 hidden
  cast_placed t a at h = (λ names. h.0 names, λ may. h.1 may)

  binary_placed : (op : Binary) (a b : Expr) (at : Span) → ExprPlaced a → ExprPlaced b → KindPlaced (expr.Binary op a b) at
  unfolding shape-the_row-Expr-0 hidden-the_row-Expr-0 shape-the_row-Expr-1 hidden-the_row-Expr-1 hidden
  binary_placed op a b at h k = (λ names. both (h.0 names) (k.0 names), λ may. both (h.1 may) (k.1 (where_whole (joins_both op) may)))

  choice_placed : (a b d : Expr) (at : Span) → ExprPlaced a → ExprPlaced b → ExprPlaced d → KindPlaced (expr.Choose a b d) at
  unfolding shape-the_row-Expr-0 hidden-the_row-Expr-0 shape-the_row-Expr-1 hidden-the_row-Expr-1 hidden
  choice_placed a b d at h k l = (
    λ names. both (h.0 names) (both (k.0 names) (l.0 names)),
    λ may. both (h.1 may) (both (k.1 false) (l.1 false)),
  )

  mutual
    expr_placed : (l : ℕ) (ts : List Token) (e : Expr) → DerivesExpr l ts e → Laid Q ts → ExprPlaced e
    expr_placed l ts e (DerivesExpr.tighter k us a below d) h = expr_placed (suc k) us a d h
    expr_placed l ts e (DerivesExpr.choice us ws xs q c a b x cond chosen other) h =
        let behind = rest (marked mark.Question q) (ws ++ marked mark.Colon c ∷ xs) (back us (marked mark.Question q ∷ (ws ++ marked mark.Colon c ∷ xs)) h) in
        choice_placed a b x _ (expr_placed 1 us a cond (front us (marked mark.Question q ∷ (ws ++ marked mark.Colon c ∷ xs)) h))
        (expr_placed 0 ws b chosen (front ws (marked mark.Colon c ∷ xs) behind)) (expr_placed 0 xs x other (rest (marked mark.Colon c) xs (back ws (marked mark.Colon c ∷ xs) behind)))
    expr_placed l ts e (DerivesExpr.joined k m op us ws s a b operator left right) h =
        binary_placed op a b _ (expr_placed k us a left (front us (marked m s ∷ ws) h)) (expr_placed (suc k) ws b right (rest (marked m s) ws (back us (marked m s ∷ ws) h)))
    expr_placed l ts e (DerivesExpr.prefixed m op us s a sign d) h = unary_placed op a _ (expr_placed 11 us a d (rest (marked m s) us h))
    expr_placed l ts e (DerivesExpr.cast us ws s z t a type d) h = cast_placed t a _ (expr_placed 11 ws a d (back (between mark.Open s us mark.Close z) ws h))
    expr_placed l ts e (DerivesExpr.number n t s) h = (λ names. nothing, λ may. nothing)
    expr_placed l ts e (DerivesExpr.name x s) h = (λ names. use_placed names x 0 s [] h, λ may. nothing)
    expr_placed l ts e (DerivesExpr.element x s us a es d) h = element_placed x (a ∷ es) s us h (indices_placed us (a ∷ es) d (rest (named x s) us h))
    expr_placed l ts e (DerivesExpr.call x s a z us es d) h =
        call_placed x es s (between mark.Open a us mark.Close z) h
        (args_placed us es d (inside mark.Open mark.Close a z us (rest (named x s) (between mark.Open a us mark.Close z) h)))
    expr_placed l ts e (DerivesExpr.parens us s z a d) h = expr_placed 0 us a d (inside mark.Open mark.Close s z us h)

    indices_placed : (ts : List Token) (es : List Expr) → DerivesIndices ts es → Laid Q ts → ExprsPlaced es
    indices_placed ts es DerivesIndices.no_more h = tt
    indices_placed ts es (DerivesIndices.one_more us ws s z a more d ds) h = (
      expr_placed 0 us a d (inside mark.OpenBracket mark.CloseBracket s z us (front (between mark.OpenBracket s us mark.CloseBracket z) ws h)),
      indices_placed ws more ds (back (between mark.OpenBracket s us mark.CloseBracket z) ws h),
    )

    args_placed : (ts : List Token) (es : List Expr) → DerivesArgs ts es → Laid Q ts → ExprsPlaced es
    args_placed ts es DerivesArgs.no_arguments h = tt
    args_placed ts es (DerivesArgs.arguments us ws a more d ds) h = (expr_placed 0 us a d (front us ws h), more_args_placed ws more ds (back us ws h))

    more_args_placed : (ts : List Token) (es : List Expr) → DerivesMoreArgs ts es → Laid Q ts → ExprsPlaced es
    more_args_placed ts es DerivesMoreArgs.no_further h = tt
    more_args_placed ts es (DerivesMoreArgs.one_further us ws s a more d ds) h =
        let behind = rest (marked mark.Comma s) (us ++ ws) h in
        (expr_placed 0 us a d (front us ws behind), more_args_placed ws more ds (back us ws behind))

  abbrev OptionPlaced : Option Expr → Type 0
  OptionPlaced o = ((names : Sorts) → ArePlaced (option_faults names o)) × ((may : Bool) → ArePlaced (option_places may o))

  option_placed : (ts : List Token) (e : Option Expr) → DerivesOption ts e → Laid Q ts → OptionPlaced e
  option_placed ts e DerivesOption.absent h = (λ names. nothing, λ may. nothing)
  option_placed ts e (DerivesOption.present us a d) h = expr_placed 0 us a d h

  -- ---- assignments, steps and declarations

  abbrev TargetPlaced : Target → Type 0
  TargetPlaced t = ((names : Sorts) → ArePlaced (target_faults names t)) × ArePlaced (target_places t)

  target_placed : (ts : List Token) (t : Target) → DerivesTarget ts t → Laid Q ts → TargetPlaced t
  target_placed ts t (DerivesTarget.target x s us es d) h =
      let parts = indices_placed us es d (rest (named x s) us h) in (
        λ names. both (use_placed names x (length es) s us h) ((exprs_placed es parts).0 names),
        (exprs_placed es parts).1 true,
      )

  abbrev Placed : Stmt → Type 0
  Placed s = ((r : Option Ty) (loop : Bool) (names : Sorts) → ArePlaced (stmt_faults s r loop names)) × ArePlaced (stmt_places s)

  abbrev AllPlaced : List Stmt → Type 0
  AllPlaced [] = Unit {0}
  AllPlaced (s ∷ ss) = Placed s × AllPlaced ss

  all_both : (ss ts : List Stmt) → AllPlaced ss → AllPlaced ts → AllPlaced (ss ++ ts)
  all_both [] ts h k = k
  all_both (s ∷ ss) ts h k = (h.0, all_both ss ts h.1 k)

  simple_placed : (ts : List Token) (s : Stmt) → DerivesSimple ts s → Laid Q ts → Placed s
  simple_placed ts s (DerivesSimple.assign us ws m p t op e to operator value) h =
      let target = target_placed us t to (front us (marked m p ∷ ws) h) in
      let assigned = expr_placed 0 ws e value (rest (marked m p) ws (back us (marked m p ∷ ws) h)) in (λ r loop names. both (target.0 names) (assigned.0 names), both target.1 (assigned.1 true))
  simple_placed ts s (DerivesSimple.step_after us m p t up to step) h =
      let target = target_placed us t to (front us (marked m p ∷ []) h) in (λ r loop names. target.0 names, target.1)
  simple_placed ts s (DerivesSimple.step_before us m p t up step to) h =
      let target = target_placed us t to (rest (marked m p) us h) in (λ r loop names. target.0 names, target.1)

  declared_placed : (t : Ty) (ts : List Token) (s : Stmt) → DerivesDeclared t ts s → Laid Q ts → Placed s
  declared_placed t ts s (DerivesDeclared.without_value u x p) h = (
    λ r loop names. both (unless_placed (is_new_in names x) rule.Redeclared p h.laid.2.0) nothing,
    nothing,
  )
  declared_placed t ts s (DerivesDeclared.with_value u x p a us e d) h =
      let value = expr_placed 0 us e d (rest (marked mark.Assign a) us (rest (named x p) (marked mark.Assign a ∷ us) h)) in (
        λ r loop names. both (unless_placed (is_new_in names x) rule.Redeclared p h.laid.2.0) (value.0 (sorts_after names (stmt.Declare x u (Some e)))),
        value.1 true,
      )

  declarators_placed : (t : Ty) (ts : List Token) (ds : List Stmt) → DerivesDeclarators t ts ds → Laid Q ts → AllPlaced ds
  declarators_placed t ts ds (DerivesDeclarators.last_one u us d one) h = (declared_placed u us d one h, tt)
  declarators_placed t ts ds (DerivesDeclarators.one_more u us ws s d more one others) h =
      (declared_placed u us d one (front us (marked mark.Comma s ∷ ws) h), declarators_placed u ws more others (rest (marked mark.Comma s) ws (back us (marked mark.Comma s ∷ ws) h)))

  declaration_placed : (ts : List Token) (ds : List Stmt) → DerivesDeclaration ts ds → Laid Q ts → AllPlaced ds
  declaration_placed ts ds (DerivesDeclaration.declaration us ws z t more type names) h =
      declarators_placed t ws more names (front ws (marked mark.Semicolon z ∷ []) (back us (ws ++ marked mark.Semicolon z ∷ []) h))

  first_placed : (ts : List Token) (ss : List Stmt) → DerivesFirst ts ss → Laid Q ts → AllPlaced ss
  first_placed ts ss (DerivesFirst.nothing z) h = tt
  first_placed ts ss (DerivesFirst.simple us z s d) h = (simple_placed us s d (front us (marked mark.Semicolon z ∷ []) h), tt)
  first_placed ts ss (DerivesFirst.declares us ds d) h = declaration_placed us ds d h

  abbrev PlacedIfAny : Option Stmt → Type 0
  PlacedIfAny None = Unit {0}
  PlacedIfAny (Some s) = Placed s

  step_placed : (ts : List Token) (s : Option Stmt) → DerivesStep ts s → Laid Q ts → PlacedIfAny s
  step_placed ts s DerivesStep.absent h = tt
  step_placed ts s (DerivesStep.present us a d) h = simple_placed us a d h

  -- ---- statements

  acts_placed : (ss : List Stmt) → AllPlaced ss → ((r : Option Ty) (loop : Bool) (names : Sorts) → ArePlaced (acts_faults (hidden-the_row-Stmt-0 ss) r loop names)) × ArePlaced (acts_places (hidden-the_row-Stmt-0 ss))
  unfolding shape-the_row-Stmt-0 hidden-the_row-Stmt-0 shape-the_row-Stmt-1 hidden-the_row-Stmt-1 hidden
  acts_placed [] h = (λ r loop names. nothing, nothing)
  acts_placed (s ∷ ss) h =
      let more = acts_placed ss h.1 in
      (λ r loop names. both (h.0.0 r loop names) (more.0 r loop (sorts_after names s.kind)), both h.0.1 more.1)

  held_placed : (o : Option Stmt) → PlacedIfAny o → ((r : Option Ty) (loop : Bool) (names : Sorts) → ArePlaced (held_faults (back-StmtKind-If-2 o) r loop names)) × ArePlaced (held_places (back-StmtKind-If-2 o))
  unfolding shape-the_row-Stmt-0 hidden-the_row-Stmt-0 shape-the_row-Stmt-1 hidden-the_row-Stmt-1 hidden
  held_placed None h = (λ r loop names. nothing, nothing)
  held_placed (Some s) h = (λ r loop names. h.0 r loop ([] ∷ names), h.1)

  -- a statement with its place
  abbrev ActPlaced : StmtKind → Span → Type 0
  ActPlaced kind at = ((r : Option Ty) (loop : Bool) (names : Sorts) → ArePlaced (act_faults kind at r loop names)) × ArePlaced (act_places kind)

  block_placed : (ss : List Stmt) (at : Span) → AllPlaced ss → ActPlaced (stmt.Block ss) at
  block_placed ss at h = (λ r loop names. (acts_placed ss h).0 r loop ([] ∷ names), (acts_placed ss h).1)

  if_placed : (c : Expr) (b : Stmt) (o : Option Stmt) (at : Span) → ExprPlaced c → Placed b → PlacedIfAny o → ActPlaced (stmt.If c b o) at
  unfolding shape-the_row-Stmt-0 hidden-the_row-Stmt-0 shape-the_row-Stmt-1 hidden-the_row-Stmt-1 hidden
  if_placed c b o at p q s = (
    λ r loop names. both (p.0 names) (both (q.0 r loop ([] ∷ names)) ((held_placed o s).0 r loop names)),
    both (p.1 true) (both q.1 (held_placed o s).1),
  )

  while_placed : (c : Expr) (b : Stmt) (at : Span) → ExprPlaced c → Placed b → ActPlaced (stmt.While c b) at
  unfolding shape-the_row-Stmt-0 hidden-the_row-Stmt-0 shape-the_row-Stmt-1 hidden-the_row-Stmt-1 hidden
  while_placed c b at p q = (λ r loop names. both (p.0 names) (q.0 r true ([] ∷ names)), both (p.1 false) q.1)

  do_placed : (b : Stmt) (c : Expr) (at : Span) → Placed b → ExprPlaced c → ActPlaced (stmt.DoWhile b c) at
  unfolding shape-the_row-Stmt-0 hidden-the_row-Stmt-0 shape-the_row-Stmt-1 hidden-the_row-Stmt-1 hidden
  do_placed b c at q p = (λ r loop names. both (q.0 r true ([] ∷ names)) (p.0 names), both q.1 (p.1 false))

  for_placed : (ss : List Stmt) (c : Option Expr) (o : Option Stmt) (b : Stmt) (at : Span) → AllPlaced ss → OptionPlaced c → PlacedIfAny o → Placed b → ActPlaced (stmt.For ss c o b) at
  unfolding shape-the_row-Stmt-0 hidden-the_row-Stmt-0 shape-the_row-Stmt-1 hidden-the_row-Stmt-1 hidden
  for_placed ss c o b at p q s k = (
    λ r loop names.
        let after : Sorts = sorts_after_row ([] ∷ names) (hidden-the_row-Stmt-0 ss) in
        both ((acts_placed ss p).0 r false ([] ∷ names)) (both (q.0 after) (both ((held_placed o s).0 r false after) (k.0 r true ([] ∷ after)))),
    both (acts_placed ss p).1 (both (q.1 false) (both (held_placed o s).1 k.1)),
  )

  mutual
    stmt_placed : (f : Bool) (ts : List Token) (s : Stmt) → DerivesStmt f ts s → Laid Q ts → Placed s
    stmt_placed f ts s (DerivesStmt.block us a z ss d) h = block_placed ss (place_of (between mark.OpenBrace a us mark.CloseBrace z)) (items_placed us ss d (inside mark.OpenBrace mark.CloseBrace a z us h))
    stmt_placed f ts s (DerivesStmt.empty a) h = (λ r loop names. nothing, nothing)
    stmt_placed f ts s (DerivesStmt.simple us z b d) h = simple_placed us b d (front us (marked mark.Semicolon z ∷ []) h)
    stmt_placed f ts s (DerivesStmt.without_else g i a z us ws c b cond body) h =
        let behind = rest (keyed key.If i) (between mark.Open a us mark.Close z ++ ws) h in
        if_placed c b None _ (expr_placed 0 us c cond (inside mark.Open mark.Close a z us (front (between mark.Open a us mark.Close z) ws behind)))
        (stmt_placed g ws b body (back (between mark.Open a us mark.Close z) ws behind)) tt
    stmt_placed f ts s (DerivesStmt.with_else g i a z e us ws xs c b d cond body other) h =
        let behind = rest (keyed key.If i) (between mark.Open a us mark.Close z ++ ws) (front (if_tokens i a us z ws) (keyed key.Else e ∷ xs) h) in
        if_placed c b (Some d) _ (expr_placed 0 us c cond (inside mark.Open mark.Close a z us (front (between mark.Open a us mark.Close z) ws behind)))
        (stmt_placed false ws b body (back (between mark.Open a us mark.Close z) ws behind)) (stmt_placed g xs d other (rest (keyed key.Else e) xs (back (if_tokens i a us z ws) (keyed key.Else e ∷ xs) h)))
    stmt_placed f ts s (DerivesStmt.while_loop g w a z us ws c b cond body) h =
        let behind = rest (keyed key.While w) (between mark.Open a us mark.Close z ++ ws) h in
        while_placed c b _ (expr_placed 0 us c cond (inside mark.Open mark.Close a z us (front (between mark.Open a us mark.Close z) ws behind)))
        (stmt_placed g ws b body (back (between mark.Open a us mark.Close z) ws behind))
    stmt_placed f ts s (DerivesStmt.do_loop g i w a z y us ws c b body cond) h =
        let behind = rest (keyed key.Do i) (ws ++ keyed key.While w ∷ between mark.Open a us mark.Close z) (front (do_tokens i ws w a us z) (marked mark.Semicolon y ∷ []) h) in
        do_placed b c _ (stmt_placed g ws b body (front ws (keyed key.While w ∷ between mark.Open a us mark.Close z) behind))
        (expr_placed 0 us c cond (inside mark.Open mark.Close a z us (rest (keyed key.While w) (between mark.Open a us mark.Close z) (back ws (keyed key.While w ∷ between mark.Open a us mark.Close z) behind))))
    stmt_placed f ts s (DerivesStmt.for_loop g i a b z us ws xs ys first c step body one two three four) h =
        let begun = rest (marked mark.Open a) (us ++ (ws ++ marked mark.Semicolon b ∷ (xs ++ marked mark.Close z ∷ ys)))
        (rest (keyed key.For i) (marked mark.Open a ∷ (us ++ (ws ++ marked mark.Semicolon b ∷ (xs ++ marked mark.Close z ∷ ys)))) h) in
        let behind = back us (ws ++ marked mark.Semicolon b ∷ (xs ++ marked mark.Close z ∷ ys)) begun in
        let last = rest (marked mark.Semicolon b) (xs ++ marked mark.Close z ∷ ys) (back ws (marked mark.Semicolon b ∷ (xs ++ marked mark.Close z ∷ ys)) behind) in
        for_placed first c step body _ (first_placed us first one (front us (ws ++ marked mark.Semicolon b ∷ (xs ++ marked mark.Close z ∷ ys)) begun))
        (option_placed ws c two (front ws (marked mark.Semicolon b ∷ (xs ++ marked mark.Close z ∷ ys)) behind))
        (step_placed xs step three (front xs (marked mark.Close z ∷ ys) last)) (stmt_placed g ys body four (rest (marked mark.Close z) ys (back xs (marked mark.Close z ∷ ys) last)))
    stmt_placed f ts s (DerivesStmt.leaving a z) h = (λ r loop names. unless_placed loop rule.OutsideLoop a h.laid.2.0, nothing)
    stmt_placed f ts s (DerivesStmt.continuing a z) h = (λ r loop names. unless_placed loop rule.OutsideLoop a h.laid.2.0, nothing)
    stmt_placed f ts s (DerivesStmt.returning a z us e d) h =
        let own : Laid Q (keyed key.Return a ∷ us) = front (keyed key.Return a ∷ us) (marked mark.Semicolon z ∷ []) h in
        let value = option_placed us e d (rest (keyed key.Return a) us own) in (
          λ r loop names. both (unless_placed (is_returnable r e) rule.ReturnKind _ (return_place a us own)) (value.0 names),
          value.1 true,
        )

    items_placed : (ts : List Token) (ss : List Stmt) → DerivesItems ts ss → Laid Q ts → AllPlaced ss
    items_placed ts ss DerivesItems.done h = tt
    items_placed ts ss (DerivesItems.statement f us ws s more d ds) h = (stmt_placed f us s d (front us ws h), items_placed ws more ds (back us ws h))
    items_placed ts ss (DerivesItems.declares us ws ds more d others) h = all_both ds more (declaration_placed us ds d (front us ws h)) (items_placed ws more others (back us ws h))

  stmts_placed : (ss : List Stmt) → AllPlaced ss → ((r : Option Ty) (loop : Bool) (names : Sorts) → ArePlaced (stmts_faults ss r loop names)) × ArePlaced (stmts_places ss)
  stmts_placed [] h = (λ r loop names. nothing, nothing)
  stmts_placed (s ∷ ss) h =
      let more = stmts_placed ss h.1 in
      (λ r loop names. both (h.0.0 r loop names) (more.0 r loop (sorts_after names s.kind)), both h.0.1 more.1)

  -- ---- parameters

  abbrev ParamsPlaced : List Param → Type 0
  ParamsPlaced [] = Unit {0}
  ParamsPlaced (p ∷ ps) = Q p.at × ParamsPlaced ps

  param_placed : (ts : List Token) (p : Param) → DerivesParam ts p → Laid Q ts → Q p.at
  param_placed ts p (DerivesParam.param us ws t x s ds type dims) h = (back us (named x s ∷ ws) h).laid.2.0

  list_placed : (ts : List Token) (ps : List Param) → DerivesParamList ts ps → Laid Q ts → ParamsPlaced ps
  list_placed ts ps (DerivesParamList.last_one us p d) h = (param_placed us p d h, tt)
  list_placed ts ps (DerivesParamList.one_more us ws s p more d ds) h =
      (param_placed us p d (front us (marked mark.Comma s ∷ ws) h), list_placed ws more ds (rest (marked mark.Comma s) ws (back us (marked mark.Comma s ∷ ws) h)))

  params_placed : (ts : List Token) (ps : List Param) → DerivesParams ts ps → Laid Q ts → ParamsPlaced ps
  params_placed ts ps DerivesParams.none h = tt
  params_placed ts ps (DerivesParams.none_by_void s) h = tt
  params_placed ts ps (DerivesParams.some us more d) h = list_placed us more d h

  param_faults_placed : (p : Param) (new : Bool) (elements : ℕ) → Q p.at → ArePlaced (param_faults p new elements)
  param_faults_placed p new elements h =
      both (unless_placed new rule.Redeclared p.at h)
      (both (unless_placed (not (nat_lt max_dimensions (length p.dims))) rule.Dimensions p.at h)
      (unless_placed (not (list_any (λ d. nat_eq d 0) p.dims || nat_lt max_elements elements)) rule.Length p.at h))

  params_faults_placed : (ps : List Param) (names : Sorts) (elements : ℕ) → ParamsPlaced ps → ArePlaced (params_faults ps names elements)
  params_faults_placed [] names elements h = nothing
  params_faults_placed (p ∷ ps) names elements h =
      both (param_faults_placed p (is_new_in names p.name) (elements + elements_of p.dims) h.0)
      (params_faults_placed ps (with_entry p.name (sort_of_dims p.dims) names) (elements + elements_of p.dims) h.1)

  -- the parameters and the statements of a block
  block_faults_placed : (names : Sorts) (ps : List Param) (ss : List Stmt) (r : Option Ty) → ParamsPlaced ps → AllPlaced ss → ArePlaced (block_faults names ps ss r)
  block_faults_placed names ps ss r h k =
      both (params_faults_placed ps names 0 h) ((stmts_placed ss k).0 r false (sorts_after_params names ps))

  -- ---- helpers

  abbrev HelperPlaced : Helper → Type 0
  HelperPlaced f = ((names : Sorts) → ArePlaced (helper_faults names f)) × ArePlaced (helper_places f)

  abbrev HelpersPlaced : List Helper → Type 0
  HelpersPlaced [] = Unit {0}
  HelpersPlaced (f ∷ fs) = HelperPlaced f × HelpersPlaced fs

  helper_parts_placed : (f : Helper) → Q f.at → ParamsPlaced f.params → AllPlaced f.body → ExprPlaced f.value → HelperPlaced f
  helper_parts_placed f name params body value = (
    λ names. both (unless_placed (is_new_in names f.name) rule.Redeclared f.at name)
        (both (block_faults_placed ([] ∷ names) f.params f.body (Some f.result) params body) (value.0 (sorts_at_end ([] ∷ names) f.params f.body))),
    both (stmts_placed f.body body).1 (value.1 true),
  )

  helper_placed : (ts : List Token) (f : Helper) → DerivesHelper ts f → Laid Q ts → HelperPlaced f
  helper_placed ts f (DerivesHelper.helper rs ps us ws x i s a z b r e y t params body v result parameters scalars items plain value) h =
      let block : List Token = block_tokens b us r ws e y in
      let last : List Token = keyed key.Return r ∷ (ws ++ marked mark.Semicolon e ∷ []) in
      let name : Laid Q (named x s ∷ (between mark.Open a ps mark.Close z ++ block)) =
      back rs (named x s ∷ (between mark.Open a ps mark.Close z ++ block)) (rest (keyed key.Static i) (rs ++ named x s ∷ (between mark.Open a ps mark.Close z ++ block)) h) in
      let behind : Laid Q (between mark.Open a ps mark.Close z ++ block) = rest (named x s) (between mark.Open a ps mark.Close z ++ block) name in
      let held : Laid Q (us ++ last) = inside mark.OpenBrace mark.CloseBrace b y (us ++ last) (back (between mark.Open a ps mark.Close z) block behind) in
      helper_parts_placed f name.laid.2.0 (params_placed ps params parameters (inside mark.Open mark.Close a z ps (front (between mark.Open a ps mark.Close z) block behind)))
      (items_placed us body items (front us last held))
      (expr_placed 0 ws v value (front ws (marked mark.Semicolon e ∷ []) (rest (keyed key.Return r) (ws ++ marked mark.Semicolon e ∷ []) (back us last held))))

  helpers_placed : (ts : List Token) (fs : List Helper) → DerivesHelpers ts fs → Laid Q ts → HelpersPlaced fs
  helpers_placed ts fs DerivesHelpers.no_more h = tt
  helpers_placed ts fs (DerivesHelpers.one_more us ws f more d ds) h = (helper_placed us f d (front us ws h), helpers_placed ws more ds (back us ws h))

  helpers_faults_placed : (fs : List Helper) → HelpersPlaced fs → ((names : Sorts) → ArePlaced (helpers_faults names fs)) × ArePlaced (helpers_places fs)
  helpers_faults_placed [] h = (λ names. nothing, nothing)
  helpers_faults_placed (f ∷ fs) h =
      let more = helpers_faults_placed fs h.1 in
      (λ names. both (h.0.0 names) (more.0 (sorts_after_helper names f)), both h.0.1 more.1)

  -- ---- kernels and programs

  abbrev KernelPlaced : Tree → Type 0
  KernelPlaced tree = ((names : Sorts) → ArePlaced (kernel_faults names tree)) × ArePlaced (stmts_places tree.body)

  kernel_placed : (ts : List Token) (tree : Tree) → Derives ts tree → Laid Q ts → KernelPlaced tree
  kernel_placed ts tree (Derives.kernel rs ps us x s a z b e r params body result parameters items) h =
      let head : List Token = between mark.Open a ps mark.Close z in
      let block : List Token = between mark.OpenBrace b us mark.CloseBrace e in
      let name : Laid Q (named x s ∷ (head ++ block)) = back rs (named x s ∷ (head ++ block)) h in
      let behind : Laid Q (head ++ block) = rest (named x s) (head ++ block) name in
      let all_params = params_placed ps params parameters (inside mark.Open mark.Close a z ps (front head block behind)) in
      let all_items = items_placed us body items (inside mark.OpenBrace mark.CloseBrace b e us (back head block behind)) in (
        λ names. both (unless_placed (is_new_in names x) rule.Redeclared s name.laid.2.0)
            (block_faults_placed ([] ∷ names) params body r all_params all_items),
        (stmts_placed body all_items).1,
      )

  pub program_placed : (ts : List Token) (p : Program) → DerivesProgram ts p → Laid Q ts → ArePlaced (program_faults p)
  program_placed ts p (DerivesProgram.program us ws fs tree ds d) h =
      let helpers = helpers_placed us fs ds (front us ws h) in
      let kernel = kernel_placed ws tree d (back us ws h) in
      let placed = helpers_faults_placed fs helpers in
      both (both (placed.0 ([] ∷ [])) (kernel.0 (sorts_after_helpers ([] ∷ []) fs))) (both placed.1 kernel.1)
