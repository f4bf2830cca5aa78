-- The tree without calls of a lawful program is lawful: its statements, the block of each call, and each of its variables is used.
use Rattle.std.proofs.Common.{◌≡◌, ℕ, ◌+◌, List, [], ◌∷◌, ◌++◌, length, Option, Some, None, refl, sym, ◌∙◌, subst, arith, ◌⊎◌, inl, inr, append-nil, append_assoc}
use Rattle.std.specs.Prelude.{Bool, true, false, All, Contains, IsTrue}
use Rattle.std.proofs.lemmas.List.{length-append}
use Rattle.std.proofs.lemmas.List.Elements.{All-nil, All-cons, All-head, All-tail, All-append, Contains-append_left, Contains-append_right, Contains-append_cases}
use mathlib.Core.Former.{Count}
use Rattle.el_base.specs.declared.span.Span.{Span}
use Rattle.el_base.specs.declared.ty.Ty.{Ty}
use Rattle.c_ast.specs.Casts.{act_at}
use Rattle.c_ast.specs.declared.typed.Object.{Object}
use Rattle.c_ast.specs.declared.typed.Object.TheVariants as object
use Rattle.c_ast.specs.declared.typed.TypedStmt.{TypedStmt}
use Rattle.c_ast.specs.declared.typed.TypedStmtKind.{TypedStmtKind}
use Rattle.c_ast.specs.declared.typed.TypedStmtKind.TheVariants as stmt
use Rattle.c_ast.specs.declared.program.ProgExpr.{ProgExpr}
use Rattle.c_ast.specs.declared.program.ProgTarget.{ProgTarget}
use Rattle.c_ast.specs.declared.program.ProgStmt.{ProgStmt}
use Rattle.c_ast.specs.declared.program.ProgStmtKind.{ProgStmtKind, Row_of-ProgStmt, end_of-ProgStmt, more_of-ProgStmt, Held-ProgStmtKind-If-2}
use Rattle.c_ast.specs.declared.program.ProgStmtKind as act
use Rattle.c_meaning.specs.Stores.{Objects}
use Rattle.c_meaning.specs.Lawful.{LawfulExpr, IsObject, LawfulTarget, LawfulDeclaration, LawfulOption, LawfulReturn, object_vars, LawfulStmt, stmt_vars_of, all_vars}
use Rattle.c_meaning.specs.PartLaws.{IfAny, LawfulAt, vars_if_any}
use Rattle.c_meaning.proofs.PartsOfLawful.{stmt_block, stmt_declaration, stmt_assignment, stmt_stepping, stmt_choice, stmt_while_loop, stmt_do_loop, stmt_for_loop, stmt_leaving, stmt_continuing, stmt_returning, stmt_empty}
use Rattle.c_meaning.proofs.PartsOfNumbers.{vars_block, vars_declaration, vars_assignment, vars_stepping, vars_choice, vars_while_loop, vars_do_loop, vars_for_loop}
use Rattle.c_meaning.proofs.StoreParts.{Sets, sets_none, sets_to}
use Rattle.c_calls.specs.Inlined.{OutStmt, OutStmts, OutHeld, Writing, inline_of, rest_of, inline_all, inline_option, behind, moved, target_to, inline_stmt, inline_held, inline_stmts, inline_list}
use Rattle.c_calls.specs.Lawful.{Signature, LawfulCallExpr, IfAnyExpr, LawfulCallTarget, LawfulCallDeclaration, LawfulCallReturn, LawfulCallStmt, LawfulCallHeld, LawfulCallStmts, object_vars as prog_object_vars, prog_vars_of, prog_vars_held, prog_vars_row, all_prog_vars}
use Rattle.c_calls.proofs.Lists.{no_member, here, member_cases}
use Rattle.c_calls.proofs.Blocks.{Seg}
use Rattle.c_calls.proofs.ExprTrees.{seg_first, seg_rest}
use Rattle.c_calls.proofs.LawfulBlocks.{sets_both, sets_same, blocks_both, all_long, makes_none, Settles, behind_lawful, behind_vars, Within, expr_out, all_out, option_out}

-- the variables of a list, moved by b, are in another
abbrev pub Moves : ℕ → List ℕ → List ℕ → Type 0
Moves b xs ys = (v : ℕ) → Contains xs v → Contains ys (b + v)

moves_none : (b : ℕ) (ys : List ℕ) → Moves b [] ys
moves_none b ys v c = no_member v c

moves_one : (b v : ℕ) → Moves b (v ∷ []) ((b + v) ∷ [])
moves_one b v u c = by_cases (member_cases v [] u c)
  where
    by_cases : (u ≡ v) ⊎ Contains [] u → Contains ((b + v) ∷ []) (b + u)
    by_cases (inl e) = subst (λ z. Contains ((b + v) ∷ []) (b + z)) (sym e) (here (b + v) [])
    by_cases (inr d) = no_member u d

pub moves_both : (b : ℕ) (xs ys zs ws : List ℕ) → Moves b xs zs → Moves b ys ws → Moves b (xs ++ ys) (zs ++ ws)
moves_both b xs ys zs ws m n v c = by_cases (Contains-append_cases xs ys v c)
  where
    by_cases : Contains xs v ⊎ Contains ys v → Contains (zs ++ ws) (b + v)
    by_cases (inl d) = Contains-append_left zs ws (b + v) (m v d)
    by_cases (inr d) = Contains-append_right zs ws (b + v) (n v d)

moves_right : (b : ℕ) (xs ys zs : List ℕ) → Moves b xs zs → Moves b xs (ys ++ zs)
moves_right b xs ys zs m v c = Contains-append_right ys zs (b + v) (m v c)

pub moves_same : (b : ℕ) (xs ys zs : List ℕ) → zs ≡ ys → Moves b xs ys → Moves b xs zs
moves_same b xs ys zs e m v c = subst (λ l. Contains l (b + v)) (sym e) (m v c)

moves_object : (b : ℕ) (to : Object) → Moves b (prog_object_vars to) (object_vars (moved b to))
moves_object b (object.Var v) = moves_one b v
moves_object b (object.Array a) = moves_none b []

-- a helper's statements may stand in a kernel of any result, since they return nothing
abbrev pub IsWithin : Option (Option Ty) → Option Ty → Type 0
IsWithin None R = Unit {0}
IsWithin (Some r) R = r ≡ R

-- what stands in a loop stays in one
abbrev pub InLoop : Bool → Bool → Type 0
InLoop a b = IsTrue a → IsTrue b

module _ (k K : Objects) (b : ℕ) (hs : List Signature) (ws : List Writing) (w : Within k K b hs ws) (r : Option (Option Ty)) (R : Option Ty) (result : IsWithin r R) where
  -- what is made of a statement that declares or assigns these, in a loop or not
  record LawfulOutStmt (f : ℕ) (used : List ℕ) (loop : Bool) (o : OutStmt) : Type 0 where
    lawful : LawfulStmt K R loop o.kind
    sets : Sets f (f + length o.types) (stmt_vars_of o.kind)
    moves : Moves b used (stmt_vars_of o.kind)

  record LawfulOutHeld (f : ℕ) (used : List ℕ) (loop : Bool) (o : OutHeld) : Type 0 where
    lawful : IfAny (LawfulAt K R loop) o.stmt
    sets : Sets f (f + length o.types) (vars_if_any o.stmt)
    moves : Moves b used (vars_if_any o.stmt)

  pub record LawfulOutStmts (f : ℕ) (used : List ℕ) (loop : Bool) (o : OutStmts) : Type 0 where
    pub lawful : All (LawfulAt K R loop) o.stmts
    pub sets : Sets f (f + length o.types) (all_vars o.stmts)
    pub moves : Moves b used (all_vars o.stmts)

  -- ---- parts

  object_moved : (to : Object) (n : ℕ) (t : Ty) → IsObject k to n t → IsObject K (moved b to) n t
  object_moved (object.Var v) n t h = (w.own_var v t h.0, h.1)
  object_moved (object.Array a) n t h = w.own_element a n t h

  target_out : (f : ℕ) (target : ProgTarget) (t : Ty) → All (LawfulExpr K) (inline_all ws b f target.indices).exprs → LawfulCallTarget k hs target t → LawfulTarget K (LawfulExpr K) (target_to b target (inline_all ws b f target.indices).exprs) t
  target_out f target t h l = (subst (λ n. IsObject K (moved b target.to) n t) (sym (all_long ws b f target.indices)) (object_moved target.to (length target.indices) t l.0), h)

  init_of : (v : ℕ) (init : Option ProgExpr) → LawfulCallDeclaration k hs v init → IfAnyExpr (LawfulCallExpr k hs true) init
  init_of v None l = tt
  init_of v (Some e) l = l.1

  declaration_out : (f v : ℕ) (init : Option ProgExpr) → LawfulOption (LawfulExpr K) (inline_option ws b f init).expr → LawfulCallDeclaration k hs v init → LawfulDeclaration K (LawfulExpr K) (b + v) (inline_option ws b f init).expr
  declaration_out f v None h l = (l.0, w.own_var v l.0 l.1)
  declaration_out f v (Some e) h l = (w.own_var v e.ty l.0, h)

  returned_of : (q : Option (Option Ty)) (e : Option ProgExpr) → LawfulCallReturn (LawfulCallExpr k hs true) q e → IfAnyExpr (LawfulCallExpr k hs true) e
  returned_of None e l = absurd l
  returned_of (Some None) None l = tt
  returned_of (Some (Some t)) (Some e) l = l.1
  returned_of (Some None) (Some e) l = absurd l
  returned_of (Some (Some t)) None l = absurd l

  return_out : (f : ℕ) (q : Option (Option Ty)) → IsWithin q R → (e : Option ProgExpr) → LawfulOption (LawfulExpr K) (inline_option ws b f e).expr → LawfulCallReturn (LawfulCallExpr k hs true) q e → LawfulReturn (LawfulExpr K) R (inline_option ws b f e).expr
  return_out f None i e h l = absurd l
  return_out f (Some x) i e h l = subst (λ y. LawfulReturn (LawfulExpr K) y (inline_option ws b f e).expr) i (at x e h l)
    where
      at : (x : Option Ty) (e : Option ProgExpr) → LawfulOption (LawfulExpr K) (inline_option ws b f e).expr → LawfulCallReturn (LawfulCallExpr k hs true) (Some x) e → LawfulReturn (LawfulExpr K) x (inline_option ws b f e).expr
      at None None h l = tt
      at (Some t) (Some e) h l = (l.0, h)
      at None (Some e) h l = absurd l
      at (Some t) None h l = absurd l

  option_makes_none : (f : ℕ) (o : Option ProgExpr) → IfAnyExpr (LawfulCallExpr k hs false) o → length (inline_option ws b f o).types ≡ 0
  option_makes_none f None l = refl
  option_makes_none f (Some e) l = makes_none k hs ws b f e.kind e.ty e.at l

  -- a statement behind the blocks of its calls, whose own variables follow those of the blocks
  behind_out : (f : ℕ) (used : List ℕ) (loop : Bool) (before : List TypedStmt) (kind : TypedStmtKind) (s : Span) (ts us : List Ty) → All (Settles K) before → Sets f (f + length ts) (all_vars before) → LawfulStmt K R loop kind → Sets (f + length ts) (f + length ts + length us) (stmt_vars_of kind) → Moves b used (stmt_vars_of kind)
      → LawfulOutStmt f used loop (record { kind = behind before kind s; types = ts ++ us })
  behind_out f used loop before kind s ts us settles sets lawful own m = record {
    lawful = behind_lawful K before kind s R loop settles lawful;
    sets = sets_same f (f + length (ts ++ us)) (all_vars before ++ stmt_vars_of kind) (stmt_vars_of (behind before kind s)) (behind_vars before kind s) (sets_both f ts us (all_vars before) (stmt_vars_of kind) sets own);
    moves = moves_same b used (all_vars before ++ stmt_vars_of kind) (stmt_vars_of (behind before kind s)) (behind_vars before kind s) (moves_right b used (all_vars before) (stmt_vars_of kind) m);
  }

  -- the same of a statement that makes no variable but in its blocks
  alone_out : (f : ℕ) (used : List ℕ) (loop : Bool) (before : List TypedStmt) (kind : TypedStmtKind) (s : Span) (ts : List Ty) → All (Settles K) before → Sets f (f + length ts) (all_vars before) → LawfulStmt K R loop kind → Moves b used (stmt_vars_of kind)
      → LawfulOutStmt f used loop (record { kind = behind before kind s; types = ts })
  alone_out f used loop before kind s ts settles sets lawful m =
      subst (λ us. LawfulOutStmt f used loop (record { kind = behind before kind s; types = us })) (append-nil ts)
      (behind_out f used loop before kind s ts [] settles sets lawful (sets_none (f + length ts) (f + length ts + 0) (stmt_vars_of kind) (omega arith)) m)

  plain_out : (f : ℕ) (loop : Bool) (kind : TypedStmtKind) → LawfulStmt K R loop kind → LawfulOutStmt f [] loop (record { kind = kind; types = [] })
  plain_out f loop kind l = record { lawful = l; sets = sets_none f (f + 0) (stmt_vars_of kind) (omega arith); moves = moves_none b (stmt_vars_of kind) }

  -- ---- statements

  mutual
    stmt_out : (f : ℕ) (a : ProgStmtKind) (s : Span) (loop inside : Bool) → InLoop loop inside → Seg K.vars f (inline_stmt ws b f a s).types → LawfulCallStmt k hs r loop a → LawfulOutStmt f (prog_vars_of a) inside (inline_stmt ws b f a s)
    stmt_out f (act.Block' n row) s loop inside in_loop seg l =
        let i = inline_stmts ws b f row in
        let o = row_out f row loop inside in_loop seg l in
        record {
          lawful = (stmt_block i.stmts K R inside).1 o.lawful;
          sets = sets_same f (f + length i.types) (all_vars i.stmts) (stmt_vars_of (stmt.Block i.stmts)) (vars_block i.stmts) o.sets;
          moves = moves_same b (prog_vars_row row) (all_vars i.stmts) (stmt_vars_of (stmt.Block i.stmts)) (vars_block i.stmts) o.moves;
        }
    stmt_out f (act.Declare v init) s loop inside in_loop seg l =
        let i = inline_option ws b f init in
        let o = option_out k K b hs ws w true f init seg (init_of v init l) in
        alone_out f (v ∷ []) inside i.before (stmt.Declare (b + v) i.expr) s i.types o.settles o.sets ((stmt_declaration (b + v) i.expr K R inside).1 (declaration_out f v init o.lawful l))
        (moves_same b (v ∷ []) ((b + v) ∷ []) (stmt_vars_of (stmt.Declare (b + v) i.expr)) (vars_declaration (b + v) i.expr) (moves_one b v))
    stmt_out f (act.Assign target op e) s loop inside in_loop seg l =
        let i = inline_all ws b f target.indices in
        let g = f + length i.types in
        let j = inline_of ws b g e in
        let to = target_to b target i.exprs in
        let kind = stmt.Assign to op (rest_of j e) in
        let o = all_out k K b hs ws w true f target.indices (seg_first K.vars f i.types j.types seg) l.1.1 in
        let o2 = expr_out k K b hs ws w true g e.kind e.ty e.at (seg_rest K.vars f i.types j.types seg) l.3 in
        alone_out f (prog_object_vars target.to) inside (i.before ++ j.before) kind s (i.types ++ j.types) (All-append (Settles K) i.before j.before o.settles o2.settles)
        (blocks_both f i.types j.types i.before j.before o.sets o2.sets)
        ((stmt_assignment to op (rest_of j e) K R inside).1 (l.0, target_out f target l.0 o.lawful l.1, l.2, o2.lawful))
        (moves_same b (prog_object_vars target.to) (object_vars (moved b target.to)) (stmt_vars_of kind) (vars_assignment to op (rest_of j e)) (moves_object b target.to))
    stmt_out f (act.Step target up) s loop inside in_loop seg l =
        let i = inline_all ws b f target.indices in
        let to = target_to b target i.exprs in
        let o = all_out k K b hs ws w true f target.indices seg l.1.1 in
        alone_out f (prog_object_vars target.to) inside i.before (stmt.Step to up) s i.types o.settles o.sets ((stmt_stepping to up K R inside).1 (l.0, target_out f target l.0 o.lawful l.1))
        (moves_same b (prog_object_vars target.to) (object_vars (moved b target.to)) (stmt_vars_of (stmt.Step to up)) (vars_stepping to up) (moves_object b target.to))
    stmt_out f (act.If' cond x (more_of-ProgStmt a at end_of-ProgStmt) held) s loop inside in_loop seg l =
        let c = inline_of ws b f cond in
        let g = f + length c.types in
        let y = inline_stmt ws b g a at in
        let h = g + length y.types in
        let z = inline_held ws b h held in
        let rest = seg_rest K.vars f c.types (y.types ++ z.types) seg in
        let o = expr_out k K b hs ws w true f cond.kind cond.ty cond.at (seg_first K.vars f c.types (y.types ++ z.types) seg) l.0 in
        let o2 = stmt_out g a at loop inside in_loop (seg_first K.vars g y.types z.types rest) l.1 in
        let o3 = held_out h held loop inside in_loop (seg_rest K.vars g y.types z.types rest) l.2 in
        let yes = act_at y.kind at in
        let kind = stmt.If (rest_of c cond) yes z.stmt in
        let vars = vars_choice (rest_of c cond) yes z.stmt in
        let size = length-append y.types z.types in
        behind_out f (prog_vars_of a ++ prog_vars_held held) inside c.before kind s c.types (y.types ++ z.types) o.settles o.sets ((stmt_choice (rest_of c cond) yes z.stmt K R inside).1 (o.lawful, o2.lawful, o3.lawful))
        (sets_same g (g + length (y.types ++ z.types)) (stmt_vars_of y.kind ++ vars_if_any z.stmt) (stmt_vars_of kind) vars (sets_both g y.types z.types (stmt_vars_of y.kind) (vars_if_any z.stmt) o2.sets o3.sets))
        (moves_same b (prog_vars_of a ++ prog_vars_held held) (stmt_vars_of y.kind ++ vars_if_any z.stmt) (stmt_vars_of kind) vars (moves_both b (prog_vars_of a) (prog_vars_held held) (stmt_vars_of y.kind) (vars_if_any z.stmt) o2.moves o3.moves))
    stmt_out f (act.While' cond x (more_of-ProgStmt a at end_of-ProgStmt)) s loop inside in_loop seg l =
        let c = inline_of ws b f cond in
        let g = f + length c.types in
        let y = inline_stmt ws b g a at in
        let o = expr_out k K b hs ws w false f cond.kind cond.ty cond.at (seg_first K.vars f c.types y.types seg) l.0 in
        let o2 = stmt_out g a at true true (λ z. z) (seg_rest K.vars f c.types y.types seg) l.1 in
        let body = act_at y.kind at in
        let kind = stmt.While (rest_of c cond) body in
        let vars = vars_while_loop (rest_of c cond) body in
        record {
          lawful = (stmt_while_loop (rest_of c cond) body K R inside).1 (o.lawful, o2.lawful);
          sets = sets_same f (f + length (c.types ++ y.types)) (stmt_vars_of y.kind) (stmt_vars_of kind) vars (sets_both f c.types y.types [] (stmt_vars_of y.kind) (sets_none f g [] (omega (arith, makes_none k hs ws b f cond.kind cond.ty cond.at l.0))) o2.sets);
          moves = moves_same b (prog_vars_of a) (stmt_vars_of y.kind) (stmt_vars_of kind) vars o2.moves;
        }
    stmt_out f (act.DoWhile' x (more_of-ProgStmt a at end_of-ProgStmt) cond) s loop inside in_loop seg l =
        let y = inline_stmt ws b f a at in
        let g = f + length y.types in
        let c = inline_of ws b g cond in
        let o = stmt_out f a at true true (λ z. z) (seg_first K.vars f y.types c.types seg) l.0 in
        let o2 = expr_out k K b hs ws w false g cond.kind cond.ty cond.at (seg_rest K.vars f y.types c.types seg) l.1 in
        let body = act_at y.kind at in
        let kind = stmt.DoWhile body (rest_of c cond) in
        let vars = vars_do_loop body (rest_of c cond) in
        record {
          lawful = (stmt_do_loop body (rest_of c cond) K R inside).1 (o.lawful, o2.lawful);
          sets = sets_same f (f + length (y.types ++ c.types)) (stmt_vars_of y.kind) (stmt_vars_of kind) vars (sets_to f g (f + length (y.types ++ c.types)) (stmt_vars_of y.kind) (omega (arith, makes_none k hs ws b g cond.kind cond.ty cond.at l.1, length-append y.types c.types)) o.sets);
          moves = moves_same b (prog_vars_of a) (stmt_vars_of y.kind) (stmt_vars_of kind) vars o.moves;
        }
    stmt_out f (act.For' n first cond held x (more_of-ProgStmt a at end_of-ProgStmt)) s loop inside in_loop seg l =
        let i = inline_stmts ws b f first in
        let g = f + length i.types in
        let c = inline_option ws b g cond in
        let h = g + length c.types in
        let z = inline_held ws b h held in
        let j = h + length z.types in
        let y = inline_stmt ws b j a at in
        let none = option_makes_none g cond l.1 in
        let seg2 = seg_rest K.vars f i.types (c.types ++ (z.types ++ y.types)) seg in
        let seg3 = seg_rest K.vars g c.types (z.types ++ y.types) seg2 in
        let o = row_out f first false false (λ q. q) (seg_first K.vars f i.types (c.types ++ (z.types ++ y.types)) seg) l.0 in
        let o2 = option_out k K b hs ws w false g cond (seg_first K.vars g c.types (z.types ++ y.types) seg2) l.1 in
        let o3 = held_out h held false false (λ q. q) (seg_first K.vars h z.types y.types seg3) l.2 in
        let o4 = stmt_out j a at true true (λ q. q) (seg_rest K.vars h z.types y.types seg3) l.3 in
        let body = act_at y.kind at in
        let kind = stmt.For i.stmts c.expr z.stmt body in
        let vars = vars_for_loop i.stmts c.expr z.stmt body in
        let own = vars_if_any z.stmt ++ stmt_vars_of y.kind in
        let size = length-append z.types y.types in
        let size2 = length-append c.types (z.types ++ y.types) in
        let last = sets_both h z.types y.types (vars_if_any z.stmt) (stmt_vars_of y.kind) o3.sets o4.sets in
        let more = sets_both g c.types (z.types ++ y.types) [] own (sets_none g h [] (omega arith)) last in
        record {
          lawful = (stmt_for_loop i.stmts c.expr z.stmt body K R inside).1 (o.lawful, o2.lawful, o3.lawful, o4.lawful);
          sets = sets_same f (f + length (i.types ++ (c.types ++ (z.types ++ y.types)))) (all_vars i.stmts ++ own) (stmt_vars_of kind) (vars ∙ append_assoc (all_vars i.stmts) (vars_if_any z.stmt) (stmt_vars_of y.kind)) (sets_both f i.types (c.types ++ (z.types ++ y.types)) (all_vars i.stmts) own o.sets more);
          moves = moves_same b (prog_vars_row first ++ prog_vars_held held ++ prog_vars_of a) (all_vars i.stmts ++ vars_if_any z.stmt ++ stmt_vars_of y.kind) (stmt_vars_of kind) vars
              (moves_both b (prog_vars_row first ++ prog_vars_held held) (prog_vars_of a) (all_vars i.stmts ++ vars_if_any z.stmt) (stmt_vars_of y.kind) (moves_both b (prog_vars_row first) (prog_vars_held held) (all_vars i.stmts) (vars_if_any z.stmt) o.moves o3.moves) o4.moves);
        }
    stmt_out f act.Break s loop inside in_loop seg l = plain_out f inside stmt.Break ((stmt_leaving K R inside).1 (in_loop l))
    stmt_out f act.Continue s loop inside in_loop seg l = plain_out f inside stmt.Continue ((stmt_continuing K R inside).1 (in_loop l))
    stmt_out f (act.Return e) s loop inside in_loop seg l =
        let i = inline_option ws b f e in
        let o = option_out k K b hs ws w true f e seg (returned_of r e l) in
        alone_out f [] inside i.before (stmt.Return i.expr) s i.types o.settles o.sets ((stmt_returning i.expr K R inside).1 (return_out f r result e o.lawful l)) (moves_none b (stmt_vars_of (stmt.Return i.expr)))
    stmt_out f act.Empty s loop inside in_loop seg l = plain_out f inside stmt.Empty ((stmt_empty K R inside).1 tt)

    held_out : (f : ℕ) (o : Held-ProgStmtKind-If-2) (loop inside : Bool) → InLoop loop inside → Seg K.vars f (inline_held ws b f o).types → LawfulCallHeld k hs r loop o → LawfulOutHeld f (prog_vars_held o) inside (inline_held ws b f o)
    held_out f act.None' loop inside in_loop seg l = record { lawful = tt; sets = sets_none f (f + 0) [] (omega arith); moves = moves_none b [] }
    held_out f (act.Some' x (more_of-ProgStmt a at end_of-ProgStmt)) loop inside in_loop seg l = let o = stmt_out f a at loop inside in_loop seg l in record { lawful = o.lawful; sets = o.sets; moves = o.moves }

    row_out : (f : ℕ) {n : Count} (row : Row_of-ProgStmt n) (loop inside : Bool) → InLoop loop inside → Seg K.vars f (inline_stmts ws b f row).types → LawfulCallStmts k hs r loop row → LawfulOutStmts f (prog_vars_row row) inside (inline_stmts ws b f row)
    row_out f end_of-ProgStmt loop inside in_loop seg l = record { lawful = All-nil (LawfulAt K R inside); sets = sets_none f (f + 0) [] (omega arith); moves = moves_none b [] }
    row_out f (more_of-ProgStmt a at row) loop inside in_loop seg l =
        let y = inline_stmt ws b f a at in
        let g = f + length y.types in
        let i = inline_stmts ws b g row in
        let o = stmt_out f a at loop inside in_loop (seg_first K.vars f y.types i.types seg) l.0 in
        let o2 = row_out g row loop inside in_loop (seg_rest K.vars f y.types i.types seg) l.1 in
        record {
          lawful = All-cons (LawfulAt K R inside) (act_at y.kind at) i.stmts o.lawful o2.lawful;
          sets = sets_both f y.types i.types (stmt_vars_of y.kind) (all_vars i.stmts) o.sets o2.sets;
          moves = moves_both b (prog_vars_of a) (prog_vars_row row) (stmt_vars_of y.kind) (all_vars i.stmts) o.moves o2.moves;
        }

  pub list_out : (f : ℕ) (ss : List ProgStmt) (loop inside : Bool) → InLoop loop inside → Seg K.vars f (inline_list ws b f ss).types → All (λ s. LawfulCallStmt k hs r loop s.kind) ss → LawfulOutStmts f (all_prog_vars ss) inside (inline_list ws b f ss)
  list_out f [] loop inside in_loop seg l = record { lawful = All-nil (LawfulAt K R inside); sets = sets_none f (f + 0) [] (omega arith); moves = moves_none b [] }
  list_out f (a ∷ rest) loop inside in_loop seg l =
      let y = inline_stmt ws b f a.kind a.at in
      let g = f + length y.types in
      let i = inline_list ws b g rest in
      let P : ProgStmt → Type 0 = λ s. LawfulCallStmt k hs r loop s.kind in
      let o = stmt_out f a.kind a.at loop inside in_loop (seg_first K.vars f y.types i.types seg) (All-head P a rest l) in
      let o2 = list_out g rest loop inside in_loop (seg_rest K.vars f y.types i.types seg) (All-tail P a rest l) in
      record {
        lawful = All-cons (LawfulAt K R inside) (act_at y.kind a.at) i.stmts o.lawful o2.lawful;
        sets = sets_both f y.types i.types (stmt_vars_of y.kind) (all_vars i.stmts) o.sets o2.sets;
        moves = moves_both b (prog_vars_of a.kind) (all_prog_vars rest) (stmt_vars_of y.kind) (all_vars i.stmts) o.moves o2.moves;
      }
