-- What is made of a lawful expression is lawful: the blocks of its calls and what is left of it; and each variable that is made is declared or assigned in the blocks.
use Rattle.std.proofs.Common.{◌≡◌, ℕ, ◌+◌, List, [], ◌∷◌, ◌++◌, length, map, Option, Some, None, refl, sym, ◌∙◌, ap, subst, arith, append-nil, append_assoc}
use Rattle.std.specs.Prelude.{Bool, true, false, All, Contains, slice_get}
use Rattle.std.proofs.lemmas.Bool.{false≢true}
use Rattle.std.proofs.lemmas.List.{length-append}
use Rattle.std.proofs.lemmas.List.Elements.{All-nil, All-cons, All-head, All-tail, All-append, All-weaker}
use mathlib.Core.Former.{Count}
use Rattle.el_base.specs.declared.span.Span.{Span}
use Rattle.el_base.specs.declared.ty.Ty.{Ty}
use Rattle.c_ast.specs.Casts.{of_type, act_at}
use Rattle.c_ast.specs.declared.tree.Binary.{Binary}
use Rattle.c_ast.specs.declared.typed.TypedExpr.{TypedExpr}
use Rattle.c_ast.specs.declared.typed.TypedStmt.{TypedStmt}
use Rattle.c_ast.specs.declared.typed.TypedStmtKind.{TypedStmtKind}
use Rattle.c_ast.specs.declared.program.ProgExpr.{ProgExpr}
use Rattle.c_ast.specs.declared.program.ProgExprKind.{ProgExprKind, Row_of-ProgExpr, end_of-ProgExpr, more_of-ProgExpr}
use Rattle.c_ast.specs.declared.program.ProgExprKind as tree
use Rattle.c_meaning.specs.Stores.{Objects}
use Rattle.c_meaning.specs.Lawful.{IsElement, IsVar, is_implied as is_implied_typed, both_or_either, LawfulKind, LawfulExpr, LawfulOption, LawfulStmt, stmt_vars_of, all_vars}
use Rattle.c_meaning.specs.PartLaws.{LawfulAt}
use Rattle.c_meaning.proofs.PartsOfLawful.{lawful_number, lawful_variable, lawful_element, lawful_unary, lawful_cast, lawful_binary, lawful_choice, stmt_block}
use Rattle.c_meaning.proofs.PartsOfNumbers.{vars_block}
use Rattle.c_meaning.proofs.StoreParts.{Sets, sets_none, sets_then, sets_to}
use Rattle.c_calls.specs.Inlined.{Out, Outs, OutOption, Written, Writing, written_by, inline_expr, inline_row, inline_of, rest_of, inline_all, inline_option, behind}
use Rattle.c_calls.specs.Lawful.{is_implied, row_length, row_types, Signature, may_where, may_right, LawfulCallKind, LawfulCallRow, LawfulCallExpr, IfAnyExpr}
use Rattle.c_calls.proofs.Blocks.{Seg}
use Rattle.c_calls.proofs.ExprTrees.{seg_first, seg_rest}
use Rattle.c_meaning.proofs.TreeRows.{typed_expr_rows}

-- ---- lists of variables

-- of types one list after the other
pub sets_both : (f : ℕ) (ts us : List Ty) (xs ys : List ℕ) → Sets f (f + length ts) xs → Sets (f + length ts) (f + length ts + length us) ys → Sets f (f + length (ts ++ us)) (xs ++ ys)
sets_both f ts us xs ys s t =
    sets_to f (f + length ts + length us) (f + length (ts ++ us)) (xs ++ ys) (omega (arith, length-append ts us)) (sets_then f (f + length ts) (f + length ts + length us) xs ys s t)

pub sets_same : (f g : ℕ) (xs ys : List ℕ) → ys ≡ xs → Sets f g xs → Sets f g ys
sets_same f g xs ys e s v a b = subst (λ zs. Contains zs v) (sym e) (s v a b)

pub vars_append : (xs ys : List TypedStmt) → all_vars (xs ++ ys) ≡ all_vars xs ++ all_vars ys
vars_append [] ys = refl
vars_append (x ∷ xs) ys = ap (λ l. stmt_vars_of x.kind ++ l) (vars_append xs ys) ∙ sym (append_assoc (stmt_vars_of x.kind) (all_vars xs) (all_vars ys))

-- the variables of blocks, one list after the other
pub blocks_both : (f : ℕ) (ts us : List Ty) (xs ys : List TypedStmt) → Sets f (f + length ts) (all_vars xs) → Sets (f + length ts) (f + length ts + length us) (all_vars ys) → Sets f (f + length (ts ++ us)) (all_vars (xs ++ ys))
blocks_both f ts us xs ys s t = sets_same f (f + length (ts ++ us)) (all_vars xs ++ all_vars ys) (all_vars (xs ++ ys)) (vars_append xs ys) (sets_both f ts us (all_vars xs) (all_vars ys) s t)

-- ---- implied casts

implied_same : (ws : List Writing) (b f : ℕ) (e : ProgExprKind) (s : Span) → is_implied_typed (inline_expr ws b f e s).kind ≡ is_implied e
unfolding typed_expr_rows
implied_same ws b f (tree.Unary' op x (more_of-ProgExpr e t at end_of-ProgExpr)) s = refl
implied_same ws b f (tree.Cast' implied x (more_of-ProgExpr e t at end_of-ProgExpr)) s = refl
implied_same ws b f (tree.Binary' op x (more_of-ProgExpr e t at end_of-ProgExpr) x2 (more_of-ProgExpr e2 t2 at2 end_of-ProgExpr)) s = refl
implied_same ws b f (tree.Choose' x (more_of-ProgExpr e t at end_of-ProgExpr) x2 (more_of-ProgExpr e2 t2 at2 end_of-ProgExpr) x3 (more_of-ProgExpr e3 t3 at3 end_of-ProgExpr)) s = refl
implied_same ws b f e s = refl

-- ---- where no call stands, no variable is made

never : (op : Binary) → may_right false op ≡ false
never op = never_at (both_or_either op)
  where
    never_at : (z : Bool) → may_where z false ≡ false
    never_at true = refl
    never_at false = refl

mutual
  pub makes_none : (k : Objects) (hs : List Signature) (ws : List Writing) (b f : ℕ) (e : ProgExprKind) (ty : Ty) (s : Span) → LawfulCallKind k hs false e ty → length (inline_expr ws b f e s).types ≡ 0
  makes_none k hs ws b f (tree.Number n) ty s l = refl
  makes_none k hs ws b f (tree.Var v) ty s l = refl
  makes_none k hs ws b f (tree.Element' a n row) ty s l = row_makes_none k hs ws b f row l.1
  makes_none k hs ws b f (tree.Unary' op x (more_of-ProgExpr e t at end_of-ProgExpr)) ty s l = makes_none k hs ws b f e t at l.2
  makes_none k hs ws b f (tree.Cast' implied x (more_of-ProgExpr e t at end_of-ProgExpr)) ty s l = makes_none k hs ws b f e t at l.1
  makes_none k hs ws b f (tree.Binary' op x (more_of-ProgExpr e t at end_of-ProgExpr) x2 (more_of-ProgExpr e2 t2 at2 end_of-ProgExpr)) ty s l =
      let o = inline_expr ws b f e at in
      let g = f + length o.types in
      omega (arith, makes_none k hs ws b f e t at l.1, makes_none k hs ws b g e2 t2 at2 (subst (λ may. LawfulCallKind k hs may e2 t2) (never op) l.2), length-append o.types (inline_expr ws b g e2 at2).types)
  makes_none k hs ws b f (tree.Choose' x (more_of-ProgExpr e t at end_of-ProgExpr) x2 (more_of-ProgExpr e2 t2 at2 end_of-ProgExpr) x3 (more_of-ProgExpr e3 t3 at3 end_of-ProgExpr)) ty s l =
      let o = inline_expr ws b f e at in
      let g = f + length o.types in
      let o2 = inline_expr ws b g e2 at2 in
      let h = g + length o2.types in
      let o3 = inline_expr ws b h e3 at3 in
      omega (arith, makes_none k hs ws b f e t at l.1, makes_none k hs ws b g e2 t2 at2 l.2, makes_none k hs ws b h e3 t3 at3 l.3, length-append o.types (o2.types ++ o3.types), length-append o2.types o3.types)
  makes_none k hs ws b f (tree.Call' h n row) ty s l = absurd (false≢true l.0.0)

  row_makes_none : (k : Objects) (hs : List Signature) (ws : List Writing) (b f : ℕ) {n : Count} (row : Row_of-ProgExpr n) → LawfulCallRow k hs false row → length (inline_row ws b f row).types ≡ 0
  row_makes_none k hs ws b f end_of-ProgExpr l = refl
  row_makes_none k hs ws b f (more_of-ProgExpr e t at row) l =
      let o = inline_expr ws b f e at in
      let g = f + length o.types in
      omega (arith, makes_none k hs ws b f e t at l.0, row_makes_none k hs ws b g row l.1, length-append o.types (inline_row ws b g row).types)

-- ---- how many arguments are left, and of which types

row_long : (ws : List Writing) (b f : ℕ) {n : Count} (row : Row_of-ProgExpr n) → length (inline_row ws b f row).exprs ≡ row_length row
row_long ws b f end_of-ProgExpr = refl
row_long ws b f (more_of-ProgExpr e t at row) = let o = inline_expr ws b f e at in let r = row_long ws b (f + length o.types) row in omega arith

abbrev pub types_of : List TypedExpr → List Ty
types_of es = map (λ e. e.ty) es

row_typed : (ws : List Writing) (b f : ℕ) {n : Count} (row : Row_of-ProgExpr n) → types_of (inline_row ws b f row).exprs ≡ row_types row
row_typed ws b f end_of-ProgExpr = refl
row_typed ws b f (more_of-ProgExpr e t at row) = let o = inline_expr ws b f e at in ap (λ ts. t ∷ ts) (row_typed ws b (f + length o.types) row)

pub all_long : (ws : List Writing) (b f : ℕ) (es : List ProgExpr) → length (inline_all ws b f es).exprs ≡ length es
all_long ws b f [] = refl
all_long ws b f (e ∷ es) = let o = inline_of ws b f e in let r = all_long ws b (f + length o.types) es in omega arith

-- ---- the tree's objects

module _ (K : Objects) where
  -- it is lawful in a kernel of any result, in a loop or not
  abbrev pub Settles : TypedStmt → Type 0
  Settles s = (r : Option Ty) (l : Bool) → LawfulAt K r l s

  -- what is written for a call of a helper of a signature, from f on
  pub record LawfulWritten (f : ℕ) (g : Signature) (w : Written) : Type 0 where
    pub settles : Settles w.block
    pub sets : Sets f (f + length w.types) (stmt_vars_of w.block.kind)
    pub fresh : IsVar K w.fresh g.result

  abbrev pub LawfulWriting : Signature → Writing → Type 0
  LawfulWriting g w = (f : ℕ) (es : List TypedExpr) (s : Span) → types_of es ≡ g.params → All (LawfulExpr K) es → Seg K.vars f (w f es s).types → LawfulWritten f g (w f es s)

  -- what is made of an expression of a type, whose variables begin at f
  pub record LawfulOut (f : ℕ) (ty : Ty) (o : Out) : Type 0 where
    pub settles : All Settles o.before
    pub sets : Sets f (f + length o.types) (all_vars o.before)
    pub lawful : LawfulKind K o.kind ty

  pub record LawfulOuts (f : ℕ) (o : Outs) : Type 0 where
    pub settles : All Settles o.before
    pub sets : Sets f (f + length o.types) (all_vars o.before)
    pub lawful : All (LawfulExpr K) o.exprs

  pub record LawfulOutOption (f : ℕ) (o : OutOption) : Type 0 where
    pub settles : All Settles o.before
    pub sets : Sets f (f + length o.types) (all_vars o.before)
    pub lawful : LawfulOption (LawfulExpr K) o.expr

  whole_out : (f : ℕ) (ty : Ty) (o : Out) → o.before ≡ [] → length o.types ≡ 0 → LawfulKind K o.kind ty → LawfulOut f ty o
  whole_out f ty o e n l = record { settles = subst (All Settles) (sym e) (All-nil Settles); sets = sets_none f (f + length o.types) (all_vars o.before) (omega arith); lawful = l }

  -- ---- a statement behind blocks

  pub all_settle : (ss : List TypedStmt) → All Settles ss → (r : Option Ty) (l : Bool) → All (LawfulAt K r l) ss
  all_settle ss h r l = All-weaker Settles (LawfulAt K r l) (λ s q. q r l) ss h

  pub behind_lawful : (before : List TypedStmt) (kind : TypedStmtKind) (s : Span) (r : Option Ty) (l : Bool) → All Settles before → LawfulStmt K r l kind → LawfulStmt K r l (behind before kind s)
  behind_lawful [] kind s r l h q = q
  behind_lawful (c ∷ cs) kind s r l h q =
      let last = act_at kind s in
      (stmt_block ((c ∷ cs) ++ last ∷ []) K r l).1 (All-append (LawfulAt K r l) (c ∷ cs) (last ∷ []) (all_settle (c ∷ cs) h r l) (All-cons (LawfulAt K r l) last [] q (All-nil (LawfulAt K r l))))

pub behind_vars : (before : List TypedStmt) (kind : TypedStmtKind) (s : Span) → stmt_vars_of (behind before kind s) ≡ all_vars before ++ stmt_vars_of kind
behind_vars [] kind s = refl
behind_vars (c ∷ cs) kind s =
    let last = act_at kind s in
    vars_block ((c ∷ cs) ++ last ∷ []) ∙ vars_append (c ∷ cs) (last ∷ []) ∙ ap (λ l. all_vars (c ∷ cs) ++ l) (append-nil (stmt_vars_of kind))

-- a helper or the kernel within the tree: its variables are numbered from b on, and the helpers before it are written so
pub record Within (k K : Objects) (b : ℕ) (hs : List Signature) (ws : List Writing) : Type 0 where
  pub own_var : (v : ℕ) (t : Ty) → IsVar k v t → IsVar K (b + v) t
  pub own_element : (a n : ℕ) (t : Ty) → IsElement k a n t → IsElement K a n t
  pub written : (h : ℕ) (g : Signature) → slice_get hs h ≡ Some g → LawfulWriting K g (written_by (slice_get ws h))

module _ (k K : Objects) (b : ℕ) (hs : List Signature) (ws : List Writing) (w : Within k K b hs ws) where
  mutual
    pub expr_out : (may : Bool) (f : ℕ) (e : ProgExprKind) (ty : Ty) (s : Span) → Seg K.vars f (inline_expr ws b f e s).types → LawfulCallKind k hs may e ty → LawfulOut K f ty (inline_expr ws b f e s)
    expr_out may f (tree.Number n) ty s seg l = whole_out K f ty (inline_expr ws b f (tree.Number n) s) refl refl ((lawful_number n K ty).1 l)
    expr_out may f (tree.Var v) ty s seg l = whole_out K f ty (inline_expr ws b f (tree.Var v) s) refl refl ((lawful_variable (b + v) K ty).1 (w.own_var v ty l))
    expr_out may f (tree.Element' a n row) ty s seg l =
        let o = row_out may f row seg l.1 in
        let es = (inline_row ws b f row).exprs in
        record {
          settles = o.settles;
          sets = o.sets;
          lawful = (lawful_element a es K ty).1 (subst (λ m. IsElement K a m ty) (sym (row_long ws b f row)) (w.own_element a (row_length row) ty l.0), o.lawful);
        }
    expr_out may f (tree.Unary' op x (more_of-ProgExpr e t at end_of-ProgExpr)) ty s seg l =
        let o = expr_out may f e t at seg l.2 in
        record { settles = o.settles; sets = o.sets; lawful = (lawful_unary op (of_type (inline_expr ws b f e at).kind t at) K ty).1 (l.0, l.1, o.lawful) }
    expr_out may f (tree.Cast' implied x (more_of-ProgExpr e t at end_of-ProgExpr)) ty s seg l =
        let o = expr_out may f e t at seg l.1 in
        record {
          settles = o.settles;
          sets = o.sets;
          lawful = (lawful_cast implied (of_type (inline_expr ws b f e at).kind t at) K ty).1 (λ i. implied_same ws b f e at ∙ l.0 i, o.lawful);
        }
    expr_out may f (tree.Binary' op x (more_of-ProgExpr e t at end_of-ProgExpr) x2 (more_of-ProgExpr e2 t2 at2 end_of-ProgExpr)) ty s seg l =
        let i = inline_expr ws b f e at in
        let g = f + length i.types in
        let i2 = inline_expr ws b g e2 at2 in
        let o = expr_out may f e t at (seg_first K.vars f i.types i2.types seg) l.1 in
        let o2 = expr_out (may_right may op) g e2 t2 at2 (seg_rest K.vars f i.types i2.types seg) l.2 in
        record {
          settles = All-append (Settles K) i.before i2.before o.settles o2.settles;
          sets = blocks_both f i.types i2.types i.before i2.before o.sets o2.sets;
          lawful = (lawful_binary op (of_type i.kind t at) (of_type i2.kind t2 at2) K ty).1 (l.0, o.lawful, o2.lawful);
        }
    expr_out may f (tree.Choose' x (more_of-ProgExpr e t at end_of-ProgExpr) x2 (more_of-ProgExpr e2 t2 at2 end_of-ProgExpr) x3 (more_of-ProgExpr e3 t3 at3 end_of-ProgExpr)) ty s seg l =
        let i = inline_expr ws b f e at in
        let g = f + length i.types in
        let i2 = inline_expr ws b g e2 at2 in
        let h = g + length i2.types in
        let i3 = inline_expr ws b h e3 at3 in
        let rest = seg_rest K.vars f i.types (i2.types ++ i3.types) seg in
        let o = expr_out may f e t at (seg_first K.vars f i.types (i2.types ++ i3.types) seg) l.1 in
        let o2 = expr_out false g e2 t2 at2 (seg_first K.vars g i2.types i3.types rest) l.2 in
        let o3 = expr_out false h e3 t3 at3 (seg_rest K.vars g i2.types i3.types rest) l.3 in
        let size = length-append i2.types i3.types in
        let sides = blocks_both g i2.types i3.types i2.before i3.before o2.sets o3.sets in
        record {
          settles = All-append (Settles K) i.before (i2.before ++ i3.before) o.settles (All-append (Settles K) i2.before i3.before o2.settles o3.settles);
          sets = blocks_both f i.types (i2.types ++ i3.types) i.before (i2.before ++ i3.before) o.sets sides;
          lawful = (lawful_choice (of_type i.kind t at) (of_type i2.kind t2 at2) (of_type i3.kind t3 at3) K ty).1 (l.0, o.lawful, o2.lawful, o3.lawful);
        }
    expr_out may f (tree.Call' h n row) ty s seg l =
        let i = inline_row ws b f row in
        let g = f + length i.types in
        let v = written_by (slice_get ws h) g i.exprs s in
        let call = l.0.1 in
        let o = row_out may f row (seg_first K.vars f i.types v.types seg) l.1 in
        let c = w.written h call.0 call.1 g i.exprs s (row_typed ws b f row ∙ call.2) o.lawful (seg_rest K.vars f i.types v.types seg) in
        let one : Sets g (g + length v.types) (all_vars (v.block ∷ [])) = sets_same g (g + length v.types) (stmt_vars_of v.block.kind) (stmt_vars_of v.block.kind ++ []) (append-nil (stmt_vars_of v.block.kind)) c.sets in
        record {
          settles = All-append (Settles K) i.before (v.block ∷ []) o.settles (All-cons (Settles K) v.block [] c.settles (All-nil (Settles K)));
          sets = blocks_both f i.types v.types i.before (v.block ∷ []) o.sets one;
          lawful = (lawful_variable v.fresh K ty).1 (subst (λ t. IsVar K v.fresh t) (sym call.3) c.fresh);
        }

    row_out : (may : Bool) (f : ℕ) {n : Count} (row : Row_of-ProgExpr n) → Seg K.vars f (inline_row ws b f row).types → LawfulCallRow k hs may row → LawfulOuts K f (inline_row ws b f row)
    row_out may f end_of-ProgExpr seg l = record { settles = All-nil (Settles K); sets = sets_none f (f + 0) [] (omega arith); lawful = All-nil (LawfulExpr K) }
    row_out may f (more_of-ProgExpr e t at row) seg l =
        let i = inline_expr ws b f e at in
        let g = f + length i.types in
        let r = inline_row ws b g row in
        let o = expr_out may f e t at (seg_first K.vars f i.types r.types seg) l.0 in
        let o2 = row_out may g row (seg_rest K.vars f i.types r.types seg) l.1 in
        record {
          settles = All-append (Settles K) i.before r.before o.settles o2.settles;
          sets = blocks_both f i.types r.types i.before r.before o.sets o2.sets;
          lawful = All-cons (LawfulExpr K) (of_type i.kind t at) r.exprs o.lawful o2.lawful;
        }

  pub all_out : (may : Bool) (f : ℕ) (es : List ProgExpr) → Seg K.vars f (inline_all ws b f es).types → All (LawfulCallExpr k hs may) es → LawfulOuts K f (inline_all ws b f es)
  all_out may f [] seg l = record { settles = All-nil (Settles K); sets = sets_none f (f + 0) [] (omega arith); lawful = All-nil (LawfulExpr K) }
  all_out may f (e ∷ es) seg l =
      let i = inline_of ws b f e in
      let g = f + length i.types in
      let r = inline_all ws b g es in
      let o = expr_out may f e.kind e.ty e.at (seg_first K.vars f i.types r.types seg) (All-head (LawfulCallExpr k hs may) e es l) in
      let o2 = all_out may g es (seg_rest K.vars f i.types r.types seg) (All-tail (LawfulCallExpr k hs may) e es l) in
      record {
        settles = All-append (Settles K) i.before r.before o.settles o2.settles;
        sets = blocks_both f i.types r.types i.before r.before o.sets o2.sets;
        lawful = All-cons (LawfulExpr K) (rest_of i e) r.exprs o.lawful o2.lawful;
      }

  pub option_out : (may : Bool) (f : ℕ) (o : Option ProgExpr) → Seg K.vars f (inline_option ws b f o).types → IfAnyExpr (LawfulCallExpr k hs may) o → LawfulOutOption K f (inline_option ws b f o)
  option_out may f None seg l = record { settles = All-nil (Settles K); sets = sets_none f (f + 0) [] (omega arith); lawful = tt }
  option_out may f (Some e) seg l = let o = expr_out may f e.kind e.ty e.at seg l in record { settles = o.settles; sets = o.sets; lawful = o.lawful }
