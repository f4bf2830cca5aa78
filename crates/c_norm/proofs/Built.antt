-- How the statements that are built run and count, by those of their parts.
use Rattle.std.proofs.Common.{◌≡◌, ℕ, ◌+◌, List, [], ◌∷◌, ◌++◌, map, get_or, Option, Some, None, refl, sym, ◌∙◌, ap, subst, arith}
use Rattle.std.specs.Prelude.{Bool, true, false, ℤ, flat_map, option_map}
use Rattle.std.proofs.lemmas.List.{map-append}
use Rattle.std.proofs.lemmas.Grind.{flat_map-append}
use Rattle.el_base.specs.declared.span.Span.{Span}
use Rattle.el_base.specs.declared.ty.Ty.{Ty}
use Rattle.el_base.specs.declared.ty.Ty.TheVariants.{I32}
use Rattle.c_ast.specs.declared.typed.Object.TheVariants as object
use Rattle.c_ast.specs.declared.typed.TypedExpr.{TypedExpr}
use Rattle.c_ast.specs.declared.typed.TypedTarget.{TypedTarget}
use Rattle.c_ast.specs.declared.normal.NormalStmt.{NormalStmt}
use Rattle.c_ast.specs.declared.normal.NormalStmtKind.{NormalStmtKind}
use Rattle.c_ast.specs.declared.normal.NormalStmtKind.TheVariants as normal
use Rattle.c_ast.specs.declared.normal.NormalStmtKind.TheOpen as part_of
use Rattle.c_ast.specs.declared.normal.NormalStmtKind.TheOpen.{NormalStmtKind-F}
use Rattle.c_meaning.specs.Types.{conv}
use Rattle.c_meaning.specs.Operators.{is_zero}
use Rattle.c_meaning.specs.Stores.{Store, Objects, set_var, unset_vars}
use Rattle.c_meaning.specs.Expressions.{value, Meaning, meaning}
use Rattle.c_meaning.specs.Runs.{How, normally, taking, branch}
use Rattle.c_meaning.specs.Runs as runs
use Rattle.c_meaning.specs.Statements.{Act, Meant, meant_target, meant_if_any, in_order, block, part, of_var, storing, stored, assigned, stmt_step, a_block, a_declaration, an_assignment, an_if, a_while, a_do, a_for, a_break, a_continue, a_return, an_empty}
use Rattle.c_meaning.specs.Normals.{normal_kind_act, normal_act}
use Rattle.c_meaning.specs.Counts.{tally, only, Counted, counted, kind_counts, counts_step, run_of, acts_of, counts_in_order, counts_branch, counts_of, counts_entering, counts_part, expr_price}
use Rattle.c_meaning.proofs.TreeEquations.{normal_block, normal_declare, normal_assign, normal_if, normal_while, normal_do_while, normal_for, normal_break, normal_continue, normal_return, normal_empty}
use Rattle.c_meaning.proofs.PartsOfNumbers.{counts_block, counts_declaration, counts_assignment, counts_choice, counts_while_loop, counts_do_loop, counts_for_loop, counts_leaving, counts_continuing, counts_returning, counts_empty}
use Rattle.c_meaning.proofs.RunParts.{taken}
use Rattle.c_meaning.proofs.CountGrowth.{counted_kind}
use Rattle.c_norm.specs.Expand.{setting, side, choice}
use Rattle.c_norm.proofs.Takes.{Takes, TakesAll, takes_turn, takes_none, takes_branch}
use Rattle.c_norm.proofs.Expands.{Sets, Chooses, pick}

abbrev pub counted_all : Objects → List NormalStmt → List Counted
counted_all k ss = map (counted k) ss

-- a statement by what it means and counts
abbrev pub built : Objects → Meant → NormalStmtKind-F Counted Counted → Counted
built k m c = record { act = stmt_step k m; counts = counts_step k c }

abbrev pub act_if_held : Option Counted → Option Act
act_if_held o = option_map (λ (a : Counted). a.act) o

is_built : (k : Objects) (x : NormalStmtKind) (m : Meant) (c : NormalStmtKind-F Counted Counted) → normal_kind_act k x ≡ stmt_step k m → kind_counts k x ≡ counts_step k c → counted_kind k x ≡ built k m c
is_built k x m c e f = ap (λ a. record { act = a; counts = kind_counts k x }) e ∙ ap (λ d. record { act = stmt_step k m; counts = d }) f

pub acts_are : (k : Objects) (ss : List NormalStmt) → map (normal_act k) ss ≡ acts_of (counted_all k ss)
acts_are k [] = refl
acts_are k (s ∷ ss) = ap (λ l. normal_act k s ∷ l) (acts_are k ss)

act_held_is : (k : Objects) (o : Option NormalStmt) → option_map (normal_act k) o ≡ act_if_held (option_map (counted k) o)
act_held_is k None = refl
act_held_is k (Some s) = refl

-- ---- each kind

abbrev pub a_block_of : Objects → List Counted → Counted
a_block_of k parts = built k (a_block (acts_of parts)) (part_of.Block parts)

abbrev pub an_if_of : Objects → List Counted → TypedExpr → Counted → Option Counted → Counted
an_if_of k before c yes_part no_part = built k (an_if (acts_of before) (meaning k c) yes_part.act (act_if_held no_part)) (part_of.If before c yes_part no_part)

abbrev pub a_while_of : Objects → List Counted → TypedExpr → Counted → Counted
a_while_of k before c body = built k (a_while (acts_of before) (meaning k c) body.act) (part_of.While before c body)

abbrev pub a_do_of : Objects → Counted → List Counted → TypedExpr → Counted
a_do_of k body before c = built k (a_do body.act (acts_of before) (meaning k c)) (part_of.DoWhile body before c)

abbrev pub a_for_of : Objects → List Counted → List Counted → Option TypedExpr → Option Counted → Counted → Counted
a_for_of k first before c step body = built k (a_for (acts_of first) (acts_of before) (meant_if_any k c) (act_if_held step) body.act) (part_of.For first before c step body)

pub block_built : (k : Objects) (ss : List NormalStmt) → counted_kind k (normal.Block ss) ≡ a_block_of k (counted_all k ss)
block_built k ss = is_built k (normal.Block ss) (a_block (acts_of (counted_all k ss))) (part_of.Block (counted_all k ss)) (normal_block ss k ∙ ap (λ a. stmt_step k (a_block a)) (acts_are k ss)) (counts_block ss k)

pub if_built : (k : Objects) (before : List NormalStmt) (c : TypedExpr) (s : NormalStmt) (o : Option NormalStmt) → counted_kind k (normal.If before c s o) ≡ an_if_of k (counted_all k before) c (counted k s) (option_map (counted k) o)
if_built k before c s o =
    is_built k (normal.If before c s o) (an_if (acts_of (counted_all k before)) (meaning k c) (normal_act k s) (act_if_held (option_map (counted k) o))) (part_of.If (counted_all k before) c (counted k s) (option_map (counted k) o))
    (normal_if before c s o k ∙ ap (λ a. stmt_step k (an_if a (meaning k c) (normal_act k s) (option_map (normal_act k) o))) (acts_are k before) ∙ ap (λ a. stmt_step k (an_if (acts_of (counted_all k before)) (meaning k c) (normal_act k s) a)) (act_held_is k o))
    (counts_choice before c s o k)

pub while_built : (k : Objects) (before : List NormalStmt) (c : TypedExpr) (s : NormalStmt) → counted_kind k (normal.While before c s) ≡ a_while_of k (counted_all k before) c (counted k s)
while_built k before c s =
    is_built k (normal.While before c s) (a_while (acts_of (counted_all k before)) (meaning k c) (normal_act k s)) (part_of.While (counted_all k before) c (counted k s))
    (normal_while before c s k ∙ ap (λ a. stmt_step k (a_while a (meaning k c) (normal_act k s))) (acts_are k before)) (counts_while_loop before c s k)

pub do_built : (k : Objects) (s : NormalStmt) (before : List NormalStmt) (c : TypedExpr) → counted_kind k (normal.DoWhile s before c) ≡ a_do_of k (counted k s) (counted_all k before) c
do_built k s before c =
    is_built k (normal.DoWhile s before c) (a_do (normal_act k s) (acts_of (counted_all k before)) (meaning k c)) (part_of.DoWhile (counted k s) (counted_all k before) c)
    (normal_do_while s before c k ∙ ap (λ a. stmt_step k (a_do (normal_act k s) a (meaning k c))) (acts_are k before)) (counts_do_loop s before c k)

pub for_built : (k : Objects) (f before : List NormalStmt) (c : Option TypedExpr) (o : Option NormalStmt) (s : NormalStmt) → counted_kind k (normal.For f before c o s) ≡ a_for_of k (counted_all k f) (counted_all k before) c (option_map (counted k) o) (counted k s)
for_built k f before c o s =
    is_built k (normal.For f before c o s) (a_for (acts_of (counted_all k f)) (acts_of (counted_all k before)) (meant_if_any k c) (act_if_held (option_map (counted k) o)) (normal_act k s))
    (part_of.For (counted_all k f) (counted_all k before) c (option_map (counted k) o) (counted k s))
    (normal_for f before c o s k ∙ ap (λ a. stmt_step k (a_for a (map (normal_act k) before) (meant_if_any k c) (option_map (normal_act k) o) (normal_act k s))) (acts_are k f)
    ∙ ap (λ a. stmt_step k (a_for (acts_of (counted_all k f)) a (meant_if_any k c) (option_map (normal_act k) o) (normal_act k s))) (acts_are k before)
    ∙ ap (λ a. stmt_step k (a_for (acts_of (counted_all k f)) (acts_of (counted_all k before)) (meant_if_any k c) a (normal_act k s))) (act_held_is k o))
    (counts_for_loop f before c o s k)

pub assign_built : (k : Objects) (t : TypedTarget) (e : TypedExpr) → counted_kind k (normal.Assign t e) ≡ built k (an_assignment (meant_target k t) None e.ty (meaning k e)) (part_of.Assign t e)
assign_built k t e = is_built k (normal.Assign t e) (an_assignment (meant_target k t) None e.ty (meaning k e)) (part_of.Assign t e) (normal_assign t e k) (counts_assignment t e k)

pub declare_built : (k : Objects) (v : ℕ) (e : Option TypedExpr) → counted_kind k (normal.Declare v e) ≡ built k (a_declaration v (meant_if_any k e)) (part_of.Declare v e)
declare_built k v e = is_built k (normal.Declare v e) (a_declaration v (meant_if_any k e)) (part_of.Declare v e) (normal_declare v e k) (counts_declaration v e k)

pub break_built : (k : Objects) → counted_kind k normal.Break ≡ built k a_break part_of.Break
break_built k = is_built k normal.Break a_break part_of.Break (normal_break k) (counts_leaving k)

pub continue_built : (k : Objects) → counted_kind k normal.Continue ≡ built k a_continue part_of.Continue
continue_built k = is_built k normal.Continue a_continue part_of.Continue (normal_continue k) (counts_continuing k)

pub return_built : (k : Objects) (e : Option TypedExpr) → counted_kind k (normal.Return e) ≡ built k (a_return (meant_if_any k e)) (part_of.Return e)
return_built k e = is_built k (normal.Return e) (a_return (meant_if_any k e)) (part_of.Return e) (normal_return e k) (counts_returning e k)

pub empty_built : (k : Objects) → counted_kind k normal.Empty ≡ built k an_empty part_of.Empty
empty_built k = is_built k normal.Empty an_empty part_of.Empty (normal_empty k) (counts_empty k)

-- ---- what declares nothing

abbrev pub declared_by : List Counted → List ℕ
declared_by parts = flat_map (λ (a : Act). a.declares) (acts_of parts)

abbrev pub Silent : List Counted → Type 0
Silent parts = declared_by parts ≡ []

pub declared_append : (xs ys : List Counted) → declared_by (xs ++ ys) ≡ declared_by xs ++ declared_by ys
declared_append xs ys = ap (λ l. flat_map (λ (a : Act). a.declares) l) (map-append (λ (a : Counted). a.act) xs ys) ∙ flat_map-append (λ (a : Act). a.declares) (acts_of xs) (acts_of ys)

pub silent_append : (xs ys : List Counted) → Silent xs → Silent ys → Silent (xs ++ ys)
silent_append xs ys e f = declared_append xs ys ∙ ap (λ l. l ++ declared_by ys) e ∙ f

pub silent_one : (a : Counted) → a.act.declares ≡ [] → Silent (a ∷ [])
silent_one a e = ap (λ l. l ++ []) e

pub counted_append : (k : Objects) (xs ys : List NormalStmt) → counted_all k (xs ++ ys) ≡ counted_all k xs ++ counted_all k ys
counted_append k xs ys = map-append (counted k) xs ys

-- ---- blocks, settings and choices

-- a block enters its list with what it declares unset
pub block_takes : (k : Objects) (parts : List Counted) (s t : Store) (h : How) (m j p : ℕ) → TakesAll parts (unset_vars (declared_by parts) s) h t m j p → Takes (run_of (a_block_of k parts)) (a_block_of k parts).counts s h t (1 + m) j p
block_takes k parts s t h m j p x =
    let y : Takes (block (acts_of parts)) (counts_entering parts (counts_in_order parts)) s h t m j p = record { runs = x.runs; counted = x.counted } in
    takes_turn (block (acts_of parts)) (counts_entering parts (counts_in_order parts)) s t h m j p y

pub side_is : (k : Objects) (v : ℕ) (before : List NormalStmt) (e : TypedExpr) (at : Span) → counted k (side v before e at) ≡ a_block_of k (counted_all k before ++ counted k (setting v e at) ∷ [])
side_is k v before e at = block_built k (before ++ setting v e at ∷ []) ∙ ap (a_block_of k) (counted_append k before (setting v e at ∷ []))

-- a value that is stored in a variable
pub set_takes : (v : ℕ) (t : Ty) (m : Meaning) (s : Store) (x : ℤ) (u l : ℕ) → m s ≡ value x u → stored t (of_var v) 0 (m s) s (u + l) ≡ record { how = normally; store = set_var v (conv t x) s; left = l }
set_takes v t m s x u l e =
    let f : 0 + u ≡ u = omega arith in
    ap (λ z. stored t (of_var v) 0 z s (u + l)) e ∙ ap (λ i. taking i (storing t (of_var v) x) s (u + l)) f ∙ taken u (storing t (of_var v) x) s l

pub setting_sets : (k : Objects) (v : ℕ) (t : Ty) (e : TypedExpr) (at : Span) → get_or k.vars v I32 ≡ t → Sets v t (meaning k e) (2 + expr_price e) (counted k (setting v e at))
setting_sets k v t e at is s x u h =
    let target : TypedTarget = record { to = object.Var v; at = at; indices = [] } in
    let made = built k (an_assignment (meant_target k target) None e.ty (meaning k e)) (part_of.Assign target e) in
    let body : Takes (assigned k (meant_target k target) (meaning k e)) (only (tally 0 (2 + expr_price e))) s normally (set_var v (conv (get_or k.vars v I32) x) s) u 0 (2 + expr_price e) = record { runs = λ l. set_takes v (get_or k.vars v I32) (meaning k e) s x u l h; counted = λ l. refl } in
    let run : Takes (run_of made) made.counts s normally (set_var v (conv (get_or k.vars v I32) x) s) (1 + u) 0 (2 + expr_price e) =
    takes_turn (assigned k (meant_target k target) (meaning k e)) (only (tally 0 (2 + expr_price e))) s (set_var v (conv (get_or k.vars v I32) x) s) normally u 0 (2 + expr_price e) body in
    let there : Takes (run_of (counted k (setting v e at))) (counted k (setting v e at)).counts s normally (set_var v (conv (get_or k.vars v I32) x) s) (1 + u) 0 (2 + expr_price e) =
    subst (λ (z : Counted). Takes (run_of z) z.counts s normally (set_var v (conv (get_or k.vars v I32) x) s) (1 + u) 0 (2 + expr_price e)) (sym (assign_built k target e)) run in
    subst (λ w. Takes (run_of (counted k (setting v e at))) (counted k (setting v e at)).counts s normally (set_var v (conv w x) s) (1 + u) 0 (2 + expr_price e)) is there

pub setting_silent : (k : Objects) (v : ℕ) (e : TypedExpr) (at : Span) → (counted k (setting v e at)).act.declares ≡ []
setting_silent k v e at = ap (λ (z : Counted). z.act.declares) (assign_built k (record { to = object.Var v; at = at; indices = [] }) e)

pub choice_silent : (k : Objects) (v : ℕ) (c : TypedExpr) (yes_part no_part : NormalStmt) (at : Span) → (counted k (choice v c yes_part no_part at)).act.declares ≡ []
choice_silent k v c yes_part no_part at = ap (λ (z : Counted). z.act.declares) (if_built k [] c yes_part (Some no_part))

side_run : (k : Objects) (z : Bool) (yes_parts no_parts : List Counted) (s t : Store) (m j q : ℕ) → Silent yes_parts → Silent no_parts → TakesAll (pick z no_parts yes_parts) s normally t m j q
    → Takes (runs.run_of z (part (a_block_of k no_parts).act) (part (a_block_of k yes_parts).act)) (counts_of z (counts_part (a_block_of k no_parts)) (counts_part (a_block_of k yes_parts))) s normally t (1 + m) j q
side_run k true yes_parts no_parts s t m j q ys ns x =
    let y = block_takes k no_parts s t normally m j q (subst (λ l. TakesAll no_parts (unset_vars l s) normally t m j q) (sym ns) x) in record { runs = y.runs; counted = y.counted }
side_run k false yes_parts no_parts s t m j q ys ns x =
    let y = block_takes k yes_parts s t normally m j q (subst (λ l. TakesAll yes_parts (unset_vars l s) normally t m j q) (sym ys) x) in record { runs = y.runs; counted = y.counted }

-- an if with two blocks, before which nothing stands
pub blocks_choose : (k : Objects) (c : TypedExpr) (yes_parts no_parts : List Counted) → Silent yes_parts → Silent no_parts → Chooses (meaning k c) (expr_price c) yes_parts no_parts (an_if_of k [] c (a_block_of k yes_parts) (Some (a_block_of k no_parts)))
blocks_choose k c yes_parts no_parts ys ns s t w u m j q e x =
    let a = part (a_block_of k yes_parts).act in
    let b = part (a_block_of k no_parts).act in
    let ca = counts_part (a_block_of k yes_parts) in
    let cb = counts_part (a_block_of k no_parts) in
    let side = side_run k (is_zero w) yes_parts no_parts s t m j q ys ns x in
    takes_turn (branch (in_order (acts_of [])) (meaning k c) a b) (counts_branch [] (expr_price c) (meaning k c) ca cb) s t normally (0 + (1 + (u + (1 + m)))) (0 + (2 + j)) (0 + (expr_price c + 2 + q))
    (takes_branch [] (meaning k c) s s t normally w u a b ca cb (expr_price c) 0 0 0 (1 + m) j q (takes_none s) e side)

pub choice_chooses : (k : Objects) (v : ℕ) (c : TypedExpr) (before : List NormalStmt) (e : TypedExpr) (before2 : List NormalStmt) (e2 : TypedExpr) (at : Span) → Silent (counted_all k before) → Silent (counted_all k before2)
    → Chooses (meaning k c) (expr_price c) (counted_all k before ++ counted k (setting v e at) ∷ []) (counted_all k before2 ++ counted k (setting v e2 at) ∷ []) (counted k (choice v c (side v before e at) (side v before2 e2 at) at))
choice_chooses k v c before e before2 e2 at h h2 =
    let xs = counted_all k before ++ counted k (setting v e at) ∷ [] in
    let ys = counted_all k before2 ++ counted k (setting v e2 at) ∷ [] in
    let sx = silent_append (counted_all k before) (counted k (setting v e at) ∷ []) h (silent_one (counted k (setting v e at)) (setting_silent k v e at)) in
    let sy = silent_append (counted_all k before2) (counted k (setting v e2 at) ∷ []) h2 (silent_one (counted k (setting v e2 at)) (setting_silent k v e2 at)) in
    let is : counted k (choice v c (side v before e at) (side v before2 e2 at) at) ≡ an_if_of k [] c (a_block_of k xs) (Some (a_block_of k ys)) =
    if_built k [] c (side v before e at) (Some (side v before2 e2 at)) ∙ ap (λ z. an_if_of k [] c z (Some (counted k (side v before2 e2 at)))) (side_is k v before e at) ∙ ap (λ z. an_if_of k [] c (a_block_of k xs) (Some z)) (side_is k v before2 e2 at) in
    subst (λ z. Chooses (meaning k c) (expr_price c) xs ys z) (sym is) (blocks_choose k c xs ys sx sy)
