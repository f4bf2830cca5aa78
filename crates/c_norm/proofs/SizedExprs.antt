-- The sizes of what is set before an expression: blocks, steps and accesses, by those of its parts.
use Rattle.std.proofs.Common.{◌≡◌, ℕ, ◌+◌, ◌*◌, ◌≤◌, List, [], ◌∷◌, ◌++◌, length, Option, Some, None, refl, ap, arith, length-append}
use Rattle.std.specs.Prelude.{Bool, true, false, sum_by, ◌==◌}
use Rattle.std.proofs.lemmas.List.Sums.{sum_by-cons, sum_by-append}
use mathlib.Core.Former.{Count}
use Rattle.el_base.specs.declared.span.Span.{Span}
use Rattle.el_base.specs.declared.ty.Ty.{Ty}
use Rattle.el_base.specs.declared.ty.Ty.TheVariants.{I32}
use Rattle.c_ast.specs.Casts.{of_type}
use Rattle.c_ast.specs.Nodes.{typed_kind_nodes, typed_row_nodes, typed_expr_nodes, typed_exprs_nodes}
use Rattle.c_ast.specs.declared.tree.Binary.{Binary}
use Rattle.c_ast.specs.declared.typed.Object.TheVariants as object
use Rattle.c_ast.specs.declared.typed.TypedExpr.{TypedExpr}
use Rattle.c_ast.specs.declared.typed.TypedExprKind.{TypedExprKind, Row_of-TypedExpr, end_of-TypedExpr, more_of-TypedExpr}
use Rattle.c_ast.specs.declared.typed.TypedExprKind as tree
use Rattle.c_ast.specs.declared.typed.TypedExprKind.TheVariants as expr
use Rattle.c_ast.specs.declared.normal.NormalStmt.{NormalStmt}
use Rattle.c_ast.specs.declared.normal.NormalStmtKind.{NormalStmtKind}
use Rattle.c_ast.specs.declared.normal.NormalStmtKind.TheVariants as normal
use Rattle.c_meaning.specs.declared.profile.Profile.TheVariants.{Plain}
use Rattle.c_meaning.specs.Counts.{kind_price, expr_price}
use Rattle.c_meaning.specs.Sizes.{Sizes, closes, steps, accesses, reads, reads_row, expr_reads}
use Rattle.c_meaning.specs.PartLaws.{Reading, sizes, blocks_of, steps_of, accesses_of, SizesBy}
use Rattle.c_meaning.proofs.PartsOfNumbers.{price_number, price_variable, price_element, price_unary, price_cast, price_binary, price_choice}
use Rattle.c_meaning.proofs.PartsOfSizes.{sizes_block, sizes_assignment, sizes_choice, reading_number, reading_variable, reading_element, reading_unary, reading_cast, reading_binary, reading_choice}
use Rattle.c_norm.specs.Expand.{Out, Outs, whole, setting, constant, truth_of, side, choice, decided_by, joined_out, logical_out, binary_out, choose_out, expand, expand_row, expand_expr, rest_of, expand_all, set_all}
use Rattle.c_norm.proofs.Costs.{operator_cost, operator_kept, kind_cost, row_cost, kind_kept}
use Rattle.c_norm.proofs.Meanings.{decides}
use Rattle.c_norm.proofs.Targets.{costs}

-- ---- statements that are built

pub record HasSizes (x : NormalStmtKind) (b s a : ℕ) : Type 0 where
  pub blocks : closes x ≡ b
  pub steps : steps x ≡ s
  pub accesses : accesses x ≡ a

pub record ListSizes (ss : List NormalStmt) (b s a : ℕ) : Type 0 where
  pub blocks : blocks_of ss ≡ b
  pub steps : steps_of ss ≡ s
  pub accesses : accesses_of ss ≡ a

pub by_sizes : (x : NormalStmtKind) (z : Sizes) → SizesBy x z → HasSizes x z.blocks z.steps z.accesses
by_sizes x z e = record { blocks = ap (λ (y : Sizes). y.blocks) e; steps = ap (λ (y : Sizes). y.steps) e; accesses = ap (λ (y : Sizes). y.accesses) e }

pub own_sizes : (ss : List NormalStmt) → ListSizes ss (blocks_of ss) (steps_of ss) (accesses_of ss)
own_sizes ss = record { blocks = refl; steps = refl; accesses = refl }

pub one_sizes : (x : NormalStmt) (b s a : ℕ) → HasSizes x.kind b s a → ListSizes (x ∷ []) b s a
one_sizes x b s a h = omega (arith, sum_by-cons (λ (y : NormalStmt). closes y.kind) x [], sum_by-cons (λ (y : NormalStmt). steps y.kind) x [], sum_by-cons (λ (y : NormalStmt). accesses y.kind) x [])

pub append_sizes : (xs ys : List NormalStmt) (b s a c t d : ℕ) → ListSizes xs b s a → ListSizes ys c t d → ListSizes (xs ++ ys) (b + c) (s + t) (a + d)
append_sizes xs ys b s a c t d h i = omega (arith, sum_by-append (λ (y : NormalStmt). closes y.kind) xs ys, sum_by-append (λ (y : NormalStmt). steps y.kind) xs ys, sum_by-append (λ (y : NormalStmt). accesses y.kind) xs ys)

setting_sizes : (v : ℕ) (e : TypedExpr) (at : Span) → HasSizes (setting v e at).kind 0 (2 + expr_price e) (expr_reads e)
setting_sizes v e at =
    let h = by_sizes (setting v e at).kind (sizes 0 (1 + 1 + expr_price e) (0 + 0 + expr_reads e)) (sizes_assignment (record { to = object.Var v; at = at; indices = [] }) e) in
    record { blocks = h.blocks; steps = let i = h.steps in omega arith; accesses = let i = h.accesses in omega arith }

-- what is set, and then the variable
set_sizes : (v : ℕ) (before : List NormalStmt) (e : TypedExpr) (at : Span) → ListSizes (before ++ setting v e at ∷ []) (blocks_of before) (steps_of before + (2 + expr_price e)) (accesses_of before + expr_reads e)
set_sizes v before e at =
    let h = append_sizes before (setting v e at ∷ []) (blocks_of before) (steps_of before) (accesses_of before) 0 (2 + expr_price e) (expr_reads e) (own_sizes before) (one_sizes (setting v e at) 0 (2 + expr_price e) (expr_reads e) (setting_sizes v e at)) in
    record { blocks = let i = h.blocks in omega arith; steps = h.steps; accesses = h.accesses }

pub block_sizes : (ss : List NormalStmt) → HasSizes (normal.Block ss) (blocks_of ss) (steps_of ss) (accesses_of ss)
block_sizes ss = by_sizes (normal.Block ss) (sizes (blocks_of ss) (steps_of ss) (accesses_of ss)) (sizes_block ss)

choice_sizes : (v : ℕ) (cond e e2 : TypedExpr) (before before2 : List NormalStmt) (at : Span)
    → HasSizes (choice v cond (side v before e at) (side v before2 e2 at) at).kind (blocks_of before + blocks_of before2 + 3)
    (expr_price cond + 2 + (steps_of before + (2 + expr_price e)) + (steps_of before2 + (2 + expr_price e2))) (expr_reads cond + (accesses_of before + expr_reads e) + (accesses_of before2 + expr_reads e2))
choice_sizes v cond e e2 before before2 at =
    let yes = side v before e at in
    let no = side v before2 e2 at in
    let y = block_sizes (before ++ setting v e at ∷ []) in
    let n = block_sizes (before2 ++ setting v e2 at ∷ []) in
    let a = set_sizes v before e at in
    let b = set_sizes v before2 e2 at in
    let h = by_sizes (normal.If [] cond yes (Some no)) (sizes (0 + 1 + closes yes.kind + 1 + closes no.kind + 1) (0 + (expr_price cond + 2) + steps yes.kind + steps no.kind) (0 + expr_reads cond + accesses yes.kind + accesses no.kind)) (sizes_choice [] cond yes (Some no)) in
    omega arith

pub elements_are : {r s : Reading} → r ≡ s → r.elements ≡ s.elements
elements_are e = ap (λ (y : Reading). y.elements) e

-- ---- expansions

-- The expansion of an expression of n nodes and some cost, which reads so many elements: at most half of the nodes make a variable, and each choice ends three blocks.
pub record Sized (n cost elements : ℕ) (o : Out) : Type 0 where
  pub types : 2 * length o.types + 1 ≤ n
  pub blocks : blocks_of o.before ≡ 3 * length o.types
  pub steps : steps_of o.before + kind_price o.kind ≤ cost
  pub accesses : accesses_of o.before + reads o.kind ≤ elements

-- the same of several expressions
pub record AllSized (n cost elements : ℕ) (o : Outs) : Type 0 where
  pub types : 2 * length o.types ≤ n
  pub blocks : blocks_of o.before ≡ 3 * length o.types
  pub steps : steps_of o.before + sum_by (λ e. 4 + expr_price e) o.exprs ≤ cost
  pub accesses : accesses_of o.before + sum_by expr_reads o.exprs ≤ elements

whole_sized : (e : TypedExprKind) → 1 ≤ typed_kind_nodes e → Sized (typed_kind_nodes e) (kind_cost e) (reads e) (whole e)
whole_sized e some = record { types = omega arith; blocks = refl; steps = let k = kind_kept e in omega arith; accesses = omega arith }

joined_sized : (op : Binary) (n n2 c c2 r r2 : ℕ) (t t2 : Ty) (at at2 : Span) (o o2 : Out) → Sized n c r o → Sized n2 c2 r2 o2 → Sized (1 + n + n2) (operator_cost op + c + c2) (r + r2) (joined_out op o t at o2 t2 at2)
joined_sized op n n2 c c2 r r2 t t2 at at2 o o2 h i =
    let a = of_type o.kind t at in
    let b = of_type o2.kind t2 at2 in
    let l = length-append o.types o2.types in
    let z = append_sizes o.before o2.before (blocks_of o.before) (steps_of o.before) (accesses_of o.before) (blocks_of o2.before) (steps_of o2.before) (accesses_of o2.before) (own_sizes o.before) (own_sizes o2.before) in
    omega (arith, price_binary op a b, operator_kept op, elements_are (reading_binary op a b))

-- a choice after the settings of its condition; one variable more
chosen_sized : (v : ℕ) (n n2 c r : ℕ) (cost elements : ℕ) (t : Ty) (at s : Span) (o : Out) (before before2 : List NormalStmt) (e e2 : TypedExpr) (types : List Ty) → Sized n c r o → blocks_of before + blocks_of before2 ≡ 3 * length types → 2 * length types + 1 ≤ n2
    → c + 7 + (steps_of before + expr_price e) + (steps_of before2 + expr_price e2) ≤ cost → r + (accesses_of before + expr_reads e) + (accesses_of before2 + expr_reads e2) ≤ elements
    → (all : List Ty) → length all ≡ length o.types + length types + 1
    → Sized (1 + n + n2) cost elements (record { before = o.before ++ choice v (of_type o.kind t at) (side v before e s) (side v before2 e2 s) s ∷ []; kind = expr.Var v; types = all })
chosen_sized v n n2 c r cost elements t at s o before before2 e e2 types h three half cheap few all long =
    let cond = of_type o.kind t at in
    let x = choice v cond (side v before e s) (side v before2 e2 s) s in
    let b = blocks_of before + blocks_of before2 + 3 in
    let d = expr_price cond + 2 + (steps_of before + (2 + expr_price e)) + (steps_of before2 + (2 + expr_price e2)) in
    let a = expr_reads cond + (accesses_of before + expr_reads e) + (accesses_of before2 + expr_reads e2) in
    let z = append_sizes o.before (x ∷ []) (blocks_of o.before) (steps_of o.before) (accesses_of o.before) b d a (own_sizes o.before) (one_sizes x b d a (choice_sizes v cond e e2 before before2 s)) in
    omega (arith, price_variable v, elements_are (reading_variable v))

constant_price : (m : ℕ) (s : Span) → expr_price (constant m s) ≡ 1
constant_price m s = price_number m

constant_reads : (m : ℕ) (s : Span) → expr_reads (constant m s) ≡ 0
constant_reads m s = elements_are (reading_number m)

truth_price : (e : TypedExpr) (s : Span) → expr_price (truth_of e s) ≡ 5 + expr_price e
truth_price e s = let p = price_choice e (constant 1 s) (constant 0 s) in let a = constant_price 1 s in let b = constant_price 0 s in omega arith

truth_reads : (e : TypedExpr) (s : Span) → expr_reads (truth_of e s) ≡ expr_reads e
truth_reads e s = let p = elements_are (reading_choice e (constant 1 s) (constant 0 s)) in let a = constant_reads 1 s in let b = constant_reads 0 s in omega arith

three_long : (xs ys : List Ty) (t : Ty) → length (xs ++ (ys ++ t ∷ [])) ≡ length xs + length ys + 1
three_long xs ys t = let e = length-append xs (ys ++ t ∷ []) in let d = length-append ys (t ∷ []) in omega arith

logical_sized : (d : Bool) (v n n2 c c2 r r2 : ℕ) (t t2 : Ty) (at at2 s : Span) (o o2 : Out) → Sized n c r o → Sized n2 c2 r2 o2 → Sized (1 + n + n2) (13 + c + c2) (r + r2) (logical_out d v o t at o2 t2 at2 s)
logical_sized false v n n2 c c2 r r2 t t2 at at2 s o o2 h i =
    let b = of_type o2.kind t2 at2 in
    let p = truth_price b s in let q = truth_reads b s in let m = constant_price 0 s in let w = constant_reads 0 s in
    chosen_sized v n n2 c r (13 + c + c2) (r + r2) t at s o o2.before [] (truth_of b s) (constant 0 s) o2.types h (let u = i.blocks in omega arith) (let u = i.types in omega arith) (let u = i.steps in omega arith) (let u = i.accesses in omega arith)
    (o.types ++ (o2.types ++ I32 ∷ [])) (three_long o.types o2.types I32)
logical_sized true v n n2 c c2 r r2 t t2 at at2 s o o2 h i =
    let b = of_type o2.kind t2 at2 in
    let p = truth_price b s in let q = truth_reads b s in let m = constant_price 1 s in let w = constant_reads 1 s in
    chosen_sized v n n2 c r (13 + c + c2) (r + r2) t at s o [] o2.before (constant 1 s) (truth_of b s) o2.types h (let u = i.blocks in omega arith) (let u = i.types in omega arith) (let u = i.steps in omega arith) (let u = i.accesses in omega arith)
    (o.types ++ (o2.types ++ I32 ∷ [])) (three_long o.types o2.types I32)

-- an operator that one operand may decide, under whatever profile
logical_cost : (op : Binary) (d : Bool) → decided_by op ≡ Some d → operator_cost op ≡ 13
logical_cost op d e = let l = decides Plain op d e in l.cost

binary_sized : (op : Binary) (d : Option Bool) (z : Bool) (kind : TypedExprKind) (v n n2 c c2 r r2 : ℕ) (t t2 : Ty) (at at2 s : Span) (o o2 : Out) → decided_by op ≡ d → Sized (1 + n + n2) (operator_cost op + c + c2) (r + r2) (whole kind) → Sized n c r o → Sized n2 c2 r2 o2
    → Sized (1 + n + n2) (operator_cost op + c + c2) (r + r2) (binary_out d z kind op v o t at o2 t2 at2 s)
binary_sized op None z kind v n n2 c c2 r r2 t t2 at at2 s o o2 e w h i = joined_sized op n n2 c c2 r r2 t t2 at at2 o o2 h i
binary_sized op (Some d) true kind v n n2 c c2 r r2 t t2 at at2 s o o2 e w h i = w
binary_sized op (Some d) false kind v n n2 c c2 r r2 t t2 at at2 s o o2 e w h i =
    let x = logical_sized d v n n2 c c2 r r2 t t2 at at2 s o o2 h i in
    let is = logical_cost op d e in
    record { types = x.types; blocks = x.blocks; steps = let u = x.steps in omega arith; accesses = x.accesses }

choose_sized : (z : Bool) (x y : TypedExpr) (v n n2 n3 c c2 c3 r r2 r3 : ℕ) (t t2 t3 ty : Ty) (at at2 at3 s : Span) (o o2 o3 : Out) → expr_price x ≤ c2 → expr_price y ≤ c3 → expr_reads x ≤ r2 → expr_reads y ≤ r3 → Sized n c r o → Sized n2 c2 r2 o2 → Sized n3 c3 r3 o3
    → Sized (1 + n + n2 + n3) (7 + c + c2 + c3) (r + r2 + r3) (choose_out z x y v o t at o2 t2 at2 o3 t3 at3 ty s)
choose_sized true x y v n n2 n3 c c2 c3 r r2 r3 t t2 t3 ty at at2 at3 s o o2 o3 px py rx ry h i j =
    let cond = of_type o.kind t at in
    omega (arith, price_choice cond x y, elements_are (reading_choice cond x y))
choose_sized false x y v n n2 n3 c c2 c3 r r2 r3 t t2 t3 ty at at2 at3 s o o2 o3 px py rx ry h i j =
    let e2 = of_type o2.kind t2 at2 in
    let e3 = of_type o3.kind t3 at3 in
    let l = length-append o2.types o3.types in
    let l2 = length-append o3.types (ty ∷ []) in
    let l3 = length-append o2.types (o3.types ++ ty ∷ []) in
    let l4 = length-append o.types (o2.types ++ (o3.types ++ ty ∷ [])) in
    let q = chosen_sized v n (n2 + n3) c r (7 + c + c2 + c3) (r + r2 + r3) t at s o o2.before o3.before e2 e3 (o2.types ++ o3.types) h (let u = i.blocks in let w = j.blocks in omega arith) (let u = i.types in let w = j.types in omega arith)
    (let u = i.steps in let w = j.steps in omega arith) (let u = i.accesses in let w = j.accesses in omega arith) (o.types ++ (o2.types ++ (o3.types ++ ty ∷ []))) (omega arith) in
    record { types = let u = q.types in omega arith; blocks = q.blocks; steps = q.steps; accesses = q.accesses }

more_sized : (n m c d r q : ℕ) (t : Ty) (at : Span) (o : Out) (p : Outs) → Sized n c r o → AllSized m d q p → AllSized (n + m) (4 + c + d) (r + q) (record { before = o.before ++ p.before; exprs = of_type o.kind t at ∷ p.exprs; types = o.types ++ p.types })
more_sized n m c d r q t at o p h i =
    let e = of_type o.kind t at in
    let l = length-append o.types p.types in
    let z = append_sizes o.before p.before (blocks_of o.before) (steps_of o.before) (accesses_of o.before) (blocks_of p.before) (steps_of p.before) (accesses_of p.before) (own_sizes o.before) (own_sizes p.before) in
    omega (arith, sum_by-cons (λ e. 4 + expr_price e) e p.exprs, sum_by-cons expr_reads e p.exprs)

none_sized : AllSized 0 0 0 (record { before = []; exprs = []; types = [] })
none_sized = record { types = omega arith; blocks = refl; steps = omega arith; accesses = omega arith }

mutual
  pub sized : (e : TypedExprKind) (ty : Ty) (s : Span) (f : ℕ) → Sized (typed_kind_nodes e) (kind_cost e) (reads e) (expand f e ty s)
  sized (tree.Number n) ty s f = whole_sized (tree.Number n) (omega arith)
  sized (tree.Var v) ty s f = whole_sized (tree.Var v) (omega arith)
  sized (tree.Element' a n row) ty s f =
      let o = expand_row f row in
      let h = row_sized row f in
      omega (arith, price_element a o.exprs, elements_are (reading_element a o.exprs))
  sized (tree.Unary' op b (more_of-TypedExpr e t at end_of-TypedExpr)) ty s f =
      let o = expand f e t at in
      let h = sized e t at f in
      omega (arith, price_unary op (of_type o.kind t at), elements_are (reading_unary op (of_type o.kind t at)))
  sized (tree.Cast' true b (more_of-TypedExpr e t at end_of-TypedExpr)) ty s f =
      let o = expand f e t at in
      let h = sized e t at f in
      omega (arith, price_cast true (of_type o.kind t at), elements_are (reading_cast true (of_type o.kind t at)))
  sized (tree.Cast' false b (more_of-TypedExpr e t at end_of-TypedExpr)) ty s f =
      let o = expand f e t at in
      let h = sized e t at f in
      omega (arith, price_cast false (of_type o.kind t at), elements_are (reading_cast false (of_type o.kind t at)))
  sized (tree.Binary' op b (more_of-TypedExpr e t at end_of-TypedExpr) b2 (more_of-TypedExpr e2 t2 at2 end_of-TypedExpr)) ty s f =
      let o = expand f e t at in
      let g = f + length o.types in
      let o2 = expand g e2 t2 at2 in
      let kind = tree.Binary' op b (more_of-TypedExpr e t at end_of-TypedExpr) b2 (more_of-TypedExpr e2 t2 at2 end_of-TypedExpr) in
      binary_sized op (decided_by op) (reads e + reads e2 == 0) kind (g + length o2.types) (typed_kind_nodes e) (typed_kind_nodes e2) (kind_cost e) (kind_cost e2) (reads e) (reads e2) t t2 at at2 s o o2 refl (whole_sized kind (omega arith)) (sized e t at f) (sized e2 t2 at2 g)
  sized (tree.Choose' b (more_of-TypedExpr e t at end_of-TypedExpr) b2 (more_of-TypedExpr e2 t2 at2 end_of-TypedExpr) b3 (more_of-TypedExpr e3 t3 at3 end_of-TypedExpr)) ty s f =
      let o = expand f e t at in
      let g = f + length o.types in
      let o2 = expand g e2 t2 at2 in
      let i = g + length o2.types in
      let o3 = expand i e3 t3 at3 in
      choose_sized (reads e2 + reads e3 == 0) (of_type e2 t2 at2) (of_type e3 t3 at3) (i + length o3.types) (typed_kind_nodes e) (typed_kind_nodes e2) (typed_kind_nodes e3) (kind_cost e) (kind_cost e2) (kind_cost e3) (reads e) (reads e2) (reads e3) t t2 t3 ty at at2 at3 s o o2 o3
      (kind_kept e2) (kind_kept e3) (omega arith) (omega arith) (sized e t at f) (sized e2 t2 at2 g) (sized e3 t3 at3 i)

  row_sized : {n : Count} (row : Row_of-TypedExpr n) (f : ℕ) → AllSized (typed_row_nodes row) (row_cost row) (reads_row row) (expand_row f row)
  row_sized end_of-TypedExpr f = none_sized
  row_sized (more_of-TypedExpr e t at row) f =
      let o = expand f e t at in
      let g = f + length o.types in
      more_sized (typed_kind_nodes e) (typed_row_nodes row) (kind_cost e) (row_cost row) (reads e) (reads_row row) t at o (expand_row g row) (sized e t at f) (row_sized row g)

-- ---- the indices of a target

pub all_sized : (es : List TypedExpr) (f : ℕ) → AllSized (typed_exprs_nodes es) (4 * length es + costs es) (sum_by expr_reads es) (expand_all f es)
all_sized [] f = none_sized
all_sized (e ∷ es) f =
    let o = expand_expr f e in
    let g = f + length o.types in
    let x = more_sized (typed_expr_nodes e) (typed_exprs_nodes es) (kind_cost e.kind) (4 * length es + costs es) (expr_reads e) (sum_by expr_reads es) e.ty e.at o (expand_all g es) (sized e.kind e.ty e.at f) (all_sized es g) in
    let p = sum_by-cons typed_expr_nodes e es in
    let q = sum_by-cons expr_reads e es in
    record { types = let u = x.types in omega arith; blocks = x.blocks; steps = let u = x.steps in omega arith; accesses = let u = x.accesses in omega arith }

-- indices that are set to variables, one more for each
pub record SetSized (n count cost elements : ℕ) (o : Outs) : Type 0 where
  pub blocks : blocks_of o.before + 4 * length o.types ≤ 4 * n
  pub steps : steps_of o.before ≤ cost
  pub accesses : accesses_of o.before ≤ elements
  pub price : sum_by (λ e. 4 + expr_price e) o.exprs ≡ 5 * count
  pub reads : sum_by expr_reads o.exprs ≡ 0

pub set_sized : (es : List TypedExpr) (f : ℕ) → SetSized (typed_exprs_nodes es) (length es) (2 * length es + costs es) (sum_by expr_reads es) (set_all f es)
set_sized [] f = record { blocks = omega arith; steps = omega arith; accesses = omega arith; price = refl; reads = refl }
set_sized (e ∷ es) f =
    let o = expand_expr f e in
    let v = f + length o.types in
    let r = set_all (v + 1) es in
    let x = sized e.kind e.ty e.at f in
    let y = set_sized es (v + 1) in
    let st = setting v (rest_of o e) e.at in
    let var = of_type (expr.Var v) e.ty e.at in
    let a = setting_sizes v (rest_of o e) e.at in
    let l = length-append o.types (e.ty ∷ r.types) in
    let n = sum_by-cons typed_expr_nodes e es in
    omega (arith, sum_by-append (λ (y : NormalStmt). closes y.kind) o.before (st ∷ r.before), sum_by-cons (λ (y : NormalStmt). closes y.kind) st r.before, sum_by-append (λ (y : NormalStmt). steps y.kind) o.before (st ∷ r.before), sum_by-cons (λ (y : NormalStmt). steps y.kind) st r.before, sum_by-append (λ (y : NormalStmt). accesses y.kind) o.before (st ∷ r.before), sum_by-cons (λ (y : NormalStmt). accesses y.kind) st r.before, sum_by-cons expr_reads e es, sum_by-cons (λ e. 4 + expr_price e) var r.exprs, price_variable v, sum_by-cons expr_reads var r.exprs, elements_are (reading_variable v))
