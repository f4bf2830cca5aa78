-- The tests say yes of a well-formed graph, and of no other.
use Rattle.std.proofs.Common.{◌≡◌, ◌<◌, ◌==◌, ◌^◌, ◌&&◌, nat_lt, ℕ, Bool, true, false, cond, List, [], ◌∷◌, ◌++◌, map, slice_get, Option, Some, None, refl, sym, ap, ◌∙◌, subst, arith}
use Rattle.std.specs.Prelude.{All}
use Rattle.std.proofs.lemmas.Bool.Decides.{nat_tests}
use Rattle.std.proofs.lemmas.List.Elements.{All-cons, All-nil, All-head, All-tail}
use Rattle.el_base.specs.declared.ty.Ty.{Ty}
use Rattle.el_base.specs.declared.ty.Array.{Array}
use Rattle.el_base.specs.declared.ty.Scalar.{Scalar}
use Rattle.el_base.specs.Widths.{ty_width, op1_in, op2_in}
use Rattle.net_types.specs.Rules.{is_width}
use Rattle.ir.specs.declared.graph.Block.{Block}
use Rattle.ir.specs.declared.graph.Jump.{Jump}
use Rattle.ir.specs.declared.graph.Jump.TheVariants.{Go, Two, Return}
use Rattle.ir.specs.declared.graph.To.{To}
use Rattle.ir.specs.declared.instr.Instr.{Instr}
use Rattle.ir.specs.declared.instr.Instr.TheVariants as step
use Rattle.ir.specs.Shapes.{Shape, IsWidth, IsOfWidth, IsArray, StepFits, StepsFit, element_width, step_width, shape_after}
use Rattle.ir.specs.Graphs.{Graph, AreHanded, IsTarget, IsReturn, IsJump, IsBlock, IsGraph, shape_of}
use Rattle.graph_check.specs.Fits.{width_is, has_width, load_fits, store_fits, step_fits, shape_if, handed_fit, takes, target_fits, return_fits, jump_fits, ends_well, widths_fit, block_fits, blocks_fit, same_numbers, enters, graph_fits}

-- ---- tests

never : {A : Type 0} → false ≡ true → A
never h = absurd (cc)

both : (a b : Bool) → (a && b) ≡ true → (a ≡ true) × (b ≡ true)
both true b h = (refl, h)
both false b h = never h

all_two : (a b : Bool) → a ≡ true → b ≡ true → (a && b) ≡ true
all_two a b h k = ap (λ x. x && b) h ∙ k

equal : (a b : ℕ) → (a == b) ≡ true → a ≡ b
equal a b h = grind (arith, nat_tests)

equal_is : (a b : ℕ) → a ≡ b → (a == b) ≡ true
equal_is a b h = grind (arith, nat_tests)

less : (a b : ℕ) → nat_lt a b ≡ true → a < b
less a b h = grind (arith, nat_tests)

less_is : (a b : ℕ) → a < b → nat_lt a b ≡ true
less_is a b h = grind (arith, nat_tests)

-- ---- widths

width_yes : (w : ℕ) → is_width w ≡ true → IsWidth w
width_yes w h = grind (arith, nat_tests)

width_is_so : (w : ℕ) → IsWidth w → is_width w ≡ true
width_is_so w h = grind (arith, nat_tests)

value_yes : (w : ℕ) (o : Option (Option ℕ)) → width_is w o ≡ true → o ≡ Some (Some w)
value_yes w None h = never h
value_yes w (Some None) h = never h
value_yes w (Some (Some x)) h = ap (λ y. Some (Some y)) (equal x w h)

value_so : (w : ℕ) (o : Option (Option ℕ)) → o ≡ Some (Some w) → width_is w o ≡ true
value_so w o h = ap (width_is w) h ∙ equal_is w w refl

-- ---- arrays

array_yes : (arrays : List Array) (a : ℕ) (o : Option Array) (w : ℕ) → slice_get arrays a ≡ o → element_width o ≡ Some w → IsArray arrays a w
array_yes arrays a None w e h = absurd (cc)
array_yes arrays a (Some x) w e h = (x, e, same_some (ty_width x.ty) w h)
  where
    same_some : (n m : ℕ) → Some n ≡ Some m → n ≡ m
    same_some n m h = cc

array_so : (arrays : List Array) (a w : ℕ) → IsArray arrays a w → element_width (slice_get arrays a) ≡ Some w
array_so arrays a w (x, e, t) = ap element_width e ∙ ap (λ n. Some n) t

-- ---- steps

load_yes : (arrays : List Array) (ws : Shape) (a p : ℕ) (o : Option ℕ) → element_width (slice_get arrays a) ≡ o → load_fits o ws p ≡ true → (w : ℕ) × IsArray arrays a w × IsOfWidth ws p 64
load_yes arrays ws a p None e h = never h
load_yes arrays ws a p (Some w) e h = (w, array_yes arrays a (slice_get arrays a) w refl e, value_yes 64 (slice_get ws p) h)

store_yes : (arrays : List Array) (ws : Shape) (a p v : ℕ) (o : Option ℕ) → element_width (slice_get arrays a) ≡ o → store_fits o ws p v ≡ true
    → (w : ℕ) × IsArray arrays a w × IsOfWidth ws p 64 × IsOfWidth ws v w
store_yes arrays ws a p v None e h = never h
store_yes arrays ws a p v (Some w) e h =
    let b = both (has_width ws p 64) (has_width ws v w) h in
    (w, array_yes arrays a (slice_get arrays a) w refl e, value_yes 64 (slice_get ws p) b.0, value_yes w (slice_get ws v) b.1)

step_yes : (arrays : List Array) (ws : Shape) (i : Instr) → step_fits arrays ws i ≡ true → StepFits arrays ws i
step_yes arrays ws (step.Const w n) h = let b = both (is_width w) (nat_lt n (2 ^ w)) h in (width_yes w b.0, less n (2 ^ w) b.1)
step_yes arrays ws (step.One op a) h = value_yes (op1_in op) (slice_get ws a) h
step_yes arrays ws (step.Two op a b) h =
    let t = both (has_width ws a (op2_in op)) (has_width ws b (op2_in op)) h in
    (value_yes (op2_in op) (slice_get ws a) t.0, value_yes (op2_in op) (slice_get ws b) t.1)
step_yes arrays ws (step.Select w c a b) h =
    let s = both (is_width w) (has_width ws c 32 && (has_width ws a w && has_width ws b w)) h in
    let t = both (has_width ws c 32) (has_width ws a w && has_width ws b w) s.1 in
    let u = both (has_width ws a w) (has_width ws b w) t.1 in
    (width_yes w s.0, value_yes 32 (slice_get ws c) t.0, value_yes w (slice_get ws a) u.0, value_yes w (slice_get ws b) u.1)
step_yes arrays ws (step.Load a p) h = load_yes arrays ws a p (element_width (slice_get arrays a)) refl h
step_yes arrays ws (step.Store a p v) h = store_yes arrays ws a p v (element_width (slice_get arrays a)) refl h

step_so : (arrays : List Array) (ws : Shape) (i : Instr) → StepFits arrays ws i → step_fits arrays ws i ≡ true
step_so arrays ws (step.Const w n) h = all_two (is_width w) (nat_lt n (2 ^ w)) (width_is_so w h.0) (less_is n (2 ^ w) h.1)
step_so arrays ws (step.One op a) h = value_so (op1_in op) (slice_get ws a) h
step_so arrays ws (step.Two op a b) h =
    all_two (has_width ws a (op2_in op)) (has_width ws b (op2_in op)) (value_so (op2_in op) (slice_get ws a) h.0) (value_so (op2_in op) (slice_get ws b) h.1)
step_so arrays ws (step.Select w c a b) (k, x, y, z) =
    all_two (is_width w) (has_width ws c 32 && (has_width ws a w && has_width ws b w)) (width_is_so w k)
    (all_two (has_width ws c 32) (has_width ws a w && has_width ws b w) (value_so 32 (slice_get ws c) x)
    (all_two (has_width ws a w) (has_width ws b w) (value_so w (slice_get ws a) y) (value_so w (slice_get ws b) z)))
step_so arrays ws (step.Load a p) (w, x, y) = ap (λ o. load_fits o ws p) (array_so arrays a w x) ∙ value_so 64 (slice_get ws p) y
step_so arrays ws (step.Store a p v) (w, x, y, z) =
    ap (λ o. store_fits o ws p v) (array_so arrays a w x) ∙ all_two (has_width ws p 64) (has_width ws v w) (value_so 64 (slice_get ws p) y) (value_so w (slice_get ws v) z)

shape_yes : (arrays : List Array) (is : List Instr) (ws out : Shape) → shape_if arrays ws is ≡ Some out → StepsFit arrays ws is × (shape_after arrays ws is ≡ out)
shape_yes arrays [] ws out h = (tt, same_some ws out h)
  where
    same_some : (n m : Shape) → Some n ≡ Some m → n ≡ m
    same_some n m h = cc
shape_yes arrays (i ∷ is) ws out h = by_test (step_fits arrays ws i) refl h (λ k. shape_yes arrays is (ws ++ step_width arrays i ∷ []) out k)
  where
    by_test : (t : Bool) → step_fits arrays ws i ≡ t → cond t (shape_if arrays (ws ++ step_width arrays i ∷ []) is) None ≡ Some out
        → (shape_if arrays (ws ++ step_width arrays i ∷ []) is ≡ Some out → StepsFit arrays (ws ++ step_width arrays i ∷ []) is × (shape_after arrays (ws ++ step_width arrays i ∷ []) is ≡ out))
        → (StepFits arrays ws i × StepsFit arrays (ws ++ step_width arrays i ∷ []) is) × (shape_after arrays (ws ++ step_width arrays i ∷ []) is ≡ out)
    by_test true e k rest = let r = rest k in ((step_yes arrays ws i e, r.0), r.1)
    by_test false e k rest = absurd (cc)

shape_so : (arrays : List Array) (is : List Instr) (ws : Shape) → StepsFit arrays ws is → shape_if arrays ws is ≡ Some (shape_after arrays ws is)
shape_so arrays [] ws h = refl
shape_so arrays (i ∷ is) ws h =
    ap (λ t. cond t (shape_if arrays (ws ++ step_width arrays i ∷ []) is) None) (step_so arrays ws i h.0) ∙ shape_so arrays is (ws ++ step_width arrays i ∷ []) h.1

-- ---- jumps

handed_yes : (ws : Shape) (vs args : List ℕ) → handed_fit ws vs args ≡ true → AreHanded ws vs args
handed_yes ws [] [] h = tt
handed_yes ws (v ∷ vs) (w ∷ args) h = let b = both (has_width ws v w) (handed_fit ws vs args) h in (value_yes w (slice_get ws v) b.0, handed_yes ws vs args b.1)
handed_yes ws [] (w ∷ args) h = never h
handed_yes ws (v ∷ vs) [] h = never h

handed_so : (ws : Shape) (vs args : List ℕ) → AreHanded ws vs args → handed_fit ws vs args ≡ true
handed_so ws [] [] h = refl
handed_so ws (v ∷ vs) (w ∷ args) h = all_two (has_width ws v w) (handed_fit ws vs args) (value_so w (slice_get ws v) h.0) (handed_so ws vs args h.1)
handed_so ws [] (w ∷ args) h = absurd h
handed_so ws (v ∷ vs) [] h = absurd h

target_yes : (blocks : List Block) (ws : Shape) (to : To) → target_fits blocks ws to ≡ true → IsTarget blocks ws to
target_yes blocks ws to h = let b = both (nat_lt 0 to.block) (takes (slice_get blocks to.block) ws to.with) h in found (slice_get blocks to.block) refl b.0 b.1
  where
    found : (o : Option Block) → slice_get blocks to.block ≡ o → nat_lt 0 to.block ≡ true → takes o ws to.with ≡ true → IsTarget blocks ws to
    found None e l k = never k
    found (Some b) e l k = record { block = b; exists = e; no_entry = less 0 to.block l; handed = handed_yes ws to.with b.args k }

target_so : (blocks : List Block) (ws : Shape) (to : To) → IsTarget blocks ws to → target_fits blocks ws to ≡ true
target_so blocks ws to h =
    all_two (nat_lt 0 to.block) (takes (slice_get blocks to.block) ws to.with) (less_is 0 to.block h.no_entry)
    (ap (λ o. takes o ws to.with) h.exists ∙ handed_so ws to.with h.block.args h.handed)

return_yes : (t : Option Ty) (ws : Shape) (v : Option ℕ) → return_fits t ws v ≡ true → IsReturn t ws v
return_yes None ws None h = tt
return_yes (Some t) ws (Some v) h = value_yes (ty_width t) (slice_get ws v) h
return_yes None ws (Some v) h = never h
return_yes (Some t) ws None h = never h

return_so : (t : Option Ty) (ws : Shape) (v : Option ℕ) → IsReturn t ws v → return_fits t ws v ≡ true
return_so None ws None h = refl
return_so (Some t) ws (Some v) h = value_so (ty_width t) (slice_get ws v) h
return_so None ws (Some v) h = absurd h
return_so (Some t) ws None h = absurd h

jump_yes : (g : Graph) (ws : Shape) (j : Jump) → jump_fits g.result g.blocks ws j ≡ true → IsJump g ws j
jump_yes g ws (Go to) h = target_yes g.blocks ws to h
jump_yes g ws (Two c yes_part no_part) h =
    let s = both (has_width ws c 32) (target_fits g.blocks ws yes_part && target_fits g.blocks ws no_part) h in
    let t = both (target_fits g.blocks ws yes_part) (target_fits g.blocks ws no_part) s.1 in
    (value_yes 32 (slice_get ws c) s.0, target_yes g.blocks ws yes_part t.0, target_yes g.blocks ws no_part t.1)
jump_yes g ws (Return v) h = return_yes g.result ws v h

jump_so : (g : Graph) (ws : Shape) (j : Jump) → IsJump g ws j → jump_fits g.result g.blocks ws j ≡ true
jump_so g ws (Go to) h = target_so g.blocks ws to h
jump_so g ws (Two c yes_part no_part) (x, y, z) =
    all_two (has_width ws c 32) (target_fits g.blocks ws yes_part && target_fits g.blocks ws no_part) (value_so 32 (slice_get ws c) x)
    (all_two (target_fits g.blocks ws yes_part) (target_fits g.blocks ws no_part) (target_so g.blocks ws yes_part y) (target_so g.blocks ws no_part z))
jump_so g ws (Return v) h = return_so g.result ws v h

-- ---- blocks

widths_yes : (ws : List ℕ) → widths_fit ws ≡ true → All IsWidth ws
widths_yes [] h = All-nil IsWidth
widths_yes (w ∷ ws) h = by_test (is_width w) refl h (λ k. widths_yes ws k)
  where
    by_test : (t : Bool) → is_width w ≡ t → cond t (widths_fit ws) false ≡ true → (widths_fit ws ≡ true → All IsWidth ws) → All IsWidth (w ∷ ws)
    by_test true e k rest = All-cons IsWidth w ws (width_yes w e) (rest k)
    by_test false e k rest = never k

widths_so : (ws : List ℕ) → All IsWidth ws → widths_fit ws ≡ true
widths_so [] h = refl
widths_so (w ∷ ws) h = ap (λ t. cond t (widths_fit ws) false) (width_is_so w (All-head IsWidth w ws h)) ∙ widths_so ws (All-tail IsWidth w ws h)

block_yes : (g : Graph) (b : Block) → block_fits g.arrays g.result g.blocks b ≡ true → IsBlock g b
block_yes g b h =
    let t = both (widths_fit b.args) (ends_well g.result g.blocks (shape_if g.arrays (map Some b.args) b.steps) b.jump) h in
    found (shape_if g.arrays (map Some b.args) b.steps) refl t.0 t.1
  where
    found : (o : Option Shape) → shape_if g.arrays (map Some b.args) b.steps ≡ o → widths_fit b.args ≡ true → ends_well g.result g.blocks o b.jump ≡ true → IsBlock g b
    found None e a k = never k
    found (Some ws) e a k =
        let s = shape_yes g.arrays b.steps (map Some b.args) ws e in
        record { args = widths_yes b.args a; steps = s.0; jump = subst (λ us. IsJump g us b.jump) (sym s.1) (jump_yes g ws b.jump k) }

block_so : (g : Graph) (b : Block) → IsBlock g b → block_fits g.arrays g.result g.blocks b ≡ true
block_so g b h =
    all_two (widths_fit b.args) (ends_well g.result g.blocks (shape_if g.arrays (map Some b.args) b.steps) b.jump) (widths_so b.args h.args)
    (ap (λ o. ends_well g.result g.blocks o b.jump) (shape_so g.arrays b.steps (map Some b.args) h.steps) ∙ jump_so g (shape_of g b) b.jump h.jump)

blocks_yes : (g : Graph) (bs : List Block) → blocks_fit g.arrays g.result g.blocks bs ≡ true → All (IsBlock g) bs
blocks_yes g [] h = All-nil (IsBlock g)
blocks_yes g (b ∷ bs) h = by_test (block_fits g.arrays g.result g.blocks b) refl h (λ k. blocks_yes g bs k)
  where
    by_test : (t : Bool) → block_fits g.arrays g.result g.blocks b ≡ t → cond t (blocks_fit g.arrays g.result g.blocks bs) false ≡ true
        → (blocks_fit g.arrays g.result g.blocks bs ≡ true → All (IsBlock g) bs) → All (IsBlock g) (b ∷ bs)
    by_test true e k rest = All-cons (IsBlock g) b bs (block_yes g b e) (rest k)
    by_test false e k rest = never k

blocks_so : (g : Graph) (bs : List Block) → All (IsBlock g) bs → blocks_fit g.arrays g.result g.blocks bs ≡ true
blocks_so g [] h = refl
blocks_so g (b ∷ bs) h =
    ap (λ t. cond t (blocks_fit g.arrays g.result g.blocks bs) false) (block_so g b (All-head (IsBlock g) b bs h)) ∙ blocks_so g bs (All-tail (IsBlock g) b bs h)

-- ---- graphs

numbers_yes : (xs ys : List ℕ) → same_numbers xs ys ≡ true → xs ≡ ys
numbers_yes [] [] h = refl
numbers_yes (x ∷ xs) (y ∷ ys) h = let b = both (x == y) (same_numbers xs ys) h in ap (λ n. n ∷ xs) (equal x y b.0) ∙ ap (λ ns. y ∷ ns) (numbers_yes xs ys b.1)
numbers_yes [] (y ∷ ys) h = never h
numbers_yes (x ∷ xs) [] h = never h

numbers_same : (xs : List ℕ) → same_numbers xs xs ≡ true
numbers_same [] = refl
numbers_same (x ∷ xs) = all_two (x == x) (same_numbers xs xs) (equal_is x x refl) (numbers_same xs)

abbrev scalar_widths : Graph → List ℕ
scalar_widths g = map (λ (s : Scalar). ty_width s.ty) g.scalars

pub graph_yes : (g : Graph) → graph_fits g ≡ true → IsGraph g
graph_yes g h =
    let t = both (enters (slice_get g.blocks 0) (scalar_widths g)) (blocks_fit g.arrays g.result g.blocks g.blocks) h in
    found (slice_get g.blocks 0) refl t.0 t.1
  where
    found : (o : Option Block) → slice_get g.blocks 0 ≡ o → enters o (scalar_widths g) ≡ true → blocks_fit g.arrays g.result g.blocks g.blocks ≡ true → IsGraph g
    found None e a k = never a
    found (Some b) e a k = record { blocks = blocks_yes g g.blocks k; entry = b; first = e; scalars = numbers_yes b.args (scalar_widths g) a }

graph_so : (g : Graph) → IsGraph g → graph_fits g ≡ true
graph_so g h =
    all_two (enters (slice_get g.blocks 0) (scalar_widths g)) (blocks_fit g.arrays g.result g.blocks g.blocks)
    (ap (λ o. enters o (scalar_widths g)) h.first ∙ ap (λ ws. same_numbers ws (scalar_widths g)) h.scalars ∙ numbers_same (scalar_widths g))
    (blocks_so g g.blocks h.blocks)

pub graph_no : (g : Graph) → graph_fits g ≡ false → ¬ (IsGraph g)
graph_no g h is = never (sym h ∙ graph_so g is)

-- of the parts as slices show them
pub same_fits : (t : Bool) (name : List ℕ) (result : Option Ty) (ss scalars : List Scalar) (xs arrays : List Array) (bs blocks : List Block)
    → ss ≡ scalars → xs ≡ arrays → bs ≡ blocks
    → t ≡ graph_fits (record { name = name; scalars = ss; arrays = xs; result = result; blocks = bs })
    → graph_fits (record { name = name; scalars = scalars; arrays = arrays; result = result; blocks = blocks }) ≡ t
same_fits t name result ss scalars xs arrays bs blocks p q r h =
    sym (h
    ∙ ap (λ (ys : List Scalar). graph_fits (record { name = name; scalars = ys; arrays = xs; result = result; blocks = bs })) p
    ∙ ap (λ (ys : List Array). graph_fits (record { name = name; scalars = scalars; arrays = ys; result = result; blocks = bs })) q
    ∙ ap (λ (ys : List Block). graph_fits (record { name = name; scalars = scalars; arrays = arrays; result = result; blocks = ys })) r)
