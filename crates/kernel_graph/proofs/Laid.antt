-- The arrays that steps store to, in order. What is laid for operators, conditions and places stores to none.
use Rattle.std.proofs.Common.{◌≡◌, ℕ, ◌+◌, List, [], ◌∷◌, ◌++◌, map, length, Option, Some, None, refl, ◌∙◌, ap}
use Rattle.std.specs.Prelude.{Bool, true, false, ◌&&◌}
use Rattle.std.specs.List.{AllByRecursion, flat_map}
use Rattle.std.proofs.lemmas.Grind.{flat_map-append}
use Rattle.el_base.specs.declared.ty.Ty.{Ty}
use Rattle.el_base.specs.declared.ty.Ty.TheVariants.{I8, U8, I16, U16, I32, U32, I64, U64}
use Rattle.el_base.specs.declared.operation.Op1.{Op1}
use Rattle.el_base.specs.declared.operation.Op1.TheVariants.{Zero32, Zero64, U8to32, U16to32}
use Rattle.el_base.specs.declared.operation.Op2.TheVariants.{Mul64, Add64}
use Rattle.c_ast.specs.declared.tree.Binary.{Binary}
use Rattle.c_ast.specs.declared.tree.Binary.TheVariants.{Shl, Shr, Both, Either}
use Rattle.ir.specs.declared.instr.Instr.{Instr}
use Rattle.ir.specs.declared.instr.Instr.TheVariants.{Const, One, Two, Select, Load, Store}
use Rattle.ir.specs.Renaming.{renamed}
use Rattle.c_meaning.specs.Patterns.{conversion_op}
use Rattle.struct_cfg.specs.Layings.{Laying, no_step, one_step, after, applied, Piece}
use Rattle.struct_cfg.specs.Operators.{converted, flag, zero_test, is_narrow, truth_of, first_else, first_then, both_laid, either_laid, joined, index_laid, next_place, further_places, place_laid}

abbrev pub stored : Instr → List ℕ
stored (Const w n) = []
stored (One op a) = []
stored (Two op a b) = []
stored (Select w c a b) = []
stored (Load a p) = []
stored (Store a p v) = a ∷ []

abbrev pub all_stored : List Instr → List ℕ
all_stored is = flat_map stored is

renamed_stored : (f : ℕ → ℕ) (i : Instr) → stored (renamed f i) ≡ stored i
renamed_stored f (Const w n) = refl
renamed_stored f i = refl

-- other numbers of operands are no other arrays
pub renamed_all_stored : (f : ℕ → ℕ) (is : List Instr) → all_stored (map (renamed f) is) ≡ all_stored is
renamed_all_stored f [] = refl
renamed_all_stored f (i ∷ is) = ap (λ xs. xs ++ all_stored (map (renamed f) is)) (renamed_stored f i) ∙ ap (λ xs. stored i ++ xs) (renamed_all_stored f is)

-- ---- layings

-- wherever it is laid, it stores to these arrays
abbrev pub LaysStores : List ℕ → Laying → Type 0
LaysStores xs a = (n : ℕ) → all_stored (a n).steps ≡ xs

-- to none
abbrev pub Plain : Laying → Type 0
Plain a = LaysStores [] a

pub after_stores : (xs : List ℕ) (a : Laying) (f : ℕ → Laying) → Plain a → ((v : ℕ) → LaysStores xs (f v)) → LaysStores xs (after a f)
unfolding after
after_stores xs a f p q n =
    let x = a n in
    let y = f x.value (n + length x.steps) in
    flat_map-append stored x.steps y.steps ∙ ap (λ us. us ++ all_stored y.steps) (p n) ∙ q x.value (n + length x.steps)

pub after_plain : (a : Laying) (f : ℕ → Laying) → Plain a → ((v : ℕ) → Plain (f v)) → Plain (after a f)
after_plain a f p q = after_stores [] a f p q

pub none_plain : (v : ℕ) → Plain (no_step v)
none_plain v n = refl

pub step_stores : (i : Instr) → LaysStores (stored i ++ []) (one_step i)
step_stores i n = refl

pub applied_plain : (op : Option Op1) (v : ℕ) → Plain (applied op v)
applied_plain None v = none_plain v
applied_plain (Some op) v = step_stores (One op v)

twice_plain : (op op2 : Op1) (v : ℕ) → Plain (after (one_step (One op v)) (λ z. one_step (One op2 z)))
twice_plain op op2 v = after_plain (one_step (One op v)) (λ z. one_step (One op2 z)) (step_stores (One op v)) (λ z. step_stores (One op2 z))

-- ---- operators and conditions

pub flag_plain : (t : Ty) (v : ℕ) → Plain (flag t v)
flag_plain I8 v = step_stores (One U8to32 v)
flag_plain U8 v = step_stores (One U8to32 v)
flag_plain I16 v = step_stores (One U16to32 v)
flag_plain U16 v = step_stores (One U16to32 v)
flag_plain I32 v = none_plain v
flag_plain U32 v = none_plain v
flag_plain I64 v = twice_plain Zero64 Zero32 v
flag_plain U64 v = twice_plain Zero64 Zero32 v

test_plain : (t : Ty) (v : ℕ) → Plain (zero_test t v)
test_plain I8 v = twice_plain U8to32 Zero32 v
test_plain U8 v = twice_plain U8to32 Zero32 v
test_plain I16 v = twice_plain U16to32 Zero32 v
test_plain U16 v = twice_plain U16to32 Zero32 v
test_plain I32 v = step_stores (One Zero32 v)
test_plain U32 v = step_stores (One Zero32 v)
test_plain I64 v = step_stores (One Zero64 v)
test_plain U64 v = step_stores (One Zero64 v)

-- two sides, a selection by them, and what is laid for its value
sides_plain : (a b : Laying) (f : ℕ → ℕ → Laying) (g : ℕ → Laying) → Plain a → Plain b → ((x y : ℕ) → Plain (f x y)) → ((x : ℕ) → Plain (g x)) → Plain (after a (λ x. after b (λ y. after (f x y) g)))
sides_plain a b f g p q h i = after_plain a (λ x. after b (λ y. after (f x y) g)) p (λ x. after_plain b (λ y. after (f x y) g) q (λ y. after_plain (f x y) g (h x y) i))

both_plain : (narrow : Bool) (t u : Ty) (a b : ℕ) → Plain (both_laid narrow t u a b)
both_plain true t u a b = sides_plain (flag t a) (flag u b) first_then truth_of (flag_plain t a) (flag_plain u b) (λ x y n. refl) (λ x. twice_plain Zero32 Zero32 x)
both_plain false t u a b = sides_plain (zero_test t a) (zero_test u b) first_else (λ s. one_step (One Zero32 s)) (test_plain t a) (test_plain u b) (λ x y n. refl) (λ x n. refl)

either_plain : (narrow : Bool) (t u : Ty) (a b : ℕ) → Plain (either_laid narrow t u a b)
either_plain true t u a b = sides_plain (flag t a) (flag u b) first_else truth_of (flag_plain t a) (flag_plain u b) (λ x y n. refl) (λ x. twice_plain Zero32 Zero32 x)
either_plain false t u a b = sides_plain (zero_test t a) (zero_test u b) first_then (λ s. one_step (One Zero32 s)) (test_plain t a) (test_plain u b) (λ x y n. refl) (λ x n. refl)

pub joined_plain : (op : Binary) (t u : Ty) (a b : ℕ) → Plain (joined op t u a b)
joined_plain Shl t u a b = after_plain (converted u t b) _ (applied_plain (conversion_op u t) b) (λ v n. refl)
joined_plain Shr t u a b = after_plain (converted u t b) _ (applied_plain (conversion_op u t) b) (λ v n. refl)
joined_plain Both t u a b = both_plain (is_narrow t && is_narrow u) t u a b
joined_plain Either t u a b = either_plain (is_narrow t && is_narrow u) t u a b
joined_plain op t u a b = λ n. refl

-- ---- places

abbrev pub ArePlain : List Piece → Type 0
ArePlain ps = AllByRecursion (λ (p : Piece). Plain p.laying) ps

index_plain : (p : Piece) → Plain p.laying → Plain (index_laid p)
index_plain p h = after_plain p.laying (λ v. converted p.ty I64 v) h (λ v. applied_plain (conversion_op p.ty I64) v)

next_plain : (at d : ℕ) (p : Piece) → Plain p.laying → Plain (next_place at d p)
next_plain at d p h =
    after_plain (index_laid p) (λ j. after (one_step (Const 64 d)) (λ q. after (one_step (Two Mul64 at q)) (λ m. one_step (Two Add64 m j)))) (index_plain p h)
    (λ j. after_plain (one_step (Const 64 d)) (λ q. after (one_step (Two Mul64 at q)) (λ m. one_step (Two Add64 m j))) (step_stores (Const 64 d))
    (λ q. after_plain (one_step (Two Mul64 at q)) (λ m. one_step (Two Add64 m j)) (step_stores (Two Mul64 at q)) (λ m. step_stores (Two Add64 m j))))

further_plain : (at : ℕ) (ds : List ℕ) (ps : List Piece) → ArePlain ps → Plain (further_places at ds ps)
further_plain at [] ps h = none_plain at
further_plain at (d ∷ ds) [] h = none_plain at
further_plain at (d ∷ ds) (p ∷ ps) h = after_plain (next_place at d p) (λ v. further_places v ds ps) (next_plain at d p h.0) (λ v. further_plain v ds ps h.1)

pub place_plain : (ds : List ℕ) (ps : List Piece) → ArePlain ps → Plain (place_laid ds ps)
place_plain [] ps h = none_plain 0
place_plain (d ∷ ds) [] h = none_plain 0
place_plain (d ∷ ds) (p ∷ ps) h = after_plain (index_laid p) (λ v. further_places v ds ps) (index_plain p h.0) (λ v. further_plain v ds ps h.1)
