-- The accesses come in order.
use Rattle.std.proofs.Common.{◌≡◌, ℕ, suc, ◌≤◌, List, [], ◌∷◌, ◌++◌, refl, arith, inl, inr}
use Rattle.std.specs.Prelude.{Bool, true, false}
use Rattle.std.specs.List.{AllByRecursion}
use Rattle.ir.specs.declared.instr.Instr.{Instr}
use Rattle.ir.specs.declared.groups.Access.{Access}
use Rattle.ir.specs.declared.graph.Block.{Block}
use Rattle.ir.specs.Accesses.{places_from, access_if, array_accesses, block_accesses, accesses_from}
use Rattle.lsq_groups.specs.Order.{IsBefore, AreInOrder}

all_append : {X : Type 0} (P : X → Type 0) (xs ys : List X) → AllByRecursion P xs → AllByRecursion P ys → AllByRecursion P (xs ++ ys)
all_append P [] ys h k = k
all_append P (x ∷ xs) ys h k = (h.0, all_append P xs ys h.1 k)

all_weaker : {X : Type 0} (P Q : X → Type 0) (xs : List X) → ((x : X) → P x → Q x) → AllByRecursion P xs → AllByRecursion Q xs
all_weaker P Q [] f h = tt
all_weaker P Q (x ∷ xs) f h = (f x h.0, all_weaker P Q xs f h.1)

in_order : (xs ys : List Access) → AreInOrder xs → AreInOrder ys → AllByRecursion (λ x. AllByRecursion (IsBefore x) ys) xs → AreInOrder (xs ++ ys)
in_order [] ys h k b = k
in_order (x ∷ xs) ys h k b = (all_append (IsBefore x) xs ys h.0 b.0, in_order xs ys h.1 k b.1)

-- ---- within a block

record IsFrom (b a : ℕ) (x : Access) : Type 0 where
  block : x.block ≡ b
  array : a ≤ x.array

record IsOf (b a : ℕ) (x : Access) : Type 0 where
  block : x.block ≡ b
  array : x.array ≡ a

one_access : (b a : ℕ) (places : List ℕ) → AllByRecursion (IsOf b a) (access_if b a places)
one_access b a [] = tt
one_access b a (p ∷ ps) = (record { block = refl; array = refl }, tt)

one_in_order : (b a : ℕ) (places : List ℕ) → AreInOrder (access_if b a places)
one_in_order b a [] = tt
one_in_order b a (p ∷ ps) = (tt, tt)

array_of : (r : Bool) (b a : ℕ) (steps : List Instr) → AllByRecursion (IsOf b a) (array_accesses r b a steps)
array_of true b a steps = tt
array_of false b a steps = one_access b a (places_from a 0 steps)

array_in_order : (r : Bool) (b a : ℕ) (steps : List Instr) → AreInOrder (array_accesses r b a steps)
array_in_order true b a steps = tt
array_in_order false b a steps = one_in_order b a (places_from a 0 steps)

block_from : (b : ℕ) (steps : List Instr) (a : ℕ) (rs : List Bool) → AllByRecursion (IsFrom b a) (block_accesses b steps a rs)
block_from b steps a [] = tt
block_from b steps a (r ∷ rs) =
    all_append (IsFrom b a) (array_accesses r b a steps) (block_accesses b steps (suc a) rs)
    (all_weaker (IsOf b a) (IsFrom b a) (array_accesses r b a steps) (λ x h. record { block = h.block; array = omega (arith, h.array) }) (array_of r b a steps))
    (all_weaker (IsFrom b (suc a)) (IsFrom b a) (block_accesses b steps (suc a) rs) (λ x h. record { block = h.block; array = omega (arith, h.array) }) (block_from b steps (suc a) rs))

block_in_order : (b : ℕ) (steps : List Instr) (a : ℕ) (rs : List Bool) → AreInOrder (block_accesses b steps a rs)
block_in_order b steps a [] = tt
block_in_order b steps a (r ∷ rs) =
    in_order (array_accesses r b a steps) (block_accesses b steps (suc a) rs) (array_in_order r b a steps) (block_in_order b steps (suc a) rs)
    (all_weaker (IsOf b a) (λ x. AllByRecursion (IsBefore x) (block_accesses b steps (suc a) rs)) (array_accesses r b a steps)
    (λ x h. all_weaker (IsFrom b (suc a)) (IsBefore x) (block_accesses b steps (suc a) rs) (λ y k. later x y h k) (block_from b steps (suc a) rs))
    (array_of r b a steps))
  where
    later : (x y : Access) → IsOf b a x → IsFrom b (suc a) y → IsBefore x y
    later x y h k = inr (omega (arith, h.block, k.block), omega (arith, h.array, k.array))

-- ---- of all blocks

record IsAfter (b : ℕ) (x : Access) : Type 0 where
  block : b ≤ x.block

all_from : (rs : List Bool) (b : ℕ) (bs : List Block) → AllByRecursion (IsAfter b) (accesses_from rs b bs)
all_from rs b [] = tt
all_from rs b (x ∷ xs) =
    all_append (IsAfter b) (block_accesses b x.steps 0 rs) (accesses_from rs (suc b) xs)
    (all_weaker (IsFrom b 0) (IsAfter b) (block_accesses b x.steps 0 rs) (λ y h. record { block = omega (arith, h.block) }) (block_from b x.steps 0 rs))
    (all_weaker (IsAfter (suc b)) (IsAfter b) (accesses_from rs (suc b) xs) (λ y h. record { block = omega (arith, h.block) }) (all_from rs (suc b) xs))

pub accesses_in_order : (rs : List Bool) (b : ℕ) (bs : List Block) → AreInOrder (accesses_from rs b bs)
accesses_in_order rs b [] = tt
accesses_in_order rs b (x ∷ xs) =
    in_order (block_accesses b x.steps 0 rs) (accesses_from rs (suc b) xs) (block_in_order b x.steps 0 rs) (accesses_in_order rs (suc b) xs)
    (all_weaker (IsFrom b 0) (λ y. AllByRecursion (IsBefore y) (accesses_from rs (suc b) xs)) (block_accesses b x.steps 0 rs)
    (λ y h. all_weaker (IsAfter (suc b)) (IsBefore y) (accesses_from rs (suc b) xs) (λ z k. inl (omega (arith, h.block, k.block))) (all_from rs (suc b) xs))
    (block_from b x.steps 0 rs))
