-- The accesses of a block: for each array that the block accesses one group, with the ports of the block's steps on it in order.
use Rattle.std.proofs.Common.{◌≡◌, ◌≢◌, ℕ, zero, suc, ◌+◌, ◌<◌, ◌≤◌, List, [], ◌∷◌, ◌++◌, length, Bool, true, false, Option, Some, refl, sym, ap, ◌∙◌, arith, append_assoc}
use Rattle.std.specs.Prelude.{cond, slice_get, ◌==◌}
use Rattle.std.proofs.lemmas.Bool.{eq-eqb, ne_eqb}
use Rattle.ir.specs.declared.graph.Block.{Block}
use Rattle.ir.specs.declared.groups.Access.{Access}
use Rattle.ir.specs.declared.groups.Groups.{Groups}
use Rattle.ir.specs.declared.instr.Instr.{Instr}
use Rattle.ir.specs.Accesses.{is_on, accesses_in, places_from, access_if, block_accesses, accesses_from}
use Rattle.ir.specs.Graphs.{Graph}
use Rattle.net_types.specs.declared.net.Net.{Net}
use Rattle.circuit_build.specs.Drafts.{plus}
use Rattle.circuit_build.specs.Blocks.{allocations}
use Rattle.circuit_build.specs.declared.draft.Draft.{Draft}
use Rattle.circuit_build.specs.declared.draft.Queue.{Queue}
use Rattle.circuit_build.specs.Fronts.{numbers_from, number_after, groups_from}
use Rattle.circuit_build.specs.Steps.{queue_of, next_group, allocated}
use Rattle.circuit_build.proofs.Accesses.{if_own, if_other, block_many, ons_few}
use Rattle.circuit_build.proofs.LayBlocks.{left_of, GroupAt, GroupsAt, pending, all_allocated}
use Rattle.circuit_build.proofs.LayBooks.{moved_if, not_moved, allocated_queue}
use Rattle.circuit_build.proofs.Served.{access_skipped, block_skipped}

-- ---- the ports that the steps use

abbrev pub port_after : ℕ → ℕ → List Instr → ℕ
port_after a p [] = p
port_after a p (i ∷ is) = cond (is_on a i) (port_after a (plus p 1) is) (port_after a p is)

pub left_numbers : (a p i : ℕ) (is : List Instr) → numbers_from p (places_from a i is) ≡ left_of a p is
left_numbers a p i [] = refl
left_numbers a p i (s ∷ is) = by (is_on a s) (left_numbers a (plus p 1) (suc i) is) (left_numbers a p (suc i) is)
  where
    by : (t : Bool) → numbers_from (plus p 1) (places_from a (suc i) is) ≡ left_of a (plus p 1) is → numbers_from p (places_from a (suc i) is) ≡ left_of a p is
        → numbers_from p (cond t (i ∷ places_from a (suc i) is) (places_from a (suc i) is)) ≡ cond t (p ∷ left_of a (plus p 1) is) (left_of a p is)
    by true x y = ap (λ l. p ∷ l) x
    by false x y = y

pub after_numbers : (a p i : ℕ) (is : List Instr) → number_after p (places_from a i is) ≡ port_after a p is
after_numbers a p i [] = refl
after_numbers a p i (s ∷ is) = by (is_on a s) (after_numbers a (plus p 1) (suc i) is) (after_numbers a p (suc i) is)
  where
    by : (t : Bool) → number_after (plus p 1) (places_from a (suc i) is) ≡ port_after a (plus p 1) is → number_after p (places_from a (suc i) is) ≡ port_after a p is
        → number_after p (cond t (i ∷ places_from a (suc i) is) (places_from a (suc i) is)) ≡ cond t (port_after a (plus p 1) is) (port_after a p is)
    by true x y = x
    by false x y = y

-- ---- those of the block come first

all_append : (xs ys : List Access) (d : Draft) → all_allocated (xs ++ ys) d ≡ all_allocated ys (all_allocated xs d)
all_append [] ys d = refl
all_append (x ∷ xs) ys d = all_append xs ys (allocated x.array d)

alloc_access : (n a : ℕ) (ps : List ℕ) (ys : List Access) (d : Draft) → allocations n (access_if n a ps ++ ys) d ≡ allocations n ys (all_allocated (access_if n a ps) d)
alloc_access n a [] ys d = refl
alloc_access n a (p ∷ ps) ys d = if_own n (allocations n ys (allocated a d)) d

alloc_here : (n a : ℕ) (ss : List Instr) (rs : List Bool) (ys : List Access) (d : Draft) → allocations n (block_accesses n ss a rs ++ ys) d ≡ allocations n ys (all_allocated (block_accesses n ss a rs) d)
alloc_here n a ss [] ys d = refl
alloc_here n a ss (true ∷ rs) ys d = alloc_here n (suc a) ss rs ys d
alloc_here n a ss (false ∷ rs) ys d =
    let xs = access_if n a (places_from a 0 ss) in
    let zs = block_accesses n ss (suc a) rs in
    ap (λ l. allocations n l d) (append_assoc xs zs ys) ∙ alloc_access n a (places_from a 0 ss) (zs ++ ys) d ∙ alloc_here n (suc a) ss rs ys (all_allocated xs d) ∙ ap (allocations n ys) (sym (all_append xs zs d))

access_later : (n m a : ℕ) (ps : List ℕ) (ys : List Access) (d : Draft) → n < m → allocations n ys d ≡ d → allocations n (access_if m a ps ++ ys) d ≡ d
access_later n m a [] ys d lt h = h
access_later n m a (p ∷ ps) ys d lt h = if_other m n (allocations n ys (allocated a d)) d lt

block_later : (n m a : ℕ) (ss : List Instr) (rs : List Bool) (ys : List Access) (d : Draft) → n < m → allocations n ys d ≡ d → allocations n (block_accesses m ss a rs ++ ys) d ≡ d
block_later n m a ss [] ys d lt h = h
block_later n m a ss (true ∷ rs) ys d lt h = block_later n m (suc a) ss rs ys d lt h
block_later n m a ss (false ∷ rs) ys d lt h =
    let xs = access_if m a (places_from a 0 ss) in
    let zs = block_accesses m ss (suc a) rs in
    ap (λ l. allocations n l d) (append_assoc xs zs ys) ∙ access_later n m a (places_from a 0 ss) (zs ++ ys) d lt (block_later n m (suc a) ss rs ys d lt h)

later_none : (n m : ℕ) (rs : List Bool) (bs : List Block) (d : Draft) → n < m → allocations n (accesses_from rs m bs) d ≡ d
later_none n m rs [] d lt = refl
later_none n m rs (b ∷ bs) d lt = block_later n m 0 b.steps rs (accesses_from rs (suc m) bs) d lt (later_none n (suc m) rs bs d (omega arith))

pub own_comes : (n : ℕ) (rs : List Bool) (b : Block) (bs : List Block) (d : Draft) → allocations n (accesses_from rs n (b ∷ bs)) d ≡ all_allocated (block_accesses n b.steps 0 rs) d
own_comes n rs b bs d = alloc_here n 0 b.steps rs (accesses_from rs (suc n) bs) d ∙ later_none n (suc n) rs bs (all_allocated (block_accesses n b.steps 0 rs) d) (omega arith)

pub own_few : (n : ℕ) (ss : List Instr) (rs : List Bool) → length (block_accesses n ss 0 rs) ≤ accesses_in ss
own_few n ss rs = let a = block_many n 0 ss rs in let b = ons_few rs 0 ss in omega (arith, a, b)

-- ---- how a queue moves on

abbrev pub group_moves : ℕ → List Access → Option Queue → Option Queue
group_moves a [] o = o
group_moves a (x ∷ xs) o = group_moves a xs (moved_if next_group (x.array == a) o)

pub moves_queue : (xs : List Access) (d : Draft) (a : ℕ) → queue_of (all_allocated xs d) a ≡ group_moves a xs (queue_of d a)
moves_queue [] d a = refl
moves_queue (x ∷ xs) d a = moves_queue xs (allocated x.array d) a ∙ ap (group_moves a xs) (allocated_queue x.array d a)

moves_append : (a : ℕ) (xs ys : List Access) (o : Option Queue) → group_moves a (xs ++ ys) o ≡ group_moves a ys (group_moves a xs o)
moves_append a [] ys o = refl
moves_append a (x ∷ xs) ys o = moves_append a xs ys (moved_if next_group (x.array == a) o)

unmoved : (c a : ℕ) (o : Option Queue) → c ≢ a → moved_if next_group (c == a) o ≡ o
unmoved c a o n = ap (λ t. moved_if next_group t o) (ne_eqb c a n) ∙ sym (not_moved next_group o)

access_other : (a n i : ℕ) (ps : List ℕ) (o : Option Queue) → i ≢ a → group_moves a (access_if n i ps) o ≡ o
access_other a n i [] o ne = refl
access_other a n i (p ∷ ps) o ne = unmoved i a o ne

abbrev pub grouped : List ℕ → Queue → Queue
grouped [] q = q
grouped (p ∷ ps) q = next_group q

access_own : (a n : ℕ) (ps : List ℕ) (q : Queue) → group_moves a (access_if n a ps) (Some q) ≡ Some (grouped ps q)
access_own a n [] q = refl
access_own a n (p ∷ ps) q = ap (λ t. moved_if next_group t (Some q)) (eq-eqb a a refl)

moves_past : (a n : ℕ) (ss : List Instr) (i : ℕ) (rs : List Bool) (o : Option Queue) → a < i → group_moves a (block_accesses n ss i rs) o ≡ o
moves_past a n ss i [] o lt = refl
moves_past a n ss i (true ∷ rs) o lt = moves_past a n ss (suc i) rs o (omega arith)
moves_past a n ss i (false ∷ rs) o lt =
    let xs = access_if n i (places_from i 0 ss) in
    let zs = block_accesses n ss (suc i) rs in
    moves_append a xs zs o ∙ ap (group_moves a zs) (access_other a n i (places_from i 0 ss) o (λ e. absurd (omega (arith, e, lt)))) ∙ moves_past a n ss (suc i) rs o (omega arith)

pub block_moves : (a n : ℕ) (ss : List Instr) (i : ℕ) (rs : List Bool) (j : ℕ) (q : Queue) → i + j ≡ a → slice_get rs j ≡ Some false → group_moves a (block_accesses n ss i rs) (Some q) ≡ Some (grouped (places_from a 0 ss) q)
block_moves a n ss i [] j q e h = absurd (cc)
block_moves a n ss i (true ∷ rs) zero q e h = absurd (cc)
block_moves a n ss i (false ∷ rs) zero q e h =
    let zs = block_accesses n ss (suc i) rs in
    let same : i ≡ a = omega (arith, e) in
    let own : group_moves a (access_if n i (places_from i 0 ss)) (Some q) ≡ Some (grouped (places_from a 0 ss) q) = ap (λ k. group_moves a (access_if n k (places_from k 0 ss)) (Some q)) same ∙ access_own a n (places_from a 0 ss) q in
    moves_append a (access_if n i (places_from i 0 ss)) zs (Some q) ∙ ap (group_moves a zs) own ∙ moves_past a n ss (suc i) rs (Some (grouped (places_from a 0 ss) q)) (omega (arith, same))
block_moves a n ss i (true ∷ rs) (suc j) q e h = block_moves a n ss (suc i) rs j q (omega (arith, e)) h
block_moves a n ss i (false ∷ rs) (suc j) q e h =
    let xs = access_if n i (places_from i 0 ss) in
    let zs = block_accesses n ss (suc i) rs in
    moves_append a xs zs (Some q) ∙ ap (group_moves a zs) (access_other a n i (places_from i 0 ss) (Some q) (λ s. absurd (omega (arith, e, s)))) ∙ block_moves a n ss (suc i) rs j q (omega (arith, e)) h

-- ---- the group

abbrev pub group_if : ℕ → List ℕ → List (List ℕ)
group_if p [] = []
group_if p (x ∷ xs) = numbers_from p (x ∷ xs) ∷ []

own_groups : (a p n : ℕ) (ps : List ℕ) (ys : List Access) → groups_from a p (access_if n a ps ++ ys) ≡ group_if p ps ++ groups_from a (number_after p ps) ys
own_groups a p n [] ys = refl
own_groups a p n (x ∷ ps) ys = ap (λ t. cond t (numbers_from p (x ∷ ps) ∷ groups_from a (number_after p (x ∷ ps)) ys) (groups_from a p ys)) (eq-eqb a a refl)

pub block_groups : (a p n : ℕ) (ss : List Instr) (i : ℕ) (rs : List Bool) (j : ℕ) (ys : List Access) → i + j ≡ a → slice_get rs j ≡ Some false
    → groups_from a p (block_accesses n ss i rs ++ ys) ≡ group_if p (places_from a 0 ss) ++ groups_from a (number_after p (places_from a 0 ss)) ys
block_groups a p n ss i [] j ys e h = absurd (cc)
block_groups a p n ss i (true ∷ rs) zero ys e h = absurd (cc)
block_groups a p n ss i (false ∷ rs) zero ys e h =
    let xs = access_if n i (places_from i 0 ss) in
    let zs = block_accesses n ss (suc i) rs in
    let ps = places_from a 0 ss in
    let same : i ≡ a = omega (arith, e) in
    let rest : groups_from a (number_after p ps) (zs ++ ys) ≡ groups_from a (number_after p ps) ys = block_skipped a (number_after p ps) n ss (suc i) rs ys (λ k s f. absurd (omega (arith, s, same))) in
    ap (groups_from a p) (append_assoc xs zs ys) ∙ ap (λ k. groups_from a p (access_if n k (places_from k 0 ss) ++ (zs ++ ys))) same ∙ own_groups a p n ps (zs ++ ys) ∙ ap (λ l. group_if p ps ++ l) rest
block_groups a p n ss i (true ∷ rs) (suc j) ys e h = block_groups a p n ss (suc i) rs j ys (omega (arith, e)) h
block_groups a p n ss i (false ∷ rs) (suc j) ys e h =
    let xs = access_if n i (places_from i 0 ss) in
    let zs = block_accesses n ss (suc i) rs in
    ap (groups_from a p) (append_assoc xs zs ys) ∙ access_skipped a p n i (places_from i 0 ss) (zs ++ ys) (λ s. absurd (omega (arith, e, s))) ∙ block_groups a p n ss (suc i) rs j ys (omega (arith, e)) h

-- ---- what waits while accesses are still to come

pending_append : (a : ℕ) (xs ys : List Access) (ps : List ℕ) → pending a (xs ++ ys) ps ≡ pending a xs (pending a ys ps)
pending_append a [] ys ps = refl
pending_append a (x ∷ xs) ys ps = ap (λ l. cond (x.array == a) [] l) (pending_append a xs ys ps)

pub pending_nil : (a : ℕ) (xs : List Access) → pending a xs [] ≡ []
pending_nil a [] = refl
pending_nil a (x ∷ xs) = by (x.array == a) (pending_nil a xs)
  where
    by : (t : Bool) → pending a xs [] ≡ [] → cond t [] (pending a xs []) ≡ []
    by true h = refl
    by false h = h

pending_other : (a n i : ℕ) (l ps : List ℕ) → i ≢ a → pending a (access_if n i l) ps ≡ ps
pending_other a n i [] ps ne = refl
pending_other a n i (x ∷ l) ps ne = ap (λ t. cond t [] ps) (ne_eqb i a ne)

pending_past : (a n : ℕ) (ss : List Instr) (i : ℕ) (rs : List Bool) (ps : List ℕ) → a < i → pending a (block_accesses n ss i rs) ps ≡ ps
pending_past a n ss i [] ps lt = refl
pending_past a n ss i (true ∷ rs) ps lt = pending_past a n ss (suc i) rs ps (omega arith)
pending_past a n ss i (false ∷ rs) ps lt =
    let xs = access_if n i (places_from i 0 ss) in
    let zs = block_accesses n ss (suc i) rs in
    pending_append a xs zs ps ∙ ap (pending a xs) (pending_past a n ss (suc i) rs ps (omega arith)) ∙ pending_other a n i (places_from i 0 ss) ps (λ e. absurd (omega (arith, e, lt)))

pending_access : (a n : ℕ) (l ps : List ℕ) → 0 < length l → pending a (access_if n a l) ps ≡ []
pending_access a n [] ps some = absurd (omega arith)
pending_access a n (x ∷ l) ps some = ap (λ t. cond t [] ps) (eq-eqb a a refl)

pub pending_own : (a n : ℕ) (ss : List Instr) (i : ℕ) (rs : List Bool) (j : ℕ) (ps : List ℕ) → i + j ≡ a → slice_get rs j ≡ Some false → 0 < length (places_from a 0 ss) → pending a (block_accesses n ss i rs) ps ≡ []
pending_own a n ss i [] j ps e h some = absurd (cc)
pending_own a n ss i (true ∷ rs) zero ps e h some = absurd (cc)
pending_own a n ss i (false ∷ rs) zero ps e h some =
    let zs = block_accesses n ss (suc i) rs in
    let same : i ≡ a = omega (arith, e) in
    pending_append a (access_if n i (places_from i 0 ss)) zs ps ∙ ap (λ k. pending a (access_if n k (places_from k 0 ss)) (pending a zs ps)) same ∙ pending_access a n (places_from a 0 ss) (pending a zs ps) some
pending_own a n ss i (true ∷ rs) (suc j) ps e h some = pending_own a n ss (suc i) rs j ps (omega (arith, e)) h some
pending_own a n ss i (false ∷ rs) (suc j) ps e h some =
    let xs = access_if n i (places_from i 0 ss) in
    let zs = block_accesses n ss (suc i) rs in
    pending_append a xs zs ps ∙ ap (pending a xs) (pending_own a n ss (suc i) rs j ps (omega (arith, e)) h some) ∙ pending_nil a xs

-- ---- each access has the next group of its queue

module _ (g : Graph) (gs : Groups) (net : Net) where
  group_kept : (is : List Instr) (x : Access) (c : ℕ) (d : Draft) → c ≢ x.array → GroupAt g gs net is x d → GroupAt g gs net is x (allocated c d)
  group_kept is x c d ne h = record { queue = h.queue; is_queue = allocated_queue c d x.array ∙ unmoved c x.array (queue_of d x.array) ne ∙ h.is_queue; less = h.less; group = h.group; deep = h.deep }

  pub groups_at : (n : ℕ) (ss : List Instr) (i : ℕ) (rs : List Bool) (d : Draft)
      → ((a j : ℕ) → i + j ≡ a → slice_get rs j ≡ Some false → 0 < length (places_from a 0 ss) → (x : Access) → x.array ≡ a → GroupAt g gs net ss x d) → GroupsAt g gs net ss (block_accesses n ss i rs) d
  groups_at n ss i [] d h = tt
  groups_at n ss i (true ∷ rs) d h = groups_at n ss (suc i) rs d (λ a j e f some x y. h a (suc j) (omega (arith, e)) f some x y)
  groups_at n ss i (false ∷ rs) d h =
      by (places_from i 0 ss) refl (groups_at n ss (suc i) rs d (λ a j e f some x y. h a (suc j) (omega (arith, e)) f some x y))
      (groups_at n ss (suc i) rs (allocated i d) (λ a j e f some x y. group_kept ss x i d (λ s. absurd (omega (arith, e, s, y))) (h a (suc j) (omega (arith, e)) f some x y)))
    where
      by : (l : List ℕ) → places_from i 0 ss ≡ l → GroupsAt g gs net ss (block_accesses n ss (suc i) rs) d → GroupsAt g gs net ss (block_accesses n ss (suc i) rs) (allocated i d)
          → GroupsAt g gs net ss (access_if n i l ++ block_accesses n ss (suc i) rs) d
      by [] e r s = r
      by (p ∷ l) e r s =
          let some : 0 < length (places_from i 0 ss) = let m = ap (λ (k : List ℕ). length k) e in omega (arith, m) in
          (h i 0 (omega arith) refl some (record { block = n; array = i; steps = p ∷ l }) refl, (λ ps. pending_past i n ss (suc i) rs ps (omega arith)), s)
