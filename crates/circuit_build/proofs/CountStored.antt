-- An array that some step stores to has a queue.
use Rattle.std.proofs.Common.{◌≡◌, ℕ, zero, suc, ◌+◌, ◌<◌, ◌≤◌, ◌^◌, List, [], ◌∷◌, length, Bool, true, false, Option, Some, None, refl, sym, ap, ◌∙◌, inl, inr, arith, length-append}
use Rattle.std.specs.Prelude.{slice_get, cond}
use Rattle.std.proofs.lemmas.Bool.{cases_eq, eq-eqb}
use Rattle.el_base.specs.declared.ty.Array.{Array}
use Rattle.ir.specs.declared.graph.Block.{Block}
use Rattle.ir.specs.declared.groups.Access.{Access}
use Rattle.ir.specs.declared.instr.Instr.{Instr}
use Rattle.ir.specs.declared.instr.Instr.TheVariants as step
use Rattle.ir.specs.Accesses.{is_on, places_from, access_if, array_accesses, block_accesses, accesses_from}
use Rattle.net_types.specs.declared.net.Port.{Port}
use Rattle.circuit_build.specs.declared.draft.Draft.{Draft}
use Rattle.circuit_build.specs.declared.draft.Queue.{Queue}
use Rattle.circuit_build.specs.Drafts.{number, plus, next}
use Rattle.circuit_build.specs.Steps.{queue_of, queue_or}
use Rattle.circuit_build.specs.Fronts.{ports_of, groups_from, depth_from, queue_if, queues_laid}
use Rattle.circuit_build.proofs.CountSteps.{groups_in}
use Rattle.circuit_build.proofs.CountKept.{push_last, push_within}
use Rattle.circuit_build.proofs.CountAccess.{groups_append}

-- ---- its accesses

places_some : (a i : ℕ) (st : List Instr) (m p v : ℕ) → slice_get st m ≡ Some (step.Store a p v) → 0 < length (places_from a i st)
places_some a i [] m p v e = absurd (cc)
places_some a i (s ∷ st) zero p v e =
    let z : s ≡ step.Store a p v = cc in
    let on : is_on a s ≡ true = ap (is_on a) z ∙ eq-eqb a a refl in
    let l = ap (λ b. length (cond b (i ∷ places_from a (suc i) st) (places_from a (suc i) st))) on in
    omega (arith, l)
places_some a i (s ∷ st) (suc m) p v e = by (is_on a s) (places_some a (suc i) st m p v e)
  where
    by : (b : Bool) → 0 < length (places_from a (suc i) st) → 0 < length (cond b (i ∷ places_from a (suc i) st) (places_from a (suc i) st))
    by true h = omega arith
    by false h = h

own_some : (a b : ℕ) (l : List ℕ) → 0 < length l → 1 ≤ groups_in a (access_if b a l)
own_some a b [] h = absurd (omega (arith, h))
own_some a b (x ∷ l) h = let e = ap {B = ℕ} (λ t. cond t 1 0) (eq-eqb a a refl) in omega (arith, e)

block_some : (a b : ℕ) (st : List Instr) (i k : ℕ) (rs : List Bool) → a ≡ i + k → slice_get rs k ≡ Some false → 0 < length (places_from a 0 st) → 1 ≤ groups_in a (block_accesses b st i rs)
block_some a b st i k [] e r h = absurd (cc)
block_some a b st i zero (r ∷ rs) e s h =
    let x = groups_append a (array_accesses r b i st) (block_accesses b st (suc i) rs) in
    let z : r ≡ false = cc in
    let q : i ≡ a = omega (arith, e) in
    let y = own_some a b (places_from a 0 st) h in
    let w = ap (λ t. groups_in a (array_accesses t b i st)) z in
    let v = ap (λ n. groups_in a (access_if b n (places_from n 0 st))) q in
    omega (arith, x, y, w, v)
block_some a b st i (suc k) (r ∷ rs) e s h =
    let x = groups_append a (array_accesses r b i st) (block_accesses b st (suc i) rs) in
    let y = block_some a b st (suc i) k rs (omega (arith, e)) s h in
    omega (arith, x, y)

pub groups_some : (a : ℕ) (rs : List Bool) (b : ℕ) (ks : List Block) (n : ℕ) (k : Block) (m p v : ℕ) → slice_get ks n ≡ Some k → slice_get k.steps m ≡ Some (step.Store a p v) → slice_get rs a ≡ Some false → 1 ≤ groups_in a (accesses_from rs b ks)
groups_some a rs b [] n k m p v e s r = absurd (cc)
groups_some a rs b (x ∷ ks) zero k m p v e s r =
    let z : x ≡ k = cc in
    let y = groups_append a (block_accesses b x.steps 0 rs) (accesses_from rs (suc b) ks) in
    let w = block_some a b x.steps 0 a rs (omega arith) r (places_some a 0 x.steps m p v (ap (λ (q : Block). slice_get q.steps m) z ∙ s)) in
    omega (arith, y, w)
groups_some a rs b (x ∷ ks) (suc n) k m p v e s r =
    let y = groups_append a (block_accesses b x.steps 0 rs) (accesses_from rs (suc b) ks) in
    let w = groups_some a rs (suc b) ks n k m p v e s r in
    omega (arith, y, w)

-- ---- its queue

if_keeps : (i : ℕ) (ps : List Port) (gs : List (List ℕ)) (m : ℕ) (d : Draft) (a : ℕ) (x : Option Queue) → slice_get d.queues a ≡ Some x → slice_get (queue_if i ps gs m d).queues a ≡ Some x
if_keeps i ps [] m d a x e = push_within d.queues None a x e
if_keeps i ps (g ∷ gs) m d a x e = let q : Queue = record { unit = next d; groups = number (length (g ∷ gs)); group = 0; port = 0 } in push_within d.queues (Some q) a x e

pub if_long : (i : ℕ) (ps : List Port) (gs : List (List ℕ)) (m : ℕ) (d : Draft) → length (queue_if i ps gs m d).queues ≡ suc (length d.queues)
if_long i ps [] m d = let l = length-append d.queues (None ∷ []) in omega (arith, l)
if_long i ps (g ∷ gs) m d = let q : Queue = record { unit = next d; groups = number (length (g ∷ gs)); group = 0; port = 0 } in let l = length-append d.queues (Some q ∷ []) in omega (arith, l)

pub all_keep : (ks : List Block) (of : List Access) (i : ℕ) (xs : List Array) (d : Draft) (a : ℕ) (x : Option Queue) → slice_get d.queues a ≡ Some x → slice_get (queues_laid ks of i xs d).queues a ≡ Some x
all_keep ks of i [] d a x e = e
all_keep ks of i (y ∷ xs) d a x e =
    let f = queue_if i (ports_of i ks of) (groups_from i 0 of) (depth_from i 16 of) d in
    all_keep ks of (plus i 1) xs f a x (if_keeps i (ports_of i ks of) (groups_from i 0 of) (depth_from i 16 of) d a x e)

record Owned (d : Draft) (a : ℕ) : Type 0 where
  queue : Queue
  is : slice_get d.queues a ≡ Some (Some queue)

if_owns : (i : ℕ) (ps : List Port) (gs : List (List ℕ)) (m : ℕ) (d : Draft) → 0 < length gs → length d.queues ≡ i → Owned (queue_if i ps gs m d) i
if_owns i ps [] m d s l = absurd (omega (arith, s))
if_owns i ps (g ∷ gs) m d s l = let q : Queue = record { unit = next d; groups = number (length (g ∷ gs)); group = 0; port = 0 } in record { queue = q; is = ap (λ n. slice_get (queue_if i ps (g ∷ gs) m d).queues n) (sym l) ∙ push_last d.queues (Some q) }

all_own : (ks : List Block) (of : List Access) (i : ℕ) (xs : List Array) (d : Draft) (a : ℕ) → length d.queues ≡ i → i ≤ a → a < i + length xs → i + length xs < 2 ^ 32 → 0 < length (groups_from a 0 of) → Owned (queues_laid ks of i xs d) a
all_own ks of i [] d a l le lt few s = absurd (omega (arith, le, lt))
all_own ks of i (y ∷ xs) d a l le lt few s =
    let f = queue_if i (ports_of i ks of) (groups_from i 0 of) (depth_from i 16 of) d in
    let long = if_long i (ports_of i ks of) (groups_from i 0 of) (depth_from i 16 of) d in
    let next : plus i 1 ≡ suc i = omega (arith, few) in
    elim (cases_eq a i) [
      | inl e ↦ (let o = if_owns i (ports_of i ks of) (groups_from i 0 of) (depth_from i 16 of) d (let z = ap (λ n. length (groups_from n 0 of)) e in omega (arith, z, s)) l in
          record { queue = o.queue; is = all_keep ks of (plus i 1) xs f a (Some o.queue) (ap (λ n. slice_get f.queues n) e ∙ o.is) })
      | inr n ↦ all_own ks of (plus i 1) xs f a (omega (arith, long, l, next)) (let z : suc i ≤ a = grind (arith, le, n) in omega (arith, next, z)) (omega (arith, next, lt)) (omega (arith, next, few)) s
    ]

pub queue_owned : (ks : List Block) (of : List Access) (xs : List Array) (d : Draft) (a : ℕ) → length d.queues ≡ 0 → a < length xs → length xs < 2 ^ 32 → 0 < length (groups_from a 0 of) → queue_of (queues_laid ks of 0 xs d) a ≡ None → ⊥
queue_owned ks of xs d a l lt few s n =
    let o = all_own ks of 0 xs d a l (omega arith) (omega (arith, lt)) (omega (arith, few)) s in
    none (sym (ap queue_or o.is) ∙ n)
  where
    none : {q : Queue} → Some q ≡ None → ⊥
    none e = cc
