-- The books of queues, before the blocks and from block to block.
use Rattle.std.proofs.Common.{◌≡◌, ◌⊎◌, ℕ, zero, suc, ◌+◌, ◌*◌, ◌^◌, ◌<◌, List, [], ◌∷◌, ◌++◌, length, Bool, true, false, Option, Some, None, refl, sym, ap, ◌∙◌, subst, inl, inr, arith, length-append}
use Rattle.std.specs.Prelude.{slice_get}
use Rattle.std.proofs.lemmas.Option.{slice_get_within, slice_get-get_or}
use Rattle.el_base.specs.declared.ty.Array.{Array}
use Rattle.ir.specs.declared.graph.Block.{Block}
use Rattle.ir.specs.declared.groups.Access.{Access}
use Rattle.ir.specs.declared.groups.Groups.{Groups}
use Rattle.ir.specs.Graphs.{Graph}
use Rattle.net_types.specs.declared.net.Port.{Port}
use Rattle.net_types.specs.declared.net.Unit.{Unit as Kind}
use Rattle.net_types.specs.declared.net.Unit.TheVariants.{Lsq}
use Rattle.circuit_build.specs.Asks.{IsAsked}
use Rattle.circuit_build.specs.Built.{front_of, with_blocks, with_feeders, with_join, whole_draft}
use Rattle.circuit_build.specs.Counted.{queue_for}
use Rattle.circuit_build.specs.declared.draft.Draft.{Draft}
use Rattle.circuit_build.specs.declared.draft.Queue.{Queue}
use Rattle.circuit_build.specs.Drafts.{number, next, plus}
use Rattle.circuit_build.specs.Fronts.{started, entered, ports_of, groups_from, depth_from, queue_if, queues_laid}
use Rattle.circuit_build.specs.Steps.{queue_or, queue_of}
use Rattle.circuit_build.proofs.CountAccess.{all_ports}
use Rattle.circuit_build.proofs.CountBlocks.{blocks_ports}
use Rattle.circuit_build.proofs.CountQueues.{queue_some}
use Rattle.circuit_build.proofs.Keeps as keeps
use Rattle.circuit_build.proofs.LayExtends.{get_front, get_pushed, extends_unit, extends_own, extends_then, extends_long, Any, AnyNumber, any_laid, unit_more, chan_more, same_more, front_blocks, blocks_feeders, feeders_join, join_whole}
use Rattle.circuit_build.proofs.LaySections.{Extends}
use Rattle.circuit_build.proofs.QueueShapes.{ports_many, groups_few, mine_few, accesses_fit, places_few}
use Rattle.circuit_build.proofs.ReadCounts.{is_empty, params_queues, front_queued}
use Rattle.circuit_build.proofs.Served.{arrays_bound, stored_some, all_skipped}
use Rattle.circuit_build.proofs.Small.{small}

-- ---- how many ports and groups

pub queue_few : (g : Graph) (gs : Groups) → IsAsked g gs → (a : ℕ) → length (groups_from a 0 gs.of) + 2 * length (ports_of a g.blocks gs.of) + 2 < 2 ^ 32
queue_few g gs ask a =
    let p = ports_many a g.blocks gs.of in
    let m = mine_few a gs.of in
    let f = groups_few a gs.of (accesses_fit g gs ask) 0 in
    let s = places_few g gs ask in
    let b = ask.small.bounded in
    omega (arith, p, m, f, s, b)

pub front_whole : (g : Graph) (gs : Groups) → Extends (front_of g gs) (whole_draft g gs)
front_whole g gs = extends_then (front_of g gs) _ (whole_draft g gs) (extends_then (front_of g gs) _ _ (front_blocks g gs) (extends_then (with_blocks g gs) (with_feeders g gs) (with_join g gs) (blocks_feeders g gs) (feeders_join g gs))) (join_whole g gs)

-- ---- what is laid for an array before the blocks

record FrontQueue (blocks : List Block) (of : List Access) (a : ℕ) (d : Draft) : Type 0 where
  unit : ℕ
  some : is_empty (groups_from a 0 of) ≡ false
  entry : slice_get d.queues a ≡ Some (Some (record { unit = unit; groups = number (length (groups_from a 0 of)); group = 0; port = 0 }))
  kind : slice_get d.units unit ≡ Some (Lsq a (depth_from a 16 of) (ports_of a blocks of) (groups_from a 0 of) false)

abbrev AtFront : List Block → List Access → ℕ → Draft → Type 0
AtFront blocks of a d = ((groups_from a 0 of ≡ []) × (slice_get d.queues a ≡ Some None)) ⊎ FrontQueue blocks of a d

if_entry : (a : ℕ) (ps : List Port) (gs : List (List ℕ)) (m b : ℕ) (o : Option Queue) (d : Draft) → slice_get d.queues b ≡ Some o → slice_get (queue_if a ps gs m d).queues b ≡ Some o
if_entry a ps [] m b o d e = get_front d.queues (None ∷ []) b o e
if_entry a ps (g ∷ gs) m b o d e = get_front d.queues (Some (record { unit = next d; groups = number (length (g ∷ gs)); group = 0; port = 0 }) ∷ []) b o e

queues_entry : (blocks : List Block) (of : List Access) (i : ℕ) (xs : List Array) (d : Draft) (b : ℕ) (o : Option Queue) → slice_get d.queues b ≡ Some o → slice_get (queues_laid blocks of i xs d).queues b ≡ Some o
queues_entry blocks of i [] d b o e = e
queues_entry blocks of i (x ∷ xs) d b o e = queues_entry blocks of (plus i 1) xs (queue_if i (ports_of i blocks of) (groups_from i 0 of) (depth_from i 16 of) d) b o (if_entry i (ports_of i blocks of) (groups_from i 0 of) (depth_from i 16 of) b o d e)

queues_extend : (blocks : List Block) (of : List Access) (i : ℕ) (xs : List Array) (d : Draft) → Extends d (queues_laid blocks of i xs d)
queues_extend blocks of i xs d = keeps.queues_keep (Extends d) Any AnyNumber AnyNumber any_laid (unit_more d) (chan_more d) (same_more d) (λ a m ps hs. tt) blocks of i xs d (extends_own d)

if_long : (a : ℕ) (ps : List Port) (gs : List (List ℕ)) (m : ℕ) (d : Draft) → length (queue_if a ps gs m d).queues ≡ suc (length d.queues)
if_long a ps [] m d = let l = length-append d.queues (None ∷ []) in omega (arith, l)
if_long a ps (g ∷ gs) m d = let l = length-append d.queues (Some (record { unit = next d; groups = number (length (g ∷ gs)); group = 0; port = 0 }) ∷ []) in omega (arith, l)

own_front : (blocks : List Block) (of : List Access) (a : ℕ) (gs : List (List ℕ)) (d : Draft) → groups_from a 0 of ≡ gs → length d.queues ≡ a → length d.units < 2 ^ 32
    → AtFront blocks of a (queue_if a (ports_of a blocks of) gs (depth_from a 16 of) d)
own_front blocks of a [] d e l few = inl (e, ap (slice_get (d.queues ++ None ∷ [])) (sym l) ∙ get_pushed d.queues [] None)
own_front blocks of a (g ∷ gs) d e l few =
    let n = next d in
    let same : n ≡ length d.units = omega (arith, few) in
    let q : List (List ℕ) → Queue = λ hs. record { unit = n; groups = number (length hs); group = 0; port = 0 } in
    let k : List (List ℕ) → Kind = λ hs. Lsq a (depth_from a 16 of) (ports_of a blocks of) hs false in
    inr (record {
      unit = n;
      some = ap is_empty e;
      entry = ap (slice_get (d.queues ++ Some (q (g ∷ gs)) ∷ [])) (sym l) ∙ get_pushed d.queues [] (Some (q (g ∷ gs))) ∙ ap (λ hs. Some (Some (q hs))) (sym e);
      kind = ap (slice_get (d.units ++ k (g ∷ gs) ∷ [])) same ∙ get_pushed d.units [] (k (g ∷ gs)) ∙ ap (λ hs. Some (k hs)) (sym e);
    })

front_later : (blocks : List Block) (of : List Access) (a i : ℕ) (xs : List Array) (d : Draft) → AtFront blocks of a d → AtFront blocks of a (queues_laid blocks of i xs d)
front_later blocks of a i xs d (inl (e, s)) = inl (e, queues_entry blocks of i xs d a None s)
front_later blocks of a i xs d (inr h) =
    inr (record { unit = h.unit; some = h.some; entry = queues_entry blocks of i xs d a (Some (record { unit = h.unit; groups = number (length (groups_from a 0 of)); group = 0; port = 0 })) h.entry; kind = extends_unit d (queues_laid blocks of i xs d) h.unit _ (queues_extend blocks of i xs d) h.kind })

front_at : (blocks : List Block) (of : List Access) (i : ℕ) (xs : List Array) (d : Draft) → length d.queues ≡ i → i + length xs < 2 ^ 32 → length (queues_laid blocks of i xs d).units < 2 ^ 32
    → (a j : ℕ) → i + j ≡ a → j < length xs → AtFront blocks of a (queues_laid blocks of i xs d)
front_at blocks of i [] d l few room a j e lt = absurd (omega (arith, lt))
front_at blocks of i (x ∷ xs) d l few room a zero e lt =
    let f = queue_if i (ports_of i blocks of) (groups_from i 0 of) (depth_from i 16 of) d in
    let same : i ≡ a = omega (arith, e) in
    let long = extends_long d (queues_laid blocks of i (x ∷ xs) d) (queues_extend blocks of i (x ∷ xs) d) in
    let own : AtFront blocks of i f = own_front blocks of i (groups_from i 0 of) d refl l (omega (arith, long, room)) in
    front_later blocks of a (plus i 1) xs f (subst (λ c. AtFront blocks of c f) same own)
front_at blocks of i (x ∷ xs) d l few room a (suc j) e lt =
    let f = queue_if i (ports_of i blocks of) (groups_from i 0 of) (depth_from i 16 of) d in
    let n = if_long i (ports_of i blocks of) (groups_from i 0 of) (depth_from i 16 of) d in
    front_at blocks of (plus i 1) xs f (omega (arith, n, l, few)) (omega (arith, few)) room a j (omega (arith, e, few)) (omega (arith, lt))

-- ---- the queue of an array where blocks and accesses are still to come

pub record QueueKept (g : Graph) (gs : Groups) (a : ℕ) (ks : List Block) (xs : List Access) (q : Queue) : Type 0 where
  pub stored : slice_get gs.read_only a ≡ Some false
  pub unit : slice_get (front_of g gs).units q.unit ≡ Some (queue_for g gs a)
  pub many : q.groups ≡ length (groups_from a 0 gs.of)
  pub used : List Port
  pub ports : ports_of a g.blocks gs.of ≡ used ++ blocks_ports ks a
  pub next : q.port ≡ length used
  pub taken : List (List ℕ)
  pub groups : groups_from a 0 gs.of ≡ taken ++ groups_from a q.port xs
  pub group : q.group ≡ length taken

pub record QueuesKept (g : Graph) (gs : Groups) (ks : List Block) (xs : List Access) (d : Draft) : Type 0 where
  pub queue : (a : ℕ) (q : Queue) → queue_of d a ≡ Some q → QueueKept g gs a ks xs q
  pub none : (a : ℕ) → queue_of d a ≡ None → slice_get gs.read_only a ≡ Some false → ⊥

module _ (g : Graph) (gs : Groups) (ask : IsAsked g gs) where
  pub front_small : length (front_of g gs).units < 2 ^ 32
  front_small = let l = extends_long (front_of g gs) (whole_draft g gs) (front_whole g gs) in let s = (small g gs ask).units in omega (arith, l, s)

  at_front : (a : ℕ) → a < length g.arrays → AtFront g.blocks gs.of a (front_of g gs)
  at_front a lt = front_at g.blocks gs.of 0 g.arrays (entered g.scalars (started (length g.blocks + 1))) (ap (λ (qs : List (Option Queue)). length qs) (params_queues 0 g.scalars (started (length g.blocks + 1)))) (let b = arrays_bound g gs ask in omega (arith, b)) front_small a a (omega arith) lt

  stored_is : (a : ℕ) (o : Option Bool) → slice_get gs.read_only a ≡ o → a < length g.arrays → is_empty (groups_from a 0 gs.of) ≡ false → slice_get gs.read_only a ≡ Some false
  stored_is a None e lt some = let m = ask.share.as_many in let x = slice_get-get_or gs.read_only a false (omega (arith, m, lt)) in absurd (cc)
  stored_is a (Some true) e lt some =
      let none : groups_from a 0 gs.of ≡ [] = ap (groups_from a 0) ask.share.accesses ∙ all_skipped a 0 gs.read_only 0 g.blocks e in
      let z : true ≡ false = sym (ap is_empty none) ∙ some in
      absurd (cc)
  stored_is a (Some false) e lt some = e

  front_queue : (a : ℕ) (q : Queue) → slice_get (front_of g gs).queues a ≡ Some (Some q) → a < length g.arrays → AtFront g.blocks gs.of a (front_of g gs) → QueueKept g gs a g.blocks gs.of q
  front_queue a q e lt (inl (n, s)) = absurd (cc)
  front_queue a q e lt (inr h) =
      let r : Queue = record { unit = h.unit; groups = number (length (groups_from a 0 gs.of)); group = 0; port = 0 } in
      let same : r ≡ q = cc in
      let f = queue_few g gs ask a in
      let st = stored_is a (slice_get gs.read_only a) refl lt h.some in
      let ports : ports_of a g.blocks gs.of ≡ blocks_ports g.blocks a =
      ap (λ xs. ports_of a g.blocks xs) ask.share.accesses ∙ all_ports a g.blocks gs.read_only 0 g.blocks st (λ i. ap (λ n. slice_get g.blocks n) (let z : 0 + i ≡ i = omega arith in z)) in
      subst (λ x. QueueKept g gs a g.blocks gs.of x) same (record { stored = st; unit = h.kind; many = omega (arith, f); used = []; ports = ports; next = refl; taken = []; groups = refl; group = refl })

  front_none : (a : ℕ) → queue_of (front_of g gs) a ≡ None → slice_get gs.read_only a ≡ Some false → AtFront g.blocks gs.of a (front_of g gs) → ⊥
  front_none a e f (inl (n, s)) = let z : true ≡ false = sym (ap is_empty n) ∙ stored_some g gs ask a f in absurd (cc)
  front_none a e f (inr h) = let z = ap queue_or h.entry in absurd (cc)

  pub front_kept : QueuesKept g gs g.blocks gs.of (front_of g gs)
  front_kept =
      let b = arrays_bound g gs ask in
      let many = (front_queued g gs b).many in
      record {
        queue = λ a q e.
            (let s = queue_some (front_of g gs).queues a q e in
            let w = slice_get_within (front_of g gs).queues a (Some q) s in
            let lt : a < length g.arrays = omega (arith, w, many) in
            front_queue a q s lt (at_front a lt));
        none = λ a e f.
            (let w = slice_get_within gs.read_only a false f in
            let m = ask.share.as_many in
            let lt : a < length g.arrays = omega (arith, w, m) in
            front_none a e f (at_front a lt));
      }
