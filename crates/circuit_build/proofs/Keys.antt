-- Which arrays have a queue, and where its end is, stays as it is before the blocks.
use Rattle.std.proofs.Common.{◌≡◌, ℕ, zero, suc, List, [], ◌∷◌, Bool, true, false, refl, sym, ap, ◌∙◌}
use Rattle.std.specs.Prelude.{cond, ◌==◌, length, slice_get, set, Option, Some, None}
use Rattle.el_base.specs.declared.ty.Array.{Array}
use Rattle.ir.specs.declared.graph.Block.{Block}
use Rattle.ir.specs.declared.graph.Jump.{Jump}
use Rattle.ir.specs.declared.groups.Access.{Access}
use Rattle.ir.specs.declared.instr.Instr.{Instr}
use Rattle.ir.specs.declared.instr.Instr.TheVariants as step
use Rattle.net_types.specs.declared.net.Place.{Place}
use Rattle.net_types.specs.Nets.{at}
use Rattle.circuit_build.specs.declared.draft.Draft.{Draft}
use Rattle.circuit_build.specs.declared.draft.Queue.{Queue}
use Rattle.circuit_build.specs.Drafts.{plus, uses_of_next, undefined}
use Rattle.circuit_build.specs.Steps.{queue_or, queue_of, width_at, allocated_by, allocated, next_group, next_port, load_by, store_by, step_made, step_laid, steps_laid}
use Rattle.circuit_build.specs.Uses.{uses, is_laid}
use Rattle.circuit_build.proofs.Fields.{const_still, one_still, two_still, select_still, read_still, loaded_still, forked_still, bare_still, head_headed, jump_queues}
use Rattle.circuit_build.specs.Jumps.{jump_laid}
use Rattle.circuit_build.specs.Blocks.{head_laid, ins_of, allocations, after_block, early_triggers, late_triggers, block_opened, block_grouped, block_worked, block_laid, blocks_laid}

-- the end of a queue, where the array has one
abbrev pub key_of : Option Queue → Option Place
key_of None = None
key_of (Some q) = Some (at q.unit q.groups)

abbrev pub keys : List (Option Queue) → List (Option Place)
keys [] = []
keys (q ∷ qs) = key_of q ∷ keys qs

abbrev pub keys_of : Draft → List (Option Place)
keys_of d = keys d.queues

keys_set : (qs : List (Option Queue)) (a : ℕ) (q r : Queue) → queue_or (slice_get qs a) ≡ Some q → key_of (Some r) ≡ key_of (Some q) → keys (set qs a (Some r)) ≡ keys qs
keys_set [] a q r h e = absurd (cc)
keys_set (x ∷ qs) zero q r h e = let same : key_of (Some r) ≡ key_of x = e ∙ ap key_of (sym h) in ap (λ k. k ∷ keys qs) same
keys_set (x ∷ qs) (suc a) q r h e = ap (λ ks. key_of x ∷ ks) (keys_set qs a q r h e)

-- ---- steps

load_keys : (q : Option Queue) (a w p : ℕ) (d : Draft) → queue_of d a ≡ q → keys_of (load_by q a w p d) ≡ keys_of d
load_keys None a w p d h = ap keys (read_still a w p d).queues
load_keys (Some q) a w p d h = ap (λ qs. keys (set qs a (Some (next_port q)))) (loaded_still q w p d).queues ∙ keys_set d.queues a q (next_port q) h refl

store_keys : (q : Option Queue) (a p v : ℕ) (d : Draft) → queue_of d a ≡ q → keys_of (store_by q a p v d) ≡ keys_of d
store_keys None a p v d h = refl
store_keys (Some q) a p v d h = keys_set d.queues a q (next_port q) h refl

made_keys : (arrays : List Array) (i : Instr) (d : Draft) → keys_of (step_made arrays i d) ≡ keys_of d
made_keys arrays (step.Const w n) d = ap keys (const_still w n d).queues
made_keys arrays (step.One op a) d = ap keys (one_still op a d).queues
made_keys arrays (step.Two op a b) d = ap keys (two_still op a b d).queues
made_keys arrays (step.Select w c a b) d = ap keys (select_still w c a b d).queues
made_keys arrays (step.Load a p) d = load_keys (queue_of d a) a (width_at arrays a) p d refl
made_keys arrays (step.Store a p v) d = store_keys (queue_of d a) a p v d refl

if_keys : (t : Bool) (d e f : Draft) → keys_of e ≡ keys_of d → keys_of f ≡ keys_of d → keys_of (cond t e f) ≡ keys_of d
if_keys true d e f h i = h
if_keys false d e f h i = i

pub step_keys : (arrays : List Array) (i : Instr) (d : Draft) → keys_of (step_laid arrays i d) ≡ keys_of d
step_keys arrays i d = if_keys (is_laid i (uses_of_next d)) d (step_made arrays i d) (undefined d) (made_keys arrays i d) refl

pub steps_keys : (arrays : List Array) (is : List Instr) (d : Draft) → keys_of (steps_laid arrays is d) ≡ keys_of d
steps_keys arrays [] d = refl
steps_keys arrays (i ∷ is) d = steps_keys arrays is (step_laid arrays i d) ∙ step_keys arrays i d

-- ---- groups

allocated_keys : (q : Option Queue) (a : ℕ) (d : Draft) → queue_of d a ≡ q → keys_of (allocated_by a q d) ≡ keys_of d
allocated_keys None a d h = refl
allocated_keys (Some q) a d h = keys_set d.queues a q (next_group q) h refl

pub allocations_keys : (b : ℕ) (xs : List Access) (d : Draft) → keys_of (allocations b xs d) ≡ keys_of d
allocations_keys b [] d = refl
allocations_keys b (x ∷ xs) d =
    let e = allocated x.array d in if_keys (x.block == b) d (allocations b xs e) d (allocations_keys b xs e ∙ allocated_keys (queue_of d x.array) x.array d refl) refl

-- ---- heads and jumps

pub head_keys : (ins target : ℕ) (ws us : List ℕ) (t : ℕ) (d : Draft) → keys_of (head_laid ins target ws us t d) ≡ keys_of d
head_keys ins target ws us t d = ap keys (head_headed ins target ws us t d).queues

pub jump_keys : (join : ℕ) (j : Jump) (d : Draft) → keys_of (jump_laid join j d) ≡ keys_of d
jump_keys join j d = ap keys (jump_queues join j d)

-- ---- blocks

pub grouped_keys : (ins b : ℕ) (k : Block) (xs : List Access) (d : Draft) → keys_of (block_grouped ins b k xs d) ≡ keys_of d
grouped_keys ins b k xs d =
    let e = block_opened ins b k xs d in
    let f = allocations b xs e in
    ap keys (forked_still (late_triggers b k xs) f).queues ∙ allocations_keys b xs e ∙ head_keys ins b k.args (uses k) (early_triggers b k xs) d

pub worked_keys : (arrays : List Array) (ins b : ℕ) (k : Block) (xs : List Access) (d : Draft) → keys_of (block_worked arrays ins b k xs d) ≡ keys_of d
worked_keys arrays ins b k xs d =
    let e = block_grouped ins b k xs d in
    ap keys (bare_still (length d.chans) k.jump (steps_laid arrays k.steps e)).queues ∙ steps_keys arrays k.steps e ∙ grouped_keys ins b k xs d

pub block_keys : (arrays : List Array) (join ins b : ℕ) (k : Block) (xs : List Access) (d : Draft) → keys_of (block_laid arrays join ins b k xs d) ≡ keys_of d
block_keys arrays join ins b k xs d = jump_keys join k.jump (block_worked arrays ins b k xs d) ∙ worked_keys arrays ins b k xs d

pub blocks_keys : (arrays : List Array) (join : ℕ) (counts : List ℕ) (b : ℕ) (ks : List Block) (xs : List Access) (d : Draft) → keys_of (blocks_laid arrays join counts b ks xs d) ≡ keys_of d
blocks_keys arrays join counts b [] xs d = refl
blocks_keys arrays join counts b (k ∷ ks) xs d =
    blocks_keys arrays join counts (plus b 1) ks (after_block b xs) (block_laid arrays join (ins_of counts b) b k xs d) ∙ block_keys arrays join (ins_of counts b) b k xs d
