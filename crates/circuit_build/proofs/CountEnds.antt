-- The queues that stand before the blocks are the ones that the chain passes: no other is laid, and each keeps its place.
use Rattle.std.proofs.Common.{◌≡◌, ℕ, zero, suc, ◌+◌, ◌<◌, ◌≤◌, ◌^◌, List, [], ◌∷◌, ◌++◌, length, get_or, Bool, true, false, Option, Some, None, refl, sym, ap, ◌∙◌, subst, inl, inr, arith, length-append}
use Rattle.std.specs.Prelude.{cond, ◌==◌, slice_get, set}
use Rattle.std.proofs.lemmas.Bool.{cases_eq, cases_lt, eq-eqb, ne_eqb, false≢true}
use Rattle.el_base.specs.declared.ty.Array.{Array}
use Rattle.ir.specs.declared.graph.Block.{Block}
use Rattle.ir.specs.declared.groups.Access.{Access}
use Rattle.ir.specs.declared.instr.Instr.{Instr}
use Rattle.ir.specs.declared.instr.Instr.TheVariants as step
use Rattle.net_types.specs.declared.net.Place.{Place}
use Rattle.net_types.specs.declared.net.Port.{Port}
use Rattle.net_types.specs.declared.net.Unit.{Unit as Kind}
use Rattle.net_types.specs.declared.net.Unit.TheVariants.{Sink, Lsq, Const, Op1, Op2, Select, Read}
use Rattle.net_types.specs.Nets.{at}
use Rattle.net_check.specs.Ends.{is_lsq, end_place}
use Rattle.circuit_build.specs.declared.draft.Draft.{Draft}
use Rattle.circuit_build.specs.declared.draft.Queue.{Queue}
use Rattle.circuit_build.specs.Drafts.{number, plus, next, with_unit, fed, uses_of_next, undefined, triggered, trigger_of, copied, copy_of}
use Rattle.circuit_build.specs.Uses.{is_laid, uses}
use Rattle.circuit_build.specs.Steps.{queue_of, width_at, value_place, addr_place, next_port, next_group, allocated_by, allocated, load_by, store_by, step_made, step_laid, steps_laid}
use Rattle.circuit_build.specs.Blocks.{ins_of, allocations, after_block, early_triggers, late_triggers, block_opened, block_grouped, block_worked, block_laid, blocks_laid}
use Rattle.circuit_build.specs.Endings.{feeder_if, feeders_laid}
use Rattle.el_base.specs.Widths.{op1_out, op2_out}
use Rattle.circuit_build.specs.Fronts.{ports_of, groups_from, depth_from, queue_if, queues_laid}
use Rattle.circuit_build.proofs.CountQueues.{queue_some}
use Rattle.circuit_build.proofs.Fields.{defined_still, forked_still, bare_still, head_headed, jump_queues}
use Rattle.circuit_build.proofs.CountEndings.{feeder_queues}
use Rattle.circuit_build.proofs.CountChain.{ends_at, times}

-- ---- the blocks leave the ends of the queues

set_ends : (qs : List (Option Queue)) (a : ℕ) (q x : Queue) → slice_get qs a ≡ Some (Some q) → at x.unit x.groups ≡ at q.unit q.groups → ends_at (set qs a (Some x)) ≡ ends_at qs
set_ends [] a q x e s = refl
set_ends (None ∷ qs) zero q x e s = absurd (cc)
set_ends (Some y ∷ qs) zero q x e s = let z : y ≡ q = cc in ap (λ p. p ∷ ends_at qs) (s ∙ ap (λ (r : Queue). at r.unit r.groups) (sym z))
set_ends (None ∷ qs) (suc a) q x e s = set_ends qs a q x e s
set_ends (Some y ∷ qs) (suc a) q x e s = ap (λ l. at y.unit y.groups ∷ l) (set_ends qs a q x e s)

abbrev EndsKept : Draft → Draft → Type 0
EndsKept d e = ends_at e.queues ≡ ends_at d.queues

allocated_ends : (a : ℕ) (o : Option Queue) (d : Draft) → queue_of d a ≡ o → EndsKept d (allocated_by a o d)
allocated_ends a None d e = refl
allocated_ends a (Some q) d e = set_ends d.queues a q (next_group q) (queue_some d.queues a q e) refl

allocations_ends : (b : ℕ) (xs : List Access) (d : Draft) → EndsKept d (allocations b xs d)
allocations_ends b [] d = refl
allocations_ends b (x ∷ xs) d = by (x.block == b) (allocations_ends b xs (allocated x.array d) ∙ allocated_ends x.array (queue_of d x.array) d refl)
  where
    by : (t : Bool) → EndsKept d (allocations b xs (allocated x.array d)) → EndsKept d (cond t (allocations b xs (allocated x.array d)) d)
    by true h = h
    by false h = refl

made_ends : (arrays : List Array) (i : Instr) (d : Draft) → EndsKept d (step_made arrays i d)
made_ends arrays (step.Const w n) d = let e = triggered d in ap ends_at (defined_still (at (next e) 0) w (fed (trigger_of d) (next e) 0 (with_unit (Const w n) e))).queues
made_ends arrays (step.One op a) d = let e = copied a d in ap ends_at (defined_still (at (next e) 0) (op1_out op) (fed (copy_of a d) (next e) 0 (with_unit (Op1 op) e))).queues
made_ends arrays (step.Two op a b) d =
    let e = copied a d in
    let f = copied b e in
    ap ends_at (defined_still (at (next f) 0) (op2_out op) (fed (copy_of b e) (next f) 1 (fed (copy_of a d) (next f) 0 (with_unit (Op2 op) f)))).queues
made_ends arrays (step.Select w c a b) d =
    let e = copied c d in
    let f = copied a e in
    let g = copied b f in
    ap ends_at (defined_still (at (next g) 0) w (fed (copy_of b f) (next g) 2 (fed (copy_of a e) (next g) 1 (fed (copy_of c d) (next g) 0 (with_unit (Select w) g))))).queues
made_ends arrays (step.Load a p) d = by (queue_of d a) refl
  where
    by : (o : Option Queue) → queue_of d a ≡ o → EndsKept d (load_by o a (width_at arrays a) p d)
    by None e = let f = copied p d in ap ends_at (defined_still (at (next f) 0) (width_at arrays a) (fed (copy_of p d) (next f) 0 (with_unit (Read a) f))).queues
    by (Some q) e =
        let s = defined_still (at q.unit (value_place q)) (width_at arrays a) (fed (copy_of p d) q.unit (addr_place q) (copied p d)) in
        ap (λ qs. ends_at (set qs a (Some (next_port q)))) s.queues ∙ set_ends d.queues a q (next_port q) (queue_some d.queues a q e) refl
made_ends arrays (step.Store a p v) d = by (queue_of d a) refl
  where
    by : (o : Option Queue) → queue_of d a ≡ o → EndsKept d (store_by o a p v d)
    by None e = refl
    by (Some q) e = set_ends d.queues a q (next_port q) (queue_some d.queues a q e) refl

step_ends : (arrays : List Array) (i : Instr) (d : Draft) → EndsKept d (step_laid arrays i d)
step_ends arrays i d = by (is_laid i (uses_of_next d)) (made_ends arrays i d)
  where
    by : (t : Bool) → EndsKept d (step_made arrays i d) → EndsKept d (cond t (step_made arrays i d) (undefined d))
    by true h = h
    by false h = refl

steps_ends : (arrays : List Array) (is : List Instr) (d : Draft) → EndsKept d (steps_laid arrays is d)
steps_ends arrays [] d = refl
steps_ends arrays (i ∷ is) d = steps_ends arrays is (step_laid arrays i d) ∙ step_ends arrays i d

block_ends : (arrays : List Array) (join ins b : ℕ) (k : Block) (xs : List Access) (d : Draft) → EndsKept d (block_laid arrays join ins b k xs d)
block_ends arrays join ins b k xs d =
    let e = block_opened ins b k xs d in
    let f = block_grouped ins b k xs d in
    let g = steps_laid arrays k.steps f in
    ap ends_at (jump_queues join k.jump (block_worked arrays ins b k xs d) ∙ (bare_still (length d.chans) k.jump g).queues) ∙ steps_ends arrays k.steps f
    ∙ ap ends_at (forked_still (late_triggers b k xs) (allocations b xs e)).queues ∙ allocations_ends b xs e ∙ ap ends_at (head_headed ins b k.args (uses k) (early_triggers b k xs) d).queues

pub blocks_ends : (arrays : List Array) (join : ℕ) (counts : List ℕ) (b : ℕ) (ks : List Block) (xs : List Access) (d : Draft) → ends_at (blocks_laid arrays join counts b ks xs d).queues ≡ ends_at d.queues
blocks_ends arrays join counts b [] xs d = refl
blocks_ends arrays join counts b (k ∷ ks) xs d = blocks_ends arrays join counts (plus b 1) ks (after_block b xs) (block_laid arrays join (ins_of counts b) b k xs d) ∙ block_ends arrays join (ins_of counts b) b k xs d

-- the feeders leave the queues
pub if_queues : (n t : ℕ) (ws : List ℕ) (d : Draft) → (feeder_if n t ws d).queues ≡ d.queues
if_queues zero t ws d = feeder_queues t ws d
if_queues (suc n) t ws d = refl

pub feeders_queues : (counts : List ℕ) (b : ℕ) (ks : List Block) (d : Draft) → (feeders_laid counts b ks d).queues ≡ d.queues
feeders_queues counts b [] d = refl
feeders_queues counts b (k ∷ ks) d = feeders_queues counts (plus b 1) ks (feeder_if (get_or counts b 0) b k.args d) ∙ if_queues (get_or counts b 0) b k.args d

-- ---- the queues that are laid

-- the place is the end of a queue among the units
pub record IsEndOf (us : List Kind) (p : Place) : Type 0 where
  pub within : p.unit < length us
  pub queue : is_lsq (get_or us p.unit (Sink 0)) ≡ true
  pub place : p.place ≡ end_place (get_or us p.unit (Sink 0))

abbrev pub AreEndsOf : List Kind → List Place → Type 0
AreEndsOf us [] = Unit {0}
AreEndsOf us (p ∷ ps) = IsEndOf us p × AreEndsOf us ps

pub record Queued (d : Draft) : Type 0 where
  pub ends : AreEndsOf d.units (ends_at d.queues)
  pub once : (u : ℕ) → is_lsq (get_or d.units u (Sink 0)) ≡ true → times u (ends_at d.queues) ≡ 1
  pub past : (u : ℕ) → length d.units ≤ u → times u (ends_at d.queues) ≡ 0

-- ---- a list with one more

pub get_before : (us : List Kind) (k : Kind) (u : ℕ) → u < length us → get_or (us ++ k ∷ []) u (Sink 0) ≡ get_or us u (Sink 0)
get_before [] k u l = absurd (omega arith)
get_before (x ∷ us) k zero l = refl
get_before (x ∷ us) k (suc u) l = get_before us k u (omega arith)

pub get_last : (us : List Kind) (k : Kind) (u : ℕ) → u ≡ length us → get_or (us ++ k ∷ []) u (Sink 0) ≡ k
get_last [] k zero e = refl
get_last [] k (suc u) e = absurd (omega arith)
get_last (x ∷ us) k zero e = absurd (omega arith)
get_last (x ∷ us) k (suc u) e = get_last us k u (omega arith)

pub get_past : (us : List Kind) (u : ℕ) → length us ≤ u → get_or us u (Sink 0) ≡ Sink 0
get_past [] u l = refl
get_past (x ∷ us) zero l = absurd (omega arith)
get_past (x ∷ us) (suc u) l = get_past us u (omega arith)

end_more : (us : List Kind) (k : Kind) (p : Place) → IsEndOf us p → IsEndOf (us ++ k ∷ []) p
end_more us k p h =
    let g = get_before us k p.unit h.within in
    record { within = let l = length-append us (k ∷ []) in let w = h.within in omega (arith, l, w); queue = ap is_lsq g ∙ h.queue; place = h.place ∙ sym (ap end_place g) }

ends_more : (us : List Kind) (k : Kind) (ps : List Place) → AreEndsOf us ps → AreEndsOf (us ++ k ∷ []) ps
ends_more us k [] h = tt
ends_more us k (p ∷ ps) h = (end_more us k p h.0, ends_more us k ps h.1)

ends_none : (qs : List (Option Queue)) → ends_at (qs ++ None ∷ []) ≡ ends_at qs
ends_none [] = refl
ends_none (None ∷ qs) = ends_none qs
ends_none (Some q ∷ qs) = ap (λ l. at q.unit q.groups ∷ l) (ends_none qs)

ends_some : (qs : List (Option Queue)) (q : Queue) → ends_at (qs ++ Some q ∷ []) ≡ ends_at qs ++ at q.unit q.groups ∷ []
ends_some [] q = refl
ends_some (None ∷ qs) q = ends_some qs q
ends_some (Some y ∷ qs) q = ap (λ l. at y.unit y.groups ∷ l) (ends_some qs q)

times_last : (u : ℕ) (ps : List Place) (p : Place) → times u (ps ++ p ∷ []) ≡ times u ps + cond (p.unit == u) 1 0
times_last u [] p = omega arith
times_last u (x ∷ ps) p = let i = times_last u ps p in omega (arith, i)

ends_last : (us : List Kind) (ps : List Place) (p : Place) → AreEndsOf us ps → IsEndOf us p → AreEndsOf us (ps ++ p ∷ [])
ends_last us [] p a h = (h, tt)
ends_last us (x ∷ ps) p a h = (a.0, ends_last us ps p a.1 h)

no_queue : (u : ℕ) → is_lsq (Sink 0) ≡ true → ⊥
no_queue u e = false≢true e

if_queued : (a : ℕ) (ps : List Port) (gs : List (List ℕ)) (m : ℕ) (d : Draft) → length gs < 2 ^ 32 → length d.units < 2 ^ 32 → Queued d → Queued (queue_if a ps gs m d)
if_queued a ps [] m d few room h =
    let e = sym (ends_none d.queues) in
    record { ends = subst (λ l. AreEndsOf d.units l) e h.ends; once = λ u t. subst (λ l. times u l ≡ 1) e (h.once u t); past = λ u l. subst (λ p. times u p ≡ 0) e (h.past u l) }
if_queued a ps (g ∷ gs) m d few room h =
    let k = Lsq a m ps (g ∷ gs) false in
    let n = length d.units in
    let q : Queue = record { unit = next d; groups = number (length (g ∷ gs)); group = 0; port = 0 } in
    let p = at q.unit q.groups in
    let e = sym (ends_some d.queues q) in
    let z : next d ≡ n = omega (arith, room) in
    let l = length-append d.units (k ∷ []) in
    let got = get_last d.units k (next d) z in
    let own : IsEndOf (d.units ++ k ∷ []) p = record { within = omega (arith, l, z); queue = ap is_lsq got; place = (let y : number (length (g ∷ gs)) ≡ length (g ∷ gs) = omega (arith, few) in y) ∙ sym (ap end_place got) } in
    record {
      ends = subst (λ x. AreEndsOf (d.units ++ k ∷ []) x) e (ends_last (d.units ++ k ∷ []) (ends_at d.queues) p (ends_more d.units k (ends_at d.queues) h.ends) own);
      once = λ u t. subst (λ x. times u x ≡ 1) e (elim (cases_lt u n) [
        | inl i ↦ (let x = h.once u (sym (ap is_lsq (get_before d.units k u i)) ∙ t) in let y = times_last u (ends_at d.queues) p in let v : cond (next d == u) 1 0 ≡ (let o : ℕ = 0 in o) = ap (λ b. cond b 1 0) (ne_eqb (next d) u (λ f. absurd (omega (arith, f, z, i)))) in omega (arith, x, y, v))
        | inr i ↦ elim (cases_eq u n) [
          | inl f ↦ (let x = h.past u i in let y = times_last u (ends_at d.queues) p in let v : cond (next d == u) 1 0 ≡ (let o : ℕ = 1 in o) = ap (λ b. cond b 1 0) (eq-eqb (next d) u (z ∙ sym f)) in omega (arith, x, y, v))
          | inr f ↦ absurd (no_queue u (sym (ap is_lsq (get_past (d.units ++ k ∷ []) u (let w : n < u = grind (arith, i, f) in omega (arith, l, w)))) ∙ t))
        ]
      ]);
      past = λ u i. subst (λ x. times u x ≡ 0) e (let x = h.past u (omega (arith, i, l)) in let y = times_last u (ends_at d.queues) p in let v : cond (next d == u) 1 0 ≡ (let o : ℕ = 0 in o) = ap (λ b. cond b 1 0) (ne_eqb (next d) u (λ f. absurd (omega (arith, f, z, i, l)))) in omega (arith, x, y, v));
    }

if_grows : (a : ℕ) (ps : List Port) (gs : List (List ℕ)) (m : ℕ) (d : Draft) → length d.units ≤ length (queue_if a ps gs m d).units
if_grows a ps [] m d = omega arith
if_grows a ps (g ∷ gs) m d = let l = length-append d.units (Lsq a m ps (g ∷ gs) false ∷ []) in omega (arith, l)

queues_grow : (ks : List Block) (of : List Access) (a : ℕ) (xs : List Array) (d : Draft) → length d.units ≤ length (queues_laid ks of a xs d).units
queues_grow ks of a [] d = omega arith
queues_grow ks of a (x ∷ xs) d =
    let e = queue_if a (ports_of a ks of) (groups_from a 0 of) (depth_from a 16 of) d in
    let i = if_grows a (ports_of a ks of) (groups_from a 0 of) (depth_from a 16 of) d in
    let j = queues_grow ks of (plus a 1) xs e in
    omega (arith, i, j)

pub queues_queued : (ks : List Block) (of : List Access) (a : ℕ) (xs : List Array) (d : Draft) → ((b : ℕ) → length (groups_from b 0 of) < 2 ^ 32) → length (queues_laid ks of a xs d).units < 2 ^ 32 → Queued d → Queued (queues_laid ks of a xs d)
queues_queued ks of a [] d few room h = h
queues_queued ks of a (x ∷ xs) d few room h =
    let e = queue_if a (ports_of a ks of) (groups_from a 0 of) (depth_from a 16 of) d in
    let i = if_grows a (ports_of a ks of) (groups_from a 0 of) (depth_from a 16 of) d in
    let j = queues_grow ks of (plus a 1) xs e in
    queues_queued ks of (plus a 1) xs e few room (if_queued a (ports_of a ks of) (groups_from a 0 of) (depth_from a 16 of) d (few a) (omega (arith, i, j, room)) h)
