-- The bounds of a net.
use Rattle.std.proofs.Common.{◌≡◌, ℕ, zero, suc, ◌+◌, ◌-◌, ◌*◌, ◌^◌, ◌<◌, ◌≤◌, List, [], ◌∷◌, ◌++◌, length, get_or, Bool, true, false, refl, sym, subst, ap, ◌∙◌, arith, length-append}
use Rattle.std.specs.Prelude.{sum_by, slice_get, All, Option, Some, None}
use Rattle.std.proofs.lemmas.List.{length-map}
use Rattle.std.proofs.lemmas.List.Sums.{sum_by-cons}
use Rattle.std.proofs.lemmas.List.Elements.{All-head, All-tail}
use Rattle.el_base.specs.declared.ty.Ty.{Ty}
use Rattle.el_base.specs.declared.ty.Array.{Array}
use Rattle.el_base.specs.declared.ty.Scalar.{Scalar}
use Rattle.el_base.specs.Widths.{ty_width}
use Rattle.ir.specs.declared.graph.Block.{Block}
use Rattle.ir.specs.declared.groups.Access.{Access}
use Rattle.ir.specs.declared.groups.Groups.{Groups}
use Rattle.ir.specs.Accesses.{accesses_in, accesses_from}
use Rattle.ir.specs.Graphs.{Graph, IsBlock, IsGraph, block_weight, size}
use Rattle.net_types.specs.declared.net.Port.{Port}
use Rattle.net_types.specs.declared.net.Unit.{Unit as Kind}
use Rattle.net_types.specs.declared.net.Unit.TheVariants.{Param, Lsq, Const, Branch, Exit}
use Rattle.net_types.specs.Nets.{at}
use Rattle.circuit_build.specs.declared.draft.Draft.{Draft}
use Rattle.circuit_build.specs.declared.draft.Edge.{Edge}
use Rattle.circuit_build.specs.declared.draft.End.{End}
use Rattle.circuit_build.specs.declared.draft.Queue.{Queue}
use Rattle.circuit_build.specs.Asks.{IsAsked}
use Rattle.circuit_build.specs.Drafts.{number, plus, next, with_unit, with_chan, with_control, fed, control_forked, triggered, trigger_of, copied, copy_of}
use Rattle.circuit_build.specs.Blocks.{tail_of, ins_of, head_laid, after_block, block_laid, blocks_laid}
use Rattle.circuit_build.specs.Edges.{edge_counts, raised, data_laid, edge_at, edge_laid, edges_laid}
use Rattle.circuit_build.specs.Uses.{zeros}
use Rattle.circuit_build.specs.Endings.{result_widths, ones, ended_by, all_ended, exited, join_laid, zero_laid, zeros_laid, zero_ends, fed_by_itself, feeder_laid, feeder_if, feeders_laid}
use Rattle.circuit_build.specs.Fronts.{started, params_laid, param_ends, entered, queue_if, queues_laid, ports_of, groups_from, depth_from}
use Rattle.circuit_build.specs.Built.{join_of, front_of, with_blocks, with_join, with_feeders, whole_draft}
use Rattle.circuit_build.specs.Sizes.{NetsAreSmall}
use Rattle.circuit_build.proofs.Growth.{Grows, stays, then, within, units_due, chans_due, edge_chans, unit_grows, chan_grows, control_grows, fed_grows, edge_grows, forked_grows, through_grows, Fits, head_grows, block_grows, feeder_units, feeder_chans, firsts}
use Rattle.circuit_build.proofs.LayBlocks.{args_of}
use Rattle.circuit_build.proofs.LayHeld.{Held, args_at, args_last, join_number, params_many, held_block, held_front, held_tail, held_feeder, held_feeders}
use Rattle.circuit_build.proofs.Accesses.{firsts_few, after_own}

-- ---- what stands before the blocks

params_grow : (j : ℕ) (ss : List Scalar) (d : Draft) → Grows d (params_laid j ss d) (length ss) 0
params_grow j [] d = stays d
params_grow j (s ∷ ss) d =
    let e = with_unit (Param j) d in
    let n = length ss in
    within d (params_laid (plus j 1) ss e) (1 + n) 0 (suc n) 0 (then d e (params_laid (plus j 1) ss e) 1 0 n 0 (unit_grows (Param j) d) (params_grow (plus j 1) ss e)) (omega arith) (omega arith)

entered_grows : (ss : List Scalar) (d : Draft) → Grows d (entered ss d) (length ss) (1 + length ss)
entered_grows ss d =
    let e = params_laid 0 ss d in
    let es = param_ends 0 ss d in
    let m = params_many 0 ss d in
    within d (entered ss d) (length ss + 0) (0 + (1 + length es)) (length ss) (1 + length ss) (then d e (entered ss d) (length ss) 0 0 (1 + length es) (params_grow 0 ss d) (edge_grows 0 d.control es e)) (omega arith) (omega arith)

-- a queue is a unit
pub record Queued (d e : Draft) (n : ℕ) : Type 0 where
  pub units : units_due e ≤ units_due d + n
  pub chans : chans_due e ≡ chans_due d
  pub queues : length e.queues ≡ length d.queues + n

one_queued : (a : ℕ) (ps : List Port) (gs : List (List ℕ)) (m : ℕ) (d : Draft) → Queued d (queue_if a ps gs m d) 1
one_queued a ps [] m d = let l = length-append d.queues (None ∷ []) in record { units = omega arith; chans = refl; queues = l }
one_queued a ps (g ∷ gs) m d =
    let q : Queue = record { unit = next d; groups = number (length (g ∷ gs)); group = 0; port = 0 } in
    let l = length-append d.queues (Some q ∷ []) in
    let k = length-append d.units (Lsq a m ps (g ∷ gs) false ∷ []) in
    record { units = omega (arith, k); chans = refl; queues = l }

queues_queued : (ks : List Block) (of : List Access) (a : ℕ) (xs : List Array) (d : Draft) → Queued d (queues_laid ks of a xs d) (length xs)
queues_queued ks of a [] d = record { units = omega arith; chans = refl; queues = omega arith }
queues_queued ks of a (x ∷ xs) d =
    let e = queue_if a (ports_of a ks of) (groups_from a 0 of) (depth_from a 16 of) d in
    let f = one_queued a (ports_of a ks of) (groups_from a 0 of) (depth_from a 16 of) d in
    let h = queues_queued ks of (plus a 1) xs e in
    record { units = omega (arith, f.units, h.units); chans = h.chans ∙ f.chans; queues = omega (arith, f.queues, h.queues) }

-- ---- blocks

abbrev units_fed : Block → ℕ
units_fed k = feeder_units k.args

abbrev chans_fed : Block → ℕ
chans_fed k = feeder_chans k.args

units_left : (ks : List Block) → sum_by units_fed ks ≤ 5 * sum_by block_weight ks
units_left [] = omega arith
units_left (k ∷ ks) = let i = sum_by-cons units_fed k ks in let w = sum_by-cons block_weight k ks in let h = units_left ks in omega (arith, i, w, h)

chans_left : (ks : List Block) → sum_by chans_fed ks ≤ 8 * sum_by block_weight ks
chans_left [] = omega arith
chans_left (k ∷ ks) = let i = sum_by-cons chans_fed k ks in let w = sum_by-cons block_weight k ks in let h = chans_left ks in omega (arith, i, w, h)

fits_of : (o : Option Edge) (n : ℕ) → ((e : Edge) → o ≡ Some e → length e.with ≡ n) → Fits o n
fits_of None n h = tt
fits_of (Some e) n h = h e refl

-- the blocks from b on, of a draft whose edges are held
record BlocksGrow (g : Graph) (n : ℕ) (d e : Draft) (u c : ℕ) : Type 0 where
  grows : Grows d e u c
  held : Held g n e

blocks_grow : (g : Graph) (rs : List Bool) (n b : ℕ) (ks : List Block) (xs : List Access) (d : Draft) (u c : ℕ) → length g.blocks ≤ 32768 → All (IsBlock g) ks → xs ≡ accesses_from rs b ks
    → b + length ks ≤ length g.blocks → ((i : ℕ) (k : Block) → slice_get ks i ≡ Some k → slice_get g.blocks (b + i) ≡ Some k) → sum_by block_weight ks < 2 ^ 31 → n + 2 * length ks < 2 ^ 31 → Held g n d
    → u + sum_by units_fed ks ≡ 5 * sum_by block_weight ks → c + sum_by chans_fed ks ≡ 8 * sum_by block_weight ks
    → BlocksGrow g (n + 2 * length ks) d (blocks_laid g.arrays (join_of g) (edge_counts g.blocks) b ks xs d) u c
blocks_grow g rs n b [] xs d u c low fine of few at_b light room held x y =
    record { grows = within d d 0 0 u c (stays d) (omega arith) (omega arith); held = subst (λ m. Held g m d) (let z : n ≡ n + 2 * 0 = omega arith in z) held }
blocks_grow g rs n b (k ∷ ks) xs d u c low fine of few at_b light room held x y =
    let counts = edge_counts g.blocks in
    let ins = ins_of counts b in
    let p : plus b 1 ≡ suc b = omega (arith, few, low) in
    let here : slice_get g.blocks b ≡ Some k = ap (slice_get g.blocks) (let z : b ≡ b + 0 = omega arith in z) ∙ at_b 0 k refl in
    let e = block_laid g.arrays (join_of g) ins b k xs d in
    let ys = after_block b xs in
    let z = blocks_laid g.arrays (join_of g) counts (plus b 1) ks ys e in
    let i = sum_by-cons units_fed k ks in
    let j = sum_by-cons chans_fed k ks in
    let w = sum_by-cons block_weight k ks in
    let ul = units_left ks in
    let cl = chans_left ks in
    let v : ℕ = 5 * block_weight k - units_fed k in
    let t : ℕ = 8 * block_weight k - chans_fed k in
    let fit : Fits (tail_of ins b d) (length k.args) = fits_of (tail_of ins b d) (length k.args) (λ e s. held_tail g n ins b d e (omega (arith, few)) held s ∙ ap (λ (ws : List ℕ). length ws) (args_at g b k here)) in
    let first : Grows d e v t = block_grows g.arrays (join_of g) ins b k xs d v t (subst (λ zs. firsts b zs ≤ accesses_in k.steps) (sym of) (firsts_few b rs k ks)) fit (omega (arith, w, light)) (omega arith) (omega arith) in
    let later : ys ≡ accesses_from rs (plus b 1) ks = ap (after_block b) of ∙ after_own b rs k ks ∙ ap (λ n. accesses_from rs n ks) (sym p) in
    let rest_of : (u - v) + sum_by units_fed ks ≡ 5 * sum_by block_weight ks = omega (arith, i, w, x, ul) in
    let rest_due : (c - t) + sum_by chans_fed ks ≡ 8 * sum_by block_weight ks = omega (arith, j, w, y, cl) in
    let next_held = held_block g n b k xs d low (All-head (IsBlock g) k ks fine) (omega (arith, room)) held in
    let rest = blocks_grow g rs (n + 2) (plus b 1) ks ys e (u - v) (c - t) low (All-tail (IsBlock g) k ks fine) later (omega (arith, p, few))
    (λ i q s. ap (slice_get g.blocks) (let z : plus b 1 + i ≡ b + suc i = omega (arith, p) in z) ∙ at_b (suc i) q s) (omega (arith, w, light)) (omega (arith, room)) next_held rest_of rest_due in
    record {
      grows = within d z (v + (u - v)) (t + (c - t)) u c (then d e z v t (u - v) (c - t) first rest.grows) (omega (arith, i, w, x, ul)) (omega (arith, j, w, y, cl));
      held = subst (λ m. Held g m z) (let z : n + 2 + 2 * length ks ≡ n + 2 * length (k ∷ ks) = omega arith in z) rest.held;
    }

-- ---- the return join

all_ended_grow : (qs : List (Option Queue)) (d : Draft) → Grows d (all_ended qs d) 0 (length qs)
all_ended_grow [] d = stays d
all_ended_grow (None ∷ qs) d = let n = length qs in within d (all_ended qs d) 0 n 0 (suc n) (all_ended_grow qs d) (omega arith) (omega arith)
all_ended_grow (Some q ∷ qs) d =
    let e = ended_by (Some q) d in
    let n = length qs in
    within d (all_ended qs e) 0 (1 + n) 0 (suc n) (then d e (all_ended qs e) 0 1 0 n (through_grows q q.groups d) (all_ended_grow qs e)) (omega arith) (omega arith)

exited_grows : (r : Option Ty) (d : Draft) → Grows d (exited r d) 1 2
exited_grows None d =
    let e = with_unit Exit d in
    within d (exited None d) 1 1 1 2 (then d e (exited None d) 1 0 0 1 (unit_grows Exit d) (chan_grows d.control (at (next d) 0) 32 true e)) (omega arith) (omega arith)
exited_grows (Some t) d =
    let e = with_unit Exit d in
    let f = with_chan d.control (at (next d) 0) 32 true e in
    let h = copied 0 f in
    let same : Grows f h 0 0 = record { units = omega arith; chans = omega arith; queues = refl } in
    then d e (exited (Some t) d) 1 0 0 2 (unit_grows Exit d) (then e f (exited (Some t) d) 0 1 0 1 (chan_grows d.control (at (next d) 0) 32 true e) (then f h (exited (Some t) d) 0 0 0 1 same (fed_grows (copy_of 0 f) (next d) 1 h)))

one_result : (r : Option Ty) → length (result_widths r) ≤ 1
one_result None = omega arith
one_result (Some t) = omega arith

join_grows : (ins join : ℕ) (r : Option Ty) (d : Draft) → Fits (tail_of ins join d) (length (result_widths r)) → Grows d (join_laid ins join r d) 5 (5 + length d.queues)
join_grows ins join r d fit =
    let n = length (result_widths r) in
    let one = one_result r in
    let e = head_laid ins join (result_widths r) (ones (result_widths r)) 0 d in
    let h = head_grows ins join (result_widths r) (ones (result_widths r)) 0 d fit in
    let f = all_ended e.queues e in
    let z = exited r f in
    let m = length e.queues in
    let same = h.queues in
    within d z ((1 + 0 + 3 * n) + (0 + 1)) ((0 + 3 * n) + (m + 2)) 5 (5 + length d.queues)
    (then d e z (1 + 0 + 3 * n) (0 + 3 * n) (0 + 1) (m + 2) h (then e f z 0 m 1 2 (all_ended_grow e.queues e) (exited_grows r f)))
    (omega (arith, one))
    (omega (arith, one, same))

-- ---- feeders

zero_grows : (w : ℕ) (d : Draft) → Grows d (zero_laid w d) 1 1
zero_grows w d =
    let e = triggered d in
    let f = with_unit (Const w 0) e in
    let same : Grows d e 0 0 = record { units = omega arith; chans = omega arith; queues = refl } in
    then d e (zero_laid w d) 0 0 1 1 same (then e f (zero_laid w d) 1 0 0 1 (unit_grows (Const w 0) e) (fed_grows (trigger_of d) (next d) 0 f))

zeros_grow : (ws : List ℕ) (d : Draft) → Grows d (zeros_laid ws d) (length ws) (length ws)
zeros_grow [] d = stays d
zeros_grow (w ∷ ws) d =
    let e = zero_laid w d in
    let n = length ws in
    within d (zeros_laid ws e) (1 + n) (1 + n) (suc n) (suc n) (then d e (zeros_laid ws e) 1 1 n n (zero_grows w d) (zeros_grow ws e)) (omega arith) (omega arith)

zeros_many : (ws : List ℕ) (d : Draft) → length (zero_ends ws d) ≡ length ws
zeros_many [] d = refl
zeros_many (w ∷ ws) d = ap suc (zeros_many ws (zero_laid w d))

-- a fork of control is one unit
control_one : (n : ℕ) (d : Draft) → Grows d (control_forked n d) 1 1
control_one zero d = within d d 0 0 1 1 (stays d) (omega arith) (omega arith)
control_one (suc n) d = let g = forked_grows (plus (suc n) 1) d in record { units = g.units; chans = g.chans; queues = g.queues }

itself_grows : (n : ℕ) (d : Draft) → Grows d (fed_by_itself n d) 2 3
itself_grows n d =
    let a = with_unit (Branch 32) d in
    let b = with_chan (at (next d) 1) (at (next d) 1) 32 true a in
    let e = with_control (at (next d) 0) b in
    let f = control_forked (plus n 1) e in
    let h = triggered f in
    let z = fed_by_itself n d in
    let same : Grows f h 0 0 = record { units = omega arith; chans = omega arith; queues = refl } in
    then d a z 1 0 1 3 (unit_grows (Branch 32) d)
    (then a b z 0 1 1 2 (chan_grows (at (next d) 1) (at (next d) 1) 32 true a) (then b e z 0 0 1 2 (control_grows (at (next d) 0) b) (then e f z 1 1 0 1 (control_one (plus n 1) e) (then f h z 0 0 0 1 same (fed_grows (trigger_of f) (next d) 0 h)))))

feeder_grows : (t : ℕ) (ws : List ℕ) (d : Draft) → Grows d (feeder_laid t ws d) (feeder_units ws) (feeder_chans ws)
feeder_grows t ws d =
    let n = length ws in
    let e = fed_by_itself (number n) d in
    let f = zeros_laid ws e in
    let es = zero_ends ws e in
    let many = zeros_many ws e in
    let z = feeder_laid t ws d in
    within d z (2 + (n + 0)) (3 + (n + (1 + length es))) (feeder_units ws) (feeder_chans ws)
    (then d e z 2 3 (n + 0) (n + (1 + length es)) (itself_grows (number n) d) (then e f z n n 0 (1 + length es) (zeros_grow ws e) (edge_grows t f.control es f)))
    (omega arith)
    (omega (arith, many))

feeder_if_grows : (n t : ℕ) (ws : List ℕ) (d : Draft) → Grows d (feeder_if n t ws d) (feeder_units ws) (feeder_chans ws)
feeder_if_grows zero t ws d = feeder_grows t ws d
feeder_if_grows (suc n) t ws d = within d d 0 0 (feeder_units ws) (feeder_chans ws) (stays d) (omega arith) (omega arith)

feeders_grow : (counts : List ℕ) (b : ℕ) (ks : List Block) (d : Draft) → Grows d (feeders_laid counts b ks d) (sum_by units_fed ks) (sum_by chans_fed ks)
feeders_grow counts b [] d = stays d
feeders_grow counts b (k ∷ ks) d =
    let e = feeder_if (get_or counts b 0) b k.args d in
    let z = feeders_laid counts (plus b 1) ks e in
    let i = sum_by-cons units_fed k ks in
    let j = sum_by-cons chans_fed k ks in
    within d z (units_fed k + sum_by units_fed ks) (chans_fed k + sum_by chans_fed ks) (sum_by units_fed (k ∷ ks)) (sum_by chans_fed (k ∷ ks))
    (then d e z (units_fed k) (chans_fed k) (sum_by units_fed ks) (sum_by chans_fed ks) (feeder_if_grows (get_or counts b 0) b k.args d) (feeders_grow counts (plus b 1) ks e))
    (omega (arith, i))
    (omega (arith, j))

-- ---- the channels of the edges

data_many : (mux place : ℕ) (es : List End) (d : Draft) → length (data_laid mux place es d).chans ≡ length d.chans + length es
data_many mux place [] d = omega arith
data_many mux place (e ∷ es) d =
    let f = fed e mux place d in
    let l = length-append d.chans (record { from = e.place; to = at mux place; width = e.width; slots = 1; delay = 1; ctl = false } ∷ []) in
    let h = data_many (plus mux 1) place es f in
    omega (arith, l, h)

edge_many : (h j : ℕ) (e : Edge) (d : Draft) → length (edge_at h j e d).chans ≤ length d.chans + edge_chans e
edge_many zero j e d = omega arith
edge_many (suc u) j e d =
    let h = suc u in
    let f = with_chan e.control (at h j) 32 true d in
    let l = length-append d.chans (record { from = e.control; to = at h j; width = 32; slots = 1; delay = 1; ctl = true } ∷ []) in
    let i = data_many (plus h 2) (plus j 1) e.with f in
    omega (arith, l, i)

edges_many : (seen : List ℕ) (es : List Edge) (d : Draft) → length (edges_laid seen es d).chans ≤ length d.chans + sum_by edge_chans es
edges_many seen [] d = omega arith
edges_many seen (e ∷ es) d =
    let f = edge_laid (get_or seen e.to 0) e d in
    let a = edge_many (get_or d.heads e.to 0) (get_or seen e.to 0) e d in
    let h = edges_many (raised e.to seen) es f in
    let s = sum_by-cons edge_chans e es in
    omega (arith, a, h, s)

data_units : (mux place : ℕ) (es : List End) (d : Draft) → (data_laid mux place es d).units ≡ d.units
data_units mux place [] d = refl
data_units mux place (e ∷ es) d = data_units (plus mux 1) place es (fed e mux place d)

edge_units : (h j : ℕ) (e : Edge) (d : Draft) → (edge_at h j e d).units ≡ d.units
edge_units zero j e d = refl
edge_units (suc u) j e d = data_units (plus (suc u) 2) (plus j 1) e.with (with_chan e.control (at (suc u) j) 32 true d)

edges_units : (seen : List ℕ) (es : List Edge) (d : Draft) → (edges_laid seen es d).units ≡ d.units
edges_units seen [] d = refl
edges_units seen (e ∷ es) d = let j = get_or seen e.to 0 in edges_units (raised e.to seen) es (edge_laid j e d) ∙ edge_units (get_or d.heads e.to 0) j e d

-- ---- all

pub arrays_few : (xs : List Array) → All (λ (x : Array). 0 < x.len) xs → length xs ≤ sum_by (λ (x : Array). x.len) xs
arrays_few [] h = omega arith
arrays_few (x ∷ xs) h =
    let P : Array → Type 0 = λ x. 0 < x.len in
    let a = All-head P x xs h in
    let b = arrays_few xs (All-tail P x xs h) in
    let s = sum_by-cons (λ (x : Array). x.len) x xs in
    omega (arith, a, b, s)

first_weighs : (bs : List Block) (b : Block) → slice_get bs 0 ≡ Some b → block_weight b ≤ sum_by block_weight bs
first_weighs [] b e = absurd (cc)
first_weighs (x ∷ xs) b e = let same : x ≡ b = cc in let s = sum_by-cons block_weight x xs in subst (λ y. block_weight y ≤ sum_by block_weight (x ∷ xs)) same (omega (arith, s))

-- the scalars are the arguments of block 0
pub scalars_few : (g : Graph) → IsGraph g → length g.scalars ≤ size g
scalars_few g h =
    let a = first_weighs g.blocks h.entry h.first in
    let b = ap (λ (ws : List ℕ). length ws) h.scalars in
    let m = length-map g.scalars (λ s. ty_width s.ty) in
    omega (arith, a, b, m)

-- up to the end of the blocks
pub record Before (g : Graph) (d : Draft) (u c : ℕ) : Type 0 where
  pub units : units_due d ≤ 1 + length g.scalars + length g.arrays + u
  pub chans : chans_due d ≤ 1 + length g.scalars + c
  pub queues : length d.queues ≡ length g.arrays

pub front_grows : (g : Graph) (gs : Groups) → Before g (front_of g gs) 0 0
front_grows g gs =
    let s = started (length g.blocks + 1) in
    let e = entered g.scalars s in
    let h = entered_grows g.scalars s in
    let q = queues_queued g.blocks gs.of 0 g.arrays e in
    let none : length s.queues ≡ 0 = refl in
    let one : units_due s ≡ 1 = refl in
    let no : chans_due s ≡ 0 = refl in
    record { units = omega (arith, q.units, h.units, one); chans = omega (arith, q.chans, h.chans, no); queues = omega (arith, q.queues, h.queues, none) }

pub later : (g : Graph) (d e : Draft) (u c v b : ℕ) → Before g d u c → Grows d e v b → Before g e (u + v) (c + b)
later g d e u c v b p h = record { units = omega (arith, p.units, h.units); chans = omega (arith, p.chans, h.chans); queues = h.queues ∙ p.queues }

all_blocks : (g : Graph) (gs : Groups) → IsAsked g gs → BlocksGrow g (1 + 2 * length g.blocks) (front_of g gs) (with_blocks g gs) (5 * size g - sum_by units_fed g.blocks) (8 * size g - sum_by chans_fed g.blocks)
all_blocks g gs ask =
    let u : ℕ = 5 * size g - sum_by units_fed g.blocks in
    let c : ℕ = 8 * size g - sum_by chans_fed g.blocks in
    let i = units_left g.blocks in
    let j = chans_left g.blocks in
    let few = ask.small.blocks in
    let light = ask.small.bounded in
    blocks_grow g gs.read_only 1 0 g.blocks gs.of (front_of g gs) u c few ask.graph.blocks ask.share.accesses (omega arith) (λ i q s. ap (slice_get g.blocks) (let z : 0 + i ≡ i = omega arith in z) ∙ s) (omega (arith, light)) (omega (arith, few))
    (held_front g gs ask.graph) (omega (arith, i)) (omega (arith, j))

pub blocks_before : (g : Graph) (gs : Groups) → IsAsked g gs → Before g (with_blocks g gs) (0 + (5 * size g - sum_by units_fed g.blocks)) (0 + (8 * size g - sum_by chans_fed g.blocks))
blocks_before g gs ask =
    later g (front_of g gs) (with_blocks g gs) 0 0 (5 * size g - sum_by units_fed g.blocks) (8 * size g - sum_by chans_fed g.blocks) (front_grows g gs) (all_blocks g gs ask).grows

pub feeders_after : (g : Graph) (gs : Groups) → Grows (with_blocks g gs) (with_feeders g gs) (sum_by units_fed g.blocks + 3) (sum_by chans_fed g.blocks + 6)
feeders_after g gs =
    let counts = edge_counts g.blocks in
    let ws = result_widths g.result in
    let one = one_result g.result in
    let e = feeders_laid counts 0 g.blocks (with_blocks g gs) in
    let u = sum_by units_fed g.blocks in
    let c = sum_by chans_fed g.blocks in
    within (with_blocks g gs) (with_feeders g gs) (u + feeder_units ws) (c + feeder_chans ws) (u + 3) (c + 6)
    (then (with_blocks g gs) e (with_feeders g gs) u c (feeder_units ws) (feeder_chans ws) (feeders_grow counts 0 g.blocks (with_blocks g gs)) (feeder_if_grows (get_or counts (join_of g) 0) (join_of g) ws e))
    (omega (arith, one))
    (omega (arith, one))

-- the edge that the return join takes has a value for the result
join_fits : (g : Graph) (gs : Groups) → IsAsked g gs → Fits (tail_of (ins_of (edge_counts g.blocks) (join_of g)) (join_of g) (with_feeders g gs)) (length (result_widths g.result))
join_fits g gs ask =
    let counts = edge_counts g.blocks in
    let few = ask.small.blocks in
    let n = length g.blocks in
    let same = join_number g few in
    let args = args_last g (join_of g) same in
    let e = feeders_laid counts 0 g.blocks (with_blocks g gs) in
    let one = held_feeders g (1 + 2 * n) 0 counts g.blocks (with_blocks g gs) (omega (arith, few)) (omega (arith, few)) (λ i q s. ap (slice_get g.blocks) (let z : 0 + i ≡ i = omega arith in z) ∙ s) (all_blocks g gs ask).held in
    let h = held_feeder g (1 + 2 * n + n) (get_or counts (join_of g) 0) (join_of g) (result_widths g.result) e (omega (arith, few)) (sym (ap (λ (ws : List ℕ). length ws) args)) one in
    let ins = ins_of counts (join_of g) in
    fits_of (tail_of ins (join_of g) (with_feeders g gs)) (length (result_widths g.result))
    (λ x s. held_tail g (1 + 2 * n + n + 1) ins (join_of g) (with_feeders g gs) x (omega (arith, same)) h s ∙ ap (λ (ws : List ℕ). length ws) args)

pub record Ends (g : Graph) (d : Draft) : Type 0 where
  pub units : units_due d ≤ 10 + length g.scalars + length g.arrays + 5 * size g
  pub chans : chans_due d ≤ 13 + length g.scalars + length g.arrays + 8 * size g

with_all : (g : Graph) (gs : Groups) → IsAsked g gs → Ends g (with_join g gs)
with_all g gs ask =
    let counts = edge_counts g.blocks in
    let b = blocks_before g gs ask in
    let f = feeders_after g gs in
    let j = join_grows (ins_of counts (join_of g)) (join_of g) g.result (with_feeders g gs) (join_fits g gs ask) in
    let x = units_left g.blocks in
    let y = chans_left g.blocks in
    let q = f.queues in
    record { units = omega (arith, b.units, j.units, f.units, x); chans = omega (arith, b.chans, b.queues, q, j.chans, f.chans, y) }

pub units_same : (g : Graph) (gs : Groups) → (whole_draft g gs).units ≡ (with_join g gs).units
units_same g gs = let w = with_join g gs in edges_units (zeros (length g.blocks + 1)) w.edges (record w { edges = [] })

chans_many : (g : Graph) (gs : Groups) → length (whole_draft g gs).chans ≤ length (with_join g gs).chans + sum_by edge_chans (with_join g gs).edges
chans_many g gs = let w = with_join g gs in edges_many (zeros (length g.blocks + 1)) w.edges (record w { edges = [] })

pub small : NetsAreSmall
small g gs ask =
    let w = with_all g gs ask in
    let u = ap (λ (ks : List Kind). length ks) (units_same g gs) in
    let c = chans_many g gs in
    let s = scalars_few g ask.graph in
    let a = arrays_few g.arrays ask.sound.arrays.some in
    let t = ask.sound.arrays.together in
    let b = ask.small.bounded in
    record { units = omega (arith, w.units, u, s, a, t, b); chans = omega (arith, w.chans, c) }
