-- How many units and channels are laid at most: for each block 5 and 8 for each unit of its weight, with its feeder and the channels of its edges.
use Rattle.std.proofs.Common.{◌≡◌, ℕ, zero, suc, ◌+◌, ◌-◌, ◌*◌, ◌^◌, ◌<◌, ◌≤◌, List, [], ◌∷◌, ◌++◌, length, get_or, set, Bool, true, false, refl, sym, ap, ◌∙◌, subst, arith, length-append, length-set}
use Rattle.std.specs.Prelude.{cond, ◌==◌, sum_by, slice_get, Option, Some, None}
use Rattle.std.proofs.lemmas.List.Sums.{sum_by_push, sum_by-cons}
use Rattle.el_base.specs.declared.operation.Op1.{Op1 as Unary}
use Rattle.el_base.specs.declared.operation.Op2.{Op2 as Operation}
use Rattle.el_base.specs.declared.ty.Array.{Array}
use Rattle.el_base.specs.Widths.{op1_out, op2_out}
use Rattle.ir.specs.declared.graph.Block.{Block}
use Rattle.ir.specs.declared.graph.Jump.{Jump}
use Rattle.ir.specs.declared.graph.Jump.TheVariants.{Go, Two, Return}
use Rattle.ir.specs.declared.graph.To.{To}
use Rattle.ir.specs.declared.groups.Access.{Access}
use Rattle.ir.specs.declared.instr.Instr.{Instr}
use Rattle.ir.specs.declared.instr.Instr.TheVariants as step
use Rattle.ir.specs.Accesses.{accesses_in, is_access}
use Rattle.ir.specs.Graphs.{block_weight, handed_on}
use Rattle.net_types.specs.declared.net.Place.{Place}
use Rattle.net_types.specs.declared.net.Unit.{Unit as Kind}
use Rattle.net_types.specs.declared.net.Unit.TheVariants.{Const, Op1, Op2, Select, Fork, Mux, Cmerge, Branch, Sink, Read}
use Rattle.net_types.specs.Nets.{at}
use Rattle.circuit_build.specs.declared.draft.Draft.{Draft}
use Rattle.circuit_build.specs.declared.draft.Edge.{Edge}
use Rattle.circuit_build.specs.declared.draft.End.{End}
use Rattle.circuit_build.specs.declared.draft.Queue.{Queue}
use Rattle.circuit_build.specs.Blocks.{mux_laid, muxes_laid, args_defined, merged, opened, ends_defined, passed_in, numbered, tail_of, head_by, head_laid, has_access, allocations, early_triggers, late_triggers, bare_buffered, block_opened, block_grouped, block_worked, block_laid}
use Rattle.circuit_build.specs.Drafts.{number, plus, next, with_unit, with_chan, with_control, fed, spread, spread_end, uses_of_next, defined, undefined, copied, copy_of, forked, control_forked, triggered, trigger_of, buffered}
use Rattle.circuit_build.specs.Jumps.{with_edge, is_of_head, passed, all_passed, passed_ends, all_gone, gone, branched, branched_if, all_branched, all_sides, yes_ends, no_ends, taken, control_branched, parted, result_list, jump_laid}
use Rattle.circuit_build.specs.Steps.{queue_of, with_queue, width_at, through_queue, group_taken, allocated_by, allocated, next_group, next_port, const_laid, one_laid, two_laid, select_laid, read_laid, load_taken, load_by, store_taken, store_by, step_made, step_laid, steps_laid, addr_place, data_place, value_place}
use Rattle.circuit_build.specs.Uses.{zeros, added, all_added, handed_often, uses, is_laid, constant_of, constants}

-- ---- what is laid, and what is still to be laid: the channels of the edges

abbrev pub edge_chans : Edge → ℕ
edge_chans e = 1 + length e.with

abbrev pub units_due : Draft → ℕ
units_due d = length d.units

abbrev pub chans_due : Draft → ℕ
chans_due d = length d.chans + sum_by edge_chans d.edges

-- so many units and channels more at most, and the queues as many as before
pub record Grows (d e : Draft) (u c : ℕ) : Type 0 where
  pub units : units_due e ≤ units_due d + u
  pub chans : chans_due e ≤ chans_due d + c
  pub queues : length e.queues ≡ length d.queues

pub stays : (d : Draft) → Grows d d 0 0
stays d = record { units = omega arith; chans = omega arith; queues = refl }

pub then : (d e f : Draft) (u c v b : ℕ) → Grows d e u c → Grows e f v b → Grows d f (u + v) (c + b)
then d e f u c v b p q = record { units = omega (arith, p.units, q.units); chans = omega (arith, p.chans, q.chans); queues = q.queues ∙ p.queues }

pub within : (d e : Draft) (u c v b : ℕ) → Grows d e u c → u ≤ v → c ≤ b → Grows d e v b
within d e u c v b p x y = record { units = omega (arith, p.units); chans = omega (arith, p.chans); queues = p.queues }

-- ---- one part more

pub unit_grows : (k : Kind) (d : Draft) → Grows d (with_unit k d) 1 0
unit_grows k d = let l = length-append d.units (k ∷ []) in record { units = omega (arith, l); chans = omega arith; queues = refl }

pub chan_grows : (p q : Place) (w : ℕ) (b : Bool) (d : Draft) → Grows d (with_chan p q w b d) 0 1
chan_grows p q w b d =
    let l = length-append d.chans (record { from = p; to = q; width = w; slots = 1; delay = 1; ctl = b } ∷ []) in record { units = omega arith; chans = omega (arith, l); queues = refl }

pub control_grows : (p : Place) (d : Draft) → Grows d (with_control p d) 0 0
control_grows p d = record { units = omega arith; chans = omega arith; queues = refl }

pub fed_grows : (e : End) (u p : ℕ) (d : Draft) → Grows d (fed e u p d) 0 1
fed_grows e u p d = chan_grows e.place (at u p) e.width false d

-- a unit whose input is fed
abbrev one_fed : Kind → End → Draft → Draft
one_fed k x d = fed x (next d) 0 (with_unit k d)

one_fed_grows : (k : Kind) (x : End) (d : Draft) → Grows d (one_fed k x d) 1 1
one_fed_grows k x d = let e = with_unit k d in then d e (one_fed k x d) 1 0 0 1 (unit_grows k d) (fed_grows x (next d) 0 e)

spread_grows : (x : End) (n : ℕ) (d : Draft) → Grows d (spread x n d) 1 1
spread_grows x zero d = one_fed_grows (Sink x.width) x d
spread_grows x (suc zero) d = within d d 0 0 1 1 (stays d) (omega arith) (omega arith)
spread_grows x (suc (suc n)) d = one_fed_grows (Fork x.width (suc (suc n))) x d

pub defined_grows : (p : Place) (w : ℕ) (d : Draft) → Grows d (defined p w d) 1 1
defined_grows p w d = let g = spread_grows (record { place = p; width = w }) (uses_of_next d) d in record { units = g.units; chans = g.chans; queues = g.queues }

undefined_grows : (d : Draft) → Grows d (undefined d) 0 0
undefined_grows d = record { units = omega arith; chans = omega arith; queues = refl }

copied_grows : (v : ℕ) (d : Draft) → Grows d (copied v d) 0 0
copied_grows v d = record { units = omega arith; chans = omega arith; queues = refl }

pub edge_grows : (to : ℕ) (p : Place) (es : List End) (d : Draft) → Grows d (with_edge to p es d) 0 (1 + length es)
edge_grows to p es d =
    let x : Edge = record { to = to; control = p; with = es } in
    let l = sum_by_push edge_chans d.edges x in record { units = omega arith; chans = omega (arith, l); queues = refl }

queue_grows : (a : ℕ) (q : Queue) (d : Draft) → Grows d (with_queue a q d) 0 0
queue_grows a q d = record { units = omega arith; chans = omega arith; queues = length-set d.queues a (Some q) }

pub forked_grows : (n : ℕ) (d : Draft) → Grows d (forked n d) 1 1
forked_grows n d =
    let e = with_unit (Fork 32 n) d in
    let f = with_chan d.control (at (next d) 0) 32 true e in
    then d e (forked n d) 1 0 0 1 (unit_grows (Fork 32 n) d) (then e f (forked n d) 0 1 0 0 (chan_grows d.control (at (next d) 0) 32 true e) (control_grows (at (next d) 0) f))

-- a fork of control, where it has triggers
pub control_forked_grows : (n : ℕ) (d : Draft) → Grows d (control_forked n d) n n
control_forked_grows zero d = stays d
control_forked_grows (suc n) d =
    let g = forked_grows (plus (suc n) 1) d in
    within d (control_forked (suc n) d) 1 1 (suc n) (suc n) (record { units = g.units; chans = g.chans; queues = g.queues }) (omega arith) (omega arith)

-- ---- steps

const_grows : (w n : ℕ) (d : Draft) → Grows d (const_laid w n d) 2 2
const_grows w n d =
    let e = triggered d in
    let f = one_fed (Const w n) (trigger_of d) e in
    let g : Grows d f 1 1 = let g = one_fed_grows (Const w n) (trigger_of d) e in record { units = g.units; chans = g.chans; queues = g.queues } in
    then d f (const_laid w n d) 1 1 1 1 g (defined_grows (at (next e) 0) w f)

one_grows : (op : Unary) (a : ℕ) (d : Draft) → Grows d (one_laid op a d) 2 2
one_grows op a d =
    let e = copied a d in
    let f = one_fed (Op1 op) (copy_of a d) e in
    let z = one_laid op a d in
    then d e z 0 0 2 2 (copied_grows a d) (then e f z 1 1 1 1 (one_fed_grows (Op1 op) (copy_of a d) e) (defined_grows (at (next e) 0) (op1_out op) f))

two_grows : (op : Operation) (a b : ℕ) (d : Draft) → Grows d (two_laid op a b d) 2 3
two_grows op a b d =
    let e = copied a d in
    let f = copied b e in
    let x = one_fed (Op2 op) (copy_of a d) f in
    let y = fed (copy_of b e) (next f) 1 x in
    let z = two_laid op a b d in
    then d e z 0 0 2 3 (copied_grows a d)
    (then e f z 0 0 2 3 (copied_grows b e) (then f x z 1 1 1 2 (one_fed_grows (Op2 op) (copy_of a d) f) (then x y z 0 1 1 1 (fed_grows (copy_of b e) (next f) 1 x) (defined_grows (at (next f) 0) (op2_out op) y))))

select_grows : (w c a b : ℕ) (d : Draft) → Grows d (select_laid w c a b d) 2 4
select_grows w c a b d =
    let e = copied c d in
    let f = copied a e in
    let g = copied b f in
    let x = one_fed (Select w) (copy_of c d) g in
    let y = fed (copy_of a e) (next g) 1 x in
    let v = fed (copy_of b f) (next g) 2 y in
    let z = select_laid w c a b d in
    then d e z 0 0 2 4 (copied_grows c d)
    (then e f z 0 0 2 4 (copied_grows a e)
    (then f g z 0 0 2 4 (copied_grows b f)
    (then g x z 1 1 1 3 (one_fed_grows (Select w) (copy_of c d) g) (then x y z 0 1 1 2 (fed_grows (copy_of a e) (next g) 1 x) (then y v z 0 1 1 1 (fed_grows (copy_of b f) (next g) 2 y) (defined_grows (at (next g) 0) w v))))))

load_grows : (q : Option Queue) (a w p : ℕ) (d : Draft) → Grows d (load_by q a w p d) 2 2
load_grows None a w p d =
    let e = copied p d in
    let f = one_fed (Read a) (copy_of p d) e in
    let z = read_laid a w p d in
    then d e z 0 0 2 2 (copied_grows p d) (then e f z 1 1 1 1 (one_fed_grows (Read a) (copy_of p d) e) (defined_grows (at (next e) 0) w f))
load_grows (Some q) a w p d =
    let e = copied p d in
    let f = fed (copy_of p d) q.unit (addr_place q) e in
    let l = defined (at q.unit (value_place q)) w f in
    let z = load_taken q a w p d in
    within d z 1 2 2 2
    (then d e z 0 0 1 2 (copied_grows p d) (then e f z 0 1 1 1 (fed_grows (copy_of p d) q.unit (addr_place q) e) (then f l z 1 1 0 0 (defined_grows (at q.unit (value_place q)) w f) (queue_grows a (next_port q) l))))
    (omega arith)
    (omega arith)

store_grows : (q : Option Queue) (a p v : ℕ) (d : Draft) → Grows d (store_by q a p v d) 0 2
store_grows None a p v d = within d (undefined d) 0 0 0 2 (undefined_grows d) (omega arith) (omega arith)
store_grows (Some q) a p v d =
    let e = copied p d in
    let f = copied v e in
    let x = fed (copy_of p d) q.unit (addr_place q) f in
    let y = fed (copy_of v e) q.unit (data_place q) x in
    let u = undefined y in
    let z = store_taken q a p v d in
    then d e z 0 0 0 2 (copied_grows p d)
    (then e f z 0 0 0 2 (copied_grows v e) (then f x z 0 1 0 1 (fed_grows (copy_of p d) q.unit (addr_place q) f) (then x y z 0 1 0 0 (fed_grows (copy_of v e) q.unit (data_place q) x) (then y u z 0 0 0 0 (undefined_grows y) (queue_grows a (next_port q) u)))))

-- an access leaves a channel for the group that it may begin
made_grows : (arrays : List Array) (i : Instr) (d : Draft) (c : ℕ) → c + is_access i ≡ 4 → Grows d (step_made arrays i d) 2 c
made_grows arrays (step.Const w n) d c x = within d (const_laid w n d) 2 2 2 c (const_grows w n d) (omega arith) (omega arith)
made_grows arrays (step.One op a) d c x = within d (one_laid op a d) 2 2 2 c (one_grows op a d) (omega arith) (omega arith)
made_grows arrays (step.Two op a b) d c x = within d (two_laid op a b d) 2 3 2 c (two_grows op a b d) (omega arith) (omega arith)
made_grows arrays (step.Select w k a b) d c x = within d (select_laid w k a b d) 2 4 2 c (select_grows w k a b d) (omega arith) (omega arith)
made_grows arrays (step.Load a p) d c x = let q = queue_of d a in let w = width_at arrays a in within d (load_by q a w p d) 2 2 2 c (load_grows q a w p d) (omega arith) (omega arith)
made_grows arrays (step.Store a p v) d c x = let q = queue_of d a in within d (store_by q a p v d) 0 2 2 c (store_grows q a p v d) (omega arith) (omega arith)

if_grows : (t : Bool) (d e f : Draft) (u c : ℕ) → Grows d e u c → Grows d f u c → Grows d (cond t e f) u c
if_grows true d e f u c g h = g
if_grows false d e f u c g h = h

step_grows : (arrays : List Array) (i : Instr) (d : Draft) (c : ℕ) → c + is_access i ≡ 4 → Grows d (step_laid arrays i d) 2 c
step_grows arrays i d c x = if_grows (is_laid i (uses_of_next d)) d (step_made arrays i d) (undefined d) 2 c (made_grows arrays i d c x) (within d (undefined d) 0 0 2 c (undefined_grows d) (omega arith) (omega arith))

one_step : (i : Instr) → is_access i ≤ 1
one_step (step.Const w n) = omega arith
one_step (step.One op a) = omega arith
one_step (step.Two op a b) = omega arith
one_step (step.Select w c a b) = omega arith
one_step (step.Load a p) = omega arith
one_step (step.Store a p v) = omega arith

pub few_accesses : (is : List Instr) → accesses_in is ≤ length is
few_accesses [] = omega arith
few_accesses (i ∷ is) = let a = one_step i in let b = few_accesses is in omega arith

steps_grow : (arrays : List Array) (is : List Instr) (d : Draft) (c : ℕ) → c + accesses_in is ≡ 4 * length is → Grows d (steps_laid arrays is d) (2 * length is) c
steps_grow arrays [] d c x = within d d 0 0 0 c (stays d) (omega arith) (omega arith)
steps_grow arrays (i ∷ is) d c x =
    let e = step_laid arrays i d in
    let one = one_step i in
    let all = few_accesses is in
    let b : ℕ = 4 - is_access i in
    let first : Grows d e 2 b = step_grows arrays i d b (omega arith) in
    let rest : Grows e (steps_laid arrays is e) (2 * length is) (c - b) = steps_grow arrays is e (c - b) (omega arith) in
    within d (steps_laid arrays is e) (2 + 2 * length is) (b + (c - b)) (2 * suc (length is)) c (then d e (steps_laid arrays is e) 2 b (2 * length is) (c - b) first rest) (omega arith) (omega arith)

-- ---- groups

pub through_grows : (q : Queue) (p : ℕ) (d : Draft) → Grows d (through_queue q p d) 0 1
through_grows q p d = let e = with_chan d.control (at q.unit p) 32 true d in then d e (through_queue q p d) 0 1 0 0 (chan_grows d.control (at q.unit p) 32 true d) (control_grows (at q.unit p) e)

allocated_grows : (a : ℕ) (q : Option Queue) (d : Draft) → Grows d (allocated_by a q d) 0 1
allocated_grows a None d = within d d 0 0 0 1 (stays d) (omega arith) (omega arith)
allocated_grows a (Some q) d =
    let e = through_queue q q.group d in
    then d e (group_taken a q d) 0 1 0 0 (through_grows q q.group d) (queue_grows a (next_group q) e)

-- how many accesses of a block come first
abbrev pub firsts : ℕ → List Access → ℕ
firsts b [] = 0
firsts b (x ∷ xs) = cond (x.block == b) (suc (firsts b xs)) 0

allocations_if : (t : Bool) (b : ℕ) (x : Access) (xs : List Access) (d : Draft) → Grows (allocated x.array d) (allocations b xs (allocated x.array d)) 0 (firsts b xs)
    → Grows d (cond t (allocations b xs (allocated x.array d)) d) 0 (cond t (suc (firsts b xs)) 0)
allocations_if false b x xs d h = stays d
allocations_if true b x xs d h =
    let e = allocated x.array d in
    let f = allocations b xs e in
    let n = firsts b xs in
    within d f (0 + 0) (1 + n) 0 (suc n) (then d e f 0 1 0 n (allocated_grows x.array (queue_of d x.array) d) h) (omega arith) (omega arith)

allocations_grow : (b : ℕ) (xs : List Access) (d : Draft) → Grows d (allocations b xs d) 0 (firsts b xs)
allocations_grow b [] d = stays d
allocations_grow b (x ∷ xs) d = allocations_if (x.block == b) b x xs d (allocations_grow b xs (allocated x.array d))

-- ---- heads

mux_grows : (ins w : ℕ) (d : Draft) → Grows d (mux_laid ins w d) 1 1
mux_grows ins w d = let g = one_fed_grows (Mux w ins) (trigger_of d) (triggered d) in record { units = g.units; chans = g.chans; queues = g.queues }

muxes_grow : (ins : ℕ) (ws : List ℕ) (d : Draft) → Grows d (muxes_laid ins ws d) (length ws) (length ws)
muxes_grow ins [] d = stays d
muxes_grow ins (w ∷ ws) d =
    let e = mux_laid ins w d in
    let n = length ws in
    within d (muxes_laid ins ws e) (1 + n) (1 + n) (suc n) (suc n) (then d e (muxes_laid ins ws e) 1 1 n n (mux_grows ins w d) (muxes_grow ins ws e)) (omega arith) (omega arith)

args_grow : (u : ℕ) (ws : List ℕ) (d : Draft) → Grows d (args_defined u ws d) (length ws) (length ws)
args_grow u [] d = stays d
args_grow u (w ∷ ws) d =
    let e = defined (at u 0) w d in
    let n = length ws in
    within d (args_defined (plus u 1) ws e) (1 + n) (1 + n) (suc n) (suc n) (then d e (args_defined (plus u 1) ws e) 1 1 n n (defined_grows (at u 0) w d) (args_grow (plus u 1) ws e)) (omega arith) (omega arith)

ends_grow : (es : List End) (d : Draft) → Grows d (ends_defined es d) (length es) (length es)
ends_grow [] d = stays d
ends_grow (x ∷ es) d =
    let e = defined x.place x.width d in
    let n = length es in
    within d (ends_defined es e) (1 + n) (1 + n) (suc n) (suc n) (then d e (ends_defined es e) 1 1 n n (defined_grows x.place x.width d) (ends_grow es e)) (omega arith) (omega arith)

opened_grows : (ins : ℕ) (ws : List ℕ) (t : ℕ) (d : Draft) → Grows d (opened ins ws t d) (1 + t + 3 * length ws) (t + 3 * length ws)
opened_grows ins ws t d =
    let n = length ws in
    let m = plus t (number n) in
    let a = merged ins d in
    let e = control_forked m a in
    let x = muxes_laid ins ws e in
    let z = opened ins ws t d in
    let l = length-append d.units (Cmerge ins ∷ []) in
    let first : Grows d a 1 0 = record { units = omega (arith, l); chans = omega arith; queues = refl } in
    within d z (1 + (m + (n + n))) (0 + (m + (n + n))) (1 + t + 3 * n) (t + 3 * n)
    (then d a z 1 0 (m + (n + n)) (m + (n + n)) first (then a e z m m (n + n) (n + n) (control_forked_grows m a) (then e x z n n n n (muxes_grow ins ws e) (args_grow (next e) ws x))))
    (omega arith)
    (omega arith)

passed_in_grows : (x : Edge) (t : ℕ) (d : Draft) → Grows d (passed_in x t d) (t + length x.with) (t + length x.with)
passed_in_grows x t d =
    let c = record (with_control x.control d) { heads = d.heads ++ 0 ∷ [] } in
    let e = control_forked t c in
    let n = length x.with in
    let first : Grows d c 0 0 = record { units = omega arith; chans = omega arith; queues = refl } in
    within d (passed_in x t d) (0 + (t + n)) (0 + (t + n)) (t + n) (t + n) (then d c (passed_in x t d) 0 0 (t + n) (t + n) first (then c e (passed_in x t d) t t n n (control_forked_grows t c) (ends_grow x.with e))) (omega arith) (omega arith)

-- an edge that a head takes has a value for each argument
abbrev pub Fits : Option Edge → ℕ → Type 0
Fits None n = Unit {0}
Fits (Some x) n = length x.with ≡ n

head_by_grows : (o : Option Edge) (ins : ℕ) (ws : List ℕ) (t : ℕ) (d : Draft) → Fits o (length ws) → Grows d (head_by o ins ws t d) (1 + t + 3 * length ws) (t + 3 * length ws)
head_by_grows None ins ws t d f = opened_grows ins ws t d
head_by_grows (Some x) ins ws t d f =
    let n = length x.with in
    let m = length ws in
    within d (passed_in x t d) (t + n) (t + n) (1 + t + 3 * m) (t + 3 * m) (passed_in_grows x t d) (omega (arith, f)) (omega (arith, f))

pub head_grows : (ins target : ℕ) (ws us : List ℕ) (t : ℕ) (d : Draft) → Fits (tail_of ins target d) (length ws) → Grows d (head_laid ins target ws us t d) (1 + t + 3 * length ws) (t + 3 * length ws)
head_grows ins target ws us t d f = let g = head_by_grows (tail_of ins target d) ins ws t (record d { uses = us; ends = [] }) f in record { units = g.units; chans = g.chans; queues = g.queues }

-- ---- how many ends a draft has

spread_ends : (x : End) (n : ℕ) (d : Draft) → (spread x n d).ends ≡ d.ends
spread_ends x zero d = refl
spread_ends x (suc zero) d = refl
spread_ends x (suc (suc n)) d = refl

defined_many : (p : Place) (w : ℕ) (d : Draft) → length (defined p w d).ends ≡ suc (length d.ends)
defined_many p w d =
    let x : End = record { place = p; width = w } in
    let n = uses_of_next d in
    let a = ap (λ (es : List (Option End)). length es) (spread_ends x n d) in
    let l = length-append (spread x n d).ends (spread_end x n d ∷ []) in
    omega (arith, a, l)

undefined_many : (d : Draft) → length (undefined d).ends ≡ suc (length d.ends)
undefined_many d = let l = length-append d.ends (None ∷ []) in omega (arith, l)

copied_many : (v : ℕ) (d : Draft) → length (copied v d).ends ≡ length d.ends
copied_many v d = length-set d.ends v _

load_many : (q : Option Queue) (a w p : ℕ) (d : Draft) → length (load_by q a w p d).ends ≡ suc (length d.ends)
load_many None a w p d =
    let e = copied p d in
    defined_many (at (next e) 0) w (one_fed (Read a) (copy_of p d) e) ∙ ap suc (copied_many p d)
load_many (Some q) a w p d = defined_many (at q.unit (value_place q)) w (fed (copy_of p d) q.unit (addr_place q) (copied p d)) ∙ ap suc (copied_many p d)

store_many : (q : Option Queue) (a p v : ℕ) (d : Draft) → length (store_by q a p v d).ends ≡ suc (length d.ends)
store_many None a p v d = undefined_many d
store_many (Some q) a p v d = undefined_many (copied v (copied p d)) ∙ ap suc (copied_many v (copied p d) ∙ copied_many p d)

made_many : (arrays : List Array) (i : Instr) (d : Draft) → length (step_made arrays i d).ends ≡ suc (length d.ends)
made_many arrays (step.Const w n) d = let e = triggered d in defined_many (at (next e) 0) w (one_fed (Const w n) (trigger_of d) e)
made_many arrays (step.One op a) d = let e = copied a d in defined_many (at (next e) 0) (op1_out op) (one_fed (Op1 op) (copy_of a d) e) ∙ ap suc (copied_many a d)
made_many arrays (step.Two op a b) d =
    let e = copied a d in
    let f = copied b e in
    defined_many (at (next f) 0) (op2_out op) (fed (copy_of b e) (next f) 1 (one_fed (Op2 op) (copy_of a d) f)) ∙ ap suc (copied_many b e ∙ copied_many a d)
made_many arrays (step.Select w c a b) d =
    let e = copied c d in
    let f = copied a e in
    let g = copied b f in
    defined_many (at (next g) 0) w (fed (copy_of b f) (next g) 2 (fed (copy_of a e) (next g) 1 (one_fed (Select w) (copy_of c d) g))) ∙ ap suc (copied_many b f ∙ copied_many a e ∙ copied_many c d)
made_many arrays (step.Load a p) d = load_many (queue_of d a) a (width_at arrays a) p d
made_many arrays (step.Store a p v) d = store_many (queue_of d a) a p v d

if_many : (t : Bool) (d e f : Draft) → length e.ends ≡ suc (length d.ends) → length f.ends ≡ suc (length d.ends) → length (cond t e f).ends ≡ suc (length d.ends)
if_many true d e f g h = g
if_many false d e f g h = h

pub step_many : (arrays : List Array) (i : Instr) (d : Draft) → length (step_laid arrays i d).ends ≡ suc (length d.ends)
step_many arrays i d = if_many (is_laid i (uses_of_next d)) d (step_made arrays i d) (undefined d) (made_many arrays i d) (undefined_many d)

pub steps_many : (arrays : List Array) (is : List Instr) (d : Draft) → length (steps_laid arrays is d).ends ≡ length d.ends + length is
steps_many arrays [] d = omega arith
steps_many arrays (i ∷ is) d = let a = step_many arrays i d in let b = steps_many arrays is (step_laid arrays i d) in omega (arith, a, b)

args_many : (u : ℕ) (ws : List ℕ) (d : Draft) → length (args_defined u ws d).ends ≡ length d.ends + length ws
args_many u [] d = omega arith
args_many u (w ∷ ws) d = let a = defined_many (at u 0) w d in let b = args_many (plus u 1) ws (defined (at u 0) w d) in omega (arith, a, b)

ends_many : (es : List End) (d : Draft) → length (ends_defined es d).ends ≡ length d.ends + length es
ends_many [] d = omega arith
ends_many (x ∷ es) d = let a = defined_many x.place x.width d in let b = ends_many es (defined x.place x.width d) in omega (arith, a, b)

muxes_ends : (ins : ℕ) (ws : List ℕ) (d : Draft) → (muxes_laid ins ws d).ends ≡ d.ends
muxes_ends ins [] d = refl
muxes_ends ins (w ∷ ws) d = muxes_ends ins ws (mux_laid ins w d)

forked_ends : (n : ℕ) (d : Draft) → (control_forked n d).ends ≡ d.ends
forked_ends zero d = refl
forked_ends (suc n) d = refl

head_by_many : (o : Option Edge) (ins : ℕ) (ws : List ℕ) (t : ℕ) (d : Draft) → Fits o (length ws) → length (head_by o ins ws t d).ends ≡ length d.ends + length ws
head_by_many None ins ws t d f =
    let m = plus t (number (length ws)) in
    let a = merged ins d in
    let e = control_forked m a in
    let x = muxes_laid ins ws e in
    let l = ap (λ (es : List (Option End)). length es) (muxes_ends ins ws e ∙ forked_ends m a) in
    let n = args_many (next e) ws x in
    omega (arith, l, n)
head_by_many (Some x) ins ws t d f =
    let c = record (with_control x.control d) { heads = d.heads ++ 0 ∷ [] } in
    let l = ap (λ (es : List (Option End)). length es) (forked_ends t c) in
    let n = ends_many x.with (control_forked t c) in
    omega (arith, l, n, f)

allocated_ends : (a : ℕ) (q : Option Queue) (d : Draft) → (allocated_by a q d).ends ≡ d.ends
allocated_ends a None d = refl
allocated_ends a (Some q) d = refl

if_ends : (t : Bool) (d e : Draft) → e.ends ≡ d.ends → (cond t e d).ends ≡ d.ends
if_ends true d e h = h
if_ends false d e h = refl

allocations_ends : (b : ℕ) (xs : List Access) (d : Draft) → (allocations b xs d).ends ≡ d.ends
allocations_ends b [] d = refl
allocations_ends b (x ∷ xs) d = let e = allocated x.array d in if_ends (x.block == b) d (allocations b xs e) (allocations_ends b xs e ∙ allocated_ends x.array (queue_of d x.array) d)

bare_ends : (n : ℕ) (j : Jump) (d : Draft) → (bare_buffered n j d).ends ≡ d.ends
bare_ends n (Go to) d = if_ends (length d.chans == n) d (buffered d) refl
bare_ends n (Two c a b) d = refl
bare_ends n (Return v) d = refl

-- the ends in front of the jump are the block's values
pub worked_many : (arrays : List Array) (ins b : ℕ) (k : Block) (xs : List Access) (d : Draft) → Fits (tail_of ins b d) (length k.args) → length (block_worked arrays ins b k xs d).ends ≡ length k.args + length k.steps
worked_many arrays ins b k xs d f =
    let e = block_opened ins b k xs d in
    let g = allocations b xs e in
    let u = block_grouped ins b k xs d in
    let h = head_by_many (tail_of ins b d) ins k.args (early_triggers b k xs) (record d { uses = uses k; ends = [] }) f in
    let a = ap (λ (es : List (Option End)). length es) (forked_ends (late_triggers b k xs) g ∙ allocations_ends b xs e) in
    let s = steps_many arrays k.steps u in
    let z = ap (λ (es : List (Option End)). length es) (bare_ends (length d.chans) k.jump (steps_laid arrays k.steps u)) in
    omega (arith, h, a, s, z)

-- ---- jumps

bare_grows : (n : ℕ) (to : To) (d : Draft) → Grows d (bare_buffered n (Go to) d) 1 1
bare_grows n to d = if_grows (length d.chans == n) d (buffered d) d 1 1 (forked_grows 1 d) (within d d 0 0 1 1 (stays d) (omega arith) (omega arith))

passed_grows : (t : Bool) (x : End) (d : Draft) → Grows d (passed t x d) 1 1
passed_grows true x d = one_fed_grows (Fork x.width 1) x d
passed_grows false x d = within d d 0 0 1 1 (stays d) (omega arith) (omega arith)

all_passed_grow : (m n : ℕ) (vs : List ℕ) (d : Draft) → Grows d (all_passed m n vs d) (length vs) (length vs)
all_passed_grow m n [] d = stays d
all_passed_grow m n (v ∷ vs) d =
    let x = copy_of v d in
    let t = is_of_head x.place m n in
    let e = copied v d in
    let f = passed t x e in
    let k = length vs in
    within d (all_passed m n vs f) (0 + (1 + k)) (0 + (1 + k)) (suc k) (suc k) (then d e (all_passed m n vs f) 0 0 (1 + k) (1 + k) (copied_grows v d) (then e f (all_passed m n vs f) 1 1 k k (passed_grows t x e) (all_passed_grow m n vs f))) (omega arith) (omega arith)

passed_many : (m n : ℕ) (vs : List ℕ) (d : Draft) → length (passed_ends m n vs d) ≡ length vs
passed_many m n [] d = refl
passed_many m n (v ∷ vs) d = ap suc (passed_many m n vs _)

gone_grows : (to : ℕ) (vs : List ℕ) (d : Draft) → Grows d (gone to vs d) (length vs + 1) (2 * length vs + 2)
gone_grows to vs d =
    let m = get_or d.heads to 0 in
    let n = number (length vs) in
    let es = passed_ends m n vs d in
    let many = passed_many m n vs d in
    let k = length vs in
    let e = all_passed m n vs d in
    let f = all_gone to vs d in
    let z = gone to vs d in
    let b : Grows e f 1 1 = if_grows (is_of_head e.control m n) e (buffered e) e 1 1 (forked_grows 1 e) (within e e 0 0 1 1 (stays e) (omega arith) (omega arith)) in
    within d z (k + (1 + 0)) (k + (1 + (1 + length es))) (k + 1) (2 * k + 2)
    (then d e z k k (1 + 0) (1 + (1 + length es)) (all_passed_grow m n vs d) (then e f z 1 1 0 (1 + length es) b (edge_grows to f.control es f)))
    (omega arith)
    (omega (arith, many))

branched_grows : (c v y n : ℕ) (d : Draft) → Grows d (branched c v y n d) 3 4
branched_grows c v y n d =
    let e = copied c d in
    let f = copied v e in
    let w = (copy_of v e).width in
    let u = next f in
    let x = one_fed (Branch w) (copy_of c d) f in
    let b = fed (copy_of v e) u 1 x in
    let one : End = record { place = at u 0; width = w } in
    let two : End = record { place = at u 1; width = w } in
    let g = spread one y b in
    let z = branched c v y n d in
    then d e z 0 0 3 4 (copied_grows c d)
    (then e f z 0 0 3 4 (copied_grows v e)
    (then f x z 1 1 2 3 (one_fed_grows (Branch w) (copy_of c d) f)
    (then x b z 0 1 2 2 (fed_grows (copy_of v e) u 1 x) (then b g z 1 1 1 1 (spread_grows one y b) (spread_grows two n g)))))

-- a value that is handed on
branched_if_grows : (c v y n : ℕ) (d : Draft) → Grows d (branched_if c v y n d) (3 * (y + n)) (4 * (y + n))
branched_if_grows c v zero zero d = stays d
branched_if_grows c v (suc y) n d = within d (branched c v (suc y) n d) 3 4 (3 * (suc y + n)) (4 * (suc y + n)) (branched_grows c v (suc y) n d) (omega arith) (omega arith)
branched_if_grows c v zero (suc n) d = within d (branched c v zero (suc n) d) 3 4 (3 * (zero + suc n)) (4 * (zero + suc n)) (branched_grows c v zero (suc n) d) (omega arith) (omega arith)

abbrev total : List ℕ → ℕ
total [] = 0
total (x ∷ xs) = x + total xs

-- what a table has from v on, so many
abbrev from : ℕ → ℕ → List ℕ → ℕ
from v zero ns = 0
from v (suc k) ns = get_or ns v 0 + from (suc v) k ns

from_none : (v k : ℕ) → from v k [] ≡ 0
from_none v zero = refl
from_none v (suc k) = let i = from_none (suc v) k in omega (arith, i)

from_later : (v k x : ℕ) (ns : List ℕ) → from (suc v) k (x ∷ ns) ≡ from v k ns
from_later v zero x ns = refl
from_later v (suc k) x ns = ap (λ m. get_or ns v 0 + m) (from_later (suc v) k x ns)

from_most : (k : ℕ) (ns : List ℕ) → from 0 k ns ≤ total ns
from_most k [] = let z = from_none 0 k in omega (arith, z)
from_most zero (x ∷ ns) = omega arith
from_most (suc k) (x ∷ ns) = let a = from_later 0 k x ns in let i = from_most k ns in omega (arith, a, i)

all_branched_grow : (c v : ℕ) (ys ns : List ℕ) (d : Draft) → v + length ys < 2 ^ 32 → Grows d (all_branched c v ys ns d) (3 * (total ys + from v (length ys) ns)) (4 * (total ys + from v (length ys) ns))
all_branched_grow c v [] ns d few = stays d
all_branched_grow c v (y ∷ ys) ns d few =
    let n = get_or ns v 0 in
    let e = branched_if c v y n d in
    let z = all_branched c (plus v 1) ys ns e in
    let same : plus v 1 ≡ suc v = omega (arith, few) in
    let m = total ys + from (plus v 1) (length ys) ns in
    let at_next = ap (λ u. from u (length ys) ns) same in
    within d z (3 * (y + n) + 3 * m) (4 * (y + n) + 4 * m) (3 * (total (y ∷ ys) + from v (length (y ∷ ys)) ns)) (4 * (total (y ∷ ys) + from v (length (y ∷ ys)) ns))
    (then d e z (3 * (y + n)) (4 * (y + n)) (3 * m) (4 * m) (branched_if_grows c v y n d) (all_branched_grow c (plus v 1) ys ns e (omega (arith, same, few))))
    (omega (arith, at_next))
    (omega (arith, at_next))

total_append : (xs ys : List ℕ) → total (xs ++ ys) ≡ total xs + total ys
total_append [] ys = omega arith
total_append (x ∷ xs) ys = let i = total_append xs ys in omega (arith, i)

total_zeros : (n : ℕ) → total (zeros n) ≡ 0
total_zeros zero = refl
total_zeros (suc n) = let a = total_append (zeros n) (0 ∷ []) in let i = total_zeros n in omega (arith, a, i)

total_set : (t : List ℕ) (v x : ℕ) → total (set t v x) + get_or t v 0 ≤ total t + x
total_set [] v x = omega arith
total_set (y ∷ t) zero x = omega arith
total_set (y ∷ t) (suc v) x = let i = total_set t v x in omega (arith, i)

total_added : (vs t : List ℕ) → total (all_added vs t) ≤ total t + length vs
total_added [] t = omega arith
total_added (v ∷ vs) t = let a = total_set t v (plus (get_or t v 0) 1) in let i = total_added vs (added v 1 t) in omega (arith, a, i)

handed_total : (n : ℕ) (to : To) → total (handed_often n to) ≤ length to.with
handed_total n to = let a = total_added to.with (zeros n) in let z = total_zeros n in omega (arith, a, z)

zeros_long : (n : ℕ) → length (zeros n) ≡ n
zeros_long zero = refl
zeros_long (suc n) = let a = length-append (zeros n) (0 ∷ []) in let i = zeros_long n in omega (arith, a, i)

added_long : (vs t : List ℕ) → length (all_added vs t) ≡ length t
added_long [] t = refl
added_long (v ∷ vs) t = added_long vs (added v 1 t) ∙ length-set t v (plus (get_or t v 0) 1)

taken_many : (vs : List ℕ) (es : List (Option End)) → length (taken vs es) ≡ length vs
taken_many [] es = refl
taken_many (v ∷ vs) es = ap suc (taken_many vs _)

control_branched_grows : (c : ℕ) (d : Draft) → Grows d (control_branched c d) 1 2
control_branched_grows c d =
    let e = copied c d in
    let x = one_fed (Branch 32) (copy_of c d) e in
    let z = control_branched c d in
    then d e z 0 0 1 2 (copied_grows c d) (then e x z 1 1 0 1 (one_fed_grows (Branch 32) (copy_of c d) e) (chan_grows e.control (at (next e) 1) 32 true x))

parted_grows : (c : ℕ) (a b : To) (d : Draft) → length d.ends < 2 ^ 32 → Grows d (parted c a b d) (3 * (length a.with + length b.with) + 1) (5 * (length a.with + length b.with) + 4)
parted_grows c a b d few =
    let n = length a.with in
    let m = length b.with in
    let ys = handed_often (length d.ends) a in
    let ns = handed_often (length d.ends) b in
    let e = all_branched c 0 ys ns d in
    let ss = all_sides c 0 ys ns d in
    let h = control_branched c e in
    let u = next (copied c e) in
    let for_yes = taken a.with (yes_ends ss) in
    let for_no = taken b.with (no_ends ss) in
    let k = with_edge a.block (at u 0) for_yes h in
    let z = parted c a b d in
    let t = total ys + from 0 (length ys) ns in
    let ty = handed_total (length d.ends) a in
    let tn = handed_total (length d.ends) b in
    let fn = from_most (length ys) ns in
    let long = added_long a.with (zeros (length d.ends)) ∙ zeros_long (length d.ends) in
    let i = taken_many a.with (yes_ends ss) in
    let j = taken_many b.with (no_ends ss) in
    within d z (3 * t + (1 + (0 + 0))) (4 * t + (2 + ((1 + length for_yes) + (1 + length for_no)))) (3 * (n + m) + 1) (5 * (n + m) + 4)
    (then d e z (3 * t) (4 * t) (1 + (0 + 0)) (2 + ((1 + length for_yes) + (1 + length for_no))) (all_branched_grow c 0 ys ns d (omega (arith, long, few)))
    (then e h z 1 2 (0 + 0) ((1 + length for_yes) + (1 + length for_no)) (control_branched_grows c e)
    (then h k z 0 (1 + length for_yes) 0 (1 + length for_no) (edge_grows a.block (at u 0) for_yes h) (edge_grows b.block (at u 1) for_no k))))
    (omega (arith, ty, tn, fn))
    (omega (arith, ty, tn, fn, i, j))

-- ---- blocks, each with its feeder

abbrev pub feeder_units : List ℕ → ℕ
feeder_units ws = 2 + length ws

abbrev pub feeder_chans : List ℕ → ℕ
feeder_chans ws = 4 + 2 * length ws

-- the buffer of a bare block and the jump
jump_grows : (n join : ℕ) (j : Jump) (d : Draft) → length d.ends < 2 ^ 32 → Grows d (jump_laid join j (bare_buffered n j d)) (2 + 3 * handed_on j) (4 + 5 * handed_on j)
jump_grows n join (Go to) d few =
    let m = length to.with in
    let e = bare_buffered n (Go to) d in
    within d (gone to.block to.with e) (1 + (m + 1)) (1 + (2 * m + 2)) (2 + 3 * m) (4 + 5 * m) (then d e (gone to.block to.with e) 1 1 (m + 1) (2 * m + 2) (bare_grows n to d) (gone_grows to.block to.with e)) (omega arith) (omega arith)
jump_grows n join (Two t a b) d few =
    let m = length a.with + length b.with in
    within d (parted t a b d) (3 * m + 1) (5 * m + 4) (2 + 3 * m) (4 + 5 * m) (parted_grows t a b d few) (omega arith) (omega arith)
jump_grows n join (Return None) d few = within d (gone join [] d) 1 2 (2 + 3 * 0) (4 + 5 * 0) (gone_grows join [] d) (omega arith) (omega arith)
jump_grows n join (Return (Some v)) d few = within d (gone join (v ∷ []) d) 2 4 (2 + 3 * 0) (4 + 5 * 0) (gone_grows join (v ∷ []) d) (omega arith) (omega arith)

one_constant : (i : Instr) (u : ℕ) → constant_of i u ≤ 1
one_constant (step.Const w n) zero = omega arith
one_constant (step.Const w n) (suc u) = omega arith
one_constant (step.One op a) u = omega arith
one_constant (step.Two op a b) u = omega arith
one_constant (step.Select w c a b) u = omega arith
one_constant (step.Load a p) u = omega arith
one_constant (step.Store a p v) u = omega arith

pub few_constants : (v : ℕ) (is : List Instr) (us : List ℕ) → constants v is us ≤ length is
few_constants v [] us = omega arith
few_constants v (i ∷ is) us = let a = one_constant i (get_or us v 0) in let b = few_constants (suc v) is us in omega (arith, a, b)

one_of_two : (t : Bool) (n : ℕ) → cond t 0 n + cond t n 0 ≡ n
one_of_two true n = omega arith
one_of_two false n = omega arith

pub few_triggers : (b : ℕ) (k : Block) (xs : List Access) → early_triggers b k xs + late_triggers b k xs ≤ length k.steps
few_triggers b k xs =
    let c = constants (length k.args) k.steps (uses k) in
    let a = one_of_two (has_access b xs) (number c) in
    let f = few_constants (length k.args) k.steps (uses k) in
    omega (arith, a, f)

pub block_grows : (arrays : List Array) (join ins b : ℕ) (k : Block) (xs : List Access) (d : Draft) (u c : ℕ) → firsts b xs ≤ accesses_in k.steps → Fits (tail_of ins b d) (length k.args) → length k.args + length k.steps < 2 ^ 32
    → u + feeder_units k.args ≡ 5 * block_weight k → c + feeder_chans k.args ≡ 8 * block_weight k → Grows d (block_laid arrays join ins b k xs d) u c
block_grows arrays join ins b k xs d u c few fits small x y =
    let n = length k.args in
    let s = length k.steps in
    let t = accesses_in k.steps in
    let m = firsts b xs in
    let j = handed_on k.jump in
    let te = early_triggers b k xs in
    let tl = late_triggers b k xs in
    let le = few_accesses k.steps in
    let tt_few = few_triggers b k xs in
    let e = block_opened ins b k xs d in
    let f = allocations b xs e in
    let h = block_grouped ins b k xs d in
    let i = steps_laid arrays k.steps h in
    let z = block_laid arrays join ins b k xs d in
    let sc : ℕ = 4 * s - t in
    let many = worked_many arrays ins b k xs d fits in
    let bare = ap (λ (es : List (Option End)). length es) (bare_ends (length d.chans) k.jump i) in
    within d z ((1 + te + 3 * n) + (0 + (tl + (2 * s + (2 + 3 * j))))) ((te + 3 * n) + (m + (tl + (sc + (4 + 5 * j))))) u c
    (then d e z (1 + te + 3 * n) (te + 3 * n) (0 + (tl + (2 * s + (2 + 3 * j)))) (m + (tl + (sc + (4 + 5 * j)))) (head_grows ins b k.args (uses k) te d fits)
    (then e f z 0 m (tl + (2 * s + (2 + 3 * j))) (tl + (sc + (4 + 5 * j))) (allocations_grow b xs e)
    (then f h z tl tl (2 * s + (2 + 3 * j)) (sc + (4 + 5 * j)) (control_forked_grows tl f)
    (then h i z (2 * s) sc (2 + 3 * j) (4 + 5 * j) (steps_grow arrays k.steps h sc (omega arith)) (jump_grows (length d.chans) join k.jump i (omega (arith, many, bare, small)))))))
    (omega (arith, tt_few, x))
    (omega (arith, tt_few, few, le, y))
