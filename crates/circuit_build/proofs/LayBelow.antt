-- All ends of a draft are of units that are laid.
use Rattle.std.proofs.Common.{◌≡◌, ℕ, zero, suc, ◌+◌, ◌<◌, ◌≤◌, List, [], ◌∷◌, ◌++◌, length, length-append, get_or, set, Bool, true, false, Option, Some, None, refl, sym, ap, ◌∙◌, subst, arith}
use Rattle.std.specs.Prelude.{cond, ◌==◌, slice_get}
use Rattle.el_base.specs.declared.operation.Op1.{Op1 as Unary}
use Rattle.el_base.specs.declared.operation.Op2.{Op2 as Binary}
use Rattle.el_base.specs.declared.ty.Array.{Array}
use Rattle.el_base.specs.declared.ty.Scalar.{Scalar}
use Rattle.el_base.specs.Widths.{op1_out, op2_out}
use Rattle.ir.specs.declared.graph.Block.{Block}
use Rattle.ir.specs.declared.graph.Jump.{Jump}
use Rattle.ir.specs.declared.graph.Jump.TheVariants.{Go, Two, Return}
use Rattle.ir.specs.declared.graph.To.{To}
use Rattle.ir.specs.declared.groups.Access.{Access}
use Rattle.ir.specs.declared.groups.Groups.{Groups}
use Rattle.ir.specs.Graphs.{Graph}
use Rattle.ir.specs.declared.instr.Instr.{Instr}
use Rattle.ir.specs.declared.instr.Instr.TheVariants as step
use Rattle.net_types.specs.declared.net.Place.{Place}
use Rattle.net_types.specs.declared.net.Unit.{Unit as Kind}
use Rattle.net_types.specs.declared.net.Unit.TheVariants.{Param, Const, Op1, Op2, Select, Fork, Sink, Read, Lsq, Mux, Cmerge, Branch}
use Rattle.net_types.specs.declared.net.Port.{Port}
use Rattle.net_types.specs.Nets.{at}
use Rattle.circuit_build.specs.declared.draft.Draft.{Draft}
use Rattle.circuit_build.specs.declared.draft.Edge.{Edge}
use Rattle.circuit_build.specs.declared.draft.End.{End}
use Rattle.circuit_build.specs.declared.draft.Queue.{Queue}
use Rattle.circuit_build.specs.Blocks.{mux_laid, muxes_laid, args_defined, merged, opened, ends_defined, passed_in, numbered, tail_of, head_by, head_laid, ins_of, allocations, after_block, early_triggers, late_triggers, bare_buffered, block_opened, block_grouped, block_worked, block_laid, blocks_laid}
use Rattle.circuit_build.specs.Drafts.{number, plus, next, end_or, end_of, with_unit, with_chan, with_control, fed, spread, spread_end, uses_of_next, defined, undefined, used, copied, copy_of, control_forked, triggered, trigger_of, buffered}
use Rattle.circuit_build.specs.Built.{join_of, front_of, with_blocks, with_feeders}
use Rattle.circuit_build.specs.Edges.{edge_counts}
use Rattle.circuit_build.specs.Fronts.{started, params_laid, param_ends, entered, queue_if, queues_laid, ports_of, groups_from, depth_from}
use Rattle.circuit_build.specs.Endings.{result_widths, zero_laid, zeros_laid, zero_ends, fed_by_itself, feeder_laid, feeder_if, feeders_laid}
use Rattle.circuit_build.specs.Jumps.{Sides, with_edge, is_of_head, passed, passed_end, all_passed, passed_ends, all_gone, gone, branched, branch_ends, branched_if, sides_if, all_branched, all_sides, yes_ends, no_ends, taken, control_branched, parted, result_list, jump_laid}
use Rattle.circuit_build.specs.Steps.{queue_or, queue_of, width_at, through_queue, group_taken, allocated_by, allocated, const_laid, one_laid, two_laid, select_laid, read_laid, value_place, addr_place, load_taken, load_by, store_by, step_made, step_laid, steps_laid, next_port, next_group}
use Rattle.circuit_build.specs.Uses.{uses, is_laid, handed_often}

-- ---- lists of ends

abbrev pub EndsBelow : ℕ → List (Option End) → Type 0
EndsBelow m [] = Unit {0}
EndsBelow m (None ∷ es) = EndsBelow m es
EndsBelow m (Some e ∷ es) = (e.place.unit < m) × EndsBelow m es

abbrev pub ListBelow : ℕ → List End → Type 0
ListBelow m [] = Unit {0}
ListBelow m (e ∷ es) = (e.place.unit < m) × ListBelow m es

abbrev pub EdgeBelow : ℕ → Edge → Type 0
EdgeBelow m e = (e.control.unit < m) × ListBelow m e.with

abbrev pub EdgesBelow : ℕ → List Edge → Type 0
EdgesBelow m [] = Unit {0}
EdgesBelow m (e ∷ es) = EdgeBelow m e × EdgesBelow m es

abbrev pub QueuesBelow : ℕ → List (Option Queue) → Type 0
QueuesBelow m [] = Unit {0}
QueuesBelow m (None ∷ qs) = QueuesBelow m qs
QueuesBelow m (Some q ∷ qs) = (q.unit < m) × QueuesBelow m qs

abbrev pub SidesBelow : ℕ → List Sides → Type 0
SidesBelow m ss = EndsBelow m (yes_ends ss) × EndsBelow m (no_ends ss)

pub ends_less : (m n : ℕ) → m ≤ n → (es : List (Option End)) → EndsBelow m es → EndsBelow n es
ends_less m n l [] h = tt
ends_less m n l (None ∷ es) h = ends_less m n l es h
ends_less m n l (Some e ∷ es) h = let a = h.0 in (omega (arith, a, l), ends_less m n l es h.1)

pub list_less : (m n : ℕ) → m ≤ n → (es : List End) → ListBelow m es → ListBelow n es
list_less m n l [] h = tt
list_less m n l (e ∷ es) h = let a = h.0 in (omega (arith, a, l), list_less m n l es h.1)

pub edge_less : (m n : ℕ) → m ≤ n → (e : Edge) → EdgeBelow m e → EdgeBelow n e
edge_less m n l e h = let a = h.0 in (omega (arith, a, l), list_less m n l e.with h.1)

pub edges_less : (m n : ℕ) → m ≤ n → (es : List Edge) → EdgesBelow m es → EdgesBelow n es
edges_less m n l [] h = tt
edges_less m n l (e ∷ es) h = (edge_less m n l e h.0, edges_less m n l es h.1)

pub queues_less : (m n : ℕ) → m ≤ n → (qs : List (Option Queue)) → QueuesBelow m qs → QueuesBelow n qs
queues_less m n l [] h = tt
queues_less m n l (None ∷ qs) h = queues_less m n l qs h
queues_less m n l (Some q ∷ qs) h = let a = h.0 in (omega (arith, a, l), queues_less m n l qs h.1)

ends_push : (m : ℕ) (es : List (Option End)) (o : Option End) → EndsBelow m es → EndsBelow m (o ∷ []) → EndsBelow m (es ++ o ∷ [])
ends_push m [] o h x = x
ends_push m (None ∷ es) o h x = ends_push m es o h x
ends_push m (Some e ∷ es) o h x = (h.0, ends_push m es o h.1 x)

edges_push : (m : ℕ) (es : List Edge) (e : Edge) → EdgesBelow m es → EdgeBelow m e → EdgesBelow m (es ++ e ∷ [])
edges_push m [] e h x = (x, tt)
edges_push m (y ∷ es) e h x = (h.0, edges_push m es e h.1 x)

pub end_below : (m : ℕ) → 1 ≤ m → (es : List (Option End)) (v : ℕ) → EndsBelow m es → (end_of es v).place.unit < m
end_below m l [] v h = omega (arith, l)
end_below m l (None ∷ es) zero h = omega (arith, l)
end_below m l (Some e ∷ es) zero h = h.0
end_below m l (None ∷ es) (suc v) h = end_below m l es v h
end_below m l (Some e ∷ es) (suc v) h = end_below m l es v h.1

ends_set : (m : ℕ) (es : List (Option End)) (v : ℕ) (x : End) → EndsBelow m es → x.place.unit < m → EndsBelow m (set es v (Some x))
ends_set m [] v x h l = tt
ends_set m (None ∷ es) zero x h l = (l, h)
ends_set m (Some e ∷ es) zero x h l = (l, h.1)
ends_set m (None ∷ es) (suc v) x h l = ends_set m es v x h l
ends_set m (Some e ∷ es) (suc v) x h l = (h.0, ends_set m es v x h.1 l)

pub used_below : (m : ℕ) → 1 ≤ m → (es : List (Option End)) (v : ℕ) → EndsBelow m es → EndsBelow m (used v es)
used_below m l es v h = ends_set m es v _ h (end_below m l es v h)

pub taken_below : (m : ℕ) → 1 ≤ m → (vs : List ℕ) (es : List (Option End)) → EndsBelow m es → ListBelow m (taken vs es)
taken_below m l [] es h = tt
taken_below m l (v ∷ vs) es h = (end_below m l es v h, taken_below m l vs (used v es) (used_below m l es v h))

queue_below : (m : ℕ) (qs : List (Option Queue)) (a : ℕ) (q : Queue) → queue_or (slice_get qs a) ≡ Some q → QueuesBelow m qs → q.unit < m
queue_below m [] a q s h = absurd (cc)
queue_below m (None ∷ qs) zero q s h = absurd (cc)
queue_below m (Some r ∷ qs) zero q s h = let same : r ≡ q = cc in subst (λ (x : Queue). x.unit < m) same h.0
queue_below m (None ∷ qs) (suc a) q s h = queue_below m qs a q s h
queue_below m (Some r ∷ qs) (suc a) q s h = queue_below m qs a q s h.1

queues_set : (m : ℕ) (qs : List (Option Queue)) (a : ℕ) (q : Queue) → QueuesBelow m qs → q.unit < m → QueuesBelow m (set qs a (Some q))
queues_set m [] a q h l = tt
queues_set m (None ∷ qs) zero q h l = (l, h)
queues_set m (Some r ∷ qs) zero q h l = (l, h.1)
queues_set m (None ∷ qs) (suc a) q h l = queues_set m qs a q h l
queues_set m (Some r ∷ qs) (suc a) q h l = (h.0, queues_set m qs a q h.1 l)

pub edge_below : (m : ℕ) (es : List Edge) (n : ℕ) (e : Edge) → slice_get es n ≡ Some e → EdgesBelow m es → EdgeBelow m e
edge_below m [] n e s h = absurd (cc)
edge_below m (x ∷ es) zero e s h = let same : x ≡ e = cc in subst (EdgeBelow m) same h.0
edge_below m (x ∷ es) (suc n) e s h = edge_below m es n e s h.1

-- ---- drafts

pub record Below (d : Draft) : Type 0 where
  pub some : 1 ≤ length d.units
  pub control : d.control.unit < length d.units
  pub ends : EndsBelow (length d.units) d.ends
  pub edges : EdgesBelow (length d.units) d.edges
  pub queues : QueuesBelow (length d.units) d.queues

-- another draft with more units, and the same but for its ends
below_as : (d e : Draft) → Below d → length d.units ≤ length e.units → e.control.unit < length e.units → EndsBelow (length e.units) e.ends → e.edges ≡ d.edges → e.queues ≡ d.queues → Below e
below_as d e h l c s x y =
    let a = h.some in
    let m = length d.units in
    let n = length e.units in
    record {
      some = omega (arith, a, l);
      control = c;
      ends = s;
      edges = subst (EdgesBelow n) (sym x) (edges_less m n l d.edges h.edges);
      queues = subst (QueuesBelow n) (sym y) (queues_less m n l d.queues h.queues);
    }

-- and the same ends, too
below_more : (d e : Draft) → Below d → length d.units ≤ length e.units → e.control ≡ d.control → e.ends ≡ d.ends → e.edges ≡ d.edges → e.queues ≡ d.queues → Below e
below_more d e h l c s x y =
    let a = h.control in
    let b = ap (λ (p : Place). p.unit) c in
    below_as d e h l (omega (arith, a, b, l)) (subst (EndsBelow (length e.units)) (sym s) (ends_less (length d.units) (length e.units) l d.ends h.ends)) x y

unit_more : (k : Kind) (us : List Kind) → length (us ++ k ∷ []) ≡ length us + 1
unit_more k us = length-append us (k ∷ [])

pub with_unit_below : (k : Kind) (d : Draft) → Below d → Below (with_unit k d)
with_unit_below k d h = let l = unit_more k d.units in below_more d (with_unit k d) h (omega (arith, l)) refl refl refl refl

pub spread_below : (x : End) (n : ℕ) (d : Draft) → Below d → Below (spread x n d)
spread_below x zero d h = let l = unit_more (Sink x.width) d.units in below_more d (spread x zero d) h (omega (arith, l)) refl refl refl refl
spread_below x (suc zero) d h = h
spread_below x (suc (suc n)) d h = let l = unit_more (Fork x.width (suc (suc n))) d.units in below_more d (spread x (suc (suc n)) d) h (omega (arith, l)) refl refl refl refl

pub spread_more : (x : End) (n : ℕ) (d : Draft) → length d.units ≤ length (spread x n d).units
spread_more x zero d = let l = unit_more (Sink x.width) d.units in omega (arith, l)
spread_more x (suc zero) d = omega arith
spread_more x (suc (suc n)) d = let l = unit_more (Fork x.width (suc (suc n))) d.units in omega (arith, l)

-- where the end of the value is then
pub spread_end_below : (x : End) (n : ℕ) (d : Draft) → x.place.unit < length d.units → EndsBelow (length (spread x n d).units) (spread_end x n d ∷ [])
spread_end_below x zero d l = tt
spread_end_below x (suc zero) d l = (l, tt)
spread_end_below x (suc (suc n)) d l = let m = unit_more (Fork x.width (suc (suc n))) d.units in (omega (arith, m), tt)

pub spread_ends : (x : End) (n : ℕ) (d : Draft) → (spread x n d).ends ≡ d.ends
spread_ends x zero d = refl
spread_ends x (suc zero) d = refl
spread_ends x (suc (suc n)) d = refl

pub defined_below : (p : Place) (w : ℕ) (d : Draft) → p.unit < length d.units → Below d → Below (defined p w d)
defined_below p w d l h =
    let x : End = record { place = p; width = w } in
    let n = uses_of_next d in
    let f = spread x n d in
    let b = spread_below x n d h in
    record {
      some = b.some;
      control = b.control;
      ends = ends_push (length f.units) f.ends (spread_end x n d) b.ends (spread_end_below x n d l);
      edges = b.edges;
      queues = b.queues;
    }

pub undefined_below : (d : Draft) → Below d → Below (undefined d)
undefined_below d h = record { some = h.some; control = h.control; ends = ends_push (length d.units) d.ends None h.ends tt; edges = h.edges; queues = h.queues }

pub copied_below : (v : ℕ) (d : Draft) → Below d → Below (copied v d)
copied_below v d h = record { some = h.some; control = h.control; ends = used_below (length d.units) h.some d.ends v h.ends; edges = h.edges; queues = h.queues }

pub copy_below : (v : ℕ) (d : Draft) → Below d → (copy_of v d).place.unit < length d.units
copy_below v d h = end_below (length d.units) h.some d.ends v h.ends

pub buffered_below : (d : Draft) → Below d → Below (buffered d)
buffered_below d h =
    let l = unit_more (Fork 32 1) d.units in
    below_as d (buffered d) h (omega (arith, l)) (omega (arith, l)) (ends_less (length d.units) (length (buffered d).units) (omega (arith, l)) d.ends h.ends) refl refl

pub control_below : (n : ℕ) (d : Draft) → Below d → Below (control_forked n d)
control_below zero d h = h
control_below (suc n) d h =
    let l = unit_more (Fork 32 (plus (suc n) 1)) d.units in
    below_as d (control_forked (suc n) d) h (omega (arith, l)) (omega (arith, l)) (ends_less (length d.units) (length (control_forked (suc n) d).units) (omega (arith, l)) d.ends h.ends) refl refl

-- a unit more, whose output is the next value
unit_defined : (k : Kind) (e f : Draft) (w : ℕ) → Below e → f.units ≡ e.units ++ k ∷ [] → f.control ≡ e.control → f.ends ≡ e.ends → f.edges ≡ e.edges → f.queues ≡ e.queues → Below (defined (at (next e) 0) w f)
unit_defined k e f w h u c s x y =
    let l = unit_more k e.units in
    let m = ap (λ (us : List Kind). length us) u in
    defined_below (at (next e) 0) w f (omega (arith, l, m)) (below_more e f h (omega (arith, l, m)) c s x y)

-- ---- steps

read_below : (a w p : ℕ) (d : Draft) → Below d → Below (read_laid a w p d)
read_below a w p d h = let e = copied p d in unit_defined (Read a) e (fed (copy_of p d) (next e) 0 (with_unit (Read a) e)) w (copied_below p d h) refl refl refl refl refl

load_below : (o : Option Queue) (a w p : ℕ) (d : Draft) → queue_of d a ≡ o → Below d → Below (load_by o a w p d)
load_below None a w p d e h = read_below a w p d h
load_below (Some q) a w p d e h =
    let c = copied p d in
    let f = fed (copy_of p d) q.unit (addr_place q) c in
    let u = queue_below (length d.units) d.queues a q e h.queues in
    let b = copied_below p d h in
    let m = spread_more (record { place = at q.unit (value_place q); width = w }) (uses_of_next f) f in
    let g = defined_below (at q.unit (value_place q)) w f u (below_more c f b (omega arith) refl refl refl refl) in
    record {
      some = g.some;
      control = g.control;
      ends = g.ends;
      edges = g.edges;
      queues = queues_set (length (defined (at q.unit (value_place q)) w f).units) (defined (at q.unit (value_place q)) w f).queues a (next_port q) g.queues (omega (arith, u, m));
    }

store_below : (o : Option Queue) (a p v : ℕ) (d : Draft) → queue_of d a ≡ o → Below d → Below (store_by o a p v d)
store_below None a p v d e h = undefined_below d h
store_below (Some q) a p v d e h =
    let c = copied p d in
    let f = copied v c in
    let b = copied_below v c (copied_below p d h) in
    let u = queue_below (length d.units) d.queues a q e h.queues in
    record {
      some = b.some;
      control = b.control;
      ends = ends_push (length d.units) f.ends None b.ends tt;
      edges = b.edges;
      queues = queues_set (length d.units) d.queues a (next_port q) h.queues u;
    }

made_below : (arrays : List Array) (i : Instr) (d : Draft) → Below d → Below (step_made arrays i d)
made_below arrays (step.Const w n) d h =
    let e = triggered d in
    unit_defined (Const w n) e (fed (trigger_of d) (next e) 0 (with_unit (Const w n) e)) w (record { some = h.some; control = h.control; ends = h.ends; edges = h.edges; queues = h.queues }) refl refl refl refl refl
made_below arrays (step.One op a) d h = let e = copied a d in unit_defined (Op1 op) e (fed (copy_of a d) (next e) 0 (with_unit (Op1 op) e)) (op1_out op) (copied_below a d h) refl refl refl refl refl
made_below arrays (step.Two op a b) d h =
    let e = copied a d in
    let f = copied b e in
    unit_defined (Op2 op) f (fed (copy_of b e) (next f) 1 (fed (copy_of a d) (next f) 0 (with_unit (Op2 op) f))) (op2_out op) (copied_below b e (copied_below a d h)) refl refl refl refl refl
made_below arrays (step.Select w c a b) d h =
    let e = copied c d in
    let f = copied a e in
    let g = copied b f in
    unit_defined (Select w) g (fed (copy_of b f) (next g) 2 (fed (copy_of a e) (next g) 1 (fed (copy_of c d) (next g) 0 (with_unit (Select w) g)))) w (copied_below b f (copied_below a e (copied_below c d h))) refl refl refl refl refl
made_below arrays (step.Load a p) d h = load_below (queue_of d a) a (width_at arrays a) p d refl h
made_below arrays (step.Store a p v) d h = store_below (queue_of d a) a p v d refl h

if_below : (t : Bool) (d e : Draft) → Below d → Below e → Below (cond t d e)
if_below true d e h i = h
if_below false d e h i = i

pub step_below : (arrays : List Array) (i : Instr) (d : Draft) → Below d → Below (step_laid arrays i d)
step_below arrays i d h = if_below (is_laid i (uses_of_next d)) (step_made arrays i d) (undefined d) (made_below arrays i d h) (undefined_below d h)

pub steps_below : (arrays : List Array) (is : List Instr) (d : Draft) → Below d → Below (steps_laid arrays is d)
steps_below arrays [] d h = h
steps_below arrays (i ∷ is) d h = steps_below arrays is (step_laid arrays i d) (step_below arrays i d h)

-- ---- groups

allocated_below : (o : Option Queue) (a : ℕ) (d : Draft) → queue_of d a ≡ o → Below d → Below (allocated_by a o d)
allocated_below None a d e h = h
allocated_below (Some q) a d e h =
    let u = queue_below (length d.units) d.queues a q e h.queues in
    record { some = h.some; control = u; ends = h.ends; edges = h.edges; queues = queues_set (length d.units) d.queues a (next_group q) h.queues u }

pub allocations_below : (b : ℕ) (xs : List Access) (d : Draft) → Below d → Below (allocations b xs d)
allocations_below b [] d h = h
allocations_below b (x ∷ xs) d h =
    let e = allocated x.array d in
    if_below (x.block == b) (allocations b xs e) d (allocations_below b xs e (allocated_below (queue_of d x.array) x.array d refl h)) h

-- ---- heads

muxes_below : (ins : ℕ) (ws : List ℕ) (d : Draft) → Below d → Below (muxes_laid ins ws d)
muxes_below ins [] d h = h
muxes_below ins (w ∷ ws) d h = let l = unit_more (Mux w ins) d.units in muxes_below ins ws (mux_laid ins w d) (below_more d (mux_laid ins w d) h (omega (arith, l)) refl refl refl refl)

pub muxes_units : (ins : ℕ) (ws : List ℕ) (d : Draft) → length (muxes_laid ins ws d).units ≡ length d.units + length ws
muxes_units ins [] d = omega arith
muxes_units ins (w ∷ ws) d = let l = unit_more (Mux w ins) d.units in let i = muxes_units ins ws (mux_laid ins w d) in omega (arith, l, i)

args_below : (u : ℕ) (ws : List ℕ) (d : Draft) → u + length ws ≤ length d.units → Below d → Below (args_defined u ws d)
args_below u [] d l h = h
args_below u (w ∷ ws) d l h =
    let e = defined (at u 0) w d in
    let m = spread_more (record { place = at u 0; width = w }) (uses_of_next d) d in
    args_below (plus u 1) ws e (omega (arith, l, m)) (defined_below (at u 0) w d (omega (arith, l)) h)

opened_below : (ins : ℕ) (ws : List ℕ) (t : ℕ) (d : Draft) → Below d → Below (opened ins ws t d)
opened_below ins ws t d h =
    let n = plus t (number (length ws)) in
    let m = merged ins d in
    let e = control_forked n m in
    let x = muxes_laid ins ws e in
    let l = unit_more (Cmerge ins) d.units in
    let s = muxes_units ins ws e in
    let b : Below m = below_as d m h (omega (arith, l)) (omega (arith, l)) (ends_less (length d.units) (length m.units) (omega (arith, l)) d.ends h.ends) refl refl in
    args_below (next e) ws x (omega (arith, s)) (muxes_below ins ws e (control_below n m b))

ends_defined_below : (es : List End) (d : Draft) → ListBelow (length d.units) es → Below d → Below (ends_defined es d)
ends_defined_below [] d l h = h
ends_defined_below (x ∷ es) d l h =
    let e = defined x.place x.width d in
    ends_defined_below es e (list_less (length d.units) (length e.units) (spread_more (record { place = x.place; width = x.width }) (uses_of_next d) d) es l.1) (defined_below x.place x.width d l.0 h)

passed_in_below : (x : Edge) (t : ℕ) (d : Draft) → EdgeBelow (length d.units) x → Below d → Below (passed_in x t d)
passed_in_below x t d l h =
    let c = record (with_control x.control d) { heads = d.heads ++ 0 ∷ [] } in
    let e = control_forked t c in
    let b : Below c = record { some = h.some; control = l.0; ends = h.ends; edges = h.edges; queues = h.queues } in
    ends_defined_below x.with e (list_less (length d.units) (length e.units) (forked_long t c) x.with l.1) (control_below t c b)
  where
    forked_long : (t : ℕ) (c : Draft) → length c.units ≤ length (control_forked t c).units
    forked_long zero c = omega arith
    forked_long (suc n) c = let l = unit_more (Fork 32 (plus (suc n) 1)) c.units in omega (arith, l)

-- the edge of a lean head
pub tail_below : (m : ℕ) (t : Bool) (n : ℕ) (es : List Edge) (x : Edge) → cond t (numbered n es) None ≡ Some x → EdgesBelow m es → EdgeBelow m x
tail_below m true zero es x e h = absurd (cc)
tail_below m true (suc n) es x e h = edge_below m es n x e h
tail_below m false n es x e h = absurd (cc)

head_by_below : (o : Option Edge) (ins : ℕ) (ws : List ℕ) (t : ℕ) (d : Draft) → ((x : Edge) → o ≡ Some x → EdgeBelow (length d.units) x) → Below d → Below (head_by o ins ws t d)
head_by_below None ins ws t d l h = opened_below ins ws t d h
head_by_below (Some x) ins ws t d l h = passed_in_below x t d (l x refl) h

pub head_below : (ins target : ℕ) (ws us : List ℕ) (t : ℕ) (d : Draft) → Below d → Below (head_laid ins target ws us t d)
head_below ins target ws us t d h =
    head_by_below (tail_of ins target d) ins ws t (record d { uses = us; ends = [] }) (λ x e. tail_below (length d.units) (ins == 1) (get_or d.tails target 0) d.edges x e h.edges)
    (record { some = h.some; control = h.control; ends = tt; edges = h.edges; queues = h.queues })

-- ---- jumps

bare_below : (n : ℕ) (j : Jump) (d : Draft) → Below d → Below (bare_buffered n j d)
bare_below n (Go to) d h = if_below (length d.chans == n) (buffered d) d (buffered_below d h) h
bare_below n (Two c a b) d h = h
bare_below n (Return v) d h = h

pub led_below : (to : ℕ) (p : Place) (es : List End) (d : Draft) → p.unit < length d.units → ListBelow (length d.units) es → Below d → Below (with_edge to p es d)
led_below to p es d l s h = record { some = h.some; control = h.control; ends = h.ends; edges = edges_push (length d.units) d.edges (record { to = to; control = p; with = es }) h.edges (l, s); queues = h.queues }

passed_below : (t : Bool) (x : End) (d : Draft) → Below d → Below (passed t x d)
passed_below true x d h = let l = unit_more (Fork x.width 1) d.units in below_more d (passed true x d) h (omega (arith, l)) refl refl refl refl
passed_below false x d h = h

passed_end_below : (t : Bool) (x : End) (d : Draft) → x.place.unit < length d.units → (passed_end t x d).place.unit < length (passed t x d).units
passed_end_below true x d l = let m = unit_more (Fork x.width 1) d.units in omega (arith, m)
passed_end_below false x d l = l

passed_long : (t : Bool) (x : End) (d : Draft) → length d.units ≤ length (passed t x d).units
passed_long true x d = let m = unit_more (Fork x.width 1) d.units in omega (arith, m)
passed_long false x d = omega arith

pub all_passed_long : (m n : ℕ) (vs : List ℕ) (d : Draft) → length d.units ≤ length (all_passed m n vs d).units
all_passed_long m n [] d = omega arith
all_passed_long m n (v ∷ vs) d =
    let x = copy_of v d in
    let t = is_of_head x.place m n in
    let a = passed_long t x (copied v d) in
    let b = all_passed_long m n vs (passed t x (copied v d)) in
    omega (arith, a, b)

pub record PassedBelow (m n : ℕ) (vs : List ℕ) (d : Draft) : Type 0 where
  pub draft : Below (all_passed m n vs d)
  pub list : ListBelow (length (all_passed m n vs d).units) (passed_ends m n vs d)

pub all_passed_below : (m n : ℕ) (vs : List ℕ) (d : Draft) → Below d → PassedBelow m n vs d
all_passed_below m n [] d h = record { draft = h; list = tt }
all_passed_below m n (v ∷ vs) d h =
    let x = copy_of v d in
    let t = is_of_head x.place m n in
    let e = copied v d in
    let f = passed t x e in
    let i = all_passed_below m n vs f (passed_below t x e (copied_below v d h)) in
    let p = passed_end_below t x e (copy_below v d h) in
    let l = all_passed_long m n vs f in
    record { draft = i.draft; list = (omega (arith, p, l), i.list) }

gone_control : (t : Bool) (e : Draft) → length e.units ≤ length (cond t (buffered e) e).units
gone_control true e = let l = unit_more (Fork 32 1) e.units in omega (arith, l)
gone_control false e = omega arith

pub all_gone_below : (to : ℕ) (vs : List ℕ) (d : Draft) → Below d → Below (all_gone to vs d)
all_gone_below to vs d h =
    let m = get_or d.heads to 0 in
    let n = number (length vs) in
    let e = all_passed m n vs d in
    let p = all_passed_below m n vs d h in
    if_below (is_of_head e.control m n) (buffered e) e (buffered_below e p.draft) p.draft

pub gone_list_below : (to : ℕ) (vs : List ℕ) (d : Draft) → Below d → ListBelow (length (all_gone to vs d).units) (passed_ends (get_or d.heads to 0) (number (length vs)) vs d)
gone_list_below to vs d h =
    let m = get_or d.heads to 0 in
    let n = number (length vs) in
    let e = all_passed m n vs d in
    let p = all_passed_below m n vs d h in
    list_less (length e.units) (length (all_gone to vs d).units) (gone_control (is_of_head e.control m n) e) (passed_ends m n vs d) p.list

gone_below : (to : ℕ) (vs : List ℕ) (d : Draft) → Below d → Below (gone to vs d)
gone_below to vs d h =
    let e = all_gone to vs d in
    let b = all_gone_below to vs d h in
    led_below to e.control (passed_ends (get_or d.heads to 0) (number (length vs)) vs d) e b.control (gone_list_below to vs d h) b

-- a branch, before its outputs are spread
branch_below : (c v : ℕ) (d : Draft) → Below d → (let e = copied c d in let f = copied v e in Below (fed (copy_of v e) (next f) 1 (fed (copy_of c d) (next f) 0 (with_unit (Branch (copy_of v e).width) f))))
branch_below c v d h =
    let e = copied c d in
    let f = copied v e in
    let w = (copy_of v e).width in
    let g = fed (copy_of v e) (next f) 1 (fed (copy_of c d) (next f) 0 (with_unit (Branch w) f)) in
    let l = unit_more (Branch w) f.units in
    below_more f g (copied_below v e (copied_below c d h)) (omega (arith, l)) refl refl refl refl

pub record BranchBelow (d : Draft) (s : Sides) : Type 0 where
  pub draft : Below d
  pub yes : EndsBelow (length d.units) (s.yes_end ∷ [])
  pub no : EndsBelow (length d.units) (s.no_end ∷ [])

branched_below : (c v y n : ℕ) (d : Draft) → Below d → BranchBelow (branched c v y n d) (branch_ends c v y n d)
branched_below c v y n d h =
    let e = copied c d in
    let f = copied v e in
    let w = (copy_of v e).width in
    let u = next f in
    let b = fed (copy_of v e) u 1 (fed (copy_of c d) u 0 (with_unit (Branch w) f)) in
    let one : End = record { place = at u 0; width = w } in
    let two : End = record { place = at u 1; width = w } in
    let g = spread one y b in
    let k = spread two n g in
    let l = unit_more (Branch w) f.units in
    let lg = spread_more one y b in
    let lk = spread_more two n g in
    let hb = branch_below c v d h in
    record {
      draft = spread_below two n g (spread_below one y b hb);
      yes = ends_less (length g.units) (length k.units) lk (spread_end one y b ∷ []) (spread_end_below one y b (omega (arith, l)));
      no = spread_end_below two n g (omega (arith, l, lg));
    }

pub branched_if_below : (c v y n : ℕ) (d : Draft) → Below d → BranchBelow (branched_if c v y n d) (sides_if c v y n d)
branched_if_below c v zero zero d h = record { draft = h; yes = tt; no = tt }
branched_if_below c v (suc y) n d h = branched_below c v (suc y) n d h
branched_if_below c v zero (suc n) d h = branched_below c v zero (suc n) d h

branched_more : (c v y n : ℕ) (d : Draft) → length d.units ≤ length (branched c v y n d).units
branched_more c v y n d =
    let e = copied c d in
    let f = copied v e in
    let w = (copy_of v e).width in
    let u = next f in
    let b = fed (copy_of v e) u 1 (fed (copy_of c d) u 0 (with_unit (Branch w) f)) in
    let one : End = record { place = at u 0; width = w } in
    let l = unit_more (Branch w) f.units in
    let lg = spread_more one y b in
    let lk = spread_more (record { place = at u 1; width = w }) n (spread one y b) in
    omega (arith, l, lg, lk)

pub branched_if_more : (c v y n : ℕ) (d : Draft) → length d.units ≤ length (branched_if c v y n d).units
branched_if_more c v zero zero d = omega arith
branched_if_more c v (suc y) n d = branched_more c v (suc y) n d
branched_if_more c v zero (suc n) d = branched_more c v zero (suc n) d

pub all_branched_more : (c v : ℕ) (ys ns : List ℕ) (d : Draft) → length d.units ≤ length (all_branched c v ys ns d).units
all_branched_more c v [] ns d = omega arith
all_branched_more c v (y ∷ ys) ns d =
    let e = branched_if c v y (get_or ns v 0) d in
    let a = branched_if_more c v y (get_or ns v 0) d in
    let b = all_branched_more c (plus v 1) ys ns e in
    omega (arith, a, b)

pub record BranchesBelow (d : Draft) (ss : List Sides) : Type 0 where
  pub draft : Below d
  pub yes : EndsBelow (length d.units) (yes_ends ss)
  pub no : EndsBelow (length d.units) (no_ends ss)

ends_cons : (m : ℕ) (o : Option End) (es : List (Option End)) → EndsBelow m (o ∷ []) → EndsBelow m es → EndsBelow m (o ∷ es)
ends_cons m None es h i = i
ends_cons m (Some e) es h i = (h.0, i)

pub all_branched_below : (c v : ℕ) (ys ns : List ℕ) (d : Draft) → Below d → BranchesBelow (all_branched c v ys ns d) (all_sides c v ys ns d)
all_branched_below c v [] ns d h = record { draft = h; yes = tt; no = tt }
all_branched_below c v (y ∷ ys) ns d h =
    let n = get_or ns v 0 in
    let e = branched_if c v y n d in
    let s = sides_if c v y n d in
    let b = branched_if_below c v y n d h in
    let i = all_branched_below c (plus v 1) ys ns e b.draft in
    let l = all_branched_more c (plus v 1) ys ns e in
    let z = length (all_branched c (plus v 1) ys ns e).units in
    record {
      draft = i.draft;
      yes = ends_cons z s.yes_end (yes_ends (all_sides c (plus v 1) ys ns e)) (ends_less (length e.units) z l (s.yes_end ∷ []) b.yes) i.yes;
      no = ends_cons z s.no_end (no_ends (all_sides c (plus v 1) ys ns e)) (ends_less (length e.units) z l (s.no_end ∷ []) b.no) i.no;
    }

control_branched_below : (c : ℕ) (d : Draft) → Below d → Below (control_branched c d)
control_branched_below c d h = let l = unit_more (Branch 32) d.units in below_more (copied c d) (control_branched c d) (copied_below c d h) (omega (arith, l)) refl refl refl refl

pub parted_below : (c : ℕ) (a b : To) (d : Draft) → Below d → Below (parted c a b d)
parted_below c a b d h =
    let ys = handed_often (length d.ends) a in
    let ns = handed_often (length d.ends) b in
    let e = all_branched c 0 ys ns d in
    let ss = all_sides c 0 ys ns d in
    let u = next (copied c e) in
    let f = control_branched c e in
    let i = all_branched_below c 0 ys ns d h in
    let l = unit_more (Branch 32) e.units in
    let x = control_branched_below c e i.draft in
    let some = x.some in
    let yes = taken_below (length f.units) some a.with (yes_ends ss) (ends_less (length e.units) (length f.units) (omega (arith, l)) (yes_ends ss) i.yes) in
    let no = taken_below (length f.units) some b.with (no_ends ss) (ends_less (length e.units) (length f.units) (omega (arith, l)) (no_ends ss) i.no) in
    let g = with_edge a.block (at u 0) (taken a.with (yes_ends ss)) f in
    led_below b.block (at u 1) (taken b.with (no_ends ss)) g (omega (arith, l)) no (led_below a.block (at u 0) (taken a.with (yes_ends ss)) f (omega (arith, l)) yes x)

pub jump_below : (join : ℕ) (j : Jump) (d : Draft) → Below d → Below (jump_laid join j d)
jump_below join (Go to) d h = gone_below to.block to.with d h
jump_below join (Two c a b) d h = parted_below c a b d h
jump_below join (Return v) d h = gone_below join (result_list v) d h

-- ---- blocks

pub worked_below : (arrays : List Array) (ins b : ℕ) (k : Block) (xs : List Access) (d : Draft) → Below d → Below (block_worked arrays ins b k xs d)
worked_below arrays ins b k xs d h =
    let e = block_opened ins b k xs d in
    let f = allocations b xs e in
    let g = block_grouped ins b k xs d in
    bare_below (length d.chans) k.jump (steps_laid arrays k.steps g)
    (steps_below arrays k.steps g (control_below (late_triggers b k xs) f (allocations_below b xs e (head_below ins b k.args (uses k) (early_triggers b k xs) d h))))

pub block_below : (arrays : List Array) (join ins b : ℕ) (k : Block) (xs : List Access) (d : Draft) → Below d → Below (block_laid arrays join ins b k xs d)
block_below arrays join ins b k xs d h = jump_below join k.jump (block_worked arrays ins b k xs d) (worked_below arrays ins b k xs d h)

pub blocks_below : (arrays : List Array) (join : ℕ) (counts : List ℕ) (b : ℕ) (ks : List Block) (xs : List Access) (d : Draft) → Below d → Below (blocks_laid arrays join counts b ks xs d)
blocks_below arrays join counts b [] xs d h = h
blocks_below arrays join counts b (k ∷ ks) xs d h =
    blocks_below arrays join counts (plus b 1) ks (after_block b xs) (block_laid arrays join (ins_of counts b) b k xs d) (block_below arrays join (ins_of counts b) b k xs d h)

-- ---- feeders

zeros_more : (ws : List ℕ) (d : Draft) → length d.units ≤ length (zeros_laid ws d).units
zeros_more [] d = omega arith
zeros_more (w ∷ ws) d = let l = unit_more (Const w 0) d.units in let i = zeros_more ws (zero_laid w d) in omega (arith, l, i)

record ZerosBelow (ws : List ℕ) (d : Draft) : Type 0 where
  draft : Below (zeros_laid ws d)
  list : ListBelow (length (zeros_laid ws d).units) (zero_ends ws d)

zeros_below : (ws : List ℕ) (d : Draft) → Below d → ZerosBelow ws d
zeros_below [] d h = record { draft = h; list = tt }
zeros_below (w ∷ ws) d h =
    let e = zero_laid w d in
    let l = unit_more (Const w 0) d.units in
    let i = zeros_below ws e (below_more d e h (omega (arith, l)) refl refl refl refl) in
    let m = zeros_more ws e in
    record { draft = i.draft; list = (omega (arith, l, m), i.list) }

feeder_below : (n t : ℕ) (ws : List ℕ) (d : Draft) → Below d → Below (feeder_if n t ws d)
feeder_below (suc n) t ws d h = h
feeder_below zero t ws d h =
    let m = plus (number (length ws)) 1 in
    let k = with_control (at (next d) 0) (with_chan (at (next d) 1) (at (next d) 1) 32 true (with_unit (Branch 32) d)) in
    let l = unit_more (Branch 32) d.units in
    let b : Below k = below_as d k h (omega (arith, l)) (omega (arith, l)) (ends_less (length d.units) (length k.units) (omega (arith, l)) d.ends h.ends) refl refl in
    let x = control_forked m k in
    let f = fed_by_itself (number (length ws)) d in
    let hx = control_below m k b in
    let hf : Below f = record { some = hx.some; control = hx.control; ends = hx.ends; edges = hx.edges; queues = hx.queues } in
    let z = zeros_below ws f hf in
    led_below t (zeros_laid ws f).control (zero_ends ws f) (zeros_laid ws f) z.draft.control z.list z.draft

pub feeders_below : (counts : List ℕ) (b : ℕ) (ks : List Block) (d : Draft) → Below d → Below (feeders_laid counts b ks d)
feeders_below counts b [] d h = h
feeders_below counts b (k ∷ ks) d h = feeders_below counts (plus b 1) ks (feeder_if (get_or counts b 0) b k.args d) (feeder_below (get_or counts b 0) b k.args d h)

pub fed_below : (g : Graph) (gs : Groups) → Below (with_blocks g gs) → Below (with_feeders g gs)
fed_below g gs h =
    let counts = edge_counts g.blocks in
    let join = join_of g in
    feeder_below (get_or counts join 0) join (result_widths g.result) (feeders_laid counts 0 g.blocks (with_blocks g gs)) (feeders_below counts 0 g.blocks (with_blocks g gs) h)

-- ---- what stands before the blocks

params_more : (j : ℕ) (ss : List Scalar) (d : Draft) → length d.units ≤ length (params_laid j ss d).units
params_more j [] d = omega arith
params_more j (s ∷ ss) d = let l = unit_more (Param j) d.units in let i = params_more (plus j 1) ss (with_unit (Param j) d) in omega (arith, l, i)

record ParamsBelow (j : ℕ) (ss : List Scalar) (d : Draft) : Type 0 where
  draft : Below (params_laid j ss d)
  list : ListBelow (length (params_laid j ss d).units) (param_ends j ss d)

params_below : (j : ℕ) (ss : List Scalar) (d : Draft) → Below d → ParamsBelow j ss d
params_below j [] d h = record { draft = h; list = tt }
params_below j (s ∷ ss) d h =
    let e = with_unit (Param j) d in
    let l = unit_more (Param j) d.units in
    let i = params_below (plus j 1) ss e (with_unit_below (Param j) d h) in
    let m = params_more (plus j 1) ss e in
    record { draft = i.draft; list = (omega (arith, l, m), i.list) }

queues_push : (m : ℕ) (qs : List (Option Queue)) (o : Option Queue) → QueuesBelow m qs → QueuesBelow m (o ∷ []) → QueuesBelow m (qs ++ o ∷ [])
queues_push m [] o h x = x
queues_push m (None ∷ qs) o h x = queues_push m qs o h x
queues_push m (Some q ∷ qs) o h x = (h.0, queues_push m qs o h.1 x)

queue_if_below : (a : ℕ) (ps : List Port) (gs : List (List ℕ)) (m : ℕ) (d : Draft) → Below d → Below (queue_if a ps gs m d)
queue_if_below a ps [] m d h = record { some = h.some; control = h.control; ends = h.ends; edges = h.edges; queues = queues_push (length d.units) d.queues None h.queues tt }
queue_if_below a ps (g ∷ gs) m d h =
    let l = unit_more (Lsq a m ps (g ∷ gs) false) d.units in
    let e = with_unit (Lsq a m ps (g ∷ gs) false) d in
    let b = with_unit_below (Lsq a m ps (g ∷ gs) false) d h in
    record { some = b.some; control = b.control; ends = b.ends; edges = b.edges; queues = queues_push (length e.units) d.queues _ b.queues (omega (arith, l), tt) }

queues_laid_below : (ks : List Block) (of : List Access) (a : ℕ) (xs : List Array) (d : Draft) → Below d → Below (queues_laid ks of a xs d)
queues_laid_below ks of a [] d h = h
queues_laid_below ks of a (x ∷ xs) d h =
    queues_laid_below ks of (plus a 1) xs (queue_if a (ports_of a ks of) (groups_from a 0 of) (depth_from a 16 of) d) (queue_if_below a (ports_of a ks of) (groups_from a 0 of) (depth_from a 16 of) d h)

pub entered_below : (n : ℕ) (ss : List Scalar) → Below (entered ss (started n))
entered_below n ss =
    let d = started n in
    let p = params_below 0 ss d (record { some = omega arith; control = omega arith; ends = tt; edges = tt; queues = tt }) in
    let l = params_more 0 ss d in
    led_below 0 d.control (param_ends 0 ss d) (params_laid 0 ss d) (omega (arith, l)) p.list p.draft

pub front_below : (g : Graph) (gs : Groups) → Below (front_of g gs)
front_below g gs = queues_laid_below g.blocks gs.of 0 g.arrays (entered g.scalars (started (length g.blocks + 1))) (entered_below (length g.blocks + 1) g.scalars)
