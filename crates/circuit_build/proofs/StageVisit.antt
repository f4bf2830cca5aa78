-- One visit: from the tokens of an edge to its target, to those of the edge that the block's jump takes.
use Rattle.std.proofs.Common.{◌≡◌, ℕ, zero, suc, ◌+◌, ◌*◌, ◌^◌, ◌<◌, ◌≤◌, ◌==◌, ◌⊎◌, Bool, true, false, cond, Option, Some, None, List, [], ◌∷◌, ◌++◌, length, map, get_or, refl, sym, ap, ◌∙◌, subst, inl, inr, ⊎_elim, arith, slice_get, length-append, eq-eqb, ne_eqb}
use Rattle.std.proofs.lemmas.List.{append-nil, length-map}
use Rattle.std.proofs.lemmas.Bool.{cases_eq, eqb-true}
use Rattle.std.proofs.lemmas.Option.{get_or_from_slice_get}
use Rattle.el_base.specs.declared.ty.Array.{Array}
use Rattle.el_base.specs.declared.ty.Ty.{Ty}
use Rattle.ir.specs.declared.graph.Block.{Block}
use Rattle.ir.specs.declared.graph.Jump.{Jump}
use Rattle.ir.specs.declared.graph.Jump.TheVariants.{Go, Two, Return}
use Rattle.ir.specs.declared.graph.To.{To}
use Rattle.ir.specs.declared.groups.Access.{Access}
use Rattle.ir.specs.declared.groups.Groups.{Groups}
use Rattle.ir.specs.declared.instr.Instr.{Instr}
use Rattle.ir.specs.declared.instr.Instr.TheVariants as step
use Rattle.ir.specs.Accesses.{is_on, accesses_in, is_access}
use Rattle.ir.specs.Graphs.{Graph, IsBlock, IsJump, IsReturn, AreHanded, shape_of, handed, side, result_of, onward_of, block_weight, handed_on}
use Rattle.ir.specs.Shapes.{Shape}
use Rattle.ir.specs.Steps.{Work, step_value, value_at, through, beginning, after_step}
use Rattle.ir.specs.Visits.{Onward, onto, leaves}
use Rattle.net_types.specs.declared.firing.Firing.{Firing}
use Rattle.net_types.specs.declared.net.Net.{Net}
use Rattle.net_types.specs.declared.net.Unit.TheVariants.{Lsq}
use Rattle.net_types.specs.Nets.{at}
use Rattle.net_core.specs.Fire.{State}
use Rattle.net_core.specs.Runs.{Leads}
use Rattle.circuit_build.specs.declared.draft.Draft.{Draft}
use Rattle.circuit_build.specs.declared.draft.Edge.{Edge}
use Rattle.circuit_build.specs.declared.draft.End.{End}
use Rattle.circuit_build.specs.declared.draft.Queue.{Queue}
use Rattle.circuit_build.specs.Blocks.{merged, muxes_laid, opened, passed_in, tail_of, head_by, head_laid, has_access, allocations, bare_buffered, early_triggers, late_triggers, block_opened, block_grouped, block_worked}
use Rattle.circuit_build.specs.Built.{join_of, front_of}
use Rattle.circuit_build.specs.Counted.{queue_for}
use Rattle.circuit_build.specs.Drafts.{number, plus, next, with_control, buffered, control_forked, copied, copy_of}
use Rattle.circuit_build.specs.Endings.{result_widths}
use Rattle.circuit_build.specs.Fronts.{ports_of, groups_from, depth_from}
use Rattle.circuit_build.specs.Jumps.{head_end, is_of_head, passed_ends, all_passed, all_gone, all_sides, yes_ends, no_ends, taken, control_branched, result_list, jump_laid}
use Rattle.circuit_build.specs.Steps.{queue_or, queue_of, next_port, next_group, allocated_by, allocated, step_laid, steps_laid}
use Rattle.circuit_build.specs.Uses.{zeros, handed_often, uses, constant_of, constants, steps_added}
use Rattle.circuit_build.proofs.Fields.{forked_still, muxes_still, args_still, ends_still, steps_kept, head_headed}
use Rattle.circuit_build.proofs.Marks.{Aside, Shows, awaits}
use Rattle.circuit_build.proofs.Stages.{spread, Apart, Outside, Stage}
use Rattle.circuit_build.proofs.CountBlocks.{tops_of, top_at}
use Rattle.circuit_build.proofs.LaySections.{Extends, Within, EdgeAt, Leaves, AllUsed}
use Rattle.circuit_build.proofs.LayExtends.{extends_own, extends_long, extends_then, within_less, head_extends, forked_extends, control_extends, steps_extend, bare_extends, all_gone_extends, all_passed_extends, all_branched_extends, control_branched_extends, jump_extends}
use Rattle.circuit_build.proofs.CountBooks.{chan}
use Rattle.circuit_build.proofs.LayBlocks.{left_of, pending, GroupsAt, edge_places, SideAt, MergedAt, LeanAt, Merged, Lean, HeadAt, SidesAt, gone_edge, yes_edge, no_edge, parted_all, parted_sides, BooksAt, all_allocated, inputs_of, head_of, lean_edge, args_of, BlockAt}
use Rattle.circuit_build.proofs.LayBooks.{moved_if, step_queue, allocated_queue, books_same, books_allocated}
use Rattle.circuit_build.proofs.Remains.{left_table, often, all_added_most, jump_uses, branches_uses, AreBelow, zeros_at, all_added_length, zeros_length, of_width_below}
use Rattle.circuit_build.proofs.Waits.{NoneWaits, emptied, emptied_awaits, none_waits_queue}
use Rattle.circuit_build.proofs.StageParts.{stage_as}
use Rattle.circuit_build.proofs.StageKinds.{Calm}
use Rattle.circuit_build.proofs.StageTokens.{Token, token, places, values, as_many, swaps_of, row, kept, more, more_all}
use Rattle.circuit_build.proofs.StageUses.{Stands, stands_between, stands_as, open_tokens, tokens_as, At, Comes, at_swapped, at_as, comes_here, comes_then, comes_from, comes_within, comes_swapped, buffered_comes, control_forked_comes}
use Rattle.circuit_build.proofs.StageQueues.{Waiting, Waits, array_of}
use Rattle.circuit_build.proofs.StageSteps.{Foreign, tokens_same}
use Rattle.circuit_build.proofs.StageCounts.{table, more_all_is, more_is, below_in}
use Rattle.circuit_build.proofs.StageBlock.{foreign_moved, all_extend, steps_tokens, TableFits, steps_done, WaitsBut, groups_done}
use Rattle.circuit_build.proofs.StageHead.{data_tokens, edge_tokens, data_places, data_long, HeadDone, merged_head, lean_head}
use Rattle.circuit_build.proofs.StageJumps.{side_of, side_no, ends_on, table_on, branches_more, branches_more_is, branches_many, branches_few, on_yes, on_no, gone_comes, parted_comes}
use Rattle.circuit_build.proofs.StageLeft.{shape_long, handed_below, handed_at, BlockLeft, block_left}

-- ---- where a run stands between two visits

-- one token of each value on the channels of an edge, and nowhere else; no entry waits in a queue
pub record OnEdge (net : Net) (scalars : List ℕ) (s : State) (a : Aside) (e : Edge) (z : ℕ) (vs : List ℕ) : Type 0 where
  pub shows : Shows net scalars s (spread (edge_places e) (z ∷ vs)) a
  pub apart : Apart (edge_places e)
  pub same : length (edge_places e) ≡ length (z ∷ vs)
  pub calm : Calm net a
  pub waits : NoneWaits net a

-- the target, and what is handed on to it; a return leads to the return join
abbrev pub target_of : ℕ → Onward → ℕ
target_of join (onto b vs) = b
target_of join (leaves r) = join

abbrev pub handed_values : Onward → List ℕ
handed_values (onto b vs) = vs
handed_values (leaves None) = []
handed_values (leaves (Some v)) = v ∷ []

-- what a visit leads to, where w has been worked out by the block's steps: there was a firing, or the graph returns
pub record Visited (g : Graph) (gs : Groups) (net : Net) (scalars : List ℕ) (s : State) (a : Aside) (k : Block) (w : Work) : Type 0 where
  pub firings : List Firing
  pub to : State
  pub run : Leads net s firings to
  pub some : (1 ≤ length firings) ⊎ ((r : Option ℕ) × (onward_of k.jump w.values ≡ leaves r))
  pub few : length firings ≤ 12 * block_weight k
  pub after : Aside
  pub edge : Edge
  pub z : ℕ
  pub on_edge : OnEdge net scalars to after edge z (handed_values (onward_of k.jump w.values))
  pub edge_side : SideAt g gs net edge
  pub goes : edge.to ≡ target_of (join_of g) (onward_of k.jump w.values)
  pub arrays : after.arrays ≡ w.arrays
  pub strays : after.strays ≡ a.strays + w.strays

-- ---- queues of the drafts on the way

-- a queue of a draft is one of the later draft
queue_moves : (d e : Draft) (f : Queue → Queue) (t : ℕ → Bool) → ((q : Queue) → (f q).unit ≡ q.unit) → ((x : ℕ) → queue_of e x ≡ moved_if f (t x) (queue_of d x))
    → (x : ℕ) (q : Queue) → queue_of d x ≡ Some q → (p : Queue) × (queue_of e x ≡ Some p) × (p.unit ≡ q.unit)
queue_moves d e f t same moves x q h = by (t x) refl
  where
    by : (b : Bool) → t x ≡ b → (p : Queue) × (queue_of e x ≡ Some p) × (p.unit ≡ q.unit)
    by true k = (f q, moves x ∙ (ap (moved_if f (t x)) h ∙ ap (λ c. moved_if f c (Some q)) k), same q)
    by false k = (q, moves x ∙ (ap (moved_if f (t x)) h ∙ ap (λ c. moved_if f c (Some q)) k), refl)

groups_track : (xs : List Access) (d : Draft) (x : ℕ) (q : Queue) → queue_of d x ≡ Some q → (p : Queue) × (queue_of (all_allocated xs d) x ≡ Some p) × (p.unit ≡ q.unit)
groups_track [] d x q h = (q, h, refl)
groups_track (y ∷ ys) d x q h =
    let a = queue_moves d (allocated y.array d) next_group (λ z. y.array == z) (λ r. refl) (allocated_queue y.array d) x q h in
    let b = groups_track ys (allocated y.array d) x a.0 a.1 in
    (b.0, b.1, b.2 ∙ a.2)

steps_track : (arrays : List Array) (is : List Instr) (d : Draft) (x : ℕ) (q : Queue) → queue_of d x ≡ Some q → (p : Queue) × (queue_of (steps_laid arrays is d) x ≡ Some p) × (p.unit ≡ q.unit)
steps_track arrays [] d x q h = (q, h, refl)
steps_track arrays (i ∷ is) d x q h =
    let a = queue_moves d (step_laid arrays i d) next_port (λ z. is_on z i) (λ r. refl) (step_queue arrays i d) x q h in
    let b = steps_track arrays is (step_laid arrays i d) x a.0 a.1 in
    (b.0, b.1, b.2 ∙ a.2)

foreign_groups : (xs : List Access) (d : Draft) (v : ℕ) → Foreign d v → Foreign (all_allocated xs d) v
foreign_groups [] d v h = h
foreign_groups (y ∷ ys) d v h = foreign_groups ys (allocated y.array d) v (foreign_moved d (allocated y.array d) v next_group (λ z. y.array == z) (λ r. refl) (allocated_queue y.array d) h)

module _ (g : Graph) (gs : Groups) (net : Net) where
  books_groups : (xs : List Access) (is : List Instr) (d : Draft) → BooksAt g gs net is d → BooksAt g gs net is (all_allocated xs d)
  books_groups [] is d h = h
  books_groups (x ∷ xs) is d h = books_groups xs is (allocated x.array d) (books_allocated g gs net x.array is d h)

  -- after the steps no entry waits in any queue
  none_waits_after : (a b : Aside) (is : List Instr) (d e : Draft) → BooksAt g gs net is d → ((x : ℕ) (q : Queue) → queue_of d x ≡ Some q → (p : Queue) × (queue_of e x ≡ Some p) × (p.unit ≡ q.unit))
      → Waits g gs b.own e [] → ((v : ℕ) → Foreign d v → b.own v ≡ a.own v) → NoneWaits net a → NoneWaits net b
  none_waits_after a b is d e books track waits kept before u x depth ports groups forward unit = by (queue_of d x) refl
    where
      here : (y : ℕ) (q : Queue) → queue_of d y ≡ Some q → q.unit ≡ u → y ≡ x
      here y q h z =
          let k : Some (queue_for g gs y) ≡ Some (Lsq x depth ports groups forward) = sym (books.queue y q h).unit ∙ ap (slice_get net.units) z ∙ unit in
          ap array_of k

      other : Foreign d u → (n : ℕ) × (b.own u ≡ emptied forward n)
      other f = let w = before u x depth ports groups forward unit in (w.0, kept u f ∙ w.1)

      by : (o : Option Queue) → queue_of d x ≡ o → (n : ℕ) × (b.own u ≡ emptied forward n)
      by None h = other (λ y q e z. (let k : None ≡ Some q = sym h ∙ (ap (queue_of d) (sym (here y q e z)) ∙ e) in absurd (cc)))
      by (Some q) h = elim (cases_eq q.unit u) [
        | inl z ↦
            (let t = track x q h in
            let w = waits x t.0 t.1 in
            let k : Some (queue_for g gs x) ≡ Some (Lsq x depth ports groups forward) = sym (books.queue x q h).unit ∙ ap (slice_get net.units) z ∙ unit in
            let f : false ≡ forward = cc in
            (w.serial, ap b.own (sym (t.2 ∙ z)) ∙ (w.keeps ∙ (sym (emptied_awaits (ports_of x g.blocks gs.of) w.serial) ∙ ap (λ c. emptied c w.serial) f))))
        | inr n ↦ other (λ y p e z. (let k : Some q ≡ Some p = sym h ∙ (ap (queue_of d) (sym (here y p e z)) ∙ e) in let i : q ≡ p = cc in n (ap (λ (c : Queue). c.unit) i ∙ z)))
      ]

-- ---- the jump

-- the jump lays so many channels
abbrev Grows : Jump → Draft → Draft → Type 0
Grows (Go to) d e = length d.chans ≤ length e.chans
Grows (Two c x y) d e = length d.chans < length e.chans
Grows (Return v) d e = Unit {0}

record JumpDone (g : Graph) (gs : Groups) (net : Net) (scalars : List ℕ) (low m : ℕ) (s : State) (b : ℕ) (a : Aside) (z : ℕ) (vs : List ℕ) (j : Jump) (d : Draft) : Type 0 where
  edge : Edge
  last : Draft
  comes : Comes net scalars low m s (length d.chans) b (5 * handed_on j + 3) a last (edge_tokens edge z (handed_values (onward_of j vs)))
  grows : Grows j d last
  many : length edge.with ≡ length (handed_values (onward_of j vs))
  edge_side : SideAt g gs net edge
  goes : edge.to ≡ target_of (join_of g) (onward_of j vs)

chans_up : (d e : Draft) → Extends d e → length d.chans ≤ length e.chans
chans_up d e x = let q = length-append d.chans x.more_chans in let u = ap length x.chans in omega (arith, q, u)

branched_longer : (c : ℕ) (e : Draft) (n : ℕ) → n ≤ length e.chans → n < length (control_branched c e).chans
branched_longer c e n l =
    let k0 = chan (copy_of c e).place (at (next (copied c e)) 0) (copy_of c e).width false in
    let k1 = chan e.control (at (next (copied c e)) 1) 32 true in
    let p = length-append (e.chans ++ k0 ∷ []) (k1 ∷ []) in
    let q = length-append e.chans (k0 ∷ []) in
    omega (arith, p, q, l)

-- what a side hands on
abbrev with_on : Bool → To → To → List ℕ
with_on true x y = x.with
with_on false x y = y.with

gone_more : (to : ℕ) (ws : List ℕ) (d : Draft) → Extends (all_passed (get_or d.heads to 0) (number (length ws)) ws d) (all_gone to ws d)
gone_more to ws d = by (is_of_head (all_passed (get_or d.heads to 0) (number (length ws)) ws d).control (get_or d.heads to 0) (number (length ws)))
  where
    by : (b : Bool) → Extends (all_passed (get_or d.heads to 0) (number (length ws)) ws d) (cond b (buffered (all_passed (get_or d.heads to 0) (number (length ws)) ws d)) (all_passed (get_or d.heads to 0) (number (length ws)) ws d))
    by true = forked_extends (all_passed (get_or d.heads to 0) (number (length ws)) ws d) 1
    by false = extends_own (all_passed (get_or d.heads to 0) (number (length ws)) ws d)

passed_long : (h n : ℕ) (ws : List ℕ) (d : Draft) → length (passed_ends h n ws d) ≡ length ws
passed_long h n [] d = refl
passed_long h n (v ∷ ws) d = ap suc (passed_long h n ws _)

taken_long : (ws : List ℕ) (es : List (Option End)) → length (taken ws es) ≡ length ws
taken_long [] es = refl
taken_long (v ∷ ws) es = ap suc (taken_long ws _)

module _ (g : Graph) (gs : Groups) {net : Net} {scalars : List ℕ} {low m : ℕ} (leaves_of : Leaves net) where
  gone_done : (j : Jump) (to : ℕ) (ws : List ℕ) (z : ℕ) (T : ℕ → ℕ) (vs : List ℕ) {s : State} {a : Aside} (d : Draft) → At net scalars low m s a d (open_tokens d z 0 T vs []) → ((w : ℕ) → T w ≡ often w ws) → AreBelow (length vs) ws → length d.ends ≡ length vs
      → Stands net low m (all_gone to ws d) → length ws + 1 ≤ 5 * handed_on j + 3 → handed_values (onward_of j vs) ≡ map (value_at vs) ws → Grows j d (all_gone to ws d) → SideAt g gs net (gone_edge to ws d) → to ≡ target_of (join_of g) (onward_of j vs)
      → JumpDone g gs net scalars low m s (length (open_tokens d z 0 T vs [])) a z vs j d
  gone_done j to ws z T vs {s = s} {a = a} d o left below many sr le given grows at_side goes =
      let r = gone_comes leaves_of to ws z T vs d o (λ w. let l = left w in let i = more_all_is ws w (λ w. 0) in omega (arith, l, i)) below many sr (gone_more to ws d) in
      record {
        edge = gone_edge to ws d;
        last = all_gone to ws d;
        comes = comes_within (omega (arith, le)) (comes_swapped (swaps_of (ap (edge_tokens (gone_edge to ws d) z) (sym given))) r);
        grows = grows;
        many = passed_long (get_or d.heads to 0) (number (length ws)) ws d ∙ (sym (length-map ws (value_at vs)) ∙ ap length (sym given));
        edge_side = at_side;
        goes = goes;
      }

  parted_done : (c : ℕ) (x y : To) (b : Bool) (z : ℕ) (T : ℕ → ℕ) (vs : List ℕ) {s : State} {a : Aside} (d : Draft) → At net scalars low m s a d (open_tokens d z 0 T vs []) → ((w : ℕ) → T w ≡ jump_uses (Two c x y) (length vs) w) → AreBelow (length vs) x.with → AreBelow (length vs) y.with
      → c < length vs → length d.ends ≡ length vs → length vs + 1 < 2 ^ 31 → length x.with + length y.with + 1 < 2 ^ 32 → Stands net low m (control_branched c (parted_all c x y d)) → side_of (value_at vs c) ≡ side_no b
      → Comes net scalars low m s (length d.chans) (length (open_tokens d z 0 T vs [])) (5 * handed_on (Two c x y) + 3) a (control_branched c (parted_all c x y d))
      (token (at (next (copied c (parted_all c x y d))) (side_no b)) z ∷ data_tokens (taken (with_on b x y) (ends_on b (parted_sides c x y d))) (map (value_at vs) (with_on b x y)))
  parted_done c x y b z T vs d o left bx byy lc many small few sr is =
      let n = length d.ends in
      let ys = handed_often n x in
      let ns = handed_often n y in
      let lx : length ys ≡ length vs = all_added_length x.with (zeros n) ∙ (zeros_length n ∙ many) in
      let fy : (w : ℕ) → get_or ys w 0 < 2 ^ 32 = (λ w. let p = all_added_most x.with w (zeros n) in let q = zeros_at n w in omega (arith, p, q, few)) in
      let fn : (w : ℕ) → get_or ns w 0 < 2 ^ 32 = (λ w. let p = all_added_most y.with w (zeros n) in let q = zeros_at n w in omega (arith, p, q, few)) in
      let left' : (w : ℕ) → T w ≡ branches_more c 0 ys ns (more c (λ w. 0)) w =
      (λ w. let l = left w in let i = branches_more_is c 0 ys ns w (more c (λ w. 0)) in let j = more_is c w (λ w. 0) in let q = ap (λ k. branches_uses c 0 (handed_often k x) (handed_often k y) w) many in omega (arith, l, i, j, q)) in
      let f = branches_few n x y (omega (arith, small, many)) in
      comes_within (omega (arith, f)) (parted_comes leaves_of b c ys ns (with_on b x y) z T vs d fy fn lx (omega (arith, small)) lc many (below_on b) (chosen b) left' o is sr)
    where
      below_on : (b : Bool) → AreBelow (length vs) (with_on b x y)
      below_on true = bx
      below_on false = byy

      chosen : (b : Bool) (w : ℕ) → table (table_on b (handed_often (length d.ends) x) (handed_often (length d.ends) y)) w ≡ more_all (with_on b x y) (λ w. 0) w
      chosen true w = let p = handed_at (length d.ends) w x (below_in x.with (length vs) (length d.ends) (sym many) bx) (omega (arith, few)) in let q = more_all_is x.with w (λ w. 0) in omega (arith, p, q)
      chosen false w = let p = handed_at (length d.ends) w y (below_in y.with (length vs) (length d.ends) (sym many) byy) (omega (arith, few)) in let q = more_all_is y.with w (λ w. 0) in omega (arith, p, q)

  jump_done : (j : Jump) (ws : Shape) (z : ℕ) (T : ℕ → ℕ) (vs : List ℕ) {s : State} {a : Aside} (d : Draft) → IsJump g ws j → length ws ≡ length vs → length d.ends ≡ length vs → length vs + 1 < 2 ^ 31 → handed_on j + 1 < 2 ^ 32 → ((w : ℕ) → T w ≡ jump_uses j (length vs) w)
      → At net scalars low m s a d (open_tokens d z 0 T vs []) → Stands net low m (jump_laid (join_of g) j d) → SidesAt g gs net (join_of g) j d → JumpDone g gs net scalars low m s (length (open_tokens d z 0 T vs [])) a z vs j d
  jump_done (Go to) ws z T vs d is lw many small few left o sr at_side =
      gone_done (Go to) to.block to.with z T vs d o left (below_in to.with (length ws) (length vs) lw (handed_below ws to.with is.block.args is.handed)) many
      (stands_as {d = jump_laid (join_of g) (Go to) d} (all_gone to.block to.with d) refl refl sr) (omega arith) refl (chans_up d (all_gone to.block to.with d) (all_gone_extends d to.block to.with)) at_side refl
  jump_done (Return None) ws z T vs d is lw many small few left o sr at_side =
      gone_done (Return None) (join_of g) [] z T vs d o left tt many (stands_as {d = jump_laid (join_of g) (Return None) d} (all_gone (join_of g) [] d) refl refl sr) (omega arith) refl tt at_side refl
  jump_done (Return (Some v)) ws z T vs d is lw many small few left o sr at_side =
      gone_done (Return (Some v)) (join_of g) (v ∷ []) z T vs d o (λ w. let l = left w in omega (arith, l)) ((let q = returned g.result is in omega (arith, q, lw)), tt) many
      (stands_as {d = jump_laid (join_of g) (Return (Some v)) d} (all_gone (join_of g) (v ∷ []) d) refl refl sr) (omega arith) refl tt at_side refl
    where
      returned : (r : Option Ty) → IsReturn r ws (Some v) → v < length ws
      returned None h = absurd h
      returned (Some t) h = of_width_below ws v _ h
  jump_done (Two c x y) ws z T vs {s = s} {a = a} d (ic, ix, iy) lw many small few left o sr at_side = by (value_at vs c) refl
    where
      last : Draft
      last = control_branched c (parted_all c x y d)

      bx : AreBelow (length vs) x.with
      bx = below_in x.with (length ws) (length vs) lw (handed_below ws x.with ix.block.args ix.handed)

      byy : AreBelow (length vs) y.with
      byy = below_in y.with (length ws) (length vs) lw (handed_below ws y.with iy.block.args iy.handed)

      lc : c < length vs
      lc = let q = of_width_below ws c 32 ic in omega (arith, q, lw)

      sr' : Stands net low m (control_branched c (parted_all c x y d))
      sr' = stands_as {d = jump_laid (join_of g) (Two c x y) d} (control_branched c (parted_all c x y d)) refl refl sr

      longer : length d.chans < length (control_branched c (parted_all c x y d)).chans
      longer =
          let e = parted_all c x y d in
          let u = chans_up d e (all_branched_extends d c 0 (handed_often (length d.ends) x) (handed_often (length d.ends) y)) in
          branched_longer c e (length d.chans) u

      by : (q : ℕ) → value_at vs c ≡ q → JumpDone g gs net scalars low m s (length (open_tokens d z 0 T vs [])) a z vs (Two c x y) d
      by zero e =
          let r = parted_done c x y false z T vs d o left bx byy lc many small (omega (arith, few)) sr' (ap side_of e) in
          let given : map (value_at vs) y.with ≡ handed_values (onward_of (Two c x y) vs) = ap (λ n. handed_values (side n (handed vs x) (handed vs y))) (sym e) in
          let listed = ap (λ es. token (at (next (copied c (parted_all c x y d))) 1) z ∷ data_tokens (taken y.with es) (map (value_at vs) y.with)) (on_no (parted_sides c x y d)) ∙ ap (edge_tokens (no_edge c x y d) z) given in
          record {
            edge = no_edge c x y d;
            last = control_branched c (parted_all c x y d);
            comes = comes_swapped (swaps_of listed) r;
            grows = longer;
            many = taken_long y.with (no_ends (parted_sides c x y d)) ∙ (sym (length-map y.with (value_at vs)) ∙ ap length given);
            edge_side = at_side.1;
            goes = ap (λ n. target_of (join_of g) (side n (handed vs x) (handed vs y))) (sym e);
          }
      by (suc n) e =
          let not_zero : side_of (suc n) ≡ 0 = (let f : (suc n == 0) ≡ false = ne_eqb (suc n) 0 (λ q. absurd (omega (arith, q))) in ap {B = ℕ} (λ b. cond b 1 0) f) in
          let r = parted_done c x y true z T vs d o left bx byy lc many small (omega (arith, few)) sr' (ap side_of e ∙ not_zero) in
          let given : map (value_at vs) x.with ≡ handed_values (onward_of (Two c x y) vs) = ap (λ n. handed_values (side n (handed vs x) (handed vs y))) (sym e) in
          let listed = ap (λ es. token (at (next (copied c (parted_all c x y d))) 0) z ∷ data_tokens (taken x.with es) (map (value_at vs) x.with)) (on_yes (parted_sides c x y d)) ∙ ap (edge_tokens (yes_edge c x y d) z) given in
          record {
            edge = yes_edge c x y d;
            last = control_branched c (parted_all c x y d);
            comes = comes_swapped (swaps_of listed) r;
            grows = longer;
            many = taken_long x.with (yes_ends (parted_sides c x y d)) ∙ (sym (length-map x.with (value_at vs)) ∙ ap length given);
            edge_side = at_side.0;
            goes = ap (λ n. target_of (join_of g) (side n (handed vs x) (handed vs y))) (sym e);
          }

-- ---- the visit

accesses_few : (is : List Instr) → accesses_in is ≤ length is
accesses_few [] = omega arith
accesses_few (i ∷ is) = let h = accesses_few is in let l = one i in omega (arith, h, l)
  where
    one : (i : Instr) → is_access i ≤ 1
    one (step.Const w n) = omega arith
    one (step.One op x) = omega arith
    one (step.Two op x y) = omega arith
    one (step.Select w c x y) = omega arith
    one (step.Load a p) = omega arith
    one (step.Store a p v) = omega arith

through_long : (is : List Instr) (w : Work) → length (through is w).values ≡ length w.values + length is
through_long [] w = omega arith
through_long (i ∷ is) w = through_long is (after_step i w) ∙ (let l = length-append w.values (step_value i w.values w.arrays ∷ []) in omega (arith, l))

constants_few : (v : ℕ) (is : List Instr) (us : List ℕ) → constants v is us ≤ length is
constants_few v [] us = omega arith
constants_few v (i ∷ is) us = let h = constants_few (suc v) is us in let l = one i (get_or us v 0) in omega (arith, h, l)
  where
    one : (i : Instr) (u : ℕ) → constant_of i u ≤ 1
    one (step.Const w n) zero = omega arith
    one (step.Const w n) (suc u) = omega arith
    one (step.One op x) u = omega arith
    one (step.Two op x y) u = omega arith
    one (step.Select w c x y) u = omega arith
    one (step.Load a p) u = omega arith
    one (step.Store a p v) u = omega arith

head_uses : (o : Option Edge) (ins : ℕ) (ws : List ℕ) (t : ℕ) (d : Draft) → (head_by o ins ws t d).uses ≡ d.uses
head_uses None ins ws t d =
    let n = plus t (number (length ws)) in
    let m = merged ins d in
    let e = control_forked n m in
    let x = muxes_laid ins ws e in
    (args_still (next e) ws x).kept.uses ∙ ((muxes_still ins ws e).kept.uses ∙ (forked_still n m).kept.uses)
head_uses (Some e) ins ws t d =
    let c = record (with_control e.control d) { heads = d.heads ++ 0 ∷ [] } in
    (ends_still e.with (control_forked t c)).kept.uses ∙ (forked_still t c).kept.uses

record Allotted (d e : Draft) : Type 0 where
  trigger : e.trigger ≡ d.trigger
  ends : e.ends ≡ d.ends
  uses : e.uses ≡ d.uses

allotted : (xs : List Access) (d : Draft) → Allotted d (all_allocated xs d)
allotted [] d = record { trigger = refl; ends = refl; uses = refl }
allotted (x ∷ xs) d =
    let i = allotted xs (allocated x.array d) in
    let j = one (queue_of d x.array) in
    record { trigger = i.trigger ∙ j.trigger; ends = i.ends ∙ j.ends; uses = i.uses ∙ j.uses }
  where
    one : (q : Option Queue) → Allotted d (allocated_by x.array q d)
    one None = record { trigger = refl; ends = refl; uses = refl }
    one (Some q) = record { trigger = refl; ends = refl; uses = refl }

forked_ends : (t : ℕ) (d : Draft) → (control_forked t d).ends ≡ d.ends
forked_ends zero d = refl
forked_ends (suc t) d = refl

edge_stage : {net : Net} {scalars : List ℕ} {s : State} {a : Aside} (n m : ℕ) (e : Edge) (z : ℕ) (vs : List ℕ) → OnEdge net scalars s a e z vs → length e.with ≡ length vs → Outside 0 n m (edge_places e)
    → Stage net scalars s a 0 n m (places (edge_tokens e z vs)) (values (edge_tokens e z vs))
edge_stage n m e z vs h l out =
    let p = data_places e.with vs l in
    stage_as (ap (λ ps. Some e.control ∷ ps) (sym p.0)) (ap (λ xs. z ∷ xs) (sym p.1)) (record { shows = h.shows; apart = h.apart; outside = out; same = h.same })

module _ (g : Graph) (gs : Groups) {net : Net} {scalars : List ℕ} (leaves_of : Leaves net) where
  -- the head of a target, whose arguments have these widths and uses
  pub target_head : (b : ℕ) (ws us : List ℕ) (t : ℕ) (d0 : Draft) → HeadAt g gs b d0 → Within net (head_laid (inputs_of g b) b ws us t d0) → length (front_of g gs).units ≤ length d0.units → ((v : ℕ) → get_or us v 0 < 2 ^ 32) → t + length ws + 2 < 2 ^ 32
      → (s : State) (a : Aside) (e : Edge) (z : ℕ) (given : List ℕ) → OnEdge net scalars s a e z given → SideAt g gs net e → e.to ≡ b → length e.with ≡ length ws
      → HeadDone net scalars (length (front_of g gs).units) (length net.units) s a (length d0.chans) ws us t (head_laid (inputs_of g b) b ws us t d0) given
  target_head b ws us t d0 head w1 late few small s a e z given on_edge at_side goes many = by head at_side.ends_at
    where
      lv : length e.with ≡ length given
      lv = let i = on_edge.same in omega (arith, i, long e.with)
        where
          long : (xs : List End) → length (map (λ (x : End). Some x.place) xs) ≡ length xs
          long [] = refl
          long (x ∷ xs) = ap suc (long xs)

      x01 : Extends (record d0 { uses = us; ends = [] }) (head_laid (inputs_of g b) b ws us t d0)
      x01 = let x = head_extends d0 (inputs_of g b) b ws us t in record { more_units = x.more_units; more_chans = x.more_chans; units = x.units; chans = x.chans }

      wd : Within net (record d0 { uses = us; ends = [] })
      wd = within_less net (record d0 { uses = us; ends = [] }) (head_laid (inputs_of g b) b ws us t d0) x01 w1

      above : length (front_of g gs).units ≤ next (record d0 { uses = us; ends = [] })
      above = let l = wd.less in let f = wd.few in omega (arith, l, f, late)

      by : HeadAt g gs b d0 → MergedAt g gs net e ⊎ LeanAt g gs e → HeadDone net scalars (length (front_of g gs).units) (length net.units) s a (length d0.chans) ws us t (head_laid (inputs_of g b) b ws us t d0) given
      by (inl h) (inl m) =
          let unit : head_of g gs e.to ≡ next d0 = ap (head_of g gs) goes ∙ h.unit in
          let less : m.number < (inputs_of g b) = subst (λ q. m.number < inputs_of g q) goes m.less in
          let wires : EdgeAt net (next d0) m.number e = subst (λ q. EdgeAt net q m.number e) unit m.wires in
          let outside : Outside 0 (next d0) (head_end (next d0) (length ws)) (edge_places e) =
          subst (λ q. Outside 0 (next d0) (head_end (next d0) q) (edge_places e)) many (subst (λ q. Outside 0 q (head_end q (length e.with)) (edge_places e)) unit m.outside) in
          let e1 : head_laid (inputs_of g b) b ws us t d0 ≡ opened (inputs_of g b) ws t (record d0 { uses = us; ends = [] }) = ap (λ o. head_by o (inputs_of g b) ws t (record d0 { uses = us; ends = [] })) h.tail in
          let st = edge_stage (next d0) (head_end (next d0) (length ws)) e z given on_edge lv outside in
          let done = merged_head leaves_of us few (inputs_of g b) m.number e z given (record d0 { uses = us; ends = [] }) refl refl above on_edge.calm less wires ws t lv (sym lv ∙ many) small (subst (Within net) e1 w1) st in
          subst (λ d. HeadDone net scalars (length (front_of g gs).units) (length net.units) s a (length d0.chans) ws us t d given) (sym e1) done
      by (inl h) (inr n) = let unit : head_of g gs e.to ≡ next d0 = ap (head_of g gs) goes ∙ h.unit in let z = n.none in let p = h.late in absurd (omega (arith, unit, z, p))
      by (inr l) (inl m) = let p = m.some in let z = ap (head_of g gs) goes ∙ l.none in absurd (omega (arith, p, z))
      by (inr l) (inr n) =
          let k : Some l.edge ≡ Some e = sym l.only ∙ (ap (lean_edge g gs) (sym goes) ∙ n.only) in
          let same_edge : l.edge ≡ e = cc in
          let tail : tail_of (inputs_of g b) b d0 ≡ Some e = l.tail ∙ ap Some same_edge in
          let below = subst (λ x. Outside 0 (next d0) (length net.units) (edge_places x)) same_edge (l.below (length net.units)) in
          let used = subst (λ x. AllUsed (length (front_of g gs).units) d0.queues (edge_places x)) same_edge l.used in
          let p = data_places e.with given lv in
          let used' : AllUsed (length (front_of g gs).units) d0.queues (places (edge_tokens e z given)) = subst (λ ps. AllUsed (length (front_of g gs).units) d0.queues (Some e.control ∷ ps)) (sym p.0) used in
          let e1 : head_laid (inputs_of g b) b ws us t d0 ≡ passed_in e t (record d0 { uses = us; ends = [] }) = ap (λ o. head_by o (inputs_of g b) ws t (record d0 { uses = us; ends = [] })) tail in
          let st = edge_stage (next d0) (length net.units) e z given on_edge lv below in
          let done = lean_head leaves_of us few ws e z t given (record d0 { uses = us; ends = [] }) refl refl wd (subst (Within net) e1 w1) above on_edge.calm lv (sym lv ∙ many) (omega (arith, small)) st used' in
          subst (λ d. HeadDone net scalars (length (front_of g gs).units) (length net.units) s a (length d0.chans) ws us t d given) (sym e1) done

-- a queue of the draft, and one of a draft with the same queues
foreign_same : (d e : Draft) (v : ℕ) → e.queues ≡ d.queues → Foreign d v → Foreign e v
foreign_same d e v same_queues h x q is = h x q (subst (λ qs. queue_or (slice_get qs x) ≡ Some q) same_queues is)

-- the head, the groups and the triggers of a visit
record FrontDone (g : Graph) (gs : Groups) (net : Net) (scalars : List ℕ) (s : State) (a : Aside) (k : Block) (given : List ℕ) (c n : ℕ) (d1 d3 : Draft) : Type 0 where
  after : Aside
  z : ℕ
  comes : Comes net scalars (length (front_of g gs).units) (length net.units) s c (suc (length given)) (4 + 4 * length k.args + n) after d3 (steps_tokens d3 z k.steps (left_table k) given)
  many : length d3.ends ≡ length given
  waits : Waits g gs after.own d3 k.steps
  kept : (v : ℕ) → Foreign d1 v → after.own v ≡ a.own v
  arrays : after.arrays ≡ a.arrays
  strays : after.strays ≡ a.strays
  fits : TableFits g.arrays (map Some k.args) k.steps (left_table k) d3

module _ (g : Graph) (gs : Groups) {net : Net} {scalars : List ℕ} (leaves_of : Leaves net) where
  late_comes : (late : Bool) (n z : ℕ) (T : ℕ → ℕ) (vs : List ℕ) {low : ℕ} {s : State} {a : Aside} (d : Draft) → At net scalars low (length net.units) s a d (open_tokens d z (cond late 0 n) T vs []) → n + 2 < 2 ^ 32 → Stands net low (length net.units) (control_forked (cond late n 0) d)
      → Comes net scalars low (length net.units) s (length d.chans) (length (open_tokens d z (cond late 0 n) T vs [])) 1 a (control_forked (cond late n 0) d) (open_tokens (control_forked (cond late n 0) d) z n T vs [])
  late_comes true n z T vs d o small sr = control_forked_comes leaves_of n z T vs [] o small sr
  late_comes false n z T vs d o small sr = comes_within (omega arith) (comes_here o)

  front_done : (b : ℕ) (k : Block) (late : Bool) (d1 : Draft) (own : List Access) → IsBlock g k → BlockLeft g k → block_weight k ≤ 8000000 → (s : State) (a : Aside) (given : List ℕ) (c : ℕ)
      → HeadDone net scalars (length (front_of g gs).units) (length net.units) s a c k.args (uses k) (cond late 0 (number (constants (length k.args) k.steps (uses k)))) d1 given
      → d1.uses ≡ uses k → BooksAt g gs net k.steps d1 → GroupsAt g gs net k.steps own d1 → ((x : ℕ) (q : Queue) → queue_of d1 x ≡ Some q → Waiting g gs a.own x q (pending x own (left_of x q.port k.steps))) → length given ≡ length k.args
      → Stands net (length (front_of g gs).units) (length net.units) (control_forked (cond late (number (constants (length k.args) k.steps (uses k))) 0) (all_allocated own d1))
      → FrontDone g gs net scalars s a k given c (length own) d1 (control_forked (cond late (number (constants (length k.args) k.steps (uses k))) 0) (all_allocated own d1))
  front_done b k late d1 own fine left small s a given c hd uses1 books groups waits as_many_args s3 =
      let low = length (front_of g gs).units in
      let M = length net.units in
      let us = uses k in
      let cst = constants (length k.args) k.steps us in
      let n0 = number cst in
      let t = cond late 0 n0 in
      let tl = cond late n0 0 in
      let d2 = all_allocated own d1 in
      let d3 = control_forked tl d2 in
      let tb = left_table k in
      let o1 = hd.comes.there in
      let ts = row d1.trigger t hd.z ++ (kept (table us) d1.ends given ++ []) in
      let same_place : length (front_of g gs).units ≤ low = omega arith in
      let s2 = stands_between {d = d1} {e = d2} {f = d3} (all_extend own d1) (control_extends d2 tl) o1.stands s3 in
      let gd = groups_done g gs leaves_of same_place own k.steps d1 hd.z ts o1 books groups waits s2 in
      let al = allotted own d1 in
      let listed : token d2.control hd.z ∷ ts ≡ open_tokens d2 hd.z t (table us) given [] = tokens_as {c = d2.control} {p = d1.trigger} {es = d1.ends} hd.z t (table us) given [] refl (sym al.trigger) (sym al.ends) in
      let g2 = comes_swapped (swaps_of listed) gd.comes in
      let few = constants_few (length k.args) k.steps us in
      let fork = late_comes late n0 hd.z (table us) given {s = g2.to} d2 g2.there (omega (arith, small)) s3 in
      let ends3 : d3.ends ≡ d1.ends = forked_ends tl d2 ∙ al.ends in
      let uses3 : d3.uses ≡ us = (forked_still tl d2).kept.uses ∙ (al.uses ∙ uses1) in
      let many3 : length d3.ends ≡ length given = ap length ends3 ∙ hd.many in
      let args3 : length d3.ends ≡ length k.args = many3 ∙ as_many_args in
      let count : n0 ≡ constants (length d3.ends) k.steps d3.uses = (let z : n0 ≡ cst = omega (arith, few, small) in z) ∙ (ap (λ q. constants q k.steps us) (sym args3) ∙ ap (λ u. constants (length d3.ends) k.steps u) (sym uses3)) in
      let listed3 = tokens_same d3 hd.z n0 (constants (length d3.ends) k.steps d3.uses) (table us) (table (steps_added (length d3.ends) k.steps tb)) given [] count (λ w. ap (λ q. get_or (steps_added q k.steps tb) w 0) (sym args3)) in
      let queues3 : d3.queues ≡ d2.queues = (forked_still tl d2).queues in
      let lm : length (map Some k.args) ≡ length k.args = length-map k.args Some in
      let tall = left.long in
      let all = comes_then hd.comes (comes_then g2 fork) in
      record {
        after = gd.after;
        z = hd.z;
        comes = comes_within (omega arith) (comes_swapped (swaps_of listed3) all);
        many = many3;
        waits = λ x q h. gd.waits x q (subst (λ qs. queue_or (slice_get qs x) ≡ Some q) queues3 h);
        kept = gd.kept;
        arrays = gd.arrays;
        strays = gd.strays;
        fits = record {
          long = omega (arith, lm, tall);
          room = left.room;
          silent = left.silent;
          ahead = λ v le. ap (λ u. get_or u v 0) uses3 ∙ ap (λ q. get_or (steps_added q k.steps tb) v 0) (sym args3);
          tall = omega (arith, lm, args3);
        };
      }

  -- a block without channels has a buffer
  bare_comes : (n : ℕ) (j : Jump) (z : ℕ) (T : ℕ → ℕ) (vs : List ℕ) {low : ℕ} {s : State} {a : Aside} (d : Draft) → At net scalars low (length net.units) s a d (open_tokens d z 0 T vs []) → Stands net low (length net.units) (bare_buffered n j d)
      → Comes net scalars low (length net.units) s (length d.chans) (length (open_tokens d z 0 T vs [])) 1 a (bare_buffered n j d) (open_tokens (bare_buffered n j d) z 0 T vs [])
  bare_comes n (Go to) z T vs {low = low} {s = s} {a = a} d o sr = by (length d.chans == n) sr
    where
      by : (b : Bool) → Stands net low (length net.units) (cond b (buffered d) d) → Comes net scalars low (length net.units) s (length d.chans) (length (open_tokens d z 0 T vs [])) 1 a (cond b (buffered d) d) (open_tokens (cond b (buffered d) d) z 0 T vs [])
      by true sb = buffered_comes leaves_of o sb
      by false sb = comes_within (omega arith) (comes_here o)
  bare_comes n (Two c x y) z T vs d o sr = comes_within (omega arith) (comes_here o)
  bare_comes n (Return v) z T vs d o sr = comes_within (omega arith) (comes_here o)

bare_longer : (n : ℕ) (to : To) (d : Draft) → length (bare_buffered n (Go to) d).chans ≡ n → ⊥
bare_longer n to d e = elim (cases_eq (length d.chans) n) [
  | inl i ↦ (let b : bare_buffered n (Go to) d ≡ buffered d = ap (λ t. cond t (buffered d) d) (eq-eqb (length d.chans) n i) in
      let l = ap (λ (x : Draft). length x.chans) b in let m = length-append d.chans (chan d.control (at (next d) 0) 32 true ∷ []) in absurd (omega (arith, i, l, m, e)))
  | inr k ↦ k (ap (λ (x : Draft). length x.chans) (ap (λ t. cond t (buffered d) d) (sym (ne_eqb (length d.chans) n k))) ∙ e)
]

bare_ends : (n : ℕ) (j : Jump) (d : Draft) → (bare_buffered n j d).ends ≡ d.ends
bare_ends n (Go to) d = by (length d.chans == n)
  where
    by : (b : Bool) → (cond b (buffered d) d).ends ≡ d.ends
    by true = refl
    by false = refl
bare_ends n (Two c x y) d = refl
bare_ends n (Return v) d = refl

-- where a block leads on there was a firing
some_fired : (j : Jump) (vs : List ℕ) (n f : ℕ) (d last : Draft) → n ≤ length (bare_buffered n j d).chans → Grows j (bare_buffered n j d) last → (1 ≤ f) ⊎ (length last.chans ≡ n) → (1 ≤ f) ⊎ ((r : Option ℕ) × (onward_of j vs ≡ leaves r))
some_fired (Go to) vs n f d last up grows (inl i) = inl i
some_fired (Go to) vs n f d last up grows (inr e) = absurd (bare_longer n to d (omega (arith, e, up, grows)))
some_fired (Two c x y) vs n f d last up grows (inl i) = inl i
some_fired (Two c x y) vs n f d last up grows (inr e) = absurd (omega (arith, e, up, grows))
some_fired (Return v) vs n f d last up grows h = inr (result_of vs v, refl)

handed_few : (j : Jump) (vs : List ℕ) → length (handed_values (onward_of j vs)) ≤ handed_on j + 1
handed_few (Go to) vs = let l = length-map to.with (value_at vs) in omega (arith, l)
handed_few (Two c x y) vs = by (value_at vs c)
  where
    by : (q : ℕ) → length (handed_values (side q (handed vs x) (handed vs y))) ≤ handed_on (Two c x y) + 1
    by zero = let l = length-map y.with (value_at vs) in omega (arith, l)
    by (suc q) = let l = length-map x.with (value_at vs) in omega (arith, l)
handed_few (Return None) vs = omega arith
handed_few (Return (Some v)) vs = omega arith

at_most : (a b c : ℕ) → a ≤ b → b ≤ c → a ≤ c
at_most a b c x y = omega (arith, x, y)

one_more : (a b c : ℕ) → a ≡ b → b ≤ c → suc a ≤ suc c
one_more a b c x y = omega (arith, x, y)

strays_more : (a b c d : ℕ) → c + 0 ≡ b + d → b ≡ a → c ≡ a + d
strays_more a b c d x y = omega (arith, x, y)

visit_few : (a n o h f v t : ℕ) → f + suc v ≤ 4 + 4 * a + o + (6 * n + (1 + (5 * h + 3))) + t → o ≤ n → t ≤ suc (h + 1) → f ≤ 12 * (1 + a + n + h)
visit_few a n o h f v t x y z = omega (arith, x, y, z)

early_few : (late : Bool) (n m : ℕ) → n + m < 2 ^ 32 → cond late 0 n + m < 2 ^ 32
early_few true n m l = omega (arith, l)
early_few false n m l = l

module _ (g : Graph) (gs : Groups) {net : Net} {scalars : List ℕ} (leaves_of : Leaves net) where
  visit_over : (k : Block) (w : Work) (given n own : ℕ) (s : State) (a b : Aside) (d last : Draft) (edge : Edge) (z : ℕ)
      → Comes net scalars (length (front_of g gs).units) (length net.units) s n (suc given) (4 + 4 * length k.args + own + (6 * length k.steps + (1 + (5 * handed_on k.jump + 3)))) b last (edge_tokens edge z (handed_values (onward_of k.jump w.values)))
      → own ≤ length k.steps → n ≤ length (bare_buffered n k.jump d).chans → Grows k.jump (bare_buffered n k.jump d) last → length edge.with ≡ length (handed_values (onward_of k.jump w.values)) → SideAt g gs net edge
      → edge.to ≡ target_of (join_of g) (onward_of k.jump w.values) → NoneWaits net b → b.arrays ≡ w.arrays → b.strays ≡ a.strays + w.strays → Visited g gs net scalars s a k w
  visit_over k w given n own s a b d last edge z all own_few up grows many at_side goes waits arrays strays =
      let vals = handed_values (onward_of k.jump w.values) in
      let end = all.there in
      let p = data_places edge.with vals many in
      let dl = data_long edge.with vals many in
      let st = stage_as {s = all.to} (ap (λ ps. Some edge.control ∷ ps) p.0) (ap (λ xs. z ∷ xs) p.1) end.stage in
      record {
        firings = all.firings;
        to = all.to;
        run = all.run;
        some = some_fired k.jump w.values n (length all.firings) d last up grows all.some;
        few = visit_few (length k.args) (length k.steps) own (handed_on k.jump) (length all.firings) given (length (edge_tokens edge z vals)) all.few own_few
            (one_more (length (data_tokens edge.with vals)) (length vals) (handed_on k.jump + 1) dl (handed_few k.jump w.values));
        after = b;
        edge = edge;
        z = z;
        on_edge = record { shows = st.shows; apart = st.apart; same = st.same; calm = end.calm; waits = waits };
        edge_side = at_side;
        goes = goes;
        arrays = arrays;
        strays = strays;
      }

  visit_back : (k : Block) (given : List ℕ) (arrays : List (List ℕ)) (n own : ℕ) (s : State) (a : Aside) (d1 d3 : Draft) → IsBlock g k → BlockLeft g k → block_weight k ≤ 8000000 → FrontDone g gs net scalars s a k given n own d1 d3 → own ≤ length k.steps
      → BooksAt g gs net k.steps d1 → BooksAt g gs net k.steps d3 → Within net (jump_laid (join_of g) k.jump (bare_buffered n k.jump (steps_laid g.arrays k.steps d3)))
      → SidesAt g gs net (join_of g) k.jump (bare_buffered n k.jump (steps_laid g.arrays k.steps d3)) → n ≤ length d3.chans → length given ≡ length k.args → a.arrays ≡ arrays
      → ((x : ℕ) (q : Queue) → queue_of d1 x ≡ Some q → (p : Queue) × (queue_of d3 x ≡ Some p) × (p.unit ≡ q.unit)) → ((v : ℕ) → Foreign d1 v → Foreign d3 v) → NoneWaits net a
      → Visited g gs net scalars s a k (through k.steps (beginning given arrays))
  visit_back k given arrays n own s a d1 d3 fine left small fd own_few books1 books3 w6 sides up as_many_args same_arrays track foreign waits =
      let low = length (front_of g gs).units in
      let M = length net.units in
      let d4 = steps_laid g.arrays k.steps d3 in
      let d5 = bare_buffered n k.jump d4 in
      let d6 = jump_laid (join_of g) k.jump d5 in
      let x56 : Extends d5 d6 = jump_extends d5 (join_of g) k.jump in
      let x45 : Extends d4 d5 = bare_extends d4 n k.jump in
      let x46 : Extends d4 d6 = extends_then d4 d5 d6 x45 x56 in
      let x34 : Extends d3 d4 = steps_extend d3 g.arrays k.steps in
      let x36 : Extends d3 d6 = extends_then d3 d4 d6 x34 x46 in
      let o3 = fd.comes.there in
      let s6 : Stands net low M d6 = record { within = w6; above = at_most low (next d3) (next d6) o3.stands.above (next_up d3 d6 x36); below = within_next d6 w6 } in
      let s4 = stands_between {d = d3} {e = d4} {f = d6} x34 x46 o3.stands s6 in
      let w0 = beginning given arrays in
      let w = through k.steps w0 in
      let same_place : length (front_of g gs).units ≤ low = at_most low low low (self low) (self low) in
      let sd = steps_done g gs leaves_of same_place k.steps w0 {s = fd.comes.to} {a = fd.after} d3 fd.z (left_table k) (map Some k.args) o3 fd.many fine.steps fd.fits books3 fd.waits (fd.arrays ∙ same_arrays) s4 in
      let o4 = sd.comes.there in
      let s5 = stands_between {d = d4} {e = d5} {f = d6} x45 x56 o4.stands s6 in
      let bc = bare_comes g gs leaves_of n k.jump fd.z (table (left_table k)) w.values {s = sd.comes.to} {a = sd.after} d4 o4 s5 in
      let values_many : length k.args + length k.steps ≡ length w.values = values_as (length given) (length k.args) (length k.steps) (length w.values) (through_long k.steps w0) as_many_args in
      let vs_small = values_small (length k.args) (length k.steps) (handed_on k.jump) (length w.values) values_many small in
      let jd = jump_done g gs leaves_of k.jump (shape_of g k) fd.z (table (left_table k)) w.values {s = bc.to} {a = sd.after} d5 fine.jump (left.values ∙ values_many) (ap length (bare_ends n k.jump d4) ∙ sd.many) vs_small.0 vs_small.1
      (λ q. left.left q ∙ ap (λ c. jump_uses k.jump c q) values_many) bc.there s6 sides in
      let t2 = comes_then {s = sd.comes.to} bc jd.comes in
      let t3 = comes_then {s = fd.comes.to} sd.comes t2 in
      let all = comes_then {s = s} fd.comes t3 in
      let waits_end = none_waits_after g gs net a sd.after k.steps d1 d4 books1
      (λ x q h. (let t = track x q h in let u = steps_track g.arrays k.steps d3 x t.0 t.1 in (u.0, u.1, u.2 ∙ t.2)))
      sd.waits (λ v f. sd.kept v (foreign v f) ∙ fd.kept v f) waits in
      visit_over k w (length given) n own s a sd.after d4 jd.last jd.edge fd.z all own_few
      (at_most n (length d3.chans) (length d5.chans) up (chans_up d3 d5 (extends_then d3 d4 d5 x34 x45))) jd.grows jd.many jd.edge_side jd.goes waits_end sd.arrays
      (strays_more a.strays fd.after.strays sd.after.strays w.strays sd.strays fd.strays)
    where
      self : (n : ℕ) → n ≤ n
      self n = omega arith

      next_up : (d e : Draft) → Extends d e → next d ≤ next e
      next_up d e x = let q = length-append d.units x.more_units in let u = ap length x.units in omega (arith, q, u)

      within_next : (d : Draft) → Within net d → next d ≤ length net.units
      within_next d w = let l = w.less in omega (arith, l)

      values_as : (v a n w : ℕ) → w ≡ v + n → v ≡ a → a + n ≡ w
      values_as v a n w x y = omega (arith, x, y)

      values_small : (a n h w : ℕ) → a + n ≡ w → 1 + a + n + h ≤ 8000000 → (w + 1 < 2 ^ 31) × (h + 1 < 2 ^ 32)
      values_small a n h w x y = (omega (arith, x, y), omega (arith, y))

  pub visited : (b : ℕ) (k : Block) → IsBlock g k → block_weight k ≤ 8000000 → slice_get g.blocks b ≡ Some k → BlockAt g gs net b k → (s : State) (a : Aside) (e : Edge) (z : ℕ) (given : List ℕ) (arrays : List (List ℕ)) → OnEdge net scalars s a e z given
      → SideAt g gs net e → e.to ≡ b → a.arrays ≡ arrays → Visited g gs net scalars s a k (through k.steps (beginning given arrays))
  visited b k fine small found ba s a e z given arrays on_edge at_side goes same_arrays =
      let low = length (front_of g gs).units in
      let M = length net.units in
      let d0 = ba.before in
      let xs = ba.accesses in
      let ins = inputs_of g b in
      let us = uses k in
      let n0 = number (constants (length k.args) k.steps us) in
      let late = has_access b xs in
      let n = length d0.chans in
      let t = early_triggers b k xs in
      let tl = late_triggers b k xs in
      let d1 = block_opened ins b k xs d0 in
      let d2 = all_allocated ba.own d1 in
      let d3 = control_forked tl d2 in
      let d4 = steps_laid g.arrays k.steps d3 in
      let d5 = bare_buffered n k.jump d4 in
      let d6 = jump_laid (join_of g) k.jump d5 in
      let w6 : Within net d6 = subst (λ d. Within net (jump_laid (join_of g) k.jump (bare_buffered n k.jump (steps_laid g.arrays k.steps (control_forked tl d))))) (ba.comes d1) ba.laid in
      let sides : SidesAt g gs net (join_of g) k.jump d5 = subst (λ d. SidesAt g gs net (join_of g) k.jump (bare_buffered n k.jump (steps_laid g.arrays k.steps (control_forked tl d)))) (ba.comes d1) ba.sides in
      let x36 : Extends d3 d6 = extends_then d3 d4 d6 (steps_extend d3 g.arrays k.steps) (extends_then d4 d5 d6 (bare_extends d4 n k.jump) (jump_extends d5 (join_of g) k.jump)) in
      let x13 : Extends d1 d3 = extends_then d1 d2 d3 (all_extend ba.own d1) (control_extends d2 tl) in
      let w3 = within_less net d3 d6 x36 w6 in
      let w1 = within_less net d1 d3 x13 w3 in
      let widths : args_of g b ≡ k.args = get_or_from_slice_get (tops_of g) b k.args [] (top_at g.blocks (result_widths g.result) b k found) in
      let many : length e.with ≡ length k.args = at_side.many ∙ ap length (ap (args_of g) goes ∙ widths) in
      let left = block_left g k fine small in
      let t_small = triggers_small late (constants (length k.args) k.steps us) (length k.args) (length k.steps) (handed_on k.jump) (constants_few (length k.args) k.steps us) small in
      let hd = target_head g gs leaves_of b k.args us t d0 ba.head w1 ba.late left.used t_small s a e z given on_edge at_side goes many in
      let queues : d1.queues ≡ d0.queues = (head_headed ins b k.args us t d0).queues in
      let books1 = books_same g gs net k.steps d0 d1 queues ba.books in
      let waits1 : WaitsBut g gs a.own d1 ba.own k.steps =
      (λ x q h. (let i = none_waits_queue net a on_edge.waits q.unit x (depth_from x 16 gs.of) (ports_of x g.blocks gs.of) (groups_from x 0 gs.of) (books1.queue x q h).unit in
      record { serial = i.0; keeps = i.1 ∙ ap (awaits (ports_of x g.blocks gs.of) i.0) (sym (ba.idle x q (subst (λ qs. queue_or (slice_get qs x) ≡ Some q) queues h))) })) in
      let as_many_args : length given ≡ length k.args = given_many (length (map (λ (x : End). Some x.place) e.with)) (length given) (length e.with) (length k.args) on_edge.same (length_ends e.with) many in
      let o1 = hd.comes.there in
      let s3 : Stands net low M d3 = record { within = w3; above = at_most low (next d1) (next d3) o1.stands.above (next_up d1 d3 x13); below = within_next d3 w3 } in
      let fd = front_done g gs leaves_of b k late d1 ba.own fine left small s a given n hd (head_uses (tail_of ins b d0) ins k.args t (record d0 { uses = us; ends = [] })) books1 ba.groups waits1 as_many_args s3 in
      let own_few = at_most (length ba.own) (accesses_in k.steps) (length k.steps) ba.few (accesses_few k.steps) in
      let queues3 : d3.queues ≡ d2.queues = (forked_still tl d2).queues in
      let books3 = books_same g gs net k.steps d2 d3 queues3 (books_groups g gs net ba.own k.steps d1 books1) in
      let up = at_most n (length d1.chans) (length d3.chans) (chans_up d0 d1 (head_extends d0 ins b k.args us t)) (chans_up d1 d3 x13) in
      visit_back k given arrays n (length ba.own) s a d1 d3 fine left small fd own_few books1 books3 w6 sides up as_many_args same_arrays
      (λ x q h. (let t = groups_track ba.own d1 x q h in (t.0, subst (λ qs. queue_or (slice_get qs x) ≡ Some t.0) (sym queues3) t.1, t.2)))
      (λ v f. foreign_same d2 d3 v queues3 (foreign_groups ba.own d1 v f)) on_edge.waits
    where
      length_ends : (xs : List End) → length (map (λ (x : End). Some x.place) xs) ≡ length xs
      length_ends [] = refl
      length_ends (x ∷ xs) = ap suc (length_ends xs)

      given_many : (p v e a : ℕ) → suc p ≡ suc v → p ≡ e → e ≡ a → v ≡ a
      given_many p v e a x y z = omega (arith, x, y, z)

      next_up : (d e : Draft) → Extends d e → next d ≤ next e
      next_up d e x = let q = length-append d.units x.more_units in let u = ap length x.units in omega (arith, q, u)

      within_next : (d : Draft) → Within net d → next d ≤ length net.units
      within_next d w = let l = w.less in omega (arith, l)

      triggers_small : (late : Bool) (c a n h : ℕ) → c ≤ n → 1 + a + n + h ≤ 8000000 → cond late 0 (number c) + a + 2 < 2 ^ 32
      triggers_small true c a n h x y = omega (arith, x, y)
      triggers_small false c a n h x y = omega (arith, x, y)
