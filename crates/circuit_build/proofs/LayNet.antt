-- The front, each block and the return join stand in the built net.
use Rattle.std.proofs.Common.{◌≡◌, ◌⊎◌, ℕ, zero, suc, ◌+◌, ◌-◌, ◌*◌, ◌^◌, ◌<◌, ◌≤◌, List, [], ◌∷◌, ◌++◌, length, get_or, Bool, true, false, Option, Some, None, refl, sym, ap, ◌∙◌, subst, inl, inr, arith, append_assoc, append-nil, length-append}
use Rattle.std.specs.Prelude.{All, slice_get, cond, count_by, ◌==◌}
use Rattle.std.proofs.lemmas.Bool.{cases_eq, cases_lt, eq-eqb}
use Rattle.std.proofs.lemmas.List.Elements.{All-nil, All-cons, All-append, All-contains, Contains-get_or}
use Rattle.std.proofs.lemmas.List.Sums.{sum_by-cons}
use Rattle.std.proofs.lemmas.List.{get_or_append_left, get_or-append-add}
use Rattle.std.proofs.lemmas.Option.{slice_get_within, get_or_from_slice_get}
use Rattle.std.proofs.Math.Seq.{get_or-append_seam}
use Rattle.el_base.specs.declared.ty.Scalar.{Scalar}
use Rattle.ir.specs.declared.graph.Block.{Block}
use Rattle.ir.specs.declared.graph.Jump.{Jump}
use Rattle.ir.specs.declared.graph.Jump.TheVariants.{Go, Two, Return}
use Rattle.ir.specs.declared.groups.Access.{Access}
use Rattle.ir.specs.declared.groups.Groups.{Groups}
use Rattle.ir.specs.Accesses.{block_accesses}
use Rattle.ir.specs.Graphs.{Graph}
use Rattle.net_types.specs.declared.net.Net.{Net}
use Rattle.net_types.specs.declared.net.Unit.{Unit as Kind}
use Rattle.net_types.specs.declared.net.Unit.TheVariants.{Entry, Param, Exit}
use Rattle.net_check.specs.Headers.{is_entry, is_exit, is_param, IsNamed}
use Rattle.circuit_build.specs.Asks.{IsAsked}
use Rattle.circuit_build.specs.Blocks.{tail_of, numbered, ins_of, head_laid, allocations, block_opened, block_worked}
use Rattle.circuit_build.specs.Built.{join_of, front_of, with_blocks, with_join, with_feeders, whole_draft, built}
use Rattle.circuit_build.specs.declared.draft.Draft.{Draft}
use Rattle.circuit_build.specs.declared.draft.Edge.{Edge}
use Rattle.circuit_build.specs.declared.draft.End.{End}
use Rattle.circuit_build.specs.Drafts.{number, next, with_unit, plus}
use Rattle.circuit_build.specs.Edges.{edge_counts}
use Rattle.circuit_build.specs.Endings.{result_widths, ones, all_ended, exited}
use Rattle.circuit_build.specs.Fronts.{started, params_laid, param_ends, entered}
use Rattle.circuit_build.specs.Jumps.{head_end, with_edge, passed_ends, all_gone, result_list, jump_laid}
use Rattle.circuit_build.specs.Steps.{queue_or}
use Rattle.circuit_build.specs.Uses.{uses}
use Rattle.circuit_build.specs.Blocks.{early_triggers}
use Rattle.circuit_build.proofs.Targets.{occurs, tops_of, top_last}
use Rattle.circuit_build.proofs.CountC6.{exited_units}
use Rattle.circuit_build.proofs.CountChain.{ended_units}
use Rattle.circuit_build.proofs.Fields.{head_unit, unit_of, head_headed}
use Rattle.circuit_build.proofs.LayBelow.{EdgeBelow, EdgesBelow, ListBelow, Below, tail_below, worked_below, all_gone_below, gone_list_below, fed_below, front_below}
use Rattle.circuit_build.proofs.LayBlocks.{head_of, inputs_of, args_of, lean_edge, edge_places, gone_edge, yes_edge, no_edge, MergedAt, LeanAt, SideAt, SidesAt, HeadAt, BlockAt, entry_edge, FrontAt, join_head, JoinAt, NetAt}
use Rattle.circuit_build.proofs.LayEdges.{edge_to, edge_many, edges_count, all_heads, merged_at, lean_at}
use Rattle.circuit_build.proofs.LayExtends.{get_front, get_pushed, extends_unit, extends_then, extends_long, within_less, params_extend, entered_front, front_blocks, blocks_feeders, feeders_join, join_whole, head_extends, block_worked_extends, block_extends, all_ended_extends}
use Rattle.circuit_build.proofs.LayGroups.{own_comes, own_few}
use Rattle.circuit_build.proofs.LayHeld.{targets, last_at}
use Rattle.circuit_build.proofs.LayLists.{side_edges, worked_heads, block_heads, block_edges}
use Rattle.circuit_build.proofs.LayMoves.{kept_books, kept_ends, kept_groups, kept_idle}
use Rattle.circuit_build.proofs.LayPlaces.{InRange, out_of_range, gone_outside, parted_range, places_of}
use Rattle.circuit_build.proofs.LayQueues.{QueuesKept, front_whole}
use Rattle.circuit_build.proofs.LaySections.{Extends, AllUsed}
use Rattle.circuit_build.proofs.LayStands.{Past, HeadIn, head_more, head_in, block_after, Found, found, last_stand, front_rows, front_heads, front_edges, whole_small, blocks_few, blocks_whole, feeders_whole, args_are, worked_long, block_long, own_in, blocks_longer, join_unit, join_heads, join_edges, join_tails, heads_are, edges_are}
use Rattle.circuit_build.proofs.LayTails as tails
use Rattle.circuit_build.proofs.LayTails.{tail_is, last_to, last_stays, one_input, stands_as}
use Rattle.circuit_build.proofs.LayUsed.{balanced_fed, balanced_used}
use Rattle.circuit_build.proofs.LayWires.{net_within}
use Rattle.circuit_build.proofs.Served.{headers_met}
use Rattle.circuit_build.proofs.Small.{scalars_few}
use Rattle.circuit_build.proofs.Stages.{Outside}

-- ---- lists

slice_get_add : {X : Type 0} → (xs ys : List X) (n : ℕ) → slice_get (xs ++ ys) (length xs + n) ≡ slice_get ys n
slice_get_add [] ys n = ap (slice_get ys) (let z : 0 + n ≡ n = omega arith in z)
slice_get_add (x ∷ xs) ys n = ap (slice_get (x ∷ (xs ++ ys))) (let z : length (x ∷ xs) + n ≡ suc (length xs + n) = omega arith in z) ∙ slice_get_add xs ys n

-- places of units below another are of no head behind that
below_outside : (m n k : ℕ) (es : List End) → m ≤ n → ListBelow m es → Outside 0 n k (places_of es)
below_outside m n k [] le h = tt
below_outside m n k (e ∷ es) le h = let a = h.0 in (omega arith, inl (omega (arith, a, le)), below_outside m n k es le h.1)

edge_outside : (m n k : ℕ) (e : Edge) → m ≤ n → EdgeBelow m e → Outside 0 n k (edge_places e)
edge_outside m n k e le h = let a = h.0 in (omega arith, inl (omega (arith, a, le)), below_outside m n k e.with le h.1)

-- a unit of a kind that stands once
once_none : (q : Kind → Bool) (ks : List Kind) (j : ℕ) (y : Kind) → slice_get ks j ≡ Some y → q y ≡ true → 1 ≤ count_by q ks
once_none q [] j y e h = absurd (cc)
once_none q (x ∷ ks) zero y e h =
    let same : x ≡ y = cc in
    let s = sum_by-cons (λ k. cond (q k) 1 0) x ks in
    let t : cond (q x) 1 0 ≡ 1 = ap (λ k. cond (q k) 1 0) same ∙ ap {B = ℕ} (λ b. cond b 1 0) h in
    omega (arith, s, t)
once_none q (x ∷ ks) (suc j) y e h = let s = sum_by-cons (λ k. cond (q k) 1 0) x ks in let i = once_none q ks j y e h in omega (arith, s, i)

once : (q : Kind → Bool) (ks : List Kind) (i j : ℕ) (x y : Kind) → count_by q ks ≤ 1 → slice_get ks i ≡ Some x → q x ≡ true → slice_get ks j ≡ Some y → q y ≡ true → i ≡ j
once q [] i j x y c e f g h = absurd (cc)
once q (k ∷ ks) zero zero x y c e f g h = refl
once q (k ∷ ks) zero (suc j) x y c e f g h =
    let same : k ≡ x = cc in
    let s = sum_by-cons (λ k. cond (q k) 1 0) k ks in
    let t : cond (q k) 1 0 ≡ 1 = ap (λ k. cond (q k) 1 0) same ∙ ap {B = ℕ} (λ b. cond b 1 0) f in
    let i = once_none q ks j y g h in
    absurd (omega (arith, s, t, i, c))
once q (k ∷ ks) (suc i) zero x y c e f g h =
    let same : k ≡ y = cc in
    let s = sum_by-cons (λ k. cond (q k) 1 0) k ks in
    let t : cond (q k) 1 0 ≡ 1 = ap (λ k. cond (q k) 1 0) same ∙ ap {B = ℕ} (λ b. cond b 1 0) h in
    let j = once_none q ks i x e f in
    absurd (omega (arith, s, t, j, c))
once q (k ∷ ks) (suc i) (suc j) x y c e f g h = let s = sum_by-cons (λ k. cond (q k) 1 0) k ks in ap suc (once q ks i j x y (omega (arith, s, c)) e f g h)

-- ---- the units and the ends of the scalars

params_unit : (j : ℕ) (ss : List Scalar) (d : Draft) (n i : ℕ) → length d.units ≡ n → j + length ss < 2 ^ 32 → i < length ss → slice_get (params_laid j ss d).units (n + i) ≡ Some (Param (j + i))
params_unit j [] d n i l few lt = absurd (omega (arith, lt))
params_unit j (s ∷ ss) d n zero l few lt =
    let e = with_unit (Param j) d in
    let own : slice_get e.units (length d.units) ≡ Some (Param j) = get_pushed d.units [] (Param j) in
    ap (slice_get (params_laid (plus j 1) ss e).units) (let z : n + 0 ≡ length d.units = omega (arith, l) in z) ∙ extends_unit e (params_laid (plus j 1) ss e) (length d.units) (Param j) (params_extend e (plus j 1) ss) own ∙ ap (λ m. Some (Param m)) (let z : j ≡ j + 0 = omega arith in z)
params_unit j (s ∷ ss) d n (suc i) l few lt =
    let e = with_unit (Param j) d in
    let m = length-append d.units (Param j ∷ []) in
    let p : plus j 1 ≡ j + 1 = omega (arith, few) in
    ap (slice_get (params_laid (plus j 1) ss e).units) (let z : n + suc i ≡ suc n + i = omega arith in z) ∙ params_unit (plus j 1) ss e (suc n) i (omega (arith, m, l)) (omega (arith, few, p)) (omega (arith, lt)) ∙ ap (λ m. Some (Param m)) (let z : plus j 1 + i ≡ j + suc i = omega (arith, p) in z)

queues_moved : (g : Graph) (gs : Groups) (ks : List Block) (xs : List Access) (d e : Draft) → e.queues ≡ d.queues → QueuesKept g gs ks xs d → QueuesKept g gs ks xs e
queues_moved g gs ks xs d e s h = record {
  queue = λ a q x. h.queue a q (ap (λ qs. queue_or (slice_get qs a)) (sym s) ∙ x);
  none = λ a x f. h.none a (ap (λ qs. queue_or (slice_get qs a)) (sym s) ∙ x) f;
}

module _ (g : Graph) (gs : Groups) (ask : IsAsked g gs) where
  -- ---- heads

  join_is : join_of g ≡ length g.blocks
  join_is = let f = blocks_few g gs ask in omega (arith, f)

  fed_small : length (with_feeders g gs).units + 1 < 2 ^ 32
  fed_small =
      let x = all_ended (join_head g gs).queues (join_head g gs) in
      let e = ap (λ (us : List Kind). length us) (exited_units g.result x) in
      let m = length-append x.units (Exit ∷ []) in
      let a = extends_long (with_feeders g gs) (join_head g gs) (head_long (with_feeders g gs)) in
      let b = extends_long (join_head g gs) x (all_ended_extends (join_head g gs) (join_head g gs).queues) in
      let l = extends_long (with_join g gs) (whole_draft g gs) (join_whole g gs) in
      let s = whole_small g gs ask in
      omega (arith, e, m, a, b, l, s)
    where
      head_long : (d : Draft) → Extends d (head_laid (inputs_of g (join_of g)) (join_of g) (result_widths g.result) (ones (result_widths g.result)) 0 d)
      head_long d = head_extends d (inputs_of g (join_of g)) (join_of g) (result_widths g.result) (ones (result_widths g.result)) 0

  join_small : length (join_head g gs).units + 1 < 2 ^ 32
  join_small =
      let x = all_ended (join_head g gs).queues (join_head g gs) in
      let e = ap (λ (us : List Kind). length us) (exited_units g.result x) in
      let m = length-append x.units (Exit ∷ []) in
      let b = extends_long (join_head g gs) x (all_ended_extends (join_head g gs) (join_head g gs).queues) in
      let l = extends_long (with_join g gs) (whole_draft g gs) (join_whole g gs) in
      let s = whole_small g gs ask in
      omega (arith, e, m, b, l, s)

  last_small : length (with_blocks g gs).units + 1 < 2 ^ 32
  last_small = let l = extends_long (with_blocks g gs) (with_feeders g gs) (blocks_feeders g gs) in let s = fed_small in omega (arith, l, s)

  fed_places : Below (with_feeders g gs)
  fed_places = fed_below g gs (last_stand g gs ask).places

  fed_tails : tails.Stands (targets g) (with_feeders g gs)
  fed_tails =
      let st = (last_stand g gs ask).held in
      let f = st.few in
      let b = ask.small.blocks in
      (blocks_longer g gs).tails (targets g) (omega (arith, f, b)) st.tails

  joined_tails : tails.Stands (targets g) (with_join g gs)
  joined_tails = stands_as (targets g) (with_feeders g gs) (with_join g gs) (join_edges g gs) (join_tails g gs) fed_tails

  -- the head of the return join is the last
  join_head_at : head_of g gs (length g.blocks) ≡ join_unit g gs
  join_head_at =
      let w = with_blocks g gs in
      let u = join_unit g gs in
      let t = (last_stand g gs ask).tall in
      ap (λ hs. get_or hs (length g.blocks) 0) (heads_are g gs) ∙ ap (λ n. get_or (w.heads ++ u ∷ []) n 0) (sym t) ∙ get_or-append_seam w.heads u [] 0

  join_args : args_of g (length g.blocks) ≡ result_widths g.result
  join_args = get_or_from_slice_get (tops_of g) (length g.blocks) (result_widths g.result) [] (top_last g.blocks (result_widths g.result) (length g.blocks) refl)

  join_in : HeadIn (inputs_of g (join_of g)) (length (result_widths g.result)) (length (join_head g gs).units) (join_unit g gs)
  join_in = let s = join_small in head_in (inputs_of g (join_of g)) (join_of g) (result_widths g.result) (ones (result_widths g.result)) 0 (with_feeders g gs) fed_places.some (omega (arith, s))

  -- each head stands, with one unit behind it at least
  head_at : (t : ℕ) → t < suc (length g.blocks) → HeadIn (inputs_of g t) (length (args_of g t)) (2 ^ 32 - 2) (head_of g gs t)
  head_at t lt =
      let w = with_blocks g gs in
      let st = last_stand g gs ask in
      elim (cases_lt t (length g.blocks)) [
        | inl x ↦
            (let tall = st.tall in
            let e : head_of g gs t ≡ get_or w.heads t 0 = ap (λ hs. get_or hs t 0) (heads_are g gs) ∙ get_or_append_left w.heads (join_unit g gs ∷ []) 0 t (omega (arith, x, tall)) in
            let s = last_small in
            subst (HeadIn (inputs_of g t) (length (args_of g t)) (2 ^ 32 - 2)) (sym e) (head_more (inputs_of g t) (length (args_of g t)) (length w.units) (2 ^ 32 - 2) (get_or w.heads t 0) (omega (arith, s)) (st.below t x)))
        | inr x ↦
            (let same : t ≡ length g.blocks = omega (arith, x, lt) in
            let s = join_small in
            let j : join_of g ≡ t = join_is ∙ sym same in
            let h : head_of g gs t ≡ join_unit g gs = ap (head_of g gs) same ∙ join_head_at in
            let a : args_of g t ≡ result_widths g.result = ap (args_of g) same ∙ join_args in
            let r = head_more (inputs_of g (join_of g)) (length (result_widths g.result)) (length (join_head g gs).units) (2 ^ 32 - 2) (join_unit g gs) (omega (arith, s)) join_in in
            subst (HeadIn (inputs_of g t) (length (args_of g t)) (2 ^ 32 - 2)) (sym h)
            (subst (λ ws. HeadIn (inputs_of g t) (length ws) (2 ^ 32 - 2) (join_unit g gs)) (sym a)
            (subst (λ i. HeadIn (inputs_of g i) (length (result_widths g.result)) (2 ^ 32 - 2) (join_unit g gs)) j r)))
      ]

  -- a merge and its arguments have room, and a target without one has one edge
  head_room : (t u : ℕ) → t < suc (length g.blocks) → head_of g gs t ≡ suc u → suc u + 2 + length (args_of g t) < 2 ^ 32
  head_room t u lt e = by (length (args_of g t)) (head_at t lt)
    where
      by : (n : ℕ) → HeadIn (inputs_of g t) n (2 ^ 32 - 2) (head_of g gs t) → suc u + 2 + n < 2 ^ 32
      by zero (inl x) = let a = x.1 in omega (arith, a, e)
      by (suc n) (inl x) = let a = x.1 in omega (arith, a, e)
      by n (inr x) = let a = x.0 in absurd (omega (arith, a, e))

  head_one : (t : ℕ) → t < suc (length g.blocks) → head_of g gs t ≡ 0 → inputs_of g t ≡ 1
  head_one t lt e = by (head_at t lt)
    where
      by : HeadIn (inputs_of g t) (length (args_of g t)) (2 ^ 32 - 2) (head_of g gs t) → inputs_of g t ≡ 1
      by (inl x) = let a = x.0 in absurd (omega (arith, a, e))
      by (inr x) = x.1

  -- an edge of the list of all, whose ends are of no unit of the head of its target
  side_at : (i : ℕ) (e : Edge) → slice_get (with_join g gs).edges i ≡ Some e → (0 < head_of g gs e.to → Outside 0 (head_of g gs e.to) (head_end (head_of g gs e.to) (length (args_of g e.to))) (edge_places e)) → SideAt g gs (built g gs) e
  side_at i e s out = record { many = edge_many g gs ask i e s; ends_at = by (head_of g gs e.to) refl }
    where
      by : (h : ℕ) → head_of g gs e.to ≡ h → MergedAt g gs (built g gs) e ⊎ LeanAt g gs e
      by zero z = inr (lean_at g gs ask joined_tails i e s z (head_one e.to (edge_to g gs ask i e s) z))
      by (suc u) z =
          inl (merged_at g gs ask i e s u z (head_room e.to u (edge_to g gs ask i e s) z)
          (subst (λ m. Outside 0 (head_of g gs e.to) (head_end (head_of g gs e.to) m) (edge_places e)) (sym (edge_many g gs ask i e s)) (out (omega (arith, z)))))

  -- the head of a target that is laid where the draft stands
  tail_only : (t : ℕ) (d : Draft) (more : List Edge) (e : Edge) → t < suc (length g.blocks) → tails.Stands (targets g) d → (with_join g gs).edges ≡ d.edges ++ more → tail_of (inputs_of g t) t d ≡ Some e → lean_edge g gs t ≡ Some e
  tail_only t d more e lt st split h =
      let all = (with_join g gs).edges in
      let one : inputs_of g t ≡ 1 = one_input (inputs_of g t) (numbered (get_or d.tails t 0) d.edges) e h in
      let true_is : (inputs_of g t == 1) ≡ true = eq-eqb (inputs_of g t) 1 one in
      let own : last_to t d.edges ≡ Some e = sym (tail_is (targets g) (inputs_of g t) t d lt st ∙ ap (λ b. cond b (last_to t d.edges) None) true_is) ∙ h in
      let count : occurs t (d.edges ++ more) ≡ 1 = ap (occurs t) (sym split) ∙ edges_count g gs ask t lt ∙ one in
      tail_is (targets g) (inputs_of g t) t (with_join g gs) lt joined_tails
      ∙ ap (λ b. cond b (last_to t all) None) true_is
      ∙ ap (last_to t) split
      ∙ last_stays t d.edges more e own count

  head_stands : (t : ℕ) (d : Draft) (more : List Edge) → t < suc (length g.blocks) → Below d → length d.units < 2 ^ 32 → tails.Stands (targets g) d → ((i : ℕ) (e : Edge) → slice_get d.edges i ≡ Some e → e.to ≡ t → AllUsed (length (front_of g gs).units) d.queues (edge_places e))
      → (with_join g gs).edges ≡ d.edges ++ more → head_of g gs t ≡ head_unit (inputs_of g t) t d → HeadAt g gs t d
  head_stands t d more lt h few st used split own = by (tail_of (inputs_of g t) t d) refl own
    where
      of_last : (b : Bool) (x : Edge) → cond b (last_to t d.edges) None ≡ Some x → AllUsed (length (front_of g gs).units) d.queues (edge_places x)
      of_last true x e = let r = last_at t d.edges x e in used r.1 x r.2 r.0
      of_last false x e = absurd (cc)

      by : (o : Option Edge) → tail_of (inputs_of g t) t d ≡ o → head_of g gs t ≡ unit_of o d → HeadAt g gs t d
      by None e u = let a = h.some in inl (record { tail = e; unit = u; late = omega (arith, a, few) })
      by (Some x) e u =
          let b = tail_below (length d.units) (inputs_of g t == 1) (get_or d.tails t 0) d.edges x e h.edges in
          inr (record { edge = x; tail = e; only = tail_only t d more x lt st split e; none = u; below = λ m. edge_outside (length d.units) (next d) m x (omega (arith, few)) b; used = of_last (inputs_of g t == 1) x (sym (tail_is (targets g) (inputs_of g t) t d lt st) ∙ e) })

  -- ---- a block

  module _ (b : ℕ) (k : Block) (here : slice_get g.blocks b ≡ Some k) (f : Found g gs ask b k) where
    abbrev before : Draft
    before = f.before

    abbrev ins : ℕ
    ins = ins_of (edge_counts g.blocks) b

    abbrev block_end : Draft
    block_end = block_after g gs b k f.accesses before

    abbrev steps_end : Draft
    steps_end = block_worked g.arrays ins b k f.accesses before

    abbrev later_heads : List ℕ
    later_heads = f.rows.more_heads ++ join_unit g gs ∷ []

    split_heads : (with_join g gs).heads ≡ before.heads ++ head_unit ins b before ∷ later_heads
    split_heads =
        let u = join_unit g gs in
        let x = block_heads g.arrays (join_of g) ins b k f.accesses before in
        heads_are g gs
        ∙ ap (λ hs. hs ++ u ∷ []) (f.rows.heads ∙ ap (λ hs. hs ++ f.rows.more_heads) x)
        ∙ append_assoc (before.heads ++ head_unit ins b before ∷ []) f.rows.more_heads (u ∷ [])
        ∙ append_assoc before.heads (head_unit ins b before ∷ []) later_heads

    own_head : head_of g gs b ≡ head_unit ins b before
    own_head =
        let u = head_unit ins b before in
        ap (λ hs. get_or hs b 0) split_heads ∙ ap (λ n. get_or (before.heads ++ u ∷ later_heads) n 0) (sym f.stand.tall) ∙ get_or-append_seam before.heads u later_heads 0

    block_small : length block_end.units < 2 ^ 32
    block_small = let l = extends_long block_end (with_blocks g gs) f.later in let s = last_small in omega (arith, l, s)

    b_less : b < suc (length g.blocks)
    b_less = let l = slice_get_within g.blocks b k here in omega (arith, l)

    -- the heads that are laid when the jump is: those of the targets to b
    heads_so_far : (t : ℕ) → t ≤ b → get_or steps_end.heads t 0 ≡ head_of g gs t
    heads_so_far t le =
        let u = head_unit ins b before in
        let x = worked_heads g.arrays (join_of g) ins b k f.accesses before in
        let l = length-append before.heads (u ∷ []) in
        let tall = f.stand.tall in
        let split : (with_join g gs).heads ≡ (before.heads ++ u ∷ []) ++ later_heads = split_heads ∙ sym (append_assoc before.heads (u ∷ []) later_heads) in
        ap (λ hs. get_or hs t 0) x ∙ sym (ap (λ hs. get_or hs t 0) split ∙ get_or_append_left (before.heads ++ u ∷ []) later_heads 0 t (omega (arith, l, le, tall)))

    head_before : (t : ℕ) → t ≤ b → HeadIn (inputs_of g t) (length (args_of g t)) (length steps_end.units) (head_of g gs t)
    head_before t le =
        let bl = block_small in
        let wl = worked_long g gs b k f.accesses before in
        let long = extends_long before steps_end (block_worked_extends before g.arrays ins b k f.accesses) in
        elim (cases_lt t b) [
          | inl x ↦
              (let ys = head_unit ins b before ∷ later_heads in
              let tall = f.stand.tall in
              let e : head_of g gs t ≡ get_or before.heads t 0 = ap (λ hs. get_or hs t 0) split_heads ∙ get_or_append_left before.heads ys 0 t (omega (arith, x, tall)) in
              subst (HeadIn (inputs_of g t) (length (args_of g t)) (length steps_end.units)) (sym e)
              (head_more (inputs_of g t) (length (args_of g t)) (length before.units) (length steps_end.units) (get_or before.heads t 0) long (f.stand.below t x)))
          | inr x ↦
              (let same : b ≡ t = omega (arith, x, le) in
              let own = own_in g gs b k f.accesses before here f.stand.places.some bl in
              subst (λ v. HeadIn (inputs_of g v) (length (args_of g v)) (length steps_end.units) (head_of g gs v)) same
              (subst (HeadIn (inputs_of g b) (length (args_of g b)) (length steps_end.units)) (sym own_head) own))
        ]

    -- a later head stands behind the block
    head_after : (t : ℕ) → b < t → t < suc (length g.blocks) → 0 < head_of g gs t → length block_end.units ≤ head_of g gs t
    head_after t past lt some =
        let tall = f.stand.tall in
        let own = head_unit ins b before in
        let m : ℕ = t - suc b in
        let at_m : t ≡ length before.heads + suc m = omega (arith, past, tall) in
        let e : head_of g gs t ≡ get_or later_heads m 0 = ap (λ hs. get_or hs t 0) split_heads ∙ ap (λ n. get_or (before.heads ++ own ∷ later_heads) n 0) at_m ∙ get_or-append-add before.heads (own ∷ later_heads) (suc m) 0 in
        let l = ap (λ (hs : List ℕ). length hs) split_heads in
        let l2 = length-append before.heads (own ∷ later_heads) in
        let all = all_heads g gs ask in
        let n = length block_end.units in
        let le = extends_long block_end (with_blocks g gs) f.later in
        let lf = extends_long (with_blocks g gs) (with_feeders g gs) (blocks_feeders g gs) in
        let join_past : Past n (join_unit g gs) = past_join (tail_of (inputs_of g (join_of g)) (join_of g) (with_feeders g gs)) n (omega (arith, le, lf)) in
        let above : All (Past n) later_heads = All-append (Past n) f.rows.more_heads (join_unit g gs ∷ []) f.rows.above (All-cons (Past n) (join_unit g gs) [] join_past (All-nil (Past n))) in
        let r = All-contains (Past n) later_heads (get_or later_heads m 0) above (Contains-get_or later_heads m 0 (omega (arith, at_m, l, l2, all, lt))) in
        of_past n (head_of g gs t) some (subst (Past n) (sym e) r)
      where
        past_join : (o : Option Edge) (n : ℕ) → n ≤ length (with_feeders g gs).units → Past n (unit_of o (with_feeders g gs))
        past_join None n le = let s = fed_small in inr (omega (arith, le, s))
        past_join (Some x) n le = inl refl

        of_past : (n h : ℕ) → 0 < h → Past n h → n ≤ h
        of_past n h some (inl z) = absurd (omega (arith, z, some))
        of_past n h some (inr l) = l

    -- ---- the sides of the jump

    split_edges : (with_join g gs).edges ≡ before.edges ++ (side_edges (join_of g) k.jump steps_end ++ (f.rows.more_edges ++ (blocks_longer g gs).more))
    split_edges =
        let es = side_edges (join_of g) k.jump steps_end in
        let x = block_edges g.arrays (join_of g) ins b k f.accesses before in
        edges_are g gs
        ∙ ap (λ xs. xs ++ (blocks_longer g gs).more) (f.rows.edges ∙ ap (λ xs. xs ++ f.rows.more_edges) x)
        ∙ append_assoc (before.edges ++ es) f.rows.more_edges (blocks_longer g gs).more
        ∙ append_assoc before.edges es (f.rows.more_edges ++ (blocks_longer g gs).more)

    stands_in : (n : ℕ) (e : Edge) → slice_get (side_edges (join_of g) k.jump steps_end) n ≡ Some e → slice_get (with_join g gs).edges (length before.edges + n) ≡ Some e
    stands_in n e s =
        let es = side_edges (join_of g) k.jump steps_end in
        let more = f.rows.more_edges ++ (blocks_longer g gs).more in
        ap (λ xs. slice_get xs (length before.edges + n)) split_edges ∙ slice_get_add before.edges (es ++ more) n ∙ get_front es more n e s

    worked_places : Below steps_end
    worked_places = worked_below g.arrays ins b k f.accesses before f.stand.places

    -- an edge of a jump to one target
    gone_side : (to : ℕ) (vs : List ℕ) → jump_laid (join_of g) k.jump steps_end ≡ with_edge to (all_gone to vs steps_end).control (passed_ends (get_or steps_end.heads to 0) (number (length vs)) vs steps_end) (all_gone to vs steps_end) → side_edges (join_of g) k.jump steps_end ≡ gone_edge to vs steps_end ∷ []
        → SideAt g gs (built g gs) (gone_edge to vs steps_end)
    gone_side to vs laid sides =
        let e = gone_edge to vs steps_end in
        let i = length before.edges + 0 in
        let s = stands_in 0 e (ap (λ es. slice_get es 0) sides) in
        let lt = edge_to g gs ask i e s in
        side_at i e s (λ some. elim (cases_lt b to) [
          | inl later ↦
              (let le = head_after to later lt some in
              let x = all_gone to vs steps_end in
              let l : length x.units ≤ length block_end.units = gone_less to vs laid in
              edge_outside (length x.units) (head_of g gs to) (head_end (head_of g gs to) (length (args_of g to))) e (omega (arith, l, le)) ((all_gone_below to vs steps_end worked_places).control, gone_list_below to vs steps_end worked_places))
          | inr early ↦ laid_side to vs laid i s lt some (omega (arith, early))
        ])
      where
        gone_less : (to : ℕ) (vs : List ℕ) → jump_laid (join_of g) k.jump steps_end ≡ with_edge to (all_gone to vs steps_end).control (passed_ends (get_or steps_end.heads to 0) (number (length vs)) vs steps_end) (all_gone to vs steps_end) → length (all_gone to vs steps_end).units ≤ length block_end.units
        gone_less to vs e = let a = ap (λ (d : Draft). length d.units) e in omega (arith, a)

        passed_many : (m n : ℕ) (vs : List ℕ) (d : Draft) → length (passed_ends m n vs d) ≡ length vs
        passed_many m n [] d = refl
        passed_many m n (v ∷ vs) d = ap suc (passed_many m n vs _)

        laid_side : (to : ℕ) (vs : List ℕ) → jump_laid (join_of g) k.jump steps_end ≡ with_edge to (all_gone to vs steps_end).control (passed_ends (get_or steps_end.heads to 0) (number (length vs)) vs steps_end) (all_gone to vs steps_end)
            → (i : ℕ) → slice_get (with_join g gs).edges i ≡ Some (gone_edge to vs steps_end) → to < suc (length g.blocks) → 0 < head_of g gs to → to ≤ b
            → Outside 0 (head_of g gs to) (head_end (head_of g gs to) (length (args_of g to))) (edge_places (gone_edge to vs steps_end))
        laid_side to vs laid i s lt some le =
            let e = gone_edge to vs steps_end in
            let so = heads_so_far to le in
            let many = edge_many g gs ask i e s in
            let n = passed_many (get_or steps_end.heads to 0) (number (length vs)) vs steps_end in
            let small = block_small in
            let gl = gone_less to vs laid in
            let as_many : number (length vs) ≡ length (args_of g to) = of_room (length vs) (length (args_of g to)) (head_of g gs to) (omega (arith, n, many)) some (λ u z. head_room to u lt z) in
            let in_head : head_end (head_of g gs to) (length (args_of g to)) ≤ length steps_end.units = of_in (inputs_of g to) (length (args_of g to)) (length steps_end.units) (head_of g gs to) (head_before to le) some in
            let same : head_end (get_or steps_end.heads to 0) (number (length vs)) ≡ head_end (head_of g gs to) (length (args_of g to)) = ap (λ h. head_end h (number (length vs))) so ∙ ap (head_end (head_of g gs to)) as_many in
            let out = gone_outside to vs steps_end (omega (arith, so, some)) (omega (arith, same, in_head)) (omega (arith, gl, small)) in
            subst (λ h. Outside 0 h (head_end h (length (args_of g to))) (edge_places e)) so (subst (λ m. Outside 0 (get_or steps_end.heads to 0) (head_end (get_or steps_end.heads to 0) m) (edge_places e)) as_many out)
          where
            of_room : (n m h : ℕ) → n ≡ m → 0 < h → ((u : ℕ) → h ≡ suc u → suc u + 2 + m < 2 ^ 32) → number n ≡ m
            of_room n m zero e some r = absurd (omega (arith, some))
            of_room n m (suc u) e some r = let a = r u refl in omega (arith, e, a)

            of_in : (ins args n h : ℕ) → HeadIn ins args n h → 0 < h → head_end h args ≤ n
            of_in ins args n h (inl x) some = x.1
            of_in ins args n h (inr x) some = let a = x.0 in absurd (omega (arith, a, some))

    -- a target's head is before the jump or behind it
    head_apart : (t : ℕ) → t < suc (length g.blocks) → 0 < head_of g gs t → (head_end (head_of g gs t) (length (args_of g t)) ≤ length steps_end.units) ⊎ (length block_end.units ≤ head_of g gs t)
    head_apart t lt some = elim (cases_lt b t) [
      | inl later ↦ inr (head_after t later lt some)
      | inr early ↦ inl (of_in (head_before t (omega (arith, early))))
    ]
      where
        of_in : HeadIn (inputs_of g t) (length (args_of g t)) (length steps_end.units) (head_of g gs t) → head_end (head_of g gs t) (length (args_of g t)) ≤ length steps_end.units
        of_in (inl x) = x.1
        of_in (inr x) = let a = x.0 in absurd (omega (arith, a, some))

    range_side : (n : ℕ) (e : Edge) → slice_get (side_edges (join_of g) k.jump steps_end) n ≡ Some e → InRange (length steps_end.units) (length block_end.units) (edge_places e) → SideAt g gs (built g gs) e
    range_side n e s range =
        let i = length before.edges + n in
        let stands = stands_in n e s in
        let lt = edge_to g gs ask i e stands in
        side_at i e stands (λ some. out_of_range (length steps_end.units) (length block_end.units) (head_of g gs e.to) (head_end (head_of g gs e.to) (length (args_of g e.to))) (edge_places e) some (head_apart e.to lt some) range)

    all_sides : (j : Jump) → k.jump ≡ j → SidesAt g gs (built g gs) (join_of g) j steps_end
    all_sides (Go to) e = gone_side to.block to.with (ap (λ j. jump_laid (join_of g) j steps_end) e) (ap (λ j. side_edges (join_of g) j steps_end) e)
    all_sides (Two c x y) e =
        let small = block_small in
        let l : length (jump_laid (join_of g) k.jump steps_end).units ≡ length (jump_laid (join_of g) (Two c x y) steps_end).units = ap (λ j. length (jump_laid (join_of g) j steps_end).units) e in
        let r = parted_range (length steps_end.units) (length block_end.units) c x y steps_end (omega arith) (omega (arith, l)) small in
        (range_side 0 (yes_edge c x y steps_end) (ap (λ j. slice_get (side_edges (join_of g) j steps_end) 0) e) r.yes, range_side 1 (no_edge c x y steps_end) (ap (λ j. slice_get (side_edges (join_of g) j steps_end) 1) e) r.no)
    all_sides (Return v) e = gone_side (join_of g) (result_list v) (ap (λ j. jump_laid (join_of g) j steps_end) e) (ap (λ j. side_edges (join_of g) j steps_end) e)

    pub found_at : BlockAt g gs (built g gs) b k
    found_at =
        let d = before in
        let h = block_opened ins b k f.accesses d in
        let books = queues_moved g gs (k ∷ f.rest) f.accesses d h (head_headed ins b k.args (uses k) (early_triggers b k f.accesses) d).queues f.stand.books in
        let small = block_small in
        let long = extends_long d block_end (block_extends d g.arrays (join_of g) ins b k f.accesses) in
        record {
          before = d;
          accesses = f.accesses;
          laid = within_less (built g gs) block_end (whole_draft g gs) (extends_then block_end (with_blocks g gs) (whole_draft g gs) f.later (blocks_whole g gs ask)) (net_within g gs ask);
          head = head_stands b d _ b_less f.stand.places (omega (arith, small, long)) f.stand.held.tails (balanced_used g gs ask b (k ∷ f.rest) f.accesses d (omega (arith, small, long)) f.stand.balance f.stand.books) split_edges own_head;
          late = f.stand.late;
          books = kept_books g gs ask b k f.rest f.accesses d here f.stand.books;
          own = block_accesses b k.steps 0 gs.read_only;
          comes = λ e. ap (λ xs. allocations b xs e) f.stand.list ∙ own_comes b gs.read_only k f.rest e;
          few = own_few b k.steps gs.read_only;
          groups = kept_groups g gs ask b k f.rest f.accesses h f.stand.list books;
          idle = kept_idle g gs ask b k f.rest f.accesses d f.stand.books;
          sides = all_sides k.jump refl;
        }

  -- ---- the front

  entered_whole : Extends (entered g.scalars (started (length g.blocks + 1))) (whole_draft g gs)
  entered_whole = extends_then (entered g.scalars (started (length g.blocks + 1))) (front_of g gs) (whole_draft g gs) (entered_front g gs) (front_whole g gs)

  scalars_least : length g.scalars + 1 < 2 ^ 32
  scalars_least = let s = scalars_few g ask.graph in let b = ask.small.bounded in omega (arith, s, b)

  entry_side : SideAt g gs (built g gs) (entry_edge g)
  entry_side =
      let r = front_rows g gs ask in
      let f = front_of g gs in
      let w = with_blocks g gs in
      let e = entry_edge g in
      let ys = r.more_heads ++ join_unit g gs ∷ [] in
      let more = r.more_edges ++ (blocks_longer g gs).more in
      let split : (with_join g gs).edges ≡ entry_edge g ∷ more = edges_are g gs ∙ ap (λ xs. xs ++ (blocks_longer g gs).more) (r.edges ∙ ap (λ xs. xs ++ r.more_edges) (front_edges g gs ask)) in
      let stands : slice_get (with_join g gs).edges 0 ≡ Some e = ap (λ xs. slice_get xs 0) split in
      let to = edge_to g gs ask 0 e stands in
      let heads : (with_join g gs).heads ≡ ys = heads_are g gs ∙ ap (λ hs. hs ++ join_unit g gs ∷ []) (r.heads ∙ ap (λ hs. hs ++ r.more_heads) (front_heads g gs ask)) in
      let le = extends_long f w (front_blocks g gs) in
      let lf = extends_long w (with_feeders g gs) (blocks_feeders g gs) in
      let all = all_heads g gs ask in
      let l = ap (λ (hs : List ℕ). length hs) heads in
      let n = length f.units in
      let above : All (Past n) ys = All-append (Past n) r.more_heads (join_unit g gs ∷ []) r.above (All-cons (Past n) (join_unit g gs) [] (past_join (tail_of (inputs_of g (join_of g)) (join_of g) (with_feeders g gs)) n (omega (arith, le, lf))) (All-nil (Past n))) in
      let c = All-contains (Past n) ys (get_or ys 0 0) above (Contains-get_or ys 0 0 (omega (arith, l, all))) in
      let h : head_of g gs 0 ≡ get_or ys 0 0 = ap (λ hs. get_or hs 0 0) heads in
      let below : EdgeBelow n e = (subst (EdgesBelow n) (front_edges g gs ask) (front_below g gs).edges).0 in
      side_at 0 e stands (λ some. edge_outside n (head_of g gs 0) (head_end (head_of g gs 0) (length (args_of g 0))) e (of_past n (head_of g gs 0) some (subst (Past n) (sym h) c)) below)
    where
      past_join : (o : Option Edge) (n : ℕ) → n ≤ length (with_feeders g gs).units → Past n (unit_of o (with_feeders g gs))
      past_join None n le = let s = fed_small in inr (omega (arith, le, s))
      past_join (Some x) n le = inl refl

      of_past : (n h : ℕ) → 0 < h → Past n h → n ≤ h
      of_past n h some (inl z) = absurd (omega (arith, z, some))
      of_past n h some (inr l) = l

  entry_unit : slice_get (built g gs).units 0 ≡ Some Entry
  entry_unit = extends_unit (entered g.scalars (started (length g.blocks + 1))) (whole_draft g gs) 0 Entry entered_whole (extends_unit (started (length g.blocks + 1)) (params_laid 0 g.scalars (started (length g.blocks + 1))) 0 Entry (params_extend (started (length g.blocks + 1)) 0 g.scalars) refl)

  param_unit : (j : ℕ) → j < length g.scalars → slice_get (built g gs).units (1 + j) ≡ Some (Param j)
  param_unit j lt =
      let s = scalars_least in
      let x = params_unit 0 g.scalars (started (length g.blocks + 1)) 1 j refl (omega (arith, s)) lt in
      extends_unit (entered g.scalars (started (length g.blocks + 1))) (whole_draft g gs) (1 + j) (Param j) entered_whole (x ∙ ap (λ m. Some (Param m)) (let z : 0 + j ≡ j = omega arith in z))

  front_stands : FrontAt g gs (built g gs)
  front_stands =
      let met = headers_met g gs ask in
      let us = (built g gs).units in
      record {
        laid = within_less (built g gs) (entered g.scalars (started (length g.blocks + 1))) (whole_draft g gs) entered_whole (net_within g gs ask);
        side = entry_side;
        few = scalars_least;
        entries = λ u e. once is_entry us u 0 Entry Entry (let c = met.one_entry in omega (arith, c)) e refl entry_unit refl;
        params = λ u j e.
            (let lt : j < length g.scalars = All-contains (IsNamed (built g gs)) us (Param j) met.named (u, slice_get_within us u (Param j) e, get_or_from_slice_get us u (Param j) (Param j) e) in
            let own = eq-eqb j j refl in
            (once (is_param j) us u (1 + j) (Param j) (Param j) (let c = met.one_param j lt in omega (arith, c)) e own (param_unit j lt) own, lt));
      }

  -- ---- the return join

  join_stands : JoinAt g gs (built g gs)
  join_stands =
      let met = headers_met g gs ask in
      let us = (built g gs).units in
      let st = last_stand g gs ask in
      let w = with_feeders g gs in
      let h = join_head g gs in
      let x = all_ended h.queues h in
      let same : h.queues ≡ (with_blocks g gs).queues = (head_headed (inputs_of g (join_of g)) (join_of g) (result_widths g.result) (ones (result_widths g.result)) 0 w).queues ∙ (blocks_longer g gs).queues in
      let long = extends_long (with_join g gs) (whole_draft g gs) (join_whole g gs) in
      let small = whole_small g gs ask in
      let m = ap (λ (us : List Kind). length us) (exited_units g.result x) in
      let m2 = length-append x.units (Exit ∷ []) in
      let n : next x ≡ length x.units = omega (arith, long, small, m, m2) in
      let own : slice_get (with_join g gs).units (next x) ≡ Some Exit = ap (slice_get (with_join g gs).units) n ∙ ap (λ us. slice_get us (length x.units)) (exited_units g.result x) ∙ get_pushed x.units [] Exit in
      let unit : slice_get us (next x) ≡ Some Exit = extends_unit (with_join g gs) (whole_draft g gs) (next x) Exit (join_whole g gs) own in
      let late = st.late in
      let lf = extends_long (with_blocks g gs) w (blocks_feeders g gs) in
      let fs = fed_small in
      let books = queues_moved g gs [] [] (with_blocks g gs) w (blocks_longer g gs).queues st.books in
      let used : (i : ℕ) (e : Edge) → slice_get w.edges i ≡ Some e → e.to ≡ join_of g → AllUsed (length (front_of g gs).units) w.queues (edge_places e) =
      (λ i e t to. balanced_used g gs ask (length g.blocks) [] [] w (omega (arith, fs)) (balanced_fed g gs ask) books i e t (to ∙ join_is)) in
      record {
        laid = within_less (built g gs) (with_join g gs) (whole_draft g gs) (join_whole g gs) (net_within g gs ask);
        head = head_stands (join_of g) w [] (let j = join_is in omega (arith, j)) fed_places (omega (arith, fs)) fed_tails used (join_edges g gs ∙ sym (append-nil w.edges)) (ap (head_of g gs) join_is ∙ join_head_at);
        late = omega (arith, late, lf);
        queues = kept_ends g gs ask 0 h.queues (λ a i q e s. st.books.queue a q (ap queue_or (ap (λ qs. slice_get qs a) (sym same) ∙ ap (slice_get h.queues) (let z : a ≡ i = omega (arith, e) in z) ∙ s)));
        exits = λ u e. once is_exit us u (next x) Exit Exit (let c = met.one_exit in omega (arith, c)) e refl unit refl;
      }

  pub net_at : NetAt g gs (built g gs)
  net_at = record { front = front_stands; blocks = λ b k e. found_at b k e (found g gs ask b k e); join = join_stands }
