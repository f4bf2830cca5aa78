-- What each unit and each channel that is laid keeps, the whole construction keeps.
use Rattle.std.proofs.Common.{◌≡◌, ℕ, zero, suc, ◌+◌, List, [], ◌∷◌, ◌++◌, length, get_or, refl, sym, ◌∙◌, subst, arith, Bool, true, false}
use Rattle.std.specs.Prelude.{cond, ◌==◌, ◌≤◌, All, Option, Some, None}
use Rattle.std.proofs.lemmas.List.Elements.{All-nil, All-cons, All-head, All-tail}
use Rattle.el_base.specs.declared.operation.Op1.{Op1 as Unary}
use Rattle.el_base.specs.declared.operation.Op2.{Op2 as Operation}
use Rattle.el_base.specs.declared.ty.Ty.{Ty}
use Rattle.el_base.specs.declared.ty.Array.{Array}
use Rattle.el_base.specs.declared.ty.Scalar.{Scalar}
use Rattle.ir.specs.declared.graph.To.{To}
use Rattle.ir.specs.declared.graph.Block.{Block}
use Rattle.ir.specs.declared.graph.Jump.{Jump}
use Rattle.ir.specs.declared.graph.Jump.TheVariants.{Go, Two, Return}
use Rattle.ir.specs.declared.groups.Access.{Access}
use Rattle.ir.specs.declared.groups.Groups.{Groups}
use Rattle.ir.specs.declared.instr.Instr.{Instr}
use Rattle.ir.specs.declared.instr.Instr.TheVariants as step
use Rattle.ir.specs.Graphs.{Graph}
use Rattle.net_types.specs.declared.net.Place.{Place}
use Rattle.net_types.specs.declared.net.Port.{Port}
use Rattle.net_types.specs.declared.net.Unit.{Unit as Kind}
use Rattle.net_types.specs.declared.net.Unit.TheVariants.{Param, Const, Op1, Op2, Select, Fork, Mux, Cmerge, Branch, Sink, Read, Lsq, Exit}
use Rattle.net_types.specs.Nets.{at}
use Rattle.circuit_build.specs.declared.draft.Draft.{Draft}
use Rattle.circuit_build.specs.declared.draft.Edge.{Edge}
use Rattle.circuit_build.specs.declared.draft.End.{End}
use Rattle.circuit_build.specs.declared.draft.Queue.{Queue}
use Rattle.circuit_build.specs.Drafts.{number, plus, next, end_of, with_unit, with_chan, with_control, fed, uses_of_next, spread, defined, undefined, forked, control_forked, triggered, trigger_of, buffered, copied, copy_of, sunk}
use Rattle.circuit_build.specs.Uses.{zeros, handed_often, uses, is_laid}
use Rattle.circuit_build.specs.Steps.{queue_of, width_at, through_queue, group_taken, allocated_by, allocated, const_laid, one_laid, two_laid, select_laid, read_laid, load_taken, load_by, store_taken, store_by, step_made, step_laid, steps_laid, addr_place, data_place, value_place}
use Rattle.circuit_build.specs.Jumps.{with_edge, is_of_head, passed, all_passed, all_gone, gone, branched, branched_if, all_branched, control_branched, parted, result_list, jump_laid}
use Rattle.circuit_build.specs.Blocks.{mux_laid, muxes_laid, args_defined, merged, opened, ends_defined, passed_in, tail_of, head_by, head_laid, ins_of, allocations, after_block, early_triggers, late_triggers, bare_buffered, block_opened, block_grouped, block_worked, block_laid, blocks_laid}
use Rattle.circuit_build.specs.Edges.{raised, edge_counts, data_laid, edge_at, edge_laid, edges_laid}
use Rattle.circuit_build.specs.Endings.{result_widths, ones, ended_by, all_ended, exited, join_laid, zero_laid, zeros_laid, fed_by_itself, feeder_laid, feeder_if, feeders_laid}
use Rattle.circuit_build.specs.Fronts.{started, params_laid, entered, queue_laid, queue_if, queues_laid, ports_of, groups_from, depth_from}
use Rattle.circuit_build.specs.Built.{join_of, front_of, with_blocks, with_join, with_feeders, whole_draft}
use Rattle.circuit_build.proofs.Fields.{step_kept, allocations_kept, forked_still, defined_still, muxes_still, args_still, ends_still}

-- each kind of unit that is laid; heads have so many inputs, and forks so many outputs
pub record Laid (Fits : Kind → Type 0) (Ins Outs : ℕ → Type 0) : Type 0 where
  pub const : (w n : ℕ) → Fits (Const w n)
  pub op1 : (op : Unary) → Fits (Op1 op)
  pub op2 : (op : Operation) → Fits (Op2 op)
  pub select : (w : ℕ) → Fits (Select w)
  pub fork1 : (w : ℕ) → Fits (Fork w 1)
  pub forks : (w n : ℕ) → 1 ≤ n → Outs n → Fits (Fork w n)
  pub mux : (w n : ℕ) → Ins n → Fits (Mux w n)
  pub merge : (n : ℕ) → Ins n → Fits (Cmerge n)
  pub branch : (w : ℕ) → Fits (Branch w)
  pub sink : (w : ℕ) → Fits (Sink w)

-- each queue
abbrev pub Queues : (Kind → Type 0) → Type 0
Queues Fits = (a m : ℕ) (ps : List Port) (gs : List (List ℕ)) → Fits (Lsq a m ps gs false)

-- a table of uses, and the values that a jump hands on
abbrev pub Table : (ℕ → Type 0) → List ℕ → Type 0
Table Outs t = (i : ℕ) → Outs (get_or t i 0)

abbrev pub Handed : (ℕ → Type 0) → Jump → Type 0
Handed Outs (Go to) = Unit {0}
Handed Outs (Two c a b) = ((n : ℕ) → Table Outs (handed_often n a)) × ((n : ℕ) → Table Outs (handed_often n b))
Handed Outs (Return v) = Unit {0}

-- the forks of a block, wherever it stands
pub record Forks (Outs : ℕ → Type 0) (k : Block) : Type 0 where
  pub values : Table Outs (uses k)
  pub merges : (b : ℕ) (xs : List Access) → Outs (plus (plus (early_triggers b k xs) (number (length k.args))) 1)
  pub leans : (b : ℕ) (xs : List Access) → Outs (plus (early_triggers b k xs) 1)
  pub lates : (b : ℕ) (xs : List Access) → Outs (plus (late_triggers b k xs) 1)
  pub sides : Handed Outs k.jump
  pub feeder : Outs (plus (plus (number (length k.args)) 1) 1)

-- the forks of the return join
pub record Few (Outs : ℕ → Type 0) : Type 0 where
  pub none : Outs 0
  pub one : Outs 1
  pub two : Outs 2
  pub three : Outs 3

-- of any number of outputs
abbrev pub Free : ℕ → Type 0
Free n = Unit {0}

pub free_jump : (j : Jump) → Handed Free j
free_jump (Go to) = tt
free_jump (Two c a b) = (λ n i. tt, λ n i. tt)
free_jump (Return v) = tt

pub free_block : (k : Block) → Forks Free k
free_block k = record { values = λ i. tt; merges = λ b xs. tt; leans = λ b xs. tt; lates = λ b xs. tt; sides = free_jump k.jump; feeder = tt }

pub free : (ks : List Block) → All (Forks Free) ks
free [] = All-nil (Forks Free)
free (k ∷ ks) = All-cons (Forks Free) k ks (free_block k) (free ks)

pub free_few : Few Free
free_few = record { none = tt; one = tt; two = tt; three = tt }

-- the uses of a block's values, from its head on
opened_uses : (ins : ℕ) (ws : List ℕ) (t : ℕ) (d : Draft) → (opened ins ws t d).uses ≡ d.uses
opened_uses ins ws t d =
    let n = plus t (number (length ws)) in
    let m = merged ins d in
    let e = control_forked n m in
    let x = muxes_laid ins ws e in
    (args_still (next e) ws x).kept.uses ∙ (muxes_still ins ws e).kept.uses ∙ (forked_still n m).kept.uses

head_by_uses : (x : Option Edge) (ins : ℕ) (ws : List ℕ) (t : ℕ) (d : Draft) → (head_by x ins ws t d).uses ≡ d.uses
head_by_uses None ins ws t d = opened_uses ins ws t d
head_by_uses (Some x) ins ws t d =
    let c = record (with_control x.control d) { heads = d.heads ++ 0 ∷ [] } in
    (ends_still x.with (control_forked t c)).kept.uses ∙ (forked_still t c).kept.uses

pub head_uses : (ins target : ℕ) (ws us : List ℕ) (t : ℕ) (d : Draft) → (head_laid ins target ws us t d).uses ≡ us
head_uses ins target ws us t d = head_by_uses (tail_of ins target d) ins ws t (record d { uses = us; ends = [] })

pub grouped_uses : (ins b : ℕ) (k : Block) (xs : List Access) (d : Draft) → (block_grouped ins b k xs d).uses ≡ uses k
grouped_uses ins b k xs d =
    let e = block_opened ins b k xs d in
    let f = allocations b xs e in
    (forked_still (late_triggers b k xs) f).kept.uses ∙ (allocations_kept b xs e).uses ∙ head_uses ins b k.args (uses k) (early_triggers b k xs) d

-- it speaks of units and channels alone
module _ (I : Draft → Type 0) (Fits : Kind → Type 0) (Ins Outs : ℕ → Type 0) (laid : Laid Fits Ins Outs) (unit : (k : Kind) (d : Draft) → Fits k → I d → I (with_unit k d)) (chan : (p q : Place) (w : ℕ) (c : Bool) (d : Draft) → I d → I (with_chan p q w c d))
    (same : (d e : Draft) → e.units ≡ d.units → e.chans ≡ d.chans → I d → I e) where
  pub fed_keeps : (x : End) (u p : ℕ) (d : Draft) → I d → I (fed x u p d)
  fed_keeps x u p d h = chan x.place (at u p) x.width false d h

  pub forked_keeps : (n : ℕ) → Fits (Fork 32 n) → (d : Draft) → I d → I (forked n d)
  forked_keeps n f d h =
      let e = with_chan d.control (at (next d) 0) 32 true (with_unit (Fork 32 n) d) in
      same e (forked n d) refl refl (chan d.control (at (next d) 0) 32 true (with_unit (Fork 32 n) d) (unit (Fork 32 n) d f h))

  pub buffered_keeps : (d : Draft) → I d → I (buffered d)
  buffered_keeps d h = forked_keeps 1 (laid.fork1 32) d h

  pub control_keeps : (n : ℕ) → Outs (plus n 1) → (d : Draft) → I d → I (control_forked n d)
  control_keeps zero o d h = h
  control_keeps (suc n) o d h =
      let m = plus (suc n) 1 in
      same (forked m d) (control_forked (suc n) d) refl refl (forked_keeps m (laid.forks 32 m (omega arith) o) d h)

  pub copied_keeps : (v : ℕ) (d : Draft) → I d → I (copied v d)
  copied_keeps v d h = same d (copied v d) refl refl h

  pub triggered_keeps : (d : Draft) → I d → I (triggered d)
  triggered_keeps d h = same d (triggered d) refl refl h

  pub sunk_keeps : (x : End) (d : Draft) → I d → I (sunk x d)
  sunk_keeps x d h = fed_keeps x (next d) 0 (with_unit (Sink x.width) d) (unit (Sink x.width) d (laid.sink x.width) h)

  pub spread_keeps : (x : End) (n : ℕ) → Outs n → (d : Draft) → I d → I (spread x n d)
  spread_keeps x zero o d h = sunk_keeps x d h
  spread_keeps x (suc zero) o d h = h
  spread_keeps x (suc (suc n)) o d h =
      let k = with_unit (Fork x.width (suc (suc n))) d in
      fed_keeps x (next d) 0 k (unit (Fork x.width (suc (suc n))) d (laid.forks x.width (suc (suc n)) (omega arith) o) h)

  pub defined_keeps : (p : Place) (w : ℕ) (d : Draft) → Outs (uses_of_next d) → I d → I (defined p w d)
  defined_keeps p w d o h =
      let x : End = record { place = p; width = w } in
      same (spread x (uses_of_next d) d) (defined p w d) refl refl (spread_keeps x (uses_of_next d) o d h)

  pub undefined_keeps : (d : Draft) → I d → I (undefined d)
  undefined_keeps d h = same d (undefined d) refl refl h

  -- ---- steps

  pub through_keeps : (q : Queue) (p : ℕ) (d : Draft) → I d → I (through_queue q p d)
  through_keeps q p d h = same (with_chan d.control (at q.unit p) 32 true d) (through_queue q p d) refl refl (chan d.control (at q.unit p) 32 true d h)

  pub allocated_keeps : (a : ℕ) (q : Option Queue) (d : Draft) → I d → I (allocated_by a q d)
  allocated_keeps a None d h = h
  allocated_keeps a (Some q) d h = let e = through_queue q q.group d in same e (group_taken a q d) refl refl (through_keeps q q.group d h)

  pub const_keeps : (w n : ℕ) (d : Draft) → Table Outs d.uses → I d → I (const_laid w n d)
  const_keeps w n d o h =
      let e = triggered d in
      let f = fed (trigger_of d) (next e) 0 (with_unit (Const w n) e) in
      defined_keeps (at (next e) 0) w f (o (length f.ends)) (fed_keeps (trigger_of d) (next e) 0 (with_unit (Const w n) e) (unit (Const w n) e (laid.const w n) (triggered_keeps d h)))

  pub one_keeps : (op : _) (a : ℕ) (d : Draft) → Table Outs d.uses → I d → I (one_laid op a d)
  one_keeps op a d o h =
      let e = copied a d in
      let f = fed (copy_of a d) (next e) 0 (with_unit (Op1 op) e) in
      defined_keeps (at (next e) 0) _ f (o (length f.ends)) (fed_keeps (copy_of a d) (next e) 0 (with_unit (Op1 op) e) (unit (Op1 op) e (laid.op1 op) (copied_keeps a d h)))

  pub two_keeps : (op : _) (a b : ℕ) (d : Draft) → Table Outs d.uses → I d → I (two_laid op a b d)
  two_keeps op a b d o h =
      let e = copied a d in
      let f = copied b e in
      let g = with_unit (Op2 op) f in
      let x = fed (copy_of a d) (next f) 0 g in
      let y = fed (copy_of b e) (next f) 1 x in
      defined_keeps (at (next f) 0) _ y (o (length y.ends)) (fed_keeps (copy_of b e) (next f) 1 x (fed_keeps (copy_of a d) (next f) 0 g (unit (Op2 op) f (laid.op2 op) (copied_keeps b e (copied_keeps a d h)))))

  pub select_keeps : (w c a b : ℕ) (d : Draft) → Table Outs d.uses → I d → I (select_laid w c a b d)
  select_keeps w c a b d o h =
      let e = copied c d in
      let f = copied a e in
      let g = copied b f in
      let k = with_unit (Select w) g in
      let x = fed (copy_of c d) (next g) 0 k in
      let y = fed (copy_of a e) (next g) 1 x in
      let z = fed (copy_of b f) (next g) 2 y in
      defined_keeps (at (next g) 0) w z (o (length z.ends))
      (fed_keeps (copy_of b f) (next g) 2 y (fed_keeps (copy_of a e) (next g) 1 x (fed_keeps (copy_of c d) (next g) 0 k (unit (Select w) g (laid.select w) (copied_keeps b f (copied_keeps a e (copied_keeps c d h)))))))

  pub load_keeps : (q : Option Queue) (a w p : ℕ) → (q ≡ None → Fits (Read a)) → (d : Draft) → Table Outs d.uses → I d → I (load_by q a w p d)
  load_keeps None a w p r d o h =
      let e = copied p d in
      let f = fed (copy_of p d) (next e) 0 (with_unit (Read a) e) in
      defined_keeps (at (next e) 0) w f (o (length f.ends)) (fed_keeps (copy_of p d) (next e) 0 (with_unit (Read a) e) (unit (Read a) e (r refl) (copied_keeps p d h)))
  load_keeps (Some q) a w p r d o h =
      let e = fed (copy_of p d) q.unit (addr_place q) (copied p d) in
      let f = defined (at q.unit (value_place q)) w e in
      same f (load_taken q a w p d) refl refl (defined_keeps (at q.unit (value_place q)) w e (o (length e.ends)) (fed_keeps (copy_of p d) q.unit (addr_place q) (copied p d) (copied_keeps p d h)))

  pub store_keeps : (q : Option Queue) (a p v : ℕ) (d : Draft) → I d → I (store_by q a p v d)
  store_keeps None a p v d h = undefined_keeps d h
  store_keeps (Some q) a p v d h =
      let e = copied p d in
      let f = copied v e in
      let x = fed (copy_of p d) q.unit (addr_place q) f in
      same (fed (copy_of v e) q.unit (data_place q) x) (store_taken q a p v d) refl refl
      (fed_keeps (copy_of v e) q.unit (data_place q) x (fed_keeps (copy_of p d) q.unit (addr_place q) f (copied_keeps v e (copied_keeps p d h))))

  made_keeps : ((a : ℕ) → Fits (Read a)) → (arrays : List Array) (i : Instr) (d : Draft) → Table Outs d.uses → I d → I (step_made arrays i d)
  made_keeps r arrays (step.Const w n) d o h = const_keeps w n d o h
  made_keeps r arrays (step.One op a) d o h = one_keeps op a d o h
  made_keeps r arrays (step.Two op a b) d o h = two_keeps op a b d o h
  made_keeps r arrays (step.Select w c a b) d o h = select_keeps w c a b d o h
  made_keeps r arrays (step.Load a p) d o h = load_keeps (queue_of d a) a (width_at arrays a) p (λ e. r a) d o h
  made_keeps r arrays (step.Store a p v) d o h = store_keeps (queue_of d a) a p v d h

  pub laid_if : (t : Bool) (d e : Draft) → I d → I e → I (cond t d e)
  laid_if true d e h i = h
  laid_if false d e h i = i

  pub step_keeps : ((a : ℕ) → Fits (Read a)) → (arrays : List Array) (i : Instr) (d : Draft) → Table Outs d.uses → I d → I (step_laid arrays i d)
  step_keeps r arrays i d o h = laid_if (is_laid i (uses_of_next d)) (step_made arrays i d) (undefined d) (made_keeps r arrays i d o h) (undefined_keeps d h)

  pub steps_keep : ((a : ℕ) → Fits (Read a)) → (arrays : List Array) (is : List Instr) (d : Draft) → Table Outs d.uses → I d → I (steps_laid arrays is d)
  steps_keep r arrays [] d o h = h
  steps_keep r arrays (i ∷ is) d o h =
      let k = step_kept arrays i d in
      steps_keep r arrays is (step_laid arrays i d) (subst (Table Outs) (sym k.uses) o) (step_keeps r arrays i d o h)

  -- ---- jumps

  edge_keeps : (to : ℕ) (p : Place) (xs : List End) (d : Draft) → I d → I (with_edge to p xs d)
  edge_keeps to p xs d h = same d (with_edge to p xs d) refl refl h

  pub bare_keeps : (n : ℕ) (j : Jump) (d : Draft) → I d → I (bare_buffered n j d)
  bare_keeps n (Go to) d h = laid_if (length d.chans == n) (buffered d) d (buffered_keeps d h) h
  bare_keeps n (Two c a b) d h = h
  bare_keeps n (Return v) d h = h

  pub passed_keeps : (t : Bool) (x : End) (d : Draft) → I d → I (passed t x d)
  passed_keeps true x d h = fed_keeps x (next d) 0 (with_unit (Fork x.width 1) d) (unit (Fork x.width 1) d (laid.fork1 x.width) h)
  passed_keeps false x d h = h

  pub all_passed_keep : (m n : ℕ) (vs : List ℕ) (d : Draft) → I d → I (all_passed m n vs d)
  all_passed_keep m n [] d h = h
  all_passed_keep m n (v ∷ vs) d h =
      let x = copy_of v d in
      let t = is_of_head x.place m n in
      all_passed_keep m n vs (passed t x (copied v d)) (passed_keeps t x (copied v d) (copied_keeps v d h))

  pub all_gone_keep : (to : ℕ) (vs : List ℕ) (d : Draft) → I d → I (all_gone to vs d)
  all_gone_keep to vs d h =
      let m = get_or d.heads to 0 in
      let n = number (length vs) in
      let e = all_passed m n vs d in
      let f = all_passed_keep m n vs d h in
      laid_if (is_of_head e.control m n) (buffered e) e (buffered_keeps e f) f

  pub gone_keeps : (to : ℕ) (vs : List ℕ) (d : Draft) → I d → I (gone to vs d)
  gone_keeps to vs d h = same (all_gone to vs d) (gone to vs d) refl refl (all_gone_keep to vs d h)

  pub branched_keeps : (c v y n : ℕ) → Outs y → Outs n → (d : Draft) → I d → I (branched c v y n d)
  branched_keeps c v y n oy on d h =
      let e = copied c d in
      let f = copied v e in
      let w = (copy_of v e).width in
      let u = next f in
      let g = with_unit (Branch w) f in
      let x = fed (copy_of c d) u 0 g in
      let b = fed (copy_of v e) u 1 x in
      let one : End = record { place = at u 0; width = w } in
      spread_keeps (record { place = at u 1; width = w }) n on (spread one y b)
      (spread_keeps one y oy b (fed_keeps (copy_of v e) u 1 x (fed_keeps (copy_of c d) u 0 g (unit (Branch w) f (laid.branch w) (copied_keeps v e (copied_keeps c d h))))))

  pub branched_if_keeps : (c v y n : ℕ) → Outs y → Outs n → (d : Draft) → I d → I (branched_if c v y n d)
  branched_if_keeps c v zero zero oy on d h = h
  branched_if_keeps c v (suc y) n oy on d h = branched_keeps c v (suc y) n oy on d h
  branched_if_keeps c v zero (suc n) oy on d h = branched_keeps c v zero (suc n) oy on d h

  pub all_branched_keep : (c v : ℕ) (ys ns : List ℕ) → Table Outs ys → Table Outs ns → (d : Draft) → I d → I (all_branched c v ys ns d)
  all_branched_keep c v [] ns oy on d h = h
  all_branched_keep c v (y ∷ ys) ns oy on d h = all_branched_keep c (plus v 1) ys ns (λ i. oy (suc i)) on (branched_if c v y (get_or ns v 0) d) (branched_if_keeps c v y (get_or ns v 0) (oy 0) (on v) d h)

  pub control_branched_keeps : (c : ℕ) (d : Draft) → I d → I (control_branched c d)
  control_branched_keeps c d h =
      let e = copied c d in
      let k = with_unit (Branch 32) e in
      let x = fed (copy_of c d) (next e) 0 k in
      chan e.control (at (next e) 1) 32 true x (fed_keeps (copy_of c d) (next e) 0 k (unit (Branch 32) e (laid.branch 32) (copied_keeps c d h)))

  pub parted_keeps : (c : ℕ) (a b : To) (d : Draft) → Handed Outs (Two c a b) → I d → I (parted c a b d)
  parted_keeps c a b d o h =
      let n = length d.ends in
      let e = all_branched c 0 (handed_often n a) (handed_often n b) d in
      same (control_branched c e) (parted c a b d) refl refl (control_branched_keeps c e (all_branched_keep c 0 (handed_often n a) (handed_often n b) (o.0 n) (o.1 n) d h))

  pub jump_keeps : (join : ℕ) (j : Jump) (d : Draft) → Handed Outs j → I d → I (jump_laid join j d)
  jump_keeps join (Go to) d o h = gone_keeps to.block to.with d h
  jump_keeps join (Two c a b) d o h = parted_keeps c a b d o h
  jump_keeps join (Return v) d o h = gone_keeps join (result_list v) d h

  -- ---- heads

  pub muxes_keep : (ins : ℕ) → Ins ins → (ws : List ℕ) (d : Draft) → I d → I (muxes_laid ins ws d)
  muxes_keep ins i [] d h = h
  muxes_keep ins i (w ∷ ws) d h =
      let e = triggered d in
      muxes_keep ins i ws (mux_laid ins w d) (fed_keeps (trigger_of d) (next d) 0 (with_unit (Mux w ins) e) (unit (Mux w ins) e (laid.mux w ins i) (triggered_keeps d h)))

  pub args_keep : (u : ℕ) (ws : List ℕ) (d : Draft) → Table Outs d.uses → I d → I (args_defined u ws d)
  args_keep u [] d o h = h
  args_keep u (w ∷ ws) d o h =
      let s = defined_still (at u 0) w d in
      args_keep (plus u 1) ws (defined (at u 0) w d) (subst (Table Outs) (sym s.kept.uses) o) (defined_keeps (at u 0) w d (o (length d.ends)) h)

  pub ends_keep : (es : List End) (d : Draft) → Table Outs d.uses → I d → I (ends_defined es d)
  ends_keep [] d o h = h
  ends_keep (x ∷ es) d o h =
      let s = defined_still x.place x.width d in
      ends_keep es (defined x.place x.width d) (subst (Table Outs) (sym s.kept.uses) o) (defined_keeps x.place x.width d (o (length d.ends)) h)

  pub opened_keeps : (ins : ℕ) → Ins ins → (ws : List ℕ) (t : ℕ) (d : Draft) → Table Outs d.uses → Outs (plus (plus t (number (length ws))) 1) → I d → I (opened ins ws t d)
  opened_keeps ins i ws t d o f h =
      let n = plus t (number (length ws)) in
      let m = merged ins d in
      let e = control_forked n m in
      let x = muxes_laid ins ws e in
      let s = forked_still n m in
      let r = muxes_still ins ws e in
      args_keep (next e) ws x (subst (Table Outs) (sym r.kept.uses) (subst (Table Outs) (sym s.kept.uses) o))
      (muxes_keep ins i ws e (control_keeps n f m (same (with_unit (Cmerge ins) d) m refl refl (unit (Cmerge ins) d (laid.merge ins i) h))))

  pub passed_in_keeps : (x : Edge) (t : ℕ) (d : Draft) → Table Outs d.uses → Outs (plus t 1) → I d → I (passed_in x t d)
  passed_in_keeps x t d o f h =
      let c = record (with_control x.control d) { heads = d.heads ++ 0 ∷ [] } in
      let s = forked_still t c in
      ends_keep x.with (control_forked t c) (subst (Table Outs) (sym s.kept.uses) o) (control_keeps t f c (same d c refl refl h))

  pub head_by_keeps : (x : Option Edge) (ins : ℕ) → Ins ins → (ws : List ℕ) (t : ℕ) (d : Draft) → Table Outs d.uses → Outs (plus (plus t (number (length ws))) 1) → Outs (plus t 1) → I d → I (head_by x ins ws t d)
  head_by_keeps None ins i ws t d o f l h = opened_keeps ins i ws t d o f h
  head_by_keeps (Some x) ins i ws t d o f l h = passed_in_keeps x t d o l h

  pub head_keeps : (ins target : ℕ) → Ins ins → (ws us : List ℕ) (t : ℕ) (d : Draft) → Table Outs us → Outs (plus (plus t (number (length ws))) 1) → Outs (plus t 1) → I d → I (head_laid ins target ws us t d)
  head_keeps ins target i ws us t d o f l h =
      let e = record d { uses = us; ends = [] } in
      head_by_keeps (tail_of ins target d) ins i ws t e o f l (same d e refl refl h)

  -- ---- blocks

  pub allocations_keep : (b : ℕ) (xs : List Access) (d : Draft) → I d → I (allocations b xs d)
  allocations_keep b [] d h = h
  allocations_keep b (x ∷ xs) d h =
      laid_if (x.block == b) (allocations b xs (allocated x.array d)) d (allocations_keep b xs (allocated x.array d) (allocated_keeps x.array (queue_of d x.array) d h)) h

  pub block_opened_keeps : (ins b : ℕ) → Ins ins → (k : Block) → Forks Outs k → (xs : List Access) (d : Draft) → I d → I (block_opened ins b k xs d)
  block_opened_keeps ins b i k o xs d h = head_keeps ins b i k.args (uses k) (early_triggers b k xs) d o.values (o.merges b xs) (o.leans b xs) h

  pub block_grouped_keeps : (ins b : ℕ) → Ins ins → (k : Block) → Forks Outs k → (xs : List Access) (d : Draft) → I d → I (block_grouped ins b k xs d)
  block_grouped_keeps ins b i k o xs d h =
      let e = block_opened ins b k xs d in
      control_keeps (late_triggers b k xs) (o.lates b xs) (allocations b xs e) (allocations_keep b xs e (block_opened_keeps ins b i k o xs d h))

  pub block_worked_keeps : ((a : ℕ) → Fits (Read a)) → (arrays : List Array) (ins b : ℕ) → Ins ins → (k : Block) → Forks Outs k → (xs : List Access) (d : Draft) → I d → I (block_worked arrays ins b k xs d)
  block_worked_keeps r arrays ins b i k o xs d h =
      let e = block_grouped ins b k xs d in
      bare_keeps (length d.chans) k.jump (steps_laid arrays k.steps e) (steps_keep r arrays k.steps e (subst (Table Outs) (sym (grouped_uses ins b k xs d)) o.values) (block_grouped_keeps ins b i k o xs d h))

  pub block_keeps : ((a : ℕ) → Fits (Read a)) → (arrays : List Array) (join ins b : ℕ) → Ins ins → (k : Block) → Forks Outs k → (xs : List Access) (d : Draft) → I d → I (block_laid arrays join ins b k xs d)
  block_keeps r arrays join ins b i k o xs d h = jump_keeps join k.jump (block_worked arrays ins b k xs d) o.sides (block_worked_keeps r arrays ins b i k o xs d h)

  pub blocks_keep : ((a : ℕ) → Fits (Read a)) → (arrays : List Array) (join : ℕ) (counts : List ℕ) → ((t : ℕ) → Ins (ins_of counts t)) → (b : ℕ) (ks : List Block) → All (Forks Outs) ks → (xs : List Access) (d : Draft) → I d → I (blocks_laid arrays join counts b ks xs d)
  blocks_keep r arrays join counts i b [] o xs d h = h
  blocks_keep r arrays join counts i b (k ∷ ks) o xs d h =
      blocks_keep r arrays join counts i (plus b 1) ks (All-tail (Forks Outs) k ks o) (after_block b xs) (block_laid arrays join (ins_of counts b) b k xs d) (block_keeps r arrays join (ins_of counts b) b (i b) k (All-head (Forks Outs) k ks o) xs d h)

  -- ---- edges

  pub data_keeps : (mux place : ℕ) (es : List End) (d : Draft) → I d → I (data_laid mux place es d)
  data_keeps mux place [] d h = h
  data_keeps mux place (e ∷ es) d h = data_keeps (plus mux 1) place es (fed e mux place d) (fed_keeps e mux place d h)

  edge_at_keeps : (u j : ℕ) (e : Edge) (d : Draft) → I d → I (edge_at u j e d)
  edge_at_keeps zero j e d h = h
  edge_at_keeps (suc u) j e d h = data_keeps (plus (suc u) 2) (plus j 1) e.with (with_chan e.control (at (suc u) j) 32 true d) (chan e.control (at (suc u) j) 32 true d h)

  pub edges_keep : (seen : List ℕ) (es : List Edge) (d : Draft) → I d → I (edges_laid seen es d)
  edges_keep seen [] d h = h
  edges_keep seen (e ∷ es) d h = edges_keep (raised e.to seen) es (edge_laid (get_or seen e.to 0) e d) (edge_at_keeps (get_or d.heads e.to 0) (get_or seen e.to 0) e d h)

  -- ---- the rest

  ended_keeps : (q : Option Queue) (d : Draft) → I d → I (ended_by q d)
  ended_keeps None d h = h
  ended_keeps (Some q) d h = through_keeps q q.groups d h

  pub all_ended_keep : (qs : List (Option Queue)) (d : Draft) → I d → I (all_ended qs d)
  all_ended_keep [] d h = h
  all_ended_keep (q ∷ qs) d h = all_ended_keep qs (ended_by q d) (ended_keeps q d h)

  pub exited_keeps : Fits Exit → (r : Option Ty) (d : Draft) → I d → I (exited r d)
  exited_keeps f None d h = chan d.control (at (next d) 0) 32 true (with_unit Exit d) (unit Exit d f h)
  exited_keeps f (Some t) d h =
      let e = with_chan d.control (at (next d) 0) 32 true (with_unit Exit d) in
      fed_keeps (copy_of 0 e) (next d) 1 (copied 0 e) (copied_keeps 0 e (chan d.control (at (next d) 0) 32 true (with_unit Exit d) (unit Exit d f h)))

  pub join_head_keeps : Few Outs → (ins join : ℕ) → Ins ins → (r : Option Ty) (d : Draft) → I d → I (head_laid ins join (result_widths r) (ones (result_widths r)) 0 d)
  join_head_keeps o ins join i None d h = head_keeps ins join i [] [] 0 d (λ n. o.none) o.one o.one h
  join_head_keeps o ins join i (Some t) d h = head_keeps ins join i (result_widths (Some t)) (1 ∷ []) 0 d one_use o.two o.one h
    where
      one_use : Table Outs (1 ∷ [])
      one_use zero = o.one
      one_use (suc n) = o.none

  pub before_exit : Few Outs → (ins join : ℕ) → Ins ins → (r : Option Ty) (d : Draft) → I d → (let e = head_laid ins join (result_widths r) (ones (result_widths r)) 0 d in I (all_ended e.queues e))
  before_exit o ins join i r d h = let e = head_laid ins join (result_widths r) (ones (result_widths r)) 0 d in all_ended_keep e.queues e (join_head_keeps o ins join i r d h)

  pub join_keeps : Fits Exit → Few Outs → (ins join : ℕ) → Ins ins → (r : Option Ty) (d : Draft) → I d → I (join_laid ins join r d)
  join_keeps f o ins join i r d h = let e = head_laid ins join (result_widths r) (ones (result_widths r)) 0 d in exited_keeps f r (all_ended e.queues e) (before_exit o ins join i r d h)

  zeros_keep : (ws : List ℕ) (d : Draft) → I d → I (zeros_laid ws d)
  zeros_keep [] d h = h
  zeros_keep (w ∷ ws) d h =
      let e = triggered d in
      zeros_keep ws (zero_laid w d) (fed_keeps (trigger_of d) (next d) 0 (with_unit (Const w 0) e) (unit (Const w 0) e (laid.const w 0) (triggered_keeps d h)))

  pub feeder_keeps : (n t : ℕ) (ws : List ℕ) → Outs (plus (plus (number (length ws)) 1) 1) → (d : Draft) → I d → I (feeder_if n t ws d)
  feeder_keeps (suc n) t ws o d h = h
  feeder_keeps zero t ws o d h =
      let u = next d in
      let k = with_unit (Branch 32) d in
      let c = with_chan (at u 1) (at u 1) 32 true k in
      let e = with_control (at u 0) c in
      let m = plus (number (length ws)) 1 in
      let x = control_forked m e in
      let own : I e = same c e refl refl (chan (at u 1) (at u 1) 32 true k (unit (Branch 32) d (laid.branch 32) h)) in
      let f = fed_by_itself (number (length ws)) d in
      same (zeros_laid ws f) (feeder_laid t ws d) refl refl (zeros_keep ws f (fed_keeps (trigger_of x) u 0 (triggered x) (triggered_keeps x (control_keeps m o e own))))

  pub feeders_keep : (counts : List ℕ) (b : ℕ) (ks : List Block) → All (Forks Outs) ks → (d : Draft) → I d → I (feeders_laid counts b ks d)
  feeders_keep counts b [] o d h = h
  feeders_keep counts b (k ∷ ks) o d h =
      let x = All-head (Forks Outs) k ks o in
      feeders_keep counts (plus b 1) ks (All-tail (Forks Outs) k ks o) (feeder_if (get_or counts b 0) b k.args d) (feeder_keeps (get_or counts b 0) b k.args x.feeder d h)

  pub last_feeder_keeps : Few Outs → (n t : ℕ) (r : Option Ty) (d : Draft) → I d → I (feeder_if n t (result_widths r) d)
  last_feeder_keeps o n t None d h = feeder_keeps n t [] o.two d h
  last_feeder_keeps o n t (Some x) d h = feeder_keeps n t (result_widths (Some x)) o.three d h

  pub params_keep : ((j : ℕ) → Fits (Param j)) → (j : ℕ) (ss : List Scalar) (d : Draft) → I d → I (params_laid j ss d)
  params_keep f j [] d h = h
  params_keep f j (s ∷ ss) d h = params_keep f (plus j 1) ss (with_unit (Param j) d) (unit (Param j) d (f j) h)

  pub entered_keeps : ((j : ℕ) → Fits (Param j)) → (ss : List Scalar) (d : Draft) → I d → I (entered ss d)
  entered_keeps f ss d h = same (params_laid 0 ss d) (entered ss d) refl refl (params_keep f 0 ss d h)

  queue_keeps : Queues Fits → (a : ℕ) (ps : List Port) (gs : List (List ℕ)) (m : ℕ) (d : Draft) → I d → I (queue_if a ps gs m d)
  queue_keeps f a ps [] m d h = same d (queue_if a ps [] m d) refl refl h
  queue_keeps f a ps (g ∷ gs) m d h = same (with_unit (Lsq a m ps (g ∷ gs) false) d) (queue_laid a ps (g ∷ gs) m d) refl refl (unit (Lsq a m ps (g ∷ gs) false) d (f a m ps (g ∷ gs)) h)

  pub queues_keep : Queues Fits → (ks : List Block) (of : List Access) (a : ℕ) (xs : List Array) (d : Draft) → I d → I (queues_laid ks of a xs d)
  queues_keep f ks of a [] d h = h
  queues_keep f ks of a (x ∷ xs) d h =
      queues_keep f ks of (plus a 1) xs (queue_if a (ports_of a ks of) (groups_from a 0 of) (depth_from a 16 of) d) (queue_keeps f a (ports_of a ks of) (groups_from a 0 of) (depth_from a 16 of) d h)

  pub front_keeps : Queues Fits → (g : Graph) (gs : Groups) → I (entered g.scalars (started (length g.blocks + 1))) → I (front_of g gs)
  front_keeps f g gs h = queues_keep f g.blocks gs.of 0 g.arrays (entered g.scalars (started (length g.blocks + 1))) h

  pub blocks_of_keep : ((a : ℕ) → Fits (Read a)) → (g : Graph) (gs : Groups) → ((t : ℕ) → Ins (ins_of (edge_counts g.blocks) t)) → All (Forks Outs) g.blocks → I (front_of g gs) → I (with_blocks g gs)
  blocks_of_keep r g gs i o h = blocks_keep r g.arrays (join_of g) (edge_counts g.blocks) i 0 g.blocks o gs.of (front_of g gs) h

  pub feeders_of_keep : (g : Graph) (gs : Groups) → All (Forks Outs) g.blocks → Few Outs → I (with_blocks g gs) → I (with_feeders g gs)
  feeders_of_keep g gs o f h =
      let counts = edge_counts g.blocks in
      let join = join_of g in
      last_feeder_keeps f (get_or counts join 0) join g.result (feeders_laid counts 0 g.blocks (with_blocks g gs)) (feeders_keep counts 0 g.blocks o (with_blocks g gs) h)

  -- the channels of the edges
  pub rest_keeps : (g : Graph) (gs : Groups) → I (with_join g gs) → I (whole_draft g gs)
  rest_keeps g gs h =
      let d = with_join g gs in
      edges_keep (zeros (length g.blocks + 1)) d.edges (record d { edges = [] }) (same d (record d { edges = [] }) refl refl h)

  -- from what stands before the blocks to the end
  pub after_front : ((a : ℕ) → Fits (Read a)) → Fits Exit → (g : Graph) (gs : Groups) → ((t : ℕ) → Ins (ins_of (edge_counts g.blocks) t)) → All (Forks Outs) g.blocks → Few Outs → I (front_of g gs) → I (whole_draft g gs)
  after_front r x g gs i o f h =
      rest_keeps g gs (join_keeps x f (ins_of (edge_counts g.blocks) (join_of g)) (join_of g) (i (join_of g)) g.result (with_feeders g gs) (feeders_of_keep g gs o f (blocks_of_keep r g gs i o h)))

  pub whole_keeps : ((a : ℕ) → Fits (Read a)) → ((j : ℕ) → Fits (Param j)) → Queues Fits → Fits Exit → (g : Graph) (gs : Groups) → ((t : ℕ) → Ins (ins_of (edge_counts g.blocks) t)) → All (Forks Outs) g.blocks → Few Outs → I (started (length g.blocks + 1)) → I (whole_draft g gs)
  whole_keeps r p q x g gs i o f h = after_front r x g gs i o f (front_keeps q g gs (entered_keeps p g.scalars (started (length g.blocks + 1)) h))
