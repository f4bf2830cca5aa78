-- What is laid between heads and edges leaves the edges, the heads and the uses as they are; beside steps and groups it leaves the queues, too.
use Rattle.std.proofs.Common.{◌≡◌, ℕ, zero, suc, List, [], ◌∷◌, ◌++◌, Bool, true, false, refl, ◌∙◌}
use Rattle.std.specs.Prelude.{cond, ◌==◌, length, get_or, Option, Some, None}
use Rattle.el_base.specs.declared.operation.Op1.{Op1 as Unary}
use Rattle.el_base.specs.declared.operation.Op2.{Op2 as Binary}
use Rattle.el_base.specs.Widths.{op1_out, op2_out}
use Rattle.el_base.specs.declared.ty.Array.{Array}
use Rattle.ir.specs.declared.graph.Jump.{Jump}
use Rattle.ir.specs.declared.graph.Jump.TheVariants.{Go, Two, Return}
use Rattle.ir.specs.declared.groups.Access.{Access}
use Rattle.ir.specs.declared.instr.Instr.{Instr}
use Rattle.ir.specs.declared.instr.Instr.TheVariants as step
use Rattle.net_types.specs.declared.net.Place.{Place}
use Rattle.net_types.specs.declared.net.Unit.TheVariants.{Const, Op1, Op2, Select, Read, Mux, Branch}
use Rattle.net_types.specs.Nets.{at}
use Rattle.circuit_build.specs.declared.draft.Draft.{Draft}
use Rattle.circuit_build.specs.declared.draft.Edge.{Edge}
use Rattle.circuit_build.specs.declared.draft.End.{End}
use Rattle.circuit_build.specs.declared.draft.Queue.{Queue}
use Rattle.circuit_build.specs.Drafts.{number, plus, next, uses_of_next, spread, defined, undefined, fed, with_unit, with_chan, control_forked, triggered, trigger_of, buffered, copied, copy_of, with_control}
use Rattle.circuit_build.specs.Uses.{is_laid, handed_often}
use Rattle.circuit_build.specs.Steps.{queue_of, width_at, value_place, addr_place, allocated, allocated_by, const_laid, one_laid, two_laid, select_laid, read_laid, load_by, store_by, step_made, step_laid, steps_laid}
use Rattle.circuit_build.specs.Jumps.{passed, all_passed, is_of_head, all_gone, result_list, jump_laid, branched, branched_if, all_branched, control_branched}
use Rattle.circuit_build.specs.Blocks.{mux_laid, muxes_laid, args_defined, ends_defined, merged, opened, passed_in, tail_of, head_by, head_laid, allocations, bare_buffered}

pub record Kept (d e : Draft) : Type 0 where
  pub uses : e.uses ≡ d.uses
  pub edges : e.edges ≡ d.edges
  pub heads : e.heads ≡ d.heads
  pub tails : e.tails ≡ d.tails

pub record Still (d e : Draft) : Type 0 where
  pub kept : Kept d e
  pub queues : e.queues ≡ d.queues

pub kept_own : (d : Draft) → Kept d d
kept_own d = record { uses = refl; edges = refl; heads = refl; tails = refl }

pub kept_then : (d e f : Draft) → Kept d e → Kept e f → Kept d f
kept_then d e f x y = record { uses = y.uses ∙ x.uses; edges = y.edges ∙ x.edges; heads = y.heads ∙ x.heads; tails = y.tails ∙ x.tails }

pub still_own : (d : Draft) → Still d d
still_own d = record { kept = kept_own d; queues = refl }

pub still_then : (d e f : Draft) → Still d e → Still e f → Still d f
still_then d e f x y = record { kept = kept_then d e f x.kept y.kept; queues = y.queues ∙ x.queues }

-- ---- values

pub spread_still : (x : End) (n : ℕ) (d : Draft) → Still d (spread x n d)
spread_still x zero d = record { kept = record { uses = refl; edges = refl; heads = refl; tails = refl }; queues = refl }
spread_still x (suc zero) d = still_own d
spread_still x (suc (suc n)) d = record { kept = record { uses = refl; edges = refl; heads = refl; tails = refl }; queues = refl }

pub defined_still : (p : Place) (w : ℕ) (d : Draft) → Still d (defined p w d)
defined_still p w d =
    let x : End = record { place = p; width = w } in
    let s = spread_still x (uses_of_next d) d in
    record { kept = record { uses = s.kept.uses; edges = s.kept.edges; heads = s.kept.heads; tails = s.kept.tails }; queues = s.queues }

-- behind what is laid for the value
pub defined_after : (p : Place) (w : ℕ) (d e : Draft) → Still d e → Still d (defined p w e)
defined_after p w d e s = still_then d e (defined p w e) s (defined_still p w e)

pub forked_still : (n : ℕ) (d : Draft) → Still d (control_forked n d)
forked_still zero d = still_own d
forked_still (suc n) d = record { kept = record { uses = refl; edges = refl; heads = refl; tails = refl }; queues = refl }

-- ---- steps and groups

pub const_still : (w n : ℕ) (d : Draft) → Still d (const_laid w n d)
const_still w n d =
    let e = triggered d in
    let f = fed (trigger_of d) (next e) 0 (with_unit (Const w n) e) in
    defined_after (at (next e) 0) w d f (record { kept = record { uses = refl; edges = refl; heads = refl; tails = refl }; queues = refl })

pub one_still : (op : Unary) (a : ℕ) (d : Draft) → Still d (one_laid op a d)
one_still op a d =
    let e = copied a d in
    let f = fed (copy_of a d) (next e) 0 (with_unit (Op1 op) e) in
    defined_after (at (next e) 0) (op1_out op) d f (record { kept = record { uses = refl; edges = refl; heads = refl; tails = refl }; queues = refl })

pub two_still : (op : Binary) (a b : ℕ) (d : Draft) → Still d (two_laid op a b d)
two_still op a b d =
    let e = copied a d in
    let f = copied b e in
    let g = fed (copy_of b e) (next f) 1 (fed (copy_of a d) (next f) 0 (with_unit (Op2 op) f)) in
    defined_after (at (next f) 0) (op2_out op) d g (record { kept = record { uses = refl; edges = refl; heads = refl; tails = refl }; queues = refl })

pub select_still : (w c a b : ℕ) (d : Draft) → Still d (select_laid w c a b d)
select_still w c a b d =
    let e = copied c d in
    let f = copied a e in
    let g = copied b f in
    let k = fed (copy_of b f) (next g) 2 (fed (copy_of a e) (next g) 1 (fed (copy_of c d) (next g) 0 (with_unit (Select w) g))) in
    defined_after (at (next g) 0) w d k (record { kept = record { uses = refl; edges = refl; heads = refl; tails = refl }; queues = refl })

pub read_still : (a w p : ℕ) (d : Draft) → Still d (read_laid a w p d)
read_still a w p d =
    let e = copied p d in
    let f = fed (copy_of p d) (next e) 0 (with_unit (Read a) e) in
    defined_after (at (next e) 0) w d f (record { kept = record { uses = refl; edges = refl; heads = refl; tails = refl }; queues = refl })

-- before the queue is at its next port
pub loaded_still : (q : Queue) (w p : ℕ) (d : Draft) → Still d (defined (at q.unit (value_place q)) w (fed (copy_of p d) q.unit (addr_place q) (copied p d)))
loaded_still q w p d =
    let f = fed (copy_of p d) q.unit (addr_place q) (copied p d) in
    defined_after (at q.unit (value_place q)) w d f (record { kept = record { uses = refl; edges = refl; heads = refl; tails = refl }; queues = refl })

load_kept : (o : Option Queue) (a w p : ℕ) (d : Draft) → Kept d (load_by o a w p d)
load_kept None a w p d = (read_still a w p d).kept
load_kept (Some q) a w p d = let s = (loaded_still q w p d).kept in record { uses = s.uses; edges = s.edges; heads = s.heads; tails = s.tails }

store_kept : (o : Option Queue) (a p v : ℕ) (d : Draft) → Kept d (store_by o a p v d)
store_kept None a p v d = record { uses = refl; edges = refl; heads = refl; tails = refl }
store_kept (Some q) a p v d = record { uses = refl; edges = refl; heads = refl; tails = refl }

made_kept : (arrays : List Array) (i : Instr) (d : Draft) → Kept d (step_made arrays i d)
made_kept arrays (step.Const w n) d = (const_still w n d).kept
made_kept arrays (step.One op a) d = (one_still op a d).kept
made_kept arrays (step.Two op a b) d = (two_still op a b d).kept
made_kept arrays (step.Select w c a b) d = (select_still w c a b d).kept
made_kept arrays (step.Load a p) d = load_kept (queue_of d a) a (width_at arrays a) p d
made_kept arrays (step.Store a p v) d = store_kept (queue_of d a) a p v d

pub if_kept : (t : Bool) (d e f : Draft) → Kept d e → Kept d f → Kept d (cond t e f)
if_kept true d e f x y = x
if_kept false d e f x y = y

pub step_kept : (arrays : List Array) (i : Instr) (d : Draft) → Kept d (step_laid arrays i d)
step_kept arrays i d = if_kept (is_laid i (uses_of_next d)) d (step_made arrays i d) (undefined d) (made_kept arrays i d) (record { uses = refl; edges = refl; heads = refl; tails = refl })

pub steps_kept : (arrays : List Array) (is : List Instr) (d : Draft) → Kept d (steps_laid arrays is d)
steps_kept arrays [] d = kept_own d
steps_kept arrays (i ∷ is) d = let e = step_laid arrays i d in kept_then d e (steps_laid arrays is e) (step_kept arrays i d) (steps_kept arrays is e)

allocated_kept : (a : ℕ) (o : Option Queue) (d : Draft) → Kept d (allocated_by a o d)
allocated_kept a None d = kept_own d
allocated_kept a (Some q) d = record { uses = refl; edges = refl; heads = refl; tails = refl }

pub allocations_kept : (b : ℕ) (xs : List Access) (d : Draft) → Kept d (allocations b xs d)
allocations_kept b [] d = kept_own d
allocations_kept b (x ∷ xs) d =
    let e = allocated x.array d in
    if_kept (x.block == b) d (allocations b xs e) d (kept_then d e (allocations b xs e) (allocated_kept x.array (queue_of d x.array) d) (allocations_kept b xs e)) (kept_own d)

-- ---- heads

pub muxes_still : (ins : ℕ) (ws : List ℕ) (d : Draft) → Still d (muxes_laid ins ws d)
muxes_still ins [] d = still_own d
muxes_still ins (w ∷ ws) d =
    still_then d (mux_laid ins w d) (muxes_laid ins ws (mux_laid ins w d)) (record { kept = record { uses = refl; edges = refl; heads = refl; tails = refl }; queues = refl }) (muxes_still ins ws (mux_laid ins w d))

pub args_still : (u : ℕ) (ws : List ℕ) (d : Draft) → Still d (args_defined u ws d)
args_still u [] d = still_own d
args_still u (w ∷ ws) d = let e = defined (at u 0) w d in still_then d e (args_defined (plus u 1) ws e) (defined_still (at u 0) w d) (args_still (plus u 1) ws e)

pub ends_still : (es : List End) (d : Draft) → Still d (ends_defined es d)
ends_still [] d = still_own d
ends_still (x ∷ es) d = let e = defined x.place x.width d in still_then d e (ends_defined es e) (defined_still x.place x.width d) (ends_still es e)

-- ---- jumps, but their edges

pub bare_still : (n : ℕ) (j : Jump) (d : Draft) → Still d (bare_buffered n j d)
bare_still n (Go to) d = if_still (length d.chans == n)
  where
    if_still : (t : Bool) → Still d (cond t (buffered d) d)
    if_still true = record { kept = record { uses = refl; edges = refl; heads = refl; tails = refl }; queues = refl }
    if_still false = still_own d
bare_still n (Two c a b) d = still_own d
bare_still n (Return v) d = still_own d

pub passed_still : (t : Bool) (x : End) (d : Draft) → Still d (passed t x d)
passed_still true x d = record { kept = record { uses = refl; edges = refl; heads = refl; tails = refl }; queues = refl }
passed_still false x d = still_own d

pub all_passed_still : (h n : ℕ) (vs : List ℕ) (d : Draft) → Still d (all_passed h n vs d)
all_passed_still h n [] d = still_own d
all_passed_still h n (v ∷ vs) d =
    let x = copy_of v d in
    let t = is_of_head x.place h n in
    let e = copied v d in
    let f = passed t x e in
    still_then d f (all_passed h n vs f)
    (still_then d e f (record { kept = record { uses = refl; edges = refl; heads = refl; tails = refl }; queues = refl }) (passed_still t x e))
    (all_passed_still h n vs f)

pub branched_still : (c v y n : ℕ) (d : Draft) → Still d (branched c v y n d)
branched_still c v y n d =
    let e = copied c d in
    let f = copied v e in
    let w = (copy_of v e).width in
    let u = next f in
    let b = fed (copy_of v e) u 1 (fed (copy_of c d) u 0 (with_unit (Branch w) f)) in
    let one : End = record { place = at u 0; width = w } in
    let two : End = record { place = at u 1; width = w } in
    let g = spread one y b in
    still_then d g (spread two n g) (still_then d b g (record { kept = record { uses = refl; edges = refl; heads = refl; tails = refl }; queues = refl }) (spread_still one y b)) (spread_still two n g)

pub branched_if_still : (c v y n : ℕ) (d : Draft) → Still d (branched_if c v y n d)
branched_if_still c v zero zero d = still_own d
branched_if_still c v (suc y) n d = branched_still c v (suc y) n d
branched_if_still c v zero (suc n) d = branched_still c v zero (suc n) d

pub all_branched_still : (c v : ℕ) (ys ns : List ℕ) (d : Draft) → Still d (all_branched c v ys ns d)
all_branched_still c v [] ns d = still_own d
all_branched_still c v (y ∷ ys) ns d =
    let e = branched_if c v y (get_or ns v 0) d in
    still_then d e (all_branched c (plus v 1) ys ns e) (branched_if_still c v y (get_or ns v 0) d) (all_branched_still c (plus v 1) ys ns e)

pub control_branched_still : (c : ℕ) (d : Draft) → Still d (control_branched c d)
control_branched_still c d = record { kept = record { uses = refl; edges = refl; heads = refl; tails = refl }; queues = refl }

-- ---- heads: a head more, and nothing else

pub record Headed (d e : Draft) (h : ℕ) : Type 0 where
  pub edges : e.edges ≡ d.edges
  pub heads : e.heads ≡ d.heads ++ h ∷ []
  pub tails : e.tails ≡ d.tails
  pub queues : e.queues ≡ d.queues

pub opened_headed : (ins : ℕ) (ws : List ℕ) (t : ℕ) (d : Draft) → Headed d (opened ins ws t d) (next d)
opened_headed ins ws t d =
    let n = plus t (number (length ws)) in
    let m = merged ins d in
    let e = control_forked n m in
    let x = muxes_laid ins ws e in
    let s = still_then m e (args_defined (next e) ws x) (forked_still n m) (still_then e x (args_defined (next e) ws x) (muxes_still ins ws e) (args_still (next e) ws x)) in
    record { edges = s.kept.edges; heads = s.kept.heads; tails = s.kept.tails; queues = s.queues }

pub passed_in_headed : (x : Edge) (t : ℕ) (d : Draft) → Headed d (passed_in x t d) 0
passed_in_headed x t d =
    let c = record (with_control x.control d) { heads = d.heads ++ 0 ∷ [] } in
    let e = control_forked t c in
    let s = still_then c e (ends_defined x.with e) (forked_still t c) (ends_still x.with e) in
    record { edges = s.kept.edges; heads = s.kept.heads; tails = s.kept.tails; queues = s.queues }

-- the unit of a head, 0 where it has none
abbrev pub unit_of : Option Edge → Draft → ℕ
unit_of None d = next d
unit_of (Some x) d = 0

pub head_by_headed : (o : Option Edge) (ins : ℕ) (ws : List ℕ) (t : ℕ) (d : Draft) → Headed d (head_by o ins ws t d) (unit_of o d)
head_by_headed None ins ws t d = opened_headed ins ws t d
head_by_headed (Some x) ins ws t d = passed_in_headed x t d

abbrev pub head_unit : ℕ → ℕ → Draft → ℕ
head_unit ins target d = unit_of (tail_of ins target d) d

pub head_headed : (ins target : ℕ) (ws us : List ℕ) (t : ℕ) (d : Draft) → Headed d (head_laid ins target ws us t d) (head_unit ins target d)
head_headed ins target ws us t d = same (tail_of ins target d)
  where
    same : (o : Option Edge) → Headed d (head_by o ins ws t (record d { uses = us; ends = [] })) (unit_of o d)
    same None = let h = opened_headed ins ws t (record d { uses = us; ends = [] }) in record { edges = h.edges; heads = h.heads; tails = h.tails; queues = h.queues }
    same (Some x) = let h = passed_in_headed x t (record d { uses = us; ends = [] }) in record { edges = h.edges; heads = h.heads; tails = h.tails; queues = h.queues }

-- ---- jumps: edges more, and nothing else

gone_if_still : (t : Bool) (h n : ℕ) (vs : List ℕ) (d : Draft) → Still d (cond t (buffered (all_passed h n vs d)) (all_passed h n vs d))
gone_if_still true h n vs d = let s = all_passed_still h n vs d in record { kept = record { uses = s.kept.uses; edges = s.kept.edges; heads = s.kept.heads; tails = s.kept.tails }; queues = s.queues }
gone_if_still false h n vs d = all_passed_still h n vs d

pub all_gone_still : (to : ℕ) (vs : List ℕ) (d : Draft) → Still d (all_gone to vs d)
all_gone_still to vs d =
    let h = get_or d.heads to 0 in
    let n = number (length vs) in
    gone_if_still (is_of_head (all_passed h n vs d).control h n) h n vs d

-- before the edges of a jump to one of two targets are there
pub parted_still : (c : ℕ) (ys ns : List ℕ) (d : Draft) → Still d (control_branched c (all_branched c 0 ys ns d))
parted_still c ys ns d = let e = all_branched c 0 ys ns d in still_then d e (control_branched c e) (all_branched_still c 0 ys ns d) (control_branched_still c e)

pub jump_queues : (join : ℕ) (j : Jump) (d : Draft) → (jump_laid join j d).queues ≡ d.queues
jump_queues join (Go to) d = (all_gone_still to.block to.with d).queues
jump_queues join (Two c a b) d = (parted_still c (handed_often (length d.ends) a) (handed_often (length d.ends) b) d).queues
jump_queues join (Return v) d = (all_gone_still join (result_list v) d).queues

pub jump_heads : (join : ℕ) (j : Jump) (d : Draft) → (jump_laid join j d).heads ≡ d.heads
jump_heads join (Go to) d = (all_gone_still to.block to.with d).kept.heads
jump_heads join (Two c a b) d = (parted_still c (handed_often (length d.ends) a) (handed_often (length d.ends) b) d).kept.heads
jump_heads join (Return v) d = (all_gone_still join (result_list v) d).kept.heads
