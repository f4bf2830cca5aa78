-- Each part that is laid extends the draft, so what stands of the whole stands of its beginning.
use Rattle.std.proofs.Common.{◌≡◌, ℕ, zero, suc, ◌≤◌, ◌+◌, List, [], ◌∷◌, ◌++◌, length, Bool, true, false, refl, sym, subst, ap, ◌∙◌, arith, append_assoc, append-nil, length-append}
use Rattle.std.specs.Prelude.{slice_get, Option, Some}
use Rattle.std.specs.List.{Contains}
use Rattle.std.proofs.lemmas.List.Elements.{Contains-append_left}
use Rattle.el_base.specs.declared.ty.Array.{Array}
use Rattle.el_base.specs.declared.ty.Ty.{Ty}
use Rattle.el_base.specs.declared.operation.Op1.{Op1 as Unary}
use Rattle.el_base.specs.declared.operation.Op2.{Op2 as Operation}
use Rattle.el_base.specs.declared.ty.Scalar.{Scalar}
use Rattle.ir.specs.declared.graph.Block.{Block}
use Rattle.ir.specs.declared.graph.Jump.{Jump}
use Rattle.ir.specs.declared.graph.To.{To}
use Rattle.ir.specs.declared.groups.Access.{Access}
use Rattle.ir.specs.declared.groups.Groups.{Groups}
use Rattle.ir.specs.declared.instr.Instr.{Instr}
use Rattle.ir.specs.Graphs.{Graph}
use Rattle.net_types.specs.declared.net.Net.{Net}
use Rattle.net_types.specs.declared.net.Place.{Place}
use Rattle.net_types.specs.declared.net.Unit.{Unit as Kind}
use Rattle.circuit_build.specs.declared.draft.Draft.{Draft}
use Rattle.circuit_build.specs.declared.draft.End.{End}
use Rattle.circuit_build.specs.declared.draft.Queue.{Queue}
use Rattle.circuit_build.specs.declared.draft.Edge.{Edge}
use Rattle.circuit_build.specs.Blocks.{muxes_laid, args_defined, ends_defined, opened, passed_in, head_laid, allocations, bare_buffered, block_opened, block_grouped, block_worked, block_laid, blocks_laid}
use Rattle.circuit_build.specs.Built.{front_of, with_blocks, with_join, with_feeders, whole_draft}
use Rattle.circuit_build.specs.Drafts.{with_unit, with_chan, fed, forked, control_forked, spread, defined, sunk}
use Rattle.circuit_build.specs.Endings.{all_ended, exited, feeder_if, feeders_laid, join_laid}
use Rattle.circuit_build.specs.Fronts.{started, params_laid, entered}
use Rattle.circuit_build.specs.Jumps.{passed, all_passed, all_gone, gone, branched, branched_if, all_branched, control_branched, parted, jump_laid}
use Rattle.circuit_build.specs.Steps.{through_queue, allocated_by, const_laid, one_laid, two_laid, select_laid, load_by, store_by, step_laid, steps_laid}
use Rattle.circuit_build.proofs.CountBooks.{chan}
use Rattle.circuit_build.proofs.Keeps as keeps
use Rattle.circuit_build.proofs.Keeps.{Laid, free_jump, free_block, free, free_few}
use Rattle.circuit_build.proofs.LaySections.{Extends, Within}

-- ---- extensions

pub extends_own : (d : Draft) → Extends d d
extends_own d = record { more_units = []; more_chans = []; units = sym (append-nil d.units); chans = sym (append-nil d.chans) }

pub extends_then : (d e f : Draft) → Extends d e → Extends e f → Extends d f
extends_then d e f p q = record {
  more_units = p.more_units ++ q.more_units;
  more_chans = p.more_chans ++ q.more_chans;
  units = q.units ∙ ap (λ us. us ++ q.more_units) p.units ∙ append_assoc d.units p.more_units q.more_units;
  chans = q.chans ∙ ap (λ cs. cs ++ q.more_chans) p.chans ∙ append_assoc d.chans p.more_chans q.more_chans;
}

pub extends_long : (d e : Draft) → Extends d e → length d.units ≤ length e.units
extends_long d e x = let l = length-append d.units x.more_units in let u = ap length x.units in omega (arith, l, u)

pub get_front : {X : Type 0} → (xs ys : List X) (i : ℕ) (x : X) → slice_get xs i ≡ Some x → slice_get (xs ++ ys) i ≡ Some x
get_front [] ys i x e = absurd (cc)
get_front (y ∷ xs) ys zero x e = e
get_front (y ∷ xs) ys (suc i) x e = get_front xs ys i x e

pub get_pushed : {X : Type 0} → (xs ys : List X) (x : X) → slice_get (xs ++ x ∷ ys) (length xs) ≡ Some x
get_pushed [] ys x = refl
get_pushed (y ∷ xs) ys x = get_pushed xs ys x

pub extends_unit : (d e : Draft) (u : ℕ) (k : Kind) → Extends d e → slice_get d.units u ≡ Some k → slice_get e.units u ≡ Some k
extends_unit d e u k x g = ap (λ us. slice_get us u) x.units ∙ get_front d.units x.more_units u k g

-- what stands of the longer draft
pub within_less : (net : Net) (d e : Draft) → Extends d e → Within net e → Within net d
within_less net d e x h =
    let long = extends_long d e x in
    let less = h.less in
    record {
      unit = λ u k g. h.unit u k (extends_unit d e u k x g);
      wire = λ c g. h.wire c (subst (λ cs. Contains cs c) (sym x.chans) (Contains-append_left d.chans x.more_chans c g));
      less = omega (arith, long, less);
      few = h.few;
    }

-- ---- what is laid extends

abbrev pub Any : Kind → Type 0
Any k = Unit {0}

abbrev pub AnyNumber : ℕ → Type 0
AnyNumber n = Unit {0}

pub any_laid : Laid Any AnyNumber AnyNumber
any_laid = record { const = λ w n. tt; op1 = λ op. tt; op2 = λ op. tt; select = λ w. tt; fork1 = λ w. tt; forks = λ w n l o. tt; mux = λ w n i. tt; merge = λ n i. tt; branch = λ w. tt; sink = λ w. tt }

pub unit_more : (b : Draft) (k : Kind) (d : Draft) → Any k → Extends b d → Extends b (with_unit k d)
unit_more b k d f h = record { more_units = h.more_units ++ k ∷ []; more_chans = h.more_chans; units = ap (λ us. us ++ k ∷ []) h.units ∙ append_assoc b.units h.more_units (k ∷ []); chans = h.chans }

pub chan_more : (b : Draft) (p q : Place) (w : ℕ) (c : Bool) (d : Draft) → Extends b d → Extends b (with_chan p q w c d)
chan_more b p q w c d h = record { more_units = h.more_units; more_chans = h.more_chans ++ chan p q w c ∷ []; units = h.units; chans = ap (λ cs. cs ++ chan p q w c ∷ []) h.chans ∙ append_assoc b.chans h.more_chans (chan p q w c ∷ []) }

pub same_more : (b d e : Draft) → e.units ≡ d.units → e.chans ≡ d.chans → Extends b d → Extends b e
same_more b d e u c h = record { more_units = h.more_units; more_chans = h.more_chans; units = u ∙ h.units; chans = c ∙ h.chans }

module _ (d : Draft) where
  pub with_unit_extends : (k : Kind) → Extends d (with_unit k d)
  with_unit_extends k = unit_more d k d tt (extends_own d)

  pub with_chan_extends : (p q : Place) (w : ℕ) (c : Bool) → Extends d (with_chan p q w c d)
  with_chan_extends p q w c = chan_more d p q w c d (extends_own d)

  pub fed_extends : (x : End) (u p : ℕ) → Extends d (fed x u p d)
  fed_extends x u p = keeps.fed_keeps (Extends d) Any AnyNumber AnyNumber any_laid (unit_more d) (chan_more d) (same_more d) x u p d (extends_own d)

  pub forked_extends : (n : ℕ) → Extends d (forked n d)
  forked_extends n = keeps.forked_keeps (Extends d) Any AnyNumber AnyNumber any_laid (unit_more d) (chan_more d) (same_more d) n tt d (extends_own d)

  pub control_extends : (n : ℕ) → Extends d (control_forked n d)
  control_extends n = keeps.control_keeps (Extends d) Any AnyNumber AnyNumber any_laid (unit_more d) (chan_more d) (same_more d) n tt d (extends_own d)

  pub sunk_extends : (x : End) → Extends d (sunk x d)
  sunk_extends x = keeps.sunk_keeps (Extends d) Any AnyNumber AnyNumber any_laid (unit_more d) (chan_more d) (same_more d) x d (extends_own d)

  pub spread_extends : (x : End) (n : ℕ) → Extends d (spread x n d)
  spread_extends x n = keeps.spread_keeps (Extends d) Any AnyNumber AnyNumber any_laid (unit_more d) (chan_more d) (same_more d) x n tt d (extends_own d)

  pub defined_extends : (p : Place) (w : ℕ) → Extends d (defined p w d)
  defined_extends p w = keeps.defined_keeps (Extends d) Any AnyNumber AnyNumber any_laid (unit_more d) (chan_more d) (same_more d) p w d tt (extends_own d)

  -- ---- steps

  pub through_extends : (q : Queue) (p : ℕ) → Extends d (through_queue q p d)
  through_extends q p = keeps.through_keeps (Extends d) Any AnyNumber AnyNumber any_laid (unit_more d) (chan_more d) (same_more d) q p d (extends_own d)

  pub allocated_by_extends : (a : ℕ) (q : Option Queue) → Extends d (allocated_by a q d)
  allocated_by_extends a q = keeps.allocated_keeps (Extends d) Any AnyNumber AnyNumber any_laid (unit_more d) (chan_more d) (same_more d) a q d (extends_own d)

  pub const_extends : (w n : ℕ) → Extends d (const_laid w n d)
  const_extends w n = keeps.const_keeps (Extends d) Any AnyNumber AnyNumber any_laid (unit_more d) (chan_more d) (same_more d) w n d (λ i. tt) (extends_own d)

  pub one_extends : (op : Unary) (a : ℕ) → Extends d (one_laid op a d)
  one_extends op a = keeps.one_keeps (Extends d) Any AnyNumber AnyNumber any_laid (unit_more d) (chan_more d) (same_more d) op a d (λ i. tt) (extends_own d)

  pub two_extends : (op : Operation) (a b : ℕ) → Extends d (two_laid op a b d)
  two_extends op a b = keeps.two_keeps (Extends d) Any AnyNumber AnyNumber any_laid (unit_more d) (chan_more d) (same_more d) op a b d (λ i. tt) (extends_own d)

  pub select_extends : (w c a b : ℕ) → Extends d (select_laid w c a b d)
  select_extends w c a b = keeps.select_keeps (Extends d) Any AnyNumber AnyNumber any_laid (unit_more d) (chan_more d) (same_more d) w c a b d (λ i. tt) (extends_own d)

  pub load_extends : (q : Option Queue) (a w p : ℕ) → Extends d (load_by q a w p d)
  load_extends q a w p = keeps.load_keeps (Extends d) Any AnyNumber AnyNumber any_laid (unit_more d) (chan_more d) (same_more d) q a w p (λ e. tt) d (λ i. tt) (extends_own d)

  pub store_extends : (q : Option Queue) (a p v : ℕ) → Extends d (store_by q a p v d)
  store_extends q a p v = keeps.store_keeps (Extends d) Any AnyNumber AnyNumber any_laid (unit_more d) (chan_more d) (same_more d) q a p v d (extends_own d)

  pub step_extends : (arrays : List Array) (i : Instr) → Extends d (step_laid arrays i d)
  step_extends arrays i = keeps.step_keeps (Extends d) Any AnyNumber AnyNumber any_laid (unit_more d) (chan_more d) (same_more d) (λ a. tt) arrays i d (λ i. tt) (extends_own d)

  pub steps_extend : (arrays : List Array) (is : List Instr) → Extends d (steps_laid arrays is d)
  steps_extend arrays is = keeps.steps_keep (Extends d) Any AnyNumber AnyNumber any_laid (unit_more d) (chan_more d) (same_more d) (λ a. tt) arrays is d (λ i. tt) (extends_own d)

  -- ---- jumps

  pub bare_extends : (n : ℕ) (j : Jump) → Extends d (bare_buffered n j d)
  bare_extends n j = keeps.bare_keeps (Extends d) Any AnyNumber AnyNumber any_laid (unit_more d) (chan_more d) (same_more d) n j d (extends_own d)

  pub passed_extends : (t : Bool) (x : End) → Extends d (passed t x d)
  passed_extends t x = keeps.passed_keeps (Extends d) Any AnyNumber AnyNumber any_laid (unit_more d) (chan_more d) (same_more d) t x d (extends_own d)

  pub all_passed_extends : (h n : ℕ) (vs : List ℕ) → Extends d (all_passed h n vs d)
  all_passed_extends h n vs = keeps.all_passed_keep (Extends d) Any AnyNumber AnyNumber any_laid (unit_more d) (chan_more d) (same_more d) h n vs d (extends_own d)

  pub all_gone_extends : (to : ℕ) (vs : List ℕ) → Extends d (all_gone to vs d)
  all_gone_extends to vs = keeps.all_gone_keep (Extends d) Any AnyNumber AnyNumber any_laid (unit_more d) (chan_more d) (same_more d) to vs d (extends_own d)

  pub gone_extends : (to : ℕ) (vs : List ℕ) → Extends d (gone to vs d)
  gone_extends to vs = keeps.gone_keeps (Extends d) Any AnyNumber AnyNumber any_laid (unit_more d) (chan_more d) (same_more d) to vs d (extends_own d)

  pub branched_extends : (c v y n : ℕ) → Extends d (branched c v y n d)
  branched_extends c v y n = keeps.branched_keeps (Extends d) Any AnyNumber AnyNumber any_laid (unit_more d) (chan_more d) (same_more d) c v y n tt tt d (extends_own d)

  pub branched_if_extends : (c v y n : ℕ) → Extends d (branched_if c v y n d)
  branched_if_extends c v y n = keeps.branched_if_keeps (Extends d) Any AnyNumber AnyNumber any_laid (unit_more d) (chan_more d) (same_more d) c v y n tt tt d (extends_own d)

  pub all_branched_extends : (c v : ℕ) (ys ns : List ℕ) → Extends d (all_branched c v ys ns d)
  all_branched_extends c v ys ns = keeps.all_branched_keep (Extends d) Any AnyNumber AnyNumber any_laid (unit_more d) (chan_more d) (same_more d) c v ys ns (λ i. tt) (λ i. tt) d (extends_own d)

  pub control_branched_extends : (c : ℕ) → Extends d (control_branched c d)
  control_branched_extends c = keeps.control_branched_keeps (Extends d) Any AnyNumber AnyNumber any_laid (unit_more d) (chan_more d) (same_more d) c d (extends_own d)

  pub parted_extends : (c : ℕ) (a b : To) → Extends d (parted c a b d)
  parted_extends c a b = keeps.parted_keeps (Extends d) Any AnyNumber AnyNumber any_laid (unit_more d) (chan_more d) (same_more d) c a b d (λ n i. tt, λ n i. tt) (extends_own d)

  pub jump_extends : (join : ℕ) (j : Jump) → Extends d (jump_laid join j d)
  jump_extends join j = keeps.jump_keeps (Extends d) Any AnyNumber AnyNumber any_laid (unit_more d) (chan_more d) (same_more d) join j d (free_jump j) (extends_own d)

  -- ---- blocks

  pub muxes_extend : (ins : ℕ) (ws : List ℕ) → Extends d (muxes_laid ins ws d)
  muxes_extend ins ws = keeps.muxes_keep (Extends d) Any AnyNumber AnyNumber any_laid (unit_more d) (chan_more d) (same_more d) ins tt ws d (extends_own d)

  pub args_extend : (u : ℕ) (ws : List ℕ) → Extends d (args_defined u ws d)
  args_extend u ws = keeps.args_keep (Extends d) Any AnyNumber AnyNumber any_laid (unit_more d) (chan_more d) (same_more d) u ws d (λ i. tt) (extends_own d)

  pub ends_extend : (es : List End) → Extends d (ends_defined es d)
  ends_extend es = keeps.ends_keep (Extends d) Any AnyNumber AnyNumber any_laid (unit_more d) (chan_more d) (same_more d) es d (λ i. tt) (extends_own d)

  pub opened_extends : (ins : ℕ) (ws : List ℕ) (t : ℕ) → Extends d (opened ins ws t d)
  opened_extends ins ws t = keeps.opened_keeps (Extends d) Any AnyNumber AnyNumber any_laid (unit_more d) (chan_more d) (same_more d) ins tt ws t d (λ i. tt) tt (extends_own d)

  pub passed_in_extends : (x : Edge) (t : ℕ) → Extends d (passed_in x t d)
  passed_in_extends x t = keeps.passed_in_keeps (Extends d) Any AnyNumber AnyNumber any_laid (unit_more d) (chan_more d) (same_more d) x t d (λ i. tt) tt (extends_own d)

  pub head_extends : (ins target : ℕ) (ws us : List ℕ) (t : ℕ) → Extends d (head_laid ins target ws us t d)
  head_extends ins target ws us t = keeps.head_keeps (Extends d) Any AnyNumber AnyNumber any_laid (unit_more d) (chan_more d) (same_more d) ins target tt ws us t d (λ i. tt) tt tt (extends_own d)

  pub allocations_extend : (b : ℕ) (xs : List Access) → Extends d (allocations b xs d)
  allocations_extend b xs = keeps.allocations_keep (Extends d) Any AnyNumber AnyNumber any_laid (unit_more d) (chan_more d) (same_more d) b xs d (extends_own d)

  pub block_opened_extends : (ins b : ℕ) (k : Block) (xs : List Access) → Extends d (block_opened ins b k xs d)
  block_opened_extends ins b k xs = keeps.block_opened_keeps (Extends d) Any AnyNumber AnyNumber any_laid (unit_more d) (chan_more d) (same_more d) ins b tt k (free_block k) xs d (extends_own d)

  pub block_grouped_extends : (ins b : ℕ) (k : Block) (xs : List Access) → Extends d (block_grouped ins b k xs d)
  block_grouped_extends ins b k xs = keeps.block_grouped_keeps (Extends d) Any AnyNumber AnyNumber any_laid (unit_more d) (chan_more d) (same_more d) ins b tt k (free_block k) xs d (extends_own d)

  pub block_worked_extends : (arrays : List Array) (ins b : ℕ) (k : Block) (xs : List Access) → Extends d (block_worked arrays ins b k xs d)
  block_worked_extends arrays ins b k xs = keeps.block_worked_keeps (Extends d) Any AnyNumber AnyNumber any_laid (unit_more d) (chan_more d) (same_more d) (λ a. tt) arrays ins b tt k (free_block k) xs d (extends_own d)

  pub block_extends : (arrays : List Array) (join ins b : ℕ) (k : Block) (xs : List Access) → Extends d (block_laid arrays join ins b k xs d)
  block_extends arrays join ins b k xs = keeps.block_keeps (Extends d) Any AnyNumber AnyNumber any_laid (unit_more d) (chan_more d) (same_more d) (λ a. tt) arrays join ins b tt k (free_block k) xs d (extends_own d)

  pub blocks_extend : (arrays : List Array) (join : ℕ) (counts : List ℕ) (b : ℕ) (ks : List Block) (xs : List Access) → Extends d (blocks_laid arrays join counts b ks xs d)
  blocks_extend arrays join counts b ks xs = keeps.blocks_keep (Extends d) Any AnyNumber AnyNumber any_laid (unit_more d) (chan_more d) (same_more d) (λ a. tt) arrays join counts (λ t. tt) b ks (free ks) xs d (extends_own d)

  -- ---- the beginning and the end

  pub params_extend : (j : ℕ) (ss : List Scalar) → Extends d (params_laid j ss d)
  params_extend j ss = keeps.params_keep (Extends d) Any AnyNumber AnyNumber any_laid (unit_more d) (chan_more d) (same_more d) (λ i. tt) j ss d (extends_own d)

  pub all_ended_extends : (qs : List (Option Queue)) → Extends d (all_ended qs d)
  all_ended_extends qs = keeps.all_ended_keep (Extends d) Any AnyNumber AnyNumber any_laid (unit_more d) (chan_more d) (same_more d) qs d (extends_own d)

  pub exited_extends : (r : Option Ty) → Extends d (exited r d)
  exited_extends r = keeps.exited_keeps (Extends d) Any AnyNumber AnyNumber any_laid (unit_more d) (chan_more d) (same_more d) tt r d (extends_own d)

  pub feeder_extends : (n t : ℕ) (ws : List ℕ) → Extends d (feeder_if n t ws d)
  feeder_extends n t ws = keeps.feeder_keeps (Extends d) Any AnyNumber AnyNumber any_laid (unit_more d) (chan_more d) (same_more d) n t ws tt d (extends_own d)

  pub feeders_extend : (counts : List ℕ) (b : ℕ) (ks : List Block) → Extends d (feeders_laid counts b ks d)
  feeders_extend counts b ks = keeps.feeders_keep (Extends d) Any AnyNumber AnyNumber any_laid (unit_more d) (chan_more d) (same_more d) counts b ks (free ks) d (extends_own d)

  pub join_extends : (ins join : ℕ) (r : Option Ty) → Extends d (join_laid ins join r d)
  join_extends ins join r = keeps.join_keeps (Extends d) Any AnyNumber AnyNumber any_laid (unit_more d) (chan_more d) (same_more d) tt free_few ins join tt r d (extends_own d)

module _ (g : Graph) (gs : Groups) where
  pub entered_front : Extends (entered g.scalars (started (length g.blocks + 1))) (front_of g gs)
  entered_front = let d = entered g.scalars (started (length g.blocks + 1)) in keeps.queues_keep (Extends d) Any AnyNumber AnyNumber any_laid (unit_more d) (chan_more d) (same_more d) (λ a m ps hs. tt) g.blocks gs.of 0 g.arrays d (extends_own d)

  pub front_blocks : Extends (front_of g gs) (with_blocks g gs)
  front_blocks = let d = front_of g gs in keeps.blocks_of_keep (Extends d) Any AnyNumber AnyNumber any_laid (unit_more d) (chan_more d) (same_more d) (λ a. tt) g gs (λ t. tt) (free g.blocks) (extends_own d)

  pub blocks_feeders : Extends (with_blocks g gs) (with_feeders g gs)
  blocks_feeders = let d = with_blocks g gs in keeps.feeders_of_keep (Extends d) Any AnyNumber AnyNumber any_laid (unit_more d) (chan_more d) (same_more d) g gs (free g.blocks) free_few (extends_own d)

  pub feeders_join : Extends (with_feeders g gs) (with_join g gs)
  feeders_join = let d = with_feeders g gs in keeps.join_keeps (Extends d) Any AnyNumber AnyNumber any_laid (unit_more d) (chan_more d) (same_more d) tt free_few _ _ tt g.result d (extends_own d)

  pub join_whole : Extends (with_join g gs) (whole_draft g gs)
  join_whole = let d = with_join g gs in keeps.rest_keeps (Extends d) Any AnyNumber AnyNumber any_laid (unit_more d) (chan_more d) (same_more d) g gs (extends_own d)
