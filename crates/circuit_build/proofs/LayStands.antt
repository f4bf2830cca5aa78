-- What is known of the draft before each block: its heads, its queues, and what is laid after it.
use Rattle.std.proofs.Common.{◌≡◌, ℕ, zero, suc, ◌+◌, ◌*◌, ◌^◌, ◌<◌, ◌≤◌, ◌⊎◌, List, [], ◌∷◌, ◌++◌, length, get_or, Option, Some, None, true, refl, sym, ap, ◌∙◌, subst, inl, inr, arith, append_assoc, append-nil, length-append}
use Rattle.std.specs.Prelude.{All, slice_get}
use Rattle.std.proofs.lemmas.Bool.{cases_lt}
use Rattle.std.proofs.lemmas.List.Elements.{All-nil, All-cons, All-head, All-tail, All-append, All-contains}
use Rattle.std.proofs.lemmas.List.{get_or_append_left}
use Rattle.std.proofs.lemmas.Option.{get_or_from_slice_get, slice_get_within}
use Rattle.std.proofs.Math.Seq.{get_or-append_seam}
use Rattle.el_base.specs.declared.ty.Ty.{Ty}
use Rattle.ir.specs.declared.graph.Block.{Block}
use Rattle.ir.specs.declared.groups.Access.{Access}
use Rattle.ir.specs.declared.groups.Groups.{Groups}
use Rattle.ir.specs.Accesses.{accesses_from}
use Rattle.ir.specs.Graphs.{Graph, IsBlock}
use Rattle.circuit_build.specs.Asks.{IsAsked}
use Rattle.circuit_build.specs.Blocks.{tail_of, head_by, head_laid, ins_of, allocations, after_block, early_triggers, late_triggers, block_opened, block_grouped, block_worked, block_laid, blocks_laid}
use Rattle.circuit_build.specs.Built.{join_of, front_of, with_blocks, with_join, with_feeders, whole_draft}
use Rattle.circuit_build.specs.declared.draft.Draft.{Draft}
use Rattle.circuit_build.specs.declared.draft.Edge.{Edge}
use Rattle.circuit_build.specs.declared.draft.Queue.{Queue}
use Rattle.circuit_build.specs.Drafts.{number, next, plus, with_unit, with_chan, with_control}
use Rattle.circuit_build.specs.Edges.{edge_counts}
use Rattle.circuit_build.specs.Endings.{result_widths, ones, all_ended, exited, zero_laid, zeros_laid, zero_ends, fed_by_itself, feeder_if, feeders_laid}
use Rattle.circuit_build.specs.Fronts.{started, entered}
use Rattle.circuit_build.specs.Jumps.{head_end}
use Rattle.circuit_build.specs.Steps.{through_queue, steps_laid}
use Rattle.circuit_build.specs.Uses.{uses}
use Rattle.net_types.specs.declared.net.Unit.TheVariants.{Branch}
use Rattle.net_types.specs.Nets.{at}
use Rattle.circuit_build.proofs.Accesses.{after_own}
use Rattle.circuit_build.proofs.CountBlocks.{heading}
use Rattle.circuit_build.proofs.CountFronts.{entered_books, queues_same}
use Rattle.circuit_build.proofs.Fields.{Kept, kept_own, kept_then, forked_still, head_unit, unit_of, head_headed}
use Rattle.circuit_build.proofs.LayBelow.{Below, front_below, block_below}
use Rattle.circuit_build.proofs.LayBlocks.{inputs_of, args_of, entry_edge}
use Rattle.circuit_build.proofs.LayExtends.{extends_then, extends_long, opened_extends, allocations_extend, control_extends, steps_extend, bare_extends, jump_extends, block_extends, blocks_extend, blocks_feeders, feeders_join, join_whole}
use Rattle.circuit_build.proofs.LayHeld.{Held, held_block, held_front}
use Rattle.circuit_build.proofs.LayLists.{side_edges, block_heads, block_edges}
use Rattle.circuit_build.proofs.LayMoves.{kept_block}
use Rattle.circuit_build.proofs.LayPlaces.{opened_end}
use Rattle.circuit_build.proofs.LayQueues.{QueuesKept, front_kept}
use Rattle.circuit_build.proofs.LaySections.{Extends}
use Rattle.circuit_build.proofs.LayTails as tails
use Rattle.circuit_build.proofs.LayTails.{one_input, led_stands, stands_as}
use Rattle.circuit_build.proofs.LayUsed.{Balanced, balanced_front, balanced_block}
use Rattle.circuit_build.proofs.Served.{scalars_bound}
use Rattle.circuit_build.proofs.Small.{small}
use Rattle.circuit_build.proofs.Targets.{tops_of, top_at}

-- ---- heads and edges that come later

-- no merge, or one that stands behind so many units
abbrev pub Past : ℕ → ℕ → Type 0
Past n h = (h ≡ 0) ⊎ (n ≤ h)

pub record Rows (d e : Draft) : Type 0 where
  pub more_heads : List ℕ
  pub heads : e.heads ≡ d.heads ++ more_heads
  pub above : All (Past (length d.units)) more_heads
  pub more_edges : List Edge
  pub edges : e.edges ≡ d.edges ++ more_edges

rows_own : (d : Draft) → Rows d d
rows_own d = record { more_heads = []; heads = sym (append-nil d.heads); above = All-nil (Past (length d.units)); more_edges = []; edges = sym (append-nil d.edges) }

past_less : (n m h : ℕ) → n ≤ m → Past m h → Past n h
past_less n m h le (inl z) = inl z
past_less n m h le (inr l) = inr (omega (arith, le, l))

all_less : (n m : ℕ) (hs : List ℕ) → n ≤ m → All (Past m) hs → All (Past n) hs
all_less n m [] le a = All-nil (Past n)
all_less n m (h ∷ hs) le a = All-cons (Past n) h hs (past_less n m h le (All-head (Past m) h hs a)) (all_less n m hs le (All-tail (Past m) h hs a))

rows_then : (d e f : Draft) → Extends d e → Rows d e → Rows e f → Rows d f
rows_then d e f x p q = record {
  more_heads = p.more_heads ++ q.more_heads;
  heads = q.heads ∙ ap (λ hs. hs ++ q.more_heads) p.heads ∙ append_assoc d.heads p.more_heads q.more_heads;
  above = All-append (Past (length d.units)) p.more_heads q.more_heads p.above (all_less (length d.units) (length e.units) q.more_heads (extends_long d e x) q.above);
  more_edges = p.more_edges ++ q.more_edges;
  edges = q.edges ∙ ap (λ es. es ++ q.more_edges) p.edges ∙ append_assoc d.edges p.more_edges q.more_edges;
}

-- ---- heads

pub past_unit : (o : Option Edge) (d : Draft) → length d.units < 2 ^ 32 → Past (length d.units) (unit_of o d)
past_unit None d few = inr (omega (arith, few))
past_unit (Some e) d few = inl refl

-- a merge with its units, or none where the one edge of the target stands
abbrev pub HeadIn : ℕ → ℕ → ℕ → ℕ → Type 0
HeadIn ins args n h = ((0 < h) × (head_end h args ≤ n)) ⊎ ((h ≡ 0) × (ins ≡ 1))

pub head_more : (ins args n m h : ℕ) → n ≤ m → HeadIn ins args n h → HeadIn ins args m h
head_more ins args n m h le (inl x) = let a = x.1 in inl (x.0, omega (arith, a, le))
head_more ins args n m h le (inr x) = inr x

head_by_in : (o : Option Edge) (ins : ℕ) (ws : List ℕ) (t : ℕ) (d : Draft) → ((e : Edge) → o ≡ Some e → ins ≡ 1) → 1 ≤ length d.units → length (head_by o ins ws t d).units < 2 ^ 32 → HeadIn ins (length ws) (length (head_by o ins ws t d).units) (unit_of o d)
head_by_in None ins ws t d one some few =
    let e = opened_end ins ws t d few in
    let l = extends_long d (head_by None ins ws t d) (opened_extends d ins ws t) in
    inl (omega (arith, some, few, l), e)
head_by_in (Some x) ins ws t d one some few = inr (refl, one x refl)

pub head_in : (ins target : ℕ) (ws us : List ℕ) (t : ℕ) (d : Draft) → 1 ≤ length d.units → length (head_laid ins target ws us t d).units < 2 ^ 32 → HeadIn ins (length ws) (length (head_laid ins target ws us t d).units) (head_unit ins target d)
head_in ins target ws us t d some few = by (tail_of ins target d) (λ e s. one_input ins _ e s) few
  where
    by : (o : Option Edge) → ((e : Edge) → o ≡ Some e → ins ≡ 1) → length (head_by o ins ws t (record d { uses = us; ends = [] })).units < 2 ^ 32 → HeadIn ins (length ws) (length (head_by o ins ws t (record d { uses = us; ends = [] })).units) (unit_of o d)
    by None one f = head_by_in None ins ws t (record d { uses = us; ends = [] }) one some f
    by (Some x) one f = head_by_in (Some x) ins ws t (record d { uses = us; ends = [] }) one some f

module _ (g : Graph) (gs : Groups) where
  -- block b, laid after the draft
  abbrev pub block_after : ℕ → Block → List Access → Draft → Draft
  block_after b k xs d = block_laid g.arrays (join_of g) (ins_of (edge_counts g.blocks) b) b k xs d

  abbrev pub blocks_after : ℕ → List Block → List Access → Draft → Draft
  blocks_after b ks xs d = blocks_laid g.arrays (join_of g) (edge_counts g.blocks) b ks xs d

  block_rows : (b : ℕ) (k : Block) (xs : List Access) (d : Draft) → length d.units < 2 ^ 32 → Rows d (block_after b k xs d)
  block_rows b k xs d few =
      let ins = ins_of (edge_counts g.blocks) b in
      record {
        more_heads = head_unit ins b d ∷ [];
        heads = block_heads g.arrays (join_of g) ins b k xs d;
        above = All-cons (Past (length d.units)) (head_unit ins b d) [] (past_unit (tail_of ins b d) d few) (All-nil (Past (length d.units)));
        more_edges = side_edges (join_of g) k.jump (block_worked g.arrays ins b k xs d);
        edges = block_edges g.arrays (join_of g) ins b k xs d;
      }

  pub blocks_rows : (b : ℕ) (ks : List Block) (xs : List Access) (d : Draft) → length (blocks_after b ks xs d).units < 2 ^ 32 → Rows d (blocks_after b ks xs d)
  blocks_rows b [] xs d few = rows_own d
  blocks_rows b (k ∷ ks) xs d few =
      let e = block_after b k xs d in
      let x = block_extends d g.arrays (join_of g) (ins_of (edge_counts g.blocks) b) b k xs in
      let l = extends_long d e x in
      let m = extends_long e (blocks_after b (k ∷ ks) xs d) (blocks_extend e g.arrays (join_of g) (edge_counts g.blocks) (plus b 1) ks (after_block b xs)) in
      rows_then d e (blocks_after b (k ∷ ks) xs d) x (block_rows b k xs d (omega (arith, l, m, few))) (blocks_rows (plus b 1) ks (after_block b xs) e few)

  -- ---- the draft before the blocks from b on

  pub record Stand (b : ℕ) (ks : List Block) (xs : List Access) (d : Draft) : Type 0 where
    pub list : xs ≡ accesses_from gs.read_only b ks
    pub books : QueuesKept g gs ks xs d
    pub tall : length d.heads ≡ b
    pub below : (t : ℕ) → t < b → HeadIn (inputs_of g t) (length (args_of g t)) (length d.units) (get_or d.heads t 0)
    pub late : length (front_of g gs).units ≤ length d.units
    pub places : Below d
    pub held : Held g (1 + 2 * b) d
    pub balance : Balanced g gs b ks xs d

  pub args_are : (b : ℕ) (k : Block) → slice_get g.blocks b ≡ Some k → args_of g b ≡ k.args
  args_are b k e = get_or_from_slice_get (tops_of g) b k.args [] (top_at g.blocks (result_widths g.result) b k e)

  -- the draft before the jump of a block holds its head
  pub worked_long : (b : ℕ) (k : Block) (xs : List Access) (d : Draft)
      → length (block_opened (ins_of (edge_counts g.blocks) b) b k xs d).units ≤ length (block_worked g.arrays (ins_of (edge_counts g.blocks) b) b k xs d).units
  worked_long b k xs d =
      let ins = ins_of (edge_counts g.blocks) b in
      let h = block_opened ins b k xs d in
      let f = allocations b xs h in
      let u = block_grouped ins b k xs d in
      let w = steps_laid g.arrays k.steps u in
      let l = extends_long h f (allocations_extend h b xs) in
      let m = extends_long f u (control_extends f (late_triggers b k xs)) in
      let n = extends_long u w (steps_extend u g.arrays k.steps) in
      let o = extends_long w (block_worked g.arrays ins b k xs d) (bare_extends w (length d.chans) k.jump) in
      omega (arith, l, m, n, o)

  pub block_long : (b : ℕ) (k : Block) (xs : List Access) (d : Draft) → length (block_worked g.arrays (ins_of (edge_counts g.blocks) b) b k xs d).units ≤ length (block_after b k xs d).units
  block_long b k xs d = let w = block_worked g.arrays (ins_of (edge_counts g.blocks) b) b k xs d in extends_long w (block_after b k xs d) (jump_extends w (join_of g) k.jump)

  -- the head of a block, and those before it
  pub own_in : (b : ℕ) (k : Block) (xs : List Access) (d : Draft) → slice_get g.blocks b ≡ Some k → 1 ≤ length d.units → length (block_after b k xs d).units < 2 ^ 32
      → HeadIn (inputs_of g b) (length (args_of g b)) (length (block_worked g.arrays (ins_of (edge_counts g.blocks) b) b k xs d).units) (head_unit (inputs_of g b) b d)
  own_in b k xs d here some few =
      let ins = ins_of (edge_counts g.blocks) b in
      let wl = worked_long b k xs d in
      let bl = block_long b k xs d in
      let h = head_in ins b k.args (uses k) (early_triggers b k xs) d some (omega (arith, wl, bl, few)) in
      subst (λ ws. HeadIn ins (length ws) (length (block_worked g.arrays ins b k xs d).units) (head_unit ins b d)) (sym (args_are b k here))
      (head_more ins (length k.args) (length (block_opened ins b k xs d).units) (length (block_worked g.arrays ins b k xs d).units) (head_unit ins b d) wl h)

  module _ (ask : IsAsked g gs) where
    stand_block : (b : ℕ) (k : Block) (ks : List Block) (xs : List Access) (d : Draft) → slice_get g.blocks b ≡ Some k → b + 1 ≤ 32768 → length (block_after b k xs d).units < 2 ^ 32 → Stand b (k ∷ ks) xs d → Stand (suc b) ks (after_block b xs) (block_after b k xs d)
    stand_block b k ks xs d here low few h =
        let ins = ins_of (edge_counts g.blocks) b in
        let e = block_after b k xs d in
        let list : after_block b xs ≡ accesses_from gs.read_only (suc b) ks = ap (after_block b) h.list ∙ after_own b gs.read_only k ks in
        let own = head_unit ins b d in
        let heads = block_heads g.arrays (join_of g) ins b k xs d in
        let l = length-append d.heads (own ∷ []) in
        let m = ap (λ (hs : List ℕ). length hs) heads in
        let t = h.tall in
        let long = extends_long d e (block_extends d g.arrays (join_of g) ins b k xs) in
        let late = h.late in
        let bl = block_long b k xs d in
        let w = block_worked g.arrays ins b k xs d in
        let fine : IsBlock g k = All-contains (IsBlock g) g.blocks k ask.graph.blocks (b, slice_get_within g.blocks b k here, get_or_from_slice_get g.blocks b k k here) in
        record {
          list = list;
          books = kept_block g gs ask (join_of g) ins b k ks xs (after_block b xs) d h.list list h.books;
          tall = omega (arith, l, m, t);
          below = λ u lt. elim (cases_lt u b) [
            | inl x ↦
                (let s : get_or e.heads u 0 ≡ get_or d.heads u 0 = ap (λ hs. get_or hs u 0) heads ∙ get_or_append_left d.heads (own ∷ []) 0 u (omega (arith, x, t)) in
                subst (HeadIn (inputs_of g u) (length (args_of g u)) (length e.units)) (sym s) (head_more (inputs_of g u) (length (args_of g u)) (length d.units) (length e.units) (get_or d.heads u 0) long (h.below u x)))
            | inr x ↦
                (let same : u ≡ length d.heads = omega (arith, x, lt, t) in
                let s : get_or e.heads u 0 ≡ own = ap (λ hs. get_or hs u 0) heads ∙ ap (λ n. get_or (d.heads ++ own ∷ []) n 0) same ∙ get_or-append_seam d.heads own [] 0 in
                let z : b ≡ u = omega (arith, same, t) in
                let here_in = head_more ins (length (args_of g b)) (length w.units) (length e.units) own bl (own_in b k xs d here h.places.some few) in
                subst (HeadIn (inputs_of g u) (length (args_of g u)) (length e.units)) (sym s) (subst (λ v. HeadIn (inputs_of g v) (length (args_of g v)) (length e.units) own) z here_in))
          ];
          late = omega (arith, late, long);
          places = block_below g.arrays (join_of g) ins b k xs d h.places;
          held = subst (λ n. Held g n e) (let z : 1 + 2 * b + 2 ≡ 1 + 2 * suc b = omega arith in z) (held_block g (1 + 2 * b) b k xs d ask.small.blocks fine (omega (arith, low)) h.held);
          balance = balanced_block g gs ask b k ks xs d here h.balance;
        }

    pub front_heads : (front_of g gs).heads ≡ []
    front_heads = (queues_same g.blocks gs.of 0 g.arrays (entered g.scalars (started (length g.blocks + 1)))).1 ∙ (entered_books (heading g) (length g.blocks + 1) (scalars_bound g gs ask)).heads_are

    pub front_edges : (front_of g gs).edges ≡ entry_edge g ∷ []
    front_edges = (queues_same g.blocks gs.of 0 g.arrays (entered g.scalars (started (length g.blocks + 1)))).0 ∙ (entered_books (heading g) (length g.blocks + 1) (scalars_bound g gs ask)).edges_are

    front_stand : Stand 0 g.blocks gs.of (front_of g gs)
    front_stand = record {
      list = ask.share.accesses;
      books = front_kept g gs ask;
      tall = ap (λ (hs : List ℕ). length hs) front_heads;
      below = λ t lt. absurd (omega (arith, lt));
      late = omega arith;
      places = front_below g gs;
      held = held_front g gs ask.graph;
      balance = balanced_front g gs ask;
    }

    -- ---- each block

    pub record Found (b : ℕ) (k : Block) : Type 0 where
      pub before : Draft
      pub accesses : List Access
      pub rest : List Block
      pub stand : Stand b (k ∷ rest) accesses before
      pub later : Extends (block_after b k accesses before) (with_blocks g gs)
      pub rows : Rows (block_after b k accesses before) (with_blocks g gs)

    find : (b : ℕ) (ks : List Block) (xs : List Access) (d : Draft) → blocks_after b ks xs d ≡ with_blocks g gs → b + length ks ≤ 32768 → length (with_blocks g gs).units < 2 ^ 32 → ((i : ℕ) (k : Block) → slice_get ks i ≡ Some k → slice_get g.blocks (b + i) ≡ Some k)
        → Stand b ks xs d → (c i : ℕ) (k : Block) → b + i ≡ c → slice_get ks i ≡ Some k → Found c k
    find b [] xs d same few room all h c i k e s = absurd (cc)
    find b (x ∷ ks) xs d same few room all h c zero k e s =
        let z : x ≡ k = cc in
        let f = block_after b x xs d in
        let y : b ≡ c = omega (arith, e) in
        let whole = ap (λ (w : Draft). length w.units) same in
        let ext : Extends f (with_blocks g gs) = subst (λ w. Extends f w) same (blocks_extend f g.arrays (join_of g) (edge_counts g.blocks) (plus b 1) ks (after_block b xs)) in
        let rows : Rows f (with_blocks g gs) = subst (λ w. Rows f w) same (blocks_rows (plus b 1) ks (after_block b xs) f (omega (arith, whole, room))) in
        let own : Found b x = record { before = d; accesses = xs; rest = ks; stand = h; later = ext; rows = rows } in
        subst (λ w. Found w k) y (subst (λ w. Found b w) z own)
    find b (x ∷ ks) xs d same few room all h c (suc i) k e s =
        let f = block_after b x xs d in
        let l = extends_long f (blocks_after b (x ∷ ks) xs d) (blocks_extend f g.arrays (join_of g) (edge_counts g.blocks) (plus b 1) ks (after_block b xs)) in
        let whole = ap (λ (w : Draft). length w.units) same in
        let here : slice_get g.blocks b ≡ Some x = ap (slice_get g.blocks) (let z : b ≡ b + 0 = omega arith in z) ∙ all 0 x refl in
        let st = stand_block b x ks xs d here (omega (arith, few)) (omega (arith, l, whole, room)) h in
        let y : plus b 1 ≡ suc b = omega (arith, few) in
        find (plus b 1) ks (after_block b xs) f same (omega (arith, few, y)) room (λ j q t. ap (slice_get g.blocks) (let z : plus b 1 + j ≡ b + suc j = omega (arith, y) in z) ∙ all (suc j) q t)
        (subst (λ n. Stand n ks (after_block b xs) f) (sym y) st) c i k (omega (arith, e, y)) s

    stand_all : (b n : ℕ) (ks : List Block) (xs : List Access) (d : Draft) → b + length ks ≡ n → n ≤ 32768 → length (blocks_after b ks xs d).units < 2 ^ 32 → ((i : ℕ) (k : Block) → slice_get ks i ≡ Some k → slice_get g.blocks (b + i) ≡ Some k)
        → Stand b ks xs d → Stand n [] [] (blocks_after b ks xs d)
    stand_all b n [] xs d e few room all h = subst (λ m. Stand m [] [] d) (let z : b ≡ n = omega (arith, e) in z) (subst (λ ys. Stand b [] ys d) h.list h)
    stand_all b n (x ∷ ks) xs d e few room all h =
        let f = block_after b x xs d in
        let l = extends_long f (blocks_after b (x ∷ ks) xs d) (blocks_extend f g.arrays (join_of g) (edge_counts g.blocks) (plus b 1) ks (after_block b xs)) in
        let here : slice_get g.blocks b ≡ Some x = ap (slice_get g.blocks) (let z : b ≡ b + 0 = omega arith in z) ∙ all 0 x refl in
        let st = stand_block b x ks xs d here (omega (arith, e, few)) (omega (arith, l, room)) h in
        let y : plus b 1 ≡ suc b = omega (arith, e, few) in
        stand_all (plus b 1) n ks (after_block b xs) f (omega (arith, e, y)) few room (λ j q t. ap (slice_get g.blocks) (let z : plus b 1 + j ≡ b + suc j = omega (arith, y) in z) ∙ all (suc j) q t)
        (subst (λ m. Stand m ks (after_block b xs) f) (sym y) st)

    pub blocks_few : length g.blocks < 2 ^ 32
    blocks_few = let b = ask.small.blocks in omega (arith, b)

    pub whole_small : length (whole_draft g gs).units < 2 ^ 32
    whole_small = (small g gs ask).units

    pub feeders_whole : Extends (with_feeders g gs) (whole_draft g gs)
    feeders_whole = extends_then (with_feeders g gs) (with_join g gs) (whole_draft g gs) (feeders_join g gs) (join_whole g gs)

    pub blocks_whole : Extends (with_blocks g gs) (whole_draft g gs)
    blocks_whole = extends_then (with_blocks g gs) (with_feeders g gs) (whole_draft g gs) (blocks_feeders g gs) feeders_whole

    blocks_small : length (with_blocks g gs).units < 2 ^ 32
    blocks_small = let l = extends_long (with_blocks g gs) (whole_draft g gs) blocks_whole in let s = whole_small in omega (arith, l, s)

    pub found : (b : ℕ) (k : Block) → slice_get g.blocks b ≡ Some k → Found b k
    found b k e =
        find 0 g.blocks gs.of (front_of g gs) refl (let f = ask.small.blocks in omega (arith, f)) blocks_small (λ i q s. ap (slice_get g.blocks) (let z : 0 + i ≡ i = omega arith in z) ∙ s) front_stand b b k (omega arith) e

    -- the draft after all blocks
    pub last_stand : Stand (length g.blocks) [] [] (with_blocks g gs)
    last_stand = stand_all 0 (length g.blocks) g.blocks gs.of (front_of g gs) (omega arith) ask.small.blocks blocks_small (λ i q s. ap (slice_get g.blocks) (let z : 0 + i ≡ i = omega arith in z) ∙ s) front_stand

    -- the entry's edge comes first
    pub front_rows : Rows (front_of g gs) (with_blocks g gs)
    front_rows = blocks_rows 0 g.blocks gs.of (front_of g gs) blocks_small

-- ---- the feeders and the return join

ended_kept : (qs : List (Option Queue)) (d : Draft) → Kept d (all_ended qs d)
ended_kept [] d = kept_own d
ended_kept (None ∷ qs) d = ended_kept qs d
ended_kept (Some q ∷ qs) d = let i = ended_kept qs (through_queue q q.groups d) in record { uses = i.uses; edges = i.edges; heads = i.heads; tails = i.tails }

exited_kept : (r : Option Ty) (d : Draft) → Kept d (exited r d)
exited_kept None d = record { uses = refl; edges = refl; heads = refl; tails = refl }
exited_kept (Some t) d = record { uses = refl; edges = refl; heads = refl; tails = refl }

zeros_kept : (ws : List ℕ) (d : Draft) → Kept d (zeros_laid ws d)
zeros_kept [] d = kept_own d
zeros_kept (w ∷ ws) d = let i = zeros_kept ws (zero_laid w d) in record { uses = i.uses; edges = i.edges; heads = i.heads; tails = i.tails }

zeros_queues : (ws : List ℕ) (d : Draft) → (zeros_laid ws d).queues ≡ d.queues
zeros_queues [] d = refl
zeros_queues (w ∷ ws) d = zeros_queues ws (zero_laid w d)

-- the same heads and queues, and so many edges more at most
pub record Longer (n : ℕ) (d e : Draft) : Type 0 where
  pub heads : e.heads ≡ d.heads
  pub queues : e.queues ≡ d.queues
  pub more : List Edge
  pub edges : e.edges ≡ d.edges ++ more
  pub few : length more ≤ n
  pub tails : (m : ℕ) → length d.edges + n < 2 ^ 32 → tails.Stands m d → tails.Stands m e

feeder_longer : (n t : ℕ) (ws : List ℕ) (d : Draft) → Longer 1 d (feeder_if n t ws d)
feeder_longer (suc n) t ws d = record { heads = refl; queues = refl; more = []; edges = sym (append-nil d.edges); few = omega arith; tails = λ m r h. h }
feeder_longer zero t ws d =
    let n = number (length ws) in
    let k = with_control (at (next d) 0) (with_chan (at (next d) 1) (at (next d) 1) 32 true (with_unit (Branch 32) d)) in
    let s = forked_still (plus n 1) k in
    let e = fed_by_itself n d in
    let f = zeros_laid ws e in
    let z = zeros_kept ws e in
    let x : Edge = record { to = t; control = f.control; with = zero_ends ws e } in
    let edges : f.edges ≡ d.edges = z.edges ∙ s.kept.edges in
    let tails : f.tails ≡ d.tails = z.tails ∙ s.kept.tails in
    let l = ap (λ (ys : List Edge). length ys) edges in
    record {
      heads = z.heads ∙ s.kept.heads;
      queues = zeros_queues ws e ∙ s.queues;
      more = x ∷ [];
      edges = ap (λ es. es ++ x ∷ []) edges;
      few = omega arith;
      tails = λ m r h. led_stands m x f (omega (arith, l, r)) (stands_as m d f edges tails h);
    }

longer_then : (n m : ℕ) (d e f : Draft) → Longer n d e → Longer m e f → Longer (n + m) d f
longer_then n m d e f p q =
    let a = p.few in
    let b = q.few in
    let l = length-append p.more q.more in
    let l2 = length-append d.edges p.more in
    let l3 = ap (λ (ys : List Edge). length ys) p.edges in
    record {
      heads = q.heads ∙ p.heads;
      queues = q.queues ∙ p.queues;
      more = p.more ++ q.more;
      edges = q.edges ∙ ap (λ es. es ++ q.more) p.edges ∙ append_assoc d.edges p.more q.more;
      few = omega (arith, a, b, l);
      tails = λ k r h. q.tails k (omega (arith, r, a, l2, l3)) (p.tails k (omega (arith, r)) h);
    }

feeders_longer : (counts : List ℕ) (b : ℕ) (ks : List Block) (d : Draft) → Longer (length ks) d (feeders_laid counts b ks d)
feeders_longer counts b [] d = record { heads = refl; queues = refl; more = []; edges = sym (append-nil d.edges); few = omega arith; tails = λ m r h. h }
feeders_longer counts b (k ∷ ks) d =
    let e = feeder_if (get_or counts b 0) b k.args d in
    subst (λ n. Longer n d (feeders_laid counts (plus b 1) ks e)) (let z : 1 + length ks ≡ length (k ∷ ks) = omega arith in z)
    (longer_then 1 (length ks) d e (feeders_laid counts (plus b 1) ks e) (feeder_longer (get_or counts b 0) b k.args d) (feeders_longer counts (plus b 1) ks e))

pub blocks_longer : (g : Graph) (gs : Groups) → Longer (length g.blocks + 1) (with_blocks g gs) (with_feeders g gs)
blocks_longer g gs =
    let counts = edge_counts g.blocks in
    let e = feeders_laid counts 0 g.blocks (with_blocks g gs) in
    longer_then (length g.blocks) 1 (with_blocks g gs) e (with_feeders g gs) (feeders_longer counts 0 g.blocks (with_blocks g gs)) (feeder_longer (get_or counts (join_of g) 0) (join_of g) (result_widths g.result) e)

-- the unit of the return join's head
abbrev pub join_unit : Graph → Groups → ℕ
join_unit g gs = head_unit (inputs_of g (join_of g)) (join_of g) (with_feeders g gs)

pub join_heads : (g : Graph) (gs : Groups) → (with_join g gs).heads ≡ (with_feeders g gs).heads ++ join_unit g gs ∷ []
join_heads g gs =
    let ins = inputs_of g (join_of g) in
    let e = head_laid ins (join_of g) (result_widths g.result) (ones (result_widths g.result)) 0 (with_feeders g gs) in
    (exited_kept g.result (all_ended e.queues e)).heads ∙ (ended_kept e.queues e).heads ∙ (head_headed ins (join_of g) (result_widths g.result) (ones (result_widths g.result)) 0 (with_feeders g gs)).heads

pub join_edges : (g : Graph) (gs : Groups) → (with_join g gs).edges ≡ (with_feeders g gs).edges
join_edges g gs =
    let ins = inputs_of g (join_of g) in
    let e = head_laid ins (join_of g) (result_widths g.result) (ones (result_widths g.result)) 0 (with_feeders g gs) in
    (exited_kept g.result (all_ended e.queues e)).edges ∙ (ended_kept e.queues e).edges ∙ (head_headed ins (join_of g) (result_widths g.result) (ones (result_widths g.result)) 0 (with_feeders g gs)).edges

pub join_tails : (g : Graph) (gs : Groups) → (with_join g gs).tails ≡ (with_feeders g gs).tails
join_tails g gs =
    let ins = inputs_of g (join_of g) in
    let e = head_laid ins (join_of g) (result_widths g.result) (ones (result_widths g.result)) 0 (with_feeders g gs) in
    (exited_kept g.result (all_ended e.queues e)).tails ∙ (ended_kept e.queues e).tails ∙ (head_headed ins (join_of g) (result_widths g.result) (ones (result_widths g.result)) 0 (with_feeders g gs)).tails

-- all heads and all edges
pub heads_are : (g : Graph) (gs : Groups) → (with_join g gs).heads ≡ (with_blocks g gs).heads ++ join_unit g gs ∷ []
heads_are g gs = join_heads g gs ∙ ap (λ hs. hs ++ join_unit g gs ∷ []) (blocks_longer g gs).heads

pub edges_are : (g : Graph) (gs : Groups) → (with_join g gs).edges ≡ (with_blocks g gs).edges ++ (blocks_longer g gs).more
edges_are g gs = join_edges g gs ∙ (blocks_longer g gs).edges
