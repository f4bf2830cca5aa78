-- The row among the blocks: it can take in the block to which it leads, and is a block of the graph then.
use Rattle.std.proofs.Common.{◌≡◌, ℕ, suc, ◌+◌, ◌-◌, ◌<◌, ◌≤◌, ◌==◌, ◌&&◌, ◌||◌, Bool, true, false, cond, List, [], ◌∷◌, ◌++◌, length, get_or, Option, Some, None, refl, sym, ◌∙◌, ap, subst, arith}
use Rattle.std.specs.Prelude.{is_some, nat_le}
use Rattle.std.proofs.lemmas.Bool.{cond_both, leb-true}
use Rattle.std.proofs.lemmas.Option.{slice_get_within, slice_get-get_or, get_or_from_slice_get}
use Rattle.std.proofs.lemmas.List.Sums.{get_or-le-sum_by}
use Rattle.ir.specs.declared.graph.Block.{Block}
use Rattle.ir.specs.Graphs.{Graph, IsJump, IsTarget, AreHanded, shape_of, no_block, block_weight}
use Rattle.block_merge.specs.Renamed.{block_of}
use Rattle.block_merge.specs.Merged.{with_blocks}
use Rattle.block_merge.specs.Parts.{given_on}
use Rattle.block_merge.proofs.Blocks.{target_hands}
use Rattle.block_merge.proofs.PartLemmas.{can_join_blocks}
use Rattle.block_merge.proofs.Visiting.{is_block}
use Rattle.block_fold.specs.Laws.{FoldedBlocksKeep}
use Rattle.block_copy.specs.declared.growing.Row.{Row}
use Rattle.block_copy.specs.declared.growing.Growth.{Growth}
use Rattle.block_copy.specs.declared.growing.Turn.{Turn}
use Rattle.block_copy.specs.declared.growing.Turn.TheVariants.{Ends, Goes}
use Rattle.block_copy.specs.Nonconstants.{nonconstants_in}
use Rattle.block_copy.specs.Growing.{has_condition, next_of, folded_behind, row_behind, can_take_in, best_with, turn_with, turn_to, turn_of, after_turn, grown, max_turns, first_growth, best_row}
use Rattle.block_copy.specs.Fits.{AreSmall, FitsAmong, CanFollow}
use Rattle.block_copy.proofs.Joining.{joined_fits}
use Rattle.block_copy.proofs.CopiedPasses.{LeadsAway, leads_away}

-- ---- the next block

module _ (bs : List Block) (b : Block) (fits : FitsAmong bs b) (k n : ℕ) (next : next_of k b.jump ≡ Some n) where
  abbrev g : Graph
  g = with_blocks fits.graph bs

  abbrev c : Block
  c = block_of bs n

  away : LeadsAway k b.jump n
  away = leads_away k b.jump n next

  target : IsTarget bs (shape_of g b) away.to
  target = subst (IsJump g (shape_of g b)) away.goes fits.block.jump

  pub next_within : n < length bs
  next_within = subst (λ m. m < length bs) away.number (slice_get_within bs away.to.block target.block target.exists)

  goes : given_on b.jump ≡ away.to.with
  goes = ap given_on away.goes

  hand : AreHanded (shape_of g b) away.to.with c.args
  hand = subst (λ m. AreHanded (shape_of g b) away.to.with (block_of bs m).args) away.number (target_hands bs (shape_of g b) away.to target)

  pub next_follows : block_weight b + block_weight c ≤ 8000000 → CanFollow b c
  next_follows light = record {
    joinable = can_join_blocks g b c away.to.with (is_block g fits.fine n next_within) hand goes (omega (arith, light));
    light = light;
  }

  pub behind_fits : FoldedBlocksKeep → FitsAmong bs (folded_behind b c)
  unfolding folded_behind
  behind_fits law =
      let handed : AreHanded (shape_of g b) (given_on b.jump) c.args = subst (λ with. AreHanded (shape_of g b) with c.args) (sym goes) hand in
      let j = joined_fits g b c (given_on b.jump) fits.block (is_block g fits.fine n next_within) handed in
      record { graph = fits.graph; fine = fits.fine; block = (law g _ j).fine }

-- ---- what the test says

pub record TakesIn (s : Growth) (c : Block) : Type 0 where
  pub unseen : block_weight c ≤ s.unseen
  pub light : block_weight s.row.block + block_weight c ≤ 8000000

pub takes_in : (limit : ℕ) (s : Growth) (c : Block) → can_take_in limit s c ≡ true → TakesIn s c
takes_in limit s c h =
    by (nat_le (block_weight c) s.unseen) (nat_le (nonconstants_in s.row.block.steps) limit) (nat_le (block_weight s.row.block + block_weight c) 8000000) (is_some s.best || (length s.row.taken == 0)) refl refl h
  where
    by : (p q r t : Bool) → nat_le (block_weight c) s.unseen ≡ p → nat_le (block_weight s.row.block + block_weight c) 8000000 ≡ r → p && q && r && t ≡ true → TakesIn s c
    by true true true t e f h = record { unseen = leb-true (block_weight c) s.unseen e; light = leb-true (block_weight s.row.block + block_weight c) 8000000 f }
    by true true false t e f h = absurd (cc)
    by true false r t e f h = absurd (cc)
    by false q r t e f h = absurd (cc)

-- ---- turns

abbrev TurnFits : List Block → Turn → Type 0
TurnFits bs (Ends best) = Unit {0}
TurnFits bs (Goes s) = FitsAmong bs s.row.block

module _ (law : FoldedBlocksKeep) (bs : List Block) (k limit : ℕ) where
  to_fits : (s : Growth) (o : Option ℕ) → FitsAmong bs s.row.block → next_of k s.row.block.jump ≡ o → TurnFits bs (turn_to bs limit s o)
  to_fits s None fits e = tt
  to_fits s (Some n) fits e =
      let c = block_of bs n in
      let r = row_behind bs s.row n in
      let goes : Growth = record { row = r; best = best_with s.best c r; unseen = s.unseen - block_weight c } in
      cond_both (can_take_in limit s c) (turn_with s c r) (Ends None) (TurnFits bs)
      (λ t. cond_both (has_condition c.jump && has_condition r.block.jump) (Ends s.best) (Goes goes) (TurnFits bs) (λ u. tt) (λ u. behind_fits bs s.row.block fits k n e law))
      (λ t. tt)

  turn_fits : (s next : Growth) → FitsAmong bs s.row.block → Goes next ≡ turn_of bs k limit s → FitsAmong bs next.row.block
  turn_fits s next fits e = subst (TurnFits bs) (sym e) (to_fits s (next_of k s.row.block.jump) fits refl)

-- ---- one turn

-- an element by its index
pub at_index : (bs : List Block) (n : ℕ) (x : Block) → n < length bs → x ≡ get_or bs n x → x ≡ block_of bs n
at_index bs n x lt e = e ∙ sym (get_or_from_slice_get bs n (get_or bs n x) no_block (slice_get-get_or bs n x lt))

-- the turn that takes in block x
abbrev taking : Growth → ℕ → Block → Turn
taking s n x = turn_with s x (record { block = folded_behind s.row.block x; taken = s.row.taken ++ n ∷ [] })

module _ (bs : List Block) (k limit : ℕ) (s : Growth) (n : ℕ) (x : Block) (next : next_of k s.row.block.jump ≡ Some n) (is : x ≡ block_of bs n) where
  turn_at : turn_of bs k limit s ≡ cond (can_take_in limit s x) (taking s n x) (Ends None)
  turn_at = ap (turn_to bs limit s) next ∙ ap (λ (y : Block). cond (can_take_in limit s y) (taking s n y) (Ends None)) (sym is)

  pub turn_takes : can_take_in limit s x ≡ true → turn_of bs k limit s ≡ turn_with s x (record { block = folded_behind s.row.block x; taken = s.row.taken ++ n ∷ [] })
  turn_takes h = turn_at ∙ ap (λ (b : Bool). cond b (taking s n x) (Ends None)) h

  pub turn_refuses : can_take_in limit s x ≡ false → Ends None ≡ turn_of bs k limit s
  turn_refuses h = sym (turn_at ∙ ap (λ (b : Bool). cond b (taking s n x) (Ends None)) h)

  pub turn_follows : FitsAmong bs s.row.block → can_take_in limit s x ≡ true → CanFollow s.row.block x
  turn_follows fits h =
      let t = takes_in limit s x h in
      subst (CanFollow s.row.block) (sym is) (next_follows bs s.row.block fits k n next (subst (λ (y : Block). block_weight s.row.block + block_weight y ≤ 8000000) is t.light))

-- ---- the loop

-- after `all` copies at most, of which `left` are left
pub record IsGrowing (bs : List Block) (k limit : ℕ) (first : Growth) (all left : ℕ) (s : Growth) : Type 0 where
  pub fits : FitsAmong bs s.row.block
  pub rest : grown left bs k limit s ≡ grown all bs k limit first

module _ (bs : List Block) (k limit : ℕ) (first s : Growth) (n i : ℕ) (is : IsGrowing bs k limit first n (n - i) s) where
  one_more : i < n → after_turn (grown (n - (i + 1)) bs k limit) (turn_of bs k limit s) ≡ grown n bs k limit first
  one_more lt = let z : n - i ≡ suc (n - (i + 1)) = omega (arith, lt) in sym (ap (λ j. grown j bs k limit s) z) ∙ is.rest

  pub growing_next : FoldedBlocksKeep → (next : Growth) → i < n → Goes next ≡ turn_of bs k limit s → IsGrowing bs k limit first n (n - (i + 1)) next
  growing_next law next lt e = record {
    fits = turn_fits law bs k limit s next is.fits e;
    rest = ap (after_turn (grown (n - (i + 1)) bs k limit)) e ∙ one_more lt;
  }

  pub growing_ends : (best : Option Row) → i < n → Ends best ≡ turn_of bs k limit s → best ≡ grown n bs k limit first
  growing_ends best lt e = ap (after_turn (grown (n - (i + 1)) bs k limit)) e ∙ one_more lt

  pub growing_done : n ≤ i → None ≡ grown n bs k limit first
  growing_done le = let z : n - i ≡ 0 = omega (arith, le) in sym (ap (λ j. grown j bs k limit s) z) ∙ is.rest

pub growing_starts : (bs : List Block) (k limit : ℕ) (first : Growth) (n : ℕ) → FitsAmong bs first.row.block → IsGrowing bs k limit first n (n - 0) first
growing_starts bs k limit first n fits = let z : n - 0 ≡ n = omega arith in record { fits = fits; rest = ap (λ j. grown j bs k limit first) z }

-- ---- the start

pub turns_are : max_turns ≡ 4097
unfolding max_turns
turns_are = refl

pub light_at : (bs : List Block) (k : ℕ) → AreSmall bs → k < length bs → block_weight (block_of bs k) ≤ 8000000
light_at bs k are lt = let l = get_or-le-sum_by block_weight bs k no_block lt in let s = are.small in omega (arith, l, s)

pub first_fits : FoldedBlocksKeep → (bs : List Block) (k : ℕ) → AreSmall bs → k < length bs → FitsAmong bs (first_growth (block_of bs k)).row.block
unfolding first_growth
first_fits law bs k are lt =
    let g = with_blocks are.graph bs in
    record { graph = are.graph; fine = are.fine; block = (law g (block_of bs k) (is_block g are.fine k lt)).fine }

pub best_row_is : (bs : List Block) (k turns limit : ℕ) (s : Growth) → turns ≡ max_turns → limit ≡ nonconstants_in (block_of bs k).steps + 192 → s ≡ first_growth (block_of bs k) → grown turns bs k limit s ≡ best_row bs k
best_row_is bs k turns limit s e l f =
    ap (λ n. grown n bs k limit s) e ∙ (ap (λ m. grown max_turns bs k m s) l ∙ ap (grown max_turns bs k (nonconstants_in (block_of bs k).steps + 192)) f)
