-- The graph with copied joins is one that a pass may give, and its ends go back.
use Rattle.std.proofs.Common.{◌≡◌, ◌≢◌, ℕ, zero, suc, ◌-◌, ◌<◌, ◌==◌, ◌&&◌, ◌||◌, Bool, true, false, cond, length, Option, Some, None, refl, sym, ◌∙◌, subst}
use Rattle.std.specs.Prelude.{set, is_some}
use Rattle.std.proofs.lemmas.Bool.{cond_both, eq-eqb}
use Rattle.std.proofs.lemmas.Option.{same_Some}
use Rattle.ir.specs.declared.graph.Block.{Block}
use Rattle.ir.specs.declared.graph.Jump.{Jump}
use Rattle.ir.specs.declared.graph.Jump.TheVariants.{Go, Two, Return}
use Rattle.ir.specs.declared.graph.To.{To}
use Rattle.ir.specs.Graphs.{Graph, IsGraph, block_at, block_weight}
use Rattle.block_merge.specs.Renamed.{block_of}
use Rattle.block_merge.specs.Merged.{with_blocks}
use Rattle.block_merge.proofs.Rows.{jump_within}
use Rattle.block_pass.specs.Laws.{PassesBack}
use Rattle.block_copy.specs.declared.growing.Row.{Row}
use Rattle.block_copy.specs.declared.growing.Growth.{Growth}
use Rattle.block_copy.specs.declared.growing.Turn.{Turn}
use Rattle.block_copy.specs.declared.growing.Turn.TheVariants.{Ends, Goes}
use Rattle.block_copy.specs.Growing.{has_condition, is_return, next_of, folded_behind, row_behind, can_take_in, best_with, turn_with, turn_to, turn_of, after_turn, grown, max_turns, first_growth, best_row}
use Rattle.block_copy.specs.Copied.{is_taken, with_row, copied_by, copied_at, copied_blocks, copied}
use Rattle.block_copy.proofs.Standing.{Given, Stands, two_passes, same_passes, first_stands, next_stands}

-- ---- the next block

-- a jump leads to block n, other than k, without a condition
pub record LeadsAway (k : ℕ) (j : Jump) (n : ℕ) : Type 0 where
  pub to : To
  pub goes : j ≡ Go to
  pub number : to.block ≡ n
  pub other : to.block ≢ k

pub leads_away : (k : ℕ) (j : Jump) (n : ℕ) → next_of k j ≡ Some n → LeadsAway k j n
leads_away k (Go t) n e = by (t.block == k) refl e
  where
    by : (x : Bool) → (t.block == k) ≡ x → cond x None (Some t.block) ≡ Some n → LeadsAway k (Go t) n
    by true p q = absurd (cc)
    by false p q = record {
      to = t;
      goes = refl;
      number = same_Some t.block n q;
      other = λ is. (let u : (t.block == k) ≡ true = eq-eqb t.block k is in let v : false ≡ true = sym p ∙ u in absurd (cc));
    }
leads_away k (Two c a b) n e = absurd (cc)
leads_away k (Return v) n e = absurd (cc)

-- ---- rows

module _ (g : Graph) (k : ℕ) where
  abbrev pub BestStands : Option Row → Type 0
  BestStands None = Unit {0}
  BestStands (Some r) = Stands g k r.block

  pub record GrowthStands (s : Growth) : Type 0 where
    pub row : Stands g k s.row.block
    pub best : BestStands s.best

  abbrev pub TurnStands : Turn → Type 0
  TurnStands (Ends best) = BestStands best
  TurnStands (Goes s) = GrowthStands s

  after_stands : (f : Growth → Option Row) → ((s : Growth) → GrowthStands s → BestStands (f s)) → (t : Turn) → TurnStands t → BestStands (after_turn f t)
  after_stands f each (Ends best) h = h
  after_stands f each (Goes s) h = each s h

module _ (law : Given) (g : Graph) (k limit : ℕ) (within : k < length g.blocks) where
  pub row_stands : (s : Growth) (n : ℕ) → GrowthStands g k s → next_of k s.row.block.jump ≡ Some n → Stands g k (folded_behind s.row.block (block_of g.blocks n))
  row_stands s n h e =
      let a = leads_away k s.row.block.jump n e in
      subst (λ m. Stands g k (folded_behind s.row.block (block_of g.blocks m))) a.number (next_stands law g k s.row.block within h.row a.to a.goes a.other)

  pub with_stands : (s : Growth) (c : Block) (r : Row) → GrowthStands g k s → Stands g k r.block → TurnStands g k (turn_with s c r)
  with_stands s c r h i =
      let next : Growth = record { row = r; best = best_with s.best c r; unseen = s.unseen - block_weight c } in
      cond_both (has_condition c.jump && has_condition r.block.jump) (Ends s.best) (Goes next) (TurnStands g k) (λ t. h.best)
      (λ t. record {
        row = i;
        best = cond_both (has_condition c.jump || (is_return r.block.jump && is_some s.best)) (Some r) s.best (BestStands g k) (λ u. i) (λ u. h.best);
      })

  to_stands : (s : Growth) (o : Option ℕ) → GrowthStands g k s → next_of k s.row.block.jump ≡ o → TurnStands g k (turn_to g.blocks limit s o)
  to_stands s None h e = h.best
  to_stands s (Some n) h e =
      let c = block_of g.blocks n in
      let r = row_behind g.blocks s.row n in
      cond_both (can_take_in limit s c) (turn_with s c r) (Ends None) (TurnStands g k) (λ t. with_stands s c r h (row_stands s n h e)) (λ t. tt)

  pub turn_stands : (s : Growth) → GrowthStands g k s → TurnStands g k (turn_of g.blocks k limit s)
  turn_stands s h = to_stands s (next_of k s.row.block.jump) h refl

  pub grown_stands : (n : ℕ) (s : Growth) → GrowthStands g k s → BestStands g k (grown n g.blocks k limit s)
  grown_stands zero s h = tt
  grown_stands (suc n) s h = after_stands g k (grown n g.blocks k limit) (λ t i. grown_stands n t i) (turn_of g.blocks k limit s) (turn_stands s h)

pub first_growth_stands : (law : Given) (g : Graph) (k : ℕ) → IsGraph g → k < length g.blocks → GrowthStands g k (first_growth (block_at g k))
unfolding first_growth
first_growth_stands law g k fine lt = record { row = first_stands law g k fine lt; best = tt }

pub best_stands : (law : Given) (g : Graph) (k : ℕ) → IsGraph g → k < length g.blocks → BestStands g k (best_row g.blocks k)
best_stands law g k fine lt = grown_stands law g k _ lt max_turns (first_growth (block_at g k)) (first_growth_stands law g k fine lt)

-- ---- graphs

module _ (law : Given) (most : ℕ) where
  by_row : (g : Graph) (k : ℕ) (o : Option Row) → IsGraph g → BestStands g k o → PassesBack g (with_blocks g (with_row most g.blocks k o))
  by_row g k None fine h = same_passes law g fine
  by_row g k (Some r) fine h =
      cond_both (is_taken most g.blocks k r) (set g.blocks k r.block) g.blocks (λ bs. PassesBack g (with_blocks g bs)) (λ t. h.passes) (λ t. same_passes law g fine)

  by_jump : (g : Graph) (k : ℕ) (j : Jump) → IsGraph g → (block_at g k).jump ≡ j → PassesBack g (with_blocks g (copied_by most g.blocks k j))
  by_jump g k (Go to) fine e = by_row g k (best_row g.blocks k) fine (best_stands law g k fine (jump_within g.blocks k to e))
  by_jump g k (Two c a b) fine e = same_passes law g fine
  by_jump g k (Return v) fine e = same_passes law g fine

  pub one_copied : (g : Graph) (k : ℕ) → IsGraph g → PassesBack g (with_blocks g (copied_at most g.blocks k))
  one_copied g k fine = by_jump g k (block_at g k).jump fine refl

  all_copied : (n : ℕ) (g : Graph) (k : ℕ) → IsGraph g → PassesBack g (with_blocks g (copied_blocks most n g.blocks k))
  all_copied zero g k fine = same_passes law g fine
  all_copied (suc n) g k fine =
      let one = one_copied g k fine in
      let h = with_blocks g (copied_at most g.blocks k) in
      two_passes law g h (with_blocks g (copied_blocks most (suc n) g.blocks k)) one (all_copied n h (suc k) one.share.fine)

  pub copied_passes : (g : Graph) → IsGraph g → PassesBack g (copied most g)
  copied_passes g fine = all_copied (length g.blocks) g 0 fine
