-- A graph in which a block takes in a copy of the one that it leads to is one that a pass may give, and its ends go back.
use Rattle.std.proofs.Common.{◌≡◌, ℕ, ◌<◌, ◌≤◌, List, ◌++◌, map, length, Some, refl, sym, ◌∙◌, ap, subst, arith, inl, inr}
use Rattle.std.specs.Prelude.{set, All}
use Rattle.std.proofs.lemmas.Bool.{cases_eq}
use Rattle.std.proofs.lemmas.Grind.{flat_map-append}
use Rattle.std.proofs.lemmas.Option.{slice_get_within}
use Rattle.std.proofs.lemmas.List.{length-set}
use Rattle.std.proofs.lemmas.List.Elements.{All-get_or, All-from_get_or}
use Rattle.ir.specs.declared.graph.Block.{Block}
use Rattle.ir.specs.declared.graph.Jump.{Jump}
use Rattle.ir.specs.declared.graph.Jump.TheVariants.{Go, Two, Return}
use Rattle.ir.specs.declared.graph.To.{To}
use Rattle.ir.specs.Steps.{value_at, through, beginning}
use Rattle.ir.specs.Visits.{Visit, Passage, next_of, next_visit}
use Rattle.ir.specs.Shapes.{Shape, shape_after}
use Rattle.ir.specs.Renaming.{renamed}
use Rattle.ir.specs.Graphs.{Graph, IsGraph, IsBlock, IsJump, IsTarget, AreHanded, shape_of, no_block, block_at, passage}
use Rattle.block_merge.specs.Renamed.{block_of, moved_to, renamed_jump}
use Rattle.block_merge.specs.Found.{stored_by, stored_in}
use Rattle.block_merge.specs.Joined.{values_of, joined}
use Rattle.block_merge.proofs.Blocks.{graph_of, target_of, some_blocks}
use Rattle.block_merge.proofs.JoinedBlocks.{shape_append, fit_append, jump_renamed, joined_steps_fit, widths_after}
use Rattle.block_merge.proofs.JoinedRuns.{LeadsOn, taken_in, is_c, hand, at_other, at_joined, goes_on, both, other, at_k}
use Rattle.block_merge.proofs.JoinedValues.{widths}
use Rattle.block_merge.proofs.Members.{In, in_left, in_either}
use Rattle.block_merge.proofs.Stored.{Stores, stored_alike, renamed_stores}
use Rattle.block_merge.proofs.Visiting.{is_block, Fits}
use Rattle.block_pass.specs.Laws.{PassesBack}
use Rattle.block_pass.proofs.Runs.{LeadsPast, AlikeOrPast}
use Rattle.block_pass.proofs.Past.{past_over, past_back}

-- a block with a copy of another behind it is a block of the graph
module _ (g : Graph) (b c : Block) (with : List ℕ) (is_b : IsBlock g b) (is_c : IsBlock g c) (hand : AreHanded (shape_of g b) with c.args) where
  abbrev f : ℕ → ℕ
  f = moved_to with (values_of b)

  abbrev end_shape : Shape
  end_shape = shape_after g.arrays (shape_of g b) (map (renamed f) c.steps)

  pub joined_fits : IsBlock g (joined b with c)
  joined_fits =
      let e : shape_of g (joined b with c) ≡ end_shape = shape_append g.arrays (widths b.args) b.steps (map (renamed f) c.steps) in
      let j : IsJump g end_shape (renamed_jump f c.jump) = jump_renamed f (shape_of g c) end_shape (widths_after g b c with is_c hand) g c.jump is_c.jump in
      record {
        args = is_b.args;
        steps = fit_append g.arrays (widths b.args) b.steps (map (renamed f) c.steps) is_b.steps (joined_steps_fit g b c with is_c hand);
        jump = subst (λ ws. IsJump g ws (renamed_jump f c.jump)) (sym e) j;
      }

module _ (g : Graph) (k : ℕ) (to : To) (leads : LeadsOn g k to) where
  abbrev b : Block
  b = block_at g k

  abbrev c : Block
  c = block_at g to.block

  abbrev bc : Block
  bc = joined b to.with c

  abbrev bs : List Block
  bs = set g.blocks k bc

  abbrev h : Graph
  h = taken_in g k to

  long : length bs ≡ length g.blocks
  long = length-set g.blocks k bc

  same_args : (n : ℕ) → (block_of bs n).args ≡ (block_at g n).args
  same_args n = elim (cases_eq n k) [
    | inl e ↦ ap (λ (x : Block). x.args) (ap (block_of bs) e ∙ at_joined g k to leads) ∙ ap (λ m. (block_at g m).args) (sym e)
    | inr ne ↦ ap (λ (x : Block). x.args) (at_other g k to leads n ne)
  ]

  -- ---- well formed

  kept : (ws : Shape) (t : To) → IsTarget g.blocks ws t → IsTarget bs ws t
  kept ws t is = target_of g.blocks bs ws t is (let l = slice_get_within g.blocks t.block is.block is.exists in omega (arith, l, long)) (same_args t.block)

  kept_jump : (ws : Shape) (j : Jump) → IsJump g ws j → IsJump h ws j
  kept_jump ws (Go t) i = kept ws t i
  kept_jump ws (Two v x y) i = (i.0, kept ws x i.1, kept ws y i.2)
  kept_jump ws (Return v) i = i

  kept_block : (x : Block) → IsBlock g x → IsBlock h x
  kept_block x i = record { args = i.args; steps = i.steps; jump = kept_jump (shape_of g x) x.jump i.jump }

  pub joined_is_block : IsBlock g bc
  joined_is_block = joined_fits g b c to.with (is_block g leads.graph k leads.within) (is_c g k to leads) (hand g k to leads)

  fits_block : (n : ℕ) → n < length bs → IsBlock h (block_of bs n)
  fits_block n lt = elim (cases_eq n k) [
    | inl e ↦ subst (IsBlock h) (sym (ap (block_of bs) e ∙ at_joined g k to leads)) (kept_block bc joined_is_block)
    | inr ne ↦ subst (IsBlock h) (sym (at_other g k to leads n ne)) (kept_block (block_at g n) (is_block g leads.graph n (omega (arith, lt, long))))
  ]

  is_graph : IsGraph h
  is_graph = graph_of g bs leads.graph (let l = some_blocks g leads.graph in omega (arith, l, long)) (same_args 0) fits_block

  -- ---- visits

  past : (us : List ℕ) (xs : List (List ℕ)) → length us ≡ length b.args → LeadsPast (passage g) (passage h) (record { block = k; given = us; arrays = xs })
  past us xs l =
      let one = through b.steps (beginning us xs) in
      let w : Visit = record { block = to.block; given = map (value_at one.values) to.with; arrays = one.arrays } in
      let n : next_visit (passage g) (record { block = k; given = us; arrays = xs }) ≡ Some w = ap (λ o. next_of o one.arrays) (goes_on g k to leads us xs) in
      let t = both g k to leads us xs w l n in
      record { next = w; is_next = n; onward = t.onward; arrays = t.arrays; strays = t.strays }

  each_visit : (v : Visit) → Fits g leads.graph v → AlikeOrPast (passage g) (passage h) v
  each_visit v fit = elim (cases_eq v.block k) [
    | inl e ↦ inr (subst (λ u. LeadsPast (passage g) (passage h) u) (sym (at_k g k to leads v e)) (past v.given v.arrays (fit.long ∙ ap (λ m. length (block_at g m).args) e)))
    | inr ne ↦
        let a = other g k to leads v ne in
        inl (record {
          onward = ap (λ (q : Passage). q.onward) a.passage_is;
          arrays = ap (λ (q : Passage). q.arrays) a.passage_is;
          strays = ap (λ (q : Passage). q.strays) a.passage_is;
        })
  ]

  -- ---- stores

  both_stores : stored_in bc ≡ stored_in b ++ stored_in c
  both_stores =
      let f = moved_to to.with (values_of b) in
      flat_map-append stored_by b.steps (map (renamed f) c.steps) ∙ ap (λ l. stored_in b ++ l) (renamed_stores f c.steps)

  stores_after : (a : ℕ) → Stores g.blocks a → Stores bs a
  stores_after a s = elim (cases_eq s.number k) [
    | inl e ↦
        let mine : In (stored_in b) a = subst (λ n. In (stored_in (block_at g n)) a) e s.stores in
        record {
          number = k;
          stores = subst (λ (x : Block). In (stored_in x) a) (sym (at_joined g k to leads)) (subst (λ l. In l a) (sym both_stores) (in_left (stored_in b) (stored_in c) a mine));
        }
    | inr ne ↦ record { number = s.number; stores = subst (λ (x : Block). In (stored_in x) a) (sym (at_other g k to leads s.number ne)) s.stores }
  ]

  stores_before : (a : ℕ) → Stores bs a → Stores g.blocks a
  stores_before a s = elim (cases_eq s.number k) [
    | inl e ↦
        let both : In (stored_in b ++ stored_in c) a = subst (λ l. In l a) both_stores (subst (λ (x : Block). In (stored_in x) a) (ap (block_of bs) e ∙ at_joined g k to leads) s.stores) in
        elim (in_either (stored_in b) (stored_in c) a both) [ inl x ↦ record { number = k; stores = x } | inr y ↦ record { number = to.block; stores = y } ]
    | inr ne ↦ record { number = s.number; stores = subst (λ (x : Block). In (stored_in x) a) (at_other g k to leads s.number ne) s.stores }
  ]

  -- ---- all

  few_args : (most : ℕ) → All (λ (x : Block). length x.args ≤ most) g.blocks → All (λ (x : Block). length x.args ≤ most) bs
  few_args most few =
      All-from_get_or (λ (x : Block). length x.args ≤ most) bs no_block
      (λ n lt. let l = All-get_or (λ (x : Block). length x.args ≤ most) g.blocks n no_block (omega (arith, lt, long)) few in let e = ap length (same_args n) in omega (arith, l, e))

  pub taken_in_passes : PassesBack g (taken_in g k to)
  taken_in_passes = record {
    share = record {
      header = refl;
      fine = is_graph;
      runs = past_over g h leads.graph each_visit;
      blocks = omega (arith, long);
      few_args = few_args;
      stored = stored_alike g h stores_after stores_before;
    };
    back = past_back g h leads.graph each_visit;
  }
