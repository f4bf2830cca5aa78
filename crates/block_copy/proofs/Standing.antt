-- A row in the place of its block: a graph that a pass may give, whose ends go back, and so with one copy more.
use Rattle.std.proofs.Common.{◌≡◌, ◌≢◌, ℕ, ◌<◌, length, sym, ◌∙◌, ap, subst, arith, inl, inr}
use Rattle.std.specs.Prelude.{set}
use Rattle.std.proofs.lemmas.Bool.{cases_eq}
use Rattle.std.proofs.lemmas.Option.{slice_get_within}
use Rattle.std.proofs.lemmas.List.{length-set, set-set, get_or-set_same, get_or-set_other}
use Rattle.ir.specs.declared.graph.Block.{Block}
use Rattle.ir.specs.declared.graph.Jump.{Jump}
use Rattle.ir.specs.declared.graph.Jump.TheVariants.{Go, Two, Return}
use Rattle.ir.specs.declared.graph.To.{To}
use Rattle.ir.specs.Shapes.{Shape}
use Rattle.ir.specs.Graphs.{Graph, IsGraph, IsBlock, IsJump, IsTarget, shape_of, no_block, block_at}
use Rattle.block_merge.specs.Joined.{joined}
use Rattle.block_merge.specs.Merged.{with_blocks}
use Rattle.block_merge.specs.Parts.{given_on}
use Rattle.block_merge.proofs.Blocks.{target_of}
use Rattle.block_merge.proofs.JoinedRuns.{LeadsOn, taken_in}
use Rattle.block_merge.proofs.Visiting.{is_block}
use Rattle.block_pass.specs.Laws.{PassesBack, PassesGoOn, EndsGoBack, EachKeepsItself, OneBlockPasses}
use Rattle.block_pass.specs.Blocks.{BlockShare}
use Rattle.block_fold.specs.Folded.{folded_block}
use Rattle.block_fold.specs.Laws.{FoldedBlocksKeep}
use Rattle.block_copy.specs.Growing.{folded_behind}
use Rattle.block_copy.proofs.Joining.{taken_in_passes}

-- what is taken from the crates below
pub record Given : Type 1 where
  pub itself : EachKeepsItself
  pub on : PassesGoOn
  pub back : EndsGoBack
  pub one : OneBlockPasses
  pub fold : FoldedBlocksKeep

abbrev pub placed_in : Graph → ℕ → Block → Graph
placed_in g k r = with_blocks g (set g.blocks k r)

-- block r stands for block k of graph g
pub record Stands (g : Graph) (k : ℕ) (r : Block) : Type 0 where
  pub args : r.args ≡ (block_at g k).args
  pub passes : PassesBack g (placed_in g k r)

module _ (law : Given) where
  pub two_passes : (g h i : Graph) → PassesBack g h → PassesBack h i → PassesBack g i
  two_passes g h i a b = record { share = law.on g h i a.share b.share; back = law.back g h i a.share a.back b.back }

  pub same_passes : (g : Graph) → IsGraph g → PassesBack g g
  same_passes g fine = record { share = law.itself g fine; back = λ scalars arrays r last more fit x. (more, x) }

  pub first_stands : (g : Graph) (k : ℕ) → IsGraph g → k < length g.blocks → Stands g k (folded_block (block_at g k))
  first_stands g k fine lt =
      let s = law.fold g (block_at g k) (is_block g fine k lt) in
      record { args = s.args; passes = law.one g k (folded_block (block_at g k)) fine lt s }

  module _ (g : Graph) (k : ℕ) (r : Block) (within : k < length g.blocks) (stands : Stands g k r) where
    abbrev h : Graph
    h = placed_in g k r

    at_row : block_at h k ≡ r
    at_row = get_or-set_same g.blocks k r no_block within

    at_other : (n : ℕ) → n ≢ k → block_at h n ≡ block_at g n
    at_other n ne = get_or-set_other g.blocks k n r no_block ne

    same_args : (n : ℕ) → (block_at g n).args ≡ (block_at h n).args
    same_args n = elim (cases_eq n k) [
      | inl e ↦ ap (λ m. (block_at g m).args) e ∙ (sym stands.args ∙ (sym (ap (λ (x : Block). x.args) at_row) ∙ ap (λ m. (block_at h m).args) (sym e)))
      | inr ne ↦ ap (λ (x : Block). x.args) (sym (at_other n ne))
    ]

    long : length h.blocks ≡ length g.blocks
    long = length-set g.blocks k r

    -- ---- the row is a block of the graph

    kept : (ws : Shape) (t : To) → IsTarget h.blocks ws t → IsTarget g.blocks ws t
    kept ws t is = target_of h.blocks g.blocks ws t is (let l = slice_get_within h.blocks t.block is.block is.exists in omega (arith, l, long)) (same_args t.block)

    kept_jump : (ws : Shape) (j : Jump) → IsJump h ws j → IsJump g ws j
    kept_jump ws (Go t) i = kept ws t i
    kept_jump ws (Two v x y) i = (i.0, kept ws x i.1, kept ws y i.2)
    kept_jump ws (Return v) i = i

    pub is_row_block : IsBlock g r
    is_row_block =
        let i : IsBlock h r = subst (IsBlock h) at_row (is_block h stands.passes.share.fine k (omega (arith, within, long))) in
        record { args = i.args; steps = i.steps; jump = kept_jump (shape_of g r) r.jump i.jump }

    -- ---- one copy more

    module _ (to : To) (goes : r.jump ≡ Go to) (other : to.block ≢ k) where
      abbrev c : Block
      c = block_at g to.block

      abbrev j : Block
      j = joined r (given_on r.jump) c

      leads : LeadsOn h k to
      leads = record {
        graph = stands.passes.share.fine;
        within = omega (arith, within, long);
        goes = ap (λ (x : Block). x.jump) at_row ∙ goes;
        other = other;
      }

      joined_is : joined (block_at h k) to.with (block_at h to.block) ≡ j
      joined_is =
          ap (λ x. joined x to.with (block_at h to.block)) at_row
          ∙ (ap (joined r to.with) (at_other to.block other) ∙ ap (λ with. joined r with c) (sym (ap given_on goes)))

      taken_is : taken_in h k to ≡ placed_in g k j
      taken_is = ap (λ x. with_blocks g (set (set g.blocks k r) k x)) joined_is ∙ ap (with_blocks g) (set-set g.blocks k r j)

      joined_passes : PassesBack g (placed_in g k j)
      joined_passes = subst (PassesBack g) taken_is (two_passes g h (taken_in h k to) stands.passes (taken_in_passes h k to leads))

      joined_stands : Stands g k j
      joined_stands = record { args = stands.args; passes = joined_passes }

    -- ---- folded

    pub folded_stands : Stands g k (folded_block r)
    folded_stands =
        let i : IsBlock h r = subst (IsBlock h) at_row (is_block h stands.passes.share.fine k (omega (arith, within, long))) in
        let s = law.fold h r i in
        let s' : BlockShare h (block_at h k) (folded_block r) = subst (λ x. BlockShare h x (folded_block r)) (sym at_row) s in
        let p = law.one h k (folded_block r) stands.passes.share.fine (omega (arith, within, long)) s' in
        record {
          args = s.args ∙ stands.args;
          passes = subst (PassesBack g) (ap (with_blocks g) (set-set g.blocks k r (folded_block r))) (two_passes g h (placed_in h k (folded_block r)) stands.passes p);
        }

  pub joined_row_stands : (g : Graph) (k : ℕ) (r : Block) → k < length g.blocks → Stands g k r → (to : To) → r.jump ≡ Go to → to.block ≢ k → Stands g k (joined r (given_on r.jump) (block_at g to.block))
  joined_row_stands g k r within stands to goes other = joined_stands g k r within stands to goes other

  pub next_stands : (g : Graph) (k : ℕ) (r : Block) → k < length g.blocks → Stands g k r → (to : To) → r.jump ≡ Go to → to.block ≢ k → Stands g k (folded_behind r (block_at g to.block))
  unfolding folded_behind
  next_stands g k r within stands to goes other =
      let j = joined r (given_on r.jump) (block_at g to.block) in
      folded_stands g k j within (joined_row_stands g k r within stands to goes other)
