-- One block made anew passes, and so do all, one after the other.
use Rattle.std.proofs.Common.{◌≡◌, ℕ, zero, suc, ◌<◌, ◌≤◌, List, ◌∷◌, map, length, Option, Some, None, refl, sym, ◌∙◌, ap, subst, arith, inl, inr}
use Rattle.std.specs.Prelude.{set, All, nat_le}
use Rattle.std.specs.Option.{option_map_or}
use Rattle.std.proofs.lemmas.Bool.{cases_lt, cond_both}
use Rattle.std.proofs.lemmas.List.{length-map, length-set, get_or_past}
use Rattle.std.proofs.lemmas.List.Elements.{All-get_or, All-from_get_or}
use Rattle.el_base.specs.Widths.{ty_width}
use Rattle.ir.specs.declared.graph.Block.{Block}
use Rattle.ir.specs.declared.graph.Jump.{Jump}
use Rattle.ir.specs.declared.graph.Jump.TheVariants.{Go, Two, Return}
use Rattle.ir.specs.declared.graph.To.{To}
use Rattle.ir.specs.Graphs.{Graph, IsGraph, no_block, block_at, passage, first_visit, block_weight}
use Rattle.block_merge.specs.Merged.{with_blocks}
use Rattle.block_merge.proofs.Members.{In}
use Rattle.block_merge.proofs.Stored.{stored_alike}
use Rattle.block_merge.proofs.Visiting.{Fits, fits_next, first_fits}
use Rattle.block_pass.specs.Fitting.{FitHeader}
use Rattle.block_pass.specs.Shares.{VisitsOver, VisitsBack}
use Rattle.block_pass.specs.Laws.{PassesBack}
use Rattle.block_pass.proofs.Passing.{keeps_itself, go_on, go_back, no_cost}
use Rattle.block_pass.proofs.Values.{fit_long}
use Rattle.block_select.specs.declared.arms.Meeting.{Meeting}
use Rattle.block_select.specs.Arms.{meeting}
use Rattle.block_select.specs.Selected.{selected_block, with_light, selected_by, selected_at, selected_blocks, selected}
use Rattle.block_select.proofs.Meetings.{meets}
use Rattle.block_select.proofs.OneBlock.{Chooses, same_args, same_stores, new_graph, each_visit}
use Rattle.block_pass.proofs.Runs.{shorter, longer}

-- ---- passes

passes_itself : (g : Graph) → IsGraph g → PassesBack g g
passes_itself g fine = record { share = keeps_itself g fine; back = λ scalars arrays r last more fit x. (more, x) }

passes_twice : (g h k : Graph) → PassesBack g h → PassesBack h k → PassesBack g k
passes_twice g h k a b = record { share = go_on g h k a.share b.share; back = go_back g h k a.share a.back b.back }

-- ---- one block

module _ (g : Graph) (k c : ℕ) (yes_part no_part : To) (m : Meeting) (is : Chooses g k c yes_part no_part m) where
  abbrev bs : List Block
  bs = set g.blocks k (selected_block g.blocks (block_at g k) c yes_part no_part m)

  abbrev h : Graph
  h = with_blocks g bs

  starts : (scalars : List ℕ) (arrays : List (List ℕ)) → FitHeader g scalars arrays → Fits g is.graph (first_visit scalars arrays)
  starts scalars arrays fit =
      first_fits g is.graph scalars arrays (fit_long (map (λ s. ty_width s.ty) g.scalars) scalars fit.each_scalar ∙ length-map g.scalars (λ s. ty_width s.ty))

  over : VisitsOver g h
  over scalars arrays r last more fit x =
      let s = shorter (passage g) (passage h) (Fits g is.graph) (fits_next g is.graph) (each_visit g k c yes_part no_part m is) x.rest (first_visit scalars arrays) r last (starts scalars arrays fit) x.ends in
      record {
        rest = s.again;
        ends = s.ends;
        clean = s.strays ∙ x.clean;
        few = (let p = s.few in let q = x.few in omega (arith, p, q));
        cheap = (let e = no_cost (first_visit scalars arrays ∷ s.again) in omega (arith, e));
      }

  back : VisitsBack g h
  back scalars arrays r last more fit x =
      let s = longer (passage g) (passage h) (Fits g is.graph) (fits_next g is.graph) (each_visit g k c yes_part no_part m is) x.rest (first_visit scalars arrays) r last (starts scalars arrays fit) x.ends in (
        length s.rest,
        record {
          rest = s.rest;
          ends = s.ends;
          clean = s.strays ∙ x.clean;
          few = omega arith;
          cheap = (let e = no_cost (first_visit scalars arrays ∷ s.rest) in omega (arith, e));
        },
      )

  few_args : (most : ℕ) → All (λ (b : Block). length b.args ≤ most) g.blocks → All (λ (b : Block). length b.args ≤ most) bs
  few_args most few =
      All-from_get_or (λ (b : Block). length b.args ≤ most) bs no_block
      (λ n lt.
      let l = All-get_or (λ (b : Block). length b.args ≤ most) g.blocks n no_block (omega (arith, lt, length-set g.blocks k (selected_block g.blocks (block_at g k) c yes_part no_part m))) few in
      let e = ap length (same_args g k c yes_part no_part m is n) in omega (arith, l, e))

  pub one_passes : PassesBack g (with_blocks g (set g.blocks k (selected_block g.blocks (block_at g k) c yes_part no_part m)))
  one_passes = record {
    share = record {
      header = refl;
      fine = new_graph g k c yes_part no_part m is;
      runs = over;
      blocks = omega (arith, length-set g.blocks k (selected_block g.blocks (block_at g k) c yes_part no_part m));
      few_args = few_args;
      stored = stored_alike g h
          (λ a s. record { number = s.number; stores = subst (λ l. In l a) (sym (same_stores g k c yes_part no_part m is s.number)) s.stores })
          (λ a s. record { number = s.number; stores = subst (λ l. In l a) (same_stores g k c yes_part no_part m is s.number) s.stores });
    };
    back = back;
  }

-- ---- block k, where it is made anew

module _ (most : ℕ) (g : Graph) (fine : IsGraph g) (k : ℕ) where
  by_meeting : (c : ℕ) (yes_part no_part : To) (o : Option Meeting) → k < length g.blocks → (block_at g k).jump ≡ Two c yes_part no_part → meeting g.blocks k yes_part no_part ≡ o
      → PassesBack g (with_blocks g (option_map_or (λ m. with_light most g.blocks k (selected_block g.blocks (block_at g k) c yes_part no_part m)) o g.blocks))
  by_meeting c yes_part no_part None lt d e = passes_itself g fine
  by_meeting c yes_part no_part (Some m) lt d e =
      let new = selected_block g.blocks (block_at g k) c yes_part no_part m in
      cond_both (nat_le (block_weight new) most) (set g.blocks k new) g.blocks (λ bs. PassesBack g (with_blocks g bs))
      (λ t. one_passes g k c yes_part no_part m (record { graph = fine; within = lt; decides = d; meets = meets g.blocks k yes_part no_part m e }))
      (λ t. passes_itself g fine)

  by_jump : (j : Jump) → (block_at g k).jump ≡ j → PassesBack g (with_blocks g (selected_by most g.blocks k j))
  by_jump (Go to) e = passes_itself g fine
  by_jump (Two c yes_part no_part) e = elim (cases_lt k (length g.blocks)) [
    | inl lt ↦ by_meeting c yes_part no_part (meeting g.blocks k yes_part no_part) lt e refl
    | inr ge ↦
        let z : Return None ≡ Two c yes_part no_part = ap (λ (b : Block). b.jump) (sym (get_or_past g.blocks k no_block ge)) ∙ e in absurd (cc)
  ]
  by_jump (Return v) e = passes_itself g fine

  pub at_passes : PassesBack g (with_blocks g (selected_at most g.blocks k))
  at_passes = by_jump (block_at g k).jump refl

-- ---- all blocks

pub blocks_pass : (most n : ℕ) (g : Graph) (k : ℕ) → IsGraph g → PassesBack g (with_blocks g (selected_blocks most n g.blocks k))
blocks_pass most zero g k fine = passes_itself g fine
blocks_pass most (suc n) g k fine =
    let h = with_blocks g (selected_at most g.blocks k) in
    let one = at_passes most g fine k in
    passes_twice g h (with_blocks g (selected_blocks most n h.blocks (suc k))) one (blocks_pass most n h (suc k) one.share.fine)

pub selected_passes : (most : ℕ) (g : Graph) → IsGraph g → PassesBack g (selected most g)
selected_passes most g fine = blocks_pass most (length g.blocks) g 0 fine
