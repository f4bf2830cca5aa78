-- Graphs whose blocks are made anew, one for one.
use Rattle.std.proofs.Common.{◌≡◌, ℕ, zero, suc, ◌<◌, ◌≤◌, List, [], ◌∷◌, map, length, refl, sym, ◌∙◌, subst, arith, inl, inr}
use Rattle.std.specs.Prelude.{set, All}
use Rattle.std.proofs.lemmas.Bool.{cases_eq}
use Rattle.std.proofs.lemmas.Option.{get_or_from_slice_get, slice_get-get_or, slice_get_within}
use Rattle.std.proofs.lemmas.List.{length-map, length-set, get_or-set_same, get_or-set_other}
use Rattle.std.proofs.lemmas.List.Elements.{All-get_or, All-from_get_or}
use Rattle.ir.specs.declared.graph.Block.{Block}
use Rattle.ir.specs.declared.graph.Jump.{Jump}
use Rattle.ir.specs.declared.graph.Jump.TheVariants.{Go, Two, Return}
use Rattle.ir.specs.declared.graph.To.{To}
use Rattle.ir.specs.Accesses.{IsStoredTo}
use Rattle.ir.specs.Shapes.{Shape}
use Rattle.ir.specs.Graphs.{Graph, IsGraph, IsBlock, IsJump, IsTarget, shape_of, no_block, block_at}
use Rattle.block_merge.specs.Merged.{with_blocks}
use Rattle.block_merge.specs.Renamed.{block_of}
use Rattle.block_merge.proofs.Blocks.{graph_of, target_of, some_blocks}
use Rattle.block_merge.proofs.Visiting.{is_block}
use Rattle.block_pass.specs.Fitting.{FitWidths}
use Rattle.block_pass.specs.Blocks.{StoresTo, BlockShare}
use Rattle.block_pass.specs.Laws.{ValuesStayInWidths, BlocksKeepThemselves, BlocksGoOn, PassesBack, BlocksPass, OneBlockPasses}
use Rattle.block_pass.proofs.Follows.{LeadAlike, visits_over, visits_back}

-- ---- blocks

pub block_keeps_itself : BlocksKeepThemselves
block_keeps_itself g b fine = record {
  args = refl;
  fine = fine;
  over = λ given arrays f all z. record { onward = refl; arrays = refl; clean = z };
  back = λ given arrays f all z. z;
  stored = λ a. (λ s. s, λ s. s);
}

pub block_goes_on : BlocksGoOn
block_goes_on g b c d one two = record {
  args = two.args ∙ one.args;
  fine = two.fine;
  over = λ given arrays f all z.
      let x = one.over given arrays f all z in
      let y = two.over given arrays (subst (λ ws. FitWidths ws given) (sym one.args) f) all x.clean in
      record { onward = y.onward ∙ x.onward; arrays = y.arrays ∙ x.arrays; clean = y.clean };
  back = λ given arrays f all z. one.back given arrays f all (two.back given arrays (subst (λ ws. FitWidths ws given) (sym one.args) f) all z);
  stored = λ a. (λ s. (one.stored a).0 ((two.stored a).0 s), λ s. (two.stored a).1 ((one.stored a).1 s));
}

-- ---- graphs

module _ (stay : ValuesStayInWidths) (g : Graph) (bs : List Block) (fine : IsGraph g) (long : length bs ≡ length g.blocks)
    (each : (n : ℕ) → n < length g.blocks → BlockShare g (block_at g n) (block_of bs n)) where
  abbrev h : Graph
  h = with_blocks g bs

  to_target : (ws : Shape) (to : To) → IsTarget g.blocks ws to → IsTarget bs ws to
  to_target ws to t =
      let lt = slice_get_within g.blocks to.block t.block t.exists in
      target_of g.blocks bs ws to t (omega (arith, lt, long)) (each to.block lt).args

  to_jump : (ws : Shape) (j : Jump) → IsJump g ws j → IsJump h ws j
  to_jump ws (Go to) t = to_target ws to t
  to_jump ws (Two c a b) t = (t.0, to_target ws a t.1, to_target ws b t.2)
  to_jump ws (Return v) t = t

  to_block : (b : Block) → IsBlock g b → IsBlock h b
  to_block b f = record { args = f.args; steps = f.steps; jump = to_jump (shape_of g b) b.jump f.jump }

  is_fine : IsGraph h
  is_fine =
      let some = some_blocks g fine in
      graph_of g bs fine (omega (arith, some, long)) (each 0 some).args (λ n lt. to_block (block_of bs n) (each n (omega (arith, lt, long))).fine)

  alike : LeadAlike g h
  alike = record {
    over = λ v f z. (each v.block f.within).over v.given v.arrays f.given f.elements z;
    back = λ v f z. (each v.block f.within).back v.given v.arrays f.given f.elements z;
  }

  few : (most : ℕ) → All (λ (b : Block). length b.args ≤ most) g.blocks → All (λ (b : Block). length b.args ≤ most) bs
  few most all = All-from_get_or (λ (b : Block). length b.args ≤ most) bs no_block (λ n lt.
      let l : n < length g.blocks = omega (arith, lt, long) in
      subst (λ (ws : List ℕ). length ws ≤ most) (sym (each n l).args) (All-get_or (λ (b : Block). length b.args ≤ most) g.blocks n no_block l all))

  stored_before : (a : ℕ) → IsStoredTo h a → IsStoredTo g a
  stored_before a s =
      let l = slice_get_within bs s.number s.block s.is_block in
      let lt : s.number < length g.blocks = omega (arith, l, long) in
      let e : block_of bs s.number ≡ s.block = get_or_from_slice_get bs s.number s.block no_block s.is_block in
      let here : StoresTo s.block a = record { place = s.place; addr = s.addr; value = s.value; is_step = s.is_step } in
      let there = ((each s.number lt).stored a).0 (subst (λ (b : Block). StoresTo b a) (sym e) here) in
      record { number = s.number; block = block_at g s.number; is_block = slice_get-get_or g.blocks s.number no_block lt; place = there.place; addr = there.addr; value = there.value; is_step = there.is_step }

  stored_after : (a : ℕ) → IsStoredTo g a → IsStoredTo h a
  stored_after a s =
      let lt = slice_get_within g.blocks s.number s.block s.is_block in
      let e : block_at g s.number ≡ s.block = get_or_from_slice_get g.blocks s.number s.block no_block s.is_block in
      let here : StoresTo s.block a = record { place = s.place; addr = s.addr; value = s.value; is_step = s.is_step } in
      let there = ((each s.number lt).stored a).1 (subst (λ (b : Block). StoresTo b a) (sym e) here) in
      record { number = s.number; block = block_of bs s.number; is_block = slice_get-get_or bs s.number no_block (omega (arith, lt, long)); place = there.place; addr = there.addr; value = there.value; is_step = there.is_step }

  pub remade_passes : PassesBack g h
  remade_passes = record {
    share = record {
      header = refl;
      fine = is_fine;
      runs = visits_over stay g h fine alike;
      blocks = omega (arith, long);
      few_args = few;
      stored = λ a. (stored_before a, stored_after a);
    };
    back = visits_back stay g h fine alike;
  }

mapped_at : (f : Block → Block) (xs : List Block) (i : ℕ) → i < length xs → block_of (map f xs) i ≡ f (block_of xs i)
mapped_at f [] i lt = absurd (omega arith)
mapped_at f (x ∷ xs) zero lt = refl
mapped_at f (x ∷ xs) (suc i) lt = mapped_at f xs i (omega arith)

pub blocks_pass : ValuesStayInWidths → BlocksPass
blocks_pass stay g f fine each =
    remade_passes stay g (map f g.blocks) fine (length-map g.blocks f)
    (λ n lt. subst (BlockShare g (block_at g n)) (sym (mapped_at f g.blocks n lt)) (each (block_at g n) (is_block g fine n lt)))

pub one_block_passes : ValuesStayInWidths → OneBlockPasses
one_block_passes stay g k c fine within share =
    remade_passes stay g (set g.blocks k c) fine (length-set g.blocks k c) by
  where
    by : (n : ℕ) → n < length g.blocks → BlockShare g (block_at g n) (block_of (set g.blocks k c) n)
    by n lt = elim (cases_eq n k) [
      | inl e ↦
          subst (λ m. BlockShare g (block_at g m) (block_of (set g.blocks k c) m)) (sym e)
          (subst (BlockShare g (block_at g k)) (sym (get_or-set_same g.blocks k c no_block within)) share)
      | inr ne ↦ subst (BlockShare g (block_at g n)) (sym (get_or-set_other g.blocks k n c no_block ne)) (block_keeps_itself g (block_at g n) (is_block g fine n lt))
    ]
