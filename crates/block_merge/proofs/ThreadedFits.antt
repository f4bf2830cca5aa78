-- A threaded graph is well formed.
use Rattle.std.proofs.Common.{◌≡◌, ℕ, zero, suc, ◌<◌, List, [], ◌∷◌, map, length, get_or, Option, Some, None, refl, sym, ap, subst, arith}
use Rattle.std.proofs.lemmas.Option.{slice_get_within, same_Some}
use Rattle.std.proofs.lemmas.List.{length-map}
use Rattle.ir.specs.declared.graph.Block.{Block}
use Rattle.ir.specs.declared.graph.Jump.{Jump}
use Rattle.ir.specs.declared.graph.Jump.TheVariants.{Go, Two, Return}
use Rattle.ir.specs.declared.graph.To.{To}
use Rattle.ir.specs.Shapes.{Shape, IsOfWidth}
use Rattle.ir.specs.Graphs.{Graph, IsGraph, IsBlock, IsJump, IsTarget, AreHanded, shape_of, block_at}
use Rattle.block_merge.specs.Renamed.{block_of, moved_to}
use Rattle.block_merge.specs.Threaded.{only_onward, further, threaded_to, threaded_jump, threaded_block, threaded_once}
use Rattle.block_merge.specs.Merged.{with_blocks}
use Rattle.block_merge.proofs.JoinedValues.{handed_long, number_of_arg, widths, somes_long}
use Rattle.block_merge.proofs.Visiting.{is_block}
use Rattle.block_merge.proofs.ThreadedRuns.{only_is, onward_target, edge_within, block_is}
use Rattle.block_merge.proofs.Blocks.{graph_of, target_of, target_hands, some_blocks}

-- the value that is handed on for an argument has its width
pub hand_width : (ws : Shape) (with args : List ℕ) (a w : ℕ) → AreHanded ws with args → IsOfWidth (widths args) a w → IsOfWidth ws (get_or with a 0) w
hand_width ws [] [] a w h i = absurd (cc)
hand_width ws (x ∷ with) (y ∷ args) zero w h i = let e : y ≡ w = same_Some y w (same_Some (Some y) (Some w) i) in subst (IsOfWidth ws x) e h.0
hand_width ws (x ∷ with) (y ∷ args) (suc a) w h i = hand_width ws with args a w h.1 i
hand_width ws [] (y ∷ args) a w h i = absurd h
hand_width ws (x ∷ with) [] a w h i = absurd h

through_edge : (ws : Shape) (with args xs ys : List ℕ) → AreHanded ws with args → AreHanded (widths args) xs ys → AreHanded ws (map (moved_to with 0) xs) ys
through_edge ws with args [] [] h i = tt
through_edge ws with args (x ∷ xs) (y ∷ ys) h i =
    let l = slice_get_within (widths args) x (Some y) i.0 in
    let e = somes_long args in
    let k = handed_long ws with args h in
    let lt : x < length with = omega (arith, l, e, k) in
    (subst (λ a. IsOfWidth ws a y) (sym (number_of_arg with 0 x lt)) (hand_width ws with args x y h i.0), through_edge ws with args xs ys h i.1)
through_edge ws with args [] (y ∷ ys) h i = absurd i
through_edge ws with args (x ∷ xs) [] h i = absurd i

module _ (g : Graph) (fine : IsGraph g) where
  abbrev bs : List Block
  bs = threaded_once g.blocks

  long : length bs ≡ length g.blocks
  long = length-map g.blocks (threaded_block g.blocks)

  same_args : (n : ℕ) → (block_of bs n).args ≡ (block_at g n).args
  same_args n = ap (λ (b : Block). b.args) (block_is g fine n)

  kept : (ws : Shape) (t : To) → IsTarget g.blocks ws t → IsTarget bs ws t
  kept ws t is = target_of g.blocks bs ws t is (let l = edge_within g fine ws t is in omega (arith, l, long)) (same_args t.block)

  fits_to : (ws : Shape) (t : To) → IsTarget g.blocks ws t → IsTarget bs ws (threaded_to g.blocks t)
  fits_to ws t is = by (only_onward g.blocks t.block) refl
    where
      by : (o : Option To) → only_onward g.blocks t.block ≡ o → IsTarget bs ws (further t o)
      by None e = kept ws t is
      by (Some to) e =
          let b = block_at g t.block in
          let at : IsTarget bs (widths b.args) to = kept (widths b.args) to (onward_target g fine t.block to (edge_within g fine ws t is) (only_is g fine t.block to e)) in
          let mine : AreHanded ws t.with b.args = target_hands g.blocks ws t is in
          record { block = at.block; exists = at.exists; no_entry = at.no_entry; handed = through_edge ws t.with b.args to.with at.block.args mine at.handed }

  fits_jump : (ws : Shape) (j : Jump) → IsJump g ws j → IsJump (with_blocks g bs) ws (threaded_jump g.blocks j)
  fits_jump ws (Go t) h = fits_to ws t h
  fits_jump ws (Two c x y) h = (h.0, fits_to ws x h.1, fits_to ws y h.2)
  fits_jump ws (Return v) h = h

  fits_block : (n : ℕ) → n < length bs → IsBlock (with_blocks g bs) (block_of bs n)
  fits_block n lt =
      let b = block_at g n in
      let h = is_block g fine n (omega (arith, lt, long)) in
      subst (IsBlock (with_blocks g bs)) (sym (block_is g fine n)) (record { args = h.args; steps = h.steps; jump = fits_jump (shape_of g b) b.jump h.jump })

  pub threaded_fits : IsGraph (with_blocks g bs)
  threaded_fits = graph_of g bs fine (let l = some_blocks g fine in omega (arith, l, long)) (same_args 0) fits_block
