-- A block with the steps of another behind its own: they fit, and so does what the other leads to.
use Rattle.std.proofs.Common.{◌≡◌, ℕ, ◌+◌, List, [], ◌∷◌, ◌++◌, map, length, Option, Some, None, refl, sym, subst, arith, inl, inr}
use Rattle.std.specs.Prelude.{option_map}
use Rattle.el_base.specs.declared.ty.Array.{Array}
use Rattle.ir.specs.declared.instr.Instr.{Instr}
use Rattle.ir.specs.declared.graph.Block.{Block}
use Rattle.ir.specs.declared.graph.Jump.{Jump}
use Rattle.ir.specs.declared.graph.Jump.TheVariants.{Go, Two, Return}
use Rattle.ir.specs.declared.graph.To.{To}
use Rattle.ir.specs.Shapes.{Shape, IsOfWidth, StepsFit, step_width, shape_after}
use Rattle.ir.specs.Renaming.{renamed, KeepsWidths, RenamedFit}
use Rattle.ir.specs.Graphs.{Graph, IsBlock, IsJump, IsTarget, IsReturn, AreHanded, shape_of}
use Rattle.ir.proofs.Fitting.{fitting_steps_name, renamed_steps_fit}
use Rattle.block_merge.specs.Renamed.{moved_to, renamed_to, renamed_jump}
use Rattle.block_merge.specs.Joined.{values_of}
use Rattle.block_merge.proofs.JoinedValues.{every, handed_long, number_of_arg, number_of_step, named, all_kept, widths, somes_long, shape_long}
use Rattle.block_merge.proofs.ThreadedFits.{hand_width}

-- ---- steps behind others

pub shape_append : (arrays : List Array) (ws : Shape) (is js : List Instr) → shape_after arrays ws (is ++ js) ≡ shape_after arrays (shape_after arrays ws is) js
shape_append arrays ws [] js = refl
shape_append arrays ws (i ∷ is) js = shape_append arrays (ws ++ step_width arrays i ∷ []) is js

pub fit_append : (arrays : List Array) (ws : Shape) (is js : List Instr) → StepsFit arrays ws is → StepsFit arrays (shape_after arrays ws is) js → StepsFit arrays ws (is ++ js)
fit_append arrays ws [] js h i = i
fit_append arrays ws (x ∷ is) js h i = (h.0, fit_append arrays (ws ++ step_width arrays x ∷ []) is js h.1 i)

-- ---- renamed jumps

module _ (f : ℕ → ℕ) (ws us : Shape) (keeps : (a w : ℕ) → IsOfWidth ws a w → IsOfWidth us (f a) w) where
  pub hands_renamed : (ys args : List ℕ) → AreHanded ws ys args → AreHanded us (map f ys) args
  hands_renamed [] [] h = tt
  hands_renamed (y ∷ ys) (w ∷ args) h = (keeps y w h.0, hands_renamed ys args h.1)
  hands_renamed [] (w ∷ args) h = absurd h
  hands_renamed (y ∷ ys) [] h = absurd h

  pub target_renamed : (bs : List Block) (t : To) → IsTarget bs ws t → IsTarget bs us (renamed_to f t)
  target_renamed bs t h = record { block = h.block; exists = h.exists; no_entry = h.no_entry; handed = hands_renamed t.with h.block.args h.handed }

  pub jump_renamed : (g : Graph) (j : Jump) → IsJump g ws j → IsJump g us (renamed_jump f j)
  jump_renamed g (Go t) h = target_renamed g.blocks t h
  jump_renamed g (Two c x y) h = (keeps c 32 h.0, target_renamed g.blocks x h.1, target_renamed g.blocks y h.2)
  jump_renamed g (Return v) h = by g.result v h
    where
      by : (r : _) (v : Option ℕ) → IsReturn r ws v → IsReturn r us (option_map f v)
      by None None h = tt
      by (Some t) (Some v) h = keeps v _ h
      by None (Some v) h = absurd h
      by (Some t) None h = absurd h

-- ---- the other block's steps

module _ (g : Graph) (b c : Block) (with : List ℕ) (is_c : IsBlock g c) (hand : AreHanded (shape_of g b) with c.args) where
  abbrev f : ℕ → ℕ
  f = moved_to with (values_of b)

  abbrev n : ℕ
  n = length with

  c_long : length (widths c.args) ≡ n + 0
  c_long = let e = handed_long (shape_of g b) with c.args hand in omega (arith, e, somes_long c.args)

  b_long : length (shape_of g b) ≡ values_of b + 0
  b_long = let e = shape_long g.arrays (widths b.args) b.steps in omega (arith, e, somes_long b.args)

  keeps : KeepsWidths every f n 0 (widths c.args) (shape_of g b)
  keeps a w (inl (lt, kept)) h = subst (λ x. IsOfWidth (shape_of g b) x w) (sym (number_of_arg with (values_of b) a lt)) (hand_width (shape_of g b) with c.args a w hand h)
  keeps a w (inr (i, lt, is)) h = absurd (omega arith)

  fit : RenamedFit every f n 0 g.arrays (widths c.args) (shape_of g b) c.steps
  fit =
      renamed_steps_fit every f n (values_of b) (number_of_step with (values_of b)) g.arrays c.steps 0 (widths c.args) (shape_of g b) c_long b_long keeps
      (fitting_steps_name every n g.arrays c.steps 0 (widths c.args) c_long (all_kept n c.steps) is_c.steps) is_c.steps

  c_end : length (shape_of g c) ≡ n + (0 + length c.steps)
  c_end = let e = shape_long g.arrays (widths c.args) c.steps in let l = c_long in omega (arith, e, l)

  pub joined_steps_fit : StepsFit g.arrays (shape_of g b) (map (renamed f) c.steps)
  joined_steps_fit = fit.steps

  pub widths_after : (a w : ℕ) → IsOfWidth (shape_of g c) a w → IsOfWidth (shape_after g.arrays (shape_of g b) (map (renamed f) c.steps)) (f a) w
  widths_after a w h = fit.widths a w (named n (0 + length c.steps) (shape_of g c) a w c_end h) h
