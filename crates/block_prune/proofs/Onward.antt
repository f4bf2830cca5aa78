-- A jump leads alike under new numbers, where the values that it needs are the same.
use Rattle.std.proofs.Common.{◌≡◌, ℕ, List, [], ◌∷◌, map, Option, Some, None, refl, ◌∙◌, ap}
use Rattle.std.specs.Prelude.{Bool, true, option_map}
use Rattle.el_base.specs.declared.ty.Ty.{Ty}
use Rattle.ir.specs.declared.graph.Jump.{Jump}
use Rattle.ir.specs.declared.graph.Jump.TheVariants as jump
use Rattle.ir.specs.declared.graph.To.{To}
use Rattle.ir.specs.Steps.{value_at}
use Rattle.ir.specs.Shapes.{Shape, IsOfWidth}
use Rattle.ir.specs.Visits.{onto, leaves}
use Rattle.ir.specs.Graphs.{Graph, IsJump, IsReturn, AreHanded, handed, side, result_of, onward_of}
use Rattle.block_merge.specs.Renamed.{renamed_to, renamed_jump}
use Rattle.block_prune.specs.Dead.{jump_operands}
use Rattle.block_prune.proofs.Operands.{all_left, all_right}
use Rattle.block_prune.proofs.Fits.{AllKept}

module _ (f : ℕ → ℕ) (kept : ℕ → Bool) (ws : Shape) (vs us : List ℕ) (same : (a w : ℕ) → kept a ≡ true → IsOfWidth ws a w → value_at us (f a) ≡ value_at vs a) where
  values_same : (ys args : List ℕ) → AllKept kept ys → AreHanded ws ys args → map (value_at us) (map f ys) ≡ map (value_at vs) ys
  values_same [] [] k h = refl
  values_same (a ∷ ys) (w ∷ args) k h = ap (λ x. x ∷ map (value_at us) (map f ys)) (same a w k.0 h.0) ∙ ap (λ xs. value_at vs a ∷ xs) (values_same ys args k.1 h.1)
  values_same [] (w ∷ args) k h = absurd h
  values_same (a ∷ ys) [] k h = absurd h

  handed_same : (to : To) (args : List ℕ) → AllKept kept to.with → AreHanded ws to.with args → handed us (renamed_to f to) ≡ handed vs to
  handed_same to args k h = ap (onto to.block) (values_same to.with args k h)

  pub onward_same : (g : Graph) (j : Jump) → AllKept kept (jump_operands j) → IsJump g ws j → onward_of (renamed_jump f j) us ≡ onward_of j vs
  onward_same g (jump.Go to) k h = handed_same to h.block.args k h.handed
  onward_same g (jump.Two c a b) k h =
      let stays : ℕ → Type 0 = λ v. kept v ≡ true in
      let x = handed_same a h.1.block.args (all_left stays a.with b.with k.1) h.1.handed in
      let y = handed_same b h.2.block.args (all_right stays a.with b.with k.1) h.2.handed in
      ap (λ n. side n (handed us (renamed_to f a)) (handed us (renamed_to f b))) (same c 32 k.0 h.0)
      ∙ ap (λ o. side (value_at vs c) o (handed us (renamed_to f b))) x ∙ ap (λ o. side (value_at vs c) (handed vs a) o) y
  onward_same g (jump.Return v) k h = ap leaves (by g.result v k h)
    where
      by : (r : Option Ty) (v : Option ℕ) → AllKept kept (jump_operands (jump.Return v)) → IsReturn r ws v → result_of us (option_map f v) ≡ result_of vs v
      by None None k h = refl
      by (Some t) (Some v) k h = ap Some (same v _ k.0 h)
      by None (Some v) k h = absurd h
      by (Some t) None k h = absurd h
