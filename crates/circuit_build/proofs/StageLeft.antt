-- What is left in front of the jump of a block: what the jump uses, and nothing of values without a width.
use Rattle.std.proofs.Common.{◌≡◌, ◌≢◌, ℕ, zero, suc, ◌+◌, ◌*◌, ◌^◌, ◌<◌, ◌≤◌, Option, Some, None, List, [], ◌∷◌, ◌++◌, length, map, get_or, refl, sym, ap, ◌∙◌, subst, inl, inr, arith, slice_get, length-append}
use Rattle.std.proofs.lemmas.Bool.{cases_eq}
use Rattle.std.proofs.lemmas.List.{length-map}
use Rattle.el_base.specs.declared.ty.Array.{Array}
use Rattle.el_base.specs.declared.ty.Ty.{Ty}
use Rattle.ir.specs.declared.graph.Block.{Block}
use Rattle.ir.specs.declared.graph.Jump.{Jump}
use Rattle.ir.specs.declared.graph.Jump.TheVariants.{Go, Two, Return}
use Rattle.ir.specs.declared.graph.To.{To}
use Rattle.ir.specs.declared.instr.Instr.{Instr}
use Rattle.ir.specs.Graphs.{Graph, IsBlock, IsJump, IsReturn, AreHanded, shape_of, block_weight, handed_on}
use Rattle.ir.specs.Shapes.{Shape, IsOfWidth, step_width, shape_after}
use Rattle.circuit_build.specs.Drafts.{plus}
use Rattle.circuit_build.specs.Uses.{zeros, all_added, handed_often, uses}
use Rattle.circuit_build.proofs.Remains.{left_table, one_if, one_other, often, all_added_is, all_added_length, AreBelow, zeros_at, zeros_length, of_width_below, branch_uses, branches_uses, jump_uses, jump_added_length, JumpBelow, handed_many, left_is, left_most, remains_most}
use Rattle.circuit_build.proofs.StageCounts.{below_in}

pub shape_long : (arrays : List Array) (is : List Instr) (ws : Shape) → length (shape_after arrays ws is) ≡ length ws + length is
shape_long arrays [] ws = omega arith
shape_long arrays (i ∷ is) ws = let h = shape_long arrays is (ws ++ step_width arrays i ∷ []) in let l = length-append ws (step_width arrays i ∷ []) in omega (arith, h, l)

pub handed_below : (ws : Shape) (vs args : List ℕ) → AreHanded ws vs args → AreBelow (length ws) vs
handed_below ws [] args h = tt
handed_below ws (v ∷ vs) [] h = absurd h
handed_below ws (v ∷ vs) (w ∷ args) h = (of_width_below ws v w h.0, handed_below ws vs args h.1)

not_often : (ws : Shape) (vs args : List ℕ) (w : ℕ) → AreHanded ws vs args → slice_get ws w ≡ Some None → often w vs ≡ 0
not_often ws [] args w h none = refl
not_often ws (v ∷ vs) [] w h none = absurd h
not_often ws (v ∷ vs) (x ∷ args) w h none =
    let o = one_other v w (λ e. (let k : Some None ≡ Some (Some x) = sym none ∙ ap (slice_get ws) e ∙ h.0 in absurd (cc))) in
    let i = not_often ws vs args w h.1 none in
    omega (arith, o, i)

pub handed_at : (n w : ℕ) (x : To) → AreBelow n x.with → length x.with + 1 < 2 ^ 32 → get_or (handed_often n x) w 0 ≡ often w x.with
handed_at n w x b few =
    let z = zeros_at n w in
    let i = all_added_is x.with w (zeros n) (below_in x.with n (length (zeros n)) (sym (zeros_length n)) b) (omega (arith, z, few)) in
    omega (arith, i, z)

branches_none : (c v : ℕ) (ys ns : List ℕ) (w : ℕ) → w ≢ c → ((i : ℕ) → v + i ≡ w → get_or ys i 0 ≡ 0) → get_or ns w 0 ≡ 0 → v + length ys < 2 ^ 32 → branches_uses c v ys ns w ≡ 0
branches_none c v [] ns w d hy hn few = refl
branches_none c v (y ∷ ys) ns w d hy hn few =
    let rest = branches_none c (plus v 1) ys ns w d (λ i e. hy (suc i) (omega (arith, e, few))) hn (omega (arith, few)) in
    let first : branch_uses c v y (get_or ns v 0) w ≡ 0 = elim (cases_eq w v) [
      | inl e ↦ (let y0 : y ≡ 0 = hy 0 (omega (arith, e)) in let n0 : get_or ns v 0 ≡ 0 = ap (λ k. get_or ns k 0) (sym e) ∙ hn in ap (λ k. branch_uses c v k (get_or ns v 0) w) y0 ∙ ap (λ k. branch_uses c v 0 k w) n0)
      | inr n ↦ other y (get_or ns v 0) n
    ] in
    omega (arith, first, rest)
  where
    other : (y n : ℕ) → w ≢ v → branch_uses c v y n w ≡ 0
    other zero zero k = refl
    other (suc y) n k = let a = one_other c w d in let b = one_other v w k in omega (arith, a, b)
    other zero (suc n) k = let a = one_other c w d in let b = one_other v w k in omega (arith, a, b)

other_than : (ws : Shape) (v x w : ℕ) → IsOfWidth ws v x → slice_get ws w ≡ Some None → w ≢ v
other_than ws v x w h none e = let k : Some None ≡ Some (Some x) = sym none ∙ ap (slice_get ws) e ∙ h in absurd (cc)

silent_jump : (g : Graph) (ws : Shape) (j : Jump) (w : ℕ) → IsJump g ws j → handed_on j + 1 < 2 ^ 32 → length ws < 2 ^ 31 → slice_get ws w ≡ Some None → jump_uses j (length ws) w ≡ 0
silent_jump g ws (Go to) w is few small none = not_often ws to.with is.block.args w is.handed none
silent_jump g ws (Two c x y) w (ic, ix, iy) few small none =
    let n = length ws in
    let d = other_than ws c 32 w ic none in
    let o = one_other c w d in
    let ax = handed_at n w x (handed_below ws x.with ix.block.args ix.handed) (omega (arith, few)) in
    let ay = handed_at n w y (handed_below ws y.with iy.block.args iy.handed) (omega (arith, few)) in
    let zx = not_often ws x.with ix.block.args w ix.handed none in
    let zy = not_often ws y.with iy.block.args w iy.handed none in
    let len : length (handed_often n x) ≡ n = all_added_length x.with (zeros n) ∙ zeros_length n in
    let b = branches_none c 0 (handed_often n x) (handed_often n y) w d (λ i e. ap (λ k. get_or (handed_often n x) k 0) (let q : i ≡ w = omega (arith, e) in q) ∙ (ax ∙ zx)) (ay ∙ zy) (omega (arith, len, small)) in
    omega (arith, o, b)
silent_jump g ws (Return None) w is few small none = refl
silent_jump g ws (Return (Some v)) w is few small none = by g.result is
  where
    by : (r : Option Ty) → IsReturn r ws (Some v) → one_if v w ≡ 0
    by None h = absurd h
    by (Some t) h = one_other v w (other_than ws v _ w h none)

jump_below : (g : Graph) (ws : Shape) (j : Jump) → IsJump g ws j → JumpBelow j (length ws)
jump_below g ws (Go to) is = handed_below ws to.with is.block.args is.handed
jump_below g ws (Two c x y) is = of_width_below ws c 32 is.0
jump_below g ws (Return None) is = tt
jump_below g ws (Return (Some v)) is = by g.result is
  where
    by : (r : Option Ty) → IsReturn r ws (Some v) → v < length ws
    by None h = absurd h
    by (Some t) h = of_width_below ws v _ h

many_most : (j : Jump) → handed_many j ≤ handed_on j + 1
many_most (Go to) = omega arith
many_most (Two c x y) = omega arith
many_most (Return v) = omega arith

pub record BlockLeft (g : Graph) (k : Block) : Type 0 where
  pub values : length (shape_of g k) ≡ length k.args + length k.steps
  pub below : JumpBelow k.jump (length k.args + length k.steps)
  pub left : (w : ℕ) → get_or (left_table k) w 0 ≡ jump_uses k.jump (length k.args + length k.steps) w
  pub used : (v : ℕ) → get_or (uses k) v 0 < 2 ^ 32
  pub room : (v : ℕ) → get_or (left_table k) v 0 + 3 * length k.steps + 5 < 2 ^ 32
  pub silent : (v : ℕ) → slice_get (shape_of g k) v ≡ Some None → get_or (left_table k) v 0 ≡ 0
  pub long : length (left_table k) ≡ length k.args + length k.steps

pub block_left : (g : Graph) (k : Block) → IsBlock g k → block_weight k ≤ 8000000 → BlockLeft g k
block_left g k fine small =
    let ws = shape_of g k in
    let n = length k.args + length k.steps in
    let values : length ws ≡ n = shape_long g.arrays k.steps (map Some k.args) ∙ ap (λ q. q + length k.steps) (length-map k.args Some) in
    let below : JumpBelow k.jump n = subst (JumpBelow k.jump) values (jump_below g ws k.jump fine.jump) in
    let m = many_most k.jump in
    let left : (w : ℕ) → get_or (left_table k) w 0 ≡ jump_uses k.jump n w = (λ w. left_is k w below (omega (arith, small)) (omega (arith, small, m))) in
    record {
      values = values;
      below = below;
      left = left;
      used = λ v. let r = remains_most k (length k.args) k.steps v (omega arith) (omega (arith, small)) in omega (arith, r, m, small);
      room = λ v. let r = left_most k v (omega (arith, small)) in omega (arith, r, m, small);
      silent = λ v none. left v ∙ (ap (λ q. jump_uses k.jump q v) (sym values) ∙ silent_jump g ws k.jump v fine.jump (omega (arith, small)) (omega (arith, small, values)) none);
      long = jump_added_length k.jump (zeros n) ∙ zeros_length n;
    }
