-- What is left of the uses of the values of a block, in front of each of its steps and of its jump.
use Rattle.std.proofs.Common.{◌≡◌, ◌≢◌, ◌⊎◌, ℕ, zero, suc, ◌+◌, ◌*◌, ◌<◌, ◌≤◌, ◌^◌, List, [], ◌∷◌, ◌++◌, length, get_or, set, Bool, true, false, Option, Some, None, refl, sym, ap, ◌∙◌, inl, inr, arith, length-append}
use Rattle.std.specs.Prelude.{cond, ◌==◌, replicate}
use Rattle.std.proofs.lemmas.Bool.{cases_eq, eq-eqb, ne_eqb}
use Rattle.std.proofs.lemmas.List.{length-set, get_or-set_same, get_or-set_other}
use Rattle.std.proofs.lemmas.Option.{slice_get_within}
use Rattle.ir.specs.declared.graph.Block.{Block}
use Rattle.ir.specs.declared.graph.Jump.{Jump}
use Rattle.ir.specs.declared.graph.Jump.TheVariants.{Go, Two, Return}
use Rattle.ir.specs.declared.graph.To.{To}
use Rattle.ir.specs.declared.instr.Instr.{Instr}
use Rattle.ir.specs.declared.instr.Instr.TheVariants as step
use Rattle.el_base.specs.declared.ty.Array.{Array}
use Rattle.ir.specs.Shapes.{Shape, IsOfWidth, StepFits, StepsFit, step_width}
use Rattle.ir.specs.Renaming.{operands}
use Rattle.net_types.specs.declared.net.Place.{Place}
use Rattle.circuit_build.specs.declared.draft.End.{End}
use Rattle.circuit_build.specs.Drafts.{plus, after_place}
pub use Rattle.circuit_build.proofs.Targets.{one_if}
use Rattle.circuit_build.specs.Uses.{is_used, constant_of, constants, zeros, added, all_added, handed_often, branch_added, branches_added, jump_added, is_laid, step_added, steps_added}

-- ---- tables of what is left, and the places of it

-- in front of the jump; in front of steps `is` whose first value is number v it is `steps_added v is (left_table b)`
abbrev pub left_table : Block → List ℕ
left_table b = jump_added b.jump (zeros (length b.args + length b.steps))

-- n places, from p on
abbrev pub places_of : Place → ℕ → List (Option Place)
places_of p zero = []
places_of p (suc n) = Some p ∷ places_of (after_place p) n

-- of each value
abbrev pub values_left : List ℕ → List (Option End) → List (Option Place)
values_left us [] = []
values_left [] (e ∷ es) = []
values_left (u ∷ us) (None ∷ es) = values_left us es
values_left (u ∷ us) (Some e ∷ es) = places_of e.place u ++ values_left us es

-- each value as often as it is left
abbrev pub repeated : List ℕ → List ℕ → List ℕ
repeated us [] = []
repeated [] (v ∷ vs) = []
repeated (u ∷ us) (v ∷ vs) = replicate u v ++ repeated us vs

-- ---- one number, and how often it stands in a list

pub one_own : (v : ℕ) → one_if v v ≡ 1
one_own v = ap (λ b. cond b 1 0) (eq-eqb v v refl)

pub one_other : (v w : ℕ) → w ≢ v → one_if v w ≡ 0
one_other v w n = ap (λ b. cond b 1 0) (ne_eqb v w (λ e. n (sym e)))

pub one_most : (v w : ℕ) → one_if v w ≤ 1
one_most v w = by (v == w)
  where
    by : (b : Bool) → cond b 1 0 ≤ 1
    by true = omega arith
    by false = omega arith

abbrev pub often : ℕ → List ℕ → ℕ
often w [] = 0
often w (v ∷ vs) = one_if v w + often w vs

pub often_most : (w : ℕ) (vs : List ℕ) → often w vs ≤ length vs
often_most w [] = omega arith
often_most w (v ∷ vs) = let a = one_most v w in let b = often_most w vs in omega (arith, a, b)

-- ---- tables

pub set_cases : (t : List ℕ) (v x w : ℕ) → (get_or (set t v x) w 0 ≡ get_or t w 0) ⊎ (get_or (set t v x) w 0 ≡ x) × (w ≡ v)
set_cases [] v x w = inl refl
set_cases (y ∷ t) zero x zero = inr (refl, refl)
set_cases (y ∷ t) zero x (suc w) = inl refl
set_cases (y ∷ t) (suc v) x zero = inl refl
set_cases (y ∷ t) (suc v) x (suc w) = elim (set_cases t v x w) [
  | inl e ↦ inl e
  | inr e ↦ inr (e.0, ap suc e.1)
]

pub added_length : (v n : ℕ) (t : List ℕ) → length (added v n t) ≡ length t
added_length v n t = length-set t v (plus (get_or t v 0) n)

pub added_most : (v n w : ℕ) (t : List ℕ) → get_or (added v n t) w 0 ≤ get_or t w 0 + n
added_most v n w t = elim (set_cases t v (plus (get_or t v 0) n) w) [
  | inl e ↦ omega (arith, e)
  | inr e ↦ (let x = e.0 in let y = ap (λ k. get_or t k 0) e.1 in omega (arith, x, y))
]

-- a use more
pub added_is : (v w : ℕ) (t : List ℕ) → v < length t → get_or t w 0 + 1 < 2 ^ 32 → get_or (added v 1 t) w 0 ≡ get_or t w 0 + one_if v w
added_is v w t l few = elim (cases_eq w v) [
  | inl e ↦ (let x = get_or-set_same t v (plus (get_or t v 0) 1) 0 l in let y = ap (λ n. get_or (added v 1 t) n 0) e in let z = ap (λ n. get_or t n 0) e in let o = ap (λ n. one_if v n) e in let p = one_own v in omega (arith, x, y, z, o, p, few))
  | inr n ↦ (let x = get_or-set_other t v w (plus (get_or t v 0) 1) 0 n in let o = one_other v w n in omega (arith, x, o))
]

pub added_other : (v n w : ℕ) (t : List ℕ) → w ≢ v → get_or (added v n t) w 0 ≡ get_or t w 0
added_other v n w t d = get_or-set_other t v w (plus (get_or t v 0) n) 0 d

pub all_added_length : (vs t : List ℕ) → length (all_added vs t) ≡ length t
all_added_length [] t = refl
all_added_length (v ∷ vs) t = all_added_length vs (added v 1 t) ∙ added_length v 1 t

pub all_added_most : (vs : List ℕ) (w : ℕ) (t : List ℕ) → get_or (all_added vs t) w 0 ≤ get_or t w 0 + length vs
all_added_most [] w t = omega arith
all_added_most (v ∷ vs) w t = let a = added_most v 1 w t in let b = all_added_most vs w (added v 1 t) in omega (arith, a, b)

abbrev pub AreBelow : ℕ → List ℕ → Type 0
AreBelow n [] = Unit {0}
AreBelow n (v ∷ vs) = (v < n) × AreBelow n vs

pub all_added_is : (vs : List ℕ) (w : ℕ) (t : List ℕ) → AreBelow (length t) vs → get_or t w 0 + length vs + 1 < 2 ^ 32 → get_or (all_added vs t) w 0 ≡ get_or t w 0 + often w vs
all_added_is [] w t b few = omega arith
all_added_is (v ∷ vs) w t b few =
    let x = added_is v w t b.0 (omega (arith, few)) in
    let m = added_most v 1 w t in
    let i = all_added_is vs w (added v 1 t) (below_as vs (length t) (length (added v 1 t)) (sym (added_length v 1 t)) b.1) (omega (arith, m, few)) in
    omega (arith, x, i)
  where
    below_as : (us : List ℕ) (n m : ℕ) → n ≡ m → AreBelow n us → AreBelow m us
    below_as [] n m e c = tt
    below_as (u ∷ us) n m e c = let l = c.0 in (omega (arith, l, e), below_as us n m e c.1)

-- what stands behind all of these stays
pub all_added_past : (vs : List ℕ) (n w : ℕ) (t : List ℕ) → AreBelow n vs → n ≤ w → get_or (all_added vs t) w 0 ≡ get_or t w 0
all_added_past [] n w t b l = refl
all_added_past (v ∷ vs) n w t b l = let c = b.0 in all_added_past vs n w (added v 1 t) b.1 l ∙ added_other v 1 w t (λ e. absurd (omega (arith, e, c, l)))

zero_more : (xs : List ℕ) (u : ℕ) → get_or (xs ++ 0 ∷ []) u 0 ≡ get_or xs u 0
zero_more [] zero = refl
zero_more [] (suc u) = refl
zero_more (x ∷ xs) zero = refl
zero_more (x ∷ xs) (suc u) = zero_more xs u

pub zeros_at : (n u : ℕ) → get_or (zeros n) u 0 ≡ 0
zeros_at zero u = refl
zeros_at (suc n) u = zero_more (zeros n) u ∙ zeros_at n u

pub zeros_length : (n : ℕ) → length (zeros n) ≡ n
zeros_length zero = refl
zeros_length (suc n) = let x = length-append (zeros n) (0 ∷ []) in let y = zeros_length n in omega (arith, x, y)

-- ---- values that fit a shape are named before it ends

pub of_width_below : (ws : Shape) (v w : ℕ) → IsOfWidth ws v w → v < length ws
of_width_below ws v w h = slice_get_within ws v (Some w) h

pub operands_below : (arrays : List Array) (ws : Shape) (i : Instr) → StepFits arrays ws i → AreBelow (length ws) (operands i)
operands_below arrays ws (step.Const w n) h = tt
operands_below arrays ws (step.One op a) h = (of_width_below ws a _ h, tt)
operands_below arrays ws (step.Two op a b) h = (of_width_below ws a _ h.0, (of_width_below ws b _ h.1, tt))
operands_below arrays ws (step.Select w c a b) h = (of_width_below ws c _ h.1, (of_width_below ws a _ h.2, (of_width_below ws b _ h.3, tt)))
operands_below arrays ws (step.Load a p) (w, x, h) = (of_width_below ws p _ h, tt)
operands_below arrays ws (step.Store a p v) (w, x, h, k) = (of_width_below ws p _ h, (of_width_below ws v _ k, tt))

pub operands_few : (i : Instr) → length (operands i) ≤ 3
operands_few (step.Const w n) = omega arith
operands_few (step.One op a) = omega arith
operands_few (step.Two op a b) = omega arith
operands_few (step.Select w c a b) = omega arith
operands_few (step.Load a p) = omega arith
operands_few (step.Store a p v) = omega arith

-- ---- steps

pub step_added_length : (v : ℕ) (i : Instr) (t : List ℕ) → length (step_added v i t) ≡ length t
step_added_length v i t = by (is_laid i (get_or t v 0))
  where
    by : (b : Bool) → length (cond b (all_added (operands i) t) t) ≡ length t
    by true = all_added_length (operands i) t
    by false = refl

pub steps_added_length : (v : ℕ) (is : List Instr) (t : List ℕ) → length (steps_added v is t) ≡ length t
steps_added_length v [] t = refl
steps_added_length v (i ∷ is) t = step_added_length v i (steps_added (suc v) is t) ∙ steps_added_length (suc v) is t

pub step_added_most : (v : ℕ) (i : Instr) (w : ℕ) (t : List ℕ) → get_or (step_added v i t) w 0 ≤ get_or t w 0 + 3
step_added_most v i w t = by (is_laid i (get_or t v 0))
  where
    by : (b : Bool) → get_or (cond b (all_added (operands i) t) t) w 0 ≤ get_or t w 0 + 3
    by true = let a = all_added_most (operands i) w t in let b = operands_few i in omega (arith, a, b)
    by false = omega arith

pub steps_added_most : (v : ℕ) (is : List Instr) (w : ℕ) (t : List ℕ) → get_or (steps_added v is t) w 0 ≤ get_or t w 0 + 3 * length is
steps_added_most v [] w t = omega arith
steps_added_most v (i ∷ is) w t =
    let a = step_added_most v i w (steps_added (suc v) is t) in
    let b = steps_added_most (suc v) is w t in
    omega (arith, a, b)

-- a step uses no value that comes with it or later
pub step_added_past : (arrays : List Array) (ws : Shape) (v : ℕ) (i : Instr) (w : ℕ) (t : List ℕ) → StepFits arrays ws i → length ws ≤ w → get_or (step_added v i t) w 0 ≡ get_or t w 0
step_added_past arrays ws v i w t h l = by (is_laid i (get_or t v 0))
  where
    by : (b : Bool) → get_or (cond b (all_added (operands i) t) t) w 0 ≡ get_or t w 0
    by true = all_added_past (operands i) (length ws) w t (operands_below arrays ws i h) l
    by false = refl

-- so the uses of a value are what the steps behind it, and the jump, have
pub steps_added_past : (arrays : List Array) (ws : Shape) (v : ℕ) (is js : List Instr) (w : ℕ) (t : List ℕ) → StepsFit arrays ws is → v ≡ length ws → length ws + length is ≤ w + 1 → 0 < length is
    → get_or (steps_added v (is ++ js) t) w 0 ≡ get_or (steps_added (v + length is) js t) w 0
steps_added_past arrays ws v [] js w t h e l some = absurd (omega (arith, some))
steps_added_past arrays ws v (i ∷ []) js w t (x, y) e l some =
    step_added_past arrays ws v i w (steps_added (suc v) js t) x (omega (arith, l)) ∙ ap (λ n. get_or (steps_added n js t) w 0) (let z : suc v ≡ v + 1 = omega arith in z)
steps_added_past arrays ws v (i ∷ k ∷ is) js w t (x, y) e l some =
    let long = length-append ws (step_width arrays i ∷ []) in
    let h = steps_added_past arrays (ws ++ step_width arrays i ∷ []) (suc v) (k ∷ is) js w t y (omega (arith, long, e)) (omega (arith, long, l)) (omega arith) in
    step_added_past arrays ws v i w (steps_added (suc v) ((k ∷ is) ++ js) t) x (omega (arith, l)) ∙ h ∙ ap (λ n. get_or (steps_added n js t) w 0) (let z : suc v + length (k ∷ is) ≡ v + length (i ∷ k ∷ is) = omega arith in z)

-- ---- jumps

-- a value that either side hands on, and the condition with it
abbrev pub branch_uses : ℕ → ℕ → ℕ → ℕ → ℕ → ℕ
branch_uses c v zero zero w = 0
branch_uses c v (suc y) n w = one_if c w + one_if v w
branch_uses c v zero (suc n) w = one_if c w + one_if v w

abbrev pub branches_uses : ℕ → ℕ → List ℕ → List ℕ → ℕ → ℕ
branches_uses c v [] ns w = 0
branches_uses c v (y ∷ ys) ns w = branch_uses c v y (get_or ns v 0) w + branches_uses c (plus v 1) ys ns w

-- of so many values
abbrev pub jump_uses : Jump → ℕ → ℕ → ℕ
jump_uses (Go to) n w = often w to.with
jump_uses (Two c yes_part no_part) n w = one_if c w + branches_uses c 0 (handed_often n yes_part) (handed_often n no_part) w
jump_uses (Return None) n w = 0
jump_uses (Return (Some v)) n w = one_if v w

branch_length : (c v y n : ℕ) (t : List ℕ) → length (branch_added c v y n t) ≡ length t
branch_length c v zero zero t = refl
branch_length c v (suc y) n t = added_length c 1 (added v 1 t) ∙ added_length v 1 t
branch_length c v zero (suc n) t = added_length c 1 (added v 1 t) ∙ added_length v 1 t

branches_length : (c v : ℕ) (ys ns t : List ℕ) → length (branches_added c v ys ns t) ≡ length t
branches_length c v [] ns t = refl
branches_length c v (y ∷ ys) ns t = branches_length c (plus v 1) ys ns (branch_added c v y (get_or ns v 0) t) ∙ branch_length c v y (get_or ns v 0) t

pub jump_added_length : (j : Jump) (t : List ℕ) → length (jump_added j t) ≡ length t
jump_added_length (Go to) t = all_added_length to.with t
jump_added_length (Two c a b) t = added_length c 1 (branches_added c 0 (handed_often (length t) a) (handed_often (length t) b) t) ∙ branches_length c 0 (handed_often (length t) a) (handed_often (length t) b) t
jump_added_length (Return None) t = refl
jump_added_length (Return (Some v)) t = added_length v 1 t

branch_most : (c v y n w : ℕ) (t : List ℕ) → get_or (branch_added c v y n t) w 0 ≤ get_or t w 0 + 1 + one_if v w
branch_most c v zero zero w t = omega arith
branch_most c v (suc y) n w t = elim (cases_eq w v) [
  | inl e ↦ (let a = added_most v 1 w t in let b = added_most c 1 w (added v 1 t) in let o = ap (λ k. one_if v k) e in let p = one_own v in omega (arith, a, b, o, p))
  | inr d ↦ (let a = added_other v 1 w t d in let b = added_most c 1 w (added v 1 t) in omega (arith, a, b))
]
branch_most c v zero (suc n) w t = elim (cases_eq w v) [
  | inl e ↦ (let a = added_most v 1 w t in let b = added_most c 1 w (added v 1 t) in let o = ap (λ k. one_if v k) e in let p = one_own v in omega (arith, a, b, o, p))
  | inr d ↦ (let a = added_other v 1 w t d in let b = added_most c 1 w (added v 1 t) in omega (arith, a, b))
]

-- each branch uses the condition, and one of them the value
branches_before : (c v : ℕ) (ys ns : List ℕ) (w : ℕ) (t : List ℕ) → w < v → v + length ys < 2 ^ 32 → get_or (branches_added c v ys ns t) w 0 ≤ get_or t w 0 + length ys
branches_before c v [] ns w t l few = omega arith
branches_before c v (y ∷ ys) ns w t l few =
    let a = branch_most c v y (get_or ns v 0) w t in
    let o = one_other v w (λ e. absurd (omega (arith, e, l))) in
    let i = branches_before c (plus v 1) ys ns w (branch_added c v y (get_or ns v 0) t) (omega (arith, l, few)) (omega (arith, few)) in
    omega (arith, a, o, i)

pub branches_most : (c v : ℕ) (ys ns : List ℕ) (w : ℕ) (t : List ℕ) → v + length ys < 2 ^ 32 → get_or (branches_added c v ys ns t) w 0 ≤ get_or t w 0 + length ys + 1
branches_most c v [] ns w t few = omega arith
branches_most c v (y ∷ ys) ns w t few =
    let a = branch_most c v y (get_or ns v 0) w t in
    let d = branch_added c v y (get_or ns v 0) t in
    elim (cases_eq w v) [
      | inl e ↦ (let o = one_most v w in let i = branches_before c (plus v 1) ys ns w d (omega (arith, e, few)) (omega (arith, few)) in omega (arith, a, o, i))
      | inr n ↦ (let o = one_other v w n in let i = branches_most c (plus v 1) ys ns w d (omega (arith, few)) in omega (arith, a, o, i))
    ]

pub handed_length : (n : ℕ) (to : To) → length (handed_often n to) ≡ n
handed_length n to = all_added_length to.with (zeros n) ∙ zeros_length n

branch_is : (c v y n w : ℕ) (t : List ℕ) → c < length t → v < length t → get_or t w 0 + 3 < 2 ^ 32 → get_or (branch_added c v y n t) w 0 ≡ get_or t w 0 + branch_uses c v y n w
branch_is c v zero zero w t i j few = omega arith
branch_is c v (suc y) n w t i j few =
    let a = added_is v w t j (omega (arith, few)) in
    let l = added_length v 1 t in
    let m = one_most v w in
    let b = added_is c w (added v 1 t) (omega (arith, i, l)) (omega (arith, a, m, few)) in
    omega (arith, a, b)
branch_is c v zero (suc n) w t i j few =
    let a = added_is v w t j (omega (arith, few)) in
    let l = added_length v 1 t in
    let m = one_most v w in
    let b = added_is c w (added v 1 t) (omega (arith, i, l)) (omega (arith, a, m, few)) in
    omega (arith, a, b)

branches_are : (c v : ℕ) (ys ns : List ℕ) (w : ℕ) (t : List ℕ) → c < length t → v + length ys ≤ length t → length t < 2 ^ 32 → get_or t w 0 + 2 * length ys + 2 < 2 ^ 32 → get_or (branches_added c v ys ns t) w 0 ≡ get_or t w 0 + branches_uses c v ys ns w
branches_are c v [] ns w t i j long few = omega arith
branches_are c v (y ∷ ys) ns w t i j long few =
    let n = get_or ns v 0 in
    let d = branch_added c v y n t in
    let a = branch_is c v y n w t i (omega (arith, j)) (omega (arith, few)) in
    let m = branch_most c v y n w t in
    let o = one_most v w in
    let l = branch_length c v y n t in
    let h = branches_are c (plus v 1) ys ns w d (omega (arith, i, l)) (omega (arith, j, l, long)) (omega (arith, l, long)) (omega (arith, m, o, few)) in
    omega (arith, a, h)

-- the values that a jump names, of so many
abbrev pub JumpBelow : Jump → ℕ → Type 0
JumpBelow (Go to) n = AreBelow n to.with
JumpBelow (Two c a b) n = c < n
JumpBelow (Return None) n = Unit {0}
JumpBelow (Return (Some v)) n = v < n

-- how many values a jump hands on without a branch
abbrev pub handed_many : Jump → ℕ
handed_many (Go to) = length to.with
handed_many (Two c a b) = 0
handed_many (Return v) = 1

pub below_as : (us : List ℕ) (n m : ℕ) → n ≤ m → AreBelow n us → AreBelow m us
below_as [] n m e c = tt
below_as (u ∷ us) n m e c = let l = c.0 in (omega (arith, l, e), below_as us n m e c.1)

jump_is : (n w : ℕ) (j : Jump) → JumpBelow j n → 2 * n + 3 < 2 ^ 32 → handed_many j + 1 < 2 ^ 32 → get_or (jump_added j (zeros n)) w 0 ≡ jump_uses j n w
jump_is n w (Go to) i few m =
    let z = zeros_at n w in
    let l = zeros_length n in
    let x = all_added_is to.with w (zeros n) (below_as to.with n (length (zeros n)) (omega (arith, l)) i) (omega (arith, z, m)) in
    omega (arith, x, z)
jump_is n w (Two c a d) i few m =
    let z = zeros_at n w in
    let l = zeros_length n in
    let k = length (zeros n) in
    let ys = handed_often k a in
    let ns = handed_often k d in
    let t = branches_added c 0 ys ns (zeros n) in
    let yl = handed_length k a in
    let x = branches_are c 0 ys ns w (zeros n) (omega (arith, i, l)) (omega (arith, yl)) (omega (arith, l, few)) (omega (arith, z, yl, l, few)) in
    let m = branches_most c 0 ys ns w (zeros n) (omega (arith, yl, l, few)) in
    let tl = branches_length c 0 ys ns (zeros n) in
    let y = added_is c w t (omega (arith, i, l, tl)) (omega (arith, m, z, yl, l, few)) in
    let s = ap (λ q. branches_uses c 0 (handed_often q a) (handed_often q d) w) l in
    omega (arith, x, y, z, s)
jump_is n w (Return None) i few m = zeros_at n w
jump_is n w (Return (Some v)) i few m =
    let z = zeros_at n w in
    let l = zeros_length n in
    let x = added_is v w (zeros n) (omega (arith, i, l)) (omega (arith, z)) in
    omega (arith, x, z)

-- the table in front of the jump has its uses
pub left_is : (b : Block) (w : ℕ) → JumpBelow b.jump (length b.args + length b.steps) → 2 * (length b.args + length b.steps) + 3 < 2 ^ 32 → handed_many b.jump + 1 < 2 ^ 32 → get_or (left_table b) w 0 ≡ jump_uses b.jump (length b.args + length b.steps) w
left_is b w below few many = jump_is (length b.args + length b.steps) w b.jump below few many

jump_most : (n w : ℕ) (j : Jump) → n < 2 ^ 32 → get_or (jump_added j (zeros n)) w 0 ≤ n + 2 + handed_many j
jump_most n w (Go to) few = let z = zeros_at n w in let x = all_added_most to.with w (zeros n) in omega (arith, x, z)
jump_most n w (Two c a d) few =
    let z = zeros_at n w in
    let l = zeros_length n in
    let k = length (zeros n) in
    let ys = handed_often k a in
    let ns = handed_often k d in
    let yl = handed_length k a in
    let m = branches_most c 0 ys ns w (zeros n) (omega (arith, yl, l, few)) in
    let y = added_most c 1 w (branches_added c 0 ys ns (zeros n)) in
    omega (arith, m, y, z, yl, l)
jump_most n w (Return None) few = let z = zeros_at n w in omega (arith, z)
jump_most n w (Return (Some v)) few = let z = zeros_at n w in let x = added_most v 1 w (zeros n) in omega (arith, x, z)

-- and never more than these
pub left_most : (b : Block) (w : ℕ) → length b.args + length b.steps < 2 ^ 32 → get_or (left_table b) w 0 ≤ length b.args + length b.steps + 2 + handed_many b.jump
left_most b w few = jump_most (length b.args + length b.steps) w b.jump few

-- in front of any of the steps
pub remains_most : (b : Block) (v : ℕ) (is : List Instr) (w : ℕ) → length is ≤ length b.steps → length b.args + length b.steps < 2 ^ 32 → get_or (steps_added v is (left_table b)) w 0 ≤ 4 * length b.steps + length b.args + 2 + handed_many b.jump
remains_most b v is w l few = let a = steps_added_most v is w (left_table b) in let c = left_most b w few in omega (arith, a, c, l)

-- ---- constants

one_constant : (i : Instr) (n : ℕ) → constant_of i n ≤ 1
one_constant (step.Const w v) n = by (is_used n)
  where
    by : (b : Bool) → cond b 1 0 ≤ 1
    by true = omega arith
    by false = omega arith
one_constant (step.One op a) n = omega arith
one_constant (step.Two op a b) n = omega arith
one_constant (step.Select w c a b) n = omega arith
one_constant (step.Load a p) n = omega arith
one_constant (step.Store a p v) n = omega arith

pub constants_most : (v : ℕ) (is : List Instr) (us : List ℕ) → constants v is us ≤ length is
constants_most v [] us = omega arith
constants_most v (i ∷ is) us = let a = one_constant i (get_or us v 0) in let b = constants_most (suc v) is us in omega (arith, a, b)
