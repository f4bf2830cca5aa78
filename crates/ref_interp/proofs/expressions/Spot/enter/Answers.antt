use Rattle.std.proofs.Common.{◌≡◌, ◌≤◌, Some, None, ap, ◌∙◌, arith, length, get_or, refl}
use Rattle.std.specs.Prelude.{slice_get, Bool, true, false}
use Rattle.std.proofs.lemmas.Option.{gets}
use Rattle.std.proofs.lemmas.Grind.{common_steps}
use Rattle.el_base.specs.Numbers.{number}
use Rattle.c_meaning.specs.Stores.{dims_of}
use Rattle.c_meaning.proofs.StoreParts.{dims_is}
use Rattle.ref_interp.proofs.Places.{dims_none, spot_in, spot_out, inside_is, outside_is, within_below}
use Rattle.ref_interp.proofs.expressions.Spot.enter.Goals as goal
use Rattle.ref_interp.proofs.expressions.Spot.enter.Goals.{else-self-via-then-self+else-is_within, else-self-via-else-self}

never : (b : Bool) → b ≡ true → b ≡ false → ⊥
never b e f = cc

pub returns-then-is_within : goal.returns-then-is_within
returns-then-is_within c is lt len below spot =
    let l = c.in-Some.ensures in
    let m = c.in-Some-get.ensures in
    let a : slice_get c.args.arrays.now c.args.array ≡ Some c.in-Some.array.now = grind (arith, common_steps, gets) in
    let dims = dims_is c.args.arrays.now c.args.array c.in-Some.array.now a in
    let d : get_or c.in-Some.array.now.dims c.args.i 0 ≡ c.in-Some-get.dim.now = grind (arith, common_steps, gets) in
    let z = number c.args.index.ty c.args.index.pattern in
    let w = inside_is c.is_within.result c.in-Some-get.dim.now c.args.index.pattern z c.if-is_within.true (c.is_within.ensures below) in
    spot_in (dims_of c.args.arrays.now c.args.array) is c.args.i c.args.index.pattern c.in-Some-get.dim.now z c.args.self.now _ lt len (ap (λ ds. get_or ds c.args.i 0) dims ∙ d) spot c.if-self.true c.if-self.true w (within_below _ _ z w)
    (let p = c.saturating_add-self.ensures in let q = c.saturating_mul.ensures in omega (arith, p, q))

pub returns-else-self : goal.returns-else-self
returns-else-self c is lt len below spot =
    let l = c.in-Some.ensures in
    let m = c.in-Some-get.ensures in
    let a : slice_get c.args.arrays.now c.args.array ≡ Some c.in-Some.array.now = grind (arith, common_steps, gets) in
    let dims = dims_is c.args.arrays.now c.args.array c.in-Some.array.now a in
    let d : get_or c.in-Some.array.now.dims c.args.i 0 ≡ c.in-Some-get.dim.now = grind (arith, common_steps, gets) in
    let z = number c.args.index.ty c.args.index.pattern in
    spot_out (dims_of c.args.arrays.now c.args.array) is c.args.i c.in-Some-get.dim.now z c.args.self.now (record { inside = false; place = c.args.self.now.place }) lt len (ap (λ ds. get_or ds c.args.i 0) dims ∙ d) spot refl
    (λ was. elim c.else-self.branch [
      | else-self-via-then-self+else-is_within w ↦ outside_is w.is_within.result c.in-Some-get.dim.now c.args.index.pattern z w.if-is_within.false (w.is_within.ensures below)
      | else-self-via-else-self w ↦ absurd (never c.args.self.now.inside was w.if-self.false)
    ])

pub returns-in_default-get : goal.returns-in_default-get
returns-in_default-get c is lt len below spot =
    let l = c.in-Some.ensures in
    let a : slice_get c.args.arrays.now c.args.array ≡ Some c.in-Some.array.now = grind (arith, common_steps, gets) in
    let dims = ap length (dims_is c.args.arrays.now c.args.array c.in-Some.array.now a) in
    let m = c.in_default-get.ensures in
    let past : length c.in-Some.array.now.dims ≤ c.args.i = grind (arith, common_steps, gets) in
    absurd (omega (arith, dims, past, lt))

pub returns-in_default : goal.returns-in_default
returns-in_default c is lt len below spot =
    let l = c.in_default.ensures in
    let a : slice_get c.args.arrays.now c.args.array ≡ None = grind (arith, common_steps, gets) in
    let dims : length (dims_of c.args.arrays.now c.args.array) ≡ 0 = ap length (dims_none c.args.arrays.now c.args.array a) in
    absurd (omega (arith, dims, lt))
