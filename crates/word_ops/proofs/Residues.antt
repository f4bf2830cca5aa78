-- Residues modulo 2 ^ w: they are below 2 ^ w, and sums, differences and products of residues are those of the numbers.
use Rattle.std.proofs.Common.{◌≡◌, ℕ, ◌+◌, ◌-◌, ◌*◌, ◌/◌, ◌%◌, ◌^◌, ◌<◌, ◌≤◌, refl, sym, ◌∙◌, ap, arith}
use Rattle.std.specs.Prelude.{ℤ, pos, negsuc, ◌+ℤ◌, ◌-ℤ◌, ◌*ℤ◌, neg_ℤ, unsigned_abs}
use Rattle.std.proofs.lemmas.Int.{int_rem_euclid_is, ints}
use Rattle.std.proofs.lemmas.Nat.{pow-add, pow_pos, div-add-mod'}
use Rattle.std.proofs.Math.Nat.{mul_assoc, mul-le-mul_left, mod-lt}
use Rattle.std.proofs.Math.IntN.{*ℤ_comm}
use borrow.Author.Differences.{up, down, same_in, same_out, sum_is_lem, neg_is, product_is}
use Rattle.el_base.specs.Numbers.{residue}

pub residue_below : (w : ℕ) (z : ℤ) → residue w z < 2 ^ w
residue_below w (pos a) = mod-lt a (pow_pos w)
residue_below w (negsuc a) = omega (arith, pow_pos w)

-- x and y differ by a multiple of 2 ^ w
pub same_residue : (w : ℕ) (x y : ℤ) (j k : ℕ) → x +ℤ pos (j * 2 ^ w) ≡ y +ℤ pos (k * 2 ^ w) → residue w x ≡ residue w y
same_residue w x y j k e =
    let m = 2 ^ w in
    let some = pow_pos w in
    let t = down x + down y in
    let far : t * 1 ≤ t * m = mul-le-mul_left t some in
    let n = up x + (j + t) * m - down x in
    let from : (z : ℤ) (i : ℕ) → z +ℤ pos ((i + t) * m) ≡ pos n → residue w z ≡ n % m = λ z i h. ap unsigned_abs (int_rem_euclid_is z (pos m) m (i + t) n some refl h) in
    from x j (omega (arith, ints)) ∙ sym (from y k (omega (arith, ints)))

-- a number and its residue differ by a multiple of 2 ^ w
pub residue_away : (w : ℕ) (z : ℤ) → (j : ℕ) × (k : ℕ) × (pos (residue w z) +ℤ pos (j * 2 ^ w) ≡ z +ℤ pos (k * 2 ^ w))
residue_away w (pos a) =
    (a / 2 ^ w, 0, omega (arith, same_in, same_out, sum_is_lem, div-add-mod' a (2 ^ w)))
residue_away w (negsuc a) =
    let small = mod-lt a (pow_pos w) in
    (0, a / 2 ^ w + 1, omega (arith, same_in, same_out, sum_is_lem, div-add-mod' a (2 ^ w)))

-- a product with a number
pub residue-scaled : (w : ℕ) (x y z : ℤ) (j k : ℕ) → x +ℤ pos (j * 2 ^ w) ≡ y +ℤ pos (k * 2 ^ w) → residue w (x *ℤ z) ≡ residue w (y *ℤ z)
residue-scaled w x y z j k e =
    let sum : up x + j * 2 ^ w + down y ≡ up y + k * 2 ^ w + down x = omega (arith, same_out, sum_is_lem) in
    let above = ap (λ n. n * up z) sum in
    let below = ap (λ n. n * down z) sum in
    same_residue w (x *ℤ z) (y *ℤ z) (j * up z + k * down z) (k * up z + j * down z) (omega (arith, same_in, sum_is_lem, product_is))

-- residues of residues
pub residue-residue : (w : ℕ) (x : ℤ) → residue w (pos (residue w x)) ≡ residue w x
residue-residue w x = let l = residue_away w x in same_residue w (pos (residue w x)) x l.0 l.1 l.2

pub residue-sum : (w : ℕ) (x y : ℤ) → residue w (pos (residue w x) +ℤ pos (residue w y)) ≡ residue w (x +ℤ y)
residue-sum w x y =
    let l = residue_away w x in
    let r = residue_away w y in
    same_residue w (pos (residue w x) +ℤ pos (residue w y)) (x +ℤ y) (l.0 + r.0) (l.1 + r.1) (omega (arith, same_in, same_out, sum_is_lem, l.2, r.2))

pub residue-difference : (w : ℕ) (x y : ℤ) → residue w (pos (residue w x) -ℤ pos (residue w y)) ≡ residue w (x -ℤ y)
residue-difference w x y =
    let l = residue_away w x in
    let r = residue_away w y in
    same_residue w (pos (residue w x) -ℤ pos (residue w y)) (x -ℤ y) (l.0 + r.1) (l.1 + r.0) (omega (arith, same_in, same_out, sum_is_lem, neg_is, l.2, r.2))

pub residue-negative : (w : ℕ) (x : ℤ) → residue w (neg_ℤ (pos (residue w x))) ≡ residue w (neg_ℤ x)
residue-negative w x =
    let l = residue_away w x in
    same_residue w (neg_ℤ (pos (residue w x))) (neg_ℤ x) l.1 l.0 (omega (arith, same_in, same_out, sum_is_lem, neg_is, l.2))

pub residue-product : (w : ℕ) (x y : ℤ) → residue w (pos (residue w x) *ℤ pos (residue w y)) ≡ residue w (x *ℤ y)
residue-product w x y =
    let l = residue_away w x in
    let r = residue_away w y in
    residue-scaled w (pos (residue w x)) x (pos (residue w y)) l.0 l.1 l.2 ∙ ap (residue w) (*ℤ_comm x (pos (residue w y)))
    ∙ residue-scaled w (pos (residue w y)) y x r.0 r.1 r.2 ∙ ap (residue w) (*ℤ_comm y x)

-- ---- narrower widths

-- x and y differ by a multiple of 2 ^ v, and so by one of 2 ^ w
pub same_narrower : (w v : ℕ) (x y : ℤ) (j k : ℕ) → w ≤ v → x +ℤ pos (j * 2 ^ v) ≡ y +ℤ pos (k * 2 ^ v) → residue w x ≡ residue w y
same_narrower w v x y j k h e =
    let width : (v - w) + w ≡ v = omega arith in
    let split : 2 ^ (v - w) * 2 ^ w ≡ 2 ^ v = sym (pow-add 2 (v - w) w) ∙ ap (λ n. 2 ^ n) width in
    let whole : (i : ℕ) → i * 2 ^ (v - w) * 2 ^ w ≡ i * 2 ^ v = λ i. mul_assoc i (2 ^ (v - w)) (2 ^ w) ∙ ap (λ n. i * n) split in
    same_residue w x y (j * 2 ^ (v - w)) (k * 2 ^ (v - w)) (ap (λ n. x +ℤ pos n) (whole j) ∙ e ∙ sym (ap (λ n. y +ℤ pos n) (whole k)))

pub residue-narrower : (w v : ℕ) (z : ℤ) → w ≤ v → residue w (pos (residue v z)) ≡ residue w z
residue-narrower w v z h = let l = residue_away v z in same_narrower w v (pos (residue v z)) z l.0 l.1 h l.2
