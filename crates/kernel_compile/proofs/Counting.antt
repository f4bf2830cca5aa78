-- The bounds, joined.
use Rattle.std.proofs.Common.{◌≡◌, ℕ, ◌+◌, ◌*◌, ◌≤◌, arith}

-- what is fired for each unit of weight, and once
pub joined_firings : (n t weights once firings : ℕ) → weights ≤ 20 * n * (t + 1) → firings ≤ 12 * weights + 16 * once → once ≤ n → firings ≤ 256 * n * (t + 1)
joined_firings n t weights once firings a b c =
    let y : 256 * n * (t + 1) ≡ 256 * (n * t) + 256 * n = omega arith in
    let z : 20 * n * (t + 1) ≡ 20 * (n * t) + 20 * n = omega arith in
    omega arith
