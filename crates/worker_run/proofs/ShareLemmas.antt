-- Shares of a limit.
use Rattle.std.proofs.Common.{◌≡◌, ◌≢◌, ◌⊎◌, inl, inr, ℕ, zero, suc, ◌+◌, ◌*◌, ◌/◌, ◌%◌, ◌<◌, ◌≤◌, min, cond, nat_lt, Bool, true, false, List, [], ◌∷◌, length, get_or, refl, ap, ◌∙◌, sym, subst, arith}
use Rattle.std.proofs.lemmas.Grind.{common_steps}
use Rattle.std.proofs.lemmas.Bool.{cases_lt}
use Rattle.std.proofs.Math.Nat.{div-add-mod}
use Rattle.std.proofs.lemmas.Nat.{mod_below}
use Rattle.net_worker.specs.declared.worker.Worker.{Worker}
use Rattle.net_worker.specs.Merged.{entries_of}
use Rattle.net_worker.specs.Views.{log_of}
use Rattle.worker_run.specs.Crews.{logs_of, share_of}

abbrev one_if : Bool → ℕ
one_if b = cond b 1 0

one_below : (i r : ℕ) → i < r → one_if (nat_lt i r) ≡ 1
one_below i r l = grind (arith, common_steps)

none_past : (i r : ℕ) → r ≤ i → one_if (nat_lt i r) ≡ 0
none_past i r l = grind (arith, common_steps)

one_share : (i r : ℕ) → one_if (nat_lt i r) + min i r ≡ min (suc i) r
one_share i r = by (cases_lt i r)
  where
    by : (i < r) ⊎ (r ≤ i) → one_if (nat_lt i r) + min i r ≡ min (suc i) r
    by (inl l) = omega (arith, one_below i r l)
    by (inr l) = omega (arith, none_past i r l)

step : (n q r i long share rest all : ℕ) → long ≤ q + share → share + min i r ≡ min (suc i) r → rest + min (suc i) r ≤ n * q + min (suc i + n) r → all ≡ long + rest
    → suc i + n ≡ i + suc n → suc n * q ≡ q + n * q → all + min i r ≤ suc n * q + min (i + suc n) r
step n q r i long share rest all a b c d e f =
    let g : min (suc i + n) r ≡ min (i + suc n) r = ap (λ k. min k r) e in
    omega (arith, a, b, c, d, f, g)

-- logs from that of worker i on
shared : (q r i : ℕ) (ws : List Worker) → ((j : ℕ) (d : Worker) → j < length ws → length (log_of (get_or ws j d)) ≤ q + one_if (nat_lt (i + j) r))
    → entries_of (logs_of ws) + min i r ≤ length ws * q + min (i + length ws) r
shared q r i [] h = omega arith
shared q r i (w ∷ ws) h =
    let more = shared q r (suc i) ws (λ j d l. (let e : i + suc j ≡ suc i + j = omega arith in subst (λ k. length (log_of (get_or ws j d)) ≤ q + one_if (nat_lt k r)) e (h (suc j) d (omega arith)))) in
    let e : i + 0 ≡ i = omega arith in
    let one = subst (λ k. length (log_of w) ≤ q + one_if (nat_lt k r)) e (h 0 w (omega arith)) in
    step (length ws) q r i (length (log_of w)) (one_if (nat_lt i r)) (entries_of (logs_of ws)) (entries_of (logs_of (w ∷ ws))) one (one_share i r) more refl (omega arith) (omega arith)

-- the logs of workers that keep to their shares have no more entries than the limit
pub within_limit : (limit count : ℕ) (ws : List Worker) → 0 < count → length ws ≡ count → ((j : ℕ) (d : Worker) → j < length ws → length (log_of (get_or ws j d)) ≤ share_of limit count j)
    → entries_of (logs_of ws) ≤ limit
within_limit limit count ws some long h =
    let q = limit / count in
    let r = limit % count in
    let all = shared q r 0 ws (λ j d l. (let e : 0 + j ≡ j = omega arith in subst (λ k. length (log_of (get_or ws j d)) ≤ q + one_if (nat_lt k r)) (sym e) (h j d l))) in
    let parts : count * q + r ≡ limit = div-add-mod limit count in
    let few : r < count = mod_below limit count some in
    let same : length ws * q ≡ count * q = ap (λ k. k * q) long in
    omega (arith, all, parts, few, same, long)

-- the logs of so many workers, each of so many entries at most
pub all_few : (most : ℕ) (ws : List Worker) → ((j : ℕ) (d : Worker) → j < length ws → length (log_of (get_or ws j d)) ≤ most) → entries_of (logs_of ws) ≤ length ws * most
all_few most [] h = omega arith
all_few most (w ∷ ws) h =
    let one = h 0 w (omega arith) in
    let more = all_few most ws (λ j d l. h (suc j) d (omega arith)) in
    let e : suc (length ws) * most ≡ most + length ws * most = omega arith in
    omega (arith, one, more, e)
