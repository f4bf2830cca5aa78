-- A bench's kernel ends on the inputs that a number gives, and the elements of h have one sum.
use Rattle.std.proofs.Common.{◌≡◌, ℕ, suc, ◌+◌, ◌*◌, ◌/◌, lit<, ◌^◌, ◌<◌, List, [], ◌∷◌, map, length, get_or, refl, ◌∙◌, arith, rules}
use Rattle.std.specs.Prelude.{pos, All}
use Rattle.std.specs.List.{sum}
use Rattle.std.proofs.Math.Nat.{mod-lt}
use Rattle.std.proofs.lemmas.List.{length-map, get_or-replicate}
use Rattle.std.proofs.lemmas.Int.{ints}
use Rattle.std.proofs.lemmas.List.Elements.{All-nil, All-cons}
use Rattle.std.proofs.lemmas.List.FromFn.{get_or-map-range_with_len, get_or-range_with_len, length-map-range_with_len, length-range_with_len}
use Rattle.el_base.specs.declared.ty.Ty.TheVariants.{I32}
use Rattle.el_base.specs.Numbers.{IsInRange}
use Rattle.c_meaning.specs.Stores.{AreFitting}
use Rattle.kernel_bench.specs.Histogram.{hist}
use Rattle.kernel_bench.specs.Drawn.{state_after, bench_places, bench_weights, bench_zeros, bench_numbers}
use Rattle.kernel_bench.specs.Worked.{CountsTo}
use Rattle.kernel_bench.proofs.Rounds.{AreGiven, AreCounted, added_from, counted_after, counts_end}

-- ---- the inputs

pub places_long : (number : ℕ) → length (bench_places number) ≡ 1024
unfolding bench_places
places_long number = length-map-range_with_len (λ k. state_after number k / 2 ^ 58) 1 1024

pub weights_long : length bench_weights ≡ 1024
unfolding bench_weights
weights_long = length-range_with_len 1 1024

pub zeros_long : length bench_zeros ≡ 64
unfolding bench_zeros
zeros_long = refl

state_below : (number k : ℕ) → state_after number (suc k) < 18446744073709551616
unfolding state_after
state_below number k = mod-lt (state_after number k * 6364136223846793005 + 1442695040888963407) (lit< tt)

six_bits : (s : ℕ) → s < 18446744073709551616 → s / 2 ^ 58 < 64
six_bits s h = omega (arith, h)

pub places_near : (number i : ℕ) → i < 1024 → get_or (bench_places number) i 0 < 64
unfolding bench_places
places_near number i h = rw (get_or-map-range_with_len (λ k. state_after number k / 2 ^ 58) 1 1024 i (suc i) 0 h (omega arith)) (six_bits (state_after number (suc i)) (state_below number i))

pub weights_at : (i : ℕ) → i < 1024 → get_or bench_weights i 0 ≡ suc i
unfolding bench_weights
weights_at i h = get_or-range_with_len 1 1024 i 0 h ∙ (let e : 1 + i ≡ suc i = omega arith in e)

pub zeros_at : (i : ℕ) → i < 64 → get_or bench_zeros i 0 ≡ 0
unfolding bench_zeros
zeros_at i h = get_or-replicate 64 i 0 0 h

given : (number : ℕ) → AreGiven (bench_places number) bench_weights
given number = record { xs_long = places_long number; ws_long = weights_long; near = places_near number; weights = weights_at }

sum_of_zeros : sum bench_zeros ≡ 0
unfolding bench_zeros
sum_of_zeros = refl

none_counted : (number : ℕ) → AreCounted (bench_places number) bench_weights 0 bench_zeros
none_counted number = record { long = zeros_long; total = sum_of_zeros }

-- ---- they fit the kernel

in_range : (n : ℕ) → n < 2147483648 → IsInRange I32 (pos n)
in_range n h = record { above = search rules; below = omega (arith, ints, h) }

all_in_range : (ns : List ℕ) → ((i : ℕ) → i < length ns → get_or ns i 0 < 2147483648) → All (IsInRange I32) (map pos ns)
all_in_range [] h = All-nil (IsInRange I32)
all_in_range (n ∷ ns) h = All-cons (IsInRange I32) (pos n) (map pos ns) (in_range n (h 0 (omega arith))) (all_in_range ns (λ i l. h (suc i) (omega (arith, l))))

fitting : (number : ℕ) → AreFitting hist.params hist.arrays (bench_numbers number)
fitting number = record {
  each_scalar = (in_range 1024 (lit< tt), tt);
  each_array = (
    length-map (bench_places number) pos ∙ places_long number,
    all_in_range (bench_places number) (λ i l. omega (arith, places_near number i (omega (arith, l, places_long number)))),
    (
      length-map bench_weights pos ∙ weights_long,
      all_in_range bench_weights (λ i l. omega (arith, weights_at i (omega (arith, l, weights_long)), l, weights_long)),
      (
        length-map bench_zeros pos ∙ zeros_long,
        all_in_range bench_zeros (λ i l. omega (arith, zeros_at i (omega (arith, l, zeros_long)))),
        tt,
      ),
    ),
  );
}

-- ---- the end

counts_to : (number k : ℕ) → k ≡ 1024 → CountsTo number
counts_to number k is =
    let xs = bench_places number in
    let counted = counted_after xs bench_weights (given number) k 0 bench_zeros (omega (arith, is)) (none_counted number) in
    record {
      fitting = fitting number;
      counts = added_from xs bench_weights k 0 bench_zeros;
      long = counted.long;
      ends = counts_end xs bench_weights (given number) bench_zeros (none_counted number) k 3073 is (omega (arith, is));
      total = counted.total;
    }

pub ends : (number : ℕ) → CountsTo number
ends number = counts_to number 1024 refl
