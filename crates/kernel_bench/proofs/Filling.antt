-- The lists of a bench's inputs, filled element by element.
use Rattle.std.proofs.Common.{◌≡◌, ℕ, ◌+◌, ◌/◌, ◌^◌, List, [], ◌∷◌, ◌++◌, map, refl, sym, ◌∙◌, ap, add-one, arith}
use Rattle.std.specs.List.{range_with_len}
use Rattle.std.proofs.lemmas.List.{map-id}
use Rattle.std.proofs.lemmas.List.FromFn.{map-range_with_len_more}
use Rattle.kernel_bench.specs.Drawn.{next_state, state_after, bench_places, bench_weights}

-- after so many steps: the places that they gave, and the state
pub record IsDrawn (number count : ℕ) (list : List ℕ) (state : ℕ) : Type 0 where
  pub places : list ≡ map (λ k. state_after number k / 2 ^ 58) (range_with_len 1 count)
  pub at : state ≡ state_after number count

pub state_more : (number count : ℕ) → state_after number (count + 1) ≡ next_state (state_after number count)
unfolding state_after
state_more number count = ap (state_after number) (add-one count)

pub drawn_none : (number : ℕ) → IsDrawn number 0 [] number
unfolding state_after
drawn_none number = record { places = refl; at = refl }

pub drawn_more : (number count state : ℕ) (list : List ℕ) → IsDrawn number count list state → IsDrawn number (count + 1) (list ++ (next_state state / 2 ^ 58) ∷ []) (next_state state)
drawn_more number count state list drawn =
    let now : next_state state ≡ state_after number (count + 1) = ap next_state drawn.at ∙ sym (state_more number count) in
    record {
      places =
          ap (λ xs. xs ++ (next_state state / 2 ^ 58) ∷ []) drawn.places
          ∙ ap (λ s. map (λ k. state_after number k / 2 ^ 58) (range_with_len 1 count) ++ (s / 2 ^ 58) ∷ []) now
          ∙ sym (map-range_with_len_more (λ k. state_after number k / 2 ^ 58) 1 count (count + 1) (omega arith));
      at = now;
    }

pub places_all : (number count state : ℕ) (list : List ℕ) → IsDrawn number count list state → count ≡ 1024 → list ≡ bench_places number
unfolding bench_places
places_all number count state list drawn is = drawn.places ∙ ap (λ n. map (λ k. state_after number k / 2 ^ 58) (range_with_len 1 n)) is

pub range_more : (n : ℕ) → range_with_len 1 (n + 1) ≡ range_with_len 1 n ++ (n + 1) ∷ []
range_more n = sym (map-id (range_with_len 1 (n + 1))) ∙ map-range_with_len_more (λ k. k) 1 n (n + 1) (omega arith) ∙ ap (λ xs. xs ++ (n + 1) ∷ []) (map-id (range_with_len 1 n))

pub weights_all : (count : ℕ) (list : List ℕ) → list ≡ range_with_len 1 count → count ≡ 1024 → list ≡ bench_weights
unfolding bench_weights
weights_all count list filled is = filled ∙ ap (range_with_len 1) is
