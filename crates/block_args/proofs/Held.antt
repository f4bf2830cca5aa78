-- Places among the variables that a block holds.
use Rattle.std.proofs.Common.{◌≡◌, ℕ, zero, suc, ◌+◌, ◌<◌, List, [], ◌∷◌, map, length, get_or, refl, ◌∙◌, ap, arith}
use Rattle.std.specs.Prelude.{Bool, true, false, ◌==◌, not, cond}
use Rattle.std.specs.List.{Contains}
use Rattle.std.proofs.lemmas.Bool.{eqb-true, eq-eqb}
use Rattle.std.proofs.lemmas.List.{get_or-map}
use Rattle.ir.specs.Steps.{value_at}
use Rattle.block_args.specs.Tables.{count_from}
use Rattle.block_args.specs.Arguments.{place_in}

-- the place of an item is below the length, and the item stands there
pub record Placed (held : List ℕ) (v : ℕ) : Type 0 where
  pub below : place_in held v < length held
  pub there : get_or held (place_in held v) 0 ≡ v

-- an item stands at a place
record StandsAt (held : List ℕ) (v k : ℕ) : Type 0 where
  below : k < length held
  there : get_or held k 0 ≡ v

placed_at : (held : List ℕ) (v k : ℕ) → StandsAt held v k → Placed held v
placed_at [] v k h = absurd (let b = h.below in omega arith)
placed_at (x ∷ held) v k h = by (x == v) refl k h (λ j g. placed_at held v j g)
  where
    here : (b : Bool) → (x == v) ≡ b → b ≡ true → Placed (x ∷ held) v
    here b e is =
        let first : place_in (x ∷ held) v ≡ 0 = ap (λ (c : Bool). cond (not c) (1 + place_in held v) 0) (e ∙ is) in
        record { below = omega (arith, first); there = ap (λ (n : ℕ). get_or (x ∷ held) n 0) first ∙ eqb-true x v (e ∙ is) }

    later : (x == v) ≡ false → Placed held v → Placed (x ∷ held) v
    later e p =
        let next : place_in (x ∷ held) v ≡ suc (place_in held v) = ap (λ (c : Bool). cond (not c) (1 + place_in held v) 0) e ∙ omega arith in
        let b = p.below in
        record { below = omega (arith, next); there = ap (λ (n : ℕ). get_or (x ∷ held) n 0) next ∙ p.there }

    by : (b : Bool) → (x == v) ≡ b → (k : ℕ) → StandsAt (x ∷ held) v k → ((j : ℕ) → StandsAt held v j → Placed held v) → Placed (x ∷ held) v
    by true e k h rest = here true e refl
    by false e zero h rest = absurd (let t : x == v ≡ true = eq-eqb x v h.there in cc)
    by false e (suc k) h rest = later e (rest k (record { below = let b = h.below in omega arith; there = h.there }))

pub placed : (held : List ℕ) (v : ℕ) → Contains held v → Placed held v
placed held v (k, lt, is) = placed_at held v k (record { below = lt; there = is_there held k v lt is })
  where
    is_there : (xs : List ℕ) (i w : ℕ) → i < length xs → get_or xs i w ≡ w → get_or xs i 0 ≡ w
    is_there [] i w h e = absurd (omega arith)
    is_there (x ∷ xs) zero w h e = e
    is_there (x ∷ xs) (suc i) w h e = is_there xs i w (omega arith) e

-- the value of a variable stands at its place
pub held_value : (held vars : List ℕ) (v : ℕ) → Contains held v → value_at (map (value_at vars) held) (place_in held v) ≡ value_at vars v
held_value held vars v h =
    let p = placed held v h in
    get_or-map (value_at vars) held (place_in held v) 0 0 p.below ∙ ap (value_at vars) p.there

-- ---- all numbers from one on

pub length_count : (i n : ℕ) → length (count_from i n) ≡ n
length_count i zero = refl
length_count i (suc n) = omega (arith, length_count (suc i) n)

pub get_count : (i n x : ℕ) → x < n → get_or (count_from i n) x 0 ≡ i + x
get_count i zero x h = absurd (omega arith)
get_count i (suc n) zero h = omega arith
get_count i (suc n) (suc x) h = let r = get_count (suc i) n x (omega arith) in omega (arith, r)
