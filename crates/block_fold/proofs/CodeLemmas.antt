-- Lemmas of the loops over entries of what is known.
use Rattle.std.proofs.Common.{◌≡◌, ℕ, ◌+◌, ◌<◌, Bool, true, false, List, ◌∷◌, drop, length, get_or, Some, sym, ◌∙◌, ap}
use Rattle.std.specs.Prelude.{◌==◌, ◌&&◌, if◌then◌else◌}
use Rattle.std.proofs.lemmas.List.{drop_more}
use Rattle.block_fold.specs.declared.known.Known.{Known}
use Rattle.block_fold.specs.Addresses.{known_value}

-- what is known by what is left of the entries
known_more : (ks : List Known) (i : ℕ) (k : Known) (a p : ℕ) → i < length ks → k ≡ get_or ks i k
    → known_value (drop i ks) a p ≡ (if (k.array == a) && (k.addr == p) then Some k.value else known_value (drop (i + 1) ks) a p)
known_more ks i k a p lt e =
    ap (λ l. known_value l a p) (drop_more ks i k lt) ∙ ap (λ (x : Known). known_value (x ∷ drop (i + 1) ks) a p) (sym e)

pub known_here : (ks : List Known) (i : ℕ) (k : Known) (a p : ℕ) → i < length ks → k ≡ get_or ks i k → ((k.array == a) && (k.addr == p)) ≡ true
    → known_value (drop i ks) a p ≡ Some k.value
known_here ks i k a p lt e here = known_more ks i k a p lt e ∙ ap (λ (t : Bool). if t then Some k.value else known_value (drop (i + 1) ks) a p) here

pub known_behind : (ks : List Known) (i : ℕ) (k : Known) (a p : ℕ) → i < length ks → k ≡ get_or ks i k → ((k.array == a) && (k.addr == p)) ≡ false
    → known_value (drop i ks) a p ≡ known_value (drop (i + 1) ks) a p
known_behind ks i k a p lt e other = known_more ks i k a p lt e ∙ ap (λ (t : Bool). if t then Some k.value else known_value (drop (i + 1) ks) a p) other
