-- Lists that grow at their end: what stands behind what, and the items from a place on.
use Rattle.std.proofs.Common.{◌≡◌, ℕ, ◌+◌, ◌<◌, List, ◌∷◌, ◌++◌, length, get_or, take, drop, sym, ◌∙◌, ap, arith, length-append, append_assoc}
use Rattle.std.proofs.lemmas.List.{length-take, take-append-le, drop_more}

pub longer : {A : Type 0} (xs ys us : List A) → ys ≡ xs ++ us → length ys ≡ length xs + length us
longer xs ys us e = ap length e ∙ length-append xs us

pub behind : {A : Type 0} (xs ys zs us ws : List A) → ys ≡ xs ++ us → zs ≡ ys ++ ws → zs ≡ xs ++ (us ++ ws)
behind xs ys zs us ws p q = q ∙ ap (λ l. l ++ ws) p ∙ append_assoc xs us ws

-- the items from a place on
pub from_place : {A : Type 0} (xs : List A) (i : ℕ) (x : A) → i < length xs → x ≡ get_or xs i x → drop i xs ≡ x ∷ drop (i + 1) xs
from_place xs i x h e = drop_more xs i x h ∙ ap (λ y. y ∷ drop (i + 1) xs) (sym e)

-- the first items of a list are those of a longer one
pub take_first : {A : Type 0} (ts xs ys : List A) → take (length ts) xs ≡ ts → take (length ts) (xs ++ ys) ≡ ts
take_first ts xs ys h =
    let l = length-take (length ts) xs in
    let e : length (take (length ts) xs) ≡ length ts = ap length h in
    take-append-le (length ts) xs ys (omega arith) ∙ h
