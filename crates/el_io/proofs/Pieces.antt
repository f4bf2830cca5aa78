-- Bytes that are written piece by piece.
use Rattle.std.proofs.Common.{◌≡◌, ℕ, ◌+◌, ◌-◌, ◌≤◌, List, ◌++◌, length, take, drop, Option, Some, None, refl, sym, ◌∙◌, ap, arith, append_assoc, length-drop}
use Rattle.std.proofs.lemmas.List.{take_all}
use Rattle.std.proofs.Math.Seq.{take-add}
use Rattle.std.specs.Io.KnownBytes.{append_known}
use Rattle.el_io.specs.Outside.{IsTaken}

append_known-append : (a : Option (List ℕ)) (x y : List ℕ) → append_known (append_known a x) y ≡ append_known a (x ++ y)
append_known-append None x y = refl
append_known-append (Some w) x y = ap Some (append_assoc w x y)

take_on : (i n : ℕ) (bs : List ℕ) → take i bs ++ take n (drop i bs) ≡ take (i + n) bs
take_on i n bs = sym (take-add i n bs)

-- what `&bytes[i..]` is
pub from_here : (i : ℕ) (bs : List ℕ) → take (length bs - i) (drop i bs) ≡ drop i bs
from_here i bs = take_all (length bs - i) (drop i bs) (omega (arith, length-drop i bs))

-- one piece more
pub one_more : (a b c : Option (List ℕ)) (bs : List ℕ) (i n : ℕ) → b ≡ append_known a (take i bs) → IsTaken b c (drop i bs) n → c ≡ append_known a (take (i + n) bs)
one_more a b c bs i n before taken =
    taken.written ∙ ap (λ w. append_known w (take n (drop i bs))) before ∙ append_known-append a (take i bs) (take n (drop i bs)) ∙ ap (append_known a) (take_on i n bs)

pub within : (i n : ℕ) (b c : Option (List ℕ)) (bs : List ℕ) → i ≤ length bs → IsTaken b c (drop i bs) n → i + n ≤ length bs
within i n b c bs le taken = omega (arith, taken.within, length-drop i bs)
