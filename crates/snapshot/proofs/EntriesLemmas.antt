-- A queue's part that is lent, and written back with one entry changed.
use Rattle.std.proofs.Common.{◌≡◌, ℕ, ◌<◌, List, ◌++◌, length, take, drop, get_or, set, sym, ap, subst, ◌∙◌, arith, length-set}
use Rattle.std.proofs.lemmas.List.{get_or_read}
use Rattle.std.proofs.Math.Seq.{take-append_seam}
use Rattle.std.specs.List.{refill}

-- an item of a lent list is that of the list, at any default
pub lent_item : {V : Type 0} (xs ms : List V) (i : ℕ) (v none : V) → ms ≡ xs → i < length xs → v ≡ get_or ms i v → get_or ms i v ≡ get_or xs i none
lent_item xs ms i v none e l is = sym is ∙ get_or_read ms i v (omega (arith, ap length e)) is none ∙ ap (λ m. get_or m i none) e

-- what is written back where one item of it was changed
pub refill_set : {V : Type 0} (xs ms : List V) (i : ℕ) (v : V) → ms ≡ xs → refill (length xs) xs (set ms i v) ≡ set xs i v
refill_set xs ms i v e = subst (λ n. take n (set ms i v ++ drop (length (set ms i v)) xs) ≡ set ms i v) (length-set ms i v ∙ ap length e) (take-append_seam (set ms i v) (drop (length (set ms i v)) xs)) ∙ ap (λ l. set l i v) e
