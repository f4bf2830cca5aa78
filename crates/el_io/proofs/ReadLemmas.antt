-- Reads that do not fail.
use Rattle.std.proofs.Common.{◌≡◌, ◌↔◌, sym, ◌||◌, Bool, true, false, IsTrue}
use Rattle.std.proofs.lemmas.Bool.{false≢true}

-- a read that is neither named nor of an absent name, and that did not fail
pub not_failed : (named absent : Bool) (P : Type 0) → named ≡ false → absent ≡ false → (P → ⊥) → P ↔ IsTrue (named || absent)
not_failed true absent P n a none = absurd (false≢true (sym n))
not_failed false true P n a none = absurd (false≢true (sym a))
not_failed false false P n a none = (λ p. absurd (none p), λ t. absurd (false≢true t))
