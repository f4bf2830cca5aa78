-- Whether a list has items, by a test of it.
use Rattle.std.proofs.Common.{◌≡◌, ◌≢◌, ℕ, Bool, true, false, IsTrue, List, [], ◌∷◌, length, refl, sym, ap, ◌∙◌, arith}
use Rattle.std.proofs.lemmas.Bool.{false≢true}

pub has_none : (xs : List ℕ) (b : Bool) → b ≡ false → (xs ≢ [] → IsTrue b) → xs ≡ []
has_none [] b e h = refl
has_none (x ∷ xs) b e h = absurd (false≢true (sym e ∙ h (λ z. absurd (let y = ap length z in omega arith))))

pub has_some : (xs : List ℕ) (b : Bool) → b ≡ true → (IsTrue b → xs ≢ []) → xs ≢ []
has_some xs b e h = h e
