-- Two lists that differ in length do not fit.
use Rattle.std.proofs.Common.{◌≡◌, ◌≢◌, ◌==◌, ◌&&◌, ℕ, suc, Bool, true, false, List, [], ◌∷◌, map, length, refl, ap, ◌∙◌}
use Rattle.el_base.specs.declared.ty.Scalar.{Scalar}
use Rattle.el_base.specs.Widths.{ty_width}
use Rattle.ir.specs.Shapes.{Shape}
use Rattle.graph_check.specs.Fits.{has_width, handed_fit, same_numbers}

and_false : (b : Bool) → (b && false) ≡ false
and_false true = refl
and_false false = refl

pub handed_apart : (ws : Shape) (vs args : List ℕ) → length vs ≢ length args → handed_fit ws vs args ≡ false
handed_apart ws [] [] ne = absurd (ne refl)
handed_apart ws [] (w ∷ args) ne = refl
handed_apart ws (v ∷ vs) [] ne = refl
handed_apart ws (v ∷ vs) (w ∷ args) ne = ap (λ b. has_width ws v w && b) (handed_apart ws vs args (λ e. ne (ap suc e))) ∙ and_false (has_width ws v w)

pub scalars_apart : (xs : List ℕ) (ss : List Scalar) → length xs ≢ length ss → same_numbers xs (map (λ (s : Scalar). ty_width s.ty) ss) ≡ false
scalars_apart [] [] ne = absurd (ne refl)
scalars_apart [] (s ∷ ss) ne = refl
scalars_apart (x ∷ xs) [] ne = refl
scalars_apart (x ∷ xs) (s ∷ ss) ne = ap (λ b. (x == ty_width s.ty) && b) (scalars_apart xs ss (λ e. ne (ap suc e))) ∙ and_false (x == ty_width s.ty)
