-- A line of an item of the header, by the item as the code reads it.
use Rattle.std.proofs.Common.{◌≡◌, ℕ, ◌+◌, ◌<◌, ◌≤◌, true, List, length, get_or, map, set, refl, sym, ap, subst, ◌∙◌}
use Rattle.el_base.specs.declared.ty.Array.{Array}
use Rattle.el_base.specs.declared.ty.Scalar.{Scalar}
use Rattle.el_base.specs.Words.{is_identifier}
use Rattle.net_types.specs.declared.net.Net.{Net}
use Rattle.net_types.specs.Inputs.{IsPatternOf, AreElementsOf}
use Rattle.net_text.proofs.LineTexts.{name_lacks}
use Rattle.snapshot.specs.declared.draft.Draft.{Draft}
use Rattle.snapshot.specs.declared.draft.Stage.TheVariants.{Scalars, Arrays, Strays}
use Rattle.snapshot.specs.declared.saved.Saved.{Saved}
use Rattle.snapshot.specs.Fits.{max_count}
use Rattle.snapshot.specs.Refusals.{MaySave}
use Rattle.snapshot.specs.Texts.{words, no_array, no_scalar}
use Rattle.snapshot.specs.private.Words.{AreWords, CountFits, array_words, scalar_words, stray_words}
use Rattle.snapshot.specs.private.Drafts.{BlankScalars, Refuses, Taken, ToArrays, ToScalars, ToStrays, at_arrays, at_scalars, at_strays}
use Rattle.snapshot.proofs.Stages1.{scalar_refused, scalar_taken}
use Rattle.snapshot.proofs.Stages6.{array_refused, array_taken, stray_refused, stray_taken}

module _ (net : Net) (ws : List (List ℕ)) (a : AreWords ws) (j : ℕ) where
  module _ (x : Array) (within : j < length net.arrays) (is : x ≡ get_or net.arrays j no_array) (named : is_identifier x.name ≡ true) where
    name : is_identifier (get_or net.arrays j no_array).name ≡ true
    name = subst (λ (y : Array). is_identifier y.name ≡ true) is named

    pub stray_never : (d : Saved) → ((n : ℕ) → CountFits n → stray_words x n ≡ ws → ⊥) → Refuses net (ToStrays net j d) (at_strays net j) (words ws)
    stray_never d h = stray_refused net ws a j within (name_lacks (get_or net.arrays j no_array).name name) d (λ n f e. h n f (ap (λ (y : Array). stray_words y n) is ∙ e))

    pub stray_told : (d : Saved) (n : ℕ) (xs : List ℕ) → MaySave net d → CountFits n → stray_words x n ≡ ws → xs ≡ set d.parts.strays j n
        → Taken net (ToStrays net j d) (at_strays net j) (words ws) (record { stage = Strays (j + 1); saved = record d { parts = record d.parts { strays = xs } } })
    stray_told d n xs m f e new = stray_taken net ws a j within (name_lacks (get_or net.arrays j no_array).name name) d n xs m f (ap (λ (y : Array). stray_words y n) (sym is) ∙ e) new

    pub array_never : (d : Saved) → ((vs : List ℕ) → AreElementsOf x vs → array_words x vs ≡ ws → ⊥) → Refuses net (ToArrays net j d) (at_arrays net j) (words ws)
    array_never d h = array_refused net ws a j within (name_lacks (get_or net.arrays j no_array).name name) d (λ vs f e. h vs (subst (λ (y : Array). AreElementsOf y vs) (sym is) f) (ap (λ (y : Array). array_words y vs) is ∙ e))

    pub array_told : (d : Saved) (vs : List ℕ) (xs : List (List ℕ)) → MaySave net d → AreElementsOf x vs → array_words x vs ≡ ws → xs ≡ set d.parts.given.arrays j vs
        → Taken net (ToArrays net j d) (at_arrays net j) (words ws) (record { stage = Arrays (j + 1); saved = record d { parts = record d.parts { given = record d.parts.given { arrays = xs } } } })
    array_told d vs xs m f e new = array_taken net ws a j within (name_lacks (get_or net.arrays j no_array).name name) d vs xs m (subst (λ (y : Array). AreElementsOf y vs) is f) (ap (λ (y : Array). array_words y vs) (sym is) ∙ e) new

  module _ (x : Scalar) (within : j < length net.scalars) (is : x ≡ get_or net.scalars j no_scalar) (named : is_identifier x.name ≡ true) where
    own : is_identifier (get_or net.scalars j no_scalar).name ≡ true
    own = subst (λ (y : Scalar). is_identifier y.name ≡ true) is named

    pub scalar_never : (d : Saved) → ((n : ℕ) → IsPatternOf x.ty n → scalar_words x n ≡ ws → ⊥) → Refuses net (ToScalars j d) (at_scalars net j) (words ws)
    scalar_never d h = scalar_refused net ws a j within (name_lacks (get_or net.scalars j no_scalar).name own) d (λ n f e. h n (subst (λ (y : Scalar). IsPatternOf y.ty n) (sym is) f) (ap (λ (y : Scalar). scalar_words y n) is ∙ e))

    pub scalar_told : (d : Saved) (n : ℕ) (xs : List ℕ) → MaySave net d → BlankScalars net j d → IsPatternOf x.ty n → scalar_words x n ≡ ws → xs ≡ set d.parts.given.scalars j n
        → Taken net (ToScalars j d) (at_scalars net j) (words ws) (record { stage = Scalars (j + 1); saved = record d { parts = record d.parts { given = record d.parts.given { scalars = xs } } } })
    scalar_told d n xs m b f e new =
        scalar_taken net ws a j within (name_lacks (get_or net.scalars j no_scalar).name own) d n xs m b.fired (subst (λ (y : Scalar). IsPatternOf y.ty n) is f) (ap (λ (y : Scalar). scalar_words y n) (sym is) ∙ e) new
