-- Readers that are made of readers.
use Rattle.std.proofs.Common.{◌≡◌, ℕ, List, [], ◌∷◌, ◌++◌, drop, Option, Some, None, sym, ap, subst, ◌∙◌}
use Rattle.std.specs.Option.{is_some, IfSome}
use Rattle.std.proofs.lemmas.Bool.{false≢true}
use Rattle.net_text.specs.Fits.{Always}
use Rattle.net_text.specs.Reads.{Named, Every, Reads}

pub none_some : {V : Type 0} (v : V) → None ≡ Some v → ⊥
none_some v e = false≢true (ap is_some e)

-- what stands after a word that two texts begin with
pub after_word : (word xs ys : List ℕ) → word ++ xs ≡ word ++ ys → xs ≡ ys
after_word [] xs ys e = e
after_word (w ∷ ws) xs ys e = after_word ws xs ys (ap (drop 1) e)

-- a reader by its two clauses
pub reads_by : {V : Type 0} (Fits : V → Type 0) (f : V → List ℕ) (t : List ℕ) (o : Option V) → Named Fits f t o → Every Fits f t o → Reads Fits f t o
reads_by Fits f t None named every = λ v fits e. none_some v (every v fits e)
reads_by Fits f t (Some v) named every = named

-- a reader of names
pub reads_named : {V : Type 0} (f : V → List ℕ) (t : List ℕ) (o : Option V) → IfSome o (λ v. f v ≡ t) → ((v : V) → f v ≡ t → o ≡ Some v) → Reads Always f t o
reads_named f t None named every = λ v fits e. none_some v (every v e)
reads_named f t (Some v) named every = (tt, named)

-- a reader of what stands after a word
pub reads_after : {V : Type 0} (Fits : V → Type 0) (f : V → List ℕ) (word rest text : List ℕ) (o : Option V) → text ≡ word ++ rest → Reads Fits f rest o → Reads Fits (λ v. word ++ f v) text o
reads_after Fits f word rest text None e r = λ v fits is. r v fits (after_word word (f v) rest (is ∙ e))
reads_after Fits f word rest text (Some v) e r = (r.0, ap (λ l. word ++ l) r.1 ∙ sym e)

-- an answer of none
pub reads_none : {V : Type 0} (Fits : V → Type 0) (f : V → List ℕ) (t : List ℕ) (o : Option V) → o ≡ None → ((v : V) → Fits v → f v ≡ t → ⊥) → Reads Fits f t o
reads_none Fits f t None e h = h
reads_none Fits f t (Some v) e h = absurd (none_some v (sym e))

-- what an answer of none, and of some value, says
pub none_read : {V T : Type 0} (Fits : V → Type 0) (f : V → T) (t : T) (o : Option V) → o ≡ None → Reads Fits f t o → (v : V) → Fits v → f v ≡ t → ⊥
none_read Fits f t None e r = r
none_read Fits f t (Some v) e r = absurd (none_some v (sym e))

pub some_read : {V T : Type 0} (Fits : V → Type 0) (f : V → T) (t : T) (o : Option V) (v : V) → o ≡ Some v → Reads Fits f t o → Fits v × (f v ≡ t)
some_read {V} Fits f t o v e r = let P : Option V → Type 0 = λ o. Reads Fits f t o in subst P e r
