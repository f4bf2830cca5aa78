-- Values of a type as fields of rows, by what a word of a text spells.
use denote.Ref.{Bor}
use Rattle.std.specs.Prelude.{ℕ, List, Contains, ⊤}
use Rattle.std.specs.List.{AllZip}
use Rattle.row_fields.specs.declared.refusal.FieldRefusal.{FieldRefusal}
use Rattle.row_fields.specs.declared.refusal.FieldRefusal.TheVariants.{TooLong, NoNumber, Memory}

-- values are those that words spell, one a word
abbrev pub AreValues : {T : Type 0} → (List ℕ → T → Type 0) → List (Bor (List ℕ)) → List T → Type 0
AreValues Spells = AllZip (λ word value. Spells word.now value)

-- why words are refused: one of them may be read to an error
abbrev pub IsValueRefusal : {E : Type 0} → (List ℕ → E → Type 0) → List (Bor (List ℕ)) → FieldRefusal → Type 0
IsValueRefusal Fails words TooLong = ⊥
IsValueRefusal {E} Fails words NoNumber = (word : Bor (List ℕ)) × (error : E) × Contains words word × Fails word.now error
IsValueRefusal Fails words Memory = ⊤
