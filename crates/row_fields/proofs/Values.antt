-- One more value behind those of the words before.
use denote.Ref.{Bor}
use Rattle.std.proofs.Common.{ℕ, ◌+◌, ◌<◌, List, [], ◌∷◌, ◌++◌, length, take, get_or, sym, subst}
use Rattle.std.proofs.lemmas.List.{take_more}
use Rattle.std.proofs.lemmas.Slice.Zip.{all_zipped_more}
use Rattle.row_fields.specs.Numbers.{AreValues}

pub values_more : {T : Type 0} (Spells : List ℕ → T → Type 0) (words : List (Bor (List ℕ))) (i : ℕ) (word : Bor (List ℕ)) (values : List T) (value : T) → i < length words → AreValues Spells (take i words) values → Spells (get_or words i word).now value → AreValues Spells (take (i + 1) words) (values ++ value ∷ [])
values_more Spells words i word values value within all here =
    subst (λ ws. AreValues Spells ws (values ++ value ∷ [])) (sym (take_more words i word within)) (all_zipped_more (λ w v. Spells w.now v) (take i words) values (get_or words i word) value all here)
