-- Ends that are kept by channel, where most channels have none.
use Rattle.std.specs.Prelude.{◌≡◌, ◌≢◌, ℕ, ◌<◌, Option, None, List, [], ◌∷◌, length, get_or, set, replicate, refl}
use Rattle.std.proofs.Common.{length-set, ◌∙◌}

-- of each channel of a net its end, where there is one; and the channels that have places for ends, ascending
pub record EndsByChannel (A : Type 0) : Type 0 where
  pub items : List (Option A)
  pub chans : List ℕ

-- a list with these items at these places
abbrev pub put_over : {A : Type 0} → List ℕ → List A → List A → List A
put_over [] xs base = base
put_over (c ∷ cs) [] base = base
put_over (c ∷ cs) (x ∷ xs) base = set (put_over cs xs base) c x

pub length-put_over : {A : Type 0} (cs : List ℕ) (xs base : List A) → length (put_over cs xs base) ≡ length base
length-put_over [] xs base = refl
length-put_over (c ∷ cs) [] base = refl
length-put_over (c ∷ cs) (x ∷ xs) base = length-set (put_over cs xs base) c x ∙ length-put_over cs xs base

-- n places, with these ends at these channels and nothing at the others
abbrev pub spread : {A : Type 0} → ℕ → List ℕ → List (Option A) → List (Option A)
spread n cs es = put_over cs es (replicate n None)

-- the channels ascend, and are below n
pub record AreChannels (n : ℕ) (cs : List ℕ) : Type 0 where
  pub rise : (i j : ℕ) → i < j → j < length cs → get_or cs i 0 < get_or cs j 0
  pub within : (i : ℕ) → i < length cs → get_or cs i 0 < n

-- and each of them has a place
pub record ArePlaces {A : Type 0} (n : ℕ) (cs : List ℕ) (es : List (Option A)) : Type 0 where
  pub channels : AreChannels n cs
  pub long : length es ≡ length cs

-- the channel stands at this place of the list; it stands at none
abbrev pub StandsAt : List ℕ → ℕ → ℕ → Type 0
StandsAt cs c i = (i < length cs) × (get_or cs i 0 ≡ c)

abbrev pub IsNotAmong : List ℕ → ℕ → Type 0
IsNotAmong cs c = (i : ℕ) → i < length cs → get_or cs i 0 ≢ c
