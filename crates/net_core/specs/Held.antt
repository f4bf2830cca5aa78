-- The tokens of channels, their dates and their slots.
use Rattle.std.specs.Prelude.{ℕ, ◌<◌, true, ◌++◌, ◌∷◌, Option, Some, None, List, [], length, get_or, set, map, refl}
use Rattle.std.specs.Coded.{Coded, code_by, coded×, coded_ℕ, coded_list}
use Rattle.net_core.specs.declared.plan.Laid.{Laid}
use Rattle.net_core.specs.declared.plan.Moves.{Moves}
use Rattle.net_core.specs.Fire.{taken}

-- the tokens of a channel and the date of each, oldest first, and the slots
pub record Lane : Type 0 where
  pub tokens : List ℕ
  pub dates : List ℕ
  pub slots : ℕ

abbrev pub lane : List ℕ → List ℕ → ℕ → Lane
lane xs ds n = record { tokens = xs; dates = ds; slots = n }

-- the tokens of each channel, its slots, and the date of each token
pub record Held : Type 0 where
  pub tokens : List (List ℕ)
  pub slots : List ℕ
  pub dates : List (List ℕ)

abbrev pub held_code : Coded Held
held_code = code_by (List (List ℕ) × (List ℕ × List (List ℕ))) (coded× (coded_list (coded_list coded_ℕ)) (coded× (coded_list coded_ℕ) (coded_list (coded_list coded_ℕ)))) (λ h. (h.tokens, (h.slots, h.dates)))
    (λ p. record { tokens = p.0; slots = p.1.0; dates = p.1.1 }) (λ _. refl)

abbrev pub held_of : List Lane → Held
held_of ls = record { tokens = map (λ l. l.tokens) ls; slots = map (λ l. l.slots) ls; dates = map (λ l. l.dates) ls }

-- the oldest token of a channel taken, and one put; so of dates
abbrev pub take_at : ℕ → List (List ℕ) → List (List ℕ)
take_at c xss = set xss c (taken true (get_or xss c []))

abbrev pub put_at_end : ℕ → ℕ → List (List ℕ) → List (List ℕ)
put_at_end c v xss = set xss c (get_or xss c [] ++ v ∷ [])

-- the channel has fewer tokens than slots
abbrev pub HasRoom : Held → ℕ → Type 0
HasRoom held c = length (get_or held.tokens c []) < get_or held.slots c 0

-- the oldest tokens of these channels taken, one channel after another, and a token put
abbrev pub taken_all : List ℕ → List (List ℕ) → List (List ℕ)
taken_all [] xss = xss
taken_all (c ∷ cs) xss = taken_all cs (take_at c xss)

abbrev pub laid_on : Option Laid → List (List ℕ) → List (List ℕ)
laid_on None xss = xss
laid_on (Some w) xss = put_at_end w.chan w.value xss

-- the date c is put where a token is put
abbrev pub dated_laid : ℕ → Option Laid → Option Laid
dated_laid c None = None
dated_laid c (Some w) = Some (record { chan = w.chan; value = c })

abbrev pub dated_moves : ℕ → Moves → Moves
dated_moves c m = record { taken = m.taken; laid = dated_laid c m.laid }

-- the channels are among so many
abbrev pub AllWithin : ℕ → List ℕ → Type 0
AllWithin n [] = Unit {0}
AllWithin n (c ∷ cs) = (c < n) × AllWithin n cs
