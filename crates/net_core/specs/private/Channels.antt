-- Private: only the model of a channel, what fills channels and their proofs cite it. A channel whose two oldest tokens are kept by themselves.
use Rattle.std.specs.Prelude.{◌≡◌, ℕ, zero, suc, ◌-◌, ◌≤◌, Box, List, [], ◌∷◌, Option, None, Some, length, map, refl}
use Rattle.std.specs.Coded.{Coded, code_by, coded×, coded_ℕ, coded_list}
use Rattle.std.specs.Global.{Global}
use Rattle.circular_buffer.specs.Buffer.{Buffer, buffer}
use Rattle.net_core.specs.declared.channel.Follower.{Follower}
use Rattle.net_core.specs.Held.{Lane, lane}

abbrev pub lane_code : Coded Lane
lane_code = code_by (List ℕ × (List ℕ × ℕ)) (coded× (coded_list coded_ℕ) (coded× (coded_list coded_ℕ) coded_ℕ)) (λ l. (l.tokens, (l.dates, l.slots))) (λ p. lane p.0 p.1.0 p.1.1) (λ _. refl)

-- a date of 0 for each token
abbrev pub zeros_for : List ℕ → List ℕ
zeros_for xs = map (λ (x : ℕ). 0) xs

-- so many items, oldest first: the two oldest and those behind them
abbrev pub items_from : ℕ → ℕ → ℕ → List ℕ → List ℕ
items_from zero oldest second behind = []
items_from (suc zero) oldest second behind = oldest ∷ []
items_from (suc (suc count)) oldest second behind = oldest ∷ second ∷ behind

abbrev pub lane_from : (count oldest date : ℕ) → Follower → ℕ → List Follower → Lane
lane_from count oldest date second slots behind =
    lane (items_from count oldest second.value (map (λ (f : Follower). f.value) behind)) (items_from count date second.date (map (λ (f : Follower). f.date) behind)) slots

-- a ring; where there is none, one without rooms
abbrev pub buffer_in : Option (Box (Buffer Follower) Global) → Buffer Follower
buffer_in None = buffer [] 0
buffer_in (Some ring) = ring.value

-- behind are all tokens but the two oldest, and there is room for them as far as the slots go
pub record IsChannel (count slots : ℕ) (behind : Buffer Follower) : Type 0 where
  pub counted : length behind.items ≡ count - 2
  pub room : behind.capacity ≡ slots - 2
  pub within : count ≤ slots
