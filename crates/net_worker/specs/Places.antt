-- Where workers keep the rooms of their units and channels.
use Rattle.std.specs.Prelude.{◌≡◌, ℕ, zero, suc, ◌+◌, ◌<◌, ◌==◌, Bool, ◌||◌, cond, List, [], ◌∷◌, ◌++◌, length, get_or}
use Rattle.el_base.specs.Limits.{max_workers}
use Rattle.net_types.specs.declared.net.Net.{Net}
use Rattle.net_worker.specs.ChannelEnds.{StandsAt}
use Rattle.net_worker.specs.Plays.{putter, taker}
use Rattle.net_worker.specs.declared.places.Places.{Places}

-- the numbers below n of which f is true, ascending
abbrev pub numbers_where : (ℕ → Bool) → ℕ → List ℕ
numbers_where f zero = []
numbers_where f (suc n) = numbers_where f n ++ cond (f n) (n ∷ []) []

-- worker j owns the unit; the channel goes from a unit of worker j or to one
abbrev pub owns_unit : List ℕ → ℕ → ℕ → Bool
owns_unit owners j u = get_or owners u 0 == j

abbrev pub has_end : Net → List ℕ → ℕ → ℕ → Bool
has_end net owners j c = putter net (λ u. get_or owners u 0) c == j || taker net (λ u. get_or owners u 0) c == j

-- the units of worker j, and the channels from or to them
abbrev pub units_of : List ℕ → ℕ → List ℕ
units_of owners j = numbers_where (owns_unit owners j) (length owners)

abbrev pub chans_of : Net → List ℕ → ℕ → List ℕ
chans_of net owners j = numbers_where (has_end net owners j) (length net.chans)

-- of each worker j how many of the numbers below n there are of which f j is true
pub record AreCounts (f : ℕ → ℕ → Bool) (n : ℕ) (counts : List ℕ) : Type 0 where
  pub long : length counts ≡ max_workers
  pub each : (j : ℕ) → j < max_workers → get_or counts j 0 ≡ length (numbers_where (f j) n)

-- one is added to the counts of these workers
pub record HasCounted (old new : List ℕ) (more : ℕ → Bool) : Type 0 where
  pub long : length new ≡ length old
  pub each : (j : ℕ) → j < length old → get_or new j 0 ≡ get_or old j 0 + cond (more j) 1 0

-- how many units of its owner are before a unit; and how many channels at the units of its putter's owner are before a channel, and
-- of its taker's owner
abbrev pub unit_place : List ℕ → ℕ → ℕ
unit_place owners u = length (numbers_where (owns_unit owners (get_or owners u 0)) u)

abbrev pub put_place : Net → List ℕ → ℕ → ℕ
put_place net owners c = length (numbers_where (has_end net owners (putter net (λ u. get_or owners u 0) c)) c)

abbrev pub take_place : Net → List ℕ → ℕ → ℕ
take_place net owners c = length (numbers_where (has_end net owners (taker net (λ u. get_or owners u 0) c)) c)

-- these are the values of f at the numbers below n
pub record AreValues (f : ℕ → ℕ) (n : ℕ) (values : List ℕ) : Type 0 where
  pub long : length values ≡ n
  pub each : (i : ℕ) → i < n → get_or values i 0 ≡ f i

-- each unit stands at its place among the units of its owner, and each channel at its places among the channels at its two workers' units
pub record ArePlacesOf (net : Net) (owners : List ℕ) (p : Places) : Type 0 where
  pub units_long : length p.units.items ≡ length owners
  pub outs_long : length p.outs.items ≡ length net.chans
  pub ins_long : length p.ins.items ≡ length net.chans
  pub unit : (u : ℕ) → u < length owners → StandsAt (units_of owners (get_or owners u 0)) u (get_or p.units.items u 0)
  pub out : (c : ℕ) → c < length net.chans → StandsAt (chans_of net owners (putter net (λ u. get_or owners u 0) c)) c (get_or p.outs.items c 0)
  pub into : (c : ℕ) → c < length net.chans → StandsAt (chans_of net owners (taker net (λ u. get_or owners u 0) c)) c (get_or p.ins.items c 0)
