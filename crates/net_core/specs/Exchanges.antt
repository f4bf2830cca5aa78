-- What two states of one net exchange.
use Rattle.std.specs.Prelude.{◌≡◌, ℕ, ◌+◌, ◌<◌, List, [], length, get_or, set}
use Rattle.net_types.specs.declared.net.Net.{Net}
use Rattle.net_types.specs.Nets.{kind_of, owns}
use Rattle.net_core.specs.declared.state.State.{State as Stored}
use Rattle.net_core.specs.Fire.{State, idle, at_array, written}
use Rattle.net_core.specs.States.{strays_at}

-- on the channel c what the first list has there; so of dates
abbrev pub chan_from : ℕ → List (List ℕ) → List (List ℕ) → List (List ℕ)
chan_from c yss xss = set xss c (get_or yss c [])

-- the second state, with what the unit u keeps in the first one, and the array that u may write
abbrev pub with_unit : Net → ℕ → State → State → State
with_unit net u from s = record s {
  own = set s.own u (get_or from.own u idle);
  arrays = written (owns (kind_of net u)) (at_array from.arrays (owns (kind_of net u))) s.arrays;
}

-- a kept state is another, but for the cells of its units, or for its tokens and their dates
abbrev pub SameButCells : Stored → Stored → Type 0
SameButCells s t = t ≡ record s { cells = t.cells }

abbrev pub SameButTokens : Stored → Stored → Type 0
SameButTokens s t = t ≡ record s { tokens = t.tokens }

-- c is the state a, but that to each count of strays the number at its place in a list is added
pub record HasStraysBy (a : State) (counts : List ℕ) (c : State) : Type 0 where
  pub rest : c ≡ record a { strays = c.strays }
  pub long : length c.strays ≡ length a.strays
  pub each : (x : ℕ) → x < length a.strays → strays_at c x ≡ strays_at a x + get_or counts x 0

-- c is the state a, but that each count of strays is that of both
pub record HasStraysOf (a b c : State) : Type 0 where
  pub rest : c ≡ record a { strays = c.strays }
  pub long : length c.strays ≡ length a.strays
  pub each : (x : ℕ) → x < length a.strays → strays_at c x ≡ strays_at a x + strays_at b x
