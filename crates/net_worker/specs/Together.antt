-- A state that is put together of what workers hold.
use Rattle.std.specs.Prelude.{◌≡◌, ◌≢◌, ℕ, ◌<◌, Some, List, [], ◌++◌, length, get_or}
use Rattle.net_types.specs.declared.net.Net.{Net}
use Rattle.net_types.specs.declared.firing.Inputs.{Inputs}
use Rattle.net_types.specs.Nets.{kind_of, owns}
use Rattle.net_core.specs.Fire.{State, idle, tokens_at}
use Rattle.net_core.specs.States.{strays_at}
use Rattle.net_worker.specs.Plays.{putter, taker}
use Rattle.net_worker.specs.Merge.{Measures, sum_below}
use Rattle.net_worker.specs.Local.{values, Shown}

-- What each unit keeps and the array that it may write, as its owner has them after its log; the tokens of each channel inside one owner,
-- as that one has them; of a channel between two owners the tokens that were put and not taken; and the strays of all n workers together.
-- Arrays that no unit may write, and the scalars, are those of the inputs.
pub record IsTogether (net : Net) (inputs : Inputs) (owner : ℕ → ℕ) (n : ℕ) (ws : ℕ → Shown) (s : State) : Type 0 where
  pub measures : Measures net (length inputs.arrays) s
  pub scalars : s.scalars ≡ inputs.scalars
  pub own : (u : ℕ) → u < length net.units → get_or s.own u idle ≡ get_or (ws (owner u)).after.state.own u idle
  pub arrays : (u a : ℕ) → u < length net.units → owns (kind_of net u) ≡ Some a → get_or s.arrays a [] ≡ get_or (ws (owner u)).after.state.arrays a []
  pub others : (a : ℕ) → ((u : ℕ) → owns (kind_of net u) ≡ Some a → ⊥) → get_or s.arrays a [] ≡ get_or inputs.arrays a []
  pub inner : (c : ℕ) → c < length net.chans → putter net owner c ≡ taker net owner c → tokens_at s c ≡ tokens_at (ws (taker net owner c)).after.state c
  -- what is gone of the tokens that were handed out is gone of those that were put
  pub between : (c : ℕ) → c < length net.chans → putter net owner c ≢ taker net owner c
      → (gone : List ℕ) → gone ++ tokens_at (ws (taker net owner c)).after.state c ≡ values ((ws (taker net owner c)).handed c)
      → gone ++ tokens_at s c ≡ values ((ws (putter net owner c)).put c)
  pub strays_long : length s.strays ≡ length inputs.arrays
  pub strays : (a : ℕ) → a < length inputs.arrays → strays_at s a ≡ sum_below n (λ v. strays_at (ws v).after.state a)
