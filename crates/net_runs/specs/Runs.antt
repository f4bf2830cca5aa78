-- What a run of a net on a text of inputs answers.
use Rattle.std.specs.Prelude.{◌≡◌, ◌+◌, ◌*◌, ◌≤◌, ◌<◌, ℕ, List, length, Option, Some, None, Result, Ok, Err}
use Rattle.el_base.specs.Limits.{max_shared_firings, max_workers}
use Rattle.net_types.specs.declared.net.Net.{Net}
use Rattle.net_types.specs.declared.firing.Firing.{Firing}
use Rattle.net_types.specs.declared.firing.Inputs.{Inputs}
use Rattle.net_types.specs.Nets.{chan_at}
use Rattle.net_core.specs.Fire.{State}
use Rattle.net_core.specs.Runs.{HasExited, Long}
use Rattle.net_core.specs.Laws.{CompletesIn}
use Rattle.net_replay.specs.Replays.{RestsIn}
use Rattle.cycle_engine.specs.Cycles.{Dated, dated_opening, Cycles}
use Rattle.cycle_engine.specs.Bounds.{EndsFiring}
use Rattle.cycle_engine.specs.Cuts.{joined}
use Rattle.net_runs.specs.declared.options.RunOptions.{RunOptions}
use Rattle.net_runs.specs.declared.refusal.RunRefusal.{RunRefusal}
use Rattle.net_runs.specs.declared.refusal.RunRefusal.TheVariants as refusal
use Rattle.net_runs.specs.Given.{Bytes, On, IsNoInputs}
use Rattle.net_runs.specs.Results.{IsRunText, IsStrayIn}

-- the firings are a run to the one state at rest: every run that ends at rest ends in it, after as many firings, and none is
-- longer
pub record IsOneRest (net : Net) (inputs : Inputs) (firings : List Firing) (s : State) : Type 0 where
  pub run : RestsIn net inputs firings s
  pub all : CompletesIn net inputs (length firings) s

-- a run within the limit to the one state at rest, of which, with the firings, that holds
pub record RestsWithin (net : Net) (inputs : Inputs) (limit : ℕ) (Holds : List Firing → State → Type 0) : Type 0 where
  pub firings : List Firing
  pub state : State
  pub one : IsOneRest net inputs firings state
  pub within : length firings ≤ limit
  pub holds : Holds firings state

-- the firings are those of cycles from the opening state to the state s, one cycle after another, and the last cycle has a
-- firing; there are at most as many cycles as firings, each times one more than the greatest delay
pub record AreCycles (net : Net) (inputs : Inputs) (firings : List Firing) (s : State) (cycles : List (List Firing)) : Type 0 where
  pub to : Dated
  pub run : Cycles net 0 (dated_opening net inputs) cycles to
  pub state : to.state ≡ s
  pub ends : EndsFiring cycles
  pub together : firings ≡ joined cycles
  pub few : (most : ℕ) → ((d : ℕ) → (chan_at net d).delay ≤ most) → length cycles ≤ length firings * (most + 1)

-- the firings are those of so many cycles
pub record HasCycles (net : Net) (inputs : Inputs) (firings : List Firing) (s : State) (number : ℕ) : Type 0 where
  pub cycles : List (List Firing)
  pub are : AreCycles net inputs firings s cycles
  pub counted : number ≡ length cycles

-- the number of cycles that is told: that of the cycles whose firings they are, where no workers are asked for; workers count none
abbrev pub AreMadeIn : Option ℕ → Net → Inputs → List Firing → State → ℕ → Type 0
AreMadeIn None net inputs firings s number = HasCycles net inputs firings s number
AreMadeIn (Some workers) net inputs firings s number = number ≡ 0

-- the text tells the state s, and of the firings and their cycles what is asked for
pub record TellsRun (net : Net) (inputs : Inputs) (o : RunOptions) (firings : List Firing) (s : State) (text : Bytes) : Type 0 where
  pub number : ℕ
  pub made : AreMadeIn o.workers net inputs firings s number
  pub told : IsRunText net s o (length firings) number firings text

-- the text of the run that is asked for
abbrev pub RunsTo : Net → RunOptions → Bytes → Inputs → Type 0
RunsTo net o text inputs = RestsWithin net inputs o.limit (λ firings s. TellsRun net inputs o firings s text)

-- the run ends at rest, and the exit has not fired
abbrev pub Sticks : Net → RunOptions → Inputs → Type 0
Sticks net o inputs = RestsWithin net inputs o.limit (λ firings s. HasExited net s → ⊥)

-- the run ends at rest, the exit has fired, and this is the first array of the header with strays, which has this name
abbrev pub Strays : Net → RunOptions → ℕ → Bytes → Inputs → Type 0
Strays net o array name inputs = RestsWithin net inputs o.limit (λ firings s. IsStrayIn net s array name)

-- why a run on these inputs has no text, or want of memory
abbrev pub IsRunRefusal : Net → Inputs → RunOptions → RunRefusal → Type 0
IsRunRefusal net inputs o (refusal.Inputs r) = ⊥
IsRunRefusal net inputs o (refusal.Schedule r) = ⊥
IsRunRefusal net inputs o (refusal.NotEnabled i) = ⊥
IsRunRefusal net inputs o (refusal.Limit n) = (n ≡ o.limit) × Long net inputs n
IsRunRefusal net inputs o refusal.Stuck = Sticks net o inputs
IsRunRefusal net inputs o (refusal.Stray array name) = Strays net o array name inputs
IsRunRefusal net inputs o refusal.Memory = Unit {0}

-- so many workers may share out a limit: there are 1 to 64 of them, and the limit is not too high for their logs
pub record MayShare (limit workers : ℕ) : Type 0 where
  pub one : 0 < workers
  pub few : workers ≤ max_workers
  pub some : 0 < limit
  pub within : limit ≤ max_shared_firings

-- what a run answers for the bytes of an inputs text; want of memory says nothing
abbrev pub Runs : Net → Bytes → RunOptions → Result Bytes RunRefusal → Type 0
Runs net bytes o (Ok text) = On net bytes (RunsTo net o text)
Runs net bytes o (Err (refusal.Inputs r)) = IsNoInputs net bytes r
Runs net bytes o (Err (refusal.Schedule r)) = ⊥
Runs net bytes o (Err (refusal.NotEnabled i)) = ⊥
Runs net bytes o (Err (refusal.Limit n)) = (n ≡ o.limit) × On net bytes (λ inputs. Long net inputs n)
Runs net bytes o (Err refusal.Stuck) = On net bytes (Sticks net o)
Runs net bytes o (Err (refusal.Stray array name)) = On net bytes (Strays net o array name)
Runs net bytes o (Err refusal.Memory) = Unit {0}
