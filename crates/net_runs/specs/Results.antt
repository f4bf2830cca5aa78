-- The text of the results of a state at rest.
use Rattle.std.specs.Prelude.{◌≡◌, ℕ, List, [], ◌∷◌, ◌++◌, Bool, true, false, get_or, map, codes, decimal}
use Rattle.std.specs.List.{All}
use Rattle.el_base.specs.declared.ty.Array.{Array}
use Rattle.net_types.specs.declared.net.Net.{Net}
use Rattle.net_types.specs.declared.firing.Firing.{Firing}
use Rattle.net_core.specs.Fire.{State}
use Rattle.net_core.specs.Runs.{HasExited}
use Rattle.inputs_text.specs.StateResults.{IsTextOf}
use Rattle.net_replay.specs.Judgements.{HasNoStrays, IsFirstStray}
use Rattle.net_replay.specs.Schedules.{FiringFits, schedule_text}
use Rattle.net_runs.specs.declared.options.RunOptions.{RunOptions}
use Rattle.net_runs.specs.declared.refusal.RunRefusal.{RunRefusal}
use Rattle.net_runs.specs.declared.refusal.RunRefusal.TheVariants as refusal

-- the exit has fired, no address lay past its array, and that is the text of the elements and of the result
pub record AreResultsOf (net : Net) (s : State) (text : List ℕ) : Type 0 where
  pub exited : HasExited net s
  pub clean : HasNoStrays net s
  pub shown : IsTextOf net s text

-- the exit has fired, and this is the first array of the header with strays, which has this name
pub record IsStrayIn (net : Net) (s : State) (array : ℕ) (name : List ℕ) : Type 0 where
  pub exited : HasExited net s
  pub first : IsFirstStray net s array
  pub named : name ≡ get_or (map (λ (a : Array). a.name) net.arrays) array []

-- why a state at rest has no results, or want of memory
abbrev pub IsRestFault : Net → State → RunRefusal → Type 0
IsRestFault net s (refusal.Inputs r) = ⊥
IsRestFault net s (refusal.Schedule r) = ⊥
IsRestFault net s (refusal.NotEnabled i) = ⊥
IsRestFault net s (refusal.Limit n) = ⊥
IsRestFault net s refusal.Stuck = HasExited net s → ⊥
IsRestFault net s (refusal.Stray array name) = IsStrayIn net s array name
IsRestFault net s refusal.Memory = Unit {0}

-- the refusal is that of every state at rest that has exited and of which that array is the first with strays
abbrev pub IsStrayFault : Net → ℕ → RunRefusal → Type 0
IsStrayFault net array r = (s : State) → HasExited net s → IsFirstStray net s array → IsRestFault net s r

-- ---- after the results

-- the number of firings, where it is asked for
abbrev pub count_line : Bool → ℕ → List ℕ
count_line true n = codes "# firings " ++ decimal n ++ 10 ∷ []
count_line false n = []

-- the number of cycles, where it is asked for
abbrev pub cycles_line : Bool → ℕ → List ℕ
cycles_line true n = codes "# cycles " ++ decimal n ++ 10 ∷ []
cycles_line false n = []

-- a line `%%` and the firings, where they are asked for
abbrev pub log_lines : Bool → List Firing → List ℕ
log_lines true firings = codes "%%\n" ++ schedule_text firings
log_lines false firings = []

-- the results of a state, the number of firings that led to it, that of the cycles in which they were made, and these firings, which a schedule can tell
pub record IsRunText (net : Net) (s : State) (o : RunOptions) (made cycles : ℕ) (firings : List Firing) (text : List ℕ) : Type 0 where
  pub results : List ℕ
  pub are : AreResultsOf net s results
  pub whole : text ≡ results ++ count_line o.count made ++ cycles_line o.cycles cycles ++ log_lines o.log firings
  pub fit : o.log ≡ true → All FiringFits firings
