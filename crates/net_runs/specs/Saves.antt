-- What the saved state of a run of a net on a text of inputs is.
use Rattle.std.specs.Prelude.{◌≡◌, ◌⊎◌, ◌<◌, ℕ, Result, Ok, Err}
use Rattle.net_types.specs.declared.net.Net.{Net}
use Rattle.net_types.specs.declared.firing.Inputs.{Inputs}
use Rattle.net_core.specs.Parts.{state_from}
use Rattle.net_core.specs.Runs.{AtRest}
use Rattle.snapshot.specs.declared.saved.Saved.{Saved}
use Rattle.snapshot.specs.Refusals.{MaySave}
use Rattle.snapshot.specs.Resumes.{IsOfRun}
use Rattle.snapshot.specs.Texts.{StateText}
use Rattle.net_runs.specs.declared.refusal.RunRefusal.{RunRefusal}
use Rattle.net_runs.specs.declared.refusal.RunRefusal.TheVariants as refusal
use Rattle.net_runs.specs.Given.{Bytes, On, IsNoInputs}

-- fewer firings than are asked for led to the state, and none is enabled in it
pub record RestsBefore (net : Net) (s : Saved) (at : ℕ) : Type 0 where
  pub fewer : s.made < at
  pub rest : AtRest net (state_from net s.parts)

-- as many firings as are asked for led to the state, or fewer, after which none is enabled
abbrev pub IsReachedBy : Net → ℕ → Saved → Type 0
IsReachedBy net at s = (s.made ≡ at) ⊎ RestsBefore net s at

-- the text is that of a state of a run on these inputs, after as many firings as are asked for, or at rest after fewer
pub record SavesTo (net : Net) (at : ℕ) (text : Bytes) (inputs : Inputs) : Type 0 where
  pub saved : Saved
  pub may : MaySave net saved
  pub of : IsOfRun net inputs saved
  pub reached : IsReachedBy net at saved
  pub told : StateText net saved.made saved.parts text

-- what is answered for the bytes of an inputs text; want of memory says nothing
abbrev pub Saves : Net → Bytes → ℕ → Result Bytes RunRefusal → Type 0
Saves net bytes at (Ok text) = On net bytes (SavesTo net at text)
Saves net bytes at (Err (refusal.Inputs r)) = IsNoInputs net bytes r
Saves net bytes at (Err (refusal.Schedule r)) = ⊥
Saves net bytes at (Err (refusal.NotEnabled i)) = ⊥
Saves net bytes at (Err (refusal.Limit n)) = ⊥
Saves net bytes at (Err refusal.Stuck) = ⊥
Saves net bytes at (Err (refusal.Stray array name)) = ⊥
Saves net bytes at (Err refusal.Memory) = Unit {0}
