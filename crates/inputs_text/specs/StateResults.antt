-- The text of the results of a state.
use Rattle.std.specs.Prelude.{◌≡◌, ℕ, ◌<◌, List, [], Option, length, get_or}
use Rattle.net_types.specs.declared.net.Net.{Net}
use Rattle.net_core.specs.Fire.{State}
use Rattle.net_core.specs.States.{elements_at, TookAtExit}
use Rattle.inputs_text.specs.Results.{ResultText}

-- the elements of each array of the header, as they are in the state
pub record AreElementsIn (net : Net) (s : State) (values : List (List ℕ)) : Type 0 where
  pub count : length values ≡ length net.arrays
  pub each : (a : ℕ) → a < length net.arrays → get_or values a [] ≡ elements_at s a

-- the text of the elements and of what the exit took
pub record IsTextOf (net : Net) (s : State) (text : List ℕ) : Type 0 where
  pub value : Option ℕ
  pub took : TookAtExit net s value
  pub values : List (List ℕ)
  pub elements : AreElementsIn net s values
  pub whole : ResultText net.arrays net.result values value text
