-- The worked net without a queue, by cycles.
use Rattle.std.specs.Prelude.{◌≡◌, Some, [], ◌∷◌, get_or}
use Rattle.net_core.specs.Fire.{idle}
use Rattle.net_core.specs.Worked.{straight, straight_inputs, straight_firings}
use Rattle.cycle_engine.specs.Cycles.{Dated, Cycles, dated_opening}

-- all its channels have delay 0, so all nine firings are made in the first cycle, and the exit takes 17
pub record StraightCycles : Type 0 where
  pub to : Dated
  pub cycles : Cycles straight 0 (dated_opening straight straight_inputs) (straight_firings ∷ []) to
  pub took : (get_or to.state.own 7 idle).value ≡ Some 17
