-- After an idle sweep the worker's inner units rest.
use Rattle.std.specs.Prelude.{◌≡◌}
use Rattle.net_worker.specs.Sweeps.{SweptAs}
use Rattle.net_worker.specs.Workers.{IsMadeOf, HasRested}
use Rattle.net_worker.specs.declared.swept.Swept.TheVariants as swept
use Rattle.net_worker.specs.declared.tables.Tables.{Tables}
use Rattle.net_worker.specs.declared.worker.Worker.{Worker}

abbrev pub IdleRests : Type 0
IdleRests = (t : Tables) (a b : Worker) → IsMadeOf t a → IsMadeOf t b → b.number ≡ a.number → SweptAs t swept.Idle a b → HasRested t b
