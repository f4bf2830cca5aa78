-- How many entries a worker's log may have.
use Rattle.std.specs.Prelude.{ℕ}
use Rattle.el_base.specs.Limits.{max_shared_firings}

abbrev pub max_share : ℕ
max_share = max_shared_firings
