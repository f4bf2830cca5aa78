-- What settling a link leaves of the two workers.
use Rattle.std.specs.Prelude.{◌≡◌, ℕ, Option, Some, None}
use Rattle.elastic_link.specs.declared.put_end.PutEnd.{PutEnd}
use Rattle.elastic_link.specs.declared.take_end.TakeEnd.{TakeEnd}
use Rattle.elastic_link.specs.Ends.{KeptPutEnd, KeptTakeEnd}
use Rattle.net_worker.specs.Given.{SameWork}
use Rattle.net_worker.specs.Views.{is_closed, put_end, take_end}
use Rattle.net_worker.specs.Workers.{IsMadeOf}
use Rattle.net_worker.specs.declared.tables.Tables.{Tables}
use Rattle.net_worker.specs.declared.worker.Worker.{Worker}

-- the same end, with its tokens, messages and credits; or none
abbrev pub KeptPut : Option PutEnd → Option PutEnd → Type 0
KeptPut None None = Unit {0}
KeptPut None (Some q) = ⊥
KeptPut (Some p) None = ⊥
KeptPut (Some p) (Some q) = KeptPutEnd p q

abbrev pub KeptTake : Option TakeEnd → Option TakeEnd → Type 0
KeptTake None None = Unit {0}
KeptTake None (Some e) = ⊥
KeptTake (Some d) None = ⊥
KeptTake (Some d) (Some e) = KeptTakeEnd d e

-- nothing of the worker has moved
pub record IsKeptWith (a b : Worker) : Type 0 where
  pub work : SameWork a b
  pub closed : is_closed b ≡ is_closed a
  pub made : (t : Tables) → IsMadeOf t a → IsMadeOf t b
  pub puts : (c : ℕ) → KeptPut (put_end a c) (put_end b c)
  pub takes : (c : ℕ) → KeptTake (take_end a c) (take_end b c)
