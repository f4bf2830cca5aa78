-- A worker whose ends took in messages, sent what they owed or were only asked.
use Rattle.std.specs.Prelude.{◌≡◌, ℕ, true, false, None, length}
use Rattle.net_worker.specs.Fires.{PutStep, TakeStep}
use Rattle.net_worker.specs.Workers.{IsMadeOf, WaitsStay, put_end, take_end}
use Rattle.net_worker.specs.declared.tables.Tables.{Tables}
use Rattle.net_worker.specs.declared.worker.Worker.{Worker}

-- nothing is put or taken
pub record IsKept (t : Tables) (a b : Worker) : Type 0 where
  pub number : b.number ≡ a.number
  pub share : b.share ≡ a.share
  pub log : b.log ≡ a.log
  pub clock : b.clock ≡ a.clock
  pub portion : b.portion ≡ a.portion
  pub ends : length b.puts.items ≡ length a.puts.items
  pub ends_too : length b.takes.items ≡ length a.takes.items
  pub outs : b.outs ≡ a.outs
  pub ins : b.ins ≡ a.ins
  pub closed : b.closed ≡ a.closed
  pub rests : b.resting ≡ true → (a.resting ≡ true) × WaitsStay a b
  pub puts : (c : ℕ) → PutStep 0 None (put_end a c) (put_end b c)
  pub takes : (c : ℕ) → TakeStep false 0 (take_end a c) (take_end b c)

abbrev pub MadeKeeps : Type 0
MadeKeeps = (t : Tables) (a b : Worker) → IsMadeOf t a → IsKept t a b → IsMadeOf t b
