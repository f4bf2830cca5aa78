use Rattle.std.proofs.Common.{◌≡◌, ◌++◌, ◌-◌, length}
use Rattle.elastic_link.specs.Ends.{IsLink, tokens_put, tokens_taken}
use Rattle.net_core.specs.Fire.{tokens_at}
use Rattle.net_core.specs.States.{IsOf, state_of}
use Rattle.net_worker.specs.Handed.{SameButChan}
use Rattle.net_worker.specs.Local.{values}
use Rattle.net_worker.proofs.handing.drain_into.Given as goal

abbrev pub invariant-tokens : goal.invariant-tokens
invariant-tokens l = record {
  link : IsLink l.put l.take;
  put : tokens_put l.put ≡ tokens_put l.fn.put;
  of : IsOf l.net l.into;
  state : SameButChan l.chan (state_of l.fn.into) (state_of l.into);
  left : values (tokens_taken l.fn.take) ++ tokens_at (state_of l.into) l.chan ≡ values (tokens_taken l.take);
}

abbrev pub decreases-tokens : goal.decreases-tokens
decreases-tokens l = length (tokens_put l.put) - length (tokens_taken l.take)
