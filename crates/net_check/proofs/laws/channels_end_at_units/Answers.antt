use Rattle.net_types.specs.Nets.{nowhere}
use Rattle.net_check.proofs.CycleLemmas.{linked}
use Rattle.net_check.proofs.laws.channels_end_at_units.Goals as goal

pub returns : goal.returns
returns c net k = let h = linked net k in record {
  from = λ d l. (h.chans d nowhere l).from;
  to = λ d l. (h.chans d nowhere l).to;
}
