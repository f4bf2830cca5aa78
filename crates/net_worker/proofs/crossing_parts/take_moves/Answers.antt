use Rattle.std.proofs.Common.{◌∙◌, subst}
use Rattle.net_core.specs.Plans.{chans_of}
use Rattle.net_worker.specs.Firings.{AllDistinct}
use Rattle.net_worker.proofs.Moved.{two_steps}
use Rattle.net_worker.proofs.Paying.{three_steps}
use Rattle.net_worker.specs.Moved.{AllPayableOn}
use Rattle.net_worker.proofs.Paying.{third_payable}
use Rattle.net_worker.proofs.crossing_parts.take_moves.Goals as goal

pub returns-in-Two-clause-taken : goal.returns-in-Two-clause-taken
returns-in-Two-clause-taken c = rw c.in-Two.is (record {
  long = c.take_on-in-Two-2.ensures.long ∙ c.take_on-in-Two.ensures.long;
  each = two_steps c.args.stamp c.in-Two.c c.in-Two.d c.args.takes.now.items c.take_on-in-Two.new.takes.items c.take_on-in-Two-2.new.takes.items
      (subst (λ ts. AllDistinct (chans_of ts)) c.in-Two.is c.requires.distinct)
      c.take_on-in-Two.ensures.taken c.take_on-in-Two.ensures.others c.take_on-in-Two-2.ensures.taken c.take_on-in-Two-2.ensures.others;
})

pub returns-in-Three-clause-taken : goal.returns-in-Three-clause-taken
returns-in-Three-clause-taken c = rw c.in-Three.is (record {
  long = c.take_on-in-Three-3.ensures.long ∙ (c.take_on-in-Three-2.ensures.long ∙ c.take_on-in-Three.ensures.long);
  each = three_steps c.args.stamp c.in-Three.c c.in-Three.d c.in-Three.e
      c.args.takes.now.items c.take_on-in-Three.new.takes.items c.take_on-in-Three-2.new.takes.items c.take_on-in-Three-3.new.takes.items
      (subst (λ ts. AllDistinct (chans_of ts)) c.in-Three.is c.requires.distinct)
      c.take_on-in-Three.ensures.taken c.take_on-in-Three.ensures.others c.take_on-in-Three-2.ensures.taken c.take_on-in-Three-2.ensures.others c.take_on-in-Three-3.ensures.taken c.take_on-in-Three-3.ensures.others;
})

pub take_on-requires-in-Three-3-clause-payable : goal.take_on-requires-in-Three-3-clause-payable
take_on-requires-in-Three-3-clause-payable c =
    third_payable c.args.stamp c.in-Three.c c.in-Three.d c.in-Three.e c.args.takes.now.items c.take_on-in-Three.new.takes.items c.take_on-in-Three-2.new.takes.items
    (subst (λ ts. AllDistinct (chans_of ts)) c.in-Three.is c.requires.distinct)
    (subst (λ ts. AllPayableOn c.args.stamp c.args.takes.now.items (chans_of ts)) c.in-Three.is c.requires.payable).1.1.0
    c.take_on-in-Three.ensures.others c.take_on-in-Three-2.ensures.others
