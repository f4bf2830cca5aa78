use Rattle.std.proofs.Common.{◌∙◌, subst}
use Rattle.net_worker.specs.Firings.{AllDistinct, chans_into}
use Rattle.net_core.specs.Plans.{places_of}
use Rattle.net_worker.proofs.Paying.{three_taken}
use Rattle.net_worker.proofs.parts.take_all.Goals as goal

pub returns-in-Three-clause-taken : goal.returns-in-Three-clause-taken
returns-in-Three-clause-taken c = rw c.in-Three.is (record {
  long = c.take_at-in-Three-3.ensures.long ∙ (c.take_at-in-Three-2.ensures.long ∙ c.take_at-in-Three.ensures.long);
  each = three_taken c.args.net.now c.args.unit c.args.stamp c.in-Three.p c.in-Three.q c.in-Three.r c.into_place-in-Three.result c.into_place-in-Three-2.result c.into_place-in-Three-3.result
      c.args.takes.now.items c.take_at-in-Three.new.takes.items c.take_at-in-Three-2.new.takes.items c.take_at-in-Three-3.new.takes.items
      c.into_place-in-Three.ensures c.into_place-in-Three-2.ensures c.into_place-in-Three-3.ensures
      (subst (λ ps. AllDistinct (chans_into c.args.net.now c.args.unit (places_of ps))) c.in-Three.is c.requires.distinct)
      c.take_at-in-Three.ensures.taken c.take_at-in-Three.ensures.others c.take_at-in-Three-2.ensures.taken c.take_at-in-Three-2.ensures.others c.take_at-in-Three-3.ensures.taken c.take_at-in-Three-3.ensures.others;
})
