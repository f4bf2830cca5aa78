use Rattle.std.proofs.Common.{◌≡◌, ◌∙◌, ℕ, get_or, rules, ap}
use Rattle.net_types.specs.declared.net.Net.{Net}
use Rattle.net_types.specs.declared.net.Chan.{Chan}
use Rattle.net_types.specs.Nets.{kind_of, nowhere}
use Rattle.cycle_engine.specs.private.Marking.{into_where, partner, partner_place}
use Rattle.cycle_engine.proofs.FeedLemmas.{partners_more}
use Rattle.cycle_engine.proofs.feeds.partners.Goals as goal

pub loop-chan-preserved : goal.loop-chan-preserved
loop-chan-preserved c = record {
  long = search rules;
  told = rw c.in_ok-push.ensures.items (partners_more c.args.net.now c.loop-chan.partners.items c.partner.result c.loop-chan.chan-index c.loop-chan.invariant.long told c.loop-chan.invariant.told);
}
  where
    beside_of : Chan → ℕ
    beside_of x = into_where c.args.net.now x.to.unit (partner_place (kind_of c.args.net.now x.to.unit) x.to.place)

    told : c.partner.result ≡ partner c.args.net.now c.loop-chan.chan-index
    told = c.partner.ensures ∙ ap (λ cs. beside_of (get_or cs c.loop-chan.chan-index nowhere)) (c.as_slice-chans.ensures ∙ ap (λ (n : Net). n.chans) c.net.ensures.net)
