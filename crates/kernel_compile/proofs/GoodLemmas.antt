-- What follows of a good net.
use Rattle.std.proofs.Common.{◌≡◌, suc, length, refl, ap, ◌∙◌, arith}
use Rattle.net_types.specs.Headers.{net_header}
use Rattle.kernel_compile.specs.Goods.{GoodNetsCompute, GoodWhenRetimed, EndsInTime}

pub good_computes : GoodNetsCompute
good_computes net k p g = g.retimed net (record { same = refl; checked = g.checked })

pub good_retimed : GoodWhenRetimed
good_retimed net net2 k p g ret = record {
  checked = ret.checked;
  header = ap net_header ret.same ∙ g.header;
  retimed = λ net3 again. g.retimed net3 (record { same = again.same ∙ ret.same; checked = again.checked });
}

pub ends_in_time : EndsInTime
ends_in_time net k p z out r t limit g fit ends le long =
    let b = (good_computes net k p g).bounded z out r t long.firings long.to fit ends long.run in
    let d : length long.firings ≡ suc limit = long.more in
    absurd (omega arith)
