use Rattle.std.proofs.Common.{◌<◌, ◌∙◌, ap, length, arith}
use Rattle.net_types.specs.declared.net.Net.{Net}
use Rattle.net_check.proofs.CountLemmas.{few_arrays}
use Rattle.net_replay.proofs.judging.first_stray.Goals as goal

pub overflow_cast-array : goal.overflow_cast-array
overflow_cast-array c =
    let same = ap length (c.as_slice-at-end.ensures ∙ ap (λ (n : Net). n.arrays) c.net.ensures.net) in
    let l : c.loop-at.at < length c.args.net.now.arrays = omega (arith, same) in
    few_arrays c.args.net.now c.loop-at.at c.net.ensures.checked l
