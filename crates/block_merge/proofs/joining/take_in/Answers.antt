use Rattle.block_merge.proofs.PartLemmas.{take_in_made}
use Rattle.block_merge.proofs.joining.take_in.Goals as goal

pub returns : goal.returns
returns c =
    take_in_made c.args.blocks c.replace-block.new.blocks c.as_slice.result.now c.set.new.self c.set-2.new.self c.args.at c.args.next c.idle.result c.index-as_slice-next.result c.replace-block.result c.in_ok-joined.joined c.idle-2.result
    c.requires c.replace-block.ensures.taken c.replace-block.ensures.others c.as_slice.ensures c.index-as_slice-next.is c.in_ok-joined.ensures c.set.ensures c.idle-2.ensures c.set-2.ensures
