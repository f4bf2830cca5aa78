use Rattle.std.proofs.Common.{Bool, List, subst}
use Rattle.std.specs.declared.vec.Vec.{Vec}
use Rattle.std.specs.declared.alloc.Global.{Global}
use Rattle.block_args.specs.Indexes.{ArePushed, ListsBelow}
use Rattle.block_args.proofs.Listing.{lists_found}
use Rattle.block_args.proofs.live.list_between.Goals as goal

pub returns : goal.returns
returns c =
    let g = c.args.cfg.now in
    subst (λ k. ListsBelow g k c.push_all.new.table) c.in_ok-found.ensures.many
    (lists_found g c.in_ok-found.found.items c.args.first c.args.table.now c.push_all.new.table c.requires.below c.in_ok-found.ensures.live
    (subst (λ (xs : List (Vec Bool Global)). ArePushed xs c.args.first c.args.table.now c.push_all.new.table) c.as_slice.ensures.value c.in_ok-push_all.ensures))
