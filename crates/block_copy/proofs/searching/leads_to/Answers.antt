use Rattle.std.proofs.Common.{◌≡◌, Bool, sym, subst}
use Rattle.std.specs.Prelude.{IfOk}
use Rattle.block_copy.proofs.Finding.{leads_is, looks_are}
use Rattle.block_copy.proofs.searching.leads_to.Goals as goal

pub returns : goal.returns
returns c =
    let e = leads_is c.args.blocks.now c.args.wanted.now c.args.at c.args.block 16 c.in_ok-near.near (sym looks_are) c.in_ok-near.ensures.seen c.in_ok-near.ensures.left in
    subst (λ (y : Bool). IfOk c.finds.result (λ r. r ≡ y)) e c.finds.ensures
