use Rattle.std.proofs.Common.{◌≡◌, false, subst, sym}
use Rattle.net_types.specs.declared.net.Unit.{Unit as Kind}
use Rattle.net_types.specs.Tables.{outs}
use Rattle.net_check.specs.private.Widths.{width_in}
use Rattle.net_check.proofs.widths.out_width.Goals as goal

pub returns-in-Fork : goal.returns-in-Fork
returns-in-Fork c =
    let P : Kind → Type 0 = λ k. c.fork_out.result ≡ width_in (outs c.args.net.now false k) c.args.place in
    subst P (sym c.in-Fork.is) (c.fork_out.ensures c.args.net.now)
