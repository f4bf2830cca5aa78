use Rattle.std.proofs.Common.{◌∙◌, sym, ap}
use Rattle.std.specs.Option.{option_copied_mut}
use Rattle.net_worker.proofs.Glancing.{peeked}
use Rattle.net_worker.proofs.looking.peek_at.Goals as goal

pub returns-in-Some-clause-some : goal.returns-in-Some-clause-some
returns-in-Some-clause-some c =
    peeked c.args.chan c.args.takes.now.items c.in-Some.end.now c.peek.new.self (sym c.get_mut.ensures.value ∙ ap option_copied_mut c.in-Some.is)
    c.requires.free c.peek.ensures.same c.peek.ensures.credits c.peek.ensures.taken c.peek.ensures.count c.peek.result c.peek.ensures.held
