use Rattle.std.proofs.Common.{refl, ◌∙◌}
use Rattle.std.proofs.lemmas.Result.{on_ok_weaker}
use Rattle.snapshot.specs.Texts.{maybe, digit}
use Rattle.snapshot.proofs.Printed.{entry_of}
use Rattle.snapshot.proofs.printer.put_entry.Goals as goal

pub returns : goal.returns
returns c =
    let x = c.args.entry.now in
    on_ok_weaker c.put_bytes-2.result
    (entry_of x.serial x.port (maybe x.addr) (maybe x.datum) (digit x.done) x.value (digit x.replied) _ _ _ _ _ _ _ _ _ c.in_ok-put_bytes.ensures.ok (c.in_ok-put_numbers.ensures.ok ∙ rw c.from.ensures refl)
    c.in_ok-put_maybe.ensures c.in_ok-put_maybe-2.ensures c.in_ok-put_digit.ensures c.in_ok-put_numbers-2.ensures.ok c.in_ok-put_digit-2.ensures)
    c.put_bytes-2.ensures.ok
