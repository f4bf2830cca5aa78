use Rattle.net_front.specs.Refusals.{of_text, of_rules}
use Rattle.net_front.proofs.Answering.{reader_says, rules_say, converted_says}
use Rattle.net_front.proofs.reading.read_net.Goals as goal

pub returns-in_err-net-clause-err : goal.returns-in_err-net-clause-err
returns-in_err-net-clause-err c =
    let e = c.in_err-net.field-0.0 in
    converted_says c.args.bytes.now c.from_residual.result (of_text e) c.from_residual.ensures.1 (reader_says c.args.bytes.now e c.in_err-net.ensures.says)

pub returns-in_err-checked-clause-err : goal.returns-in_err-checked-clause-err
returns-in_err-checked-clause-err c =
    let e = c.in_err-checked.field-0.0 in
    converted_says c.args.bytes.now c.from_residual-in_err-checked.result (of_rules e) c.from_residual-in_err-checked.ensures.1
    (rules_say c.args.bytes.now c.in_ok-net.net e c.in_ok-net.ensures.says c.in_err-checked.ensures.refused)
