use Rattle.std.proofs.Common.{◌++◌, ◌∷◌, [], codes, ap, ◌∙◌}
use Rattle.std.proofs.lemmas.Result.{on_ok_weaker}
use Rattle.inputs_text.specs.Results.{numbers_line}
use Rattle.snapshot.proofs.Printed.{numbers_of}
use Rattle.snapshot.proofs.printer.put_scalar.Goals as goal

pub returns : goal.returns
returns c =
    let x = c.args.scalar.now in
    on_ok_weaker c.put_numbers_line.result
    (λ e. numbers_of (codes "scalar") x.name x.ty (c.args.pattern ∷ []) _ _ _ c.in_ok-put_bytes.ensures.ok (e ∙ ap (λ n. c.put_bytes.new.text.items ++ numbers_line n x.ty (c.args.pattern ∷ [])) c.as_slice.ensures.bytes))
    c.put_numbers_line.ensures
