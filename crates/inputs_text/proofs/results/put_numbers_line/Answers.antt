use Rattle.inputs_text.proofs.ResultLemmas.{line_written}
use Rattle.inputs_text.proofs.results.put_numbers_line.Goals as goal

pub returns : goal.returns
returns c = line_written c.args.ty c.args.text.now.items c.args.name.now c.args.patterns.now _ _ _ _ c.in_ok-extend_from_slice.ensures.items c.in_ok-extend_from_slice-2.ensures.items c.in_ok-put_numbers.ensures c.in_ok-push.ensures.items
