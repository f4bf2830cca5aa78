use Rattle.std.proofs.Common.{◌++◌, ◌+◌, ◌<◌, length, drop, sym, ap, ◌∙◌, append_assoc, arith}
use Rattle.inputs_text.specs.Results.{array_lines, numbers_line}
use Rattle.inputs_text.proofs.ResultLemmas.{lines_from}
use Rattle.inputs_text.proofs.results.put_arrays.Goals as goal

pub loop-i-preserved : goal.loop-i-preserved
loop-i-preserved c =
    let long : c.loop-i.i < length c.args.values.now = omega (arith, c.requires, c.loop-i-test.true) in
    let more = lines_from c.args.arrays.now c.args.values.now c.loop-i.i c.index-arrays-i.result c.index-values-i.result c.loop-i-test.true long c.index-arrays-i.is c.index-values-i.is in
    let old = c.loop-i.text.items in
    let rest = array_lines (drop (c.loop-i.i + 1) c.args.arrays.now) (drop (c.loop-i.i + 1) c.args.values.now) in
    let line = numbers_line c.index-arrays-i.result.name c.index-arrays-i.result.ty c.index-values-i.result in
    ap (λ t. t ++ rest) (c.in_ok-put_numbers_line.ensures
    ∙ ap (λ n. old ++ numbers_line n c.index-arrays-i.result.ty c.as_slice-in-loop-i.result.now) c.as_slice.ensures.bytes
    ∙ ap (λ ps. old ++ numbers_line c.index-arrays-i.result.name c.index-arrays-i.result.ty ps) c.as_slice-in-loop-i.ensures)
    ∙ append_assoc old line rest
    ∙ ap (λ l. old ++ l) (sym more)
    ∙ c.loop-i.invariant
