use Rattle.std.proofs.Common.{◌<◌, length, ◌∷◌, [], map, codes, arith, ◌∙◌}
use Rattle.std.proofs.lemmas.List.{get_or_read}
use Rattle.std.proofs.lemmas.Slice.Zip.{AllZip-long}
use Rattle.net_types.specs.Inputs.{AreElementsOf}
use Rattle.inputs_text.specs.Results.{written}
use Rattle.snapshot.specs.Texts.{words, array_lines}
use Rattle.snapshot.proofs.Printed.{put_one, put_all, array_is}
use Rattle.snapshot.proofs.printer.put_arrays.Goals as goal

pub bounds-elements-a : goal.bounds-elements-a
bounds-elements-a c = omega (arith, AllZip-long AreElementsOf c.args.arrays.now c.args.elements.now c.requires, c.loop-a-test.true)

pub loop-a-preserved : goal.loop-a-preserved
loop-a-preserved c =
    let within : c.loop-a.a < length c.args.elements.now = omega (arith, AllZip-long AreElementsOf c.args.arrays.now c.args.elements.now c.requires, c.loop-a-test.true) in
    put_one (array_lines c.args.arrays.now c.args.elements.now) c.loop-a.a
    (words (codes "array" ∷ c.index-arrays-a.result.name ∷ codes "=" ∷ map (written c.index-arrays-a.result.ty) c.as_slice.result.now)) _ _ _ c.loop-a.invariant c.in_ok-put_array.ensures
    (array_is c.args.arrays.now c.args.elements.now c.loop-a.a c.index-arrays-a.result c.as_slice.result.now c.index-arrays-a.is c.loop-a-test.true
    (c.as_slice.ensures ∙ get_or_read c.args.elements.now c.loop-a.a c.index-elements-a.result within c.index-elements-a.is []))

pub returns : goal.returns
returns c = put_all (array_lines c.args.arrays.now c.args.elements.now) c.loop-a.a _ _ _ c.loop-a.invariant (omega arith)
