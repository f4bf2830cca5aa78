use Rattle.std.proofs.Common.{◌++◌, ◌∷◌, [], get_or, ap, ◌∙◌, codes, decimal, arith}
use Rattle.net_text.specs.Pieces.{line}
use Rattle.snapshot.specs.Texts.{words, stray_lines}
use Rattle.snapshot.proofs.Printed.{put_one, put_all, stray_is}
use Rattle.snapshot.proofs.printer.put_strays.Goals as goal

pub loop-a-preserved : goal.loop-a-preserved
loop-a-preserved c =
    put_one (stray_lines c.args.arrays.now c.args.strays.now) c.loop-a.a
    (words (codes "stray" ∷ c.index-arrays-a.result.name ∷ decimal (get_or c.args.strays.now c.loop-a.a 0) ∷ [])) _ _ _ c.loop-a.invariant
    (c.in_ok-put_stray.ensures ∙ ap (λ n. c.loop-a.text.items ++ line (codes "stray" ∷ n ∷ decimal (get_or c.args.strays.now c.loop-a.a 0) ∷ [])) c.as_slice.ensures.bytes)
    (stray_is c.args.arrays.now c.args.strays.now c.loop-a.a c.index-arrays-a.result c.index-arrays-a.is c.loop-a-test.true)

pub returns : goal.returns
returns c = put_all (stray_lines c.args.arrays.now c.args.strays.now) c.loop-a.a _ _ _ c.loop-a.invariant (omega arith)
