use Rattle.std.proofs.Common.{◌∷◌, [], get_or, codes, arith}
use Rattle.std.proofs.lemmas.Slice.Zip.{AllZip-long}
use Rattle.el_base.specs.declared.ty.Scalar.{Scalar}
use Rattle.net_types.specs.Inputs.{IsPatternOf}
use Rattle.inputs_text.specs.Results.{written}
use Rattle.snapshot.specs.Texts.{words, scalar_lines}
use Rattle.snapshot.proofs.Printed.{put_one, put_all, scalar_is}
use Rattle.snapshot.proofs.printer.put_scalars.Goals as goal

pub bounds-patterns-j : goal.bounds-patterns-j
bounds-patterns-j c = omega (arith, AllZip-long (λ (s : Scalar) n. IsPatternOf s.ty n) c.args.scalars.now c.args.patterns.now c.requires, c.loop-j-test.true)

pub loop-j-preserved : goal.loop-j-preserved
loop-j-preserved c =
    put_one (scalar_lines c.args.scalars.now c.args.patterns.now) c.loop-j.j
    (words (codes "scalar" ∷ c.index-scalars-j.result.name ∷ codes "=" ∷ written c.index-scalars-j.result.ty (get_or c.args.patterns.now c.loop-j.j 0) ∷ [])) _ _ _ c.loop-j.invariant c.in_ok-put_scalar.ensures
    (scalar_is c.args.scalars.now c.args.patterns.now c.loop-j.j c.index-scalars-j.result c.index-scalars-j.is c.loop-j-test.true)

pub returns : goal.returns
returns c = put_all (scalar_lines c.args.scalars.now c.args.patterns.now) c.loop-j.j _ _ _ c.loop-j.invariant (omega arith)
