use Rattle.std.proofs.Common.{rules}
use Rattle.el_base.specs.Limits.{max_elements}
use Rattle.c_meaning.proofs.StoreParts.{rest_small}
use Rattle.ref_interp.proofs.header.+elements.Goals as goal

pub elements-requires : goal.elements-requires
elements-requires t c =
    let small = rest_small c.in-Some.dim.now c.in-Some.rest.now c.args.dims.now max_elements c.in-Some.ensures.cases.0 c.requires.some c.requires.few in
    (search rules, (small.0, small.1))
