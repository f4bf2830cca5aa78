use Rattle.std.proofs.Common.{◌∙◌}
use Rattle.c_inline.proofs.Lawful.{fits_alike, whole_made}
use Rattle.c_inline.proofs.inlining.made.Goals as goal

pub stmts-requires : goal.stmts-requires
stmts-requires c = fits_alike c.args.program.now _ _ _ c.requires c.in_ok-vars.ensures c.as_slice.ensures c.as_slice-helpers.ensures

pub returns : goal.returns
returns c =
    whole_made c.args.program.now _ _ _ _ _ _ _ _ _ c.new-body.ensures c.in_ok-vars.ensures c.as_slice.ensures c.as_slice-helpers.ensures c.in_ok-stmts.ensures c.in_ok-name.ensures (c.in_ok-params.ensures ∙ c.as_slice-2.ensures) (c.in_ok-arrays.ensures ∙ c.as_slice-3.ensures)
