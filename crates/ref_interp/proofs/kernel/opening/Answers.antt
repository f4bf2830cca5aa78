use Rattle.std.proofs.Common.{sym, ap, ◌∙◌}
use Rattle.ref_interp.specs.Kernels.{opened}
use Rattle.ref_interp.proofs.Whole.{opens}
use Rattle.ref_interp.proofs.kernel.opening.Goals as goal

pub returns : goal.returns
returns c p law fit = opens c.args.typed.now p c.args.inputs.now _ law fit (c.in_ok-vars.ensures c.args.typed.now.vars (sym c.len.ensures) ∙ ap (opened c.args.typed.now.vars) c.as_slice.ensures) (c.in_ok-arrays.ensures ∙ c.as_slice-2.ensures)
