use Rattle.std.proofs.Common.{Some, sym, ap, ◌∙◌}
use Rattle.std.proofs.lemmas.Option.{slice_get-get_or, slice_get_past}
use Rattle.struct_cfg.proofs.ExprCode.{dims_some, dims_none}
use Rattle.struct_cfg.proofs.exprs.Scope.dims_of.Goals as goal

pub returns-in-Some : goal.returns-in-Some
returns-in-Some c =
    let l = c.in-Some.ensures.lookup in
    c.as_slice.ensures ∙ dims_some c.args.self.now.arrays.now c.args.array c.in-Some.of.now (slice_get-get_or c.args.self.now.arrays.now c.args.array c.in-Some.of.now l.3.0 ∙ ap Some (sym (l.3.1 c.in-Some.of.now)))

pub returns-in-None : goal.returns-in-None
returns-in-None c = let l = c.in-None.ensures.lookup in dims_none c.args.self.now.arrays.now c.args.array (slice_get_past c.args.self.now.arrays.now c.args.array l.3)
