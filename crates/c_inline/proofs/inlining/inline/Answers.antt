use Rattle.std.proofs.Common.{◌≤◌, sym, subst, refl}
use Rattle.el_base.specs.Limits.{max_nodes}
use Rattle.c_ast.specs.Nodes.{typed_nodes}
use Rattle.c_meaning.specs.Lawful.{Lawful}
use Rattle.c_calls.specs.Inlined.{inlined}
use Rattle.c_inline.proofs.Lawful.{program_fits}
use Rattle.c_inline.proofs.inlining.inline.Goals as goal

pub made-requires : goal.made-requires
made-requires c =
    let P = c.args.program.now in
    program_fits P c.requires (c.variables_are_few.ensures (inlined P) (c.inlined_is_lawful.ensures P (inlined P) c.requires refl)) c.in_ok-not_grown.ensures.small

pub returns-clause-lawful : goal.returns-clause-lawful
returns-clause-lawful c = let P = c.args.program.now in subst Lawful (sym c.in_ok-kernel.ensures) (c.inlined_is_lawful.ensures P (inlined P) c.requires refl)

pub returns-clause-small : goal.returns-clause-small
returns-clause-small c = subst (λ k. typed_nodes k ≤ max_nodes) (sym c.in_ok-kernel.ensures) c.in_ok-not_grown.ensures.small
