use Rattle.std.proofs.Common.{◌-◌, arith, sym, ◌∙◌, ap, subst, length, length-drop, take, drop}
use Rattle.std.proofs.lemmas.List.{take_all}
use Rattle.block_args.specs.Tables.{count_from}
use Rattle.block_args.specs.Arguments.{zeros}
use Rattle.block_args.specs.Numbers.{Renumbers, block_with}
use Rattle.block_args.proofs.block.entry.Goals as goal

pub all_variables-requires : goal.all_variables-requires
all_variables-requires c = let few = c.requires.fits.few in omega arith

pub with_arguments-requires : goal.with_arguments-requires
with_arguments-requires c = subst (λ held. Renumbers (length c.args.vars.now) held c.args.block.now) (sym (c.as_slice.ensures ∙ c.in_ok-held.ensures)) c.requires.fits

pub returns : goal.returns
returns c =
    let vars = c.args.vars.now in
    let s = c.args.scalars in
    let b = c.args.block.now in
    let table = c.args.table.now in
    c.in_ok-made.ensures
    ∙ ap (λ held. block_with c.in_ok-args.args c.in_ok-steps.steps table held b) (c.as_slice.ensures ∙ c.in_ok-held.ensures)
    ∙ ap (λ args. block_with args c.in_ok-steps.steps table (count_from 0 (length vars)) b) c.in_ok-args.ensures
    ∙ ap (λ steps. block_with (take s vars) steps table (count_from 0 (length vars)) b)
    (c.in_ok-steps.ensures ∙ ap zeros (take_all (length vars - s) (drop s vars) (omega (arith, length-drop s vars))))
