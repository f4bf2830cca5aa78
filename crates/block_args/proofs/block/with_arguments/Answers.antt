use Rattle.std.proofs.Common.{◌∙◌, ap, arith, sym, subst, ◌++◌, map}
use Rattle.std.specs.Prelude.{All}
use Rattle.ir.specs.declared.instr.Instr.{Instr}
use Rattle.ir.specs.declared.cfg.Write.{Write}
use Rattle.ir.specs.Renaming.{renamed, operands}
use Rattle.block_args.specs.Numbers.{HasPlaces, AreOf, number_in, IsRenumbered, AreRenumbered, with_writes}
use Rattle.block_args.proofs.Numbering.{few_held, places_are, steps_fit, writes_fit, jump_fits, block_made}
use Rattle.block_args.proofs.block.with_arguments.Goals as goal

pub places-requires : goal.places-requires
places-requires c = let h = few_held c.args.count c.args.held.now c.args.block.now c.requires in let f = c.requires.few in omega arith

pub numbers_of-requires-clause-few : goal.numbers_of-requires-clause-few
numbers_of-requires-clause-few c = let h = few_held c.args.count c.args.held.now c.args.block.now c.requires in let f = c.requires.few in omega arith

pub numbers_of-requires-clause-places : goal.numbers_of-requires-clause-places
numbers_of-requires-clause-places c =
    subst (HasPlaces c.args.held.now) (sym (c.as_slice.ensures.value ∙ c.in_ok-now.ensures)) (places_are c.args.count c.args.held.now c.requires.ascending c.requires.below)

pub add_steps-requires : goal.add_steps-requires
add_steps-requires c =
    let ns = c.in_ok-numbers.numbers in
    let is = subst (λ rs. AreOf c.args.held.now rs ns) c.as_slice-2.ensures c.in_ok-numbers.ensures in
    subst (All (λ (i : Instr). AreRenumbered ns (operands i))) (sym c.as_slice-3.ensures) (steps_fit c.args.count c.args.held.now c.args.block.now c.requires ns is)

pub put_writes-requires : goal.put_writes-requires
put_writes-requires c =
    let ns = c.in_ok-numbers.numbers in
    let is = subst (λ rs. AreOf c.args.held.now rs ns) c.as_slice-2.ensures c.in_ok-numbers.ensures in
    subst (All (λ (x : Write). IsRenumbered ns x.value)) (sym c.as_slice-4.ensures) (writes_fit c.args.count c.args.held.now c.args.block.now c.requires ns is)

pub new_jump-requires : goal.new_jump-requires
new_jump-requires c =
    let ns = c.in_ok-numbers.numbers in
    jump_fits c.args.count c.args.held.now c.args.block.now c.requires ns (subst (λ rs. AreOf c.args.held.now rs ns) c.as_slice-2.ensures c.in_ok-numbers.ensures)

pub returns : goal.returns
returns c =
    let ns = c.in_ok-numbers.numbers in
    let b = c.args.block.now in
    block_made c.args.count c.args.held.now b c.requires c.args.args c.args.first c.args.table.now ns c.as_slice-5.result.now c.in_ok-steps.steps c.in_ok-jump.jump
    (subst (λ rs. AreOf c.args.held.now rs ns) c.as_slice-2.ensures c.in_ok-numbers.ensures)
    (c.in_ok-steps.ensures ∙ ap (λ xs. c.args.first ++ map (renamed (number_in ns)) xs) c.as_slice-3.ensures) c.in_ok-jump.ensures
    (c.as_slice-5.ensures.value ∙ c.put_writes.ensures ∙ ap (λ t. with_writes (number_in ns) t c.as_slice-4.result.now) c.in_ok-now.ensures ∙ ap (with_writes (number_in ns) _) c.as_slice-4.ensures)
