use Rattle.std.proofs.Common.{◌+◌, rules, arith, sym, ◌∙◌, ap, drop, get_or, set, add-one}
use Rattle.std.proofs.lemmas.List.{at_drop_more, at_drop_all}
use Rattle.block_args.specs.Numbers.{with_places}
use Rattle.block_args.proofs.numbers.places.Goals as goal

pub loop-variable-preserved : goal.loop-variable-preserved
loop-variable-preserved c = record {
  counted = omega arith;
  placed =
      let rest = drop (c.loop-variable.variable-index + 1) c.args.held.now in
      ap (λ t. with_places t (c.loop-variable.place + 1) rest) c.put.ensures
      ∙ ap (λ n. with_places (set c.loop-variable.table.items (get_or c.args.held.now c.loop-variable.variable-index 0) c.loop-variable.place) n rest) (add-one c.loop-variable.place)
      ∙ sym (at_drop_more (with_places c.loop-variable.table.items c.loop-variable.place) c.args.held.now c.loop-variable.variable-index 0 c.loop-variable-test.true)
      ∙ c.loop-variable.invariant.placed;
}

pub returns : goal.returns
returns c =
    sym (at_drop_all (with_places c.loop-variable.table.items c.loop-variable.place) c.args.held.now c.loop-variable.variable-index c.loop-variable-test.false)
    ∙ c.loop-variable.invariant.placed ∙ ap (λ t. with_places t 0 c.args.held.now) (search rules)
