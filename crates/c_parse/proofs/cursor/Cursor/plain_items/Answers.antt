use Rattle.std.proofs.Common.{◌∷◌, rules, ap, ◌∙◌}
use Rattle.c_parse.specs.Symbols.{Symbol}
use Rattle.c_parse.specs.Traces.{judge}
use Rattle.c_parse.proofs.Rules.{no_items, some_items}
use Rattle.c_parse.proofs.Chains.{stopped}
use Rattle.c_parse.proofs.HelperItems.{all_free_of, none_barred, items_begun, items_more, free_more, items_ended, items_judged, items_stop}
use Rattle.c_parse.proofs.cursor.Cursor.plain_items.Goals as goal

pub items-init : goal.items-init
items-init c = record {
  read = items_begun _ _ _ _ c.parted.ensures c.new-body.ensures;
  free = none_barred _ c.parted.ensures.free;
  begins = c.parted.ensures.begins;
  judged = λ symbols. ap (λ ts. judge (Symbol.helper_body 1 ∷ symbols) ts) c.parted.ensures.split;
}

pub items-preserved : goal.items-preserved
items-preserved c = record {
  read = items_more _ _ _ _ _ _ c.items.invariant.read c.items.invariant.free c.in_ok-item_before.ensures.added;
  free = free_more _ _ _ _ c.items.invariant.free c.in_ok-item_before.ensures.added;
  begins = c.items.invariant.begins;
  judged = λ symbols. c.items.invariant.judged symbols ∙ c.in_ok-item_before.ensures.judged c.items.invariant.begins (all_free_of _ c.items.invariant.free) (some_items c.items.part.rest.now (search rules)) symbols;
}

pub returns-in_err-item_before-clause-judged : goal.returns-in_err-item_before-clause-judged
returns-in_err-item_before-clause-judged c = rw (stopped _ _ c.from_residual.ensures.1) (items_stop c.args.self.now.rest.now c.items.part.rest.now c.parted.result.1.now _ c.items.invariant.judged (c.in_err-item_before.ensures.judged c.items.invariant.begins (all_free_of _ c.items.invariant.free) (some_items c.items.part.rest.now (search rules))))

pub returns : goal.returns
returns c = record {
  derived = items_ended _ _ c.items.part.rest.now c.parted.result.1.now c.items.invariant.read (no_items c.items.part.rest.now (search rules));
  judged = items_judged c.args.self.now.rest.now c.items.part.rest.now c.parted.result.1.now c.items.invariant.judged (no_items c.items.part.rest.now (search rules));
  behind = c.items.invariant.begins;
}
