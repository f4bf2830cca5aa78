use Rattle.ir.proofs.Strict.{stores_have_no_width, no_target_is_the_entry, conditions_have_32_bits}
use Rattle.ir.proofs.laws.graphs_are_strict.Goals as goal

pub returns : goal.returns
returns c = record {
  stores = stores_have_no_width;
  targets = no_target_is_the_entry;
  conditions = conditions_have_32_bits;
}
