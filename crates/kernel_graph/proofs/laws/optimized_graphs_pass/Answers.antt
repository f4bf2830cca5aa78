use Rattle.kernel_graph.proofs.Passed.{optimized_passes}
use Rattle.kernel_graph.proofs.laws.optimized_graphs_pass.Goals as goal

pub returns : goal.returns
returns c = optimized_passes (record {
  itself = c.passes_go_on.ensures.itself;
  on = c.passes_go_on.ensures.on;
  back = c.passes_go_on.ensures.back;
  merges = c.merged_graphs_pass.ensures;
  folds = c.folded_graphs_pass.ensures;
  selects = c.selected_graphs_pass.ensures;
  copies = c.copied_graphs_pass.ensures;
})
