use Rattle.c_meaning.specs.Sizes.{form_sizes}
use Rattle.struct_cfg.proofs.Trimmed.{trimmed_share, trimmed_sizes, trimmed_trim}
use Rattle.struct_cfg.proofs.graph.cfg.Goals as goal

pub returns-clause-share : goal.returns-clause-share
returns-clause-share c =
    trimmed_share c.args.normal.now _ _ c.trimmed_graphs_run_the_same.ensures c.in_ok-wide.ensures.fit c.in_ok-graph.ensures c.in_ok-wide.ensures.share

pub returns-clause-sizes : goal.returns-clause-sizes
returns-clause-sizes c =
    let f = c.args.normal.now in
    trimmed_sizes _ _ (form_sizes f) c.trimmed_sizes_are_kept.ensures c.in_ok-graph.ensures c.in_ok-wide.ensures.sizes

pub returns-clause-trim : goal.returns-clause-trim
returns-clause-trim c = trimmed_trim _ _ c.trimmed_blocks_are_trim.ensures c.in_ok-graph.ensures
