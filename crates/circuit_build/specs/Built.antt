-- The net of a block graph, by sections: what stands before the blocks, the blocks, the feeders, the return join, and the channels of the edges to merges.
use Rattle.std.specs.Prelude.{ℕ, ◌+◌, length, get_or}
use Rattle.ir.specs.declared.groups.Groups.{Groups}
use Rattle.ir.specs.Graphs.{Graph}
use Rattle.net_types.specs.declared.net.Net.{Net}
use Rattle.circuit_build.specs.declared.draft.Draft.{Draft}
use Rattle.circuit_build.specs.Drafts.{number}
use Rattle.circuit_build.specs.Blocks.{ins_of, blocks_laid}
use Rattle.circuit_build.specs.Edges.{edge_counts, connected}
use Rattle.circuit_build.specs.Endings.{result_widths, join_laid, feeder_if, feeders_laid}
use Rattle.circuit_build.specs.Fronts.{started, entered, queues_laid}

-- the return join is the target after the blocks
abbrev pub join_of : Graph → ℕ
join_of g = number (length g.blocks)

abbrev pub front_of : Graph → Groups → Draft
front_of g gs = queues_laid g.blocks gs.of 0 g.arrays (entered g.scalars (started (length g.blocks + 1)))

abbrev pub with_blocks : Graph → Groups → Draft
with_blocks g gs = blocks_laid g.arrays (join_of g) (edge_counts g.blocks) 0 g.blocks gs.of (front_of g gs)

abbrev pub with_feeders : Graph → Groups → Draft
with_feeders g gs =
    let counts = edge_counts g.blocks in
    feeder_if (get_or counts (join_of g) 0) (join_of g) (result_widths g.result) (feeders_laid counts 0 g.blocks (with_blocks g gs))

abbrev pub with_join : Graph → Groups → Draft
with_join g gs = join_laid (ins_of (edge_counts g.blocks) (join_of g)) (join_of g) g.result (with_feeders g gs)

abbrev pub whole_draft : Graph → Groups → Draft
whole_draft g gs = connected (length g.blocks + 1) (with_join g gs)

abbrev pub built : Graph → Groups → Net
built g gs = record {
  name = g.name;
  scalars = g.scalars;
  arrays = g.arrays;
  result = g.result;
  units = (whole_draft g gs).units;
  chans = (whole_draft g gs).chans;
}
