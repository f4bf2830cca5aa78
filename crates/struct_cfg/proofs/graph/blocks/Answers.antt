use Rattle.struct_cfg.proofs.Grows.{body_space, end_space}
use Rattle.struct_cfg.proofs.graph.blocks.Goals as goal

pub lower_all-requires : goal.lower_all-requires
lower_all-requires c = body_space c.args.normal.now c.len.result c.in_ok-draft.draft _ c.requires c.len.ensures c.in_ok-draft.ensures c.as_slice-2.ensures

pub finish-requires : goal.finish-requires
finish-requires c =
    end_space c.args.normal.now c.len.result c.in_ok-draft.draft c.lower_all.new.draft _ c.requires c.len.ensures c.in_ok-draft.ensures c.as_slice-2.ensures c.in_ok-lower_all.ensures.few
