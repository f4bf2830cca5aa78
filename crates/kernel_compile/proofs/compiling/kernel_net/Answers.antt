use Rattle.kernel_compile.proofs.Asked.{arrays_numbered}
use Rattle.kernel_compile.proofs.Circuits.{net_kept}
use Rattle.kernel_compile.proofs.compiling.kernel_net.Goals as goal

pub groups-requires-clause-arrays : goal.groups-requires-clause-arrays
groups-requires-clause-arrays c = arrays_numbered c.args.typed.now c.in_ok-graph.graph c.requires.lawful c.in_ok-graph.ensures.share c.requires.few

pub returns : goal.returns
returns c =
    net_kept c.args.typed.now c.in_ok-graph.graph c.in_ok-groups.groups c.build.result c.requires.lawful c.in_ok-graph.ensures.made c.in_ok-graph.ensures.share c.in_ok-groups.ensures.share
    c.look-blocks.ensures.fine c.build.ensures.net c.build.ensures.share c.build.ensures.follows c.build.ensures.completes
