use Rattle.net_core.proofs.TokenLemmas.{channel_empty, channel_undated, channel_room, channel_filled}
use Rattle.net_core.proofs.tokens.fill_channels.Goals as goal

pub fill_channel-requires-clause-none : goal.fill_channel-requires-clause-none
fill_channel-requires-clause-none c =
    channel_empty c.loop-at.channels.items c.args.channels.now.items c.args.lists.now c.loop-at.at c.index_mut.result.now c.loop-at-test.true c.requires.count c.requires.none c.loop-at.invariant.tokens c.loop-at.invariant.slots c.index_mut.ensures.value

pub fill_channel-requires-clause-undated : goal.fill_channel-requires-clause-undated
fill_channel-requires-clause-undated c =
    channel_undated c.loop-at.channels.items c.args.channels.now.items c.args.lists.now c.loop-at.at c.index_mut.result.now c.loop-at-test.true c.requires.count c.requires.undated c.loop-at.invariant.dates c.loop-at.invariant.slots c.index_mut.ensures.value

pub fill_channel-requires-clause-slots : goal.fill_channel-requires-clause-slots
fill_channel-requires-clause-slots c =
    channel_room c.loop-at.channels.items c.args.channels.now.items c.args.lists.now c.loop-at.at c.index_mut.result.now c.as_slice.result.now c.index-lists-at.result c.loop-at-test.true c.requires.count c.requires.slots c.loop-at.invariant.slots
    c.index_mut.ensures.value c.as_slice.ensures c.index-lists-at.is

pub loop-at-preserved : goal.loop-at-preserved
loop-at-preserved c =
    channel_filled c.loop-at.channels.items c.args.channels.now.items c.args.lists.now c.loop-at.at c.index_mut.result.now c.loop-at-test.true c.requires.count c.fill_channel.new.channel c.as_slice.result.now c.index-lists-at.result
    c.loop-at.invariant.tokens c.loop-at.invariant.slots c.loop-at.invariant.dates c.index_mut.ensures.value c.as_slice.ensures c.index-lists-at.is c.fill_channel.ensures
