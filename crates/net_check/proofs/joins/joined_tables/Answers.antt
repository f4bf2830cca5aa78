use Rattle.net_check.proofs.AloneLemmas.{when_none, join_tables}
use Rattle.net_check.proofs.joins.joined_tables.Goals as goal

pub joined_table-requires-clause-ends : goal.joined_table-requires-clause-ends
joined_table-requires-clause-ends c = when_none _ _ _ _ c.first_stray.ensures c.is_some.ensures c.if-is_some.false

pub joined_table-requires-in-Some-clause-ends : goal.joined_table-requires-in-Some-clause-ends
joined_table-requires-in-Some-clause-ends c = when_none _ _ _ _ c.first_stray.ensures c.is_some.ensures c.if-is_some.false

pub returns-in-Some-2 : goal.returns-in-Some-2
returns-in-Some-2 c = join_tables c.args.net.now _ _ c.in-Some.into c.in-Some-2.out_of c.in-Some.is c.in-Some-2.is c.in_ok-joined_table.ensures c.in_ok-joined_table-in-Some.ensures
