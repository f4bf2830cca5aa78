use Rattle.std.proofs.Common.{subst}
use Rattle.kernel_bench.proofs.Reading.{IsWant, only_memory, typed_is}
use Rattle.kernel_bench.proofs.bench.compiled.Goals as goal

pub unreachable-requires : goal.unreachable-requires
unreachable-requires c = subst IsWant c.in-Err-Lex.field-0-is (only_memory c.kernel_is_read.ensures c.in-Err-Lex.field-0 c.in-Err-Lex.ensures.as_read)

pub unreachable-requires-in-Err-Parse : goal.unreachable-requires-in-Err-Parse
unreachable-requires-in-Err-Parse c = subst IsWant c.in-Err-Parse.field-0-is (only_memory c.kernel_is_read.ensures c.in-Err-Parse.field-0 c.in-Err-Parse.ensures.as_read)

pub unreachable-requires-in-Err-Types : goal.unreachable-requires-in-Err-Types
unreachable-requires-in-Err-Types c = subst IsWant c.in-Err-Types.field-0-is (only_memory c.kernel_is_read.ensures c.in-Err-Types.field-0 c.in-Err-Types.ensures.as_read)

pub unreachable-requires-in-Err-Inline : goal.unreachable-requires-in-Err-Inline
unreachable-requires-in-Err-Inline c = subst IsWant c.in-Err-Inline.field-0-is (only_memory c.kernel_is_read.ensures c.in-Err-Inline.field-0 c.in-Err-Inline.ensures.as_read)

pub returns-in-Ok-clause-typed : goal.returns-in-Ok-clause-typed
returns-in-Ok-clause-typed c = typed_is c.kernel_is_read.ensures c.in-Ok.compiled c.in-Ok.ensures.as_read
