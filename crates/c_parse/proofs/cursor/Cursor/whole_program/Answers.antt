use Rattle.std.proofs.Common.{rules}
use Rattle.c_parse.proofs.Rules.{no_items, some_items}
use Rattle.c_parse.proofs.Chains.{stopped}
use Rattle.c_parse.proofs.JudgedPrograms.{program_read, program_whole, program_kernel_stops, program_goes_on, program_ends}
use Rattle.c_parse.proofs.cursor.Cursor.whole_program.Goals as goal

pub returns-in_err-kernel-clause-told : goal.returns-in_err-kernel-clause-told
returns-in_err-kernel-clause-told c =
    rw (stopped _ _ c.from_residual-in_err-kernel.ensures.1) (program_kernel_stops c.args.self.now.rest.now c.helpers.new.self.rest.now _ c.in_ok-helpers.ensures.judged c.in_ok-helpers.ensures.behind c.in_err-kernel.ensures.judged)

pub returns-then-not-is_empty-clause-told : goal.returns-then-not-is_empty-clause-told
returns-then-not-is_empty-clause-told c =
    rw c.refusal.ensures (program_goes_on c.args.self.now.rest.now c.kernel.new.self.rest.now (program_whole c.args.self.now.rest.now c.helpers.new.self.rest.now c.kernel.new.self.rest.now c.in_ok-helpers.ensures.judged c.in_ok-helpers.ensures.behind c.in_ok-kernel.ensures.judged)
    (some_items _ (search rules)))

pub returns-clause-derived : goal.returns-clause-derived
returns-clause-derived c = program_read _ _ _ _ c.kernel.new.self.rest.now c.in_ok-helpers.ensures.derived c.in_ok-kernel.ensures.derived (no_items _ (search rules))

pub returns-clause-whole : goal.returns-clause-whole
returns-clause-whole c =
    program_ends c.args.self.now.rest.now c.kernel.new.self.rest.now (program_whole c.args.self.now.rest.now c.helpers.new.self.rest.now c.kernel.new.self.rest.now c.in_ok-helpers.ensures.judged c.in_ok-helpers.ensures.behind c.in_ok-kernel.ensures.judged)
    (no_items _ (search rules))
