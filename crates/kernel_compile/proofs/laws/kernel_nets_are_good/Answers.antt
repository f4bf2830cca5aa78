use Rattle.kernel_compile.proofs.Joined.{kernel_nets_good}
use Rattle.kernel_compile.proofs.laws.kernel_nets_are_good.Goals as goal

pub returns : goal.returns
returns c =
    kernel_nets_good c.completion.ensures c.more_slots.ensures.one_slot c.more_slots.ensures.rest c.inputs_are_patterns.ensures.fit c.marks_allow_runs.ensures.runs c.marks_allow_runs.ensures.ends
    c.spent_is_at_rest.ensures
