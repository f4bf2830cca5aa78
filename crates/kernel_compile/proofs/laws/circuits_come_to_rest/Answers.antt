use Rattle.kernel_compile.proofs.Joined.{circuits_rest}
use Rattle.kernel_compile.proofs.laws.circuits_come_to_rest.Goals as goal

pub returns : goal.returns
returns c =
    circuits_rest c.completion.ensures c.more_slots.ensures.one_slot c.more_slots.ensures.rest c.inputs_are_patterns.ensures.fit c.marks_allow_runs.ensures.runs c.marks_allow_runs.ensures.ends
    c.spent_is_at_rest.ensures
