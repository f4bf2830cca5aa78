use Rattle.kernel_compile.proofs.Circuits.{marked_few, marked_numbered, marked_rules, placed_numbered, circuit_checked, circuit_kept}
use Rattle.kernel_compile.proofs.compiling.circuit.Goals as goal

pub place-requires-clause-numbered : goal.place-requires-clause-numbered
place-requires-clause-numbered c =
    marked_numbered c.args.typed.now c.in_ok-net.net c.requires.lawful c.requires.few c.in_ok-net.ensures c.marks_keep_rules.ensures.untimed c.args.forward c.mark_if.new.net c.mark_if.ensures

pub place-requires-clause-wired : goal.place-requires-clause-wired
place-requires-clause-wired c =
    (marked_rules c.args.typed.now c.in_ok-net.net c.requires.lawful c.requires.few c.in_ok-net.ensures c.marks_keep_rules.ensures.untimed c.args.forward c.mark_if.new.net c.mark_if.ensures).c1

pub place-requires-clause-few : goal.place-requires-clause-few
place-requires-clause-few c =
    marked_few c.args.typed.now c.in_ok-net.net c.requires.lawful c.requires.few c.in_ok-net.ensures c.marks_keep_rules.ensures.untimed c.args.forward c.mark_if.new.net c.mark_if.ensures

pub checked-requires-clause-numbered : goal.checked-requires-clause-numbered
checked-requires-clause-numbered c =
    placed_numbered c.args.typed.now c.in_ok-net.net c.requires.lawful c.requires.few c.in_ok-net.ensures c.marks_keep_rules.ensures.untimed c.args.forward c.mark_if.new.net c.mark_if.ensures
    c.all_rules_make_a_checked_net.ensures.checked c.slots_and_delays_break_two_rules.ensures.other c.args.timing c.place.new.net c.in_ok-place.ensures.placed c.in_ok-place.ensures.sized c.in_ok-place.ensures.delayed

pub checked-requires-clause-checked : goal.checked-requires-clause-checked
checked-requires-clause-checked c =
    circuit_checked c.args.typed.now c.in_ok-net.net c.requires.lawful c.requires.few c.in_ok-net.ensures c.marks_keep_rules.ensures.untimed c.args.forward c.mark_if.new.net c.mark_if.ensures
    c.all_rules_make_a_checked_net.ensures.checked c.slots_and_delays_break_two_rules.ensures.other c.args.timing c.place.new.net c.in_ok-place.ensures.placed c.in_ok-place.ensures.sized c.in_ok-place.ensures.delayed

pub returns : goal.returns
returns c =
    circuit_kept c.args.typed.now c.in_ok-net.net c.requires.lawful c.requires.few c.in_ok-net.ensures c.marks_keep_rules.ensures.untimed c.args.forward c.mark_if.new.net c.mark_if.ensures
    c.all_rules_make_a_checked_net.ensures.checked c.slots_and_delays_break_two_rules.ensures.other c.args.timing c.place.new.net c.in_ok-place.ensures.placed c.in_ok-place.ensures.sized c.in_ok-place.ensures.delayed
    c.checked.result c.kernel_nets_are_good.ensures c.queues_have_the_mark.ensures c.checked.ensures
