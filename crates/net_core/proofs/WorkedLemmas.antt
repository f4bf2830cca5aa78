-- The worked nets run to rest.
use Rattle.std.proofs.Common.{true, false, List, [], ◌∷◌, refl, arith}
use Rattle.net_types.specs.declared.firing.Firing.{Firing}
use Rattle.net_types.specs.declared.net.Net.{Net}
use Rattle.word_ops.specs.Operations.{op2_result, op2_on}
use Rattle.net_core.specs.Fire.{State, row, after}
use Rattle.net_core.specs.Runs.{opening}
use Rattle.net_core.proofs.AtRestTests.{tests_at_rest}
use Rattle.net_core.specs.Worked.{WorkedNetsRun, straight, straight_inputs, straight_firings, queued, queued_inputs, load_first, given_on}

-- the state after all firings
abbrev pub all_after : Net → State → List Firing → State
all_after net s [] = s
all_after net s (f ∷ fs) = all_after net (after net s f) fs

pub worked_nets_run : WorkedNetsRun
unfolding row op2_result op2_on
worked_nets_run = record {
  straight_run = record {
    to = all_after straight (opening straight straight_inputs) straight_firings;
    run = (omega arith, (omega arith, (omega arith, (omega arith, (omega arith, (omega arith, (omega arith, (omega arith, (tt, refl)))))))));
    rests = tests_at_rest straight (all_after straight (opening straight straight_inputs) straight_firings) refl refl refl;
    fired = refl;
    took = refl;
    holds = refl;
    counts = refl;
  };
  early_load = record {
    to = all_after (queued false) (opening (queued false) (queued_inputs 5 3)) load_first;
    run = (omega arith, (omega arith, (omega arith, (tt, (omega arith, (tt, (tt, (omega arith, (tt, (tt, (tt, (omega arith, (tt, (omega arith, (tt, refl)))))))))))))));
    rests = tests_at_rest (queued false) (all_after (queued false) (opening (queued false) (queued_inputs 5 3)) load_first) refl refl refl;
    fired = refl;
    took = refl;
    holds = refl;
    counts = refl;
  };
  forwarded = record {
    to = all_after (queued true) (opening (queued true) (queued_inputs 3 3)) given_on;
    run = (omega arith, (omega arith, (omega arith, (tt, (omega arith, (tt, (omega arith, (tt, (tt, (omega arith, (tt, (tt, (tt, (omega arith, (tt, refl)))))))))))))));
    rests = tests_at_rest (queued true) (all_after (queued true) (opening (queued true) (queued_inputs 3 3)) given_on) refl refl refl;
    fired = refl;
    took = refl;
    holds = refl;
    counts = refl;
  };
  past = record {
    to = all_after (queued false) (opening (queued false) (queued_inputs 8 9)) load_first;
    run = (omega arith, (omega arith, (omega arith, (tt, (omega arith, (tt, (tt, (omega arith, (tt, (tt, (tt, (omega arith, (tt, (omega arith, (tt, refl)))))))))))))));
    rests = tests_at_rest (queued false) (all_after (queued false) (opening (queued false) (queued_inputs 8 9)) load_first) refl refl refl;
    fired = refl;
    took = refl;
    holds = refl;
    counts = refl;
  };
}
