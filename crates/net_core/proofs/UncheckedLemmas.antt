-- What the nets that break a rule do.
use Rattle.std.proofs.Common.{◌≡◌, None, List, [], ◌∷◌, refl, arith}
use Rattle.net_types.specs.declared.net.Net.{Net}
use Rattle.net_types.specs.declared.firing.Act.{Act}
use Rattle.net_types.specs.declared.firing.Act.TheVariants.{Go}
use Rattle.net_types.specs.declared.firing.Firing.{Firing}
use Rattle.net_types.specs.declared.firing.Inputs.{Inputs}
use Rattle.net_types.specs.Nets.{firing}
use Rattle.word_ops.specs.Operations.{op1_result, op1_on}
use Rattle.net_core.specs.Fire.{State, row, effect}
use Rattle.net_core.specs.Runs.{opening}
use Rattle.net_core.specs.Unchecked.{LawsNeedRules, no_inputs, two_entries, first_wins, second_wins, two_ways, one_scalar, short_way, long_way, early_exit, store_inputs, until_exit, store_then}
use Rattle.net_core.proofs.AtRestTests.{waits_at_rest}
use Rattle.net_core.proofs.WorkedLemmas.{all_after}

-- the state after a run
abbrev ended : Net → Inputs → List Firing → State
ended net inputs fs = all_after net (opening net inputs) fs

pub laws_need_rules : LawsNeedRules
unfolding row op1_result op1_on
laws_need_rules = record {
  entries = record {
    count = refl;
    state = ended two_entries no_inputs (firing 0 Go ∷ firing 1 Go ∷ []);
    run = (omega arith, (omega arith, refl));
    first = omega arith;
    second = omega arith;
    not_after = λ h. absurd (omega arith);
    leaves_one = record {
      to = ended two_entries no_inputs first_wins;
      run = (omega arith, (omega arith, (omega arith, (tt, (omega arith, refl)))));
      rests = waits_at_rest two_entries (ended two_entries no_inputs first_wins) 3 (record { long = refl; tokens = refl; entries = refl; started = refl; stuck = after_first });
      left = refl;
    };
    leaves_zero = record {
      to = ended two_entries no_inputs second_wins;
      run = (omega arith, (omega arith, (omega arith, (tt, (omega arith, refl)))));
      rests = waits_at_rest two_entries (ended two_entries no_inputs second_wins) 3 (record { long = refl; tokens = refl; entries = refl; started = refl; stuck = after_second });
      left = refl;
    };
  };
  ways = record {
    short = record {
      to = ended two_ways one_scalar short_way;
      run = (omega arith, (omega arith, (omega arith, (omega arith, (omega arith, (tt, (omega arith, refl)))))));
      rests = waits_at_rest two_ways (ended two_ways one_scalar short_way) 4 (record { long = refl; tokens = refl; entries = refl; started = refl; stuck = after_short });
      left = refl;
    };
    long = record {
      to = ended two_ways one_scalar long_way;
      run = (omega arith, (omega arith, (omega arith, (omega arith, (omega arith, (omega arith, (tt, (omega arith, refl))))))));
      rests = waits_at_rest two_ways (ended two_ways one_scalar long_way) 4 (record { long = refl; tokens = refl; entries = refl; started = refl; stuck = after_long });
      left = refl;
    };
    short_firings = refl;
    long_firings = refl;
  };
  exit = record {
    state = ended early_exit store_inputs until_exit;
    run = (omega arith, (omega arith, (tt, refl)));
    fired = refl;
    before = refl;
    later = all_after early_exit (ended early_exit store_inputs until_exit) store_then;
    leads = (omega arith, (omega arith, (omega arith, (tt, (omega arith, (tt, (tt, refl)))))));
    after = refl;
  };
}
  where
    after_first : (act : Act) → effect two_entries (ended two_entries no_inputs first_wins) (firing 3 act) ≡ None
    after_first Go = refl
    after_first _ = refl

    after_second : (act : Act) → effect two_entries (ended two_entries no_inputs second_wins) (firing 3 act) ≡ None
    after_second Go = refl
    after_second _ = refl

    after_short : (act : Act) → effect two_ways (ended two_ways one_scalar short_way) (firing 4 act) ≡ None
    after_short Go = refl
    after_short _ = refl

    after_long : (act : Act) → effect two_ways (ended two_ways one_scalar long_way) (firing 4 act) ≡ None
    after_long Go = refl
    after_long _ = refl
