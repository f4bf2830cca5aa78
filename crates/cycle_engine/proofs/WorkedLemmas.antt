-- The worked net by cycles.
use Rattle.std.proofs.Common.{List, [], ◌∷◌, refl, arith}
use Rattle.net_types.specs.declared.firing.Firing.{Firing}
use Rattle.net_types.specs.declared.net.Net.{Net}
use Rattle.word_ops.specs.Operations.{op2_result, op2_on}
use Rattle.net_core.specs.Fire.{row}
use Rattle.net_core.specs.Worked.{straight, straight_inputs, straight_firings}
use Rattle.net_core.proofs.AtRestTests.{tests_at_rest}
use Rattle.cycle_engine.specs.Cycles.{Dated, after_in, dated_opening}
use Rattle.cycle_engine.specs.Worked.{StraightCycles}

-- the state after all firings in the cycle 0
abbrev all_after : Net → Dated → List Firing → Dated
all_after net s [] = s
all_after net s (f ∷ fs) = all_after net (after_in net 0 s f) fs

abbrev end : Dated
end = all_after straight (dated_opening straight straight_inputs) straight_firings

pub straight_cycles : StraightCycles
unfolding row op2_result op2_on
straight_cycles = record {
  to = end;
  cycles = (
    end,
    record {
      makes = (
        record { turn = omega arith; ripe = tt; room = omega arith; depth = tt },
        tt,
        (
          record { turn = omega arith; ripe = tt; room = omega arith; depth = tt },
          tt,
          (
            record { turn = omega arith; ripe = tt; room = omega arith; depth = tt },
            tt,
            (
              record { turn = omega arith; ripe = (omega arith, tt); room = omega arith; depth = tt },
              tt,
              (
                record { turn = omega arith; ripe = (omega arith, tt); room = omega arith; depth = tt },
                tt,
                (
                  record { turn = omega arith; ripe = (omega arith, tt); room = omega arith; depth = tt },
                  tt,
                  (
                    record { turn = omega arith; ripe = (omega arith, (omega arith, tt)); room = omega arith; depth = tt },
                    tt,
                    (
                      record { turn = omega arith; ripe = (omega arith, (omega arith, tt)); room = omega arith; depth = tt },
                      tt,
                      (
                        record { turn = tt; ripe = (omega arith, (omega arith, tt)); room = tt; depth = tt },
                        tt,
                        refl,
                      ),
                    ),
                  ),
                ),
              ),
            ),
          ),
        ),
      );
      once = (((λ e. cc), ((λ e. cc), ((λ e. cc), ((λ e. cc), ((λ e. cc), ((λ e. cc), ((λ e. cc), ((λ e. cc), tt)))))))), (((λ e. cc), ((λ e. cc), ((λ e. cc), ((λ e. cc), ((λ e. cc), ((λ e. cc), ((λ e. cc), tt))))))), (((λ e. cc), ((λ e. cc), ((λ e. cc), ((λ e. cc), ((λ e. cc), ((λ e. cc), tt)))))), (((λ e. cc), ((λ e. cc), ((λ e. cc), ((λ e. cc), ((λ e. cc), tt))))), (((λ e. cc), ((λ e. cc), ((λ e. cc), ((λ e. cc), tt)))), (((λ e. cc), ((λ e. cc), ((λ e. cc), tt))), (((λ e. cc), ((λ e. cc), tt)), (((λ e. cc), tt), (tt, tt)))))))));
      order = (((λ e. omega arith), ((λ e. omega arith), ((λ e. omega arith), ((λ e. omega arith), ((λ e. omega arith), ((λ e. omega arith), ((λ e. omega arith), ((λ e. omega arith), tt)))))))), (((λ e. omega arith), ((λ e. omega arith), ((λ e. omega arith), ((λ e. omega arith), ((λ e. omega arith), ((λ e. omega arith), ((λ e. omega arith), tt))))))), (((λ e. omega arith), ((λ e. omega arith), ((λ e. omega arith), ((λ e. omega arith), ((λ e. omega arith), ((λ e. omega arith), tt)))))), (((λ e. omega arith), ((λ e. omega arith), ((λ e. omega arith), ((λ e. omega arith), ((λ e. omega arith), tt))))), (((λ e. omega arith), ((λ e. omega arith), ((λ e. omega arith), ((λ e. omega arith), tt)))), (((λ e. omega arith), ((λ e. omega arith), ((λ e. omega arith), tt))), (((λ e. omega arith), ((λ e. omega arith), tt)), (((λ e. omega arith), tt), (tt, tt)))))))));
      full = λ f unused m. tests_at_rest straight end.state refl refl refl f m.turn;
    },
    refl,
  );
  took = refl;
}
