-- A placed net keeps all rules.
use Rattle.std.proofs.Common.{◌≡◌, length, map, ap, subst, sym, arith}
use Rattle.std.proofs.lemmas.List.Elements.{All-from_recursion}
use Rattle.std.proofs.lemmas.List.{length-map}
use Rattle.el_base.specs.Limits.{IsNumbered}
use Rattle.net_types.specs.declared.net.Net.{Net}
use Rattle.net_types.specs.Numbered.{AreNumbered}
use Rattle.net_check.specs.Checks.{IsChecked}
use Rattle.net_check.specs.Cycles.{KeepsC4}
use Rattle.net_check.specs.Keeps.{Keeps, keeps_c1, keeps_c2, keeps_c3, keeps_c4, keeps_c5, keeps_c6, keeps_c7, keeps_c8, rules_in_order}
use Rattle.net_check.specs.Laws.{AllRulesCheck, TimesBreakTwoRules}
use Rattle.net_check.specs.Retimed.{untimed, SamePlain}
use Rattle.net_check.specs.Sizes.{KeepsC3}
use Rattle.circuit_build.specs.Kept.{KeepsRules}

-- units and channels are as many
pub numbered_too : (net net2 : Net) → SamePlain net net2 → AreNumbered net → AreNumbered net2
numbered_too net net2 same h =
    let u : length net2.units ≡ length net.units = ap (λ (n : Net). length n.units) same in
    let c : length (map untimed net2.chans) ≡ length (map untimed net.chans) = ap (λ (n : Net). length n.chans) same in
    record {
      units = subst IsNumbered (sym u) h.units;
      chans = (let m = h.chans in omega (arith, length-map net2.chans untimed, length-map net.chans untimed));
    }

pub placed_checked : AllRulesCheck → TimesBreakTwoRules → (net net2 : Net) → KeepsRules net → SamePlain net net2 → KeepsC3 net2 → KeepsC4 net2 → AreNumbered net → IsChecked net2
placed_checked all times net net2 rules same c3 c4 numbered =
    let t = times net net2 same in
    all net2 (numbered_too net net2 same numbered) (All-from_recursion (Keeps net2) rules_in_order (
      keeps_c8 (t.c8 rules.c8),
      (
        keeps_c7 (t.c7 rules.c7),
        (
          keeps_c1 (t.c1 rules.c1),
          (
            keeps_c2 (t.c2 rules.c2),
            (keeps_c3 c3, (keeps_c4 c4, (keeps_c5 (t.c5 rules.c5), (keeps_c6 (t.c6 rules.c6), tt)))),
          ),
        ),
      ),
    ))
