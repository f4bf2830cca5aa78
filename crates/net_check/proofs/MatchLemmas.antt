-- Rule C2 from the widths that are found.
use Rattle.std.proofs.Common.{◌≡◌, ◌↔◌, ℕ, Bool, true, false, IsTrue, Option, Some, sym, ◌∙◌}
use Rattle.net_types.specs.declared.net.Net.{Net}
use Rattle.net_types.specs.declared.net.Chan.{Chan}
use Rattle.net_types.specs.Nets.{kind_of}
use Rattle.net_types.specs.Tables.{ins, outs}
use Rattle.net_types.specs.Rules.{IsOfWidth}
use Rattle.net_check.specs.private.Widths.{width_in}
use Rattle.net_check.proofs.MarkLemmas.{no-true, false_iff, true_iff}
use Rattle.net_check.proofs.RowLemmas.{width-has, has-width, rises-in, rises-out}

pub of_width : (net : Net) (c : Chan) → width_in (outs net false (kind_of net c.from.unit)) c.from.place ≡ Some c.width → width_in (ins net false (kind_of net c.to.unit)) c.to.place ≡ Some c.width → IsOfWidth net c
of_width net c f t = record { source = width-has _ _ _ f; target = width-has _ _ _ t }

pub source_width : (net : Net) (c : Chan) → IsOfWidth net c → width_in (outs net false (kind_of net c.from.unit)) c.from.place ≡ Some c.width
source_width net c w = has-width 0 _ _ _ (rises-out net (kind_of net c.from.unit)) w.source

pub target_width : (net : Net) (c : Chan) → IsOfWidth net c → width_in (ins net false (kind_of net c.to.unit)) c.to.place ≡ Some c.width
target_width net c w = has-width 0 _ _ _ (rises-in net (kind_of net c.to.unit)) w.target

pub no_source : (net : Net) (c : Chan) (o : Option ℕ) (b : Bool) → o ≡ width_in (outs net false (kind_of net c.from.unit)) c.from.place → (IsTrue b ↔ (o ≡ Some c.width)) → b ≡ false → IsTrue false ↔ IsOfWidth net c
no_source net c o b e d f = no-true _ (λ w. false_iff b (o ≡ Some c.width) d f (e ∙ source_width net c w))

pub target_decides : (net : Net) (c : Chan) (o p : Option ℕ) (b d : Bool) → o ≡ width_in (outs net false (kind_of net c.from.unit)) c.from.place → (IsTrue b ↔ (o ≡ Some c.width)) → b ≡ true
    → p ≡ width_in (ins net false (kind_of net c.to.unit)) c.to.place → (IsTrue d ↔ (p ≡ Some c.width)) → IsTrue d ↔ IsOfWidth net c
target_decides net c o p b d e i t f j =
    (λ x. of_width net c (sym e ∙ true_iff b (o ≡ Some c.width) i t) (sym f ∙ j.0 x), λ w. j.1 (f ∙ target_width net c w))
