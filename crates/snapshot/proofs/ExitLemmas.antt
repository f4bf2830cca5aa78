-- The result after a unit has fired fits.
use Rattle.std.proofs.Common.{◌≡◌, ◌⊎◌, ℕ, ◌<◌, ◌^◌, ◌&&◌, Bool, true, false, cond, is_some, Option, Some, None, List, [], length, get_or, set, refl, sym, ap, subst, ◌∙◌, inl, inr, get_or-set_same, get_or-set_other}
use Rattle.std.proofs.lemmas.Bool.{cases_eq, false≢true}
use Rattle.std.proofs.lemmas.Nat.{pow_pos}
use Rattle.el_base.specs.declared.ty.Ty.{Ty}
use Rattle.el_base.specs.Widths.{ty_width}
use Rattle.net_types.specs.declared.net.Net.{Net}
use Rattle.net_types.specs.declared.net.Unit.{Unit as Kind}
use Rattle.net_types.specs.declared.net.Unit.TheVariants.{Exit}
use Rattle.net_types.specs.Nets.{kind_of}
use Rattle.net_check.specs.Checks.{IsChecked}
use Rattle.net_check.specs.Headers.{is_exit}
use Rattle.snapshot.specs.declared.saved.Saved.{Saved}
use Rattle.snapshot.specs.Fits.{ValueFits}
use Rattle.snapshot.specs.Refusals.{MaySave}
use Rattle.snapshot.specs.private.Words.{value_after}
use Rattle.snapshot.proofs.Stages2.{exit_is}

exit_value : (o : Option Ty) (b : Bool) (v : Option ℕ) → ValueFits o b v → ValueFits o true (cond (true && is_some o) (Some 0) v)
exit_value None b v f = f
exit_value (Some ty) b v f = pow_pos (ty_width ty)

pub after_fits : (net : Net) → IsChecked net → (d : Saved) → MaySave net d → (u : ℕ) (fl : List Bool) → u < length d.parts.fired → fl ≡ set d.parts.fired u true
    → (x : ℕ) → kind_of net x ≡ Exit → ValueFits net.result (get_or fl x false) (value_after net.result (kind_of net u) d.parts.value)
after_fits net checked d m u fl long new x is = by (cases_eq x u)
  where
    at : (k : Kind) → k ≡ Exit → ValueFits net.result (get_or d.parts.fired x false) d.parts.value → ValueFits net.result true (value_after net.result k d.parts.value)
    at k e f = subst (λ j. ValueFits net.result true (value_after net.result j d.parts.value)) (sym e) (exit_value net.result (get_or d.parts.fired x false) d.parts.value f)

    other : (k : Kind) → (is_exit k ≡ true → ⊥) → ValueFits net.result (get_or d.parts.fired x false) d.parts.value → ValueFits net.result (get_or d.parts.fired x false) (value_after net.result k d.parts.value)
    other Exit n f = absurd (n refl)
    other k n f = f

    by : (x ≡ u) ⊎ (x ≡ u → ⊥) → ValueFits net.result (get_or fl x false) (value_after net.result (kind_of net u) d.parts.value)
    by (inl e) =
        subst (λ b. ValueFits net.result b (value_after net.result (kind_of net u) d.parts.value)) (sym (ap (λ l. get_or l x false) new ∙ ap (λ i. get_or (set d.parts.fired u true) i false) e ∙ get_or-set_same d.parts.fired u true false long))
        (at (kind_of net u) (ap (kind_of net) (sym e) ∙ is) (m.fits.value x is))
    by (inr n) =
        subst (λ b. ValueFits net.result b (value_after net.result (kind_of net u) d.parts.value)) (sym (ap (λ l. get_or l x false) new ∙ get_or-set_other d.parts.fired u x true false n))
        (other (kind_of net u) (λ h. n (checked.one_exit.only x (ap is_exit is) ∙ sym (checked.one_exit.only u h))) (m.fits.value x is))
