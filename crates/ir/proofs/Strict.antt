-- What no well formed graph has.
use Rattle.std.proofs.Common.{◌≡◌, ℕ, Option, Some, None, refl, sym, ◌∙◌}
use Rattle.ir.specs.Strictness.{StoresHaveNoWidth, NoTargetIsTheEntry, ConditionsHave32Bits}
use Rattle.ir.proofs.Fitting.{behind}

none_is_no_width : (n : Option ℕ) (w : ℕ) → n ≡ None → Some n ≡ Some (Some w) → ⊥
none_is_no_width n w h e = absurd (cc)

pub stores_have_no_width : StoresHaveNoWidth
stores_have_no_width arrays ws a p v w h = none_is_no_width None w refl (sym (behind ws None) ∙ h)

pub no_target_is_the_entry : NoTargetIsTheEntry
no_target_is_the_entry blocks ws to h = h.no_entry

pub conditions_have_32_bits : ConditionsHave32Bits
conditions_have_32_bits g ws c yes_part no_part h = h.0
