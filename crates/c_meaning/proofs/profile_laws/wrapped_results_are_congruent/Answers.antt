use Rattle.std.proofs.Common.{◌≡◌, ℕ, ◌^◌, Option, Some, None, refl, ◌∙◌}
use Rattle.std.specs.Prelude.{Bool, true, false, ℤ, pos, ◌*ℤ◌, neg_ℤ, ◌+ℤ◌, ◌-ℤ◌, nat_lt, if◌then◌else◌, option_and_then}
use Rattle.std.proofs.lemmas.Bool.Decides.{Decides-ltb}
use Rattle.el_base.specs.declared.ty.Ty.{Ty}
use Rattle.el_base.specs.Widths.{ty_width, ty_signed}
use Rattle.c_meaning.specs.declared.profile.Profile.TheVariants.{Wrap}
use Rattle.c_meaning.specs.Types.{conv, fit}
use Rattle.c_meaning.specs.Operators.{left_shift}
use Rattle.c_meaning.proofs.profile_laws.wrapped_results_are_congruent.Goals as goal

either_way : (o : Option ℤ) (b : Bool) → (if b then o else o) ≡ o
either_way o true = refl
either_way o false = refl

fits : (t : Ty) (z : ℤ) → fit Wrap t z ≡ Some (conv t z)
fits t z = either_way (Some (conv t z)) (ty_signed t)

amounts : (g : ℕ → Option ℤ) (k : ℕ) (b : Bool) → b ≡ true → option_and_then g (if b then Some k else None) ≡ g k
amounts g k true e = refl
amounts g k false e = cc

pub returns : goal.returns
returns c = record {
  sums = λ t x y. fits t (x +ℤ y);
  differences = λ t x y. fits t (x -ℤ y);
  products = λ t x y. fits t (x *ℤ y);
  negatives = λ t x. fits t (neg_ℤ x);
  shifts = λ t x k l. amounts (left_shift Wrap t x) k (nat_lt k (ty_width t)) ((Decides-ltb k (ty_width t)).1 l) ∙ fits t (x *ℤ pos (2 ^ k));
}
