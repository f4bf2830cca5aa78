-- A fact of one of two values, whichever is taken.
use Rattle.std.specs.Prelude.{Bool, true, false, cond}

pub record Has {A : Type 0} (P : A → Type 0) (a : A) : Type 0 where
  pub is : P a

pub has : {A : Type 0} {P : A → Type 0} (a : A) → P a → Has P a
has a h = record { is = h }

pub has_if : {A : Type 0} {P : A → Type 0} (b : Bool) (x y : A) → Has P x → Has P y → Has P (cond b x y)
has_if true x y one other = one
has_if false x y one other = other
