-- Which store of a kernel is seen among the values of a block, and what laid steps make of it.
use Rattle.std.specs.Prelude.{◌≡◌, ℕ, ◌++◌, ◌<◌, List, length, get_or, ℤ, Some, None}
use Rattle.el_base.specs.declared.ty.Ty.{Ty}
use Rattle.el_base.specs.declared.ty.Ty.TheVariants.{I32}
use Rattle.el_base.specs.Numbers.{pattern}
use Rattle.ir.specs.Steps.{Work, value_at, through}
use Rattle.c_meaning.specs.Stores.{Store, Objects, IsFitting}
use Rattle.c_meaning.specs.KernelPatterns.{array_patterns}
use Rattle.struct_cfg.specs.Layings.{Laid}

-- a value by its number
pub record IsValue (w : Work) (v p : ℕ) : Type 0 where
  pub below : v < length w.values
  pub is : value_at w.values v ≡ p

abbrev pub type_of : Objects → ℕ → Ty
type_of k x = get_or k.vars x I32

-- each variable that is set has the pattern of its number, and the arrays are those of the store; of an unset variable nothing is said
pub record Sees (k : Objects) (env : List ℕ) (w : Work) (s : Store) : Type 0 where
  pub each : (x : ℕ) (z : ℤ) → get_or s.vars x None ≡ Some z → IsValue w (get_or env x 0) (pattern (type_of k x) z)
  pub arrays : w.arrays ≡ array_patterns k.arrays s.arrays
  pub fitting : IsFitting k s
  pub clean : w.strays ≡ 0

-- values are added, and nothing else is changed
pub record Adds (w u : Work) : Type 0 where
  pub grown : List ℕ
  pub values : u.values ≡ w.values ++ grown
  pub arrays : u.arrays ≡ w.arrays
  pub strays : u.strays ≡ w.strays

-- what is laid adds values, of which one is p
pub record Makes (w : Work) (l : Laid) (p : ℕ) : Type 0 where
  pub adds : Adds w (through l.steps w)
  pub is : IsValue (through l.steps w) l.value p
