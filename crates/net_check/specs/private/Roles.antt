-- Private: only contracts of this crate cite it. The scalars that Params put and the arrays that queues work on.
use Rattle.std.specs.Prelude.{ℕ, ◌<◌, ◌&&◌, Bool, cond, Option, Some, None, is_none, List, length, get_or, slice_set, nat_lt}
use Rattle.net_types.specs.declared.net.Unit.{Unit as Kind}
use Rattle.net_types.specs.declared.net.Unit.TheVariants.{Param as KindParam, Lsq}
use Rattle.net_check.specs.declared.firsts.Role.{Role}
use Rattle.net_check.specs.declared.firsts.Role.TheVariants.{Param, Queue}
use Rattle.net_check.specs.Headers.{is_param, is_queue}
use Rattle.net_check.specs.private.Firsts.{IsFirst}

-- the scalar that a Param puts
abbrev pub param_number : Kind → Option ℕ
param_number (KindParam j) = Some j
param_number _ = None

-- the array of a queue
abbrev pub queue_number : Kind → Option ℕ
queue_number (Lsq a d ps gs f) = Some a
queue_number _ = None

abbrev pub number_of : Role → Kind → Option ℕ
number_of Param k = param_number k
number_of Queue k = queue_number k

abbrev pub is_of : Role → ℕ → Kind → Bool
is_of Param p k = is_param p k
is_of Queue p k = is_queue p k

-- the first unit of the role for each number below the count
abbrev pub AreFirsts : Role → List Kind → ℕ → List (Option ℕ) → Type 0
AreFirsts role units count table = (p : ℕ) → p < count → IsFirst (is_of role p) units (length units) (get_or table p None)

-- the table with the unit at this number, where the table has the number and no unit there
abbrev pub noted : List (Option ℕ) → ℕ → ℕ → List (Option ℕ)
noted table number unit = cond (nat_lt number (length table) && is_none (get_or table number None)) (slice_set table number (Some unit)) table

abbrev pub noted_if : List (Option ℕ) → Option ℕ → ℕ → List (Option ℕ)
noted_if table None unit = table
noted_if table (Some number) unit = noted table number unit
