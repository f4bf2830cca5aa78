-- Private: only contracts of this crate cite it. The first units of the sorts that a net has once, and what they tell of a unit.
use Rattle.std.specs.Prelude.{◌≡◌, ℕ, ◌<◌, ◌||◌, nat_lt, nat_le, Bool, true, false, Option, Some, None, is_some, List, length, get_or}
use Rattle.std.specs.List.{All}
use Rattle.net_types.specs.declared.net.Net.{Net}
use Rattle.net_types.specs.declared.net.Unit.{Unit as Kind}
use Rattle.net_types.specs.declared.net.Unit.TheVariants.{Entry, Param, Const, Op1, Op2, Select, Fork, Mux, Cmerge, Branch, Sink, Read, Lsq, Exit}
use Rattle.net_check.specs.Headers.{is_entry, is_exit, is_param, is_queue}
use Rattle.net_check.specs.private.Firsts.{IsFirst}

-- these are the first Entry and Exit, the first Param of each scalar and the first queue of each array
pub record IsTallied (net : Net) (e x : Option ℕ) (ps qs : List (Option ℕ)) : Type 0 where
  pub entry : IsFirst is_entry net.units (length net.units) e
  pub exit : IsFirst is_exit net.units (length net.units) x
  pub params_len : length ps ≡ length net.scalars
  pub params : (j : ℕ) → j < length net.scalars → IsFirst (is_param j) net.units (length net.units) (get_or ps j None)
  pub queues_len : length qs ≡ length net.arrays
  pub queues : (a : ℕ) → a < length net.arrays → IsFirst (is_queue a) net.units (length net.units) (get_or qs a None)

-- the first stands before the unit u
abbrev pub is_second : Option ℕ → ℕ → Bool
is_second None u = false
is_second (Some f) u = nat_lt f u

-- the table lacks the number, or its unit stands before the unit u
abbrev pub is_second_at : List (Option ℕ) → ℕ → ℕ → Bool
is_second_at table number u = nat_le (length table) number || is_second (get_or table number None) u

-- the table lacks the number, or has a unit there
abbrev pub is_taken : List (Option ℕ) → ℕ → Bool
is_taken table number = nat_le (length table) number || is_some (get_or table number None)

-- what the firsts tell of the unit u
abbrev pub is_faulty : Option ℕ → Option ℕ → List (Option ℕ) → List (Option ℕ) → ℕ → Kind → Bool
is_faulty entry exit params queues u Entry = is_second entry u
is_faulty entry exit params queues u (Param j) = is_second_at params j u
is_faulty entry exit params queues u (Const w n) = false
is_faulty entry exit params queues u (Op1 op) = false
is_faulty entry exit params queues u (Op2 op) = false
is_faulty entry exit params queues u (Select w) = false
is_faulty entry exit params queues u (Fork w n) = false
is_faulty entry exit params queues u (Mux w n) = false
is_faulty entry exit params queues u (Cmerge n) = false
is_faulty entry exit params queues u (Branch w) = false
is_faulty entry exit params queues u (Sink w) = false
is_faulty entry exit params queues u (Read a) = is_taken queues a
is_faulty entry exit params queues u (Lsq a d ps gs f) = is_second_at queues a u
is_faulty entry exit params queues u Exit = is_second exit u

-- there are an Entry and an Exit, and a Param of each scalar
pub record IsComplete (e x : Option ℕ) (ps : List (Option ℕ)) : Type 0 where
  pub entry : is_some e ≡ true
  pub exit : is_some x ≡ true
  pub params : All (λ p. is_some p ≡ true) ps
