-- The options of a command that is spelled are within their ranges.
use Rattle.std.proofs.Common.{◌≡◌, ◌≤◌, ◌<◌, ℕ, List, [], ◌∷◌, refl, arith, All}
use Rattle.std.specs.Prelude.{Option, Some, None, IfSome, true, find}
use Rattle.std.specs.Str.{bytes_eq}
use Rattle.std.proofs.lemmas.Bool.{cond_both, false≢true}
use Rattle.std.proofs.lemmas.List.Elements.{All-head, All-tail}
use Rattle.el_base.specs.Limits.{max_delay, max_firings, max_shared_firings, max_slots}
use Rattle.buffer_place.specs.Timings.{IsTiming}
use Rattle.net_runs.specs.Runs.{MayShare}
use Rattle.command_words.specs.declared.choice.Class.{Class}
use Rattle.command_words.specs.declared.choice.Class.TheVariants as class
use Rattle.command_words.specs.declared.choice.ClassDelay.{ClassDelay}
use Rattle.command_words.specs.declared.choice.TheConstants.{MAX_UNITS_IN_A_ROW}
use Rattle.command_words.specs.declared.choice.Choice.TheVariants.{At, Delay, Depth, Limit, Slots, Workers}
use Rattle.command_words.specs.declared.command.Chosen.{Chosen}
use Rattle.command_words.specs.Tables.{Text, kind_of, class_word, least_delay}
use Rattle.command_words.specs.Values.{IsNumber, AreDelays}
use Rattle.command_words.specs.Items.{given}
use Rattle.command_words.specs.Commands.{Asked, Command, IsValue}
use Rattle.elastic_top.specs.Options.{IsWithin, at_or, cycles_or, delay_or, is_of, limit_or, slots_or, timing_of}

-- ---- limits, workers and slots

limited : (texts : List Text) (value : Option ℕ) → IsValue (IsNumber (kind_of Limit)) texts value → limit_or value ≤ max_firings
limited [] None is = omega arith
limited [] (Some n) is = absurd is
limited (t ∷ []) None is = absurd is
limited (t ∷ []) (Some n) is = omega (arith, is.2)
limited (t ∷ u ∷ texts) value is = absurd is

saved_at : (texts : List Text) (value : Option ℕ) → IsValue (IsNumber (kind_of At)) texts value → at_or value ≤ max_firings
saved_at [] None is = omega arith
saved_at [] (Some n) is = absurd is
saved_at (t ∷ []) None is = absurd is
saved_at (t ∷ []) (Some n) is = is.2
saved_at (t ∷ u ∷ texts) value is = absurd is

-- workers who are asked for share out the limit
limit_shared : (value : Option ℕ) → ((n : ℕ) → value ≡ Some n → n ≤ max_shared_firings) → limit_or value ≤ max_shared_firings
limit_shared None few = omega arith
limit_shared (Some n) few = few n refl

some_limit : (texts : List Text) (value : Option ℕ) → IsValue (IsNumber (kind_of Limit)) texts value → 0 < limit_or value
some_limit [] None is = omega arith
some_limit [] (Some n) is = absurd is
some_limit (t ∷ []) None is = absurd is
some_limit (t ∷ []) (Some n) is = omega (arith, is.1)
some_limit (t ∷ u ∷ texts) value is = absurd is

shares : (texts : List Text) (value : Option ℕ) (limit : ℕ) → IsValue (IsNumber (kind_of Workers)) texts value → 0 < limit
    → ((w : ℕ) → value ≡ Some w → limit ≤ max_shared_firings) → IfSome value (MayShare limit)
shares texts None limit is some few = tt
shares [] (Some w) limit is some few = absurd is
shares (t ∷ []) (Some w) limit is some few = record { one = omega (arith, is.1); few = is.2; some = some; within = few w refl }
shares (t ∷ u ∷ texts) (Some w) limit is some few = absurd is

few_slots : (texts : List Text) (value : Option ℕ) → IsValue (IsNumber (kind_of Slots)) texts value → slots_or value ≤ max_slots
few_slots [] None is = omega arith
few_slots [] (Some n) is = absurd is
few_slots (t ∷ []) None is = absurd is
few_slots (t ∷ []) (Some n) is = omega (arith, is.2)
few_slots (t ∷ u ∷ texts) value is = absurd is

some_slots : (texts : List Text) (value : Option ℕ) → IsValue (IsNumber (kind_of Slots)) texts value → 0 < slots_or value
some_slots [] None is = omega arith
some_slots [] (Some n) is = absurd is
some_slots (t ∷ []) None is = absurd is
some_slots (t ∷ []) (Some n) is = omega (arith, is.1)
some_slots (t ∷ u ∷ texts) value is = absurd is

-- ---- depths

some_depth : (texts : List Text) (value : Option ℕ) → IsValue (IsNumber (kind_of Depth)) texts value → (n : ℕ) → value ≡ Some n → (0 < n) × (n ≤ MAX_UNITS_IN_A_ROW)
some_depth [] None is n e = absurd (cc)
some_depth [] (Some m) is n e = absurd is
some_depth (t ∷ []) None is n e = absurd is
some_depth (t ∷ []) (Some m) is n e = let same : m ≡ n = cc in (omega (arith, is.1, same), omega (arith, is.2, same))
some_depth (t ∷ u ∷ texts) value is n e = absurd is

-- ---- delays

abbrev InRange : ClassDelay → Type 0
InRange d = (least_delay d.class ≤ d.cycles) × (d.cycles ≤ max_delay)

abbrev AreInRange : Option (List ClassDelay) → Type 0
AreInRange None = Unit {0}
AreInRange (Some ds) = All InRange ds

in_range : (texts : List Text) (value : Option (List ClassDelay)) → IsValue AreDelays texts value → AreInRange value
in_range [] None is = tt
in_range [] (Some ds) is = absurd is
in_range (t ∷ []) None is = absurd is
in_range (t ∷ []) (Some ds) is = is.bounds
in_range (t ∷ u ∷ texts) value is = absurd is

-- what holds of the usual cycles, and of those of each delay of the class, holds of those that are taken
taken : (class : Class) (P : ℕ → Type 0) → ((d : ClassDelay) → is_of class d ≡ true → InRange d → P d.cycles)
    → (ds : List ClassDelay) (n : ℕ) → P n → All InRange ds → P (cycles_or (find (is_of class) ds) n)
taken class P each [] n usual range = usual
taken class P each (d ∷ ds) n usual range =
    cond_both (is_of class d) (Some d) (find (is_of class) ds) (λ o. P (cycles_or o n)) (λ e. each d e (All-head InRange d ds range))
    (λ _. taken class P each ds n usual (All-tail InRange d ds range))

short_delay : (class : Class) (value : Option (List ClassDelay)) (n : ℕ) → n ≤ max_delay → AreInRange value → delay_or value class n ≤ max_delay
short_delay class None n usual range = usual
short_delay class (Some ds) n usual range = taken class (λ m. m ≤ max_delay) (λ d e r. r.1) ds n usual range

least_of_queue : (c : Class) → bytes_eq (class_word c) (class_word class.Lsq) ≡ true → least_delay c ≡ 1
least_of_queue class.Logic e = absurd (false≢true e)
least_of_queue class.Mul e = absurd (false≢true e)
least_of_queue class.Div e = absurd (false≢true e)
least_of_queue class.Read e = absurd (false≢true e)
least_of_queue class.Lsq e = refl

some_delay : (value : Option (List ClassDelay)) (n : ℕ) → 0 < n → AreInRange value → 0 < delay_or value class.Lsq n
some_delay None n usual range = usual
some_delay (Some ds) n usual range = taken class.Lsq (λ m. 0 < m) (λ d e r. omega (arith, r.0, least_of_queue d.class e)) ds n usual range

-- ---- all of them

timed : (c : Chosen) → AreInRange c.delay → slots_or c.slots ≤ max_slots → 0 < slots_or c.slots → ((n : ℕ) → c.depth ≡ Some n → 0 < n) → IsTiming (timing_of c)
timed c range few some deep = record {
  logic = short_delay class.Logic c.delay _ (omega arith) range;
  mul = short_delay class.Mul c.delay _ (omega arith) range;
  div = short_delay class.Div c.delay _ (omega arith) range;
  read = short_delay class.Read c.delay _ (omega arith) range;
  lsq = short_delay class.Lsq c.delay _ (omega arith) range;
  lsq_some = some_delay c.delay _ (omega arith) range;
  slots = few;
  slots_some = some;
  depth_some = deep;
}

pub spelled_within : (words : List Text) (c : Asked) → Command words c → IsWithin c.chosen
spelled_within words c spelled =
    let chosen = spelled.spelled.chosen in
    let deep = some_depth (given Depth spelled.items) c.chosen.depth chosen.depth in
    record {
      limit = limited (given Limit spelled.items) c.chosen.limit chosen.limit;
      shared = shares (given Workers spelled.items) c.chosen.workers (limit_or c.chosen.limit) chosen.workers (some_limit (given Limit spelled.items) c.chosen.limit chosen.limit)
          (λ w is. limit_shared c.chosen.limit (λ n e. spelled.spelled.together.shared n w e is));
      at = saved_at (given At spelled.items) c.chosen.at chosen.at;
      timing = timed c.chosen (in_range (given Delay spelled.items) c.chosen.delay chosen.delay)
          (few_slots (given Slots spelled.items) c.chosen.slots chosen.slots) (some_slots (given Slots spelled.items) c.chosen.slots chosen.slots)
          (λ n e. (deep n e).0);
      depth = λ n e. (let few = (deep n e).1 in omega arith);
    }
