-- What the options of a command ask for, and what holds where one is not used.
use Rattle.std.specs.Prelude.{◌≡◌, ◌≤◌, ◌<◌, ◌^◌, ℕ, Bool, true, false, List, Option, Some, None, IfSome, find}
use Rattle.std.specs.Str.{bytes_eq}
use Rattle.el_base.specs.Limits.{max_firings}
use Rattle.c_meaning.specs.declared.profile.Profile.{Profile}
use Rattle.c_meaning.specs.declared.profile.Profile.TheVariants.{Plain, Wrap}
use Rattle.buffer_place.specs.declared.timing.Timing.{Timing}
use Rattle.buffer_place.specs.Timings.{IsTiming, usual}
use Rattle.net_runs.specs.declared.options.RunOptions.{RunOptions}
use Rattle.net_runs.specs.declared.options.TheConstants.{DEFAULT_FIRINGS}
use Rattle.net_runs.specs.Runs.{MayShare}
use Rattle.kernel_ref.specs.declared.options.InterpretOptions.{InterpretOptions}
use Rattle.kernel_ref.specs.declared.options.TheConstants.{DEFAULT_TURNS}
use Rattle.kernel_runs.specs.declared.options.CircuitOptions.{CircuitOptions}
use Rattle.command_words.specs.declared.choice.Class.{Class}
use Rattle.command_words.specs.declared.choice.Class.TheVariants.{Logic, Mul, Div, Read, Lsq}
use Rattle.command_words.specs.declared.choice.ClassDelay.{ClassDelay}
use Rattle.command_words.specs.declared.command.Chosen.{Chosen}
use Rattle.command_words.specs.Tables.{class_word}

-- ---- runs

-- the limit that is asked for, or the usual one
abbrev pub limit_or : Option ℕ → ℕ
limit_or None = DEFAULT_FIRINGS
limit_or (Some n) = n

abbrev pub options_of : Chosen → RunOptions
options_of c = record { limit = limit_or c.limit; count = c.count; cycles = c.cycles; log = c.log; workers = c.workers }

-- ---- saved states

-- after how many firings a state is saved: as many as are asked for, or none
abbrev pub at_or : Option ℕ → ℕ
at_or None = 0
at_or (Some k) = k

-- ---- the plain interpreter

abbrev pub profile_of : Bool → Profile
profile_of true = Wrap
profile_of false = Plain

-- the number of turns that is asked for, or the usual one
abbrev pub turns_or : Option ℕ → ℕ
turns_or None = DEFAULT_TURNS
turns_or (Some n) = n

abbrev pub interpretation_of : Chosen → InterpretOptions
interpretation_of c = record { profile = profile_of c.wrap; turns = turns_or c.turns; count = c.count }

-- ---- circuits

-- a delay of this class
abbrev pub is_of : Class → ClassDelay → Bool
is_of class delay = bytes_eq (class_word delay.class) (class_word class)

abbrev pub cycles_or : Option ClassDelay → ℕ → ℕ
cycles_or None cycles = cycles
cycles_or (Some delay) cycles = delay.cycles

-- the cycles that a list names for the class; where there is no list or it does not name the class, the usual ones
abbrev pub delay_or : Option (List ClassDelay) → Class → ℕ → ℕ
delay_or None class cycles = cycles
delay_or (Some delays) class cycles = cycles_or (find (is_of class) delays) cycles

-- the slots that are asked for, or the usual ones
abbrev pub slots_or : Option ℕ → ℕ
slots_or None = usual.slots
slots_or (Some n) = n

abbrev pub timing_of : Chosen → Timing
timing_of c = record {
  logic = delay_or c.delay Logic usual.logic;
  mul = delay_or c.delay Mul usual.mul;
  div = delay_or c.delay Div usual.div;
  read = delay_or c.delay Read usual.read;
  lsq = delay_or c.delay Lsq usual.lsq;
  slots = slots_or c.slots;
  depth = c.depth;
}

abbrev pub circuit_of : Chosen → CircuitOptions
circuit_of c = record { timing = timing_of c; forward = c.forward }

-- ---- what a command may ask for

-- a limit that a run may have, which workers, where they are asked for, may share out; as many firings before a state is saved; a timing that a circuit may have; and a depth that can be counted
pub record IsWithin (c : Chosen) : Type 0 where
  pub limit : limit_or c.limit ≤ max_firings
  pub shared : IfSome c.workers (MayShare (limit_or c.limit))
  pub at : at_or c.at ≤ max_firings
  pub timing : IsTiming (timing_of c)
  pub depth : (n : ℕ) → c.depth ≡ Some n → n < 2 ^ 32
