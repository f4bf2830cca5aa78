-- What each answer of the reader of schedules says of the bytes.
use Rattle.std.specs.Prelude.{◌≡◌, ◌≢◌, ◌⊎◌, ℕ, ◌+◌, ◌<◌, List, ◌++◌, length, codes, Option, Some, None, Result, Ok, Err}
use Rattle.std.specs.List.{All}
use Rattle.net_types.specs.declared.firing.Firing.{Firing}
use Rattle.net_replay.specs.declared.schedule_refusal.ScheduleRefusal.{ScheduleRefusal}
use Rattle.net_replay.specs.declared.schedule_refusal.ScheduleRefusal.TheVariants.{Line, Memory}
use Rattle.net_replay.specs.Schedules.{FiringFits, ScheduleText, BeginsNoLine, schedule_text}

-- the number by which a refusal is printed, its word and its line
abbrev pub refusal_number : ScheduleRefusal → Option ℕ
refusal_number (Line n) = Some 60
refusal_number Memory = None

abbrev pub refusal_word : ScheduleRefusal → List ℕ
refusal_word (Line n) = codes "Line"
refusal_word Memory = codes "Memory"

abbrev pub refusal_line : ScheduleRefusal → Option ℕ
refusal_line (Line n) = Some n
refusal_line Memory = None

-- the lines before that number, from 1, are firings', and what follows is not empty and begins with no firing's line;
-- so the line of that number spells no firing, or has no line feed
pub record IsWrongLine (bytes : List ℕ) (number : ℕ) : Type 0 where
  pub before : List Firing
  pub fit : All FiringFits before
  pub counted : number ≡ length before + 1
  pub rest : List ℕ
  pub whole : bytes ≡ schedule_text before ++ rest
  pub some : 0 < length rest
  pub wrong : BeginsNoLine rest

-- what an answer says of the bytes; want of memory says nothing
abbrev pub Says : List ℕ → Result (List Firing) ScheduleRefusal → Type 0
Says bytes (Ok fs) = All FiringFits fs × ScheduleText fs bytes
Says bytes (Err (Line n)) = IsWrongLine bytes n
Says bytes (Err Memory) = Unit {0}

-- no other answer but want of memory says what holds of the bytes
abbrev pub IsOnly : List ℕ → Result (List Firing) ScheduleRefusal → Type 0
IsOnly bytes r = (other : Result (List Firing) ScheduleRefusal) → other ≢ Err Memory → Says bytes other → (r ≡ other) ⊎ (r ≡ Err Memory)

-- each answer that says what holds of the bytes is the list, or want of memory
abbrev pub ReadsBack : List ℕ → List Firing → Type 0
ReadsBack bytes fs = (r : Result (List Firing) ScheduleRefusal) → Says bytes r → (r ≡ Ok fs) ⊎ (r ≡ Err Memory)

-- a text is that of one list at most
abbrev pub OneSchedule : Type 0
OneSchedule = (fs gs : List Firing) (bytes : List ℕ) → All FiringFits fs → All FiringFits gs → ScheduleText fs bytes → ScheduleText gs bytes → fs ≡ gs
