-- What a log of firings keeps.
use Rattle.std.specs.Prelude.{◌≡◌, ℕ, ◌+◌, ◌≤◌, Bool, cond, List, [], ◌∷◌, length}
use Rattle.el_base.specs.Logs.{Logged}
use Rattle.firing_log.specs.Families.{has_number, has_serial}
use Rattle.firing_log.specs.Made.{entries_of, last_stamp, HaveStamps}
use Rattle.firing_log.specs.declared.entry.Entry.{Entry}
use Rattle.firing_log.specs.declared.firing_log.FiringLog.TheInside.{Inside}
use Rattle.firing_log.specs.declared.firing_log.Made.{Made}

-- how many of the firings pass a test
abbrev pub count_of : (Made → Bool) → List Made → ℕ
count_of p [] = 0
count_of p (m ∷ ms) = cond (p m) 1 0 + count_of p ms

-- the entries, and how many more there is room for
abbrev pub shown_by : Inside → Logged Entry
shown_by l = record { items = entries_of 0 l.made.items l.numbers.items l.serials.items l.stamps.items; room = l.made.room }

-- each entry that needs a number, a serial number or a stamp has one, and there is room for those of the entries to come
pub record IsKept (l : Inside) : Type 0 where
  pub numbers : length l.numbers.items ≡ count_of (λ m. has_number m.family) l.made.items
  pub serials : length l.serials.items ≡ count_of (λ m. has_serial m.family) l.made.items
  pub stamps : length l.stamps.items ≡ count_of (λ m. m.jumps) l.made.items
  pub number_room : l.made.room ≤ l.numbers.room
  pub serial_room : l.made.room ≤ l.serials.room
  pub stamp_room : l.made.room ≤ l.stamps.room
  pub last : l.last ≡ last_stamp 0 l.made.items l.stamps.items
  pub have_stamps : HaveStamps (entries_of 0 l.made.items l.numbers.items l.serials.items l.stamps.items)
