-- The entries of a log, which keeps the kinds of the acts, their numbers, and the stamps that are not the next, apart.
use Rattle.std.specs.Prelude.{ℕ, suc, ◌<◌, ◌^◌, Bool, cond, List, [], ◌∷◌, All, drop, get_or}
use Rattle.firing_log.specs.Families.{act_of, has_number, has_serial}
use Rattle.firing_log.specs.declared.entry.Entry.{Entry}
use Rattle.firing_log.specs.declared.firing_log.Made.{Made}

-- the items, without the first where it was used
abbrev pub past_if : {T : Type 0} → Bool → List T → List T
past_if b xs = cond b (drop 1 xs) xs

-- the stamp of a firing after the stamp n: the first of those kept where it jumps, and the next number elsewhere
abbrev pub stamp_after : ℕ → Made → List ℕ → ℕ
stamp_after n m stamps = cond m.jumps (get_or stamps 0 0) (suc n)

-- the entry of a firing after the stamp n
abbrev pub entry_after : ℕ → Made → List ℕ → List ℕ → List ℕ → Entry
entry_after n m numbers serials stamps = record {
  stamp = stamp_after n m stamps;
  firing = record { unit = m.unit; act = act_of m.family (get_or numbers 0 0) (get_or serials 0 0) };
}

-- the entries after the stamp n: each takes the first of the numbers, serial numbers and stamps that it needs
abbrev pub entries_of : ℕ → List Made → List ℕ → List ℕ → List ℕ → List Entry
entries_of n [] numbers serials stamps = []
entries_of n (m ∷ ms) numbers serials stamps =
    entry_after n m numbers serials stamps
    ∷ entries_of (stamp_after n m stamps) ms (past_if (has_number m.family) numbers) (past_if (has_serial m.family) serials) (past_if m.jumps stamps)

-- the stamp of the newest entry after the stamp n, n where there is none
abbrev pub last_stamp : ℕ → List Made → List ℕ → ℕ
last_stamp n [] stamps = n
last_stamp n (m ∷ ms) stamps = last_stamp (stamp_after n m stamps) ms (past_if m.jumps stamps)

-- the stamps are numbers of 64 bits
abbrev pub HaveStamps : List Entry → Type 0
HaveStamps es = All (λ e. e.stamp < 2 ^ 64) es
