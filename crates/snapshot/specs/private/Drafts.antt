-- Private: only contracts of this crate cite it. The draft of a state: what it shares with each state whose text begins with
-- the lines so far, and which lines these states have left.
use Rattle.std.specs.Prelude.{◌≡◌, ℕ, ◌+◌, ◌-◌, ◌<◌, ◌≤◌, Bool, true, false, None, Result, Ok, Err, List, [], ◌∷◌, ◌++◌, map, length, get_or, drop, replicate}
use Rattle.el_base.specs.declared.ty.Array.{Array}
use Rattle.net_types.specs.declared.net.Net.{Net}
use Rattle.net_types.specs.Nets.{kind_of}
use Rattle.net_check.specs.Ends.{is_lsq}
use Rattle.lsq_core.specs.declared.entry.Entry.{Entry}
use Rattle.lsq_core.specs.Views.{blank}
use Rattle.net_core.specs.declared.parts.Parts.{Parts}
use Rattle.net_core.specs.Parts.{no_part}
use Rattle.snapshot.specs.declared.draft.Draft.{Draft}
use Rattle.snapshot.specs.declared.draft.Stage.{Stage}
use Rattle.snapshot.specs.declared.draft.Stage.TheVariants.{First, Made, Scalars, Fired, Chans, Forks, Queues, Opened, Entries, Arrays, Strays, Ended}
use Rattle.snapshot.specs.declared.refusal.SnapRefusal.{SnapRefusal}
use Rattle.snapshot.specs.declared.saved.Saved.{Saved}
use Rattle.snapshot.specs.Refusals.{MaySave, texts}
use Rattle.snapshot.specs.Texts.{words, each, scalar_lines, fired_lines, chan_lines, fork_lines, queue_lines, array_lines, stray_lines, entry_line, made_line, end_line, from_scalars, from_fired, from_value, from_chans, from_forks, from_queues, from_arrays, from_strays}

-- two lists have the same items below a place
abbrev pub AgreeBelow : {V : Type 0} → V → ℕ → List V → List V → Type 0
AgreeBelow v n xs ys = (j : ℕ) → j < n → get_or xs j v ≡ get_or ys j v

-- from a place on a list has one item alone
abbrev pub BlankFrom : {V : Type 0} → V → ℕ → List V → Type 0
BlankFrom v n xs = (j : ℕ) → n ≤ j → get_or xs j v ≡ v

-- the entries of a unit's queue
abbrev pub entries_of : Saved → ℕ → List Entry
entries_of s u = (get_or s.parts.queues u no_part).entries

-- what two states share whose texts are the same up to a place
abbrev pub ToMade : Saved → Saved → Type 0
ToMade d s = Unit {0}

pub record ToScalars (j : ℕ) (d s : Saved) : Type 0 where
  pub made : s.made ≡ d.made
  pub scalars : AgreeBelow 0 j s.parts.given.scalars d.parts.given.scalars

pub record ToFired (net : Net) (u : ℕ) (d s : Saved) : Type 0 where
  pub before : ToScalars (length net.scalars) d s
  pub fired : AgreeBelow false u s.parts.fired d.parts.fired

abbrev pub ToValue : Net → Saved → Saved → Type 0
ToValue net d s = ToFired net (length net.units) d s

pub record ToChans (net : Net) (c : ℕ) (d s : Saved) : Type 0 where
  pub before : ToValue net d s
  pub value : s.parts.value ≡ d.parts.value
  pub tokens : AgreeBelow [] c s.parts.tokens d.parts.tokens

pub record ToForks (net : Net) (u : ℕ) (d s : Saved) : Type 0 where
  pub before : ToChans net (length net.chans) d s
  pub sent : AgreeBelow [] u s.parts.sent d.parts.sent

pub record ToQueues (net : Net) (u : ℕ) (d s : Saved) : Type 0 where
  pub before : ToForks net (length net.units) d s
  pub queues : AgreeBelow no_part u s.parts.queues d.parts.queues

pub record ToOpened (net : Net) (u : ℕ) (d s : Saved) : Type 0 where
  pub before : ToQueues net u d s
  pub next : (get_or s.parts.queues u no_part).next ≡ (get_or d.parts.queues u no_part).next

pub record ToEntries (net : Net) (u i : ℕ) (d s : Saved) : Type 0 where
  pub before : ToOpened net u d s
  pub long : length (entries_of s u) ≡ length (entries_of d u)
  pub entries : AgreeBelow blank i (entries_of s u) (entries_of d u)

pub record ToArrays (net : Net) (a : ℕ) (d s : Saved) : Type 0 where
  pub before : ToQueues net (length net.units) d s
  pub arrays : AgreeBelow [] a s.parts.given.arrays d.parts.given.arrays

pub record ToStrays (net : Net) (a : ℕ) (d s : Saved) : Type 0 where
  pub before : ToArrays net (length net.arrays) d s
  pub strays : AgreeBelow 0 a s.parts.strays d.parts.strays

-- the lines of a state from a place on
abbrev pub at_made : Net → Saved → List (List ℕ)
at_made net s = made_line s.made ∷ from_scalars net s.parts

abbrev pub at_scalars : Net → ℕ → Saved → List (List ℕ)
at_scalars net j s = each (scalar_lines net.scalars s.parts.given.scalars) j (length net.scalars - j) ++ from_fired net s.parts

abbrev pub at_fired : Net → ℕ → Saved → List (List ℕ)
at_fired net u s = each (fired_lines s.parts.fired) u (length net.units - u) ++ from_value net s.parts

abbrev pub at_value : Net → Saved → List (List ℕ)
at_value net s = from_value net s.parts

abbrev pub at_chans : Net → ℕ → Saved → List (List ℕ)
at_chans net c s = each (chan_lines s.parts.tokens) c (length net.chans - c) ++ from_forks net s.parts

abbrev pub at_forks : Net → ℕ → Saved → List (List ℕ)
at_forks net u s = each (fork_lines s.parts.sent) u (length net.units - u) ++ from_queues net s.parts

abbrev pub at_queues : Net → ℕ → Saved → List (List ℕ)
at_queues net u s = each (queue_lines (kind_of net) s.parts.queues) u (length net.units - u) ++ from_arrays net s.parts

abbrev pub at_entries : Net → ℕ → ℕ → Saved → List (List ℕ)
at_entries net u i s = map entry_line (drop i (entries_of s u)) ++ at_queues net (u + 1) s

abbrev pub at_arrays : Net → ℕ → Saved → List (List ℕ)
at_arrays net a s = each (array_lines net.arrays s.parts.given.arrays) a (length net.arrays - a) ++ from_strays net s.parts

abbrev pub at_strays : Net → ℕ → Saved → List (List ℕ)
at_strays net a s = each (stray_lines net.arrays s.parts.strays) a (length net.arrays - a) ++ end_line ∷ []

-- what a draft's data share with those of a state with the lines so far
abbrev pub Shares : Net → Stage → Saved → Saved → Type 0
Shares net First d s = Unit {0}
Shares net Made d s = Unit {0}
Shares net (Scalars j) d s = ToScalars j d s
Shares net (Fired u) d s = ToFired net u d s
Shares net (Chans c) d s = ToChans net c d s
Shares net (Forks u) d s = ToForks net u d s
Shares net (Queues u) d s = ToQueues net u d s
Shares net (Opened u) d s = ToOpened net u d s
Shares net (Entries u i) d s = ToEntries net u i d s
Shares net (Arrays a) d s = ToArrays net a d s
Shares net (Strays a) d s = ToStrays net a d s
Shares net Ended d s = s ≡ d

-- the lines that such a state has left
abbrev pub left_at : Net → Stage → Saved → List (List ℕ)
left_at net First s = texts net s
left_at net Made s = at_made net s
left_at net (Scalars j) s = at_scalars net j s
left_at net (Fired u) s = at_fired net u s
left_at net (Chans c) s = at_chans net c s
left_at net (Forks u) s = at_forks net u s
left_at net (Queues u) s = at_queues net u s
left_at net (Opened u) s = at_entries net u 0 s
left_at net (Entries u i) s = at_entries net u i s
left_at net (Arrays a) s = at_arrays net a s
left_at net (Strays a) s = at_strays net a s
left_at net Ended s = []

-- of what the lines so far have not told, a draft has nothing where nothing must be told
pub record BlankForks (net : Net) (u : ℕ) (d : Saved) : Type 0 where
  pub within : u ≤ length net.units
  pub sent : BlankFrom [] u d.parts.sent

pub record BlankChans (net : Net) (c : ℕ) (d : Saved) : Type 0 where
  pub within : c ≤ length net.chans
  pub tokens : BlankFrom [] c d.parts.tokens
  pub forks : BlankForks net 0 d

pub record BlankFired (net : Net) (u : ℕ) (d : Saved) : Type 0 where
  pub within : u ≤ length net.units
  pub fired : BlankFrom false u d.parts.fired
  pub chans : BlankChans net 0 d

pub record BlankScalars (net : Net) (j : ℕ) (d : Saved) : Type 0 where
  pub within : j ≤ length net.scalars
  pub fired : BlankFired net 0 d

-- a queue whose line was the last
pub record IsQueueAt (net : Net) (u : ℕ) : Type 0 where
  pub within : u < length net.units
  pub queue : is_lsq (kind_of net u) ≡ true

pub record IsOpened (net : Net) (u : ℕ) (d : Saved) : Type 0 where
  pub at : IsQueueAt net u
  pub none : entries_of d u ≡ []

abbrev pub IsBlank : Net → Stage → Saved → Type 0
IsBlank net First d = BlankFired net 0 d
IsBlank net Made d = BlankFired net 0 d
IsBlank net (Scalars j) d = BlankScalars net j d
IsBlank net (Fired u) d = BlankFired net u d
IsBlank net (Chans c) d = BlankChans net c d
IsBlank net (Forks u) d = BlankForks net u d
IsBlank net (Queues u) d = u ≤ length net.units
IsBlank net (Opened u) d = IsOpened net u d
IsBlank net (Entries u i) d = IsQueueAt net u
IsBlank net (Arrays a) d = a ≤ length net.arrays
IsBlank net (Strays a) d = a ≤ length net.arrays
IsBlank net Ended d = Unit {0}

-- the draft may be saved as it is
pub record Stands (net : Net) (d : Draft) : Type 0 where
  pub may : MaySave net d.saved
  pub blank : IsBlank net d.stage d.saved

-- with a line, states that share so much and have these lines left are those that share more and have others left
pub record Takes (net : Net) (Before : Saved → Type 0) (left : Saved → List (List ℕ)) (line : List ℕ) (After : Saved → Type 0) (later : Saved → List (List ℕ)) : Type 0 where
  pub forth : (s : Saved) → MaySave net s → Before s → (more : List (List ℕ)) → left s ≡ line ∷ more → After s
  pub back : (s : Saved) → MaySave net s → After s → Before s × (left s ≡ line ∷ later s)

-- no such state has the line next
abbrev pub Refuses : Net → (Saved → Type 0) → (Saved → List (List ℕ)) → List ℕ → Type 0
Refuses net Before left line = (s : Saved) → MaySave net s → Before s → (more : List (List ℕ)) → left s ≡ line ∷ more → ⊥

-- what an answer to a line says: the draft takes it, or no state has it next
pub record Taken (net : Net) (Before : Saved → Type 0) (left : Saved → List (List ℕ)) (line : List ℕ) (d : Draft) : Type 0 where
  pub stands : Stands net d
  pub takes : Takes net Before left line (Shares net d.stage d.saved) (left_at net d.stage)

abbrev pub SaysOfLine : Net → (Saved → Type 0) → (Saved → List (List ℕ)) → List ℕ → Bool → Draft → Type 0
SaysOfLine net Before left line true d = Taken net Before left line d
SaysOfLine net Before left line false d = Refuses net Before left line

-- the line of these words
abbrev pub line_of_words : List (List ℕ) → List ℕ
line_of_words ws = words ws

-- the data before the first line
abbrev pub zero_elements : Array → List ℕ
zero_elements a = replicate a.len 0

abbrev pub blank_parts : Net → Parts
blank_parts net = record {
  given = record { scalars = replicate (length net.scalars) 0; arrays = map zero_elements net.arrays };
  tokens = replicate (length net.chans) [];
  sent = replicate (length net.units) [];
  fired = replicate (length net.units) false;
  value = None;
  queues = replicate (length net.units) no_part;
  strays = replicate (length net.arrays) 0;
}

-- a state is the only one of its text, and so is that of an answer
abbrev pub IsOne : Net → Saved → Type 0
IsOne net d = (s : Saved) → MaySave net s → texts net s ≡ texts net d → s ≡ d

abbrev pub IsOneIn : Net → Result Saved SnapRefusal → Type 0
IsOneIn net (Ok s) = IsOne net s
IsOneIn net (Err e) = Unit {0}
