-- How a process ends, by its status: what `top` says of a call of these words, a field for each of its clauses, and what is said
-- where the host hands over no words.
use Rattle.std.specs.Prelude.{◌≡◌, ◌≢◌, ◌<◌, ◌⊎◌, ℕ, List, [], ◌∷◌, Option, Contains}
use Rattle.std.specs.Io.KnownBytes.{append_known}
use Rattle.std.specs.declared.io.Error.{Error}
use Rattle.std.specs.declared.io.ErrorKind.TheVariants.{OutOfMemory}
use Rattle.std.specs.IoError.{error_kind}
use Rattle.el_io.specs.Outside.{Told, Rose, IsCut}
use Rattle.command_words.specs.Tables.{Text}
use Rattle.command_words.specs.Commands.{Asked, Command}
use Rattle.elastic_top.specs.Faults.{IsTold, usage_line, write_line, memory_line}
use Rattle.elastic_top.specs.Statuses.{statuses as all_statuses, statuses_of}
use Rattle.elastic_top.specs.Causes.{Writes, Unread, TooLong, RefusesWith, IsOwn, AreSound}

-- the ghost members that `Files` has at a type
pub record FilesMembers (F : Type 0) : Type 1 where
  pub holds : F → Text → Told
  pub faults : F → ℕ
  pub longs : F → ℕ
  pub long : F → ℕ
  pub steady : F → Type 0

-- the ghost members that `Sink` has at a type
pub record SinkMembers (S : Type 0) : Type 0 where
  pub written : S → Option (List ℕ)
  pub faults : S → ℕ

-- between the two times the sink was told this line
abbrev pub Tells : {S : Type 0} → SinkMembers S → S → S → Text → Type 0
Tells s before now line = IsTold (s.written before) (s.written now) (s.faults before) (s.faults now) line

-- A call of these words ends with this status; the files, the output and the error output are told as it begins and as it ends.
pub record CallEnds {F O E : Type 0} (words : List Text) (code : ℕ)
    (f : FilesMembers F) (files files' : F) (o : SinkMembers O) (out out' : O) (e : SinkMembers E) (err err' : E) : Type 0 where
  -- what the words spell, and which statuses it has
  pub usage : code ≡ 1 → (c : Asked) → Command words c → ⊥
  pub no_command : ((c : Asked) → Command words c → ⊥) → Contains (1 ∷ 11 ∷ []) code
  pub statuses : (c : Asked) → Command words c → Contains (statuses_of c.verb) code
  pub codes : Contains all_statuses code
  -- the files
  pub unread_files : code ≡ 1 → files' ≡ files
  pub read : code ≡ 2 → Rose (f.faults files) (f.faults files')
  pub unread : code ≡ 2 → (c : Asked) → Command words c → Unread (f.holds files) (f.steady files) c (Tells e err err')
  pub long : code ≡ 12 → Rose (f.longs files) (f.longs files')
  pub long_file : code ≡ 12 → (c : Asked) → Command words c → TooLong (f.holds files) (f.long files') c (Tells e err err')
  pub long_always : f.longs files < f.longs files' → code ≡ 12
  -- the output
  pub done : code ≡ 0 → (c : Asked) → Command words c
      → Writes (f.holds files) c (λ text. o.written out' ≡ append_known (o.written out) text)
  pub write : code ≡ 3 → Rose (o.faults out) (o.faults out')
  pub cut : code ≡ 3 → (c : Asked) → Command words c → Writes (f.holds files) c (IsCut (o.written out) (o.written out'))
  pub out_same : code ≢ 0 → code ≢ 3 → o.written out' ≡ o.written out
  -- all other statuses, with their lines; and that none comes without its cause
  pub refused : IsOwn code → (c : Asked) → Command words c → RefusesWith (f.holds files) c code (Tells e err err')
  pub complete : (c : Asked) → Command words c → AreSound (f.holds files) (f.steady files) c
      → (Rose (o.faults out) (o.faults out') → ⊥) → Contains (0 ∷ 11 ∷ []) code
  -- the error output
  pub err_same : code ≡ 0 → e.written err' ≡ e.written err
  pub err_usage : code ≡ 1 → Tells e err err' usage_line
  pub err_write : code ≡ 3 → Tells e err err' write_line
  pub err_memory : code ≡ 11 → Tells e err err' memory_line

-- A process without words ends so: where the host wants memory by want of memory, else since the words are no command, one of
-- them being no UTF-8.
abbrev pub WordlessEnds : Error → ℕ → (Text → Type 0) → Type 0
WordlessEnds error code Tells =
    ((error_kind error ≡ OutOfMemory) × (code ≡ 11) × Tells memory_line) ⊎ ((error_kind error ≢ OutOfMemory) × (code ≡ 1) × Tells usage_line)
