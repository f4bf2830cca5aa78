-- What the files and the sink in memory show.
use Rattle.std.specs.Prelude.{ℕ, ◌+◌, ◌-◌, ◌^◌, ◌==◌, ◌||◌, nat_lt, min, List, ◌++◌, length, take, Bool, Option, is_none, Result, Ok, Err, refl}
use Rattle.std.specs.Coded.{Coded, code_by, coded×, coded_ℕ, coded_list}
use Rattle.std.specs.Option.{option_map}
use Rattle.std.specs.List.{list_any}
use Rattle.std.specs.BTreeMap.{get_by_text}
use Rattle.el_io.specs.declared.files.Got.{Got}
use Rattle.el_io.specs.declared.files.Got.TheVariants as got
use Rattle.el_io.specs.declared.files.FileFail.{FileFail}
use Rattle.el_io.specs.declared.files.FileFail.TheVariants as fail
use Rattle.el_io.specs.declared.memory_files.MemFiles.{MemFiles}

-- one more, up to a count's last value
abbrev pub counted : ℕ → ℕ
counted n = min (n + 1) (2 ^ 64 - 1)

-- whether a call was named to fail
abbrev pub is_named : List ℕ → ℕ → Bool
is_named calls call = list_any (λ c. c == call) calls

-- what the name holds, if it holds something
abbrev pub held_in : MemFiles → List ℕ → Option (List ℕ)
held_in s name = option_map (λ v. v.items) (get_by_text s.files name)

-- the reads that were named to fail
abbrev pub failing_reads : MemFiles → List ℕ
failing_reads s = s.failing.items

-- how many reads there were, how many failed, how many met something longer, and the bound of the last of these
pub record ReadCounts : Type 0 where
  pub calls : ℕ
  pub faults : ℕ
  pub longs : ℕ
  pub long : ℕ

abbrev pub read_counts : MemFiles → ReadCounts
read_counts s = record { calls = s.calls; faults = s.faults; longs = s.longs; long = s.long }

-- whether a read of this name fails: the call was named, or the name is not held
abbrev pub fails_read : MemFiles → List ℕ → Bool
fails_read s name = is_named (failing_reads s) s.calls || is_none (held_in s name)

-- the counts after a read up to max bytes that ended so
abbrev pub counts_after : ReadCounts → ℕ → Result Got FileFail → ReadCounts
counts_after c max (Ok got.Whole) = record c { calls = counted c.calls }
counts_after c max (Ok got.Longer) = record c { calls = counted c.calls; longs = counted c.longs; long = max }
counts_after c max (Err fail.Failed) = record c { calls = counted c.calls; faults = counted c.faults }
counts_after c max (Err fail.Memory) = record c { calls = counted c.calls }

-- A sink in memory: what was written, how many bytes one put takes at most, for how many more there is room, the puts that
-- were named to fail, how many puts there were, and how many failed.
pub record MemorySink : Type 0 where
  pub written : List ℕ
  pub piece : ℕ
  pub room : ℕ
  pub failing : List ℕ
  pub calls : ℕ
  pub faults : ℕ

abbrev pub memory_sink_code : Coded MemorySink
memory_sink_code = code_by ((List ℕ × ℕ) × ((ℕ × List ℕ) × (ℕ × ℕ)))
    (coded× (coded× (coded_list coded_ℕ) coded_ℕ) (coded× (coded× coded_ℕ (coded_list coded_ℕ)) (coded× coded_ℕ coded_ℕ)))
    (λ s. ((s.written, s.piece), ((s.room, s.failing), (s.calls, s.faults))))
    (λ p. record { written = p.0.0; piece = p.0.1; room = p.1.0.0; failing = p.1.0.1; calls = p.1.1.0; faults = p.1.1.1 }) (λ _. refl)

-- whether a put of these bytes fails: the call was named, or there is no room for what it would take
abbrev pub refuses : MemorySink → List ℕ → Bool
refuses s bytes = is_named s.failing s.calls || nat_lt s.room (length (take s.piece bytes))

-- after a put that took some first bytes
abbrev pub after_put : MemorySink → List ℕ → MemorySink
after_put s bytes = record s { written = s.written ++ take s.piece bytes; room = s.room - length (take s.piece bytes); calls = counted s.calls }

-- after a put that failed
abbrev pub after_refused_put : MemorySink → MemorySink
after_refused_put s = record s { calls = counted s.calls; faults = counted s.faults }
