-- What real files and streams had to give and were given, where it is known.
use Rattle.std.specs.Prelude.{ℕ, ◌<◌, List, length, Option, None, Result, Ok, Err}
use Rattle.std.specs.Io.KnownBytes.{Consumes}
use Rattle.el_io.specs.declared.files.Got.{Got}
use Rattle.el_io.specs.declared.files.Got.TheVariants as got
use Rattle.el_io.specs.declared.files.FileFail.{FileFail}
use Rattle.el_io.specs.declared.files.FileFail.TheVariants as fail
use Rattle.el_io.specs.declared.host.HostFiles.{HostFiles}
use Rattle.el_io.specs.declared.host.HostSink.{HostSink}
use Rattle.el_io.specs.Memories.{counted}

-- more bytes than max were read
pub record Passes (before now : Option (List ℕ)) (max : ℕ) : Type 0 where
  pub bytes : List ℕ
  pub read : Consumes before now bytes
  pub more : max < length bytes

-- what is left in what was opened, where that is known
abbrev pub left_in : {F E : Type 0} → (F → Option (List ℕ)) → Result F E → Option (List ℕ)
left_in left (Ok file) = left file
left_in left (Err e) = None

-- the stream of a sink
abbrev pub stream_of : {W : Type 0} → HostSink W → W
stream_of s = s.inner

-- how often the sink took nothing
abbrev pub put_faults : {W : Type 0} → HostSink W → ℕ
put_faults s = s.faults

-- how many reads of real files failed, how many met something longer, and the bound of the last of these
pub record HostCounts : Type 0 where
  pub faults : ℕ
  pub longs : ℕ
  pub long : ℕ

abbrev pub host_counts : {R A B : Type 0} → HostFiles R A B → HostCounts
host_counts s = record { faults = s.faults; longs = s.longs; long = s.long }

-- the counts after a read up to max bytes that ended so
abbrev pub host_counts_after : HostCounts → ℕ → Result Got FileFail → HostCounts
host_counts_after c max (Ok got.Whole) = c
host_counts_after c max (Ok got.Longer) = record c { longs = counted c.longs; long = max }
host_counts_after c max (Err fail.Failed) = record c { faults = counted c.faults }
host_counts_after c max (Err fail.Memory) = c
