-- Why there are no words, of the error that the host hands over in their place.
use Rattle.std.specs.Prelude.{◌≡◌, ◌≢◌, ◌⊎◌}
use Rattle.std.specs.declared.io.Error.{Error}
use Rattle.std.specs.declared.io.ErrorKind.TheVariants.{OutOfMemory}
use Rattle.std.specs.IoError.{error_kind}
use Rattle.elastic_top.specs.declared.fault.Fault.{Fault}
use Rattle.elastic_top.specs.declared.fault.Fault.TheVariants.{Usage, Memory}

-- want of memory where the host wants memory; else the words are no command, since one of them is not UTF-8
abbrev pub IsErrorFault : Error → Fault → Type 0
IsErrorFault error fault = ((error_kind error ≡ OutOfMemory) × (fault ≡ Memory)) ⊎ ((error_kind error ≢ OutOfMemory) × (fault ≡ Usage))
