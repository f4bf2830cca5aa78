use Rattle.std.proofs.Common.{rules, is_none, IsErrOf, Ok, Err}
use Rattle.el_io.specs.Memories.{held_in, failing_reads, is_named}
use Rattle.el_io.specs.declared.files.Got.TheVariants as got
use Rattle.el_io.specs.declared.files.FileFail.TheVariants as fail
use Rattle.el_io.proofs.ReadLemmas.{not_failed}
use Rattle.el_io.proofs.memory_files.MemFilesFiles.read.Goals as goal

pub returns-in-Some-clause-fails : goal.returns-in-Some-clause-fails
returns-in-Some-clause-fails c =
    let s = c.args.self.now in
    not_failed (is_named (failing_reads s) s.calls) (is_none (held_in s c.args.name.now)) (IsErrOf (Ok got.Longer) fail.Failed)
    (search rules) (search rules) (search rules)

pub returns-in-Ok-clause-fails : goal.returns-in-Ok-clause-fails
returns-in-Ok-clause-fails c =
    let s = c.args.self.now in
    not_failed (is_named (failing_reads s) s.calls) (is_none (held_in s c.args.name.now)) (IsErrOf (Ok got.Whole) fail.Failed)
    (search rules) (search rules) (search rules)

pub returns-in-Err-clause-fails : goal.returns-in-Err-clause-fails
returns-in-Err-clause-fails c =
    let s = c.args.self.now in
    not_failed (is_named (failing_reads s) s.calls) (is_none (held_in s c.args.name.now)) (IsErrOf (Err fail.Memory) fail.Failed)
    (search rules) (search rules) (search rules)
