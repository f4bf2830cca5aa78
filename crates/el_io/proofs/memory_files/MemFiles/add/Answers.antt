use Rattle.std.proofs.Common.{arith}
use Rattle.std.proofs.lemmas.Map.Text.{text_keys}
use Rattle.el_io.proofs.memory_files.MemFiles.add.Goals as goal

pub returns-clause-others : goal.returns-clause-others
returns-clause-others c = λ n ne. grind (arith, text_keys)
