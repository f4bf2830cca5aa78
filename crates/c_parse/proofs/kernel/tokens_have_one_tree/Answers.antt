use Rattle.c_ast.specs.Derives.{Derives}
use Rattle.c_ast.specs.Prefixes.{kernel_nesting}
use Rattle.c_parse.specs.Symbols.{kernel_symbols}
use Rattle.c_parse.proofs.KernelExactness.{traced_kernels}
use Rattle.c_parse.proofs.OneVerdict as verdicts
use Rattle.c_parse.proofs.kernel.tokens_have_one_tree.Goals as goal

pub returns : goal.returns
returns c = verdicts.one_tree Derives kernel_nesting kernel_symbols traced_kernels
