-- The table traces kernel texts.
use Rattle.std.proofs.Common.{◌≡◌, List, [], ◌∷◌, refl}
use Rattle.c_ast.specs.declared.token.Token.{Token}
use Rattle.c_ast.specs.declared.tree.Tree.{Tree}
use Rattle.c_ast.specs.Derives.{Derives}
use Rattle.c_ast.specs.Prefixes.{kernel_nesting}
use Rattle.c_parse.specs.Symbols.{kernel_symbols}
use Rattle.c_parse.specs.Values.{Value}
use Rattle.c_parse.specs.Traces.{Trace}
use Rattle.c_parse.proofs.TracedKernels.{traced_kernel}
use Rattle.c_parse.proofs.Meanings.{complete_derives}
use Rattle.c_parse.proofs.Exactness.{Traced}

same_tree : (ts : List Token) (a b : Tree) → Trace.complete (Value.of_tree ts a ∷ []) ≡ Trace.complete (Value.of_tree ts b ∷ []) → a ≡ b
same_tree ts a b h = cc

pub traced_kernels : Traced Derives kernel_nesting kernel_symbols
traced_kernels = record { whole = λ ts tree. Value.of_tree ts tree ∷ []; one = same_tree; traced = traced_kernel; derives = λ ts h. complete_derives ts [] h; sound = refl }
