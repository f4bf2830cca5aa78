use Rattle.c_ast.specs.Derives.{Derives}
use Rattle.c_ast.specs.Nodes.{tree_nodes}
use Rattle.c_ast.specs.Prefixes.{kernel_nesting}
use Rattle.c_ast.specs.Constants.{NumbersFit}
use Rattle.c_parse.specs.Symbols.{kernel_symbols}
use Rattle.c_parse.proofs.KernelExactness.{traced_kernels}
use Rattle.c_parse.proofs.Fitting.{tree_fits}
use Rattle.c_parse.proofs.Answering.{only, refused_says, limited_says, limited_has}
use Rattle.c_parse.proofs.kernel.parse.Goals as goal

pub returns-in-Ok : goal.returns-in-Ok
returns-in-Ok c =
    let said = limited_says Derives kernel_nesting kernel_symbols traced_kernels tree_nodes (λ tree. tree.at) _ _ _ _ c.in-Ok.ensures.derived c.in-Ok.ensures.whole c.limited.ensures.same c.limited.ensures.small c.limited.ensures.large in
    record { says = said; only = only Derives kernel_nesting kernel_symbols traced_kernels tree_nodes (λ tree. tree.at) _ _ _ said; fits = λ h. limited_has NumbersFit _ _ c.limited.ensures.same (tree_fits _ _ c.in-Ok.ensures.derived h) }

pub returns-in-Err : goal.returns-in-Err
returns-in-Err c =
    let said = refused_says Derives kernel_nesting kernel_symbols traced_kernels tree_nodes (λ tree. tree.at) _ _ _ _ c.refused.ensures c.in-Err.ensures.told in
    record { says = said; only = only Derives kernel_nesting kernel_symbols traced_kernels tree_nodes (λ tree. tree.at) _ _ _ said; fits = λ h. tt }
