use Rattle.std.proofs.Common.{[], ◌∷◌, refl, arith}
use Rattle.c_parse.specs.Symbols.{Symbol}
use Rattle.c_parse.proofs.KernelRules.{reads_dim}
use Rattle.c_parse.proofs.Chains.{went, same_then, same_takes, same_number, same_fixed, same_reduces}
use Rattle.c_parse.proofs.cursor.Cursor.dim.Goals as goal

pub returns : goal.returns
returns c = record {
  derived = reads_dim _ _ _ _ _ _ _ c.in_ok-mark.ensures.read c.in_ok-value.ensures.read c.in_ok-mark-2.ensures.read;
  judged = λ n small next. went (Symbol.dims n ∷ []) (Symbol.dims n ∷ []) (same_then (same_takes c.in_ok-mark.ensures.read refl (omega arith)) (same_then (same_number (omega arith) c.in_ok-value.ensures.read) (same_then (same_fixed refl (omega arith) c.in_ok-mark-2.ensures.read) same_reduces)));
}
