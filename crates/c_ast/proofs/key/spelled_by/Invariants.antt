use Rattle.std.proofs.Common.{◌≡◌, All, take}
use Rattle.c_ast.specs.Texts.{key_text}
use Rattle.c_ast.proofs.key.spelled_by.Given as goal

abbrev pub invariant-loop-key : goal.invariant-loop-key
invariant-loop-key l = All (λ k. key_text k ≡ l.bytes → ⊥) (take l.key-index l.keys)
