-- What a whole tree means, by the meanings of its parts: one equation for each form of expression and statement.
use Rattle.std.specs.Prelude.{◌≡◌}
use Rattle.el_base.specs.declared.ty.Ty.{Ty}
use Rattle.el_base.specs.declared.span.Span.{Span}
use Rattle.c_ast.specs.declared.typed.TypedExprKind.{TypedExprKind}
use Rattle.c_ast.specs.declared.typed.TypedExprKind.TheOpen.{TypedExprKind-F}
use Rattle.c_ast.specs.declared.typed.TypedStmtKind.{TypedStmtKind}
use Rattle.c_ast.specs.declared.normal.NormalStmtKind.{NormalStmtKind}
use Rattle.c_meaning.specs.Stores.{Objects}
use Rattle.c_meaning.specs.Expressions.{Meaning, val_step, kind_meaning}
use Rattle.c_meaning.specs.Statements.{Meant, stmt_step, kind_act}
use Rattle.c_meaning.specs.Normals.{normal_kind_act}

-- an expression means what is made of the meanings of its parts
abbrev pub MeansBy : TypedExprKind → (Objects → TypedExprKind-F Meaning Meaning) → Type 0
MeansBy kind layer = (k : Objects) (ty : Ty) (at : Span) → kind_meaning k kind ty at ≡ val_step k (layer k) ty at

-- a statement runs as what is made of the runs of its parts
abbrev pub RunsBy : TypedStmtKind → (Objects → Meant) → Type 0
RunsBy kind meant = (k : Objects) → kind_act k kind ≡ stmt_step k (meant k)

abbrev pub NormalRunsBy : NormalStmtKind → (Objects → Meant) → Type 0
NormalRunsBy kind meant = (k : Objects) → normal_kind_act k kind ≡ stmt_step k (meant k)
