-- Declarations and statements have tokens.
use Rattle.std.proofs.Common.{◌≡◌, ◌+◌, ◌<◌, List, [], ◌∷◌, ◌++◌, Bool, length, arith, length-append, ap, ◌∙◌}
use Rattle.c_ast.specs.declared.token.Token.{Token}
use Rattle.c_ast.specs.declared.mark.Mark.TheVariants as mark
use Rattle.c_ast.specs.declared.tree.Stmt.{Stmt}
use Rattle.c_ast.specs.Derives.{marked, DerivesDeclaration, DerivesStmt}
use Rattle.c_parse.specs.Reads.{Adds, ReadsStmt}

behind : (ts us : List Token) (t : Token) → 0 < length (ts ++ t ∷ us)
behind [] us t = omega arith
behind (x ∷ ts) us t = omega arith

first : (t : Token) (ts : List Token) → 0 < length (t ∷ ts)
first t ts = omega arith

declaration_length : (ts : List Token) (ds : List Stmt) → DerivesDeclaration ts ds → 0 < length ts
declaration_length ts ds (DerivesDeclaration.declaration vs us z t xs ty rest) =
    let a : length (vs ++ (us ++ marked mark.Semicolon z ∷ [])) ≡ length vs + length (us ++ marked mark.Semicolon z ∷ []) = length-append vs (us ++ marked mark.Semicolon z ∷ []) in
    let b : 0 < length (us ++ marked mark.Semicolon z ∷ []) = behind us [] (marked mark.Semicolon z) in
    omega arith

stmt_length : (f : Bool) (ts : List Token) (s : Stmt) → DerivesStmt f ts s → 0 < length ts
stmt_length f ts s (DerivesStmt.simple us z x d) = behind us [] (marked mark.Semicolon z)
stmt_length f ts s d = omega arith

shorter : (used before after : List Token) → before ≡ used ++ after → 0 < length used → length after < length before
shorter used before after split some = let e : length before ≡ length used + length after = ap length split ∙ length-append used after in omega arith

pub declaration_shorter : (before after : List Token) (old new : List Stmt) → Adds (λ ts ss. DerivesDeclaration ts ss) before after old new → length after < length before
declaration_shorter before after old new a = shorter a.used before after a.split (declaration_length a.used a.added a.derived)

pub stmt_shorter : (s : Stmt) (before after : List Token) → ReadsStmt s before after → length after < length before
stmt_shorter s before after r = shorter r.used before after r.split (stmt_length r.open_end r.used s r.derived)
