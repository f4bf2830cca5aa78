-- Each derivation of a declaration, or of a part of a for, is traced: the parser takes its tokens with their nestings, and leaves its value.
use Rattle.std.proofs.Common.{◌≡◌, ◌≢◌, ℕ, List, [], ◌∷◌, ◌++◌, true, false, Option, Some, None, refl, sym, ◌∙◌, ap, subst, append_assoc}
use Rattle.el_base.specs.declared.span.Span.{Span}
use Rattle.el_base.specs.declared.ty.Ty.{Ty}
use Rattle.c_ast.specs.declared.token.Token.{Token}
use Rattle.c_ast.specs.declared.token.Word.{Word}
use Rattle.c_ast.specs.declared.token.Word.TheVariants as word
use Rattle.c_ast.specs.declared.mark.Mark.TheVariants as mark
use Rattle.c_ast.specs.declared.tree.Expr.{Expr}
use Rattle.c_ast.specs.declared.tree.Stmt.{Stmt}
use Rattle.c_ast.specs.Derives.{marked, named, IsStep, DerivesType, DerivesExpr, DerivesTarget, DerivesSimple, DerivesOption, DerivesStep, DerivesDeclared, DerivesDeclarators, DerivesDeclaration, DerivesFirst}
use Rattle.c_ast.specs.Nesting.{expr_nesting, option_nesting, step_nesting, declared_nesting, declarators_nesting, declaration_nesting, first_nesting}
use Rattle.c_parse.specs.Symbols.{Symbol, Reduction, Fixed, move, followed, is_type_word, type_move, expression_move, first_move, condition_move, declarators}
use Rattle.c_parse.specs.Values.{Value, reduced}
use Rattle.c_parse.specs.Traces.{trace}
use Rattle.c_parse.proofs.Closing.{Closed, is_int}
use Rattle.c_parse.proofs.Leading.{Leads, leads_join, leads_taking, leads_take, leads_from, leads_to, leads_reducing, leads_reduced}
use Rattle.c_parse.proofs.Levels.{expression_stays}
use Rattle.c_parse.proofs.Starting.{trace_starts, IsTypeWord, type_starts, type_stays, IsExprWord, expr_starts, expr_no_semicolon}
use Rattle.c_parse.proofs.TracedTypes.{leads_type}
use Rattle.c_parse.proofs.TracedExprs.{traced_expr}
use Rattle.c_parse.proofs.TracedSimple.{leads_simple}

-- an expression before a mark at which it does not go on
leads_whole : (n : ℕ) (ts rest : List Token) (e : Expr) (d : DerivesExpr 0 ts e) (symbols : List Symbol) (vs : List Value) → Closed rest
    → Leads (expr_nesting n d) ts rest (Symbol.expression n 0 ∷ symbols) vs symbols (Value.of_expr ts e ∷ vs)
leads_whole n ts rest e d symbols vs h = record { runs = traced_expr n ts rest e d symbols vs h }

-- ---- declared names

-- no value stands before such a mark
no_value : (n : ℕ) (x : Token) (rest : List Token) (symbols : List Symbol) (vs : List Value) → Closed rest
    → trace (Symbol.reduce Reduction.no_value ∷ Symbol.value n ∷ symbols) (Value.of_token x ∷ vs) rest ≡ trace symbols (Value.of_maybe_expr [] None ∷ Value.of_token x ∷ vs) rest
no_value n x rest symbols vs (Closed.closing s ts) = refl
no_value n x rest symbols vs c = refl

-- the values where a declared name was read, with its value if it has one
abbrev values_of : {t : Ty} {ts : List Token} {s : Stmt} → DerivesDeclared t ts s → List Value → List Value
values_of (DerivesDeclared.without_value t x s) vs = Value.of_maybe_expr [] None ∷ Value.of_token (named x s) ∷ vs
values_of (DerivesDeclared.with_value t x s a ts e d) vs = Value.of_maybe_expr (marked mark.Assign a ∷ ts) (Some e) ∷ Value.of_token (named x s) ∷ vs

leads_declared : (n : ℕ) (t : Ty) (ts rest : List Token) (s : Stmt) (d : DerivesDeclared t ts s) (symbols : List Symbol) (vs : List Value) → Closed rest
    → Leads (declared_nesting n d) ts rest (Symbol.declared n ∷ symbols) vs symbols (values_of d vs)
leads_declared n t ts rest s (DerivesDeclared.without_value ty x p) symbols vs h = leads_to (leads_take (Symbol.declared n) (named x p) refl) (no_value n (named x p) rest symbols vs h)
leads_declared n t ts rest s (DerivesDeclared.with_value ty x p a us e d) symbols vs h =
    let more : List Value = Value.of_token (marked mark.Assign a) ∷ Value.of_maybe_expr [] None ∷ Value.of_token (named x p) ∷ vs in
    leads_taking (Symbol.declared n) (named x p) refl (leads_reducing Reduction.no_value (leads_taking (Symbol.value n) (marked mark.Assign a) refl
    (leads_reduced Reduction.value (leads_whole n us rest e d (Symbol.reduce Reduction.value ∷ symbols) more h))))

-- the reduction behind a declared name makes a statement of it
first_made : (t : Ty) (us ts : List Token) (s : Stmt) (d : DerivesDeclared t ts s) (vs : List Value)
    → reduced Reduction.first_declared (values_of d (Value.of_ty us t ∷ vs)) ≡ Value.of_stmts ts (s ∷ []) ∷ Value.of_ty us t ∷ vs
first_made t us ts s (DerivesDeclared.without_value ty x p) vs = refl
first_made t us ts s (DerivesDeclared.with_value ty x p a qs e d) vs = refl

next_made : (t : Ty) (us ts ds : List Token) (c : Token) (s : Stmt) (ss : List Stmt) (d : DerivesDeclared t ts s) (vs : List Value)
    → reduced Reduction.next_declared (values_of d (Value.of_token c ∷ Value.of_stmts ds ss ∷ Value.of_ty us t ∷ vs)) ≡ Value.of_stmts (ds ++ c ∷ ts) (ss ++ s ∷ []) ∷ Value.of_ty us t ∷ vs
next_made t us ts ds c s ss (DerivesDeclared.without_value ty x p) vs = refl
next_made t us ts ds c s ss (DerivesDeclared.with_value ty x p a qs e d) vs = refl

leads_made : (n : ℕ) (t : Ty) (r : Reduction) (ts rest : List Token) (s : Stmt) (d : DerivesDeclared t ts s) (symbols : List Symbol) (vs made : List Value) → Closed rest → reduced r (values_of d vs) ≡ made
    → Leads (declared_nesting n d) ts rest (Symbol.declared n ∷ Symbol.reduce r ∷ symbols) vs symbols made
leads_made n t r ts rest s d symbols vs made h m = leads_to (leads_reduced r (leads_declared n t ts rest s d (Symbol.reduce r ∷ symbols) vs h)) (ap (λ us. trace symbols us rest) m)

-- ---- declarations

same_stmts : (ts us rest : List Token) (ss ds : List Stmt) (symbols : List Symbol) (vs : List Value) → ts ≡ us → ss ≡ ds → trace symbols (Value.of_stmts ts ss ∷ vs) rest ≡ trace symbols (Value.of_stmts us ds ∷ vs) rest
same_stmts ts us rest ss ds symbols vs p q = ap (λ v. trace symbols (Value.of_stmts v ss ∷ vs) rest) p ∙ ap (λ v. trace symbols (Value.of_stmts us v ∷ vs) rest) q

-- the declared names behind a comma, where others stand before it
leads_more : (n : ℕ) (t : Ty) (ts us ws rest : List Token) (c z : Span) (ss ds : List Stmt) (d : DerivesDeclarators t ts ds) (symbols : List Symbol) (vs : List Value)
    → Leads (declarators_nesting n d) ts (marked mark.Semicolon z ∷ rest)
    (Symbol.declared n ∷ Symbol.reduce Reduction.next_declared ∷ Symbol.more_declared n ∷ symbols) (Value.of_token (marked mark.Comma c) ∷ Value.of_stmts us ss ∷ Value.of_ty ws t ∷ vs)
    symbols (Value.of_stmts (us ++ marked mark.Comma c ∷ ts) (ss ++ ds) ∷ Value.of_ty ws t ∷ vs)
leads_more n t ts us ws rest c z ss ds (DerivesDeclarators.last_one ty qs s d) symbols vs =
    leads_to (leads_made n t Reduction.next_declared ts (marked mark.Semicolon z ∷ rest) s d (Symbol.more_declared n ∷ symbols) _ _ (Closed.semicolon z rest) (next_made t ws ts us (marked mark.Comma c) s ss d vs)) refl
leads_more n t ts us ws rest c z ss ds (DerivesDeclarators.one_more ty qs ps p s xs d more) symbols vs =
    let behind : List Token = ps ++ marked mark.Semicolon z ∷ rest in
    let front : List Token = us ++ marked mark.Comma c ∷ qs in
    leads_to (leads_join
    (leads_made n t Reduction.next_declared qs (marked mark.Comma p ∷ behind) s d (Symbol.more_declared n ∷ symbols) _ _ (Closed.comma p behind) (next_made t ws qs us (marked mark.Comma c) s ss d vs))
    (leads_taking (Symbol.more_declared n) (marked mark.Comma p) refl (leads_more n t ps front ws rest p z (ss ++ s ∷ []) xs more symbols vs)))
    (same_stmts (front ++ marked mark.Comma p ∷ ps) (us ++ marked mark.Comma c ∷ (qs ++ marked mark.Comma p ∷ ps)) (marked mark.Semicolon z ∷ rest) ((ss ++ s ∷ []) ++ xs) (ss ++ s ∷ xs) symbols (Value.of_ty ws t ∷ vs)
    (append_assoc us (marked mark.Comma c ∷ qs) (marked mark.Comma p ∷ ps)) (append_assoc ss (s ∷ []) xs))

-- all declared names
leads_declarators : (n : ℕ) (t : Ty) (ts ws rest : List Token) (z : Span) (ds : List Stmt) (d : DerivesDeclarators t ts ds) (symbols : List Symbol) (vs : List Value)
    → Leads (declarators_nesting n d) ts (marked mark.Semicolon z ∷ rest)
    (Symbol.declared n ∷ Symbol.reduce Reduction.first_declared ∷ Symbol.more_declared n ∷ symbols) (Value.of_ty ws t ∷ vs)
    symbols (Value.of_stmts ts ds ∷ Value.of_ty ws t ∷ vs)
leads_declarators n t ts ws rest z ds (DerivesDeclarators.last_one ty qs s d) symbols vs =
    leads_to (leads_made n t Reduction.first_declared ts (marked mark.Semicolon z ∷ rest) s d (Symbol.more_declared n ∷ symbols) _ _ (Closed.semicolon z rest) (first_made t ws ts s d vs)) refl
leads_declarators n t ts ws rest z ds (DerivesDeclarators.one_more ty qs ps p s xs d more) symbols vs =
    let behind : List Token = ps ++ marked mark.Semicolon z ∷ rest in
    leads_join
    (leads_made n t Reduction.first_declared qs (marked mark.Comma p ∷ behind) s d (Symbol.more_declared n ∷ symbols) _ _ (Closed.comma p behind) (first_made t ws qs s d vs))
    (leads_taking (Symbol.more_declared n) (marked mark.Comma p) refl (leads_more n t ps qs ws rest p z (s ∷ []) xs more symbols vs))

no_int : (t : Ty) (ts us rest : List Token) (ds : List Stmt) → DerivesDeclarators t ts ds → is_int ((ts ++ us) ++ rest) ≡ false
no_int t ts us rest ds (DerivesDeclarators.last_one ty qs s (DerivesDeclared.without_value u x p)) = refl
no_int t ts us rest ds (DerivesDeclarators.last_one ty qs s (DerivesDeclared.with_value u x p a vs e d)) = refl
no_int t ts us rest ds (DerivesDeclarators.one_more ty qs ps c s xs (DerivesDeclared.without_value u x p) more) = refl
no_int t ts us rest ds (DerivesDeclarators.one_more ty qs ps c s xs (DerivesDeclared.with_value u x p a vs e d) more) = refl

pub leads_declaration : (n : ℕ) (ts rest : List Token) (ds : List Stmt) (d : DerivesDeclaration ts ds) (symbols : List Symbol) (vs : List Value)
    → Leads (declaration_nesting n d) ts rest (Symbol.a_type n ∷ (declarators n ++ symbols)) vs symbols (Value.of_stmts ts ds ∷ vs)
leads_declaration n ts rest ds (DerivesDeclaration.declaration us ws z t xs ty d) symbols vs =
    let end : Token = marked mark.Semicolon z in
    leads_join (leads_type n us ((ws ++ end ∷ []) ++ rest) t ty (declarators n ++ symbols) vs (no_int t ws (end ∷ []) rest xs d))
    (leads_join (leads_declarators n t ws us rest z xs d (Symbol.fixed n Fixed.semicolon ∷ Symbol.reduce Reduction.declared ∷ symbols) vs)
    (leads_reduced Reduction.declared (leads_take (Symbol.fixed n Fixed.semicolon) end refl)))

-- ---- the first part of a for

-- a symbol whose rule begins with a type, before one
pub type_unfolds : (n : ℕ) (s : Symbol) (more symbols : List Symbol) (vs : List Value) (ts rest : List Token) (t : Ty) → DerivesType ts t → ((w : Word) → is_type_word w ≡ true → move s w ≡ followed (type_move n w) more)
    → trace (s ∷ symbols) vs (ts ++ rest) ≡ trace (Symbol.a_type n ∷ (more ++ symbols)) vs (ts ++ rest)
type_unfolds n s more symbols vs ts rest t d h = trace_starts IsTypeWord s (Symbol.a_type n) more symbols vs ts rest (type_starts ts t d) h (type_stays n)

-- the same before a declaration
declaration_first : (n : ℕ) (ts rest : List Token) (ds : List Stmt) (symbols : List Symbol) (vs : List Value) → DerivesDeclaration ts ds
    → trace (Symbol.first n ∷ symbols) vs (ts ++ rest) ≡ trace (Symbol.a_type n ∷ (declarators n ++ symbols)) vs (ts ++ rest)
declaration_first n ts rest ds symbols vs (DerivesDeclaration.declaration us ws z t xs ty d) =
    let more : List Token = ws ++ marked mark.Semicolon z ∷ [] in
    subst (λ v. trace (Symbol.first n ∷ symbols) vs v ≡ trace (Symbol.a_type n ∷ (declarators n ++ symbols)) vs v) (sym (append_assoc us more rest))
    (type_unfolds n (Symbol.first n) (declarators n) symbols vs us (more ++ rest) t ty (λ w h. ap (λ b. first_move n b w) h))

-- before an assignment or step
simple_first : (n : ℕ) (ts rest : List Token) (s : Stmt) (symbols : List Symbol) (vs : List Value) → DerivesSimple ts s
    → trace (Symbol.first n ∷ symbols) vs (ts ++ rest) ≡ trace (Symbol.simple n ∷ Symbol.fixed n Fixed.semicolon ∷ Symbol.reduce Reduction.simple_first ∷ symbols) vs (ts ++ rest)
simple_first n ts rest s symbols vs (DerivesSimple.assign us ws m p t op e (DerivesTarget.target x q qs es indices) operator value) = refl
simple_first n ts rest s symbols vs (DerivesSimple.step_after us m p t b (DerivesTarget.target x q qs es indices) operator) = refl
simple_first n ts rest s symbols vs (DerivesSimple.step_before us m p t b IsStep.up to) = refl
simple_first n ts rest s symbols vs (DerivesSimple.step_before us m p t b IsStep.down to) = refl

pub leads_first : (n : ℕ) (ts rest : List Token) (ss : List Stmt) (d : DerivesFirst ts ss) (symbols : List Symbol) (vs : List Value)
    → Leads (first_nesting n d) ts rest (Symbol.first n ∷ symbols) vs symbols (Value.of_stmts ts ss ∷ vs)
leads_first n ts rest ss (DerivesFirst.nothing z) symbols vs = leads_reduced Reduction.no_first (leads_take (Symbol.first n) (marked mark.Semicolon z) refl)
leads_first n ts rest ss (DerivesFirst.simple us z s d) symbols vs =
    let end : Token = marked mark.Semicolon z in
    let more : List Symbol = Symbol.fixed n Fixed.semicolon ∷ Symbol.reduce Reduction.simple_first ∷ symbols in
    leads_join (leads_from (simple_first n us (end ∷ rest) s symbols vs d) (leads_simple n us (end ∷ rest) s d more vs (Closed.semicolon z rest)))
    (leads_reduced Reduction.simple_first (leads_take (Symbol.fixed n Fixed.semicolon) end refl))
leads_first n ts rest ss (DerivesFirst.declares us ds d) symbols vs = leads_from (declaration_first n ts rest ss symbols vs d) (leads_declaration n ts rest ss d symbols vs)

-- ---- the condition and the last part, with the mark behind them

condition_unfolds : (n : ℕ) (w : Word) → w ≢ word.Mark mark.Semicolon → condition_move n w ≡ followed (expression_move n 0 w) (Symbol.reduce Reduction.some_condition ∷ Symbol.fixed n Fixed.semicolon ∷ [])
condition_unfolds n (word.Mark mark.Semicolon) h = absurd (h refl)
condition_unfolds n w h = refl

expr_condition : (n : ℕ) (ts rest : List Token) (e : Expr) (symbols : List Symbol) (vs : List Value) → DerivesExpr 0 ts e
    → trace (Symbol.condition n ∷ symbols) vs (ts ++ rest) ≡ trace (Symbol.expression n 0 ∷ Symbol.reduce Reduction.some_condition ∷ Symbol.fixed n Fixed.semicolon ∷ symbols) vs (ts ++ rest)
expr_condition n ts rest e symbols vs d = trace_starts IsExprWord (Symbol.condition n) (Symbol.expression n 0) (Symbol.reduce Reduction.some_condition ∷ Symbol.fixed n Fixed.semicolon ∷ []) symbols vs ts rest
    (expr_starts 0 ts e d) (λ w h. condition_unfolds n w (expr_no_semicolon w h)) (expression_stays n 0)

pub leads_condition : (n : ℕ) (ts rest : List Token) (e : Option Expr) (d : DerivesOption ts e) (z : Span) (symbols : List Symbol) (vs : List Value)
    → Leads (option_nesting n d ++ n ∷ []) (ts ++ marked mark.Semicolon z ∷ []) rest (Symbol.condition n ∷ symbols) vs symbols (Value.of_token (marked mark.Semicolon z) ∷ Value.of_maybe_expr ts e ∷ vs)
leads_condition n ts rest e DerivesOption.absent z symbols vs = leads_reduced Reduction.no_condition (leads_take (Symbol.condition n) (marked mark.Semicolon z) refl)
leads_condition n ts rest e (DerivesOption.present us x d) z symbols vs =
    let end : Token = marked mark.Semicolon z in
    let more : List Symbol = Symbol.reduce Reduction.some_condition ∷ Symbol.fixed n Fixed.semicolon ∷ symbols in
    leads_join (leads_from (expr_condition n us (end ∷ rest) x symbols vs d) (leads_reduced Reduction.some_condition (leads_whole n us (end ∷ rest) x d more vs (Closed.semicolon z rest))))
    (leads_take (Symbol.fixed n Fixed.semicolon) end refl)

-- before an assignment or step
simple_last : (n : ℕ) (ts rest : List Token) (s : Stmt) (symbols : List Symbol) (vs : List Value) → DerivesSimple ts s
    → trace (Symbol.last n ∷ symbols) vs (ts ++ rest) ≡ trace (Symbol.simple n ∷ Symbol.reduce Reduction.some_step ∷ Symbol.fixed n Fixed.closing ∷ symbols) vs (ts ++ rest)
simple_last n ts rest s symbols vs (DerivesSimple.assign us ws m p t op e (DerivesTarget.target x q qs es indices) operator value) = refl
simple_last n ts rest s symbols vs (DerivesSimple.step_after us m p t b (DerivesTarget.target x q qs es indices) operator) = refl
simple_last n ts rest s symbols vs (DerivesSimple.step_before us m p t b IsStep.up to) = refl
simple_last n ts rest s symbols vs (DerivesSimple.step_before us m p t b IsStep.down to) = refl

pub leads_last : (n : ℕ) (ts rest : List Token) (s : Option Stmt) (d : DerivesStep ts s) (z : Span) (symbols : List Symbol) (vs : List Value)
    → Leads (step_nesting n d ++ n ∷ []) (ts ++ marked mark.Close z ∷ []) rest (Symbol.last n ∷ symbols) vs symbols (Value.of_token (marked mark.Close z) ∷ Value.of_maybe_stmt ts s ∷ vs)
leads_last n ts rest s DerivesStep.absent z symbols vs = leads_reduced Reduction.no_step (leads_take (Symbol.last n) (marked mark.Close z) refl)
leads_last n ts rest s (DerivesStep.present us x d) z symbols vs =
    let end : Token = marked mark.Close z in
    let more : List Symbol = Symbol.reduce Reduction.some_step ∷ Symbol.fixed n Fixed.closing ∷ symbols in
    leads_join (leads_from (simple_last n us (end ∷ rest) x symbols vs d) (leads_reduced Reduction.some_step (leads_simple n us (end ∷ rest) x d more vs (Closed.closing z rest))))
    (leads_take (Symbol.fixed n Fixed.closing) end refl)
