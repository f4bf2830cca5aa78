-- Each derivation of a helper and of a program is traced.
use Rattle.std.proofs.Common.{◌≡◌, ℕ, List, [], ◌∷◌, ◌++◌, All, Bool, true, false, refl, sym, ◌∙◌, ap, subst, append_assoc}
use Rattle.std.proofs.lemmas.List.{append-nil}
use Rattle.std.proofs.lemmas.List.Elements.{All-head, All-tail}
use Rattle.el_base.specs.declared.span.Span.{Span}
use Rattle.el_base.specs.declared.ty.Ty.{Ty}
use Rattle.c_ast.specs.declared.token.Token.{Token}
use Rattle.c_ast.specs.declared.token.Word.{Word}
use Rattle.c_ast.specs.declared.token.Word.TheVariants as word
use Rattle.c_ast.specs.declared.key.Key.TheVariants as key
use Rattle.c_ast.specs.declared.mark.Mark.TheVariants as mark
use Rattle.c_ast.specs.declared.tree.Param.{Param}
use Rattle.c_ast.specs.declared.tree.Stmt.{Stmt}
use Rattle.c_ast.specs.declared.tree.Expr.{Expr}
use Rattle.c_ast.specs.declared.tree.Tree.{Tree}
use Rattle.c_ast.specs.declared.tree.Helper.{Helper}
use Rattle.c_ast.specs.declared.tree.Program.{Program}
use Rattle.c_ast.specs.Derives.{marked, keyed, named, between, DerivesType, DerivesExpr, DerivesDeclaration, DerivesStmt, DerivesItems, DerivesDims, DerivesParam, DerivesParamList, DerivesParams, DerivesResult, Derives}
use Rattle.c_ast.specs.Nesting.{enclosed, params_nesting, expr_nesting, declaration_nesting, stmt_nesting, items_nesting}
use Rattle.c_ast.specs.ProgramTexts.{IsNoReturn, block_tokens, DerivesHelper, DerivesHelpers, DerivesProgram, helper_nesting, helpers_nesting, program_nesting}
use Rattle.c_parse.specs.declared.bar.Bar.{Bar}
use Rattle.c_parse.specs.declared.bar.Bar.TheVariants as bar
use Rattle.c_parse.specs.Symbols.{Symbol, Reduction, Fixed, Move, move, followed, bars, limited, is_type_word, type_move, declarators, result_move, kernel_rest, helper_body_move, plain_item_move, program_move, program_symbols}
use Rattle.c_parse.specs.Values.{Value}
use Rattle.c_parse.specs.Traces.{Trace, trace}
use Rattle.c_parse.specs.Reads.{is_else}
use Rattle.c_parse.proofs.EachToken.{each_front, each_back, each_join, NoneBarred}
use Rattle.c_parse.proofs.Barred.{without_all}
use Rattle.c_parse.proofs.Passing.{without_runs}
use Rattle.c_parse.proofs.Closing.{Closed}
use Rattle.c_parse.proofs.Tracing.{is_pass, trace_unfolds}
use Rattle.c_parse.proofs.Runs.{Runs}
use Rattle.c_parse.proofs.Starting.{StartsBy, starts_behind, trace_starts, IsTypeWord, type_starts, type_stays, IsStmtWord, stmt_starts, statement_stays}
use Rattle.c_parse.proofs.Leading.{Leads, leads_none, leads_join, leads_taking, leads_take, leads_from, leads_to, leads_reducing, leads_reduced}
use Rattle.c_parse.proofs.StmtStarts.{items_no_else}
use Rattle.c_parse.proofs.TracedTypes.{leads_type}
use Rattle.c_parse.proofs.TracedExprs.{traced_expr}
use Rattle.c_parse.proofs.TracedParts.{leads_declaration}
use Rattle.c_parse.proofs.TracedStmts.{leads_stmt}
use Rattle.c_parse.proofs.TracedKernels.{leads_params, leads_kernel}

-- ---- words that are not barred

free_returns : (w : Word) → IsNoReturn w → bars bar.Returns w ≡ false
free_returns (word.Key key.Return) h = absurd (h refl)
free_returns w h = refl

pub none_returns : (ts : List Token) → All (λ t. IsNoReturn t.word) ts → NoneBarred bar.Returns ts
none_returns [] h = tt
none_returns (t ∷ ts) h = (free_returns t.word (All-head (λ t. IsNoReturn t.word) t ts h), none_returns ts (All-tail (λ t. IsNoReturn t.word) t ts h))

abbrev IsPlain : Token → Type 0
IsPlain t = bars bar.Brackets t.word ≡ false

type_plain : (ts : List Token) (t : Ty) → DerivesType ts t → NoneBarred bar.Brackets ts
type_plain ts t (DerivesType.signed_int s z) = (refl, (refl, tt))
type_plain ts t (DerivesType.unsigned_int s z) = (refl, (refl, tt))
type_plain ts t d = (refl, tt)

dims_plain : (ts : List Token) (ds : List ℕ) → DerivesDims ts ds → ds ≡ [] → NoneBarred bar.Brackets ts
dims_plain ts ds DerivesDims.no_more h = tt
dims_plain ts ds (DerivesDims.one_more s n z d t us es rest) h = absurd (cc)

param_plain : (ts : List Token) (p : Param) → DerivesParam ts p → p.dims ≡ [] → NoneBarred bar.Brackets ts
param_plain ts p (DerivesParam.param us ws t x s ds ty dims) h = each_join IsPlain us (named x s ∷ ws) (type_plain us t ty) (refl, dims_plain ws ds dims h)

list_plain : (ts : List Token) (ps : List Param) → DerivesParamList ts ps → All (λ p. p.dims ≡ []) ps → NoneBarred bar.Brackets ts
list_plain ts ps (DerivesParamList.last_one us p d) h = param_plain us p d (All-head (λ p. p.dims ≡ []) p [] h)
list_plain ts ps (DerivesParamList.one_more us ws s p more d ds) h =
    each_join IsPlain us (marked mark.Comma s ∷ ws) (param_plain us p d (All-head (λ p. p.dims ≡ []) p more h)) (refl, list_plain ws more ds (All-tail (λ p. p.dims ≡ []) p more h))

params_plain : (ts : List Token) (ps : List Param) → DerivesParams ts ps → All (λ p. p.dims ≡ []) ps → NoneBarred bar.Brackets ts
params_plain ts ps DerivesParams.none h = tt
params_plain ts ps (DerivesParams.none_by_void s) h = (refl, tt)
params_plain ts ps (DerivesParams.some us qs d) h = list_plain us qs d h

-- ---- statements of a helper

pub limited_stays : (b : Bar) (m : Move) (x : Bool) → is_pass m ≡ false → is_pass (limited b false m x) ≡ false
limited_stays b Move.pass x h = h
limited_stays b (Move.take n new) true h = refl
limited_stays b m x h = refl

-- what follows a statement of a helper
abbrev pub plain_more : ℕ → List Symbol
plain_more n = Symbol.reduce Reduction.statement_item ∷ Symbol.helper_body n ∷ []

pub plain_item_is : (n : ℕ) (w : Word) → bars bar.Returns w ≡ false → plain_item_move n w ≡ followed (move (Symbol.without bar.Returns (Symbol.statement n)) w) (plain_more n)
plain_item_is n (word.Key key.Return) h = absurd (cc)
plain_item_is n w h = refl

pub plain_statement_item : (n : ℕ) (ts rest : List Token) (symbols : List Symbol) (vs : List Value) → StartsBy IsStmtWord ts → NoneBarred bar.Returns ts
    → trace (Symbol.helper_body n ∷ symbols) vs (ts ++ rest) ≡ trace (Symbol.without bar.Returns (Symbol.statement n) ∷ (plain_more n ++ symbols)) vs (ts ++ rest)
plain_statement_item n [] rest symbols vs start free = absurd start
plain_statement_item n (t ∷ ts) rest symbols vs start free =
    trace_unfolds (Symbol.helper_body n) (Symbol.without bar.Returns (Symbol.statement n)) (plain_more n) symbols vs t (ts ++ rest)
    (ap (λ b. helper_body_move n b t.word) start.no_type ∙ plain_item_is n t.word free.0)
    (limited_stays bar.Returns (move (Symbol.statement n) t.word) (bars bar.Returns t.word) (statement_stays n t.word))

-- a statement, where the word return is barred
leads_plain_stmt : (f : Bool) (ts : List Token) (s : Stmt) (d : DerivesStmt f ts s) (n : ℕ) (rest : List Token) → NoneBarred bar.Returns ts → (f ≡ true → is_else rest ≡ false) → (symbols : List Symbol) (vs : List Value)
    → Leads (stmt_nesting n d) ts rest (Symbol.without bar.Returns (Symbol.statement n) ∷ symbols) vs symbols (Value.of_stmt ts s ∷ vs)
leads_plain_stmt f ts s d n rest free last symbols vs = record {
  runs = without_runs bar.Returns (stmt_nesting n d) ts rest (Symbol.statement n ∷ []) vs (Value.of_stmt ts s ∷ vs) free (leads_stmt f ts s d n rest last [] vs).runs (leads_stmt f ts s d n [] (λ h. refl) [] vs).runs symbols;
}

-- what follows the type of a declaration in a helper
abbrev pub declared_more : ℕ → List Symbol
declared_more n = without_all bar.Returns (declarators n) ++ Symbol.reduce Reduction.declared_items ∷ Symbol.helper_body n ∷ []

plain_declaration_item : (n : ℕ) (ts rest : List Token) (ds : List Stmt) (symbols : List Symbol) (vs : List Value) → DerivesDeclaration ts ds
    → trace (Symbol.helper_body n ∷ symbols) vs (ts ++ rest) ≡ trace (Symbol.without bar.Returns (Symbol.a_type n) ∷ (declared_more n ++ symbols)) vs (ts ++ rest)
plain_declaration_item n ts rest ds symbols vs (DerivesDeclaration.declaration us ws z t xs ty d) =
    trace_starts IsTypeWord (Symbol.helper_body n) (Symbol.without bar.Returns (Symbol.a_type n)) (declared_more n) symbols vs (us ++ (ws ++ marked mark.Semicolon z ∷ [])) rest
    (starts_behind IsTypeWord us (ws ++ marked mark.Semicolon z ∷ []) (type_starts us t ty)) (λ w h. ap (λ b. helper_body_move n b w) h) (λ w. limited_stays bar.Returns (move (Symbol.a_type n) w) (bars bar.Returns w) (type_stays n w))

leads_plain_declaration : (n : ℕ) (ts rest : List Token) (ds : List Stmt) (d : DerivesDeclaration ts ds) (symbols : List Symbol) (vs : List Value) → NoneBarred bar.Returns ts
    → Leads (declaration_nesting n d) ts rest (Symbol.without bar.Returns (Symbol.a_type n) ∷ (without_all bar.Returns (declarators n) ++ symbols)) vs symbols (Value.of_stmts ts ds ∷ vs)
leads_plain_declaration n ts rest ds d symbols vs free = record {
  runs = without_runs bar.Returns (declaration_nesting n d) ts rest (Symbol.a_type n ∷ declarators n) vs (Value.of_stmts ts ds ∷ vs) free (leads_declaration n ts rest ds d [] vs).runs (leads_declaration n ts [] ds d [] vs).runs symbols;
}

same_stmts : (ts us rest : List Token) (ss ds : List Stmt) (symbols : List Symbol) (vs : List Value) → ts ≡ us → ss ≡ ds → trace symbols (Value.of_stmts ts ss ∷ vs) rest ≡ trace symbols (Value.of_stmts us ds ∷ vs) rest
same_stmts ts us rest ss ds symbols vs p q = ap (λ v. trace symbols (Value.of_stmts v ss ∷ vs) rest) p ∙ ap (λ v. trace symbols (Value.of_stmts us v ∷ vs) rest) q

-- items before a return stand behind those that were read
leads_plain_items : (ts : List Token) (ss : List Stmt) (d : DerivesItems ts ss) (n : ℕ) (r : Span) (rest us : List Token) (ds : List Stmt) (symbols : List Symbol) (vs : List Value) → NoneBarred bar.Returns ts
    → Leads (items_nesting n d) ts (keyed key.Return r ∷ rest) (Symbol.helper_body n ∷ symbols) (Value.of_stmts us ds ∷ vs) (Symbol.helper_body n ∷ symbols) (Value.of_stmts (us ++ ts) (ds ++ ss) ∷ vs)
leads_plain_items ts ss DerivesItems.done n r rest us ds symbols vs free =
    leads_none (same_stmts us (us ++ []) (keyed key.Return r ∷ rest) ds (ds ++ []) (Symbol.helper_body n ∷ symbols) vs (sym (append-nil us)) (sym (append-nil ds)))
leads_plain_items ts ss (DerivesItems.statement f ws qs s xs d items) n r rest us ds symbols vs free =
    let end : List Token = keyed key.Return r ∷ rest in
    let here = each_front (λ t. bars bar.Returns t.word ≡ false) ws qs free in
    let later = each_back (λ t. bars bar.Returns t.word ≡ false) ws qs free in
    let start : List Value = Value.of_stmts us ds ∷ vs in
    leads_to (leads_join
    (leads_reduced Reduction.statement_item (leads_from (plain_statement_item n ws (qs ++ end) symbols start (stmt_starts f ws s d) here)
    (leads_plain_stmt f ws s d n (qs ++ end) here (λ h. items_no_else qs end xs items refl) (plain_more n ++ symbols) start)))
    (leads_plain_items qs xs items n r rest (us ++ ws) (ds ++ s ∷ []) symbols vs later))
    (same_stmts ((us ++ ws) ++ qs) (us ++ (ws ++ qs)) end ((ds ++ s ∷ []) ++ xs) (ds ++ s ∷ xs) (Symbol.helper_body n ∷ symbols) vs (append_assoc us ws qs) (append_assoc ds (s ∷ []) xs))
leads_plain_items ts ss (DerivesItems.declares ws qs es xs d items) n r rest us ds symbols vs free =
    let end : List Token = keyed key.Return r ∷ rest in
    let here = each_front (λ t. bars bar.Returns t.word ≡ false) ws qs free in
    let later = each_back (λ t. bars bar.Returns t.word ≡ false) ws qs free in
    let start : List Value = Value.of_stmts us ds ∷ vs in
    leads_to (leads_join
    (leads_reduced Reduction.declared_items (leads_from (plain_declaration_item n ws (qs ++ end) es symbols start d)
    (leads_plain_declaration n ws (qs ++ end) es d (Symbol.reduce Reduction.declared_items ∷ Symbol.helper_body n ∷ symbols) start here)))
    (leads_plain_items qs xs items n r rest (us ++ ws) (ds ++ es) symbols vs later))
    (same_stmts ((us ++ ws) ++ qs) (us ++ (ws ++ qs)) end ((ds ++ es) ++ xs) (ds ++ (es ++ xs)) (Symbol.helper_body n ∷ symbols) vs (append_assoc us ws qs) (append_assoc ds es xs))

-- ---- helpers

leads_scalars : (ts rest : List Token) (z : Span) (ps : List Param) (d : DerivesParams ts ps) (symbols : List Symbol) (vs : List Value) → All (λ p. p.dims ≡ []) ps
    → Leads (params_nesting 1 d ++ 1 ∷ []) (ts ++ marked mark.Close z ∷ []) rest (Symbol.without bar.Brackets (Symbol.params 1) ∷ symbols) vs symbols (Value.of_token (marked mark.Close z) ∷ Value.of_params ts ps ∷ vs)
leads_scalars ts rest z ps d symbols vs plain = record {
  runs = without_runs bar.Brackets (params_nesting 1 d ++ 1 ∷ []) (ts ++ marked mark.Close z ∷ []) rest (Symbol.params 1 ∷ []) vs (Value.of_token (marked mark.Close z) ∷ Value.of_params ts ps ∷ vs)
      (each_join IsPlain ts (marked mark.Close z ∷ []) (params_plain ts ps d plain) (refl, tt)) (leads_params 1 ts rest z ps d [] vs).runs (leads_params 1 ts [] z ps d [] vs).runs symbols;
}

-- the block of a helper, with its braces
leads_block : (b : Span) (ts : List Token) (r : Span) (us : List Token) (e y : Span) (rest : List Token) (body : List Stmt) (v : Expr) (items : DerivesItems ts body) (value : DerivesExpr 0 us v) (symbols : List Symbol) (vs : List Value) → NoneBarred bar.Returns ts
    → Leads (enclosed 1 (items_nesting 1 items ++ 1 ∷ (expr_nesting 1 value ++ 1 ∷ []))) (block_tokens b ts r us e y) rest
    (Symbol.fixed 1 Fixed.opening_brace ∷ Symbol.reduce Reduction.no_items ∷ Symbol.helper_body 1 ∷ symbols) vs symbols
    (Value.of_token (marked mark.CloseBrace y) ∷ Value.of_token (marked mark.Semicolon e) ∷ Value.of_expr us v ∷ Value.of_token (keyed key.Return r) ∷ Value.of_stmts ts body ∷ Value.of_token (marked mark.OpenBrace b) ∷ vs)
leads_block b ts r us e y rest body v items value symbols vs free =
    let end : List Token = marked mark.CloseBrace y ∷ rest in
    let start : List Value = Value.of_token (marked mark.OpenBrace b) ∷ vs in
    let returned : List Value = Value.of_token (keyed key.Return r) ∷ Value.of_stmts ts body ∷ start in
    let closing : List Symbol = Symbol.fixed 1 Fixed.closing_brace ∷ symbols in
    let given : Leads (expr_nesting 1 value) us (marked mark.Semicolon e ∷ end) (Symbol.expression 1 0 ∷ Symbol.fixed 1 Fixed.semicolon ∷ closing) returned (Symbol.fixed 1 Fixed.semicolon ∷ closing) (Value.of_expr us v ∷ returned) =
    record { runs = traced_expr 1 us (marked mark.Semicolon e ∷ end) v value (Symbol.fixed 1 Fixed.semicolon ∷ closing) returned (Closed.semicolon e end) } in
    leads_taking (Symbol.fixed 1 Fixed.opening_brace) (marked mark.OpenBrace b) refl (leads_reducing Reduction.no_items (leads_join (leads_join
    (leads_plain_items ts body items 1 r ((us ++ marked mark.Semicolon e ∷ []) ++ end) [] [] symbols start free)
    (leads_taking (Symbol.helper_body 1) (keyed key.Return r) refl (leads_join given (leads_take (Symbol.fixed 1 Fixed.semicolon) (marked mark.Semicolon e) refl))))
    (leads_take (Symbol.fixed 1 Fixed.closing_brace) (marked mark.CloseBrace y) refl)))

leads_helper : (ts rest : List Token) (h : Helper) (d : DerivesHelper ts h) (hs : List Helper) (symbols : List Symbol) (vs : List Value)
    → Leads (helper_nesting d) ts rest (Symbol.program ∷ symbols) (Value.of_helpers hs ∷ vs) (Symbol.program ∷ symbols) (Value.of_helpers (hs ++ h ∷ []) ∷ vs)
leads_helper ts rest h (DerivesHelper.helper rs ps ws us x f s a z b r e y t params body v result inside plain items free value) hs symbols vs =
    let group : List Token = between mark.Open a ps mark.Close z in
    let block : List Token = block_tokens b ws r us e y in
    let typed : List Value = Value.of_ty rs t ∷ Value.of_token (keyed key.Static f) ∷ Value.of_helpers hs ∷ vs in
    let opened : List Value = Value.of_token (marked mark.Open a) ∷ Value.of_token (named x s) ∷ typed in
    let closed : List Value = Value.of_token (marked mark.Close z) ∷ Value.of_params ps params ∷ opened in
    let last : List Symbol = Symbol.reduce Reduction.helper ∷ Symbol.program ∷ symbols in
    let braces : List Symbol = Symbol.fixed 1 Fixed.opening_brace ∷ Symbol.reduce Reduction.no_items ∷ Symbol.helper_body 1 ∷ last in
    let inner : List Symbol = Symbol.fixed 1 Fixed.opening ∷ Symbol.without bar.Brackets (Symbol.params 1) ∷ braces in
    leads_taking Symbol.program (keyed key.Static f) refl
    (leads_join (leads_type 0 rs ((named x s ∷ (group ++ block)) ++ rest) t result (Symbol.a_name 0 ∷ inner) (Value.of_token (keyed key.Static f) ∷ Value.of_helpers hs ∷ vs) refl)
    (leads_taking (Symbol.a_name 0) (named x s) refl
    (leads_join (leads_taking (Symbol.fixed 1 Fixed.opening) (marked mark.Open a) refl (leads_scalars ps (block ++ rest) z params inside braces opened plain))
    (leads_reduced Reduction.helper (leads_block b ws r us e y rest body v items value last closed (none_returns ws free))))))

leads_helpers : (ts rest : List Token) (hs : List Helper) (d : DerivesHelpers ts hs) (old : List Helper) (symbols : List Symbol) (vs : List Value)
    → Leads (helpers_nesting d) ts rest (Symbol.program ∷ symbols) (Value.of_helpers old ∷ vs) (Symbol.program ∷ symbols) (Value.of_helpers (old ++ hs) ∷ vs)
leads_helpers ts rest hs DerivesHelpers.no_more old symbols vs = leads_none (ap (λ xs. trace (Symbol.program ∷ symbols) (Value.of_helpers xs ∷ vs) rest) (sym (append-nil old)))
leads_helpers ts rest hs (DerivesHelpers.one_more us ws h more d ds) old symbols vs =
    leads_to (leads_join (leads_helper us (ws ++ rest) h d old symbols vs) (leads_helpers ws rest more ds (old ++ h ∷ []) symbols vs))
    (ap (λ xs. trace (Symbol.program ∷ symbols) (Value.of_helpers xs ∷ vs) rest) (append_assoc old (h ∷ []) more))

-- ---- programs

followed_stays : (m : Move) (more : List Symbol) → is_pass m ≡ false → is_pass (followed m more) ≡ false
followed_stays Move.pass more h = h
followed_stays (Move.take n new) more h = refl
followed_stays Move.stuck more h = refl

typed_result_stays : (w : Word) → is_pass (followed (type_move 0 w) (Symbol.reduce Reduction.result ∷ [])) ≡ false
typed_result_stays w = followed_stays (type_move 0 w) (Symbol.reduce Reduction.result ∷ []) (type_stays 0 w)

pub result_stays : (w : Word) → is_pass (result_move 0 w) ≡ false
result_stays (word.Key key.Void) = refl
result_stays w = typed_result_stays w

-- what is expected of a kernel behind its helpers
abbrev pub kernel_more : List Symbol
kernel_more = kernel_rest ++ Symbol.reduce Reduction.program ∷ []

type_no_static : (w : Word) → is_type_word w ≡ true → program_move w ≡ followed (result_move 0 w) kernel_more
type_no_static (word.Key key.Static) h = absurd (cc)
type_no_static w h = refl

-- a kernel begins with its result, and no helper does so
kernel_begins : (ts rest : List Token) (tree : Tree) (vs : List Value) → Derives ts tree → trace (Symbol.program ∷ []) vs (ts ++ rest) ≡ trace (Symbol.result 0 ∷ kernel_more) vs (ts ++ rest)
kernel_begins ts rest tree vs (Derives.kernel rs ps us x s a z b e r params body (DerivesResult.void k) inside items) =
    trace_unfolds Symbol.program (Symbol.result 0) kernel_more [] vs (keyed key.Void k) ((named x s ∷ (between mark.Open a ps mark.Close z ++ between mark.OpenBrace b us mark.CloseBrace e)) ++ rest) refl refl
kernel_begins ts rest tree vs (Derives.kernel rs ps us x s a z b e r params body (DerivesResult.a_type qs t type) inside items) =
    let more : List Token = named x s ∷ (between mark.Open a ps mark.Close z ++ between mark.OpenBrace b us mark.CloseBrace e) in
    trace_starts IsTypeWord Symbol.program (Symbol.result 0) kernel_more [] vs (qs ++ more) rest (starts_behind IsTypeWord qs more (type_starts qs t type)) type_no_static result_stays

leads_program : (ts : List Token) (p : Program) (d : DerivesProgram ts p) → Leads (program_nesting ts p d) ts [] program_symbols [] [] (Value.of_program p ∷ [])
leads_program ts p (DerivesProgram.program us ws hs tree ds d) =
    leads_reducing Reduction.no_helpers (leads_join (leads_helpers us (ws ++ []) hs ds [] [] [])
    (leads_reduced Reduction.program (leads_from (kernel_begins ws [] tree (Value.of_helpers hs ∷ []) d) (leads_kernel ws [] tree d (Symbol.reduce Reduction.program ∷ []) (Value.of_helpers hs ∷ [])))))

pub traced_program : (ts : List Token) (p : Program) (d : DerivesProgram ts p) → Runs (program_nesting ts p d) ts (trace program_symbols [] ts) (Trace.complete (Value.of_program p ∷ []))
traced_program ts p d = subst (λ us. Runs (program_nesting ts p d) ts (trace program_symbols [] us) (Trace.complete (Value.of_program p ∷ []))) (append-nil ts) (leads_program ts p d).runs
