-- What derives as a statement, or as the items of a block, is traced: the parser takes its tokens with their nestings, and leaves its value.
use Rattle.std.proofs.Common.{◌≡◌, ℕ, suc, List, [], ◌∷◌, ◌++◌, Bool, true, false, Option, Some, None, refl, sym, ◌∙◌, ap, subst, append_assoc}
use Rattle.std.proofs.lemmas.List.{append-nil}
use Rattle.el_base.specs.declared.span.Span.{Span}
use Rattle.c_ast.specs.declared.token.Token.{Token}
use Rattle.c_ast.specs.declared.key.Key.TheVariants as key
use Rattle.c_ast.specs.declared.mark.Mark.TheVariants as mark
use Rattle.c_ast.specs.declared.tree.Expr.{Expr}
use Rattle.c_ast.specs.declared.tree.Stmt.{Stmt}
use Rattle.c_ast.specs.declared.tree.StmtKind.TheVariants as stmt
use Rattle.c_ast.specs.Derives.{marked, keyed, stmt_of, between, if_tokens, if_else_tokens, while_tokens, do_tokens, for_tokens, DerivesExpr, DerivesSimple, DerivesOption, DerivesStep, DerivesDeclaration, DerivesFirst, DerivesStmt, DerivesItems}
use Rattle.c_ast.specs.Nesting.{enclosed, head_nesting, expr_nesting, simple_nesting, option_nesting, step_nesting, declaration_nesting, first_nesting, stmt_nesting, items_nesting}
use Rattle.c_parse.specs.Symbols.{Symbol, Reduction, Fixed, in_group}
use Rattle.c_parse.specs.Values.{Value, stmt_value}
use Rattle.c_parse.specs.Traces.{trace}
use Rattle.c_parse.specs.Reads.{is_else}
use Rattle.c_parse.proofs.Closing.{Closed}
use Rattle.c_parse.proofs.Leading.{Leads, leads_join, leads_taking, leads_take, leads_from, leads_to, leads_reducing, leads_reduced}
use Rattle.c_parse.proofs.TracedExprs.{traced_expr}
use Rattle.c_parse.proofs.TracedSimple.{leads_simple}
use Rattle.c_parse.proofs.TracedParts.{leads_declaration, leads_first, leads_condition, leads_last}
use Rattle.c_parse.proofs.StmtRules.{closed_end}
use Rattle.c_parse.proofs.StmtStarts.{trace_other, simple_stmt, statement_item, declaration_item, items_no_else}
use Rattle.c_parse.proofs.Starting.{stmt_starts}

-- a statement with these nestings is read before the rest, whatever is expected behind it
abbrev LeadsStmt : ℕ → List ℕ → List Token → List Token → Stmt → Type 0
LeadsStmt n ns ts rest s = (symbols : List Symbol) (vs : List Value) → Leads ns ts rest (Symbol.statement n ∷ symbols) vs symbols (Value.of_stmt ts s ∷ vs)

-- Items with these nestings, and the closing brace behind them, are read before the rest, and stand behind those that were read before.
abbrev LeadsItems : ℕ → List ℕ → List Token → List Token → List Stmt → Type 0
LeadsItems n ns ts rest ss = (us : List Token) (ds : List Stmt) (z : Span) (symbols : List Symbol) (vs : List Value)
    → Leads (ns ++ n ∷ []) (ts ++ marked mark.CloseBrace z ∷ []) rest (Symbol.body n ∷ symbols) (Value.of_stmts us ds ∷ vs) symbols (Value.of_token (marked mark.CloseBrace z) ∷ Value.of_stmts (us ++ ts) (ds ++ ss) ∷ vs)

-- ---- control statements

-- the values where an expression in parentheses was read
abbrev group_values : Span → List Token → Span → Expr → List Value → List Value
group_values a ts z e vs = Value.of_token (marked mark.Close z) ∷ Value.of_expr ts e ∷ Value.of_token (marked mark.Open a) ∷ vs

leads_group : (n : ℕ) (ts rest : List Token) (a z : Span) (e : Expr) (d : DerivesExpr 0 ts e) (symbols : List Symbol) (vs : List Value)
    → Leads (enclosed n (expr_nesting n d)) (between mark.Open a ts mark.Close z) rest (in_group n symbols) vs symbols (group_values a ts z e vs)
leads_group n ts rest a z e d symbols vs =
    let begun : List Value = Value.of_token (marked mark.Open a) ∷ vs in
    let closed : List Symbol = Symbol.fixed n Fixed.closing ∷ symbols in
    let inner : Leads (expr_nesting n d) ts (marked mark.Close z ∷ rest) (Symbol.expression n 0 ∷ closed) begun closed (Value.of_expr ts e ∷ begun) =
    record { runs = traced_expr n ts (marked mark.Close z ∷ rest) e d closed begun (Closed.closing z rest) }
    in
    leads_taking (Symbol.fixed n Fixed.opening) (marked mark.Open a) refl
    (leads_join inner
    (leads_take (Symbol.fixed n Fixed.closing) (marked mark.Close z) refl))

-- what an if expects behind its condition
abbrev branches : ℕ → List Symbol → List Symbol
branches n symbols = Symbol.statement n ∷ Symbol.reduce Reduction.no_other ∷ Symbol.other n ∷ Symbol.reduce Reduction.if_done ∷ symbols

-- an if up to what stands before its else
leads_if_part : (n : ℕ) (ns : List ℕ) (s a z : Span) (ts us rest : List Token) (c : Expr) (b : Stmt) (cond : DerivesExpr 0 ts c) → LeadsStmt (suc n) ns us rest b → (symbols : List Symbol) (vs : List Value)
    → Leads (head_nesting (suc n) cond ++ ns) (if_tokens s a ts z us) rest (Symbol.statement n ∷ symbols) vs
    (Symbol.other (suc n) ∷ Symbol.reduce Reduction.if_done ∷ symbols) (Value.of_maybe_stmt [] None ∷ Value.of_stmt us b ∷ group_values a ts z c (Value.of_token (keyed key.If s) ∷ vs))
leads_if_part n ns s a z ts us rest c b cond body symbols vs =
    let begun : List Value = Value.of_token (keyed key.If s) ∷ vs in
    let later : List Symbol = Symbol.reduce Reduction.no_other ∷ Symbol.other (suc n) ∷ Symbol.reduce Reduction.if_done ∷ symbols in
    leads_taking (Symbol.statement n) (keyed key.If s) refl
    (leads_join (leads_group (suc (suc n)) ts (us ++ rest) a z c cond (branches (suc n) symbols) begun)
    (leads_reduced Reduction.no_other (body later (group_values a ts z c begun))))

leads_if : (n : ℕ) (ns : List ℕ) (s a z : Span) (ts us rest : List Token) (c : Expr) (b : Stmt) (cond : DerivesExpr 0 ts c) → LeadsStmt (suc n) ns us rest b → is_else rest ≡ false
    → LeadsStmt n (head_nesting (suc n) cond ++ ns) (if_tokens s a ts z us) rest (stmt_of (stmt.If c b None) (if_tokens s a ts z us))
leads_if n ns s a z ts us rest c b cond body last symbols vs =
    let values : List Value = Value.of_maybe_stmt [] None ∷ Value.of_stmt us b ∷ group_values a ts z c (Value.of_token (keyed key.If s) ∷ vs) in
    leads_to (leads_reduced Reduction.if_done (leads_to (leads_if_part n ns s a z ts us rest c b cond body symbols vs) (trace_other (suc n) (Symbol.reduce Reduction.if_done ∷ symbols) values rest last)))
    (ap (λ ws. trace symbols (stmt_value (stmt.If c b None) ws ∷ vs) rest) (append-nil (if_tokens s a ts z us)))

leads_if_else : (n : ℕ) (ns ms : List ℕ) (s a z e : Span) (ts us ws rest : List Token) (c : Expr) (b o : Stmt) (cond : DerivesExpr 0 ts c)
    → LeadsStmt (suc n) ns us (keyed key.Else e ∷ (ws ++ rest)) b → LeadsStmt (suc n) ms ws rest o
    → LeadsStmt n ((head_nesting (suc n) cond ++ ns) ++ suc n ∷ ms) (if_else_tokens s a ts z us e ws) rest (stmt_of (stmt.If c b (Some o)) (if_else_tokens s a ts z us e ws))
leads_if_else n ns ms s a z e ts us ws rest c b o cond body other symbols vs =
    let values : List Value = Value.of_maybe_stmt [] None ∷ Value.of_stmt us b ∷ group_values a ts z c (Value.of_token (keyed key.If s) ∷ vs) in
    leads_join (leads_if_part n ns s a z ts us (keyed key.Else e ∷ (ws ++ rest)) c b cond body symbols vs)
    (leads_reduced Reduction.if_done (leads_reduced Reduction.other (leads_taking (Symbol.other (suc n)) (keyed key.Else e) refl
    (other (Symbol.reduce Reduction.other ∷ Symbol.reduce Reduction.if_done ∷ symbols) (Value.of_token (keyed key.Else e) ∷ values)))))

leads_while : (n : ℕ) (ns : List ℕ) (s a z : Span) (ts us rest : List Token) (c : Expr) (b : Stmt) (cond : DerivesExpr 0 ts c) → LeadsStmt (suc n) ns us rest b
    → LeadsStmt n (head_nesting (suc n) cond ++ ns) (while_tokens s a ts z us) rest (stmt_of (stmt.While c b) (while_tokens s a ts z us))
leads_while n ns s a z ts us rest c b cond body symbols vs =
    let begun : List Value = Value.of_token (keyed key.While s) ∷ vs in
    let later : List Symbol = Symbol.reduce Reduction.while_done ∷ symbols in
    leads_reduced Reduction.while_done (leads_taking (Symbol.statement n) (keyed key.While s) refl
    (leads_join (leads_group (suc (suc n)) ts (us ++ rest) a z c cond (Symbol.statement (suc n) ∷ later) begun) (body later (group_values a ts z c begun))))

leads_do : (n : ℕ) (ns : List ℕ) (s w a z y : Span) (ts us rest : List Token) (c : Expr) (b : Stmt) (cond : DerivesExpr 0 ts c)
    → LeadsStmt (suc n) ns us (keyed key.While w ∷ (between mark.Open a ts mark.Close z ++ marked mark.Semicolon y ∷ rest)) b
    → LeadsStmt n ((suc n ∷ (ns ++ head_nesting (suc n) cond)) ++ suc n ∷ []) (do_tokens s us w a ts z ++ marked mark.Semicolon y ∷ []) rest (stmt_of (stmt.DoWhile b c) (do_tokens s us w a ts z))
leads_do n ns s w a z y ts us rest c b cond body symbols vs =
    let begun : List Value = Value.of_token (keyed key.Do s) ∷ vs in
    let closed : List Symbol = Symbol.fixed (suc n) Fixed.semicolon ∷ Symbol.reduce Reduction.do_done ∷ symbols in
    let later : List Symbol = Symbol.fixed (suc n) Fixed.while_word ∷ in_group (suc (suc n)) closed in
    leads_reduced Reduction.do_done (leads_join (leads_taking (Symbol.statement n) (keyed key.Do s) refl
    (leads_join (body later begun) (leads_taking (Symbol.fixed (suc n) Fixed.while_word) (keyed key.While w) refl
    (leads_group (suc (suc n)) ts (marked mark.Semicolon y ∷ rest) a z c cond closed (Value.of_token (keyed key.While w) ∷ Value.of_stmt us b ∷ begun)))))
    (leads_take (Symbol.fixed (suc n) Fixed.semicolon) (marked mark.Semicolon y) refl))

-- ---- for

-- a part with the mark behind it, and then other tokens
leads_part : (ns : List ℕ) (n : ℕ) (ts : List Token) (t : Token) {ms : List ℕ} {us rest : List Token} {s0 s1 s2 : List Symbol} {v0 v1 v2 : List Value}
    → Leads (ns ++ n ∷ []) (ts ++ t ∷ []) (us ++ rest) s0 v0 s1 v1 → Leads ms us rest s1 v1 s2 v2 → Leads (ns ++ n ∷ ms) (ts ++ t ∷ us) rest s0 v0 s2 v2
leads_part ns n ts t {ms} {us} {rest} {s0} {s1} {s2} {v0} {v1} {v2} p q =
    subst (λ ks. Leads ks (ts ++ t ∷ us) rest s0 v0 s2 v2) (append_assoc ns (n ∷ []) ms) (subst (λ ws. Leads ((ns ++ n ∷ []) ++ ms) ws rest s0 v0 s2 v2) (append_assoc ts (t ∷ []) us) (leads_join p q))

leads_for : (n : ℕ) (ns : List ℕ) (s a b z : Span) (ts us ws xs rest : List Token) (ss : List Stmt) (c : Option Expr) (o : Option Stmt) (x : Stmt)
    (first : DerivesFirst ts ss) (cond : DerivesOption us c) (step : DerivesStep ws o) → LeadsStmt (suc n) ns xs rest x
    → LeadsStmt n (suc n ∷ suc (suc n) ∷ (first_nesting (suc (suc n)) first ++ (option_nesting (suc (suc n)) cond ++ suc (suc n) ∷ (step_nesting (suc (suc n)) step ++ suc (suc n) ∷ ns))))
    (for_tokens s a ts us b ws z xs) rest (stmt_of (stmt.For ss c o x) (for_tokens s a ts us b ws z xs))
leads_for n ns s a b z ts us ws xs rest ss c o x first cond step body symbols vs =
    let m : ℕ = suc (suc n) in
    let finished : List Symbol = Symbol.statement (suc n) ∷ Symbol.reduce Reduction.for_done ∷ symbols in
    let begun : List Value = Value.of_token (marked mark.Open a) ∷ Value.of_token (keyed key.For s) ∷ vs in
    let with_first : List Value = Value.of_stmts ts ss ∷ begun in
    let with_condition : List Value = Value.of_token (marked mark.Semicolon b) ∷ Value.of_maybe_expr us c ∷ with_first in
    let with_step : List Value = Value.of_token (marked mark.Close z) ∷ Value.of_maybe_stmt ws o ∷ with_condition in
    let behind_condition : List Token = ws ++ marked mark.Close z ∷ xs in
    let behind_first : List Token = us ++ marked mark.Semicolon b ∷ behind_condition in
    leads_taking (Symbol.statement n) (keyed key.For s) refl (leads_taking (Symbol.fixed m Fixed.opening) (marked mark.Open a) refl
    (leads_join (leads_first m ts (behind_first ++ rest) ss first (Symbol.condition m ∷ Symbol.last m ∷ finished) begun)
    (leads_part (option_nesting m cond) m us (marked mark.Semicolon b) (leads_condition m us (behind_condition ++ rest) c cond b (Symbol.last m ∷ finished) with_first)
    (leads_part (step_nesting m step) m ws (marked mark.Close z) (leads_last m ws (xs ++ rest) o step z finished with_condition)
    (leads_reduced Reduction.for_done (body (Symbol.reduce Reduction.for_done ∷ symbols) with_step))))))

-- ---- statements without parts that are statements

leads_simple_stmt : (n : ℕ) (ts rest : List Token) (z : Span) (s : Stmt) (d : DerivesSimple ts s) → LeadsStmt n (simple_nesting n d ++ n ∷ []) (ts ++ marked mark.Semicolon z ∷ []) rest s
leads_simple_stmt n ts rest z s d symbols vs =
    let later : List Symbol = Symbol.fixed n Fixed.semicolon ∷ Symbol.reduce Reduction.simple ∷ symbols in
    let behind : List Token = marked mark.Semicolon z ∷ rest in
    leads_reduced Reduction.simple (leads_join (leads_from (simple_stmt n ts behind s symbols vs d) (leads_simple n ts behind s d later vs (Closed.semicolon z rest)))
    (leads_take (Symbol.fixed n Fixed.semicolon) (marked mark.Semicolon z) refl))

leads_empty : (n : ℕ) (s : Span) (rest : List Token) → LeadsStmt n (n ∷ []) (marked mark.Semicolon s ∷ []) rest (stmt_of stmt.Empty (marked mark.Semicolon s ∷ []))
leads_empty n s rest symbols vs = leads_reduced Reduction.empty (leads_take (Symbol.statement n) (marked mark.Semicolon s) refl)

leads_leaving : (n : ℕ) (s z : Span) (rest : List Token) → LeadsStmt n (n ∷ n ∷ []) (keyed key.Break s ∷ marked mark.Semicolon z ∷ []) rest (stmt_of stmt.Break (keyed key.Break s ∷ []))
leads_leaving n s z rest symbols vs =
    leads_reduced Reduction.leaving (leads_taking (Symbol.statement n) (keyed key.Break s) refl (leads_take (Symbol.fixed n Fixed.semicolon) (marked mark.Semicolon z) refl))

leads_continuing : (n : ℕ) (s z : Span) (rest : List Token) → LeadsStmt n (n ∷ n ∷ []) (keyed key.Continue s ∷ marked mark.Semicolon z ∷ []) rest (stmt_of stmt.Continue (keyed key.Continue s ∷ []))
leads_continuing n s z rest symbols vs =
    leads_reduced Reduction.continuing (leads_taking (Symbol.statement n) (keyed key.Continue s) refl (leads_take (Symbol.fixed n Fixed.semicolon) (marked mark.Semicolon z) refl))

leads_returning : (n : ℕ) (s z : Span) (ts rest : List Token) (e : Option Expr) (d : DerivesOption ts e)
    → LeadsStmt n (n ∷ (option_nesting n d ++ n ∷ [])) (keyed key.Return s ∷ (ts ++ marked mark.Semicolon z ∷ [])) rest (stmt_of (stmt.Return e) (keyed key.Return s ∷ ts))
leads_returning n s z ts rest e d symbols vs =
    leads_reduced Reduction.returning (leads_taking (Symbol.statement n) (keyed key.Return s) refl
    (leads_condition n ts rest e d z (Symbol.reduce Reduction.returning ∷ symbols) (Value.of_token (keyed key.Return s) ∷ vs)))

leads_block : (n : ℕ) (ns : List ℕ) (ts rest : List Token) (s z : Span) (ss : List Stmt) → LeadsItems (suc n) ns ts rest ss
    → LeadsStmt n (enclosed (suc n) ns) (between mark.OpenBrace s ts mark.CloseBrace z) rest (stmt_of (stmt.Block ss) (between mark.OpenBrace s ts mark.CloseBrace z))
leads_block n ns ts rest s z ss items symbols vs =
    leads_reduced Reduction.block (leads_taking (Symbol.statement n) (marked mark.OpenBrace s) refl
    (leads_reducing Reduction.no_items (items [] [] z (Symbol.reduce Reduction.block ∷ symbols) (Value.of_token (marked mark.OpenBrace s) ∷ vs))))

-- ---- items

same_stmts : (ts us rest : List Token) (ss ds : List Stmt) (z : Token) (symbols : List Symbol) (vs : List Value) → ts ≡ us → ss ≡ ds
    → trace symbols (Value.of_token z ∷ Value.of_stmts ts ss ∷ vs) rest ≡ trace symbols (Value.of_token z ∷ Value.of_stmts us ds ∷ vs) rest
same_stmts ts us rest ss ds z symbols vs p q =
    ap (λ v. trace symbols (Value.of_token z ∷ Value.of_stmts v ss ∷ vs) rest) p ∙ ap (λ v. trace symbols (Value.of_token z ∷ Value.of_stmts us v ∷ vs) rest) q

leads_no_items : (n : ℕ) (rest : List Token) → LeadsItems n [] [] rest []
leads_no_items n rest us ds z symbols vs =
    leads_to (leads_take (Symbol.body n) (marked mark.CloseBrace z) refl) (same_stmts us (us ++ []) rest ds (ds ++ []) (marked mark.CloseBrace z) symbols vs (sym (append-nil us)) (sym (append-nil ds)))

-- one item is read before the rest, and its statements are added to those that were read before
abbrev LeadsItem : ℕ → List ℕ → List Token → List Token → List Stmt → Type 0
LeadsItem n ns ts rest ss = (us : List Token) (ds : List Stmt) (symbols : List Symbol) (vs : List Value)
    → Leads ns ts rest (Symbol.body n ∷ symbols) (Value.of_stmts us ds ∷ vs) (Symbol.body n ∷ symbols) (Value.of_stmts (us ++ ts) (ds ++ ss) ∷ vs)

leads_item_then : (n : ℕ) (ns ms : List ℕ) (ts us rest : List Token) (new ss : List Stmt) → ((z : Span) → LeadsItem n ns ts ((us ++ marked mark.CloseBrace z ∷ []) ++ rest) new) → LeadsItems n ms us rest ss
    → LeadsItems n (ns ++ ms) (ts ++ us) rest (new ++ ss)
leads_item_then n ns ms ts us rest new ss item items read old z symbols vs =
    let brace : Token = marked mark.CloseBrace z in
    let start : List Value = Value.of_stmts read old ∷ vs in
    let finish : List Value = Value.of_token brace ∷ Value.of_stmts (read ++ (ts ++ us)) (old ++ (new ++ ss)) ∷ vs in
    let whole : Leads (ns ++ (ms ++ n ∷ [])) (ts ++ (us ++ brace ∷ [])) rest (Symbol.body n ∷ symbols) start symbols finish =
    leads_to (leads_join (item z read old symbols vs) (items (read ++ ts) (old ++ new) z symbols vs))
    (same_stmts ((read ++ ts) ++ us) (read ++ (ts ++ us)) rest ((old ++ new) ++ ss) (old ++ (new ++ ss)) brace symbols vs (append_assoc read ts us) (append_assoc old new ss))
    in
    subst (λ ks. Leads ks ((ts ++ us) ++ brace ∷ []) rest (Symbol.body n ∷ symbols) start symbols finish) (sym (append_assoc ns ms (n ∷ [])))
    (subst (λ ws. Leads (ns ++ (ms ++ n ∷ [])) ws rest (Symbol.body n ∷ symbols) start symbols finish) (sym (append_assoc ts us (brace ∷ []))) whole)

leads_stmt_item : (f : Bool) (n : ℕ) (ns : List ℕ) (ts rest : List Token) (s : Stmt) → DerivesStmt f ts s → LeadsStmt n ns ts rest s → LeadsItem n ns ts rest (s ∷ [])
leads_stmt_item f n ns ts rest s d one us ds symbols vs =
    let values : List Value = Value.of_stmts us ds ∷ vs in
    leads_reduced Reduction.statement_item (leads_from (statement_item n ts rest symbols values (stmt_starts f ts s d)) (one (Symbol.reduce Reduction.statement_item ∷ Symbol.body n ∷ symbols) values))

leads_declared_item : (n : ℕ) (ts rest : List Token) (ss : List Stmt) (d : DerivesDeclaration ts ss) → LeadsItem n (declaration_nesting n d) ts rest ss
leads_declared_item n ts rest ss d us ds symbols vs =
    let values : List Value = Value.of_stmts us ds ∷ vs in
    leads_reduced Reduction.declared_items
    (leads_from (declaration_item n ts rest ss symbols values d) (leads_declaration n ts rest ss d (Symbol.reduce Reduction.declared_items ∷ Symbol.body n ∷ symbols) values))

-- ---- all statements and items

-- no else stands where further items and the closing brace stand
behind_items : (ts rest : List Token) (ss : List Stmt) (z : Span) → DerivesItems ts ss → is_else ((ts ++ marked mark.CloseBrace z ∷ []) ++ rest) ≡ false
behind_items ts rest ss z d = ap is_else (append_assoc ts (marked mark.CloseBrace z ∷ []) rest) ∙ items_no_else ts (marked mark.CloseBrace z ∷ rest) ss d refl

mutual
  -- behind a statement that ends in an if without else, no else stands
  pub leads_stmt : (f : Bool) (ts : List Token) (s : Stmt) (d : DerivesStmt f ts s) (n : ℕ) (rest : List Token) → (f ≡ true → is_else rest ≡ false) → LeadsStmt n (stmt_nesting n d) ts rest s
  leads_stmt f ts s (DerivesStmt.block us a z ss items) n rest last = leads_block n (items_nesting (suc n) items) us rest a z ss (leads_items us ss items (suc n) rest)
  leads_stmt f ts s (DerivesStmt.empty a) n rest last = leads_empty n a rest
  leads_stmt f ts s (DerivesStmt.simple us z x d) n rest last = leads_simple_stmt n us rest z x d
  leads_stmt f ts s (DerivesStmt.without_else g i a z us ws c b cond body) n rest last =
      leads_if n (stmt_nesting (suc n) body) i a z us ws rest c b cond (leads_stmt g ws b body (suc n) rest (λ h. last refl)) (last refl)
  leads_stmt f ts s (DerivesStmt.with_else g i a z e us ws xs c b o cond body other) n rest last =
      let later : List Token = keyed key.Else e ∷ (xs ++ rest) in
      leads_if_else n (stmt_nesting (suc n) body) (stmt_nesting (suc n) other) i a z e us ws xs rest c b o cond
      (leads_stmt false ws b body (suc n) later (closed_end later)) (leads_stmt g xs o other (suc n) rest last)
  leads_stmt f ts s (DerivesStmt.while_loop g i a z us ws c b cond body) n rest last = leads_while n (stmt_nesting (suc n) body) i a z us ws rest c b cond (leads_stmt g ws b body (suc n) rest last)
  leads_stmt f ts s (DerivesStmt.do_loop g i w a z y us ws c b body cond) n rest last =
      let later : List Token = keyed key.While w ∷ (between mark.Open a us mark.Close z ++ marked mark.Semicolon y ∷ rest) in
      leads_do n (stmt_nesting (suc n) body) i w a z y us ws rest c b cond (leads_stmt g ws b body (suc n) later (λ h. refl))
  leads_stmt f ts s (DerivesStmt.for_loop g i a b z us ws xs ys ss c o x first cond step body) n rest last =
      leads_for n (stmt_nesting (suc n) body) i a b z us ws xs ys rest ss c o x first cond step (leads_stmt g ys x body (suc n) rest last)
  leads_stmt f ts s (DerivesStmt.leaving a z) n rest last = leads_leaving n a z rest
  leads_stmt f ts s (DerivesStmt.continuing a z) n rest last = leads_continuing n a z rest
  leads_stmt f ts s (DerivesStmt.returning a z us e d) n rest last = leads_returning n a z us rest e d

  pub leads_items : (ts : List Token) (ss : List Stmt) (d : DerivesItems ts ss) (n : ℕ) (rest : List Token) → LeadsItems n (items_nesting n d) ts rest ss
  leads_items ts ss DerivesItems.done n rest = leads_no_items n rest
  leads_items ts ss (DerivesItems.statement f us ws s xs d items) n rest =
      let later : Span → List Token = λ z. (ws ++ marked mark.CloseBrace z ∷ []) ++ rest in
      leads_item_then n (stmt_nesting n d) (items_nesting n items) us ws rest (s ∷ []) xs
      (λ z. leads_stmt_item f n (stmt_nesting n d) us (later z) s d (leads_stmt f us s d n (later z) (λ h. behind_items ws rest xs z items))) (leads_items ws xs items n rest)
  leads_items ts ss (DerivesItems.declares us ws ds xs d items) n rest =
      leads_item_then n (declaration_nesting n d) (items_nesting n items) us ws rest ds xs (λ z. leads_declared_item n us ((ws ++ marked mark.CloseBrace z ∷ []) ++ rest) ds d) (leads_items ws xs items n rest)
