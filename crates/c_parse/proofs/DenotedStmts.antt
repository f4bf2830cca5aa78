-- What assignments, declarations and statements stand for: each move of the table serves what its symbol means.
use Rattle.std.proofs.Common.{◌≡◌, ℕ, suc, List, [], ◌∷◌, ◌++◌, Bool, true, false, Option, Some, None, zero-le, refl, sym, ◌∙◌, ap, subst, append_assoc}
use Rattle.std.proofs.lemmas.List.{append-nil}
use Rattle.el_base.specs.declared.span.Span.{Span}
use Rattle.c_ast.specs.declared.token.Token.{Token}
use Rattle.c_ast.specs.declared.token.Word.{Word}
use Rattle.c_ast.specs.declared.token.Word.TheVariants as word
use Rattle.c_ast.specs.declared.key.Key.TheVariants as key
use Rattle.c_ast.specs.declared.mark.Mark.{Mark}
use Rattle.c_ast.specs.declared.mark.Mark.TheVariants as mark
use Rattle.c_ast.specs.declared.tree.Binary.{Binary}
use Rattle.c_ast.specs.declared.tree.Expr.{Expr}
use Rattle.c_ast.specs.declared.tree.Stmt.{Stmt}
use Rattle.c_ast.specs.declared.tree.StmtKind.TheVariants as stmt
use Rattle.c_ast.specs.Derives.{marked, keyed, named, place_of, between, stmt_of, if_tokens, while_tokens, do_tokens, for_tokens, IsAssigning, IsStep, DerivesType, DerivesExpr, DerivesIndices, DerivesTarget, DerivesSimple, DerivesOption, DerivesStep, DerivesDeclared, DerivesDeclarators, DerivesDeclaration, DerivesFirst, DerivesStmt, DerivesItems}
use Rattle.c_parse.specs.Symbols.{Symbol, Reduction, Fixed, followed, name_move, type_move, expression_move, simple_move, assign_move, assigning_move, value_move, more_declared_move, declarators, declaration_move, plain_first_move, first_move, condition_move, last_move, in_group, statement_move, other_move, statement_item_move, body_move}
use Rattle.c_parse.specs.Tables.{assigning_of}
use Rattle.c_parse.proofs.Rules.{assigning_is}
use Rattle.c_parse.proofs.Denotations.{Has, HasStmt, IsEmpty, Joined, Before, Means, Denotes, Serves, token, has, has_stmt, both, skip, ends, last, last_reduced, after_word, after_name, after_mark, by_word, by_mark, after_group, serves_followed, serves_as}
use Rattle.c_parse.proofs.DenotedExprs.{type_serves, expression_serves}

-- ---- assignments and steps

target_of : (x : List ℕ) (s : Span) (ts : List Token) (es : List Expr) → DerivesIndices ts es → Has DerivesTarget (named x s ∷ ts)
target_of x s ts es d = has DerivesTarget (named x s ∷ ts) (record { name = x; at = place_of (named x s ∷ ts); indices = es }) (DerivesTarget.target x s ts es d)

step_before_of : (n : ℕ) (m : Mark) (s : Span) (up : Bool) → IsStep m up → (us : List Token)
    → Denotes (Symbol.a_name n ∷ Symbol.reduce Reduction.no_indices ∷ Symbol.indices n ∷ Symbol.reduce Reduction.target ∷ Symbol.reduce Reduction.step_before ∷ []) us → Has DerivesSimple (marked m s ∷ us)
step_before_of n m s up h us d = after_name (λ vs. Has DerivesSimple (marked m s ∷ vs)) us d (λ x z bs q.
    let j : Joined (Has DerivesIndices) (Joined IsEmpty (Joined IsEmpty IsEmpty)) bs = skip bs q in
    both (λ vs. Has DerivesSimple (marked m s ∷ named x z ∷ vs)) bs j (λ fs es i r.
    ends (λ vs. Has DerivesSimple (marked m s ∷ named x z ∷ (fs ++ vs))) es (skip es (skip es r))
    (let all : List Token = named x z ∷ (fs ++ []) in
    let t : Has DerivesTarget all = subst (λ vs. Has DerivesTarget (named x z ∷ vs)) (sym (append-nil fs)) (target_of x z fs i.value i.derived) in
    has DerivesSimple (marked m s ∷ all) (stmt_of (stmt.Step t.value up) (marked m s ∷ all)) (DerivesSimple.step_before all m s t.value up h t.derived))))

pub simple_serves : (n : ℕ) (w : Word) (s : Span) → Serves false (Has DerivesSimple) (simple_move n w) (token w s)
simple_serves n (word.Name x) s = λ us d. both (λ vs. Has DerivesSimple (named x s ∷ vs)) us (skip us d) (λ fs bs p q.
    let t : Has DerivesTarget (named x s ∷ fs) = target_of x s fs p.value p.derived in
    last bs (skip bs q) (named x s ∷ fs) t.value t.derived)
simple_serves n (word.Mark mark.Increment) s = step_before_of n mark.Increment s true IsStep.up
simple_serves n (word.Mark mark.Decrement) s = step_before_of n mark.Decrement s false IsStep.down
simple_serves n w s = tt

assigned_of : (n : ℕ) (m : Mark) (s : Span) (op : Option Binary) → IsAssigning m op → (us : List Token) → Denotes (Symbol.expression n 0 ∷ Symbol.reduce Reduction.assigned ∷ []) us → Means (Symbol.assigning n) (marked m s ∷ us)
assigned_of n m s op h us d ts t dt =
    let e : Has (DerivesExpr 0) us = last_reduced us d zero-le in
    let all : List Token = ts ++ marked m s ∷ us in
    has DerivesSimple all (stmt_of (stmt.Assign t op e.value) all) (DerivesSimple.assign ts us m s t op e.value dt h e.derived)

step_after_of : (n : ℕ) (m : Mark) (s : Span) (up : Bool) → IsStep m up → (us : List Token) → Denotes (Symbol.reduce Reduction.step_after ∷ []) us → Means (Symbol.assigning n) (marked m s ∷ us)
step_after_of n m s up h us d ts t dt = ends (λ vs. Has DerivesSimple (ts ++ marked m s ∷ vs)) us (skip us d)
    (has DerivesSimple (ts ++ marked m s ∷ []) (stmt_of (stmt.Step t up) (ts ++ marked m s ∷ [])) (DerivesSimple.step_after ts m s t up dt h))

steps_serve : (n : ℕ) (m : Mark) (s : Span) → Serves false (Means (Symbol.assigning n)) (assign_move n m None) (marked m s)
steps_serve n mark.Increment s = step_after_of n mark.Increment s true IsStep.up
steps_serve n mark.Decrement s = step_after_of n mark.Decrement s false IsStep.down
steps_serve n m s = tt

pub assigning_serves : (n : ℕ) (w : Word) (s : Span) → Serves false (Means (Symbol.assigning n)) (assigning_move n w) (token w s)
assigning_serves n (word.Mark m) s = of_mark (assigning_of m) refl
  where
    of_mark : (o : Option (Option Binary)) → assigning_of m ≡ o → Serves false (Means (Symbol.assigning n)) (assign_move n m o) (marked m s)
    of_mark None e = steps_serve n m s
    of_mark (Some op) e = assigned_of n m s op (assigning_is m op e)
assigning_serves n w s = tt

-- ---- declarations

pub declared_serves : (n : ℕ) (w : Word) (s : Span) → Serves false (Means (Symbol.declared n)) (name_move n (Symbol.reduce Reduction.no_value ∷ Symbol.value n ∷ []) w) (token w s)
declared_serves n (word.Name x) s = λ us d t. last us (skip us d) t x s
declared_serves n w s = tt

pub value_serves : (n : ℕ) (w : Word) (s : Span) → Serves true (Means (Symbol.value n)) (value_move n w) (token w s)
value_serves n (word.Mark mark.Assign) a = λ us d t x s.
    let e : Has (DerivesExpr 0) us = last_reduced us d zero-le in
    has (DerivesDeclared t) (named x s ∷ marked mark.Assign a ∷ us) (record { kind = stmt.Declare x t (Some e.value); at = s }) (DerivesDeclared.with_value t x s a us e.value e.derived)
value_serves n w s = refl

pub more_declared_serves : (n : ℕ) (w : Word) (s : Span) → Serves true (Means (Symbol.more_declared n)) (more_declared_move n w) (token w s)
more_declared_serves n (word.Mark mark.Comma) s = λ us d t ts x dx. both (λ vs. Has (DerivesDeclarators t) (ts ++ marked mark.Comma s ∷ vs)) us d (λ fs bs p q.
    let one : Has (DerivesDeclared t) fs = p t in
    let more : Has (DerivesDeclarators t) (fs ++ bs) = last bs (skip bs q) t fs one.value one.derived in
    has (DerivesDeclarators t) (ts ++ marked mark.Comma s ∷ (fs ++ bs)) (x ∷ more.value) (DerivesDeclarators.one_more t ts (fs ++ bs) s x more.value dx more.derived))
more_declared_serves n w s = refl

pub declaration_of : (n : ℕ) (ts us : List Token) → Has DerivesType ts → Denotes (declarators n) us → Has DerivesDeclaration (ts ++ us)
declaration_of n ts us t d = both (λ vs. Has DerivesDeclaration (ts ++ vs)) us d (λ fs bs p q. both (λ vs. Has DerivesDeclaration (ts ++ (fs ++ vs))) bs (skip bs q) (λ gs cs r e.
    after_word (λ vs. Has DerivesDeclaration (ts ++ (fs ++ (gs ++ vs)))) cs e (λ z ws h.
    let one : Has (DerivesDeclared t.value) fs = p t.value in
    let all : Has (DerivesDeclarators t.value) (fs ++ gs) = r t.value fs one.value one.derived in
    let end : List Token = marked mark.Semicolon z ∷ [] in
    ends (λ vs. Has DerivesDeclaration (ts ++ (fs ++ (gs ++ marked mark.Semicolon z ∷ vs)))) ws (skip ws h)
    (subst (λ vs. Has DerivesDeclaration (ts ++ vs)) (append_assoc fs gs end)
    (has DerivesDeclaration (ts ++ ((fs ++ gs) ++ end)) all.value (DerivesDeclaration.declaration ts (fs ++ gs) z t.value all.value t.derived all.derived))))))

pub declaration_serves : (n : ℕ) (w : Word) (s : Span) → Serves false (Has DerivesDeclaration) (declaration_move n w) (token w s)
declaration_serves n w s = serves_followed (Has DerivesType) (Has DerivesDeclaration) false (declarators n) (type_move n w) (token w s) (declaration_of n) (type_serves n w s)

-- ---- the parts of a for

simple_first_of : (n : ℕ) (ts us : List Token) → Has DerivesSimple ts → Denotes (Symbol.fixed n Fixed.semicolon ∷ Symbol.reduce Reduction.simple_first ∷ []) us → Has DerivesFirst (ts ++ us)
simple_first_of n ts us x d = after_word (λ vs. Has DerivesFirst (ts ++ vs)) us d (λ z bs q. ends (λ vs. Has DerivesFirst (ts ++ marked mark.Semicolon z ∷ vs)) bs (skip bs q)
    (has DerivesFirst (ts ++ marked mark.Semicolon z ∷ []) (x.value ∷ []) (DerivesFirst.simple ts z x.value x.derived)))

first_of_simple : (n : ℕ) (w : Word) (s : Span) → Serves false (Has DerivesFirst) (followed (simple_move n w) (Symbol.fixed n Fixed.semicolon ∷ Symbol.reduce Reduction.simple_first ∷ [])) (token w s)
first_of_simple n w s = serves_followed (Has DerivesSimple) (Has DerivesFirst) false (Symbol.fixed n Fixed.semicolon ∷ Symbol.reduce Reduction.simple_first ∷ []) (simple_move n w) (token w s) (simple_first_of n) (simple_serves n w s)

plain_first_serves : (n : ℕ) (w : Word) (s : Span) → Serves false (Has DerivesFirst) (plain_first_move n w) (token w s)
plain_first_serves n (word.Mark mark.Semicolon) s = λ us d. ends (λ vs. Has DerivesFirst (marked mark.Semicolon s ∷ vs)) us (skip us d) (has DerivesFirst (marked mark.Semicolon s ∷ []) [] (DerivesFirst.nothing s))
plain_first_serves n w s = first_of_simple n w s

pub first_serves : (n : ℕ) (b : Bool) (w : Word) (s : Span) → Serves false (Has DerivesFirst) (first_move n b w) (token w s)
first_serves n true w s = serves_as (Has DerivesDeclaration) (Has DerivesFirst) false (declaration_move n w) (token w s) (λ us x. has DerivesFirst us x.value (DerivesFirst.declares us x.value x.derived)) (declaration_serves n w s)
first_serves n false w s = plain_first_serves n w s

some_condition_of : (n : ℕ) (ts us : List Token) → Means (Symbol.expression n 0) ts → Denotes (Symbol.reduce Reduction.some_condition ∷ Symbol.fixed n Fixed.semicolon ∷ []) us → Means (Symbol.condition n) (ts ++ us)
some_condition_of n ts us x d = by_word (λ vs. Before mark.Semicolon (Has DerivesOption) (ts ++ vs)) us (last us (skip us d)) (λ z.
    let e : Has (DerivesExpr 0) ts = x zero-le in
    Before.before ts z (has DerivesOption ts (Some e.value) (DerivesOption.present ts e.value e.derived)))

condition_of_expression : (n : ℕ) (w : Word) (s : Span) → Serves false (Means (Symbol.condition n)) (followed (expression_move n 0 w) (Symbol.reduce Reduction.some_condition ∷ Symbol.fixed n Fixed.semicolon ∷ [])) (token w s)
condition_of_expression n w s = serves_followed (Means (Symbol.expression n 0)) (Means (Symbol.condition n)) false (Symbol.reduce Reduction.some_condition ∷ Symbol.fixed n Fixed.semicolon ∷ []) (expression_move n 0 w) (token w s)
    (some_condition_of n) (expression_serves n 0 w s)

pub condition_serves : (n : ℕ) (w : Word) (s : Span) → Serves false (Means (Symbol.condition n)) (condition_move n w) (token w s)
condition_serves n (word.Mark mark.Semicolon) s = λ us d. ends (λ vs. Before mark.Semicolon (Has DerivesOption) (marked mark.Semicolon s ∷ vs)) us (skip us d) (Before.before [] s (has DerivesOption [] None DerivesOption.absent))
condition_serves n w s = condition_of_expression n w s

some_step_of : (n : ℕ) (ts us : List Token) → Has DerivesSimple ts → Denotes (Symbol.reduce Reduction.some_step ∷ Symbol.fixed n Fixed.closing ∷ []) us → Means (Symbol.last n) (ts ++ us)
some_step_of n ts us x d = by_word (λ vs. Before mark.Close (Has DerivesStep) (ts ++ vs)) us (last us (skip us d)) (λ z.
    Before.before ts z (has DerivesStep ts (Some x.value) (DerivesStep.present ts x.value x.derived)))

last_of_simple : (n : ℕ) (w : Word) (s : Span) → Serves false (Means (Symbol.last n)) (followed (simple_move n w) (Symbol.reduce Reduction.some_step ∷ Symbol.fixed n Fixed.closing ∷ [])) (token w s)
last_of_simple n w s = serves_followed (Has DerivesSimple) (Means (Symbol.last n)) false (Symbol.reduce Reduction.some_step ∷ Symbol.fixed n Fixed.closing ∷ []) (simple_move n w) (token w s) (some_step_of n) (simple_serves n w s)

pub last_serves : (n : ℕ) (w : Word) (s : Span) → Serves false (Means (Symbol.last n)) (last_move n w) (token w s)
last_serves n (word.Mark mark.Close) s = λ us d. ends (λ vs. Before mark.Close (Has DerivesStep) (marked mark.Close s ∷ vs)) us (skip us d) (Before.before [] s (has DerivesStep [] None DerivesStep.absent))
last_serves n w s = last_of_simple n w s

-- ---- else: whatever statement stands before it, some if in it takes it

cast_stmt : (ts us : List Token) → ts ≡ us → HasStmt ts → HasStmt us
cast_stmt ts us h x = subst HasStmt h x

for_tokens_append : (s a : Span) (ts cs : List Token) (m : Span) (ps : List Token) (z : Span) (ws us : List Token) → for_tokens s a ts cs m ps z (ws ++ us) ≡ for_tokens s a ts cs m ps z ws ++ us
for_tokens_append s a ts cs m ps z ws us =
    let late : List Token = ps ++ marked mark.Close z ∷ ws in
    let middle : List Token = cs ++ marked mark.Semicolon m ∷ late in
    ap (λ qs. keyed key.For s ∷ marked mark.Open a ∷ qs)
    (sym (append_assoc ts middle us ∙ ap (λ qs. ts ++ qs) (append_assoc cs (marked mark.Semicolon m ∷ late) us ∙ ap (λ qs. cs ++ marked mark.Semicolon m ∷ qs) (append_assoc ps (marked mark.Close z ∷ ws) us))))

pub else_joins : (f : Bool) (us vs : List Token) (e : Span) (b : Stmt) → DerivesStmt f us b → f ≡ true → HasStmt vs → HasStmt (us ++ keyed key.Else e ∷ vs)
else_joins f us vs e b (DerivesStmt.block ts s z ss d) h o = absurd (cc)
else_joins f us vs e b (DerivesStmt.empty s) h o = absurd (cc)
else_joins f us vs e b (DerivesStmt.simple ts z x d) h o = absurd (cc)
else_joins f us vs e b (DerivesStmt.without_else false s a z ts ws c x cond d) h o =
    let all : List Token = if_tokens s a ts z ws ++ keyed key.Else e ∷ vs in
    has_stmt o.open_end all (stmt_of (stmt.If c x (Some o.value)) all) (DerivesStmt.with_else o.open_end s a z e ts ws vs c x o.value cond d o.derived)
else_joins f us vs e b (DerivesStmt.without_else true s a z ts ws c x cond d) h o =
    let y : HasStmt (ws ++ keyed key.Else e ∷ vs) = else_joins true ws vs e x d refl o in
    let all : List Token = if_tokens s a ts z (ws ++ keyed key.Else e ∷ vs) in
    cast_stmt all (if_tokens s a ts z ws ++ keyed key.Else e ∷ vs) (ap (λ qs. keyed key.If s ∷ qs) (sym (append_assoc (between mark.Open a ts mark.Close z) ws (keyed key.Else e ∷ vs))))
    (has_stmt true all (stmt_of (stmt.If c y.value None) all) (DerivesStmt.without_else y.open_end s a z ts (ws ++ keyed key.Else e ∷ vs) c y.value cond y.derived))
else_joins f us vs e b (DerivesStmt.with_else g s a z i ts ws qs c x y cond d q) h o =
    let more : HasStmt (qs ++ keyed key.Else e ∷ vs) = else_joins f qs vs e y q h o in
    let all : List Token = if_tokens s a ts z ws ++ keyed key.Else i ∷ (qs ++ keyed key.Else e ∷ vs) in
    cast_stmt all ((if_tokens s a ts z ws ++ keyed key.Else i ∷ qs) ++ keyed key.Else e ∷ vs) (sym (append_assoc (if_tokens s a ts z ws) (keyed key.Else i ∷ qs) (keyed key.Else e ∷ vs)))
    (has_stmt more.open_end all (stmt_of (stmt.If c x (Some more.value)) all) (DerivesStmt.with_else more.open_end s a z i ts ws (qs ++ keyed key.Else e ∷ vs) c x more.value cond d more.derived))
else_joins f us vs e b (DerivesStmt.while_loop g s a z ts ws c x cond d) h o =
    let y : HasStmt (ws ++ keyed key.Else e ∷ vs) = else_joins f ws vs e x d h o in
    let all : List Token = while_tokens s a ts z (ws ++ keyed key.Else e ∷ vs) in
    cast_stmt all (while_tokens s a ts z ws ++ keyed key.Else e ∷ vs) (ap (λ qs. keyed key.While s ∷ qs) (sym (append_assoc (between mark.Open a ts mark.Close z) ws (keyed key.Else e ∷ vs))))
    (has_stmt y.open_end all (stmt_of (stmt.While c y.value) all) (DerivesStmt.while_loop y.open_end s a z ts (ws ++ keyed key.Else e ∷ vs) c y.value cond y.derived))
else_joins f us vs e b (DerivesStmt.do_loop g s w a z y ts ws c x d cond) h o = absurd (cc)
else_joins f us vs e b (DerivesStmt.for_loop g s a m z ts cs ps ws first c step x fd cd sd d) h o =
    let y : HasStmt (ws ++ keyed key.Else e ∷ vs) = else_joins f ws vs e x d h o in
    let all : List Token = for_tokens s a ts cs m ps z (ws ++ keyed key.Else e ∷ vs) in
    cast_stmt all (for_tokens s a ts cs m ps z ws ++ keyed key.Else e ∷ vs) (for_tokens_append s a ts cs m ps z ws (keyed key.Else e ∷ vs))
    (has_stmt y.open_end all (stmt_of (stmt.For first c step y.value) all) (DerivesStmt.for_loop y.open_end s a m z ts cs ps (ws ++ keyed key.Else e ∷ vs) first c step y.value fd cd sd y.derived))
else_joins f us vs e b (DerivesStmt.leaving s z) h o = absurd (cc)
else_joins f us vs e b (DerivesStmt.continuing s z) h o = absurd (cc)
else_joins f us vs e b (DerivesStmt.returning s z ts x d) h o = absurd (cc)

-- ---- statements

pub other_serves : (n : ℕ) (w : Word) (s : Span) → Serves true (Means (Symbol.other n)) (other_move n w) (token w s)
other_serves n (word.Key key.Else) e = λ us d s a z cs ws c cond body.
    let whole : List Token = if_tokens s a cs z ws in
    else_joins true whole us e (stmt_of (stmt.If c body.value None) whole) (DerivesStmt.without_else body.open_end s a z cs ws c body.value cond body.derived) refl (last_reduced us d)
other_serves n w s = refl

if_of : (n : ℕ) (s : Span) (us : List Token)
    → Denotes (in_group (suc (suc n)) (Symbol.statement (suc n) ∷ Symbol.reduce Reduction.no_other ∷ Symbol.other (suc n) ∷ Symbol.reduce Reduction.if_done ∷ [])) us → HasStmt (keyed key.If s ∷ us)
if_of n s us d = after_group (suc (suc n)) (λ vs. HasStmt (keyed key.If s ∷ vs)) us d (λ a z cs bs c cond q.
    let group : List Token = between mark.Open a cs mark.Close z in
    both (λ vs. HasStmt (keyed key.If s ∷ (group ++ vs))) bs q (λ ws os body r.
    cast_stmt (if_tokens s a cs z ws ++ os) (keyed key.If s ∷ (group ++ (ws ++ os))) (ap (λ qs. keyed key.If s ∷ qs) (append_assoc group ws os)) (last_reduced os (skip os r) s a z cs ws c cond body)))

while_of : (n : ℕ) (s : Span) (us : List Token) → Denotes (in_group (suc (suc n)) (Symbol.statement (suc n) ∷ Symbol.reduce Reduction.while_done ∷ [])) us → HasStmt (keyed key.While s ∷ us)
while_of n s us d = after_group (suc (suc n)) (λ vs. HasStmt (keyed key.While s ∷ vs)) us d (λ a z cs bs c cond q.
    let body : HasStmt bs = last_reduced bs q in
    let all : List Token = while_tokens s a cs z bs in
    has_stmt body.open_end all (stmt_of (stmt.While c body.value) all) (DerivesStmt.while_loop body.open_end s a z cs bs c body.value cond body.derived))

do_of : (n : ℕ) (s : Span) (us : List Token)
    → Denotes (Symbol.statement (suc n) ∷ Symbol.fixed (suc n) Fixed.while_word ∷ in_group (suc (suc n)) (Symbol.fixed (suc n) Fixed.semicolon ∷ Symbol.reduce Reduction.do_done ∷ [])) us → HasStmt (keyed key.Do s ∷ us)
do_of n s us d = both (λ vs. HasStmt (keyed key.Do s ∷ vs)) us d (λ ws bs body q. after_word (λ vs. HasStmt (keyed key.Do s ∷ (ws ++ vs))) bs q (λ w rs r.
    after_group (suc (suc n)) (λ vs. HasStmt (keyed key.Do s ∷ (ws ++ keyed key.While w ∷ vs))) rs r (λ a z cs es c cond e.
    let group : List Token = between mark.Open a cs mark.Close z in
    after_word (λ vs. HasStmt (keyed key.Do s ∷ (ws ++ keyed key.While w ∷ (group ++ vs)))) es e (λ y ls h.
    let end : List Token = marked mark.Semicolon y ∷ [] in
    let all : List Token = do_tokens s ws w a cs z in
    ends (λ vs. HasStmt (keyed key.Do s ∷ (ws ++ keyed key.While w ∷ (group ++ marked mark.Semicolon y ∷ vs)))) ls (skip ls h)
    (cast_stmt (all ++ end) (keyed key.Do s ∷ (ws ++ keyed key.While w ∷ (group ++ end))) (ap (λ qs. keyed key.Do s ∷ qs) (append_assoc ws (keyed key.While w ∷ group) end))
    (has_stmt false (all ++ end) (stmt_of (stmt.DoWhile body.value c) all) (DerivesStmt.do_loop body.open_end s w a z y cs ws c body.value body.derived cond)))))))

for_of : (n : ℕ) (s : Span) (us : List Token)
    → Denotes (Symbol.fixed (suc (suc n)) Fixed.opening ∷ Symbol.first (suc (suc n)) ∷ Symbol.condition (suc (suc n)) ∷ Symbol.last (suc (suc n)) ∷ Symbol.statement (suc n) ∷ Symbol.reduce Reduction.for_done ∷ []) us
    → HasStmt (keyed key.For s ∷ us)
for_of n s us d = after_word (λ vs. HasStmt (keyed key.For s ∷ vs)) us d (λ a bs q. both (λ vs. HasStmt (keyed key.For s ∷ marked mark.Open a ∷ vs)) bs q (λ ts rs first r.
    after_mark (λ vs. HasStmt (keyed key.For s ∷ marked mark.Open a ∷ (ts ++ vs))) rs r (λ cs m es c e.
    after_mark (λ vs. HasStmt (keyed key.For s ∷ marked mark.Open a ∷ (ts ++ (cs ++ marked mark.Semicolon m ∷ vs)))) es e (λ ps z ws step h.
    let body : HasStmt ws = last_reduced ws h in
    let all : List Token = for_tokens s a ts cs m ps z ws in
    has_stmt body.open_end all (stmt_of (stmt.For first.value c.value step.value body.value) all)
    (DerivesStmt.for_loop body.open_end s a m z ts cs ps ws first.value c.value step.value body.value first.derived c.derived step.derived body.derived)))))

leaving_of : (n : ℕ) (s : Span) (us : List Token) → Denotes (Symbol.fixed n Fixed.semicolon ∷ Symbol.reduce Reduction.leaving ∷ []) us → HasStmt (keyed key.Break s ∷ us)
leaving_of n s us d = after_word (λ vs. HasStmt (keyed key.Break s ∷ vs)) us d (λ z bs q. ends (λ vs. HasStmt (keyed key.Break s ∷ marked mark.Semicolon z ∷ vs)) bs (skip bs q)
    (has_stmt false (keyed key.Break s ∷ marked mark.Semicolon z ∷ []) (stmt_of stmt.Break (keyed key.Break s ∷ [])) (DerivesStmt.leaving s z)))

continuing_of : (n : ℕ) (s : Span) (us : List Token) → Denotes (Symbol.fixed n Fixed.semicolon ∷ Symbol.reduce Reduction.continuing ∷ []) us → HasStmt (keyed key.Continue s ∷ us)
continuing_of n s us d = after_word (λ vs. HasStmt (keyed key.Continue s ∷ vs)) us d (λ z bs q. ends (λ vs. HasStmt (keyed key.Continue s ∷ marked mark.Semicolon z ∷ vs)) bs (skip bs q)
    (has_stmt false (keyed key.Continue s ∷ marked mark.Semicolon z ∷ []) (stmt_of stmt.Continue (keyed key.Continue s ∷ [])) (DerivesStmt.continuing s z)))

returning_of : (n : ℕ) (s : Span) (us : List Token) → Denotes (Symbol.condition n ∷ Symbol.reduce Reduction.returning ∷ []) us → HasStmt (keyed key.Return s ∷ us)
returning_of n s us d = by_mark (λ vs. HasStmt (keyed key.Return s ∷ vs)) us (last_reduced us d) (λ ts z e.
    has_stmt false (keyed key.Return s ∷ (ts ++ marked mark.Semicolon z ∷ [])) (stmt_of (stmt.Return e.value) (keyed key.Return s ∷ ts)) (DerivesStmt.returning s z ts e.value e.derived))

block_of : (n : ℕ) (s : Span) (us : List Token) → Denotes (Symbol.reduce Reduction.no_items ∷ Symbol.body (suc n) ∷ Symbol.reduce Reduction.block ∷ []) us → HasStmt (marked mark.OpenBrace s ∷ us)
block_of n s us d = by_mark (λ vs. HasStmt (marked mark.OpenBrace s ∷ vs)) us (last_reduced us (skip us d)) (λ ts z items.
    let all : List Token = between mark.OpenBrace s ts mark.CloseBrace z in
    has_stmt false all (stmt_of (stmt.Block items.value) all) (DerivesStmt.block ts s z items.value items.derived))

simple_of : (n : ℕ) (ts us : List Token) → Has DerivesSimple ts → Denotes (Symbol.fixed n Fixed.semicolon ∷ Symbol.reduce Reduction.simple ∷ []) us → HasStmt (ts ++ us)
simple_of n ts us x d = after_word (λ vs. HasStmt (ts ++ vs)) us d (λ z bs q. ends (λ vs. HasStmt (ts ++ marked mark.Semicolon z ∷ vs)) bs (skip bs q)
    (has_stmt false (ts ++ marked mark.Semicolon z ∷ []) x.value (DerivesStmt.simple ts z x.value x.derived)))

statement_of_simple : (n : ℕ) (w : Word) (s : Span) → Serves false HasStmt (followed (simple_move n w) (Symbol.fixed n Fixed.semicolon ∷ Symbol.reduce Reduction.simple ∷ [])) (token w s)
statement_of_simple n w s = serves_followed (Has DerivesSimple) HasStmt false (Symbol.fixed n Fixed.semicolon ∷ Symbol.reduce Reduction.simple ∷ []) (simple_move n w) (token w s) (simple_of n) (simple_serves n w s)

pub statement_serves : (n : ℕ) (w : Word) (s : Span) → Serves false HasStmt (statement_move n w) (token w s)
statement_serves n (word.Key key.If) s = if_of n s
statement_serves n (word.Key key.While) s = while_of n s
statement_serves n (word.Key key.Do) s = do_of n s
statement_serves n (word.Key key.For) s = for_of n s
statement_serves n (word.Key key.Break) s = leaving_of n s
statement_serves n (word.Key key.Continue) s = continuing_of n s
statement_serves n (word.Key key.Return) s = returning_of n s
statement_serves n (word.Mark mark.OpenBrace) s = block_of n s
statement_serves n (word.Mark mark.Semicolon) s = λ us d. ends (λ vs. HasStmt (marked mark.Semicolon s ∷ vs)) us (skip us d)
    (has_stmt false (marked mark.Semicolon s ∷ []) (stmt_of stmt.Empty (marked mark.Semicolon s ∷ [])) (DerivesStmt.empty s))
statement_serves n (word.Key k) s = tt
statement_serves n w s = statement_of_simple n w s

-- ---- items of blocks

-- tokens before those before a mark
put_before : (m : Mark) (P Q : List Token → Type 0) (ts us : List Token) → Before m P us → ((vs : List Token) → P vs → Q (ts ++ vs)) → Before m Q (ts ++ us)
put_before m P Q ts us d f = by_mark (λ vs. Before m Q (ts ++ vs)) us d (λ vs s h. subst (Before m Q) (append_assoc ts vs (marked m s ∷ [])) (Before.before (ts ++ vs) s (f vs h)))

statement_item_of : (n : ℕ) (ts us : List Token) → HasStmt ts → Denotes (Symbol.reduce Reduction.statement_item ∷ Symbol.body n ∷ []) us → Means (Symbol.body n) (ts ++ us)
statement_item_of n ts us x d = put_before mark.CloseBrace (Has DerivesItems) (Has DerivesItems) ts us (last us (skip us d))
    (λ vs items. has DerivesItems (ts ++ vs) (x.value ∷ items.value) (DerivesItems.statement x.open_end ts vs x.value items.value x.derived items.derived))

declared_items_of : (n : ℕ) (ts us : List Token) → Has DerivesDeclaration ts → Denotes (Symbol.reduce Reduction.declared_items ∷ Symbol.body n ∷ []) us → Means (Symbol.body n) (ts ++ us)
declared_items_of n ts us x d = put_before mark.CloseBrace (Has DerivesItems) (Has DerivesItems) ts us (last us (skip us d))
    (λ vs items. has DerivesItems (ts ++ vs) (x.value ++ items.value) (DerivesItems.declares ts vs x.value items.value x.derived items.derived))

item_of_statement : (n : ℕ) (w : Word) (s : Span) → Serves false (Means (Symbol.body n)) (followed (statement_move n w) (Symbol.reduce Reduction.statement_item ∷ Symbol.body n ∷ [])) (token w s)
item_of_statement n w s = serves_followed HasStmt (Means (Symbol.body n)) false (Symbol.reduce Reduction.statement_item ∷ Symbol.body n ∷ []) (statement_move n w) (token w s) (statement_item_of n) (statement_serves n w s)

statement_item_serves : (n : ℕ) (w : Word) (s : Span) → Serves false (Means (Symbol.body n)) (statement_item_move n w) (token w s)
statement_item_serves n (word.Mark mark.CloseBrace) s = λ us d. ends (λ vs. Before mark.CloseBrace (Has DerivesItems) (marked mark.CloseBrace s ∷ vs)) us d (Before.before [] s (has DerivesItems [] [] DerivesItems.done))
statement_item_serves n w s = item_of_statement n w s

pub body_serves : (n : ℕ) (b : Bool) (w : Word) (s : Span) → Serves false (Means (Symbol.body n)) (body_move n b w) (token w s)
body_serves n true w s = serves_followed (Has DerivesDeclaration) (Means (Symbol.body n)) false (Symbol.reduce Reduction.declared_items ∷ Symbol.body n ∷ []) (declaration_move n w) (token w s)
    (declared_items_of n) (declaration_serves n w s)
body_serves n false w s = statement_item_serves n w s
