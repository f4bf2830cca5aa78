-- Each derivation of an expression or of indices is traced.
use Rattle.std.proofs.Common.{◌≡◌, ℕ, zero, suc, ◌≤◌, ◌<◌, List, [], ◌∷◌, ◌++◌, Bool, true, false, if◌then◌else◌, nat_lt, Option, Some, None, inl, inr, arith, refl, sym, ◌∙◌, ap, subst, append_assoc}
use Rattle.std.specs.Prelude.{◌⊎◌}
use Rattle.std.proofs.lemmas.Bool.{lt-ltb, cases_lt}
use Rattle.std.proofs.lemmas.List.{append-nil}
use Rattle.el_base.specs.declared.span.Span.{Span}
use Rattle.el_base.specs.declared.ty.Ty.{Ty}
use Rattle.c_ast.specs.declared.token.Token.{Token}
use Rattle.c_ast.specs.declared.token.Word.{Word}
use Rattle.c_ast.specs.declared.token.Word.TheVariants as word
use Rattle.c_ast.specs.declared.mark.Mark.{Mark}
use Rattle.c_ast.specs.declared.mark.Mark.TheVariants as mark
use Rattle.c_ast.specs.declared.tree.Unary.{Unary}
use Rattle.c_ast.specs.declared.tree.Binary.{Binary}
use Rattle.c_ast.specs.declared.tree.Expr.{Expr}
use Rattle.c_ast.specs.declared.tree.ExprKind.TheVariants as expr
use Rattle.c_ast.specs.Derives.{marked, named, numbered, expr_of, between, IsUnary, DerivesType, DerivesExpr, DerivesIndices, DerivesArgs, DerivesMoreArgs}
use Rattle.c_ast.specs.Nesting.{at_level, enclosed, expr_nesting, indices_nesting, args_nesting, more_args_nesting}
use Rattle.c_parse.specs.Tables.{sign_of}
use Rattle.c_parse.specs.Symbols.{Symbol, Fixed, Reduction, followed, sign_move, expression_move, inside_move, arguments_move}
use Rattle.c_parse.specs.Values.{Value}
use Rattle.c_parse.specs.Traces.{trace}
use Rattle.c_parse.proofs.Closing.{Closed}
use Rattle.c_parse.proofs.Tracing.{trace_unfolds}
use Rattle.c_parse.proofs.Runs.{Runs}
use Rattle.c_parse.proofs.Leading.{Leads, leads_none, leads_join, leads_taking, leads_take, leads_from, leads_to, leads_reducing, leads_reduced}
use Rattle.c_parse.proofs.Levels.{expression_stays, trace_unrolls}
use Rattle.c_parse.proofs.Looseness.{NoIndex, NoPostfix, Loose, Binds, loose_more, closed_loose, question_loose, binds, operator_taken, operator_loose, operator_means}
use Rattle.c_parse.proofs.Starting.{StartsBy, trace_starts, IsTypeWord, type_starts, type_stays, IsExprWord, is_expr_word, expr_starts, expr_no_type}
use Rattle.c_parse.proofs.TracedTypes.{leads_type}

-- ---- levels

-- the loosest level of which no operator may stand behind an expression of a level
abbrev pub loosest : ℕ → ℕ
loosest zero = 0
loosest (suc l) = suc (suc l)

-- the operators that are still expected behind an expression of a level
abbrev pub pending : ℕ → ℕ → List Symbol
pending n zero = []
pending n (suc l) = if nat_lt l 10 then Symbol.operators n (suc l) ∷ [] else []

pending_is : (n l : ℕ) → 1 ≤ l → l ≤ 10 → pending n l ≡ Symbol.operators n l ∷ []
pending_is n zero least most = absurd (omega arith)
pending_is n (suc k) least most = ap (λ b. if b then Symbol.operators n (suc k) ∷ [] else []) (lt-ltb k 10 (omega arith))

loosest_is : (l : ℕ) → 1 ≤ l → loosest l ≡ suc l
loosest_is zero least = absurd (omega arith)
loosest_is (suc k) least = refl

loosest_below : (l : ℕ) → loosest l ≤ suc l
loosest_below zero = omega arith
loosest_below (suc k) = omega arith

maybe_passes : (b : Bool) (n k : ℕ) (rest : List Token) (symbols : List Symbol) (vs : List Value) → trace (Symbol.operators n k ∷ symbols) vs rest ≡ trace symbols vs rest
    → trace ((if b then Symbol.operators n k ∷ [] else []) ++ symbols) vs rest ≡ trace symbols vs rest
maybe_passes true n k rest symbols vs h = h
maybe_passes false n k rest symbols vs h = refl

pending_passes : (n l : ℕ) (rest : List Token) (symbols : List Symbol) (vs : List Value) → Loose (suc l) rest → trace (pending n (suc l) ++ symbols) vs rest ≡ trace symbols vs rest
pending_passes n l rest symbols vs loose = maybe_passes (nat_lt l 10) n (suc l) rest symbols vs (loose.no_operator n (suc l) symbols vs (omega arith))

settles : (n l : ℕ) (rest : List Token) (symbols : List Symbol) (vs : List Value) → l ≤ 10 → Loose (loosest l) rest
    → trace (pending n (suc l) ++ Symbol.operators n l ∷ symbols) vs rest ≡ trace (pending n l ++ symbols) vs rest
settles n zero rest symbols vs h loose =
    pending_passes n 0 rest (Symbol.operators n 0 ∷ symbols) vs (loose_more 0 1 rest (omega arith) loose) ∙ loose.no_operator n 0 symbols vs (omega arith)
settles n (suc k) rest symbols vs h loose =
    pending_passes n (suc k) rest (Symbol.operators n (suc k) ∷ symbols) vs loose ∙ ap (λ us. trace (us ++ symbols) vs rest) (sym (pending_is n (suc k) (omega arith) h))

-- levels 11 and 12 have the same moves
last_sign : (n : ℕ) (op : Option Unary) → sign_move n 11 op ≡ followed (sign_move n 12 op) []
last_sign n (Some op) = refl
last_sign n None = refl

last_move : (n : ℕ) (w : Word) → expression_move n 11 w ≡ followed (expression_move n 12 w) []
last_move n (word.Name x) = refl
last_move n (word.Number v t) = refl
last_move n (word.Mark mark.Open) = refl
last_move n (word.Mark m) = last_sign n (sign_of m)
last_move n (word.Key k) = refl

last_trace : (n : ℕ) (symbols : List Symbol) (vs : List Value) (ts : List Token) → trace (Symbol.expression n 11 ∷ symbols) vs ts ≡ trace (Symbol.expression n 12 ∷ symbols) vs ts
last_trace n symbols vs [] = refl
last_trace n symbols vs (t ∷ ts) = trace_unfolds (Symbol.expression n 11) (Symbol.expression n 12) [] symbols vs t ts (last_move n t.word) (expression_stays n 12 t.word)

-- what leads through an expression of a level, whatever symbols stand behind it
abbrev Through : ℕ → ℕ → List ℕ → List Token → List Token → List Value → List Value → Type 0
Through n l ns ts rest vs us = (symbols : List Symbol) → Leads ns ts rest (Symbol.expression n l ∷ symbols) vs (pending n l ++ symbols) us

last_through : (n : ℕ) (ns : List ℕ) (ts rest : List Token) (vs us : List Value) → Through n 12 ns ts rest vs us → Through n 11 ns ts rest vs us
last_through n ns ts rest vs us p symbols = leads_from (last_trace n symbols vs (ts ++ rest)) (p symbols)

looser_by : (n l : ℕ) (ns : List ℕ) (ts rest : List Token) (vs us : List Value) → (l < 11) ⊎ (11 ≤ l) → l < 12 → Loose (loosest l) rest → Through n (suc l) ns ts rest vs us → Through n l ns ts rest vs us
looser_by n l ns ts rest vs us (inl h) below loose p symbols =
    leads_to (leads_from (trace_unrolls n l symbols vs (ts ++ rest) (omega arith)) (p (Symbol.operators n l ∷ symbols))) (settles n l rest symbols us (omega arith) loose)
looser_by n l ns ts rest vs us (inr h) below loose p symbols =
    let e : l ≡ 11 = omega arith in
    subst (λ k. Through n k ns ts rest vs us) (sym e) (last_through n ns ts rest vs us (subst (λ k. Through n (suc k) ns ts rest vs us) e p)) symbols

-- what derives at a level derives at the next looser one
leads_looser : (n l : ℕ) (ns : List ℕ) (ts rest : List Token) (vs us : List Value) → l < 12 → Loose (loosest l) rest → Through n (suc l) ns ts rest vs us → Through n l ns ts rest vs us
leads_looser n l ns ts rest vs us below loose p symbols = looser_by n l ns ts rest vs us (cases_lt l 11) below loose p symbols

-- what is loose behind an expression of a level is so behind one of the next
next_loose : (l : ℕ) (rest : List Token) → Loose (loosest l) rest → Loose (loosest (suc l)) rest
next_loose l rest loose = let below : loosest l ≤ suc l = loosest_below l in loose_more (loosest l) (suc (suc l)) rest (omega arith) loose

-- ---- operators

operator_behind : (m : Mark) (op : Binary) (l : ℕ) (s : Span) (ts : List Token) → Binds m op l → Loose (loosest l) (marked m s ∷ ts)
operator_behind m op l s ts b = subst (λ k. Loose k (marked m s ∷ ts)) (sym (loosest_is l b.least)) (operator_loose m op l s ts b)

-- a right operand with its operator, behind a left one
leads_right : (n l : ℕ) (ms : List ℕ) (m : Mark) (op : Binary) (ts us rest : List Token) (s : Span) (a b : Expr) (symbols : List Symbol) (vs : List Value) → Binds m op l → Loose (suc l) rest
    → Through n (suc l) ms us rest (Value.of_token (marked m s) ∷ Value.of_expr ts a ∷ vs) (Value.of_expr us b ∷ Value.of_token (marked m s) ∷ Value.of_expr ts a ∷ vs)
    → Leads (n ∷ ms) (marked m s ∷ us) rest (Symbol.operators n l ∷ symbols) (Value.of_expr ts a ∷ vs) (Symbol.operators n l ∷ symbols)
    (Value.of_expr (ts ++ marked m s ∷ us) (expr_of (expr.Binary op a b) (ts ++ marked m s ∷ us)) ∷ vs)
leads_right n l ms m op ts us rest s a b symbols vs bind loose right =
    let more : List Symbol = Symbol.reduce Reduction.joined ∷ Symbol.operators n l ∷ symbols in
    let read : List Value = Value.of_expr us b ∷ Value.of_token (marked m s) ∷ Value.of_expr ts a ∷ vs in
    leads_to (leads_taking (Symbol.operators n l) (marked m s) (operator_taken m op l n bind) (leads_reduced Reduction.joined (leads_to (right more) (pending_passes n l rest more read loose))))
    (ap (λ o. trace (Symbol.operators n l ∷ symbols) (Value.of_expr (ts ++ marked m s ∷ us) (expr_of (expr.Binary o a b) (ts ++ marked m s ∷ us)) ∷ vs) rest) (operator_means m op l bind))

leads_joined : (n l : ℕ) (ns ms : List ℕ) (m : Mark) (op : Binary) (ts us rest : List Token) (s : Span) (a b : Expr) (symbols : List Symbol) (vs : List Value) → Binds m op l → Loose (loosest l) rest
    → Through n l ns ts (marked m s ∷ (us ++ rest)) vs (Value.of_expr ts a ∷ vs)
    → Through n (suc l) ms us rest (Value.of_token (marked m s) ∷ Value.of_expr ts a ∷ vs) (Value.of_expr us b ∷ Value.of_token (marked m s) ∷ Value.of_expr ts a ∷ vs)
    → Leads (ns ++ n ∷ ms) (ts ++ marked m s ∷ us) rest (Symbol.expression n l ∷ symbols) vs (pending n l ++ symbols)
    (Value.of_expr (ts ++ marked m s ∷ us) (expr_of (expr.Binary op a b) (ts ++ marked m s ∷ us)) ∷ vs)
leads_joined n l ns ms m op ts us rest s a b symbols vs bind loose left right =
    let loop : pending n l ≡ Symbol.operators n l ∷ [] = pending_is n l bind.least bind.most in
    let tight : Loose (suc l) rest = subst (λ k. Loose k rest) (loosest_is l bind.least) loose in
    let first : Leads ns ts (marked m s ∷ (us ++ rest)) (Symbol.expression n l ∷ symbols) vs (Symbol.operators n l ∷ symbols) (Value.of_expr ts a ∷ vs) =
    leads_to (left symbols) (ap (λ ws. trace (ws ++ symbols) (Value.of_expr ts a ∷ vs) (marked m s ∷ (us ++ rest))) loop) in
    leads_to (leads_join first (leads_right n l ms m op ts us rest s a b symbols vs bind tight right))
    (ap (λ ws. trace (ws ++ symbols) (Value.of_expr (ts ++ marked m s ∷ us) (expr_of (expr.Binary op a b) (ts ++ marked m s ∷ us)) ∷ vs) rest) (sym loop))

leads_signed : (n : ℕ) (ns : List ℕ) (m : Mark) (op : Unary) (ts rest : List Token) (s : Span) (a : Expr) (symbols : List Symbol) (vs : List Value) → IsUnary m op
    → Through (suc n) 11 ns ts rest (Value.of_token (marked m s) ∷ vs) (Value.of_expr ts a ∷ Value.of_token (marked m s) ∷ vs)
    → Leads (suc n ∷ ns) (marked m s ∷ ts) rest (Symbol.expression n 11 ∷ symbols) vs symbols (Value.of_expr (marked m s ∷ ts) (expr_of (expr.Unary op a) (marked m s ∷ ts)) ∷ vs)
leads_signed n ns m op ts rest s a symbols vs IsUnary.plus p = leads_reduced Reduction.signed (leads_taking (Symbol.expression n 11) (marked m s) refl (p (Symbol.reduce Reduction.signed ∷ symbols)))
leads_signed n ns m op ts rest s a symbols vs IsUnary.minus p = leads_reduced Reduction.signed (leads_taking (Symbol.expression n 11) (marked m s) refl (p (Symbol.reduce Reduction.signed ∷ symbols)))
leads_signed n ns m op ts rest s a symbols vs IsUnary.flip p = leads_reduced Reduction.signed (leads_taking (Symbol.expression n 11) (marked m s) refl (p (Symbol.reduce Reduction.signed ∷ symbols)))
leads_signed n ns m op ts rest s a symbols vs IsUnary.negate p = leads_reduced Reduction.signed (leads_taking (Symbol.expression n 11) (marked m s) refl (p (Symbol.reduce Reduction.signed ∷ symbols)))

leads_choice : (n : ℕ) (ns ms ks : List ℕ) (ts us ws rest : List Token) (q c : Span) (a b d : Expr) (symbols : List Symbol) (vs : List Value)
    → Through n 1 ns ts (marked mark.Question q ∷ ((us ++ marked mark.Colon c ∷ ws) ++ rest)) vs (Value.of_expr ts a ∷ vs)
    → Through (suc n) 0 ms us (marked mark.Colon c ∷ (ws ++ rest)) (Value.of_token (marked mark.Question q) ∷ Value.of_expr ts a ∷ vs)
    (Value.of_expr us b ∷ Value.of_token (marked mark.Question q) ∷ Value.of_expr ts a ∷ vs)
    → Through (suc n) 0 ks ws rest (Value.of_token (marked mark.Colon c) ∷ Value.of_expr us b ∷ Value.of_token (marked mark.Question q) ∷ Value.of_expr ts a ∷ vs)
    (Value.of_expr ws d ∷ Value.of_token (marked mark.Colon c) ∷ Value.of_expr us b ∷ Value.of_token (marked mark.Question q) ∷ Value.of_expr ts a ∷ vs)
    → Leads (ns ++ suc n ∷ (ms ++ suc n ∷ ks)) (ts ++ marked mark.Question q ∷ (us ++ marked mark.Colon c ∷ ws)) rest (Symbol.expression n 0 ∷ symbols) vs symbols
    (Value.of_expr (ts ++ marked mark.Question q ∷ (us ++ marked mark.Colon c ∷ ws)) (expr_of (expr.Choose a b d) (ts ++ marked mark.Question q ∷ (us ++ marked mark.Colon c ∷ ws))) ∷ vs)
leads_choice n ns ms ks ts us ws rest q c a b d symbols vs cond yes_part no_part =
    let tail : List Token = marked mark.Question q ∷ ((us ++ marked mark.Colon c ∷ ws) ++ rest) in
    let behind : List Symbol = Symbol.operators n 0 ∷ symbols in
    let third : List Symbol = Symbol.expression (suc n) 0 ∷ Symbol.reduce Reduction.chosen ∷ symbols in
    let first : Leads ns ts tail (Symbol.expression n 0 ∷ symbols) vs behind (Value.of_expr ts a ∷ vs) =
    leads_to (leads_from (trace_unrolls n 0 symbols vs (ts ++ tail) (omega arith)) (cond behind)) refl in
    leads_reduced Reduction.chosen (leads_join first (leads_taking (Symbol.operators n 0) (marked mark.Question q) refl
    (leads_join (yes_part (Symbol.fixed (suc n) Fixed.colon ∷ third)) (leads_taking (Symbol.fixed (suc n) Fixed.colon) (marked mark.Colon c) refl (no_part (Symbol.reduce Reduction.chosen ∷ symbols))))))

-- ---- parentheses and brackets

-- what stands in parentheses is a type or an expression, by its first token
inside_type : (n : ℕ) (ts rest : List Token) (symbols : List Symbol) (vs : List Value) → StartsBy IsTypeWord ts
    → trace (Symbol.inside n ∷ symbols) vs (ts ++ rest) ≡ trace (Symbol.a_type n ∷ Symbol.fixed n Fixed.closing ∷ Symbol.expression n 11 ∷ Symbol.reduce Reduction.cast ∷ symbols) vs (ts ++ rest)
inside_type n ts rest symbols vs s = trace_starts IsTypeWord (Symbol.inside n) (Symbol.a_type n) (Symbol.fixed n Fixed.closing ∷ Symbol.expression n 11 ∷ Symbol.reduce Reduction.cast ∷ []) symbols vs ts rest s (λ w h. ap (λ b. inside_move n b w) h) (type_stays n)

inside_expr : (n : ℕ) (ts rest : List Token) (symbols : List Symbol) (vs : List Value) → StartsBy IsExprWord ts
    → trace (Symbol.inside n ∷ symbols) vs (ts ++ rest) ≡ trace (Symbol.expression n 0 ∷ Symbol.fixed n Fixed.closing ∷ Symbol.reduce Reduction.group ∷ symbols) vs (ts ++ rest)
inside_expr n ts rest symbols vs s = trace_starts IsExprWord (Symbol.inside n) (Symbol.expression n 0) (Symbol.fixed n Fixed.closing ∷ Symbol.reduce Reduction.group ∷ []) symbols vs ts rest s (λ w h. ap (λ b. inside_move n b w) (expr_no_type w h)) (expression_stays n 0)

leads_cast : (n : ℕ) (ns : List ℕ) (ts us rest : List Token) (s z : Span) (t : Ty) (a : Expr) (symbols : List Symbol) (vs : List Value) → DerivesType ts t
    → Through (suc n) 11 ns us rest (Value.of_token (marked mark.Close z) ∷ Value.of_ty ts t ∷ Value.of_token (marked mark.Open s) ∷ vs)
    (Value.of_expr us a ∷ Value.of_token (marked mark.Close z) ∷ Value.of_ty ts t ∷ Value.of_token (marked mark.Open s) ∷ vs)
    → Leads (enclosed (suc n) (at_level (suc n) ts) ++ ns) (between mark.Open s ts mark.Close z ++ us) rest (Symbol.expression n 11 ∷ symbols) vs symbols
    (Value.of_expr (between mark.Open s ts mark.Close z ++ us) (expr_of (expr.Cast t a) (between mark.Open s ts mark.Close z ++ us)) ∷ vs)
leads_cast n ns ts us rest s z t a symbols vs ty arg =
    let operand : List Symbol = Symbol.expression (suc n) 11 ∷ Symbol.reduce Reduction.cast ∷ symbols in
    let behind : List Symbol = Symbol.fixed (suc n) Fixed.closing ∷ operand in
    let start : List Value = Value.of_token (marked mark.Open s) ∷ vs in
    let tail : List Token = marked mark.Close z ∷ (us ++ rest) in
    let first : Leads (at_level (suc n) ts) ts tail (Symbol.inside (suc n) ∷ symbols) start behind (Value.of_ty ts t ∷ start) =
    leads_from (inside_type (suc n) ts tail symbols start (type_starts ts t ty)) (leads_type (suc n) ts tail t ty behind start refl) in
    let group : Leads (at_level (suc n) ts ++ suc n ∷ []) (ts ++ marked mark.Close z ∷ []) (us ++ rest) (Symbol.inside (suc n) ∷ symbols) start operand (Value.of_token (marked mark.Close z) ∷ Value.of_ty ts t ∷ start) =
    leads_join first (leads_take (Symbol.fixed (suc n) Fixed.closing) (marked mark.Close z) refl) in
    leads_reduced Reduction.cast (leads_taking (Symbol.expression n 11) (marked mark.Open s) refl (leads_join group (arg (Symbol.reduce Reduction.cast ∷ symbols))))

leads_group : (n : ℕ) (ns : List ℕ) (ts rest : List Token) (s z : Span) (e : Expr) (symbols : List Symbol) (vs : List Value) → StartsBy IsExprWord ts
    → Through (suc n) 0 ns ts (marked mark.Close z ∷ rest) (Value.of_token (marked mark.Open s) ∷ vs) (Value.of_expr ts e ∷ Value.of_token (marked mark.Open s) ∷ vs)
    → Leads (enclosed (suc n) ns) (between mark.Open s ts mark.Close z) rest (Symbol.expression n 12 ∷ symbols) vs symbols (Value.of_expr (between mark.Open s ts mark.Close z) e ∷ vs)
leads_group n ns ts rest s z e symbols vs starts inner =
    let behind : List Symbol = Symbol.fixed (suc n) Fixed.closing ∷ Symbol.reduce Reduction.group ∷ symbols in
    let start : List Value = Value.of_token (marked mark.Open s) ∷ vs in
    let tail : List Token = marked mark.Close z ∷ rest in
    let first : Leads ns ts tail (Symbol.inside (suc n) ∷ symbols) start behind (Value.of_expr ts e ∷ start) = leads_from (inside_expr (suc n) ts tail symbols start starts) (inner behind) in
    leads_reduced Reduction.group (leads_taking (Symbol.expression n 12) (marked mark.Open s) refl (leads_join first (leads_take (Symbol.fixed (suc n) Fixed.closing) (marked mark.Close z) refl)))

-- one index, which comes behind others
leads_index : (n : ℕ) (ns : List ℕ) (ts us rest : List Token) (s z : Span) (e : Expr) (ds : List Expr) (symbols : List Symbol) (vs : List Value)
    → Through (suc n) 0 ns ts (marked mark.CloseBracket z ∷ rest) (Value.of_token (marked mark.OpenBracket s) ∷ Value.of_exprs us ds ∷ vs)
    (Value.of_expr ts e ∷ Value.of_token (marked mark.OpenBracket s) ∷ Value.of_exprs us ds ∷ vs)
    → Leads (enclosed (suc n) ns) (between mark.OpenBracket s ts mark.CloseBracket z) rest (Symbol.indices n ∷ symbols) (Value.of_exprs us ds ∷ vs)
    (Symbol.indices n ∷ symbols) (Value.of_exprs (us ++ between mark.OpenBracket s ts mark.CloseBracket z) (ds ++ e ∷ []) ∷ vs)
leads_index n ns ts us rest s z e ds symbols vs inner =
    let behind : List Symbol = Symbol.fixed (suc n) Fixed.closing_bracket ∷ Symbol.reduce Reduction.index ∷ Symbol.indices n ∷ symbols in
    leads_reduced Reduction.index (leads_taking (Symbol.indices n) (marked mark.OpenBracket s) refl
    (leads_join (inner behind) (leads_take (Symbol.fixed (suc n) Fixed.closing_bracket) (marked mark.CloseBracket z) refl)))

indices_added : (ts us ws rest : List Token) (e : Expr) (ds es : List Expr) (symbols : List Symbol) (vs : List Value)
    → trace symbols (Value.of_exprs ((us ++ ts) ++ ws) ((ds ++ e ∷ []) ++ es) ∷ vs) rest ≡ trace symbols (Value.of_exprs (us ++ (ts ++ ws)) (ds ++ e ∷ es) ∷ vs) rest
indices_added ts us ws rest e ds es symbols vs =
    ap (λ qs. trace symbols (Value.of_exprs qs ((ds ++ e ∷ []) ++ es) ∷ vs) rest) (append_assoc us ts ws)
    ∙ ap (λ xs. trace symbols (Value.of_exprs (us ++ (ts ++ ws)) xs ∷ vs) rest) (append_assoc ds (e ∷ []) es)

no_indices : (n : ℕ) (us rest : List Token) (ds : List Expr) (symbols : List Symbol) (vs : List Value) → NoIndex rest
    → trace (Symbol.indices n ∷ symbols) (Value.of_exprs us ds ∷ vs) rest ≡ trace symbols (Value.of_exprs (us ++ []) (ds ++ []) ∷ vs) rest
no_indices n us rest ds symbols vs none =
    none n symbols (Value.of_exprs us ds ∷ vs)
    ∙ ap (λ qs. trace symbols (Value.of_exprs qs ds ∷ vs) rest) (sym (append-nil us))
    ∙ ap (λ xs. trace symbols (Value.of_exprs (us ++ []) xs ∷ vs) rest) (sym (append-nil ds))

leads_name : (n : ℕ) (x : List ℕ) (s : Span) (rest : List Token) (symbols : List Symbol) (vs : List Value) → NoPostfix rest
    → Leads (n ∷ []) (named x s ∷ []) rest (Symbol.expression n 12 ∷ symbols) vs symbols (Value.of_expr (named x s ∷ []) (expr_of (expr.Name x) (named x s ∷ [])) ∷ vs)
leads_name n x s rest symbols vs none =
    leads_reduced Reduction.named (leads_to (leads_reduced Reduction.no_indices (leads_take (Symbol.expression n 12) (named x s) refl))
    (none n (Symbol.reduce Reduction.named ∷ symbols) (Value.of_exprs [] [] ∷ Value.of_token (named x s) ∷ vs)))

-- behind a name indices stand that are expected where arguments are too
indices_follow : (n : ℕ) (ts rest : List Token) (e : Expr) (es : List Expr) (symbols : List Symbol) (vs : List Value) → DerivesIndices ts (e ∷ es)
    → trace (Symbol.postfix n ∷ symbols) vs (ts ++ rest) ≡ trace (Symbol.indices n ∷ symbols) vs (ts ++ rest)
indices_follow n ts rest e es symbols vs (DerivesIndices.one_more ws qs s z x xs d more) = refl

-- ---- arguments

arguments_unfold : (n : ℕ) (w : Word) → is_expr_word w ≡ true
    → arguments_move n w ≡ followed (expression_move n 0 w) (Symbol.reduce Reduction.first_argument ∷ Symbol.more_arguments n ∷ Symbol.fixed n Fixed.closing ∷ [])
arguments_unfold n (word.Mark mark.Close) h = absurd (cc)
arguments_unfold n w h = refl

-- arguments begin with an expression
arguments_begin : (n : ℕ) (ts rest : List Token) (symbols : List Symbol) (vs : List Value) → StartsBy IsExprWord ts
    → trace (Symbol.arguments n ∷ symbols) vs (ts ++ rest)
    ≡ trace (Symbol.expression n 0 ∷ Symbol.reduce Reduction.first_argument ∷ Symbol.more_arguments n ∷ Symbol.fixed n Fixed.closing ∷ symbols) vs (ts ++ rest)
arguments_begin n ts rest symbols vs s =
    trace_starts IsExprWord (Symbol.arguments n) (Symbol.expression n 0) (Symbol.reduce Reduction.first_argument ∷ Symbol.more_arguments n ∷ Symbol.fixed n Fixed.closing ∷ []) symbols vs ts rest s (arguments_unfold n) (expression_stays n 0)

-- behind an argument a comma or the closing parenthesis stands
argument_ends : (ts rest : List Token) (es : List Expr) (z : Span) → DerivesMoreArgs ts es → Closed (ts ++ marked mark.Close z ∷ rest)
argument_ends ts rest es z DerivesMoreArgs.no_further = Closed.closing z rest
argument_ends ts rest es z (DerivesMoreArgs.one_further us ws s e more d ds) = Closed.comma s ((us ++ ws) ++ marked mark.Close z ∷ rest)

-- ---- expressions, indices and arguments

mutual
  pub leads_expr : (l : ℕ) (ts : List Token) (e : Expr) (d : DerivesExpr l ts e) (n : ℕ) (rest : List Token) (vs : List Value) → Loose (loosest l) rest
      → Through n l (expr_nesting n d) ts rest vs (Value.of_expr ts e ∷ vs)
  leads_expr l ts e (DerivesExpr.tighter k us x below d) n rest vs loose symbols =
      leads_looser n k (expr_nesting n d) us rest vs (Value.of_expr us x ∷ vs) below loose (leads_expr (suc k) us x d n rest vs (next_loose k rest loose)) symbols
  leads_expr l ts e (DerivesExpr.choice us ws xs q c a b x cond yes_part no_part) n rest vs loose symbols =
      let read : List Value = Value.of_token (marked mark.Question q) ∷ Value.of_expr us a ∷ vs in
      leads_choice n (expr_nesting n cond) (expr_nesting (suc n) yes_part) (expr_nesting (suc n) no_part) us ws xs rest q c a b x symbols vs
      (leads_expr 1 us a cond n (marked mark.Question q ∷ ((ws ++ marked mark.Colon c ∷ xs) ++ rest)) vs (loose_more 1 2 (marked mark.Question q ∷ ((ws ++ marked mark.Colon c ∷ xs) ++ rest)) (omega arith) (question_loose q ((ws ++ marked mark.Colon c ∷ xs) ++ rest))))
      (leads_expr 0 ws b yes_part (suc n) (marked mark.Colon c ∷ (xs ++ rest)) read (closed_loose (marked mark.Colon c ∷ (xs ++ rest)) (Closed.colon c (xs ++ rest))))
      (leads_expr 0 xs x no_part (suc n) rest (Value.of_token (marked mark.Colon c) ∷ Value.of_expr ws b ∷ read) loose)
  leads_expr l ts e (DerivesExpr.joined k m op us ws s a b operator left right) n rest vs loose symbols =
      let bind : Binds m op k = binds m op k operator in
      leads_joined n k (expr_nesting n left) (expr_nesting n right) m op us ws rest s a b symbols vs bind loose
      (leads_expr k us a left n (marked m s ∷ (ws ++ rest)) vs (operator_behind m op k s (ws ++ rest) bind))
      (leads_expr (suc k) ws b right n rest (Value.of_token (marked m s) ∷ Value.of_expr us a ∷ vs) (next_loose k rest loose))
  leads_expr l ts e (DerivesExpr.prefixed m op us s a operator arg) n rest vs loose symbols =
      leads_signed n (expr_nesting (suc n) arg) m op us rest s a symbols vs operator (leads_expr 11 us a arg (suc n) rest (Value.of_token (marked m s) ∷ vs) loose)
  leads_expr l ts e (DerivesExpr.cast us ws s z t a ty arg) n rest vs loose symbols =
      leads_cast n (expr_nesting (suc n) arg) us ws rest s z t a symbols vs ty
      (leads_expr 11 ws a arg (suc n) rest (Value.of_token (marked mark.Close z) ∷ Value.of_ty us t ∷ Value.of_token (marked mark.Open s) ∷ vs) loose)
  leads_expr l ts e (DerivesExpr.number v t s) n rest vs loose symbols = leads_reduced Reduction.constant (leads_take (Symbol.expression n 12) (numbered v t s) refl)
  leads_expr l ts e (DerivesExpr.name x s) n rest vs loose symbols = leads_name n x s rest symbols vs loose.no_postfix
  leads_expr l ts e (DerivesExpr.element x s us a es d) n rest vs loose symbols =
      leads_reduced Reduction.named (leads_taking (Symbol.expression n 12) (named x s) refl (leads_reducing Reduction.no_indices
      (leads_from (indices_follow n us rest a es (Symbol.reduce Reduction.named ∷ symbols) (Value.of_exprs [] [] ∷ Value.of_token (named x s) ∷ vs) d)
      (leads_indices us (a ∷ es) d n [] rest [] (Symbol.reduce Reduction.named ∷ symbols) (Value.of_token (named x s) ∷ vs) loose.no_index))))
  leads_expr l ts e (DerivesExpr.call x s a z us es d) n rest vs loose symbols =
      leads_reduced Reduction.named (leads_taking (Symbol.expression n 12) (named x s) refl (leads_reducing Reduction.no_indices
      (leads_taking (Symbol.postfix n) (marked mark.Open a) refl (leads_args us es d (suc n) a z rest (Symbol.reduce Reduction.named ∷ symbols) (Value.of_token (named x s) ∷ vs)))))
  leads_expr l ts e (DerivesExpr.parens us s z x d) n rest vs loose symbols =
      leads_group n (expr_nesting (suc n) d) us rest s z x symbols vs (expr_starts 0 us x d)
      (leads_expr 0 us x d (suc n) (marked mark.Close z ∷ rest) (Value.of_token (marked mark.Open s) ∷ vs) (closed_loose (marked mark.Close z ∷ rest) (Closed.closing z rest)))

  pub leads_indices : (ts : List Token) (es : List Expr) (d : DerivesIndices ts es) (n : ℕ) (us rest : List Token) (ds : List Expr) (symbols : List Symbol) (vs : List Value) → NoIndex rest
      → Leads (indices_nesting n d) ts rest (Symbol.indices n ∷ symbols) (Value.of_exprs us ds ∷ vs) symbols (Value.of_exprs (us ++ ts) (ds ++ es) ∷ vs)
  leads_indices ts es DerivesIndices.no_more n us rest ds symbols vs none = leads_none (no_indices n us rest ds symbols vs none)
  leads_indices ts es (DerivesIndices.one_more ws qs s z x xs d more) n us rest ds symbols vs none =
      let index : List Token = between mark.OpenBracket s ws mark.CloseBracket z in
      leads_to (leads_join (leads_index n (expr_nesting (suc n) d) ws us (qs ++ rest) s z x ds symbols vs
      (leads_expr 0 ws x d (suc n) (marked mark.CloseBracket z ∷ (qs ++ rest)) (Value.of_token (marked mark.OpenBracket s) ∷ Value.of_exprs us ds ∷ vs)
      (closed_loose (marked mark.CloseBracket z ∷ (qs ++ rest)) (Closed.bracket z (qs ++ rest)))))
      (leads_indices qs xs more n (us ++ index) rest (ds ++ x ∷ []) symbols vs none))
      (indices_added index us qs rest x ds xs symbols vs)

  leads_args : (ts : List Token) (es : List Expr) (d : DerivesArgs ts es) (n : ℕ) (a z : Span) (rest : List Token) (symbols : List Symbol) (vs : List Value)
      → Leads (args_nesting n d ++ n ∷ []) (ts ++ marked mark.Close z ∷ []) rest (Symbol.arguments n ∷ symbols) (Value.of_token (marked mark.Open a) ∷ Value.of_exprs [] [] ∷ vs)
      symbols (Value.of_token (marked mark.Close z) ∷ Value.of_exprs ts es ∷ Value.of_token (marked mark.Open a) ∷ vs)
  leads_args ts es DerivesArgs.no_arguments n a z rest symbols vs = leads_reduced Reduction.no_arguments (leads_take (Symbol.arguments n) (marked mark.Close z) refl)
  leads_args ts es (DerivesArgs.arguments ws qs e xs d more) n a z rest symbols vs =
      let end : Token = marked mark.Close z in
      let start : List Value = Value.of_token (marked mark.Open a) ∷ Value.of_exprs [] [] ∷ vs in
      let behind : List Symbol = Symbol.more_arguments n ∷ Symbol.fixed n Fixed.closing ∷ symbols in
      let first : Leads (expr_nesting n d) ws (qs ++ end ∷ rest) (Symbol.arguments n ∷ symbols) start behind (Value.of_exprs ws (e ∷ []) ∷ Value.of_token (marked mark.Open a) ∷ vs) =
      leads_from (arguments_begin n ws (qs ++ end ∷ rest) symbols start (expr_starts 0 ws e d))
      (leads_reduced Reduction.first_argument (leads_expr 0 ws e d n (qs ++ end ∷ rest) start (closed_loose (qs ++ end ∷ rest) (argument_ends qs rest xs z more)) (Symbol.reduce Reduction.first_argument ∷ behind))) in
      leads_join (leads_join first
      (leads_more_args qs xs more n ws rest (e ∷ []) z (Symbol.fixed n Fixed.closing ∷ symbols) (Value.of_token (marked mark.Open a) ∷ vs)))
      (leads_take (Symbol.fixed n Fixed.closing) end refl)

  leads_more_args : (ts : List Token) (es : List Expr) (d : DerivesMoreArgs ts es) (n : ℕ) (us rest : List Token) (ds : List Expr) (z : Span) (symbols : List Symbol) (vs : List Value)
      → Leads (more_args_nesting n d) ts (marked mark.Close z ∷ rest) (Symbol.more_arguments n ∷ symbols) (Value.of_exprs us ds ∷ vs) symbols (Value.of_exprs (us ++ ts) (ds ++ es) ∷ vs)
  leads_more_args ts es DerivesMoreArgs.no_further n us rest ds z symbols vs = leads_none
      (ap (λ qs. trace symbols (Value.of_exprs qs ds ∷ vs) (marked mark.Close z ∷ rest)) (sym (append-nil us))
      ∙ ap (λ xs. trace symbols (Value.of_exprs (us ++ []) xs ∷ vs) (marked mark.Close z ∷ rest)) (sym (append-nil ds)))
  leads_more_args ts es (DerivesMoreArgs.one_further ws qs s e xs d more) n us rest ds z symbols vs =
      let end : List Token = marked mark.Close z ∷ rest in
      let comma : Token = marked mark.Comma s in
      leads_to (leads_taking (Symbol.more_arguments n) comma refl
      (leads_join (leads_reduced Reduction.next_argument
      (leads_expr 0 ws e d n (qs ++ end) (Value.of_token comma ∷ Value.of_exprs us ds ∷ vs) (closed_loose (qs ++ end) (argument_ends qs rest xs z more)) (Symbol.reduce Reduction.next_argument ∷ Symbol.more_arguments n ∷ symbols)))
      (leads_more_args qs xs more n (us ++ comma ∷ ws) rest (ds ++ e ∷ []) z symbols vs)))
      (indices_added (comma ∷ ws) us qs end e ds xs symbols vs)

pub traced_expr : (n : ℕ) (ts rest : List Token) (e : Expr) (d : DerivesExpr 0 ts e) (symbols : List Symbol) (vs : List Value) → Closed rest
    → Runs (expr_nesting n d) ts (trace (Symbol.expression n 0 ∷ symbols) vs (ts ++ rest)) (trace symbols (Value.of_expr ts e ∷ vs) rest)
traced_expr n ts rest e d symbols vs closed = (leads_expr 0 ts e d n rest vs (closed_loose rest closed) symbols).runs
