-- What types and expressions stand for: each move of the table serves what its symbol means.
use Rattle.std.proofs.Common.{◌≡◌, ℕ, zero, suc, ◌-◌, ◌≤◌, ◌==◌, List, [], ◌∷◌, ◌++◌, Bool, true, false, if◌then◌else◌, Option, Some, None, arith, zero-le, eqb-true, refl, sym, ◌∙◌, ap, subst, append_assoc}
use Rattle.std.proofs.lemmas.List.{append-nil}
use Rattle.el_base.specs.declared.span.Span.{Span}
use Rattle.el_base.specs.declared.ty.Ty.{Ty}
use Rattle.el_base.specs.declared.ty.Ty.TheVariants.{I8, U8, I16, U16, I32, U32, I64, U64}
use Rattle.c_ast.specs.declared.token.Token.{Token}
use Rattle.c_ast.specs.declared.token.Word.{Word}
use Rattle.c_ast.specs.declared.token.Word.TheVariants as word
use Rattle.c_ast.specs.declared.key.Key.{Key}
use Rattle.c_ast.specs.declared.key.Key.TheVariants as key
use Rattle.c_ast.specs.declared.mark.Mark.{Mark}
use Rattle.c_ast.specs.declared.mark.Mark.TheVariants as mark
use Rattle.c_ast.specs.declared.tree.Unary.{Unary}
use Rattle.c_ast.specs.declared.tree.Unary.TheVariants as unary
use Rattle.c_ast.specs.declared.tree.Binary.{Binary}
use Rattle.c_ast.specs.declared.tree.Expr.{Expr}
use Rattle.c_ast.specs.declared.tree.ExprKind.TheVariants as expr
use Rattle.c_ast.specs.Derives.{marked, keyed, named, numbered, between, expr_of, IsBinary, IsUnary, DerivesType, DerivesExpr, DerivesIndices, DerivesArgs, DerivesMoreArgs}
use Rattle.c_parse.specs.Symbols.{Symbol, Reduction, Fixed, Move, spelled, takes, fixed_move, type_move, maybe_int_move, looser, tails, expression_move, inside_move, operator_move, operators_move, indices_move, postfix_move, arguments_move, more_arguments_move, followed}
use Rattle.c_parse.specs.Tables.{operator_of}
use Rattle.c_parse.proofs.Rules.{operator_is}
use Rattle.c_parse.proofs.Climbing.{known_level}
use Rattle.c_parse.proofs.Denotations.{Has, IsEmpty, Is, Before, Means, Denotes, Serves, token, base, has, both, skip, ends, last, last_reduced, after_word, by_word, by_mark, denotes_apart, serves_followed, serves_as}

-- ---- words and types

alone : (w : Word) (s : Span) (us : List Token) → IsEmpty us → Is w (token w s ∷ us)
alone w s us d = ends (λ vs. Is w (token w s ∷ vs)) us d (Is.one s)

pub fixed_serves : (n : ℕ) (f : Fixed) (w : Word) (s : Span) → Serves false (Is (spelled f)) (fixed_move n (takes f w)) (token w s)
fixed_serves n Fixed.opening (word.Mark mark.Open) s = alone (word.Mark mark.Open) s
fixed_serves n Fixed.closing (word.Mark mark.Close) s = alone (word.Mark mark.Close) s
fixed_serves n Fixed.closing_bracket (word.Mark mark.CloseBracket) s = alone (word.Mark mark.CloseBracket) s
fixed_serves n Fixed.colon (word.Mark mark.Colon) s = alone (word.Mark mark.Colon) s
fixed_serves n Fixed.semicolon (word.Mark mark.Semicolon) s = alone (word.Mark mark.Semicolon) s
fixed_serves n Fixed.opening_brace (word.Mark mark.OpenBrace) s = alone (word.Mark mark.OpenBrace) s
fixed_serves n Fixed.closing_brace (word.Mark mark.CloseBrace) s = alone (word.Mark mark.CloseBrace) s
fixed_serves n Fixed.while_word (word.Key key.While) s = alone (word.Key key.While) s
fixed_serves n f w s = tt

-- one word, which is a type
whole_type : (k : Key) (s : Span) (t : Ty) → DerivesType (keyed k s ∷ []) t → (us : List Token) → Denotes (Symbol.reduce Reduction.plain ∷ []) us → Has DerivesType (keyed k s ∷ us)
whole_type k s t h us d = ends (λ vs. Has DerivesType (keyed k s ∷ vs)) us (skip us d) (has DerivesType (keyed k s ∷ []) t h)

pub type_serves : (n : ℕ) (w : Word) (s : Span) → Serves false (Has DerivesType) (type_move n w) (token w s)
type_serves n (word.Key key.Int8) s = whole_type key.Int8 s I8 (DerivesType.fixed_8 s)
type_serves n (word.Key key.Int16) s = whole_type key.Int16 s I16 (DerivesType.fixed_16 s)
type_serves n (word.Key key.Int32) s = whole_type key.Int32 s I32 (DerivesType.fixed_32 s)
type_serves n (word.Key key.Int64) s = whole_type key.Int64 s I64 (DerivesType.fixed_64 s)
type_serves n (word.Key key.Uint8) s = whole_type key.Uint8 s U8 (DerivesType.unsigned_8 s)
type_serves n (word.Key key.Uint16) s = whole_type key.Uint16 s U16 (DerivesType.unsigned_16 s)
type_serves n (word.Key key.Uint32) s = whole_type key.Uint32 s U32 (DerivesType.unsigned_32 s)
type_serves n (word.Key key.Uint64) s = whole_type key.Uint64 s U64 (DerivesType.unsigned_64 s)
type_serves n (word.Key key.Int) s = whole_type key.Int s I32 (DerivesType.plain_int s)
type_serves n (word.Key key.Signed) s = λ us d. (last us (skip us d) s).0
type_serves n (word.Key key.Unsigned) s = λ us d. (last us (skip us d) s).1
type_serves n w s = tt

pub maybe_int_serves : (n : ℕ) (w : Word) (s : Span) → Serves true (Means (Symbol.maybe_int n)) (maybe_int_move n w) (token w s)
maybe_int_serves n (word.Key key.Int) z = λ us d s. ends (λ vs. Has DerivesType (keyed key.Signed s ∷ keyed key.Int z ∷ vs) × Has DerivesType (keyed key.Unsigned s ∷ keyed key.Int z ∷ vs)) us (skip us d)
    (has DerivesType (keyed key.Signed s ∷ keyed key.Int z ∷ []) I32 (DerivesType.signed_int s z), has DerivesType (keyed key.Unsigned s ∷ keyed key.Int z ∷ []) U32 (DerivesType.unsigned_int s z))
maybe_int_serves n w s = refl

-- ---- levels

primary : (ts : List Token) (e : Expr) → DerivesExpr 12 ts e → Has (DerivesExpr 11) ts
primary ts e d = has (DerivesExpr 11) ts e (DerivesExpr.tighter 11 ts e (omega arith) d)

-- what is of the next tighter level may stand before the operators of a level
to_base : (l : ℕ) (ts : List Token) → l ≤ 10 → Has (DerivesExpr (suc l)) ts → Has (DerivesExpr (base l)) ts
to_base zero ts small h = h
to_base (suc l) ts small h = has (DerivesExpr (suc l)) ts h.value (DerivesExpr.tighter (suc l) ts h.value (omega arith) h.derived)

at_level : (l k : ℕ) (ts us : List Token) → l ≡ k → ts ≡ us → Has (DerivesExpr l) ts → Has (DerivesExpr k) us
at_level l k ts us e h d = subst (λ n. Has (DerivesExpr n) us) e (subst (λ vs. Has (DerivesExpr l) vs) h d)

looser_continues : (n k : ℕ) (ts us : List Token) → k ≤ 11 → Has (DerivesExpr 11) ts → Denotes (looser n k) us → Has (DerivesExpr (11 - k)) (ts ++ us)
looser_continues n zero ts us small h d = at_level 11 11 ts (ts ++ us) refl (sym (ap (λ vs. ts ++ vs) d ∙ append-nil ts)) h
looser_continues n (suc k) ts us small h d = both (λ vs. Has (DerivesExpr (11 - suc k)) (ts ++ vs)) us (denotes_apart (looser n k) (Symbol.operators n (10 - k) ∷ []) us d)
    (λ fs bs p q.
    let before : Has (DerivesExpr (11 - k)) (ts ++ fs) = looser_continues n k ts fs (omega arith) h p in
    let next : 11 - k ≡ suc (10 - k) = omega arith in
    let below : Has (DerivesExpr (base (10 - k))) (ts ++ fs) = to_base (10 - k) (ts ++ fs) (omega arith) (at_level (11 - k) (suc (10 - k)) (ts ++ fs) (ts ++ fs) next refl before) in
    let same : 10 - k ≡ 11 - suc k = omega arith in
    at_level (10 - k) (11 - suc k) ((ts ++ fs) ++ bs) (ts ++ (fs ++ bs)) same (append_assoc ts fs bs) (last bs q (ts ++ fs) below.value below.derived))

-- an operand of the tightest level, and the operators behind it
with_tails : (n l : ℕ) (ts us : List Token) → Has (DerivesExpr 11) ts → Denotes (tails n l) us → l ≤ 11 → Has (DerivesExpr l) (ts ++ us)
with_tails n l ts us h d small =
    let same : 11 - (11 - l) ≡ l = omega arith in
    at_level (11 - (11 - l)) l (ts ++ us) (ts ++ us) same refl (looser_continues n (11 - l) ts us (omega arith) h d)

-- ---- expressions

signed_serves : (n l : ℕ) (m : Mark) (op : Unary) (s : Span) → IsUnary m op → (us : List Token)
    → Denotes (Symbol.expression (suc n) 11 ∷ Symbol.reduce Reduction.signed ∷ tails n l) us → Means (Symbol.expression n l) (marked m s ∷ us)
signed_serves n l m op s h us d small = both (λ vs. Has (DerivesExpr l) (marked m s ∷ vs)) us d (λ fs bs p q.
    let a : Has (DerivesExpr 11) fs = p (omega arith) in
    with_tails n l (marked m s ∷ fs) bs (has (DerivesExpr 11) (marked m s ∷ fs) (expr_of (expr.Unary op a.value) (marked m s ∷ fs)) (DerivesExpr.prefixed m op fs s a.value h a.derived)) (skip bs q) small)

pub expression_serves : (n l : ℕ) (w : Word) (s : Span) → Serves false (Means (Symbol.expression n l)) (expression_move n l w) (token w s)
expression_serves n l (word.Name x) s = λ us d small. both (λ vs. Has (DerivesExpr l) (named x s ∷ vs)) us (skip us d) (λ fs bs p q.
    with_tails n l (named x s ∷ fs) bs (p x s) (skip bs q) small)
expression_serves n l (word.Number v t) s = λ us d small. with_tails n l (numbered v t s ∷ []) us (primary (numbered v t s ∷ []) (expr_of (expr.Number v t) (numbered v t s ∷ [])) (DerivesExpr.number v t s)) (skip us d) small
expression_serves n l (word.Mark mark.Open) s = λ us d small. both (λ vs. Has (DerivesExpr l) (marked mark.Open s ∷ vs)) us d (λ fs bs p q. with_tails n l (marked mark.Open s ∷ fs) bs (p s) q small)
expression_serves n l (word.Mark mark.Plus) s = signed_serves n l mark.Plus unary.Plus s IsUnary.plus
expression_serves n l (word.Mark mark.Minus) s = signed_serves n l mark.Minus unary.Minus s IsUnary.minus
expression_serves n l (word.Mark mark.Tilde) s = signed_serves n l mark.Tilde unary.Flip s IsUnary.flip
expression_serves n l (word.Mark mark.Bang) s = signed_serves n l mark.Bang unary.Not s IsUnary.negate
expression_serves n l w s = tt

-- ---- groups and casts

cast_of : (n : ℕ) (fs bs : List Token) → Has DerivesType fs → Denotes (Symbol.fixed n Fixed.closing ∷ Symbol.expression n 11 ∷ Symbol.reduce Reduction.cast ∷ []) bs → Means (Symbol.inside n) (fs ++ bs)
cast_of n fs bs t d s = after_word (λ vs. Has (DerivesExpr 11) (marked mark.Open s ∷ (fs ++ vs))) bs d (λ z us q.
    let e : Has (DerivesExpr 11) us = last_reduced us q (omega arith) in
    let ts : List Token = between mark.Open s fs mark.Close z ++ us in
    subst (λ vs. Has (DerivesExpr 11) (marked mark.Open s ∷ vs)) (append_assoc fs (marked mark.Close z ∷ []) us)
    (has (DerivesExpr 11) ts (expr_of (expr.Cast t.value e.value) ts) (DerivesExpr.cast fs us s z t.value e.value t.derived e.derived)))

group_of : (n : ℕ) (fs bs : List Token) → Means (Symbol.expression n 0) fs → Denotes (Symbol.fixed n Fixed.closing ∷ Symbol.reduce Reduction.group ∷ []) bs → Means (Symbol.inside n) (fs ++ bs)
group_of n fs bs h d s = after_word (λ vs. Has (DerivesExpr 11) (marked mark.Open s ∷ (fs ++ vs))) bs d (λ z us q.
    let e : Has (DerivesExpr 0) fs = h zero-le in
    ends (λ vs. Has (DerivesExpr 11) (marked mark.Open s ∷ (fs ++ marked mark.Close z ∷ vs))) us (skip us q)
    (primary (between mark.Open s fs mark.Close z) e.value (DerivesExpr.parens fs s z e.value e.derived)))

pub inside_serves : (n : ℕ) (b : Bool) (w : Word) (s : Span) → Serves false (Means (Symbol.inside n)) (inside_move n b w) (token w s)
inside_serves n true w s = serves_followed (Has DerivesType) (Means (Symbol.inside n)) false (Symbol.fixed n Fixed.closing ∷ Symbol.expression n 11 ∷ Symbol.reduce Reduction.cast ∷ []) (type_move n w) (token w s)
    (cast_of n) (type_serves n w s)
inside_serves n false w s = serves_followed (Means (Symbol.expression n 0)) (Means (Symbol.inside n)) false (Symbol.fixed n Fixed.closing ∷ Symbol.reduce Reduction.group ∷ []) (expression_move n 0 w) (token w s)
    (group_of n) (expression_serves n 0 w s)

-- ---- operators

choice_of : (n : ℕ) (s : Span) (us : List Token)
    → Denotes (Symbol.expression (suc n) 0 ∷ Symbol.fixed (suc n) Fixed.colon ∷ Symbol.expression (suc n) 0 ∷ Symbol.reduce Reduction.chosen ∷ []) us → Means (Symbol.operators n 0) (marked mark.Question s ∷ us)
choice_of n s us d ts a cond = both (λ vs. Has (DerivesExpr 0) (ts ++ marked mark.Question s ∷ vs)) us d (λ fs bs p q. after_word (λ vs. Has (DerivesExpr 0) (ts ++ marked mark.Question s ∷ (fs ++ vs))) bs q
    (λ c cs r.
    let yes_part : Has (DerivesExpr 0) fs = p zero-le in
    let no_part : Has (DerivesExpr 0) cs = last_reduced cs r zero-le in
    let all : List Token = ts ++ marked mark.Question s ∷ (fs ++ marked mark.Colon c ∷ cs) in
    has (DerivesExpr 0) all (expr_of (expr.Choose a yes_part.value no_part.value) all) (DerivesExpr.choice ts fs cs s c a yes_part.value no_part.value cond yes_part.derived no_part.derived)))

joined_of : (n l : ℕ) (m : Mark) (op : Binary) (s : Span) → IsBinary m op (suc l) → suc l ≤ 10 → (us : List Token)
    → Denotes (Symbol.expression n (suc (suc l)) ∷ Symbol.reduce Reduction.joined ∷ Symbol.operators n (suc l) ∷ []) us → Means (Symbol.operators n (suc l)) (marked m s ∷ us)
joined_of n l m op s operator small us d ts a left = both (λ vs. Has (DerivesExpr (suc l)) (ts ++ marked m s ∷ vs)) us d (λ fs bs p q.
    let right : Has (DerivesExpr (suc (suc l))) fs = p (omega arith) in
    let more : Means (Symbol.operators n (suc l)) bs = last bs (skip bs q) in
    let front : List Token = ts ++ marked m s ∷ fs in
    subst (λ vs. Has (DerivesExpr (suc l)) vs) (append_assoc ts (marked m s ∷ fs) bs)
    (more front (expr_of (expr.Binary op a right.value) front) (DerivesExpr.joined (suc l) m op ts fs s a right.value operator left right.derived)))

operator_serves : (n l k : ℕ) (m : Mark) (op : Binary) (s : Span) → IsBinary m op k → k ≤ 10 → Serves true (Means (Symbol.operators n (suc l))) (operator_move n (suc l) (Some (op, k))) (marked m s)
operator_serves n l k m op s operator small = by_level (k == suc l) refl
  where
    by_level : (b : Bool) → (k == suc l) ≡ b
        → Serves true (Means (Symbol.operators n (suc l))) (if b then Move.take n (Symbol.expression n (suc (suc l)) ∷ Symbol.reduce Reduction.joined ∷ Symbol.operators n (suc l) ∷ []) else Move.pass) (marked m s)
    by_level true h = let same : k ≡ suc l = eqb-true k (suc l) h in joined_of n l m op s (subst (λ j. IsBinary m op j) same operator) (subst (λ j. j ≤ 10) same small)
    by_level false h = refl

pub operators_serves : (n l : ℕ) (w : Word) (s : Span) → Serves true (Means (Symbol.operators n l)) (operators_move n l w) (token w s)
operators_serves n zero (word.Mark mark.Question) s = choice_of n s
operators_serves n zero w s = refl
operators_serves n (suc l) (word.Mark m) s = of_operator (operator_of m) refl
  where
    of_operator : (o : Option (Binary × ℕ)) → operator_of m ≡ o → Serves true (Means (Symbol.operators n (suc l))) (operator_move n (suc l) o) (marked m s)
    of_operator None e = refl
    of_operator (Some (op, k)) e = operator_serves n l k m op s (operator_is m op k e) (known_level m op k e)
operators_serves n (suc l) w s = refl

-- ---- indices

index_of : (n : ℕ) (s : Span) (us : List Token) → Denotes (Symbol.expression (suc n) 0 ∷ Symbol.fixed (suc n) Fixed.closing_bracket ∷ Symbol.reduce Reduction.index ∷ Symbol.indices n ∷ []) us → Has DerivesIndices (marked mark.OpenBracket s ∷ us)
index_of n s us d = both (λ vs. Has DerivesIndices (marked mark.OpenBracket s ∷ vs)) us d (λ fs bs p q. after_word (λ vs. Has DerivesIndices (marked mark.OpenBracket s ∷ (fs ++ vs))) bs q (λ z cs r.
    let e : Has (DerivesExpr 0) fs = p zero-le in
    let more : Has DerivesIndices cs = last cs (skip cs r) in
    subst (λ vs. Has DerivesIndices (marked mark.OpenBracket s ∷ vs)) (append_assoc fs (marked mark.CloseBracket z ∷ []) cs)
    (has DerivesIndices (between mark.OpenBracket s fs mark.CloseBracket z ++ cs) (e.value ∷ more.value) (DerivesIndices.one_more fs cs s z e.value more.value e.derived more.derived))))

pub indices_serves : (n : ℕ) (w : Word) (s : Span) → Serves true (Has DerivesIndices) (indices_move n w) (token w s)
indices_serves n (word.Mark mark.OpenBracket) s = index_of n s
indices_serves n w s = refl

-- ---- what follows a name

pub name_has : (x : List ℕ) (s : Span) (ts : List Token) (es : List Expr) → DerivesIndices ts es → Has (DerivesExpr 11) (named x s ∷ ts)
name_has x s ts es DerivesIndices.no_more = primary (named x s ∷ []) (expr_of (expr.Name x) (named x s ∷ [])) (DerivesExpr.name x s)
name_has x s ts es (DerivesIndices.one_more fs bs a z e more d ds) =
    let us : List Token = between mark.OpenBracket a fs mark.CloseBracket z ++ bs in
    primary (named x s ∷ us) (expr_of (expr.Element x (e ∷ more)) (named x s ∷ us)) (DerivesExpr.element x s us e more (DerivesIndices.one_more fs bs a z e more d ds))

call_has : (x : List ℕ) (s a : Span) (us : List Token) → Before mark.Close (Has DerivesArgs) us → Has (DerivesExpr 11) (named x s ∷ marked mark.Open a ∷ us)
call_has x s a us d = by_mark (λ vs. Has (DerivesExpr 11) (named x s ∷ marked mark.Open a ∷ vs)) us d (λ ts z args.
    let all : List Token = named x s ∷ between mark.Open a ts mark.Close z in
    primary all (expr_of (expr.Call x args.value) all) (DerivesExpr.call x s a z ts args.value args.derived))

index_follows : (n : ℕ) (w : Word) (a : Span) → Serves true (Means (Symbol.postfix n)) (indices_move n w) (token w a)
index_follows n w a = serves_as (Has DerivesIndices) (Means (Symbol.postfix n)) true (indices_move n w) (token w a) (λ us d x s. name_has x s us d.value d.derived) (indices_serves n w a)

pub postfix_serves : (n : ℕ) (w : Word) (a : Span) → Serves true (Means (Symbol.postfix n)) (postfix_move n w) (token w a)
postfix_serves n (word.Mark mark.Open) a = λ us d x s. call_has x s a us (last us d)
postfix_serves n w a = index_follows n w a

arguments_of : (n : ℕ) (ts us : List Token) → Means (Symbol.expression n 0) ts
    → Denotes (Symbol.reduce Reduction.first_argument ∷ Symbol.more_arguments n ∷ Symbol.fixed n Fixed.closing ∷ []) us → Means (Symbol.arguments n) (ts ++ us)
arguments_of n ts us one d = both (λ vs. Before mark.Close (Has DerivesArgs) (ts ++ vs)) us (skip us d) (λ fs bs more q.
    by_word (λ vs. Before mark.Close (Has DerivesArgs) (ts ++ (fs ++ vs))) bs (last bs q) (λ z.
    let e : Has (DerivesExpr 0) ts = one zero-le in
    subst (Before mark.Close (Has DerivesArgs)) (append_assoc ts fs (marked mark.Close z ∷ []))
    (Before.before (ts ++ fs) z (has DerivesArgs (ts ++ fs) (e.value ∷ more.value) (DerivesArgs.arguments ts fs e.value more.value e.derived more.derived)))))

arguments_of_one : (n : ℕ) (w : Word) (s : Span) → Serves false (Means (Symbol.arguments n))
    (followed (expression_move n 0 w) (Symbol.reduce Reduction.first_argument ∷ Symbol.more_arguments n ∷ Symbol.fixed n Fixed.closing ∷ [])) (token w s)
arguments_of_one n w s = serves_followed (Means (Symbol.expression n 0)) (Means (Symbol.arguments n)) false
    (Symbol.reduce Reduction.first_argument ∷ Symbol.more_arguments n ∷ Symbol.fixed n Fixed.closing ∷ []) (expression_move n 0 w) (token w s)
    (arguments_of n) (expression_serves n 0 w s)

pub arguments_serves : (n : ℕ) (w : Word) (s : Span) → Serves false (Means (Symbol.arguments n)) (arguments_move n w) (token w s)
arguments_serves n (word.Mark mark.Close) s = λ us d. ends (λ vs. Before mark.Close (Has DerivesArgs) (marked mark.Close s ∷ vs)) us (skip us d) (Before.before [] s (has DerivesArgs [] [] DerivesArgs.no_arguments))
arguments_serves n w s = arguments_of_one n w s

pub more_arguments_serves : (n : ℕ) (w : Word) (s : Span) → Serves true (Has DerivesMoreArgs) (more_arguments_move n w) (token w s)
more_arguments_serves n (word.Mark mark.Comma) s = λ us d. both (λ vs. Has DerivesMoreArgs (marked mark.Comma s ∷ vs)) us d (λ fs bs one q.
    let e : Has (DerivesExpr 0) fs = one zero-le in
    let more : Has DerivesMoreArgs bs = last bs (skip bs q) in
    has DerivesMoreArgs (marked mark.Comma s ∷ (fs ++ bs)) (e.value ∷ more.value) (DerivesMoreArgs.one_further fs bs s e.value more.value e.derived more.derived))
more_arguments_serves n w s = refl
