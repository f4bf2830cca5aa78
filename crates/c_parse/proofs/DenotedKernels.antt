-- What parameters and kernels stand for: each move of the table serves what its symbol means.
use Rattle.std.proofs.Common.{ℕ, suc, List, [], ◌∷◌, ◌++◌, true, false, Some, None, refl, subst, append_assoc}
use Rattle.el_base.specs.declared.span.Span.{Span}
use Rattle.c_ast.specs.declared.token.Token.{Token}
use Rattle.c_ast.specs.declared.token.Word.{Word}
use Rattle.c_ast.specs.declared.token.Word.TheVariants as word
use Rattle.c_ast.specs.declared.key.Key.TheVariants as key
use Rattle.c_ast.specs.declared.mark.Mark.TheVariants as mark
use Rattle.c_ast.specs.declared.tree.Tree.{Tree}
use Rattle.c_ast.specs.Derives.{marked, keyed, named, numbered, between, kernel_tokens, DerivesType, DerivesDims, DerivesParam, DerivesParamList, DerivesParams, DerivesResult, Derives}
use Rattle.c_parse.specs.Symbols.{Symbol, Reduction, Fixed, followed, name_move, number_move, type_move, result_move, param_move, params_move, more_params_move, dims_move, kernel_symbols}
use Rattle.c_parse.proofs.Denotations.{Has, Joined, IsName, IsNumber, Before, Means, Denotes, Serves, token, has, both, skip, ends, last, last_reduced, after_word, after_name, after_number, after_mark, by_word, by_mark, serves_followed}
use Rattle.c_parse.proofs.DenotedExprs.{type_serves}

pub name_serves : (n : ℕ) (w : Word) (s : Span) → Serves false IsName (name_move n [] w) (token w s)
name_serves n (word.Name x) s = λ us d. ends (λ vs. IsName (named x s ∷ vs)) us d (IsName.one x s)
name_serves n w s = tt

pub number_serves : (n : ℕ) (w : Word) (s : Span) → Serves false IsNumber (number_move n w) (token w s)
number_serves n (word.Number v t) s = λ us d. ends (λ vs. IsNumber (numbered v t s ∷ vs)) us d (IsNumber.one v t s)
number_serves n w s = tt

-- ---- parameters

dim_of : (n : ℕ) (s : Span) (us : List Token)
    → Denotes (Symbol.a_number (suc n) ∷ Symbol.fixed (suc n) Fixed.closing_bracket ∷ Symbol.reduce Reduction.dim ∷ Symbol.dims n ∷ []) us → Has DerivesDims (marked mark.OpenBracket s ∷ us)
dim_of n s us d = after_number (λ vs. Has DerivesDims (marked mark.OpenBracket s ∷ vs)) us d (λ v t m bs q. after_word (λ vs. Has DerivesDims (marked mark.OpenBracket s ∷ numbered v t m ∷ vs)) bs q (λ z cs r.
    let more : Has DerivesDims cs = last cs (skip cs r) in
    has DerivesDims (marked mark.OpenBracket s ∷ numbered v t m ∷ marked mark.CloseBracket z ∷ cs) (v ∷ more.value) (DerivesDims.one_more s m z v t cs more.value more.derived)))

pub dims_serves : (n : ℕ) (w : Word) (s : Span) → Serves true (Has DerivesDims) (dims_move n w) (token w s)
dims_serves n (word.Mark mark.OpenBracket) s = dim_of n s
dims_serves n w s = refl

-- what follows the type of a parameter
abbrev named_dims : ℕ → List Symbol
named_dims n = Symbol.a_name n ∷ Symbol.reduce Reduction.no_dims ∷ Symbol.dims n ∷ Symbol.reduce Reduction.param ∷ []

param_of : (n : ℕ) (ts us : List Token) → Has DerivesType ts → Denotes (named_dims n) us → Has DerivesParam (ts ++ us)
param_of n ts us t d = after_name (λ vs. Has DerivesParam (ts ++ vs)) us d (λ x s bs q.
    let dims : Has DerivesDims bs = last_reduced bs (skip bs q) in
    has DerivesParam (ts ++ named x s ∷ bs) (record { name = x; at = s; ty = t.value; dims = dims.value }) (DerivesParam.param ts bs t.value x s dims.value t.derived dims.derived))

pub param_serves : (n : ℕ) (w : Word) (s : Span) → Serves false (Has DerivesParam) (param_move n w) (token w s)
param_serves n w s = serves_followed (Has DerivesType) (Has DerivesParam) false (named_dims n) (type_move n w) (token w s) (param_of n) (type_serves n w s)

pub more_params_serves : (n : ℕ) (w : Word) (s : Span) → Serves true (Means (Symbol.more_params n)) (more_params_move n w) (token w s)
more_params_serves n (word.Mark mark.Comma) s = λ us d ts p dp. both (λ vs. Has DerivesParamList (ts ++ marked mark.Comma s ∷ vs)) us d (λ fs bs one q.
    let more : Has DerivesParamList (fs ++ bs) = last bs (skip bs q) fs one.value one.derived in
    has DerivesParamList (ts ++ marked mark.Comma s ∷ (fs ++ bs)) (p ∷ more.value) (DerivesParamList.one_more ts (fs ++ bs) s p more.value dp more.derived))
more_params_serves n w s = refl

some_params_of : (n : ℕ) (ts us : List Token) → Has DerivesParam ts → Denotes (Symbol.reduce Reduction.first_param ∷ Symbol.more_params n ∷ Symbol.fixed n Fixed.closing ∷ []) us → Means (Symbol.params n) (ts ++ us)
some_params_of n ts us one d = both (λ vs. Before mark.Close (Has DerivesParams) (ts ++ vs)) us (skip us d) (λ fs bs more q.
    by_word (λ vs. Before mark.Close (Has DerivesParams) (ts ++ (fs ++ vs))) bs (last bs q) (λ z.
    let all : Has DerivesParamList (ts ++ fs) = more ts one.value one.derived in
    subst (Before mark.Close (Has DerivesParams)) (append_assoc ts fs (marked mark.Close z ∷ []))
    (Before.before (ts ++ fs) z (has DerivesParams (ts ++ fs) all.value (DerivesParams.some (ts ++ fs) all.value all.derived)))))

params_of_param : (n : ℕ) (w : Word) (s : Span) → Serves false (Means (Symbol.params n)) (followed (param_move n w) (Symbol.reduce Reduction.first_param ∷ Symbol.more_params n ∷ Symbol.fixed n Fixed.closing ∷ [])) (token w s)
params_of_param n w s = serves_followed (Has DerivesParam) (Means (Symbol.params n)) false (Symbol.reduce Reduction.first_param ∷ Symbol.more_params n ∷ Symbol.fixed n Fixed.closing ∷ []) (param_move n w) (token w s)
    (some_params_of n) (param_serves n w s)

pub params_serves : (n : ℕ) (w : Word) (s : Span) → Serves false (Means (Symbol.params n)) (params_move n w) (token w s)
params_serves n (word.Mark mark.Close) s = λ us d. ends (λ vs. Before mark.Close (Has DerivesParams) (marked mark.Close s ∷ vs)) us (skip us d) (Before.before [] s (has DerivesParams [] [] DerivesParams.none))
params_serves n (word.Key key.Void) s = λ us d. by_word (λ vs. Before mark.Close (Has DerivesParams) (keyed key.Void s ∷ vs)) us (last us (skip us d)) (λ z.
    Before.before (keyed key.Void s ∷ []) z (has DerivesParams (keyed key.Void s ∷ []) [] (DerivesParams.none_by_void s)))
params_serves n w s = params_of_param n w s

-- ---- kernels

a_result_of : (ts us : List Token) → Has DerivesType ts → Denotes (Symbol.reduce Reduction.result ∷ []) us → Has DerivesResult (ts ++ us)
a_result_of ts us t d = last {P = Has DerivesResult} (ts ++ us) (Joined.joined ts us (has DerivesResult ts (Some t.value) (DerivesResult.a_type ts t.value t.derived)) (skip us d))

result_of_type : (n : ℕ) (w : Word) (s : Span) → Serves false (Has DerivesResult) (followed (type_move n w) (Symbol.reduce Reduction.result ∷ [])) (token w s)
result_of_type n w s = serves_followed (Has DerivesType) (Has DerivesResult) false (Symbol.reduce Reduction.result ∷ []) (type_move n w) (token w s) a_result_of (type_serves n w s)

pub result_serves : (n : ℕ) (w : Word) (s : Span) → Serves false (Has DerivesResult) (result_move n w) (token w s)
result_serves n (word.Key key.Void) s = λ us d. ends (λ vs. Has DerivesResult (keyed key.Void s ∷ vs)) us (skip us d) (has DerivesResult (keyed key.Void s ∷ []) None (DerivesResult.void s))
result_serves n w s = result_of_type n w s

pub kernel_derives : (ts : List Token) → Denotes kernel_symbols ts → Has Derives ts
kernel_derives ts d = both (Has Derives) ts d (λ rs bs result q. after_name (λ vs. Has Derives (rs ++ vs)) bs q (λ x s cs r. after_word (λ vs. Has Derives (rs ++ named x s ∷ vs)) cs r (λ a es e.
    after_mark (λ vs. Has Derives (rs ++ named x s ∷ marked mark.Open a ∷ vs)) es e (λ ps z hs params h.
    after_word (λ vs. Has Derives (rs ++ named x s ∷ marked mark.Open a ∷ (ps ++ marked mark.Close z ∷ vs))) hs h (λ b ls k.
    by_mark (λ vs. Has Derives (rs ++ named x s ∷ marked mark.Open a ∷ (ps ++ marked mark.Close z ∷ marked mark.OpenBrace b ∷ vs))) ls (last_reduced ls (skip ls k)) (λ us y items.
    let body : List Token = between mark.OpenBrace b us mark.CloseBrace y in
    let tree : Tree = record { name = x; at = s; result = result.value; params = params.value; body = items.value } in
    subst (λ vs. Has Derives (rs ++ named x s ∷ marked mark.Open a ∷ vs)) (append_assoc ps (marked mark.Close z ∷ []) body)
    (has Derives (kernel_tokens rs x s a ps z b us y) tree (Derives.kernel rs ps us x s a z b y result.value params.value items.value result.derived params.derived items.derived))))))))
