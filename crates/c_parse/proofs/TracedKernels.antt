-- Each derivation of dimensions, of parameters and of a kernel is traced.
use Rattle.std.proofs.Common.{◌≡◌, ℕ, suc, List, [], ◌∷◌, ◌++◌, true, false, Option, refl, sym, ◌∙◌, ap, subst, append_assoc}
use Rattle.std.proofs.lemmas.List.{append-nil}
use Rattle.el_base.specs.declared.span.Span.{Span}
use Rattle.el_base.specs.declared.ty.Ty.{Ty}
use Rattle.c_ast.specs.declared.token.Token.{Token}
use Rattle.c_ast.specs.declared.token.Word.{Word}
use Rattle.c_ast.specs.declared.token.Word.TheVariants as word
use Rattle.c_ast.specs.declared.key.Key.TheVariants as key
use Rattle.c_ast.specs.declared.mark.Mark.TheVariants as mark
use Rattle.c_ast.specs.declared.tree.Param.{Param}
use Rattle.c_ast.specs.declared.tree.Tree.{Tree}
use Rattle.c_ast.specs.Derives.{marked, keyed, named, numbered, between, DerivesDims, DerivesParam, DerivesParamList, DerivesParams, DerivesResult, Derives}
use Rattle.c_ast.specs.Nesting.{at_level, dims_nesting, param_nesting, param_list_nesting, params_nesting, nesting}
use Rattle.c_parse.specs.Symbols.{Symbol, Reduction, Fixed, move, followed, is_type_word, type_move, params_move, result_move, kernel_rest, kernel_symbols}
use Rattle.c_parse.specs.Values.{Value}
use Rattle.c_parse.specs.Traces.{Trace, trace}
use Rattle.c_parse.proofs.Runs.{Runs}
use Rattle.c_parse.proofs.Closing.{Closed, is_int}
use Rattle.c_parse.proofs.Leading.{Leads, leads_none, leads_join, leads_taking, leads_take, leads_from, leads_to, leads_reducing, leads_reduced}
use Rattle.c_parse.proofs.Starting.{followed_twice}
use Rattle.c_parse.proofs.TracedParts.{type_unfolds}
use Rattle.c_parse.proofs.TracedTypes.{leads_type}
use Rattle.c_parse.proofs.TracedStmts.{leads_items}

-- ---- dimensions

no_dims : (n : ℕ) (rest : List Token) (symbols : List Symbol) (vs : List Value) → Closed rest → trace (Symbol.dims n ∷ symbols) vs rest ≡ trace symbols vs rest
no_dims n rest symbols vs (Closed.closing s ts) = refl
no_dims n rest symbols vs c = refl

same_dims : (ts us rest : List Token) (ds es : List ℕ) (symbols : List Symbol) (vs : List Value) → ts ≡ us → ds ≡ es → trace symbols (Value.of_dims ts ds ∷ vs) rest ≡ trace symbols (Value.of_dims us es ∷ vs) rest
same_dims ts us rest ds es symbols vs p q = ap (λ v. trace symbols (Value.of_dims v ds ∷ vs) rest) p ∙ ap (λ v. trace symbols (Value.of_dims us v ∷ vs) rest) q

-- dimensions behind others
leads_dims : (n : ℕ) (ts us rest : List Token) (ds es : List ℕ) (d : DerivesDims ts ds) (symbols : List Symbol) (vs : List Value) → Closed rest
    → Leads (dims_nesting n d) ts rest (Symbol.dims n ∷ symbols) (Value.of_dims us es ∷ vs) symbols (Value.of_dims (us ++ ts) (es ++ ds) ∷ vs)
leads_dims n ts us rest ds es DerivesDims.no_more symbols vs h =
    leads_none (no_dims n rest symbols (Value.of_dims us es ∷ vs) h ∙ same_dims us (us ++ []) rest es (es ++ []) symbols vs (sym (append-nil us)) (sym (append-nil es)))
leads_dims n ts us rest ds es (DerivesDims.one_more s m z d t ws xs more) symbols vs h =
    let one : List Token = between mark.OpenBracket s (numbered d t m ∷ []) mark.CloseBracket z in
    leads_to (leads_taking (Symbol.dims n) (marked mark.OpenBracket s) refl (leads_taking (Symbol.a_number (suc n)) (numbered d t m) refl (leads_taking (Symbol.fixed (suc n) Fixed.closing_bracket) (marked mark.CloseBracket z) refl
    (leads_reducing Reduction.dim (leads_dims n ws (us ++ one) rest xs (es ++ d ∷ []) more symbols vs h)))))
    (same_dims ((us ++ one) ++ ws) (us ++ (one ++ ws)) rest ((es ++ d ∷ []) ++ xs) (es ++ d ∷ xs) symbols vs (append_assoc us one ws) (append_assoc es (d ∷ []) xs))

-- ---- parameters

-- what follows the type of a parameter
abbrev rest_of_param : ℕ → List Symbol
rest_of_param n = Symbol.a_name n ∷ Symbol.reduce Reduction.no_dims ∷ Symbol.dims n ∷ Symbol.reduce Reduction.param ∷ []

leads_param : (n : ℕ) (ts rest : List Token) (p : Param) (d : DerivesParam ts p) (symbols : List Symbol) (vs : List Value) → Closed rest
    → Leads (param_nesting n d) ts rest (Symbol.a_type n ∷ (rest_of_param n ++ symbols)) vs symbols (Value.of_param ts p ∷ vs)
leads_param n ts rest p (DerivesParam.param us ws t x s ds ty dims) symbols vs h =
    let more : List Value = Value.of_token (named x s) ∷ Value.of_ty us t ∷ vs in
    leads_join (leads_type n us ((named x s ∷ ws) ++ rest) t ty (rest_of_param n ++ symbols) vs refl)
    (leads_taking (Symbol.a_name n) (named x s) refl (leads_reducing Reduction.no_dims
    (leads_reduced Reduction.param (leads_dims n ws [] rest ds [] dims (Symbol.reduce Reduction.param ∷ symbols) more h))))

param_begins : (n : ℕ) (ts rest : List Token) (p : Param) (symbols : List Symbol) (vs : List Value) (s : Symbol) (more : List Symbol) → DerivesParam ts p
    → ((w : Word) → is_type_word w ≡ true → move s w ≡ followed (type_move n w) more) → trace (s ∷ symbols) vs (ts ++ rest) ≡ trace (Symbol.a_type n ∷ (more ++ symbols)) vs (ts ++ rest)
param_begins n ts rest p symbols vs s more (DerivesParam.param us ws t x q ds ty dims) h =
    subst (λ v. trace (s ∷ symbols) vs v ≡ trace (Symbol.a_type n ∷ (more ++ symbols)) vs v) (sym (append_assoc us (named x q ∷ ws) rest))
    (type_unfolds n s more symbols vs us (named x q ∷ (ws ++ rest)) t ty h)

same_params : (ts us rest : List Token) (ps qs : List Param) (symbols : List Symbol) (vs : List Value) → ts ≡ us → ps ≡ qs → trace symbols (Value.of_params ts ps ∷ vs) rest ≡ trace symbols (Value.of_params us qs ∷ vs) rest
same_params ts us rest ps qs symbols vs p q = ap (λ v. trace symbols (Value.of_params v ps ∷ vs) rest) p ∙ ap (λ v. trace symbols (Value.of_params us v ∷ vs) rest) q

-- the parameter behind a comma
leads_next : (n : ℕ) (ts us rest : List Token) (c : Span) (p : Param) (ps : List Param) (d : DerivesParam ts p) (symbols : List Symbol) (vs : List Value) → Closed rest
    → Leads (param_nesting n d) ts rest (Symbol.a_param n ∷ Symbol.reduce Reduction.next_param ∷ symbols) (Value.of_token (marked mark.Comma c) ∷ Value.of_params us ps ∷ vs)
    symbols (Value.of_params (us ++ marked mark.Comma c ∷ ts) (ps ++ p ∷ []) ∷ vs)
leads_next n ts us rest c p ps d symbols vs h =
    let more : List Value = Value.of_token (marked mark.Comma c) ∷ Value.of_params us ps ∷ vs in
    leads_reduced Reduction.next_param (leads_from (param_begins n ts rest p (Symbol.reduce Reduction.next_param ∷ symbols) more (Symbol.a_param n) (rest_of_param n) d (λ w t. refl))
    (leads_param n ts rest p d (Symbol.reduce Reduction.next_param ∷ symbols) more h))

-- the parameters behind a comma, where others stand before it
leads_more : (n : ℕ) (ts us rest : List Token) (c z : Span) (ps qs : List Param) (d : DerivesParamList ts qs) (symbols : List Symbol) (vs : List Value)
    → Leads (param_list_nesting n d) ts (marked mark.Close z ∷ rest)
    (Symbol.a_param n ∷ Symbol.reduce Reduction.next_param ∷ Symbol.more_params n ∷ symbols) (Value.of_token (marked mark.Comma c) ∷ Value.of_params us ps ∷ vs)
    symbols (Value.of_params (us ++ marked mark.Comma c ∷ ts) (ps ++ qs) ∷ vs)
leads_more n ts us rest c z ps qs (DerivesParamList.last_one ws p d) symbols vs =
    leads_to (leads_next n ts us (marked mark.Close z ∷ rest) c p ps d (Symbol.more_params n ∷ symbols) vs (Closed.closing z rest)) refl
leads_more n ts us rest c z ps qs (DerivesParamList.one_more ws xs s p more d ds) symbols vs =
    let front : List Token = us ++ marked mark.Comma c ∷ ws in
    let behind : List Token = xs ++ marked mark.Close z ∷ rest in
    leads_to (leads_join (leads_next n ws us (marked mark.Comma s ∷ behind) c p ps d (Symbol.more_params n ∷ symbols) vs (Closed.comma s behind))
    (leads_taking (Symbol.more_params n) (marked mark.Comma s) refl (leads_more n xs front rest s z (ps ++ p ∷ []) more ds symbols vs)))
    (same_params (front ++ marked mark.Comma s ∷ xs) (us ++ marked mark.Comma c ∷ (ws ++ marked mark.Comma s ∷ xs)) (marked mark.Close z ∷ rest) ((ps ++ p ∷ []) ++ more) (ps ++ p ∷ more) symbols vs
    (append_assoc us (marked mark.Comma c ∷ ws) (marked mark.Comma s ∷ xs)) (append_assoc ps (p ∷ []) more))

-- what follows the type of the first parameter, up to the closing parenthesis
abbrev rest_of_first : ℕ → List Symbol
rest_of_first n = rest_of_param n ++ Symbol.reduce Reduction.first_param ∷ Symbol.more_params n ∷ Symbol.fixed n Fixed.closing ∷ []

leads_list : (n : ℕ) (ts rest : List Token) (z : Span) (ps : List Param) (d : DerivesParamList ts ps) (symbols : List Symbol) (vs : List Value)
    → Leads (param_list_nesting n d) ts (marked mark.Close z ∷ rest) (Symbol.a_type n ∷ (rest_of_param n ++ Symbol.reduce Reduction.first_param ∷ Symbol.more_params n ∷ symbols)) vs symbols (Value.of_params ts ps ∷ vs)
leads_list n ts rest z ps (DerivesParamList.last_one ws p d) symbols vs =
    leads_to (leads_reduced Reduction.first_param (leads_param n ts (marked mark.Close z ∷ rest) p d (Symbol.reduce Reduction.first_param ∷ Symbol.more_params n ∷ symbols) vs (Closed.closing z rest))) refl
leads_list n ts rest z ps (DerivesParamList.one_more ws xs s p more d ds) symbols vs =
    let behind : List Token = xs ++ marked mark.Close z ∷ rest in
    leads_join (leads_reduced Reduction.first_param (leads_param n ws (marked mark.Comma s ∷ behind) p d (Symbol.reduce Reduction.first_param ∷ Symbol.more_params n ∷ symbols) vs (Closed.comma s behind)))
    (leads_taking (Symbol.more_params n) (marked mark.Comma s) refl (leads_more n xs ws rest s z (p ∷ []) more ds symbols vs))

params_unfolds : (n : ℕ) (w : Word) → is_type_word w ≡ true → params_move n w ≡ followed (type_move n w) (rest_of_first n)
params_unfolds n (word.Mark mark.Close) h = absurd (cc)
params_unfolds n (word.Key key.Void) h = absurd (cc)
params_unfolds n w h = followed_twice (type_move n w) (rest_of_param n) (Symbol.reduce Reduction.first_param ∷ Symbol.more_params n ∷ Symbol.fixed n Fixed.closing ∷ [])

list_begins : (n : ℕ) (ts rest : List Token) (ps : List Param) (symbols : List Symbol) (vs : List Value) → DerivesParamList ts ps
    → trace (Symbol.params n ∷ symbols) vs (ts ++ rest) ≡ trace (Symbol.a_type n ∷ (rest_of_first n ++ symbols)) vs (ts ++ rest)
list_begins n ts rest ps symbols vs (DerivesParamList.last_one ws p d) = param_begins n ts rest p symbols vs (Symbol.params n) (rest_of_first n) d (params_unfolds n)
list_begins n ts rest ps symbols vs (DerivesParamList.one_more ws xs s p more d ds) =
    subst (λ v. trace (Symbol.params n ∷ symbols) vs v ≡ trace (Symbol.a_type n ∷ (rest_of_first n ++ symbols)) vs v) (sym (append_assoc ws (marked mark.Comma s ∷ xs) rest))
    (param_begins n ws (marked mark.Comma s ∷ (xs ++ rest)) p symbols vs (Symbol.params n) (rest_of_first n) d (params_unfolds n))

-- parameters with the closing parenthesis
pub leads_params : (n : ℕ) (ts rest : List Token) (z : Span) (ps : List Param) (d : DerivesParams ts ps) (symbols : List Symbol) (vs : List Value)
    → Leads (params_nesting n d ++ n ∷ []) (ts ++ marked mark.Close z ∷ []) rest (Symbol.params n ∷ symbols) vs symbols (Value.of_token (marked mark.Close z) ∷ Value.of_params ts ps ∷ vs)
leads_params n ts rest z ps DerivesParams.none symbols vs = leads_reduced Reduction.no_params (leads_take (Symbol.params n) (marked mark.Close z) refl)
leads_params n ts rest z ps (DerivesParams.none_by_void s) symbols vs =
    leads_taking (Symbol.params n) (keyed key.Void s) refl (leads_reducing Reduction.void_params (leads_take (Symbol.fixed n Fixed.closing) (marked mark.Close z) refl))
leads_params n ts rest z ps (DerivesParams.some ws qs d) symbols vs =
    let end : Token = marked mark.Close z in
    leads_join (leads_from (list_begins n ts (end ∷ rest) ps symbols vs d) (leads_list n ts rest z ps d (Symbol.fixed n Fixed.closing ∷ symbols) vs))
    (leads_take (Symbol.fixed n Fixed.closing) end refl)

-- ---- kernels

result_unfolds : (n : ℕ) (w : Word) → is_type_word w ≡ true → result_move n w ≡ followed (type_move n w) (Symbol.reduce Reduction.result ∷ [])
result_unfolds n (word.Key key.Void) h = absurd (cc)
result_unfolds n w h = refl

leads_result : (ts rest : List Token) (r : Option Ty) (d : DerivesResult ts r) (symbols : List Symbol) (vs : List Value) → is_int rest ≡ false
    → Leads (at_level 0 ts) ts rest (Symbol.result 0 ∷ symbols) vs symbols (Value.of_result ts r ∷ vs)
leads_result ts rest r (DerivesResult.void s) symbols vs h = leads_reduced Reduction.void_result (leads_take (Symbol.result 0) (keyed key.Void s) refl)
leads_result ts rest r (DerivesResult.a_type us t d) symbols vs h =
    leads_from (type_unfolds 0 (Symbol.result 0) (Symbol.reduce Reduction.result ∷ []) symbols vs ts rest t d (result_unfolds 0))
    (leads_reduced Reduction.result (leads_type 0 ts rest t d (Symbol.reduce Reduction.result ∷ symbols) vs h))

pub leads_kernel : (ts rest : List Token) (tree : Tree) (d : Derives ts tree) (symbols : List Symbol) (vs : List Value) → Leads (nesting d) ts rest (Symbol.result 0 ∷ (kernel_rest ++ symbols)) vs symbols (Value.of_tree ts tree ∷ vs)
leads_kernel ts rest tree (Derives.kernel rs ps us x s a z b e r params body result inside items) symbols vs =
    let values : List Value = Value.of_token (named x s) ∷ Value.of_result rs r ∷ vs in
    let within : List Value = Value.of_token (marked mark.Close z) ∷ Value.of_params ps params ∷ Value.of_token (marked mark.Open a) ∷ values in
    let block : List Token = between mark.OpenBrace b us mark.CloseBrace e in
    let behind : List Symbol = Symbol.fixed 1 Fixed.opening_brace ∷ Symbol.reduce Reduction.no_items ∷ Symbol.body 1 ∷ Symbol.reduce Reduction.kernel ∷ symbols in
    leads_join (leads_result rs ((named x s ∷ (between mark.Open a ps mark.Close z ++ block)) ++ rest) r result (kernel_rest ++ symbols) vs refl)
    (leads_taking (Symbol.a_name 0) (named x s) refl (leads_join
    (leads_taking (Symbol.fixed 1 Fixed.opening) (marked mark.Open a) refl (leads_params 1 ps (block ++ rest) z params inside behind (Value.of_token (marked mark.Open a) ∷ values)))
    (leads_taking (Symbol.fixed 1 Fixed.opening_brace) (marked mark.OpenBrace b) refl
    (leads_reduced Reduction.kernel (leads_reducing Reduction.no_items (leads_items us body items 1 rest [] [] e (Symbol.reduce Reduction.kernel ∷ symbols) (Value.of_token (marked mark.OpenBrace b) ∷ within)))))))

pub traced_kernel : (ts : List Token) (tree : Tree) (d : Derives ts tree) → Runs (nesting d) ts (trace kernel_symbols [] ts) (Trace.complete (Value.of_tree ts tree ∷ []))
traced_kernel ts tree d = subst (λ us. Runs (nesting d) ts (trace kernel_symbols [] us) (Trace.complete (Value.of_tree ts tree ∷ []))) (append-nil ts) (leads_kernel ts [] tree d [] []).runs
