-- What is traced as complete is derived.
use Rattle.std.proofs.Common.{◌≡◌, ℕ, zero, suc, List, [], ◌∷◌, ◌++◌, Bool, true, false, if◌then◌else◌, None, arith, refl, sym, subst}
use Rattle.std.proofs.lemmas.List.{append-nil}
use Rattle.el_base.specs.declared.ty.Ty.TheVariants.{I32, U32}
use Rattle.c_ast.specs.declared.token.Token.{Token}
use Rattle.c_ast.specs.declared.key.Key.TheVariants as key
use Rattle.c_ast.specs.declared.tree.StmtKind.TheVariants as stmt
use Rattle.c_ast.specs.Derives.{keyed, named, stmt_of, if_tokens, DerivesType, DerivesExpr, DerivesIndices, DerivesMoreArgs, DerivesDeclared, DerivesDeclarators, DerivesStmt, DerivesDims, DerivesParamList, Derives}
use Rattle.c_parse.specs.Symbols.{Symbol, Move, move, may_be_absent, is_type_word, bars, kernel_symbols, program_symbols}
use Rattle.c_parse.specs.Values.{Value}
use Rattle.c_parse.specs.Traces.{Trace, settled, ending, moved, entering, trace}
use Rattle.c_parse.proofs.Runs.{Runs}
use Rattle.c_parse.proofs.Denotations.{Has, HasStmt, Joined, Means, Denotes, Serves, has, has_stmt, both, skip, last, denotes_apart}
use Rattle.c_ast.specs.ProgramTexts.{DerivesProgram}
use Rattle.c_parse.proofs.DenotedExprs.{fixed_serves, type_serves, maybe_int_serves, expression_serves, inside_serves, operators_serves, indices_serves, postfix_serves, arguments_serves, more_arguments_serves, name_has}
use Rattle.c_parse.proofs.DenotedStmts.{simple_serves, assigning_serves, declared_serves, value_serves, more_declared_serves, first_serves, condition_serves, last_serves, statement_serves, other_serves, body_serves}
use Rattle.c_parse.proofs.DenotedKernels.{name_serves, number_serves, dims_serves, param_serves, more_params_serves, params_serves, result_serves, kernel_derives}
use Rattle.c_parse.proofs.DenotedPrograms.{program_serves, helper_body_serves, limited_serves}

-- ---- complete traces

abbrev pub IsComplete : Trace → Type 0
IsComplete (Trace.complete vs) = Unit {0}
IsComplete Trace.cut = ⊥
IsComplete (Trace.unexpected s) = ⊥
IsComplete (Trace.taken n s rest) = IsComplete rest

pub runs_complete : (ns : List ℕ) (ts : List Token) (a b : Trace) → Runs ns ts a b → IsComplete b → IsComplete a
runs_complete ns ts a b (Runs.done x) h = h
runs_complete ns ts a b (Runs.onward n t ks us x y r) h = runs_complete ks us x y r h

-- ---- the table

-- each move serves what its symbol means
pub serves : (s : Symbol) (t : Token) → Serves (may_be_absent s) (Means s) (move s t.word) t
serves (Symbol.fixed n f) t = fixed_serves n f t.word t.span
serves (Symbol.a_name n) t = name_serves n t.word t.span
serves (Symbol.a_number n) t = number_serves n t.word t.span
serves (Symbol.a_type n) t = type_serves n t.word t.span
serves (Symbol.maybe_int n) t = maybe_int_serves n t.word t.span
serves (Symbol.expression n l) t = expression_serves n l t.word t.span
serves (Symbol.inside n) t = inside_serves n (is_type_word t.word) t.word t.span
serves (Symbol.operators n l) t = operators_serves n l t.word t.span
serves (Symbol.indices n) t = indices_serves n t.word t.span
serves (Symbol.postfix n) t = postfix_serves n t.word t.span
serves (Symbol.arguments n) t = arguments_serves n t.word t.span
serves (Symbol.more_arguments n) t = more_arguments_serves n t.word t.span
serves (Symbol.simple n) t = simple_serves n t.word t.span
serves (Symbol.assigning n) t = assigning_serves n t.word t.span
serves (Symbol.declared n) t = declared_serves n t.word t.span
serves (Symbol.value n) t = value_serves n t.word t.span
serves (Symbol.more_declared n) t = more_declared_serves n t.word t.span
serves (Symbol.first n) t = first_serves n (is_type_word t.word) t.word t.span
serves (Symbol.condition n) t = condition_serves n t.word t.span
serves (Symbol.last n) t = last_serves n t.word t.span
serves (Symbol.statement n) t = statement_serves n t.word t.span
serves (Symbol.other n) t = other_serves n t.word t.span
serves (Symbol.body n) t = body_serves n (is_type_word t.word) t.word t.span
serves (Symbol.result n) t = result_serves n t.word t.span
serves (Symbol.params n) t = params_serves n t.word t.span
serves (Symbol.a_param n) t = param_serves n t.word t.span
serves (Symbol.more_params n) t = more_params_serves n t.word t.span
serves (Symbol.dims n) t = dims_serves n t.word t.span
serves Symbol.program t = program_serves t.word t.span
serves (Symbol.helper_body n) t = helper_body_serves n (is_type_word t.word) t.word t.span
serves (Symbol.without b s) t = limited_serves b (may_be_absent s) (Means s) (move s t.word) t (bars b t.word) refl (serves s t)
serves (Symbol.reduce r) t = refl

-- ---- what is absent

nothing_behind : (P : List Token → Type 0) (ts : List Token) → P ts → P (ts ++ [])
nothing_behind P ts h = subst P (sym (append-nil ts)) h

operators_absent : (n l : ℕ) → Means (Symbol.operators n l) []
operators_absent n zero ts a d = nothing_behind (Has (DerivesExpr 0)) ts (has (DerivesExpr 0) ts a (DerivesExpr.tighter 0 ts a (omega arith) d))
operators_absent n (suc l) ts a d = nothing_behind (Has (DerivesExpr (suc l))) ts (has (DerivesExpr (suc l)) ts a d)

other_absent : (n : ℕ) → Means (Symbol.other n) []
other_absent n s a z cs us c cond body =
    let all : List Token = if_tokens s a cs z us in
    nothing_behind HasStmt all (has_stmt true all (stmt_of (stmt.If c body.value None) all) (DerivesStmt.without_else body.open_end s a z cs us c body.value cond body.derived))

absent_means : (s : Symbol) → may_be_absent s ≡ true → Means s []
absent_means (Symbol.maybe_int n) h = λ s. (has DerivesType (keyed key.Signed s ∷ []) I32 (DerivesType.plain_signed s), has DerivesType (keyed key.Unsigned s ∷ []) U32 (DerivesType.plain_unsigned s))
absent_means (Symbol.operators n l) h = operators_absent n l
absent_means (Symbol.indices n) h = has DerivesIndices [] [] DerivesIndices.no_more
absent_means (Symbol.postfix n) h = λ x s. name_has x s [] [] DerivesIndices.no_more
absent_means (Symbol.more_arguments n) h = has DerivesMoreArgs [] [] DerivesMoreArgs.no_further
absent_means (Symbol.value n) h = λ t x s. has (DerivesDeclared t) (named x s ∷ []) (record { kind = stmt.Declare x t None; at = s }) (DerivesDeclared.without_value t x s)
absent_means (Symbol.more_declared n) h = λ t us x d. nothing_behind (Has (DerivesDeclarators t)) us (has (DerivesDeclarators t) us (x ∷ []) (DerivesDeclarators.last_one t us x d))
absent_means (Symbol.other n) h = other_absent n
absent_means (Symbol.more_params n) h = λ us p d. nothing_behind (Has DerivesParamList) us (has DerivesParamList us (p ∷ []) (DerivesParamList.last_one us p d))
absent_means (Symbol.dims n) h = has DerivesDims [] [] DerivesDims.no_more
absent_means (Symbol.without b s) h = (absent_means s h, tt)
absent_means (Symbol.reduce r) h = refl
absent_means s h = absurd (cc)

-- ---- complete traces are derivations

-- no token is left
ending_denotes : (symbols : List Symbol) (vs : List Value) → IsComplete (ending symbols vs) → Denotes symbols []
ending_denotes [] vs h = refl
ending_denotes (s ∷ symbols) vs h = by_kind s symbols (settled s vs) (may_be_absent s) refl h (λ k. ending_denotes symbols (settled s vs) k)
  where
    by_kind : (u : Symbol) (more : List Symbol) (us : List Value) (b : Bool) → may_be_absent u ≡ b → IsComplete (if b then ending more us else Trace.cut) → (IsComplete (ending more us) → Denotes more []) → Denotes (u ∷ more) []
    by_kind u more us true e k behind = Joined.joined [] [] (absent_means u e) (behind k)
    by_kind u more us false e k behind = absurd k

-- what complete traces over these tokens derive
abbrev Completes : List Token → Type 0
Completes ts = (symbols : List Symbol) (vs : List Value) → IsComplete (trace symbols vs ts) → Denotes symbols ts

moved_denotes : (s : Symbol) (m : Move) (passed : Trace) (symbols : List Symbol) (vs : List Value) (t : Token) (ts : List Token) → Serves (may_be_absent s) (Means s) m t → Completes ts
    → (IsComplete passed → Denotes symbols (t ∷ ts)) → IsComplete (moved m passed (λ more us. trace more us ts) symbols vs t) → Denotes (s ∷ symbols) (t ∷ ts)
moved_denotes s Move.pass passed symbols vs t ts absence behind later h = Joined.joined [] (t ∷ ts) (absent_means s absence) (later h)
moved_denotes s (Move.take n new) passed symbols vs t ts takes behind later h =
    both (λ us. Denotes (s ∷ symbols) (t ∷ us)) ts (denotes_apart new symbols ts (behind (new ++ symbols) (Value.of_token t ∷ vs) h)) (λ fs bs p q. Joined.joined (t ∷ fs) bs (takes fs p) q)
moved_denotes s Move.stuck passed symbols vs t ts nothing behind later h = absurd h

entering_denotes : (symbols : List Symbol) (vs : List Value) (t : Token) (ts : List Token) → Completes ts → IsComplete (entering (λ more us. trace more us ts) symbols vs t) → Denotes symbols (t ∷ ts)
entering_denotes [] vs t ts behind h = absurd h
entering_denotes (s ∷ symbols) vs t ts behind h = moved_denotes s (move s t.word) (entering (λ more us. trace more us ts) symbols (settled s vs) t) symbols vs t ts (serves s t) behind
    (λ k. entering_denotes symbols (settled s vs) t ts behind k) h

pub complete_denotes : (ts : List Token) (symbols : List Symbol) (vs : List Value) → IsComplete (trace symbols vs ts) → Denotes symbols ts
complete_denotes [] symbols vs h = ending_denotes symbols vs h
complete_denotes (t ∷ ts) symbols vs h = entering_denotes symbols vs t ts (λ more us k. complete_denotes ts more us k) h

-- tokens that complete a kernel text are one
pub complete_derives : (ts : List Token) (vs : List Value) → IsComplete (trace kernel_symbols vs ts) → Has Derives ts
complete_derives ts vs h = kernel_derives ts (complete_denotes ts kernel_symbols vs h)

-- tokens that complete a program's text are one
pub complete_program : (ts : List Token) (vs : List Value) → IsComplete (trace program_symbols vs ts) → Has DerivesProgram ts
complete_program ts vs h = let d = complete_denotes ts program_symbols vs h in last ts (skip ts d)
