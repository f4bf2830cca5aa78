-- Traces over some tokens with their nestings.
use Rattle.std.proofs.Common.{◌≡◌, ℕ, suc, List, [], ◌∷◌, ◌++◌, length, refl, sym, ap, subst}
use Rattle.c_ast.specs.declared.token.Token.{Token}
use Rattle.c_parse.specs.Symbols.{Symbol, Move, move}
use Rattle.c_parse.specs.Values.{Value}
use Rattle.c_parse.specs.Traces.{Trace, trace}
use Rattle.c_parse.proofs.Tracing.{trace_takes}

-- from one trace over these tokens, with these nestings, to another
pub data Runs : List ℕ → List Token → Trace → Trace → Type 0 where
  done : (a : Trace) → Runs [] [] a a
  onward : (n : ℕ) (t : Token) (ns : List ℕ) (ts : List Token) (a b : Trace) → Runs ns ts a b → Runs (n ∷ ns) (t ∷ ts) (Trace.taken n t.span a) b

pub runs_join : (ns ms : List ℕ) (ts us : List Token) (a b c : Trace) → Runs ns ts a b → Runs ms us b c → Runs (ns ++ ms) (ts ++ us) a c
runs_join ns ms ts us a b c (Runs.done x) r = r
runs_join ns ms ts us a b c (Runs.onward n t ks vs x y q) r = Runs.onward n t (ks ++ ms) (vs ++ us) x c (runs_join ks ms vs us x y c q r)

pub runs_from : (ns : List ℕ) (ts : List Token) (a b c : Trace) → a ≡ b → Runs ns ts b c → Runs ns ts a c
runs_from ns ts a b c h r = subst (λ x. Runs ns ts x c) (sym h) r

pub runs_to : (ns : List ℕ) (ts : List Token) (a b c : Trace) → Runs ns ts a b → b ≡ c → Runs ns ts a c
runs_to ns ts a b c r h = subst (λ x. Runs ns ts a x) h r

-- one token, which the first symbol takes
pub runs_take : (s : Symbol) (n : ℕ) (new symbols : List Symbol) (vs : List Value) (t : Token) (ts : List Token) → move s t.word ≡ Move.take n new
    → Runs (n ∷ []) (t ∷ []) (trace (s ∷ symbols) vs (t ∷ ts)) (trace (new ++ symbols) (Value.of_token t ∷ vs) ts)
runs_take s n new symbols vs t ts h =
    let later : Trace = trace (new ++ symbols) (Value.of_token t ∷ vs) ts in
    runs_from (n ∷ []) (t ∷ []) (trace (s ∷ symbols) vs (t ∷ ts)) (Trace.taken n t.span later) later (trace_takes s n new symbols vs t ts h) (Runs.onward n t [] [] later later (Runs.done later))

pub runs_length : (ns : List ℕ) (ts : List Token) (a b : Trace) → Runs ns ts a b → length ns ≡ length ts
runs_length ns ts a b (Runs.done x) = refl
runs_length ns ts a b (Runs.onward n t ks us x y r) = ap suc (runs_length ks us x y r)
