-- How tokens lead from some expected symbols and values to others.
use Rattle.std.proofs.Common.{◌≡◌, ℕ, List, [], ◌∷◌, ◌++◌, refl, ap, append_assoc}
use Rattle.c_ast.specs.declared.token.Token.{Token}
use Rattle.c_parse.specs.Symbols.{Symbol, Reduction, Move, move}
use Rattle.c_parse.specs.Values.{Value, reduced}
use Rattle.c_parse.specs.Traces.{Trace, trace}
use Rattle.c_parse.proofs.Tracing.{trace_takes, trace_reduces}
use Rattle.c_parse.proofs.Runs.{Runs, runs_join, runs_from, runs_to}

-- These tokens, with these nestings, are read before the rest, from the symbols and values that come first to those that come last.
pub record Leads (ns : List ℕ) (ts rest : List Token) (symbols : List Symbol) (vs : List Value) (left : List Symbol) (us : List Value) : Type 0 where
  pub runs : Runs ns ts (trace symbols vs (ts ++ rest)) (trace left us rest)

-- nothing is read
pub leads_none : {rest : List Token} {s0 s1 : List Symbol} {v0 v1 : List Value} → trace s0 v0 rest ≡ trace s1 v1 rest → Leads [] [] rest s0 v0 s1 v1
leads_none {rest} {s0} {s1} {v0} {v1} h = record { runs = runs_from [] [] (trace s0 v0 rest) (trace s1 v1 rest) (trace s1 v1 rest) h (Runs.done (trace s1 v1 rest)) }

-- one part behind another
pub leads_join : {ns ms : List ℕ} {ts us rest : List Token} {s0 s1 s2 : List Symbol} {v0 v1 v2 : List Value}
    → Leads ns ts (us ++ rest) s0 v0 s1 v1 → Leads ms us rest s1 v1 s2 v2 → Leads (ns ++ ms) (ts ++ us) rest s0 v0 s2 v2
leads_join {ns} {ms} {ts} {us} {rest} {s0} {s1} {s2} {v0} {v1} {v2} p q =
    let same : (ts ++ us) ++ rest ≡ ts ++ (us ++ rest) = append_assoc ts us rest in
    record {
      runs = runs_from (ns ++ ms) (ts ++ us) (trace s0 v0 ((ts ++ us) ++ rest)) (trace s0 v0 (ts ++ (us ++ rest))) (trace s2 v2 rest) (ap (λ ws. trace s0 v0 ws) same)
          (runs_join ns ms ts us (trace s0 v0 (ts ++ (us ++ rest))) (trace s1 v1 (us ++ rest)) (trace s2 v2 rest) p.runs q.runs);
    }

-- the first token, which the first symbol takes
pub leads_taking : (s : Symbol) (t : Token) {n : ℕ} {new : List Symbol} {ns : List ℕ} {ts rest : List Token} {symbols left : List Symbol} {vs us : List Value} → move s t.word ≡ Move.take n new
    → Leads ns ts rest (new ++ symbols) (Value.of_token t ∷ vs) left us → Leads (n ∷ ns) (t ∷ ts) rest (s ∷ symbols) vs left us
leads_taking s t {n} {new} {ns} {ts} {rest} {symbols} {left} {vs} {us} h p =
    let later : Trace = trace (new ++ symbols) (Value.of_token t ∷ vs) (ts ++ rest) in
    record {
      runs = runs_from (n ∷ ns) (t ∷ ts) (trace (s ∷ symbols) vs (t ∷ (ts ++ rest))) (Trace.taken n t.span later) (trace left us rest) (trace_takes s n new symbols vs t (ts ++ rest) h)
          (Runs.onward n t ns ts later (trace left us rest) p.runs);
    }

-- one token, which the first symbol takes
pub leads_take : (s : Symbol) (t : Token) {n : ℕ} {new : List Symbol} {rest : List Token} {symbols : List Symbol} {vs : List Value} → move s t.word ≡ Move.take n new
    → Leads (n ∷ []) (t ∷ []) rest (s ∷ symbols) vs (new ++ symbols) (Value.of_token t ∷ vs)
leads_take s t {n} {new} {rest} {symbols} {vs} h = leads_taking s t h (leads_none refl)

-- before the tokens nothing changes but symbols and values
pub leads_from : {ns : List ℕ} {ts rest : List Token} {s0 s1 s2 : List Symbol} {v0 v1 v2 : List Value} → trace s0 v0 (ts ++ rest) ≡ trace s1 v1 (ts ++ rest)
    → Leads ns ts rest s1 v1 s2 v2 → Leads ns ts rest s0 v0 s2 v2
leads_from {ns} {ts} {rest} {s0} {s1} {s2} {v0} {v1} {v2} h p =
    record { runs = runs_from ns ts (trace s0 v0 (ts ++ rest)) (trace s1 v1 (ts ++ rest)) (trace s2 v2 rest) h p.runs }

-- behind the tokens nothing changes but symbols and values
pub leads_to : {ns : List ℕ} {ts rest : List Token} {s0 s1 s2 : List Symbol} {v0 v1 v2 : List Value} → Leads ns ts rest s0 v0 s1 v1 → trace s1 v1 rest ≡ trace s2 v2 rest
    → Leads ns ts rest s0 v0 s2 v2
leads_to {ns} {ts} {rest} {s0} {s1} {s2} {v0} {v1} {v2} p h =
    record { runs = runs_to ns ts (trace s0 v0 (ts ++ rest)) (trace s1 v1 rest) (trace s2 v2 rest) p.runs h }

-- a reduction before the tokens
pub leads_reducing : (r : Reduction) {ns : List ℕ} {ts rest : List Token} {symbols left : List Symbol} {vs us : List Value} → Leads ns ts rest symbols (reduced r vs) left us
    → Leads ns ts rest (Symbol.reduce r ∷ symbols) vs left us
leads_reducing r {ns} {ts} {rest} {symbols} {left} {vs} {us} p = leads_from (trace_reduces r symbols vs (ts ++ rest)) p

-- a reduction behind the tokens
pub leads_reduced : (r : Reduction) {ns : List ℕ} {ts rest : List Token} {symbols left : List Symbol} {vs us : List Value} → Leads ns ts rest symbols vs (Symbol.reduce r ∷ left) us
    → Leads ns ts rest symbols vs left (reduced r us)
leads_reduced r {ns} {ts} {rest} {symbols} {left} {vs} {us} p = leads_to p (trace_reduces r left us rest)
