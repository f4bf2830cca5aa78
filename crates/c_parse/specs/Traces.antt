-- How a predictive parser goes over tokens: the nesting at each token, and how it ends.
use Rattle.std.specs.Prelude.{ℕ, nat_lt, if◌then◌else◌, List, [], ◌∷◌, ◌++◌}
use Rattle.el_base.specs.Limits.{max_nesting}
use Rattle.el_base.specs.declared.span.Span.{Span}
use Rattle.c_ast.specs.declared.token.Token.{Token}
use Rattle.c_parse.specs.Symbols.{Symbol, Move, move, may_be_absent}
use Rattle.c_parse.specs.Values.{Value, reduced}

pub data Trace : Type 0 where
  -- all was read, and these values stand
  complete : List Value → Trace
  -- tokens are missing
  cut : Trace
  -- a token at that place is not to be had there
  unexpected : Span → Trace
  -- a token at that place was taken, which belongs to so many constructs
  taken : ℕ → Span → Trace → Trace

-- the values where a symbol is passed over: a reduction is done
abbrev pub settled : Symbol → List Value → List Value
settled (Symbol.reduce r) vs = reduced r vs
settled (Symbol.without b s) vs = settled s vs
settled s vs = vs

-- no token is left
abbrev pub ending : List Symbol → List Value → Trace
ending [] vs = Trace.complete vs
ending (s ∷ symbols) vs = if may_be_absent s then ending symbols (settled s vs) else Trace.cut

-- what a move does at a token, where `passed` is the trace if the symbol is passed over
abbrev pub moved : Move → Trace → (List Symbol → List Value → Trace) → List Symbol → List Value → Token → Trace
moved Move.pass passed onward symbols vs t = passed
moved (Move.take n new) passed onward symbols vs t = Trace.taken n t.span (onward (new ++ symbols) (Value.of_token t ∷ vs))
moved Move.stuck passed onward symbols vs t = Trace.unexpected t.span

-- the next token, where `onward` is the trace behind it
abbrev pub entering : (List Symbol → List Value → Trace) → List Symbol → List Value → Token → Trace
entering onward [] vs t = Trace.unexpected t.span
entering onward (s ∷ symbols) vs t = moved (move s t.word) (entering onward symbols (settled s vs) t) onward symbols vs t

abbrev pub trace : List Symbol → List Value → List Token → Trace
trace symbols vs [] = ending symbols vs
trace symbols vs (t ∷ ts) = entering (λ more us. trace more us ts) symbols vs t

-- ---- verdicts, where no token may belong to more constructs than the most

pub data Verdict : Type 0 where
  whole cut : Verdict
  unexpected deep : Span → Verdict

abbrev pub verdict : Trace → Verdict
verdict (Trace.complete vs) = Verdict.whole
verdict Trace.cut = Verdict.cut
verdict (Trace.unexpected s) = Verdict.unexpected s
verdict (Trace.taken n s rest) = if nat_lt max_nesting n then Verdict.deep s else verdict rest

-- the verdict on tokens where these symbols are expected
abbrev pub judge : List Symbol → List Token → Verdict
judge symbols ts = verdict (trace symbols [] ts)

-- the nestings of tokens before the rest of a trace
abbrev pub laid : List ℕ → List Token → Trace → Trace
laid (n ∷ ns) (t ∷ ts) rest = Trace.taken n t.span (laid ns ts rest)
laid ns ts rest = rest
