-- How a trace goes on, by what the first symbol does.
use Rattle.std.proofs.Common.{◌≡◌, ℕ, List, [], ◌∷◌, ◌++◌, Bool, true, false, refl, ◌∙◌, ap, append_assoc}
use Rattle.c_ast.specs.declared.token.Token.{Token}
use Rattle.c_parse.specs.Symbols.{Symbol, Reduction, Move, move, followed}
use Rattle.c_parse.specs.Values.{Value, reduced}
use Rattle.c_parse.specs.Traces.{Trace, settled, moved, entering, trace}

-- the trace behind a token
abbrev behind : List Token → List Symbol → List Value → Trace
behind ts symbols vs = trace symbols vs ts

pub trace_takes : (s : Symbol) (n : ℕ) (new symbols : List Symbol) (vs : List Value) (t : Token) (ts : List Token) → move s t.word ≡ Move.take n new
    → trace (s ∷ symbols) vs (t ∷ ts) ≡ Trace.taken n t.span (trace (new ++ symbols) (Value.of_token t ∷ vs) ts)
trace_takes s n new symbols vs t ts h = ap (λ m. moved m (entering (behind ts) symbols (settled s vs) t) (behind ts) symbols vs t) h

pub trace_sticks : (s : Symbol) (symbols : List Symbol) (vs : List Value) (t : Token) (ts : List Token) → move s t.word ≡ Move.stuck → trace (s ∷ symbols) vs (t ∷ ts) ≡ Trace.unexpected t.span
trace_sticks s symbols vs t ts h = ap (λ m. moved m (entering (behind ts) symbols (settled s vs) t) (behind ts) symbols vs t) h

pub trace_passes : (s : Symbol) (symbols : List Symbol) (vs : List Value) (t : Token) (ts : List Token) → move s t.word ≡ Move.pass → trace (s ∷ symbols) vs (t ∷ ts) ≡ trace symbols (settled s vs) (t ∷ ts)
trace_passes s symbols vs t ts h = ap (λ m. moved m (entering (behind ts) symbols (settled s vs) t) (behind ts) symbols vs t) h

-- a reduction is done at any token and at the end
pub trace_reduces : (r : Reduction) (symbols : List Symbol) (vs : List Value) (ts : List Token) → trace (Symbol.reduce r ∷ symbols) vs ts ≡ trace symbols (reduced r vs) ts
trace_reduces r symbols vs [] = refl
trace_reduces r symbols vs (t ∷ ts) = refl

abbrev pub is_pass : Move → Bool
is_pass Move.pass = true
is_pass m = false

unfolded : (m : Move) (more symbols : List Symbol) (vs us ws : List Value) (t : Token) (ts : List Token) → is_pass m ≡ false
    → moved (followed m more) (entering (behind ts) symbols us t) (behind ts) symbols vs t ≡ moved m (entering (behind ts) (more ++ symbols) ws t) (behind ts) (more ++ symbols) vs t
unfolded Move.pass more symbols vs us ws t ts h = absurd (cc)
unfolded (Move.take n new) more symbols vs us ws t ts h = ap (λ st. Trace.taken n t.span (trace st (Value.of_token t ∷ vs) ts)) (append_assoc new more symbols)
unfolded Move.stuck more symbols vs us ws t ts h = refl

-- a symbol whose rule begins with another symbol, which is not passed over at this token
pub trace_unfolds : (s lead : Symbol) (more symbols : List Symbol) (vs : List Value) (t : Token) (ts : List Token) → move s t.word ≡ followed (move lead t.word) more → is_pass (move lead t.word) ≡ false
    → trace (s ∷ symbols) vs (t ∷ ts) ≡ trace (lead ∷ (more ++ symbols)) vs (t ∷ ts)
trace_unfolds s lead more symbols vs t ts h some =
    ap (λ m. moved m (entering (behind ts) symbols (settled s vs) t) (behind ts) symbols vs t) h
    ∙ unfolded (move lead t.word) more symbols vs (settled s vs) (settled lead vs) t ts some
