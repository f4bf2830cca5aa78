-- How the verdict on tokens follows from what the first symbol does.
use Rattle.std.proofs.Common.{◌≡◌, ℕ, suc, ◌≤◌, List, [], ◌∷◌, ◌++◌, Bool, true, false, nat_lt, if◌then◌else◌, refl, sym, ◌∙◌, ap}
use Rattle.std.proofs.lemmas.Bool.{le-ltb}
use Rattle.el_base.specs.Limits.{max_nesting}
use Rattle.c_ast.specs.declared.token.Token.{Token}
use Rattle.c_parse.specs.Symbols.{Symbol, Reduction, Move, move, followed, may_be_absent}
use Rattle.c_parse.specs.Values.{Value, reduced}
use Rattle.c_parse.specs.Traces.{Trace, Verdict, settled, ending, moved, entering, trace, verdict, judge}
use Rattle.c_parse.proofs.Tracing.{is_pass, trace_takes, trace_sticks, trace_passes, trace_reduces, trace_unfolds}

-- ---- the verdict is the same whatever values stand

ending_of_any : (symbols : List Symbol) (vs us : List Value) → verdict (ending symbols vs) ≡ verdict (ending symbols us)
ending_of_any [] vs us = refl
ending_of_any (s ∷ symbols) vs us = either (may_be_absent s) (ending_of_any symbols (settled s vs) (settled s us))
  where
    either : (b : Bool) → verdict (ending symbols (settled s vs)) ≡ verdict (ending symbols (settled s us))
        → verdict (if b then ending symbols (settled s vs) else Trace.cut) ≡ verdict (if b then ending symbols (settled s us) else Trace.cut)
    either true h = h
    either false h = refl

abbrev SameBehind : List Token → Type 0
SameBehind ts = (symbols : List Symbol) (vs us : List Value) → verdict (trace symbols vs ts) ≡ verdict (trace symbols us ts)

moved_of_any : (m : Move) (passed other : Trace) (symbols : List Symbol) (vs us : List Value) (t : Token) (ts : List Token) → SameBehind ts → verdict passed ≡ verdict other
    → verdict (moved m passed (λ more ws. trace more ws ts) symbols vs t) ≡ verdict (moved m other (λ more ws. trace more ws ts) symbols us t)
moved_of_any Move.pass passed other symbols vs us t ts same h = h
moved_of_any (Move.take n new) passed other symbols vs us t ts same h =
    ap (λ v. if nat_lt max_nesting n then Verdict.deep t.span else v) (same (new ++ symbols) (Value.of_token t ∷ vs) (Value.of_token t ∷ us))
moved_of_any Move.stuck passed other symbols vs us t ts same h = refl

entering_of_any : (symbols : List Symbol) (vs us : List Value) (t : Token) (ts : List Token) → SameBehind ts
    → verdict (entering (λ more ws. trace more ws ts) symbols vs t) ≡ verdict (entering (λ more ws. trace more ws ts) symbols us t)
entering_of_any [] vs us t ts same = refl
entering_of_any (s ∷ symbols) vs us t ts same = moved_of_any (move s t.word) (entering (λ more ws. trace more ws ts) symbols (settled s vs) t) (entering (λ more ws. trace more ws ts) symbols (settled s us) t)
    symbols vs us t ts same (entering_of_any symbols (settled s vs) (settled s us) t ts same)

pub verdict_of_any : (ts : List Token) → SameBehind ts
verdict_of_any [] = ending_of_any
verdict_of_any (t ∷ ts) = λ symbols vs us. entering_of_any symbols vs us t ts (verdict_of_any ts)

-- ---- the first symbol

-- it takes the token, which is not too deep
pub judge_takes : (s : Symbol) (n : ℕ) (new symbols : List Symbol) (t : Token) (ts : List Token) → move s t.word ≡ Move.take n new → n ≤ max_nesting → judge (s ∷ symbols) (t ∷ ts) ≡ judge (new ++ symbols) ts
judge_takes s n new symbols t ts h small =
    ap verdict (trace_takes s n new symbols [] t ts h)
    ∙ ap (λ b. if b then Verdict.deep t.span else verdict (trace (new ++ symbols) (Value.of_token t ∷ []) ts)) (le-ltb max_nesting n small)
    ∙ verdict_of_any ts (new ++ symbols) (Value.of_token t ∷ []) []

-- it takes the token, which is too deep
pub judge_deep : (s : Symbol) (new symbols : List Symbol) (t : Token) (ts : List Token) → move s t.word ≡ Move.take (suc max_nesting) new → judge (s ∷ symbols) (t ∷ ts) ≡ Verdict.deep t.span
judge_deep s new symbols t ts h = ap verdict (trace_takes s (suc max_nesting) new symbols [] t ts h)

pub judge_sticks : (s : Symbol) (symbols : List Symbol) (t : Token) (ts : List Token) → move s t.word ≡ Move.stuck → judge (s ∷ symbols) (t ∷ ts) ≡ Verdict.unexpected t.span
judge_sticks s symbols t ts h = ap verdict (trace_sticks s symbols [] t ts h)

pub judge_passes : (s : Symbol) (symbols : List Symbol) (t : Token) (ts : List Token) → move s t.word ≡ Move.pass → judge (s ∷ symbols) (t ∷ ts) ≡ judge symbols (t ∷ ts)
judge_passes s symbols t ts h = ap verdict (trace_passes s symbols [] t ts h) ∙ verdict_of_any (t ∷ ts) symbols (settled s []) []

-- no token is left
pub judge_misses : (s : Symbol) (symbols : List Symbol) → may_be_absent s ≡ false → judge (s ∷ symbols) [] ≡ Verdict.cut
judge_misses s symbols h = ap (λ b. verdict (if b then ending symbols (settled s []) else Trace.cut)) h

pub judge_omits : (s : Symbol) (symbols : List Symbol) → may_be_absent s ≡ true → judge (s ∷ symbols) [] ≡ judge symbols []
judge_omits s symbols h = ap (λ b. verdict (if b then ending symbols (settled s []) else Trace.cut)) h ∙ verdict_of_any [] symbols (settled s []) []

pub judge_reduces : (r : Reduction) (symbols : List Symbol) (ts : List Token) → judge (Symbol.reduce r ∷ symbols) ts ≡ judge symbols ts
judge_reduces r symbols ts = ap verdict (trace_reduces r symbols [] ts) ∙ verdict_of_any ts symbols (reduced r []) []

-- two symbols that move alike
pub judge_alike : (s r : Symbol) (symbols : List Symbol) (t : Token) (ts : List Token) → move s t.word ≡ move r t.word → judge (s ∷ symbols) (t ∷ ts) ≡ judge (r ∷ symbols) (t ∷ ts)
judge_alike s r symbols t ts h =
    by (move s t.word) (move r t.word) refl refl h
  where
    by : (m k : Move) → move s t.word ≡ m → move r t.word ≡ k → m ≡ k → judge (s ∷ symbols) (t ∷ ts) ≡ judge (r ∷ symbols) (t ∷ ts)
    by Move.pass k p q e = judge_passes s symbols t ts p ∙ sym (judge_passes r symbols t ts (q ∙ sym e))
    by (Move.take n new) k p q e = ap verdict (trace_takes s n new symbols [] t ts p) ∙ sym (ap verdict (trace_takes r n new symbols [] t ts (q ∙ sym e)))
    by Move.stuck k p q e = judge_sticks s symbols t ts p ∙ sym (judge_sticks r symbols t ts (q ∙ sym e))

-- a symbol whose rule begins with another symbol, which is not passed over at this token
pub judge_unfolds : (s lead : Symbol) (more symbols : List Symbol) (t : Token) (ts : List Token) → move s t.word ≡ followed (move lead t.word) more → is_pass (move lead t.word) ≡ false
    → judge (s ∷ symbols) (t ∷ ts) ≡ judge (lead ∷ (more ++ symbols)) (t ∷ ts)
judge_unfolds s lead more symbols t ts h some = ap verdict (trace_unfolds s lead more symbols [] t ts h some)
