-- What may be absent is never stuck; so a part that was read is read where a word is barred.
use Rattle.std.proofs.Common.{◌≡◌, ℕ, zero, suc, List, [], ◌∷◌, ◌++◌, Bool, true, false, ◌==◌, if◌then◌else◌, Option, Some, None, refl, sym, ◌∙◌, ap}
use Rattle.c_ast.specs.declared.token.Token.{Token}
use Rattle.c_ast.specs.declared.token.Word.{Word}
use Rattle.c_ast.specs.declared.token.Word.TheVariants as word
use Rattle.c_ast.specs.declared.key.Key.TheVariants as key
use Rattle.c_ast.specs.declared.mark.Mark.TheVariants as mark
use Rattle.c_ast.specs.declared.tree.Binary.{Binary}
use Rattle.c_parse.specs.declared.bar.Bar.{Bar}
use Rattle.c_parse.specs.Symbols.{Symbol, Reduction, Move, move, bars, limited, may_be_absent, operator_move}
use Rattle.c_parse.specs.Tables.{operator_of}
use Rattle.c_parse.specs.Values.{Value}
use Rattle.c_parse.specs.Traces.{Trace, settled, ending, trace}
use Rattle.c_parse.proofs.Tracing.{trace_takes, trace_passes}
use Rattle.c_parse.proofs.Runs.{Runs, runs_to}
use Rattle.c_parse.proofs.Outcomes.{same_runs}
use Rattle.c_parse.proofs.EachToken.{NoneBarred}
use Rattle.c_parse.proofs.Barred.{without_all, shadowed}

-- ---- what may be absent is never stuck

abbrev is_stuck : Move → Bool
is_stuck Move.stuck = true
is_stuck m = false

operator_goes : (n l : ℕ) (o : Option (Binary × ℕ)) → is_stuck (operator_move n l o) ≡ false
operator_goes n l None = refl
operator_goes n l (Some (op, k)) = either (k == l)
  where
    either : (b : Bool) → is_stuck (if b then Move.take n (Symbol.expression n (suc l) ∷ Symbol.reduce Reduction.joined ∷ Symbol.operators n l ∷ []) else Move.pass) ≡ false
    either true = refl
    either false = refl

limited_goes : (b : Bar) (m : Move) (x : Bool) → is_stuck m ≡ false → is_stuck (limited b true m x) ≡ false
limited_goes b Move.stuck x h = h
limited_goes b (Move.take n new) true h = refl
limited_goes b m x h = refl

never_stuck : (s : Symbol) (w : Word) → may_be_absent s ≡ true → is_stuck (move s w) ≡ false
never_stuck (Symbol.without b s) w h = ap (λ a. is_stuck (limited b a (move s w) (bars b w))) h ∙ limited_goes b (move s w) (bars b w) (never_stuck s w h)
never_stuck (Symbol.maybe_int n) (word.Key key.Int) h = refl
never_stuck (Symbol.operators n zero) (word.Mark mark.Question) h = refl
never_stuck (Symbol.operators n (suc l)) (word.Mark m) h = operator_goes n (suc l) (operator_of m)
never_stuck (Symbol.indices n) (word.Mark mark.OpenBracket) h = refl
never_stuck (Symbol.postfix n) (word.Mark mark.Open) h = refl
never_stuck (Symbol.postfix n) (word.Mark mark.OpenBracket) h = refl
never_stuck (Symbol.more_arguments n) (word.Mark mark.Comma) h = refl
never_stuck (Symbol.value n) (word.Mark mark.Assign) h = refl
never_stuck (Symbol.more_declared n) (word.Mark mark.Comma) h = refl
never_stuck (Symbol.other n) (word.Key key.Else) h = refl
never_stuck (Symbol.more_params n) (word.Mark mark.Comma) h = refl
never_stuck (Symbol.dims n) (word.Mark mark.OpenBracket) h = refl
never_stuck s w h = cc

pub not_stuck : (s : Symbol) (w : Word) → may_be_absent s ≡ true → move s w ≡ Move.stuck → ⊥
not_stuck s w h k = let e : true ≡ false = sym (ap is_stuck k) ∙ never_stuck s w h in cc

-- ---- a part that was read, with its tokens, is read where a word is barred

-- what a part leaves is passed over at these tokens, whatever is expected behind it
left_passes : (b : Bar) (left : List Symbol) (values us : List Value) (rest : List Token) → trace left values rest ≡ trace [] us rest → ending left values ≡ Trace.complete us
    → (symbols : List Symbol) → trace (without_all b left ++ symbols) values rest ≡ trace symbols us rest
left_passes b [] values us rest h k symbols = let e : values ≡ us = same_values values us k in ap (λ vs. trace symbols vs rest) e
  where
    same_values : (vs ws : List Value) → Trace.complete vs ≡ Trace.complete ws → vs ≡ ws
    same_values vs ws e = cc
left_passes b (s ∷ left) values us [] h k symbols = by (λ e. left_passes b left (settled s values) us [] e e symbols) (may_be_absent s) refl
  where
    by : (ending left (settled s values) ≡ Trace.complete us → trace (without_all b left ++ symbols) (settled s values) [] ≡ trace symbols us []) → (a : Bool) → may_be_absent s ≡ a
        → trace (Symbol.without b s ∷ (without_all b left ++ symbols)) values [] ≡ trace symbols us []
    by later true e =
        ap (λ a. if a then ending (without_all b left ++ symbols) (settled s values) else Trace.cut) e ∙ later (sym (ap (λ a. if a then ending left (settled s values) else Trace.cut) e) ∙ k)
    by later false e = let no : Trace.cut ≡ Trace.complete us = sym (ap (λ a. if a then ending left (settled s values) else Trace.cut) e) ∙ k in absurd (cc)
left_passes b (s ∷ left) values us (t ∷ ts) h k symbols = by (λ p q. left_passes b left (settled s values) us (t ∷ ts) p q symbols) (may_be_absent s) refl
  where
    by_move : (trace left (settled s values) (t ∷ ts) ≡ Trace.unexpected t.span → trace (without_all b left ++ symbols) (settled s values) (t ∷ ts) ≡ trace symbols us (t ∷ ts)) → may_be_absent s ≡ true
        → (m : Move) → move s t.word ≡ m → trace (Symbol.without b s ∷ (without_all b left ++ symbols)) values (t ∷ ts) ≡ trace symbols us (t ∷ ts)
    by_move later e Move.pass p =
        trace_passes (Symbol.without b s) (without_all b left ++ symbols) values t ts (ap (λ m. limited b (may_be_absent s) m (bars b t.word)) p) ∙ later (sym (trace_passes s left values t ts p) ∙ h)
    by_move later e (Move.take n new) p = let no : Trace.taken n t.span (trace (new ++ left) (Value.of_token t ∷ values) ts) ≡ Trace.unexpected t.span = sym (trace_takes s n new left values t ts p) ∙ h in absurd (cc)
    by_move later e Move.stuck p = absurd (not_stuck s t.word e p)

    by : (trace left (settled s values) (t ∷ ts) ≡ Trace.unexpected t.span → ending left (settled s values) ≡ Trace.complete us → trace (without_all b left ++ symbols) (settled s values) (t ∷ ts) ≡ trace symbols us (t ∷ ts))
        → (a : Bool) → may_be_absent s ≡ a → trace (Symbol.without b s ∷ (without_all b left ++ symbols)) values (t ∷ ts) ≡ trace symbols us (t ∷ ts)
    by later true e = by_move (λ p. later p (sym (ap (λ a. if a then ending left (settled s values) else Trace.cut) e) ∙ k)) e (move s t.word) refl
    by later false e = let no : Trace.cut ≡ Trace.complete us = sym (ap (λ a. if a then ending left (settled s values) else Trace.cut) e) ∙ k in absurd (cc)

pub without_runs : (b : Bar) (ns : List ℕ) (used rest : List Token) (part : List Symbol) (vs us : List Value) → NoneBarred b used
    → Runs ns used (trace part vs (used ++ rest)) (trace [] us rest) → Runs ns used (trace part vs (used ++ [])) (trace [] us [])
    → (symbols : List Symbol) → Runs ns used (trace (without_all b part ++ symbols) vs (used ++ rest)) (trace symbols us rest)
without_runs b ns used rest part vs us free here alone symbols =
    let s = shadowed b ns used rest part vs (trace [] us rest) free here in
    let end : ending s.left s.values ≡ Trace.complete us = (same_runs ns ns used (trace part vs (used ++ [])) (trace s.left s.values []) (trace [] us []) (s.goes []) alone).1 in
    runs_to ns used (trace (without_all b part ++ symbols) vs (used ++ rest)) (trace (without_all b s.left ++ symbols) s.values rest) (trace symbols us rest) (s.shadows symbols rest)
    (left_passes b s.left s.values us rest (sym s.ends) end symbols)
