-- What a parser does where a part is expected of which no token has a barred word.
use Rattle.std.proofs.Common.{◌≡◌, ℕ, List, [], ◌∷◌, ◌++◌, map, false, if◌then◌else◌, refl, sym, ◌∙◌, ap, append_assoc}
use Rattle.el_base.specs.declared.span.Span.{Span}
use Rattle.c_ast.specs.declared.token.Token.{Token}
use Rattle.c_ast.specs.declared.token.Word.{Word}
use Rattle.c_parse.specs.declared.bar.Bar.{Bar}
use Rattle.c_parse.specs.Symbols.{Symbol, Move, move, bars, limited, may_be_absent}
use Rattle.c_parse.specs.Values.{Value}
use Rattle.c_parse.specs.Traces.{Trace, settled, trace}
use Rattle.c_parse.proofs.EachToken.{NoneBarred}
use Rattle.c_parse.proofs.Tracing.{trace_takes, trace_sticks, trace_passes}
use Rattle.c_parse.proofs.Runs.{Runs, runs_from}
use Rattle.c_parse.proofs.Outcomes.{taken_nesting}

abbrev pub without_all : Bar → List Symbol → List Symbol
without_all b symbols = map (Symbol.without b) symbols

without_append : (b : Bar) (xs ys : List Symbol) → without_all b (xs ++ ys) ≡ without_all b xs ++ without_all b ys
without_append b [] ys = refl
without_append b (x ∷ xs) ys = ap (λ zs. Symbol.without b x ∷ zs) (without_append b xs ys)

-- what a part leaves, with the part behind it
regrouped : (b : Bar) (new part symbols : List Symbol) → without_all b new ++ (without_all b part ++ symbols) ≡ without_all b (new ++ part) ++ symbols
regrouped b new part symbols = sym (append_assoc (without_all b new) (without_all b part) symbols) ∙ ap (λ zs. zs ++ symbols) (sym (without_append b new part))

-- ---- a part without the word does the same over tokens without it

-- the moves at a word that is not barred
free_pass : (b : Bar) (s : Symbol) (w : Word) → move s w ≡ Move.pass → move (Symbol.without b s) w ≡ Move.pass
free_pass b s w h = ap (λ m. limited b (may_be_absent s) m (bars b w)) h

free_stuck : (b : Bar) (s : Symbol) (w : Word) → move s w ≡ Move.stuck → move (Symbol.without b s) w ≡ Move.stuck
free_stuck b s w h = ap (λ m. limited b (may_be_absent s) m (bars b w)) h

free_takes : (b : Bar) (s : Symbol) (w : Word) (n : ℕ) (new : List Symbol) → bars b w ≡ false → move s w ≡ Move.take n new → move (Symbol.without b s) w ≡ Move.take n (without_all b new)
free_takes b s w n new free h = ap (λ m. limited b (may_be_absent s) m (bars b w)) h ∙ ap (λ x. limited b (may_be_absent s) (Move.take n new) x) free

abbrev AlikeBehind : Bar → List Token → Type 0
AlikeBehind b ts = (part symbols : List Symbol) (vs : List Value) → trace (without_all b part ++ symbols) vs ts ≡ trace (part ++ symbols) vs ts

alike_end : (b : Bar) (part symbols : List Symbol) (vs : List Value) → trace (without_all b part ++ symbols) vs [] ≡ trace (part ++ symbols) vs []
alike_end b [] symbols vs = refl
alike_end b (s ∷ part) symbols vs = ap (λ a. if may_be_absent s then a else Trace.cut) (alike_end b part symbols (settled s vs))

alike_at : (b : Bar) (t : Token) (ts : List Token) → bars b t.word ≡ false → AlikeBehind b ts → (part symbols : List Symbol) (vs : List Value)
    → trace (without_all b part ++ symbols) vs (t ∷ ts) ≡ trace (part ++ symbols) vs (t ∷ ts)
alike_at b t ts free later [] symbols vs = refl
alike_at b t ts free later (s ∷ part) symbols vs = by_move (alike_at b t ts free later part symbols (settled s vs)) (move s t.word) refl
  where
    by_move : trace (without_all b part ++ symbols) (settled s vs) (t ∷ ts) ≡ trace (part ++ symbols) (settled s vs) (t ∷ ts) → (m : Move) → move s t.word ≡ m
        → trace (Symbol.without b s ∷ (without_all b part ++ symbols)) vs (t ∷ ts) ≡ trace (s ∷ (part ++ symbols)) vs (t ∷ ts)
    by_move rest Move.pass h =
        trace_passes (Symbol.without b s) (without_all b part ++ symbols) vs t ts (free_pass b s t.word h) ∙ rest ∙ sym (trace_passes s (part ++ symbols) vs t ts h)
    by_move rest (Move.take n new) h =
        let us : List Value = Value.of_token t ∷ vs in
        trace_takes (Symbol.without b s) n (without_all b new) (without_all b part ++ symbols) vs t ts (free_takes b s t.word n new free h)
        ∙ ap (λ st. Trace.taken n t.span (trace st us ts)) (regrouped b new part symbols)
        ∙ ap (λ a. Trace.taken n t.span a) (later (new ++ part) symbols us)
        ∙ ap (λ st. Trace.taken n t.span (trace st us ts)) (append_assoc new part symbols)
        ∙ sym (trace_takes s n new (part ++ symbols) vs t ts h)
    by_move rest Move.stuck h = trace_sticks (Symbol.without b s) (without_all b part ++ symbols) vs t ts (free_stuck b s t.word h) ∙ sym (trace_sticks s (part ++ symbols) vs t ts h)

pub alike : (b : Bar) (ts : List Token) → NoneBarred b ts → AlikeBehind b ts
alike b [] free part symbols vs = alike_end b part symbols vs
alike b (t ∷ ts) free part symbols vs = alike_at b t ts free.0 (λ p q us. alike b ts free.1 p q us) part symbols vs

-- ---- where some tokens were read

-- a token is read by a part, or stops it, and it is read by the part without the word alike
data EnteredBoth (b : Bar) (part : List Symbol) (vs : List Value) (t : Token) : Type 0 where
  sticks : ((ts : List Token) → trace part vs (t ∷ ts) ≡ Trace.unexpected t.span) → EnteredBoth b part vs t
  enters : (n : ℕ) (new : List Symbol) (us : List Value) → ((ts : List Token) → trace part vs (t ∷ ts) ≡ Trace.taken n t.span (trace new us ts))
      → ((symbols : List Symbol) (ts : List Token) → trace (without_all b part ++ symbols) vs (t ∷ ts) ≡ Trace.taken n t.span (trace (without_all b new ++ symbols) us ts)) → EnteredBoth b part vs t

both_by : (b : Bar) (s : Symbol) (part : List Symbol) (vs : List Value) (t : Token) (m : Move) → bars b t.word ≡ false → move s t.word ≡ m → EnteredBoth b part (settled s vs) t → EnteredBoth b (s ∷ part) vs t
both_by b s part vs t Move.pass free h (EnteredBoth.sticks f) = EnteredBoth.sticks (λ ts. trace_passes s part vs t ts h ∙ f ts)
both_by b s part vs t Move.pass free h (EnteredBoth.enters n new us f g) = EnteredBoth.enters n new us (λ ts. trace_passes s part vs t ts h ∙ f ts)
    (λ symbols ts. trace_passes (Symbol.without b s) (without_all b part ++ symbols) vs t ts (free_pass b s t.word h) ∙ g symbols ts)
both_by b s part vs t (Move.take n new) free h e = EnteredBoth.enters n (new ++ part) (Value.of_token t ∷ vs) (λ ts. trace_takes s n new part vs t ts h)
    (λ symbols ts. trace_takes (Symbol.without b s) n (without_all b new) (without_all b part ++ symbols) vs t ts (free_takes b s t.word n new free h)
    ∙ ap (λ st. Trace.taken n t.span (trace st (Value.of_token t ∷ vs) ts)) (regrouped b new part symbols))
both_by b s part vs t Move.stuck free h e = EnteredBoth.sticks (λ ts. trace_sticks s part vs t ts h)

entered_both : (b : Bar) (part : List Symbol) (vs : List Value) (t : Token) → bars b t.word ≡ false → EnteredBoth b part vs t
entered_both b [] vs t free = EnteredBoth.sticks (λ ts. refl)
entered_both b (s ∷ part) vs t free = both_by b s part vs t (move s t.word) free refl (entered_both b part (settled s vs) t free)

-- behind some tokens that a part read, whatever comes then
pub record Shadowed (b : Bar) (ns : List ℕ) (us ws : List Token) (part : List Symbol) (vs : List Value) (x : Trace) : Type 0 where
  pub left : List Symbol
  pub values : List Value
  pub ends : x ≡ trace left values ws
  pub goes : (rest : List Token) → Runs ns us (trace part vs (us ++ rest)) (trace left values rest)
  pub shadows : (symbols : List Symbol) (rest : List Token) → Runs ns us (trace (without_all b part ++ symbols) vs (us ++ rest)) (trace (without_all b left ++ symbols) values rest)

onward_shadowed : (b : Bar) (n : ℕ) (t : Token) (ns : List ℕ) (us ws : List Token) (part new : List Symbol) (vs values : List Value) (x : Trace)
    → ((ts : List Token) → trace part vs (t ∷ ts) ≡ Trace.taken n t.span (trace new values ts))
    → ((symbols : List Symbol) (ts : List Token) → trace (without_all b part ++ symbols) vs (t ∷ ts) ≡ Trace.taken n t.span (trace (without_all b new ++ symbols) values ts))
    → Shadowed b ns us ws new values x → Shadowed b (n ∷ ns) (t ∷ us) ws part vs x
onward_shadowed b n t ns us ws part new vs values x f g r = record {
  left = r.left;
  values = r.values;
  ends = r.ends;
  goes = (λ rest. runs_from (n ∷ ns) (t ∷ us) (trace part vs (t ∷ (us ++ rest))) (Trace.taken n t.span (trace new values (us ++ rest))) (trace r.left r.values rest) (f (us ++ rest))
      (Runs.onward n t ns us (trace new values (us ++ rest)) (trace r.left r.values rest) (r.goes rest)));
  shadows = (λ symbols rest. runs_from (n ∷ ns) (t ∷ us) (trace (without_all b part ++ symbols) vs (t ∷ (us ++ rest))) (Trace.taken n t.span (trace (without_all b new ++ symbols) values (us ++ rest)))
      (trace (without_all b r.left ++ symbols) r.values rest) (g symbols (us ++ rest))
      (Runs.onward n t ns us (trace (without_all b new ++ symbols) values (us ++ rest)) (trace (without_all b r.left ++ symbols) r.values rest) (r.shadows symbols rest)));
}

shadowed_entered : (b : Bar) (n : ℕ) (t : Token) (ns : List ℕ) (us ws : List Token) (part : List Symbol) (vs : List Value) (a x : Trace)
    → Trace.taken n t.span a ≡ trace part vs (t ∷ (us ++ ws)) → EnteredBoth b part vs t
    → ((new : List Symbol) (values : List Value) → a ≡ trace new values (us ++ ws) → Shadowed b ns us ws new values x) → Shadowed b (n ∷ ns) (t ∷ us) ws part vs x
shadowed_entered b n t ns us ws part vs a x h (EnteredBoth.sticks f) later = let e : Trace.taken n t.span a ≡ Trace.unexpected t.span = h ∙ f (us ++ ws) in absurd (cc)
shadowed_entered b n t ns us ws part vs a x h (EnteredBoth.enters m new values f g) later =
    let e : Trace.taken n t.span a ≡ Trace.taken m t.span (trace new values (us ++ ws)) = h ∙ f (us ++ ws) in
    let same : m ≡ n = sym (taken_nesting n m t.span a (trace new values (us ++ ws)) e) in
    onward_shadowed b n t ns us ws part new vs values x (λ ts. f ts ∙ ap (λ k. Trace.taken k t.span (trace new values ts)) same)
    (λ symbols ts. g symbols ts ∙ ap (λ k. Trace.taken k t.span (trace (without_all b new ++ symbols) values ts)) same)
    (later new values (rest_same n m t.span a (trace new values (us ++ ws)) e))
  where
    rest_same : (k j : ℕ) (s : Span) (c d : Trace) → Trace.taken k s c ≡ Trace.taken j s d → c ≡ d
    rest_same k j s c d e = cc

shadowed_from : (b : Bar) (ns : List ℕ) (us ws : List Token) (part : List Symbol) (vs : List Value) (a x : Trace) → NoneBarred b us → a ≡ trace part vs (us ++ ws) → Runs ns us a x → Shadowed b ns us ws part vs x
shadowed_from b ns us ws part vs a x free h (Runs.done y) =
    record { left = part; values = vs; ends = h; goes = (λ rest. Runs.done (trace part vs rest)); shadows = (λ symbols rest. Runs.done (trace (without_all b part ++ symbols) vs rest)) }
shadowed_from b ns us ws part vs a x free h (Runs.onward n t ks xs y z r) =
    shadowed_entered b n t ks xs ws part vs y x h (entered_both b part vs t free.0) (λ new values e. shadowed_from b ks xs ws new values y x free.1 e r)

pub shadowed : (b : Bar) (ns : List ℕ) (us ws : List Token) (part : List Symbol) (vs : List Value) (x : Trace) → NoneBarred b us → Runs ns us (trace part vs (us ++ ws)) x → Shadowed b ns us ws part vs x
shadowed b ns us ws part vs x free r = shadowed_from b ns us ws part vs (trace part vs (us ++ ws)) x free refl r
