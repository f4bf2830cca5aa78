-- What is known of all tokens from what was read of those before the first barred one.
use Rattle.std.proofs.Common.{◌≡◌, ℕ, ◌<◌, List, [], ◌∷◌, ◌++◌, Bool, true, false, nat_lt, if◌then◌else◌, refl, sym, ◌∙◌, ap, subst, append_assoc}
use Rattle.std.proofs.lemmas.List.{append-nil}
use Rattle.std.proofs.lemmas.Bool.{ltb-false, lt-ltb}
use Rattle.el_base.specs.Limits.{max_nesting}
use Rattle.el_base.specs.declared.span.Span.{Span}
use Rattle.c_ast.specs.declared.token.Token.{Token}
use Rattle.c_parse.specs.declared.bar.Bar.{Bar}
use Rattle.c_parse.specs.declared.refusal.Stop.{Stop}
use Rattle.c_parse.specs.declared.refusal.Stop.TheVariants as stop
use Rattle.c_parse.specs.Symbols.{Symbol, Move, move, bars, limited, may_be_absent}
use Rattle.c_parse.specs.Bars.{BeginsBarred}
use Rattle.c_parse.specs.Stops.{stop_at, stop_before}
use Rattle.c_parse.specs.Values.{Value}
use Rattle.c_parse.specs.Traces.{Trace, Verdict, settled, ending, trace, verdict, judge}
use Rattle.c_parse.specs.Verdicts.{Tells}
use Rattle.c_parse.proofs.Tracing.{trace_sticks, trace_passes}
use Rattle.c_parse.proofs.Judging.{verdict_of_any}
use Rattle.c_parse.proofs.Runs.{Runs}
use Rattle.c_parse.proofs.Outcomes.{Entered, entered, behind, AllShallow, Outcome, outcome, taken_nesting}
use Rattle.c_parse.proofs.Meanings.{serves}
use Rattle.c_parse.proofs.Denotations.{Means, Serves}
use Rattle.c_parse.proofs.Exactness.{stopped_for_all}
use Rattle.c_parse.proofs.OneVerdict.{verdict_behind}
use Rattle.c_parse.proofs.EachToken.{NoneBarred}
use Rattle.c_parse.proofs.Barred.{without_all, shadowed, alike}
use Rattle.c_parse.proofs.Passing.{not_stuck, without_runs}

-- what may not be absent is never passed over
not_passed : (s : Symbol) (t : Token) → may_be_absent s ≡ false → move s t.word ≡ Move.pass → ⊥
not_passed s t h k = let e : may_be_absent s ≡ true = subst (λ m. Serves (may_be_absent s) (Means s) m t) k (serves s t) in cc

-- ---- verdicts

-- where no verdict is deep, the nestings are shallow
pub not_deep_shallow : (ns : List ℕ) (ts : List Token) (a x : Trace) → Runs ns ts a x → ((s : Span) → verdict a ≡ Verdict.deep s → ⊥) → AllShallow ns
not_deep_shallow ns ts a x (Runs.done y) none = tt
not_deep_shallow ns ts a x (Runs.onward n t ks us y z r) none = by (λ later. not_deep_shallow ks us y x r later) (nat_lt max_nesting n) refl
  where
    by : (((s : Span) → verdict y ≡ Verdict.deep s → ⊥) → AllShallow ks) → (c : Bool) → nat_lt max_nesting n ≡ c → AllShallow (n ∷ ks)
    by rest true h = absurd (none t.span (ap (λ c. if c then Verdict.deep t.span else verdict y) h))
    by rest false h = (ltb-false max_nesting n h, rest (λ s k. none s (ap (λ c. if c then Verdict.deep t.span else verdict y) h ∙ k)))

-- behind all that is expected the verdict is not deep
empty_not_deep : (ts : List Token) (s : Span) → judge [] ts ≡ Verdict.deep s → ⊥
empty_not_deep [] s h = cc
empty_not_deep (t ∷ ts) s h = cc

-- a part that was read before the barred word is read before all tokens
pub slice_read : (b : Bar) (ns : List ℕ) (used after tail : List Token) (part : List Symbol) (us : List Value) → NoneBarred b used
    → Runs ns used (trace part [] (used ++ (after ++ tail))) (trace [] us (after ++ tail)) → Runs ns used (trace part [] (used ++ [])) (trace [] us [])
    → judge part (used ++ after) ≡ judge [] after → Runs ns used (trace part [] (used ++ after)) (trace [] us after)
    → (symbols : List Symbol) → judge (without_all b part ++ symbols) (used ++ (after ++ tail)) ≡ judge symbols (after ++ tail)
slice_read b ns used after tail part us free here alone same sliced symbols =
    let all : AllShallow ns = not_deep_shallow ns used (trace part [] (used ++ after)) (trace [] us after) sliced (λ s h. empty_not_deep after s (sym same ∙ h)) in
    verdict_behind ns used (trace (without_all b part ++ symbols) [] (used ++ (after ++ tail))) (trace symbols us (after ++ tail)) (without_runs b ns used (after ++ tail) part [] us free here alone symbols) all
    ∙ verdict_of_any (after ++ tail) symbols us []

-- a verdict at a token stays whatever comes behind
unexpected_stays : (symbols : List Symbol) (ts tail : List Token) (s : Span) → judge symbols ts ≡ Verdict.unexpected s → judge symbols (ts ++ tail) ≡ Verdict.unexpected s
unexpected_stays symbols ts tail s h = by (verdict (trace symbols [] ts)) h (outcome ts symbols [])
  where
    at : (us ws : List Token) (t : Token) (ns : List ℕ) → ts ≡ us ++ t ∷ ws → Runs ns us (trace symbols [] ts) (Trace.unexpected t.span) → AllShallow ns → t.span ≡ s → judge symbols (ts ++ tail) ≡ Verdict.unexpected s
    at us ws t ns e r all same =
        let q : Runs ns us (trace symbols [] (us ++ t ∷ ws)) (Trace.unexpected t.span) = subst (λ xs. Runs ns us (trace symbols [] xs) (Trace.unexpected t.span)) e r in
        let p = behind ns us (t ∷ ws) symbols [] (Trace.unexpected t.span) q in
        ap (λ xs. judge symbols (xs ++ tail)) e ∙ ap (λ xs. judge symbols xs) (append_assoc us (t ∷ ws) tail)
        ∙ verdict_behind ns us (trace symbols [] (us ++ t ∷ (ws ++ tail))) (trace p.left p.values (t ∷ (ws ++ tail))) (p.goes (t ∷ (ws ++ tail))) all
        ∙ ap verdict (stopped_for_all p.left p.values t ws (sym p.ends) (ws ++ tail)) ∙ ap (λ x. Verdict.unexpected x) same

    by : (v : Verdict) → v ≡ Verdict.unexpected s → Outcome ts (trace symbols [] ts) v → judge symbols (ts ++ tail) ≡ Verdict.unexpected s
    by v k (Outcome.whole ns vs r all) = absurd (cc)
    by v k (Outcome.cut ns r all) = absurd (cc)
    by v k (Outcome.unexpected us ws t ns e r all) = let same : t.span ≡ s = cc in at us ws t ns e r all same
    by v k (Outcome.deep us ws t ns n rest e r all much) = absurd (cc)

deep_stays : (symbols : List Symbol) (ts tail : List Token) (s : Span) → judge symbols ts ≡ Verdict.deep s → judge symbols (ts ++ tail) ≡ Verdict.deep s
deep_stays symbols ts tail s h = by (verdict (trace symbols [] ts)) h (outcome ts symbols [])
  where
    entered_deep : (left : List Symbol) (values : List Value) (t : Token) (ws : List Token) (n : ℕ) (a : Trace) → max_nesting < n → trace left values (t ∷ ws) ≡ Trace.taken n t.span a → Entered left values t
        → verdict (trace left values (t ∷ (ws ++ tail))) ≡ Verdict.deep t.span
    entered_deep left values t ws n a much e (Entered.sticks g) = let no : Trace.unexpected t.span ≡ Trace.taken n t.span a = sym (g ws) ∙ e in absurd (cc)
    entered_deep left values t ws n a much e (Entered.enters m new vs g kept) =
        let same : m ≡ n = taken_nesting m n t.span (trace new vs ws) a (sym (g ws) ∙ e) in
        ap verdict (g (ws ++ tail)) ∙ ap (λ c. if c then Verdict.deep t.span else verdict (trace new vs (ws ++ tail))) (lt-ltb max_nesting m (subst (λ k. max_nesting < k) (sym same) much))

    at : (us ws : List Token) (t : Token) (ns : List ℕ) (n : ℕ) (rest : Trace) → ts ≡ us ++ t ∷ ws → Runs ns us (trace symbols [] ts) (Trace.taken n t.span rest) → AllShallow ns → max_nesting < n → t.span ≡ s
        → judge symbols (ts ++ tail) ≡ Verdict.deep s
    at us ws t ns n rest e r all much same =
        let q : Runs ns us (trace symbols [] (us ++ t ∷ ws)) (Trace.taken n t.span rest) = subst (λ xs. Runs ns us (trace symbols [] xs) (Trace.taken n t.span rest)) e r in
        let p = behind ns us (t ∷ ws) symbols [] (Trace.taken n t.span rest) q in
        ap (λ xs. judge symbols (xs ++ tail)) e ∙ ap (λ xs. judge symbols xs) (append_assoc us (t ∷ ws) tail)
        ∙ verdict_behind ns us (trace symbols [] (us ++ t ∷ (ws ++ tail))) (trace p.left p.values (t ∷ (ws ++ tail))) (p.goes (t ∷ (ws ++ tail))) all
        ∙ entered_deep p.left p.values t ws n rest much (sym p.ends) (entered p.left p.values t) ∙ ap (λ x. Verdict.deep x) same

    by : (v : Verdict) → v ≡ Verdict.deep s → Outcome ts (trace symbols [] ts) v → judge symbols (ts ++ tail) ≡ Verdict.deep s
    by v k (Outcome.whole ns vs r all) = absurd (cc)
    by v k (Outcome.cut ns r all) = absurd (cc)
    by v k (Outcome.unexpected us ws t ns e r all) = absurd (cc)
    by v k (Outcome.deep us ws t ns n rest e r all much) = let same : t.span ≡ s = cc in at us ws t ns n rest e r all much same

-- at a barred token a part of which something is wanting is stuck
wanting_stuck : (b : Bar) (left symbols : List Symbol) (values : List Value) (t : Token) (ts : List Token) → bars b t.word ≡ true → ending left values ≡ Trace.cut
    → trace (without_all b left ++ symbols) values (t ∷ ts) ≡ Trace.unexpected t.span
wanting_stuck b [] symbols values t ts barred h = absurd (cc)
wanting_stuck b (s ∷ left) symbols values t ts barred h = by (λ e. wanting_stuck b left symbols (settled s values) t ts barred e) (may_be_absent s) refl
  where
    move_is : (a : Bool) (m : Move) → may_be_absent s ≡ a → move s t.word ≡ m → move (Symbol.without b s) t.word ≡ limited b a m true
    move_is a m e p = ap (λ c. limited b c (move s t.word) (bars b t.word)) e ∙ ap (λ k. limited b a k (bars b t.word)) p ∙ ap (λ x. limited b a m x) barred

    over : may_be_absent s ≡ true → (m : Move) → move s t.word ≡ m → move (Symbol.without b s) t.word ≡ Move.pass
    over e Move.pass p = move_is true Move.pass e p
    over e (Move.take n new) p = move_is true (Move.take n new) e p
    over e Move.stuck p = absurd (not_stuck s t.word e p)

    stops : may_be_absent s ≡ false → (m : Move) → move s t.word ≡ m → move (Symbol.without b s) t.word ≡ Move.stuck
    stops e Move.pass p = absurd (not_passed s t e p)
    stops e (Move.take n new) p = move_is false (Move.take n new) e p
    stops e Move.stuck p = move_is false Move.stuck e p

    by : (ending left (settled s values) ≡ Trace.cut → trace (without_all b left ++ symbols) (settled s values) (t ∷ ts) ≡ Trace.unexpected t.span) → (a : Bool) → may_be_absent s ≡ a
        → trace (Symbol.without b s ∷ (without_all b left ++ symbols)) values (t ∷ ts) ≡ Trace.unexpected t.span
    by later true e = trace_passes (Symbol.without b s) (without_all b left ++ symbols) values t ts (over e (move s t.word) refl)
        ∙ later (sym (ap (λ a. if a then ending left (settled s values) else Trace.cut) e) ∙ h)
    by later false e = trace_sticks (Symbol.without b s) (without_all b left ++ symbols) values t ts (stops e (move s t.word) refl)

-- where the tokens before a barred one end too early, that one is not to be had there
cut_stops : (b : Bar) (part : List Symbol) (front tail : List Token) → NoneBarred b front → BeginsBarred b tail → ((symbols : List Symbol) → judge (part ++ symbols) front ≡ Verdict.cut)
    → (symbols : List Symbol) → Tells (stop_at tail) (judge (without_all b part ++ symbols) (front ++ tail))
cut_stops b part front [] free BeginsBarred.none cut symbols =
    ap (λ ts. judge (without_all b part ++ symbols) ts) (append-nil front) ∙ ap verdict (alike b front free part symbols []) ∙ cut symbols
cut_stops b part front (t ∷ tail) free (BeginsBarred.some u us barred) cut symbols = by (verdict (trace part [] front)) alone (outcome front part [])
  where
    alone : judge part front ≡ Verdict.cut
    alone = subst (λ ys. judge ys front ≡ Verdict.cut) (append-nil part) (cut [])

    at : (ns : List ℕ) → Runs ns front (trace part [] front) Trace.cut → AllShallow ns → judge (without_all b part ++ symbols) (front ++ t ∷ tail) ≡ Verdict.unexpected t.span
    at ns r all =
        let q : Runs ns front (trace part [] (front ++ [])) Trace.cut = subst (λ xs. Runs ns front (trace part [] xs) Trace.cut) (sym (append-nil front)) r in
        let p = shadowed b ns front [] part [] Trace.cut free q in
        verdict_behind ns front (trace (without_all b part ++ symbols) [] (front ++ t ∷ tail)) (trace (without_all b p.left ++ symbols) p.values (t ∷ tail)) (p.shadows symbols (t ∷ tail)) all
        ∙ ap verdict (wanting_stuck b p.left symbols p.values t tail barred (sym p.ends))

    by : (v : Verdict) → v ≡ Verdict.cut → Outcome front (trace part [] front) v → judge (without_all b part ++ symbols) (front ++ t ∷ tail) ≡ Verdict.unexpected t.span
    by v k (Outcome.whole ns vs r all) = absurd (cc)
    by v k (Outcome.cut ns r all) = at ns r all
    by v k (Outcome.unexpected us ws x ns e r all) = absurd (cc)
    by v k (Outcome.deep us ws x ns n rest e r all much) = absurd (cc)

pub slice_stops : (b : Bar) (part : List Symbol) (front tail : List Token) (e : Stop) → NoneBarred b front → BeginsBarred b tail → ((symbols : List Symbol) → Tells e (judge (part ++ symbols) front))
    → (symbols : List Symbol) → Tells (stop_before tail e) (judge (without_all b part ++ symbols) (front ++ tail))
slice_stops b part front tail stop.EndOfText free begins told symbols = cut_stops b part front tail free begins told symbols
slice_stops b part front tail (stop.Unexpected s) free begins told symbols =
    unexpected_stays (without_all b part ++ symbols) front tail s (ap verdict (alike b front free part symbols []) ∙ told symbols)
slice_stops b part front tail (stop.TooDeep s) free begins told symbols =
    deep_stays (without_all b part ++ symbols) front tail s (ap verdict (alike b front free part symbols []) ∙ told symbols)
slice_stops b part front tail stop.Memory free begins told symbols = tt
