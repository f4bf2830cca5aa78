-- How the trace over tokens ends, by the verdict on them.
use Rattle.std.proofs.Common.{◌≡◌, ℕ, ◌≤◌, ◌<◌, List, [], ◌∷◌, ◌++◌, Bool, true, false, nat_lt, if◌then◌else◌, refl, sym, ◌∙◌, ap, subst}
use Rattle.std.proofs.lemmas.Bool.{ltb-true, ltb-false}
use Rattle.el_base.specs.Limits.{max_nesting}
use Rattle.el_base.specs.declared.span.Span.{Span}
use Rattle.c_ast.specs.declared.token.Token.{Token}
use Rattle.c_parse.specs.Symbols.{Symbol, Move, move, may_be_absent}
use Rattle.c_parse.specs.Values.{Value}
use Rattle.c_parse.specs.Traces.{Trace, Verdict, settled, ending, trace, verdict}
use Rattle.c_parse.proofs.Tracing.{trace_takes, trace_sticks, trace_passes}
use Rattle.c_parse.proofs.Runs.{Runs, runs_from}
use Rattle.c_parse.proofs.KernelParts.{AreSound, sound_append, sound_taken, first_sound}

-- ---- one token

-- a token does the same whatever comes behind it
pub data Entered (symbols : List Symbol) (vs : List Value) (t : Token) : Type 0 where
  sticks : ((ts : List Token) → trace symbols vs (t ∷ ts) ≡ Trace.unexpected t.span) → Entered symbols vs t
  enters : (n : ℕ) (new : List Symbol) (us : List Value) → ((ts : List Token) → trace symbols vs (t ∷ ts) ≡ Trace.taken n t.span (trace new us ts)) → (AreSound symbols → AreSound new) → Entered symbols vs t

entered_by : (s : Symbol) (symbols : List Symbol) (vs : List Value) (t : Token) (m : Move) → move s t.word ≡ m → Entered symbols (settled s vs) t → Entered (s ∷ symbols) vs t
entered_by s symbols vs t Move.pass h (Entered.sticks f) = Entered.sticks (λ ts. trace_passes s symbols vs t ts h ∙ f ts)
entered_by s symbols vs t Move.pass h (Entered.enters n new us f kept) = Entered.enters n new us (λ ts. trace_passes s symbols vs t ts h ∙ f ts) (λ sound. kept (first_sound s symbols sound).1)
entered_by s symbols vs t (Move.take n new) h e = Entered.enters n (new ++ symbols) (Value.of_token t ∷ vs) (λ ts. trace_takes s n new symbols vs t ts h)
    (λ sound. let both = first_sound s symbols sound in sound_append new symbols (sound_taken s t.word n new h both.0) both.1)
entered_by s symbols vs t Move.stuck h e = Entered.sticks (λ ts. trace_sticks s symbols vs t ts h)

pub entered : (symbols : List Symbol) (vs : List Value) (t : Token) → Entered symbols vs t
entered [] vs t = Entered.sticks (λ ts. refl)
entered (s ∷ symbols) vs t = entered_by s symbols vs t (move s t.word) refl (entered symbols (settled s vs) t)

-- ---- some tokens

-- behind some tokens, whatever comes then
pub record Behind (ns : List ℕ) (us ws : List Token) (symbols : List Symbol) (vs : List Value) (b : Trace) : Type 0 where
  pub left : List Symbol
  pub values : List Value
  pub ends : b ≡ trace left values ws
  pub goes : (rest : List Token) → Runs ns us (trace symbols vs (us ++ rest)) (trace left values rest)
  pub kept : AreSound symbols → AreSound left

pub taken_nesting : (n m : ℕ) (s : Span) (a b : Trace) → Trace.taken n s a ≡ Trace.taken m s b → n ≡ m
taken_nesting n m s a b h = cc

taken_rest : (n m : ℕ) (s : Span) (a b : Trace) → Trace.taken n s a ≡ Trace.taken m s b → a ≡ b
taken_rest n m s a b h = cc

onward_behind : (n : ℕ) (t : Token) (ns : List ℕ) (us ws : List Token) (symbols new : List Symbol) (vs values : List Value) (b : Trace)
    → ((ts : List Token) → trace symbols vs (t ∷ ts) ≡ Trace.taken n t.span (trace new values ts)) → (AreSound symbols → AreSound new) → Behind ns us ws new values b → Behind (n ∷ ns) (t ∷ us) ws symbols vs b
onward_behind n t ns us ws symbols new vs values b f kept r = record {
  left = r.left;
  values = r.values;
  ends = r.ends;
  goes = (λ rest. runs_from (n ∷ ns) (t ∷ us) (trace symbols vs (t ∷ (us ++ rest))) (Trace.taken n t.span (trace new values (us ++ rest))) (trace r.left r.values rest) (f (us ++ rest))
      (Runs.onward n t ns us (trace new values (us ++ rest)) (trace r.left r.values rest) (r.goes rest)));
  kept = (λ sound. r.kept (kept sound));
}

behind_entered : (n : ℕ) (t : Token) (ns : List ℕ) (us ws : List Token) (symbols : List Symbol) (vs : List Value) (a b : Trace)
    → Trace.taken n t.span a ≡ trace symbols vs (t ∷ (us ++ ws)) → Entered symbols vs t
    → ((new : List Symbol) (values : List Value) → a ≡ trace new values (us ++ ws) → Behind ns us ws new values b) → Behind (n ∷ ns) (t ∷ us) ws symbols vs b
behind_entered n t ns us ws symbols vs a b h (Entered.sticks f) later = let e : Trace.taken n t.span a ≡ Trace.unexpected t.span = h ∙ f (us ++ ws) in absurd (cc)
behind_entered n t ns us ws symbols vs a b h (Entered.enters m new values f kept) later =
    let e : Trace.taken n t.span a ≡ Trace.taken m t.span (trace new values (us ++ ws)) = h ∙ f (us ++ ws) in
    let same : m ≡ n = sym (taken_nesting n m t.span a (trace new values (us ++ ws)) e) in
    onward_behind n t ns us ws symbols new vs values b (λ ts. f ts ∙ ap (λ k. Trace.taken k t.span (trace new values ts)) same) kept
    (later new values (taken_rest n m t.span a (trace new values (us ++ ws)) e))

behind_from : (ns : List ℕ) (us ws : List Token) (symbols : List Symbol) (vs : List Value) (a b : Trace) → a ≡ trace symbols vs (us ++ ws) → Runs ns us a b → Behind ns us ws symbols vs b
behind_from ns us ws symbols vs a b h (Runs.done x) = record { left = symbols; values = vs; ends = h; goes = (λ rest. Runs.done (trace symbols vs rest)); kept = (λ sound. sound) }
behind_from ns us ws symbols vs a b h (Runs.onward n t ks xs x y r) =
    behind_entered n t ks xs ws symbols vs x b h (entered symbols vs t) (λ new values e. behind_from ks xs ws new values x b e r)

pub behind : (ns : List ℕ) (us ws : List Token) (symbols : List Symbol) (vs : List Value) (b : Trace) → Runs ns us (trace symbols vs (us ++ ws)) b → Behind ns us ws symbols vs b
behind ns us ws symbols vs b r = behind_from ns us ws symbols vs (trace symbols vs (us ++ ws)) b refl r

-- over the same tokens all is the same
same_from : (ns ms : List ℕ) (ts : List Token) (a x b c : Trace) → a ≡ x → Runs ns ts a b → Runs ms ts x c → (ns ≡ ms) × (b ≡ c)
same_from ns ms ts a x b c h (Runs.done y) (Runs.done z) = (refl, h)
same_from ns ms ts a x b c h (Runs.onward n t ks us y z r) (Runs.onward m s js xs v w q) =
    let rest = same_from ks js us y v b c (taken_rest n m t.span y v h) r q in
    (ap (λ k. k ∷ ks) (taken_nesting n m t.span y v h) ∙ ap (λ l. m ∷ l) rest.0, rest.1)

pub same_runs : (ns ms : List ℕ) (ts : List Token) (a b c : Trace) → Runs ns ts a b → Runs ms ts a c → (ns ≡ ms) × (b ≡ c)
same_runs ns ms ts a b c r q = same_from ns ms ts a a b c refl r q

-- two parts of a run
pub record Parted (ns : List ℕ) (ts us : List Token) (a b : Trace) : Type 0 where
  pub front : List ℕ
  pub back : List ℕ
  pub between : Trace
  pub split : ns ≡ front ++ back
  pub first : Runs front ts a between
  pub second : Runs back us between b

onward_parted : (n : ℕ) (t : Token) (ns : List ℕ) (ts us : List Token) (a b : Trace) → Parted ns ts us a b → Parted (n ∷ ns) (t ∷ ts) us (Trace.taken n t.span a) b
onward_parted n t ns ts us a b p = record {
  front = n ∷ p.front;
  back = p.back;
  between = p.between;
  split = ap (λ k. n ∷ k) p.split;
  first = Runs.onward n t p.front ts a p.between p.first;
  second = p.second;
}

pub runs_part : (ns : List ℕ) (ts us : List Token) (a b : Trace) → Runs ns (ts ++ us) a b → Parted ns ts us a b
runs_part ns [] us a b r = record { front = []; back = ns; between = a; split = refl; first = Runs.done a; second = r }
runs_part ns (t ∷ ts) us a b (Runs.onward n s ks xs x y r) = onward_parted n t ks ts us x b (runs_part ks ts us x b r)

-- ---- verdicts

abbrev pub AllShallow : List ℕ → Type 0
AllShallow [] = Unit {0}
AllShallow (n ∷ ns) = (n ≤ max_nesting) × AllShallow ns

pub shallow_in : (ns front back : List ℕ) (n : ℕ) → ns ≡ front ++ n ∷ back → AllShallow ns → n ≤ max_nesting
shallow_in [] [] back n h all = absurd (cc)
shallow_in [] (k ∷ front) back n h all = absurd (cc)
shallow_in (m ∷ ns) [] back n h all = let e : m ≡ n = cc in subst (λ k. k ≤ max_nesting) e all.0
shallow_in (m ∷ ns) (k ∷ front) back n h all = let e : ns ≡ front ++ n ∷ back = cc in shallow_in ns front back n e all.1

pub data Outcome (ts : List Token) (a : Trace) : Verdict → Type 0 where
  whole : (ns : List ℕ) (vs : List Value) → Runs ns ts a (Trace.complete vs) → AllShallow ns → Outcome ts a Verdict.whole
  cut : (ns : List ℕ) → Runs ns ts a Trace.cut → AllShallow ns → Outcome ts a Verdict.cut
  unexpected : (us ws : List Token) (t : Token) (ns : List ℕ) → ts ≡ us ++ t ∷ ws → Runs ns us a (Trace.unexpected t.span) → AllShallow ns → Outcome ts a (Verdict.unexpected t.span)
  deep : (us ws : List Token) (t : Token) (ns : List ℕ) (n : ℕ) (rest : Trace) → ts ≡ us ++ t ∷ ws → Runs ns us a (Trace.taken n t.span rest) → AllShallow ns → max_nesting < n → Outcome ts a (Verdict.deep t.span)

outcome_at_end : (symbols : List Symbol) (vs : List Value) → Outcome [] (ending symbols vs) (verdict (ending symbols vs))
outcome_at_end [] vs = Outcome.whole [] vs (Runs.done (Trace.complete vs)) tt
outcome_at_end (s ∷ symbols) vs = either (may_be_absent s) (outcome_at_end symbols (settled s vs))
  where
    either : (b : Bool) → Outcome [] (ending symbols (settled s vs)) (verdict (ending symbols (settled s vs)))
        → Outcome [] (if b then ending symbols (settled s vs) else Trace.cut) (verdict (if b then ending symbols (settled s vs) else Trace.cut))
    either true h = h
    either false h = Outcome.cut [] (Runs.done Trace.cut) tt

outcome_onward : (n : ℕ) (t : Token) (ts : List Token) (a : Trace) (v : Verdict) → n ≤ max_nesting → Outcome ts a v → Outcome (t ∷ ts) (Trace.taken n t.span a) v
outcome_onward n t ts a v small (Outcome.whole ns vs r all) = Outcome.whole (n ∷ ns) vs (Runs.onward n t ns ts a (Trace.complete vs) r) (small, all)
outcome_onward n t ts a v small (Outcome.cut ns r all) = Outcome.cut (n ∷ ns) (Runs.onward n t ns ts a Trace.cut r) (small, all)
outcome_onward n t ts a v small (Outcome.unexpected us ws s ns h r all) =
    Outcome.unexpected (t ∷ us) ws s (n ∷ ns) (ap (λ xs. t ∷ xs) h) (Runs.onward n t ns us a (Trace.unexpected s.span) r) (small, all)
outcome_onward n t ts a v small (Outcome.deep us ws s ns m rest h r all much) =
    Outcome.deep (t ∷ us) ws s (n ∷ ns) m rest (ap (λ xs. t ∷ xs) h) (Runs.onward n t ns us a (Trace.taken m s.span rest) r) (small, all) much

outcome_taken : (n : ℕ) (t : Token) (ts : List Token) (a : Trace) (b : Bool) → nat_lt max_nesting n ≡ b → Outcome ts a (verdict a) → Outcome (t ∷ ts) (Trace.taken n t.span a) (if b then Verdict.deep t.span else verdict a)
outcome_taken n t ts a true h o = Outcome.deep [] ts t [] n a refl (Runs.done (Trace.taken n t.span a)) tt (ltb-true max_nesting n h)
outcome_taken n t ts a false h o = outcome_onward n t ts a (verdict a) (ltb-false max_nesting n h) o

outcome_entered : (t : Token) (ts : List Token) (symbols : List Symbol) (vs : List Value) → Entered symbols vs t
    → ((new : List Symbol) (us : List Value) → Outcome ts (trace new us ts) (verdict (trace new us ts))) → Outcome (t ∷ ts) (trace symbols vs (t ∷ ts)) (verdict (trace symbols vs (t ∷ ts)))
outcome_entered t ts symbols vs (Entered.sticks f) later =
    subst (λ a. Outcome (t ∷ ts) a (verdict a)) (sym (f ts)) (Outcome.unexpected [] ts t [] refl (Runs.done (Trace.unexpected t.span)) tt)
outcome_entered t ts symbols vs (Entered.enters n new us f kept) later =
    subst (λ a. Outcome (t ∷ ts) a (verdict a)) (sym (f ts)) (outcome_taken n t ts (trace new us ts) (nat_lt max_nesting n) refl (later new us))

pub outcome : (ts : List Token) (symbols : List Symbol) (vs : List Value) → Outcome ts (trace symbols vs ts) (verdict (trace symbols vs ts))
outcome [] symbols vs = outcome_at_end symbols vs
outcome (t ∷ ts) symbols vs = outcome_entered t ts symbols vs (entered symbols vs t) (λ new us. outcome ts new us)
