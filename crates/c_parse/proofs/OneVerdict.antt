-- Tokens have one tree, and one verdict says what holds of them.
use Rattle.std.proofs.Common.{◌≡◌, ◌⊎◌, inl, inr, ℕ, suc, ◌≤◌, ◌<◌, List, [], ◌∷◌, ◌++◌, length, drop, Bool, true, false, if◌then◌else◌, arith, refl, sym, ◌∙◌, ap, subst, append_assoc}
use Rattle.std.proofs.lemmas.Bool.{lt-ltb, le-ltb}
use Rattle.std.proofs.lemmas.List.{append-nil}
use Rattle.std.proofs.Math.Seq.{drop-append_seam}
use Rattle.el_base.specs.Limits.{max_nesting}
use Rattle.el_base.specs.declared.span.Span.{Span}
use Rattle.c_ast.specs.declared.token.Token.{Token}
use Rattle.c_ast.specs.Prefixes.{BeginsBy, NestedBy, IsShallowBy, IsUnexpectedBy, IsCutBy, IsDeepBy}
use Rattle.c_parse.specs.Symbols.{Symbol, may_be_absent}
use Rattle.c_parse.specs.Values.{Value}
use Rattle.c_parse.specs.Traces.{Trace, Verdict, settled, ending, trace, verdict, judge}
use Rattle.c_parse.proofs.Runs.{Runs, runs_join, runs_to, runs_length}
use Rattle.c_parse.proofs.Outcomes.{Entered, entered, behind, same_runs, taken_nesting, AllShallow}
use Rattle.c_parse.proofs.Exactness.{Traced, Front, over, front_of, front_same, one_behind, filling}
use Rattle.c_parse.proofs.Meanings.{IsComplete, runs_complete}

-- ---- traces

-- over shallow nestings the verdict stays
pub verdict_behind : (ns : List ℕ) (ts : List Token) (a b : Trace) → Runs ns ts a b → AllShallow ns → verdict a ≡ verdict b
verdict_behind ns ts a b (Runs.done x) all = refl
verdict_behind ns ts a b (Runs.onward n t ks us x y r) all =
    ap (λ c. if c then Verdict.deep t.span else verdict x) (le-ltb max_nesting n all.0) ∙ verdict_behind ks us x y r all.1

-- the nestings at shallow tokens are shallow, one after the other
abbrev ShallowAt : List Token → List ℕ → Type 0
ShallowAt us ns = (xs vs : List Token) (t : Token) (ms ks : List ℕ) (m : ℕ) → us ≡ xs ++ t ∷ vs → ns ≡ ms ++ m ∷ ks → length ms ≡ length xs → m ≤ max_nesting

all_shallow : (us : List Token) (ns : List ℕ) → length ns ≡ length us → ShallowAt us ns → AllShallow ns
all_shallow us [] same f = tt
all_shallow [] (n ∷ ns) same f = absurd (cc)
all_shallow (t ∷ us) (n ∷ ns) same f = (
  f [] us t [] ns n refl refl refl,
  all_shallow us ns (omega arith) (λ xs vs s ms ks m h k l. f (t ∷ xs) vs s (n ∷ ms) ks m (ap (λ ys. t ∷ ys) h) (ap (λ ys. n ∷ ys) k) (ap suc l)),
)

-- no token is left
ends_either : (symbols : List Symbol) (vs : List Value) → IsComplete (ending symbols vs) ⊎ (ending symbols vs ≡ Trace.cut)
ends_either [] vs = inl tt
ends_either (s ∷ symbols) vs = either (may_be_absent s) (ends_either symbols (settled s vs))
  where
    either : (b : Bool) → (IsComplete (ending symbols (settled s vs)) ⊎ (ending symbols (settled s vs) ≡ Trace.cut))
        → IsComplete (if b then ending symbols (settled s vs) else Trace.cut) ⊎ ((if b then ending symbols (settled s vs) else Trace.cut) ≡ Trace.cut)
    either true h = h
    either false h = inr refl

-- a token of a nesting that passes the most
deep_at : (left : List Symbol) (values : List Value) (t : Token) (ws rest : List Token) (n : ℕ) (a : Trace) → max_nesting < n → trace left values (t ∷ rest) ≡ Trace.taken n t.span a → Entered left values t
    → verdict (trace left values (t ∷ ws)) ≡ Verdict.deep t.span
deep_at left values t ws rest n a much h (Entered.sticks g) = let e : Trace.unexpected t.span ≡ Trace.taken n t.span a = sym (g rest) ∙ h in absurd (cc)
deep_at left values t ws rest n a much h (Entered.enters m new vs g kept) =
    let e : Trace.taken m t.span (trace new vs rest) ≡ Trace.taken n t.span a = sym (g rest) ∙ h in
    let same : m ≡ n = taken_nesting m n t.span (trace new vs rest) a e in
    ap verdict (g ws) ∙ ap (λ b. if b then Verdict.deep t.span else verdict (trace new vs ws)) (lt-ltb max_nesting m (subst (λ k. max_nesting < k) (sym same) much))

record Next (n : ℕ) (t : Token) (a : Trace) : Type 0 where
  rest : Trace
  is : a ≡ Trace.taken n t.span rest

next_of : (ns ks : List ℕ) (n : ℕ) (t : Token) (ts : List Token) (a b : Trace) → ns ≡ n ∷ ks → Runs ns (t ∷ ts) a b → Next n t a
next_of ns ks n t ts a b h (Runs.onward m u js xs x y r) = let e : m ≡ n = cc in record { rest = x; is = ap (λ k. Trace.taken k t.span x) e }

back_same : (front back ms later : List ℕ) → front ++ back ≡ ms ++ later → front ≡ ms → back ≡ later
back_same front back ms later h same = sym (drop-append_seam front back) ∙ ap (λ xs. drop (length front) xs) h ∙ ap (λ xs. drop (length xs) (ms ++ later)) same ∙ drop-append_seam ms later

-- where shallow tokens begin a text, the verdict is that behind them
record Passed (start : List Symbol) (us : List Token) : Type 0 where
  ns : List ℕ
  left : List Symbol
  values : List Value
  goes : (rest : List Token) → Runs ns us (trace start [] (us ++ rest)) (trace left values rest)
  passes : (rest : List Token) → judge start (us ++ rest) ≡ verdict (trace left values rest)

module _ {A : Type 0} (D : List Token → A → Type 0) (nests : (ts : List Token) (x : A) → D ts x → List ℕ) (start : List Symbol) (grammar : Traced D nests start) where
  -- ---- one tree

  pub one_tree : (ts : List Token) (a b : A) → D ts a → D ts b → a ≡ b
  one_tree ts a b d q =
      grammar.one ts a b (same_runs (nests ts a d) (nests ts b q) ts (over D nests start grammar ts) (Trace.complete (grammar.whole ts a)) (Trace.complete (grammar.whole ts b)) (grammar.traced ts a d) (grammar.traced ts b q)).1

  -- ---- from the refusals to the verdict

  -- tokens have one list of nestings
  pub one_nesting : (ts us : List Token) (a b : A) (d : D ts a) (q : D us b) → ts ≡ us → nests ts a d ≡ nests us b q
  one_nesting ts us a b d q e =
      let whole : Trace = Trace.complete (grammar.whole ts a) in
      (same_runs (nests ts a d) (nests us b q) us (over D nests start grammar us) whole (Trace.complete (grammar.whole us b)) (subst (λ ys. Runs (nests ts a d) ys (over D nests start grammar ys) whole) e (grammar.traced ts a d)) (grammar.traced us b q)).0

  nested_in : (us rest ts : List Token) (tree : A) (d : D ts tree) (e : ts ≡ us ++ rest) (f : Front D nests start grammar.whole us rest ts tree d) (xs vs : List Token) (t : Token) (ms ks : List ℕ) (m : ℕ)
      → us ≡ xs ++ t ∷ vs → f.front ≡ ms ++ m ∷ ks → length ms ≡ length xs → NestedBy D nests xs ms t m
  nested_in us rest ts tree d e f xs vs t ms ks m h k l =
      let split : ts ≡ xs ++ t ∷ (vs ++ rest) = e ∙ ap (λ ys. ys ++ rest) h ∙ append_assoc xs (t ∷ vs) rest in
      let q : D (xs ++ t ∷ (vs ++ rest)) tree = subst (λ ys. D ys tree) split d in
      record {
        rest = vs ++ rest;
        tree = tree;
        derived = q;
        later = ks ++ f.back;
        known = one_nesting (xs ++ t ∷ (vs ++ rest)) ts tree tree q d (sym split) ∙ f.split ∙ ap (λ ys. ys ++ f.back) k ∙ append_assoc ms (m ∷ ks) f.back;
        each = l;
      }

  shallow_front : (us rest ts : List Token) (tree : A) (d : D ts tree) (e : ts ≡ us ++ rest) (f : Front D nests start grammar.whole us rest ts tree d) → IsShallowBy D nests us → AllShallow f.front
  shallow_front us rest ts tree d e f shallow =
      all_shallow us f.front (runs_length f.front us (over D nests start grammar (us ++ rest)) f.between f.runs)
      (λ xs vs t ms ks m h k l. shallow xs vs t ms m h (nested_in us rest ts tree d e f xs vs t ms ks m h k l))

  passed : (us rest ts : List Token) (tree : A) (d : D ts tree) → ts ≡ us ++ rest → IsShallowBy D nests us → Passed start us
  passed us rest ts tree d e shallow =
      let f = front_of D nests start grammar us rest ts tree d e in
      let h = behind f.front us rest start [] f.between f.runs in
      let all = shallow_front us rest ts tree d e f shallow in
      record {
        ns = f.front;
        left = h.left;
        values = h.values;
        goes = h.goes;
        passes = (λ ws. verdict_behind f.front us (over D nests start grammar (us ++ ws)) (trace h.left h.values ws) (h.goes ws) all);
      }

  -- behind a token that may stand there a text goes on
  goes_on : (us ws : List Token) (t : Token) (p : Passed start us) (n : ℕ) (new : List Symbol) (vs : List Value) → ((ts : List Token) → trace p.left p.values (t ∷ ts) ≡ Trace.taken n t.span (trace new vs ts)) → BeginsBy D (us ++ t ∷ [])
  goes_on us ws t p n new vs g =
      let rest : Trace = trace new vs ws in
      let q : Runs p.ns us (over D nests start grammar (us ++ t ∷ ws)) (Trace.taken n t.span rest) = runs_to p.ns us (over D nests start grammar (us ++ t ∷ ws)) (trace p.left p.values (t ∷ ws)) (Trace.taken n t.span rest) (p.goes (t ∷ ws)) (g ws) in
      let r : Runs (p.ns ++ n ∷ []) (us ++ t ∷ []) (over D nests start grammar (us ++ t ∷ ws)) rest = runs_join p.ns (n ∷ []) us (t ∷ []) (over D nests start grammar (us ++ t ∷ ws)) (Trace.taken n t.span rest) rest q (Runs.onward n t [] [] rest rest (Runs.done rest)) in
      filling D nests start grammar (us ++ t ∷ []) ws (p.ns ++ n ∷ []) rest (subst (λ ys. Runs (p.ns ++ n ∷ []) (us ++ t ∷ []) (over D nests start grammar ys) rest) (one_behind D nests start grammar us ws t) r)

  stuck_at : (us ws : List Token) (t : Token) (p : Passed start us) → (BeginsBy D (us ++ t ∷ []) → ⊥) → Entered p.left p.values t → judge start (us ++ t ∷ ws) ≡ Verdict.unexpected t.span
  stuck_at us ws t p ends (Entered.sticks g) = p.passes (t ∷ ws) ∙ ap verdict (g ws)
  stuck_at us ws t p ends (Entered.enters n new vs g kept) = absurd (ends (goes_on us ws t p n new vs g))

  pub says_unexpected : (tokens : List Token) (at : Span) → IsUnexpectedBy D nests tokens at → judge start tokens ≡ Verdict.unexpected at
  says_unexpected tokens at u =
      let b = u.begins in
      let p = passed u.before b.rest (u.before ++ b.rest) b.tree b.derived refl u.shallow in
      ap (λ ts. judge start ts) u.split ∙ stuck_at u.before u.after u.token p u.ends (entered p.left p.values u.token) ∙ ap (λ s. Verdict.unexpected s) (sym u.place)

  cut_at : (tokens : List Token) (p : Passed start tokens) → ((tree : A) → D tokens tree → ⊥) → IsComplete (trace p.left p.values []) ⊎ (trace p.left p.values [] ≡ Trace.cut) → verdict (trace p.left p.values []) ≡ Verdict.cut
  cut_at tokens p none (inl h) =
      let r : Runs p.ns tokens (over D nests start grammar tokens) (trace p.left p.values []) = subst (λ ys. Runs p.ns tokens (over D nests start grammar ys) (trace p.left p.values [])) (append-nil tokens) (p.goes []) in
      let d = grammar.derives tokens (runs_complete p.ns tokens (over D nests start grammar tokens) (trace p.left p.values []) r h) in
      absurd (none d.value d.derived)
  cut_at tokens p none (inr h) = ap verdict h

  pub says_cut : (tokens : List Token) → IsCutBy D nests tokens → judge start tokens ≡ Verdict.cut
  says_cut tokens c =
      let b = c.begins in
      let p = passed tokens b.rest (tokens ++ b.rest) b.tree b.derived refl c.shallow in
      ap (λ ts. judge start ts) (sym (append-nil tokens)) ∙ p.passes [] ∙ cut_at tokens p c.none (ends_either p.left p.values)

  pub says_deep : (tokens : List Token) (at : Span) → IsDeepBy D nests tokens at → judge start tokens ≡ Verdict.deep at
  says_deep tokens at k =
      let d = k.nested in
      let us : List Token = k.before in
      let more : List Token = k.token ∷ d.rest in
      let p = passed us more (us ++ more) d.tree d.derived refl k.shallow in
      let f = front_of D nests start grammar us more (us ++ more) d.tree d.derived refl in
      let same = same_runs f.front p.ns us (over D nests start grammar (us ++ more)) f.between (trace p.left p.values more) f.runs (p.goes more) in
      let lengths : length f.front ≡ length k.levels = runs_length f.front us (over D nests start grammar (us ++ more)) f.between f.runs ∙ sym d.each in
      let h : f.front ++ f.back ≡ k.levels ++ k.level ∷ d.later = sym f.split ∙ d.known in
      let back : f.back ≡ k.level ∷ d.later = back_same f.front f.back k.levels (k.level ∷ d.later) h (front_same D nests start grammar f.front f.back k.levels (k.level ∷ d.later) h lengths) in
      let n = next_of f.back d.later k.level k.token d.rest f.between (Trace.complete (grammar.whole (us ++ more) d.tree)) back f.ends in
      ap (λ ts. judge start ts) k.split ∙ p.passes (k.token ∷ k.after)
      ∙ deep_at p.left p.values k.token k.after d.rest k.level n.rest k.passes (sym same.1 ∙ n.is) (entered p.left p.values k.token) ∙ ap (λ s. Verdict.deep s) (sym k.place)

  pub says_whole : (tokens : List Token) (tree : A) → D tokens tree → IsShallowBy D nests tokens → judge start tokens ≡ Verdict.whole
  says_whole tokens tree d shallow =
      let f = front_of D nests start grammar tokens [] tokens tree d (sym (append-nil tokens)) in
      let p = shallow_front tokens [] tokens tree d (sym (append-nil tokens)) f shallow in
      ap (λ ts. judge start ts) (sym (append-nil tokens)) ∙ verdict_behind f.front tokens (over D nests start grammar (tokens ++ [])) f.between f.runs p
      ∙ verdict_behind f.back [] f.between (Trace.complete (grammar.whole tokens tree)) f.ends (none_left f.back f.between (Trace.complete (grammar.whole tokens tree)) f.ends)
    where
      none_left : (ns : List ℕ) (a b : Trace) → Runs ns [] a b → AllShallow ns
      none_left ns a b (Runs.done x) = tt
