-- What the verdict on tokens says of a grammar, and the other way round.
use Rattle.std.proofs.Common.{◌≡◌, ℕ, ◌+◌, ◌<◌, List, [], ◌∷◌, ◌++◌, length, take, arith, refl, sym, ◌∙◌, ap, subst, append_assoc, length-append}
use Rattle.std.proofs.lemmas.List.{append-nil}
use Rattle.std.proofs.Math.Seq.{take-append_seam}
use Rattle.el_base.specs.Limits.{max_nesting}
use Rattle.el_base.specs.declared.span.Span.{Span}
use Rattle.c_ast.specs.declared.token.Token.{Token}
use Rattle.c_ast.specs.Prefixes.{BeginsBy, NestedBy, IsShallowBy, IsUnexpectedBy, IsCutBy, IsDeepBy}
use Rattle.c_parse.specs.Symbols.{Symbol}
use Rattle.c_parse.specs.Values.{Value}
use Rattle.c_parse.specs.Traces.{Trace, Verdict, trace, judge}
use Rattle.c_parse.proofs.Runs.{Runs, runs_join, runs_length}
use Rattle.c_parse.proofs.Outcomes.{Entered, entered, behind, same_runs, runs_part, AllShallow, shallow_in, Outcome, outcome}
use Rattle.c_parse.proofs.KernelParts.{AreSound}
use Rattle.c_parse.proofs.Fillings.{fill}
use Rattle.c_parse.proofs.Denotations.{Has}
use Rattle.c_parse.proofs.Meanings.{IsComplete, runs_complete}

-- The table traces a grammar from these symbols on: what derives is traced with its nestings, with one tree, and what is traced as complete derives.
pub record Traced {A : Type 0} (D : List Token → A → Type 0) (nests : (ts : List Token) (x : A) → D ts x → List ℕ) (start : List Symbol) : Type 0 where
  pub whole : List Token → A → List Value
  pub one : (ts : List Token) (a b : A) → Trace.complete (whole ts a) ≡ Trace.complete (whole ts b) → a ≡ b
  pub traced : (ts : List Token) (x : A) (d : D ts x) → Runs (nests ts x d) ts (trace start [] ts) (Trace.complete (whole ts x))
  pub derives : (ts : List Token) → IsComplete (trace start [] ts) → Has D ts
  pub sound : AreSound start

-- what a derivation says of its first tokens
pub record Front {A : Type 0} (D : List Token → A → Type 0) (nests : (ts : List Token) (x : A) → D ts x → List ℕ) (start : List Symbol) (whole : List Token → A → List Value)
    (us rest ts : List Token) (tree : A) (d : D ts tree) : Type 0 where
  pub front : List ℕ
  pub back : List ℕ
  pub between : Trace
  pub split : nests ts tree d ≡ front ++ back
  pub runs : Runs front us (trace start [] (us ++ rest)) between
  pub ends : Runs back rest between (Trace.complete (whole ts tree))

-- a token at which the trace stops stops it whatever comes behind
pub stopped_for_all : (left : List Symbol) (values : List Value) (t : Token) (ws : List Token) → trace left values (t ∷ ws) ≡ Trace.unexpected t.span → (rest : List Token) → trace left values (t ∷ rest) ≡ Trace.unexpected t.span
stopped_for_all left values t ws h rest = by_entered (entered left values t)
  where
    by_entered : Entered left values t → trace left values (t ∷ rest) ≡ Trace.unexpected t.span
    by_entered (Entered.sticks f) = f rest
    by_entered (Entered.enters n new us f kept) = let e : Trace.unexpected t.span ≡ Trace.taken n t.span (trace new us ws) = sym h ∙ f ws in absurd (cc)

module _ {A : Type 0} (D : List Token → A → Type 0) (nests : (ts : List Token) (x : A) → D ts x → List ℕ) (start : List Symbol) (grammar : Traced D nests start) where
  -- the trace over the tokens of a text
  abbrev pub over : List Token → Trace
  over ts = trace start [] ts

  -- ---- lists

  pub front_same : (front back ms later : List ℕ) → front ++ back ≡ ms ++ later → length front ≡ length ms → front ≡ ms
  front_same front back ms later h same =
      sym (take-append_seam front back) ∙ ap (λ n. take n (front ++ back)) same ∙ ap (λ xs. take (length ms) xs) h ∙ take-append_seam ms later

  pub one_behind : (us ws : List Token) (t : Token) → us ++ t ∷ ws ≡ (us ++ t ∷ []) ++ ws
  one_behind us ws t = sym (append_assoc us (t ∷ []) ws)

  -- ---- tokens that begin a text

  pub front_of : (us rest ts : List Token) (tree : A) (d : D ts tree) → ts ≡ us ++ rest → Front D nests start grammar.whole us rest ts tree d
  front_of us rest ts tree d e =
      let all : Trace = Trace.complete (grammar.whole ts tree) in
      let p = runs_part (nests ts tree d) us rest (over (us ++ rest)) all (subst (λ ys. Runs (nests ts tree d) ys (over ys) all) e (grammar.traced ts tree d)) in
      record { front = p.front; back = p.back; between = p.between; split = p.split; runs = p.first; ends = p.second }

  -- the trace over some tokens is the same in each text that begins with them
  same_front : (us ws rest ts : List Token) (tree : A) (d : D ts tree) (e : ts ≡ us ++ rest) (ns : List ℕ) (b : Trace) (r : Runs ns us (over (us ++ ws)) b)
      → let h = behind ns us ws start [] b r in ((front_of us rest ts tree d e).front ≡ ns) × ((front_of us rest ts tree d e).between ≡ trace h.left h.values rest)
  same_front us ws rest ts tree d e ns b r =
      let f = front_of us rest ts tree d e in
      let h = behind ns us ws start [] b r in
      same_runs f.front ns us (over (us ++ rest)) f.between (trace h.left h.values rest) f.runs (h.goes rest)

  -- the nestings at some tokens and one more, in a text that begins with them
  front_nesting : (us rest ts : List Token) (t : Token) (tree : A) (d : D ts tree) (e : ts ≡ (us ++ t ∷ []) ++ rest) (ms later : List ℕ) (m : ℕ) → nests ts tree d ≡ ms ++ m ∷ later → length ms ≡ length us
      → (front_of (us ++ t ∷ []) rest ts tree d e).front ≡ ms ++ m ∷ []
  front_nesting us rest ts t tree d e ms later m known each =
      let f = front_of (us ++ t ∷ []) rest ts tree d e in
      let long : length f.front ≡ length (us ++ t ∷ []) = runs_length f.front (us ++ t ∷ []) (over ((us ++ t ∷ []) ++ rest)) f.between f.runs in
      let a : length (us ++ t ∷ []) ≡ length us + 1 = length-append us (t ∷ []) in
      let b : length (ms ++ m ∷ []) ≡ length ms + 1 = length-append ms (m ∷ []) in
      let same : length f.front ≡ length (ms ++ m ∷ []) = omega arith in
      front_same f.front f.back (ms ++ m ∷ []) later (sym f.split ∙ known ∙ sym (append_assoc ms (m ∷ []) later)) same

  -- where tokens are read with shallow nestings, they are shallow in each text
  pub shallow_read : (us ws : List Token) (ns : List ℕ) (b : Trace) → Runs ns us (over (us ++ ws)) b → AllShallow ns → IsShallowBy D nests us
  shallow_read us ws ns b r all xs vs t ms m h k =
      let front : List Token = xs ++ t ∷ [] in
      let e : us ≡ front ++ vs = h ∙ one_behind xs vs t in
      let p = runs_part ns front vs (over (us ++ ws)) b (subst (λ ys. Runs ns ys (over (us ++ ws)) b) e r) in
      let r2 : Runs p.front front (over (front ++ (vs ++ ws))) p.between = subst (λ ys. Runs p.front front (over ys) p.between) (ap (λ ys. ys ++ ws) e ∙ append_assoc front vs ws) p.first in
      let same = same_front front (vs ++ ws) k.rest (xs ++ t ∷ k.rest) k.tree k.derived (one_behind xs k.rest t) p.front p.between r2 in
      let is : p.front ≡ ms ++ m ∷ [] = sym same.0 ∙ front_nesting xs k.rest (xs ++ t ∷ k.rest) t k.tree k.derived (one_behind xs k.rest t) ms k.later m k.known k.each in
      shallow_in ns ms p.back m (p.split ∙ ap (λ ys. ys ++ p.back) is ∙ append_assoc ms (m ∷ []) p.back) all

  pub filling : (us ws : List Token) (ns : List ℕ) (b : Trace) → Runs ns us (over (us ++ ws)) b → BeginsBy D us
  filling us ws ns b r =
      let h = behind ns us ws start [] b r in
      let f = fill h.left h.values (h.kept grammar.sound) in
      let d = grammar.derives (us ++ f.rest) (runs_complete ns us (over (us ++ f.rest)) (trace h.left h.values f.rest) (h.goes f.rest)
      (runs_complete f.ns f.rest (trace h.left h.values f.rest) (Trace.complete f.ws) f.runs tt)) in
      record { rest = f.rest; tree = d.value; derived = d.derived }

  -- ---- from the verdict to the refusals

  unexpected_incomplete : (ns : List ℕ) (t : Token) (ts : List Token) (s : Span) (a : Trace) (vs : List Value) → a ≡ Trace.unexpected s → Runs ns (t ∷ ts) a (Trace.complete vs) → ⊥
  unexpected_incomplete ns t ts s a vs h (Runs.onward n u ks xs x y r) = cc

  none_goes_on : (us ws : List Token) (t : Token) (ns : List ℕ) → Runs ns us (over (us ++ t ∷ ws)) (Trace.unexpected t.span) → BeginsBy D (us ++ t ∷ []) → ⊥
  none_goes_on us ws t ns r b =
      let e : (us ++ t ∷ []) ++ b.rest ≡ us ++ t ∷ b.rest = append_assoc us (t ∷ []) b.rest in
      let h = behind ns us (t ∷ ws) start [] (Trace.unexpected t.span) r in
      let f = front_of us (t ∷ b.rest) ((us ++ t ∷ []) ++ b.rest) b.tree b.derived e in
      let same = same_front us (t ∷ ws) (t ∷ b.rest) ((us ++ t ∷ []) ++ b.rest) b.tree b.derived e ns (Trace.unexpected t.span) r in
      unexpected_incomplete f.back t b.rest t.span f.between (grammar.whole ((us ++ t ∷ []) ++ b.rest) b.tree) (same.1 ∙ stopped_for_all h.left h.values t ws (sym h.ends) b.rest) f.ends

  unexpected_of : (tokens us ws : List Token) (t : Token) (ns : List ℕ) → tokens ≡ us ++ t ∷ ws → Runs ns us (over tokens) (Trace.unexpected t.span) → AllShallow ns → IsUnexpectedBy D nests tokens t.span
  unexpected_of tokens us ws t ns h r all =
      let q : Runs ns us (over (us ++ t ∷ ws)) (Trace.unexpected t.span) = subst (λ ys. Runs ns us (over ys) (Trace.unexpected t.span)) h r in
      record {
        before = us;
        after = ws;
        token = t;
        split = h;
        place = refl;
        begins = filling us (t ∷ ws) ns (Trace.unexpected t.span) q;
        shallow = shallow_read us (t ∷ ws) ns (Trace.unexpected t.span) q all;
        ends = none_goes_on us ws t ns q;
      }

  complete_not_cut : (ns ms : List ℕ) (ts : List Token) (a : Trace) (vs : List Value) → Runs ns ts a (Trace.complete vs) → Runs ms ts a Trace.cut → ⊥
  complete_not_cut ns ms ts a vs r q = let e : Trace.complete vs ≡ Trace.cut = (same_runs ns ms ts a (Trace.complete vs) Trace.cut r q).1 in cc

  cut_of : (tokens : List Token) (ns : List ℕ) → Runs ns tokens (over tokens) Trace.cut → AllShallow ns → IsCutBy D nests tokens
  cut_of tokens ns r all =
      let q : Runs ns tokens (over (tokens ++ [])) Trace.cut = subst (λ ys. Runs ns tokens (over ys) Trace.cut) (sym (append-nil tokens)) r in
      record {
        begins = filling tokens [] ns Trace.cut q;
        shallow = shallow_read tokens [] ns Trace.cut q all;
        none = (λ tree d. complete_not_cut (nests tokens tree d) ns tokens (over tokens) (grammar.whole tokens tree) (grammar.traced tokens tree d) r);
      }

  shallow_of : (tokens : List Token) (ns : List ℕ) (b : Trace) → Runs ns tokens (over tokens) b → AllShallow ns → IsShallowBy D nests tokens
  shallow_of tokens ns b r all = shallow_read tokens [] ns b (subst (λ ys. Runs ns tokens (over ys) b) (sym (append-nil tokens)) r) all

  -- the nestings at tokens that were read and one more
  nested_of : (us ws : List Token) (t : Token) (ns : List ℕ) (n : ℕ) (rest : Trace) → Runs ns us (over (us ++ t ∷ ws)) (Trace.taken n t.span rest) → NestedBy D nests us ns t n
  nested_of us ws t ns n rest r =
      let front : List Token = us ++ t ∷ [] in
      let q1 : Runs (ns ++ n ∷ []) front (over (us ++ t ∷ ws)) rest = runs_join ns (n ∷ []) us (t ∷ []) (over (us ++ t ∷ ws)) (Trace.taken n t.span rest) rest r (Runs.onward n t [] [] rest rest (Runs.done rest)) in
      let q : Runs (ns ++ n ∷ []) front (over (front ++ ws)) rest = subst (λ ys. Runs (ns ++ n ∷ []) front (over ys) rest) (one_behind us ws t) q1 in
      let f = filling front ws (ns ++ n ∷ []) rest q in
      let e : us ++ t ∷ f.rest ≡ front ++ f.rest = one_behind us f.rest t in
      let d : D (us ++ t ∷ f.rest) f.tree = subst (λ ys. D ys f.tree) (sym e) f.derived in
      let g = front_of front f.rest (us ++ t ∷ f.rest) f.tree d e in
      let same : g.front ≡ ns ++ n ∷ [] = (same_front front ws f.rest (us ++ t ∷ f.rest) f.tree d e (ns ++ n ∷ []) rest q).0 in
      record {
        rest = f.rest;
        tree = f.tree;
        derived = d;
        later = g.back;
        known = ◌∙◌ {b = g.front ++ g.back} g.split (ap (λ ys. ys ++ g.back) same ∙ append_assoc ns (n ∷ []) g.back);
        each = runs_length ns us (over (us ++ t ∷ ws)) (Trace.taken n t.span rest) r;
      }

  deep_of : (tokens us ws : List Token) (t : Token) (ns : List ℕ) (n : ℕ) (rest : Trace) → tokens ≡ us ++ t ∷ ws → Runs ns us (over tokens) (Trace.taken n t.span rest) → AllShallow ns → max_nesting < n → IsDeepBy D nests tokens t.span
  deep_of tokens us ws t ns n rest h r all much =
      let q : Runs ns us (over (us ++ t ∷ ws)) (Trace.taken n t.span rest) = subst (λ ys. Runs ns us (over ys) (Trace.taken n t.span rest)) h r in
      record {
        before = us;
        after = ws;
        token = t;
        split = h;
        place = refl;
        shallow = shallow_read us (t ∷ ws) ns (Trace.taken n t.span rest) q all;
        levels = ns;
        level = n;
        nested = nested_of us ws t ns n rest q;
        passes = much;
      }

  -- what a verdict says of the tokens
  abbrev pub Means : List Token → Verdict → Type 0
  Means tokens Verdict.whole = IsShallowBy D nests tokens
  Means tokens Verdict.cut = IsCutBy D nests tokens
  Means tokens (Verdict.unexpected s) = IsUnexpectedBy D nests tokens s
  Means tokens (Verdict.deep s) = IsDeepBy D nests tokens s

  outcome_means : (tokens : List Token) (v : Verdict) → Outcome tokens (over tokens) v → Means tokens v
  outcome_means tokens v (Outcome.whole ns vs r all) = shallow_of tokens ns (Trace.complete vs) r all
  outcome_means tokens v (Outcome.cut ns r all) = cut_of tokens ns r all
  outcome_means tokens v (Outcome.unexpected us ws t ns h r all) = unexpected_of tokens us ws t ns h r all
  outcome_means tokens v (Outcome.deep us ws t ns n rest h r all much) = deep_of tokens us ws t ns n rest h r all much

  pub judged_means : (tokens : List Token) (v : Verdict) → judge start tokens ≡ v → Means tokens v
  judged_means tokens v h = subst (λ w. Means tokens w) h (outcome_means tokens (judge start tokens) (outcome tokens start []))
