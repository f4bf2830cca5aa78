-- What a parser's answers say, from the verdict on the tokens; and an answer that says what holds is the only one.
use Rattle.std.proofs.Common.{◌≡◌, ◌≢◌, ◌⊎◌, inl, inr, ℕ, ◌≤◌, ◌<◌, ◌-◌, ◌^◌, min, List, Result, Ok, Err, IfOk, IfErr, arith, refl, sym, ◌∙◌, ap, subst}
use Rattle.el_base.specs.Limits.{max_nodes}
use Rattle.el_base.specs.declared.span.Span.{Span}
use Rattle.c_ast.specs.declared.token.Token.{Token}
use Rattle.c_parse.specs.declared.refusal.ParseRefusal.{ParseRefusal}
use Rattle.c_parse.specs.declared.refusal.ParseRefusal.TheVariants as refusal
use Rattle.c_parse.specs.declared.refusal.Stop.{Stop}
use Rattle.c_parse.specs.declared.refusal.Stop.TheVariants as stop
use Rattle.c_parse.specs.Refusals.{refusal_of, SaysLargeBy, IsTextBy, IsTooLargeBy, SaysBy, IsOnlyBy}
use Rattle.c_parse.specs.Symbols.{Symbol}
use Rattle.c_parse.specs.Traces.{Verdict, judge}
use Rattle.c_parse.specs.Verdicts.{Tells}
use Rattle.c_parse.proofs.Exactness.{Traced, judged_means}
use Rattle.c_parse.proofs.OneVerdict as verdicts
use Rattle.c_parse.proofs.OneVerdict.{says_unexpected, says_cut, says_deep, says_whole}

-- the verdict of an answer; of want of memory this says nothing
abbrev verdict_by : {A : Type 0} → Result A ParseRefusal → Verdict
verdict_by (Err (refusal.Unexpected s)) = Verdict.unexpected s
verdict_by (Err (refusal.EndOfText s)) = Verdict.cut
verdict_by (Err (refusal.TooDeep s)) = Verdict.deep s
verdict_by r = Verdict.whole

is_memory : {A : Type 0} (r : Result A ParseRefusal) → (r ≡ Err refusal.Memory) ⊎ (r ≢ Err refusal.Memory)
is_memory (Err refusal.Memory) = inl refl
is_memory r = inr (λ h. cc)

module _ {A : Type 0} (D : List Token → A → Type 0) (nests : (ts : List Token) (x : A) → D ts x → List ℕ) (start : List Symbol) (grammar : Traced D nests start) (nodes : A → ℕ) (name_at : A → Span) where
  abbrev Answer : Type 0
  Answer = Result A ParseRefusal

  abbrev SaysOf : List Token → Span → Answer → Type 0
  SaysOf = SaysBy D nests nodes name_at

  -- ---- one answer

  one_tree : (ts : List Token) (a b : A) → D ts a → D ts b → a ≡ b
  one_tree = verdicts.one_tree D nests start grammar

  says_verdict : (tokens : List Token) (end : Span) (r : Answer) → r ≢ Err refusal.Memory → SaysOf tokens end r → judge start tokens ≡ verdict_by r
  says_verdict tokens end (Ok tree) some s = says_whole D nests start grammar tokens tree s.derived s.shallow
  says_verdict tokens end (Err (refusal.Unexpected p)) some s = says_unexpected D nests start grammar tokens p s
  says_verdict tokens end (Err (refusal.EndOfText p)) some s = says_cut D nests start grammar tokens s.1
  says_verdict tokens end (Err (refusal.TooDeep p)) some s = says_deep D nests start grammar tokens p s
  says_verdict tokens end (Err (refusal.TooLarge p n)) some s = says_whole D nests start grammar tokens s.tree s.derived s.shallow
  says_verdict tokens end (Err refusal.Memory) some s = absurd (some refl)

  not_both : (tokens : List Token) (tree : A) (p : Span) (n : ℕ) → IsTextBy D nests nodes tokens tree → IsTooLargeBy D nests nodes name_at tokens p n → ⊥
  not_both tokens tree p n k l =
      let small : nodes l.tree ≤ max_nodes = subst (λ t. nodes t ≤ max_nodes) (one_tree tokens tree l.tree k.derived l.derived) k.small in
      let many : max_nodes < nodes l.tree = l.large.many in omega arith

  same_large : (tokens : List Token) (p q : Span) (n m : ℕ) → IsTooLargeBy D nests nodes name_at tokens p n → IsTooLargeBy D nests nodes name_at tokens q m → refusal.TooLarge p n ≡ refusal.TooLarge q m
  same_large tokens p q n m a b =
      let same : a.tree ≡ b.tree = one_tree tokens a.tree b.tree a.derived b.derived in
      let place : p ≡ q = a.large.place ∙ ap name_at same ∙ sym b.large.place in
      let count : n ≡ m = a.large.count ∙ ap (λ t. min (nodes t) (2 ^ 64 - 1)) same ∙ sym b.large.count in cc

  same_answer : (tokens : List Token) (end : Span) (r other : Answer) → other ≢ Err refusal.Memory → SaysOf tokens end r → SaysOf tokens end other → verdict_by r ≡ verdict_by other → (r ≡ other) ⊎ (r ≡ Err refusal.Memory)
  same_answer tokens end (Err refusal.Memory) other some a b h = inr refl
  same_answer tokens end r (Err refusal.Memory) some a b h = absurd (some refl)
  same_answer tokens end (Ok t) (Ok u) some a b h = inl (ap Ok (one_tree tokens t u a.derived b.derived))
  same_answer tokens end (Ok t) (Err (refusal.TooLarge q m)) some a b h = absurd (not_both tokens t q m a b)
  same_answer tokens end (Err (refusal.TooLarge p n)) (Ok u) some a b h = absurd (not_both tokens u p n b a)
  same_answer tokens end (Err (refusal.TooLarge p n)) (Err (refusal.TooLarge q m)) some a b h = inl (ap Err (same_large tokens p q n m a b))
  same_answer tokens end (Err (refusal.EndOfText p)) (Err (refusal.EndOfText q)) some a b h = inl (ap (λ s. Err (refusal.EndOfText s)) (a.0 ∙ sym b.0))
  same_answer tokens end r other some a b h = inl (cc)

  -- an answer that says what holds is the only one
  pub only : (tokens : List Token) (end : Span) (r : Answer) → SaysOf tokens end r → IsOnlyBy (SaysOf tokens end) r
  only tokens end r a other some b = by (is_memory r)
    where
      by : (r ≡ Err refusal.Memory) ⊎ (r ≢ Err refusal.Memory) → (r ≡ other) ⊎ (r ≡ Err refusal.Memory)
      by (inl h) = inr h
      by (inr h) = same_answer tokens end r other some a b (sym (says_verdict tokens end r h a) ∙ says_verdict tokens end other some b)

  -- ---- what the answers say

  stop_says : (tokens : List Token) (end : Span) (s : Stop) → Tells s (judge start tokens) → SaysOf tokens end (Err (refusal_of end s))
  stop_says tokens end (stop.Unexpected p) told = judged_means D nests start grammar tokens (Verdict.unexpected p) told
  stop_says tokens end stop.EndOfText told = (refl, judged_means D nests start grammar tokens Verdict.cut told)
  stop_says tokens end (stop.TooDeep p) told = judged_means D nests start grammar tokens (Verdict.deep p) told
  stop_says tokens end stop.Memory told = tt

  pub refused_says : (tokens : List Token) (end : Span) (s : Stop) (e : ParseRefusal) → e ≡ refusal_of end s → Tells s (judge start tokens) → SaysOf tokens end (Err e)
  refused_says tokens end s e is told = subst (λ x. SaysOf tokens end (Err x)) (sym is) (stop_says tokens end s told)

  large_says : (tokens : List Token) (end : Span) (tree : A) (e : ParseRefusal) → D tokens tree → judge start tokens ≡ Verdict.whole → SaysLargeBy nodes name_at tree e → SaysOf tokens end (Err e)
  large_says tokens end tree (refusal.TooLarge p n) d whole large = record { tree = tree; derived = d; shallow = judged_means D nests start grammar tokens Verdict.whole whole; large = large }
  large_says tokens end tree e d whole large = absurd large

  pub limited_says : (tokens : List Token) (end : Span) (tree : A) (r : Answer) → D tokens tree → judge start tokens ≡ Verdict.whole
      → IfOk r (λ t. t ≡ tree) → IfOk r (λ t. nodes t ≤ max_nodes) → IfErr r (λ e. SaysLargeBy nodes name_at tree e) → SaysOf tokens end r
  limited_says tokens end tree (Ok t) d whole same small large =
      record { derived = subst (λ x. D tokens x) (sym same) d; shallow = judged_means D nests start grammar tokens Verdict.whole whole; small = small }
  limited_says tokens end tree (Err e) d whole same small large = large_says tokens end tree e d whole large

-- what holds of a tree holds of one that is given back
pub limited_has : {A E : Type 0} (P : A → Type 0) (tree : A) (r : Result A E) → IfOk r (λ t. t ≡ tree) → P tree → IfOk r P
limited_has P tree (Ok t) same p = subst P (sym same) p
limited_has P tree (Err e) same p = tt
