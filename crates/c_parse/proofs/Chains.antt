-- How verdicts are carried along the parts of a rule.
use Rattle.std.proofs.Common.{◌≡◌, ℕ, suc, ◌+◌, ◌≤◌, List, [], ◌∷◌, ◌++◌, Bool, true, false, Some, Result, Ok, Err, IsErrAnd, nat_lt, if◌then◌else◌, arith, refl, sym, ◌∙◌, ap, subst, append_assoc}
use Rattle.std.proofs.lemmas.Option.{same_Some}
use Rattle.el_base.specs.Limits.{max_nesting}
use Rattle.el_base.specs.declared.span.Span.{Span}
use Rattle.c_ast.specs.declared.token.Token.{Token}
use Rattle.c_ast.specs.declared.token.Word.{Word}
use Rattle.c_ast.specs.declared.token.Word.TheVariants as word
use Rattle.c_ast.specs.declared.key.Key.{Key}
use Rattle.c_ast.specs.declared.key.Key.TheVariants as key
use Rattle.c_ast.specs.declared.mark.Mark.{Mark}
use Rattle.c_ast.specs.declared.mark.Mark.TheVariants as mark
use Rattle.c_ast.specs.Derives.{named}
use Rattle.c_parse.specs.declared.refusal.Stop.{Stop}
use Rattle.c_parse.specs.declared.refusal.Stop.TheVariants as stop
use Rattle.c_parse.specs.Symbols.{Symbol, Reduction, Fixed, Move, move, spelled, takes, fixed_move, name_move, number_move, may_be_absent}
use Rattle.c_parse.specs.Values.{Value}
use Rattle.c_parse.specs.Reads.{Numbered, mark_of, mark_at, key_of, key_at}
use Rattle.c_parse.specs.Traces.{Verdict, verdict, judge}
use Rattle.c_parse.specs.Verdicts.{Tells, Judges}
use Rattle.c_parse.specs.Stops.{Refuses, is_name, is_number}
use Rattle.c_parse.proofs.Tracing.{trace_takes}
use Rattle.c_parse.proofs.Judging.{judge_takes, judge_deep, judge_sticks, judge_passes, judge_misses, judge_omits, judge_reduces, verdict_of_any}

-- the verdict where `part` is expected is that further on, where `left` is expected, whatever comes behind
pub record Same (part left : List Symbol) (before after : List Token) : Type 0 where
  pub holds : (symbols : List Symbol) → judge (part ++ symbols) before ≡ judge (left ++ symbols) after

-- the stop tells the verdict where `part` is expected, whatever comes behind
pub record Fails (part : List Symbol) (before : List Token) (e : Stop) : Type 0 where
  pub holds : (symbols : List Symbol) → Tells e (judge (part ++ symbols) before)

-- ---- joining

pub same_done : {p : List Symbol} {a : List Token} → Same p p a a
same_done {p} {a} = record { holds = λ symbols. refl }

pub same_then : {p q r : List Symbol} {a b c : List Token} → Same p q a b → Same q r b c → Same p r a c
same_then f g = record { holds = λ symbols. f.holds symbols ∙ g.holds symbols }

pub fails_then : {p q : List Symbol} {a b : List Token} {e : Stop} → Same p q a b → Fails q b e → Fails p a e
fails_then {p} {q} {a} {b} {e} f g = record { holds = λ symbols. subst (λ v. Tells e v) (sym (f.holds symbols)) (g.holds symbols) }

-- a part was read, with more behind
pub same_part : (part : List Symbol) {more : List Symbol} {a b : List Token} → ((symbols : List Symbol) → judge (part ++ symbols) a ≡ judge symbols b) → Same (part ++ more) more a b
same_part part {more} {a} {b} f = record { holds = λ symbols. ap (λ st. judge st a) (append_assoc part more symbols) ∙ f (more ++ symbols) }

-- a part was read but for what is left of it, with more behind
pub same_left : (part left more : List Symbol) {a b : List Token} → ((symbols : List Symbol) → judge (part ++ symbols) a ≡ judge (left ++ symbols) b) → Same (part ++ more) (left ++ more) a b
same_left part left more {a} {b} f = record { holds = λ symbols. ap (λ st. judge st a) (append_assoc part more symbols) ∙ f (more ++ symbols) ∙ ap (λ st. judge st b) (sym (append_assoc left more symbols)) }

-- it was refused
pub part_fails : (part more : List Symbol) {a : List Token} {e : Stop} → ((symbols : List Symbol) → Tells e (judge (part ++ symbols) a)) → Fails (part ++ more) a e
part_fails part more {a} {e} f = record { holds = λ symbols. subst (λ st. Tells e (judge st a)) (sym (append_assoc part more symbols)) (f (more ++ symbols)) }

-- memory was wanting
pub memory_fails : {part : List Symbol} {a : List Token} {e : Stop} → e ≡ stop.Memory → Fails part a e
memory_fails {part} {a} {e} told = record { holds = λ symbols. subst (λ x. Tells x (judge (part ++ symbols) a)) (sym told) tt }

-- at the same tokens
pub same_from : {p q : List Symbol} {a b c : List Token} → a ≡ b → Same p q b c → Same p q a c
same_from {p} {q} {a} {b} {c} same f = subst (λ x. Same p q x c) (sym same) f

pub same_to : {p q : List Symbol} {a b c : List Token} → Same p q a b → c ≡ b → Same p q a c
same_to {p} {q} {a} {b} {c} f same = subst (λ x. Same p q a x) (sym same) f

pub fails_from : {p : List Symbol} {a b : List Token} {e : Stop} → a ≡ b → Fails p b e → Fails p a e
fails_from {p} {a} {b} {e} same f = subst (λ x. Fails p x e) (sym same) f

-- ---- the first symbol

-- it takes the first token
pub same_takes : {s : Symbol} {n : ℕ} {new more : List Symbol} {t : Token} {before after : List Token} → before ≡ t ∷ after → move s t.word ≡ Move.take n new → n ≤ max_nesting
    → Same (s ∷ more) (new ++ more) before after
same_takes {s} {n} {new} {more} {t} {before} {after} split h small =
    same_from split (record { holds = λ symbols. judge_takes s n new (more ++ symbols) t after h small ∙ ap (λ st. judge st after) (sym (append_assoc new more symbols)) })

passes_at : (s : Symbol) (more : List Symbol) (ts : List Token) → may_be_absent s ≡ true → ((t : Token) (us : List Token) → ts ≡ t ∷ us → move s t.word ≡ Move.pass) → Same (s ∷ more) more ts ts
passes_at s more [] absent h = record { holds = λ symbols. judge_omits s (more ++ symbols) absent }
passes_at s more (t ∷ us) absent h = record { holds = λ symbols. judge_passes s (more ++ symbols) t us (h t us refl) }

-- it is passed over at the first token, and where none is left
pub same_passes : {s : Symbol} {more : List Symbol} {ts : List Token} → may_be_absent s ≡ true → ((t : Token) (us : List Token) → ts ≡ t ∷ us → move s t.word ≡ Move.pass) → Same (s ∷ more) more ts ts
same_passes {s} {more} {ts} absent h = passes_at s more ts absent h

pub same_reduces : {r : Reduction} {more : List Symbol} {ts : List Token} → Same (Symbol.reduce r ∷ more) more ts ts
same_reduces {r} {more} {ts} = record { holds = λ symbols. judge_reduces r (more ++ symbols) ts }

-- two symbols take the first token alike, and so goes what they leave
pub same_alike : {s r : Symbol} {n : ℕ} {new old more others : List Symbol} {t : Token} {before after : List Token} → before ≡ t ∷ after → move s t.word ≡ Move.take n new → move r t.word ≡ Move.take n old
    → Same (new ++ more) (old ++ others) after after → Same (s ∷ more) (r ∷ others) before before
same_alike {s} {r} {n} {new} {old} {more} {others} {t} {before} {after} split h k f =
    let both : Same (s ∷ more) (r ∷ others) (t ∷ after) (t ∷ after) = record {
      holds = λ symbols.
          let left = ap verdict (trace_takes s n new (more ++ symbols) [] t after h) in
          let right = ap verdict (trace_takes r n old (others ++ symbols) [] t after k) in
          let same = ap (λ st. judge st after) (sym (append_assoc new more symbols)) ∙ f.holds symbols ∙ ap (λ st. judge st after) (append_assoc old others symbols) in
          let later = verdict_of_any after (new ++ (more ++ symbols)) (Value.of_token t ∷ []) [] ∙ same ∙ verdict_of_any after (old ++ (others ++ symbols)) [] (Value.of_token t ∷ []) in
          left ∙ ap (λ v. if nat_lt max_nesting n then Verdict.deep t.span else v) later ∙ sym right;
    } in
    subst (λ ts. Same (s ∷ more) (r ∷ others) ts ts) (sym split) both

-- it takes the first token, which is too deep
pub deep_fails : {s : Symbol} {n : ℕ} {new more : List Symbol} {t : Token} {before after : List Token} {e : Stop} → before ≡ t ∷ after → move s t.word ≡ Move.take (suc n) new → n ≡ max_nesting → e ≡ stop.TooDeep t.span
    → Fails (s ∷ more) before e
deep_fails {s} {n} {new} {more} {t} {before} {after} {e} split h full told =
    let deep : move s t.word ≡ Move.take (suc max_nesting) new = h ∙ ap (λ k. Move.take (suc k) new) full in
    fails_from split (record { holds = λ symbols. subst (λ x. Tells x (judge (s ∷ (more ++ symbols)) (t ∷ after))) (sym told) (judge_deep s new (more ++ symbols) t after deep) })

-- it is stuck at words that do not fit
pub refused_fails : {Misfits : Word → Type 0} {s : Symbol} {more : List Symbol} {before : List Token} {e : Stop} → may_be_absent s ≡ false → ((w : Word) → Misfits w → move s w ≡ Move.stuck)
    → Refuses Misfits before e → Fails (s ∷ more) before e
refused_fails {Misfits} {s} {more} {before} {e} present h (Refuses.ended none told) =
    fails_from none (record { holds = λ symbols. subst (λ x. Tells x (judge (s ∷ (more ++ symbols)) [])) (sym told) (judge_misses s (more ++ symbols) present) })
refused_fails {Misfits} {s} {more} {before} {e} present h (Refuses.unfit t ts split misfit told) =
    fails_from split (record { holds = λ symbols. subst (λ x. Tells x (judge (s ∷ (more ++ symbols)) (t ∷ ts))) (sym told) (judge_sticks s (more ++ symbols) t ts (h t.word misfit)) })
refused_fails {Misfits} {s} {more} {before} {e} present h (Refuses.memory told) = memory_fails told

-- ---- words

takes_spelled : (f : Fixed) (w : Word) → takes f w ≡ true → w ≡ spelled f
takes_spelled Fixed.opening (word.Mark mark.Open) h = refl
takes_spelled Fixed.closing (word.Mark mark.Close) h = refl
takes_spelled Fixed.closing_bracket (word.Mark mark.CloseBracket) h = refl
takes_spelled Fixed.colon (word.Mark mark.Colon) h = refl
takes_spelled Fixed.semicolon (word.Mark mark.Semicolon) h = refl
takes_spelled Fixed.opening_brace (word.Mark mark.OpenBrace) h = refl
takes_spelled Fixed.closing_brace (word.Mark mark.CloseBrace) h = refl
takes_spelled Fixed.while_word (word.Key key.While) h = refl
takes_spelled f w h = absurd (cc)

spelled_takes : (f : Fixed) → takes f (spelled f) ≡ true
spelled_takes Fixed.opening = refl
spelled_takes f = refl

pub fixed_takes : (n : ℕ) (f : Fixed) (w : Word) → spelled f ≡ w → move (Symbol.fixed n f) w ≡ Move.take n []
fixed_takes n f w is = ap (fixed_move n) (ap (takes f) (sym is) ∙ spelled_takes f)

fixed_stuck : (n : ℕ) (f : Fixed) (v w : Word) → spelled f ≡ w → (v ≡ w → ⊥) → move (Symbol.fixed n f) v ≡ Move.stuck
fixed_stuck n f v w is other = by (takes f v) refl
  where
    by : (b : Bool) → takes f v ≡ b → fixed_move n (takes f v) ≡ Move.stuck
    by true h = absurd (other (takes_spelled f v h ∙ is))
    by false h = ap (fixed_move n) h

-- a fixed word is read, or refused, or read where it is too deep
pub same_fixed : {n : ℕ} {f : Fixed} {w : Word} {more : List Symbol} {s : Span} {before after : List Token} → spelled f ≡ w → n ≤ max_nesting → before ≡ record { word = w; span = s } ∷ after
    → Same (Symbol.fixed n f ∷ more) more before after
same_fixed {n} {f} {w} is small split = same_takes split (fixed_takes n f w is) small

pub fixed_fails : {n : ℕ} {f : Fixed} {w : Word} {more : List Symbol} {before : List Token} {e : Stop} → spelled f ≡ w → Refuses (λ v. v ≡ w → ⊥) before e → Fails (Symbol.fixed n f ∷ more) before e
fixed_fails {n} {f} {w} is r = refused_fails refl (λ v other. fixed_stuck n f v w is other) r

pub fixed_deep : {n : ℕ} {f : Fixed} {w : Word} {more : List Symbol} {s : Span} {before after : List Token} {e : Stop} → spelled f ≡ w → before ≡ record { word = w; span = s } ∷ after → n ≡ max_nesting → e ≡ stop.TooDeep s
    → Fails (Symbol.fixed (suc n) f ∷ more) before e
fixed_deep {n} {f} {w} is split full told = deep_fails split (fixed_takes (suc n) f w is) full told

-- a name is read or refused
pub same_name : {n : ℕ} {x : List ℕ} {more : List Symbol} {s : Span} {before after : List Token} → n ≤ max_nesting → before ≡ named x s ∷ after → Same (Symbol.a_name n ∷ more) more before after
same_name small split = same_takes split refl small

pub name_stuck : (n : ℕ) (more : List Symbol) (w : Word) → is_name w ≡ false → name_move n more w ≡ Move.stuck
name_stuck n more (word.Name x) h = absurd (cc)
name_stuck n more w h = refl

pub name_fails : {n : ℕ} {more : List Symbol} {before : List Token} {e : Stop} → Refuses (λ w. is_name w ≡ false) before e → Fails (Symbol.a_name n ∷ more) before e
name_fails {n} r = refused_fails refl (name_stuck n []) r

-- a number is read or refused
pub same_number : {n v : ℕ} {more : List Symbol} {before after : List Token} → n ≤ max_nesting → Numbered v before after → Same (Symbol.a_number n ∷ more) more before after
same_number small r = same_takes r.split refl small

number_stuck : (n : ℕ) (w : Word) → is_number w ≡ false → number_move n w ≡ Move.stuck
number_stuck n (word.Number x t) h = absurd (cc)
number_stuck n w h = refl

pub number_fails : {n : ℕ} {more : List Symbol} {before : List Token} {e : Stop} → Refuses (λ w. is_number w ≡ false) before e → Fails (Symbol.a_number n ∷ more) before e
number_fails {n} r = refused_fails refl (number_stuck n) r

-- ---- what may be absent

-- a symbol that is passed over at all words but one mark
pub passes_unless_mark : {s : Symbol} {more : List Symbol} {ts : List Token} (m : Mark) → may_be_absent s ≡ true → ((w : Word) → (mark_of w ≡ Some m → ⊥) → move s w ≡ Move.pass) → (mark_at ts ≡ Some m → ⊥)
    → Same (s ∷ more) more ts ts
passes_unless_mark m absent h other = same_passes absent (λ t us split. h t.word (λ is. other (ap mark_at split ∙ is)))

-- at all words but one reserved word
pub passes_unless_key : {s : Symbol} {more : List Symbol} {ts : List Token} (k : Key) → may_be_absent s ≡ true → ((w : Word) → (key_of w ≡ Some k → ⊥) → move s w ≡ Move.pass) → (key_at ts ≡ Some k → ⊥)
    → Same (s ∷ more) more ts ts
passes_unless_key k absent h other = same_passes absent (λ t us split. h t.word (λ is. other (ap key_at split ∙ is)))

-- ---- refusals

pub refuses_as : {M N : Word → Type 0} {before : List Token} {e : Stop} → ((t : Token) (us : List Token) → before ≡ t ∷ us → M t.word → N t.word) → Refuses M before e → Refuses N before e
refuses_as h (Refuses.ended none told) = Refuses.ended none told
refuses_as h (Refuses.unfit t us split misfit told) = Refuses.unfit t us split (h t us split misfit) told
refuses_as h (Refuses.memory told) = Refuses.memory told

pub marked_word : (w : Word) (m : Mark) → mark_of w ≡ Some m → w ≡ word.Mark m
marked_word (word.Mark k) m h = ap word.Mark (same_Some k m h)
marked_word w m h = absurd (cc)

-- a mark that comes next is not refused
pub known_fails : {m : Mark} {part : List Symbol} {before : List Token} {e : Stop} → mark_at before ≡ Some m → Refuses (λ w. w ≡ word.Mark m → ⊥) before e → Fails part before e
known_fails {m} known (Refuses.ended none told) = absurd (let h : mark_at [] ≡ Some m = ap mark_at (sym none) ∙ known in cc)
known_fails {m} known (Refuses.unfit t us split misfit told) = absurd (misfit (marked_word t.word m (ap mark_at (sym split) ∙ known)))
known_fails known (Refuses.memory told) = memory_fails told

-- ---- outcomes

-- a stop that is handed on
pub stopped : {A : Type 0} (r : Result A Stop) (e : Stop) → IsErrAnd r (λ d. d ≡ e) → r ≡ Err e
stopped (Err d) e same = ap Err same
stopped (Ok x) e same = absurd same

-- as the contracts say it
pub told : (part : List Symbol) {before : List Token} {e : Stop} → Fails part before e → (symbols : List Symbol) → Tells e (judge (part ++ symbols) before)
told part f = f.holds

pub went : (part left : List Symbol) {before after : List Token} → Same part left before after → (symbols : List Symbol) → judge (part ++ symbols) before ≡ judge (left ++ symbols) after
went part left f = f.holds

-- the outcome of a part is that of a rule that begins with it, where what follows it becomes what is left
pub judges_part : {A : Type 0} {p : List Symbol} {a m : List Token} (part more left : List Symbol) (b : List Token) (r : Result A Stop) → Same p (part ++ more) a m → Same more left b b → Judges part [] m b r → Judges p left a b r
judges_part part more left b (Ok x) f g h = (same_then f (same_then (same_part part h) g)).holds
judges_part part more left b (Err e) f g h = (fails_then f (part_fails part more h)).holds

-- ---- the depth that is left

pub within : (n depth : ℕ) → n + depth ≡ max_nesting → n ≤ max_nesting
within n depth all = omega arith

pub full : (n depth : ℕ) → n + depth ≡ max_nesting → depth ≡ 0 → n ≡ max_nesting
full n depth all none = omega arith

pub inner : (n depth less : ℕ) → n + depth ≡ max_nesting → less + 1 ≡ depth → suc n + less ≡ max_nesting
inner n depth less all one = omega arith

pub room : (n depth less : ℕ) → n + depth ≡ max_nesting → less + 1 ≡ depth → suc n ≤ max_nesting
room n depth less all one = omega arith
