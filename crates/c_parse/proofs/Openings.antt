-- Symbols that are passed over or replaced by others, by the next word.
use Rattle.std.proofs.Common.{◌≡◌, ℕ, suc, List, [], ◌∷◌, ◌++◌, true, false, Some, None, refl, sym, ◌∙◌, ap, subst}
use Rattle.c_ast.specs.declared.token.Token.{Token}
use Rattle.c_ast.specs.declared.token.Word.{Word}
use Rattle.c_ast.specs.declared.token.Word.TheVariants as word
use Rattle.c_ast.specs.declared.key.Key.{Key}
use Rattle.c_ast.specs.declared.key.Key.TheVariants as key
use Rattle.c_ast.specs.declared.mark.Mark.{Mark}
use Rattle.c_ast.specs.declared.mark.Mark.TheVariants as mark
use Rattle.c_parse.specs.Reads.{mark_of, mark_at, key_of, key_at, is_else, is_else_word}
use Rattle.c_parse.specs.Tables.{step_of}
use Rattle.c_parse.specs.Stops.{meaning, meaning_at, is_type_at}
use Rattle.c_parse.specs.Symbols.{Symbol, Fixed, Reduction, Move, move, followed, first_move, body_move, declarators, is_type_word, may_be_absent}
use Rattle.c_parse.specs.Parts.{braced_symbols}
use Rattle.c_parse.proofs.Tracing.{is_pass}
use Rattle.c_parse.proofs.Judging.{judge_misses, judge_unfolds}
use Rattle.c_parse.proofs.Chains.{Same, same_done, same_passes, same_alike, same_reduces, marked_word}
use Rattle.c_parse.proofs.Levels.{expression_stays}
use Rattle.c_parse.proofs.Starting.{type_stays, simple_stays, statement_stays, followed_twice}

-- the next word has P, if one comes
abbrev pub Next : (Word → Type 0) → List Token → Type 0
Next P [] = Unit {0}
Next P (t ∷ ts) = P t.word

abbrev pub IsNotMark : Mark → Word → Type 0
IsNotMark k w = mark_of w ≡ Some k → ⊥

abbrev pub IsNotKey : Key → Word → Type 0
IsNotKey k w = key_of w ≡ Some k → ⊥

pub next_not_mark : (k : Mark) (m : List Token) → (mark_at m ≡ Some k → ⊥) → Next (IsNotMark k) m
next_not_mark k [] h = tt
next_not_mark k (t ∷ ts) h = h

pub next_not_key : (k : Key) (m : List Token) → (key_at m ≡ Some k → ⊥) → Next (IsNotKey k) m
next_not_key k [] h = tt
next_not_key k (t ∷ ts) h = h

-- a symbol whose rule begins with another, at each such word and where no token is left
opens : {P : Word → Type 0} (s lead : Symbol) (more : List Symbol) (m : List Token) → may_be_absent s ≡ false → may_be_absent lead ≡ false → ((w : Word) → P w → move s w ≡ followed (move lead w) more) → ((w : Word) → is_pass (move lead w) ≡ false)
    → Next P m → Same (s ∷ []) (lead ∷ more) m m
opens s lead more [] a b same some h = record { holds = λ symbols. judge_misses s symbols a ∙ sym (judge_misses lead (more ++ symbols) b) }
opens s lead more (t ∷ ts) a b same some h = record { holds = λ symbols. judge_unfolds s lead more symbols t ts (same t.word h) (some t.word) }

-- a symbol that is passed over at each such word and where no token is left
passes : {P : Word → Type 0} {more : List Symbol} (s : Symbol) (m : List Token) → may_be_absent s ≡ true → ((w : Word) → P w → move s w ≡ Move.pass) → Next P m → Same (s ∷ more) more m m
passes {P} {more} s m a over h = same_passes a (λ t us split. over t.word (subst (Next P) split h))

-- at this mark a symbol takes the token as another does
pub alike_at : (s r : Symbol) (k : Mark) (n : ℕ) (done : Reduction) (m : List Token) → mark_at m ≡ Some k → move s (word.Mark k) ≡ Move.take n (Symbol.reduce done ∷ []) → move r (word.Mark k) ≡ Move.take n []
    → Same (s ∷ []) (r ∷ []) m m
alike_at s r k n done [] h p q = absurd (cc)
alike_at s r k n done (t ∷ ts) h p q =
    let is : t.word ≡ word.Mark k = marked_word t.word k h in
    same_alike {more = []} {others = []} refl (ap (λ w. move s w) is ∙ p) (ap (λ w. move r w) is ∙ q) same_reduces

-- a block, whose tokens are those of its braces
pub block_opened : (n : ℕ) (m : List Token) → mark_at m ≡ Some mark.OpenBrace → Same (Symbol.statement n ∷ []) (braced_symbols (suc n) ++ Symbol.reduce Reduction.block ∷ []) m m
block_opened n [] h = absurd (cc)
block_opened n (t ∷ ts) h =
    let is : t.word ≡ word.Mark mark.OpenBrace = marked_word t.word mark.OpenBrace h in
    let inside : List Symbol = Symbol.reduce Reduction.no_items ∷ Symbol.body (suc n) ∷ Symbol.reduce Reduction.block ∷ [] in
    same_alike {more = []} {others = inside} refl (ap (λ w. move (Symbol.statement n) w) is) (ap (λ w. move (Symbol.fixed (suc n) Fixed.opening_brace) w) is) same_done

-- ---- first symbols that are not passed over

name_stays : (n : ℕ) (w : Word) → is_pass (move (Symbol.a_name n) w) ≡ false
name_stays n (word.Name x) = refl
name_stays n w = refl

param_stays : (n : ℕ) (w : Word) → is_pass (move (Symbol.a_param n) w) ≡ false
param_stays n (word.Key key.Signed) = refl
param_stays n (word.Key k) = refl
param_stays n w = refl

-- ---- parameters and results

dims_over : (n : ℕ) (w : Word) → IsNotMark mark.OpenBracket w → move (Symbol.dims n) w ≡ Move.pass
dims_over n (word.Mark mark.OpenBracket) h = absurd (h refl)
dims_over n w h = refl

pub dims_end : {more : List Symbol} (n : ℕ) (m : List Token) → (mark_at m ≡ Some mark.OpenBracket → ⊥) → Same (Symbol.dims n ∷ more) more m m
dims_end n m h = passes (Symbol.dims n) m refl (dims_over n) (next_not_mark mark.OpenBracket m h)

more_params_over : (n : ℕ) (w : Word) → IsNotMark mark.Comma w → move (Symbol.more_params n) w ≡ Move.pass
more_params_over n (word.Mark mark.Comma) h = absurd (h refl)
more_params_over n w h = refl

pub more_params_end : {more : List Symbol} (n : ℕ) (m : List Token) → (mark_at m ≡ Some mark.Comma → ⊥) → Same (Symbol.more_params n ∷ more) more m m
more_params_end n m h = passes (Symbol.more_params n) m refl (more_params_over n) (next_not_mark mark.Comma m h)

more_arguments_over : (n : ℕ) (w : Word) → IsNotMark mark.Comma w → move (Symbol.more_arguments n) w ≡ Move.pass
more_arguments_over n (word.Mark mark.Comma) h = absurd (h refl)
more_arguments_over n w h = refl

pub more_arguments_end : {more : List Symbol} (n : ℕ) (m : List Token) → (mark_at m ≡ Some mark.Comma → ⊥) → Same (Symbol.more_arguments n ∷ more) more m m
more_arguments_end n m h = passes (Symbol.more_arguments n) m refl (more_arguments_over n) (next_not_mark mark.Comma m h)

arguments_move_is : (n : ℕ) (w : Word) → IsNotMark mark.Close w
    → move (Symbol.arguments n) w ≡ followed (move (Symbol.expression n 0) w) (Symbol.reduce Reduction.first_argument ∷ Symbol.more_arguments n ∷ Symbol.fixed n Fixed.closing ∷ [])
arguments_move_is n (word.Mark mark.Close) h = absurd (h refl)
arguments_move_is n w h = refl

pub arguments_opened : (n : ℕ) (m : List Token) → (mark_at m ≡ Some mark.Close → ⊥)
    → Same (Symbol.arguments n ∷ []) (Symbol.expression n 0 ∷ Symbol.reduce Reduction.first_argument ∷ Symbol.more_arguments n ∷ Symbol.fixed n Fixed.closing ∷ []) m m
arguments_opened n m h = opens (Symbol.arguments n) (Symbol.expression n 0) (Symbol.reduce Reduction.first_argument ∷ Symbol.more_arguments n ∷ Symbol.fixed n Fixed.closing ∷ []) m refl refl
    (arguments_move_is n) (expression_stays n 0) (next_not_mark mark.Close m h)

anything : (m : List Token) → Next (λ w. Unit {0}) m
anything [] = tt
anything (t ∷ ts) = tt

pub param_opened : (n : ℕ) (m : List Token) → Same (Symbol.a_param n ∷ []) (Symbol.a_type n ∷ Symbol.a_name n ∷ Symbol.reduce Reduction.no_dims ∷ Symbol.dims n ∷ Symbol.reduce Reduction.param ∷ []) m m
param_opened n m = opens {P = λ w. Unit {0}} (Symbol.a_param n) (Symbol.a_type n) (Symbol.a_name n ∷ Symbol.reduce Reduction.no_dims ∷ Symbol.dims n ∷ Symbol.reduce Reduction.param ∷ []) m refl refl (λ w h. refl) (type_stays n) (anything m)

abbrev StartsParam : Word → Type 0
StartsParam w = IsNotMark mark.Close w × IsNotKey key.Void w

params_move_is : (n : ℕ) (w : Word) → StartsParam w → move (Symbol.params n) w ≡ followed (move (Symbol.a_param n) w) (Symbol.reduce Reduction.first_param ∷ Symbol.more_params n ∷ Symbol.fixed n Fixed.closing ∷ [])
params_move_is n (word.Mark mark.Close) h = absurd (h.0 refl)
params_move_is n (word.Key key.Void) h = absurd (h.1 refl)
params_move_is n w h = refl

starts_param : (m : List Token) → (mark_at m ≡ Some mark.Close → ⊥) → (key_at m ≡ Some key.Void → ⊥) → Next StartsParam m
starts_param [] a b = tt
starts_param (t ∷ ts) a b = (a, b)

pub params_opened : (n : ℕ) (m : List Token) → (mark_at m ≡ Some mark.Close → ⊥) → (key_at m ≡ Some key.Void → ⊥) → Same (Symbol.params n ∷ []) (Symbol.a_param n ∷ Symbol.reduce Reduction.first_param ∷ Symbol.more_params n ∷ Symbol.fixed n Fixed.closing ∷ []) m m
params_opened n m a b = opens (Symbol.params n) (Symbol.a_param n) (Symbol.reduce Reduction.first_param ∷ Symbol.more_params n ∷ Symbol.fixed n Fixed.closing ∷ []) m refl refl (params_move_is n) (param_stays n) (starts_param m a b)

result_move_is : (n : ℕ) (w : Word) → IsNotKey key.Void w → move (Symbol.result n) w ≡ followed (move (Symbol.a_type n) w) (Symbol.reduce Reduction.result ∷ [])
result_move_is n (word.Key key.Void) h = absurd (h refl)
result_move_is n w h = refl

pub result_opened : (n : ℕ) (m : List Token) → (key_at m ≡ Some key.Void → ⊥) → Same (Symbol.result n ∷ []) (Symbol.a_type n ∷ Symbol.reduce Reduction.result ∷ []) m m
result_opened n m h = opens (Symbol.result n) (Symbol.a_type n) (Symbol.reduce Reduction.result ∷ []) m refl refl (result_move_is n) (type_stays n) (next_not_key key.Void m h)

-- ---- assignments, steps and declarations

target_move_is : (n : ℕ) (w : Word) → meaning step_of w ≡ None → move (Symbol.simple n) w ≡ followed (move (Symbol.a_name n) w) (Symbol.reduce Reduction.no_indices ∷ Symbol.indices n ∷ Symbol.reduce Reduction.target ∷ Symbol.assigning n ∷ [])
target_move_is n (word.Mark mark.Increment) h = absurd (cc)
target_move_is n (word.Mark mark.Decrement) h = absurd (cc)
target_move_is n (word.Mark m) h = refl
target_move_is n (word.Name x) h = refl
target_move_is n w h = refl

no_step : (m : List Token) → meaning_at step_of m ≡ None → Next (λ w. meaning step_of w ≡ None) m
no_step [] h = tt
no_step (t ∷ ts) h = h

-- an assignment or step that begins with its target
pub target_opened : (n : ℕ) (m : List Token) → meaning_at step_of m ≡ None → Same (Symbol.simple n ∷ []) (Symbol.a_name n ∷ Symbol.reduce Reduction.no_indices ∷ Symbol.indices n ∷ Symbol.reduce Reduction.target ∷ Symbol.assigning n ∷ []) m m
target_opened n m h = opens (Symbol.simple n) (Symbol.a_name n) (Symbol.reduce Reduction.no_indices ∷ Symbol.indices n ∷ Symbol.reduce Reduction.target ∷ Symbol.assigning n ∷ []) m refl refl (target_move_is n) (name_stays n) (no_step m h)

no_step_word : (w : Word) → IsNotMark mark.Increment w → IsNotMark mark.Decrement w → meaning step_of w ≡ None
no_step_word (word.Mark mark.Increment) a b = absurd (a refl)
no_step_word (word.Mark mark.Decrement) a b = absurd (b refl)
no_step_word (word.Mark m) a b = refl
no_step_word w a b = refl

pub no_step_next : (m : List Token) → (mark_at m ≡ Some mark.Increment → ⊥) → (mark_at m ≡ Some mark.Decrement → ⊥) → meaning_at step_of m ≡ None
no_step_next [] a b = refl
no_step_next (t ∷ ts) a b = no_step_word t.word a b

value_over : (n : ℕ) (w : Word) → IsNotMark mark.Assign w → move (Symbol.value n) w ≡ Move.pass
value_over n (word.Mark mark.Assign) h = absurd (h refl)
value_over n w h = refl

pub value_end : {more : List Symbol} (n : ℕ) (m : List Token) → (mark_at m ≡ Some mark.Assign → ⊥) → Same (Symbol.value n ∷ more) more m m
value_end n m h = passes (Symbol.value n) m refl (value_over n) (next_not_mark mark.Assign m h)

more_declared_over : (n : ℕ) (w : Word) → IsNotMark mark.Comma w → move (Symbol.more_declared n) w ≡ Move.pass
more_declared_over n (word.Mark mark.Comma) h = absurd (h refl)
more_declared_over n w h = refl

pub more_declared_end : {more : List Symbol} (n : ℕ) (m : List Token) → (mark_at m ≡ Some mark.Comma → ⊥) → Same (Symbol.more_declared n ∷ more) more m m
more_declared_end n m h = passes (Symbol.more_declared n) m refl (more_declared_over n) (next_not_mark mark.Comma m h)

-- ---- the parts of a for

next_type : (m : List Token) → is_type_at m ≡ true → Next (λ w. is_type_word w ≡ true) m
next_type [] h = tt
next_type (t ∷ ts) h = h

pub first_declares : (n : ℕ) (m : List Token) → is_type_at m ≡ true → Same (Symbol.first n ∷ []) (Symbol.a_type n ∷ declarators n) m m
first_declares n m h = opens (Symbol.first n) (Symbol.a_type n) (declarators n) m refl refl (λ w is. ap (λ b. first_move n b w) is) (type_stays n) (next_type m h)

abbrev StartsPlain : Mark → Word → Type 0
StartsPlain k w = (is_type_word w ≡ false) × IsNotMark k w

next_plain : (k : Mark) (m : List Token) → is_type_at m ≡ false → (mark_at m ≡ Some k → ⊥) → Next (StartsPlain k) m
next_plain k [] a b = tt
next_plain k (t ∷ ts) a b = (a, b)

first_move_is : (n : ℕ) (w : Word) → IsNotMark mark.Semicolon w → first_move n false w ≡ followed (move (Symbol.simple n) w) (Symbol.fixed n Fixed.semicolon ∷ Symbol.reduce Reduction.simple_first ∷ [])
first_move_is n (word.Mark mark.Semicolon) h = absurd (h refl)
first_move_is n w h = refl

pub first_opened : (n : ℕ) (m : List Token) → is_type_at m ≡ false → (mark_at m ≡ Some mark.Semicolon → ⊥) → Same (Symbol.first n ∷ []) (Symbol.simple n ∷ Symbol.fixed n Fixed.semicolon ∷ Symbol.reduce Reduction.simple_first ∷ []) m m
first_opened n m a b = opens (Symbol.first n) (Symbol.simple n) (Symbol.fixed n Fixed.semicolon ∷ Symbol.reduce Reduction.simple_first ∷ []) m refl refl
    (λ w h. ap (λ f. first_move n f w) h.0 ∙ first_move_is n w h.1) (simple_stays n) (next_plain mark.Semicolon m a b)

condition_move_is : (n : ℕ) (w : Word) → IsNotMark mark.Semicolon w → move (Symbol.condition n) w ≡ followed (move (Symbol.expression n 0) w) (Symbol.reduce Reduction.some_condition ∷ Symbol.fixed n Fixed.semicolon ∷ [])
condition_move_is n (word.Mark mark.Semicolon) h = absurd (h refl)
condition_move_is n w h = refl

pub condition_opened : (n : ℕ) (m : List Token) → (mark_at m ≡ Some mark.Semicolon → ⊥) → Same (Symbol.condition n ∷ []) (Symbol.expression n 0 ∷ Symbol.reduce Reduction.some_condition ∷ Symbol.fixed n Fixed.semicolon ∷ []) m m
condition_opened n m h = opens (Symbol.condition n) (Symbol.expression n 0) (Symbol.reduce Reduction.some_condition ∷ Symbol.fixed n Fixed.semicolon ∷ []) m refl refl (condition_move_is n) (expression_stays n 0) (next_not_mark mark.Semicolon m h)

last_move_is : (n : ℕ) (w : Word) → IsNotMark mark.Close w → move (Symbol.last n) w ≡ followed (move (Symbol.simple n) w) (Symbol.reduce Reduction.some_step ∷ Symbol.fixed n Fixed.closing ∷ [])
last_move_is n (word.Mark mark.Close) h = absurd (h refl)
last_move_is n w h = refl

pub last_opened : (n : ℕ) (m : List Token) → (mark_at m ≡ Some mark.Close → ⊥) → Same (Symbol.last n ∷ []) (Symbol.simple n ∷ Symbol.reduce Reduction.some_step ∷ Symbol.fixed n Fixed.closing ∷ []) m m
last_opened n m h = opens (Symbol.last n) (Symbol.simple n) (Symbol.reduce Reduction.some_step ∷ Symbol.fixed n Fixed.closing ∷ []) m refl refl (last_move_is n) (simple_stays n) (next_not_mark mark.Close m h)

-- ---- statements

abbrev StartsSimple : Word → Type 0
StartsSimple w = (key_of w ≡ None) × IsNotMark mark.OpenBrace w × IsNotMark mark.Semicolon w

statement_move_is : (n : ℕ) (w : Word) → StartsSimple w → move (Symbol.statement n) w ≡ followed (move (Symbol.simple n) w) (Symbol.fixed n Fixed.semicolon ∷ Symbol.reduce Reduction.simple ∷ [])
statement_move_is n (word.Key k) h = let none : Some k ≡ None = h.0 in absurd (cc)
statement_move_is n (word.Mark mark.OpenBrace) h = absurd (h.1 refl)
statement_move_is n (word.Mark mark.Semicolon) h = absurd (h.2 refl)
statement_move_is n w h = refl

starts_simple : (m : List Token) → key_at m ≡ None → (mark_at m ≡ Some mark.OpenBrace → ⊥) → (mark_at m ≡ Some mark.Semicolon → ⊥) → Next StartsSimple m
starts_simple [] a b d = tt
starts_simple (t ∷ ts) a b d = (a, b, d)

pub statement_opened : (n : ℕ) (m : List Token) → key_at m ≡ None → (mark_at m ≡ Some mark.OpenBrace → ⊥) → (mark_at m ≡ Some mark.Semicolon → ⊥) → Same (Symbol.statement n ∷ []) (Symbol.simple n ∷ Symbol.fixed n Fixed.semicolon ∷ Symbol.reduce Reduction.simple ∷ []) m m
statement_opened n m a b d = opens (Symbol.statement n) (Symbol.simple n) (Symbol.fixed n Fixed.semicolon ∷ Symbol.reduce Reduction.simple ∷ []) m refl refl (statement_move_is n) (simple_stays n) (starts_simple m a b d)

other_over : (n : ℕ) (w : Word) → IsNotKey key.Else w → move (Symbol.other n) w ≡ Move.pass
other_over n (word.Key key.Else) h = absurd (h refl)
other_over n w h = refl

no_else : (m : List Token) → is_else m ≡ false → Next (IsNotKey key.Else) m
no_else [] h = tt
no_else (t ∷ ts) h = λ is. let w : is_else_word (Some key.Else) ≡ false = subst (λ k. is_else_word k ≡ false) is h in absurd (cc)

pub other_end : {more : List Symbol} (n : ℕ) (m : List Token) → is_else m ≡ false → Same (Symbol.other n ∷ more) more m m
other_end n m h = passes (Symbol.other n) m refl (other_over n) (no_else m h)

body_declares_is : (n : ℕ) (w : Word) → is_type_word w ≡ true → move (Symbol.body n) w ≡ followed (move (Symbol.a_type n) w) (declarators n ++ Symbol.reduce Reduction.declared_items ∷ Symbol.body n ∷ [])
body_declares_is n w is = ap (λ b. body_move n b w) is ∙ followed_twice (move (Symbol.a_type n) w) (declarators n) (Symbol.reduce Reduction.declared_items ∷ Symbol.body n ∷ [])

pub body_declares : (n : ℕ) (m : List Token) → is_type_at m ≡ true → Same (Symbol.body n ∷ []) (Symbol.a_type n ∷ (declarators n ++ Symbol.reduce Reduction.declared_items ∷ Symbol.body n ∷ [])) m m
body_declares n m h = opens (Symbol.body n) (Symbol.a_type n) (declarators n ++ Symbol.reduce Reduction.declared_items ∷ Symbol.body n ∷ []) m refl refl (body_declares_is n) (type_stays n) (next_type m h)

body_move_is : (n : ℕ) (w : Word) → IsNotMark mark.CloseBrace w → body_move n false w ≡ followed (move (Symbol.statement n) w) (Symbol.reduce Reduction.statement_item ∷ Symbol.body n ∷ [])
body_move_is n (word.Mark mark.CloseBrace) h = absurd (h refl)
body_move_is n w h = refl

pub body_opened : (n : ℕ) (m : List Token) → is_type_at m ≡ false → (mark_at m ≡ Some mark.CloseBrace → ⊥) → Same (Symbol.body n ∷ []) (Symbol.statement n ∷ Symbol.reduce Reduction.statement_item ∷ Symbol.body n ∷ []) m m
body_opened n m a b = opens (Symbol.body n) (Symbol.statement n) (Symbol.reduce Reduction.statement_item ∷ Symbol.body n ∷ []) m refl refl
    (λ w h. ap (λ f. body_move n f w) h.0 ∙ body_move_is n w h.1) (statement_stays n) (next_plain mark.CloseBrace m a b)
