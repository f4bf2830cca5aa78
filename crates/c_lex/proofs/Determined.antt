-- A text has one reading.
use Rattle.std.proofs.Common.{⊎_elim, ◌≡◌, ◌⊎◌, inl, inr, ℕ, ◌+◌, Bool, true, List, [], ◌∷◌, ◌++◌, drop, replicate, Option, Some, None, Result, Ok, Err, refl, sym, ap, ◌∙◌, subst}
use Rattle.c_ast.specs.Pieces.{comment_len}
use Rattle.c_ast.specs.Tokens.{bad_byte, open_comment, bad_number, wide_number, bad_directive, redefined, End, whole, broken, Blanked, ends, byte, comment, comment_end, end_or, Defined, Turn, goes, stops, turn, Lexed, stop, piece, first_end, Reads}
use Rattle.c_ast.specs.declared.token.Token.{Token}
use Rattle.c_lex.specs.Refusals.{Says, IsOnly, answer_of, end_by, refusal_by}
use Rattle.c_lex.specs.declared.refusal.Broken.{Broken}
use Rattle.c_lex.specs.declared.refusal.LexRefusal.{LexRefusal}
use Rattle.c_lex.specs.declared.refusal.LexRefusal.TheVariants as refusal

-- ---- comments

some_or_none : {A : Type 0} {P : Type 0} (o : Option A) (a : A) → o ≡ Some a → o ≡ None → P
some_or_none o a has lacks = absurd (cc)

some_injective : {A : Type 0} {a b : A} → Some a ≡ Some b → a ≡ b
some_injective e = cc

no_comment : comment_len [] ≡ None
unfolding comment_len
no_comment = refl

record AfterByte (bytes : List ℕ) (k b : ℕ) (rest u : List ℕ) (f : End) : Type 0 where
  more : List ℕ
  is : u ≡ b ∷ more
  blanked : Blanked bytes (k + 1) rest more f

record AfterComment (bytes : List ℕ) (k n : ℕ) (rest u : List ℕ) (f : End) : Type 0 where
  more : List ℕ
  later : End
  is : u ≡ replicate n 32 ++ more
  ended : f ≡ end_or (comment_end bytes k rest n) later
  blanked : Blanked bytes (k + n) (drop n rest) more later

after_end : (bytes : List ℕ) (k : ℕ) (u : List ℕ) (f : End) → Blanked bytes k [] u f → (u ≡ []) × (f ≡ whole)
after_end bytes k u f (ends l) = (refl, refl)
after_end bytes k u f (comment l n rest text e is d) = some_or_none (comment_len []) n is no_comment

after_byte : (bytes : List ℕ) (k b : ℕ) (rest u : List ℕ) (f : End) → comment_len (b ∷ rest) ≡ None → Blanked bytes k (b ∷ rest) u f → AfterByte bytes k b rest u f
after_byte bytes k b rest u f none (byte l c tail text e is d) = record { more = text; is = refl; blanked = d }
after_byte bytes k b rest u f none (comment l n tail text e is d) = some_or_none (comment_len (b ∷ rest)) n is none

after_comment : (bytes : List ℕ) (k n : ℕ) (rest u : List ℕ) (f : End) → comment_len rest ≡ Some n → Blanked bytes k rest u f → AfterComment bytes k n rest u f
after_comment bytes k n rest u f some (ends l) = some_or_none (comment_len []) n some no_comment
after_comment bytes k n rest u f some (byte l c tail text e is d) = some_or_none (comment_len (c ∷ tail)) n some is
after_comment bytes k n rest u f some (comment l m tail text e is d) =
    let same : m ≡ n = some_injective (sym is ∙ some) in
    subst (λ j. AfterComment bytes k j rest (replicate m 32 ++ text) (end_or (comment_end bytes k rest m) e)) same (record { more = text; later = e; is = refl; ended = refl; blanked = d })

pub one_blanked : (bytes : List ℕ) (k : ℕ) (rest t u : List ℕ) (e f : End) → Blanked bytes k rest t e → Blanked bytes k rest u f → (t ≡ u) × (e ≡ f)
one_blanked bytes k rest t u e f (ends l) d = let r = after_end bytes k u f d in (sym r.0, sym r.1)
one_blanked bytes k rest t u e f (byte l b tail text g is c) d =
    let r = after_byte bytes k b tail u f is d in
    let more = one_blanked bytes (k + 1) tail text r.more e f c r.blanked in
    (ap (λ x. b ∷ x) more.0 ∙ sym r.is, more.1)
one_blanked bytes k rest t u e f (comment l n tail text g is c) d =
    let r = after_comment bytes k n rest u f is d in
    let more = one_blanked bytes (k + n) (drop n rest) text r.more g r.later c r.blanked in
    (ap (λ x. replicate n 32 ++ x) more.0 ∙ sym r.is, ap (end_or (comment_end bytes k rest n)) more.1 ∙ sym r.ended)

-- ---- tokens

record AfterPiece (bytes : List ℕ) (k n : ℕ) (later : Bool) (known : Defined) (text : List ℕ) (ts all : List Token) (f : End) : Type 0 where
  more : List Token
  is : all ≡ ts ++ more
  lexed : Lexed bytes (k + n) later known (drop n text) more f

end_stopped : Turn → End → End
end_stopped (stops e) f = e
end_stopped (goes n later known ts) f = f

abbrev len_gone : Turn → ℕ
len_gone (stops e) = 0
len_gone (goes n later known ts) = n

abbrev first_gone : Turn → Bool
first_gone (stops e) = true
first_gone (goes n later known ts) = later

abbrev known_gone : Turn → Defined
known_gone (stops e) = []
known_gone (goes n later known ts) = known

abbrev more_gone : Turn → List Token
more_gone (stops e) = []
more_gone (goes n later known ts) = ts

goes_or_stops : {P : Type 0} (t : Turn) (n : ℕ) (later : Bool) (known : Defined) (ts : List Token) (e : End) → t ≡ goes n later known ts → t ≡ stops e → P
goes_or_stops t n later known ts e on off = absurd (cc)

after_stop : (bytes : List ℕ) (k : ℕ) (first : Bool) (ds : Defined) (text : List ℕ) (e f : End) (us : List Token) → turn bytes k first ds text ≡ stops e → Lexed bytes k first ds text us f → (us ≡ []) × (f ≡ e)
unfolding end_stopped
after_stop bytes k first ds text e f us is (stop l g es t h eq) = (refl, ap (λ t. end_stopped t e) (sym eq ∙ is))
after_stop bytes k first ds text e f us is (piece l n g later es known t ts vs h eq d) = goes_or_stops (turn bytes k first ds text) n later known ts e eq is

after_piece : (bytes : List ℕ) (k n : ℕ) (first later : Bool) (ds known : Defined) (text : List ℕ) (ts us : List Token) (f : End)
    → turn bytes k first ds text ≡ goes n later known ts → Lexed bytes k first ds text us f → AfterPiece bytes k n later known text ts us f
after_piece bytes k n first later ds known text ts us f is (stop l g es t h eq) = goes_or_stops (turn bytes k first ds text) n later known ts f is eq
after_piece bytes k n first later ds known text ts us f is (piece l m g then_first es then_known t added vs h eq d) =
    let same : goes m then_first then_known added ≡ goes n later known ts = sym eq ∙ is in
    subst (λ t. AfterPiece bytes k (len_gone t) (first_gone t) (known_gone t) text (more_gone t) (added ++ vs) f) same (record { more = vs; is = refl; lexed = d })

pub one_lexed : (bytes : List ℕ) (k : ℕ) (first : Bool) (ds : Defined) (text : List ℕ) (ts us : List Token) (e f : End) → Lexed bytes k first ds text ts e → Lexed bytes k first ds text us f → (ts ≡ us) × (e ≡ f)
one_lexed bytes k first ds text ts us e f (stop l g es t h eq) d = let r = after_stop bytes k first ds text e f us eq d in (sym r.0, sym r.1)
one_lexed bytes k first ds text ts us e f (piece l n g later es known t added vs h eq c) d =
    let r = after_piece bytes k n first later ds known text added us f eq d in
    let more = one_lexed bytes (k + n) later known (drop n text) vs r.more e f c r.lexed in
    (ap (λ x. added ++ x) more.0 ∙ sym r.is, more.1)

-- ---- whole texts

pub one_reading : (bytes : List ℕ) (ts us : List Token) (e f : End) → Reads bytes ts e → Reads bytes us f → (ts ≡ us) × (e ≡ f)
one_reading bytes ts us e f a b =
    let plain = one_blanked bytes 0 bytes a.text b.text a.comments_end b.comments_end a.blanked b.blanked in
    let lexed = one_lexed bytes 0 true [] b.text ts us a.tokens_end b.tokens_end (subst (λ t. Lexed bytes 0 true [] t ts a.tokens_end) plain.0 a.lexed) b.lexed in
    (lexed.0, sym a.ends ∙ ap (λ x. first_end x a.tokens_end) plain.1 ∙ ap (first_end b.comments_end) lexed.1 ∙ b.ends)

record Answers (bytes : List ℕ) (r : Result (List Token) LexRefusal) : Type 0 where
  tokens : List Token
  ended : End
  reads : Reads bytes tokens ended
  is : r ≡ answer_of tokens ended

answers : (bytes : List ℕ) (r : Result (List Token) LexRefusal) → Says bytes r → (r ≡ Err refusal.Memory) ⊎ Answers bytes r
answers bytes (Ok ts) h = inr (record { tokens = ts; ended = whole; reads = h; is = refl })
answers bytes (Err (refusal.BadByte s)) h = inr (record { tokens = h.0; ended = broken bad_byte s; reads = h.1; is = refl })
answers bytes (Err (refusal.OpenComment s)) h = inr (record { tokens = h.0; ended = broken open_comment s; reads = h.1; is = refl })
answers bytes (Err (refusal.BadNumber s)) h = inr (record { tokens = h.0; ended = broken bad_number s; reads = h.1; is = refl })
answers bytes (Err (refusal.WideNumber s)) h = inr (record { tokens = h.0; ended = broken wide_number s; reads = h.1; is = refl })
answers bytes (Err (refusal.Directive s)) h = inr (record { tokens = h.0; ended = broken bad_directive s; reads = h.1; is = refl })
answers bytes (Err (refusal.Redefined s)) h = inr (record { tokens = h.0; ended = broken redefined s; reads = h.1; is = refl })
answers bytes (Err refusal.Memory) h = inl refl

one_answer : (bytes : List ℕ) (r other : Result (List Token) LexRefusal) → Answers bytes r → Answers bytes other → r ≡ other
one_answer bytes r other a b =
    let one = one_reading bytes a.tokens b.tokens a.ended b.ended a.reads b.reads in
    a.is ∙ ap (λ x. answer_of x a.ended) one.0 ∙ ap (answer_of b.tokens) one.1 ∙ sym b.is

pub only : (bytes : List ℕ) (r : Result (List Token) LexRefusal) → Says bytes r → IsOnly bytes r
only bytes r h other some says =
    ⊎_elim (λ memory. inr memory)
    (λ a. ⊎_elim (λ memory. absurd (some memory)) (λ b. inl (one_answer bytes r other a b)) (answers bytes other says))
    (answers bytes r h)

-- what an answer says
pub says_answer : (bytes : List ℕ) (ts : List Token) (e : End) → Reads bytes ts e → Says bytes (answer_of ts e)
says_answer bytes ts whole h = h
says_answer bytes ts (broken bad_byte s) h = (ts, h)
says_answer bytes ts (broken open_comment s) h = (ts, h)
says_answer bytes ts (broken bad_number s) h = (ts, h)
says_answer bytes ts (broken wide_number s) h = (ts, h)
says_answer bytes ts (broken bad_directive s) h = (ts, h)
says_answer bytes ts (broken redefined s) h = (ts, h)

-- tokens of a text whose comments and tokens end so
pub says_ok : (bytes text : List ℕ) (ts : List Token) (e f : End) → Blanked bytes 0 bytes text e → Lexed bytes 0 true [] text ts f → whole ≡ first_end e f → Says bytes (Ok ts)
says_ok bytes text ts e f plain lexed is = record { text = text; comments_end = e; tokens_end = f; blanked = plain; lexed = lexed; ends = sym is }

pub says_err : (bytes text : List ℕ) (ts : List Token) (e f : End) (b : Broken) (r : LexRefusal) → Blanked bytes 0 bytes text e → Lexed bytes 0 true [] text ts f → end_by b ≡ first_end e f → r ≡ refusal_by b → Says bytes (Err r)
says_err bytes text ts e f b r plain lexed is by_b =
    subst (λ x. Says bytes (Err x)) (sym by_b)
    (says_answer bytes ts (end_by b) (record { text = text; comments_end = e; tokens_end = f; blanked = plain; lexed = lexed; ends = sym is }))
