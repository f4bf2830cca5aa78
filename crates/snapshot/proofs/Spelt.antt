-- What is spelt by one text alone: numbers, fields and lines of words.
use Rattle.std.proofs.Common.{◌≡◌, ◌≢◌, ℕ, ◌<◌, ◌^◌, ◌==◌, ℤ, pos, negsuc, ◌-ℤ◌, ◌≤ℤ◌, unsigned_abs, Bool, true, false, Option, Some, None, List, [], ◌∷◌, map, length, drop, get_or, codes, decimal, refl, sym, ap, ◌∙◌, arith, lit<}
use Rattle.std.specs.Fmt.{signed_decimal}
use Rattle.std.specs.List.{All, slice_split, join_with_byte}
use Rattle.std.proofs.lemmas.Bool.{false≢true}
use Rattle.std.proofs.lemmas.Fmt.{decimal_injective}
use Rattle.std.proofs.lemmas.Int.{ints}
use Rattle.std.proofs.lemmas.List.{append-nil, append_cancel_left, map-id}
use Rattle.std.proofs.lemmas.List.Elements.{All-nil, All-head, All-tail}
use Rattle.el_base.specs.declared.digits.Number.{Number}
use Rattle.el_base.specs.declared.ty.Ty.{Ty}
use Rattle.el_base.specs.declared.ty.Ty.TheVariants.{I8, U8, I16, U16, I32, U32, I64, U64}
use Rattle.el_base.specs.Digits.{number_at}
use Rattle.el_base.specs.Numbers.{number, pattern}
use Rattle.el_base.specs.Widths.{ty_width}
use Rattle.el_base.proofs.PatternLemmas.{pattern-number, IsInRange-number}
use Rattle.el_base.proofs.ReadLemmas.{reads_back}
use Rattle.net_types.specs.Inputs.{IsPatternOf}
use Rattle.net_text.specs.Reads.{lacks}
use Rattle.net_text.proofs.Cuts.{decimal_lacks}
use Rattle.net_text.proofs.GroupTexts.{lacks-cons, lacks-append}
use Rattle.net_text.proofs.Lists.{split_map}
use Rattle.net_text.proofs.Texts.{all-cons}
use Rattle.inputs_text.specs.Results.{written}
use Rattle.snapshot.specs.Texts.{words, maybe, digit}
use Rattle.snapshot.specs.private.Words.{AreWords}

-- ---- numbers

abs_signed : (z : ℤ) → (pos 0 -ℤ pos (2 ^ 63)) ≤ℤ z → z ≤ℤ (pos (2 ^ 63) -ℤ pos 1) → unsigned_abs z < 2 ^ 64
abs_signed (pos n) a b = omega (arith, ints)
abs_signed (negsuc n) a b = omega (arith, ints)

-- a pattern's number is below 2 ^ 64 in magnitude
pub number_small : (ty : Ty) (p : ℕ) → p < 2 ^ ty_width ty → unsigned_abs (number ty p) < 2 ^ 64
number_small I8 p h = let r = IsInRange-number I8 p h in let a = r.above in let b = r.below in abs_signed (number I8 p) (omega (arith, ints)) (omega (arith, ints))
number_small I16 p h = let r = IsInRange-number I16 p h in let a = r.above in let b = r.below in abs_signed (number I16 p) (omega (arith, ints)) (omega (arith, ints))
number_small I32 p h = let r = IsInRange-number I32 p h in let a = r.above in let b = r.below in abs_signed (number I32 p) (omega (arith, ints)) (omega (arith, ints))
number_small I64 p h = let r = IsInRange-number I64 p h in abs_signed (number I64 p) r.above r.below
number_small U8 p h = omega arith
number_small U16 p h = omega arith
number_small U32 p h = omega arith
number_small U64 p h = omega arith

-- a number as it is written is read as itself
pub number_reads : (z : ℤ) → unsigned_abs z < 2 ^ 64 → number_at (signed_decimal z) 0 ≡ Some (record { value = z; end = length (signed_decimal z); canonical = true })
number_reads z small =
    ap (λ l. number_at l 0) (sym (append-nil (signed_decimal z))) ∙ reads_back z [] [] small refl
    ∙ ap (λ k. Some (record { value = z; end = k; canonical = true })) (omega arith)

abbrev number_value : Option Number → ℤ
number_value None = pos 0
number_value (Some n) = n.value

pub written_same : (ty : Ty) (p q : ℕ) → IsPatternOf ty p → IsPatternOf ty q → written ty p ≡ written ty q → p ≡ q
written_same ty p q a b e =
    let z : number ty p ≡ number ty q =
    ap number_value (sym (number_reads (number ty p) (number_small ty p a)) ∙ ap (λ l. number_at l 0) e ∙ number_reads (number ty q) (number_small ty q b)) in
    sym (pattern-number ty p a) ∙ ap (pattern ty) z ∙ pattern-number ty q b

-- ---- separators

signed_lacks : (c : ℕ) (z : ℤ) → c < 45 → unsigned_abs z < 2 ^ 64 → lacks c (signed_decimal z) ≡ true
signed_lacks c (pos n) low small = decimal_lacks c n (omega arith) small
signed_lacks c (negsuc n) low small = lacks-cons c 45 _ (λ e. omega arith) (decimal_lacks c _ (omega arith) (omega arith))

pub written_lacks : (c : ℕ) (ty : Ty) (p : ℕ) → c < 45 → IsPatternOf ty p → lacks c (written ty p) ≡ true
written_lacks c ty p low h = signed_lacks c (number ty p) low (number_small ty p h)

pub LackAll : ℕ → List (List ℕ) → Type 0
LackAll c ws = All (λ w. lacks c w ≡ true) ws

pub lack_more : (c : ℕ) (w : List ℕ) (ws : List (List ℕ)) → lacks c w ≡ true → LackAll c ws → LackAll c (w ∷ ws)
unfolding LackAll
lack_more c w ws a b = all-cons (λ w. lacks c w ≡ true) w ws a b

pub lack_none : (c : ℕ) → LackAll c []
unfolding LackAll
lack_none c = All-nil (λ w. lacks c w ≡ true)

pub lack_map : {V : Type 0} (c : ℕ) (Fits : V → Type 0) (f : V → List ℕ) → ((v : V) → Fits v → lacks c (f v) ≡ true) → (vs : List V) → All Fits vs → LackAll c (map f vs)
lack_map c Fits f each [] h = lack_none c
lack_map c Fits f each (v ∷ vs) h = lack_more c (f v) (map f vs) (each v (All-head Fits v vs h)) (lack_map c Fits f each vs (All-tail Fits v vs h))

-- a line of words lacks what they lack, but for spaces
pub words_lack : (c : ℕ) → 32 ≢ c → (w : List ℕ) (ws : List (List ℕ)) → LackAll c (w ∷ ws) → lacks c (words (w ∷ ws)) ≡ true
unfolding LackAll
words_lack c other w [] h = All-head (λ w. lacks c w ≡ true) w [] h
words_lack c other w (v ∷ vs) h =
    lacks-append c w (32 ∷ words (v ∷ vs)) (All-head (λ w. lacks c w ≡ true) w (v ∷ vs) h) (lacks-cons c 32 (words (v ∷ vs)) other (words_lack c other v vs (All-tail (λ w. lacks c w ≡ true) w (v ∷ vs) h)))

-- a line is cut into its words
split_words : (w : List ℕ) (ws : List (List ℕ)) → LackAll 32 (w ∷ ws) → slice_split (λ b. b == 32) (words (w ∷ ws)) ≡ w ∷ ws
unfolding LackAll
split_words w ws h =
    ap (λ l. slice_split (λ b. b == 32) (join_with_byte 32 l)) (sym (map-id (w ∷ ws)))
    ∙ split_map (λ w. lacks 32 w ≡ true) 32 (λ w. w) (λ y f. f) w ws h ∙ map-id (w ∷ ws)

pub same_words : (w : List ℕ) (vs ws : List (List ℕ)) → LackAll 32 (w ∷ vs) → AreWords ws → words (w ∷ vs) ≡ words ws → w ∷ vs ≡ ws
same_words w vs ws h a e = sym (split_words w vs h) ∙ ap (slice_split (λ b. b == 32)) e ∙ sym a

-- lines of words are the same where their words are
pub one_words : (v w : List ℕ) (vs ws : List (List ℕ)) → LackAll 32 (v ∷ vs) → LackAll 32 (w ∷ ws) → words (v ∷ vs) ≡ words (w ∷ ws) → v ∷ vs ≡ w ∷ ws
one_words v w vs ws h k e = same_words v vs (w ∷ ws) h (sym (split_words w ws k)) e

-- a word that both begin with aside
pub after_word : (v : List ℕ) (w u : List ℕ) (ws us : List (List ℕ)) → words (v ∷ w ∷ ws) ≡ words (v ∷ u ∷ us) → words (w ∷ ws) ≡ words (u ∷ us)
after_word v w u ws us e = ap (drop 1) (append_cancel_left v (32 ∷ words (w ∷ ws)) (32 ∷ words (u ∷ us)) e)

-- ---- fields

pub decimals_same : (ms ns : List ℕ) → All (λ n. n < 2 ^ 64) ms → All (λ n. n < 2 ^ 64) ns → map decimal ms ≡ map decimal ns → ms ≡ ns
decimals_same [] [] a b e = refl
decimals_same [] (n ∷ ns) a b e = absurd (let z = ap length e in omega arith)
decimals_same (m ∷ ms) [] a b e = absurd (let z = ap length e in omega arith)
decimals_same (m ∷ ms) (n ∷ ns) a b e =
    let x = decimal_injective m n (All-head (λ n. n < 2 ^ 64) m ms a) (All-head (λ n. n < 2 ^ 64) n ns b) (ap (λ l. get_or l 0 []) e) in
    let y = decimals_same ms ns (All-tail (λ n. n < 2 ^ 64) m ms a) (All-tail (λ n. n < 2 ^ 64) n ns b) (ap (drop 1) e) in
    λ i. x i ∷ y i

pub writtens_same : (ty : Ty) (ms ns : List ℕ) → All (IsPatternOf ty) ms → All (IsPatternOf ty) ns → map (written ty) ms ≡ map (written ty) ns → ms ≡ ns
writtens_same ty [] [] a b e = refl
writtens_same ty [] (n ∷ ns) a b e = absurd (let z = ap length e in omega arith)
writtens_same ty (m ∷ ms) [] a b e = absurd (let z = ap length e in omega arith)
writtens_same ty (m ∷ ms) (n ∷ ns) a b e =
    let x = written_same ty m n (All-head (IsPatternOf ty) m ms a) (All-head (IsPatternOf ty) n ns b) (ap (λ l. get_or l 0 []) e) in
    let y = writtens_same ty ms ns (All-tail (IsPatternOf ty) m ms a) (All-tail (IsPatternOf ty) n ns b) (ap (drop 1) e) in
    λ i. x i ∷ y i

dash_is_none : (n : ℕ) → n < 2 ^ 64 → decimal n ≡ codes "-" → ⊥
dash_is_none n small e = false≢true (sym (ap (lacks 45) e) ∙ decimal_lacks 45 n (lit< tt) small)

abbrev pub MaybeSmall : Option ℕ → Type 0
MaybeSmall None = Unit {0}
MaybeSmall (Some v) = v < 2 ^ 64

pub maybe_same : (o p : Option ℕ) → MaybeSmall o → MaybeSmall p → maybe o ≡ maybe p → o ≡ p
maybe_same None None a b e = refl
maybe_same None (Some v) a b e = absurd (dash_is_none v b (sym e))
maybe_same (Some v) None a b e = absurd (dash_is_none v a e)
maybe_same (Some v) (Some w) a b e = ap Some (decimal_injective v w a b e)

pub digit_same : (b c : Bool) → digit b ≡ digit c → b ≡ c
digit_same true true e = refl
digit_same false false e = refl
digit_same true false e = absurd (let z = ap (λ l. get_or l 0 0) e in omega arith)
digit_same false true e = absurd (let z = ap (λ l. get_or l 0 0) e in omega arith)

pub maybe_lacks : (c : ℕ) (o : Option ℕ) → c < 45 → MaybeSmall o → lacks c (maybe o) ≡ true
maybe_lacks c None low a = lacks-cons c 45 [] (λ e. omega arith) refl
maybe_lacks c (Some v) low a = decimal_lacks c v (omega arith) a

pub digit_lacks : (c : ℕ) (b : Bool) → c < 45 → lacks c (digit b) ≡ true
digit_lacks c true low = lacks-cons c 49 [] (λ e. omega arith) refl
digit_lacks c false low = lacks-cons c 48 [] (λ e. omega arith) refl
