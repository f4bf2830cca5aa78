-- The delays of a LIST are those of the texts between its commas.
use Rattle.std.proofs.Common.{◌≡◌, ◌≢◌, ℕ, zero, suc, ◌+◌, ◌<◌, ◌≤◌, List, [], ◌∷◌, ◌++◌, map, length, take, get_or, Contains, All, refl, sym, ◌∙◌, ap, ap₂, subst, arith, append_assoc}
use Rattle.std.specs.Prelude.{◌==◌, false, find, Option, Some}
use Rattle.std.specs.Borrow.{Bor}
use Rattle.std.specs.Char.{digit_value}
use Rattle.std.specs.List.{before_first, after_first, join_with_byte}
use Rattle.std.specs.Str.{bytes_eq}
use Rattle.std.specs.Str.Parse.{AllDigits, digits_value}
use Rattle.std.proofs.lemmas.Bool.Decides.{nat_tests}
use Rattle.std.proofs.lemmas.List.{take_more, map-append}
use Rattle.std.proofs.lemmas.List.Elements.{All-append, All-cons, All-nil, All-head, All-tail, All-from_recursion}
use Rattle.std.proofs.lemmas.List.Splits.{slice_split_none, slice_split_at, length-slice_split, join_with_byte-slice_split}
use Rattle.el_base.specs.Limits.{max_delay}
use Rattle.command_words.specs.declared.choice.Class.{Class}
use Rattle.command_words.specs.declared.choice.Class.TheVariants as class
use Rattle.command_words.specs.declared.choice.ClassDelay.{ClassDelay}
use Rattle.command_words.specs.Tables.{Text, class_word, least_delay}
use Rattle.command_words.specs.Values.{IsNumeral, AreSpelled, last, more, AreDelays}
use Rattle.command_words.specs.Commands.{word_texts}
use Rattle.command_words.specs.Steps.{parts, IsDelay, AreEach, AreOfApart}

-- ---- one delay

abbrev classes : List Class
classes = class.Logic ∷ class.Mul ∷ class.Div ∷ class.Read ∷ class.Lsq ∷ []

abbrev class_named : Text → Option Class
class_named w = find (λ c. bytes_eq (class_word c) w) classes

abbrev class_before : Text → Option Class
class_before part = class_named (before_first (λ b. b == 61) part)

class_before-word : (c : Class) (v : Text) → class_before (class_word c ++ (61 ∷ v)) ≡ Some c
class_before-word class.Logic v = refl
class_before-word class.Mul v = refl
class_before-word class.Div v = refl
class_before-word class.Read v = refl
class_before-word class.Lsq v = refl

after_first-word : (c : Class) (v : Text) → after_first (λ b. b == 61) (class_word c ++ (61 ∷ v)) ≡ v
after_first-word class.Logic v = refl
after_first-word class.Mul v = refl
after_first-word class.Div v = refl
after_first-word class.Read v = refl
after_first-word class.Lsq v = refl

some_is : {X : Type 0} (x y : X) → ◌≡◌ {A = Option X} (Some x) (Some y) → x ≡ y
some_is x y e = cc

pub one_class : (c d : Class) (v w : Text) → class_word c ++ (61 ∷ v) ≡ class_word d ++ (61 ∷ w) → (c ≡ d) × (v ≡ w)
one_class c d v w e = (
  some_is c d (sym (class_before-word c v) ∙ ap class_before e ∙ class_before-word d w),
  sym (after_first-word c v) ∙ ap (after_first (λ b. b == 61)) e ∙ after_first-word d w,
)

delay_is : (d e : ClassDelay) → d.class ≡ e.class → d.cycles ≡ e.cycles → d ≡ e
delay_is d e cs ns = ap (λ c. let r : ClassDelay = record { class = c; cycles = d.cycles } in r) cs ∙ ap (λ n. let r : ClassDelay = record { class = e.class; cycles = n } in r) ns

delay_once : (part : Text) (d e : ClassDelay) → IsDelay part d → IsDelay part e → d ≡ e
delay_once part d e x y =
    let one = one_class d.class e.class x.digits y.digits (sym x.spelled ∙ y.spelled) in
    delay_is d e one.0 (x.number.value ∙ ap (digits_value 10) one.1 ∙ sym y.number.value)

-- ---- a list of them

pub each_once : (ps : List Text) (ds es : List ClassDelay) → AreEach ps ds → AreEach ps es → ds ≡ es
each_once [] [] [] x y = refl
each_once [] [] (e ∷ es) x y = absurd y
each_once [] (d ∷ ds) es x y = absurd x
each_once (p ∷ ps) [] es x y = absurd x
each_once (p ∷ ps) (d ∷ ds) [] x y = absurd y
each_once (p ∷ ps) (d ∷ ds) (e ∷ es) x y = ap₂ (λ a as'. a ∷ as') (delay_once p d e x.0 y.0) (each_once ps ds es x.1 y.1)

each_push : (ps : List Text) (ds : List ClassDelay) (p : Text) (d : ClassDelay) → AreEach ps ds → IsDelay p d → AreEach (ps ++ p ∷ []) (ds ++ d ∷ [])
each_push [] [] p d x y = (y, tt)
each_push [] (e ∷ ds) p d x y = absurd x
each_push (q ∷ ps) [] p d x y = absurd x
each_push (q ∷ ps) (e ∷ ds) p d x y = (x.0, each_push ps ds p d x.1 y)

pub each_more : (i : ℕ) (ws : List (Bor Text)) (w : Bor Text) (ds : List ClassDelay) (d : ClassDelay) → i < length ws → w ≡ get_or ws i w → AreEach (word_texts (take i ws)) ds → IsDelay w.now d
    → AreEach (word_texts (take (i + 1) ws)) (ds ++ d ∷ [])
each_more i ws w ds d within is x y =
    let one : word_texts (take (i + 1) ws) ≡ word_texts (take i ws) ++ w.now ∷ [] = ap word_texts (take_more ws i w within ∙ ap (λ v. take i ws ++ v ∷ []) (sym is)) ∙ map-append (λ (v : Bor Text). v.now) (take i ws) (w ∷ []) in
    subst (λ ps. AreEach ps (ds ++ d ∷ [])) (sym one) (each_push (word_texts (take i ws)) ds w.now d x y)

-- where a text is no delay there is none for each
pub none_for : (i : ℕ) (ws : List (Bor Text)) (w : Bor Text) (ds : List ClassDelay) → i < length ws → w ≡ get_or ws i w → ((d : ClassDelay) → IsDelay w.now d → ⊥) → AreEach (word_texts ws) ds → ⊥
none_for i [] w ds within is none x = absurd (omega (arith, within))
none_for i (v ∷ ws) w [] within is none x = absurd x
none_for zero (v ∷ ws) w (d ∷ ds) within is none x = none d (subst (λ (u : Bor Text). IsDelay u.now d) (sym is) x.0)
none_for (suc i) (v ∷ ws) w (d ∷ ds) within is none x = none_for i ws w ds (omega (arith, within)) is none x.1

pub not_among : (ds : List ClassDelay) (c : Class) → ((k : ℕ) (d : ClassDelay) → k < length ds → (get_or ds k d).class ≢ c) → Contains (map (λ (d : ClassDelay). d.class) ds) c → ⊥
not_among [] c none (k, within, is) = absurd (omega (arith, within))
not_among (d ∷ ds) c none (zero, within, is) = none 0 d (omega arith) is
not_among (d ∷ ds) c none (suc k, within, is) = not_among ds c (λ j e lt. none (suc j) e (omega (arith, lt))) (k, omega (arith, within), is)

-- ---- no comma stands in a delay

abbrev Free : Text → Type 0
Free text = All (λ b. (b == 44) ≡ false) text

class_free : (c : Class) → Free (class_word c)
class_free class.Logic = All-from_recursion (λ b. (b == 44) ≡ false) (class_word class.Logic) (refl, (refl, (refl, (refl, (refl, tt)))))
class_free class.Mul = All-from_recursion (λ b. (b == 44) ≡ false) (class_word class.Mul) (refl, (refl, (refl, tt)))
class_free class.Div = All-from_recursion (λ b. (b == 44) ≡ false) (class_word class.Div) (refl, (refl, (refl, tt)))
class_free class.Read = All-from_recursion (λ b. (b == 44) ≡ false) (class_word class.Read) (refl, (refl, (refl, (refl, tt))))
class_free class.Lsq = All-from_recursion (λ b. (b == 44) ≡ false) (class_word class.Lsq) (refl, (refl, (refl, tt)))

differs : (b : ℕ) → b ≢ 44 → (b == 44) ≡ false
differs b ne = grind (arith, nat_tests)

digit_free : (b : ℕ) → digit_value b < 10 → (b == 44) ≡ false
digit_free b h = differs b (λ e. let no : digit_value 44 < 10 = subst (λ x. digit_value x < 10) e h in absurd (omega (arith, no)))

digits_free : (ds : Text) → AllDigits 10 ds → Free ds
digits_free [] h = All-nil (λ b. (b == 44) ≡ false)
digits_free (b ∷ ds) h = All-cons (λ b. (b == 44) ≡ false) b ds (digit_free b h.0) (digits_free ds h.1)

part_free : (c : Class) (digits : Text) (n : ℕ) → IsNumeral digits n → Free (class_word c ++ (61 ∷ digits))
part_free c digits n num = All-append (λ b. (b == 44) ≡ false) (class_word c) (61 ∷ digits) (class_free c) (All-cons (λ b. (b == 44) ≡ false) 61 digits refl (digits_free digits num.digits.1))

-- ---- between a LIST and the texts between its commas

abbrev IsBound : ClassDelay → Type 0
IsBound d = (least_delay d.class ≤ d.cycles) × (d.cycles ≤ max_delay)

each_of : (text : Text) (ds : List ClassDelay) → AreSpelled text ds → All IsBound ds → AreEach (parts text) ds
each_of text ds (last {d} {digits} num e) bounds =
    let b = All-head IsBound d [] bounds in
    let cut : parts text ≡ (class_word d.class ++ (61 ∷ digits)) ∷ [] = ap parts e ∙ slice_split_none (λ b. b == 44) (class_word d.class ++ (61 ∷ digits)) (part_free d.class digits d.cycles num) in
    subst (λ ps. AreEach ps (d ∷ [])) (sym cut) (record { digits = digits; number = num; spelled = refl; least = b.0; most = b.1 }, tt)
each_of text ds (more {d} {ds = es} {digits} {rest} num e t) bounds =
    let b = All-head IsBound d es bounds in
    let part = class_word d.class ++ (61 ∷ digits) in
    let whole : text ≡ part ++ 44 ∷ rest = e ∙ sym (append_assoc (class_word d.class) (61 ∷ digits) (44 ∷ rest)) in
    let cut : parts text ≡ part ∷ parts rest = ap parts whole ∙ slice_split_at (λ b. b == 44) part 44 rest (part_free d.class digits d.cycles num) refl in
    subst (λ ps. AreEach ps (d ∷ es)) (sym cut) (record { digits = digits; number = num; spelled = refl; least = b.0; most = b.1 }, each_of rest es t (All-tail IsBound d es bounds))

spelled_of : (ps : List Text) (ds : List ClassDelay) → 0 < length ps → AreEach ps ds → AreSpelled (join_with_byte 44 ps) ds
spelled_of [] ds some x = absurd (omega (arith, some))
spelled_of (p ∷ []) [] some x = absurd x
spelled_of (p ∷ []) (d ∷ []) some x = last x.0.number x.0.spelled
spelled_of (p ∷ []) (d ∷ e ∷ ds) some x = absurd x.1
spelled_of (p ∷ q ∷ ps) [] some x = absurd x
spelled_of (p ∷ q ∷ ps) (d ∷ ds) some x =
    let rest = join_with_byte 44 (q ∷ ps) in
    more x.0.number (ap (λ t. t ++ 44 ∷ rest) x.0.spelled ∙ append_assoc (class_word d.class) (61 ∷ x.0.digits) (44 ∷ rest)) (spelled_of (q ∷ ps) ds (omega arith) x.1)

bounds_of : (ps : List Text) (ds : List ClassDelay) → AreEach ps ds → All IsBound ds
bounds_of [] [] x = All-nil IsBound
bounds_of [] (d ∷ ds) x = absurd x
bounds_of (p ∷ ps) [] x = absurd x
bounds_of (p ∷ ps) (d ∷ ds) x = All-cons IsBound d ds (x.0.least, x.0.most) (bounds_of ps ds x.1)

pub delays_from : (text : Text) (ds : List ClassDelay) → AreEach (parts text) ds → AreOfApart ds → AreDelays text ds
delays_from text ds x apart =
    let some : 0 < length (parts text) = omega (arith, length-slice_split (λ b. b == 44) text) in
    record { spelled = subst (λ t. AreSpelled t ds) (join_with_byte-slice_split 44 text) (spelled_of (parts text) ds some x); apart = apart; bounds = bounds_of (parts text) ds x }

pub each_from : (text : Text) (ds : List ClassDelay) → AreDelays text ds → AreEach (parts text) ds
each_from text ds x = each_of text ds x.spelled x.bounds

pub delays_once : (text : Text) (ds es : List ClassDelay) → AreDelays text ds → AreDelays text es → ds ≡ es
delays_once text ds es x y = each_once (parts text) ds es (each_from text ds x) (each_from text es y)

pub apart_or_not : (text : Text) (ds es : List ClassDelay) → AreEach (parts text) ds → AreDelays text es → AreOfApart ds
apart_or_not text ds es x y = subst AreOfApart (each_once (parts text) es ds (each_from text es y) x) y.apart
