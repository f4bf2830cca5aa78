-- What one word adds to the items.
use Rattle.std.proofs.Common.{◌≡◌, ◌≢◌, ℕ, suc, ◌+◌, ◌<◌, List, [], ◌∷◌, ◌++◌, map, length, take, drop, get_or, ◌-◌, refl, sym, ◌∙◌, ap, ap₂, subst, arith, append_assoc, append-nil, add-one, inl, inr, ◌⊎◌, ◌≤◌}
use Rattle.std.specs.Prelude.{false, IsTrue, string_bytes}
use Rattle.std.specs.declared.string.String.{String}
use Rattle.std.specs.declared.alloc.Global.{Global}
use Rattle.std.proofs.Math.Seq.{drop-cons, take-length}
use Rattle.std.proofs.lemmas.List.{drop-map, drop_all, length-drop}
use Rattle.std.proofs.lemmas.Bool.{false≢true}
use Rattle.command_words.specs.declared.verb.Verb.{Verb}
use Rattle.command_words.specs.declared.choice.Choice.{Choice}
use Rattle.command_words.specs.declared.choice.ValueKind.{ValueKind}
use Rattle.command_words.specs.declared.choice.ValueKind.TheVariants.{Flag, Number, Delays}
use Rattle.command_words.specs.declared.items.State.{State}
use Rattle.command_words.specs.declared.items.State.TheVariants as state
use Rattle.command_words.specs.Tables.{Text, choice_word, kind_of, is_own}
use Rattle.command_words.specs.Items.{Item, plain, option, IsPlain, end_word, Begins, word, alone, apart, joined, AreWritten, done, more, ended}
use Rattle.command_words.specs.Steps.{IsUnknown, HasRest, Moves, Reads}
use Rattle.command_words.specs.Commands.{texts}
use Rattle.command_words.proofs.Fronts.{at, nothing, kind, single, has, ends, free, kind-plain, kind-word, kind-joined, single_front, has_front, begins_once, ends_options, use_front, value_front}

plain_not_end : (w : Text) → IsPlain w → w ≡ end_word → ⊥
plain_not_end w p e = let f : free ≡ ends = sym (kind-plain w p) ∙ ap kind e in cc

word_not_end : (o : Choice) → choice_word o ≡ end_word → ⊥
word_not_end o e = let f : single o ≡ ends = sym (kind-word o) ∙ ap kind e in cc

value_not_end : (o : Choice) (v : Text) → choice_word o ++ (61 ∷ v) ≡ end_word → ⊥
value_not_end o v e = let f : has o v ≡ ends = sym (kind-joined o v) ∙ ap kind e in cc

-- the first of some words: it begins an item, or ends the options
pub data First (verb : Verb) (w : Text) (ws : List Text) : List Item → Type 0 where
  begun : {i : Item} {is : List Item} {rest : List Text} → Begins verb (w ∷ ws) rest i → AreWritten verb is rest → First verb w ws (i ∷ is)
  stopped : {is : List Item} → w ≡ end_word → is ≡ map plain ws → First verb w ws is

pub first : (verb : Verb) (is : List Item) (words : List Text) (w : Text) (ws : List Text) → AreWritten verb is words → words ≡ w ∷ ws → First verb w ws is
first verb is words w ws done e = cc
first verb is words w ws (more {i} {is = js} {rest} b t) e = begun (subst (λ x. Begins verb x rest i) e b) t
first verb is words w ws (ended {rest} e' f) e =
    let a : w ≡ end_word = cc in
    let b : rest ≡ ws = cc in
    stopped a (f ∙ ap (map plain) b)

ends_of : (verb : Verb) (w : Text) (is : List Item) (ws : List Text) → w ≡ end_word → First verb w ws is → HasRest verb state.Ended [] is ws
ends_of verb w is ws e (begun {i} {rest} b t) = absurd (ends_options verb (w ∷ ws) ws rest i (ap (λ x. x ∷ ws) e) b)
ends_of verb w is ws e (stopped e' f) = record { rest = is; split = refl; on = f }

pub moves_end : (verb : Verb) (w : Text) → w ≡ end_word → Moves verb state.Open w [] state.Ended
moves_end verb w e = record {
  sound = λ is ws h. ended (ap (λ x. x ∷ ws) e) h;
  complete = λ is ws t. ends_of verb w is ws e (first verb is (w ∷ ws) w ws t refl);
}

-- a word that is an item by itself
item_of_first : (verb : Verb) (w : Text) (i : Item) (is : List Item) (ws : List Text) → Begins verb (w ∷ ws) ws i → (w ≡ end_word → ⊥) → First verb w ws is
    → HasRest verb state.Open (i ∷ []) is ws
item_of_first verb w i is ws own not_end (begun {i = j} {is = js} {rest} b t) =
    let same = begins_once verb (w ∷ ws) rest ws j i b own in
    record { rest = js; split = ap (λ x. x ∷ js) same.item; on = subst (AreWritten verb js) same.after t }
item_of_first verb w i is ws own not_end (stopped e f) = absurd (not_end e)

moves_item : (verb : Verb) (w : Text) (i : Item) → ((ws : List Text) → Begins verb (w ∷ ws) ws i) → (w ≡ end_word → ⊥)
    → Moves verb state.Open w (i ∷ []) state.Open
moves_item verb w i own not_end = record {
  sound = λ is ws t. more (own ws) t;
  complete = λ is ws t. item_of_first verb w i is ws (own ws) not_end (first verb is (w ∷ ws) w ws t refl);
}

pub moves_plain : (verb : Verb) (w : Text) → IsPlain w → Moves verb state.Open w (plain w ∷ []) state.Open
moves_plain verb w p = moves_item verb w (plain w) (λ ws. word p refl) (plain_not_end w p)

pub moves_flag : (verb : Verb) (w : Text) (o : Choice) → w ≡ choice_word o → IsTrue (is_own verb o) → kind_of o ≡ Flag
    → Moves verb state.Open w (option o [] ∷ []) state.Open
moves_flag verb w o e own f =
    moves_item verb w (option o []) (λ ws. alone own f (ap (λ x. x ∷ ws) e)) (λ is_end. word_not_end o (sym e ∙ is_end))

pub moves_joined : (verb : Verb) (w : Text) (o : Choice) (v : Text) → w ≡ choice_word o ++ (61 ∷ v) → IsTrue (is_own verb o) → kind_of o ≢ Flag
    → Moves verb state.Open w (option o v ∷ []) state.Open
moves_joined verb w o v e own f =
    moves_item verb w (option o v) (λ ws. joined own f (ap (λ x. x ∷ ws) e)) (λ is_end. value_not_end o v (sym e ∙ is_end))

-- ---- an option that waits for its value

record Takes (o : Choice) (ws rest : List Text) (i : Item) : Type 0 where
  pub value : Text
  pub split : ws ≡ value ∷ rest
  pub item : i ≡ option o value

takes : (k : ValueKind) (o : Choice) (ws rest : List Text) (i : Item) → k ≢ Flag → single_front k o ws ≡ at i rest → Takes o ws rest i
takes Flag o ws rest i ne e = absurd (ne refl)
takes (Number low high) o [] rest i ne e = cc
takes (Number low high) o (v ∷ vs) rest i ne e = record { value = v; split = cc; item = cc }
takes Delays o [] rest i ne e = cc
takes Delays o (v ∷ vs) rest i ne e = record { value = v; split = cc; item = cc }

waits_of_first : (verb : Verb) (w : Text) (o : Choice) (is : List Item) (ws : List Text) → w ≡ choice_word o → kind_of o ≢ Flag → First verb w ws is
    → HasRest verb (state.Waits o) [] is ws
waits_of_first verb w o is ws e ne (begun {i} {is = js} {rest} b t) =
    let front = takes (kind_of o) o ws rest i ne (use_front verb o ws rest i (subst (λ x. Begins verb (x ∷ ws) rest i) e b)) in
    record {
      rest = is;
      split = refl;
      on = record { value = front.value; rest = rest; items = js; first = front.split; begun = ap (λ x. x ∷ js) front.item; after = t };
    }
waits_of_first verb w o is ws e ne (stopped is_end f) = absurd (word_not_end o (sym e ∙ is_end))

pub moves_waits : (verb : Verb) (w : Text) (o : Choice) → w ≡ choice_word o → IsTrue (is_own verb o) → kind_of o ≢ Flag
    → Moves verb state.Open w [] (state.Waits o)
moves_waits verb w o e own ne = record {
  sound = λ is ws h. subst (λ x. AreWritten verb x (w ∷ ws)) (sym h.begun) (more (apart own ne (ap₂ (λ x xs. x ∷ xs) e h.first)) h.after);
  complete = λ is ws t. waits_of_first verb w o is ws e ne (first verb is (w ∷ ws) w ws t refl);
}

-- ---- words that begin nothing

IsOwnItem : Verb → Item → Type 0
IsOwnItem verb (plain w) = Unit {0}
IsOwnItem verb (option o v) = IsTrue (is_own verb o)

own_of : (verb : Verb) (words rest : List Text) (i : Item) → Begins verb words rest i → IsOwnItem verb i
unfolding IsOwnItem
own_of verb words rest i (word p e) = tt
own_of verb words rest i (alone own f e) = own
own_of verb words rest i (apart own f e) = own
own_of verb words rest i (joined own f e) = own

record IsOf (o : Choice) (i : Item) : Type 0 where
  pub value : Text
  pub item : i ≡ option o value

of_single : (k : ValueKind) (o : Choice) (ws rest : List Text) (i : Item) → single_front k o ws ≡ at i rest → IsOf o i
of_single Flag o ws rest i e = record { value = []; item = cc }
of_single (Number low high) o [] rest i e = cc
of_single (Number low high) o (v ∷ vs) rest i e = record { value = v; item = cc }
of_single Delays o [] rest i e = cc
of_single Delays o (v ∷ vs) rest i e = record { value = v; item = cc }

of_has : (k : ValueKind) (o : Choice) (v : Text) (ws rest : List Text) (i : Item) → has_front k o v ws ≡ at i rest → IsOf o i
of_has Flag o v ws rest i e = cc
of_has (Number low high) o v ws rest i e = record { value = v; item = cc }
of_has Delays o v ws rest i e = record { value = v; item = cc }

not_of : (verb : Verb) (o : Choice) (i : Item) (words rest : List Text) → is_own verb o ≡ false → IsOf o i → Begins verb words rest i → ⊥
unfolding IsOwnItem
not_of verb o i words rest foreign is b =
    let own : IsTrue (is_own verb o) = subst (IsOwnItem verb) is.item (own_of verb words rest i b) in
    false≢true (sym foreign ∙ own)

foreign_word_first : (verb : Verb) (o : Choice) (is : List Item) (ws : List Text) → is_own verb o ≡ false → First verb (choice_word o) ws is → ⊥
foreign_word_first verb o is ws foreign (begun {i} {rest} b t) =
    not_of verb o i (choice_word o ∷ ws) rest foreign (of_single (kind_of o) o ws rest i (use_front verb o ws rest i b)) b
foreign_word_first verb o is ws foreign (stopped e f) = word_not_end o e

-- the word of an option that the command has not
pub foreign_word : (verb : Verb) (w : Text) (o : Choice) → w ≡ choice_word o → is_own verb o ≡ false → (is : List Item) (ws : List Text)
    → AreWritten verb is (w ∷ ws) → ⊥
foreign_word verb w o e foreign is ws t = foreign_word_first verb o is ws foreign (first verb is (w ∷ ws) (choice_word o) ws t (ap (λ x. x ∷ ws) e))

foreign_value_first : (verb : Verb) (o : Choice) (v : Text) (is : List Item) (ws : List Text) → is_own verb o ≡ false
    → First verb (choice_word o ++ (61 ∷ v)) ws is → ⊥
foreign_value_first verb o v is ws foreign (begun {i} {rest} b t) =
    not_of verb o i _ rest foreign (of_has (kind_of o) o v ws rest i (value_front verb o v ws rest i b)) b
foreign_value_first verb o v is ws foreign (stopped e f) = value_not_end o v e

pub foreign_value : (verb : Verb) (w : Text) (o : Choice) (v : Text) → w ≡ choice_word o ++ (61 ∷ v) → is_own verb o ≡ false
    → (is : List Item) (ws : List Text) → AreWritten verb is (w ∷ ws) → ⊥
foreign_value verb w o v e foreign is ws t =
    foreign_value_first verb o v is ws foreign (first verb is (w ∷ ws) (choice_word o ++ (61 ∷ v)) ws t (ap (λ x. x ∷ ws) e))

flag_value_first : (verb : Verb) (o : Choice) (v : Text) (is : List Item) (ws : List Text) → kind_of o ≡ Flag
    → First verb (choice_word o ++ (61 ∷ v)) ws is → ⊥
flag_value_first verb o v is ws f (begun {i} {rest} b t) =
    let e : nothing ≡ at i rest = sym (ap (λ k. has_front k o v ws) f) ∙ value_front verb o v ws rest i b in cc
flag_value_first verb o v is ws f (stopped e g) = value_not_end o v e

-- a flag with a value
pub flag_value : (verb : Verb) (w : Text) (o : Choice) (v : Text) → w ≡ choice_word o ++ (61 ∷ v) → kind_of o ≡ Flag
    → (is : List Item) (ws : List Text) → AreWritten verb is (w ∷ ws) → ⊥
flag_value verb w o v e f is ws t =
    flag_value_first verb o v is ws f (first verb is (w ∷ ws) (choice_word o ++ (61 ∷ v)) ws t (ap (λ x. x ∷ ws) e))

head_is : (w x : Text) (ws xs : List Text) → w ∷ ws ≡ x ∷ xs → w ≡ x
head_is w x ws xs e = cc

unknown_begins : (verb : Verb) (w : Text) (ws rest : List Text) (i : Item) → IsUnknown w → Begins verb (w ∷ ws) rest i → ⊥
unknown_begins verb w ws rest i u (word {w = x} p e) = u.plain (subst IsPlain (sym (head_is w x ws rest e)) p)
unknown_begins verb w ws rest i u (alone {o} own f e) = (u.no_use o).alone (head_is w (choice_word o) ws rest e)
unknown_begins verb w ws rest i u (apart {o} {v} own f e) = (u.no_use o).alone (head_is w (choice_word o) ws (v ∷ rest) e)
unknown_begins verb w ws rest i u (joined {o} {v} own f e) = (u.no_use o).joined v (head_is w (choice_word o ++ (61 ∷ v)) ws rest e)

unknown_first : (verb : Verb) (w : Text) (is : List Item) (ws : List Text) → IsUnknown w → First verb w ws is → ⊥
unknown_first verb w is ws u (begun {i} {rest} b t) = unknown_begins verb w ws rest i u b
unknown_first verb w is ws u (stopped e f) = u.end e

pub unknown_word : (verb : Verb) (w : Text) → IsUnknown w → (is : List Item) (ws : List Text) → AreWritten verb is (w ∷ ws) → ⊥
unknown_word verb w u is ws t = unknown_first verb w is ws u (first verb is (w ∷ ws) w ws t refl)

-- ---- words one after another

pub reads_none : (verb : Verb) (words : List Text) → Reads verb state.Open [] words words
reads_none verb words = record { sound = λ is t. t; complete = λ is t. record { rest = is; split = refl; on = t } }

pub reads_more : (verb : Verb) (s s' : State) (front p : List Item) (words ws : List Text) (w : Text) → Reads verb s front words (w ∷ ws)
    → Moves verb s w p s' → Reads verb s' (front ++ p) words ws
reads_more verb s s' front p words ws w r m = record {
  sound = λ is h. subst (λ x. AreWritten verb x words) (sym (append_assoc front p is)) (r.sound (p ++ is) (m.sound is ws h));
  complete = λ is t.
      let a = r.complete is t in
      let b = m.complete a.rest ws a.on in
      record { rest = b.rest; split = a.split ∙ ap (λ x. front ++ x) b.split ∙ sym (append_assoc front p b.rest); on = b.on };
}

pub texts-drop : (n : ℕ) (ws : List (String Global)) → drop n (texts ws) ≡ texts (drop n ws)
texts-drop n ws = drop-map string_bytes n ws

pub words_at : (n : ℕ) (ws : List (String Global)) (w : String Global) → n < length ws → w ≡ get_or ws n w
    → drop n (texts ws) ≡ string_bytes w ∷ drop (n + 1) (texts ws)
words_at n ws w within is =
    rw add-one
    (texts-drop n ws ∙ ap texts (drop-cons ws n w within ∙ ap (λ x. x ∷ drop (suc n) ws) (sym is)) ∙ ap (λ x. string_bytes w ∷ x) (sym (texts-drop (suc n) ws)))

-- where no words are left and no option waits, the items are those of all words
pub reads_end : (verb : Verb) (s : State) (front : List Item) (words left : List Text) → Reads verb s front words left → left ≡ []
    → (s ≡ state.Open) ⊎ (s ≡ state.Ended) → AreWritten verb front words
reads_end verb state.Open front words left r e o =
    subst (λ is. AreWritten verb is words) (append-nil front) (r.sound [] (subst (λ ws. AreWritten verb [] ws) (sym e) done))
reads_end verb state.Ended front words left r e o = subst (λ is. AreWritten verb is words) (append-nil front) (r.sound [] (ap (map plain) (sym e)))
reads_end verb (state.Waits o) front words left r e (inl f) = cc
reads_end verb (state.Waits o) front words left r e (inr f) = cc

pub no_words_left : (n : ℕ) (ws : List (String Global)) → length ws ≤ n → drop n (texts ws) ≡ []
no_words_left n ws past = texts-drop n ws ∙ ap texts (drop_all n ws past)

-- the words after the first
pub rest_texts : (ws : List (String Global)) (w : String Global) → 1 ≤ length ws → w ≡ get_or ws 0 w
    → texts ws ≡ string_bytes w ∷ texts (take (length ws - 1) (drop 1 ws))
rest_texts ws w some is =
    let within : 0 < length ws = omega arith in
    let all : take (length ws - 1) (drop 1 ws) ≡ drop 1 ws = ap (λ n. take n (drop 1 ws)) (sym (length-drop 1 ws)) ∙ take-length (drop 1 ws) in
    words_at 0 ws w within is ∙ ap (λ x. string_bytes w ∷ x) (texts-drop 1 ws ∙ ap texts (sym all))
