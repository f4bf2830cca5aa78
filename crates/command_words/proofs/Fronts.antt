-- What stands at the front of words: one item at most.
use Rattle.std.proofs.Common.{◌≡◌, ◌≢◌, ℕ, List, [], ◌∷◌, ◌++◌, map, refl, sym, ◌∙◌, ap, ap₂, subst, arith, inl, inr}
use Rattle.std.specs.Prelude.{◌==◌, ◌||◌, not, Bool, true, false, find, Option, Some, None, if◌then◌else◌}
use Rattle.std.specs.List.{list_any, before_first, after_first}
use Rattle.std.specs.Str.{bytes_eq}
use Rattle.std.proofs.lemmas.Bool.{false≢true}
use Rattle.std.proofs.lemmas.Bool.Decides.{nat_tests}
use Rattle.command_words.specs.declared.verb.Verb.{Verb}
use Rattle.command_words.specs.declared.choice.Choice.{Choice}
use Rattle.command_words.specs.declared.choice.Choice.TheVariants.{Delay, Slots, Depth, Workers, Limit, Turns, At, Count, Cycles, Log, Forward, Wrap}
use Rattle.command_words.specs.declared.choice.ValueKind.{ValueKind}
use Rattle.command_words.specs.declared.choice.ValueKind.TheVariants.{Flag, Number, Delays}
use Rattle.command_words.specs.Tables.{Text, choice_word, kind_of}
use Rattle.command_words.specs.Items.{Item, plain, option, IsPlain, end_word, Begins, word, alone, apart, joined, AreWritten, done, more, ended}

abbrev pub choices : List Choice
choices = Delay ∷ Slots ∷ Depth ∷ Workers ∷ Limit ∷ Turns ∷ At ∷ Count ∷ Cycles ∷ Log ∷ Forward ∷ Wrap ∷ []

abbrev pub named : Text → Option Choice
named w = find (λ o. bytes_eq (choice_word o) w) choices

-- what a word is before `--`: the end of options, a plain word, an option, an option with its value, or none of these
pub data Kind : Type 0 where
  ends : Kind
  free : Kind
  single : Choice → Kind
  has : Choice → Text → Kind
  none : Kind

abbrev pub joined_kind : Option Choice → Text → Kind
joined_kind (Some o) v = has o v
joined_kind None v = none

abbrev pub named_kind : Option Choice → Text → Kind
named_kind (Some o) w = single o
named_kind None w = joined_kind (if list_any (λ b. b == 61) w then named (before_first (λ b. b == 61) w) else None) (after_first (λ b. b == 61) w)

abbrev pub is_empty : Text → Bool
is_empty [] = true
is_empty (b ∷ bs) = false

abbrev pub kind : Text → Kind
kind [] = free
kind (b ∷ bs) = if not (b == 45) || is_empty bs then free else (if bytes_eq (b ∷ bs) end_word then ends else named_kind (named (b ∷ bs)) (b ∷ bs))

-- the item that words begin with and the words after it, or nothing
pub data Front : Type 0 where
  at : Item → List Text → Front
  nothing : Front

abbrev pub first_front : Choice → List Text → Front
first_front o [] = nothing
first_front o (v ∷ ws) = at (option o v) ws

abbrev pub single_front : ValueKind → Choice → List Text → Front
single_front Flag o ws = at (option o []) ws
single_front (Number low high) o ws = first_front o ws
single_front Delays o ws = first_front o ws

abbrev pub has_front : ValueKind → Choice → Text → List Text → Front
has_front Flag o v ws = nothing
has_front (Number low high) o v ws = at (option o v) ws
has_front Delays o v ws = at (option o v) ws

abbrev pub kind_front : Kind → Text → List Text → Front
kind_front ends w ws = nothing
kind_front free w ws = at (plain w) ws
kind_front (single o) w ws = single_front (kind_of o) o ws
kind_front (has o v) w ws = has_front (kind_of o) o v ws
kind_front none w ws = nothing

abbrev pub front : List Text → Front
front [] = nothing
front (w ∷ ws) = kind_front (kind w) w ws

differs : (b : ℕ) → b ≢ 45 → (b == 45) ≡ false
differs b ne = grind (arith, nat_tests)

pick : {A : Type 0} (t : Bool) (x y : A) → t ≡ true → (if t then x else y) ≡ x
pick true x y e = refl
pick false x y e = absurd (false≢true e)

is_free : (t u : Bool) → t ≡ false → (not t || u) ≡ true
is_free false u e = refl
is_free true u e = absurd (false≢true (sym e))

is_short : (t u : Bool) → u ≡ true → (not t || u) ≡ true
is_short false u e = refl
is_short true u e = e

pub kind-plain : (w : Text) → IsPlain w → kind w ≡ free
kind-plain [] p = refl
kind-plain (b ∷ bs) (inl ne) = pick (not (b == 45) || is_empty bs) free _ (is_free (b == 45) (is_empty bs) (differs b ne))
kind-plain (b ∷ bs) (inr e) = pick (not (b == 45) || is_empty bs) free _ (is_short (b == 45) (is_empty bs) (ap is_empty e))

pub kind-word : (o : Choice) → kind (choice_word o) ≡ single o
kind-word Delay = refl
kind-word Slots = refl
kind-word Depth = refl
kind-word Workers = refl
kind-word Limit = refl
kind-word Turns = refl
kind-word At = refl
kind-word Count = refl
kind-word Cycles = refl
kind-word Log = refl
kind-word Forward = refl
kind-word Wrap = refl

pub kind-joined : (o : Choice) (v : Text) → kind (choice_word o ++ (61 ∷ v)) ≡ has o v
kind-joined Delay v = refl
kind-joined Slots v = refl
kind-joined Depth v = refl
kind-joined Workers v = refl
kind-joined Limit v = refl
kind-joined Turns v = refl
kind-joined At v = refl
kind-joined Count v = refl
kind-joined Cycles v = refl
kind-joined Log v = refl
kind-joined Forward v = refl
kind-joined Wrap v = refl

single_front-takes : (k : ValueKind) (o : Choice) (v : Text) (ws : List Text) → k ≢ Flag → single_front k o (v ∷ ws) ≡ at (option o v) ws
single_front-takes Flag o v ws ne = absurd (ne refl)
single_front-takes (Number low high) o v ws ne = refl
single_front-takes Delays o v ws ne = refl

has_front-takes : (k : ValueKind) (o : Choice) (v : Text) (ws : List Text) → k ≢ Flag → has_front k o v ws ≡ at (option o v) ws
has_front-takes Flag o v ws ne = absurd (ne refl)
has_front-takes (Number low high) o v ws ne = refl
has_front-takes Delays o v ws ne = refl

front-plain : (w : Text) (ws : List Text) → IsPlain w → front (w ∷ ws) ≡ at (plain w) ws
front-plain w ws p = ap (λ k. kind_front k w ws) (kind-plain w p)

pub front-word : (o : Choice) (ws : List Text) → front (choice_word o ∷ ws) ≡ single_front (kind_of o) o ws
front-word o ws = ap (λ k. kind_front k (choice_word o) ws) (kind-word o)

pub front-joined : (o : Choice) (v : Text) (ws : List Text) → front ((choice_word o ++ (61 ∷ v)) ∷ ws) ≡ has_front (kind_of o) o v ws
front-joined o v ws = ap (λ k. kind_front k (choice_word o ++ (61 ∷ v)) ws) (kind-joined o v)

pub front-begins : (verb : Verb) (words rest : List Text) (i : Item) → Begins verb words rest i → front words ≡ at i rest
front-begins verb words rest i (word {w} p e) = ap front e ∙ front-plain w rest p
front-begins verb words rest i (alone {o} own f e) = ap front e ∙ front-word o rest ∙ ap (λ k. single_front k o rest) f
front-begins verb words rest i (apart {o} {v} own f e) = ap front e ∙ front-word o (v ∷ rest) ∙ single_front-takes (kind_of o) o v rest f
front-begins verb words rest i (joined {o} {v} own f e) = ap front e ∙ front-joined o v rest ∙ has_front-takes (kind_of o) o v rest f

-- words begin with one item
pub record IsSame (i j : Item) (rest more : List Text) : Type 0 where
  pub item : i ≡ j
  pub after : rest ≡ more

pub begins_once : (verb : Verb) (words rest rest' : List Text) (i j : Item) → Begins verb words rest i → Begins verb words rest' j → IsSame i j rest rest'
begins_once verb words rest rest' i j b c =
    let e : at i rest ≡ at j rest' = sym (front-begins verb words rest i b) ∙ front-begins verb words rest' j c in
    record { item = cc; after = cc }

-- `--` begins no item
pub ends_options : (verb : Verb) (words after rest : List Text) (i : Item) → words ≡ end_word ∷ after → Begins verb words rest i → ⊥
ends_options verb words after rest i e b =
    let f : nothing ≡ at i rest = sym (ap front e) ∙ front-begins verb words rest i b in cc

pub no_words : (verb : Verb) (rest : List Text) (i : Item) → Begins verb [] rest i → ⊥
no_words verb rest i b = let f : nothing ≡ at i rest = front-begins verb [] rest i b in cc

-- what begins with the word of an option, or with an option and its value
pub use_front : (verb : Verb) (o : Choice) (ws rest : List Text) (i : Item) → Begins verb (choice_word o ∷ ws) rest i → single_front (kind_of o) o ws ≡ at i rest
use_front verb o ws rest i b = sym (front-word o ws) ∙ front-begins verb (choice_word o ∷ ws) rest i b

pub value_front : (verb : Verb) (o : Choice) (v : Text) (ws rest : List Text) (i : Item) → Begins verb ((choice_word o ++ (61 ∷ v)) ∷ ws) rest i
    → has_front (kind_of o) o v ws ≡ at i rest
value_front verb o v ws rest i b = sym (front-joined o v ws) ∙ front-begins verb ((choice_word o ++ (61 ∷ v)) ∷ ws) rest i b

-- the items of a list of words are one list
pub written_once : (verb : Verb) (is js : List Item) (ws : List Text) → AreWritten verb is ws → AreWritten verb js ws → is ≡ js
written_once verb is js ws done done = refl
written_once verb is js ws done (more {rest} b t) = absurd (no_words verb rest _ b)
written_once verb is js ws done (ended e f) = cc
written_once verb is js ws (more {rest} b t) done = absurd (no_words verb rest _ b)
written_once verb is js ws (more {i} {is = is'} {words} {rest} b t) (more {i = j} {is = js'} {words = words'} {rest = rest'} c u) =
    let same = begins_once verb ws rest rest' i j b c in
    ap₂ (λ x xs. x ∷ xs) same.item (written_once verb is' js' rest t (subst (AreWritten verb js') (sym same.after) u))
written_once verb is js ws (more {rest} b t) (ended {rest = after} e f) = absurd (ends_options verb ws after rest _ e b)
written_once verb is js ws (ended e f) done = cc
written_once verb is js ws (ended {rest = after} e f) (more {rest} b t) = absurd (ends_options verb ws after rest _ e b)
written_once verb is js ws (ended {words} {rest} e f) (ended {words = words'} {rest = rest'} e' f') =
    let same : rest ≡ rest' = cc in f ∙ ap (map plain) same ∙ sym f'
