-- Words of acts, and acts, at the front of a text.
use Rattle.std.proofs.Common.{◌≡◌, ◌≢◌, ℕ, ◌+◌, ◌*◌, ◌^◌, ◌<◌, ◌==◌, ◌∙◌, Bool, true, false, cond, Option, Some, None, List, ◌∷◌, ◌++◌, length, get_or, refl, sym, ap, subst, arith, lit<}
use Rattle.std.proofs.lemmas.Bool.{false≢true}
use Rattle.std.proofs.lemmas.List.{append_cancel_left}
use Rattle.net_types.specs.declared.firing.Act.{Act}
use Rattle.net_types.specs.declared.firing.Act.TheVariants as act
use Rattle.net_types.specs.Order.{act_number}
use Rattle.net_replay.specs.declared.schedule_words.TheConstants.{ACT_WORDS}
use Rattle.net_replay.specs.declared.schedule_words.ActWord.{ActWord}
use Rattle.net_replay.specs.declared.schedule_words.ActWord.TheVariants.{Go, From, Send, Alloc, Addr, Data, Exec, Reply, Retire, End}
use Rattle.net_types.specs.Order.{ActFits}
use Rattle.net_replay.specs.Schedules.{act_text}
use Rattle.net_replay.specs.Words.{word_text, has_number, act_of, after_word, IsAfterWord, IsActBefore}
use Rattle.net_replay.proofs.NumberLemmas.{number_one}

-- ---- words

-- the first three bytes of a text as one number, and the word that begins with them
abbrev front : List ℕ → ℕ
front l = get_or l 0 0 * 65536 + get_or l 1 0 * 256 + get_or l 2 0

abbrev word_by : ℕ → Option ActWord
word_by n =
    cond (n == 6778634) (Some Go) (cond (n == 6713967) (Some From) (cond (n == 7562606) (Some Send) (cond (n == 6384748) (Some Alloc) (cond (n == 6382692) (Some Addr)
    (cond (n == 6578548) (Some Data) (cond (n == 6649957) (Some Exec) (cond (n == 7497072) (Some Reply) (cond (n == 7497076) (Some Retire) (cond (n == 6647396) (Some End) None)))))))))

found : (w : ActWord) (more : List ℕ) → word_by (front (word_text w ++ more)) ≡ Some w
found Go more = refl
found _ more = refl

word_one : (v w : ActWord) (x y : List ℕ) → word_text v ++ x ≡ word_text w ++ y → (v ≡ w) × (x ≡ y)
word_one v w x y e =
    let both : Some v ≡ Some w = sym (found v x) ∙ ap (λ l. word_by (front l)) e ∙ found w y in
    let same : v ≡ w = cc in
    (same, append_cancel_left (word_text v) x y (e ∙ ap (λ u. word_text u ++ y) (sym same)))

-- where each stands in the table
pub word_place : (w : ActWord) → (k : ℕ) × (k < length ACT_WORDS) × ((d : ActWord) → get_or ACT_WORDS k d ≡ w)
word_place Go = (0, lit< tt, λ d. refl)
word_place From = (1, lit< tt, λ d. refl)
word_place Send = (2, lit< tt, λ d. refl)
word_place Alloc = (3, lit< tt, λ d. refl)
word_place Addr = (4, lit< tt, λ d. refl)
word_place Data = (5, lit< tt, λ d. refl)
word_place Exec = (6, lit< tt, λ d. refl)
word_place Reply = (7, lit< tt, λ d. refl)
word_place Retire = (8, lit< tt, λ d. refl)
word_place End = (9, lit< tt, λ d. refl)

-- ---- acts

word_of : Act → ActWord
word_of act.Go = Go
word_of (act.From j) = From
word_of (act.Send j) = Send
word_of (act.Alloc g) = Alloc
word_of (act.Addr p) = Addr
word_of (act.Data p) = Data
word_of (act.Exec e) = Exec
word_of (act.Reply p) = Reply
word_of act.Retire = Retire
word_of act.End = End

act_back : (a : Act) → act_of (word_of a) (act_number a) ≡ a
unfolding word_of
act_back act.Go = refl
act_back _ = refl

act_joined : (w : ActWord) (n : ℕ) (more : List ℕ) → act_text (act_of w n) ++ 10 ∷ more ≡ word_text w ++ after_word (has_number w) n more
act_joined Go n more = refl
act_joined _ n more = refl

act_parted : (a : Act) (more : List ℕ) → act_text a ++ 10 ∷ more ≡ word_text (word_of a) ++ after_word (has_number (word_of a)) (act_number a) more
act_parted a more = ap (λ b. act_text b ++ 10 ∷ more) (sym (act_back a)) ∙ act_joined (word_of a) (act_number a) more

act_small : (a : Act) → ActFits a → act_number a < 2 ^ 64
act_small act.Go h = lit< tt
act_small (act.Exec e) h = h
act_small act.Retire h = lit< tt
act_small act.End h = lit< tt
act_small _ h = omega (arith, h)

act_same : (w : ActWord) (m n : ℕ) → (has_number w ≡ true → m ≡ n) → act_of w m ≡ act_of w n
act_same From m n h = ap act.From (h refl)
act_same Send m n h = ap act.Send (h refl)
act_same Alloc m n h = ap act.Alloc (h refl)
act_same Addr m n h = ap act.Addr (h refl)
act_same Data m n h = ap act.Data (h refl)
act_same Exec m n h = ap act.Exec (h refl)
act_same Reply m n h = ap act.Reply (h refl)
act_same _ m n h = refl

after_one : (b : Bool) (m n : ℕ) (x y : List ℕ) → m < 2 ^ 64 → n < 2 ^ 64 → after_word b m x ≡ after_word b n y → (b ≡ true → m ≡ n) × (x ≡ y)
after_one true m n x y l k e =
    let one = number_one 10 m n (after_word true m x) x y refl (record { fits = l; whole = refl }) (record { fits = k; whole = e }) in
    ((λ h. one.0), one.1)
after_one false m n x y l k e = ((λ h. absurd (false≢true h)), e)

-- of a text that begins with an act, the word is the act's and what follows it is its rest
front_word : (text : List ℕ) (w : ActWord) (rest : List ℕ) (a : Act) (more : List ℕ) → text ≡ word_text w ++ rest → IsActBefore text a more
    → (word_of a ≡ w) × (after_word (has_number w) (act_number a) more ≡ rest)
front_word text w rest a more e k =
    let one = word_one (word_of a) w (after_word (has_number (word_of a)) (act_number a) more) rest (sym (act_parted a more) ∙ sym k.whole ∙ e) in
    (one.0, ap (λ v. after_word (has_number v) (act_number a) more) (sym one.0) ∙ one.1)

pub no_word : (text : List ℕ) → ((w : ActWord) (more : List ℕ) → text ≢ word_text w ++ more) → (a : Act) (more : List ℕ) → IsActBefore text a more → ⊥
no_word text h a more k = h (word_of a) (after_word (has_number (word_of a)) (act_number a) more) (k.whole ∙ act_parted a more)

pub no_number : (text : List ℕ) (w : ActWord) (rest : List ℕ) → text ≡ word_text w ++ rest → ((n : ℕ) (more : List ℕ) → IsAfterWord w rest n more → ⊥)
    → (a : Act) (more : List ℕ) → IsActBefore text a more → ⊥
no_number text w rest e h a more k =
    let one = front_word text w rest a more e k in
    h (act_number a) more (record { fits = act_small a k.fits; whole = sym one.1 })

-- the act and what follows it are those of the word and the number
pub front_act : (text : List ℕ) (w : ActWord) (rest : List ℕ) (n : ℕ) (after : List ℕ) → text ≡ word_text w ++ rest → IsAfterWord w rest n after
    → (a : Act) (more : List ℕ) → IsActBefore text a more → (a ≡ act_of w n) × (more ≡ after)
front_act text w rest n after e r a more k =
    let one = front_word text w rest a more e k in
    let two = after_one (has_number w) (act_number a) n more after (act_small a k.fits) r.fits (one.1 ∙ r.whole) in
    (sym (act_back a) ∙ ap (λ v. act_of v (act_number a)) one.0 ∙ act_same w (act_number a) n two.0, two.1)

pub no_fit : (text : List ℕ) (w : ActWord) (rest : List ℕ) (n : ℕ) (after : List ℕ) → text ≡ word_text w ++ rest → IsAfterWord w rest n after
    → (ActFits (act_of w n) → ⊥) → (a : Act) (more : List ℕ) → IsActBefore text a more → ⊥
no_fit text w rest n after e r h a more k = h (subst ActFits (front_act text w rest n after e r a more k).0 k.fits)

-- an act before a line feed is one, and so is what follows
pub act_one : (text : List ℕ) (a b : Act) (x y : List ℕ) → IsActBefore text a x → IsActBefore text b y → (a ≡ b) × (x ≡ y)
act_one text a b x y h k =
    let w = word_of b in
    let rest = after_word (has_number w) (act_number b) y in
    let one = front_act text w rest (act_number b) y (k.whole ∙ act_parted b y) (record { fits = act_small b k.fits; whole = refl }) a x h in
    (one.0 ∙ act_back b, one.1)
