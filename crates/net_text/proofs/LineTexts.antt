-- The lines of the header and of channels, cut into their pieces.
use Rattle.std.proofs.Common.{◌≡◌, ◌≢◌, ◌↔◌, ℕ, Bool, true, false, IsTrue, List, [], ◌∷◌, ◌++◌, codes, decimal, Option, Some, None, refl, sym, ap, subst, ◌∙◌, arith, lit<}
use Rattle.std.specs.List.{list_all}
use Rattle.std.specs.Option.{IsSome}
use Rattle.std.proofs.lemmas.Bool.{false≢true}
use Rattle.el_base.specs.declared.ty.Ty.{Ty}
use Rattle.el_base.specs.declared.ty.Ty.TheVariants.{I8, U8, I16, U16, I32, U32, I64, U64}
use Rattle.el_base.specs.declared.ty.Array.{Array}
use Rattle.el_base.specs.declared.ty.Scalar.{Scalar}
use Rattle.el_base.specs.Names.{ty_name}
use Rattle.el_base.specs.Words.{is_letter, is_word, is_identifier}
use Rattle.net_types.specs.declared.net.Chan.{Chan}
use Rattle.net_types.specs.declared.net.Place.{Place}
use Rattle.el_base.specs.Limits.{IsNumbered}
use Rattle.net_text.specs.Fits.{PlaceFits, NameFits, ScalarFits, ArrayFits, ChanFits}
use Rattle.net_text.specs.Pieces.{place_text}
use Rattle.net_text.specs.Reads.{lacks, scalar_text, array_text, chan_text, DelayFits, delay_text}
use Rattle.net_text.proofs.Cuts.{and_first, and_second, cut_unique, cut_present, decimal_lacks}
use Rattle.net_text.proofs.GroupTexts.{lacks-cons, lacks-append}
use Rattle.net_text.proofs.ReadLemmas.{none_some, after_word}

-- no byte of a name is one that is neither a letter nor a byte of words
word_other : (c b : ℕ) → is_word c ≡ false → is_word b ≡ true → b ≢ c
word_other c b none h e = false≢true (sym none ∙ ap is_word (sym e) ∙ h)

letter_other : (c b : ℕ) → is_letter c ≡ false → is_letter b ≡ true → b ≢ c
letter_other c b none h e = false≢true (sym none ∙ ap is_letter (sym e) ∙ h)

words_lack : (c : ℕ) → is_word c ≡ false → (bs : List ℕ) → list_all is_word bs ≡ true → lacks c bs ≡ true
words_lack c none [] h = refl
words_lack c none (b ∷ bs) h = lacks-cons c b bs (word_other c b none (and_first _ _ h)) (words_lack c none bs (and_second _ _ h))

pub identifier_lacks : (c : ℕ) → is_letter c ≡ false → is_word c ≡ false → (bs : List ℕ) → is_identifier bs ≡ true → lacks c bs ≡ true
identifier_lacks c letter word [] h = refl
identifier_lacks c letter word (b ∷ bs) h = lacks-cons c b bs (letter_other c b letter (and_first _ _ h)) (words_lack c word bs (and_second _ _ h))

-- no space stands in a name or a type's word
pub name_lacks : (bs : List ℕ) → NameFits bs → lacks 32 bs ≡ true
name_lacks bs h = identifier_lacks 32 refl refl bs h

pub ty_lacks : (t : Ty) → lacks 32 (ty_name t) ≡ true
ty_lacks I8 = refl
ty_lacks U8 = refl
ty_lacks I16 = refl
ty_lacks U16 = refl
ty_lacks I32 = refl
ty_lacks U32 = refl
ty_lacks I64 = refl
ty_lacks U64 = refl

-- where no name is made of bytes, no name is those bytes
pub name_none : (bytes : List ℕ) (o : Option (List ℕ)) → o ≡ None → (IsSome o ↔ IsTrue (is_identifier bytes)) → (name : List ℕ) → NameFits name → name ≡ bytes → ⊥
name_none bytes None e some name fits is = false≢true (some.1 (subst NameFits is fits))
name_none bytes (Some n) e some name fits is = none_some n (sym e)

-- a scalar's line is cut at its spaces
pub scalar_cut : (s : Scalar) (text rest x y : List ℕ) → ScalarFits s → scalar_text s ≡ text → text ≡ codes "scalar " ++ rest → (rest ≡ x ++ 32 ∷ y) × (lacks 32 x ≡ true) → (s.name ≡ x) × (ty_name s.ty ≡ y)
scalar_cut s text rest x y f e a c = cut_unique 32 s.name (ty_name s.ty) x y (name_lacks s.name f) c.1 (after_word (codes "scalar ") (s.name ++ 32 ∷ ty_name s.ty) rest (e ∙ a) ∙ c.0)

pub scalar_uncut : (s : Scalar) (text rest : List ℕ) → scalar_text s ≡ text → text ≡ codes "scalar " ++ rest → lacks 32 rest ≢ true
scalar_uncut s text rest e a l = cut_present 32 s.name (ty_name s.ty) (ap (lacks 32) (after_word (codes "scalar ") (s.name ++ 32 ∷ ty_name s.ty) rest (e ∙ a)) ∙ l)

-- an array's line is cut at its spaces
pub array_cut : (a : Array) (text rest x y : List ℕ) → ArrayFits a → array_text a ≡ text → text ≡ codes "array " ++ rest → (rest ≡ x ++ 32 ∷ y) × (lacks 32 x ≡ true) → (a.name ≡ x) × (ty_name a.ty ++ 32 ∷ decimal a.len ≡ y)
array_cut a text rest x y f e w c = cut_unique 32 a.name (ty_name a.ty ++ 32 ∷ decimal a.len) x y (name_lacks a.name f.name) c.1 (after_word (codes "array ") (a.name ++ 32 ∷ (ty_name a.ty ++ 32 ∷ decimal a.len)) rest (e ∙ w) ∙ c.0)

pub array_uncut : (a : Array) (text rest : List ℕ) → array_text a ≡ text → text ≡ codes "array " ++ rest → lacks 32 rest ≢ true
array_uncut a text rest e w l = cut_present 32 a.name (ty_name a.ty ++ 32 ∷ decimal a.len) (ap (lacks 32) (after_word (codes "array ") (a.name ++ 32 ∷ (ty_name a.ty ++ 32 ∷ decimal a.len)) rest (e ∙ w)) ∙ l)

pub len_cut : (a : Array) (rest x y : List ℕ) → ty_name a.ty ++ 32 ∷ decimal a.len ≡ rest → (rest ≡ x ++ 32 ∷ y) × (lacks 32 x ≡ true) → (ty_name a.ty ≡ x) × (decimal a.len ≡ y)
len_cut a rest x y e c = cut_unique 32 (ty_name a.ty) (decimal a.len) x y (ty_lacks a.ty) c.1 (e ∙ c.0)

pub len_uncut : (a : Array) (rest : List ℕ) → ty_name a.ty ++ 32 ∷ decimal a.len ≡ rest → lacks 32 rest ≢ true
len_uncut a rest e l = cut_present 32 (ty_name a.ty) (decimal a.len) (ap (lacks 32) e ∙ l)

pub place_lacks : (p : Place) → PlaceFits p → lacks 32 (place_text p) ≡ true
place_lacks p f =
    lacks-append 32 (decimal p.unit) (46 ∷ decimal p.place) (decimal_lacks 32 p.unit (lit< tt) (omega (arith, f.unit)))
    (lacks-cons 32 46 (decimal p.place) (λ e. omega arith) (decimal_lacks 32 p.place (lit< tt) (omega (arith, f.place))))

-- what a channel's line has from its second place, its width and its slots on
abbrev pub from_slots : Chan → List ℕ
from_slots c = decimal c.slots ++ 32 ∷ delay_text (c.delay, c.ctl)

abbrev pub from_width : Chan → List ℕ
from_width c = decimal c.width ++ 32 ∷ from_slots c

abbrev pub from_to : Chan → List ℕ
from_to c = place_text c.to ++ 32 ∷ from_width c

-- a channel's line is cut at its spaces
pub chan_cut : (c : Chan) (text rest x y : List ℕ) → ChanFits c → chan_text c ≡ text → text ≡ codes "chan " ++ rest → (rest ≡ x ++ 32 ∷ y) × (lacks 32 x ≡ true) → (place_text c.from ≡ x) × (from_to c ≡ y)
chan_cut c text rest x y f e w s = cut_unique 32 (place_text c.from) (from_to c) x y (place_lacks c.from f.from) s.1 (after_word (codes "chan ") (place_text c.from ++ 32 ∷ from_to c) rest (e ∙ w) ∙ s.0)

pub to_cut : (c : Chan) (rest x y : List ℕ) → ChanFits c → from_to c ≡ rest → (rest ≡ x ++ 32 ∷ y) × (lacks 32 x ≡ true) → (place_text c.to ≡ x) × (from_width c ≡ y)
to_cut c rest x y f e s = cut_unique 32 (place_text c.to) (from_width c) x y (place_lacks c.to f.to) s.1 (e ∙ s.0)

pub width_cut : (c : Chan) (rest x y : List ℕ) → ChanFits c → from_width c ≡ rest → (rest ≡ x ++ 32 ∷ y) × (lacks 32 x ≡ true) → (decimal c.width ≡ x) × (from_slots c ≡ y)
width_cut c rest x y f e s = cut_unique 32 (decimal c.width) (from_slots c) x y (decimal_lacks 32 c.width (lit< tt) (omega (arith, f.width))) s.1 (e ∙ s.0)

pub slots_cut : (c : Chan) (rest x y : List ℕ) → ChanFits c → from_slots c ≡ rest → (rest ≡ x ++ 32 ∷ y) × (lacks 32 x ≡ true) → (decimal c.slots ≡ x) × (delay_text (c.delay, c.ctl) ≡ y)
slots_cut c rest x y f e s = cut_unique 32 (decimal c.slots) (delay_text (c.delay, c.ctl)) x y (decimal_lacks 32 c.slots (lit< tt) (omega (arith, f.slots))) s.1 (e ∙ s.0)

pub to_uncut : (c : Chan) (rest : List ℕ) → from_to c ≡ rest → lacks 32 rest ≢ true
to_uncut c rest e l = cut_present 32 (place_text c.to) (from_width c) (ap (lacks 32) e ∙ l)

pub width_uncut : (c : Chan) (rest : List ℕ) → from_width c ≡ rest → lacks 32 rest ≢ true
width_uncut c rest e l = cut_present 32 (decimal c.width) (from_slots c) (ap (lacks 32) e ∙ l)

pub slots_uncut : (c : Chan) (rest : List ℕ) → from_slots c ≡ rest → lacks 32 rest ≢ true
slots_uncut c rest e l = cut_present 32 (decimal c.slots) (delay_text (c.delay, c.ctl)) (ap (lacks 32) e ∙ l)

-- a delay's text that is cut at a space is a control channel's
delay_parts : (d : ℕ) (ctl : Bool) (text x y : List ℕ) → IsNumbered d → delay_text (d, ctl) ≡ text → (text ≡ x ++ 32 ∷ y) × (lacks 32 x ≡ true) → (decimal d ≡ x) × (codes "control" ≡ y)
delay_parts d true text x y f e s = cut_unique 32 (decimal d) (codes "control") x y (decimal_lacks 32 d (lit< tt) (omega (arith, f))) s.1 (e ∙ s.0)
delay_parts d false text x y f e s = absurd (cut_present 32 x y (ap (lacks 32) (sym (e ∙ s.0)) ∙ decimal_lacks 32 d (lit< tt) (omega (arith, f))))

pub delay_cut : (p : ℕ × Bool) (text x y : List ℕ) → DelayFits p → delay_text p ≡ text → (text ≡ x ++ 32 ∷ y) × (lacks 32 x ≡ true) → (decimal p.0 ≡ x) × (codes "control" ≡ y)
delay_cut p text x y f e s = delay_parts p.0 p.1 text x y f e s
