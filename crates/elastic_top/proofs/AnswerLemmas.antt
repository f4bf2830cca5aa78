-- What the refusal of a command is for a call; and what holds of words and bytes that are taken from their places.
use Rattle.std.proofs.Common.{◌≡◌, ◌<◌, zero, suc, refl, subst, sym, ap, ◌∙◌, arith, List, [], ◌∷◌, length, get_or}
use Rattle.std.specs.Prelude.{ℕ, Option, Some, None, IsSome, is_some, Err}
use Rattle.std.specs.Borrow.{Bor}
use Rattle.std.specs.declared.vec.Vec.{Vec}
use Rattle.std.specs.declared.alloc.Global.{Global}
use Rattle.el_io.specs.Outside.{Told}
use Rattle.command_words.specs.declared.verb.Verb.TheVariants.{Bench}
use Rattle.command_words.specs.Tables.{Text, plain_of}
use Rattle.command_words.specs.Commands.{Asked, IsSeed, word_texts}
use Rattle.elastic_top.specs.Files.{files_of}
use Rattle.elastic_top.specs.Reading.{AreHeld, contents_of}
use Rattle.elastic_top.specs.Answers.{IsSaid, at}
use Rattle.elastic_top.specs.Causes.{IsCauseOf}
use Rattle.elastic_top.specs.Faults.{numbered_fault, label_number}
use Rattle.elastic_top.specs.declared.fault.Refusal.{Refusal}

-- the fault that is made of a refusal of contents that are held has that cause; where it is want of memory, it needs none
pub refused_cause : (holds : Text → Told) (steady : Type 0) (long : ℕ) (Cut : Text → Type 0) (c : Asked) (contents : List Text) (r : Refusal) (n : Option ℕ)
    → label_number r ≡ n → AreHeld holds (files_of c) contents → IsSaid c contents (Err r) → IsCauseOf holds steady long Cut c (numbered_fault n r)
refused_cause holds steady long Cut c contents r None e held is = tt
refused_cause holds steady long Cut c contents r (Some n) e held is = record { contents = contents; held = held; answer = (ap is_some e, is) }

-- the word and the bytes at a place
word_at : (words : List (Bor Text)) (i : ℕ) (d : Bor Text) → i < length words → at (word_texts words) i ≡ (get_or words i d).now
word_at [] i d within = absurd (omega (arith, within))
word_at (v ∷ words) zero d within = refl
word_at (v ∷ words) (suc i) d within = word_at words i d (omega (arith, within))

bytes_at-is : (contents : List (Vec ℕ Global)) (i : ℕ) (b : Vec ℕ Global) → i < length contents → b ≡ get_or contents i b → at (contents_of contents) i ≡ b.items
bytes_at-is [] i b within is = absurd (omega (arith, within))
bytes_at-is (v ∷ contents) zero b within is = ap (λ (x : Vec ℕ Global). x.items) (sym is)
bytes_at-is (v ∷ contents) (suc i) b within is = bytes_at-is contents i b (omega (arith, within)) is

-- a bench has its number
pub some_seed : (words : List Text) (seed : Option ℕ) → length words ≡ 1 → IsSeed (plain_of Bench) words seed → IsSome seed
some_seed [] seed e is = absurd (omega (arith, e))
some_seed (w ∷ words) seed e is = ap is_some is.2

-- what holds of the words and the bytes that are taken, of slices of both, holds of those at the places
pub of_one : (Holds : Text → Text → Type 0) (words ws : List (Bor Text)) (contents : List (Vec ℕ Global)) (d : Bor Text) (a : Vec ℕ Global) (x : Text)
    → ws ≡ words → x ≡ a.items → length words ≡ 1 → length contents ≡ 1 → a ≡ get_or contents 0 a
    → Holds (get_or ws 0 d).now x → Holds (at (word_texts words) 0) (at (contents_of contents) 0)
of_one Holds words ws contents d a x same xa m n ia is =
    let ev : (get_or ws 0 d).now ≡ at (word_texts words) 0 = ap (λ (l : List (Bor Text)). (get_or l 0 d).now) same ∙ sym (word_at words 0 d (omega (arith, m))) in
    let ea : x ≡ at (contents_of contents) 0 = xa ∙ sym (bytes_at-is contents 0 a (omega (arith, n)) ia) in
    subst (λ t. Holds t (at (contents_of contents) 0)) ev (subst (λ t. Holds (get_or ws 0 d).now t) ea is)

pub of_two : (Holds : Text → Text → Text → Text → Type 0) (words ws : List (Bor Text)) (contents : List (Vec ℕ Global)) (d e : Bor Text) (a b : Vec ℕ Global) (x y : Text)
    → ws ≡ words → x ≡ a.items → y ≡ b.items → length words ≡ 2 → length contents ≡ 2 → a ≡ get_or contents 0 a → b ≡ get_or contents 1 b
    → Holds (get_or ws 0 d).now (get_or ws 1 e).now x y
    → Holds (at (word_texts words) 0) (at (word_texts words) 1) (at (contents_of contents) 0) (at (contents_of contents) 1)
of_two Holds words ws contents d e a b x y same xa yb m n ia ib is =
    let v = (get_or ws 0 d).now in
    let w = (get_or ws 1 e).now in
    let ev : v ≡ at (word_texts words) 0 = ap (λ (l : List (Bor Text)). (get_or l 0 d).now) same ∙ sym (word_at words 0 d (omega (arith, m))) in
    let ew : w ≡ at (word_texts words) 1 = ap (λ (l : List (Bor Text)). (get_or l 1 e).now) same ∙ sym (word_at words 1 e (omega (arith, m))) in
    let ea : x ≡ at (contents_of contents) 0 = xa ∙ sym (bytes_at-is contents 0 a (omega (arith, n)) ia) in
    let eb : y ≡ at (contents_of contents) 1 = yb ∙ sym (bytes_at-is contents 1 b (omega (arith, n)) ib) in
    subst (λ t. Holds t (at (word_texts words) 1) (at (contents_of contents) 0) (at (contents_of contents) 1)) ev
    (subst (λ t. Holds v t (at (contents_of contents) 0) (at (contents_of contents) 1)) ew
    (subst (λ t. Holds v w t (at (contents_of contents) 1)) ea
    (subst (λ t. Holds v w x t) eb is)))

pub of_three : (Holds : Text → Text → Text → Text → Text → Text → Type 0) (words ws : List (Bor Text)) (contents : List (Vec ℕ Global)) (d e f : Bor Text) (a b c : Vec ℕ Global)
    (x y z : Text) → ws ≡ words → x ≡ a.items → y ≡ b.items → z ≡ c.items → length words ≡ 3 → length contents ≡ 3
    → a ≡ get_or contents 0 a → b ≡ get_or contents 1 b → c ≡ get_or contents 2 c
    → Holds (get_or ws 0 d).now (get_or ws 1 e).now (get_or ws 2 f).now x y z
    → Holds (at (word_texts words) 0) (at (word_texts words) 1) (at (word_texts words) 2) (at (contents_of contents) 0) (at (contents_of contents) 1) (at (contents_of contents) 2)
of_three Holds words ws contents d e f a b c x y z same xa yb zc m n ia ib ic is =
    let u = (get_or ws 0 d).now in
    let v = (get_or ws 1 e).now in
    let w = (get_or ws 2 f).now in
    let eu : u ≡ at (word_texts words) 0 = ap (λ (l : List (Bor Text)). (get_or l 0 d).now) same ∙ sym (word_at words 0 d (omega (arith, m))) in
    let ev : v ≡ at (word_texts words) 1 = ap (λ (l : List (Bor Text)). (get_or l 1 e).now) same ∙ sym (word_at words 1 e (omega (arith, m))) in
    let ew : w ≡ at (word_texts words) 2 = ap (λ (l : List (Bor Text)). (get_or l 2 f).now) same ∙ sym (word_at words 2 f (omega (arith, m))) in
    let ea : x ≡ at (contents_of contents) 0 = xa ∙ sym (bytes_at-is contents 0 a (omega (arith, n)) ia) in
    let eb : y ≡ at (contents_of contents) 1 = yb ∙ sym (bytes_at-is contents 1 b (omega (arith, n)) ib) in
    let ec : z ≡ at (contents_of contents) 2 = zc ∙ sym (bytes_at-is contents 2 c (omega (arith, n)) ic) in
    subst (λ t. Holds t (at (word_texts words) 1) (at (word_texts words) 2) (at (contents_of contents) 0) (at (contents_of contents) 1) (at (contents_of contents) 2)) eu
    (subst (λ t. Holds u t (at (word_texts words) 2) (at (contents_of contents) 0) (at (contents_of contents) 1) (at (contents_of contents) 2)) ev
    (subst (λ t. Holds u v t (at (contents_of contents) 0) (at (contents_of contents) 1) (at (contents_of contents) 2)) ew
    (subst (λ t. Holds u v w t (at (contents_of contents) 1) (at (contents_of contents) 2)) ea
    (subst (λ t. Holds u v w x t (at (contents_of contents) 2)) eb
    (subst (λ t. Holds u v w x y t) ec is)))))

-- the same of the bytes alone
pub bytes_of_one : (Holds : Text → Type 0) (contents : List (Vec ℕ Global)) (a : Vec ℕ Global)
    → length contents ≡ 1 → a ≡ get_or contents 0 a → Holds a.items → Holds (at (contents_of contents) 0)
bytes_of_one Holds contents a n ia is = subst Holds (sym (bytes_at-is contents 0 a (omega (arith, n)) ia)) is

pub bytes_of_two : (Holds : Text → Text → Type 0) (contents : List (Vec ℕ Global)) (a b : Vec ℕ Global)
    → length contents ≡ 2 → a ≡ get_or contents 0 a → b ≡ get_or contents 1 b
    → Holds a.items b.items → Holds (at (contents_of contents) 0) (at (contents_of contents) 1)
bytes_of_two Holds contents a b n ia ib is =
    let ea : at (contents_of contents) 0 ≡ a.items = bytes_at-is contents 0 a (omega (arith, n)) ia in
    let eb : at (contents_of contents) 1 ≡ b.items = bytes_at-is contents 1 b (omega (arith, n)) ib in
    subst (λ t. Holds t (at (contents_of contents) 1)) (sym ea) (subst (λ t. Holds a.items t) (sym eb) is)

pub bytes_of_three : (Holds : Text → Text → Text → Type 0) (contents : List (Vec ℕ Global)) (a b c : Vec ℕ Global)
    → length contents ≡ 3 → a ≡ get_or contents 0 a → b ≡ get_or contents 1 b → c ≡ get_or contents 2 c
    → Holds a.items b.items c.items → Holds (at (contents_of contents) 0) (at (contents_of contents) 1) (at (contents_of contents) 2)
bytes_of_three Holds contents a b c n ia ib ic is =
    let ea : at (contents_of contents) 0 ≡ a.items = bytes_at-is contents 0 a (omega (arith, n)) ia in
    let eb : at (contents_of contents) 1 ≡ b.items = bytes_at-is contents 1 b (omega (arith, n)) ib in
    let ec : at (contents_of contents) 2 ≡ c.items = bytes_at-is contents 2 c (omega (arith, n)) ic in
    subst (λ t. Holds t (at (contents_of contents) 1) (at (contents_of contents) 2)) (sym ea)
    (subst (λ t. Holds a.items t (at (contents_of contents) 2)) (sym eb) (subst (λ t. Holds a.items b.items t) (sym ec) is))
