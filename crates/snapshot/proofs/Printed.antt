-- What the loops of the printer have written.
use Rattle.std.proofs.Common.{◌≡◌, ℕ, zero, suc, ◌+◌, ◌<◌, ◌≤◌, List, [], ◌∷◌, ◌++◌, length, map, take, get_or, refl, sym, ap, ◌∙◌, arith, codes, decimal, append_assoc, add-one}
use Rattle.std.specs.List.{flat_map, join_with_byte}
use Rattle.std.proofs.lemmas.List.{append-nil, get_or_read, take_all}
use Rattle.std.proofs.lemmas.List.Concat.{flat_map-append}
use Rattle.net_text.specs.Bodies.{text_of}
use Rattle.net_text.specs.Pieces.{line}
use Rattle.net_text.proofs.PrintedLines.{flat_map-map, joined, one_more_written}
use Rattle.el_base.specs.declared.ty.Array.{Array}
use Rattle.el_base.specs.declared.ty.Scalar.{Scalar}
use Rattle.el_base.specs.declared.ty.Ty.{Ty}
use Rattle.lsq_core.specs.declared.entry.Entry.{Entry}
use Rattle.inputs_text.specs.Results.{numbers_line, spaced, written}
use Rattle.snapshot.specs.Texts.{words, each, no_scalar, no_array, scalar_lines, array_lines, stray_lines, list_lines, entry_line}

-- the lines of one item more
pub each_suc : (f : ℕ → List (List ℕ)) (i n : ℕ) → each f i (suc n) ≡ each f i n ++ f (i + n)
each_suc f i zero = append-nil (f i) ∙ ap f (let e : i ≡ i + 0 = omega arith in e)
each_suc f i (suc n) =
    let e : suc i + n ≡ i + suc n = omega arith in
    ap (λ l. f i ++ l) (each_suc f (suc i) n) ∙ sym (append_assoc (f i) (each f (suc i) n) (f (suc i + n))) ∙ ap (λ k. (f i ++ each f (suc i) n) ++ f k) e

pub each_more : (f : ℕ → List (List ℕ)) (n : ℕ) → each f 0 (n + 1) ≡ each f 0 n ++ f n
each_more f n = rw add-one (each_suc f 0 n ∙ ap (λ k. each f 0 n ++ f k) (let e : 0 + n ≡ n = omega arith in e))

-- the items from a place on are the item there and those after it
pub each_from : (f : ℕ → List (List ℕ)) (i m n : ℕ) → m ≡ suc n → each f i m ≡ f i ++ each f (suc i) n
each_from f i m n e = ap (each f i) e

-- lines that are the same item by item
pub each_same : (f g : ℕ → List (List ℕ)) (i n : ℕ) → ((k : ℕ) → i ≤ k → k < i + n → f k ≡ g k) → each f i n ≡ each g i n
each_same f g i zero same = refl
each_same f g i (suc n) same = ap (λ l. l ++ each f (suc i) n) (same i (omega arith) (omega arith)) ∙ ap (λ l. g i ++ l) (each_same f g (suc i) n (λ k low high. same k (omega arith) (omega arith)))

-- the text with one item more
pub put_more : (f : ℕ → List (List ℕ)) (n : ℕ) (start old new : List ℕ) → old ≡ start ++ text_of (each f 0 n) → new ≡ old ++ text_of (f n) → new ≡ start ++ text_of (each f 0 (n + 1))
put_more f n start old new before more =
    more ∙ ap (λ l. l ++ text_of (f n)) before ∙ append_assoc start (text_of (each f 0 n)) (text_of (f n))
    ∙ ap (λ l. start ++ l) (sym (flat_map-append (λ l. l ++ 10 ∷ []) (each f 0 n) (f n)) ∙ ap (text_of) (sym (each_more f n)))

pub put_one : (f : ℕ → List (List ℕ)) (n : ℕ) (l : List ℕ) (start old new : List ℕ) → old ≡ start ++ text_of (each f 0 n) → new ≡ old ++ (l ++ 10 ∷ []) → f n ≡ l ∷ [] → new ≡ start ++ text_of (each f 0 (n + 1))
put_one f n l start old new before more is =
    put_more f n start old new before (more ∙ ap (λ x. old ++ x) (sym (append-nil (l ++ 10 ∷ []))) ∙ ap (λ x. old ++ text_of x) (sym is))

pub put_none : (f : ℕ → List (List ℕ)) (n : ℕ) (start old : List ℕ) → old ≡ start ++ text_of (each f 0 n) → f n ≡ [] → old ≡ start ++ text_of (each f 0 (n + 1))
put_none f n start old before is = put_more f n start old old before (sym (append-nil old) ∙ ap (λ x. old ++ text_of x) (sym is))

-- and with as many items as there are
pub put_all : (f : ℕ → List (List ℕ)) (i n : ℕ) (start new : List ℕ) → new ≡ start ++ text_of (each f 0 i) → i ≡ n → new ≡ start ++ text_of (each f 0 n)
put_all f i n start new e is = e ∙ ap (λ k. start ++ text_of (each f 0 k)) is

-- the line of an item of the header
pub scalar_is : (ss : List Scalar) (ps : List ℕ) (j : ℕ) (s : Scalar) → s ≡ get_or ss j s → j < length ss → scalar_lines ss ps j ≡ words (codes "scalar" ∷ s.name ∷ codes "=" ∷ written s.ty (get_or ps j 0) ∷ []) ∷ []
scalar_is ss ps j s is l = ap (λ (x : Scalar). words (codes "scalar" ∷ x.name ∷ codes "=" ∷ written x.ty (get_or ps j 0) ∷ []) ∷ []) (sym (get_or_read ss j s l is no_scalar))

pub array_is : (xs : List Array) (es : List (List ℕ)) (a : ℕ) (x : Array) (e : List ℕ) → x ≡ get_or xs a x → a < length xs → e ≡ get_or es a [] → array_lines xs es a ≡ words (codes "array" ∷ x.name ∷ codes "=" ∷ map (written x.ty) e) ∷ []
array_is xs es a x e is l at =
    ap (λ (y : Array). words (codes "array" ∷ y.name ∷ codes "=" ∷ map (written y.ty) (get_or es a [])) ∷ []) (sym (get_or_read xs a x l is no_array)) ∙ ap (λ z. words (codes "array" ∷ x.name ∷ codes "=" ∷ map (written x.ty) z) ∷ []) (sym at)

pub stray_is : (xs : List Array) (ns : List ℕ) (a : ℕ) (x : Array) → x ≡ get_or xs a x → a < length xs → stray_lines xs ns a ≡ words (codes "stray" ∷ x.name ∷ decimal (get_or ns a 0) ∷ []) ∷ []
stray_is xs ns a x is l = ap (λ (y : Array). words (codes "stray" ∷ y.name ∷ decimal (get_or ns a 0) ∷ []) ∷ []) (sym (get_or_read xs a x l is no_array))

-- a line that is written by its first parts, and a space before each further one
pub line_of : {X : Type 0} (f : X → List ℕ) (words : List ℕ) (xs : List X) (start first text new : List ℕ)
    → first ≡ start ++ words → text ≡ first ++ flat_map (λ y. 32 ∷ f y) xs → new ≡ text ++ 10 ∷ [] → new ≡ start ++ line (words ∷ map f xs)
line_of f words xs start first text new a b c =
    c ∙ ap (λ l. l ++ 10 ∷ []) (b ∙ ap (λ l. l ++ flat_map (λ y. 32 ∷ f y) xs) a)
    ∙ ap (λ l. l ++ 10 ∷ []) (append_assoc start words (flat_map (λ y. 32 ∷ f y) xs))
    ∙ append_assoc start (words ++ flat_map (λ y. 32 ∷ f y) xs) (10 ∷ [])
    ∙ ap (λ l. start ++ (l ++ 10 ∷ [])) (sym (joined 32 f words xs))

-- two first parts are as one
pub two_parts : (a b : List ℕ) (ps : List (List ℕ)) → line ((a ++ 32 ∷ b) ∷ ps) ≡ line (a ∷ b ∷ ps)
two_parts a b [] = refl
two_parts a b (p ∷ ps) = ap (λ l. l ++ 10 ∷ []) (append_assoc a (32 ∷ b) (32 ∷ join_with_byte 32 (p ∷ ps)))

-- a line of a word, a number and more numbers, written one after another
pub list_of : (word : List ℕ) (n : ℕ) (xs : List ℕ) (i : ℕ) (start t1 t2 text new : List ℕ)
    → t1 ≡ start ++ (word ++ 32 ∷ []) → t2 ≡ t1 ++ decimal n → text ≡ t2 ++ flat_map (λ y. 32 ∷ decimal y) (take i xs) → length xs ≤ i → new ≡ text ++ 10 ∷ [] → 0 < length xs
    → new ≡ start ++ text_of (list_lines word n xs)
list_of word n [] i start t1 t2 text new a b c l d some = absurd (omega arith)
list_of word n (x ∷ xs) i start t1 t2 text new a b c l d some =
    let first : t2 ≡ start ++ (word ++ 32 ∷ decimal n) = b ∙ ap (λ t. t ++ decimal n) a ∙ append_assoc start (word ++ 32 ∷ []) (decimal n) ∙ ap (λ t. start ++ t) (append_assoc word (32 ∷ []) (decimal n)) in
    let whole : text ≡ t2 ++ flat_map (λ y. 32 ∷ decimal y) (x ∷ xs) = c ∙ ap (λ ys. t2 ++ flat_map (λ y. 32 ∷ decimal y) ys) (take_all i (x ∷ xs) l) in
    line_of decimal (word ++ 32 ∷ decimal n) (x ∷ xs) start t2 text new first whole d ∙ ap (λ t. start ++ t) (two_parts word (decimal n) (map decimal (x ∷ xs)))
    ∙ ap (λ t. start ++ t) (sym (append-nil (line (word ∷ decimal n ∷ map decimal (x ∷ xs)))))

-- a line of a word, a name and numbers of a type
named_joined : (s w c n q ps e : List ℕ) → (s ++ (w ++ c)) ++ (((n ++ q) ++ ps) ++ e) ≡ ((s ++ ((w ++ (c ++ n)) ++ q)) ++ ps) ++ e
named_joined s w c n q ps e = simp append_assoc refl

pub numbers_of : (word name : List ℕ) (ty : Ty) (xs start t1 new : List ℕ) → t1 ≡ start ++ (word ++ 32 ∷ []) → new ≡ t1 ++ numbers_line name ty xs → new ≡ start ++ line (word ∷ name ∷ codes "=" ∷ map (written ty) xs)
numbers_of word name ty xs start t1 new a e =
    let first = (word ++ 32 ∷ name) ++ 32 ∷ codes "=" in
    let whole : new ≡ ((start ++ first) ++ spaced ty xs) ++ 10 ∷ [] = e ∙ ap (λ t. t ++ numbers_line name ty xs) a ∙ named_joined start word (32 ∷ []) name (codes " =") (spaced ty xs) (10 ∷ []) in
    line_of (written ty) first xs start (start ++ first) ((start ++ first) ++ spaced ty xs) new refl refl whole
    ∙ ap (λ t. start ++ t) (two_parts (word ++ 32 ∷ name) (codes "=") (map (written ty) xs) ∙ two_parts word name (codes "=" ∷ map (written ty) xs))

-- the parts that follow a word, and one more
part_more : (start text new : List ℕ) (ps : List (List ℕ)) (p : List ℕ) → text ≡ start ++ flat_map (λ y. 32 ∷ y) ps → new ≡ text ++ 32 ∷ p → new ≡ start ++ flat_map (λ y. 32 ∷ y) (ps ++ p ∷ [])
part_more start text new ps p h e =
    e ∙ ap (λ l. l ++ 32 ∷ p) h ∙ append_assoc start (flat_map (λ y. 32 ∷ y) ps) (32 ∷ p)
    ∙ ap (λ l. start ++ l) (ap (λ l. flat_map (λ y. 32 ∷ y) ps ++ l) (sym (append-nil (32 ∷ p))) ∙ sym (flat_map-append (λ y. 32 ∷ y) ps (p ∷ [])))

-- the line of an entry, written part by part
pub entry_of : (a b : ℕ) (c d e : List ℕ) (f : ℕ) (g : List ℕ) (t t1 t2 t3 t4 t5 t6 t7 t8 : List ℕ)
    → t1 ≡ t ++ codes "entry" → t2 ≡ t1 ++ flat_map (λ n. 32 ∷ decimal n) (a ∷ b ∷ []) → t3 ≡ t2 ++ 32 ∷ c → t4 ≡ t3 ++ 32 ∷ d → t5 ≡ t4 ++ 32 ∷ e
    → t6 ≡ t5 ++ flat_map (λ n. 32 ∷ decimal n) (f ∷ []) → t7 ≡ t6 ++ 32 ∷ g → t8 ≡ t7 ++ codes "\n"
    → t8 ≡ t ++ line (codes "entry" ∷ decimal a ∷ decimal b ∷ c ∷ d ∷ e ∷ decimal f ∷ g ∷ [])
entry_of a b c d e f g t t1 t2 t3 t4 t5 t6 t7 t8 h1 h2 h3 h4 h5 h6 h7 h8 =
    let s3 = part_more t1 t2 t3 (decimal a ∷ decimal b ∷ []) c h2 h3 in
    let s4 = part_more t1 t3 t4 (decimal a ∷ decimal b ∷ c ∷ []) d s3 h4 in
    let s5 = part_more t1 t4 t5 (decimal a ∷ decimal b ∷ c ∷ d ∷ []) e s4 h5 in
    let s6 = part_more t1 t5 t6 (decimal a ∷ decimal b ∷ c ∷ d ∷ e ∷ []) (decimal f) s5 (h6 ∙ ap (λ l. t5 ++ l) (append-nil (32 ∷ decimal f))) in
    let s7 = part_more t1 t6 t7 (decimal a ∷ decimal b ∷ c ∷ d ∷ e ∷ decimal f ∷ []) g s6 h7 in
    line_of (λ y. y) (codes "entry") (decimal a ∷ decimal b ∷ c ∷ d ∷ e ∷ decimal f ∷ g ∷ []) t t1 t7 t8 h1 s7 h8

-- the lines of entries that were written, and one more
pub entry_more : (before text new : List ℕ) (i : ℕ) (x d : Entry) (xs : List Entry) → text ≡ before ++ text_of (map entry_line (take i xs)) → new ≡ text ++ (entry_line x ++ 10 ∷ []) → x ≡ get_or xs i d → i < length xs
    → new ≡ before ++ text_of (map entry_line (take (i + 1) xs))
entry_more before text new i x d xs h e is within =
    one_more_written (λ y. entry_line y ++ 10 ∷ []) before text new i d xs (h ∙ ap (λ l. before ++ l) (flat_map-map (λ l. l ++ 10 ∷ []) entry_line (take i xs))) (e ∙ ap (λ y. text ++ (entry_line y ++ 10 ∷ [])) is) within
    ∙ ap (λ l. before ++ l) (sym (flat_map-map (λ l. l ++ 10 ∷ []) entry_line (take (i + 1) xs)))

-- the lines of a queue: its own, and then its entries'
pub entries_of : (head : List ℕ) (xs : List Entry) (i : ℕ) (start t1 text : List ℕ) → t1 ≡ start ++ (head ++ 10 ∷ []) → text ≡ t1 ++ text_of (map entry_line (take i xs)) → length xs ≤ i
    → text ≡ start ++ text_of (head ∷ map entry_line xs)
entries_of head xs i start t1 text a b l =
    b ∙ ap (λ ys. t1 ++ text_of (map entry_line ys)) (take_all i xs l) ∙ ap (λ t. t ++ text_of (map entry_line xs)) a ∙ append_assoc start (head ++ 10 ∷ []) (text_of (map entry_line xs))
