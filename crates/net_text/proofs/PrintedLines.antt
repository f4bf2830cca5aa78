-- Lists that are written one item after another, as lists joined by a separator.
use Rattle.std.proofs.Common.{◌≡◌, ℕ, List, [], ◌∷◌, ◌++◌, ◌+◌, map, codes, decimal, get_or, sym, ap, refl, ◌∙◌, append_assoc, length, take, ◌≤◌, ◌<◌}
use Rattle.std.proofs.lemmas.List.{append-nil, map-append, take_all, take_more}
use Rattle.std.proofs.lemmas.List.Concat.{flat_map-append}
use Rattle.std.specs.List.{join_with_byte, flat_map}
use Rattle.net_types.specs.declared.net.Net.{Net}
use Rattle.net_text.specs.declared.version.Version.TheVariants.{Two}
use Rattle.net_text.specs.Pieces.{line}
use Rattle.net_text.specs.Texts.{unit_parts, chan_parts, header_lines, end_parts, net_text}

-- the first item, and then the separator before each other one
pub joined : {X : Type 0} (c : ℕ) (f : X → List ℕ) (x : List ℕ) (xs : List X) → join_with_byte c (x ∷ map f xs) ≡ x ++ flat_map (λ y. c ∷ f y) xs
joined c f x [] = sym (append-nil x)
joined c f x (y ∷ ys) = ap (λ l. x ++ c ∷ l) (joined c f (f y) ys)

pub flat_map-map : {X Y A : Type 0} (g : Y → List A) (f : X → Y) (xs : List X) → flat_map g (map f xs) ≡ flat_map (λ x. g (f x)) xs
flat_map-map g f [] = refl
flat_map-map g f (x ∷ xs) = ap (λ l. g (f x) ++ l) (flat_map-map g f xs)

-- a line that is written by its first words, and a space before each further part
pub line_written : {X : Type 0} (f : X → List ℕ) (text words : List ℕ) (xs : List X) → ((text ++ words) ++ flat_map (λ y. 32 ∷ f y) xs) ++ 10 ∷ [] ≡ text ++ line (words ∷ map f xs)
line_written f text words xs =
    ap (λ l. l ++ 10 ∷ []) (append_assoc text words (flat_map (λ y. 32 ∷ f y) xs))
    ∙ append_assoc text (words ++ flat_map (λ y. 32 ∷ f y) xs) (10 ∷ [])
    ∙ ap (λ l. text ++ (l ++ 10 ∷ [])) (sym (joined 32 f words xs))

-- a list that is written by its first item, and a separator before each other one
pub list_written : {X : Type 0} (c : ℕ) (f : X → List ℕ) (text : List ℕ) (x : X) (xs : List X) → (text ++ f x) ++ flat_map (λ y. c ∷ f y) xs ≡ text ++ join_with_byte c (map f (x ∷ xs))
list_written c f text x xs = append_assoc text (f x) (flat_map (λ y. c ∷ f y) xs) ∙ ap (λ l. text ++ l) (sym (joined c f (f x) xs))

-- the end of a line: its last sure part, and those that may follow
pub line_end : (part : List ℕ) (parts : List (List ℕ)) → part ++ (flat_map (λ y. 32 ∷ y) parts ++ 10 ∷ []) ≡ line (part ∷ parts)
line_end part [] = refl
line_end part (p ∷ ps) = ap (λ l. part ++ 32 ∷ l) (append_assoc p (flat_map (λ y. 32 ∷ y) ps) (10 ∷ []) ∙ line_end p ps) ∙ sym (append_assoc part (32 ∷ join_with_byte 32 (p ∷ ps)) (10 ∷ []))

-- a separator, and what follows it
pub with_separator : (c : ℕ) (text part one two : List ℕ) → one ≡ text ++ c ∷ [] → two ≡ one ++ part → two ≡ text ++ c ∷ part
with_separator c text part one two h e = e ∙ ap (λ l. l ++ part) h ∙ append_assoc text (c ∷ []) part

-- what a loop has written, after one item more
pub one_more_written : {X : Type 0} (g : X → List ℕ) (before text new : List ℕ) (i : ℕ) (x : X) (xs : List X)
    → text ≡ before ++ flat_map g (take i xs) → new ≡ text ++ g (get_or xs i x) → i < length xs → new ≡ before ++ flat_map g (take (i + 1) xs)
one_more_written g before text new i x xs h e within =
    e ∙ ap (λ t. t ++ g (get_or xs i x)) h ∙ append_assoc before (flat_map g (take i xs)) (g (get_or xs i x))
    ∙ ap (λ l. before ++ (flat_map g (take i xs) ++ l)) (sym (append-nil (g (get_or xs i x))))
    ∙ ap (λ l. before ++ l) (sym (flat_map-append g (take i xs) (get_or xs i x ∷ [])) ∙ ap (flat_map g) (sym (take_more xs i x within)))

pub letter_written : {X : Type 0} (f : X → ℕ) (before text new : List ℕ) (i : ℕ) (x : X) (xs : List X)
    → text ≡ before ++ map f (take i xs) → new ≡ text ++ f (get_or xs i x) ∷ [] → i < length xs → new ≡ before ++ map f (take (i + 1) xs)
letter_written f before text new i x xs h e within =
    e ∙ ap (λ t. t ++ f (get_or xs i x) ∷ []) h ∙ append_assoc before (map f (take i xs)) (f (get_or xs i x) ∷ [])
    ∙ ap (λ l. before ++ l) (sym (map-append f (take i xs) (get_or xs i x ∷ [])) ∙ ap (map f) (sym (take_more xs i x within)))

-- the lines that a loop has written, after that of one item more
pub line_more : {X : Type 0} (f : X → List (List ℕ)) (before text new : List ℕ) (i : ℕ) (x d : X) (xs : List X)
    → text ≡ before ++ flat_map line (map f (take i xs)) → new ≡ text ++ line (f x) → x ≡ get_or xs i d → i < length xs
    → new ≡ before ++ flat_map line (map f (take (i + 1) xs))
line_more f before text new i x d xs h e is within =
    one_more_written (λ y. line (f y)) before text new i d xs (h ∙ ap (λ l. before ++ l) (flat_map-map line f (take i xs))) (e ∙ ap (λ y. text ++ line (f y)) is) within
    ∙ ap (λ l. before ++ l) (sym (flat_map-map line f (take (i + 1) xs)))

-- a channel's line and a queue's, written piece by piece
pub chan_written : (t p q : List ℕ) (w s d : ℕ) (c : List (List ℕ)) (t1 t2 t3 t4 t5 t6 : List ℕ)
    → t1 ≡ t ++ codes "chan "
    → t2 ≡ t1 ++ p
    → t3 ≡ t2 ++ codes " "
    → t4 ≡ t3 ++ q
    → t5 ≡ t4 ++ flat_map (λ n. 32 ∷ decimal n) (w ∷ s ∷ d ∷ [])
    → t6 ≡ t5 ++ (flat_map (λ y. 32 ∷ y) c ++ 10 ∷ [])
    → t6 ≡ t ++ line (codes "chan" ∷ p ∷ q ∷ decimal w ∷ decimal s ∷ decimal d ∷ c)
chan_written t p q w s d c t1 t2 t3 t4 t5 t6 h1 h2 h3 h4 h5 h6 =
    h6 ∙ ap (λ l. l ++ (flat_map (λ y. 32 ∷ y) c ++ 10 ∷ [])) (h5 ∙ ap (λ l. l ++ flat_map (λ n. 32 ∷ decimal n) (w ∷ s ∷ d ∷ [])) (h4 ∙ ap (λ l. l ++ q) (h3 ∙ ap (λ l. l ++ codes " ") (h2 ∙ ap (λ l. l ++ p) h1))))
    ∙ simp append_assoc (ap (λ l. t ++ (codes "chan " ++ (p ++ 32 ∷ (q ++ 32 ∷ (decimal w ++ 32 ∷ (decimal s ++ 32 ∷ l)))))) (line_end (decimal d) c))

two_numbers : (a d : ℕ) → flat_map (λ n. 32 ∷ decimal n) (a ∷ d ∷ []) ≡ 32 ∷ (decimal a ++ 32 ∷ decimal d)
two_numbers a d = ap (λ l. 32 ∷ (decimal a ++ 32 ∷ l)) (append-nil (decimal d))

line_cons : (x y : List ℕ) (ys : List (List ℕ)) → x ++ 32 ∷ line (y ∷ ys) ≡ line (x ∷ y ∷ ys)
line_cons x y ys = sym (append_assoc x (32 ∷ join_with_byte 32 (y ∷ ys)) (10 ∷ []))

pieces_joined : (t u n s p g e : List ℕ) → ((((((t ++ u) ++ n) ++ s) ++ p) ++ s) ++ g) ++ e ≡ t ++ (u ++ (n ++ (s ++ (p ++ (s ++ (g ++ e))))))
pieces_joined t u n s p g e = simp append_assoc refl

queue_joined : (a d p g m : List ℕ) → (32 ∷ (a ++ 32 ∷ d)) ++ 32 ∷ (p ++ 32 ∷ (g ++ 32 ∷ line (m ∷ []))) ≡ 32 ∷ line (a ∷ d ∷ p ∷ g ∷ m ∷ [])
queue_joined a d p g m =
    ap (λ l. 32 ∷ l) (append_assoc a (32 ∷ d) (32 ∷ (p ++ 32 ∷ (g ++ 32 ∷ line (m ∷ []))))
    ∙ ap (λ l. a ++ 32 ∷ (d ++ 32 ∷ (p ++ 32 ∷ l))) (line_cons g m [])
    ∙ ap (λ l. a ++ 32 ∷ (d ++ 32 ∷ l)) (line_cons p g (m ∷ []))
    ∙ ap (λ l. a ++ 32 ∷ l) (line_cons d p (g ∷ m ∷ []))
    ∙ line_cons a d (p ∷ g ∷ m ∷ []))

pub queue_written : (t : List ℕ) (a d : ℕ) (p g m : List ℕ) (t1 t2 t3 t4 t5 t6 t7 : List ℕ)
    → t1 ≡ t ++ codes "unit lsq"
    → t2 ≡ t1 ++ flat_map (λ n. 32 ∷ decimal n) (a ∷ d ∷ [])
    → t3 ≡ t2 ++ codes " "
    → t4 ≡ t3 ++ p
    → t5 ≡ t4 ++ codes " "
    → t6 ≡ t5 ++ g
    → t7 ≡ t6 ++ 32 ∷ (m ++ 10 ∷ [])
    → t7 ≡ t ++ line (codes "unit" ∷ codes "lsq" ∷ decimal a ∷ decimal d ∷ p ∷ g ∷ m ∷ [])
queue_written t a d p g m t1 t2 t3 t4 t5 t6 t7 h1 h2 h3 h4 h5 h6 h7 =
    h7 ∙ ap (λ l. l ++ 32 ∷ (m ++ 10 ∷ [])) (h6 ∙ ap (λ l. l ++ g) (h5 ∙ ap (λ l. l ++ codes " ") (h4 ∙ ap (λ l. l ++ p) (h3 ∙ ap (λ l. l ++ codes " ") (h2 ∙ ap (λ l. t1 ++ l) (two_numbers a d) ∙ ap (λ l. l ++ 32 ∷ (decimal a ++ 32 ∷ decimal d)) h1)))))
    ∙ pieces_joined t (codes "unit lsq") (32 ∷ (decimal a ++ 32 ∷ decimal d)) (codes " ") p g (32 ∷ (m ++ 10 ∷ []))
    ∙ ap (λ l. t ++ (codes "unit lsq" ++ l)) (queue_joined (decimal a) (decimal d) p g m)

-- the whole text, from its parts
pub text_written : (net : Net) (header units chans text : List ℕ)
    → header ≡ flat_map line (header_lines Two net)
    → units ≡ header ++ flat_map line (map (unit_parts Two) net.units)
    → chans ≡ units ++ flat_map line (map chan_parts net.chans)
    → text ≡ chans ++ line end_parts
    → text ≡ net_text Two net
text_written net header units chans text h u c e =
    e ∙ ap (λ l. l ++ line end_parts) (c ∙ ap (λ l. l ++ flat_map line (map chan_parts net.chans)) (u ∙ ap (λ l. l ++ flat_map line (map (unit_parts Two) net.units)) h))
    ∙ ap (λ l. l ++ flat_map line (map chan_parts net.chans) ++ line end_parts) (sym (flat_map-append line (header_lines Two net) (map (unit_parts Two) net.units)))
    ∙ ap (λ l. l ++ line end_parts) (sym (flat_map-append line (header_lines Two net ++ map (unit_parts Two) net.units) (map chan_parts net.chans)))
    ∙ sym (flat_map-append line (header_lines Two net ++ map (unit_parts Two) net.units ++ map chan_parts net.chans) (end_parts ∷ []))

-- what a loop over all but the first item has written, where it has passed them all
pub loop_written : {X : Type 0} (c : ℕ) (f : X → List ℕ) (before first text : List ℕ) (i : ℕ) (x : X) (xs : List X)
    → first ≡ before ++ f x → text ≡ first ++ flat_map (λ y. c ∷ f y) (take i xs) → length xs ≤ i
    → text ≡ before ++ join_with_byte c (map f (x ∷ xs))
loop_written c f before first text i x xs e h l =
    h ∙ ap (λ ys. first ++ flat_map (λ y. c ∷ f y) ys) (take_all i xs l) ∙ ap (λ t. t ++ flat_map (λ y. c ∷ f y) xs) e ∙ list_written c f before x xs
