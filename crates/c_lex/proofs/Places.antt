-- How places move on.
use Rattle.std.proofs.Common.{◌≡◌, ℕ, ◌+◌, ◌<◌, ◌≤◌, Bool, true, false, cond, ◌==◌, List, [], ◌∷◌, ◌++◌, length, take, get_or, refl, sym, ap, ◌∙◌, subst, arith}
use Rattle.std.proofs.lemmas.List.{take_more, length-take-le}
use Rattle.c_ast.specs.Tokens.{Place, place_after, after_byte, first_of_text}
use Rattle.c_lex.specs.declared.cursor.Cursor.{Cursor}
use Rattle.c_lex.specs.Cursors.{IsAt, cursor_after}

abbrev moved : Bool → Place → Place
moved t p = cond t (record { line = p.line + 1; column = 1 }) (record { line = p.line; column = p.column + 1 })

abbrev line_of : Place → ℕ
line_of p = p.line

abbrev column_of : Place → ℕ
column_of p = p.column

moved-line : (t : Bool) (p : Place) → (moved t p).line ≤ p.line + 1
moved-line true p = omega arith
moved-line false p = omega arith

moved-column : (t : Bool) (p : Place) → 1 ≤ p.column → (moved t p).column ≤ p.column + 1
moved-column true p low = omega arith
moved-column false p low = omega arith

moved-low : (t : Bool) (p : Place) → 1 ≤ (moved t p).column
moved-low true p = omega arith
moved-low false p = omega arith

line-le : (p : Place) (bs : List ℕ) → (place_after p bs).line ≤ p.line + length bs
unfolding place_after
line-le p [] = omega arith
line-le p (b ∷ bs) = let more = line-le (after_byte b p) bs in let one = moved-line (b == 10) p in omega (arith, more, one)

column-le : (p : Place) (bs : List ℕ) → 1 ≤ p.column → (place_after p bs).column ≤ p.column + length bs
unfolding place_after
column-le p [] low = omega arith
column-le p (b ∷ bs) low = let more = column-le (after_byte b p) bs (moved-low (b == 10) p) in let one = moved-column (b == 10) p low in omega (arith, more, one)

pub place-push : (p : Place) (bs : List ℕ) (b : ℕ) → place_after p (bs ++ b ∷ []) ≡ after_byte b (place_after p bs)
unfolding place_after
place-push p [] b = refl
place-push p (c ∷ bs) b = place-push (after_byte c p) bs b

place-more : (bs : List ℕ) (i : ℕ) → i < length bs → place_after first_of_text (take (i + 1) bs) ≡ after_byte (get_or bs i 0) (place_after first_of_text (take i bs))
place-more bs i within = ap (place_after first_of_text) (take_more bs i 0 within) ∙ place-push first_of_text (take i bs) (get_or bs i 0)

abbrev cursor_moved : Bool → Cursor → Cursor
cursor_moved t c = cond t (record { offset = c.offset + 1; line = c.line + 1; column = 1 }) (record { offset = c.offset + 1; line = c.line; column = c.column + 1 })

at_moved : (t : Bool) (bytes : List ℕ) (c : Cursor) → IsAt bytes c → c.offset < length bytes
    → place_after first_of_text (take (c.offset + 1) bytes) ≡ moved t (place_after first_of_text (take c.offset bytes)) → IsAt bytes (cursor_moved t c)
at_moved true bytes c at below is = record { within = omega arith; line = ap (λ n. n + 1) at.line ∙ sym (ap line_of is); column = sym (ap column_of is) }
at_moved false bytes c at below is = record { within = omega arith; line = at.line ∙ sym (ap line_of is); column = ap (λ n. n + 1) at.column ∙ sym (ap column_of is) }

moved-offset : (t : Bool) (c : Cursor) → (cursor_moved t c).offset ≡ c.offset + 1
moved-offset true c = refl
moved-offset false c = refl

-- the place of the next byte
pub at_more : (bytes : List ℕ) (c d : Cursor) (b i : ℕ) → IsAt bytes c → c.offset ≡ i → i < length bytes → b ≡ get_or bytes i 0 → d ≡ cursor_after b c → IsAt bytes d
at_more bytes c d b i at here below is next =
    let byte : b ≡ get_or bytes c.offset 0 = is ∙ ap (λ j. get_or bytes j 0) (sym here) in
    let step : place_after first_of_text (take (c.offset + 1) bytes) ≡ moved (b == 10) (place_after first_of_text (take c.offset bytes))
    = place-more bytes c.offset (omega (arith, here, below)) ∙ ap (λ a. after_byte a (place_after first_of_text (take c.offset bytes))) (sym byte) in
    subst (IsAt bytes) (sym next) (at_moved (b == 10) bytes c at (omega (arith, here, below)) step)

pub offset_more : (c d : Cursor) (b i : ℕ) → c.offset ≡ i → d ≡ cursor_after b c → d.offset ≡ i + 1
offset_more c d b i here next = ap (λ c. c.offset) next ∙ moved-offset (b == 10) c ∙ ap (λ n. n + 1) here

-- lines and columns are at most one more than the bytes before them
pub line_short : (bytes : List ℕ) (c : Cursor) → IsAt bytes c → c.line ≤ c.offset + 1
line_short bytes c at =
    let all = line-le first_of_text (take c.offset bytes) in
    let len : length (take c.offset bytes) ≡ c.offset = length-take-le c.offset bytes at.within in
    omega (arith, all, len, at.line)

pub column_short : (bytes : List ℕ) (c : Cursor) → IsAt bytes c → c.column ≤ c.offset + 1
column_short bytes c at =
    let all = column-le first_of_text (take c.offset bytes) (omega arith) in
    let len : length (take c.offset bytes) ≡ c.offset = length-take-le c.offset bytes at.within in
    omega (arith, all, len, at.column)
