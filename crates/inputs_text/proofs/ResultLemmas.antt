-- The lines of arrays, one after another, and their numbers.
use Rattle.std.proofs.Common.{◌≡◌, ℕ, suc, ◌+◌, ◌<◌, List, [], ◌∷◌, ◌++◌, codes, length, take, drop, get_or, refl, sym, ap, ◌∙◌, add-one, append_assoc, drop-cons}
use Rattle.std.proofs.lemmas.List.{append-nil, take_more}
use Rattle.std.proofs.lemmas.List.Concat.{flat_map-append}
use Rattle.el_base.specs.declared.ty.Ty.{Ty}
use Rattle.el_base.specs.declared.ty.Array.{Array}
use Rattle.inputs_text.specs.Results.{array_lines, numbers_line, spaced, written}

-- the lines from one array on are its own and those after it
pub lines_from : (arrays : List Array) (values : List (List ℕ)) (i : ℕ) (a : Array) (ps : List ℕ) → i < length arrays → i < length values → a ≡ get_or arrays i a → ps ≡ get_or values i ps
    → array_lines (drop i arrays) (drop i values) ≡ numbers_line a.name a.ty ps ++ array_lines (drop (i + 1) arrays) (drop (i + 1) values)
lines_from arrays values i a ps here there is are =
    let first : drop i arrays ≡ a ∷ drop (i + 1) arrays = rw add-one (drop-cons arrays i a here ∙ ap (λ x. x ∷ drop (suc i) arrays) (sym is)) in
    let second : drop i values ≡ ps ∷ drop (i + 1) values = rw add-one (drop-cons values i ps there ∙ ap (λ x. x ∷ drop (suc i) values) (sym are)) in
    ap (λ xs. array_lines xs (drop i values)) first ∙ ap (λ vs. array_lines (a ∷ drop (i + 1) arrays) vs) second

-- the numbers that a loop has written, and one more
pub number_more : (ty : Ty) (before text one two : List ℕ) (i p : ℕ) (ps : List ℕ)
    → text ≡ before ++ spaced ty (take i ps) → one ≡ text ++ 32 ∷ [] → two ≡ one ++ written ty (get_or ps i p) → i < length ps
    → two ≡ before ++ spaced ty (take (i + 1) ps)
number_more ty before text one two i p ps h o t within =
    let number = written ty (get_or ps i p) in
    t ∙ ap (λ l. l ++ number) o ∙ append_assoc text (32 ∷ []) number ∙ ap (λ l. l ++ 32 ∷ number) h ∙ append_assoc before (spaced ty (take i ps)) (32 ∷ number)
    ∙ ap (λ l. before ++ (spaced ty (take i ps) ++ l)) (sym (append-nil (32 ∷ number)))
    ∙ ap (λ l. before ++ l) (sym (flat_map-append (λ q. 32 ∷ written ty q) (take i ps) (get_or ps i p ∷ [])) ∙ ap (spaced ty) (sym (take_more ps i p within)))

-- a line, written piece by piece
pieces_joined : (t a b c d : List ℕ) → (((t ++ a) ++ b) ++ c) ++ d ≡ t ++ (((a ++ b) ++ c) ++ d)
pieces_joined t a b c d = simp append_assoc refl

pub line_written : (ty : Ty) (t name : List ℕ) (ps t1 t2 t3 t4 : List ℕ) → t1 ≡ t ++ name → t2 ≡ t1 ++ codes " =" → t3 ≡ t2 ++ spaced ty ps → t4 ≡ t3 ++ 10 ∷ [] → t4 ≡ t ++ numbers_line name ty ps
line_written ty t name ps t1 t2 t3 t4 h1 h2 h3 h4 =
    h4 ∙ ap (λ l. l ++ 10 ∷ []) (h3 ∙ ap (λ l. l ++ spaced ty ps) (h2 ∙ ap (λ l. l ++ codes " =") h1))
    ∙ pieces_joined t name (codes " =") (spaced ty ps) (10 ∷ [])
