-- A text that is written from the first line to the last.
use Rattle.std.proofs.Common.{◌≡◌, ℕ, List, [], ◌∷◌, ◌++◌, refl, sym, ap, ◌∙◌, append_assoc}
use Rattle.std.proofs.lemmas.List.{append-nil}
use Rattle.std.proofs.lemmas.List.Concat.{flat_map-append}
use Rattle.net_text.specs.Bodies.{text_of}

-- lines, and more lines
more_lines : (ls xs : List (List ℕ)) (old new : List ℕ) → old ≡ text_of ls → new ≡ old ++ text_of xs → new ≡ text_of (ls ++ xs)
more_lines ls xs old new e more = more ∙ ap (λ t. t ++ text_of xs) e ∙ sym (flat_map-append (λ l. l ++ 10 ∷ []) ls xs)

more_line : (ls : List (List ℕ)) (l old new : List ℕ) → old ≡ text_of ls → new ≡ old ++ (l ++ 10 ∷ []) → new ≡ text_of (ls ++ l ∷ [])
more_line ls l old new e more = more_lines ls (l ∷ []) old new e (more ∙ ap (λ t. old ++ t) (sym (append-nil (l ++ 10 ∷ []))))

in_order : (a b z : List ℕ) (c d e f g h i j : List (List ℕ)) → ((((((((((([] ++ a ∷ []) ++ b ∷ []) ++ c) ++ d) ++ e) ++ f) ++ g) ++ h) ++ i) ++ j) ++ z ∷ []) ≡ a ∷ b ∷ (c ++ (d ++ (e ++ (f ++ (g ++ (h ++ (i ++ (j ++ z ∷ []))))))))
in_order a b z c d e f g h i j = simp append_assoc refl

-- the whole text, from its parts
pub whole_text : (a b z : List ℕ) (c d e f g h i j : List (List ℕ)) (t0 t1 t2 t3 t4 t5 t6 t7 t8 t9 t10 t11 : List ℕ)
    → t0 ≡ [] → t1 ≡ t0 ++ (a ++ 10 ∷ []) → t2 ≡ t1 ++ (b ++ 10 ∷ []) → t3 ≡ t2 ++ text_of c → t4 ≡ t3 ++ text_of d → t5 ≡ t4 ++ text_of e → t6 ≡ t5 ++ text_of f
    → t7 ≡ t6 ++ text_of g → t8 ≡ t7 ++ text_of h → t9 ≡ t8 ++ text_of i → t10 ≡ t9 ++ text_of j → t11 ≡ t10 ++ (z ++ 10 ∷ [])
    → t11 ≡ text_of (a ∷ b ∷ (c ++ (d ++ (e ++ (f ++ (g ++ (h ++ (i ++ (j ++ z ∷ [])))))))))
whole_text a b z c d e f g h i j t0 t1 t2 t3 t4 t5 t6 t7 t8 t9 t10 t11 h0 h1 h2 h3 h4 h5 h6 h7 h8 h9 h10 h11 =
    let l1 : List (List ℕ) = [] ++ a ∷ [] in
    let l2 : List (List ℕ) = l1 ++ b ∷ [] in
    let s2 : t2 ≡ text_of l2 = more_line l1 b t1 t2 (more_line [] a t0 t1 h0 h1) h2 in
    let s4 : t4 ≡ text_of ((l2 ++ c) ++ d) = more_lines (l2 ++ c) d t3 t4 (more_lines l2 c t2 t3 s2 h3) h4 in
    let s6 : t6 ≡ text_of ((((l2 ++ c) ++ d) ++ e) ++ f) = more_lines (((l2 ++ c) ++ d) ++ e) f t5 t6 (more_lines ((l2 ++ c) ++ d) e t4 t5 s4 h5) h6 in
    let l6 : List (List ℕ) = (((l2 ++ c) ++ d) ++ e) ++ f in
    let s8 : t8 ≡ text_of ((l6 ++ g) ++ h) = more_lines (l6 ++ g) h t7 t8 (more_lines l6 g t6 t7 s6 h7) h8 in
    let s10 : t10 ≡ text_of ((((l6 ++ g) ++ h) ++ i) ++ j) = more_lines (((l6 ++ g) ++ h) ++ i) j t9 t10 (more_lines ((l6 ++ g) ++ h) i t8 t9 s8 h9) h10 in
    more_line ((((l6 ++ g) ++ h) ++ i) ++ j) z t10 t11 s10 h11 ∙ ap text_of (in_order a b z c d e f g h i j)
