-- The files of a command, taken one by one; and what is known of their contents.
use Rattle.std.proofs.Common.{◌≡◌, ℕ, ◌+◌, ◌<◌, ◌≤◌, List, [], ◌∷◌, ◌++◌, length, take, get_or, refl, sym, ◌∙◌, ap, ap₂, subst, arith}
use Rattle.std.specs.Borrow.{Bor}
use Rattle.std.specs.declared.vec.Vec.{Vec}
use Rattle.std.specs.declared.alloc.Global.{Global}
use Rattle.std.proofs.lemmas.List.{take_more, map-append, length-take-le}
use Rattle.el_io.specs.Outside.{Told}
use Rattle.command_words.specs.declared.verb.PlainKind.{PlainKind}
use Rattle.command_words.specs.declared.verb.PlainKind.TheVariants.{File, Seed}
use Rattle.command_words.specs.Tables.{Text}
use Rattle.command_words.specs.Commands.{word_texts}
use Rattle.elastic_top.specs.Files.{wanted, limits_of, AreWithin}
use Rattle.elastic_top.specs.Reading.{AreHeld, contents_of}

wanted-append : (ks ls : List PlainKind) (ws vs : List Text) → length ws ≡ length ks → wanted (ks ++ ls) (ws ++ vs) ≡ wanted ks ws ++ wanted ls vs
wanted-append [] ls [] vs e = refl
wanted-append [] ls (w ∷ ws) vs e = absurd (omega (arith, e))
wanted-append (k ∷ ks) ls [] vs e = absurd (omega (arith, e))
wanted-append (File n ∷ ks) ls (w ∷ ws) vs e = ap (λ fs. record { name = w; limit = n } ∷ fs) (wanted-append ks ls ws vs (omega (arith, e)))
wanted-append (Seed ∷ ks) ls (w ∷ ws) vs e = wanted-append ks ls ws vs (omega (arith, e))

texts_more : (i : ℕ) (ws : List (Bor (List ℕ))) (w : Bor (List ℕ)) → i < length ws → w ≡ get_or ws i w
    → word_texts (take (i + 1) ws) ≡ word_texts (take i ws) ++ w.now ∷ []
texts_more i ws w within is =
    ap word_texts (take_more ws i w within ∙ ap (λ x. take i ws ++ x ∷ []) (sym is)) ∙ map-append (λ x. x.now) (take i ws) (w ∷ [])

pub length-texts : (ws : List (Bor (List ℕ))) → length (word_texts ws) ≡ length ws
length-texts [] = refl
length-texts (w ∷ ws) = omega (arith, length-texts ws)

pub wanted_more : (i : ℕ) (ks : List PlainKind) (ws : List (Bor (List ℕ))) (k : PlainKind) (w : Bor (List ℕ)) → i < length ks → i < length ws
    → k ≡ get_or ks i k → w ≡ get_or ws i w
    → wanted (take (i + 1) ks) (word_texts (take (i + 1) ws)) ≡ wanted (take i ks) (word_texts (take i ws)) ++ wanted (k ∷ []) (w.now ∷ [])
wanted_more i ks ws k w in_kinds in_words k_is w_is =
    let few : length (word_texts (take i ws)) ≡ length (take i ks) =
    length-texts (take i ws) ∙ length-take-le i ws (omega arith) ∙ sym (length-take-le i ks (omega arith)) in
    ap₂ wanted (take_more ks i k in_kinds ∙ ap (λ x. take i ks ++ x ∷ []) (sym k_is)) (texts_more i ws w in_words w_is)
    ∙ wanted-append (take i ks) (k ∷ []) (word_texts (take i ws)) (w.now ∷ []) few

-- contents that are held are as many as the files, and within their limits
pub held_within : (holds : Text → Told) (ks : List PlainKind) (ws contents : List Text) → length ws ≡ length ks → AreHeld holds (wanted ks ws) contents
    → AreWithin (limits_of ks) contents
held_within holds [] ws [] e held = tt
held_within holds [] ws (b ∷ bs) e held = absurd held
held_within holds (k ∷ ks) [] contents e held = absurd (omega (arith, e))
held_within holds (File n ∷ ks) (w ∷ ws) [] e held = absurd held
held_within holds (File n ∷ ks) (w ∷ ws) (b ∷ bs) e held = (held.0.bound, held_within holds ks ws bs (omega (arith, e)) held.1)
held_within holds (Seed ∷ ks) (w ∷ ws) bs e held = held_within holds ks ws bs (omega (arith, e)) held

pub within_count : (limits : List ℕ) (contents : List Text) → AreWithin limits contents → length contents ≡ length limits
within_count [] [] h = refl
within_count [] (b ∷ bs) h = absurd h
within_count (n ∷ ns) [] h = absurd h
within_count (n ∷ ns) (b ∷ bs) h = omega (arith, within_count ns bs h.1)

pub length-contents : (cs : List (Vec ℕ Global)) → length (contents_of cs) ≡ length cs
length-contents [] = refl
length-contents (c ∷ cs) = omega (arith, length-contents cs)

pub first_within : (n : ℕ) (ns : List ℕ) (cs : List (Vec ℕ Global)) (b : Vec ℕ Global) → AreWithin (n ∷ ns) (contents_of cs) → b ≡ get_or cs 0 b → length b.items ≤ n
first_within n ns [] b h e = absurd h
first_within n ns (c ∷ cs) b h e = subst (λ x. length x.items ≤ n) (sym e) h.0
