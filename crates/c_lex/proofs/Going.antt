-- How the loops go on.
use Rattle.std.proofs.Common.{◌≡◌, ℕ, ◌+◌, ◌≤◌, Bool, true, false, cond, List, [], ◌∷◌, ◌++◌, length, drop, replicate, Option, Some, None, refl, sym, ap, ◌∙◌, subst, append_assoc}
use Rattle.std.proofs.lemmas.List.{drop-drop, append-nil, drop_all}
use Rattle.std.specs.Prelude.{bytes_eq}
use Rattle.c_ast.specs.Pieces.{comment_len}
use Rattle.c_ast.specs.Pieces as spec
use Rattle.c_lex.specs.Turns.{turn_of, LexedSoFar}
use Rattle.c_lex.specs.declared.turn.Turn.{Turn}
use Rattle.c_ast.specs.Tokens.{End, whole, broken, Blanked, ends, byte, comment, comment_end, end_or, redefined, span_at, number_for, define_by, directive_by, Defined, goes, stops, turn, Lexed, stop, piece}
use Rattle.c_ast.specs.declared.token.Token.{Token}

end_or_assoc : (a b c : End) → end_or (end_or a b) c ≡ end_or a (end_or b c)
end_or_assoc whole b c = refl
end_or_assoc (broken f s) b c = refl

end_or-whole : (a : End) → end_or a whole ≡ a
end_or-whole whole = refl
end_or-whole (broken f s) = refl

-- what the rest of a text is blanked to goes on what was blanked before
abbrev pub BlankedSoFar : List ℕ → ℕ → List ℕ → End → Type 0
BlankedSoFar bytes k done e = (more : List ℕ) (f : End) → Blanked bytes k (drop k bytes) more f → Blanked bytes 0 bytes (done ++ more) (end_or e f)

pub blanked_first : (bytes done : List ℕ) (k : ℕ) → k ≡ 0 → done ≡ [] → BlankedSoFar bytes k done whole
blanked_first bytes done k start none more f d =
    subst (λ x. Blanked bytes 0 bytes (x ++ more) f) (sym none) (subst (λ j. Blanked bytes j (drop j bytes) more f) start d)

pub blanked_byte : (bytes done now : List ℕ) (k j b : ℕ) (rest : List ℕ) (e : End) → BlankedSoFar bytes k done e → drop k bytes ≡ b ∷ rest → comment_len (drop k bytes) ≡ None
    → now ≡ done ++ b ∷ [] → j ≡ k + 1 → BlankedSoFar bytes j now e
blanked_byte bytes done now k j b rest e before here none is on more f d =
    let next : drop j bytes ≡ rest = ap (λ i. drop i bytes) on ∙ sym (drop-drop 1 k bytes) ∙ ap (drop 1) here in
    let d1 : Blanked bytes (k + 1) rest more f = subst (λ x. Blanked bytes (k + 1) x more f) next (subst (λ i. Blanked bytes i (drop j bytes) more f) on d) in
    let d2 : Blanked bytes k (drop k bytes) (b ∷ more) f = subst (λ x. Blanked bytes k x (b ∷ more) f) (sym here) (byte k b rest more f (ap comment_len (sym here) ∙ none) d1) in
    subst (λ x. Blanked bytes 0 bytes x (end_or e f)) (sym (append_assoc done (b ∷ []) more) ∙ ap (λ x. x ++ more) (sym is)) (before (b ∷ more) f d2)

pub blanked_comment : (bytes done now : List ℕ) (k j n : ℕ) (e g : End) → BlankedSoFar bytes k done e → comment_len (drop k bytes) ≡ Some n
    → now ≡ done ++ replicate n 32 → g ≡ end_or e (comment_end bytes k (drop k bytes) n) → j ≡ k + n → BlankedSoFar bytes j now g
blanked_comment bytes done now k j n e g before some is ended on more f d =
    let d1 : Blanked bytes (k + n) (drop n (drop k bytes)) more f = subst (λ x. Blanked bytes (k + n) x more f) (sym (drop-drop n k bytes)) (subst (λ i. Blanked bytes i (drop i bytes) more f) on d) in
    let d2 = comment k n (drop k bytes) more f some d1 in
    let d3 = before (replicate n 32 ++ more) (end_or (comment_end bytes k (drop k bytes) n) f) d2 in
    let d4 = subst (λ x. Blanked bytes 0 bytes x (end_or e (end_or (comment_end bytes k (drop k bytes) n) f))) (sym (append_assoc done (replicate n 32) more) ∙ ap (λ x. x ++ more) (sym is)) d3 in
    subst (λ x. Blanked bytes 0 bytes (now ++ more) x) (sym (end_or_assoc e (comment_end bytes k (drop k bytes) n) f) ∙ ap (λ x. end_or x f) (sym ended)) d4

pub blanked_whole : (bytes done : List ℕ) (k : ℕ) (e : End) → BlankedSoFar bytes k done e → length bytes ≤ k → Blanked bytes 0 bytes done e
blanked_whole bytes done k e before past =
    let d : Blanked bytes k (drop k bytes) [] whole = subst (λ x. Blanked bytes k x [] whole) (sym (drop_all k bytes past)) (ends k) in
    subst (λ x. Blanked bytes 0 bytes x e) (append-nil done) (subst (λ x. Blanked bytes 0 bytes (done ++ []) x) (end_or-whole e) (before [] whole d))

-- ---- tokens

pub lexed_first : (bytes text : List ℕ) (k : ℕ) (ds : Defined) (done : List Token) → k ≡ 0 → ds ≡ [] → done ≡ [] → LexedSoFar bytes text k true ds done
lexed_first bytes text k ds done start none_known none more f d =
    let d1 = subst (λ j. Lexed bytes j true ds (drop j text) more f) start d in
    subst (λ x. Lexed bytes 0 true [] text (x ++ more) f) (sym none) (subst (λ x. Lexed bytes 0 true x text more f) none_known d1)

pub lexed_more : (bytes text : List ℕ) (k j n : ℕ) (first later : Bool) (ds known after : Defined) (done now ts : List Token) → LexedSoFar bytes text k first ds done
    → turn bytes k first ds (drop k text) ≡ goes n later known ts → j ≡ k + n → now ≡ done ++ ts → after ≡ known → LexedSoFar bytes text j later after now
lexed_more bytes text k j n first later ds known after done now ts before is on added same more f d =
    let d1 : Lexed bytes (k + n) later known (drop n (drop k text)) more f = subst (λ x. Lexed bytes (k + n) later known x more f) (sym (drop-drop n k text))
    (subst (λ i. Lexed bytes i later known (drop i text) more f) on (subst (λ x. Lexed bytes j later x (drop j text) more f) same d)) in
    let d2 = piece k n first later ds known (drop k text) ts more f is d1 in
    subst (λ x. Lexed bytes 0 true [] text x f) (sym (append_assoc done ts more) ∙ ap (λ x. x ++ more) (sym added)) (before (ts ++ more) f d2)

-- what a piece does, in the words of the definition
pub turned : (bytes text rest : List ℕ) (k : ℕ) (first : Bool) (ds : Defined) (t u : Turn) → rest ≡ text → t ≡ u → turn_of bytes k ds t ≡ turn bytes k first ds rest → turn bytes k first ds text ≡ turn_of bytes k ds u
turned bytes text rest k first ds t u same is says = ap (turn bytes k first ds) (sym same) ∙ sym says ∙ ap (turn_of bytes k ds) is

-- a name that is defined again with another spelling
pub redefined_turn : (bytes : List ℕ) (k at len j m : ℕ) (ds : Defined) (d : Option spec.Directive) (name : List ℕ) (n known : spec.Numeral) (t : Turn)
    → d ≡ Some (spec.defines name at n len) → Some known ≡ number_for ds name → false ≡ bytes_eq known.spelling n.spelling
    → turn_of bytes k ds t ≡ stops (broken redefined (span_at bytes j m)) → j ≡ k + at → m ≡ length name
    → turn_of bytes k ds t ≡ directive_by bytes k ds d
redefined_turn bytes k at len j m ds d name n known t is found differs says on long =
    let there : span_at bytes j m ≡ span_at bytes (k + at) (length name) = ap (λ i. span_at bytes i m) on ∙ ap (span_at bytes (k + at)) long in
    says ∙ ap (λ s. stops (broken redefined s)) there
    ∙ ap (λ b. cond b (goes len false ds []) (stops (broken redefined (span_at bytes (k + at) (length name))))) differs
    ∙ ap (define_by ds name (span_at bytes (k + at) (length name)) n len) found
    ∙ ap (directive_by bytes k ds) (sym is)

pub lexed_stop : (bytes text : List ℕ) (k : ℕ) (first : Bool) (ds : Defined) (done : List Token) (e : End) → LexedSoFar bytes text k first ds done
    → turn bytes k first ds (drop k text) ≡ stops e → Lexed bytes 0 true [] text done e
lexed_stop bytes text k first ds done e before is =
    subst (λ x. Lexed bytes 0 true [] text x e) (append-nil done) (before [] e (stop k first ds (drop k text) e is))

ends_there : (bytes : List ℕ) (k : ℕ) (first : Bool) (ds : Defined) (text : List ℕ) → text ≡ [] → turn bytes k first ds text ≡ stops whole
unfolding turn
ends_there bytes k first ds text none = ap (turn bytes k first ds) none

pub lexed_whole : (bytes text : List ℕ) (k : ℕ) (first : Bool) (ds : Defined) (done : List Token) → LexedSoFar bytes text k first ds done → length text ≤ k → Lexed bytes 0 true [] text done whole
lexed_whole bytes text k first ds done before past = lexed_stop bytes text k first ds done whole before (ends_there bytes k first ds (drop k text) (drop_all k text past))
