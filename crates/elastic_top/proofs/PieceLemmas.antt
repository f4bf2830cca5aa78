-- Lines that are written piece by piece.
use Rattle.std.proofs.Common.{◌≡◌, ℕ, ◌+◌, ◌<◌, List, [], ◌∷◌, ◌++◌, length, take, drop, map, get_or, Option, sym, ◌∙◌, ap, subst, append-nil}
use Rattle.std.specs.List.{concat}
use Rattle.std.proofs.lemmas.List.{take_more, map-append, take-append-drop}
use Rattle.std.proofs.lemmas.List.Folds.{concat-append}
use Rattle.el_io.specs.Outside.{IsCut}
use Rattle.elastic_top.specs.declared.line.Piece.{Piece}
use Rattle.elastic_top.specs.Lines.{piece_text, line_of, AreGathered}
use Rattle.elastic_top.proofs.Cuts.{cut_before, gathered_more, gathered_cut}

line_of-append : (ps qs : List Piece) → line_of (ps ++ qs) ≡ line_of ps ++ line_of qs
line_of-append ps qs = ap concat (map-append piece_text ps qs) ∙ concat-append (map piece_text ps) (map piece_text qs)

line_of-take : (i : ℕ) (ps : List Piece) (p : Piece) → i < length ps → p ≡ get_or ps i p → line_of (take (i + 1) ps) ≡ line_of (take i ps) ++ piece_text p
line_of-take i ps p within is =
    ap line_of (take_more ps i p within) ∙ line_of-append (take i ps) (get_or ps i p ∷ [])
    ∙ ap (λ q. line_of (take i ps) ++ q) (append-nil (piece_text (get_or ps i p)) ∙ ap piece_text (sym is))

line_of-split : (i : ℕ) (ps : List Piece) → line_of (take i ps) ++ line_of (drop i ps) ≡ line_of ps
line_of-split i ps = sym (line_of-append (take i ps) (drop i ps)) ∙ ap line_of (take-append-drop i ps)

-- one piece more
pub piece_more : (a b c : Option (List ℕ)) (h j : List ℕ) (i : ℕ) (ps : List Piece) (p : Piece) → AreGathered a b h (line_of (take i ps))
    → AreGathered b c j (h ++ piece_text p) → i < length ps → p ≡ get_or ps i p → AreGathered a c j (line_of (take (i + 1) ps))
piece_more a b c h j i ps p before now within is =
    subst (AreGathered a c j) (sym (line_of-take i ps p within is)) (gathered_more a b c h j (line_of (take i ps)) (piece_text p) before now)

-- a piece is cut, and so the line
pub piece_cut : (a b c : Option (List ℕ)) (h : List ℕ) (i : ℕ) (ps : List Piece) (p : Piece) → AreGathered a b h (line_of (take i ps))
    → IsCut b c (h ++ piece_text p) → i < length ps → p ≡ get_or ps i p → IsCut a c (line_of ps)
piece_cut a b c h i ps p before cut within is =
    subst (IsCut a c) (line_of-split (i + 1) ps)
    (cut_before a c (line_of (take (i + 1) ps)) (line_of (drop (i + 1) ps))
    (subst (IsCut a c) (sym (line_of-take i ps p within is)) (gathered_cut a b c h (line_of (take i ps)) (piece_text p) before cut)))
