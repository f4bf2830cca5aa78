-- Blocks that are made anew with edges that are held apart, one after the other.
use Rattle.std.proofs.Common.{◌≡◌, ℕ, ◌+◌, ◌<◌, ◌≤◌, List, [], ◌∷◌, ◌++◌, drop, length, get_or, sym, ◌∙◌, ap, append-nil, append_assoc}
use Rattle.ir.specs.declared.graph.Block.{Block}
use Rattle.block_merge.specs.declared.edges.OutEdges.{OutEdges}
use Rattle.block_merge.specs.OutEdges.{block_along, with_edges}
use Rattle.block_merge.proofs.WithEdges.{next_along, none_left}

pub more_remade : (bs : List Block) (ess : List OutEdges) (made : List Block) (b new : Block) (es : OutEdges) (i : ℕ) → length ess ≡ length bs → i < length bs → b ≡ get_or bs i b → es ≡ get_or ess i es
    → new ≡ block_along es b → made ++ drop i (with_edges bs ess) ≡ with_edges bs ess → made ++ new ∷ [] ++ drop (i + 1) (with_edges bs ess) ≡ with_edges bs ess
more_remade bs ess made b new es i l lt p q e h =
    append_assoc made (new ∷ []) (drop (i + 1) (with_edges bs ess))
    ∙ ap (λ x. made ++ x ∷ drop (i + 1) (with_edges bs ess)) e
    ∙ ap (λ ys. made ++ ys) (sym (next_along bs ess i b es l lt p q)) ∙ h

pub all_remade : (bs : List Block) (ess : List OutEdges) (made : List Block) (n : ℕ) → length bs ≤ n → made ++ drop n (with_edges bs ess) ≡ with_edges bs ess → made ≡ with_edges bs ess
all_remade bs ess made n le h = sym (append-nil made) ∙ ap (λ ys. made ++ ys) (sym (none_left bs ess n le)) ∙ h
