-- Targets of edges: the widths of their arguments, and how many edges have one.
use Rattle.std.proofs.Common.{◌≡◌, ℕ, zero, suc, ◌+◌, List, [], ◌∷◌, ◌++◌, length, map, ap, refl, arith}
use Rattle.std.specs.Prelude.{cond, ◌==◌, slice_get, Some}
use Rattle.ir.specs.declared.graph.Block.{Block}
use Rattle.ir.specs.Graphs.{Graph}
use Rattle.circuit_build.specs.declared.draft.Edge.{Edge}
use Rattle.circuit_build.specs.Endings.{result_widths}

abbrev pub one_if : ℕ → ℕ → ℕ
one_if to t = cond (to == t) 1 0

abbrev pub occurs : ℕ → List Edge → ℕ
occurs t [] = 0
occurs t (e ∷ es) = one_if e.to t + occurs t es

pub occurs_more : (t : ℕ) (es : List Edge) (e : Edge) → occurs t (es ++ e ∷ []) ≡ occurs t es + one_if e.to t
occurs_more t [] e = omega arith
occurs_more t (x ∷ es) e = let i = occurs_more t es e in omega (arith, i)

abbrev pub tops_of : Graph → List (List ℕ)
tops_of g = map (λ (b : Block). b.args) g.blocks ++ result_widths g.result ∷ []

pub top_at : (ks : List Block) (r : List ℕ) (i : ℕ) (k : Block) → slice_get ks i ≡ Some k → slice_get (map (λ (b : Block). b.args) ks ++ r ∷ []) i ≡ Some k.args
top_at [] r i k e = absurd (cc)
top_at (x ∷ ks) r zero k e = let z : x ≡ k = cc in ap (λ (b : Block). Some b.args) z
top_at (x ∷ ks) r (suc i) k e = top_at ks r i k e

pub top_last : (ks : List Block) (r : List ℕ) (i : ℕ) → i ≡ length ks → slice_get (map (λ (b : Block). b.args) ks ++ r ∷ []) i ≡ Some r
top_last [] r zero e = refl
top_last [] r (suc i) e = absurd (omega arith)
top_last (x ∷ ks) r zero e = absurd (omega arith)
top_last (x ∷ ks) r (suc i) e = top_last ks r i (omega arith)
