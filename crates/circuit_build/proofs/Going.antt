-- What jumps and loops lay, as the code has it at hand.
use Rattle.std.proofs.Common.{◌≡◌, ℕ, zero, suc, ◌+◌, ◌<◌, List, [], ◌∷◌, Bool, length, get_or, drop, refl, sym, ap, ◌∙◌, arith}
use Rattle.std.specs.Prelude.{cond}
use Rattle.std.proofs.lemmas.Bool.{eq-eqb}
use Rattle.ir.specs.declared.groups.Access.{Access}
use Rattle.circuit_build.specs.declared.draft.Draft.{Draft}
use Rattle.circuit_build.specs.declared.draft.End.{End}
use Rattle.circuit_build.specs.Drafts.{number, buffered}
use Rattle.circuit_build.specs.Steps.{allocated}
use Rattle.circuit_build.specs.Blocks.{allocations, after_block}
use Rattle.circuit_build.specs.Jumps.{is_of_head, all_passed, passed_ends, with_edge, gone}

pub gone_is : (to : ℕ) (vs : List ℕ) (d one two : Draft) (h n : ℕ) (b : Bool) (ends : List End) → h ≡ get_or d.heads to 0 → n ≡ number (length vs) → one ≡ all_passed h (number (length vs)) vs d
    → ends ≡ passed_ends h (number (length vs)) vs d → b ≡ is_of_head one.control h n → two ≡ cond b (buffered one) one → with_edge to two.control ends two ≡ gone to vs d
gone_is to vs d one two h n b ends e_h e_n e_one e_ends e_b e_two = rw (e_two, e_b, e_ends, e_one, e_n, e_h) refl

-- ---- the next item of a list

pub next_of : {A : Type 0} (xs : List A) (i : ℕ) (x : A) → i < length xs → x ≡ get_or xs i x → drop i xs ≡ x ∷ drop (i + 1) xs
next_of [] i x lt at = absurd (omega arith)
next_of (y ∷ xs) zero x lt at = ap (λ z. z ∷ xs) (sym at)
next_of (y ∷ xs) (suc i) x lt at = next_of xs i x (omega arith) at ∙ ap (λ n. x ∷ drop n (y ∷ xs)) (let e : suc (i + 1) ≡ suc i + 1 = omega arith in e)

-- ---- the accesses of a block

module _ (b i : ℕ) (xs : List Access) (x : Access) (lt : i < length xs) (at : x ≡ get_or xs i x) (same : x.block ≡ b) where
  pub one_allocated : (d : Draft) → allocations b (drop i xs) d ≡ allocations b (drop (i + 1) xs) (allocated x.array d)
  one_allocated d = ap (λ ys. allocations b ys d) (next_of xs i x lt at) ∙ ap (λ t. cond t (allocations b (drop (i + 1) xs) (allocated x.array d)) d) (eq-eqb x.block b same)

  pub one_after : after_block b (drop i xs) ≡ after_block b (drop (i + 1) xs)
  one_after = ap (after_block b) (next_of xs i x lt at) ∙ ap (λ t. cond t (after_block b (drop (i + 1) xs)) (x ∷ drop (i + 1) xs)) (eq-eqb x.block b same)
