-- Changes that keep a step's width and value, and what they say as rewritings.
use Rattle.std.proofs.Common.{◌≡◌, ℕ, zero, suc, ◌+◌, ◌^◌, ◌<◌, List, [], ◌∷◌, ◌++◌, length, Option, Some, get_or, refl, sym, ◌∙◌, ap, subst, add-zero, arith, length-append}
use Rattle.std.specs.Prelude.{slice_get}
use Rattle.std.proofs.lemmas.Option.{slice_get_within}
use Rattle.std.proofs.Math.ListN.{get_or-append}
use Rattle.std.proofs.Math.Seq.{get_or-append_seam}
use Rattle.el_base.specs.declared.ty.Array.{Array}
use Rattle.el_base.specs.declared.operation.Op1.{Op1}
use Rattle.el_base.specs.Widths.{op1_in, op1_out}
use Rattle.word_ops.specs.Operations.{op1_result}
use Rattle.ir.specs.declared.instr.Instr.{Instr}
use Rattle.ir.specs.declared.instr.Instr.TheVariants.{Const, One, Two, Select, Load, Store}
use Rattle.ir.specs.Shapes.{Shape, IsOfWidth, IsWidth, StepFits, step_width}
use Rattle.ir.specs.Steps.{value_at, step_value, step_arrays}
use Rattle.ir.proofs.Fitting.{behind}
use Rattle.block_rules.specs.declared.change.Change.{Change}
use Rattle.block_rules.specs.declared.change.Change.TheVariants.{Stays, Is, Becomes, BecomesTwo}
use Rattle.block_rules.specs.declared.kind.Kind.{Kind}
use Rattle.block_rules.specs.declared.kind.Word.{Word}
use Rattle.block_rules.specs.Known.{IsPure, pure_value}
use Rattle.block_rules.specs.Kinds.{bits, operation}
use Rattle.block_rules.specs.Changes.{rewriting_of}
use Rattle.block_rules.specs.Laws.{IsRight}
use Rattle.block_rules.proofs.Operations.{kind_on, width_out, in-operation, out-operation, operation-below, word-width}

-- a pure step that fits and has that width and value
pub record IsStep (arrays : List Array) (ws : Shape) (vs : List ℕ) (w x : ℕ) (i : Instr) : Type 0 where
  pub pure : IsPure i
  pub fits : StepFits arrays ws i
  pub width : step_width arrays i ≡ Some w
  pub value : pure_value i vs ≡ x

-- a second step behind a first
pub record IsSecond (arrays : List Array) (ws : Shape) (vs : List ℕ) (w x : ℕ) (i j : Instr) : Type 0 where
  pub pure : IsPure i
  pub fits : StepFits arrays ws i
  pub then : IsStep arrays (ws ++ step_width arrays i ∷ []) (vs ++ pure_value i vs ∷ []) w x j

abbrev pub IsChange : List Array → Shape → List ℕ → ℕ → ℕ → Change → Type 0
IsChange arrays ws vs w x Stays = Unit {0}
IsChange arrays ws vs w x (Is v) = IsOfWidth ws v w × (value_at vs v ≡ x)
IsChange arrays ws vs w x (Becomes i) = IsStep arrays ws vs w x i
IsChange arrays ws vs w x (BecomesTwo i j) = IsSecond arrays ws vs w x i j

pure_arrays : (i : Instr) (vs : List ℕ) (arrays : List (List ℕ)) → IsPure i → step_arrays i vs arrays ≡ arrays
pure_arrays (Const w n) vs arrays h = refl
pure_arrays (One op a) vs arrays h = refl
pure_arrays (Two op a b) vs arrays h = refl
pure_arrays (Select w c a b) vs arrays h = refl
pure_arrays (Load a p) vs arrays h = absurd h
pure_arrays (Store a p v) vs arrays h = absurd h

one_pure : (i : Instr) → IsPure i → (k : ℕ) (d : Instr) → k < 1 → IsPure (get_or (i ∷ []) k d)
one_pure i h zero d lt = h
one_pure i h (suc k) d lt = absurd (omega arith)

two_pure : (i j : Instr) → IsPure i → IsPure j → (k : ℕ) (d : Instr) → k < 2 → IsPure (get_or (i ∷ j ∷ []) k d)
two_pure i j h g zero d lt = h
two_pure i j h g (suc zero) d lt = g
two_pure i j h g (suc (suc k)) d lt = absurd (omega arith)

-- the value behind others
last_value : (vs : List ℕ) (x k : ℕ) → k ≡ length vs → value_at (vs ++ x ∷ []) k ≡ x
last_value vs x k e = ap (value_at (vs ++ x ∷ [])) e ∙ get_or-append_seam vs x [] 0

last_width : (ws : Shape) (o : Option ℕ) (k : ℕ) → k ≡ length ws → slice_get (ws ++ o ∷ []) k ≡ Some o
last_width ws o k e = ap (slice_get (ws ++ o ∷ [])) e ∙ behind ws o

pub change_right : (arrays : List Array) (ws : Shape) (vs : List ℕ) (w x : ℕ) (c : Change) → length ws ≡ length vs
    → IsChange arrays ws vs w x c → IsRight arrays ws vs w x (rewriting_of c)
change_right arrays ws vs w x Stays long h = tt
change_right arrays ws vs w x (Is v) long h = h
change_right arrays ws vs w x (Becomes i) long h = record {
  last = 0;
  some = refl;
  pure = one_pure i h.pure;
  fit = (h.fits, tt);
  width = last_width ws (step_width arrays i) (length ws + 0) (add-zero (length ws)) ∙ ap Some h.width;
  value = last_value vs (pure_value i vs) (length ws + 0) (add-zero (length ws) ∙ long) ∙ h.value;
}
change_right arrays ws vs w x (BecomesTwo i j) long h =
    let o = step_width arrays i in
    let y = pure_value i vs in
    let us = ws ++ o ∷ [] in
    let xs = vs ++ y ∷ [] in
    let z = step_value j xs (step_arrays i vs []) in
    let there : length ws + 1 ≡ length us = omega (arith, length-append ws (o ∷ [])) in
    let here : length ws + 1 ≡ length xs = omega (arith, length-append vs (y ∷ []), long) in
    record {
      last = 1;
      some = refl;
      pure = two_pure i j h.pure h.then.pure;
      fit = (h.fits, (h.then.fits, tt));
      width = last_width us (step_width arrays j) (length ws + 1) there ∙ ap Some h.then.width;
      value = last_value xs z (length ws + 1) here ∙ ap (step_value j xs) (pure_arrays i vs [] h.pure) ∙ h.then.value;
    }

-- a width that stays when one more value stands behind
wider : (ws : Shape) (o : Option ℕ) (a w : ℕ) → IsOfWidth ws a w → IsOfWidth (ws ++ o ∷ []) a w
wider [] o a w h = absurd (omega (arith, slice_get_within [] a (Some w) h))
wider (x ∷ ws) o zero w h = h
wider (x ∷ ws) o (suc a) w h = wider ws o a w h

-- ---- steps that rules make

module _ (arrays : List Array) (ws : Shape) (vs : List ℕ) where
  pub const_step : (w c : ℕ) → IsWidth w → c < 2 ^ w → IsStep arrays ws vs w c (Const w c)
  const_step w c h g = record { pure = tt; fits = (h, g); width = refl; value = refl }

  -- an operation on one value
  pub one_step : (op : Op1) (a u w x : ℕ) → op1_in op ≡ u → op1_out op ≡ w → IsOfWidth ws a u → op1_result op (value_at vs a) ≡ x → IsStep arrays ws vs w x (One op a)
  one_step op a u w x i o h e = record { pure = tt; fits = subst (λ (k : ℕ). IsOfWidth ws a k) (sym i) h; width = ap Some o; value = e }

  -- an operation on two values of a word's width
  pub two_step : (k : Kind) (w : Word) (a b x : ℕ) → IsOfWidth ws a (bits w) → IsOfWidth ws b (bits w) → value_at vs a < 2 ^ bits w → value_at vs b < 2 ^ bits w
      → kind_on k (bits w) (value_at vs a) (value_at vs b) ≡ x → IsStep arrays ws vs (width_out k (bits w)) x (Two (operation k w) a b)
  two_step k w a b x h g lt less e =
      let i = sym (in-operation k w) in
      record {
        pure = tt;
        fits = (subst (λ (u : ℕ). IsOfWidth ws a u) i h, subst (λ (u : ℕ). IsOfWidth ws b u) i g);
        width = ap Some (out-operation k w);
        value = operation-below k w (value_at vs a) (value_at vs b) lt less ∙ e;
      }

-- an operation on a value and a new constant
pub by_new : (arrays : List Array) (ws : Shape) (vs : List ℕ) (k : Kind) (w : Word) (m a c x : ℕ) → length ws ≡ length vs → m ≡ length ws
    → IsOfWidth ws a (bits w) → value_at vs a < 2 ^ bits w → c < 2 ^ bits w → kind_on k (bits w) (value_at vs a) c ≡ x
    → IsSecond arrays ws vs (width_out k (bits w)) x (Const (bits w) c) (Two (operation k w) a m)
by_new arrays ws vs k w m a c x long next h lt less e =
    let us = ws ++ Some (bits w) ∷ [] in
    let xs = vs ++ c ∷ [] in
    let in_front : a < length vs = omega (arith, slice_get_within ws a (Some (bits w)) h, long) in
    let old : value_at xs a ≡ value_at vs a = get_or-append vs (c ∷ []) 0 a in_front in
    let new : value_at xs m ≡ c = last_value vs c m (next ∙ long) in
    record {
      pure = tt;
      fits = (word-width w, less);
      then = two_step arrays us xs k w a m x (wider ws (Some (bits w)) a (bits w) h) (last_width ws (Some (bits w)) m next)
          (subst (λ (v : ℕ). v < 2 ^ bits w) (sym old) lt) (subst (λ (v : ℕ). v < 2 ^ bits w) (sym new) less)
          ((λ i. kind_on k (bits w) (old i) (new i)) ∙ e);
    }
