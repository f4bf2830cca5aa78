-- What laid steps make, one laying after another.
use Rattle.std.proofs.Common.{◌≡◌, ℕ, ◌+◌, ◌<◌, List, [], ◌∷◌, ◌++◌, length, get_or, Option, Some, None, refl, sym, ◌∙◌, ap, subst, arith, length-append, append_assoc, append-nil}
use Rattle.std.specs.Prelude.{if◌then◌else◌}
use Rattle.std.proofs.lemmas.Bool.{ne_eqb}
use Rattle.std.proofs.lemmas.List.{get_or_append_left}
use Rattle.std.proofs.Math.Seq.{get_or-append_seam}
use Rattle.el_base.specs.declared.operation.Op1.{Op1}
use Rattle.el_base.specs.declared.operation.Op2.{Op2}
use Rattle.word_ops.specs.Operations.{op1_result, op2_result}
use Rattle.ir.specs.declared.instr.Instr.{Instr}
use Rattle.ir.specs.declared.instr.Instr.TheVariants.{Const, One, Two, Select, Load, Store}
use Rattle.ir.specs.Steps.{Work, value_at, through, after_step, step_value, chosen_of}
use Rattle.ir.specs.Accesses.{is_access, accesses_in}
use Rattle.c_meaning.specs.Stores.{Store as Memory, Objects}
use Rattle.c_meaning.specs.Patterns.{converted_by}
use Rattle.struct_cfg.specs.Layings.{Laid, Laying, no_step, one_step, after, applied}
use Rattle.struct_cfg.specs.Seen.{IsValue, Sees, Adds, Makes}

pub through_append : (is js : List Instr) (w : Work) → through (is ++ js) w ≡ through js (through is w)
through_append [] js w = refl
through_append (i ∷ is) js w = through_append is js (after_step i w)

pub length_through : (is : List Instr) (w : Work) → length (through is w).values ≡ length w.values + length is
length_through [] w = omega arith
length_through (i ∷ is) w =
    let v = step_value i w.values w.arrays ∷ [] in
    omega (arith, length_through is (after_step i w), length-append w.values v)

-- ---- values are added

pub adds_none : (w : Work) → Adds w w
adds_none w = record { grown = []; values = sym (append-nil w.values); arrays = refl; strays = refl }

pub adds_then : (w u x : Work) → Adds w u → Adds u x → Adds w x
adds_then w u x a b = record {
  grown = a.grown ++ b.grown;
  values = b.values ∙ ap (λ vs. vs ++ b.grown) a.values ∙ append_assoc w.values a.grown b.grown;
  arrays = b.arrays ∙ a.arrays;
  strays = b.strays ∙ a.strays;
}

pub later : (w u : Work) (v p : ℕ) → Adds w u → IsValue w v p → IsValue u v p
later w u v p a i = record {
  below = omega (arith, i.below, ap length a.values ∙ length-append w.values a.grown);
  is = ap (λ vs. value_at vs v) a.values ∙ get_or_append_left w.values a.grown 0 v i.below ∙ i.is;
}

pub still_seen : (k : Objects) (env : List ℕ) (w u : Work) (s : Memory) → Adds w u → Sees k env w s → Sees k env u s
still_seen k env w u s a h = record {
  each = λ x z e. later w u (get_or env x 0) _ a (h.each x z e);
  arrays = a.arrays ∙ h.arrays;
  fitting = h.fitting;
  clean = a.strays ∙ h.clean;
}

-- a step that is no load and no store
step_adds : (i : Instr) (w : Work) → is_access i ≡ 0 → Adds w (after_step i w)
step_adds (Const t n) w e = record { grown = n ∷ []; values = refl; arrays = refl; strays = omega arith }
step_adds (One op a) w e = record { grown = op1_result op (value_at w.values a) ∷ []; values = refl; arrays = refl; strays = omega arith }
step_adds (Two op a b) w e = record { grown = op2_result op (value_at w.values a) (value_at w.values b) ∷ []; values = refl; arrays = refl; strays = omega arith }
step_adds (Select t c a b) w e = record { grown = chosen_of (value_at w.values c) (value_at w.values a) (value_at w.values b) ∷ []; values = refl; arrays = refl; strays = omega arith }
step_adds (Load a p) w e = absurd (omega arith)
step_adds (Store a p v) w e = absurd (omega arith)

-- steps without loads and stores add values, whatever they are
pub steps_add : (is : List Instr) (w : Work) → accesses_in is ≡ 0 → Adds w (through is w)
steps_add [] w e = adds_none w
steps_add (i ∷ is) w e = adds_then w (after_step i w) (through is (after_step i w)) (step_adds i w (omega arith)) (steps_add is (after_step i w) (omega arith))

-- ---- what is laid

pub no_step_makes : (w : Work) (v p n : ℕ) → IsValue w v p → Makes w (no_step v n) p
no_step_makes w v p n i = record { adds = adds_none w; is = i }

pub last_value : (vs : List ℕ) (y : ℕ) (w : Work) → w.values ≡ vs ++ y ∷ [] → IsValue w (length vs) y
last_value vs y w e = record {
  below = omega (arith, ap length e, length-append vs (y ∷ []));
  is = ap (λ us. value_at us (length vs)) e ∙ get_or-append_seam vs y [] 0;
}

pub one_step_makes : (i : Instr) (w : Work) → is_access i ≡ 0 → Makes w (one_step i (length w.values)) (step_value i w.values w.arrays)
one_step_makes i w e = record { adds = step_adds i w e; is = last_value w.values (step_value i w.values w.arrays) (after_step i w) refl }

pub makes_equal : (w : Work) (l : Laid) (p q : ℕ) → p ≡ q → Makes w l p → Makes w l q
makes_equal w l p q e m = subst (Makes w l) e m

pub const_makes : (w : Work) (t m : ℕ) → Makes w (one_step (Const t m) (length w.values)) m
const_makes w t m = one_step_makes (Const t m) w refl

pub one_makes : (op : Op1) (w : Work) (v p : ℕ) → IsValue w v p → Makes w (one_step (One op v) (length w.values)) (op1_result op p)
one_makes op w v p i = makes_equal w _ _ _ (ap (op1_result op) i.is) (one_step_makes (One op v) w refl)

pub two_makes : (op : Op2) (w : Work) (a b p q : ℕ) → IsValue w a p → IsValue w b q → Makes w (one_step (Two op a b) (length w.values)) (op2_result op p q)
two_makes op w a b p q i j = makes_equal w _ _ _ (ap (λ x. op2_result op x (value_at w.values b)) i.is ∙ ap (λ y. op2_result op p y) j.is) (one_step_makes (Two op a b) w refl)

pub applied_makes : (op : Option Op1) (w : Work) (v p : ℕ) → IsValue w v p → Makes w (applied op v (length w.values)) (converted_by op p)
applied_makes None w v p i = no_step_makes w v p (length w.values) i
applied_makes (Some op) w v p i = one_makes op w v p i

-- the condition decides: of the other value nothing need be known
pub select_zero : (w : Work) (t c a b q : ℕ) → IsValue w c 0 → IsValue w b q → Makes w (one_step (Select t c a b) (length w.values)) q
select_zero w t c a b q i j = makes_equal w _ _ _ (ap (λ x. chosen_of x (value_at w.values a) (value_at w.values b)) i.is ∙ j.is) (one_step_makes (Select t c a b) w refl)

chosen_more : (p a b : ℕ) → 0 < p → chosen_of p a b ≡ a
chosen_more p a b h = ap (λ e. if e then b else a) (ne_eqb p 0 (λ e. omega (arith, e)))

pub select_more : (w : Work) (t c a b p q : ℕ) → 0 < p → IsValue w c p → IsValue w a q → Makes w (one_step (Select t c a b) (length w.values)) q
select_more w t c a b p q h i j = makes_equal w _ _ _ (ap (λ x. chosen_of x (value_at w.values a) (value_at w.values b)) i.is ∙ chosen_more p (value_at w.values a) (value_at w.values b) h ∙ j.is) (one_step_makes (Select t c a b) w refl)

-- ---- one after another

-- the first laying only adds values
pub after_any : (a : Laying) (f : ℕ → Laying) (w : Work) (q : ℕ) → (let x = a (length w.values) in let u = through x.steps w in Adds w u → Makes u (f x.value (length u.values)) q → Makes w (after a f (length w.values)) q)
unfolding after
after_any a f w q adds m =
    let n = length w.values in
    let x = a n in
    let u = through x.steps w in
    let l : length u.values ≡ n + length x.steps = length_through x.steps w in
    let y = f x.value (n + length x.steps) in
    let m2 : Makes u y q = subst (λ i. Makes u (f x.value i) q) l m in
    let run : through (x.steps ++ y.steps) w ≡ through y.steps u = through_append x.steps y.steps w in
    record {
      adds = subst (Adds w) (sym run) (adds_then w u (through y.steps u) adds m2.adds);
      is = subst (λ t. IsValue t y.value q) (sym run) m2.is;
    }

-- the second one may use the value of the first
pub after_makes : (a : Laying) (f : ℕ → Laying) (w : Work) (p q : ℕ) → Makes w (a (length w.values)) p → ((v : ℕ) (u : Work) → Adds w u → IsValue u v p → Makes u (f v (length u.values)) q) → Makes w (after a f (length w.values)) q
after_makes a f w p q m next =
    let x = a (length w.values) in
    after_any a f w q m.adds (next x.value (through x.steps w) m.adds m.is)
