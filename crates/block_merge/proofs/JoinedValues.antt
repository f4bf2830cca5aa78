-- A joined block makes what its two blocks make one after the other.
use Rattle.std.proofs.Common.{◌≡◌, ℕ, zero, suc, ◌+◌, ◌-◌, ◌<◌, List, [], ◌∷◌, ◌++◌, map, length, get_or, Option, Some, None, refl, sym, ◌∙◌, ap, subst, arith, length-append, inl, inr}
use Rattle.std.specs.Prelude.{Bool, true, if◌then◌else◌, option_map}
use Rattle.std.proofs.lemmas.Bool.{cases_lt, lt-ltb, le-ltb}
use Rattle.std.proofs.lemmas.Option.{slice_get_within}
use Rattle.std.proofs.lemmas.List.{get_or-map, length-map}
use Rattle.el_base.specs.declared.ty.Array.{Array}
use Rattle.ir.specs.declared.instr.Instr.{Instr}
use Rattle.ir.specs.declared.graph.Block.{Block}
use Rattle.ir.specs.declared.graph.Jump.{Jump}
use Rattle.ir.specs.declared.graph.Jump.TheVariants.{Go, Two, Return}
use Rattle.ir.specs.declared.graph.To.{To}
use Rattle.ir.specs.Steps.{Work, value_at, step_value, after_step, through, beginning}
use Rattle.ir.specs.Visits.{onto, leaves}
use Rattle.ir.specs.Shapes.{Shape, IsOfWidth, step_width, shape_after}
use Rattle.ir.specs.Graphs.{Graph, IsBlock, IsJump, IsReturn, AreHanded, shape_of, handed, side, result_of, onward_of}
use Rattle.ir.specs.Renaming.{renamed, operands, MayName, OperandsAreKept, AreKept, SameWork, StepsName}
use Rattle.ir.proofs.Renamings.{renamed_steps, renamed_values}
use Rattle.ir.proofs.Fitting.{fitting_steps_name}
use Rattle.block_merge.specs.Renamed.{moved_to, renamed_to, renamed_jump}
use Rattle.block_merge.specs.Joined.{values_of}
use Rattle.block_merge.proofs.Works.{through_append, more_strays, through_more}

abbrev pub every : ℕ → Bool
every a = true

-- ---- lengths

pub through_long : (is : List Instr) (w : Work) → length (through is w).values ≡ length w.values + length is
through_long [] w = omega arith
through_long (i ∷ is) w = let x = step_value i w.values w.arrays in let e = through_long is (after_step i w) in omega (arith, e, length-append w.values (x ∷ []))

pub shape_long : (arrays : List Array) (ws : Shape) (is : List Instr) → length (shape_after arrays ws is) ≡ length ws + length is
shape_long arrays ws [] = omega arith
shape_long arrays ws (i ∷ is) = let e = shape_long arrays (ws ++ step_width arrays i ∷ []) is in omega (arith, e, length-append ws (step_width arrays i ∷ []))

pub handed_long : (ws : Shape) (vs args : List ℕ) → AreHanded ws vs args → length vs ≡ length args
handed_long ws [] [] h = refl
handed_long ws (v ∷ vs) (w ∷ args) h = ap suc (handed_long ws vs args h.1)
handed_long ws [] (w ∷ args) h = absurd h
handed_long ws (v ∷ vs) [] h = absurd h

abbrev pub widths : List ℕ → Shape
widths ws = map Some ws

pub somes_long : (ws : List ℕ) → length (widths ws) ≡ length ws
somes_long [] = refl
somes_long (w ∷ ws) = ap suc (somes_long ws)

-- what is handed on are values of the shape
pub handed_below : (ws : Shape) (vs args : List ℕ) (a : ℕ) → AreHanded ws vs args → a < length vs → get_or vs a 0 < length ws
handed_below ws [] [] a h lt = absurd (omega arith)
handed_below ws (v ∷ vs) (w ∷ args) zero h lt = slice_get_within ws v (Some w) h.0
handed_below ws (v ∷ vs) (w ∷ args) (suc a) h lt = handed_below ws vs args a h.1 (omega arith)
handed_below ws [] (w ∷ args) a h lt = absurd h
handed_below ws (v ∷ vs) [] a h lt = absurd h

-- ---- the second block's numbers

pub number_of_arg : (with : List ℕ) (m a : ℕ) → a < length with → moved_to with m a ≡ get_or with a 0
number_of_arg with m a h = ap (λ (b : Bool). if b then get_or with a 0 else (m + (a - length with))) (lt-ltb a (length with) h)

pub number_of_step : (with : List ℕ) (m i : ℕ) → moved_to with m (length with + i) ≡ m + i
number_of_step with m i =
    let n = length with + i in
    ap (λ (b : Bool). if b then get_or with n 0 else (m + (n - length with))) (le-ltb n (length with) (omega arith)) ∙ omega arith

-- ---- the jump's values

-- what a shape has a width for may be named
pub named : (n k : ℕ) (ws : Shape) (a w : ℕ) → length ws ≡ n + k → IsOfWidth ws a w → MayName every n k a
named n k ws a w long h =
    let l = slice_get_within ws a (Some w) h in
    elim (cases_lt a n) [ inl lt ↦ inl (lt, refl) | inr ge ↦ inr (a - n, omega arith, omega arith) ]

any_kept : (n : ℕ) (ys : List ℕ) → AreKept every n ys
any_kept n [] = tt
any_kept n (a ∷ ys) = (λ lt. refl, any_kept n ys)

pub all_kept : (n : ℕ) (is : List Instr) → OperandsAreKept every n is
all_kept n [] = tt
all_kept n (i ∷ is) = (any_kept n (operands i), all_kept n is)

module _ (f : ℕ → ℕ) (ws : Shape) (us vs : List ℕ) (same : (a w : ℕ) → IsOfWidth ws a w → value_at us (f a) ≡ value_at vs a) where
  values_same : (ys args : List ℕ) → AreHanded ws ys args → map (value_at us) (map f ys) ≡ map (value_at vs) ys
  values_same [] [] h = refl
  values_same (a ∷ ys) (w ∷ args) h = ap (λ x. x ∷ map (value_at us) (map f ys)) (same a w h.0) ∙ ap (λ xs. value_at vs a ∷ xs) (values_same ys args h.1)
  values_same [] (w ∷ args) h = absurd h
  values_same (a ∷ ys) [] h = absurd h

  handed_same : (to : To) (args : List ℕ) → AreHanded ws to.with args → handed us (renamed_to f to) ≡ handed vs to
  handed_same to args h = ap (onto to.block) (values_same to.with args h)

  onward_same : (g : Graph) (j : Jump) → IsJump g ws j → onward_of (renamed_jump f j) us ≡ onward_of j vs
  onward_same g (Go to) h = handed_same to h.block.args h.handed
  onward_same g (Two c a b) h =
      let x = handed_same a h.1.block.args h.1.handed in
      let y = handed_same b h.2.block.args h.2.handed in
      ap (λ n. side n (handed us (renamed_to f a)) (handed us (renamed_to f b))) (same c 32 h.0) ∙ ap (λ o. side (value_at vs c) o (handed us (renamed_to f b))) x ∙ ap (λ o. side (value_at vs c) (handed vs a) o) y
  onward_same g (Return v) h = ap leaves (by g.result v h)
    where
      by : (r : _) (v : Option ℕ) → IsReturn r ws v → result_of us (option_map f v) ≡ result_of vs v
      by None None h = refl
      by (Some t) (Some v) h = ap Some (same v _ h)
      by None (Some v) h = absurd h
      by (Some t) None h = absurd h

-- ---- what the joined block makes

-- the works of both blocks
pub record Together (b c : Block) (with us : List ℕ) (xs : List (List ℕ)) : Type 0 where
  pub values : List ℕ
  pub is : through (b.steps ++ map (renamed (moved_to with (values_of b))) c.steps) (beginning us xs)
      ≡ (let one = through b.steps (beginning us xs) in
      let two = through c.steps (beginning (map (value_at one.values) with) one.arrays) in
      record { values = values; arrays = two.arrays; strays = one.strays + two.strays })
  pub onward : onward_of (renamed_jump (moved_to with (values_of b)) c.jump) values
      ≡ (let one = through b.steps (beginning us xs) in onward_of c.jump (through c.steps (beginning (map (value_at one.values) with) one.arrays)).values)

module _ (g : Graph) (b c : Block) (with us : List ℕ) (xs : List (List ℕ)) (is_b : IsBlock g b) (is_c : IsBlock g c) (hand : AreHanded (shape_of g b) with c.args) (long : length us ≡ length b.args) where
  abbrev m : ℕ
  m = values_of b

  abbrev f : ℕ → ℕ
  f = moved_to with m

  abbrev one : Work
  one = through b.steps (beginning us xs)

  abbrev given : List ℕ
  given = map (value_at one.values) with

  abbrev two : Work
  two = through c.steps (beginning given one.arrays)

  abbrev clean : Work
  clean = record { values = one.values; arrays = one.arrays; strays = 0 }

  one_long : length one.values ≡ m
  one_long = let e = through_long b.steps (beginning us xs) in omega (arith, e, long)

  first_same : SameWork every f (length with) m 0 (beginning given one.arrays) clean
  first_same = record {
    long = (let e = length-map with (value_at one.values) in omega (arith, e));
    long_new = (let e = one_long in omega (arith, e));
    arrays = refl;
    strays = refl;
    first = λ a lt kept.
        let e = number_of_arg with m a lt in
        let l = handed_below (shape_of g b) with c.args a hand lt in
        let s : length (shape_of g b) ≡ m = (let q = shape_long g.arrays (map Some b.args) b.steps in omega (arith, q, somes_long b.args)) in (
          subst (λ n. n < m) (sym e) (omega (arith, l, s)),
          ap (value_at one.values) e ∙ sym (get_or-map (value_at one.values) with a 0 0 lt),
        );
    steps = λ i lt. absurd (omega arith);
  }

  c_long : length (widths c.args) ≡ length with + 0
  c_long = let e = handed_long (shape_of g b) with c.args hand in omega (arith, e, somes_long c.args)

  names : StepsName every (length with) 0 c.steps
  names = fitting_steps_name every (length with) g.arrays c.steps 0 (map Some c.args) c_long (all_kept (length with) c.steps) is_c.steps

  abbrev new : Work
  new = through (map (renamed f) c.steps) clean

  all_same : SameWork every f (length with) m (0 + length c.steps) two new
  all_same = renamed_steps every f (length with) m (number_of_step with m) c.steps 0 (beginning given one.arrays) clean first_same names

  end_long : length (shape_of g c) ≡ length with + (0 + length c.steps)
  end_long = let e = shape_long g.arrays (map Some c.args) c.steps in let l = c_long in omega (arith, e, l)

  value_same : (a w : ℕ) → IsOfWidth (shape_of g c) a w → value_at new.values (f a) ≡ value_at two.values a
  value_same a w h = renamed_values every f (length with) m (number_of_step with m) (0 + length c.steps) two new a all_same (named (length with) (0 + length c.steps) (shape_of g c) a w end_long h)

  pub together : Together b c with us xs
  together = record {
    values = new.values;
    is = through_append b.steps (map (renamed f) c.steps) (beginning us xs)
        ∙ (ap (through (map (renamed f) c.steps)) start ∙ (through_more (map (renamed f) c.steps) one.strays clean ∙ end));
    onward = onward_same f (shape_of g c) new.values two.values value_same g c.jump is_c.jump;
  }
    where
      start : one ≡ more_strays one.strays clean
      start = let e : one.strays ≡ one.strays + 0 = omega arith in ap (λ s. record { values = one.values; arrays = one.arrays; strays = s }) e

      end : more_strays one.strays new ≡ record { values = new.values; arrays = two.arrays; strays = one.strays + two.strays }
      end = ap (λ ys. record { values = new.values; arrays = ys; strays = one.strays + new.strays }) all_same.arrays
          ∙ ap (λ s. record { values = new.values; arrays = two.arrays; strays = one.strays + s }) all_same.strays
