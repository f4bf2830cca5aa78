-- A pure step that is put has its value and its width under the number that it gets.
use Rattle.std.proofs.Common.{◌≡◌, ℕ, zero, suc, ◌+◌, List, [], ◌∷◌, ◌++◌, length, get_or, Option, Some, None, refl, sym, ◌∙◌, ap, subst, arith, length-append}
use Rattle.std.specs.Prelude.{slice_get, nat_lt, nat_le, Bool, true, false, if◌then◌else◌, position, All}
use Rattle.std.proofs.lemmas.Option.{slice_get-get_or}
use Rattle.std.proofs.lemmas.List.Quantifiers.{position-Some}
use Rattle.std.proofs.lemmas.List.Elements.{All-head, All-tail}
use Rattle.std.proofs.lemmas.List.{get_or_push}
use Rattle.ir.specs.declared.instr.Instr.{Instr}
use Rattle.ir.specs.Steps.{Work, value_at, step_value, after_step, through, beginning}
use Rattle.ir.specs.Shapes.{Shape, IsOfWidth, StepFits, StepsFit, step_width, shape_after}
use Rattle.ir.specs.Renaming.{renamed}
use Rattle.block_pass.specs.Laws.{ValuesStayInWidths}
use Rattle.block_rules.specs.declared.rewriting.Rewriting.{Rewriting}
use Rattle.block_rules.specs.declared.rewriting.Rewriting.TheVariants.{Kept, Value, Steps}
use Rattle.block_rules.specs.Known.{IsPure, pure_value}
use Rattle.block_rules.specs.Rules.{rewritten}
use Rattle.block_rules.specs.Laws.{IsRight, AreRight, RewritingsAreRight}
use Rattle.block_fold.specs.Numbers.{renumbered}
use Rattle.block_fold.specs.Puts.{Put, same_step, appended, added_at, added, put_all, most_made, put_as, most_values, put}
use Rattle.block_fold.proofs.StepLemmas.{width_renamed, pure_renamed, fits_renamed, value_renamed, pure_any, pure_width}
use Rattle.block_fold.proofs.Tables.{renumbered_behind, KeepsWidth, KeepsValue, first_widths, first_values, more_widths, more_values}
use Rattle.block_fold.proofs.Growing.{Start, count, shape, work, values, Fit, shape_count, values_count, known_values, fit_more, width_more, value_more, Grows, grows_none, grows_on, grows_more, grown_widths, grown_values, Stays, stays_none, stays_on, stays_more}
use Rattle.block_fold.proofs.Equal.{step_same}

-- a value of width y, put behind these steps
pub record IsPut (s : Start) (steps : List Instr) (y v : ℕ) (q : Put) : Type 0 where
  pub fit : Fit s q.steps
  pub grows : Grows s steps q.steps
  pub stays : Stays s steps q.steps
  pub width : IsOfWidth (shape s q.steps) q.number y
  pub value : value_at (values s q.steps) q.number ≡ v

-- a pure step that may be put
pub record MayBePut (s : Start) (steps : List Instr) (i : Instr) (y : ℕ) : Type 0 where
  pub fit : Fit s steps
  pub pure : IsPure i
  pub fits : StepFits s.declared (shape s steps) i
  pub width : step_width s.declared i ≡ Some y

-- what puts a step right
abbrev pub PutsRight : Start → (List Instr → Instr → Put) → Type 0
PutsRight s f = (steps : List Instr) (i : Instr) (y : ℕ) → MayBePut s steps i y → IsPut s steps y (pure_value i (values s steps)) (f steps i)

-- ---- added

module _ (stay : ValuesStayInWidths) (s : Start) where
  appended_right : PutsRight s (appended (count s))
  appended_right steps i y may = record {
    fit = fit_more s steps i may.fit may.fits;
    grows = grows_more s steps i;
    stays = stays_more s steps i may.pure;
    width = width_more s steps i ∙ ap Some may.width;
    value = value_more s steps i ∙ pure_any i (values s steps) (work s steps).arrays may.pure;
  }

  found_right : (steps : List Instr) (i : Instr) (y k : ℕ) → MayBePut s steps i y → position (same_step i) steps ≡ Some k
      → IsPut s steps y (pure_value i (values s steps)) (record { steps = steps; number = count s + k })
  found_right steps i y k may e =
      let at = position-Some (same_step i) steps k i e in
      let j = get_or steps k i in
      let is_step : slice_get steps k ≡ Some j = slice_get-get_or steps k i at.0 in
      let same : i ≡ j = step_same i j at.1 in
      let it : slice_get steps k ≡ Some i = is_step ∙ ap Some (sym same) in
      let known = known_values stay s steps may.fit in
      record {
        fit = may.fit;
        grows = grows_none s steps;
        stays = stays_none s steps;
        width = known.widths k i it ∙ ap Some may.width;
        value = known.each k i it may.pure;
      }

  pub added_right : PutsRight s (added (count s))
  added_right steps i y may = by (position (same_step i) steps) refl
    where
      by : (o : Option ℕ) → position (same_step i) steps ≡ o → IsPut s steps y (pure_value i (values s steps)) (added_at (count s) steps i o)
      by None e = appended_right steps i y may
      by (Some k) e = found_right steps i y k may e

  -- ---- several steps

  -- steps of a block of values with shape ws and these values, put behind steps, where the last of them has the number
  record ArePut (m : ℕ) (ws : Shape) (olds : List ℕ) (steps : List Instr) (many : ℕ) (q : Put) : Type 0 where
    numbers : List ℕ
    long : length numbers ≡ many
    last : (k : ℕ) → many ≡ suc k → get_or numbers k 0 ≡ q.number
    fit : Fit s q.steps
    grows : Grows s steps q.steps
    stays : Stays s steps q.steps
    widths : KeepsWidth m numbers ws (shape s q.steps)
    values_are : KeepsValue m numbers ws olds (values s q.steps)

  -- what is so far of them
  record SoFar (m : ℕ) (numbers : List ℕ) (ws : Shape) (olds : List ℕ) (q : Put) : Type 0 where
    long : length ws ≡ m + length numbers
    long_olds : length olds ≡ length ws
    last : (k : ℕ) → length numbers ≡ suc k → get_or numbers k 0 ≡ q.number
    fit : Fit s q.steps
    widths : KeepsWidth m numbers ws (shape s q.steps)
    values_are : KeepsValue m numbers ws olds (values s q.steps)

  module _ (f : List Instr → Instr → Put) (right : PutsRight s f) (m : ℕ) where
    -- one of them
    one_put : (i : Instr) (y : ℕ) (numbers : List ℕ) (ws : Shape) (w : Work) (p : Put) → SoFar m numbers ws w.values p → IsPure i → StepFits s.declared ws i → step_width s.declared i ≡ Some y
        → IsPut s p.steps y (step_value i w.values w.arrays) (f p.steps (renamed (renumbered m numbers) i))
    one_put i y numbers ws w p so pure fits width =
        let g = renumbered m numbers in
        let q = f p.steps (renamed g i) in
        let done = right p.steps (renamed g i) y (record {
          fit = so.fit;
          pure = pure_renamed g i pure;
          fits = fits_renamed s.declared g ws (shape s p.steps) so.widths i fits;
          width = width_renamed s.declared g i ∙ width;
        }) in
        let e : pure_value (renamed g i) (values s p.steps) ≡ step_value i w.values w.arrays =
        value_renamed s.declared g ws w.values (values s p.steps) so.values_are [] i fits ∙ sym (pure_any i w.values w.arrays pure) in
        record { fit = done.fit; grows = done.grows; stays = done.stays; width = done.width; value = done.value ∙ e }

    one_more : (i : Instr) (y : ℕ) (numbers : List ℕ) (ws : Shape) (w : Work) (p q : Put) → SoFar m numbers ws w.values p → step_width s.declared i ≡ Some y
        → IsPut s p.steps y (step_value i w.values w.arrays) q → SoFar m (numbers ++ q.number ∷ []) (ws ++ step_width s.declared i ∷ []) (after_step i w).values q
    one_more i y numbers ws w p q so width done =
        let x = step_width s.declared i in
        let v = step_value i w.values w.arrays in
        let a = length-append numbers (q.number ∷ []) in
        let b = length-append ws (x ∷ []) in
        let c = length-append w.values (v ∷ []) in
        let l = so.long in
        let o = so.long_olds in
        record {
          long = omega (arith, a, b, l);
          long_olds = omega (arith, b, c, o);
          last = λ k e. get_or_push numbers q.number 0 k (omega (arith, a, e));
          fit = done.fit;
          widths = more_widths m numbers ws (shape s q.steps) q.number x l (grown_widths s m numbers ws p.steps q.steps done.grows so.widths)
              (λ z e. let same : y ≡ z = cc in subst (λ u. IsOfWidth (shape s q.steps) q.number u) same done.width);
          values_are = more_values m numbers ws w.values (values s q.steps) q.number x v l o (grown_values s m numbers ws w.values p.steps q.steps done.grows so.widths so.values_are) (λ z e. done.value);
        }

    all_put : (is : List Instr) (numbers : List ℕ) (ws : Shape) (w : Work) (p : Put) → SoFar m numbers ws w.values p → All IsPure is → StepsFit s.declared ws is
        → ArePut m (shape_after s.declared ws is) (through is w).values p.steps (length numbers + length is) (put_all f m numbers p is)
    all_put [] numbers ws w p so pure fits = record {
      numbers = numbers;
      long = omega arith;
      last = λ k e. so.last k (omega (arith, e));
      fit = so.fit;
      grows = grows_none s p.steps;
      stays = stays_none s p.steps;
      widths = so.widths;
      values_are = so.values_are;
    }
    all_put (i ∷ is) numbers ws w p so pure fits =
        let one = All-head IsPure i is pure in
        let y = pure_width s.declared i one in
        let q = f p.steps (renamed (renumbered m numbers) i) in
        let done = one_put i y.0 numbers ws w p so one fits.0 y.1 in
        let rest = all_put is (numbers ++ q.number ∷ []) (ws ++ step_width s.declared i ∷ []) (after_step i w) q (one_more i y.0 numbers ws w p q so y.1 done) (All-tail IsPure i is pure) fits.1 in
        let e : length (numbers ++ q.number ∷ []) + length is ≡ length numbers + suc (length is) = omega (arith, length-append numbers (q.number ∷ [])) in
        record {
          numbers = rest.numbers;
          long = rest.long ∙ e;
          last = λ k h. rest.last k (e ∙ h);
          fit = rest.fit;
          grows = grows_on s p.steps q.steps (put_all f m (numbers ++ q.number ∷ []) q is).steps done.grows rest.grows;
          stays = stays_on s p.steps q.steps (put_all f m (numbers ++ q.number ∷ []) q is).steps done.stays rest.stays;
          widths = rest.widths;
          values_are = rest.values_are;
        }

    -- the steps that a rule made
    made_put : (steps is : List Instr) (y value : ℕ) → m ≡ count s + length steps → Fit s steps → AreRight s.declared (shape s steps) (values s steps) is y value
        → IsPut s steps y value (put_all f m [] (record { steps = steps; number = 0 }) is)
    made_put steps is y value start fit r =
        let us = shape s steps in
        let vs = values s steps in
        let p : Put = record { steps = steps; number = 0 } in
        let q = put_all f m [] p is in
        let c : length us ≡ m = shape_count s steps ∙ sym start in
        let all = all_put is [] us (beginning vs []) p (record {
          long = omega (arith, c);
          long_olds = values_count s steps;
          last = λ k e. absurd (omega (arith, e));
          fit = fit;
          widths = first_widths m us c;
          values_are = first_values m us vs c;
        }) r.pure r.fit in
        let some = r.some in
        let at : renumbered m all.numbers (length us + r.last) ≡ q.number =
        renumbered_behind m all.numbers (length us + r.last) (omega (arith, c)) ∙ ap (λ k. get_or all.numbers k 0) (omega (arith, c)) ∙ all.last r.last (omega (arith, some)) in
        record {
          fit = all.fit;
          grows = all.grows;
          stays = all.stays;
          width = subst (λ n. IsOfWidth (shape s q.steps) n y) at (all.widths (length us + r.last) y r.width);
          value = ap (value_at (values s q.steps)) (sym at) ∙ all.values_are (length us + r.last) y r.width ∙ r.value;
        }

  -- ---- by the rules

  as_right : (f : List Instr → Instr → Put) → PutsRight s f → (steps : List Instr) (i : Instr) (y : ℕ) → MayBePut s steps i y → (r : Rewriting)
      → IsRight s.declared (shape s steps) (values s steps) y (pure_value i (values s steps)) r → IsPut s steps y (pure_value i (values s steps)) (put_as f (count s) steps i r)
  as_right f right steps i y may Kept h = added_right steps i y may
  as_right f right steps i y may (Value v) h = record { fit = may.fit; grows = grows_none s steps; stays = stays_none s steps; width = h.0; value = h.1 }
  as_right f right steps i y may (Steps is) h = by (nat_le (length is) most_made)
    where
      by : (t : Bool) → IsPut s steps y (pure_value i (values s steps)) (if t then put_all f (count s + length steps) [] (record { steps = steps; number = 0 }) is else added (count s) steps i)
      by true = made_put f right (count s + length steps) steps is y (pure_value i (values s steps)) refl may.fit h
      by false = added_right steps i y may

  -- where few values stand by the rules, else added
  by_number : (rules : RewritingsAreRight) (d : ℕ) → PutsRight s (put d (count s)) → (steps : List Instr) (i : Instr) (y : ℕ) → MayBePut s steps i y → (t : Bool)
      → IsPut s steps y (pure_value i (values s steps)) (if t then put_as (put d (count s)) (count s) steps i (rewritten (count s) steps i) else added (count s) steps i)
  by_number rules d right steps i y may true =
      as_right (put d (count s)) right steps i y may (rewritten (count s) steps i)
      (rules s.declared (count s) steps (shape s steps) (values s steps) i y (known_values stay s steps may.fit) may.pure may.fits may.width)
  by_number rules d right steps i y may false = added_right steps i y may

  pub put_right : RewritingsAreRight → (d : ℕ) → PutsRight s (put d (count s))
  unfolding put
  put_right rules zero steps i y may = added_right steps i y may
  put_right rules (suc d) steps i y may = by_number rules d (put_right rules d) steps i y may (nat_lt (count s + length steps) most_values)
