-- The table of steps: the numbers of first equal steps, and puts by it.
use Rattle.std.proofs.Common.{◌≡◌, ℕ, zero, suc, ◌+◌, ◌-◌, ◌<◌, ◌≤◌, Bool, true, false, List, [], ◌∷◌, ◌++◌, length, Option, Some, None, refl, sym, ◌∙◌, ap, subst, arith, length-append}
use Rattle.std.specs.Prelude.{nat_lt, ◌&&◌, not, is_none, cond, if◌then◌else◌, position, option_map}
use Rattle.std.specs.List.{position_or_len}
use Rattle.std.proofs.lemmas.Bool.{lt-ltb, le-ltb, ltb-true, ltb-false, le-leb, lt-leb, eq-eqb, ne_eqb, true≢false}
use Rattle.std.proofs.lemmas.List.Folds.{position_or_len_push}
use Rattle.std.proofs.lemmas.List.Sums.{prefix_len-le-length}
use Rattle.indexmap.specs.IndexMap.{IndexMap, get}
use Rattle.ir.specs.declared.instr.Instr.{Instr}
use Rattle.block_rules.specs.declared.rewriting.Rewriting.{Rewriting}
use Rattle.block_rules.specs.declared.rewriting.Rewriting.TheVariants.{Steps}
use Rattle.block_rules.specs.Rules.{rewritten}
use Rattle.block_fold.specs.declared.table.StepTable.{StepTable}
use Rattle.block_fold.specs.Puts.{Put, same_step, appended, added_at, added, put_all, most_made, put_as, most_values, put, depth}
use Rattle.block_fold.specs.Code.{values_in, PlacesAreRight, IsNoted, IsPutThere}
use Rattle.block_fold.proofs.Equal.{step_same}

-- ---- first places

place_is : (l n : ℕ) → l < n → cond (nat_lt l n) (Some l) None ≡ Some l
place_is l n h = ap (λ t. cond t (Some l) None) (lt-ltb l n h)

place_none : (l n : ℕ) → n ≤ l → cond (nat_lt l n) (Some l) None ≡ None
place_none l n h = ap (λ t. cond t (Some l) None) (le-ltb l n h)

module _ {X : Type 0} (p : X → Bool) where
  place_within : (xs : List X) → position_or_len p xs ≤ length xs
  place_within xs = prefix_len-le-length (λ x. not (p x)) xs

  pub position_push_some : (xs : List X) (y : X) (k : ℕ) → position p xs ≡ Some k → position p (xs ++ y ∷ []) ≡ Some k
  position_push_some xs y k h = by (nat_lt (position_or_len p xs) (length xs)) refl h
    where
      by : (t : Bool) → nat_lt (position_or_len p xs) (length xs) ≡ t → cond t (Some (position_or_len p xs)) None ≡ Some k → position p (xs ++ y ∷ []) ≡ Some k
      by true e h =
          let l = position_or_len p xs in
          let n = length xs in
          let lt = ltb-true l n e in
          let same : position_or_len p (xs ++ y ∷ []) ≡ l = position_or_len_push p xs y ∙ ap (λ t. cond t (n + cond (p y) 0 1) l) (ne_eqb l n (λ z. absurd (omega (arith, z, lt)))) in
          let within : position_or_len p (xs ++ y ∷ []) < length (xs ++ y ∷ []) = omega (arith, same, lt, length-append xs (y ∷ [])) in
          place_is (position_or_len p (xs ++ y ∷ [])) (length (xs ++ y ∷ [])) within ∙ ap Some same ∙ h
      by false e h = absurd (cc)

  pub position_push_none : (xs : List X) (y : X) → position p xs ≡ None → position p (xs ++ y ∷ []) ≡ cond (p y) (Some (length xs)) None
  position_push_none xs y h = by (nat_lt (position_or_len p xs) (length xs)) refl h
    where
      last : (t : Bool) → p y ≡ t → position_or_len p (xs ++ y ∷ []) ≡ length xs + cond (p y) 0 1 → position p (xs ++ y ∷ []) ≡ cond t (Some (length xs)) None
      last true f e =
          let same : position_or_len p (xs ++ y ∷ []) ≡ length xs = e ∙ ap (λ t. length xs + cond t 0 1) f ∙ omega arith in
          place_is (position_or_len p (xs ++ y ∷ [])) (length (xs ++ y ∷ [])) (omega (arith, same, length-append xs (y ∷ []))) ∙ ap Some same
      last false f e =
          let same : position_or_len p (xs ++ y ∷ []) ≡ length xs + 1 = e ∙ ap (λ t. length xs + cond t 0 1) f in
          place_none (position_or_len p (xs ++ y ∷ [])) (length (xs ++ y ∷ [])) (omega (arith, same, length-append xs (y ∷ [])))

      by : (t : Bool) → nat_lt (position_or_len p xs) (length xs) ≡ t → cond t (Some (position_or_len p xs)) None ≡ None → position p (xs ++ y ∷ []) ≡ cond (p y) (Some (length xs)) None
      by true e h = absurd (cc)
      by false e h =
          let l = position_or_len p xs in
          let n = length xs in
          let ge = ltb-false l n e in
          let same : l ≡ n = omega (arith, ge, place_within xs) in
          last (p y) refl (position_or_len_push p xs y ∙ ap (λ t. cond t (n + cond (p y) 0 1) l) (eq-eqb l n same))

pub same_step_comm : (i j : Instr) → same_step i j ≡ same_step j i
same_step_comm i j = by (same_step i j) (same_step j i) refl refl
  where
    by : (s t : Bool) → same_step i j ≡ s → same_step j i ≡ t → s ≡ t
    by true true e f = refl
    by false false e f = refl
    by true false e f = let same = step_same i j e in absurd (true≢false (sym e ∙ ap (λ k. same_step k j) same ∙ ap (λ k. same_step j k) (sym same) ∙ f))
    by false true e f = let same = step_same j i f in absurd (true≢false (sym f ∙ ap (λ k. same_step k i) same ∙ ap (λ k. same_step i k) (sym same) ∙ e))

-- ---- a step at the end

module _ {S : Type 0} (n : ℕ) (steps : List Instr) (old new : IndexMap Instr ℕ S) (i : Instr) (are : (q : Instr) → get same_step old q ≡ option_map (λ k. n + k) (position (same_step q) steps)) (noted : IsNoted old new i (n + length steps)) where
  -- an equal step stands already
  kept_place : (q : Instr) (k : ℕ) → position (same_step q) steps ≡ Some k → (is_none (get same_step old i) && same_step i q) ≡ false
  kept_place q k e = by (same_step i q) refl
    where
      by : (t : Bool) → same_step i q ≡ t → (is_none (get same_step old i) && same_step i q) ≡ false
      by true f =
          let same : i ≡ q = step_same i q f in
          let some : get same_step old i ≡ Some (n + k) = ap (get same_step old) same ∙ are q ∙ ap (option_map (λ k. n + k)) e in
          ap (λ o. is_none o && same_step i q) some
      by false f = ap (λ t. is_none (get same_step old i) && t) f ∙ none (is_none (get same_step old i))
        where
          none : (t : Bool) → (t && false) ≡ false
          none true = refl
          none false = refl

  new_place : (q : Instr) → position (same_step q) steps ≡ None → get same_step new q ≡ option_map (λ k. n + k) (cond (same_step q i) (Some (length steps)) None)
  new_place q e = noted.each q ∙ by (same_step i q) refl
    where
      old_none : get same_step old q ≡ None
      old_none = are q ∙ ap (option_map (λ k. n + k)) e

      by : (t : Bool) → same_step i q ≡ t
          → cond (is_none (get same_step old i) && same_step i q) (Some (n + length steps)) (get same_step old q) ≡ option_map (λ k. n + k) (cond (same_step q i) (Some (length steps)) None)
      by true f =
          let same : i ≡ q = step_same i q f in
          let none : get same_step old i ≡ None = ap (get same_step old) same ∙ old_none in
          ap (λ o. cond (is_none o && same_step i q) (Some (n + length steps)) (get same_step old q)) none
          ∙ ap (λ t. cond t (Some (n + length steps)) (get same_step old q)) f
          ∙ sym (ap (λ t. option_map (λ k. n + k) (cond t (Some (length steps)) None)) (sym (same_step_comm i q) ∙ f))
      by false f =
          ap (λ t. cond (is_none (get same_step old i) && t) (Some (n + length steps)) (get same_step old q)) f
          ∙ no_test (is_none (get same_step old i))
          ∙ old_none
          ∙ sym (ap (λ t. option_map (λ k. n + k) (cond t (Some (length steps)) None)) (sym (same_step_comm i q) ∙ f))
        where
          no_test : (t : Bool) → cond (t && false) (Some (n + length steps)) (get same_step old q) ≡ get same_step old q
          no_test true = refl
          no_test false = refl

  pub places_more : (q : Instr) → get same_step new q ≡ option_map (λ k. n + k) (position (same_step q) (steps ++ i ∷ []))
  places_more q = by (position (same_step q) steps) refl
    where
      by : (o : Option ℕ) → position (same_step q) steps ≡ o → get same_step new q ≡ option_map (λ k. n + k) (position (same_step q) (steps ++ i ∷ []))
      by (Some k) e =
          noted.each q ∙ ap (λ t. cond t (Some (n + length steps)) (get same_step old q)) (kept_place q k e)
          ∙ are q ∙ ap (option_map (λ k. n + k)) (e ∙ sym (position_push_some (same_step q) steps i k e))
      by None e = new_place q e ∙ ap (option_map (λ k. n + k)) (sym (position_push_none (same_step q) steps i e))

pub appended_there : (t u : StepTable) (i : Instr) (v : ℕ) → PlacesAreRight t → u.args ≡ t.args → u.steps ≡ t.steps ++ i ∷ [] → v ≡ values_in t → IsNoted t.places u.places i v
    → IsPutThere t u v (appended t.args t.steps i)
appended_there t u i v are args steps number noted =
    let at = subst (λ n. IsNoted t.places u.places i n) number noted in
    record {
      args = args;
      steps = steps;
      number = number;
      places = record {
        each = λ q. places_more t.args t.steps t.places u.places i are.each at q
            ∙ sym (ap (λ l. option_map (λ k. t.args + k) (position (same_step q) l)) steps)
            ∙ sym (ap (λ n. option_map (λ k. n + k) (position (same_step q) u.steps)) args);
      };
    }

-- ---- a step added

module _ (t : StepTable) (i : Instr) (are : PlacesAreRight t) where
  pub found_there : (v : ℕ) → get same_step t.places i ≡ Some v → IsPutThere t t v (added t.args t.steps i)
  found_there v e = by (position (same_step i) t.steps) (sym (are.each i) ∙ e)
    where
      by : (o : Option ℕ) → option_map (λ k. t.args + k) o ≡ Some v → IsPutThere t t v (added_at t.args t.steps i o)
      by (Some k) h = let same : t.args + k ≡ v = cc in record { args = refl; steps = refl; number = sym same; places = are }
      by None h = absurd (cc)

  pub not_there : (u : StepTable) (v : ℕ) → get same_step t.places i ≡ None → IsPutThere t u v (appended t.args t.steps i) → IsPutThere t u v (added t.args t.steps i)
  not_there u v e put = by (position (same_step i) t.steps) (sym (are.each i) ∙ e)
    where
      by : (o : Option ℕ) → option_map (λ k. t.args + k) o ≡ None → IsPutThere t u v (added_at t.args t.steps i o)
      by (Some k) h = absurd (cc)
      by None h = put

-- ---- a step put

pub put_none : (d n : ℕ) (steps : List Instr) (i : Instr) → d ≡ 0 → put d n steps i ≡ added n steps i
unfolding put
put_none zero n steps i e = refl
put_none (suc d) n steps i e = absurd (omega (arith, e))

pub put_many : (d n : ℕ) (steps : List Instr) (i : Instr) → most_values ≤ n + length steps → put d n steps i ≡ added n steps i
unfolding put
put_many zero n steps i ge = refl
put_many (suc d) n steps i ge =
    ap (λ (t : Bool). if t then put_as (put d n) n steps i (rewritten n steps i) else added n steps i) (le-ltb (n + length steps) most_values ge)

pub put_few : (d n : ℕ) (steps : List Instr) (i : Instr) → n + length steps < most_values → put (suc d) n steps i ≡ put_as (put d n) n steps i (rewritten n steps i)
unfolding put
put_few d n steps i lt =
    ap (λ (t : Bool). if t then put_as (put d n) n steps i (rewritten n steps i) else added n steps i) (lt-ltb (n + length steps) most_values lt)

pub put_step : (d n : ℕ) (steps slice : List Instr) (i : Instr) (made : Rewriting) → (d ≡ 0 → ⊥) → n + length steps < most_values → slice ≡ steps → made ≡ rewritten n slice i
    → put d n steps i ≡ put_as (put (d - 1) n) n steps i made
put_step zero n steps slice i made some lt same e = absurd (some refl)
put_step (suc d) n steps slice i made some lt same e =
    let less : d ≡ suc d - 1 = omega arith in
    put_few d n steps i lt ∙ sym (ap (λ r. put_as (put d n) n steps i r) (e ∙ ap (λ l. rewritten n l i) same)) ∙ ap (λ b. put_as (put b n) n steps i made) less

module _ (f : List Instr → Instr → Put) (n : ℕ) (steps : List Instr) (i : Instr) (is : List Instr) where
  pub put_as_all : length is ≤ most_made → put_as f n steps i (Steps is) ≡ put_all f (n + length steps) [] (record { steps = steps; number = 0 }) is
  put_as_all le = ap (λ (t : Bool). if t then put_all f (n + length steps) [] (record { steps = steps; number = 0 }) is else added n steps i) (le-leb (length is) most_made le)

  pub put_as_added : most_made < length is → put_as f n steps i (Steps is) ≡ added n steps i
  put_as_added gt = ap (λ (t : Bool). if t then put_all f (n + length steps) [] (record { steps = steps; number = 0 }) is else added n steps i) (lt-leb (length is) most_made gt)

pub depth_is : depth ≡ 8
unfolding depth
depth_is = refl
