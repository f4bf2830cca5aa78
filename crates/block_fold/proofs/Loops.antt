-- What the loops of the code have done so far, and that the rest gives the whole.
use Rattle.std.proofs.Common.{◌≡◌, ℕ, ◌+◌, ◌^◌, ◌<◌, ◌≤◌, List, [], ◌∷◌, ◌++◌, drop, length, get_or, refl, sym, ◌∙◌, ap, subst, arith}
use Rattle.std.proofs.lemmas.List.{drop_more, drop_all, get_or_default}
use Rattle.ir.specs.declared.instr.Instr.{Instr}
use Rattle.ir.specs.Renaming.{renamed}
use Rattle.block_fold.specs.declared.table.StepTable.{StepTable}
use Rattle.block_fold.specs.declared.making.Maker.{Maker}
use Rattle.block_fold.specs.Numbers.{renumbered}
use Rattle.block_fold.specs.Puts.{Put, put_all, most_values, put, depth}
use Rattle.block_fold.specs.Simplified.{Made, nothing_made, taken, new_number, taken_all}
use Rattle.block_fold.specs.Code.{values_in, PlacesAreRight, IsPutThere, made_of, IsMade, most_more}
use Rattle.block_fold.proofs.TableLemmas.{depth_is}
use Rattle.block_fold.proofs.Counts.{grows_on_within, put_within, taken_within}

rest_more : (is : List Instr) (k : ℕ) (i : Instr) → k < length is → i ≡ get_or is k i → drop k is ≡ i ∷ drop (k + 1) is
rest_more is k i lt e = drop_more is k i lt ∙ ap (λ j. j ∷ drop (k + 1) is) (sym e)

-- ---- steps that a rule made

-- k of them are put
pub record IsPutting (d : ℕ) (start : StepTable) (is : List Instr) (k : ℕ) (t : StepTable) (numbers : List ℕ) (last : ℕ) : Type 0 where
  pub args : t.args ≡ start.args
  pub places : PlacesAreRight t
  pub rest : put_all (put d start.args) (values_in start) numbers (record { steps = t.steps; number = last }) (drop k is)
      ≡ put_all (put d start.args) (values_in start) [] (record { steps = start.steps; number = 0 }) is
  pub few : values_in t ≤ (most_values + most_more d) + k

pub putting_first : (d : ℕ) (start : StepTable) (is : List Instr) → PlacesAreRight start → values_in start < most_values → IsPutting d start is 0 start [] 0
putting_first d start is places few = record { args = refl; places = places; rest = refl; few = omega (arith, few) }

pub putting_more : (d : ℕ) (start : StepTable) (is : List Instr) (k : ℕ) (t u : StepTable) (numbers more : List ℕ) (last v first : ℕ) (i j : Instr)
    → IsPutting d start is k t numbers last → k < length is → i ≡ get_or is k i → first ≡ values_in start → j ≡ renamed (renumbered first numbers) i
    → IsPutThere t u v (put d t.args t.steps j) → more ≡ numbers ++ v ∷ [] → IsPutting d start is (k + 1) u more v
putting_more d start is k t u numbers more last v first i j h lt e from step done all =
    let n = start.args in
    let m = values_in start in
    let r = renamed (renumbered m numbers) i in
    let same : j ≡ r = step ∙ ap (λ x. renamed (renumbered x numbers) i) from in
    let args : u.args ≡ n = done.args ∙ h.args in
    let is_q : put d t.args t.steps j ≡ put d n t.steps r = ap (λ a. put d a t.steps j) h.args ∙ ap (put d n t.steps) same in
    let steps : u.steps ≡ (put d n t.steps r).steps = done.steps ∙ ap (λ (q : Put). q.steps) is_q in
    let number : v ≡ (put d n t.steps r).number = done.number ∙ ap (λ (q : Put). q.number) is_q in
    let rest = drop (k + 1) is in
    let q = put d n t.steps r in
    let whole : put_all (put d n) m (numbers ++ q.number ∷ []) q rest ≡ put_all (put d n) m [] (record { steps = start.steps; number = 0 }) is =
    ap (λ l. put_all (put d n) m numbers (record { steps = t.steps; number = last }) l) (sym (rest_more is k i lt e)) ∙ h.rest in
    let t_few : n + length t.steps ≤ (most_values + most_more d) + k = subst (λ a. a + length t.steps ≤ (most_values + most_more d) + k) h.args h.few in
    let few = grows_on_within d (n + length t.steps) (n + length q.steps) k (put_within d n t.steps r) t_few in
    record {
      args = args;
      places = done.places;
      rest =
          ap (λ l. put_all (put d n) m l (record { steps = u.steps; number = v }) rest) all
          ∙ ap (λ x. put_all (put d n) m (numbers ++ x ∷ []) (record { steps = u.steps; number = x }) rest) number
          ∙ ap (λ l. put_all (put d n) m (numbers ++ q.number ∷ []) (record { steps = l; number = q.number }) rest) steps
          ∙ whole;
      few = subst (λ a. a + length u.steps ≤ (most_values + most_more d) + (k + 1)) (sym args) (subst (λ l. n + length l ≤ (most_values + most_more d) + (k + 1)) (sym steps) few);
    }

-- as the loop has it
pub putting_on : (d : ℕ) (start : StepTable) (is : List Instr) (k : ℕ) (t u : StepTable) (numbers slice more : List ℕ) (last v first : ℕ) (e j : Instr)
    → IsPutting d start is k t numbers last → k < length is → first ≡ values_in start → slice ≡ numbers → j ≡ renamed (renumbered first slice) (get_or is k e)
    → IsPutThere t u v (put d t.args t.steps j) → more ≡ numbers ++ v ∷ [] → IsPutting d start is (k + 1) u more v
putting_on d start is k t u numbers slice more last v first e j h lt from same step done all =
    let i = get_or is k e in
    putting_more d start is k t u numbers more last v first i j h lt (get_or_default is k e i lt) from (step ∙ ap (λ l. renamed (renumbered first l) i) same) done all

pub putting_all : (d : ℕ) (start : StepTable) (is : List Instr) (k : ℕ) (t : StepTable) (numbers : List ℕ) (last : ℕ) → IsPutting d start is k t numbers last → length is ≤ k
    → IsPutThere start t last (put_all (put d start.args) (values_in start) [] (record { steps = start.steps; number = 0 }) is)
putting_all d start is k t numbers last h ge =
    let e : record { steps = t.steps; number = last } ≡ put_all (put d start.args) (values_in start) [] (record { steps = start.steps; number = 0 }) is =
    ap (λ l. put_all (put d start.args) (values_in start) numbers (record { steps = t.steps; number = last }) l) (sym (drop_all k is ge)) ∙ h.rest in
    record { args = h.args; steps = ap (λ (q : Put). q.steps) e; number = ap (λ (q : Put). q.number) e; places = h.places }

-- ---- the steps of a block

-- k of them are taken
pub record IsTaking (n : ℕ) (is : List Instr) (k : ℕ) (m : Maker) : Type 0 where
  pub args : m.table.args ≡ n
  pub places : PlacesAreRight m.table
  pub rest : taken_all n (made_of m) (drop k is) ≡ taken_all n nothing_made is
  pub few : values_in m.table ≤ (most_values + most_more depth) + k

pub taking_first : (n : ℕ) (is : List Instr) (m : Maker) → m.table.args ≡ n → made_of m ≡ nothing_made → PlacesAreRight m.table → n < most_values → IsTaking n is 0 m
taking_first n is m args made places few =
    let steps : m.table.steps ≡ [] = ap (λ (d : Made). d.steps) made in
    let none = ap length steps in
    record { args = args; places = places; rest = ap (λ d. taken_all n d is) made; few = omega (arith, args, none, few) }

pub taking_more : (n : ℕ) (is : List Instr) (k : ℕ) (m new : Maker) (i j : Instr) → IsTaking n is k m → k < length is → i ≡ get_or is k i
    → j ≡ renamed (renumbered n m.numbers) i → IsMade m new (taken m.table.args (made_of m) j) → IsTaking n is (k + 1) new
taking_more n is k m new i j h lt e step done =
    let d = made_of m in
    let r = renamed (new_number n d) i in
    let args : new.table.args ≡ n = done.args ∙ h.args in
    let made : made_of new ≡ taken n d r = done.made ∙ ap (λ a. taken a d j) h.args ∙ ap (taken n d) step in
    let few_then : n + length m.table.steps ≤ (most_values + most_more depth) + k = subst (λ a. a + length m.table.steps ≤ (most_values + most_more depth) + k) h.args h.few in
    let few = grows_on_within depth (n + length d.steps) (n + length (taken n d r).steps) k (taken_within n d r) few_then in
    record {
      args = args;
      places = done.places;
      rest = ap (λ x. taken_all n x (drop (k + 1) is)) made ∙ ap (λ l. taken_all n d l) (sym (rest_more is k i lt e)) ∙ h.rest;
      few = subst (λ a. a + length new.table.steps ≤ (most_values + most_more depth) + (k + 1)) (sym args) (subst (λ (x : Made). n + length x.steps ≤ (most_values + most_more depth) + (k + 1)) (sym made) few);
    }

pub taking_on : (n : ℕ) (is : List Instr) (k : ℕ) (m new : Maker) (slice : List ℕ) (e j : Instr) → IsTaking n is k m → k < length is → slice ≡ m.numbers
    → j ≡ renamed (renumbered n slice) (get_or is k e) → IsMade m new (taken m.table.args (made_of m) j) → IsTaking n is (k + 1) new
taking_on n is k m new slice e j h lt same step done =
    let i = get_or is k e in
    taking_more n is k m new i j h lt (get_or_default is k e i lt) (step ∙ ap (λ l. renamed (renumbered n l) i) same) done

pub taking_few : (n : ℕ) (is : List Instr) (k : ℕ) (m : Maker) → IsTaking n is k m → k ≤ length is → n + length is < 2 ^ 30 → values_in m.table < 2 ^ 32
taking_few n is k m h le small =
    let few = h.few in
    let d = depth_is in
    let deep : most_more depth ≡ most_more 8 = ap most_more d in
    omega (arith, few, deep, le, small)

pub taking_all : (n : ℕ) (is : List Instr) (k : ℕ) (m : Maker) → IsTaking n is k m → length is ≤ k → made_of m ≡ taken_all n nothing_made is
taking_all n is k m h ge = ap (λ l. taken_all n (made_of m) l) (sym (drop_all k is ge)) ∙ h.rest
