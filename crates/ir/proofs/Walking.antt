-- A walk is at a visit after those before it.
use Rattle.std.proofs.Common.{◌≡◌, ℕ, ◌+◌, ◌<◌, ◌≤◌, List, [], ◌∷◌, ◌++◌, Option, Some, refl, sym, ◌∙◌, ap, subst, arith, length-append}
use Rattle.ir.specs.declared.walk.Ending.TheVariants.{Returned, Unfinished}
use Rattle.ir.specs.declared.walk.Passed.{Passed}
use Rattle.ir.specs.declared.walk.Way.TheVariants.{Onto, Leaves}
use Rattle.ir.specs.Visits.{Visit, onto, leaves, Passing, next_of, next_visit, AreNext, AreVisits, Returns, Finishes, over_visits}
use Rattle.ir.specs.Graphs.{Graph, block_at, passage, weight}
use Rattle.ir.specs.Passes.{onward_by, IsPassed, IsAt}
use Rattle.ir.specs.Walks.{ReturnsAfter, IsWalk}

-- ---- lists of visits

next_more : (f : Passing) (a v w : Visit) (bs : List Visit) → AreNext f a (bs ++ v ∷ []) → next_visit f v ≡ Some w → AreNext f a ((bs ++ v ∷ []) ++ w ∷ [])
next_more f a v w [] h e = (h.0, (e, tt))
next_more f a v w (b ∷ bs) h e = (h.0, next_more f b v w bs h.1 e)

visits_more : (f : Passing) (first v w : Visit) (bs : List Visit) → AreVisits f first (bs ++ v ∷ []) → next_visit f v ≡ Some w → AreVisits f first ((bs ++ v ∷ []) ++ w ∷ [])
visits_more f first v w [] h e = (h.0, (e, tt))
visits_more f first v w (b ∷ bs) h e = (h.0, next_more f b v w bs h.1 e)

finish : (f : Passing) (a v : Visit) (r : Option ℕ) (arrays : List (List ℕ)) (bs : List Visit) → AreNext f a (bs ++ v ∷ []) → Returns f v r arrays → Finishes f a (bs ++ v ∷ []) r arrays
finish f a v r arrays [] h e = (h.0, e)
finish f a v r arrays (b ∷ bs) h e = (h.0, finish f b v r arrays bs h.1 e)

returns_after : (f : Passing) (first v : Visit) (r : Option ℕ) (arrays : List (List ℕ)) (bs : List Visit) → AreVisits f first (bs ++ v ∷ []) → Returns f v r arrays
    → ReturnsAfter f first (bs ++ v ∷ []) r arrays
returns_after f first v r arrays [] h e =
    record { rest = []; all = ap (λ x. x ∷ []) h.0; finishes = subst (λ x. Returns f x r arrays) h.0 e }
returns_after f first v r arrays (b ∷ bs) h e =
    record { rest = bs ++ v ∷ []; all = ap (λ x. x ∷ (bs ++ v ∷ [])) h.0; finishes = subst (λ x. Finishes f x (bs ++ v ∷ []) r arrays) h.0 (finish f b v r arrays bs h.1 e) }

without_last : (f : Passing) (a v : Visit) (bs : List Visit) → AreNext f a (bs ++ v ∷ []) → AreNext f a bs
without_last f a v [] h = tt
without_last f a v (b ∷ bs) h = (h.0, without_last f b v bs h.1)

visits_before : (f : Passing) (first v : Visit) (bs : List Visit) → AreVisits f first (bs ++ v ∷ []) → AreVisits f first bs
visits_before f first v [] h = tt
visits_before f first v (b ∷ bs) h = (h.0, without_last f b v bs h.1)

over_more : (n : Visit → ℕ) (bs : List Visit) (v : Visit) → over_visits n (bs ++ v ∷ []) ≡ over_visits n bs + n v
over_more n [] v = omega arith
over_more n (b ∷ bs) v = let r = over_more n bs v in omega (arith, r)

-- ---- the walk

pub at_first : (g : Graph) (first : Visit) → IsAt g first 0 first 0 0
at_first g first = record { before = []; many = refl; run = (refl, tt); weight_is = refl; strays_are = refl; light = omega arith; few = omega arith }

pub at_more : (g : Graph) (first : Visit) (n b : ℕ) (given : List ℕ) (arrays : List (List ℕ)) (heavy strays : ℕ) (p : Passed) (c : ℕ)
    → IsAt g first n (record { block = b; given = given; arrays = arrays }) heavy strays → IsPassed (block_at g b) given arrays p → p.way ≡ Onto c
    → IsAt g first (n + 1) (record { block = c; given = p.handed; arrays = p.arrays }) (heavy + p.weight) (strays + p.strays)
at_more g first n b given arrays heavy strays p c h q e =
    let v : Visit = record { block = b; given = given; arrays = arrays } in
    let o : onto c p.handed ≡ (passage g v).onward = ap (λ x. onward_by x p.handed) (sym e) ∙ q.onward in
    let next : next_visit (passage g) v ≡ Some (record { block = c; given = p.handed; arrays = p.arrays }) =
    ap (λ x. next_of x (passage g v).arrays) (sym o) ∙ ap (λ x. Some (record { block = c; given = p.handed; arrays = x })) (sym q.arrays_are) in
    let x = h.weight_is in let y = h.strays_are in let z = q.weight_is in let u = q.strays_are in
    let k = h.many in let l = h.light in let m = h.few in let r = q.few in let lt = q.rare in
    record {
      before = h.before ++ v ∷ [];
      many = omega (arith, k, length-append h.before (v ∷ []));
      run = visits_more (passage g) first v (record { block = c; given = p.handed; arrays = p.arrays }) h.before h.run next;
      weight_is = ap (λ j. heavy + j) z ∙ ap (λ j. j + weight g v) x ∙ sym (over_more (weight g) h.before v);
      strays_are = ap (λ j. strays + j) u ∙ ap (λ j. j + (passage g v).strays) y ∙ sym (over_more (λ w. (passage g w).strays) h.before v);
      light = omega arith;
      few = omega arith;
    }

pub walk_returns : (g : Graph) (first : Visit) (limit n b : ℕ) (given : List ℕ) (arrays : List (List ℕ)) (heavy strays : ℕ) (p : Passed) (r : Option ℕ)
    → IsAt g first n (record { block = b; given = given; arrays = arrays }) heavy strays → IsPassed (block_at g b) given arrays p → p.way ≡ Leaves r → n < limit
    → IsWalk g first limit (record { arrays = p.arrays; visits = n + 1; weight = heavy + p.weight; strays = strays + p.strays; ending = Returned r })
walk_returns g first limit n b given arrays heavy strays p r h q e lt =
    let v : Visit = record { block = b; given = given; arrays = arrays } in
    let o : (passage g v).onward ≡ leaves r = sym (ap (λ x. onward_by x p.handed) (sym e) ∙ q.onward) in
    let x = h.weight_is in let y = h.strays_are in let z = q.weight_is in let u = q.strays_are in
    let k = h.many in let s = length-append h.before (v ∷ []) in
    record {
      visits = h.before ++ v ∷ [];
      run = h.run;
      many = omega (arith, k, s);
      few = omega (arith, k, s, lt);
      weight_is = ap (λ j. heavy + j) z ∙ ap (λ j. j + weight g v) x ∙ sym (over_more (weight g) h.before v);
      strays_are = ap (λ j. strays + j) u ∙ ap (λ j. j + (passage g v).strays) y ∙ sym (over_more (λ w. (passage g w).strays) h.before v);
      ends = returns_after (passage g) first v r p.arrays h.before h.run (record { result = o; last_arrays = sym q.arrays_are });
    }

pub walk_stops : (g : Graph) (first : Visit) (limit n b : ℕ) (given : List ℕ) (arrays : List (List ℕ)) (heavy strays : ℕ)
    → IsAt g first n (record { block = b; given = given; arrays = arrays }) heavy strays → n ≤ limit → limit ≤ n
    → IsWalk g first limit (record { arrays = arrays; visits = limit; weight = heavy; strays = strays; ending = Unfinished })
walk_stops g first limit n b given arrays heavy strays h le ge =
    let v : Visit = record { block = b; given = given; arrays = arrays } in
    let k = h.many in
    record {
      visits = h.before;
      run = visits_before (passage g) first v h.before h.run;
      many = omega (arith, k, le, ge);
      few = omega (arith, k, le);
      weight_is = h.weight_is;
      strays_are = h.strays_are;
      ends = record { all = omega (arith, k, le, ge); onto = v; run = h.run; begins = refl };
    }
