-- Whole kernels: the opening, the block, and what it comes to.
use Rattle.std.proofs.Common.{◌≡◌, ℕ, zero, suc, ◌+◌, ◌-◌, ◌^◌, ◌<◌, ◌≤◌, List, [], ◌∷◌, ◌++◌, map, take, length, get_or, replicate, Option, Some, None, refl, sym, ◌∙◌, ap, subst, arith}
use Rattle.std.specs.Prelude.{false, ℤ, All, slice_get, IsTrue}
use Rattle.std.specs.List.{AllZip}
use Rattle.std.proofs.lemmas.List.Elements.{All-head, All-tail}
use Rattle.std.proofs.lemmas.List.{take_all}
use Rattle.std.proofs.Math.Seq.{take-suc}
use Rattle.el_base.specs.declared.span.Span.{Span}
use Rattle.el_base.specs.declared.ty.Ty.{Ty}
use Rattle.el_base.specs.Numbers.{number, pattern}
use Rattle.el_base.specs.Widths.{ty_width}
use Rattle.net_types.specs.declared.firing.Inputs.{Inputs as Patterns}
use Rattle.net_types.specs.Inputs.{IsPatternOf, AreElementsOf}
use Rattle.c_meaning.specs.Headers.{flat}
use Rattle.c_ast.specs.declared.typed.ArrayOf.{ArrayOf}
use Rattle.c_ast.specs.declared.typed.Typed.{Typed}
use Rattle.c_ast.specs.declared.typed.TypedStmt.{TypedStmt}
use Rattle.c_meaning.specs.declared.profile.Profile.{Profile}
use Rattle.c_meaning.specs.Stores.{Objects, Inputs, opening, scalar_types}
use Rattle.c_meaning.specs.KernelPatterns.{array_patterns, result_pattern}
use Rattle.c_meaning.specs.Runs.{How, normally, by_break, by_continue, by_return, undefined, out_of_turns, Ended, ends}
use Rattle.c_meaning.specs.Statements.{objects, act, in_order, block, body_run, kernel_end, with_kernel_end, kernel_run, first, first_of, IsResult}
use Rattle.c_meaning.specs.Bounds.{EndsIsOne, KernelsKeepEnds}
use Rattle.c_meaning.specs.Lawful.{Lawful}
use Rattle.ref_interp.specs.declared.cells.Cells.{Cells}
use Rattle.ref_interp.specs.declared.machine.Ending.{Ending}
use Rattle.ref_interp.specs.declared.machine.Ending.TheVariants as ending
use Rattle.ref_interp.specs.declared.machine.Machine.{Machine}
use Rattle.ref_interp.specs.declared.kernel.Outcome.{Outcome}
use Rattle.ref_interp.specs.declared.kernel.Outcome.TheVariants as outcome
use Rattle.ref_interp.specs.Cells.{AreCells, AreVarCells, AreArrayCells, var_numbers, array_numbers, store_of}
use Rattle.ref_interp.specs.Kernels.{Opens, IsRound, opened}
use Rattle.ref_interp.specs.Machines.{ended, returned_number, IsGiven, Given, Ran}
use Rattle.ref_interp.specs.Outcomes.{InputsFit, scalar_numbers, EndsSo, Says}
use Rattle.ref_interp.specs.Turns.{KernelsNeedNoMore}
use Rattle.ref_interp.specs.Statements.{Enters}
use Rattle.ref_interp.proofs.Fine.{FineEnd, body_fine}
use Rattle.ref_interp.proofs.Headers.{scalars_fit}
use Rattle.ref_interp.proofs.Turns.{ends_at_bound}
use Rattle.ref_interp.proofs.Running.{taking_all, turn_goes}
use Rattle.ref_interp.proofs.ByParts.{entered_run}

-- ---- the opening

pub opened_length : (ts : List Ty) (ps : List ℕ) → length (opened ts ps) ≡ length ts
opened_length [] ps = refl
opened_length (t ∷ ts) [] = ap suc (opened_length ts [])
opened_length (t ∷ ts) (p ∷ ps) = ap suc (opened_length ts ps)

pub opened_at : (ts : List Ty) (ps : List ℕ) (i : ℕ) → i < length ts → get_or (opened ts ps) i None ≡ slice_get ps i
opened_at [] ps i lt = absurd (omega arith)
opened_at (t ∷ ts) [] zero lt = refl
opened_at (t ∷ ts) (p ∷ ps) zero lt = refl
opened_at (t ∷ ts) [] (suc i) lt = opened_at ts [] i (omega (arith, lt))
opened_at (t ∷ ts) (p ∷ ps) (suc i) lt = opened_at ts ps i (omega (arith, lt))

-- one cell more
pub opened_more : (ts : List Ty) (ps : List ℕ) (i : ℕ) (vs : List (Option ℕ)) (c : Option ℕ) → i < length ts → vs ≡ take i (opened ts ps) → c ≡ slice_get ps i → vs ++ (c ∷ []) ≡ take (i + 1) (opened ts ps)
opened_more ts ps i vs c lt e f =
    ap (λ vs. vs ++ (c ∷ [])) e ∙ ap (λ c. take i (opened ts ps) ++ (c ∷ [])) (f ∙ sym (opened_at ts ps i lt)) ∙ sym (take-suc (opened ts ps) i None (let l = opened_length ts ps in omega (arith, l, lt))) ∙ ap (λ j. take j (opened ts ps)) (one_more i)
  where
    one_more : (i : ℕ) → suc i ≡ i + 1
    one_more i = omega arith

pub opened_all : (ts : List Ty) (ps : List ℕ) (i : ℕ) → length ts ≤ i → take i (opened ts ps) ≡ opened ts ps
opened_all ts ps i past = take_all i (opened ts ps) (let l = opened_length ts ps in omega (arith, l, past))

none_set : (ts : List Ty) → (var_numbers ts (opened ts []) ≡ replicate (length ts) None) × AreVarCells ts (opened ts [])
none_set [] = (refl, tt)
none_set (t ∷ ts) = let h = none_set ts in (ap (λ zs. None ∷ zs) h.0, (tt, h.1))

first_set : (ts st : List Ty) (ps : List ℕ) → take (length st) ts ≡ st → AllZip IsPatternOf st ps
    → (var_numbers ts (opened ts ps) ≡ map Some (scalar_numbers st ps) ++ replicate (length ts - length (scalar_numbers st ps)) None) × AreVarCells ts (opened ts ps)
first_set ts [] [] e all = let h = none_set ts in (h.0 ∙ ap (λ n. replicate n None) (omega arith), h.1)
first_set ts [] (p ∷ ps) e all = absurd all
first_set ts (s ∷ st) [] e all = absurd all
first_set [] (s ∷ st) (p ∷ ps) e all = absurd (cc)
first_set (t ∷ ts) (s ∷ st) (p ∷ ps) e all =
    let same : t ≡ s = cc in
    let rest : take (length st) ts ≡ st = cc in
    let h = first_set ts st ps rest all.1 in (
      ap (λ z. Some z ∷ var_numbers ts (opened ts ps)) (ap (λ t. number t p) same) ∙ ap (λ zs. Some (number s p) ∷ zs) h.0 ∙ ap (λ n. Some (number s p) ∷ (map Some (scalar_numbers st ps) ++ replicate n None)) (omega arith),
      (subst (λ t. p < 2 ^ ty_width t) (sym same) all.0, h.1),
    )

arrays_set : (xs : List ArrayOf) (pss : List (List ℕ)) → AllZip AreElementsOf (map flat xs) pss → AreArrayCells xs pss
arrays_set [] [] h = tt
arrays_set [] (ps ∷ pss) h = absurd h
arrays_set (x ∷ xs) [] h = absurd h
arrays_set (x ∷ xs) (ps ∷ pss) h = (h.0.patterns, arrays_set xs pss h.1)

pub opens : (k : Typed) (p : Profile) (i : Patterns) (c : Cells) → Lawful k → InputsFit k i → c.vars ≡ opened k.vars i.scalars → c.arrays ≡ i.arrays → Opens k p i c
opens k p i c law fit vs as_of =
    let h = first_set k.vars (scalar_types k.params) i.scalars (law.header p).first_vars (scalars_fit k i fit) in
    record {
      is = ap (λ (vs : List (Option ℕ)). record { vars = var_numbers k.vars vs; arrays = array_numbers k.arrays c.arrays }) vs
          ∙ ap (λ (pss : List (List ℕ)). record { vars = var_numbers k.vars (opened k.vars i.scalars); arrays = array_numbers k.arrays pss }) as_of
          ∙ ap (λ (zs : List (Option ℤ)). record { vars = zs; arrays = array_numbers k.arrays i.arrays }) h.0;
      cells = record { vars = subst (AreVarCells k.vars) (sym vs) h.1; arrays = subst (AreArrayCells k.arrays) (sym as_of) (arrays_set k.arrays i.arrays fit.arrays) };
    }

-- ---- the block

pub body_starved : (k : Objects) (r : Option Ty) (ss : List TypedStmt) (m m2 : Machine) → AreCells k m.cells → m.left < 1 → m2.cells ≡ m.cells → m2.left ≡ 0 → Ran k r (body_run k ss) m ending.OutOfTurns m2
body_starved k r ss m m2 cells starved same none = record {
  is = taking_all 1 (block (map (act k) ss)) (store_of k m.cells) m.left starved ∙ ap (λ n. ends out_of_turns (store_of k m.cells) n) (sym none) ∙ ap (λ c. ends out_of_turns (store_of k c) m2.left) (sym same);
  cells = subst (AreCells k) (sym same) cells;
  few = omega (arith, none);
  given = tt;
}

pub body_goes : (k : Objects) (r : Option Ty) (ss : List TypedStmt) (m m1 m2 n : Machine) (e : Ending) → m1.left + 1 ≡ m.left → m1.cells ≡ m.cells → Enters k ss m1 m2 → Ran k r (in_order (map (act k) ss)) m2 e n → Ran k r (body_run k ss) m e n
body_goes k r ss m m1 m2 n e left same en h = turn_goes k r (block (map (act k) ss)) m m1 n e left same (entered_run k r ss (in_order (map (act k) ss)) m1 m2 n e en h)

-- ---- patterns of results

map_back : (t : Ty) (ps : List ℕ) → IsRound → All (λ p. p < 2 ^ ty_width t) ps → map (pattern t) (map (number t) ps) ≡ ps
map_back t [] round h = refl
map_back t (p ∷ ps) round h =
    ap (λ q. q ∷ map (pattern t) (map (number t) ps)) (round t p (All-head (λ p. p < 2 ^ ty_width t) p ps h)) ∙ ap (λ qs. p ∷ qs) (map_back t ps round (All-tail (λ p. p < 2 ^ ty_width t) p ps h))

arrays_back : (xs : List ArrayOf) (pss : List (List ℕ)) → IsRound → AreArrayCells xs pss → array_patterns xs (array_numbers xs pss) ≡ pss
arrays_back [] [] round h = refl
arrays_back [] (ps ∷ pss) round h = absurd h
arrays_back (x ∷ xs) [] round h = absurd h
arrays_back (x ∷ xs) (ps ∷ pss) round h = ap (λ qs. qs ∷ array_patterns xs (array_numbers xs pss)) (map_back x.ty ps round h.0) ∙ ap (λ qss. ps ∷ qss) (arrays_back xs pss round h.1)

result_back : (r : Option Ty) (v : Option ℕ) → IsRound → IsGiven r v → result_pattern r (returned_number r v) ≡ v
result_back None None round h = refl
result_back None (Some p) round h = absurd h
result_back (Some t) None round h = absurd h
result_back (Some t) (Some p) round h = ap Some (round t p h)

-- ---- what it comes to

-- the kernel's run, by that of its block
pub run_is : (k : Typed) (p : Profile) (i : Inputs) (n : ℕ) (e : Ending) (m : Machine) → body_run (objects p k) k.body (opening (objects p k) i) n ≡ ended (objects p k) k.result e m
    → kernel_run k p i n ≡ with_kernel_end k.result k.at (ended (objects p k) k.result e m)
run_is k p i n e m h = ap (with_kernel_end k.result k.at) h

-- how the block ends, and what is left, by the law of all runs
fine_body : (k : Typed) (p : Profile) (i : Inputs) (n : ℕ) (e : Ending) (m : Machine) → Lawful k → body_run (objects p k) k.body (opening (objects p k) i) n ≡ ended (objects p k) k.result e m → FineEnd false n (ended (objects p k) k.result e m)
fine_body k p i n e m law h = subst (FineEnd false n) h (body_fine (objects p k) k.result k.body (law.statements p) (opening (objects p k) i) n)

ends_at : (k : Typed) (p : Profile) (i : Inputs) (n : ℕ) (e : Ended) (r : Option ℤ) (arrays : List (List ℕ)) (value : Option ℕ) (turns : ℕ) → kernel_run k p i n ≡ e → e.left ≤ n → turns ≡ n - e.left → IsResult k.result e.how r → arrays ≡ array_patterns k.arrays e.store.arrays → value ≡ result_pattern k.result r
    → EndsSo k p i n arrays value turns
ends_at k p i n e r arrays value turns is less t res as_of val = record {
  out = e.store.arrays;
  r = r;
  ends = record {
    bound = n;
    all_turns = ap (λ (e : Ended). e.left + turns) is ∙ omega (arith, less, t);
    arrays = ap (λ (e : Ended). e.store.arrays) (sym is);
    result = subst (λ (e : Ended). IsResult k.result e.how r) (sym is) res;
  };
  within = omega (arith, t);
  arrays_are = as_of;
  value_is = val;
}

by_return_is : (t : Option Ty) (at : Span) (v : Option ℤ) → IsResult t (kernel_end t at (by_return v)) v
by_return_is None at v = refl
by_return_is (Some t) at v = refl

pub says_returned : (k : Typed) (p : Profile) (i : Inputs) (n : ℕ) (m : Machine) (turns : ℕ) → IsRound → Lawful k → body_run (objects p k) k.body (opening (objects p k) i) n ≡ ended (objects p k) k.result ending.Return m → AreCells (objects p k) m.cells → Given k.result ending.Return m → turns ≡ n - m.left
    → EndsSo k p i n m.cells.arrays m.value turns
says_returned k p i n m turns round law h cells given t =
    ends_at k p i n (with_kernel_end k.result k.at (ended (objects p k) k.result ending.Return m)) (returned_number k.result m.value) m.cells.arrays m.value turns (run_is k p i n ending.Return m h) (fine_body k p i n ending.Return m law h).fewer t
    (by_return_is k.result k.at (returned_number k.result m.value)) (sym (arrays_back k.arrays m.cells.arrays round cells.arrays)) (sym (result_back k.result m.value round given))

pub says_void : (k : Typed) (p : Profile) (i : Inputs) (n : ℕ) (m : Machine) (turns : ℕ) → IsRound → Lawful k → body_run (objects p k) k.body (opening (objects p k) i) n ≡ ended (objects p k) k.result ending.Normally m → AreCells (objects p k) m.cells → k.result ≡ None → turns ≡ n - m.left
    → EndsSo k p i n m.cells.arrays None turns
says_void k p i n m turns round law h cells void t =
    ends_at k p i n (with_kernel_end k.result k.at (ended (objects p k) k.result ending.Normally m)) None m.cells.arrays None turns (run_is k p i n ending.Normally m h) (fine_body k p i n ending.Normally m law h).fewer t
    (subst (λ r. IsResult r (kernel_end r k.at normally) None) (sym void) refl) (sym (arrays_back k.arrays m.cells.arrays round cells.arrays)) (sym (ap (λ r. result_pattern r None) void))

pub says_missing : (k : Typed) (p : Profile) (i : Inputs) (n : ℕ) (m : Machine) (t : Ty) → body_run (objects p k) k.body (opening (objects p k) i) n ≡ ended (objects p k) k.result ending.Normally m → k.result ≡ Some t → first k p i n ≡ Some k.at
says_missing k p i n m t h e = ap (λ (e : Ended). first_of e.how) (run_is k p i n ending.Normally m h) ∙ ap (λ r. first_of (kernel_end r k.at normally)) e

pub says_undefined : (k : Typed) (p : Profile) (i : Inputs) (n : ℕ) (m : Machine) → body_run (objects p k) k.body (opening (objects p k) i) n ≡ ended (objects p k) k.result ending.Undefined m → first k p i n ≡ Some m.trace.at
says_undefined k p i n m h = ap (λ (e : Ended). first_of e.how) (run_is k p i n ending.Undefined m h) ∙ place k.result
  where
    place : (r : Option Ty) → first_of (kernel_end r k.at (undefined m.trace.at)) ≡ Some m.trace.at
    place None = refl
    place (Some t) = refl

pub says_starved : (k : Typed) (p : Profile) (i : Inputs) (n : ℕ) (m : Machine) → body_run (objects p k) k.body (opening (objects p k) i) n ≡ ended (objects p k) k.result ending.OutOfTurns m → (kernel_run k p i n).how ≡ out_of_turns
says_starved k p i n m h = ap (λ (e : Ended). e.how) (run_is k p i n ending.OutOfTurns m h) ∙ starved k.result
  where
    starved : (r : Option Ty) → kernel_end r k.at out_of_turns ≡ out_of_turns
    starved None = refl
    starved (Some t) = refl

pub never_breaks : (k : Typed) (p : Profile) (i : Inputs) (n : ℕ) (m : Machine) → Lawful k → body_run (objects p k) k.body (opening (objects p k) i) n ≡ ended (objects p k) k.result ending.Break m → ⊥
never_breaks k p i n m law h = none (fine_body k p i n ending.Break m law h).leaves
  where
    none : IsTrue false → ⊥
    none e = cc

pub never_continues : (k : Typed) (p : Profile) (i : Inputs) (n : ℕ) (m : Machine) → Lawful k → body_run (objects p k) k.body (opening (objects p k) i) n ≡ ended (objects p k) k.result ending.Continue m → ⊥
never_continues k p i n m law h = none (fine_body k p i n ending.Continue m law h).leaves
  where
    none : IsTrue false → ⊥
    none e = cc

-- ---- it is one outcome

-- what ends within n turns ends with a bound of n
ended_how : (k : Typed) (p : Profile) (i : Inputs) (n : ℕ) (arrays : List (List ℕ)) (value : Option ℕ) (turns : ℕ) → KernelsKeepEnds → KernelsNeedNoMore → (e : EndsSo k p i n arrays value turns) → IsResult k.result (kernel_run k p i n).how e.r
ended_how k p i n arrays value turns keeps needs e = (ends_at_bound k.result (kernel_run k p i) e.out e.r turns n (keeps k p i) (needs k p i) e.within e.ends).result

not_first : (t : Option Ty) (w : How) (r : Option ℤ) (at : Span) → IsResult t w r → first_of w ≡ Some at → ⊥
not_first None (undefined p) r at h e = h
not_first (Some t) (undefined p) r at h e = h
not_first t w r at h e = cc

not_starved : (t : Option Ty) (w : How) (r : Option ℤ) → IsResult t w r → w ≡ out_of_turns → ⊥
not_starved None w r h e = subst (λ w. IsResult None w r) e h
not_starved (Some t) w r h e = subst (λ w. IsResult (Some t) w r) e h

first_none : (k : Typed) (p : Profile) (i : Inputs) (n : ℕ) (at : Span) → first k p i n ≡ Some at → (kernel_run k p i n).how ≡ out_of_turns → ⊥
first_none k p i n at f e = never at (sym (ap first_of e) ∙ f)
  where
    never : (at : Span) → None ≡ Some at → ⊥
    never at e = cc

one_span : (at q : Span) → Some at ≡ Some q → at ≡ q
one_span at q e = cc

pub says_one : (k : Typed) (p : Profile) (i : Inputs) (n : ℕ) (o u : Outcome) → EndsIsOne → KernelsKeepEnds → KernelsNeedNoMore → Says k p i n o → Says k p i n u → u ≡ o
says_one k p i n (outcome.Ends a v t) (outcome.Ends b w s) one keeps needs x y =
    let h = one k p i y.out x.out y.r x.r s t y.ends x.ends in
    let as_of : b ≡ a = y.arrays_are ∙ ap (array_patterns k.arrays) h.0 ∙ sym x.arrays_are in
    let vs : w ≡ v = y.value_is ∙ ap (result_pattern k.result) h.1 ∙ sym x.value_is in
    ap (λ b. outcome.Ends b w s) as_of ∙ ap (λ w. outcome.Ends a w s) vs ∙ ap (outcome.Ends a v) h.2
says_one k p i n (outcome.Ends a v t) (outcome.Undefined at) one keeps needs x y = absurd (not_first k.result (kernel_run k p i n).how x.r at (ended_how k p i n a v t keeps needs x) y)
says_one k p i n (outcome.Ends a v t) outcome.OutOfTurns one keeps needs x y = absurd (not_starved k.result (kernel_run k p i n).how x.r (ended_how k p i n a v t keeps needs x) y)
says_one k p i n (outcome.Undefined at) (outcome.Ends b w s) one keeps needs x y = absurd (not_first k.result (kernel_run k p i n).how y.r at (ended_how k p i n b w s keeps needs y) x)
says_one k p i n (outcome.Undefined at) (outcome.Undefined q) one keeps needs x y = ap outcome.Undefined (one_span q at (sym y ∙ x))
says_one k p i n (outcome.Undefined at) outcome.OutOfTurns one keeps needs x y = absurd (first_none k p i n at x y)
says_one k p i n outcome.OutOfTurns (outcome.Ends b w s) one keeps needs x y = absurd (not_starved k.result (kernel_run k p i n).how y.r (ended_how k p i n b w s keeps needs y) x)
says_one k p i n outcome.OutOfTurns (outcome.Undefined q) one keeps needs x y = absurd (first_none k p i n q y x)
says_one k p i n outcome.OutOfTurns outcome.OutOfTurns one keeps needs x y = refl
