-- A program with calls ends exactly where the kernel without calls does.
use Rattle.std.proofs.Common.{◌≡◌, ℕ, ℤ, zero, suc, ◌+◌, ◌-◌, ◌<◌, ◌≤◌, List, [], ◌∷◌, ◌++◌, length, map, take, get_or, Option, Some, None, refl, sym, ◌∙◌, ap, subst, arith, append-nil}
use Rattle.std.specs.Prelude.{Bool, true, false, Contains, slice_get, replicate, ◌↔◌}
use Rattle.std.proofs.lemmas.List.{length-append}
use Rattle.el_base.specs.declared.span.Span.{Span}
use Rattle.el_base.specs.declared.ty.Ty.{Ty}
use Rattle.c_ast.specs.declared.typed.ArrayOf.{ArrayOf}
use Rattle.c_ast.specs.declared.program.TypedProgram.{TypedProgram}
use Rattle.c_meaning.specs.declared.profile.Profile.{Profile}
use Rattle.c_meaning.specs.Stores.{Store, Objects, Inputs, opening, scalar_types}
use Rattle.c_meaning.specs.Profiles.{IsDefined}
use Rattle.c_meaning.specs.Runs.{How, normally, by_break, by_continue, by_return, undefined, out_of_turns, Ended, turn}
use Rattle.c_meaning.specs.Statements.{Act, in_order, block, kernel_end, with_kernel_end, IsResult, EndsBy, Ends}
use Rattle.c_calls.specs.Meanings.{Called, helper_calls, prog_act, Calls}
use Rattle.c_calls.specs.Inlined.{writings, body_of, inlined}
use Rattle.c_calls.specs.Lawful.{Signature, signature_of, numbers_from, all_declared, in_scope_after_list, LawfulProgram}
use Rattle.c_calls.specs.Laws.{CallsAreInlined}
use Rattle.c_calls.proofs.Lists.{no_member}
use Rattle.c_calls.proofs.Stores.{Agree}
use Rattle.c_calls.proofs.Imitates.{Rel, After, ended}
use Rattle.c_calls.proofs.Expands.{acts, declares_of, flip, Both}
use Rattle.c_calls.proofs.Blocks.{Seg}
use Rattle.c_calls.proofs.ExprTrees.{World, objects_of}
use Rattle.c_calls.proofs.Boths.{both_turns}
use Rattle.c_calls.proofs.Scopes.{once_right, direct_list, made_list, made_list_is, lists_none}
use Rattle.c_calls.proofs.Statements.{body_runs, body_lists, enter}
use Rattle.c_calls.proofs.Arguments.{slice_left}
use Rattle.c_calls.proofs.Helpers.{Knows, helpers_known, store_long, direct_list_is, numbers_below}

-- ---- the opening stores

abbrev unset : Option ℤ
unset = None

none_all : (m w : ℕ) → get_or (replicate m unset) w unset ≡ unset
none_all zero w = refl
none_all (suc m) zero = refl
none_all (suc m) (suc w) = none_all m w

opening_same : (zs : List ℤ) (a b w : ℕ) → get_or (map Some zs ++ replicate a None) w None ≡ get_or (map Some zs ++ replicate b None) w None
opening_same [] a b w = none_all a w ∙ sym (none_all b w)
opening_same (z ∷ zs) a b zero = refl
opening_same (z ∷ zs) a b (suc w) = opening_same zs a b w

take_fit : (ts vars : List Ty) → take (length ts) vars ≡ ts → length ts ≤ length vars
take_fit [] vars e = omega arith
take_fit (t ∷ ts) [] e = absurd (cc)
take_fit (t ∷ ts) (x ∷ xs) e = let h = take_fit ts xs (tail x t (take (length ts) xs) ts e) in omega arith
  where
    tail : (x y : Ty) (xs ys : List Ty) → x ∷ xs ≡ y ∷ ys → xs ≡ ys
    tail x y xs ys e = cc

-- ---- results

result_defined : (t : Option Ty) (at : Span) (h : How) (r : Option ℤ) → IsResult t (kernel_end t at h) r → IsDefined h
result_defined None at normally r e = tt
result_defined (Some t) at normally r e = tt
result_defined None at (undefined p) r e = e
result_defined (Some t) at (undefined p) r e = e
result_defined None at out_of_turns r e = e
result_defined (Some t) at out_of_turns r e = e
result_defined t at h r e = tt

transfer : (t : Option Ty) (at : Span) (out : List (List ℤ)) (r : Option ℤ) (a : Ended) (b : ℕ → Ended) (bound turns l : ℕ) (last : Store) → out ≡ a.store.arrays → IsResult t (kernel_end t at a.how) r → a.store.arrays ≡ last.arrays → b bound ≡ ended a.how last l → l + turns ≡ bound
    → EndsBy t (λ n. with_kernel_end t at (b n)) out r turns
transfer t at out r a b bound turns l last arrays result same is sum = record {
  bound = bound;
  all_turns = ap (λ (z : Ended). z.left + turns) is ∙ sum;
  arrays = arrays ∙ same ∙ sym (ap (λ (z : Ended). z.store.arrays) is);
  result = subst (λ (z : Ended). IsResult t (kernel_end t at z.how) r) (sym is) result;
}

after_arrays : (S M : Rel) (ret inside : Bool) (h : How) (s t : Store) → ((s t : Store) → S s t → s.arrays ≡ t.arrays) → ((s t : Store) → M s t → s.arrays ≡ t.arrays) → After S M ret inside h s t → s.arrays ≡ t.arrays
after_arrays S M ret inside normally s t f g a = f s t a
after_arrays S M ret inside by_break s t f g a = g s t a.1
after_arrays S M ret inside by_continue s t f g a = g s t a.1
after_arrays S M ret inside (by_return v) s t f g a = g s t a.1
after_arrays S M ret inside (undefined at) s t f g a = absurd a
after_arrays S M ret inside out_of_turns s t f g a = absurd a

no_helper : {A : Type 0} (h : ℕ) (g : Signature) → slice_get {X = Signature} [] h ≡ Some g → A
no_helper zero g e = absurd (cc)
no_helper (suc h) g e = absurd (cc)

module _ (P : TypedProgram) (lw : LawfulProgram P) (p : Profile) (i : Inputs) where
  abbrev kv : List Ty
  kv = P.kernel.vars

  abbrev Kv : List Ty
  Kv = kv ++ (body_of P).types

  abbrev Ka : List ArrayOf
  Ka = P.kernel.arrays

  abbrev k : Objects
  k = objects_of p kv Ka

  abbrev K : Objects
  K = objects_of p Kv Ka

  abbrev low : Store
  low = opening K i

  abbrev n : ℕ
  n = length low.vars

  abbrev cs : ℕ → List Called
  cs j = helper_calls p j [] P.helpers

  abbrev vs : List ℕ
  vs = numbers_from 0 (length (scalar_types P.kernel.params))

  abbrev vs2 : List ℕ
  vs2 = in_scope_after_list vs P.kernel.body

  stores : length Kv ≤ n
  stores = store_long i.scalars (length Kv)

  knows : Knows p Kv Ka n (map signature_of P.helpers) (writings [] P.helpers) cs
  knows = helpers_known p Kv Ka n stores P.helpers [] [] (λ j. []) (record { many_writings = refl; many_calls = λ j. refl; written = λ h g e. no_helper h g e }) lw.helpers

  seg : Seg Kv (length kv) (body_of P).types
  seg = record { pre = kv; post = []; is = ap (λ z. kv ++ z) (sym (append-nil (body_of P).types)); at = refl }

  abbrev world : World
  world = record {
    profile = p;
    kv = kv;
    ka = Ka;
    Kv = Kv;
    Ka = Ka;
    b = 0;
    n = n;
    own = true;
    low = low;
    signatures = map signature_of P.helpers;
    writings = writings [] P.helpers;
    calls = cs;
    arrays = refl;
    count = refl;
    room = let e = length-append kv (body_of P).types in omega arith;
    stores = stores;
    types = λ w lt. let e : 0 + w ≡ w = omega arith in ap (slice_get Kv) e ∙ slice_left kv (body_of P).types w lt;
    written = knows.written;
  }

  small : (w : ℕ) → Contains vs w → w < length kv
  small w c = let a = numbers_below 0 (length (scalar_types P.kernel.params)) w c in let b = take_fit (scalar_types P.kernel.params) kv (lw.header p).first_vars in omega arith

  abbrev R : Rel
  R s t = Agree k K 0 true low vs [] [] s t

  abbrev S : Rel
  S s t = Agree k K 0 true low vs2 [] [] s t

  abbrev A : ℕ → List Act
  A j = map (prog_act k (cs j)) P.kernel.body

  abbrev B : List Act
  B = acts K (body_of P).stmts

  runs : Both R S R true false (λ j. turn (block (A j))) (turn (block B))
  runs =
      let ds = direct_list P.kernel.body in
      let xs = made_list (writings [] P.helpers) 0 (length kv) P.kernel.body in
      both_turns R S R true false (λ j. block (A j)) (block B)
      (enter world (Some P.kernel.result) vs [] [] ds xs S R false (λ j. in_order (A j)) (in_order B) (λ j. declares_of (A j)) (declares_of B)
      (body_lists world (Some P.kernel.result) (length kv) P.kernel.body false vs small (lw.statements p) lw.scoped.scoped)
      (λ j. direct_list_is k (cs j) P.kernel.body) (made_list_is K (writings [] P.helpers) 0 (length kv) P.kernel.body)
      (body_runs world (Some P.kernel.result) (length kv) P.kernel.body false vs [] [] (omega arith) seg (lw.statements p) lw.scoped.scoped
      (once_right (numbers_from 0 (length (scalar_types P.kernel.params))) (all_declared P.kernel.body) lw.scoped.once) (lists_none (length kv) 0 vs small) (λ w c d. no_member w c)))

  start : R (opening k i) (opening K i)
  start = record {
    same = λ w c. let e : w ≡ 0 + w = omega arith in opening_same i.scalars (length kv - length i.scalars) (length Kv - length i.scalars) w ∙ ap (λ j. get_or (opening K i).vars j None) e;
    unset = λ w c. no_member w c;
    unset_too = λ x c. no_member x c;
    below = λ x lt. refl;
    arrays = refl;
    long = store_long i.scalars (length kv);
    count = refl;
  }

  pub forth : (out : List (List ℤ)) (r : Option ℤ) → Calls P p i out r → (t : ℕ) × Ends (inlined P) p i out r t
  forth out r e =
      let m = e.1.bound in
      let a = turn (block (A m)) (opening k i) m in
      let x = runs.forth m (opening k i) (opening K i) m (omega arith) start (result_defined P.kernel.result P.kernel.at a.how r e.1.result) in
      let sum : 0 + x.turns ≡ x.turns + 0 = omega arith in (
        x.turns,
        transfer P.kernel.result P.kernel.at out r a (λ j. turn (block B) (opening K i) j) (x.turns + 0) x.turns 0 x.last e.1.arrays e.1.result
            (after_arrays S R true false a.how a.store x.last (λ s t z. z.arrays) (λ s t z. z.arrays) x.after) (x.takes 0 0 0) sum,
      )

  pub back : (out : List (List ℤ)) (r : Option ℤ) → (t : ℕ) × Ends (inlined P) p i out r t → Calls P p i out r
  back out r e =
      let m = e.1.bound in
      let a = turn (block B) (opening K i) m in
      let x = runs.back m (opening K i) (opening k i) m (omega arith) start (result_defined P.kernel.result P.kernel.at a.how r e.1.result) in
      let at : x.least + x.turns ≡ x.turns + x.least = omega arith in
      let sum : x.least + x.turns ≡ x.least + x.turns = refl in (
        x.turns,
        transfer P.kernel.result P.kernel.at out r a (λ j. turn (block (A j)) (opening k i) j) (x.least + x.turns) x.turns x.least x.last e.1.arrays e.1.result
            (after_arrays (flip S) (flip R) true false a.how a.store x.last (λ s t z. sym z.arrays) (λ s t z. sym z.arrays) x.after)
            (ap (λ j. turn (block (A (x.least + x.turns))) (opening k i) j) at ∙ x.takes x.turns 0 x.least) sum,
      )

pub calls_are_inlined : CallsAreInlined
calls_are_inlined P k lw is p i out r = subst (λ z. Calls P p i out r ↔ ((t : ℕ) × Ends z p i out r t)) (sym is) (forth P lw p i out r, back P lw p i out r)
