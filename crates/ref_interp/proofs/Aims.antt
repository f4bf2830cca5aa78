-- What is assigned to.
use Rattle.std.proofs.Common.{◌≡◌, ℕ, zero, suc, ◌+◌, ◌^◌, ◌<◌, List, [], ◌∷◌, map, length, get_or, Option, Some, None, refl, sym, ◌∙◌, ap, subst, arith}
use Rattle.std.specs.Prelude.{Bool, true, false, ℤ, pos, slice_get}
use Rattle.std.proofs.lemmas.List.{nil_from_length}
use Rattle.el_base.specs.declared.span.Span.{Span}
use Rattle.el_base.specs.declared.ty.Ty.{Ty}
use Rattle.el_base.specs.declared.ty.Ty.TheVariants.{I8, I32}
use Rattle.el_base.specs.Numbers.{number}
use Rattle.el_base.specs.Widths.{ty_width}
use Rattle.c_ast.specs.declared.tree.Binary.{Binary}
use Rattle.c_ast.specs.declared.tree.Binary.TheVariants.{Both, Either}
use Rattle.c_ast.specs.declared.tree.Family.{Family}
use Rattle.c_ast.specs.declared.tree.Family.TheVariants.{Shift}
use Rattle.c_ast.specs.ResultTypes.{promoted, usual, family, joint_of_family, joint_type, result_type}
use Rattle.c_ast.specs.Casts.{assigned_type}
use Rattle.c_ast.specs.declared.typed.ArrayOf.{ArrayOf}
use Rattle.c_ast.specs.declared.typed.Object.{Object}
use Rattle.c_ast.specs.declared.typed.Object.TheVariants as object
use Rattle.c_ast.specs.declared.typed.TypedExpr.{TypedExpr}
use Rattle.c_ast.specs.declared.typed.TypedTarget.{TypedTarget}
use Rattle.c_meaning.specs.Types.{conv}
use Rattle.c_meaning.specs.Operators.{binary_value}
use Rattle.c_meaning.specs.Patterns.{conversion_op, converted_by}
use Rattle.c_meaning.specs.Stores.{Store, Objects}
use Rattle.c_meaning.specs.Expressions.{Val, undefined_value, value, Meaning, after_turns, on_one, on_two, later, always, all_values, meaning}
use Rattle.c_meaning.specs.Runs.{undefined, out_of_turns, normally, ends, with_val}
use Rattle.c_meaning.specs.Statements.{Place, of_var, of_element, Placed, no_place, placed, place_by, read_place, write_place, object_type, array_type, MeantTarget, target_place, meant_target, storing, stored, assigned, assigned_to, updated, updated_at, joined_in, joined_with, step_operator}
use Rattle.c_meaning.specs.Lawful.{LawfulExpr, LawfulTarget, IsObject, IsElement}
use Rattle.c_meaning.proofs.TypeLemmas.{promoted_twice, promoted_usual}
use Rattle.c_meaning.proofs.StoreParts.{array_type_is}
use Rattle.ref_interp.specs.declared.cells.Cells.{Cells}
use Rattle.ref_interp.specs.declared.cells.Trace.{Trace}
use Rattle.ref_interp.specs.declared.machine.Ending.{Ending}
use Rattle.ref_interp.specs.declared.machine.Ending.TheVariants as ending
use Rattle.ref_interp.specs.declared.machine.Machine.{Machine}
use Rattle.ref_interp.specs.Answers.{plus_turns, Gives, Answered, Answers}
use Rattle.ref_interp.specs.Cells.{AreCells, store_of}
use Rattle.ref_interp.specs.Evaluations.{IsReady, ReadGives, ElementGives, PlaceGives, Located, Finds, StrictGives}
use Rattle.ref_interp.specs.Machines.{CanRun, Ran}
use Rattle.ref_interp.specs.Laws.{PatternLaws}
use Rattle.ref_interp.specs.Operators.{IsRightType}
use Rattle.ref_interp.specs.Targets.{IsSeen, Sought, Aimed, OldGives}
use Rattle.ref_interp.proofs.Values.{failed_is, gives_is, gives}
use Rattle.ref_interp.proofs.Places.{located}
use Rattle.ref_interp.proofs.Running.{taking_some, taking_all}
use Rattle.ref_interp.proofs.Written.{Stands}

-- ---- types of objects

pub array_type_none : (xs : List ArrayOf) (a : ℕ) → slice_get xs a ≡ None → array_type xs a ≡ I32
array_type_none [] a e = refl
array_type_none (y ∷ xs) zero e = absurd (cc)
array_type_none (y ∷ xs) (suc a) e = array_type_none xs a e

var_type_is : (ts : List Ty) (v : ℕ) (t : Ty) → slice_get ts v ≡ Some t → get_or ts v I32 ≡ t
var_type_is [] v t e = absurd (cc)
var_type_is (u ∷ ts) zero t e = cc
var_type_is (u ∷ ts) (suc v) t e = var_type_is ts v t e

pub type_is : (k : Objects) (o : Object) (n : ℕ) (t : Ty) → IsObject k o n t → object_type k o ≡ t
type_is k (object.Var v) n t h = var_type_is k.vars v t h.0
type_is k (object.Array a) n t h = array_type_is k.arrays a h.0 h.1 ∙ h.2

-- ---- places

aimed : (b : Bool) (to : Object) (v : Placed) (u : ℕ) (new : Trace) (q : ℕ) → b ≡ false → Sought to u new.turns q v → Aimed b to v u new q
aimed b to v u new q e h = subst (λ b. Aimed b to v u new q) (sym e) h

missed : (b : Bool) (to : Object) (v : Placed) (u : ℕ) (new : Trace) (q : ℕ) → b ≡ true → v ≡ no_place new.at → Aimed b to v u new q
missed b to v u new q e h = subst (λ b. Aimed b to v u new q) (sym e) h

pub sought_is : (b : Bool) (to : Object) (v : Placed) (u : ℕ) (new : Trace) (q : ℕ) → b ≡ false → Aimed b to v u new q → Sought to u new.turns q v
sought_is true to v u new q e h = absurd (cc)
sought_is false to v u new q e h = h

pub missed_is : (b : Bool) (to : Object) (v : Placed) (u : ℕ) (new : Trace) (q : ℕ) → b ≡ true → Aimed b to v u new q → v ≡ no_place new.at
missed_is true to v u new q e h = h
missed_is false to v u new q e h = absurd (cc)

pub aimed_var : (k : Objects) (c : Cells) (target : TypedTarget) (v : ℕ) (t : Ty) (old : Trace) → target.to ≡ object.Var v → LawfulTarget k (LawfulExpr k) target t → IsReady k c old → Aimed old.failed target.to (target_place k (meant_target k target) (store_of k c)) old.turns old 0
aimed_var k c target v t old e h ready =
    let s = store_of k c in
    let l : length target.indices ≡ 0 = (subst (λ o. IsObject k o (length target.indices) t) e h.0).1 in
    let nil = nil_from_length target.indices l in
    aimed old.failed target.to _ old.turns old 0 ready.clear (record {
      place = of_var v;
      turns = 0;
      is = ap (λ o. place_by k.arrays o target.at (all_values (map (meaning k) target.indices) s)) e ∙ ap (λ es. place_by k.arrays (object.Var v) target.at (all_values (map (meaning k) es) s)) nil;
      seen = subst (λ o. IsSeen o 0 (of_var v)) (sym e) refl;
      used = (let f = ready.few in omega arith);
    })

pub aimed_array : (k : Objects) (c : Cells) (target : TypedTarget) (es : List TypedExpr) (a : ℕ) (t : Ty) (old new : Trace) (q : ℕ) → target.to ≡ object.Array a → es ≡ target.indices → LawfulTarget k (LawfulExpr k) target t → IsReady k c old → PlaceGives k c es a target.at old new q
    → Aimed new.failed target.to (target_place k (meant_target k target) (store_of k c)) old.turns new q
aimed_array k c target es a t old new q e f h ready pl =
    let s = store_of k c in
    let el : IsElement k a (length target.indices) t = subst (λ o. IsObject k o (length target.indices) t) e h.0 in
    let it = subst (λ es. PlaceGives k c es a target.at old new q) f pl t el h.1 ready in
    by_cases new.failed refl (ap (λ o. place_by k.arrays o target.at (all_values (map (meaning k) target.indices) s)) e) it
  where
    by_cases : (b : Bool) → new.failed ≡ b → target_place k (meant_target k target) (store_of k c) ≡ place_by k.arrays (object.Array a) target.at (all_values (map (meaning k) target.indices) (store_of k c))
        → Located new.failed a (place_by k.arrays (object.Array a) target.at (all_values (map (meaning k) target.indices) (store_of k c))) old.turns new q → Aimed new.failed target.to (target_place k (meant_target k target) (store_of k c)) old.turns new q
    by_cases true b is l = missed new.failed target.to _ old.turns new q b (is ∙ subst (λ b. Located b a (place_by k.arrays (object.Array a) target.at (all_values (map (meaning k) target.indices) (store_of k c))) old.turns new q) b l)
    by_cases false b is l =
        let g : Finds a old.turns new.turns q (place_by k.arrays (object.Array a) target.at (all_values (map (meaning k) target.indices) (store_of k c))) = subst (λ b. Located b a (place_by k.arrays (object.Array a) target.at (all_values (map (meaning k) target.indices) (store_of k c))) old.turns new q) b l in
        aimed new.failed target.to _ old.turns new q b (record { place = of_element a g.place; turns = g.turns; is = is ∙ g.is; seen = subst (λ o. IsSeen o q (of_element a g.place)) (sym e) (g.place, refl, g.seen); used = g.used })

-- ---- old values

pub old_var : (c : Cells) (to : Object) (q v : ℕ) (at : Span) (old new : Trace) (r : ℕ) → to ≡ object.Var v → ReadGives v at c old new r → OldGives c to q at old new r
old_var c to q v at old new r e rd k n t p is ready seen =
    let h = subst (λ o. IsObject k o n t) e is in
    let s : p ≡ of_var v = subst (λ o. IsSeen o q p) e seen in
    subst (λ p. Answers t (after_turns at 0 (read_place (store_of k c) p)) old new r) (sym s) (rd k t h.0 ready)

pub old_element : (c : Cells) (to : Object) (q a : ℕ) (at : Span) (old new : Trace) (r : ℕ) → to ≡ object.Array a → ElementGives a at c q old new r → OldGives c to q at old new r
old_element c to q a at old new r e el k n t p is ready seen =
    let h = subst (λ o. IsObject k o n t) e is in
    let s = subst (λ o. IsSeen o q p) e seen in
    let found = located old.failed a old.turns (placed (of_element a s.0) 0) old q ready.clear (record { place = s.0; turns = 0; is = refl; seen = s.2; used = (let f = ready.few in omega arith) }) in
    subst (λ p. Answers t (after_turns at 0 (read_place (store_of k c) p)) old new r) (sym s.1) (el k n t (placed (of_element a s.0) 0) old.turns h ready.cells found)

-- ---- stores

pub store_fails : (k : Objects) (r : Option Ty) (t from : Ty) (p : Place) (v : Val) (x : ℕ) (m : Machine) → CanRun k m → m.trace.failed ≡ true → Answered m.trace.failed from v 0 m.trace x → Ran k r (with_val v (storing t p)) m ending.Undefined m
store_fails k r t from p v x m can f an = record {
  is = ap (λ v. with_val v (storing t p) (store_of k m.cells) m.left) (failed_is m.trace.failed from v 0 x m.trace f an);
  cells = can.cells;
  few = can.few;
  given = tt;
}

pub store_starved : (k : Objects) (r : Option Ty) (t from : Ty) (p : Place) (v : Val) (x : ℕ) (m m2 : Machine) → CanRun k m → m.trace.failed ≡ false → Answered m.trace.failed from v 0 m.trace x → m.left < m.trace.turns → m2.cells ≡ m.cells → m2.left ≡ 0 → Ran k r (with_val v (storing t p)) m ending.OutOfTurns m2
store_starved k r t from p v x m m2 can f an starved same none =
    let g = gives_is m.trace.failed from v 0 x m.trace f an in
    record {
      is = ap (λ v. with_val v (storing t p) (store_of k m.cells) m.left) g.is ∙ taking_all g.turns (storing t p (number from x)) (store_of k m.cells) m.left (let h = g.used in let c = can.few in omega (arith, h, c, starved))
          ∙ ap (λ n. ends out_of_turns (store_of k m.cells) n) (sym none) ∙ ap (λ c. ends out_of_turns (store_of k c) m2.left) (sym same);
      cells = subst (AreCells k) (sym same) can.cells;
      few = omega (arith, none);
      given = tt;
    }

pub store_goes : (k : Objects) (r : Option Ty) (t from : Ty) (p : Place) (v : Val) (x : ℕ) (m m1 m2 : Machine) → CanRun k m → m.trace.failed ≡ false → Answered m.trace.failed from v 0 m.trace x → m1.left + m.trace.turns ≡ m.left → m1.cells ≡ m.cells
    → Stands k m2.cells (write_place p (conv t (number from x)) (store_of k m1.cells)) → m2.left ≡ m1.left → Ran k r (with_val v (storing t p)) m ending.Normally m2
store_goes k r t from p v x m m1 m2 can f an left same st left2 =
    let g = gives_is m.trace.failed from v 0 x m.trace f an in
    record {
      is = ap (λ v. with_val v (storing t p) (store_of k m.cells) m.left) g.is ∙ taking_some g.turns (storing t p (number from x)) (store_of k m.cells) m.left m1.left (let h = g.used in let c = can.few in omega (arith, h, c, left))
          ∙ ap (λ c. ends normally (write_place p (conv t (number from x)) (store_of k c)) m1.left) (sym same) ∙ ap (λ s. ends normally s m1.left) (sym st.is) ∙ ap (λ n. ends normally (store_of k m2.cells) n) (sym left2);
      cells = st.cells;
      few = (let c = can.few in omega (arith, c, left, left2));
      given = tt;
    }

-- ---- values after the turns of a target

later_answers : (b : Bool) (t : Ty) (v : Val) (u w x : ℕ) (new : Trace) → w ≡ plus_turns 0 u → Answered b t v w new x → Answered b t (later u v) 0 new x
later_answers true t v u w x new e h = ap (later u) h
later_answers false t v u w x new e h = record { turns = u + h.turns; is = ap (later u) h.is; below = h.below; used = (let g = h.used in omega arith) }

-- a target whose place is not there
pub assign_fails : (k : Objects) (r : Option Ty) (target : MeantTarget) (mean : Meaning) (m m2 : Machine) → CanRun k m → m2.cells ≡ m.cells → m2.left ≡ m.left → target_place k target (store_of k m.cells) ≡ no_place m2.trace.at → Ran k r (assigned k target mean) m ending.Undefined m2
assign_fails k r target mean m m2 can same left e = record {
  is = ap (λ w. assigned_to (object_type k target.to) w mean (store_of k m.cells) m.left) e ∙ ap (λ n. ends (undefined m2.trace.at) (store_of k m.cells) n) (sym left) ∙ ap (λ c. ends (undefined m2.trace.at) (store_of k c) m2.left) (sym same);
  cells = subst (AreCells k) (sym same) can.cells;
  few = (let c = can.few in omega (arith, c, left));
  given = tt;
}

pub update_misses : (k : Objects) (r : Option Ty) (target : MeantTarget) (op : Binary) (ty : Ty) (mean : Meaning) (m m2 : Machine) → CanRun k m → m2.cells ≡ m.cells → m2.left ≡ m.left → target_place k target (store_of k m.cells) ≡ no_place m2.trace.at → Ran k r (updated k target op ty mean) m ending.Undefined m2
update_misses k r target op ty mean m m2 can same left e = record {
  is = ap (λ w. updated_at (object_type k target.to) target.at (joined_in k.profile op (joint_type op (object_type k target.to) ty)) w mean (store_of k m.cells) m.left) e
      ∙ ap (λ n. ends (undefined m2.trace.at) (store_of k m.cells) n) (sym left) ∙ ap (λ c. ends (undefined m2.trace.at) (store_of k c) m2.left) (sym same);
  cells = subst (AreCells k) (sym same) can.cells;
  few = (let c = can.few in omega (arith, c, left));
  given = tt;
}

-- the value that is stored, after the turns of the target
pub assign_answers : (b : Bool) (t : Ty) (v : Val) (u x : ℕ) (start mid new : Trace) → start.turns ≡ 0 → mid.turns ≡ plus_turns start.turns u → Answered b t v mid.turns new x → Answered b t (later u v) 0 new x
assign_answers b t v u x start mid new none e h = later_answers b t v u mid.turns x new (e ∙ ap (λ n. plus_turns n u) none) h

pub assign_goes : (k : Objects) (r : Option Ty) (target : MeantTarget) (mean : Meaning) (m m2 n : Machine) (e : Ending) (t : Ty) (p : Place) (u : ℕ) → object_type k target.to ≡ t → target_place k target (store_of k m.cells) ≡ placed p u → m2.cells ≡ m.cells → m2.left ≡ m.left
    → Ran k r (with_val (later u (mean (store_of k m.cells))) (storing t p)) m2 e n → Ran k r (assigned k target mean) m e n
assign_goes k r target mean m m2 n e t p u ty pl same left h = record {
  is = ap (λ w. assigned_to (object_type k target.to) w mean (store_of k m.cells) m.left) pl ∙ ap (λ t. with_val (later u (mean (store_of k m.cells))) (storing t p) (store_of k m.cells) m.left) ty
      ∙ ap (λ n. with_val (later u (mean (store_of k m.cells))) (storing t p) (store_of k m.cells) n) (sym left) ∙ ap (λ c. with_val (later u (mean (store_of k m.cells))) (storing t p) (store_of k c) m2.left) (sym same) ∙ h.is;
  cells = h.cells;
  few = h.few;
  given = h.given;
}

-- the old value is not there: at the place of the target
pub update_unset : (k : Objects) (r : Option Ty) (target : MeantTarget) (op : Binary) (ty : Ty) (mean : Meaning) (m m2 : Machine) (p : Place) (u : ℕ) → CanRun k m → m2.cells ≡ m.cells → m2.left ≡ m.left → target_place k target (store_of k m.cells) ≡ placed p u
    → after_turns target.at 0 (read_place (store_of k m.cells) p) ≡ undefined_value m2.trace.at → Ran k r (updated k target op ty mean) m ending.Undefined m2
update_unset k r target op ty mean m m2 p u can same left pl none =
    let t = object_type k target.to in
    let f = joined_in k.profile op (joint_type op t ty) in
    let s = store_of k m.cells in
    record {
      is = ap (λ w. updated_at t target.at f w mean s m.left) pl ∙ ap (λ v. stored t p u v s m.left) (unset_joins target.at m2.trace.at f (read_place s p) (mean s) none)
          ∙ ap (λ n. ends (undefined m2.trace.at) s n) (sym left) ∙ ap (λ c. ends (undefined m2.trace.at) (store_of k c) m2.left) (sym same);
      cells = subst (AreCells k) (sym same) can.cells;
      few = (let c = can.few in omega (arith, c, left));
      given = tt;
    }
  where
    unset_joins : (at q : Span) (f : ℤ → ℤ → Option ℤ) (o : Option ℤ) (v : Val) → after_turns at 0 o ≡ undefined_value q → joined_with at f o v ≡ undefined_value q
    unset_joins at q f None v e = e
    unset_joins at q f (Some z) v e = absurd (cc)

pub update_goes : (k : Objects) (r : Option Ty) (target : MeantTarget) (op : Binary) (ty : Ty) (mean : Meaning) (m m2 n : Machine) (e : Ending) (t : Ty) (p : Place) (u : ℕ) → object_type k target.to ≡ t → target_place k target (store_of k m.cells) ≡ placed p u → m2.cells ≡ m.cells → m2.left ≡ m.left
    → Ran k r (stored t p u (joined_with target.at (joined_in k.profile op (joint_type op t ty)) (read_place (store_of k m.cells) p) (mean (store_of k m.cells)))) m2 e n → Ran k r (updated k target op ty mean) m e n
update_goes k r target op ty mean m m2 n e t p u tys pl same left h =
    let s = store_of k m.cells in
    record {
      is = ap (λ w. updated_at (object_type k target.to) target.at (joined_in k.profile op (joint_type op (object_type k target.to) ty)) w mean s m.left) pl
          ∙ ap (λ t. stored t p u (joined_with target.at (joined_in k.profile op (joint_type op t ty)) (read_place s p) (mean s)) s m.left) tys
          ∙ ap (λ n. stored t p u (joined_with target.at (joined_in k.profile op (joint_type op t ty)) (read_place s p) (mean s)) s n) (sym left)
          ∙ ap (λ c. stored t p u (joined_with target.at (joined_in k.profile op (joint_type op t ty)) (read_place s p) (mean s)) (store_of k c) m2.left) (sym same) ∙ h.is;
      cells = h.cells;
      few = h.few;
      given = h.given;
    }

-- the old value that was read, converted, joined with the value
some_is : (at : Span) (t : Ty) (x m : ℕ) (o : Option ℤ) → Gives t x m m (after_turns at 0 o) → o ≡ Some (number t x)
some_is at t x m None g = absurd (never (undefined_value at) g.turns g.is)
  where
    never : (v : Val) (n : ℕ) → undefined_value at ≡ value (number t x) n → ⊥
    never v n e = cc
some_is at t x m (Some z) g = ap Some (same z (number t x) 0 g.turns g.is)
  where
    same : (a b : ℤ) (i j : ℕ) → value a i ≡ value b j → a ≡ b
    same a b i j e = cc

joins_as : (at : Span) (f : ℤ → ℤ → Option ℤ) (z : ℤ) (w : Val) → on_two at f (value z 0) w ≡ on_one at (f z) w
joins_as at f z (undefined_value p) = refl
joins_as at f z (value y u) = ap (λ n. after_turns at n (f z y)) (omega arith)

pub join_answers : (k : Objects) (t j by : Ty) (at : Span) (op : Binary) (p : Place) (w : Val) (u m x y z cx : ℕ) (s : Store) (mid new : Trace) → PatternLaws → cx ≡ converted_by (conversion_op t j) x → j ≡ promoted j → IsRightType op j by
    → Gives t x m m (after_turns at 0 (read_place s p)) → m ≡ plus_turns 0 u → Answered mid.failed by w m mid y → StrictGives k.profile op j by at cx y mid new z
    → Answered new.failed (result_type op j) (later u (joined_with at (joined_in k.profile op j) (read_place s p) w)) 0 new z
join_answers k t j by at op p w u m x y z cx s mid new laws cast pj rt g used an st =
    let c = laws.converts t j x g.below in
    let f = binary_value k.profile op j in
    let old : number j cx ≡ conv j (number t x) = ap (number j) cast ∙ c.0 in
    let v : Val = value (number j cx) 0 in
    let gv : Gives j cx m m v = record { turns = 0; is = refl; below = subst (λ n. n < 2 ^ ty_width j) (sym cast) c.1; used = omega (arith, used) } in
    let it : Answered new.failed (result_type op j) (on_two at f v w) m new z = st v w m m laws pj rt gv an in
    let same : on_two at f v w ≡ joined_with at (joined_in k.profile op j) (read_place s p) w =
    joins_as at f (number j cx) w ∙ ap (λ a. on_one at (f a) w) old ∙ ap (λ o. joined_with at (joined_in k.profile op j) o w) (sym (some_is at t x m (read_place s p) g)) in
    later_answers new.failed (result_type op j) (joined_with at (joined_in k.profile op j) (read_place s p) w) u m z new used (subst (λ v. Answered new.failed (result_type op j) v m new z) same it)

-- types of a compound assignment
pub joint_promoted : (op : Binary) (a b : Ty) → joint_type op a b ≡ promoted (joint_type op a b)
joint_promoted op a b = in_family (family op)
  where
    in_family : (f : Family) → joint_of_family f a b ≡ promoted (joint_of_family f a b)
    in_family Shift = sym (promoted_twice a)
    in_family f = sym (promoted_usual a b)

pub right_of : (op : Binary) (t b : Ty) → b ≡ assigned_type (Some op) t b → IsRightType op (joint_type op t b) b
right_of Both t b e = tt
right_of Either t b e = tt
right_of op t b e = e

-- the 1 of a step, in the type in which it is joined
one_number : (t : Ty) → number t 1 ≡ pos 1
one_number I8 = refl
one_number t = refl

one_below : (t : Ty) → 1 < 2 ^ ty_width t
one_below I8 = omega arith
one_below t = omega arith

pub one_answers : (t : Ty) (s : Store) (m u : ℕ) (mid : Trace) → mid.failed ≡ false → mid.turns ≡ m → m ≡ plus_turns 0 u → Answered mid.failed t (always (pos 1) s) m mid 1
one_answers t s m u mid clear e used = gives mid.failed t _ m 1 mid clear (record { turns = 0; is = ap (λ z. value z 0) (sym (one_number t)); below = one_below t; used = omega (arith, e, used) })

-- reading takes no turn
no_turns : (at : Span) (t : Ty) (x u w : ℕ) (o : Option ℤ) (g : Gives t x u w (after_turns at 0 o)) → g.turns ≡ 0
no_turns at t x u w None g = absurd (never (undefined_value at) g.turns g.is)
  where
    never : (v : Val) (n : ℕ) → undefined_value at ≡ value (number t x) n → ⊥
    never v n e = cc
no_turns at t x u w (Some z) g = sym (same z (number t x) 0 g.turns g.is)
  where
    same : (a b : ℤ) (i j : ℕ) → value a i ≡ value b j → i ≡ j
    same a b i j e = cc

pub old_turns : (at : Span) (t : Ty) (x u w v : ℕ) (o : Option ℤ) → u ≡ plus_turns 0 v → Gives t x u w (after_turns at 0 o) → w ≡ plus_turns 0 v
old_turns at t x u w v o e g = let n = no_turns at t x u w o g in let h = g.used in omega (arith, n, h, e)

pub old_gives : (at : Span) (t : Ty) (x u w : ℕ) (o : Option ℤ) → Gives t x u w (after_turns at 0 o) → Gives t x w w (after_turns at 0 o)
old_gives at t x u w o g = record { turns = g.turns; is = g.is; below = g.below; used = (let n = no_turns at t x u w o g in let h = g.used in omega (arith, n, h)) }

pub step_types : (up : Bool) (t : Ty) → joint_type (step_operator up) t I32 ≡ usual t I32
step_types true t = refl
step_types false t = refl
