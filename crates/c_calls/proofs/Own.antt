-- What statements do with their own expressions: they evaluate them, and then write to a place, return or choose.
use Rattle.std.proofs.Common.{◌≡◌, ℕ, ℤ, ◌+◌, List, Option, Some, None, refl, sym, ◌∙◌, ap, subst, arith}
use Rattle.std.specs.Prelude.{Bool, option_map, option_and_then}
use Rattle.el_base.specs.declared.span.Span.{Span}
use Rattle.el_base.specs.declared.ty.Ty.{Ty}
use Rattle.c_ast.specs.declared.tree.Binary.{Binary}
use Rattle.c_ast.specs.declared.typed.Object.{Object}
use Rattle.c_ast.specs.ResultTypes.{joint_type}
use Rattle.c_meaning.specs.Types.{conv}
use Rattle.c_meaning.specs.Stores.{Store, Objects}
use Rattle.c_meaning.specs.Expressions.{Val, undefined_value, value, Vals, undefined_values, values, Meaning, after_turns, all_values}
use Rattle.c_meaning.specs.Profiles.{IsDefined}
use Rattle.c_meaning.specs.Runs.{normally, undefined, Ended, Run, ends, taking, with_val, with_value}
use Rattle.c_meaning.specs.Statements.{Place, read_place, write_place, object_type, object_place, MeantTarget, Placed, placed_after, place_by, target_place, storing, stored, assigned_to, joined_in, joined_with, updated_at, assignment}
use Rattle.c_meaning.proofs.RunParts.{had, taken}
use Rattle.c_calls.proofs.Imitates.{Rel, ended, Imitates}
use Rattle.c_calls.proofs.Expands.{Two, both_give, flip, Both, Uses, UsesLeft}
use Rattle.c_calls.proofs.Values.{val_means, val_gives, vals_means, vals_gives}

-- ---- the value of one expression

record Valued (v : Val) (next : ℤ → Run) (s : Store) (l : ℕ) : Type 0 where
  given : ℤ
  turns : ℕ
  rest : ℕ
  first : v ≡ value given turns
  sum : l ≡ turns + rest
  is : with_val v next s l ≡ next given s rest

valued : (v : Val) (next : ℤ → Run) (s : Store) (l : ℕ) → IsDefined (with_val v next s l).how → Valued v next s l
valued (undefined_value p) next s l d = absurd d
valued (value x u) next s l d = let h = had u (next x) s l d in record { given = x; turns = u; rest = h.rest; first = refl; sum = h.sum; is = h.is }

valued_up : (v : Val) (next : ℤ → Run) (s : Store) (x : ℤ) (u l : ℕ) → v ≡ value x u → with_val v next s (u + l) ≡ next x s l
valued_up v next s x u l e = ap (λ w. with_val w next s (u + l)) e ∙ taken u (next x) s l

pub value_uses : (c : ℕ → Meaning) (next : ℕ → ℤ → Run) → Uses (val_means c) (λ n. with_value (c n) (next n)) next
value_uses c next = record {
  cost = λ u. u;
  down = λ n s l d. let q = valued (c n s) (next n) s l d in record { given = q.given; turns = q.turns; rest = q.rest; first = q.first; in_turns = let h = q.sum in omega arith; less = let h = q.sum in omega arith; is = q.is };
  up = λ n s x u h l d. valued_up (c n s) (next n) s x u l h;
}

pub value_left : (c : Meaning) (next : ℤ → Run) → UsesLeft (val_gives c) (with_value c next) next
value_left c next = record {
  down = λ r l d. let q = valued (c r) next r l d in record { given = q.given; rest = q.rest; first = (q.turns, q.first); less = let h = q.sum in omega arith; is = q.is };
  up = λ r x h. (h.0, λ l d. valued_up (c r) next r x h.0 l h.1);
}

-- ---- what is undefined, or leads to a store

abbrev pub outcome : Option Store → Span → Run
outcome None at s n = ends (undefined at) s n
outcome (Some t) at s n = ends normally t n

pub data Alike (S : Rel) : Option Store → Option Store → Type 0 where
  neither : Alike S None None
  each : (s t : Store) → S s t → Alike S (Some s) (Some t)

outcome_forth : (S M : Rel) (ret inside : Bool) (x y : Option Store) (at at2 : Span) (s t : Store) (m : ℕ) → Alike S x y → IsDefined (outcome x at s m).how → Imitates S M ret inside (outcome x at s m) m (λ i j s n. outcome y at2 s n) t
outcome_forth S M ret inside x y at at2 s t m neither d = absurd d
outcome_forth S M ret inside x y at at2 s t m (each s1 t1 h) d = record { least = 0; need = 0; turns = 0; last = t1; within = omega arith; takes = λ i j l. let e : 0 + l ≡ l = omega arith in ap (λ n. ended normally t1 n) e; after = h; less = omega arith }

outcome_back : (S M : Rel) (ret inside : Bool) (x y : Option Store) (at at2 : Span) (s t : Store) (m : ℕ) → Alike S x y → IsDefined (outcome y at2 t m).how → Imitates (flip S) M ret inside (outcome y at2 t m) m (λ i j s n. outcome x at s n) s
outcome_back S M ret inside x y at at2 s t m neither d = absurd d
outcome_back S M ret inside x y at at2 s t m (each s1 t1 h) d = record { least = 0; need = 0; turns = 0; last = s1; within = omega arith; takes = λ i j l. let e : 0 + l ≡ l = omega arith in ap (λ n. ended normally s1 n) e; after = h; less = omega arith }

same_run : (S M : Rel) (ret inside : Bool) (e : Ended) (m : ℕ) (b b2 : ℕ → ℕ → Run) (t : Store) → ((i j n : ℕ) → b2 i j t n ≡ b i j t n) → Imitates S M ret inside e m b t → Imitates S M ret inside e m b2 t
same_run S M ret inside e m b b2 t h q = record { least = q.least; need = q.need; turns = q.turns; last = q.last; within = q.within; takes = λ i j l. h (q.least + i) (q.need + j) (q.turns + l) ∙ q.takes i j l; after = q.after; less = q.less }

pub outcomes : (R S M : Rel) (ret inside : Bool) (g g2 : Store → Option Store) (at at2 : Span) → ((s t : Store) → R s t → Alike S (g s) (g2 t)) → Both R S M ret inside (λ i s n. outcome (g s) at s n) (λ s n. outcome (g2 s) at2 s n)
outcomes R S M ret inside g g2 at at2 f = record {
  forth = λ n s t m le r d. same_run S M ret inside (outcome (g s) at s m) m (λ i j s n. outcome (g2 t) at2 s n) (λ i j s n. outcome (g2 s) at2 s n) t (λ i j n. refl) (outcome_forth S M ret inside (g s) (g2 t) at at2 s t m (f s t r) d);
  back = λ n t s m le r d. same_run (flip S) (flip M) ret inside (outcome (g2 t) at2 t m) m (λ i j s1 n. outcome (g s) at s1 n) (λ i j s1 n. outcome (g s1) at s1 n) s (λ i j n. refl) (outcome_back S (flip M) ret inside (g s) (g2 t) at at2 s t m (f s t r) d);
}

-- ---- assignments

-- the new value of a place, by its old one
abbrev pub New : Type 0
New = Option ℤ → ℤ → Option ℤ

abbrev pub plain_value : New
plain_value old z = Some z

abbrev pub joined_value : (ℤ → ℤ → Option ℤ) → New
joined_value f old z = option_and_then (λ o. f o z) old

abbrev pub written : Ty → Option Place → New → ℤ → Store → Option Store
written t None f z s = None
written t (Some p) f z s = option_map (λ w. write_place p (conv t w) s) (f (read_place s p) z)

-- the value that an assignment with an operator or without has
abbrev pub new_of : Objects → Object → Option Binary → Ty → New
new_of k to None ty = plain_value
new_of k to (Some op) ty = joined_value (joined_in k.profile op (joint_type op (object_type k to) ty))

abbrev pub Given : Type 0
Given = List ℤ × ℤ

abbrev pub assigns : Objects → Object → Span → Option Binary → Ty → Given → Run
assigns k to at op ty x s n = outcome (written (object_type k to) (object_place k.arrays to x.0) (new_of k to op ty) x.1 s) at s n

pub record Assigned (k : Objects) (target : MeantTarget) (op : Option Binary) (ty : Ty) (vs : Vals) (v : Val) (s : Store) (l : ℕ) (e : Ended) : Type 0 where
  pub given : Given
  pub left_turns : ℕ
  pub right_turns : ℕ
  pub rest : ℕ
  pub indices : vs ≡ values given.0 left_turns
  pub first : v ≡ value given.1 right_turns
  pub sum : l ≡ left_turns + right_turns + rest
  pub is : e ≡ assigns k target.to target.at op ty given s rest

abbrev by_place : Objects → MeantTarget → Option Binary → Ty → Meaning → Placed → Store → ℕ → Ended
by_place k target None ty m p s l = assigned_to (object_type k target.to) p m s l
by_place k target (Some op) ty m p s l = updated_at (object_type k target.to) target.at (joined_in k.profile op (joint_type op (object_type k target.to) ty)) p m s l

assignment_is : (k : Objects) (target : MeantTarget) (op : Option Binary) (ty : Ty) (m : Meaning) (s : Store) (l : ℕ) → assignment k target op ty m s l ≡ by_place k target op ty m (target_place k target s) s l
assignment_is k target None ty m s l = refl
assignment_is k target (Some op) ty m s l = refl

plain_at : (k : Objects) (target : MeantTarget) (ty : Ty) (m : Meaning) (is : List ℤ) (t : ℕ) (o : Option Place) (v : Val) (s : Store) (l : ℕ) → object_place k.arrays target.to is ≡ o → m s ≡ v → IsDefined (by_place k target None ty m (placed_after target.at t o) s l).how
    → Assigned k target None ty (values is t) v s l (by_place k target None ty m (placed_after target.at t o) s l)
plain_at k target ty m is t None v s l e h d = absurd d
plain_at k target ty m is t (Some p) (undefined_value q) s l e h d = absurd (subst (λ w. IsDefined (stored (object_type k target.to) p t w s l).how) h d)
plain_at k target ty m is t (Some p) (value x r) s l e h d =
    let tt1 = object_type k target.to in
    let run : stored tt1 p t (m s) s l ≡ taking (t + r) (storing tt1 p x) s l = ap (λ w. stored tt1 p t w s l) h in
    let q = had (t + r) (storing tt1 p x) s l (subst (λ (z : Ended). IsDefined z.how) run d) in
    record { given = (is, x); left_turns = t; right_turns = r; rest = q.rest; indices = refl; first = refl; sum = q.sum; is = run ∙ q.is ∙ ap (λ o. outcome (written tt1 o plain_value x s) target.at s q.rest) (sym e) }

joined_at : (k : Objects) (target : MeantTarget) (op : Binary) (ty : Ty) (m : Meaning) (is : List ℤ) (t : ℕ) (p : Place) (x : ℤ) (r : ℕ) (s : Store) (l : ℕ) → object_place k.arrays target.to is ≡ Some p → (old new : Option ℤ)
    → read_place s p ≡ old → option_and_then (λ o. joined_in k.profile op (joint_type op (object_type k target.to) ty) o x) old ≡ new
    → IsDefined (stored (object_type k target.to) p t (joined_with target.at (joined_in k.profile op (joint_type op (object_type k target.to) ty)) old (value x r)) s l).how
    → Assigned k target (Some op) ty (values is t) (value x r) s l (stored (object_type k target.to) p t (joined_with target.at (joined_in k.profile op (joint_type op (object_type k target.to) ty)) old (value x r)) s l)
joined_at k target op ty m is t p x r s l e None new h i d = absurd d
joined_at k target op ty m is t p x r s l e (Some old) None h i d =
    let f = joined_in k.profile op (joint_type op (object_type k target.to) ty) in
    absurd (subst (λ w. IsDefined (stored (object_type k target.to) p t (after_turns target.at r w) s l).how) i d)
joined_at k target op ty m is t p x r s l e (Some old) (Some new) h i d =
    let f = joined_in k.profile op (joint_type op (object_type k target.to) ty) in
    let tt1 = object_type k target.to in
    let run : stored tt1 p t (after_turns target.at r (f old x)) s l ≡ taking (t + r) (storing tt1 p new) s l = ap (λ w. stored tt1 p t (after_turns target.at r w) s l) i in
    let q = had (t + r) (storing tt1 p new) s l (subst (λ (z : Ended). IsDefined z.how) run d) in
    record {
      given = (is, x);
      left_turns = t;
      right_turns = r;
      rest = q.rest;
      indices = refl;
      first = refl;
      sum = q.sum;
      is = run ∙ q.is ∙ sym (ap (λ o. outcome (written tt1 o (joined_value f) x s) target.at s q.rest) e ∙ ap (λ o. outcome (option_map (λ w. write_place p (conv tt1 w) s) (joined_value f o x)) target.at s q.rest) h ∙ ap (λ o. outcome (option_map (λ w. write_place p (conv tt1 w) s) o) target.at s q.rest) i);
    }

no_operand : (at : Span) (f : ℤ → ℤ → Option ℤ) (old : Option ℤ) (q : Span) (t : Ty) (p : Place) (u : ℕ) (s : Store) (l : ℕ) → IsDefined (stored t p u (joined_with at f old (undefined_value q)) s l).how → ⊥
no_operand at f None q t p u s l d = d
no_operand at f (Some old) q t p u s l d = d

update_at : (k : Objects) (target : MeantTarget) (op : Binary) (ty : Ty) (m : Meaning) (is : List ℤ) (t : ℕ) (o : Option Place) (v : Val) (s : Store) (l : ℕ) → object_place k.arrays target.to is ≡ o → m s ≡ v → IsDefined (by_place k target (Some op) ty m (placed_after target.at t o) s l).how
    → Assigned k target (Some op) ty (values is t) v s l (by_place k target (Some op) ty m (placed_after target.at t o) s l)
update_at k target op ty m is t None v s l e h d = absurd d
update_at k target op ty m is t (Some p) (undefined_value q) s l e h d =
    let f = joined_in k.profile op (joint_type op (object_type k target.to) ty) in
    absurd (no_operand target.at f (read_place s p) q (object_type k target.to) p t s l (subst (λ w. IsDefined (stored (object_type k target.to) p t (joined_with target.at f (read_place s p) w) s l).how) h d))
update_at k target op ty m is t (Some p) (value x r) s l e h d =
    let f = joined_in k.profile op (joint_type op (object_type k target.to) ty) in
    let run : stored (object_type k target.to) p t (joined_with target.at f (read_place s p) (m s)) s l ≡ stored (object_type k target.to) p t (joined_with target.at f (read_place s p) (value x r)) s l = ap (λ w. stored (object_type k target.to) p t (joined_with target.at f (read_place s p) w) s l) h in
    let q = joined_at k target op ty m is t p x r s l e (read_place s p) (option_and_then (λ o. f o x) (read_place s p)) refl refl (subst (λ (z : Ended). IsDefined z.how) run d) in
    record { given = q.given; left_turns = q.left_turns; right_turns = q.right_turns; rest = q.rest; indices = q.indices; first = q.first; sum = q.sum; is = run ∙ q.is }

by_indices : (k : Objects) (target : MeantTarget) (op : Option Binary) (ty : Ty) (m : Meaning) (vs : Vals) (s : Store) (l : ℕ) → IsDefined (by_place k target op ty m (place_by k.arrays target.to target.at vs) s l).how
    → Assigned k target op ty vs (m s) s l (by_place k target op ty m (place_by k.arrays target.to target.at vs) s l)
by_indices k target None ty m (undefined_values p) s l d = absurd d
by_indices k target (Some op) ty m (undefined_values p) s l d = absurd d
by_indices k target None ty m (values is t) s l d = plain_at k target ty m is t (object_place k.arrays target.to is) (m s) s l refl refl d
by_indices k target (Some op) ty m (values is t) s l d = update_at k target op ty m is t (object_place k.arrays target.to is) (m s) s l refl refl d

pub assign_down : (k : Objects) (target : MeantTarget) (op : Option Binary) (ty : Ty) (m : Meaning) (s : Store) (l : ℕ) → IsDefined (assignment k target op ty m s l).how → Assigned k target op ty (all_values target.indices s) (m s) s l (assignment k target op ty m s l)
assign_down k target op ty m s l d =
    let e = assignment_is k target op ty m s l in
    let q = by_indices k target op ty m (all_values target.indices s) s l (subst (λ (z : Ended). IsDefined z.how) e d) in
    record { given = q.given; left_turns = q.left_turns; right_turns = q.right_turns; rest = q.rest; indices = q.indices; first = q.first; sum = q.sum; is = e ∙ q.is }

-- the same run with the turns that it needs
plain_up : (t : Ty) (at : Span) (o : Option Place) (u r l : ℕ) (x : ℤ) (m : Meaning) (s : Store) → m s ≡ value x r → IsDefined (outcome (written t o plain_value x s) at s l).how → assigned_to t (placed_after at u o) m s (u + r + l) ≡ outcome (written t o plain_value x s) at s l
plain_up t at None u r l x m s e d = absurd d
plain_up t at (Some p) u r l x m s e d = ap (λ w. stored t p u w s (u + r + l)) e ∙ taken (u + r) (storing t p x) s l

join_up : (t : Ty) (at : Span) (f : ℤ → ℤ → Option ℤ) (p : Place) (old : Option ℤ) (u r l : ℕ) (x : ℤ) (s : Store) → IsDefined (outcome (option_map (λ w. write_place p (conv t w) s) (joined_value f old x)) at s l).how
    → stored t p u (joined_with at f old (value x r)) s (u + r + l) ≡ outcome (option_map (λ w. write_place p (conv t w) s) (joined_value f old x)) at s l
join_up t at f p None u r l x s d = absurd d
join_up t at f p (Some old) u r l x s d = by_new (f old x) refl d
  where
    by_new : (o : Option ℤ) → f old x ≡ o → IsDefined (outcome (option_map (λ w. write_place p (conv t w) s) (f old x)) at s l).how → stored t p u (after_turns at r (f old x)) s (u + r + l) ≡ outcome (option_map (λ w. write_place p (conv t w) s) (f old x)) at s l
    by_new None e d = absurd (subst (λ o. IsDefined (outcome (option_map (λ w. write_place p (conv t w) s) o) at s l).how) e d)
    by_new (Some y) e d = ap (λ o. stored t p u (after_turns at r o) s (u + r + l)) e ∙ taken (u + r) (storing t p y) s l ∙ sym (ap (λ o. outcome (option_map (λ w. write_place p (conv t w) s) o) at s l) e)

update_up : (t : Ty) (at : Span) (f : ℤ → ℤ → Option ℤ) (o : Option Place) (u r l : ℕ) (x : ℤ) (m : Meaning) (s : Store) → m s ≡ value x r → IsDefined (outcome (written t o (joined_value f) x s) at s l).how
    → updated_at t at f (placed_after at u o) m s (u + r + l) ≡ outcome (written t o (joined_value f) x s) at s l
update_up t at f None u r l x m s e d = absurd d
update_up t at f (Some p) u r l x m s e d = ap (λ w. stored t p u (joined_with at f (read_place s p) w) s (u + r + l)) e ∙ join_up t at f p (read_place s p) u r l x s d

pub assign_up : (k : Objects) (target : MeantTarget) (op : Option Binary) (ty : Ty) (m : Meaning) (s : Store) (x : Given) (u r l : ℕ) → all_values target.indices s ≡ values x.0 u → m s ≡ value x.1 r → IsDefined (assigns k target.to target.at op ty x s l).how
    → assignment k target op ty m s (u + r + l) ≡ assigns k target.to target.at op ty x s l
assign_up k target None ty m s x u r l e h d = ap (λ vs. assigned_to (object_type k target.to) (place_by k.arrays target.to target.at vs) m s (u + r + l)) e ∙ plain_up (object_type k target.to) target.at (object_place k.arrays target.to x.0) u r l x.1 m s h d
assign_up k target (Some op) ty m s x u r l e h d =
    let f = joined_in k.profile op (joint_type op (object_type k target.to) ty) in
    ap (λ vs. updated_at (object_type k target.to) target.at f (place_by k.arrays target.to target.at vs) m s (u + r + l)) e ∙ update_up (object_type k target.to) target.at f (object_place k.arrays target.to x.0) u r l x.1 m s h d

abbrev pub target_of : Object → Span → List Meaning → MeantTarget
target_of to at xs = record { to = to; at = at; indices = xs }

pub assign_uses : (k : Objects) (to : Object) (at : Span) (xs : ℕ → List Meaning) (op : Option Binary) (ty : Ty) (c : ℕ → Meaning) → Uses (Two (vals_means xs) (val_means c)) (λ n. assignment k (target_of to at (xs n)) op ty (c n)) (λ n. assigns k to at op ty)
assign_uses k to at xs op ty c = record {
  cost = λ u. u;
  down = λ n s l d.
      let q = assign_down k (target_of to at (xs n)) op ty (c n) s l d in
      record { given = q.given; turns = q.left_turns + q.right_turns; rest = q.rest; first = record { left_turns = q.left_turns; right_turns = q.right_turns; left = q.indices; right = q.first; sum = refl }; in_turns = let h = q.sum in omega arith; less = let h = q.sum in omega arith; is = q.is };
  up = λ n s x u h l d.
      let e : u + l ≡ h.left_turns + h.right_turns + l = let i = h.sum in omega arith in
      ap (λ i. assignment k (target_of to at (xs n)) op ty (c n) s i) e ∙ assign_up k (target_of to at (xs n)) op ty (c n) s x h.left_turns h.right_turns l h.left h.right d;
}

pub assign_left : (k : Objects) (to : Object) (at : Span) (xs : List Meaning) (op : Option Binary) (ty : Ty) (c : Meaning) → UsesLeft (both_give (vals_gives xs) (val_gives c)) (assignment k (target_of to at xs) op ty c) (assigns k to at op ty)
assign_left k to at xs op ty c = record {
  down = λ r l d.
      let q = assign_down k (target_of to at xs) op ty c r l d in
      record { given = q.given; rest = q.rest; first = ((q.left_turns, q.indices), (q.right_turns, q.first)); less = let h = q.sum in omega arith; is = q.is };
  up = λ r x h. (h.0.0 + h.1.0, λ l d. assign_up k (target_of to at xs) op ty c r x h.0.0 h.1.0 l h.0.1 h.1.1 d);
}
