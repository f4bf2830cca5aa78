-- The marks that the code gives from the last step on are those of the definition.
use Rattle.std.proofs.Common.{◌≡◌, ℕ, zero, suc, ◌+◌, ◌-◌, ◌<◌, ◌≤◌, List, [], ◌∷◌, ◌++◌, length, get_or, drop, refl, sym, ◌∙◌, ap, subst, arith, inl, inr}
use Rattle.std.specs.Prelude.{Bool, true, false, ◌==◌, ◌&&◌, ◌||◌, not, filter, set, cond, replicate, if◌then◌else◌}
use Rattle.std.proofs.Math.Bool.{or-true, or-false}
use Rattle.std.proofs.Math.ListN.{drop_of_length-le}
use Rattle.std.proofs.lemmas.Bool.{eqb-true, eq-eqb, ne_eqb, cases_eq}
use Rattle.std.proofs.lemmas.List.{length-set, length-replicate, get_or-replicate}
use Rattle.std.proofs.lemmas.List.Folds.{list_any-append}
use Rattle.ir.specs.declared.instr.Instr.{Instr}
use Rattle.ir.specs.declared.instr.Instr.TheVariants.{Const, One, Two, Select, Load, Store}
use Rattle.ir.specs.Renaming.{operands}
use Rattle.block_merge.specs.Found.{is_in}
use Rattle.block_prune.specs.declared.overwritten.Place.{Place}
use Rattle.block_prune.specs.Overwritten.{is_stored_again, is_overwritten, lasting_marks}
use Rattle.block_prune.specs.Dead.{is_pure, is_live, needed_from, live_marks}
use Rattle.block_prune.specs.Code.{is_pending, lasts, noted, all_noted, marked}
use Rattle.block_prune.proofs.Marks.{length_marked, marked_at}
use Rattle.block_prune.proofs.Tables.{first_of}

-- ---- places that later steps store to

or_comm : (x y : Bool) → (x || y) ≡ (y || x)
or_comm true y = sym (or-true y)
or_comm false y = sym (or-false y)

-- none is of an array that is forgotten
forgotten : (ps : List Place) (a p : ℕ) → is_pending (filter (λ q. not (q.array == a)) ps) a p ≡ false
forgotten [] a p = refl
forgotten (q ∷ ps) a p = by (q.array == a) refl (forgotten ps a p)
  where
    by : (c : Bool) → (q.array == a) ≡ c → is_pending (filter (λ r. not (r.array == a)) ps) a p ≡ false
        → is_pending (cond (not c) (q ∷ filter (λ r. not (r.array == a)) ps) (filter (λ r. not (r.array == a)) ps)) a p ≡ false
    by true e rest = rest
    by false e rest = ap (λ (c : Bool). (c && (q.addr == p)) || is_pending (filter (λ r. not (r.array == a)) ps) a p) e ∙ rest

-- those of other arrays stay
remembered : (ps : List Place) (b a p : ℕ) → (b ≡ a → ⊥) → is_pending (filter (λ q. not (q.array == b)) ps) a p ≡ is_pending ps a p
remembered [] b a p ne = refl
remembered (q ∷ ps) b a p ne = by (q.array == b) refl (remembered ps b a p ne)
  where
    by : (c : Bool) → (q.array == b) ≡ c → is_pending (filter (λ r. not (r.array == b)) ps) a p ≡ is_pending ps a p
        → is_pending (cond (not c) (q ∷ filter (λ r. not (r.array == b)) ps) (filter (λ r. not (r.array == b)) ps)) a p ≡ (((q.array == a) && (q.addr == p)) || is_pending ps a p)
    by true e rest =
        let other : (q.array == a) ≡ false = ne_eqb q.array a (λ f. ne (sym (eqb-true q.array b e) ∙ f)) in
        rest ∙ sym (ap (λ (c : Bool). (c && (q.addr == p)) || is_pending ps a p) other)
    by false e rest = ap (λ (c : Bool). ((q.array == a) && (q.addr == p)) || c) rest

after_load : (ps : List Place) (b a p : ℕ) → is_pending (filter (λ q. not (q.array == b)) ps) a p ≡ (if b == a then false else is_pending ps a p)
after_load ps b a p = elim (cases_eq b a) [
  | inl e ↦
      ap (λ c. is_pending (filter (λ q. not (q.array == c)) ps) a p) e ∙ forgotten ps a p
      ∙ sym (ap (λ (c : Bool). if c then false else is_pending ps a p) (eq-eqb b a e))
  | inr ne ↦ remembered ps b a p ne ∙ sym (ap (λ (c : Bool). if c then false else is_pending ps a p) (ne_eqb b a ne))
]

pending_same : (a p : ℕ) (is : List Instr) → is_pending (all_noted is) a p ≡ is_stored_again a p is
pending_same a p [] = refl
pending_same a p (Const w n ∷ is) = pending_same a p is
pending_same a p (One op x ∷ is) = pending_same a p is
pending_same a p (Two op x y ∷ is) = pending_same a p is
pending_same a p (Select w c x y ∷ is) = pending_same a p is
pending_same a p (Load b q ∷ is) = after_load (all_noted is) b a p ∙ ap (λ (c : Bool). if b == a then false else c) (pending_same a p is)
pending_same a p (Store b q v ∷ is) =
    let new : Place = record { array = b; addr = q } in
    let here = (b == a) && (q == p) in
    list_any-append (λ r. (r.array == a) && (r.addr == p)) (all_noted is) (new ∷ [])
    ∙ ap (λ (c : Bool). is_pending (all_noted is) a p || c) (or-false here)
    ∙ or_comm (is_pending (all_noted is) a p) here ∙ ap (λ (c : Bool). here || c) (pending_same a p is)

lasts_same : (i : Instr) (is : List Instr) → lasts i (all_noted is) ≡ not (is_overwritten i is)
lasts_same (Const w n) is = refl
lasts_same (One op x) is = refl
lasts_same (Two op x y) is = refl
lasts_same (Select w c x y) is = refl
lasts_same (Load a p) is = refl
lasts_same (Store a p v) is = ap not (pending_same a p is)

-- ---- marks from the last step on

drop_set : (ms : List Bool) (k : ℕ) (c : Bool) → k < length ms → drop k (set ms k c) ≡ c ∷ drop (suc k) ms
drop_set [] k c lt = absurd (omega arith)
drop_set (m ∷ ms) zero c lt = refl
drop_set (m ∷ ms) (suc k) c lt = drop_set ms k c (omega arith)

-- marks of the steps from the k-th on, and the places that they store to
pub record LastFrom (steps : List Instr) (k : ℕ) (ms : List Bool) (ps : List Place) : Type 0 where
  pub long : length ms ≡ length steps
  pub pending : ps ≡ all_noted (drop k steps)
  pub marks : drop k ms ≡ lasting_marks (drop k steps)

pub last_start : (steps : List Instr) (k : ℕ) (ms : List Bool) (ps : List Place) → k ≡ length steps → length ms ≡ length steps → ps ≡ [] → LastFrom steps k ms ps
last_start steps k ms ps e long none =
    let past : drop k steps ≡ [] = drop_of_length-le steps (omega arith) in
    record {
      long = long;
      pending = none ∙ sym (ap all_noted past);
      marks = drop_of_length-le ms (omega arith) ∙ sym (ap lasting_marks past);
    }

last_more : (steps : List Instr) (k : ℕ) (ms new : List Bool) (ps qs : List Place) (b : Bool) (d e : Instr) → LastFrom steps (suc k) ms ps → k < length steps → d ≡ get_or steps k e
    → b ≡ lasts d ps → qs ≡ noted d ps → new ≡ set ms k b → LastFrom steps k new qs
last_more steps k ms new ps qs b d e h lt at mark note set_is =
    let first = first_of steps k d e lt at in
    let more = drop (suc k) steps in
    record {
      long = ap length set_is ∙ length-set ms k b ∙ h.long;
      pending = note ∙ ap (noted d) h.pending ∙ sym (ap all_noted first);
      marks = ap (drop k) set_is ∙ drop_set ms k b (let l = h.long in omega (arith, l, lt)) ∙ ap (λ c. c ∷ drop (suc k) ms) (mark ∙ ap (lasts d) h.pending ∙ lasts_same d more)
          ∙ ap (λ l. not (is_overwritten d more) ∷ l) h.marks ∙ sym (ap lasting_marks first);
    }

-- the step before the p-th
pub last_before : (steps : List Instr) (p : ℕ) (ms new : List Bool) (ps qs : List Place) (b : Bool) (d e : Instr) → LastFrom steps p ms ps → 0 < p → p ≤ length steps
    → d ≡ get_or steps (p - 1) e → b ≡ lasts d ps → qs ≡ noted d ps → new ≡ set ms (p - 1) b → LastFrom steps (p - 1) new qs
last_before steps p ms new ps qs b d e h pos le at mark note set_is =
    let k : p ≡ suc (p - 1) = omega arith in
    last_more steps (p - 1) ms new ps qs b d e (subst (λ q. LastFrom steps q ms ps) k h) (omega arith) at mark note set_is

pub last_end : (steps : List Instr) (k : ℕ) (ms : List Bool) (ps : List Place) → LastFrom steps k ms ps → k ≤ 0 → ms ≡ lasting_marks steps
last_end steps k ms ps h le =
    let none : k ≡ 0 = omega arith in
    let first = subst (λ q. LastFrom steps q ms ps) none h in
    first.marks

-- ---- values that are needed

-- marks of the steps from the k-th on, and on the values that are needed there
pub record LiveFrom (last : List ℕ) (args : ℕ) (steps : List Instr) (k : ℕ) (ms needed : List Bool) : Type 0 where
  pub long : length ms ≡ length steps
  pub wide : length needed ≡ args + length steps
  pub needs : (a : ℕ) → a < length needed → get_or needed a false ≡ is_in (needed_from last (args + k) (drop k steps)) a
  pub marks : drop k ms ≡ live_marks last (args + k) (drop k steps)

pub live_start : (last : List ℕ) (args : ℕ) (steps : List Instr) (k : ℕ) (ms needed : List Bool) → k ≡ length steps → length ms ≡ length steps
    → needed ≡ marked (replicate (args + length steps) false) last → LiveFrom last args steps k ms needed
live_start last args steps k ms needed e long is =
    let n = args + length steps in
    let past : drop k steps ≡ [] = drop_of_length-le steps (omega arith) in
    let wide : length needed ≡ n = ap length is ∙ length_marked (replicate n false) last ∙ length-replicate n false in
    record {
      long = long;
      wide = wide;
      needs = λ a lt.
          let few : a < n = omega (arith, lt, wide) in
          ap (λ l. get_or l a false) is ∙ marked_at (replicate n false) last a (omega (arith, few, length-replicate n false))
          ∙ ap (λ (c : Bool). c || is_in last a) (get_or-replicate n a false false few)
          ∙ sym (ap (λ l. is_in (needed_from last (args + k) l) a) past);
      marks = drop_of_length-le ms (omega arith) ∙ sym (ap (live_marks last (args + k)) past);
    }

same_length : (c : Bool) (ms : List Bool) (xs : List ℕ) → length (if c then marked ms xs else ms) ≡ length ms
same_length true ms xs = length_marked ms xs
same_length false ms xs = refl

-- where those of the rest are marked, those of a step more are
needs_more : (c : Bool) (ms : List Bool) (xs rest : List ℕ) (a : ℕ) → a < length ms → get_or ms a false ≡ is_in rest a
    → get_or (if c then marked ms xs else ms) a false ≡ is_in (if c then (xs ++ rest) else rest) a
needs_more true ms xs rest a lt h =
    marked_at ms xs a lt ∙ ap (λ (c : Bool). c || is_in xs a) h ∙ or_comm (is_in rest a) (is_in xs a) ∙ sym (list_any-append (λ y. y == a) xs rest)
needs_more false ms xs rest a lt h = h

live_more : (last : List ℕ) (args : ℕ) (steps : List Instr) (k : ℕ) (ms new needed more : List Bool) (b : Bool) (d e : Instr) → LiveFrom last args steps (suc k) ms needed
    → k < length steps → d ≡ get_or steps k e → b ≡ (not (is_pure d) || get_or needed (args + k) false)
    → more ≡ (if b then marked needed (operands d) else needed) → new ≡ set ms k b → LiveFrom last args steps k new more
live_more last args steps k ms new needed more b d e h lt at live note set_is =
    let next : args + suc k ≡ suc (args + k) = omega arith in
    let behind = drop (suc k) steps in
    let rest = needed_from last (suc (args + k)) behind in
    let first = first_of steps k d e lt at in
    let needs : (a : ℕ) → a < length needed → get_or needed a false ≡ is_in rest a = λ a l. h.needs a l ∙ ap (λ n. is_in (needed_from last n behind) a) next in
    let wide = h.wide in
    let stays : b ≡ is_live (args + k) d rest = live ∙ ap (λ (c : Bool). not (is_pure d) || c) (needs (args + k) (omega (arith, wide, lt))) in
    let same : length more ≡ length needed = ap length note ∙ same_length b needed (operands d) in
    record {
      long = ap length set_is ∙ length-set ms k b ∙ h.long;
      wide = same ∙ wide;
      needs = λ a l.
          let few : a < length needed = omega (arith, l, same) in
          ap (λ z. get_or z a false) note ∙ needs_more b needed (operands d) rest a few (needs a few)
          ∙ ap (λ (c : Bool). is_in (if c then (operands d ++ rest) else rest) a) stays ∙ sym (ap (λ z. is_in (needed_from last (args + k) z) a) first);
      marks = ap (drop k) set_is ∙ drop_set ms k b (let l = h.long in omega (arith, l, lt)) ∙ ap (λ c. c ∷ drop (suc k) ms) stays
          ∙ ap (λ z. is_live (args + k) d rest ∷ z) (h.marks ∙ ap (λ n. live_marks last n behind) next) ∙ sym (ap (live_marks last (args + k)) first);
    }

-- the step before the p-th
pub live_before : (last : List ℕ) (args : ℕ) (steps : List Instr) (p : ℕ) (ms new needed more : List Bool) (b : Bool) (d e : Instr) → LiveFrom last args steps p ms needed
    → 0 < p → p ≤ length steps → d ≡ get_or steps (p - 1) e → b ≡ (not (is_pure d) || get_or needed (args + (p - 1)) false)
    → more ≡ (if b then marked needed (operands d) else needed) → new ≡ set ms (p - 1) b → LiveFrom last args steps (p - 1) new more
live_before last args steps p ms new needed more b d e h pos le at live note set_is =
    let k : p ≡ suc (p - 1) = omega arith in
    live_more last args steps (p - 1) ms new needed more b d e (subst (λ q. LiveFrom last args steps q ms needed) k h) (omega arith) at live note set_is

pub live_end : (last : List ℕ) (args : ℕ) (steps : List Instr) (k : ℕ) (ms needed : List Bool) → LiveFrom last args steps k ms needed → k ≤ 0 → ms ≡ live_marks last args steps
live_end last args steps k ms needed h le =
    let none : k ≡ 0 = omega arith in
    let first = subst (λ q. LiveFrom last args steps q ms needed) none h in
    first.marks ∙ ap (λ n. live_marks last n steps) (let e : args + 0 ≡ args = omega arith in e)

-- ---- as many marks as steps

pub length_lasting : (is : List Instr) → length (lasting_marks is) ≡ length is
length_lasting [] = refl
length_lasting (i ∷ is) = ap suc (length_lasting is)

pub length_live : (last : List ℕ) (n : ℕ) (is : List Instr) → length (live_marks last n is) ≡ length is
length_live last n [] = refl
length_live last n (i ∷ is) = ap suc (length_live last (suc n) is)
