-- The code's state after a firing.
use Rattle.std.proofs.Common.{◌≡◌, ◌≢◌, ℕ, zero, suc, ◌+◌, ◌<◌, ◌≤◌, ◌^◌, ◌⊎◌, Bool, true, Option, Some, None, List, [], ◌∷◌, length, get_or, set, map, refl, sym, ap, subst, ◌∙◌, inl, inr, arith, length-set, get_or-set_same, get_or-set_other}
use Rattle.std.proofs.Math.ListN.{get_or-map}
use Rattle.std.proofs.lemmas.List.{map-set, length-map, ext_get_or, set_past, get_or_past, get_or_default}
use Rattle.std.proofs.lemmas.Bool.{cases_lt, cases_eq}
use Rattle.net_types.specs.declared.net.Net.{Net}
use Rattle.net_types.specs.declared.net.Chan.{Chan}
use Rattle.net_types.specs.declared.net.Port.{Port}
use Rattle.net_types.specs.declared.net.Unit.{Unit as Kind}
use Rattle.net_types.specs.declared.net.Unit.TheVariants as unit
use Rattle.net_types.specs.declared.firing.Act.{Act}
use Rattle.net_types.specs.declared.firing.Act.TheVariants.{Send}
use Rattle.net_types.specs.declared.firing.Firing.{Firing}
use Rattle.net_types.specs.Nets.{nowhere, firing, kind_of, uses, owns}
use Rattle.net_check.specs.Checks.{IsChecked}
use Rattle.net_core.specs.declared.cell.Cell.{Cell}
use Rattle.net_core.specs.declared.cell.Cell.TheVariants.{Fork, Plain, Queue}
use Rattle.net_core.specs.declared.plan.Plan.{Plan}
use Rattle.net_core.specs.declared.plan.Change.{Change}
use Rattle.net_core.specs.declared.state.State.{State as Stored}
use Rattle.net_core.specs.declared.opening.Home.{Home}
use Rattle.net_core.specs.declared.opening.Home.TheVariants as home
use Rattle.net_core.specs.Fire.{effect, after, after_effect, applied, changed_from, moved, written, counted, raised, at_array, effect_of, head_at, row, setting}
use Rattle.net_core.specs.Plans.{own_of, own_with, array_with, strays_of, effect_by, admits, keeps, planned, cell_after, strays_after, IsActPlan, IsForkOf, IsSendPlan, IsShaped}
use Rattle.net_core.specs.States.{state_of, arrays_of, array_in, queue_array, cell_at, home_at, IsOf, IsPlanOf, IsQueueAt, own_at, array_at}
use Rattle.net_core.specs.private.Moves.{taken_chans}
use Rattle.net_core.specs.Held.{AllWithin}
use Rattle.net_core.proofs.RowLemmas.{length-changed}
use Rattle.net_core.proofs.MoveLemmas.{within_of}
use Rattle.net_core.proofs.CellLemmas.{own_after, strays_same, array_after, keeps_after, shaped_after}

pub raised_in : (xs : List ℕ) (a x : ℕ) → a < length xs → x ≡ get_or xs a x → set xs a (x + 1) ≡ raised 1 xs a
raised_in [] a x l e = refl
raised_in (y ∷ xs) zero x l e = ap (λ z. (z + 1) ∷ xs) e
raised_in (y ∷ xs) (suc a) x l e = ap (λ r. y ∷ r) (raised_in xs a x (omega arith) e)

pub raised_past : (xs : List ℕ) (a : ℕ) → length xs ≤ a → xs ≡ raised 1 xs a
raised_past [] a l = refl
raised_past (y ∷ xs) zero l = absurd (omega arith)
raised_past (y ∷ xs) (suc a) l = ap (λ r. y ∷ r) (raised_past xs a (omega arith))

raised_none : (xs : List ℕ) (a : ℕ) → raised 0 xs a ≡ xs
raised_none [] a = refl
raised_none (y ∷ xs) zero = let e : y + 0 ≡ y = omega arith in ap (λ z. z ∷ xs) e
raised_none (y ∷ xs) (suc a) = ap (λ r. y ∷ r) (raised_none xs a)

pub counted_none : (o : Option ℕ) (xs : List ℕ) → counted o 0 xs ≡ xs
counted_none None xs = refl
counted_none (Some a) xs = raised_none xs a

-- the arrays

-- a queue is a unit of the net
queue_within : (net : Net) (u n d : ℕ) (ps : List Port) (gs : List (List ℕ)) (fw : Bool) → kind_of net u ≡ unit.Lsq n d ps gs fw → u < length net.units
queue_within net u n d ps gs fw is = by (cases_lt u (length net.units))
  where
    by : (u < length net.units) ⊎ (length net.units ≤ u) → u < length net.units
    by (inl l) = l
    by (inr l) = let z : unit.Sink 0 ≡ unit.Lsq n d ps gs fw = sym (get_or_past net.units u (unit.Sink 0) l) ∙ is in cc

pub shape_at : (net : Net) (s : Stored) (u : ℕ) → IsOf net s → IsShaped (kind_of net u) (cell_at s u) (array_at net s u)
shape_at net s u of = at (kind_of net u) refl (of.shaped u)
  where
    at : (k : Kind) → kind_of net u ≡ k → IsShaped k (cell_at s u) (queue_array (cell_at s u)) → IsShaped k (cell_at s u) (at_array (arrays_of s) (uses k))
    at (unit.Lsq n d ps gs fw) is h =
        let w = of.owned u n (ap owns is) in
        let e : get_or (arrays_of s) n [] ≡ queue_array (cell_at s u) = get_or-map (array_in s.cells.items) s.homes.items n (home.Here []) ∙ ap (array_in s.cells.items) w.1 in
        let P : List ℕ → Type 0 = λ xs. IsShaped (unit.Lsq n d ps gs fw) (cell_at s u) xs in
        subst P (sym e) h
    at k is h = tt

-- an array that lies elsewhere stays
pub elsewhere : (cells : List Cell) (h : Home) (u : ℕ) (c : Cell) → ((v : ℕ) → h ≡ home.Queue v → v ≢ u) → array_in (set cells u c) h ≡ array_in cells h
elsewhere cells (home.Here xs) u c apart = refl
elsewhere cells (home.Queue v) u c apart = ap queue_array (get_or-set_other cells u v c Plain (apart v refl))

arrays_after : (net : Net) (s : Stored) (u : ℕ) (ch : Change) → IsOf net s
    → map (array_in (set s.cells.items u (cell_after ch (cell_at s u)))) s.homes.items ≡ written (owns (kind_of net u)) (array_with (kind_of net u) ch (own_of (cell_at s u)) (array_at net s u)) (arrays_of s)
arrays_after net s u ch of = at (kind_of net u) refl (of.kept u) (shape_at net s u of)
  where
    c : Cell
    c = cell_after ch (cell_at s u)

    after_all : List (List ℕ)
    after_all = map (array_in (set s.cells.items u (cell_after ch (cell_at s u)))) s.homes.items

    read : (b : ℕ) → get_or (map (array_in (set s.cells.items u (cell_after ch (cell_at s u)))) s.homes.items) b [] ≡ array_in (set s.cells.items u (cell_after ch (cell_at s u))) (home_at s b)
    read b = get_or-map (array_in (set s.cells.items u (cell_after ch (cell_at s u)))) s.homes.items b (home.Here [])

    stays : (b : ℕ) → owns (kind_of net u) ≢ Some b → get_or (map (array_in (set s.cells.items u (cell_after ch (cell_at s u)))) s.homes.items) b [] ≡ get_or (arrays_of s) b []
    stays b differ =
        read b ∙ elsewhere s.cells.items (home_at s b) u (cell_after ch (cell_at s u)) (λ v e z. differ (subst (λ x. owns (kind_of net x) ≡ Some b) z (of.homes b v e)))
        ∙ sym (get_or-map (array_in s.cells.items) s.homes.items b (home.Here []))

    long : length (map (array_in (set s.cells.items u (cell_after ch (cell_at s u)))) s.homes.items) ≡ length (arrays_of s)
    long = length-map s.homes.items (array_in (set s.cells.items u (cell_after ch (cell_at s u)))) ∙ sym (length-map s.homes.items (array_in s.cells.items))

    none : (k : Kind) → kind_of net u ≡ k → owns k ≡ None → map (array_in (set s.cells.items u (cell_after ch (cell_at s u)))) s.homes.items ≡ arrays_of s
    none k is no_array = ext_get_or [] _ (arrays_of s) long (λ b l. stays b (λ e. (let z : None ≡ Some b = sym no_array ∙ ap owns (sym is) ∙ e in cc)))

    at : (k : Kind) → kind_of net u ≡ k → keeps k (cell_at s u) ≡ true → IsShaped k (cell_at s u) (at_array (arrays_of s) (uses k))
        → map (array_in (set s.cells.items u (cell_after ch (cell_at s u)))) s.homes.items ≡ written (owns k) (array_with k ch (own_of (cell_at s u)) (at_array (arrays_of s) (uses k))) (arrays_of s)
    at (unit.Lsq n d ps gs fw) is f h = ext_get_or [] _ (set (arrays_of s) n ys) (long ∙ sym (length-set (arrays_of s) n ys)) (λ b l. one b (cases_eq b n))
      where
        ys : List ℕ
        ys = array_with (unit.Lsq n d ps gs fw) ch (own_of (cell_at s u)) (get_or (arrays_of s) n [])

        w : (n < length s.homes.items) × (home_at s n ≡ home.Queue u)
        w = of.owned u n (ap owns is)

        here : get_or (set s.cells.items u (cell_after ch (cell_at s u))) u Plain ≡ cell_after ch (cell_at s u)
        here = get_or-set_same s.cells.items u (cell_after ch (cell_at s u)) Plain (let l = queue_within net u n d ps gs fw is in let e = of.cells in omega arith)

        one : (b : ℕ) → (b ≡ n) ⊎ (b ≡ n → ⊥) → get_or (map (array_in (set s.cells.items u (cell_after ch (cell_at s u)))) s.homes.items) b [] ≡ get_or (set (arrays_of s) n ys) b []
        one b (inl e) =
            let r : get_or (set (arrays_of s) n ys) n [] ≡ ys = get_or-set_same (arrays_of s) n ys [] (let l = length-map s.homes.items (array_in s.cells.items) in let k = w.0 in omega arith) in
            let q : get_or (map (array_in (set s.cells.items u (cell_after ch (cell_at s u)))) s.homes.items) n [] ≡ ys =
            read n ∙ ap (array_in (set s.cells.items u (cell_after ch (cell_at s u)))) w.1 ∙ ap queue_array here ∙ array_after n d ps gs fw (cell_at s u) ch (get_or (arrays_of s) n []) f h in
            rw e (q ∙ sym r)
        one b (inr m) =
            stays b (λ e. (let z : Some n ≡ Some b = ap owns (sym is) ∙ e in let y : n ≡ b = cc in m (sym y))) ∙ sym (get_or-set_other (arrays_of s) n b ys [] m)
    at unit.Entry is f h = none unit.Entry is refl
    at k is f h = none k is refl

-- a firing

-- the effect of a plan
pub plan_some : (net : Net) (s : Stored) (f : Firing) (o : Option Plan) (p : Plan) → o ≡ Some p → planned (kind_of net f.unit) (own_at s f.unit) (array_at net s f.unit) o ≡ effect net (state_of s) f
    → effect net (state_of s) f ≡ Some (effect_by (kind_of net f.unit) (own_at s f.unit) (array_at net s f.unit) p)
plan_some net s f o p is e = sym e ∙ ap (planned (kind_of net f.unit) (own_at s f.unit) (array_at net s f.unit)) is

pub plan_within : (net : Net) (s : Stored) (f : Firing) (p : Plan) → effect net (state_of s) f ≡ Some (effect_by (kind_of net f.unit) (own_at s f.unit) (array_at net s f.unit) p)
    → AllWithin (length s.tokens.tokens) (taken_chans net f.unit p.takes)
plan_within net s f p e = within_of net (state_of s) f (effect_by (kind_of net f.unit) (own_at s f.unit) (array_at net s f.unit) p) e

pub fired_state : (net : Net) (s t : Stored) (f : Firing) (p : Plan) (n : ℕ) → IsOf net s
    → effect net (state_of s) f ≡ Some (effect_by (kind_of net f.unit) (own_at s f.unit) (array_at net s f.unit) p)
    → admits (cell_at s f.unit) p.change ≡ true
    → t.scalars ≡ s.scalars → t.homes ≡ s.homes
    → t.tokens.tokens ≡ changed_from (moved net f.unit (effect_by (kind_of net f.unit) (own_at s f.unit) (array_at net s f.unit) p)) 0 s.tokens.tokens
    → t.cells.items ≡ set s.cells.items f.unit (cell_after p.change (cell_at s f.unit))
    → n ≡ strays_after p.change (cell_at s f.unit) → t.strays.items ≡ counted (uses (kind_of net f.unit)) n s.strays.items
    → state_of t ≡ after net (state_of s) f
fired_state net s t f p n of is ok sc ho tok cells told str =
    let u = f.unit in
    let k = kind_of net f.unit in
    let c = cell_at s f.unit in
    let xs = array_at net s f.unit in
    let shape = shape_at net s f.unit of in
    let e = effect_by (kind_of net f.unit) (own_at s f.unit) (array_at net s f.unit) p in
    let o : own_at s f.unit ≡ own_of (cell_at s f.unit) = get_or-map own_of s.cells.items f.unit Plain in
    let own : map own_of t.cells.items ≡ set (map own_of s.cells.items) f.unit e.own =
    ap (map own_of) cells ∙ map-set own_of s.cells.items f.unit (cell_after p.change (cell_at s f.unit))
    ∙ ap (set (map own_of s.cells.items) f.unit) (own_after (kind_of net f.unit) (cell_at s f.unit) p.change (array_at net s f.unit) (of.kept f.unit) shape ok
    ∙ ap (λ x. own_with (kind_of net f.unit) p.change x (array_at net s f.unit)) (sym o)) in
    let arr : arrays_of t ≡ written (owns (kind_of net f.unit)) e.array (arrays_of s) =
    (λ i. map (array_in (cells i)) (ho i).items) ∙ arrays_after net s f.unit p.change of
    ∙ ap (λ x. written (owns (kind_of net f.unit)) (array_with (kind_of net f.unit) p.change x (array_at net s f.unit)) (arrays_of s)) (sym o) in
    let st : t.strays.items ≡ counted (uses (kind_of net f.unit)) e.strays s.strays.items =
    str ∙ ap (λ m. counted (uses (kind_of net f.unit)) m s.strays.items)
    (told ∙ strays_same (kind_of net f.unit) (cell_at s f.unit) p.change (array_at net s f.unit) (of.kept f.unit) shape ok ∙ ap (λ x. strays_of (kind_of net f.unit) p.change x (array_at net s f.unit)) (sym o)) in
    let k : state_of t ≡ applied net f.unit e (state_of s) = (λ i. record { scalars = sc i; tokens = tok i; own = own i; arrays = arr i; strays = st i }) in
    k ∙ sym (ap (after_effect net (state_of s) f.unit) is)

pub fired_of : (net : Net) (s t : Stored) (m : ℕ → List ℕ → List ℕ) (u : ℕ) (ch : Change) → IsOf net s → t.tokens.slots ≡ s.tokens.slots → t.tokens.tokens ≡ changed_from m 0 s.tokens.tokens
    → t.homes ≡ s.homes → t.exit ≡ s.exit → ((v : ℕ) → (own_at t v).queue.next < 2 ^ 63) → t.cells.items ≡ set s.cells.items u (cell_after ch (cell_at s u)) → IsOf net t
fired_of net s t m u ch of sl tok ho ex ser cells = record {
  slots = sl ∙ of.slots;
  long = ap length tok ∙ (length-changed m 0 s.tokens.tokens ∙ of.long);
  cells = ap length cells ∙ length-set s.cells.items u (cell_after ch (cell_at s u)) ∙ of.cells;
  kept = λ v. subst (λ x. keeps (kind_of net v) x ≡ true) (sym (cell_is v)) (kept_at v (cases_eq v u));
  shaped = λ v. subst (λ x. IsShaped (kind_of net v) x (queue_array x)) (sym (cell_is v)) (shaped_at v (cases_eq v u));
  homes = λ a v e. of.homes a v (home_is a ∙ e);
  owned = λ v a e. (let w = of.owned v a e in (subst (λ hs. a < length hs.items) (sym ho) w.0, sym (home_is a) ∙ w.1));
  serials = ser;
  exit = ap (kind_of net) ex ∙ of.exit;
  exits = λ x e. of.exits x e ∙ sym ex;
}
  where
    cell_is : (v : ℕ) → cell_at t v ≡ get_or (set s.cells.items u (cell_after ch (cell_at s u))) v Plain
    cell_is v = ap (λ cs. get_or cs v Plain) cells

    home_is : (a : ℕ) → home_at s a ≡ home_at t a
    home_is a = ap (λ hs. get_or hs.items a (home.Here [])) (sym ho)

    changed : (v : ℕ) → v ≡ u → (get_or (set s.cells.items u (cell_after ch (cell_at s u))) v Plain ≡ cell_after ch (cell_at s v)) ⊎ (get_or (set s.cells.items u (cell_after ch (cell_at s u))) v Plain ≡ cell_at s v)
    changed v e = by (cases_lt u (length s.cells.items))
      where
        by : (u < length s.cells.items) ⊎ (length s.cells.items ≤ u)
            → (get_or (set s.cells.items u (cell_after ch (cell_at s u))) v Plain ≡ cell_after ch (cell_at s v)) ⊎ (get_or (set s.cells.items u (cell_after ch (cell_at s u))) v Plain ≡ cell_at s v)
        by (inl l) = inl (rw e (get_or-set_same s.cells.items u (cell_after ch (cell_at s u)) Plain l))
        by (inr l) = inr (ap (λ cs. get_or cs v Plain) (set_past s.cells.items u (cell_after ch (cell_at s u)) l))

    other : (v : ℕ) → (v ≡ u → ⊥) → get_or (set s.cells.items u (cell_after ch (cell_at s u))) v Plain ≡ cell_at s v
    other v n = get_or-set_other s.cells.items u v (cell_after ch (cell_at s u)) Plain n

    kept_at : (v : ℕ) → (v ≡ u) ⊎ (v ≡ u → ⊥) → keeps (kind_of net v) (get_or (set s.cells.items u (cell_after ch (cell_at s u))) v Plain) ≡ true
    kept_at v (inr n) = subst (λ x. keeps (kind_of net v) x ≡ true) (sym (other v n)) (of.kept v)
    kept_at v (inl e) = elim (changed v e) [
      | inl i ↦ subst (λ x. keeps (kind_of net v) x ≡ true) (sym i) (keeps_after (kind_of net v) (cell_at s v) ch (of.kept v))
      | inr i ↦ subst (λ x. keeps (kind_of net v) x ≡ true) (sym i) (of.kept v)
    ]

    shaped_at : (v : ℕ) → (v ≡ u) ⊎ (v ≡ u → ⊥) → IsShaped (kind_of net v) (get_or (set s.cells.items u (cell_after ch (cell_at s u))) v Plain) (queue_array (get_or (set s.cells.items u (cell_after ch (cell_at s u))) v Plain))
    shaped_at v (inr n) = subst (λ x. IsShaped (kind_of net v) x (queue_array x)) (sym (other v n)) (of.shaped v)
    shaped_at v (inl e) = elim (changed v e) [
      | inl i ↦ subst (λ x. IsShaped (kind_of net v) x (queue_array x)) (sym i) (shaped_after (kind_of net v) (cell_at s v) ch (of.kept v) (of.shaped v))
      | inr i ↦ subst (λ x. IsShaped (kind_of net v) x (queue_array x)) (sym i) (of.shaped v)
    ]

-- what the code reads of a unit
pub unit_is : (net : Net) (us : List Kind) (u : ℕ) (k : Kind) → us ≡ net.units → u < length us → k ≡ get_or us u k → kind_of net u ≡ k
unit_is net us u k same l is = ap (λ x. get_or x u (unit.Sink 0)) (sym same) ∙ get_or_default us u (unit.Sink 0) k l ∙ sym is

pub cell_here : (net : Net) (s : Stored) (u : ℕ) (c : Cell) → IsOf net s → u < length net.units → c ≡ get_or s.cells.items u c → cell_at s u ≡ c
cell_here net s u c of l is = let e = of.cells in get_or_default s.cells.items u Plain c (omega arith) ∙ sym is

pub plan_keeps : (net : Net) (s : Stored) (u : ℕ) (k : Kind) (c : Cell) → IsOf net s → u < length net.units → k ≡ kind_of net u → c ≡ get_or s.cells.items u c → keeps k c ≡ true
plan_keeps net s u k c of l ku cu = rw (ku, ← cell_here net s u c of l cu) (of.kept u)

pub plan_shape : (net : Net) (s : Stored) (u : ℕ) (k : Kind) (c : Cell) (xs : List ℕ) → IsOf net s → u < length net.units → k ≡ kind_of net u → c ≡ get_or s.cells.items u c → xs ≡ at_array (arrays_of s) (uses k)
    → IsShaped k c xs
plan_shape net s u k c xs of l ku cu is =
    let P : List ℕ → Type 0 = λ ys. IsShaped k c ys in
    subst P (sym is) (rw (ku, ← cell_here net s u c of l cu) (shape_at net s u of))

-- what the act of a unit of a known kind does, by the heads that its code sees
pub row_plan : (net : Net) (s : Stored) (u : ℕ) (act : Act) (k : Kind) (heads : ℕ → Option ℕ) (plan : Option Plan) → kind_of net u ≡ k → heads ≡ head_at net (state_of s) u
    → planned k (own_at s u) (at_array (arrays_of s) (uses k)) plan ≡ effect_of (row k act (own_at s u) (at_array (arrays_of s) (uses k)) (setting net (state_of s))) heads → IsPlanOf net s (firing u act) plan
row_plan net s u act k heads plan is seen h =
    (λ i. planned (is i) (own_at s u) (at_array (arrays_of s) (uses (is i))) plan) ∙ h
    ∙ (λ i. effect_of (row (sym is i) act (own_at s u) (at_array (arrays_of s) (uses (sym is i))) (setting net (state_of s))) (seen i))

-- so of an act of a unit that its cell shows
pub act_plan : (net : Net) (s : Stored) (f : Firing) (k : Kind) (c : Cell) (heads : ℕ → Option ℕ) (plan : Option Plan) → IsOf net s → f.unit < length net.units → k ≡ kind_of net f.unit
    → c ≡ get_or s.cells.items f.unit c → heads ≡ head_at net (state_of s) f.unit → IsActPlan k f.act c heads plan → IsPlanOf net s f plan
act_plan net s f k c heads plan of l ku cu seen h =
    let xs = at_array (arrays_of s) (uses k) in
    let o : own_at s f.unit ≡ own_of c = get_or-map own_of s.cells.items f.unit Plain ∙ ap own_of (cell_here net s f.unit c of l cu) in
    row_plan net s f.unit f.act k heads plan (sym ku) seen (rw o (h xs (setting net (state_of s)) (plan_shape net s f.unit k c xs of l ku cu refl)))

-- so of the sending of a fork
pub send_plan : (net : Net) (s : Stored) (u outs j : ℕ) (c : Cell) (bits : List Bool) (heads : ℕ → Option ℕ) (plan : Option Plan) → IsOf net s → u < length net.units → IsForkOf outs (kind_of net u)
    → c ≡ get_or s.cells.items u c → c ≡ Fork bits → heads ≡ head_at net (state_of s) u → IsSendPlan outs j bits [] heads plan → IsPlanOf net s (firing u (Send j)) plan
unfolding row
send_plan net s u outs j c bits heads plan of l fork cu is seen h =
    let o : own_at s u ≡ own_of (Fork bits) = get_or-map own_of s.cells.items u Plain ∙ ap own_of (cell_here net s u c of l cu ∙ is) in
    row_plan net s u (Send j) (unit.Fork fork.width outs) heads plan fork.shape seen (rw o (h (unit.Fork fork.width outs)))

-- the queue of a unit
pub queue_here : (net : Net) (s : Stored) (u : ℕ) (b : _) → IsOf net s → cell_at s u ≡ Queue b → IsQueueAt net s u b.value
queue_here net s u b of is = by (kind_of net u) refl (subst (λ c. keeps (kind_of net u) c ≡ true) is (of.kept u)) (subst (λ c. IsShaped (kind_of net u) c (array_at net s u)) is (shape_at net s u of))
  where
    own : own_at s u ≡ own_of (Queue b)
    own = get_or-map own_of s.cells.items u Plain ∙ ap own_of is

    by : (k : Kind) → kind_of net u ≡ k → keeps k (Queue b) ≡ true → IsShaped k (Queue b) (array_at net s u) → IsQueueAt net s u b.value
    by (unit.Lsq n d ps gs fw) e f h =
        let x = h.deep in let y = h.port in let z = h.group in let w = h.mark in
        record {
          array = n;
          shape = e ∙ sym (λ i. unit.Lsq n (x i) (y i) (z i) (w i));
          state = sym (ap (λ o. o.queue) own);
          elements = h.elements;
        }
    by k e f h = cc

-- a channel of a checked net has fewer than 2^32 slots
pub slots_below : (net : Net) (s : Stored) (c : ℕ) → IsChecked net → IsOf net s → c < length net.chans → get_or s.tokens.slots c 0 < 2 ^ 32
slots_below net s c k of l = rw of.slots (rw (slot_of net.chans c) (let m = (k.sized c l).slots_most in omega arith))
  where
    slot_of : (cs : List Chan) (i : ℕ) → get_or (map (λ (x : Chan). x.slots) cs) i 0 ≡ (get_or cs i nowhere).slots
    slot_of [] i = refl
    slot_of (x ∷ cs) zero = refl
    slot_of (x ∷ cs) (suc i) = slot_of cs i
