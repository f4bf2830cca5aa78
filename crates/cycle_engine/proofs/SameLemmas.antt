-- A cycle leads to one state, and so runs at rest have one number of cycles.
use Rattle.std.proofs.Common.{◌≡◌, ◌≢◌, ◌⊎◌, inl, inr, ℕ, suc, zero, ◌<◌, ◌≤◌, Bool, true, false, Option, Some, List, [], ◌∷◌, ◌++◌, length, get_or, refl, sym, ap, subst, ◌∙◌, arith, IsSomeAnd, get_or-set_same, get_or-set_other}
use Rattle.std.proofs.lemmas.Bool.{cases_lt, cases_eq}
use Rattle.std.specs.List.{AllByRecursion}
use Rattle.net_types.specs.declared.net.Net.{Net}
use Rattle.net_types.specs.declared.net.Port.{Port}
use Rattle.net_types.specs.declared.net.Unit.{Unit as Kind}
use Rattle.net_types.specs.declared.net.Unit.TheVariants.{Sink, Lsq}
use Rattle.net_types.specs.declared.firing.Act.{Act}
use Rattle.net_types.specs.declared.firing.Act.TheVariants.{Go, Alloc, Exec, Reply, Retire, End}
use Rattle.net_types.specs.declared.firing.Firing.{Firing}
use Rattle.net_types.specs.Nets.{kind_of, uses, firing}
use Rattle.net_types.specs.Order.{act_rank, act_number}
use Rattle.net_check.specs.Checks.{IsChecked}
use Rattle.lsq_core.specs.Acts.{can, step}
use Rattle.lsq_core.specs.Laws.{phase, act_place}
use Rattle.lsq_core.proofs.StayLemmas.{stays_refused}
use Rattle.net_core.specs.Fire.{State, Own, Effect, Setting, effect_of, idle, row, setting, at_array, head_at, effect, has_room, enabled}
use Rattle.net_core.specs.Runs.{AtRest}
use Rattle.net_core.proofs.CheckedLemmas.{premises_of}
use Rattle.net_core.proofs.RegularLemmas.{IsRegular, regular_opening}
use Rattle.net_core.proofs.ActLemmas.{IsLsq, kind_within}
use Rattle.net_core.proofs.QueueActLemmas.{queue_effect, queue_goes, queue_inv, lsq_is}
use Rattle.cycle_engine.specs.Cycles.{Dated, dated_opening, after_by, after_in, May, IsOldest, Makes, place_of, IsUnused, Once, InOrder, Cycle, Cycles, AreDated}
use Rattle.cycle_engine.specs.Bounds.{EndsFiring, CyclesAreOne, CyclesMeet}
use Rattle.cycle_engine.proofs.BeforeLemmas.{after_of}
use Rattle.cycle_engine.proofs.DateLemmas.{AllBy, each_as, effect_there, dated_after, makes_dates}
use Rattle.cycle_engine.proofs.BoundLemmas.{no_more, ends_rest}
use Rattle.cycle_engine.proofs.MakeLemmas.{makes_snoc, all_snoc}
use Rattle.cycle_engine.proofs.NextLemmas.{own_same, no_unit}
use Rattle.cycle_engine.proofs.PlaceLemmas.{same_act, exec_is, place_rank, place_fixed}
use Rattle.cycle_engine.proofs.QueueTurnLemmas.{laws, others_back}
use Rattle.cycle_engine.proofs.UsedLemmas.{unused_before}
use Rattle.cycle_engine.proofs.StartLemmas.{opening_are}
use Rattle.cycle_engine.proofs.SwapLemmas.{swaps}
use Rattle.cycle_engine.proofs.TurnLemmas.{makes_regular, cycles_regular, cycles_dated, opening_by}

-- ---- acts and their places

phase_place : (a : Act) → phase (act_place a) ≡ phase a
phase_place Go = refl
phase_place _ = refl

phase_exec : (a : Act) → phase a ≡ 2 → act_place a ≡ Exec 0
phase_exec (Exec j) e = refl
phase_exec _ e = absurd (omega arith)

-- acts of one place are one, or both execute
one_place : (a b : Act) → act_place a ≡ act_place b → (a ≡ b) ⊎ ((x : ℕ) × (y : ℕ) × (a ≡ Exec x) × (b ≡ Exec y))
one_place a b e = by (cases_eq (act_rank a) 6)
  where
    same : act_rank a ≡ act_rank b
    same = sym (place_rank a) ∙ (ap act_rank e ∙ place_rank b)

    by : (act_rank a ≡ 6) ⊎ (act_rank a ≢ 6) → (a ≡ b) ⊎ ((x : ℕ) × (y : ℕ) × (a ≡ Exec x) × (b ≡ Exec y))
    by (inl r) = inr (act_number a, act_number b, exec_is a r, exec_is b (sym same ∙ r))
    by (inr n) = inl (sym (place_fixed a n) ∙ (e ∙ place_fixed b (λ z. n (same ∙ z))))

same_place : (g f : Firing) → (place_of g ≡ place_of f) ⊎ (place_of g ≢ place_of f)
same_place g f = by (cases_eq g.unit f.unit) (cases_eq (act_rank (act_place g.act)) (act_rank (act_place f.act))) (cases_eq (act_number (act_place g.act)) (act_number (act_place f.act)))
  where
    by : (g.unit ≡ f.unit) ⊎ (g.unit ≢ f.unit) → (act_rank (act_place g.act) ≡ act_rank (act_place f.act)) ⊎ (act_rank (act_place g.act) ≢ act_rank (act_place f.act))
        → (act_number (act_place g.act) ≡ act_number (act_place f.act)) ⊎ (act_number (act_place g.act) ≢ act_number (act_place f.act)) → (place_of g ≡ place_of f) ⊎ (place_of g ≢ place_of f)
    by (inr n) r m = inr (λ e. n (ap (λ (x : Firing). x.unit) e))
    by (inl u) (inr n) m = inr (λ e. n (ap (λ (x : Firing). act_rank x.act) e))
    by (inl u) (inl r) (inr n) = inr (λ e. n (ap (λ (x : Firing). act_number x.act) e))
    by (inl u) (inl r) (inl m) = inl (λ i. record { unit = u i; act = same_act (act_place g.act) (act_place f.act) r m i })

low_oldest : (net : Net) (s : State) (u : ℕ) (a : Act) → phase a < 2 → IsOldest net s u a
low_oldest net s u (Exec j) l = absurd (omega arith)
low_oldest net s u _ l = tt

-- the acts from the executions on are a queue's
late_kind : (k : Kind) (a : Act) (o : Own) (xs : List ℕ) (ss : Setting) (h : ℕ → Option ℕ) (e : Effect) → 2 ≤ phase a → effect_of (row k a o xs ss) h ≡ Some e → IsLsq k
unfolding row
late_kind (Lsq a d ps gs fw) act o xs ss h e l q = record { array = a; depth = d; ports = ps; groups = gs; mark = fw; is = refl }
late_kind _ (Exec j) o xs ss h e l q = cc
late_kind _ (Reply j) o xs ss h e l q = cc
late_kind _ Retire o xs ss h e l q = cc
late_kind _ End o xs ss h e l q = cc
late_kind _ _ o xs ss h e l q = absurd (omega arith)

late_lsq : (net : Net) (s : State) (u : ℕ) (a : Act) → 2 ≤ phase a → enabled net s (firing u a) → IsLsq (kind_of net u)
late_lsq net s u a l n =
    let w = effect_there net s (firing u a) n in
    late_kind (kind_of net u) a (get_or s.own u idle) (at_array s.arrays (uses (kind_of net u))) (setting net s) (head_at net s u) w.0 l w.1

-- ---- executions

can_exec : (net : Net) (s : State) (u n d : ℕ) (ps : List Port) (gs : List (List ℕ)) (fw : Bool) (x : ℕ) → kind_of net u ≡ Lsq n d ps gs fw → enabled net s (firing u (Exec x)) → can d gs (get_or s.own u idle).queue (Exec x) ≡ true
can_exec net s u n d ps gs fw x ku on =
    let w = effect_there net s (firing u (Exec x)) on in
    (queue_inv d ps gs (Exec x) (get_or s.own u idle) (get_or s.arrays n []) (head_at net s u) w.0 (sym (lsq_is net u n d ps gs fw ku s (Exec x)) ∙ w.1)).1

exec_can : (net : Net) (s : State) (u n d : ℕ) (ps : List Port) (gs : List (List ℕ)) (fw : Bool) (x : ℕ) → kind_of net u ≡ Lsq n d ps gs fw → can d gs (get_or s.own u idle).queue (Exec x) ≡ true → enabled net s (firing u (Exec x))
exec_can net s u n d ps gs fw x ku c =
    let e : effect net s (firing u (Exec x)) ≡ Some (queue_effect ps gs (Exec x) (get_or s.own u idle) (get_or s.arrays n []) 0)
    = lsq_is net u n d ps gs fw ku s (Exec x) ∙ queue_goes d ps gs (Exec x) (get_or s.own u idle) (get_or s.arrays n []) (head_at net s u) 0 c refl in
    let P : Option Effect → Type 0 = λ o. IsSomeAnd o (λ y. has_room net s u y.put) in
    subst P (sym e) tt

-- what may execute rests on what the queue keeps
exec_moved : (net : Net) (s t : State) (u x : ℕ) → get_or t.own u idle ≡ get_or s.own u idle → enabled net s (firing u (Exec x)) → enabled net t (firing u (Exec x))
exec_moved net s t u x e on =
    let k = late_lsq net s u (Exec x) (omega arith) on in
    let c = can_exec net s u k.array k.depth k.ports k.groups k.mark x k.is on in
    exec_can net t u k.array k.depth k.ports k.groups k.mark x k.is (ap (λ (o : Own). can k.depth k.groups o.queue (Exec x)) e ∙ c)

true_or : (b : Bool) → (b ≡ false → ⊥) → b ≡ true
true_or true n = refl
true_or false n = absurd (n refl)

module _ (net : Net) (c : ℕ) (checked : IsChecked net) where
  -- what may execute after a firing of another unit, or of a later act, might have executed before it
  exec_back : (s : Dated) (f : Firing) (u x : ℕ) → IsRegular net s.state → enabled net s.state f → (f.unit ≡ u → 2 ≤ phase f.act) → place_of f ≢ firing u (Exec 0)
      → enabled net (after_in net c s f).state (firing u (Exec x)) → enabled net s.state (firing u (Exec x))
  exec_back s f u x good on late ne then =
      let w = effect_there net s.state f on in
      let q : after_in net c s f ≡ after_of net c s f.unit w.0 = ap (after_by net c s f.unit) w.1 in
      let P : Dated → Type 0 = λ y. enabled net y.state (firing u (Exec x)) in
      by w.0 w.1 (subst P q then) (cases_eq f.unit u)
    where
      by : (e : Effect) → effect net s.state f ≡ Some e → enabled net (after_of net c s f.unit e).state (firing u (Exec x)) → (f.unit ≡ u) ⊎ (f.unit ≢ u) → enabled net s.state (firing u (Exec x))
      by e is then (inr n) = exec_moved net (after_of net c s f.unit e).state s.state u x (sym (get_or-set_other s.state.own f.unit u e.own idle (λ z. n (sym z)))) then
      by e is then (inl z) =
          let k = late_lsq net (after_of net c s f.unit e).state u (Exec x) (omega arith) then in
          own k.array k.depth k.ports k.groups k.mark k.is
        where
          own : (n d : ℕ) (ps : List Port) (gs : List (List ℕ)) (fw : Bool) → kind_of net u ≡ Lsq n d ps gs fw → enabled net s.state (firing u (Exec x))
          own n d ps gs fw ku =
              let E : ℕ → Type 0 = λ v. effect net s.state (firing v f.act) ≡ Some e in
              let i = queue_inv d ps gs f.act (get_or s.state.own u idle) (get_or s.state.arrays n []) (head_at net s.state u) e (sym (lsq_is net u n d ps gs fw ku s.state f.act) ∙ subst E z is) in
              let lu : u < length s.state.own = (let l : u < length net.units = kind_within net u (λ y. (let m : Lsq n d ps gs fw ≡ Sink 0 = sym ku ∙ y in cc)) in let o = good.owned in omega arith) in
              let keeps : get_or (after_of net c s f.unit e).state.own u idle ≡ e.own = ap (λ v. get_or (Rattle.std.specs.Prelude.set s.state.own v e.own) u idle) z ∙ get_or-set_same s.state.own u e.own idle lu in
              let queue : (get_or (after_of net c s f.unit e).state.own u idle).queue ≡ (step ps gs (get_or s.state.own u idle).queue (get_or s.state.arrays n []) f.act i.0).queue
              = ap (λ (o : Own). o.queue) (keeps ∙ ap (λ (y : Effect). y.own) (sym i.3)) in
              let can_then : can d gs (step ps gs (get_or s.state.own u idle).queue (get_or s.state.arrays n []) f.act i.0).queue (Exec x) ≡ true
              = ap (λ y. can d gs y (Exec x)) (sym queue) ∙ can_exec net (after_of net c s f.unit e).state u n d ps gs fw x ku then in
              let differ : Exec 0 ≢ act_place f.act = λ y. ne (λ j. record { unit = z j; act = sym y j }) in
              exec_can net s.state u n d ps gs fw x ku (true_or (can d gs (get_or s.state.own u idle).queue (Exec x)) (λ no.
              (let y = stays_refused d ps gs (get_or s.state.own u idle).queue (get_or s.state.arrays n []) (Exec x) f.act i.0 (good.queues u) (late z) differ (λ g al. (let no_alloc : Exec x ≡ Alloc g = al in cc)) i.1 no in
              let v : false ≡ true = sym y ∙ can_then in cc)))

  -- the oldest entry that may execute is so after a firing that comes later
  oldest_kept : (s : Dated) (f g : Firing) → IsRegular net s.state → enabled net s.state f → (f.unit ≡ g.unit → phase g.act ≤ phase f.act) → place_of g ≢ place_of f → IsOldest net s.state g.unit g.act
      → IsOldest net (after_in net c s f).state g.unit g.act
  oldest_kept s f g good on order ne old = by g.act refl old
    where
      O : Act → Type 0
      O a = IsOldest net s.state g.unit a → IsOldest net (after_in net c s f).state g.unit a

      exec : (x : ℕ) → g.act ≡ Exec x → O (Exec x)
      exec x e old older l then =
          let p : phase g.act ≡ 2 = ap phase e in
          let at : place_of g ≡ firing g.unit (Exec 0) = λ i. record { unit = g.unit; act = ap act_place e i } in
          old older l (exec_back s f g.unit older good on (λ z. (let m = order z in omega arith)) (λ z. ne (at ∙ sym z)) then)

      by : (a : Act) → g.act ≡ a → O g.act
      by (Exec x) e = subst O (sym e) (exec x e)
      by _ e = subst O (sym e) (λ z. tt)

-- ---- lists with one firing in their midst

all_without : (P : Firing → Type 0) (a b : List Firing) (f : Firing) → AllByRecursion P (a ++ f ∷ b) → AllByRecursion P (a ++ b)
all_without P [] b f h = h.1
all_without P (g ∷ a) b f h = (h.0, all_without P a b f h.1)

all_at : (P : Firing → Type 0) (a b : List Firing) (f : Firing) → AllByRecursion P (a ++ f ∷ b) → P f
all_at P [] b f h = h.0
all_at P (g ∷ a) b f h = all_at P a b f h.1

all_with : (P : Firing → Type 0) (a b : List Firing) (f : Firing) → AllByRecursion P (a ++ b) → P f → AllByRecursion P (a ++ f ∷ b)
all_with P [] b f h p = (p, h)
all_with P (g ∷ a) b f h p = (h.0, all_with P a b f h.1 p)

all_before : (P : Firing → Type 0) (a b : List Firing) → AllByRecursion P (a ++ b) → AllByRecursion P a
all_before P [] b h = tt
all_before P (g ∷ a) b h = (h.0, all_before P a b h.1)

all_as : (P Q : Firing → Type 0) (a : List Firing) → ((g : Firing) → P g → Q g) → AllByRecursion P a → AllByRecursion Q a
all_as P Q [] f h = tt
all_as P Q (g ∷ a) f h = (f g h.0, all_as P Q a f h.1)

all_both : (P Q R : Firing → Type 0) (a : List Firing) → ((g : Firing) → P g → Q g → R g) → AllByRecursion P a → AllByRecursion Q a → AllByRecursion R a
all_both P Q R [] f h k = tt
all_both P Q R (g ∷ a) f h k = (f g h.0 k.0, all_both P Q R a f h.1 k.1)

once_without : (a b : List Firing) (f : Firing) → Once (a ++ f ∷ b) → Once (a ++ b)
once_without [] b f h = h.1
once_without (g ∷ a) b f h = (all_without (λ x. place_of x ≢ place_of g) a b f h.0, once_without a b f h.1)

-- no other firing of the list is at the firing's place
once_apart : (a b : List Firing) (f : Firing) → Once (a ++ f ∷ b) → IsUnused (a ++ b) f
once_apart [] b f h = h.0
once_apart (g ∷ a) b f h = ((λ e. all_at (λ x. place_of x ≢ place_of g) a b f h.0 (sym e)), once_apart a b f h.1)

order_without : (a b : List Firing) (f : Firing) → InOrder (a ++ f ∷ b) → InOrder (a ++ b)
order_without [] b f h = h.1
order_without (g ∷ a) b f h = (all_without (λ x. x.unit ≡ g.unit → phase g.act ≤ phase x.act) a b f h.0, order_without a b f h.1)

-- what stands before the firing is of no later phase of its unit
order_before : (a b : List Firing) (f : Firing) → InOrder (a ++ f ∷ b) → AllByRecursion (λ g. f.unit ≡ g.unit → phase g.act ≤ phase f.act) a
order_before [] b f h = tt
order_before (g ∷ a) b f h = (all_at (λ x. x.unit ≡ g.unit → phase g.act ≤ phase x.act) a b f h.0, order_before a b f h.1)

length_without : (a b : List Firing) (f : Firing) → length (a ++ f ∷ b) ≡ suc (length (a ++ b))
length_without [] b f = refl
length_without (g ∷ a) b f = ap suc (length_without a b f)

-- a list has a firing at the place of another
record Met (fs : List Firing) (f : Firing) : Type 0 where
  before : List Firing
  at : Firing
  after : List Firing
  is : fs ≡ before ++ at ∷ after
  place : place_of at ≡ place_of f

used_or : (fs : List Firing) (f : Firing) → IsUnused fs f ⊎ Met fs f
used_or [] f = inl tt
used_or (g ∷ fs) f = by (same_place g f) (used_or fs f)
  where
    by : (place_of g ≡ place_of f) ⊎ (place_of g ≢ place_of f) → IsUnused fs f ⊎ Met fs f → IsUnused (g ∷ fs) f ⊎ Met (g ∷ fs) f
    by (inl e) r = inr (record { before = []; at = g; after = fs; is = refl; place = e })
    by (inr n) (inl un) = inl (n, un)
    by (inr n) (inr m) = inr (record { before = g ∷ m.before; at = m.at; after = m.after; is = ap (λ xs. g ∷ xs) m.is; place = m.place })

abbrev Late : Firing → Type 0
Late g = 2 ≤ phase g.act

-- the first firing of a list that comes before the executions
record Early (fs : List Firing) : Type 0 where
  before : List Firing
  at : Firing
  after : List Firing
  is : fs ≡ before ++ at ∷ after
  late : AllByRecursion Late before
  early : phase at.act < 2

early_or : (fs : List Firing) → AllByRecursion Late fs ⊎ Early fs
early_or [] = inl tt
early_or (g ∷ fs) = by (cases_lt (phase g.act) 2) (early_or fs)
  where
    by : (phase g.act < 2) ⊎ (2 ≤ phase g.act) → AllByRecursion Late fs ⊎ Early fs → AllByRecursion Late (g ∷ fs) ⊎ Early (g ∷ fs)
    by (inl l) r = inr (record { before = []; at = g; after = fs; is = refl; late = tt; early = l })
    by (inr l) (inl h) = inl (l, h)
    by (inr l) (inr e) = inr (record { before = g ∷ e.before; at = e.at; after = e.after; is = ap (λ xs. g ∷ xs) e.is; late = (l, e.late); early = e.early })

-- late firings are at no place of an early one
late_unused : (fs : List Firing) (f : Firing) → AllByRecursion Late fs → phase f.act < 2 → IsUnused fs f
late_unused fs f h l = all_as Late (λ g. place_of g ≢ place_of f) fs (λ g m e. (let a = phase_place g.act in let b = phase_place f.act in let z = ap (λ (x : Firing). phase x.act) e in let m' : 2 ≤ phase g.act = m in absurd (omega arith))) h

-- ---- the rest of a cycle

module _ (net : Net) (c : ℕ) (start : Dated) (checked : IsChecked net) (begun : AreDated net start) where
  -- the cycle has come to a state by these firings
  record Here (done : List Firing) (s : Dated) : Type 0 where
    made : Makes net c start start done s
    good : IsRegular net s.state
    dated : AreDated net s

  here_on : (done : List Firing) (s : Dated) (f : Firing) → Here done s → May net c start s f → IsOldest net s.state f.unit f.act → Here (done ++ f ∷ []) (after_in net c s f)
  here_on done s f here may old =
      let w = effect_there net s.state f may.turn in
      let P : Dated → Type 0 = λ x. AreDated net x in
      record {
        made = makes_snoc net c start start done s f (after_in net c s f) here.made may old refl;
        good = makes_regular net c start s (f ∷ []) (after_in net c s f) checked (may, old, refl) here.good;
        dated = subst P (sym (ap (after_by net c s f.unit) w.1)) (dated_after net c s f.unit w.0 here.dated);
      }

  -- what may be made, and is at no place of the rest, may be made at the end
  persists : (done : List Firing) (s : Dated) (fs : List Firing) (t : Dated) (f : Firing) → Here done s → Makes net c start s fs t → IsUnused fs f → May net c start s f → May net c start t f
  persists done s [] t f here m un may = let P : Dated → Type 0 = λ x. May net c start x f in subst P m may
  persists done s (g ∷ fs) t f here m un may =
      let p = swaps net c start s f g checked here.good here.dated may m.0 (λ e. un.0 (ap place_of (sym e))) in
      persists (done ++ g ∷ []) (after_in net c s g) fs t f (here_on done s g here m.0 m.1) m.2 un.1 p.f_then

  -- what may be made after late firings of other units might have been made before them
  goes_back : (done : List Firing) (s : Dated) (fs : List Firing) (t : Dated) (f : Firing) → Here done s → Makes net c start s fs t → AllByRecursion Late fs → AllByRecursion (λ g. f.unit ≢ g.unit) fs → IsUnused done f → IsUnused fs f
      → May net c start t f → May net c start s f
  goes_back done s [] t f here m late other un ua may = let P : Dated → Type 0 = λ x. May net c start x f in subst P (sym m) may
  goes_back done s (g ∷ fs) t f here m late other un ua may =
      let w = effect_there net s.state g m.0.turn in
      let q : after_in net c s g ≡ after_of net c s g.unit w.0 = ap (after_by net c s g.unit) w.1 in
      let P : Dated → Type 0 = λ x. May net c start x f in
      let then : May net c start (after_in net c s g) f
      = goes_back (done ++ g ∷ []) (after_in net c s g) fs t f (here_on done s g here m.0 m.1) m.2 late.1 other.1 (all_snoc (λ x. place_of x ≢ place_of f) done g un ua.0) ua.1 may in
      let k = late_lsq net s.state g.unit g.act late.0 m.0.turn in
      others_back net c start done s g.unit k.array k.depth k.ports k.groups k.mark g.act w.0 f checked here.good begun here.dated here.made k.is w.1 other.0 un (subst P q then)

  -- a firing of the rest that may be made now may go first
  goes_first : (done : List Firing) (s : Dated) (a : List Firing) (f : Firing) (b : List Firing) (t : Dated) → Here done s → Makes net c start s (a ++ f ∷ b) t → May net c start s f → IsUnused a f
      → AllByRecursion (λ g. f.unit ≡ g.unit → phase g.act ≤ phase f.act) a → Makes net c start (after_in net c s f) (a ++ b) t
  goes_first done s [] f b t here m may un order = m.2
  goes_first done s (g ∷ a) f b t here m may un order =
      let p = swaps net c start s f g checked here.good here.dated may m.0 (λ e. un.0 (ap place_of (sym e))) in
      let r : Makes net c start (after_in net c (after_in net c s g) f) (a ++ b) t
      = goes_first (done ++ g ∷ []) (after_in net c s g) a f b t (here_on done s g here m.0 m.1) m.2 p.f_then un.1 order.1 in
      let P : Dated → Type 0 = λ x. Makes net c start x (a ++ b) t in
      (p.g_then, oldest_kept net c checked s f g here.good may.turn order.0 un.0 m.1, subst P (sym p.meet) r)

  -- these firings end the cycle: none is at the place of one that was made, and no other may be made
  record Rest (done : List Firing) (s : Dated) (fs : List Firing) (t : Dated) : Type 0 where
    makes : Makes net c start s fs t
    once : Once fs
    order : InOrder fs
    free : AllByRecursion (IsUnused done) fs
    full : (f : Firing) → IsUnused done f → IsUnused fs f → May net c start t f → ⊥

  rest_without : (done : List Firing) (s : Dated) (a : List Firing) (f : Firing) (b : List Firing) (t : Dated) → Here done s → Rest done s (a ++ f ∷ b) t → May net c start s f → Rest (done ++ f ∷ []) (after_in net c s f) (a ++ b) t
  rest_without done s a f b t here r may =
      let un : IsUnused (a ++ b) f = once_apart a b f r.once in
      record {
        makes = goes_first done s a f b t here r.makes may (all_before (λ g. place_of g ≢ place_of f) a b un) (order_before a b f r.order);
        once = once_without a b f r.once;
        order = order_without a b f r.order;
        free = all_both (IsUnused done) (λ g. place_of g ≢ place_of f) (IsUnused (done ++ f ∷ [])) (a ++ b)
            (λ g h n. all_snoc (λ x. place_of x ≢ place_of g) done f h (λ e. n (sym e))) (all_without (IsUnused done) a b f r.free) un;
        full = λ g ud ur m. r.full g (unused_before done f g ud) (all_with (λ x. place_of x ≢ place_of g) a b f ur (Rattle.cycle_engine.proofs.UsedLemmas.unused_last done f g ud)) m;
      }

  -- the firings before one of the rest, the state there, and that it may be made
  record Reached (s : Dated) (a : List Firing) (f : Firing) (b : List Firing) (t : Dated) : Type 0 where
    to : Dated
    makes : Makes net c start s a to
    may : May net c start to f
    oldest : IsOldest net to.state f.unit f.act

  reached : (s : Dated) (a : List Firing) (f : Firing) (b : List Firing) (t : Dated) → Makes net c start s (a ++ f ∷ b) t → Reached s a f b t
  reached s [] f b t m = record { to = s; makes = refl; may = m.0; oldest = m.1 }
  reached s (g ∷ a) f b t m =
      let r = reached (after_in net c s g) a f b t m.2 in
      record { to = r.to; makes = (m.0, m.1, r.makes); may = r.may; oldest = r.oldest }

  -- the rest of a cycle leads to that state, by so many firings
  record Alike (fs gs : List Firing) (t u : Dated) : Type 0 where
    state : t ≡ u
    count : length fs ≡ length gs

  -- an early firing of the rest that comes first may be made now
  early_may : (done : List Firing) (s : Dated) (a : List Firing) (f : Firing) (b : List Firing) (t : Dated) → Here done s → Rest done s (a ++ f ∷ b) t → AllByRecursion Late a → phase f.act < 2 → May net c start s f
  early_may done s a f b t here r late early =
      let at = reached s a f b t r.makes in
      goes_back done s a at.to f here at.makes late
      (all_both Late (λ g. f.unit ≡ g.unit → phase g.act ≤ phase f.act) (λ g. f.unit ≢ g.unit) a (λ g l o e. (let m = o e in let l' : 2 ≤ phase g.act = l in absurd (omega arith))) late (order_before a b f r.order))
      (all_at (IsUnused done) a b f r.free) (all_before (λ g. place_of g ≢ place_of f) a b (once_apart a b f r.once)) at.may

  -- two executions of one queue that come first of its acts in two ends of a cycle are one
  one_exec : (done : List Firing) (s : Dated) (f g : Firing) (a b : List Firing) (u : Dated) (x y : ℕ) → Here done s → May net c start s f → IsOldest net s.state f.unit f.act → Rest done s (a ++ g ∷ b) u → AllByRecursion Late a
      → g.unit ≡ f.unit → f.act ≡ Exec x → g.act ≡ Exec y → f ≡ g
  one_exec done s f g a b u x y here may old r late un fx gy =
      let at = reached s a g b u r.makes in
      let apart : IsUnused a g = all_before (λ h. place_of h ≢ place_of g) a b (once_apart a b g r.once) in
      let other : AllByRecursion (λ h. h.unit ≢ f.unit) a = all_both (λ h. g.unit ≡ h.unit → phase h.act ≤ phase g.act) (λ h. Late h × (place_of h ≢ place_of g)) (λ h. h.unit ≢ f.unit) a elsewhere
      (order_before a b g r.order) (all_both Late (λ h. place_of h ≢ place_of g) (λ h. Late h × (place_of h ≢ place_of g)) a (λ h l n. (l, n)) late apart) in
      let keeps : get_or at.to.state.own f.unit idle ≡ get_or s.state.own f.unit idle = own_same net c start s a at.to f.unit at.makes (no_unit a f.unit other) in
      let A : Act → Type 0 = λ z. enabled net s.state (firing f.unit z) in
      let B : Act → Type 0 = λ z. enabled net at.to.state (firing g.unit z) in
      let C : ℕ → Type 0 = λ v. enabled net at.to.state (firing v (Exec y)) in
      let x_now : enabled net s.state (firing f.unit (Exec x)) = subst A fx may.turn in
      let y_then : enabled net at.to.state (firing f.unit (Exec y)) = subst C un (subst B gy at.may.turn) in
      let x_then : enabled net at.to.state (firing f.unit (Exec x)) = exec_moved net s.state at.to.state f.unit x keeps x_now in
      let y_now : enabled net s.state (firing f.unit (Exec y)) = exec_moved net at.to.state s.state f.unit y (sym keeps) y_then in
      let O : Act → Type 0 = λ z. IsOldest net s.state f.unit z in
      let Q : Act → Type 0 = λ z. IsOldest net at.to.state g.unit z in
      let R : ℕ → Type 0 = λ v. IsOldest net at.to.state v (Exec y) in
      let f_old : IsOldest net s.state f.unit (Exec x) = subst O fx old in
      let g_old : IsOldest net at.to.state f.unit (Exec y) = subst R un (subst Q gy at.oldest) in
      let xy : x ≡ y = even x y (λ l. f_old y l y_now) (λ l. g_old x l x_then) in
      λ i. record { unit = sym un i; act = (fx ∙ (ap Exec xy ∙ sym gy)) i }
    where
      even : (x y : ℕ) → (y < x → ⊥) → (x < y → ⊥) → x ≡ y
      even x y p q = by (cases_lt x y) (cases_lt y x)
        where
          by : (x < y) ⊎ (y ≤ x) → (y < x) ⊎ (x ≤ y) → x ≡ y
          by (inl l) z = absurd (q l)
          by (inr l) (inl m) = absurd (p m)
          by (inr l) (inr m) = omega arith

      elsewhere : (h : Firing) → (g.unit ≡ h.unit → phase h.act ≤ phase g.act) → Late h × (place_of h ≢ place_of g) → h.unit ≢ f.unit
      elsewhere h order l e =
          let m = order (un ∙ sym e) in
          let p : phase g.act ≡ 2 = ap phase gy in
          let l' : 2 ≤ phase h.act = l.0 in
          let q : act_place h.act ≡ act_place g.act = phase_exec h.act (omega arith) ∙ sym (ap act_place gy) in
          l.1 (λ i. record { unit = (e ∙ sym un) i; act = q i })

  -- what is left of a proof once one firing may go first in both
  abbrev Smaller : ℕ → Type 0
  Smaller n = (done : List Firing) (s : Dated) (fs gs : List Firing) (t u : Dated) → length fs ≤ n → Here done s → Rest done s fs t → Rest done s gs u → Alike fs gs t u

  both_first : (n : ℕ) → Smaller n → (done : List Firing) (s : Dated) (f : Firing) (a b a' b' : List Firing) (t u : Dated) → length (a ++ f ∷ b) ≤ suc n → Here done s → Rest done s (a ++ f ∷ b) t → Rest done s (a' ++ f ∷ b') u
      → May net c start s f → IsOldest net s.state f.unit f.act → Alike (a ++ f ∷ b) (a' ++ f ∷ b') t u
  both_first n ih done s f a b a' b' t u l here r q may old =
      let x = length_without a b f in
      let y = length_without a' b' f in
      let w = ih (done ++ f ∷ []) (after_in net c s f) (a ++ b) (a' ++ b') t u (omega arith) (here_on done s f here may old) (rest_without done s a f b t here r may) (rest_without done s a' f b' u here q may) in
      let z = w.count in
      record { state = w.state; count = omega arith }

  -- the firing stands in the other list too, where the one at its place is the same
  other_has : (n : ℕ) → Smaller n → (done : List Firing) (s : Dated) (f : Firing) (a b gs : List Firing) (t u : Dated) → length (a ++ f ∷ b) ≤ suc n → Here done s → Rest done s (a ++ f ∷ b) t → Rest done s gs u
      → May net c start s f → IsOldest net s.state f.unit f.act → ((m : Met gs f) → f ≡ m.at) → Alike (a ++ f ∷ b) gs t u
  other_has n ih done s f a b gs t u l here r q may old same = by (used_or gs f)
    where
      by : IsUnused gs f ⊎ Met gs f → Alike (a ++ f ∷ b) gs t u
      by (inl un) = absurd (q.full f (all_at (IsUnused done) a b f r.free) un (persists done s gs u f here q.makes un may))
      by (inr m) =
          let e : gs ≡ m.before ++ f ∷ m.after = m.is ∙ ap (λ x. m.before ++ x ∷ m.after) (sym (same m)) in
          let P : List Firing → Type 0 = λ xs. Rest done s xs u in
          let Q : List Firing → Type 0 = λ xs. Alike (a ++ f ∷ b) xs t u in
          subst Q (sym e) (both_first n ih done s f a b m.before m.after t u l here r (subst P e q) may old)

  early_first : (n : ℕ) → Smaller n → (done : List Firing) (s : Dated) (fs gs : List Firing) (t u : Dated) → length fs ≤ suc n → Here done s → Rest done s fs t → Rest done s gs u → Early fs → Alike fs gs t u
  early_first n ih done s fs gs t u l here r q e =
      let P : List Firing → Type 0 = λ xs. Rest done s xs t in
      let Q : List Firing → Type 0 = λ xs. Alike xs gs t u in
      let N : List Firing → Type 0 = λ xs. length xs ≤ suc n in
      let r' : Rest done s (e.before ++ e.at ∷ e.after) t = subst P e.is r in
      subst Q (sym e.is) (other_has n ih done s e.at e.before e.after gs t u (subst N e.is l) here r' q (early_may done s e.before e.at e.after t here r' e.late e.early)
      (low_oldest net s.state e.at.unit e.at.act e.early) same)
    where
      same : (m : Met gs e.at) → e.at ≡ m.at
      same m = by (one_place e.at.act m.at.act (ap (λ (x : Firing). x.act) (sym m.place)))
        where
          by : (e.at.act ≡ m.at.act) ⊎ ((x : ℕ) × (y : ℕ) × (e.at.act ≡ Exec x) × (m.at.act ≡ Exec y)) → e.at ≡ m.at
          by (inl z) = λ i. record { unit = ap (λ (x : Firing). x.unit) (sym m.place) i; act = z i }
          by (inr z) = let p = ap phase z.2 in let k = e.early in absurd (omega arith)

  -- an early firing stands in both or in none
  none_early : (done : List Firing) (s : Dated) (fs gs : List Firing) (t u : Dated) → Here done s → Rest done s fs t → Rest done s gs u → AllByRecursion Late fs → Early gs → ⊥
  none_early done s fs gs t u here r q late e =
      let P : List Firing → Type 0 = λ xs. Rest done s xs u in
      let q' : Rest done s (e.before ++ e.at ∷ e.after) u = subst P e.is q in
      let un : IsUnused fs e.at = late_unused fs e.at late e.early in
      let may : May net c start s e.at = early_may done s e.before e.at e.after u here q' e.late e.early in
      r.full e.at (all_at (IsUnused done) e.before e.after e.at q'.free) un (persists done s fs t e.at here r.makes un may)

  late_first : (n : ℕ) → Smaller n → (done : List Firing) (s : Dated) (f : Firing) (fs gs : List Firing) (t u : Dated) → length (f ∷ fs) ≤ suc n → Here done s → Rest done s (f ∷ fs) t → Rest done s gs u → AllByRecursion Late gs → Alike (f ∷ fs) gs t u
  late_first n ih done s f fs gs t u l here r q late = other_has n ih done s f [] fs gs t u l here r q r.makes.0 r.makes.1 same
    where
      same : (m : Met gs f) → f ≡ m.at
      same m = by (one_place f.act m.at.act (ap (λ (x : Firing). x.act) (sym m.place)))
        where
          un : m.at.unit ≡ f.unit
          un = ap (λ (x : Firing). x.unit) m.place

          by : (f.act ≡ m.at.act) ⊎ ((x : ℕ) × (y : ℕ) × (f.act ≡ Exec x) × (m.at.act ≡ Exec y)) → f ≡ m.at
          by (inl z) = λ i. record { unit = sym un i; act = z i }
          by (inr z) =
              let P : List Firing → Type 0 = λ xs. Rest done s xs u in
              let L : List Firing → Type 0 = AllByRecursion Late in
              one_exec done s f m.at m.before m.after u z.0 z.1 here r.makes.0 r.makes.1 (subst P m.is q) (all_before Late m.before (m.at ∷ m.after) (subst L m.is late)) un z.2 z.3

  none_left : (done : List Firing) (s : Dated) (gs : List Firing) (t u : Dated) → Rest done s [] t → Rest done s gs u → Alike [] gs t u
  none_left done s [] t u r q = record { state = sym r.makes ∙ q.makes; count = refl }
  none_left done s (g ∷ gs) t u r q = let P : Dated → Type 0 = λ x. May net c start x g in absurd (r.full g q.free.0 tt (subst P r.makes q.makes.0))

  next_first : (n : ℕ) → Smaller n → Smaller (suc n)
  next_first n ih done s fs gs t u l here r q = by (early_or fs) (early_or gs)
    where
      all_late : (xs : List Firing) → fs ≡ xs → AllByRecursion Late gs → Alike fs gs t u
      all_late [] e late = let P : List Firing → Type 0 = λ ys. Rest done s ys t in let Q : List Firing → Type 0 = λ ys. Alike ys gs t u in subst Q (sym e) (none_left done s gs t u (subst P e r) q)
      all_late (f ∷ xs) e late =
          let P : List Firing → Type 0 = λ ys. Rest done s ys t in
          let Q : List Firing → Type 0 = λ ys. Alike ys gs t u in
          let N : List Firing → Type 0 = λ ys. length ys ≤ suc n in
          subst Q (sym e) (late_first n ih done s f xs gs t u (subst N e l) here (subst P e r) q late)

      by : AllByRecursion Late fs ⊎ Early fs → AllByRecursion Late gs ⊎ Early gs → Alike fs gs t u
      by (inr e) o = early_first n ih done s fs gs t u l here r q e
      by (inl late) (inr e) = absurd (none_early done s fs gs t u here r q late e)
      by (inl late) (inl late') = all_late fs refl late'

  alike : (n : ℕ) → Smaller n
  alike zero done s [] gs t u l here r q = none_left done s gs t u r q
  alike zero done s (f ∷ fs) gs t u l here r q = absurd (omega arith)
  alike (suc n) done s fs gs t u l here r q = next_first n (alike n) done s fs gs t u l here r q

-- ---- cycles

every : (fs : List Firing) → AllByRecursion (IsUnused []) fs
every [] = tt
every (f ∷ fs) = (tt, every fs)

-- two cycles of one number from one state lead to one state
one_cycle : (net : Net) (c : ℕ) (s : Dated) (fs gs : List Firing) (t u : Dated) → IsChecked net → IsRegular net s.state → AreDated net s → Cycle net c s fs t → Cycle net c s gs u → (length fs ≡ length gs) × (t ≡ u)
one_cycle net c s fs gs t u checked good k a b =
    let w = alike net c s checked k (length fs) [] s fs gs t u (omega arith) (record { made = refl; good = good; dated = k })
    (record { makes = a.makes; once = a.once; order = a.order; free = every fs; full = λ f ud un m. a.full f un m })
    (record { makes = b.makes; once = b.once; order = b.order; free = every gs; full = λ f ud un m. b.full f un m }) in
    (w.count, w.state)

pub cycles_meet : CyclesMeet
cycles_meet net inputs fss s fs gs t u checked y a b =
    one_cycle net (length fss) s fs gs t u checked (cycles_regular net 0 (dated_opening net inputs) fss s checked y (regular_opening net inputs (premises_of net laws checked)))
    (cycles_dated net 0 (dated_opening net inputs) fss s y (opening_are net inputs) (opening_by net inputs 0)) a b

one_number : (net : Net) (c : ℕ) (s : Dated) (fss gss : List (List Firing)) (t u : Dated) → IsChecked net → IsRegular net s.state → AreDated net s → AllBy c s → Cycles net c s fss t → Cycles net c s gss u
    → AtRest net t.state → AtRest net u.state → EndsFiring fss → EndsFiring gss → length fss ≡ length gss
one_number net c s [] [] t u checked good k h a b rt ru ef eg = refl
one_number net c s [] (gs ∷ gss) t u checked good k h a b rt ru ef eg =
    let P : Dated → Type 0 = λ x. AtRest net x.state in absurd (no_more net c s (gs ∷ gss) u (subst P (sym a) rt) b (λ z. cc) eg)
one_number net c s (fs ∷ fss) [] t u checked good k h a b rt ru ef eg =
    let P : Dated → Type 0 = λ x. AtRest net x.state in absurd (no_more net c s (fs ∷ fss) t (subst P (sym b) ru) a (λ z. cc) ef)
one_number net c s (fs ∷ fss) (gs ∷ gss) t u checked good k h a b rt ru ef eg =
    let e : b.0 ≡ a.0 = (one_cycle net c s gs fs b.0 a.0 checked good k b.1 a.1).1 in
    let P : Dated → Type 0 = λ x. Cycles net (suc c) x gss u in
    let w = makes_dates net c s s fs a.0 a.1.makes k h in
    ap suc (one_number net (suc c) a.0 fss gss t u checked (makes_regular net c s s fs a.0 checked a.1.makes good) w.0
    (λ d. each_as (λ x. x ≤ c) (λ x. x ≤ suc c) (λ x z. omega arith) (get_or a.0.dates d []) (w.1 d)) a.2 (subst P e b.2) rt ru (ends_rest fs fss ef) (ends_rest gs gss eg))

pub cycles_are_one : CyclesAreOne
cycles_are_one net inputs fss gss t u checked a b rt ru ef eg =
    one_number net 0 (dated_opening net inputs) fss gss t u checked (regular_opening net inputs (premises_of net laws checked)) (opening_are net inputs) (opening_by net inputs 0) a b rt ru ef eg
