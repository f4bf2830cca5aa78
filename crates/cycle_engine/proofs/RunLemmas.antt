-- Lists of cycles with one more, and without those at the end that have no firing.
use Rattle.std.proofs.Common.{◌≡◌, ◌≢◌, ℕ, suc, ◌+◌, ◌-◌, ◌*◌, ◌%◌, ◌<◌, ◌≤◌, ◌⊎◌, inl, inr, Bool, true, false, cond, nat_lt, List, [], ◌∷◌, ◌++◌, length, get_or, refl, sym, ap, subst, ◌∙◌, arith, length-append, append_assoc}
use Rattle.std.specs.List.{AllByRecursion}
use Rattle.std.proofs.lemmas.Bool.{cases_lt, lt-ltb}
use Rattle.std.proofs.lemmas.List.{append-nil}
use Rattle.std.proofs.Math.Nat.{mul-le-mul_right}
use Rattle.el_base.specs.Limits.{max_delay}
use Rattle.net_types.specs.declared.net.Net.{Net}
use Rattle.net_types.specs.declared.net.Chan.{Chan}
use Rattle.net_types.specs.declared.firing.Firing.{Firing}
use Rattle.net_types.specs.declared.firing.Inputs.{Inputs}
use Rattle.net_types.specs.Nets.{chan_at, nowhere}
use Rattle.net_check.specs.Checks.{IsChecked}
use Rattle.net_core.specs.Fire.{enabled}
use Rattle.net_core.specs.Runs.{AtRest}
use Rattle.net_core.specs.States.{state_of, dates_of}
use Rattle.cycle_engine.specs.declared.broken.Broken.{Broken}
use Rattle.cycle_engine.specs.declared.broken.Broken.TheVariants as broken
use Rattle.cycle_engine.specs.declared.engine.Engine.{Engine}
use Rattle.cycle_engine.specs.declared.engine.Bounds.{Bounds}
use Rattle.cycle_engine.specs.declared.runs.Timed.{Timed}
use Rattle.cycle_engine.specs.Cycles.{Dated, dated_opening, Cycle, Cycles, AreDated}
use Rattle.cycle_engine.specs.Bounds.{firing_count, EndsFiring}
use Rattle.cycle_engine.specs.Cuts.{joined}
use Rattle.cycle_engine.specs.Timings.{IsTimed, HasFewCycles, IsTimingFault}
use Rattle.cycle_engine.specs.private.Marking.{Holds, cells_of, coming_in}
use Rattle.cycle_engine.specs.private.Trials.{dated_of, IsEngine}
use Rattle.cycle_engine.specs.private.Goings.{Past, IsReady, AreComing, HasNoneComing, HasDone, IsBroken, fault_of, all_made}
use Rattle.cycle_engine.specs.private.Places.{IsFull, IsCycled, kept_before, trimmed, HasRun}
use Rattle.cycle_engine.proofs.ShutLemmas.{shut_now}
use Rattle.cycle_engine.proofs.DateLemmas.{AllBy, AllRipe, each_as, makes_dates}
use Rattle.cycle_engine.proofs.BoundLemmas.{RipeFrom, from_ripe, empty_rests, cycles_bound}
use Rattle.cycle_engine.proofs.StartLemmas.{opening_are}
use Rattle.cycle_engine.proofs.TurnLemmas.{no_dates}
use Rattle.cycle_engine.proofs.NextLemmas.{entries_now, next_quiet}

-- ---- one more cycle

cycles_snoc : (net : Net) (c : ℕ) (s : Dated) (fss : List (List Firing)) (m : Dated) (fs : List Firing) (t : Dated) → Cycles net c s fss m → Cycle net (c + length fss) m fs t → Cycles net c s (fss ++ fs ∷ []) t
cycles_snoc net c s [] m fs t y k =
    let P : Dated → Type 0 = λ x. Cycle net c x fs t in
    let Q : ℕ → Type 0 = λ n. Cycle net n m fs t in
    let z : c + 0 ≡ c = omega arith in
    (t, subst P (sym y) (subst Q z k), refl)
cycles_snoc net c s (gs ∷ fss) m fs t y k =
    let e : c + length (gs ∷ fss) ≡ suc c + length fss = omega arith in
    let P : ℕ → Type 0 = λ n. Cycle net n m fs t in
    (y.0, y.1, cycles_snoc net (suc c) y.0 fss m fs t y.2 (subst P e k))

-- the state before the last cycle
cycles_split : (net : Net) (c : ℕ) (s : Dated) (fss : List (List Firing)) (fs : List Firing) (t : Dated) → Cycles net c s (fss ++ fs ∷ []) t → (m : Dated) × Cycles net c s fss m × Cycle net (c + length fss) m fs t
cycles_split net c s [] fs t y =
    let P : Dated → Type 0 = λ x. Cycle net c s fs x in
    let Q : ℕ → Type 0 = λ n. Cycle net n s fs t in
    let z : c ≡ c + 0 = omega arith in
    (s, refl, subst Q z (subst P y.2 y.1))
cycles_split net c s (gs ∷ fss) fs t y =
    let w = cycles_split net (suc c) y.0 fss fs t y.2 in
    let e : suc c + length fss ≡ c + length (gs ∷ fss) = omega arith in
    let P : ℕ → Type 0 = λ n. Cycle net n w.0 fs t in
    (w.0, (y.0, y.1, w.1), subst P e w.2)

count_snoc : (fss : List (List Firing)) (fs : List Firing) → firing_count (fss ++ fs ∷ []) ≡ firing_count fss + length fs
count_snoc [] fs = omega arith
count_snoc (gs ∷ fss) fs = let e = count_snoc fss fs in omega arith

joined_snoc : (fss : List (List Firing)) (fs : List Firing) → joined (fss ++ fs ∷ []) ≡ joined fss ++ fs
joined_snoc [] fs = append-nil fs
joined_snoc (gs ∷ fss) fs = ap (λ xs. gs ++ xs) (joined_snoc fss fs) ∙ sym (append_assoc gs (joined fss) fs)

pub cycle_done : (net : Net) (past : Past) (b : Bounds) (c : ℕ) (start : Dated) (e : Engine) → IsEngine net e → IsFull net past b c start e → HasDone net (record past { cycles = past.cycles ++ e.fired.items ∷ [] }) b (c + 1) e
cycle_done net past b c start e eng f =
    let P : ℕ → Type 0 = λ n. Cycle net n start e.fired.items (dated_of e) in
    let z : c ≡ 0 + length past.cycles = (let n = f.going.number in omega arith) in
    record {
      done = cycles_snoc net 0 (dated_opening net past.inputs) past.cycles start e.fired.items (dated_of e) f.going.done
          (subst P z (record { makes = f.going.makes; once = f.going.once; order = f.going.order; full = f.full }));
      number = (let n = f.going.number in let l = length-append past.cycles (e.fired.items ∷ []) in omega arith);
      made = (let n = f.going.made in let k = count_snoc past.cycles e.fired.items in omega arith);
      log = f.going.log ∙ ap (λ xs. cond b.keep xs []) (sym (joined_snoc past.cycles e.fired.items));
      listed = f.going.listed;
      entries = entries_now net past b c start e eng f;
      coming = f.going.coming;
      control = f.going.control;
      shut = shut_now net c start e f.going.began.chans f.going.listed f.going.shut;
      next = next_quiet net past b c start e eng f;
    }

-- ---- without the cycles at the end that have no firing

trimmed_some : (fss : List (List Firing)) (f : Firing) (fs : List Firing) → trimmed (fss ++ (f ∷ fs) ∷ []) ≡ fss ++ (f ∷ fs) ∷ []
trimmed_some [] f fs = refl
trimmed_some (gs ∷ fss) f fs = ap (kept_before gs) (trimmed_some fss f fs) ∙ by gs fss
  where
    by : (gs : List Firing) (fss : List (List Firing)) → kept_before gs (fss ++ (f ∷ fs) ∷ []) ≡ gs ∷ (fss ++ (f ∷ fs) ∷ [])
    by [] [] = refl
    by [] (x ∷ xs) = refl
    by (y ∷ ys) xs = refl

pub trimmed_none : (fss : List (List Firing)) → trimmed (fss ++ [] ∷ []) ≡ trimmed fss
trimmed_none [] = refl
trimmed_none (gs ∷ fss) = ap (kept_before gs) (trimmed_none fss)

trimmed_ends : (fss : List (List Firing)) → EndsFiring (trimmed fss)
trimmed_ends [] = tt
trimmed_ends (fs ∷ fss) = by fs (trimmed fss) (trimmed_ends fss)
  where
    by : (fs : List Firing) (gss : List (List Firing)) → EndsFiring gss → EndsFiring (kept_before fs gss)
    by [] [] h = tt
    by [] (gs ∷ gss) h = h
    by (f ∷ fs) [] h = λ z. cc
    by (f ∷ fs) (gs ∷ gss) h = h

trimmed_count : (fss : List (List Firing)) → firing_count (trimmed fss) ≡ firing_count fss
trimmed_count [] = refl
trimmed_count (fs ∷ fss) = by fs (trimmed fss) (trimmed_count fss)
  where
    by : (fs : List Firing) (gss : List (List Firing)) → firing_count gss ≡ firing_count fss → firing_count (kept_before fs gss) ≡ length fs + firing_count fss
    by [] [] h = let k : 0 ≡ firing_count fss = h in omega arith
    by [] (gs ∷ gss) h = let k : firing_count (gs ∷ gss) ≡ firing_count fss = h in omega arith
    by (f ∷ fs) gss h = omega arith

trimmed_joined : (fss : List (List Firing)) → joined (trimmed fss) ≡ joined fss
trimmed_joined [] = refl
trimmed_joined (fs ∷ fss) = by fs (trimmed fss) (trimmed_joined fss)
  where
    by : (fs : List Firing) (gss : List (List Firing)) → joined gss ≡ joined fss → joined (kept_before fs gss) ≡ fs ++ joined fss
    by [] [] h = h
    by [] (gs ∷ gss) h = h
    by (f ∷ fs) gss h = ap (λ xs. (f ∷ fs) ++ xs) h

trimmed_cycles : (net : Net) (c : ℕ) (s : Dated) (fss : List (List Firing)) (t : Dated) → Cycles net c s fss t → Cycles net c s (trimmed fss) t
trimmed_cycles net c s [] t y = y
trimmed_cycles net c s (fs ∷ fss) t y = by fs (trimmed fss) y.1 (trimmed_cycles net (suc c) y.0 fss t y.2)
  where
    by : (fs : List Firing) (gss : List (List Firing)) → Cycle net c s fs y.0 → Cycles net (suc c) y.0 gss t → Cycles net c s (kept_before fs gss) t
    by [] [] k r = k.makes ∙ r
    by [] (gs ∷ gss) k r = (y.0, k, r)
    by (f ∷ fs) gss k r = (y.0, k, r)

-- ---- the dates after the last cycle that has a firing

abbrev AllBelow : ℕ → Dated → Type 0
AllBelow n s = (d : ℕ) → AllByRecursion (λ x. x < n) (get_or s.dates d [])

-- one more than the last cycle with a firing, where n is that of the cycles before
abbrev last_end : ℕ → ℕ → List (List Firing) → ℕ
last_end c n [] = n
last_end c n (gs ∷ gss) = c + length (gs ∷ gss)

below_end : (net : Net) (c n : ℕ) (s : Dated) (fss : List (List Firing)) (t : Dated) → n ≤ c → AreDated net s → AllBelow n s → Cycles net c s fss t → AllBelow (last_end c n (trimmed fss)) t
below_end net c n s [] t l k h y = let P : Dated → Type 0 = AllBelow n in subst P y h
below_end net c n s (fs ∷ fss) t l k h y = by fs y.1 refl (λ m lm hm. below_end net (suc c) m y.0 fss t lm w.0 hm y.2)
  where
    w : AreDated net y.0 × AllBy c y.0
    w = makes_dates net c s s fs y.0 y.1.makes k (λ d. each_as (λ x. x < n) (λ x. x ≤ c) (λ x z. omega arith) (get_or s.dates d []) (h d))

    some : AllBelow (suc c) y.0
    some d = each_as (λ x. x ≤ c) (λ x. x < suc c) (λ x z. omega arith) (get_or y.0.dates d []) (w.1 d)

    by : (gs : List Firing) → Cycle net c s gs y.0 → fs ≡ gs → ((m : ℕ) → m ≤ suc c → AllBelow m y.0 → AllBelow (last_end (suc c) m (trimmed fss)) t) → AllBelow (last_end c n (trimmed (fs ∷ fss))) t
    by [] k e move = let P : List Firing → Type 0 = λ gs. AllBelow (last_end c n (kept_before gs (trimmed fss))) t in subst P (sym e) (at (trimmed fss) (move n (omega arith) (let Q : Dated → Type 0 = AllBelow n in subst Q k.makes h)))
      where
        at : (gss : List (List Firing)) → AllBelow (last_end (suc c) n gss) t → AllBelow (last_end c n (kept_before [] gss)) t
        at [] r = r
        at (g ∷ gss) r = let P : ℕ → Type 0 = λ m. AllBelow m t in let e : suc c + length (g ∷ gss) ≡ c + length ([] ∷ g ∷ gss) = omega arith in subst P e r
    by (f ∷ gs) k e move = let P : List Firing → Type 0 = λ gs. AllBelow (last_end c n (kept_before gs (trimmed fss))) t in subst P (sym e) (at (trimmed fss) (move (suc c) (omega arith) some))
      where
        at : (gss : List (List Firing)) → AllBelow (last_end (suc c) (suc c) gss) t → AllBelow (last_end c n (kept_before (f ∷ gs) gss)) t
        at [] r = let P : ℕ → Type 0 = λ m. AllBelow m t in let e : suc c ≡ c + 1 = omega arith in subst P e r
        at (g ∷ gss) r = let P : ℕ → Type 0 = λ m. AllBelow m t in let e : suc c + length (g ∷ gss) ≡ c + length ((f ∷ gs) ∷ g ∷ gss) = omega arith in subst P e r

end_is : (fss : List (List Firing)) → last_end 0 0 fss ≡ length fss
end_is [] = refl
end_is (gs ∷ gss) = let e : 0 + length (gs ∷ gss) ≡ length (gs ∷ gss) = omega arith in e

-- ---- rest

pub delay_most : (net : Net) → IsChecked net → (d : ℕ) → (chan_at net d).delay ≤ max_delay
delay_most net checked d = by (cases_lt d (length net.chans))
  where
    by : (d < length net.chans) ⊎ (length net.chans ≤ d) → (chan_at net d).delay ≤ max_delay
    by (inl l) = (checked.sized d l).delay_most
    by (inr l) = (let e : chan_at net d ≡ nowhere = Rattle.std.proofs.lemmas.List.get_or_past net.chans d nowhere l in let k : (chan_at net d).delay ≡ 0 = ap (λ (c : Chan). c.delay) e in omega arith)

opening_below : (net : Net) (inputs : Inputs) → AllBelow 0 (dated_opening net inputs)
opening_below net inputs d = let P : List ℕ → Type 0 = AllByRecursion (λ x. x < 0) in subst P (sym (no_dates net inputs d)) tt

-- an empty cycle in which all tokens are ripe leaves the state at rest
ripe_rests : (net : Net) (inputs : Inputs) (fss : List (List Firing)) (t : Dated) → Cycles net 0 (dated_opening net inputs) (fss ++ [] ∷ []) t → AllRipe net (length fss) t → (f : Firing) → enabled net t.state f → ⊥
ripe_rests net inputs fss t y ripe f n =
    let w = cycles_split net 0 (dated_opening net inputs) fss [] t y in
    let k : AreDated net w.0 = Rattle.cycle_engine.proofs.TurnLemmas.cycles_dated net 0 (dated_opening net inputs) fss w.0 w.1 (opening_are net inputs) (Rattle.cycle_engine.proofs.TurnLemmas.opening_by net inputs 0) in
    let P : Dated → Type 0 = λ x. enabled net x.state f in
    let Q : ℕ → Type 0 = λ n. Cycle net n w.0 [] t in
    let R : Dated → Type 0 = AllRipe net (length fss) in
    let z : 0 + length fss ≡ length fss = omega arith in
    empty_rests net (length fss) w.0 t k (subst R (sym w.2.makes) ripe) (subst Q z w.2) f (subst P (sym w.2.makes) n)

-- all tokens are ripe in an empty cycle so late
late_ripe : (net : Net) (inputs : Inputs) (fss : List (List Firing)) (t : Dated) → IsChecked net → Cycles net 0 (dated_opening net inputs) (fss ++ [] ∷ []) t → length (trimmed fss) + max_delay ≤ length fss → AllRipe net (length fss) t
late_ripe net inputs fss t checked y l =
    let w = cycles_split net 0 (dated_opening net inputs) fss [] t y in
    let below : AllBelow (last_end 0 0 (trimmed fss)) w.0 = below_end net 0 0 (dated_opening net inputs) fss w.0 (omega arith) (opening_are net inputs) (opening_below net inputs) w.1 in
    let e : last_end 0 0 (trimmed fss) ≡ length (trimmed fss) = end_is (trimmed fss) in
    let ripe : RipeFrom max_delay (length fss) w.0 = λ d. each_as (λ x. x < last_end 0 0 (trimmed fss)) (λ x. x + max_delay ≤ length fss) (λ x z. omega arith) (get_or w.0.dates d []) (below d) in
    let R : Dated → Type 0 = AllRipe net (length fss) in
    subst R w.2.makes (from_ripe net (length fss) max_delay w.0 (delay_most net checked) ripe)

-- all tokens are ripe in the cycle c where none is noted that is to ripen later
spent_ripe : (net : Net) (c : ℕ) (e : Engine) → AreComing net (c + 1) e → HasNoneComing e → AllRipe net c (dated_of e)
spent_ripe net c e coming none d = each_as (λ x. (x < c + 1) × (c + 1 ≤ x + (chan_at net d).delay → Holds d (coming_in e.notes (x + (chan_at net d).delay)))) (λ x. x + (chan_at net d).delay ≤ c) (λ x k. at x k.1 (cases_lt c (x + (chan_at net d).delay))) (get_or (dates_of e.state) d []) (coming d)
  where
    at : (x : ℕ) → (c + 1 ≤ x + (chan_at net d).delay → Holds d (coming_in e.notes (x + (chan_at net d).delay))) → (c < x + (chan_at net d).delay) ⊎ (x + (chan_at net d).delay ≤ c) → x + (chan_at net d).delay ≤ c
    at x k (inr l) = l
    at x k (inl l) = let P : List ℕ → Type 0 = Holds d in let h : Holds d [] = subst P (none ((x + (chan_at net d).delay) % length (cells_of e.notes))) (k (let l' : c < x + (chan_at net d).delay = l in omega arith)) in let w : h.at < 0 = h.within in absurd (omega arith)

-- ---- numbers

few_more : (a a' d cycle last : ℕ) → a + 1 ≤ a' → last ≤ a * (d + 1) → cycle ≤ last + d → cycle + 1 ≤ a' * (d + 1)
few_more a a' d cycle last l m n =
    let p : (a + 1) * (d + 1) ≤ a' * (d + 1) = mul-le-mul_right (d + 1) l in
    let q : (a + 1) * (d + 1) ≡ a * (d + 1) + (d + 1) = more a (d + 1) in
    omega arith
  where
    more : (x y : ℕ) → (x + 1) * y ≡ x * y + y
    more x y = grind arith

few_same : (a a' d last : ℕ) → a ≤ a' → last ≤ a * (d + 1) → last ≤ a' * (d + 1)
few_same a a' d last l m = let p : a * (d + 1) ≤ a' * (d + 1) = mul-le-mul_right (d + 1) l in omega arith

-- what the loop over cycles counts down
abbrev pub to_do : (limit made cycle last : ℕ) → Bool → ℕ
to_do limit made cycle last going = cond going ((limit - made) * (max_delay + 2) + (last + max_delay + 1 - cycle)) 0

less_made : (limit a a' d cycle last : ℕ) → a + 1 ≤ a' → a' ≤ limit → cycle ≤ last + d → (limit - a') * (d + 2) + (cycle + 1 + d + 1 - (cycle + 1)) < (limit - a) * (d + 2) + (last + d + 1 - cycle)
less_made limit a a' d cycle last l m n =
    let p : (limit - a' + 1) * (d + 2) ≤ (limit - a) * (d + 2) = (let z : limit - a' + 1 ≤ limit - a = omega arith in mul-le-mul_right (d + 2) z) in
    let q : (limit - a' + 1) * (d + 2) ≡ (limit - a') * (d + 2) + (d + 2) = more (limit - a') (d + 2) in
    omega arith
  where
    more : (x y : ℕ) → (x + 1) * y ≡ x * y + y
    more x y = grind arith

less_late : (limit a d cycle last : ℕ) → cycle ≤ last + d → (limit - a) * (d + 2) + (last + d + 1 - (cycle + 1)) < (limit - a) * (d + 2) + (last + d + 1 - cycle)
less_late limit a d cycle last n = omega arith

-- ---- the loop over cycles

pub run_first : (net : Net) (inputs : Inputs) (b : Bounds) (e : Engine) → IsReady net b e → HasDone net (record { inputs = inputs; cycles = [] }) b 0 e → HasRun net inputs b e 0 0 true
run_first net inputs b e r d = record { cycles = []; ready = r; done = d; number = refl; near = λ z. omega arith; rest = λ z. cc; few = omega arith }

module _ (net : Net) (inputs : Inputs) (b : Bounds) (old new : Engine) (cycle last : ℕ) (did going : Bool) (checked : IsChecked net) (run : HasRun net inputs b old cycle last true) (ready : IsReady net b new)
    (cycled : IsCycled net (record { inputs = inputs; cycles = run.cycles }) b cycle new did) (near : going ≡ true → cycle + 1 ≤ cond did (cycle + 1) last + max_delay)
    (spent : going ≡ false → (max_delay < cycle + 1 - cond did (cycle + 1) last) ⊎ ((did ≡ false) × HasNoneComing new)) where
  -- the firings of the cycle
  made : all_made new ≡ all_made old + length cycled.firings
  made = (let a = cycled.done.made in let c = run.done.made in let d = count_snoc run.cycles cycled.firings in omega arith)

  some : did ≡ true → (f : Firing) × (fs : List Firing) × (cycled.firings ≡ f ∷ fs)
  some d = by cycled.firings (cycled.some d)
    where
      by : (fs : List Firing) → fs ≢ [] → (f : Firing) × (gs : List Firing) × (fs ≡ f ∷ gs)
      by [] n = absurd (n refl)
      by (f ∷ fs) n = (f, fs, refl)

  more : did ≡ true → all_made old + 1 ≤ all_made new
  more d = let w = some d in let l : length cycled.firings ≡ length (w.0 ∷ w.1) = ap (λ (fs : List Firing). length fs) w.2 in let m = made in omega arith

  same : did ≡ false → all_made new ≡ all_made old
  same d = let l : length cycled.firings ≡ 0 = ap (λ (fs : List Firing). length fs) (cycled.none d) in let m = made in omega arith

  number : (x : Bool) → did ≡ x → cond x (cycle + 1) last ≡ length (trimmed (run.cycles ++ cycled.firings ∷ []))
  number true d =
      let w = some d in
      let e : trimmed (run.cycles ++ cycled.firings ∷ []) ≡ run.cycles ++ (w.0 ∷ w.1) ∷ [] = ap (λ fs. trimmed (run.cycles ++ fs ∷ [])) w.2 ∙ trimmed_some run.cycles w.0 w.1 in
      let l : length (trimmed (run.cycles ++ cycled.firings ∷ [])) ≡ length (run.cycles ++ (w.0 ∷ w.1) ∷ []) = ap (λ (xs : List (List Firing)). length xs) e in
      let n = run.done.number in
      let k = length-append run.cycles ((w.0 ∷ w.1) ∷ []) in
      omega arith
  number false d =
      let e : trimmed (run.cycles ++ cycled.firings ∷ []) ≡ trimmed run.cycles = ap (λ fs. trimmed (run.cycles ++ fs ∷ [])) (cycled.none d) ∙ trimmed_none run.cycles in
      run.number ∙ sym (ap (λ (xs : List (List Firing)). length xs) e)

  -- a cycle without a firing in which all tokens are ripe leaves the state at rest
  empty : did ≡ false → AllRipe net (length run.cycles) (dated_of new) → AtRest net (state_of new.state)
  empty d ripe =
      let P : List Firing → Type 0 = λ fs. Cycles net 0 (dated_opening net inputs) (run.cycles ++ fs ∷ []) (dated_of new) in
      ripe_rests net inputs run.cycles (dated_of new) (subst P (cycled.none d) cycled.done.done) ripe

  rest : (x : Bool) → did ≡ x → (max_delay < cycle + 1 - cond x (cycle + 1) last) ⊎ ((did ≡ false) × HasNoneComing new) → AtRest net (state_of new.state)
  rest true d (inl l) = let l' : max_delay < cycle + 1 - (cycle + 1) = l in absurd (omega arith)
  rest false d (inl l) =
      let l' : max_delay < cycle + 1 - last = l in
      let n = run.number in
      let m = run.done.number in
      let P : List Firing → Type 0 = λ fs. Cycles net 0 (dated_opening net inputs) (run.cycles ++ fs ∷ []) (dated_of new) in
      empty d (late_ripe net inputs run.cycles (dated_of new) checked (subst P (cycled.none d) cycled.done.done) (omega arith))
  rest x d (inr w) = let P : ℕ → Type 0 = λ n. AllRipe net n (dated_of new) in empty w.0 (subst P run.done.number (spent_ripe net cycle new cycled.done.coming w.1))

  few : (x : Bool) → did ≡ x → cond x (cycle + 1) last ≤ all_made new * (max_delay + 1)
  few true d = few_more (all_made old) (all_made new) max_delay cycle last (more d) run.few (run.near refl)
  few false d = few_same (all_made old) (all_made new) max_delay last (let s = same d in omega arith) run.few

  pub run_step : HasRun net inputs b new (cycle + 1) (cond did (cycle + 1) last) going
  run_step = record {
    cycles = run.cycles ++ cycled.firings ∷ [];
    ready = ready;
    done = cycled.done;
    number = number did refl;
    near = near;
    rest = λ g. rest did refl (spent g);
    few = few did refl;
  }

  pub run_less : to_do b.limit (all_made new) (cycle + 1) (cond did (cycle + 1) last) going < to_do b.limit (all_made old) cycle last true
  run_less = by going did refl refl
    where
      within : all_made new ≤ b.limit
      within = ready.within

      by : (g x : Bool) → going ≡ g → did ≡ x → to_do b.limit (all_made new) (cycle + 1) (cond x (cycle + 1) last) g < to_do b.limit (all_made old) cycle last true
      by false x i j = let n = run.near refl in omega arith
      by true true i j = less_made b.limit (all_made old) (all_made new) max_delay cycle last (more j) within (run.near refl)
      by true false i j = let s = same j in let l = less_late b.limit (all_made old) max_delay cycle last (run.near refl) in let P : ℕ → Type 0 = λ a. (b.limit - a) * (max_delay + 2) + (last + max_delay + 1 - (cycle + 1)) < (b.limit - all_made old) * (max_delay + 2) + (last + max_delay + 1 - cycle) in subst P (sym s) l

pub run_timed : (net : Net) (inputs : Inputs) (b : Bounds) (e : Engine) (cycle last : ℕ) → HasRun net inputs b e cycle last false → IsTimed net inputs b.limit b.keep (record { state = e.state; firings = all_made e; cycles = last; log = e.log })
run_timed net inputs b e cycle last run = record {
  cycles = trimmed run.cycles;
  to = dated_of e;
  runs = trimmed_cycles net 0 (dated_opening net inputs) run.cycles (dated_of e) run.done.done;
  ends = trimmed_ends run.cycles;
  of = run.ready.engine.state;
  state = refl;
  rest = run.rest refl;
  firings = run.done.made ∙ sym (trimmed_count run.cycles);
  within = run.ready.within;
  number = run.number;
  log = run.done.log ∙ ap (λ fs. cond b.keep fs []) (sym (trimmed_joined run.cycles));
}

pub timed_few : (net : Net) (inputs : Inputs) (limit : ℕ) (keep : Bool) (t : Timed) → IsTimed net inputs limit keep t → HasFewCycles net t
timed_few net inputs limit keep t k most d =
    let b = cycles_bound net inputs k.cycles k.to most d k.runs k.ends in
    let n = k.number in
    let f : t.firings * (most + 1) ≡ firing_count k.cycles * (most + 1) = ap (λ x. x * (most + 1)) k.firings in
    omega arith

-- the fault of a run that is broken off
pub broken_timing : (net : Net) (inputs : Inputs) (b : Bounds) (e : Broken) → IsBroken net inputs b e → IsTimingFault net inputs b.limit (fault_of b.limit e)
broken_timing net inputs b broken.Limit h = (refl, h)
broken_timing net inputs b broken.Memory h = h

-- the cycle that the engine has made
pub cycled : (net : Net) (past : Past) (b : Bounds) (c : ℕ) (start : Dated) (e : Engine) (did : Bool) → did ≡ nat_lt 0 (length e.fired.items) → IsEngine net e → IsFull net past b c start e → IsCycled net past b c e did
cycled net past b c start e did is eng f = record { firings = e.fired.items; done = cycle_done net past b c start e eng f; some = some e.fired.items is; none = empty e.fired.items is }
  where
    some : (fs : List Firing) → did ≡ nat_lt 0 (length fs) → did ≡ true → fs ≢ []
    some [] i q = let z : false ≡ true = sym i ∙ q in cc
    some (f ∷ fs) i q = λ z. cc

    empty : (fs : List Firing) → did ≡ nat_lt 0 (length fs) → did ≡ false → fs ≡ []
    empty [] i q = refl
    empty (f ∷ fs) i q = let z : true ≡ false = sym (lt-ltb 0 (length (f ∷ fs)) (omega arith)) ∙ (sym i ∙ q) in cc
