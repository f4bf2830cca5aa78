-- Drafts that stand in a net, the tokens at their ends, and the uses of the control token and of values.
use Rattle.std.proofs.Common.{◌≡◌, ℕ, zero, suc, ◌+◌, ◌^◌, ◌<◌, ◌≤◌, ◌⊎◌, true, false, Option, Some, None, List, [], ◌∷◌, ◌++◌, length, refl, sym, ap, ◌∙◌, subst, inl, inr, ⊎_elim, arith, slice_get, length-append, length-set, append_assoc}
use Rattle.std.specs.List.{Contains}
use Rattle.std.proofs.lemmas.List.Elements.{Contains-append_left, Contains-push}
use Rattle.ir.specs.Steps.{value_at}
use Rattle.net_types.specs.declared.net.Place.{Place}
use Rattle.net_types.specs.declared.net.Chan.{Chan}
use Rattle.net_types.specs.declared.net.Net.{Net}
use Rattle.net_types.specs.declared.net.Unit.{Unit as Kind}
use Rattle.net_types.specs.declared.net.Unit.TheVariants.{Fork, Sink}
use Rattle.net_types.specs.declared.firing.Firing.{Firing}
use Rattle.net_types.specs.Nets.{at, out_of}
use Rattle.net_core.specs.Fire.{State, tokens_at as held}
use Rattle.net_core.specs.Runs.{Leads}
use Rattle.circuit_build.specs.declared.draft.Draft.{Draft}
use Rattle.circuit_build.specs.declared.draft.End.{End}
use Rattle.circuit_build.specs.declared.draft.Queue.{Queue}
use Rattle.circuit_build.specs.Drafts.{number, plus, next, end_of, spread, spread_end, uses_of_next, defined, after_place, used, copied, copy_of, buffered, control_forked, triggered, trigger_of}
use Rattle.circuit_build.proofs.Marks.{Aside, Wired}
use Rattle.circuit_build.proofs.MarkLemmas.{leads_on}
use Rattle.circuit_build.proofs.Stages.{NotIn, Outside, Stage, Reaches}
use Rattle.circuit_build.proofs.SpreadLemmas.{fresh, outside_more, spread_none, spread_front}
use Rattle.circuit_build.proofs.LaySections.{Extends, Within, Leaves, Used, AllUsed}
use Rattle.circuit_build.proofs.LayExtends.{extends_own, extends_long, within_less, same_more}
use Rattle.circuit_build.proofs.StageKinds.{Calm, sink_front, buffer_front, fork_front}
use Rattle.circuit_build.proofs.StageTokens.{Token, token, places, values, Swaps, same, keep, swap, follow, swaps_as, swaps_of, swaps_behind, swaps_before, to_first, block_first, swaps_long, used_kept, swapped, row, row_long, end_place, kept, more, kept_next, take_kept}

-- ---- what stands in the net

-- the draft stands in the net, the units of its block from low on, and all its units below m
pub record Stands (net : Net) (low m : ℕ) (d : Draft) : Type 0 where
  pub within : Within net d
  pub above : low ≤ next d
  pub below : next d ≤ m

-- the draft e has one unit more than d, and next
pub record NewUnit (net : Net) (low m : ℕ) (d e : Draft) (k : Kind) : Type 0 where
  pub is : slice_get net.units (next d) ≡ Some k
  pub after : next e ≡ suc (next d)
  pub above : low ≤ next d
  pub below : next d < m

get_end : (us : List Kind) (k : Kind) → slice_get (us ++ k ∷ []) (length us) ≡ Some k
get_end [] k = refl
get_end (u ∷ us) k = get_end us k

module _ {net : Net} {low m : ℕ} where
  pub new_unit : {d e : Draft} (k : Kind) → Stands net low m d → Stands net low m e → e.units ≡ d.units ++ k ∷ [] → NewUnit net low m d e k
  new_unit {d = d} {e = e} k sd se more =
      let l : length e.units ≡ length d.units + 1 = ap length more ∙ length-append d.units (k ∷ []) in
      let a = se.within.less in
      let b = se.within.few in
      let c : next d ≡ length d.units = omega (arith, l, a, b) in
      let x : next e ≡ suc (next d) = omega (arith, l, a, b) in
      let y = se.below in
      record {
        is = se.within.unit (next d) k (ap (slice_get e.units) c ∙ (ap (λ us. slice_get us (length d.units)) more ∙ get_end d.units k));
        after = x;
        above = sd.above;
        below = omega (arith, x, y);
      }

  pub stands_between : {d e f : Draft} → Extends d e → Extends e f → Stands net low m d → Stands net low m f → Stands net low m e
  stands_between {d = d} {e = e} {f = f} p q sd sf =
      let k = extends_long d e p in
      let l = extends_long e f q in
      let a = sd.above in
      let b = sf.below in
      record { within = within_less net e f q sf.within; above = omega (arith, k, a); below = omega (arith, l, b) }

  -- a draft with the same units and channels
  pub stands_as : {d : Draft} (e : Draft) → e.units ≡ d.units → e.chans ≡ d.chans → Stands net low m d → Stands net low m e
  stands_as {d = d} e u c sd =
      let x = same_more e e d (sym u) (sym c) (extends_own e) in
      let n : next e ≡ next d = ap (λ us. number (length us)) u in
      let a = sd.above in
      let b = sd.below in
      record { within = within_less net e d x sd.within; above = omega (arith, n, a); below = omega (arith, n, b) }

pub last_wire : {net : Net} {d : Draft} (cs : List Chan) (c : Chan) → Within net d → d.chans ≡ cs ++ c ∷ [] → Wired net c.from c.to
last_wire cs c w e = w.wire c (subst (λ ds. Contains ds c) (sym e) (Contains-push cs c))

pub second_wire : {net : Net} {d : Draft} (cs : List Chan) (c x : Chan) → Within net d → d.chans ≡ (cs ++ c ∷ []) ++ x ∷ [] → Wired net c.from c.to
second_wire cs c x w e = w.wire c (subst (λ ds. Contains ds c) (sym e) (Contains-append_left (cs ++ c ∷ []) (x ∷ []) c (Contains-push cs c)))

pub third_wire : {net : Net} {d : Draft} (cs : List Chan) (c x y : Chan) → Within net d → d.chans ≡ ((cs ++ c ∷ []) ++ x ∷ []) ++ y ∷ [] → Wired net c.from c.to
third_wire cs c x y w e =
    w.wire c (subst (λ ds. Contains ds c) (sym e) (Contains-append_left ((cs ++ c ∷ []) ++ x ∷ []) (y ∷ []) c (Contains-append_left (cs ++ c ∷ []) (x ∷ []) c (Contains-push cs c))))

-- ---- tokens at the ends

-- the control token, t triggers, so many tokens of each value, and others
abbrev pub tokens_at : Place → Place → List (Option End) → ℕ → ℕ → (ℕ → ℕ) → List ℕ → List Token → List Token
tokens_at c p es z t T vs rest = token c z ∷ (row p t z ++ (kept T es vs ++ rest))

abbrev pub open_tokens : Draft → ℕ → ℕ → (ℕ → ℕ) → List ℕ → List Token → List Token
open_tokens d z t T vs rest = tokens_at d.control d.trigger d.ends z t T vs rest

pub tokens_as : {c e p q : Place} {es fs : List (Option End)} (z t : ℕ) (T : ℕ → ℕ) (vs : List ℕ) (rest : List Token) → c ≡ e → p ≡ q → es ≡ fs → tokens_at c p es z t T vs rest ≡ tokens_at e q fs z t T vs rest
tokens_as {c = c} {q = q} {es = es} {fs = fs} z t T vs rest i j k =
    ap (λ x. tokens_at c x es z t T vs rest) j ∙ (ap (λ x. tokens_at c q x z t T vs rest) k ∙ ap (λ x. tokens_at x q fs z t T vs rest) i)

-- one of the others comes to the front
pub other_first : (c : Token) (R K rest : List Token) (x : Token) → Swaps (c ∷ (R ++ (K ++ x ∷ rest))) (x ∷ (c ∷ (R ++ (K ++ rest))))
other_first c R K rest x = follow (keep (follow (swaps_behind R (to_first K x rest)) (to_first R x (K ++ rest)))) swap

-- a draft that stands in the net, with these tokens and no other
pub record At (net : Net) (scalars : List ℕ) (low m : ℕ) (s : State) (a : Aside) (d : Draft) (ts : List Token) : Type 0 where
  pub stands : Stands net low m d
  pub calm : Calm net a
  pub stage : Stage net scalars s a 0 (next d) m (places ts) (values ts)
  pub used : AllUsed low d.queues (places ts)

-- firings lead there from c channels and b tokens: k and as many as the tokens that are more, and one at least where channels were laid
pub record Comes (net : Net) (scalars : List ℕ) (low m : ℕ) (s : State) (c b k : ℕ) (a : Aside) (d : Draft) (ts : List Token) : Type 0 where
  pub firings : List Firing
  pub to : State
  pub run : Leads net s firings to
  pub few : length firings + b ≤ k + length ts
  pub some : (1 ≤ length firings) ⊎ (length d.chans ≡ c)
  pub there : At net scalars low m to a d ts

later_stage : {net : Net} {scalars : List ℕ} {s : State} {a : Aside} (n k m : ℕ) (ts : List Token) → n ≤ k → Stage net scalars s a 0 n m (places ts) (values ts) → Stage net scalars s a 0 k m (places ts) (values ts)
later_stage n k m ts le st = record { shows = st.shows; apart = st.apart; outside = outside_more 0 n k m (places ts) le st.outside; same = st.same }

-- from no token at a place to one there firings lead
pub gains : {net : Net} {scalars : List ℕ} {s : State} {k : ℕ} {a b : Aside} {low n h m o : ℕ} {p : Place} {v : ℕ} {ps : List (Option Place)} {vs : List ℕ} (ts : List Token) → Stage net scalars s a low n m (places ts) (values ts) → NotIn p (places ts)
    → (r : Reaches net scalars s k b low h o (Some p ∷ ps) (v ∷ vs)) → 1 ≤ length r.firings
gains {net = net} {s = s} {p = p} {v = v} {ps = ps} {vs = vs} ts st out r = by r.firings r.run
  where
    by : (fs : List Firing) → Leads net s fs r.to → 1 ≤ length fs
    by [] e =
        let c = out_of p.unit p.place net.chans in
        let before : held s c ≡ [] = st.shows.sees p ∙ spread_none p (places ts) (values ts) out in
        let after : held r.to c ≡ v ∷ [] = r.stage.shows.sees p ∙ spread_front p v ps vs in
        let k : [] ≡ v ∷ [] = sym before ∙ (ap (λ t. held t c) e ∙ after) in absurd (cc)
    by (f ∷ fs) e = omega arith

-- and from one to none
pub loses : {net : Net} {scalars : List ℕ} {s : State} {k : ℕ} {a b : Aside} {low n h m o : ℕ} {p : Place} {v : ℕ} {ps : List (Option Place)} {vs : List ℕ} (us : List Token) → Stage net scalars s a low n m (Some p ∷ ps) (v ∷ vs) → NotIn p (places us)
    → (r : Reaches net scalars s k b low h o (places us) (values us)) → 1 ≤ length r.firings
loses {net = net} {s = s} {p = p} {v = v} {ps = ps} {vs = vs} us st out r = by r.firings r.run
  where
    by : (fs : List Firing) → Leads net s fs r.to → 1 ≤ length fs
    by [] e =
        let c = out_of p.unit p.place net.chans in
        let before : held s c ≡ v ∷ [] = st.shows.sees p ∙ spread_front p v ps vs in
        let after : held r.to c ≡ [] = r.stage.shows.sees p ∙ spread_none p (places us) (values us) out in
        let k : v ∷ [] ≡ [] = sym before ∙ (ap (λ t. held t c) e ∙ after) in absurd (cc)
    by (f ∷ fs) e = omega arith

-- places of a unit from low on
row_used : (low : ℕ) (qs : List (Option Queue)) (p : Place) (k v : ℕ) (ts : List Token) → low ≤ p.unit → AllUsed low qs (places ts) → AllUsed low qs (places (row p k v ++ ts))
row_used low qs p zero v ts l h = h
row_used low qs p (suc k) v ts l h = (inl l, row_used low qs (after_place p) k v ts l h)

module _ {net : Net} {scalars : List ℕ} {low m : ℕ} where
  pub at_swapped : {s : State} {a : Aside} {d : Draft} {ts us : List Token} → Swaps ts us → At net scalars low m s a d ts → At net scalars low m s a d us
  at_swapped {d = d} x h = record { stands = h.stands; calm = h.calm; stage = swapped x h.stage; used = used_kept x low d.queues h.used }

  -- a draft with more units, which have no tokens
  pub at_later : {s : State} {a : Aside} {d : Draft} {ts : List Token} (e : Draft) → Stands net low m e → next d ≤ next e → e.queues ≡ d.queues → At net scalars low m s a d ts → At net scalars low m s a e ts
  at_later {d = d} {ts = ts} e se le q h = record {
    stands = se;
    calm = h.calm;
    stage = later_stage (next d) (next e) m ts le h.stage;
    used = subst (λ qs. AllUsed low qs (places ts)) (sym q) h.used;
  }

  -- one with the same units and channels
  pub at_as : {s : State} {a : Aside} {d : Draft} {ts : List Token} (e : Draft) → e.units ≡ d.units → e.chans ≡ d.chans → e.queues ≡ d.queues → At net scalars low m s a d ts → At net scalars low m s a e ts
  at_as {d = d} e u c q h =
      let n : next e ≡ next d = ap (λ us. number (length us)) u in
      at_later e (stands_as {d = d} e u c h.stands) (omega (arith, n)) q h

  pub comes_here : {s : State} {a : Aside} {d : Draft} {ts : List Token} → At net scalars low m s a d ts → Comes net scalars low m s (length d.chans) (length ts) 0 a d ts
  comes_here {s = s} h = record { firings = []; to = s; run = refl; few = omega arith; some = inr refl; there = h }

  pub comes_then : {s : State} {c b k l : ℕ} {a f : Aside} {d e : Draft} {ts us : List Token} → (x : Comes net scalars low m s c b k a d ts) → Comes net scalars low m x.to (length d.chans) (length ts) l f e us → Comes net scalars low m s c b (k + l) f e us
  comes_then {s = s} x y = record {
    firings = x.firings ++ y.firings;
    to = y.to;
    run = leads_on net s x.firings y.firings x.to y.to x.run y.run;
    few = (let i = x.few in let j = y.few in let l = length-append x.firings y.firings in omega (arith, i, j, l));
    some = (let l = length-append x.firings y.firings in ⊎_elim (λ i. inl (omega (arith, i, l))) (λ i. ⊎_elim (λ j. inl (omega (arith, j, l))) (λ j. inr (j ∙ i)) y.some) x.some);
    there = y.there;
  }

  pub comes_swapped : {s : State} {c b k : ℕ} {a : Aside} {d : Draft} {ts us : List Token} → Swaps ts us → Comes net scalars low m s c b k a d ts → Comes net scalars low m s c b k a d us
  comes_swapped x h = record { firings = h.firings; to = h.to; run = h.run; few = (let f = h.few in let l = swaps_long x in omega (arith, f, l)); some = h.some; there = at_swapped x h.there }

  pub comes_within : {s : State} {c b e k l : ℕ} {a : Aside} {d : Draft} {ts : List Token} → e + k ≤ l + b → Comes net scalars low m s c b k a d ts → Comes net scalars low m s c e l a d ts
  comes_within le h = record { firings = h.firings; to = h.to; run = h.run; few = (let f = h.few in omega (arith, f, le)); some = h.some; there = h.there }

  -- from the same tokens in another order
  pub comes_from : {s : State} {c k : ℕ} {a : Aside} {d : Draft} (us ts : List Token) {vs : List Token} → Swaps us ts → Comes net scalars low m s c (length ts) k a d vs → Comes net scalars low m s c (length us) k a d vs
  comes_from us ts x h = comes_within (let l = swaps_long x in omega (arith, l)) h

  pub comes_as : {s : State} {c b k : ℕ} {a : Aside} {d : Draft} {ts : List Token} (e : Draft) → e.units ≡ d.units → e.chans ≡ d.chans → e.queues ≡ d.queues → Comes net scalars low m s c b k a d ts → Comes net scalars low m s c b k a e ts
  comes_as e u w q h = record { firings = h.firings; to = h.to; run = h.run; few = h.few; some = ⊎_elim (λ i. inl i) (λ i. inr (ap length w ∙ i)) h.some; there = at_as e u w q h.there }

  -- some firings, after which the tokens are these
  pub comes_of : {s : State} {j : ℕ} {a : Aside} (c b k n : ℕ) (e : Draft) (us : List Token) → Stands net low m e → Calm net a → AllUsed low e.queues (places us) → next e ≡ n → (r : Reaches net scalars s j a 0 n m (places us) (values us))
      → j + b ≤ k + length us → 1 ≤ length r.firings → Comes net scalars low m s c b k a e us
  comes_of {s = s} {j = j} {a = a} c b k n e us se calm us_used is r le some = record {
    firings = r.firings;
    to = r.to;
    run = r.run;
    few = (let f = r.few in omega (arith, f, le));
    some = inl some;
    there = record { stands = se; calm = calm; stage = subst (λ i. Stage net scalars r.to a 0 i m (places us) (values us)) (sym is) r.stage; used = us_used };
  }

-- ---- a value that is defined

-- what spreading a value keeps
pub record Quiet (d e : Draft) : Type 0 where
  pub control : e.control ≡ d.control
  pub trigger : e.trigger ≡ d.trigger
  pub ends : e.ends ≡ d.ends
  pub queues : e.queues ≡ d.queues
  pub uses : e.uses ≡ d.uses
  pub heads : e.heads ≡ d.heads

pub spread_quiet : (x : End) (n : ℕ) (d : Draft) → Quiet d (spread x n d)
spread_quiet x zero d = record { control = refl; trigger = refl; ends = refl; queues = refl; uses = refl; heads = refl }
spread_quiet x (suc zero) d = record { control = refl; trigger = refl; ends = refl; queues = refl; uses = refl; heads = refl }
spread_quiet x (suc (suc n)) d = record { control = refl; trigger = refl; ends = refl; queues = refl; uses = refl; heads = refl }

pub spread_more : (x : End) (n : ℕ) (d : Draft) → Extends d (spread x n d)
spread_more x zero d = record { more_units = Sink x.width ∷ []; more_chans = record { from = x.place; to = at (next d) 0; width = x.width; slots = 1; delay = 1; ctl = false } ∷ []; units = refl; chans = refl }
spread_more x (suc zero) d = extends_own d
spread_more x (suc (suc n)) d = record { more_units = Fork x.width (suc (suc n)) ∷ []; more_chans = record { from = x.place; to = at (next d) 0; width = x.width; slots = 1; delay = 1; ctl = false } ∷ []; units = refl; chans = refl }

pub defined_more : (p : Place) (w : ℕ) (d : Draft) → Extends d (defined p w d)
defined_more p w d = let x : End = record { place = p; width = w } in let s = spread_more x (uses_of_next d) d in record { more_units = s.more_units; more_chans = s.more_chans; units = s.units; chans = s.chans }

pub defined_ends : (p : Place) (w : ℕ) (d : Draft) → (defined p w d).ends ≡ d.ends ++ spread_end (record { place = p; width = w }) (uses_of_next d) d ∷ []
defined_ends p w d = ap (λ es. es ++ spread_end (record { place = p; width = w }) (uses_of_next d) d ∷ []) (spread_quiet (record { place = p; width = w }) (uses_of_next d) d).ends

pub insert_swaps : (c : Token) (R K W rest : List Token) → Swaps (W ++ (c ∷ (R ++ (K ++ rest)))) (c ∷ (R ++ ((K ++ W) ++ rest)))
insert_swaps c R K W rest =
    let A = c ∷ (R ++ K) in
    let before : c ∷ (R ++ (K ++ rest)) ≡ A ++ rest = ap (λ l. c ∷ l) (sym (append_assoc R K rest)) in
    let after : A ++ (W ++ rest) ≡ c ∷ (R ++ ((K ++ W) ++ rest)) = ap (λ l. c ∷ l) (append_assoc R K (W ++ rest) ∙ ap (λ l. R ++ l) (sym (append_assoc K W rest))) in
    swaps_as after (follow (swaps_of (ap (λ l. W ++ l) before)) (block_first W A rest))

module _ {net : Net} {scalars : List ℕ} {low m : ℕ} (leaves : Leaves net) where
  -- the token in front goes to so many places
  pub spread_comes : (x : End) (n v : ℕ) {s : State} {a : Aside} {d : Draft} {ts : List Token} → At net scalars low m s a d (token x.place v ∷ ts) → Stands net low m (spread x n d) → n < 2 ^ 32
      → Comes net scalars low m s (length d.chans) (suc (length ts)) 2 a (spread x n d) (row (end_place (spread_end x n d)) n v ++ ts)
  spread_comes x zero v {d = d} {ts = ts} h se few =
      let n = new_unit (Sink x.width) h.stands se refl in
      let w = last_wire {d = spread x zero d} d.chans (record { from = x.place; to = at (next d) 0; width = x.width; slots = 1; delay = 1; ctl = false }) se.within refl in
      let z : 0 ≤ next d = omega arith in
      let r = sink_front leaves z n.below h.stage x.width n.is w in
      comes_of (length d.chans) (suc (length ts)) 2 (suc (next d)) (spread x zero d) ts se h.calm h.used.1 n.after r (omega arith) (loses ts h.stage h.stage.apart.0 r)
  spread_comes x (suc zero) v {d = d} {ts = ts} h se few = comes_within (omega arith) (comes_here h)
  spread_comes x (suc (suc k)) v {d = d} {ts = ts} h se few =
      let n = new_unit (Fork x.width (suc (suc k))) h.stands se refl in
      let w = last_wire {d = spread x (suc (suc k)) d} d.chans (record { from = x.place; to = at (next d) 0; width = x.width; slots = 1; delay = 1; ctl = false }) se.within refl in
      let z : 0 ≤ next d = omega arith in
      let us = row (at (next d) 0) (suc (suc k)) v ++ ts in
      let l = length-append (row (at (next d) 0) (suc (suc k)) v) ts in
      let r = row_long (at (next d) 0) (suc (suc k)) v in
      let go = fork_front leaves z n.below ts h.stage x.width (suc k) few h.calm n.is w in
      comes_of (length d.chans) (suc (length ts)) 2 (suc (next d)) (spread x (suc (suc k)) d) us se h.calm (row_used low d.queues (at (next d) 0) (suc (suc k)) v ts n.above h.used.1) n.after
      go (omega (arith, l, r)) (gains (token x.place v ∷ ts) h.stage (fresh 0 (next d) m 0 (places (token x.place v ∷ ts)) n.below h.stage.outside) go)

  pub spread_later : (x : End) (n : ℕ) {s : State} {a : Aside} {d : Draft} {ts : List Token} → At net scalars low m s a d ts → Stands net low m (spread x n d) → At net scalars low m s a (spread x n d) ts
  spread_later x n {d = d} h se =
      let l = extends_long d (spread x n d) (spread_more x n d) in
      at_later (spread x n d) se (omega (arith, l)) (spread_quiet x n d).queues h

  -- the next value, whose token is in front
  pub defined_comes : (p : Place) (w y z t : ℕ) (T : ℕ → ℕ) (vs : List ℕ) (rest : List Token) {s : State} {a : Aside} {d : Draft} → At net scalars low m s a d (token p y ∷ open_tokens d z t T vs rest)
      → T (length d.ends) ≡ uses_of_next d → uses_of_next d < 2 ^ 32 → length d.ends ≡ length vs → Stands net low m (defined p w d)
      → Comes net scalars low m s (length d.chans) (suc (length (open_tokens d z t T vs rest))) 2 a (defined p w d) (open_tokens (defined p w d) z t T (vs ++ y ∷ []) rest)
  defined_comes p w y z t T vs rest {d = d} h left few many se =
      let x : End = record { place = p; width = w } in
      let n = uses_of_next d in
      let f = spread x n d in
      let r = defined p w d in
      let q = spread_quiet x n d in
      let sf = stands_as {d = r} f refl refl se in
      let e = spread_end x n d in
      let one = comes_as r refl refl refl (spread_comes x n y h sf few) in
      let next_kept : kept T d.ends vs ++ row (end_place e) n y ≡ kept T (d.ends ++ e ∷ []) (vs ++ y ∷ []) = ap (λ k. kept T d.ends vs ++ row (end_place e) k y) (sym left) ∙ sym (kept_next T d.ends e vs y many) in
      let listed : token d.control z ∷ (row d.trigger t z ++ ((kept T d.ends vs ++ row (end_place e) n y) ++ rest)) ≡ open_tokens r z t T (vs ++ y ∷ []) rest =
      ap (λ l. token d.control z ∷ (row d.trigger t z ++ (l ++ rest))) next_kept ∙ tokens_as z t T (vs ++ y ∷ []) rest (sym q.control) (sym q.trigger) (sym (ap (λ es. es ++ e ∷ []) q.ends)) in
      comes_swapped (swaps_as listed (insert_swaps (token d.control z) (row d.trigger t z) (kept T d.ends vs) (row (end_place e) n y) rest)) one

-- ---- uses

pub copied_swaps : (v z t : ℕ) (T : ℕ → ℕ) (vs : List ℕ) (rest fs : List Token) (d : Draft) → v < length d.ends → length d.ends ≡ length vs
    → Swaps (fs ++ open_tokens d z t (more v T) vs rest) (token (copy_of v d).place (value_at vs v) ∷ (fs ++ open_tokens (copied v d) z t T vs rest))
copied_swaps v z t T vs rest fs d lt many =
    let x = token (copy_of v d).place (value_at vs v) in
    let K = kept T (copied v d).ends vs in
    let R = row d.trigger t z in
    let one : Swaps (kept (more v T) d.ends vs ++ rest) (x ∷ (K ++ rest)) = swaps_before rest (take_kept v T d.ends vs lt many) in
    let two : Swaps (open_tokens d z t (more v T) vs rest) (x ∷ open_tokens (copied v d) z t T vs rest) = follow (keep (follow (swaps_behind R one) (to_first R x (K ++ rest)))) swap in
    follow (swaps_behind fs two) (to_first fs x (open_tokens (copied v d) z t T vs rest))

pub used_many : (v : ℕ) (d : Draft) → length (copied v d).ends ≡ length d.ends
used_many v d = length-set d.ends v (Some (record { place = after_place (end_of d.ends v).place; width = (end_of d.ends v).width }))

module _ {net : Net} {scalars : List ℕ} {low m : ℕ} where
  -- a use of a value: its token is in front
  pub copied_at : (v z t : ℕ) (T : ℕ → ℕ) (vs : List ℕ) (rest fs : List Token) {s : State} {a : Aside} {d : Draft} → At net scalars low m s a d (fs ++ open_tokens d z t (more v T) vs rest) → v < length d.ends → length d.ends ≡ length vs
      → At net scalars low m s a (copied v d) (token (copy_of v d).place (value_at vs v) ∷ (fs ++ open_tokens (copied v d) z t T vs rest))
  copied_at v z t T vs rest fs {d = d} h lt many = at_as (copied v d) refl refl refl (at_swapped (copied_swaps v z t T vs rest fs d lt many) h)

  -- a trigger: it is in front
  pub triggered_at : (z t : ℕ) (T : ℕ → ℕ) (vs : List ℕ) (rest : List Token) {s : State} {a : Aside} {d : Draft} → At net scalars low m s a d (open_tokens d z (suc t) T vs rest)
      → At net scalars low m s a (triggered d) (token d.trigger z ∷ open_tokens (triggered d) z t T vs rest)
  triggered_at z t T vs rest {d = d} h = at_as (triggered d) refl refl refl (at_swapped swap h)

module _ {net : Net} {scalars : List ℕ} {low m : ℕ} (leaves : Leaves net) where
  -- the control token passes a buffer
  pub buffered_comes : {s : State} {a : Aside} {d : Draft} {z : ℕ} {ts : List Token} → At net scalars low m s a d (token d.control z ∷ ts) → Stands net low m (buffered d)
      → Comes net scalars low m s (length d.chans) (suc (length ts)) 1 a (buffered d) (token (at (next d) 0) z ∷ ts)
  buffered_comes {d = d} {z = z} {ts = ts} h se =
      let n = new_unit (Fork 32 1) h.stands se refl in
      let w = last_wire {d = buffered d} d.chans (record { from = d.control; to = at (next d) 0; width = 32; slots = 1; delay = 1; ctl = true }) se.within refl in
      let le : 0 ≤ next d = omega arith in
      let go = buffer_front leaves le n.below h.stage 32 h.calm n.is w in
      comes_of (length d.chans) (suc (length ts)) 1 (suc (next d)) (buffered d) (token (at (next d) 0) z ∷ ts) se h.calm (inl n.above, h.used.1) n.after go (omega arith)
      (gains (token d.control z ∷ ts) h.stage (fresh 0 (next d) m 0 (places (token d.control z ∷ ts)) n.below h.stage.outside) go)

  -- the control token goes on with t triggers
  pub control_forked_comes : (t z : ℕ) (T : ℕ → ℕ) (vs : List ℕ) (rest : List Token) {s : State} {a : Aside} {d : Draft} → At net scalars low m s a d (open_tokens d z 0 T vs rest) → t + 2 < 2 ^ 32 → Stands net low m (control_forked t d)
      → Comes net scalars low m s (length d.chans) (length (open_tokens d z 0 T vs rest)) 1 a (control_forked t d) (open_tokens (control_forked t d) z t T vs rest)
  control_forked_comes zero z T vs rest h few se = comes_within (omega arith) (comes_here h)
  control_forked_comes (suc t) z T vs rest {d = d} h few se =
      let e = control_forked (suc t) d in
      let ts = kept T d.ends vs ++ rest in
      let n = new_unit (Fork 32 (plus (suc t) 1)) h.stands se refl in
      let many : plus (suc t) 1 ≡ suc (suc t) = omega (arith, few) in
      let is : slice_get net.units (next d) ≡ Some (Fork 32 (suc (suc t))) = n.is ∙ ap (λ k. Some (Fork 32 k)) many in
      let w = last_wire {d = e} d.chans (record { from = d.control; to = at (next d) 0; width = 32; slots = 1; delay = 1; ctl = true }) se.within refl in
      let le : 0 ≤ next d = omega arith in
      let us = row (at (next d) 0) (suc (suc t)) z ++ ts in
      let l = length-append (row (at (next d) 0) (suc (suc t)) z) ts in
      let r = row_long (at (next d) 0) (suc (suc t)) z in
      let go = fork_front leaves le n.below ts h.stage 32 (suc t) (omega (arith, few)) h.calm is w in
      comes_of (length d.chans) (length (open_tokens d z 0 T vs rest)) 1 (suc (next d)) e us se h.calm (row_used low d.queues (at (next d) 0) (suc (suc t)) z ts n.above h.used.1) n.after
      go (omega (arith, l, r)) (gains (token d.control z ∷ ts) h.stage (fresh 0 (next d) m 0 (places (token d.control z ∷ ts)) n.below h.stage.outside) go)
