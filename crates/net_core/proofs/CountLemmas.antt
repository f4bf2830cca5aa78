-- A firing of a unit that is no fork does not raise the count of control tokens.
use Rattle.std.proofs.Common.{◌≡◌, ◌≢◌, ℕ, suc, zero, ◌+◌, ◌-◌, ◌<◌, ◌≤◌, ◌⊎◌, ◌||◌, ◌==◌, Bool, true, false, cond, Option, Some, None, List, [], ◌∷◌, length, map, get_or, set, refl, sym, ap, ◌∙◌, inl, inr, arith, eq-eqb, ne_eqb, length-append, get_or-set_other, get_or-set_same}
use Rattle.std.proofs.lemmas.List.{get_or_past}
use Rattle.std.proofs.lemmas.Bool.{cases_eq, cases_lt}
use Rattle.net_types.specs.declared.net.Chan.{Chan}
use Rattle.net_types.specs.declared.net.Unit.{Unit as Kind}
use Rattle.net_types.specs.declared.net.Unit.TheVariants.{Fork, Sink}
use Rattle.net_types.specs.declared.net.Net.{Net}
use Rattle.net_types.specs.Nets.{into, out_of, nowhere, chan_at, kind_of}
use Rattle.net_check.specs.Controls.{ctl_in, ctl_out}
use Rattle.net_core.specs.Fire.{Effect, among, taken, added, Put, State, Own, idle, tokens_at, head_at, takes_from, puts_on, moved, applied}
use Rattle.net_core.specs.Control.{total, early, held, to_come, coming, control_tokens}
use Rattle.net_core.proofs.RowLemmas.{Has, Each, get-changed}
use Rattle.net_core.proofs.ApartLemmas.{among_some, into-at, is_at-inv, full}
use Rattle.net_core.proofs.AccountLemmas.{Account, is_fork}
use Rattle.net_core.proofs.TotalLemmas.{total_step, total_mark, total_mark_le, total_zero, total_le}

-- one channel
abbrev pub count : Option ℕ → ℕ
count None = 0
count (Some v) = 1

abbrev pub one_if : Bool → ℕ
one_if b = cond b 1 0

pub length_moved : (g : Bool) (a : Option ℕ) (xs : List ℕ) → (g ≡ true → xs ≢ []) → length (added a (taken g xs)) + one_if g ≡ length xs + count a
length_moved true None [] n = absurd (n refl refl)
length_moved true (Some v) [] n = absurd (n refl refl)
length_moved true None (x ∷ xs) n = omega arith
length_moved true (Some v) (x ∷ xs) n = let e = length-append xs (v ∷ []) in omega arith
length_moved false None xs n = omega arith
length_moved false (Some v) xs n = let e = length-append xs (v ∷ []) in omega arith

among_map : (f : ℕ → ℕ) (p : ℕ) (ps : List ℕ) → among p ps ≡ true → among (f p) (map f ps) ≡ true
among_map f p [] e = cc
among_map f p (q ∷ ps) e = by (cases_eq p q) e (λ x. among_map f p ps x)
  where
    by : (p ≡ q) ⊎ (p ≡ q → ⊥) → ((p == q) || among p ps) ≡ true → (among p ps ≡ true → among (f p) (map f ps) ≡ true) → ((f p == f q) || among (f p) (map f ps)) ≡ true
    by (inl a) e r = let x : (f p == f q) ≡ true = eq-eqb (f p) (f q) (ap f a) in rw x refl
    by (inr a) e r =
        let x : (p == q) ≡ false = ne_eqb p q a in
        let y : among p ps ≡ true = rw x at e in
        let z : among (f p) (map f ps) ≡ true = r y in or_right (f p == f q) (among (f p) (map f ps)) z
      where
        or_right : (a b : Bool) → b ≡ true → (a || b) ≡ true
        or_right true b e = refl
        or_right false b e = e

pub early_none : (k : Kind) (o : Own) → is_fork k ≡ false → early k o ≡ 0
early_none (Fork wd outs) o f = cc
early_none _ o f = refl

abbrev pub got : Net → ℕ → Effect → ℕ → ℕ
got net u e c = cond (chan_at net c).ctl (count (puts_on net u e.put c)) 0

abbrev pub paid : Net → ℕ → Option ℕ → ℕ → ℕ
paid net u None c = 0
paid net u (Some p) c = cond (c == into u p net.chans) 1 0

-- the paid place is taken from, and its channel is a control channel
abbrev pub Fair : Net → ℕ → Effect → Option ℕ → Type 0
Fair net u e None = Unit {0}
Fair net u e (Some p) = (among p e.takes ≡ true) × (ctl_in net u p ≡ true)

arith_step : (l l' g a e pd : ℕ) → l' + g ≡ l + a → pd ≤ g → g ≤ l → (1 ≤ g → e ≡ 0) → (l' - e) + pd ≤ (l - e) + a
arith_step l l' zero a e pd h p n z = omega arith
arith_step l l' (suc g) a e pd h p n z = let k : e ≡ 0 = z (omega arith) in omega arith

paid_le : (net : Net) (u : ℕ) (e : Effect) (t : Option ℕ) (c : ℕ) → Fair net u e t → paid net u t c ≤ one_if (takes_from net u e c)
paid_le net u e None c f = omega arith
paid_le net u e (Some p) c f = by (cases_eq c (into u p net.chans))
  where
    by : (c ≡ into u p net.chans) ⊎ (c ≡ into u p net.chans → ⊥) → cond (c == into u p net.chans) 1 0 ≤ one_if (takes_from net u e c)
    by (inl a) =
        let x : takes_from net u e (into u p net.chans) ≡ true = among_map (λ q. into u q net.chans) p e.takes f.0 in
        let y : takes_from net u e c ≡ true = rw a x in
        let z : (c == into u p net.chans) ≡ true = eq-eqb c _ a in rw (y, z) (omega arith)
    by (inr a) = let z : (c == into u p net.chans) ≡ false = ne_eqb c _ a in rw z (omega arith)

paid_ctl : (net : Net) (u : ℕ) (e : Effect) (t : Option ℕ) (c : ℕ) → Fair net u e t → (chan_at net c).ctl ≡ false → paid net u t c ≡ 0
paid_ctl net u e None c f n = refl
paid_ctl net u e (Some p) c f n = by (cases_eq c (into u p net.chans))
  where
    by : (c ≡ into u p net.chans) ⊎ (c ≡ into u p net.chans → ⊥) → ◌≡◌ {A = ℕ} (cond (c == into u p net.chans) 1 0) 0
    by (inl a) = let x : (chan_at net c).ctl ≡ true = rw a f.1 in cc
    by (inr a) = let z : (c == into u p net.chans) ≡ false = ne_eqb c _ a in rw z refl

-- a channel that a unit takes from goes to that unit
pub goes_to : (net : Net) (s : State) (u c : ℕ) (e : Effect) → c < length net.chans → Each (Has (head_at net s u)) e.takes → takes_from net u e c ≡ true → (chan_at net c).to.unit ≡ u
goes_to net s u c e l h g =
    let a = among_some (Has (head_at net s u)) c (λ p. into u p net.chans) e.takes g h in
    let m : into u a.0 net.chans < length net.chans = omega (arith, a.1) in
    let b = is_at-inv (chan_at net (into u a.0 net.chans)).to u a.0 (into-at u a.0 net.chans m) in
    let i : c ≡ into u a.0 net.chans = a.1 in rw i b.0

-- where the early heads stay as they were
pub channel_step : (net : Net) (s : State) (u : ℕ) (e : Effect) (t : Option ℕ) (c : ℕ) → length s.tokens ≡ length net.chans → c < length net.chans
    → Each (Has (head_at net s u)) e.takes → Fair net u e t
    → (let v = (chan_at net c).to.unit in early (kind_of net v) (get_or (set s.own u e.own) v idle) ≡ early (kind_of net v) (get_or s.own v idle))
    → (takes_from net u e c ≡ true → (let v = (chan_at net c).to.unit in early (kind_of net v) (get_or s.own v idle) ≡ 0))
    → held net (applied net u e s) c + paid net u t c ≤ held net s c + got net u e c
channel_step net s u e t c long l heads fair kept zero_if = by (chan_at net c).ctl refl
  where
    by : (b : Bool) → (chan_at net c).ctl ≡ b → held net (applied net u e s) c + paid net u t c ≤ held net s c + got net u e c
    by false n = let p = paid_ctl net u e t c fair n in rw n (omega arith)
    by true n =
        let at : tokens_at (applied net u e s) c ≡ moved net u e c (tokens_at s c) = get-changed (moved net u e) 0 s.tokens c c (omega arith) (omega arith) in
        let m = length_moved (takes_from net u e c) (puts_on net u e.put c) (tokens_at s c) (full net s u c c e.takes refl heads) in
        let p = paid_le net u e t c fair in
        rw (n, at, kept) (arith_step (length (tokens_at s c)) (length (moved net u e c (tokens_at s c))) (one_if (takes_from net u e c)) (count (puts_on net u e.put c)) _ (paid net u t c)
        m p (some (takes_from net u e c) (tokens_at s c) (full net s u c c e.takes refl heads)) (λ o. zero_if (was (takes_from net u e c) o)))
      where
        some : (g : Bool) (xs : List ℕ) → (g ≡ true → xs ≢ []) → one_if g ≤ length xs
        some true [] h = absurd (h refl refl)
        some true (x ∷ xs) h = omega arith
        some false xs h = omega arith

        was : (g : Bool) → 1 ≤ one_if g → g ≡ true
        was true h = refl
        was false h = absurd (omega arith)

pub early_other : (net : Net) (s : State) (u : ℕ) (e : Effect) (v : ℕ) → v ≢ u → early (kind_of net v) (get_or (set s.own u e.own) v idle) ≡ early (kind_of net v) (get_or s.own v idle)
early_other net s u e v ne = ap (early (kind_of net v)) (get_or-set_other s.own u v e.own idle ne)

-- a unit that is no fork
pub plain_step : (net : Net) (s : State) (u : ℕ) (e : Effect) (t : Option ℕ) (c : ℕ) → is_fork (kind_of net u) ≡ false → length s.tokens ≡ length net.chans → c < length net.chans
    → Each (Has (head_at net s u)) e.takes → Fair net u e t
    → held net (applied net u e s) c + paid net u t c ≤ held net s c + got net u e c
plain_step net s u e t c nf long l heads fair =
    channel_step net s u e t c long l heads fair
    (kept (cases_eq (chan_at net c).to.unit u))
    (λ g. let a = goes_to net s u c e l heads g in
    early_none (kind_of net (chan_at net c).to.unit) (get_or s.own (chan_at net c).to.unit idle) (rw a nf))
  where
    kept : ((chan_at net c).to.unit ≡ u) ⊎ ((chan_at net c).to.unit ≡ u → ⊥)
        → (let v = (chan_at net c).to.unit in early (kind_of net v) (get_or (set s.own u e.own) v idle) ≡ early (kind_of net v) (get_or s.own v idle))
    kept (inl a) =
        let v = (chan_at net c).to.unit in
        let f : is_fork (kind_of net v) ≡ false = rw a nf in
        early_none (kind_of net v) (get_or (set s.own u e.own) v idle) f ∙ sym (early_none (kind_of net v) (get_or s.own v idle) f)
    kept (inr n) = early_other net s u e (chan_at net c).to.unit n

-- all channels together: what was put on a control channel against what was paid
pub channels_total : (net : Net) (s : State) (u : ℕ) (e : Effect) (t : Option ℕ)
    → ((c : ℕ) → c < length net.chans → held net (applied net u e s) c + paid net u t c ≤ held net s c + got net u e c)
    → total (held net (applied net u e s)) (length net.chans) + total (paid net u t) (length net.chans)
    ≤ total (held net s) (length net.chans) + total (got net u e) (length net.chans)
channels_total net s u e t h = total_step (held net s) (held net (applied net u e s)) (paid net u t) (got net u e) (length net.chans) h

pub got_none : (net : Net) (u : ℕ) (e : Effect) → ((w : Put) → e.put ≡ Some w → ctl_out net u w.place ≡ false) → (c : ℕ) → got net u e c ≡ 0
got_none net u e q c = by (chan_at net c).ctl refl e.put refl
  where
    by : (b : Bool) → (chan_at net c).ctl ≡ b → (o : Option Put) → e.put ≡ o → cond b (count (puts_on net u o c)) 0 ≡ 0
    by false n o i = refl
    by true n None i = refl
    by true n (Some w) i = at (cases_eq c (out_of u w.place net.chans))
      where
        at : (c ≡ out_of u w.place net.chans) ⊎ (c ≡ out_of u w.place net.chans → ⊥) → count (cond (c == out_of u w.place net.chans) (Some w.value) None) ≡ 0
        at (inl a) = let x : (chan_at net c).ctl ≡ false = rw a (q w i) in cc
        at (inr a) = let x : (c == out_of u w.place net.chans) ≡ false = ne_eqb c _ a in rw x refl

pub got_mark : (net : Net) (u : ℕ) (e : Effect) (o : Option Put) → e.put ≡ o → total (got net u e) (length net.chans) ≤ 1
got_mark net u e None i =
    let a = total_le (λ c. 0) (got net u e) (length net.chans) (λ c. (let z = got_none net u e (λ w k. (let m : None ≡ Some w = sym i ∙ k in cc)) c in omega arith)) in
    let z = total_zero (length net.chans) in omega arith
got_mark net u e (Some w) i =
    let k = out_of u w.place net.chans in
    let a = total_le (λ c. cond (c == k) 1 0) (got net u e) (length net.chans) (λ c. at c (chan_at net c).ctl (cases_eq c k)) in
    let z = total_mark_le k 1 (length net.chans) in omega arith
  where
    at : (c : ℕ) (b : Bool) → (c ≡ out_of u w.place net.chans) ⊎ (c ≡ out_of u w.place net.chans → ⊥) → cond b (count (puts_on net u e.put c)) 0 ≤ cond (c == out_of u w.place net.chans) 1 0
    at c false p = omega arith
    at c true (inl a) = let x : (c == out_of u w.place net.chans) ≡ true = eq-eqb c _ a in rw (i, x) (omega arith)
    at c true (inr a) = let x : (c == out_of u w.place net.chans) ≡ false = ne_eqb c _ a in rw (i, x) (omega arith)

-- the entries
pub coming_step : (net : Net) (s : State) (u x : ℕ) (e : Effect) → length s.own ≡ length net.units → x ≤ 1
    → x + to_come (kind_of net u) e.own ≤ to_come (kind_of net u) (get_or s.own u idle)
    → total (coming net (applied net u e s)) (length net.units) + x ≤ total (coming net s) (length net.units)
coming_step net s u x e long small h = by (cases_lt u (length net.units))
  where
    n : ℕ
    n = length net.units

    each : (c : ℕ) → c < length net.units → (c ≡ u) ⊎ (c ≡ u → ⊥) → to_come (kind_of net c) (get_or (set s.own u e.own) c idle) + cond (c == u) x 0 ≤ coming net s c + 0
    each c l (inl a) =
        let k : (c == u) ≡ true = eq-eqb c u a in
        let lu : u < length s.own = omega arith in
        let o : get_or (set s.own u e.own) u idle ≡ e.own = get_or-set_same s.own u e.own idle lu in
        rw (k, a, o) (omega arith)
    each c l (inr a) =
        let k : (c == u) ≡ false = ne_eqb c u a in
        let o : get_or (set s.own u e.own) c idle ≡ get_or s.own c idle = get_or-set_other s.own u c e.own idle a in
        rw (k, o) (omega arith)

    by : (u < length net.units) ⊎ (length net.units ≤ u) → total (coming net (applied net u e s)) (length net.units) + x ≤ total (coming net s) (length net.units)
    by (inl l) =
        let a = total_step (coming net s) (coming net (applied net u e s)) (λ c. cond (c == u) x 0) (λ c. 0) (length net.units) (λ c m. each c m (cases_eq c u)) in
        let b = total_mark u x (length net.units) l in
        let z = total_zero (length net.units) in omega arith
    by (inr l) =
        let k : kind_of net u ≡ Sink 0 = get_or_past net.units u (Sink 0) l in
        let h' : x + 0 ≤ 0 = rw k at h in
        let a = total_step (coming net s) (coming net (applied net u e s)) (λ c. 0) (λ c. 0) (length net.units)
        (λ c m. let o : get_or (set s.own u e.own) c idle ≡ get_or s.own c idle = get_or-set_other s.own u c e.own idle (λ i. (omega arith)) in rw o (omega arith)) in
        omega arith

pub total_paid : (net : Net) (u p : ℕ) → into u p net.chans < length net.chans → total (paid net u (Some p)) (length net.chans) ≡ 1
total_paid net u p l = total_mark (into u p net.chans) 1 (length net.chans) l

pub ctl_within : (cs : List Chan) (c : ℕ) → (get_or cs c nowhere).ctl ≡ true → c < length cs
ctl_within [] c h = cc
ctl_within (x ∷ cs) zero h = omega arith
ctl_within (x ∷ cs) (suc c) h = let r = ctl_within cs c h in omega arith

-- no firing of a unit that is no fork raises the count
pub plain_count : (net : Net) (s : State) (u : ℕ) (e : Effect) → is_fork (kind_of net u) ≡ false → length s.tokens ≡ length net.chans → length s.own ≡ length net.units
    → Each (Has (head_at net s u)) e.takes → Account net u (kind_of net u) (get_or s.own u idle) e → control_tokens net (applied net u e s) ≤ control_tokens net s
plain_count net s u e nf long owned heads (Account.quiet q c) =
    let a = channels_total net s u e None (λ c l. plain_step net s u e None c nf long l heads tt) in
    let z = total_le (λ c. 0) (got net u e) (length net.chans) (λ c. (let k = got_none net u e q c in omega arith)) in
    let zz = total_zero (length net.chans) in
    let b = coming_step net s u 0 e owned (omega arith) (omega arith) in
    omega arith
plain_count net s u e nf long owned heads (Account.pays p among ctl c) =
    let a = channels_total net s u e (Some p) (λ c l. plain_step net s u e (Some p) c nf long l heads (among, ctl)) in
    let z = got_mark net u e e.put refl in
    let t = total_paid net u p (ctl_within net.chans (into u p net.chans) ctl) in
    let b = coming_step net s u 0 e owned (omega arith) (omega arith) in
    omega arith
plain_count net s u e nf long owned heads (Account.opens c) =
    let a = channels_total net s u e None (λ c l. plain_step net s u e None c nf long l heads tt) in
    let z = got_mark net u e e.put refl in
    let zz = total_zero (length net.chans) in
    let b = coming_step net s u 1 e owned (omega arith) (omega arith) in
    omega arith
