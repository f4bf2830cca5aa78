-- Empty queues, what an End takes and puts, and the exit.
use Rattle.std.proofs.Common.{◌≡◌, ℕ, ◌+◌, ◌<◌, ◌≤◌, ◌⊎◌, ◌==◌, not, Bool, true, false, cond, Option, Some, None, List, [], ◌∷◌, length, get_or, set, refl, sym, ap, subst, ◌∙◌, inl, inr, arith, eqb-true, ne_eqb}
use Rattle.std.proofs.lemmas.Bool.{cases_eq}
use Rattle.net_types.specs.declared.net.Place.{Place}
use Rattle.net_types.specs.declared.net.Port.{Port}
use Rattle.net_types.specs.declared.net.Unit.{Unit as Kind}
use Rattle.net_types.specs.declared.net.Unit.TheVariants.{Lsq, Exit}
use Rattle.net_types.specs.declared.firing.Act.{Act}
use Rattle.net_types.specs.declared.firing.Act.TheVariants.{Alloc, Reply, End}
use Rattle.net_types.specs.declared.firing.Firing.{Firing}
use Rattle.net_types.specs.declared.net.Net.{Net}
use Rattle.net_types.specs.Nets.{into, out_of, chan_at, firing, kind_of, uses}
use Rattle.net_check.specs.Controls.{ctl_in, ctl_out}
use Rattle.lsq_core.specs.declared.entry.Entry.{Entry}
use Rattle.lsq_core.specs.Acts.{QueueState, can, step, is_nil, in_place, out_place}
use Rattle.net_core.specs.Fire.{Setting, setting, Effect, effect_of, among, Put, put_out, exit_fires, go_row, State, Own, idle, head_at, at_array, effect, puts_on, applied, row}
use Rattle.net_core.specs.Control.{held, to_come, control_tokens}
use Rattle.net_core.proofs.Premises.{Steers, Premises, Chained, end_at, end_unit, takes_end}
use Rattle.net_core.proofs.RowLemmas.{Has, Each}
use Rattle.net_core.proofs.ApartLemmas.{into-at, out_of-at, is_at-inv, puts-inv}
use Rattle.net_core.proofs.GoesLemmas.{Goes, heads}
use Rattle.net_core.proofs.QueueActLemmas.{queue_inv, queue_effect, put_out_inv, Given, lsq_is, group_within}
use Rattle.net_core.proofs.EffectLemmas.{EachEffect, each_effect, each_go, each_when, QueueGoes, queue_goes_on}
use Rattle.net_core.proofs.AccountLemmas.{is_fork}
use Rattle.net_core.proofs.ActLemmas.{alloc_kind}
use Rattle.net_core.proofs.TotalLemmas.{total_le, total_zero, total_ge}
use Rattle.net_core.proofs.CountLemmas.{channel_step, plain_step, channels_total, early_none, got, got_none, count, total_paid, coming_step}
use Rattle.net_core.proofs.RegularLemmas.{IsRegular, own_kept}
use Rattle.net_core.proofs.TakerLemmas.{IsHeld, counted_head, TakesAt, taker}

-- ---- empty queues

abbrev pub is_alloc : Act → Bool
is_alloc (Alloc g) = true
is_alloc _ = false

pub alloc_or : (a : Act) → (is_alloc a ≡ false) ⊎ ((g : ℕ) × (a ≡ Alloc g))
alloc_or (Alloc g) = inr (g, refl)
alloc_or _ = inl refl

abbrev Empty : Own → Type 0
Empty o = is_nil o.queue.items ≡ true

abbrev pub EmptyAt : State → ℕ → Type 0
EmptyAt s u = Empty (get_or s.own u idle)

-- what an act that is no allocation leaves of an empty queue
pub record Untouched (ports : List Port) (groups : List (List ℕ)) (q : QueueState) (xs : List ℕ) (a : Act) (v : ℕ) : Type 0 where
  pub empty : is_nil (step ports groups q xs a v).queue.items ≡ true
  pub array : (step ports groups q xs a v).array ≡ xs

pub step_empty : (depth : ℕ) (ports : List Port) (groups : List (List ℕ)) (q : QueueState) (xs : List ℕ) (a : Act) (v : ℕ)
    → can depth groups q a ≡ true → is_alloc a ≡ false → is_nil q.items ≡ true → Untouched ports groups q xs a v
step_empty depth ports groups q xs a v c n e = at q.forward q.next q.items a c n e
  where
    at : (forward : Bool) (n : ℕ) (xs' : List Entry) (a : Act) → can depth groups (record { forward = forward; next = n; items = xs' }) a ≡ true → is_alloc a ≡ false → is_nil xs' ≡ true
        → Untouched ports groups (record { forward = forward; next = n; items = xs' }) xs a v
    at fw n (x ∷ is) a c m e = cc
    at fw n [] (Alloc k) c m e = cc
    at fw n [] End c m e = record { empty = refl; array = refl }
    at fw n [] a c m e = cc

-- so of each queue over a firing that is no allocation
pub empty_kept : (net : Net) (s : State) (f : Firing) (e : Effect) → Goes net s f e → is_alloc f.act ≡ false → (v : ℕ) → EmptyAt s v → EmptyAt (applied net f.unit e s) v
empty_kept net s f e g n v h = own_kept Empty s.own f.unit e.own v here h
  where
    o : Own
    o = get_or s.own f.unit idle

    xs : List ℕ
    xs = at_array s.arrays (uses (kind_of net f.unit))

    by : QueueGoes (kind_of net f.unit) f.act o xs e → Empty o → Empty e.own
    by (QueueGoes.stays q) h = ap (λ (z : QueueState). is_nil z.items) q ∙ h
    by (QueueGoes.steps a d ps gs fw v is c q) h = ap (λ (z : QueueState). is_nil z.items) q ∙ (step_empty d ps gs o.queue xs f.act v c n h).empty

    here : Empty o → Empty e.own
    here = by (queue_goes_on (kind_of net f.unit) f.act o xs (setting net s) (head_at net s f.unit) e g.is)

-- ---- channels out of Ends

-- the place is the End's of a queue
pub record IsEndOf (k : Kind) (q : Place) (u : ℕ) : Type 0 where
  pub array : ℕ
  pub depth : ℕ
  pub ports : List Port
  pub groups : List (List ℕ)
  pub mark : Bool
  pub is : k ≡ Lsq array depth ports groups mark
  pub place : q.place ≡ length groups
  pub unit : q.unit ≡ u

pub end_of : (k : Kind) (q : Place) (u : ℕ) → end_at k q ≡ Some u → IsEndOf k q u
end_of (Lsq a d ps gs fw) q u h = by (q.place == length gs) refl h
  where
    by : (b : Bool) → (q.place == length gs) ≡ b → cond b (Some q.unit) None ≡ Some u → IsEndOf (Lsq a d ps gs fw) q u
    by true e h = record { array = a; depth = d; ports = ps; groups = gs; mark = fw; is = refl; place = eqb-true _ _ e; unit = cc }
    by false e h = cc
end_of _ q u h = cc

end_is_no_fork : (k : Kind) (p : ℕ) → takes_end k p ≡ true → is_fork k ≡ false
end_is_no_fork (Lsq a d ps gs fw) p h = refl
end_is_no_fork Exit p h = refl
end_is_no_fork _ p h = cc

-- the unit u puts a token on the channel c, which comes from it
pub record PutsThere (net : Net) (f : Firing) (e : Effect) (c u : ℕ) : Type 0 where
  pub unit : f.unit ≡ u
  pub token : Put
  pub put : e.put ≡ Some token
  pub place : (chan_at net c).from.place ≡ token.place

-- a channel out of an End has a counted token that it had before, or that this End puts
pub end_grows : (net : Net) (s : State) (f : Firing) (e : Effect) (c u : ℕ) → IsRegular net s → Chained net → Goes net s f e → c < length net.chans → end_unit net c ≡ Some u
    → 1 ≤ held net (applied net f.unit e s) c → (1 ≤ held net s c) ⊎ PutsThere net f e c u
end_grows net s f e c u good chained g l is h =
    let v = (chan_at net c).to.unit in
    let nf : is_fork (kind_of net v) ≡ false = end_is_no_fork (kind_of net v) (chan_at net c).to.place (chained.goes_on c u l is) in
    let step = channel_step net s f.unit e None c good.long l (heads net s f e g.is) tt
    (early_none (kind_of net v) (get_or (set s.own f.unit e.own) v idle) nf ∙ sym (early_none (kind_of net v) (get_or s.own v idle) nf))
    (λ t. early_none (kind_of net v) (get_or s.own v idle) nf) in
    by (puts_on net f.unit e.put c) refl step
  where
    from_unit : (chan_at net c).from.unit ≡ u
    from_unit = (end_of (kind_of net (chan_at net c).from.unit) (chan_at net c).from u is).unit

    by : (o : Option ℕ) → puts_on net f.unit e.put c ≡ o → held net (applied net f.unit e s) c + 0 ≤ held net s c + cond (chan_at net c).ctl (count (puts_on net f.unit e.put c)) 0
        → (1 ≤ held net s c) ⊎ PutsThere net f e c u
    by None i step = let z : cond (chan_at net c).ctl (count (puts_on net f.unit e.put c)) 0 ≡ 0 = rw i (none (chan_at net c).ctl) in inl (omega arith)
      where
        none : (b : Bool) → ◌≡◌ {A = ℕ} (cond b 0 0) 0
        none true = refl
        none false = refl
    by (Some x) i step = let w = puts-inv net f.unit c e.put (λ n. (let k : Some x ≡ None = sym i ∙ n in cc)) in put w.0 w.1 w.2
      where
        put : (w : Put) → e.put ≡ Some w → c ≡ out_of f.unit w.place net.chans → (1 ≤ held net s c) ⊎ PutsThere net f e c u
        put w is at =
            let m : out_of f.unit w.place net.chans < length net.chans = omega (arith, at) in
            let b = is_at-inv (chan_at net (out_of f.unit w.place net.chans)).from f.unit w.place (out_of-at f.unit w.place net.chans m) in
            let from : (chan_at net c).from.unit ≡ f.unit = rw at b.0 in
            inr (record { unit = sym from ∙ from_unit; token = w; put = is; place = rw at b.1 })

-- the place of an allocation is none that a channel out of an End goes to
pub end_is_no_alloc : (net : Net) (s : State) (u k c v : ℕ) → Chained net → c < length net.chans → end_unit net c ≡ Some v → TakesAt net s u (Alloc k) k → c ≡ into u k net.chans → ⊥
end_is_no_alloc net s u k c v chained l is (TakesAt.merges ins kind act) at = cc
end_is_no_alloc net s u k c v chained l is (TakesAt.passes a d ps gs fw kind may place) at =
    let lk = group_within d gs (get_or s.own u idle).queue k may in
    let m : into u k net.chans < length net.chans = omega (arith, at) in
    let b = is_at-inv (chan_at net (into u k net.chans)).to u k (into-at u k net.chans m) in
    let t0 : (chan_at net c).to.unit ≡ u = rw at b.0 in
    let t1 : (chan_at net c).to.place ≡ k = rw at b.1 in
    let g : takes_end (kind_of net u) k ≡ true = rw (t0, t1) at (chained.goes_on c v l is) in
    let h : (k == length gs) ≡ true = rw kind at g in
    let e : k ≡ length gs = eqb-true _ _ h in
    omega arith

-- an allocation takes a counted token at the place of its group
pub alloc_held : (net : Net) (s : State) (f : Firing) (k : ℕ) (e : Effect) → Premises net → IsRegular net s → Goes net s f e → f.act ≡ Alloc k
    → TakesAt net s f.unit (Alloc k) k × IsHeld net s (into f.unit k net.chans)
alloc_held net s f k e checked good g act =
    let g' : Goes net s (firing f.unit (Alloc k)) e = (let P : Act → Type 0 = λ a. Goes net s (firing f.unit a) e in subst P act g) in
    let t = taker net s f.unit (Alloc k) e checked good g' refl in
    by t.place t.takes t.held
  where
    by : (p : ℕ) → TakesAt net s f.unit (Alloc k) p → IsHeld net s (into f.unit p net.chans) → TakesAt net s f.unit (Alloc k) k × IsHeld net s (into f.unit k net.chans)
    by p (TakesAt.merges ins kind act) h = cc
    by p (TakesAt.passes a d ps gs fw kind may place) h =
        let e : p ≡ k = (let i : Some k ≡ Some p = place in cc) in
        (subst (λ q. TakesAt net s f.unit (Alloc k) q) e (TakesAt.passes a d ps gs fw kind may place), subst (λ q. IsHeld net s (into f.unit q net.chans)) e h)

-- so there is none where no token counts
pub no_alloc : (net : Net) (s : State) (f : Firing) (e : Effect) → Premises net → IsRegular net s → Goes net s f e → control_tokens net s ≡ 0 → is_alloc f.act ≡ false
no_alloc net s f e checked good g none = by (alloc_or f.act)
  where
    by : (is_alloc f.act ≡ false) ⊎ ((k : ℕ) × (f.act ≡ Alloc k)) → is_alloc f.act ≡ false
    by (inl a) = a
    by (inr x) =
        let h = (alloc_held net s f x.0 e checked good g x.1).1 in
        let t = total_ge (held net s) (length net.chans) (into f.unit x.0 net.chans) h.within in
        let c = h.counts in
        absurd (omega arith)

-- ---- an End, and the exit

-- an End was made, with its queue empty, by a counted token at its place
pub record EndMade (net : Net) (s : State) (f : Firing) (u p : ℕ) : Type 0 where
  pub act : f.act ≡ End
  pub empty : EmptyAt s u
  pub held : IsHeld net s (into u p net.chans)

-- what is put at the End's place of a queue is put by an End
pub end_made : (net : Net) (s : State) (f : Firing) (e : Effect) (w : Put) (u a d : ℕ) (ps : List Port) (gs : List (List ℕ)) (fw : Bool) → Premises net → IsRegular net s → Goes net s f e
    → f.unit ≡ u → kind_of net u ≡ Lsq a d ps gs fw → e.put ≡ Some w → w.place ≡ length gs → EndMade net s f u (length gs)
end_made net s f e w u a d ps gs fw checked good g fu is pe pl = at f.unit fu g.is
  where
    out_end : (act : Act) (q : QueueState) → can d gs q act ≡ true → out_place gs act ≡ Some (length gs) → act ≡ End
    out_end (Alloc k) q c o = let l = group_within d gs q k c in let x : k ≡ length gs = cc in absurd (omega arith)
    out_end (Reply p) q c o = let x : length gs + 1 + p ≡ length gs = cc in absurd (omega arith)
    out_end End q c o = refl
    out_end act q c o = cc

    at : (v : ℕ) → v ≡ u → effect net s (firing v f.act) ≡ Some e → EndMade net s f u (length gs)
    at v vu ge =
        let ge' : effect net s (firing u f.act) ≡ Some e = rw vu at ge in
        let i = queue_inv d ps gs f.act (get_or s.own u idle) (get_or s.arrays a []) (head_at net s u) e (sym (lsq_is net u a d ps gs fw is s f.act) ∙ ge') in
        by i.0 i.1 i.2 i.3
      where
        by : (v : ℕ) → can d gs (get_or s.own u idle).queue f.act ≡ true → Given (in_place gs f.act) (head_at net s u) v → queue_effect ps gs f.act (get_or s.own u idle) (get_or s.arrays a []) v ≡ e
            → EndMade net s f u (length gs)
        by v c t eq =
            let p : put_out (out_place gs f.act) (step ps gs (get_or s.own u idle).queue (get_or s.arrays a []) f.act v).put ≡ Some w = ap (λ z. z.put) eq ∙ pe in
            let o : out_place gs f.act ≡ Some (length gs) = put_out_inv _ _ w p ∙ ap Some pl in
            let act : f.act ≡ End = out_end f.act (get_or s.own u idle).queue c o in
            let t' : head_at net s u (length gs) ≡ Some v = rw act at t in
            let c' : is_nil (get_or s.own u idle).queue.items ≡ true = rw act at c in
            let st : Steers (Lsq a d ps gs fw) (ctl_in net u) (ctl_out net u) = rw is at (checked.steered u) in
            record { act = act; empty = c'; held = counted_head net s u (length gs) v good (rw is refl) (st.0 (length gs) (omega arith)) t' }

-- the exit takes its control token and puts none
abbrev Closes : Effect → Type 0
Closes e = (among 0 e.takes ≡ true) × (e.put ≡ None)

exit_closes : (b : Bool) (o : Own) (xs : List ℕ) → EachEffect Closes (exit_fires b o xs)
exit_closes true o xs = λ c v. (refl, refl)
exit_closes false o xs = λ c. (refl, refl)

row_closes : (a : Act) (o : Own) (xs : List ℕ) (ss : Setting) → EachEffect Closes (row Exit a o xs ss)
unfolding row
row_closes a o xs ss = each_go Closes a (go_row Exit o xs ss) (each_when Closes (not o.fired) (exit_fires ss.valued o xs) (λ c. exit_closes ss.valued o xs))

pub each_among : (P : ℕ → Type 0) (u : ℕ) (xs : List ℕ) → among u xs ≡ true → Each P xs → P u
each_among P u [] e h = cc
each_among P u (x ∷ xs) e h = by (cases_eq u x) (λ g. each_among P u xs g h.1)
  where
    by : (u ≡ x) ⊎ (u ≡ x → ⊥) → (among u xs ≡ true → P u) → P u
    by (inl a) r = rw a h.0
    by (inr n) r = let k : (u == x) ≡ false = ne_eqb u x n in let g : among u xs ≡ true = rw k at e in r g

-- after the exit has fired no token counts
pub record ExitMade (net : Net) (s : State) (f : Firing) (e : Effect) : Type 0 where
  pub none : control_tokens net (applied net f.unit e s) ≡ 0
  pub held : IsHeld net s (into f.unit 0 net.chans)
  pub act : is_alloc f.act ≡ false

pub exit_made : (net : Net) (s : State) (f : Firing) (e : Effect) → Premises net → IsRegular net s → Goes net s f e → kind_of net f.unit ≡ Exit → ExitMade net s f e
exit_made net s f e checked good g is =
    let q : effect_of (row Exit f.act (get_or s.own f.unit idle) [] (setting net s)) (head_at net s f.unit) ≡ Some e =
    sym (ap (λ k. effect_of (row k f.act (get_or s.own f.unit idle) (at_array s.arrays (uses k)) (setting net s)) (head_at net s f.unit)) is) ∙ g.is in
    let x = each_effect Closes (row Exit f.act (get_or s.own f.unit idle) [] (setting net s)) (head_at net s f.unit) e (row_closes f.act (get_or s.own f.unit idle) [] (setting net s)) q in
    let hs = heads net s f e g.is in
    let st : Steers Exit (ctl_in net f.unit) (ctl_out net f.unit) = rw is at (checked.steered f.unit) in
    let nf : is_fork (kind_of net f.unit) ≡ false = rw is refl in
    let h = each_among (Has (head_at net s f.unit)) 0 e.takes x.0 hs in
    let c = counted_head net s f.unit 0 h.0 good nf st h.1 in
    let a = channels_total net s f.unit e (Some 0) (λ c l. plain_step net s f.unit e (Some 0) c nf good.long l hs (x.0, st)) in
    let z = total_le (λ c. 0) (got net f.unit e) (length net.chans) (λ c. (let k = got_none net f.unit e (λ w i. (let m : None ≡ Some w = sym x.1 ∙ i in cc)) c in omega arith)) in
    let zz = total_zero (length net.chans) in
    let t = total_paid net f.unit 0 c.within in
    let come : 0 + to_come (kind_of net f.unit) e.own ≤ to_come (kind_of net f.unit) (get_or s.own f.unit idle) = rw is (omega arith) in
    let d = coming_step net s f.unit 0 e good.owned (omega arith) come in
    let o = good.control in
    record { none = omega arith; held = c; act = no_exit f.act g.is }
  where
    no_exit : (a : Act) → effect net s (firing f.unit a) ≡ Some e → is_alloc a ≡ false
    no_exit (Alloc k) q =
        let w = alloc_kind (kind_of net f.unit) k (get_or s.own f.unit idle) (at_array s.arrays (uses (kind_of net f.unit))) (setting net s) (head_at net s f.unit) e q in
        let z : Exit ≡ Lsq w.array w.depth w.ports w.groups w.mark = sym is ∙ w.is in cc
    no_exit _ q = refl
