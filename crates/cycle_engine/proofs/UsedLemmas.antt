-- The places that a plan uses, and when the engine may make it.
use Rattle.std.proofs.Common.{◌≡◌, ℕ, suc, ◌<◌, ◌≤◌, ◌≢◌, ◌⊎◌, inl, inr, Bool, true, false, Option, Some, None, List, [], ◌∷◌, ◌++◌, ◌+◌, ◌==◌, cond, length, length-append, get_or, is_some, nat_lt, eqb-true, ltb-true, refl, sym, ap, subst, ◌∙◌, arith, IsSomeAnd}
use Rattle.net_types.specs.declared.net.Net.{Net}
use Rattle.net_types.specs.declared.net.Unit.{Unit as Kind}
use Rattle.net_types.specs.declared.net.Unit.TheVariants.{Entry, Fork, Cmerge, Lsq}
use Rattle.std.proofs.lemmas.List.{get_or_append_left, get_or-append-add}
use Rattle.net_types.specs.declared.firing.Act.{Act}
use Rattle.net_types.specs.declared.firing.Act.TheVariants.{Go, From, Send, Alloc, Addr, Data, Exec, Reply, Retire, End}
use Rattle.net_types.specs.declared.firing.Firing.{Firing}
use Rattle.net_types.specs.Nets.{out_of, kind_of, chan_at}
use Rattle.net_check.specs.Ends.{is_lsq}
use Rattle.net_core.specs.Fire.{Own, Effect, idle, tokens_at, effect, has_room}
use Rattle.net_core.specs.declared.plan.Put.{Put}
use Rattle.net_core.specs.declared.plan.Plan.{Plan}
use Rattle.net_core.specs.Plans.{effect_by, planned, laid_of}
use Rattle.net_core.specs.States.{state_of, dates_of, own_at, array_at, IsPlanOf}
use Rattle.net_core.specs.Uses.{used}
use Rattle.net_core.proofs.PlanUses.{plans_use}
use Rattle.cycle_engine.specs.declared.engine.Engine.{Engine}
use Rattle.cycle_engine.specs.Cycles.{Dated, HasDepth, AllocHasDepth, May, IsUnused, place_of}
use Rattle.cycle_engine.specs.private.Trials.{dated_of, AllRipe, HadRoom, HadDepth, EntriesFit, Allowed, IsOldFull, IsFollowed, IsBegun}
use Rattle.std.proofs.lemmas.Bool.{cases_lt, cases_eq, and_parts}
use Rattle.cycle_engine.specs.private.Places.{HasView}
use Rattle.cycle_engine.specs.private.Used.{AreLaid, AreNumbered, AreTold, Fits, HasNumbersBelow, HasPlace, IsFromBelow, IsGo, IsQueueAct, IsSendBelow, IsStamped, goes, own_number, place_number}
use Rattle.net_types.specs.Nets.{uses, firing}
use Rattle.std.specs.List.{find}
use Rattle.lsq_core.specs.declared.entry.Entry.{Entry as Item}
use Rattle.lsq_core.specs.Acts.{QueueState, can, wants_addr, wants_data, wants_reply}
use Rattle.lsq_core.specs.Views.{InPorts}
use Rattle.lsq_core.proofs.PortLemmas.{done_some}
use Rattle.net_core.specs.Fire.{State, Row, Take, Fires, Setting, effect_of, on_go, fork_row, cmerge_row, row, go_row, put_at, at_array, setting, head_at}
use Rattle.net_core.specs.Plans.{IsForkOf}
use Rattle.net_core.proofs.ForkLemmas.{send_inv, when_inv}
use Rattle.net_core.proofs.QueueActLemmas.{queue_inv, lsq_is, group_within}
use Rattle.cycle_engine.specs.declared.used.Used.{Used}
use Rattle.lsq_core.specs.Laws.{act_place}

-- the depth at the start, by the number of entries then
depth_acts : (d : ℕ) (gs : List (List ℕ)) (o : Own) (n : ℕ) (a : Act) → n ≡ length o.queue.items → EntriesFit d gs n a → AllocHasDepth d gs o a
depth_acts d gs o n (Alloc g) e h = omega arith
depth_acts d gs o n _ e h = tt

acts_depth : (d : ℕ) (gs : List (List ℕ)) (o : Own) (n : ℕ) (a : Act) → n ≡ length o.queue.items → AllocHasDepth d gs o a → EntriesFit d gs n a
acts_depth d gs o n (Alloc g) e h = omega arith
acts_depth d gs o n _ e h = tt

depth_start : (k : Kind) (o : Own) (n : ℕ) (a : Act) → (is_lsq k ≡ true → n ≡ length o.queue.items) → HadDepth k n a → HasDepth k o a
depth_start (Lsq x d ps gs fw) o n a e h = depth_acts d gs o n a (e refl) h
depth_start _ o n a e h = tt

start_depth : (k : Kind) (o : Own) (n : ℕ) (a : Act) → (is_lsq k ≡ true → n ≡ length o.queue.items) → HasDepth k o a → HadDepth k n a
start_depth (Lsq x d ps gs fw) o n a e h = acts_depth d gs o n a (e refl) h
start_depth _ o n a e h = tt

-- ---- room

-- where there is room now, there was at the start exactly where the channel is not marked
start_room : (net : Net) (c : ℕ) (start : Dated) (e : Engine) (u : ℕ) (o : Option Put) → ((d : ℕ) → IsFollowed net c start e d) → has_room net (state_of e.state) u o → HadRoom e.freed.marked.items (laid_of net u o)
    → has_room net start.state u o
start_room net c start e u None b r h = tt
start_room net c start e u (Some w) b r h = by ((b (out_of u w.place net.chans)).clear h)
  where
    by : (length (tokens_at start.state (out_of u w.place net.chans)) < (chan_at net (out_of u w.place net.chans)).slots) ⊎ IsOldFull net c e (out_of u w.place net.chans)
        → length (tokens_at start.state (out_of u w.place net.chans)) < (chan_at net (out_of u w.place net.chans)).slots
    by (inl l) = l
    by (inr f) = let z = f.0 in absurd (omega arith)

room_start : (net : Net) (c : ℕ) (start : Dated) (e : Engine) (u : ℕ) (o : Option Put) → ((d : ℕ) → IsFollowed net c start e d) → has_room net start.state u o → HadRoom e.freed.marked.items (laid_of net u o)
room_start net c start e u None b h = tt
room_start net c start e u (Some w) b h = by (get_or e.freed.marked.items (out_of u w.place net.chans) false) refl
  where
    by : (x : Bool) → get_or e.freed.marked.items (out_of u w.place net.chans) false ≡ x → get_or e.freed.marked.items (out_of u w.place net.chans) false ≡ false
    by false is = is
    by true is = let z = (b (out_of u w.place net.chans)).marked is in absurd (omega arith)

-- what the engine asks of a plan, as May
pub may_of : (net : Net) (c : ℕ) (e : Engine) (start : Dated) (f : Firing) (p : Plan) → IsPlanOf net e.state f (Some p) → Allowed net c e f p → IsBegun net c start e → May net c start (dated_of e) f
may_of net c e start f p is a b =
    let P : Option Effect → Type 0 = λ o. IsSomeAnd o (λ x. has_room net (state_of e.state) f.unit x.put) in
    let Q : Option Effect → Type 0 = λ o. IsSomeAnd o (λ x. has_room net start.state f.unit x.put) in
    let R : List ℕ → Type 0 = AllRipe net c (dates_of e.state) f.unit in
    record {
      turn = subst P is a.room;
      ripe = subst R (sym (plans_use net (state_of e.state) f.unit f.act (effect_by (kind_of net f.unit) (own_at e.state f.unit) (array_at net e.state f.unit) p) p.takes (sym is) refl)) a.ripe;
      room = subst Q is (start_room net c start e f.unit p.put b.chans a.room a.had_room);
      depth = depth_start (kind_of net f.unit) (get_or start.state.own f.unit idle) (get_or e.begun.items f.unit 0) f.act (b.queues f.unit) a.had_depth;
    }

-- and back
pub may_parts : (net : Net) (c : ℕ) (e : Engine) (start : Dated) (f : Firing) (p : Plan) → IsPlanOf net e.state f (Some p) → IsBegun net c start e → May net c start (dated_of e) f → Allowed net c e f p
may_parts net c e start f p is b m =
    let P : Option Effect → Type 0 = λ o. IsSomeAnd o (λ x. has_room net (state_of e.state) f.unit x.put) in
    let Q : Option Effect → Type 0 = λ o. IsSomeAnd o (λ x. has_room net start.state f.unit x.put) in
    let R : List ℕ → Type 0 = AllRipe net c (dates_of e.state) f.unit in
    record {
      room = subst P (sym is) m.turn;
      had_room = room_start net c start e f.unit p.put b.chans (subst Q (sym is) m.room);
      had_depth = start_depth (kind_of net f.unit) (get_or start.state.own f.unit idle) (get_or e.begun.items f.unit 0) f.act (b.queues f.unit) m.depth;
      ripe = subst R (plans_use net (state_of e.state) f.unit f.act (effect_by (kind_of net f.unit) (own_at e.state f.unit) (array_at net e.state f.unit) p) p.takes (sym is) refl) m.ripe;
    }

pub no_plan : (net : Net) (c : ℕ) (e : Engine) (start : Dated) (f : Firing) (o : Option Plan) → IsPlanOf net e.state f o → o ≡ None → May net c start (dated_of e) f → ⊥
no_plan net c e start f o is n m =
    let P : Option Effect → Type 0 = λ x. IsSomeAnd x (λ y. has_room net (state_of e.state) f.unit y.put) in
    let q : effect net (state_of e.state) f ≡ None = sym is ∙ ap (planned (kind_of net f.unit) (own_at e.state f.unit) (array_at net e.state f.unit)) n in
    subst P q m.turn

-- ---- places of a net

go_fits : (a : Act) (r : Row) (h : ℕ → Option ℕ) (e : Effect) → effect_of (on_go a r) h ≡ Some e → IsGo a
go_fits Go r h e q = tt
go_fits _ r h e q = cc

send_fits : (outs : ℕ) (a : Act) (o : Own) (xs : List ℕ) (h : ℕ → Option ℕ) (e : Effect) → effect_of (fork_row outs a o xs) h ≡ Some e → IsSendBelow outs a
send_fits outs (Send j) o xs h e q = (let i = send_inv outs j o xs h e q in ltb-true _ _ (and_parts (nat_lt j outs) _ i.0).0)
send_fits outs _ o xs h e q = cc

from_fits : (ins : ℕ) (a : Act) (o : Own) (xs : List ℕ) (h : ℕ → Option ℕ) (e : Effect) → effect_of (cmerge_row ins a o xs) h ≡ Some e → IsFromBelow ins a
from_fits ins (From j) o xs h e q = ltb-true _ _ (when_inv (nat_lt j ins) (Take j (λ v. Fires (put_at 0 j) o xs 0)) h e q).0
from_fits ins _ o xs h e q = cc

plain_fits : (k : Kind) (a : Act) (o : Own) (xs : List ℕ) (ss : Setting) (h : ℕ → Option ℕ) (e : Effect) → is_lsq k ≡ false → effect_of (row k a o xs ss) h ≡ Some e → Fits k a
unfolding row
plain_fits (Fork w outs) a o xs ss h e l q = send_fits outs a o xs h e q
plain_fits (Cmerge ins) a o xs ss h e l q = from_fits ins a o xs h e q
plain_fits (Lsq x d ps gs f) a o xs ss h e l q = cc
plain_fits k a o xs ss h e l q = go_fits a (go_row k o xs ss) h e q

-- an act that a queue finds an entry for is of a port
pub found_port : (t : Item → Bool) (items : List Item) (p n : ℕ) → InPorts n items → ((x : Item) → t x ≡ true → x.port ≡ p) → is_some (find t items) ≡ true → p < n
found_port t [] p n within port e = cc
found_port t (y ∷ items) p n within port e = by (t y) refl e (λ k. found_port t items p n (λ j l. within (suc j) (omega arith)) port k)
  where
    by : (b : Bool) → t y ≡ b → is_some (cond b (Some y) (find t items)) ≡ true → (is_some (find t items) ≡ true → p < n) → p < n
    by true i e rest = let k = port y i in let l : y.port < n = within 0 (omega arith) in omega arith
    by false i e rest = rest e

queue_fits : (d : ℕ) (gs : List (List ℕ)) (q : QueueState) (n : ℕ) (a : Act) → InPorts n q.items → can d gs q a ≡ true → IsQueueAct (length gs) n a
queue_fits d gs q n (Alloc g) within h = group_within d gs q g h
queue_fits d gs q n (Addr p) within h = found_port (wants_addr p) q.items p n within (λ x w. eqb-true _ _ (and_parts _ _ w).0) h
queue_fits d gs q n (Data p) within h = found_port (wants_data p) q.items p n within (λ x w. eqb-true _ _ (and_parts _ _ w).0) h
queue_fits d gs q n (Reply p) within h = found_port (wants_reply p) q.items p n within (λ x w. eqb-true _ _ (and_parts _ _ w).0) (done_some (find (wants_reply p) q.items) h)
queue_fits d gs q n (Exec e) within h = tt
queue_fits d gs q n Retire within h = tt
queue_fits d gs q n End within h = tt
queue_fits d gs q n _ within h = cc

-- what has an effect is at a place of the net
pub effect_place : (net : Net) (s : State) (f : Firing) (e : Effect) → f.unit < length net.units → (is_lsq (kind_of net f.unit) ≡ true → HasView net s f.unit) → effect net s f ≡ Some e → HasPlace net f
effect_place net s f e within view q = record { within = within; fits = by (is_lsq (kind_of net f.unit)) refl }
  where
    by : (b : Bool) → is_lsq (kind_of net f.unit) ≡ b → Fits (kind_of net f.unit) f.act
    by false l = plain_fits (kind_of net f.unit) f.act (get_or s.own f.unit idle) (at_array s.arrays (uses (kind_of net f.unit))) (setting net s) (head_at net s f.unit) e l q
    by true l =
        let v = view l in
        let i = queue_inv v.view.depth v.view.ports v.view.groups f.act (get_or s.own f.unit idle) (get_or s.arrays v.array []) (head_at net s f.unit) e
        (sym (lsq_is net f.unit v.array v.view.depth v.view.ports v.view.groups v.view.queue.forward v.shape s f.act) ∙ q) in
        let c : can v.view.depth v.view.groups v.view.queue f.act ≡ true = ap (λ z. can v.view.depth v.view.groups z f.act) v.state ∙ i.1 in
        let P : Kind → Type 0 = λ k. Fits k f.act in
        subst P (sym v.shape) (queue_fits v.view.depth v.view.groups v.view.queue (length v.view.ports) f.act v.ports c)

goes_fits : (k : Kind) → goes k ≡ true → Fits k Go
goes_fits (Fork w outs) h = cc
goes_fits (Cmerge ins) h = cc
goes_fits (Lsq x d ps gs f) h = cc
goes_fits _ h = tt

pub go_place : (net : Net) (u : ℕ) → u < length net.units → goes (kind_of net u) ≡ true → HasPlace net (firing u Go)
go_place net u within g = record { within = within; fits = goes_fits (kind_of net u) g }

pub send_place : (net : Net) (u outs out : ℕ) → u < length net.units → IsForkOf outs (kind_of net u) → out < outs → HasPlace net (firing u (Send out))
send_place net u outs out within k l = (let P : Kind → Type 0 = λ k. Fits k (Send out) in record { within = within; fits = subst P (sym k.shape) l })

pub from_place : (net : Net) (u ins j : ℕ) → u < length net.units → kind_of net u ≡ Cmerge ins → j < ins → HasPlace net (firing u (From j))
from_place net u ins j within k l = (let P : Kind → Type 0 = λ k. Fits k (From j) in record { within = within; fits = subst P (sym k) l })

-- ---- numbers of places

pub place_within : (net : Net) (base : List ℕ) (n : ℕ) (f : Firing) → AreNumbered net base n → HasPlace net f → place_number base f < n
place_within net base n f numbers place = numbers.most f place

-- acts of one unit are at one place if their numbers are one

go_same : (a b : Act) → IsGo a → IsGo b → act_place a ≡ act_place b
go_same Go Go f g = refl
go_same Go _ f g = absurd g
go_same _ b f g = absurd f

send_same : (outs : ℕ) (a b : Act) → IsSendBelow outs a → IsSendBelow outs b → own_number a ≡ own_number b → act_place a ≡ act_place b
send_same outs (Send i) (Send j) f g q = ap Send (omega arith)
send_same outs (Send i) _ f g q = absurd g
send_same outs _ b f g q = absurd f

from_same : (ins : ℕ) (a b : Act) → IsFromBelow ins a → IsFromBelow ins b → own_number a ≡ own_number b → act_place a ≡ act_place b
from_same ins (From i) (From j) f g q = ap From q
from_same ins (From i) _ f g q = absurd g
from_same ins _ b f g q = absurd f

queue_same : (groups ports : ℕ) (a b : Act) → IsQueueAct groups ports a → IsQueueAct groups ports b → own_number a ≡ own_number b → act_place a ≡ act_place b
queue_same gs ps Go b f g q = absurd f
queue_same gs ps (From j) b f g q = absurd f
queue_same gs ps (Send j) b f g q = absurd f
queue_same gs ps _ Go f g q = absurd g
queue_same gs ps _ (From j) f g q = absurd g
queue_same gs ps _ (Send j) f g q = absurd g
queue_same gs ps (Alloc i) (Alloc j) f g q = ap Alloc (omega arith)
queue_same gs ps (Addr i) (Addr j) f g q = ap Addr (omega arith)
queue_same gs ps (Data i) (Data j) f g q = ap Data (omega arith)
queue_same gs ps (Reply i) (Reply j) f g q = ap Reply (omega arith)
queue_same gs ps (Exec i) (Exec j) f g q = refl
queue_same gs ps Retire Retire f g q = refl
queue_same gs ps End End f g q = refl
queue_same gs ps _ _ f g q = absurd (omega arith)

acts_same : (k : Kind) (a b : Act) → Fits k a → Fits k b → own_number a ≡ own_number b → act_place a ≡ act_place b
acts_same (Fork w outs) a b f g q = send_same outs a b f g q
acts_same (Cmerge ins) a b f g q = from_same ins a b f g q
acts_same (Lsq x d ps gs fw) a b f g q = queue_same (length gs) (length ps) a b f g q
acts_same _ a b f g q = go_same a b f g

number_unit : (base : List ℕ) (f : Firing) → own_number f.act ≡ 0 → place_number base f ≡ f.unit
number_unit base f q = ap (λ n. cond (n == 0) f.unit (get_or base f.unit 0 + n)) q

pub number_more : (base : List ℕ) (f : Firing) → own_number f.act ≢ 0 → place_number base f ≡ get_or base f.unit 0 + own_number f.act
number_more base f q = by (own_number f.act == 0) refl
  where
    by : (b : Bool) → own_number f.act == 0 ≡ b → cond b f.unit (get_or base f.unit 0 + own_number f.act) ≡ get_or base f.unit 0 + own_number f.act
    by true e = absurd (q (eqb-true _ _ e))
    by false e = refl

-- firings of one number are at one place
pub same_number : (net : Net) (base : List ℕ) (n : ℕ) (f g : Firing) → AreNumbered net base n → HasPlace net f → HasPlace net g → place_number base f ≡ place_number base g → place_of f ≡ place_of g
same_number net base n f g numbers pf pg q = by (cases_eq (own_number f.act) 0) (cases_eq (own_number g.act) 0)
  where
    one : f.unit ≡ g.unit → own_number f.act ≡ own_number g.act → place_of f ≡ place_of g
    one u o =
        let P : ℕ → Type 0 = λ x. Fits (kind_of net x) g.act in
        let a = acts_same (kind_of net f.unit) f.act g.act pf.fits (subst P (sym u) pg.fits) o in
        cc

    more : own_number f.act ≢ 0 → own_number g.act ≢ 0 → (f.unit < g.unit) ⊎ (g.unit ≤ f.unit) → (g.unit < f.unit) ⊎ (f.unit ≤ g.unit) → place_of f ≡ place_of g
    more nf ng (inl l) m = let r = numbers.rising f g pf pg l nf ng in absurd (omega arith)
    more nf ng (inr l) (inl m) = let r = numbers.rising g f pg pf m ng nf in absurd (omega arith)
    more nf ng (inr l) (inr m) =
        let u : f.unit ≡ g.unit = omega arith in
        let a = number_more base f nf in
        let b = number_more base g ng in
        let c = ap (λ x. get_or base x 0) u in
        one u (omega arith)

    by : (own_number f.act ≡ 0) ⊎ (own_number f.act ≢ 0) → (own_number g.act ≡ 0) ⊎ (own_number g.act ≢ 0) → place_of f ≡ place_of g
    by (inl zf) (inl zg) = one (sym (number_unit base f zf) ∙ (q ∙ number_unit base g zg)) (zf ∙ sym zg)
    by (inl zf) (inr ng) =
        let a = number_unit base f zf in
        let b = numbers.least g pg ng in
        let c = pf.within in
        absurd (omega arith)
    by (inr nf) (inl zg) =
        let a = number_unit base g zg in
        let b = numbers.least f pf nf in
        let c = pg.within in
        absurd (omega arith)
    by (inr nf) (inr ng) = more nf ng (cases_lt f.unit g.unit) (cases_lt g.unit f.unit)

-- places are one only if their numbers are
number_as : (base : List ℕ) (f : Firing) → place_number base (place_of f) ≡ place_number base f
number_as base f = by f.act
  where
    by : (a : Act) → cond (own_number (act_place a) == 0) f.unit (get_or base f.unit 0 + own_number (act_place a)) ≡ cond (own_number a == 0) f.unit (get_or base f.unit 0 + own_number a)
    by Go = refl
    by _ = refl

-- one unit more
pub laid_more : (net : Net) (base : List ℕ) (n m : ℕ) → HasNumbersBelow (kind_of net (length base)) m → AreLaid net base n → AreLaid net (base ++ n ∷ []) (n + m)
laid_more net base n m below laid = record { long = (let a = laid.long in omega arith); least = least; most = most; rising = rising }
  where
    long : length (base ++ n ∷ []) ≡ suc (length base)
    long = (let a = length-append base (n ∷ []) in omega arith)

    old : (u : ℕ) → u < length base → get_or (base ++ n ∷ []) u 0 ≡ get_or base u 0
    old u l = get_or_append_left base (n ∷ []) 0 u l

    last : (u : ℕ) → u ≡ length base → get_or (base ++ n ∷ []) u 0 ≡ n
    last u e = (let i : u ≡ length base + 0 = omega arith in ap (λ x. get_or (base ++ n ∷ []) x 0) i ∙ get_or-append-add base (n ∷ []) 0 0)

    least : (u : ℕ) → u < length (base ++ n ∷ []) → length net.units ≤ get_or (base ++ n ∷ []) u 0
    least u w = by (cases_lt u (length base))
      where
        by : (u < length base) ⊎ (length base ≤ u) → length net.units ≤ get_or (base ++ n ∷ []) u 0
        by (inl l) = let a = laid.least u l in let b = old u l in omega arith
        by (inr l) = let z = long in let a = last u (omega arith) in let b = laid.long in omega arith

    most : (u : ℕ) (a : Act) → u < length (base ++ n ∷ []) → Fits (kind_of net u) a → own_number a ≢ 0 → get_or (base ++ n ∷ []) u 0 + own_number a < n + m
    most u a w f ne = by (cases_lt u (length base))
      where
        by : (u < length base) ⊎ (length base ≤ u) → get_or (base ++ n ∷ []) u 0 + own_number a < n + m
        by (inl l) = let b = laid.most u a l f ne in let c = old u l in omega arith
        by (inr l) =
            let z = long in
            let e : u ≡ length base = omega arith in
            let b = last u e in
            let P : ℕ → Type 0 = λ x. Fits (kind_of net x) a in
            let c = below.below a (subst P e f) ne in
            omega arith

    rising : (u v : ℕ) (a : Act) → u < v → v < length (base ++ n ∷ []) → Fits (kind_of net u) a → own_number a ≢ 0 → get_or (base ++ n ∷ []) u 0 + own_number a < get_or (base ++ n ∷ []) v 0
    rising u v a uv w f ne = by (cases_lt v (length base))
      where
        by : (v < length base) ⊎ (length base ≤ v) → get_or (base ++ n ∷ []) u 0 + own_number a < get_or (base ++ n ∷ []) v 0
        by (inl l) = let b = laid.rising u v a uv l f ne in let c = old u (omega arith) in let d = old v l in omega arith
        by (inr l) =
            let z = long in
            let b = last v (omega arith) in
            let r : u < length base = omega arith in
            let c = old u r in
            let d = laid.most u a r f ne in
            omega arith

-- after the last unit
pub laid_all : (net : Net) (base : List ℕ) (n : ℕ) → length base ≡ length net.units → AreLaid net base n → AreNumbered net base n
laid_all net base n e laid = record { long = laid.long; least = least; most = most; rising = rising }
  where
    least : (f : Firing) → HasPlace net f → own_number f.act ≢ 0 → length net.units ≤ place_number base f
    least f p ne =
        let w = p.within in
        let a = number_more base f ne in
        let b = laid.least f.unit (omega arith) in
        omega arith

    most : (f : Firing) → HasPlace net f → place_number base f < n
    most f p = by (cases_eq (own_number f.act) 0)
      where
        by : (own_number f.act ≡ 0) ⊎ (own_number f.act ≢ 0) → place_number base f < n
        by (inl z) = let w = p.within in let a = number_unit base f z in let b = laid.long in omega arith
        by (inr ne) = let w = p.within in let a = number_more base f ne in let b = laid.most f.unit f.act (omega arith) p.fits ne in omega arith

    rising : (f g : Firing) → HasPlace net f → HasPlace net g → f.unit < g.unit → own_number f.act ≢ 0 → own_number g.act ≢ 0 → place_number base f < place_number base g
    rising f g pf pg l nf ng =
        let w = pg.within in
        let a = number_more base f nf in
        let b = number_more base g ng in
        let c = laid.rising f.unit g.unit f.act l (omega arith) pf.fits nf in
        omega arith

-- ---- places that have fired

pub unused_more : (fs : List Firing) (f g : Firing) → IsUnused fs g → place_of f ≢ place_of g → IsUnused (fs ++ f ∷ []) g
unused_more [] f g un ne = (ne, tt)
unused_more (x ∷ fs) f g un ne = (un.0, unused_more fs f g un.1 ne)

pub unused_last : (fs : List Firing) (f g : Firing) → IsUnused (fs ++ f ∷ []) g → place_of f ≢ place_of g
unused_last [] f g un = un.0
unused_last (x ∷ fs) f g un = unused_last fs f g un.1

pub unused_before : (fs : List Firing) (f g : Firing) → IsUnused (fs ++ f ∷ []) g → IsUnused fs g
unused_before [] f g un = tt
unused_before (x ∷ fs) f g un = (un.0, unused_before fs f g un.1)

-- one firing more
pub told_stamped : (net : Net) (old new : Used) (earlier : ℕ) (fs : List Firing) (f : Firing) → AreNumbered net old.base.items (length old.last.items) → HasPlace net f
    → AreTold net old earlier fs → IsStamped (place_number old.base.items f) (earlier + length fs) old new → AreTold net new earlier (fs ++ f ∷ [])
told_stamped net old new earlier fs f numbers place told s = record { unused = unused; used = used; most = most }
  where
    base : (g : Firing) → place_number new.base.items g ≡ place_number old.base.items g
    base g = ap (λ (v : _). place_number v.items g) s.base

    last : (g : Firing) → get_or new.last.items (place_number new.base.items g) 0 ≡ get_or new.last.items (place_number old.base.items g) 0
    last g = ap (λ x. get_or new.last.items x 0) (base g)

    here : (g : Firing) → place_number old.base.items g ≡ place_number old.base.items f → get_or new.last.items (place_number new.base.items g) 0 ≡ suc (earlier + length fs)
    here g e = last g ∙ (ap (λ x. get_or new.last.items x 0) e ∙ s.own)

    there : (g : Firing) → place_number old.base.items g ≢ place_number old.base.items f → get_or new.last.items (place_number new.base.items g) 0 ≡ get_or old.last.items (place_number old.base.items g) 0
    there g ne = last g ∙ s.others (place_number old.base.items g) ne

    apart : (g : Firing) → place_number old.base.items g ≢ place_number old.base.items f → place_of f ≢ place_of g
    apart g ne e = ne (sym (number_as old.base.items g) ∙ (ap (place_number old.base.items) (sym e) ∙ number_as old.base.items f))

    unused : (g : Firing) → HasPlace net g → get_or new.last.items (place_number new.base.items g) 0 ≤ earlier → IsUnused (fs ++ f ∷ []) g
    unused g p l = by (cases_eq (place_number old.base.items g) (place_number old.base.items f))
      where
        by : (place_number old.base.items g ≡ place_number old.base.items f) ⊎ (place_number old.base.items g ≢ place_number old.base.items f) → IsUnused (fs ++ f ∷ []) g
        by (inl e) = let a = here g e in absurd (omega arith)
        by (inr ne) = let a = there g ne in unused_more fs f g (told.unused g p (omega arith)) (apart g ne)

    used : (g : Firing) → HasPlace net g → earlier < get_or new.last.items (place_number new.base.items g) 0 → IsUnused (fs ++ f ∷ []) g → ⊥
    used g p l un = by (cases_eq (place_number old.base.items g) (place_number old.base.items f))
      where
        by : (place_number old.base.items g ≡ place_number old.base.items f) ⊎ (place_number old.base.items g ≢ place_number old.base.items f) → ⊥
        by (inl e) = unused_last fs f g un (same_number net old.base.items (length old.last.items) f g numbers place p (sym e))
        by (inr ne) = let a = there g ne in told.used g p (omega arith) (unused_before fs f g un)

    most : (x : ℕ) → get_or new.last.items x 0 ≤ earlier + length (fs ++ f ∷ [])
    most x = by (cases_eq x (place_number old.base.items f))
      where
        by : (x ≡ place_number old.base.items f) ⊎ (x ≢ place_number old.base.items f) → get_or new.last.items x 0 ≤ earlier + length (fs ++ f ∷ [])
        by (inl e) =
            let a : get_or new.last.items x 0 ≡ suc (earlier + length fs) = ap (λ y. get_or new.last.items y 0) e ∙ s.own in
            let z = length-append fs (f ∷ []) in
            omega arith
        by (inr ne) =
            let a = s.others x ne in
            let b = told.most x in
            let z = length-append fs (f ∷ []) in
            omega arith

pub numbered_stamped : (net : Net) (at count : ℕ) (old new : Used) → AreNumbered net old.base.items (length old.last.items) → IsStamped at count old new
    → AreNumbered net new.base.items (length new.last.items)
numbered_stamped net at count old new numbers s =
    let B : List ℕ → Type 0 = λ b. AreNumbered net b (length new.last.items) in
    let N : ℕ → Type 0 = λ n. AreNumbered net old.base.items n in
    subst B (ap (λ (v : _). v.items) (sym s.base)) (subst N (sym s.long) numbers)

-- as the next cycle begins
pub told_next : (net : Net) (used : Used) (earlier later : ℕ) (fs : List Firing) → AreTold net used earlier fs → later ≡ earlier + length fs → AreTold net used later []
told_next net used earlier later fs told e = record {
  unused = λ f p l. tt;
  used = λ f p l un. (let a = told.most (place_number used.base.items f) in absurd (omega arith));
  most = λ x. (let a = told.most x in omega arith);
}

-- at the start
pub told_first : (net : Net) (used : Used) → ((x : ℕ) → get_or used.last.items x 0 ≡ 0) → AreTold net used 0 []
told_first net used h = record {
  unused = λ f p l. tt;
  used = λ f p l un. (let a = h (place_number used.base.items f) in absurd (omega arith));
  most = λ x. (let a = h x in omega arith);
}
