-- The ports of queues that have tokens are marked, so others are passed over.
use Rattle.std.proofs.Common.{◌≡◌, ◌≢◌, ℕ, suc, ◌+◌, ◌-◌, ◌*◌, ◌/◌, ◌%◌, ◌<◌, ◌≤◌, ◌&&◌, ◌⊎◌, inl, inr, Bool, true, false, cond, Option, Some, None, is_some, min, IfSome, List, [], ◌∷◌, ◌++◌, length, get_or, refl, sym, ap, subst, ◌∙◌, arith, eq-eqb, ne_eqb, ◌||◌, nat_le, nat_lt}
use Rattle.std.proofs.Math.Nat.{min-eq_left}
use Rattle.std.proofs.lemmas.Bool.{cases_lt, cases_eq, false≢true, le-ltb, lt-leb}
use Rattle.std.proofs.lemmas.List.{get_or_append_left, get_or_past}
use Rattle.net_types.specs.declared.net.Net.{Net}
use Rattle.net_types.specs.declared.net.Unit.{Unit as Kind}
use Rattle.net_types.specs.declared.net.Unit.TheVariants.{Lsq}
use Rattle.net_types.specs.declared.firing.Act.{Act}
use Rattle.net_types.specs.declared.firing.Act.TheVariants.{Addr, Data}
use Rattle.net_types.specs.declared.firing.Firing.{Firing}
use Rattle.net_types.specs.Nets.{into, out_of, kind_of, chan_at, firing}
use Rattle.net_types.specs.Order.{act_rank, act_number}
use Rattle.lsq_core.specs.Bits.{has}
use Rattle.lsq_core.specs.Laws.{act_place}
use Rattle.lsq_core.specs.Views.{QueueView}
use Rattle.net_core.specs.declared.plan.Laid.{Laid}
use Rattle.net_core.specs.declared.plan.Moves.{Moves}
use Rattle.net_core.specs.declared.plan.Plan.{Plan}
use Rattle.net_core.specs.declared.plan.Put.{Put}
use Rattle.net_core.specs.Fire.{State, Effect, head_at, tokens_at, first, enabled, moved, applied, puts_on, takes_from, added, taken}
use Rattle.net_core.specs.Plans.{laid_of, moves_of}
use Rattle.net_core.specs.States.{state_of, IsPlanOf}
use Rattle.net_core.proofs.RowLemmas.{get-changed}
use Rattle.net_core.proofs.ApartLemmas.{into-at, is_at-inv}
use Rattle.net_core.proofs.GoesLemmas.{goes}
use Rattle.cycle_engine.specs.declared.engine.Engine.{Engine}
use Rattle.cycle_engine.specs.declared.used.Used.{Used}
use Rattle.cycle_engine.specs.declared.fed.Fed.{Fed}
use Rattle.cycle_engine.specs.declared.fed.Lead.{Lead}
use Rattle.cycle_engine.specs.declared.fed.Lead.TheVariants as lead
use Rattle.cycle_engine.specs.Cycles.{Dated, after_in, place_of}
use Rattle.cycle_engine.specs.private.Trials.{dated_of}
use Rattle.cycle_engine.specs.private.Control.{control_places_in, ports_in}
use Rattle.cycle_engine.specs.private.Fed.{AreLeads, HasFed, HasNoneFed, IsFedBy, IsLeft, IsMarkedPort, IsNextFed, IsPortMarked, KeepsFed, LosesFed, act_of, few_ports, first_mark, lead_of, mark_number, port_at, port_lead, port_place, shift}
use Rattle.cycle_engine.specs.private.Places.{HasNoneFrom, IsNextNumber, IsViewOf}
use Rattle.cycle_engine.specs.private.Used.{AreNumbered, Fits, HasPlace, IsStamped, place_number}
use Rattle.cycle_engine.proofs.MarkLemmas.{get_last}
use Rattle.cycle_engine.proofs.NoteLemmas.{effect_in, after_is}
use Rattle.cycle_engine.proofs.PlaceLemmas.{act_is, place_fixed, place_rank}
use Rattle.cycle_engine.proofs.TokenLemmas.{no_addr, no_data}
use Rattle.cycle_engine.proofs.UsedLemmas.{effect_place, number_more, same_number}

-- ---- what channels lead to

-- for the first channels is told what they lead to
abbrev pub LeadsAreTold : Net → List Lead → ℕ → Type 0
LeadsAreTold net leads n = (d : ℕ) → d < n → get_or leads d lead.Other ≡ lead_of net d

pub leads_more : (net : Net) (xs : List Lead) (x : Lead) (n : ℕ) → length xs ≡ n → x ≡ lead_of net n → LeadsAreTold net xs n → LeadsAreTold net (xs ++ x ∷ []) (n + 1)
leads_more net xs x n long e h d l = by (cases_lt d n)
  where
    by : (d < n) ⊎ (n ≤ d) → get_or (xs ++ x ∷ []) d lead.Other ≡ lead_of net d
    by (inl m) = get_or_append_left xs (x ∷ []) lead.Other d (omega arith) ∙ h d m
    by (inr m) =
        let i : d ≡ length xs = omega arith in
        let j : n ≡ d = omega arith in
        ap (λ k. get_or (xs ++ x ∷ []) k lead.Other) i ∙ (get_last xs x lead.Other ∙ (e ∙ ap (lead_of net) j))

even_lead : (p : ℕ) → port_lead (2 * p) ≡ lead.Addr p
even_lead p =
    let a : 2 * p % 2 ≡ 0 = omega arith in
    let b : 2 * p / 2 ≡ p = omega arith in
    ap (λ x. cond x (lead.Addr (2 * p / 2)) (lead.Data (2 * p / 2))) (eq-eqb _ _ a) ∙ ap lead.Addr b

odd_lead : (p : ℕ) → port_lead (1 + 2 * p) ≡ lead.Data p
odd_lead p =
    let a : (1 + 2 * p) % 2 ≡ 1 = omega arith in
    let b : (1 + 2 * p) / 2 ≡ p = omega arith in
    ap (λ x. cond x (lead.Addr ((1 + 2 * p) / 2)) (lead.Data ((1 + 2 * p) / 2))) (ne_eqb _ _ (λ z. omega arith)) ∙ ap lead.Data b

is_noted : (ports p controls : ℕ) → few_ports < ports → controls ≤ p → (nat_le ports few_ports || nat_lt p controls) ≡ false
is_noted ports p controls many l = ap (λ b. b || nat_lt p controls) (lt-leb ports few_ports many) ∙ le-ltb p controls l

-- the place from which an act at a port of a queue of many takes is for that act, and comes after the control places
port_there : (k : Kind) (a : Act) (p : ℕ) → Fits k a → few_ports < ports_in k → port_place k a ≡ Some p → (act_of (port_at k p) ≡ Some a) × (control_places_in k ≤ p)
port_there (Lsq x d ps gs f) (Addr j) p fits many e =
    let z : suc (length gs) + 0 + 2 * j ≡ p = cc in
    let n : p - suc (length gs) ≡ 2 * j = omega arith in
    (ap (λ b. act_of (cond b lead.Other (port_lead (p - suc (length gs))))) (is_noted (length ps) p (suc (length gs)) many (omega arith)) ∙ ap act_of (ap port_lead n ∙ even_lead j), omega arith)
port_there (Lsq x d ps gs f) (Data j) p fits many e =
    let z : suc (length gs) + 1 + 2 * j ≡ p = cc in
    let n : p - suc (length gs) ≡ 1 + 2 * j = omega arith in
    (ap (λ b. act_of (cond b lead.Other (port_lead (p - suc (length gs))))) (is_noted (length ps) p (suc (length gs)) many (omega arith)) ∙ ap act_of (ap port_lead n ∙ odd_lead j), omega arith)
port_there _ (Addr j) p fits many e = absurd fits
port_there _ (Data j) p fits many e = absurd fits
port_there _ _ p fits many e = cc

and_no : (a b : Bool) → b ≡ false → (a && b) ≡ false
and_no true b e = e
and_no false b e = refl

-- so the channel that goes there leads to that act
lead_there : (net : Net) (d u p : ℕ) (a : Act) → (chan_at net d).to.unit ≡ u → (chan_at net d).to.place ≡ p → Fits (kind_of net u) a → few_ports < ports_in (kind_of net u) → port_place (kind_of net u) a ≡ Some p → act_of (lead_of net d) ≡ Some a
lead_there net d u p a eu ep fits many i =
    let t = port_there (kind_of net u) a p fits many i in
    let q : control_places_in (kind_of net (chan_at net d).to.unit) ≡ control_places_in (kind_of net u) = ap (λ w. control_places_in (kind_of net w)) eu in
    let l : nat_lt (chan_at net d).to.place (control_places_in (kind_of net (chan_at net d).to.unit)) ≡ false = (let m = t.1 in le-ltb _ _ (omega arith)) in
    ap (λ b. act_of (cond b lead.Control (port_at (kind_of net (chan_at net d).to.unit) (chan_at net d).to.place))) (and_no (chan_at net d).ctl _ l)
    ∙ (ap (λ w. act_of (port_at (kind_of net w) (chan_at net d).to.place)) eu ∙ (ap (λ y. act_of (port_at (kind_of net u) y)) ep ∙ t.0))

-- where a channel leads to a port, the act that takes what comes there is marked
pub marked_there : (net : Net) (base : List ℕ) (d : ℕ) (b a : Act) (l : Lead) (fed : Fed) → lead_of net d ≡ l → act_of (lead_of net d) ≡ Some a → act_of l ≡ Some b → IsMarkedPort base (firing (chan_at net d).to.unit b) fed → IsMarkedPort base (firing (chan_at net d).to.unit a) fed
marked_there net base d b a l fed e i t k =
    let q : Some b ≡ Some a = sym t ∙ (sym (ap act_of e) ∙ i) in
    let z : b ≡ a = cc in
    let P : Act → Type 0 = λ x. IsMarkedPort base (firing (chan_at net d).to.unit x) fed in
    subst P z k

-- ---- marks after a firing

-- a mark was taken away, and then one set
pub fed_by : (net : Net) (s : State) (base other : List ℕ) (f : Firing) (at : ℕ) (laid : Option Laid) (old mid new : Fed) → other ≡ base → IsLeft net s f at old mid → KeepsFed mid new → IfSome laid (λ w. IsPortMarked net other w.chan new)
    → IsFedBy net s base f at laid old new
fed_by net s base other f at laid old mid new e left kept put = record {
  left = record {
    shape = record { leads = kept.shape.leads ∙ left.shape.leads; places = kept.shape.places ∙ left.shape.places; size = kept.shape.size ∙ left.shape.size };
    kept = λ x h. on x (left.kept x h);
  };
  put = (let P : List ℕ → Type 0 = λ b. IfSome laid (λ w. IsPortMarked net b w.chan new) in subst P e put);
}
  where
    on : (x : ℕ) → (has mid.marked x ≡ true) ⊎ ((x ≡ shift old.places f.act + at) × LosesFed net s f) → (has new.marked x ≡ true) ⊎ ((x ≡ shift old.places f.act + at) × LosesFed net s f)
    on x (inl h) = inl (kept.kept x h)
    on x (inr h) = inr h

first_taken : (b : Bool) (xs : List ℕ) → is_some (first (taken b xs)) ≡ true → is_some (first xs) ≡ true
first_taken true [] e = cc
first_taken false [] e = cc
first_taken true (x ∷ xs) e = refl
first_taken false (x ∷ xs) e = refl

some_within : (xs : List (List ℕ)) (d : ℕ) → is_some (first (get_or xs d [])) ≡ true → d < length xs
some_within xs d e = by (cases_lt d (length xs))
  where
    by : (d < length xs) ⊎ (length xs ≤ d) → d < length xs
    by (inl l) = l
    by (inr l) = let z : is_some (first []) ≡ true = ap (λ ys. is_some (first ys)) (sym (get_or_past xs d [] l)) ∙ e in cc

none_some : {p : ℕ} → None ≡ Some p → ⊥
none_some e = cc

port_rank : (k : Kind) (a : Act) (p : ℕ) → port_place k a ≡ Some p → act_rank a ≢ 6
port_rank k (Addr j) p e = λ z. omega arith
port_rank k (Data j) p e = λ z. omega arith
port_rank k _ p e = absurd (none_some e)

act_same : (k : Kind) (a b : Act) (p : ℕ) → port_place k a ≡ Some p → act_place b ≡ act_place a → b ≡ a
act_same k a b p e same =
    let ra = port_rank k a p e in
    let r : act_rank b ≡ act_rank a = sym (place_rank b) ∙ (ap act_rank same ∙ place_rank a) in
    sym (place_fixed b (λ z. ra (sym r ∙ z))) ∙ (same ∙ place_fixed a ra)

shift_is : (n : ℕ) (a : Act) → (shift n a ≡ 0) ⊎ (shift n a ≡ n)
shift_is n (Data j) = inr refl
shift_is n _ = inl refl

-- marks of two places at ports are one only where the places are
same_mark : (net : Net) (base : List ℕ) (n : ℕ) (f g : Firing) → AreNumbered net base n → HasPlace net f → HasPlace net g → mark_number n base g ≡ shift n f.act + place_number base f → place_of f ≡ place_of g
same_mark net base n f g numbers pf pg e = same_number net base n f g numbers pf pg (by (shift_is n f.act) (shift_is n g.act))
  where
    lf : place_number base f < n
    lf = numbers.most f pf

    lg : place_number base g < n
    lg = numbers.most g pg

    by : (shift n f.act ≡ 0) ⊎ (shift n f.act ≡ n) → (shift n g.act ≡ 0) ⊎ (shift n g.act ≡ n) → place_number base f ≡ place_number base g
    by (inl x) (inl y) = omega arith
    by (inl x) (inr y) = absurd (omega arith)
    by (inr x) (inl y) = absurd (omega arith)
    by (inr x) (inr y) = omega arith

module _ (net : Net) (s t : State) (x : Effect) (f : Firing) (base : List ℕ) (n : ℕ) (old new : Fed) (st : t ≡ applied net f.unit x s) (long : length s.tokens ≡ length net.chans) (then_long : length t.tokens ≡ length net.chans)
    (numbers : AreNumbered net base n) (place : HasPlace net f) (fed : IsFedBy net t base f (place_number base f) (laid_of net f.unit x.put) old new) (places : old.places ≡ n) where
  module _ (u p : ℕ) (a : Act) (there : HasPlace net (firing u a)) (many : few_ports < ports_in (kind_of net u)) (i : port_place (kind_of net u) a ≡ Some p) (h : is_some (head_at net t u p) ≡ true) where
    within : into u p net.chans < length net.chans
    within = (let w = some_within t.tokens (into u p net.chans) h in omega arith)

    tokens : tokens_at t (into u p net.chans) ≡ moved net f.unit x (into u p net.chans) (tokens_at s (into u p net.chans))
    tokens = ap (λ (y : State). tokens_at y (into u p net.chans)) st ∙ get-changed (moved net f.unit x) 0 s.tokens (into u p net.chans) (into u p net.chans) (omega (arith, within)) (omega (arith, within))

    below : place_number base (firing u a) < n
    below = numbers.most (firing u a) there

    -- the token was there before
    was : puts_on net f.unit x.put (into u p net.chans) ≡ None → (is_some (head_at net s u p) ≡ true → has old.marked (mark_number n base (firing u a)) ≡ true) → has new.marked (mark_number n base (firing u a)) ≡ true
    was none before = by (fed.left.kept (mark_number n base (firing u a)) (before then))
      where
        then : is_some (head_at net s u p) ≡ true
        then = first_taken (takes_from net f.unit x (into u p net.chans)) (tokens_at s (into u p net.chans))
            (ap (λ o. is_some (first (added o (taken (takes_from net f.unit x (into u p net.chans)) (tokens_at s (into u p net.chans)))))) (sym none) ∙ (ap (λ ys. is_some (first ys)) (sym tokens) ∙ h))

        by : (has new.marked (mark_number n base (firing u a)) ≡ true) ⊎ ((mark_number n base (firing u a) ≡ shift old.places f.act + place_number base f) × LosesFed net t f) → has new.marked (mark_number n base (firing u a)) ≡ true
        by (inl k) = k
        by (inr k) =
            let e : mark_number n base (firing u a) ≡ shift n f.act + place_number base f = k.0 ∙ ap (λ m. shift m f.act + place_number base f) places in
            let q : place_of f ≡ place_of (firing u a) = same_mark net base n f (firing u a) numbers place there e in
            let v : f.unit ≡ u = ap (λ (g : Firing). g.unit) q in
            let b : f.act ≡ a = act_same (kind_of net u) a f.act p i (ap (λ (g : Firing). g.act) q) in
            let j : port_place (kind_of net f.unit) f.act ≡ Some p = ap (λ w. port_place (kind_of net w) f.act) v ∙ (ap (port_place (kind_of net u)) b ∙ i) in
            absurd (false≢true (sym (k.1 p j) ∙ (ap (λ w. is_some (head_at net t w p)) v ∙ h)))

    -- or it was put
    put : (w : Put) → x.put ≡ Some w → into u p net.chans ≡ out_of f.unit w.place net.chans → has new.marked (mark_number n base (firing u a)) ≡ true
    put w o e =
        let end = is_at-inv (chan_at net (into u p net.chans)).to u p (into-at u p net.chans within) in
        let L : Option Laid → Type 0 = λ l. IfSome l (λ y. IsPortMarked net base y.chan new) in
        let m : IsPortMarked net base (out_of f.unit w.place net.chans) new = subst L (ap (laid_of net f.unit) o) fed.put in
        let D : ℕ → Type 0 = λ d. IsPortMarked net base d new in
        let leads : act_of (lead_of net (into u p net.chans)) ≡ Some a = lead_there net (into u p net.chans) u p a end.0 end.1 there.fits many i in
        let U : ℕ → Type 0 = λ v. IsMarkedPort base (firing v a) new in
        let k : IsMarkedPort base (firing u a) new = subst U end.0 (subst D (sym e) m a leads) in
        let same : new.places ≡ n = fed.left.shape.places ∙ places in
        ap (λ y. has new.marked (mark_number y base (firing u a))) (sym same) ∙ k (omega (arith, below))

    pub then_marked : (is_some (head_at net s u p) ≡ true → has old.marked (mark_number n base (firing u a)) ≡ true) → has new.marked (mark_number n base (firing u a)) ≡ true
    then_marked before = by x.put refl
      where
        by : (o : Option Put) → x.put ≡ o → has new.marked (mark_number n base (firing u a)) ≡ true
        by None o = was (ap (λ y. puts_on net f.unit y (into u p net.chans)) o) before
        by (Some w) o = at (cases_eq (into u p net.chans) (out_of f.unit w.place net.chans))
          where
            at : (into u p net.chans ≡ out_of f.unit w.place net.chans) ⊎ (into u p net.chans ≢ out_of f.unit w.place net.chans) → has new.marked (mark_number n base (firing u a)) ≡ true
            at (inl e) = put w o e
            at (inr ne) = was (ap (λ y. puts_on net f.unit y (into u p net.chans)) o ∙ ap (λ b. cond b (Some w.value) None) (ne_eqb _ _ ne)) before

-- so after a firing of the engine
pub fed_made : (net : Net) (c : ℕ) (old new : Engine) (f : Firing) (p : Plan) (m : Moves) (count : ℕ) → length (state_of old.state).tokens ≡ length net.chans → length (state_of new.state).tokens ≡ length net.chans
    → IsPlanOf net old.state f (Some p) → m ≡ moves_of net f.unit p → AreNumbered net old.used.base.items (length old.used.last.items) → HasPlace net f → dated_of new ≡ after_in net c (dated_of old) f
    → IsStamped (place_number old.used.base.items f) count old.used new.used → IsFedBy net (state_of new.state) old.used.base.items f (place_number old.used.base.items f) m.laid old.fed new.fed
    → HasFed net (state_of old.state) old.used old.fed → HasFed net (state_of new.state) new.used new.fed
fed_made net c old new f p m count long then_long is s numbers place after stamped fed was =
    let x : Effect = effect_in net old f p in
    let base : List ℕ = old.used.base.items in
    let n : ℕ = length old.used.last.items in
    let st : state_of new.state ≡ applied net f.unit x (state_of old.state) = ap (λ (d : Dated). d.state) (after_is net c old new f p is after) in
    let M : Moves → Type 0 = λ y. IsFedBy net (state_of new.state) base f (place_number base f) y.laid old.fed new.fed in
    let by = then_marked net (state_of old.state) (state_of new.state) x f base n old.fed new.fed st long then_long numbers place (subst M s fed) was.places in
    let places : new.fed.places ≡ n = fed.left.shape.places ∙ was.places in
    let k : (u a : _) → mark_number new.fed.places new.used.base.items (firing u a) ≡ mark_number n base (firing u a) = λ u a. ap (λ y. mark_number y new.used.base.items (firing u a)) places ∙ ap (λ (v : _). mark_number n v.items (firing u a)) stamped.base in
    let b : (u a : _) → mark_number old.fed.places base (firing u a) ≡ mark_number n base (firing u a) = λ u a. ap (λ y. mark_number y base (firing u a)) was.places in
    record {
      leads = (let L : List Lead → Type 0 = AreLeads net in subst L (sym (ap (λ (v : _). v.items) fed.left.shape.leads)) was.leads);
      sized = (let r = was.sized.room in let q = was.sized.small in let z = fed.left.shape.size in let y = fed.left.shape.places in record { room = omega arith; small = omega arith });
      places = places ∙ sym stamped.long;
      each = λ u q a there many i h. ap (has new.fed.marked) (k u a) ∙ by u q a there many i h (λ g. ap (has old.fed.marked) (sym (b u a)) ∙ was.each u q a there many i g);
    }

-- ---- ports that are passed over

module _ (net : Net) (s : State) (used : Used) (fed : Fed) (u : ℕ) (q : QueueView) (v : IsViewOf net s u q) (within : u < length net.units) (has_fed : HasFed net s used fed) (numbers : AreNumbered net used.base.items (length used.last.items))
    (many : few_ports < ports_in (kind_of net u)) where
  -- an act of a port that is enabled is below the number of ports, and its place is marked
  record IsSeen (first n : ℕ) : Type 0 where
    pub below : n < ports_in (kind_of net u)
    pub room : first + 4 * n < 2 * fed.places
    pub marked : has fed.marked (first + 4 * n) ≡ true

  at_place : (a : Act) → enabled net s (firing u a) → HasPlace net (firing u a)
  at_place a n = let g = goes net s (firing u a) n in effect_place net s (firing u a) g.0 within (λ l. v.0) g.1.is

  ports_fit : (a : Act) (j n : ℕ) → Fits (kind_of net u) a → a ≡ Addr j ⊎ a ≡ Data j → j < ports_in (kind_of net u)
  ports_fit a j n fits (inl e) = (let P : Act → Type 0 = Fits (kind_of net u) in let K : Kind → Type 0 = λ k. Fits k (Addr j) in let l : j < length v.0.view.ports = subst K v.0.shape (subst P e fits) in let z : ports_in (kind_of net u) ≡ length v.0.view.ports = ap ports_in v.0.shape in omega arith)
  ports_fit a j n fits (inr e) = (let P : Act → Type 0 = Fits (kind_of net u) in let K : Kind → Type 0 = λ k. Fits k (Data j) in let l : j < length v.0.view.ports = subst K v.0.shape (subst P e fits) in let z : ports_in (kind_of net u) ≡ length v.0.view.ports = ap ports_in v.0.shape in omega arith)

  seen_addr : (j : ℕ) → enabled net s (firing u (Addr j)) → IsSeen (first_mark fed used.base.items u (Addr 0)) j
  seen_addr j n = by (is_some (head_at net s u (control_places_in (kind_of net u) + 0 + 2 * j))) refl
    where
      place : HasPlace net (firing u (Addr j))
      place = at_place (Addr j) n

      number : place_number used.base.items (firing u (Addr j)) ≡ get_or used.base.items u 0 + (4 * j + 4)
      number = number_more used.base.items (firing u (Addr j)) (λ z. omega arith)

      most : place_number used.base.items (firing u (Addr j)) < length used.last.items
      most = numbers.most (firing u (Addr j)) place

      same : first_mark fed used.base.items u (Addr 0) + 4 * j ≡ mark_number fed.places used.base.items (firing u (Addr j))
      same = let p = has_fed.places in let m : min (get_or used.base.items u 0) fed.places ≡ get_or used.base.items u 0 = min-eq_left (omega (arith, number, most)) in omega (arith, number)

      by : (b : Bool) → is_some (head_at net s u (control_places_in (kind_of net u) + 0 + 2 * j)) ≡ b → IsSeen (first_mark fed used.base.items u (Addr 0)) j
      by false e = absurd (no_addr net s u q v j (control_places_in (kind_of net u)) refl e (Addr j) refl refl n)
      by true e = record {
        below = ports_fit (Addr j) j 0 place.fits (inl refl);
        room = (let p = has_fed.places in omega (arith, same, most));
        marked = ap (has fed.marked) same ∙ has_fed.each u _ (Addr j) place many refl e;
      }

  seen_data : (j : ℕ) → enabled net s (firing u (Data j)) → IsSeen (first_mark fed used.base.items u (Data 0)) j
  seen_data j n = by (is_some (head_at net s u (control_places_in (kind_of net u) + 1 + 2 * j))) refl
    where
      place : HasPlace net (firing u (Data j))
      place = at_place (Data j) n

      number : place_number used.base.items (firing u (Data j)) ≡ get_or used.base.items u 0 + (4 * j + 5)
      number = number_more used.base.items (firing u (Data j)) (λ z. omega arith)

      most : place_number used.base.items (firing u (Data j)) < length used.last.items
      most = numbers.most (firing u (Data j)) place

      same : first_mark fed used.base.items u (Data 0) + 4 * j ≡ mark_number fed.places used.base.items (firing u (Data j))
      same = let p = has_fed.places in let m : min (get_or used.base.items u 0) fed.places ≡ get_or used.base.items u 0 = min-eq_left (omega (arith, number, most)) in omega (arith, number)

      by : (b : Bool) → is_some (head_at net s u (control_places_in (kind_of net u) + 1 + 2 * j)) ≡ b → IsSeen (first_mark fed used.base.items u (Data 0)) j
      by false e = absurd (no_data net s u q v j (control_places_in (kind_of net u)) refl e (Data j) refl refl n)
      by true e = record {
        below = ports_fit (Data j) j 0 place.fits (inr refl);
        room = (let p = has_fed.places in omega (arith, same, most));
        marked = ap (has fed.marked) same ∙ has_fed.each u _ (Data j) place many refl e;
      }

  seen : (kind a : Act) → (kind ≡ Addr 0) ⊎ (kind ≡ Data 0) → act_rank a ≡ act_rank kind → enabled net s (firing u a) → IsSeen (first_mark fed used.base.items u kind) (act_number (act_place a))
  seen kind a (inl e) r n =
      let k : a ≡ Addr (act_number a) = act_is 4 a (r ∙ ap act_rank e) in
      let P : Act → Type 0 = λ b. enabled net s (firing u b) in
      let m : act_number (act_place a) ≡ act_number a = ap (λ b. act_number (act_place b)) k in
      let N : ℕ → Type 0 = IsSeen (first_mark fed used.base.items u kind) in
      let K : Act → Type 0 = λ b. IsSeen (first_mark fed used.base.items u b) (act_number a) in
      subst N (sym m) (subst K (sym e) (seen_addr (act_number a) (subst P k n)))
  seen kind a (inr e) r n =
      let k : a ≡ Data (act_number a) = act_is 5 a (r ∙ ap act_rank e) in
      let P : Act → Type 0 = λ b. enabled net s (firing u b) in
      let m : act_number (act_place a) ≡ act_number a = ap (λ b. act_number (act_place b)) k in
      let N : ℕ → Type 0 = IsSeen (first_mark fed used.base.items u kind) in
      let K : Act → Type 0 = λ b. IsSeen (first_mark fed used.base.items u b) (act_number a) in
      subst N (sym m) (subst K (sym e) (seen_data (act_number a) (subst P k n)))

  pub fed_next : (kind : Act) → (kind ≡ Addr 0) ⊎ (kind ≡ Data 0) → (from n : ℕ) → IsNextFed fed (first_mark fed used.base.items u kind) from n → IsNextNumber net s u kind from n
  fed_next kind is from n h = record {
    from_on = h.from_on;
    none = λ b r f l m. (let k = seen kind b is r m in false≢true (sym (h.none (act_number (act_place b)) f l k.room) ∙ k.marked));
  }

  pub fed_none : (kind : Act) → (kind ≡ Addr 0) ⊎ (kind ≡ Data 0) → (from to : ℕ) → to ≡ ports_in (kind_of net u) → HasNoneFed fed (first_mark fed used.base.items u kind) from to → HasNoneFrom net s u kind from
  fed_none kind is from to e h b r f m = let k = seen kind b is r m in let l = k.below in false≢true (sym (h (act_number (act_place b)) f (omega arith) k.room) ∙ k.marked)

  -- no act has the number of a port past the last
  pub fed_past : (kind : Act) → (kind ≡ Addr 0) ⊎ (kind ≡ Data 0) → (from : ℕ) → ports_in (kind_of net u) ≤ from → HasNoneFrom net s u kind from
  fed_past kind is from l b r f m = let k = seen kind b is r m in let z = k.below in omega arith
