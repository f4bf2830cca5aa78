-- What holds the firings of an idle sweep back.
use Rattle.std.proofs.Common.{◌≡◌, ◌⊎◌, inl, inr, ℕ, suc, ◌^◌, ◌<◌, ◌≤◌, max, true, Option, Some, None, IsSome, IsSomeAnd, List, [], ◌∷◌, length, get_or, refl, ap, ◌∙◌, sym, subst, arith}
use Rattle.std.proofs.lemmas.Bool.{cases_lt, cases_eq}
use Rattle.elastic_link.specs.declared.message.Token.{Token}
use Rattle.elastic_link.specs.declared.put_end.PutEnd.{PutEnd}
use Rattle.elastic_link.specs.declared.take_end.TakeEnd.{TakeEnd}
use Rattle.elastic_link.specs.Held.{tokens_of}
use Rattle.elastic_link.specs.Credits.{newest_stamp}
use Rattle.elastic_link.specs.Ends.{token_held, credits_in_hand, messages_received}
use Rattle.net_types.specs.declared.net.Net.{Net}
use Rattle.net_types.specs.declared.firing.Firing.{Firing}
use Rattle.net_types.specs.Nets.{into, out_of, chan_at, kind_of, uses}
use Rattle.net_check.specs.Checks.{IsChecked}
use Rattle.net_core.specs.declared.plan.Put.{Put}
use Rattle.net_core.specs.Fire.{State, Row, Stop, Look, Take, Fires, Effect, row, idle, at_array, setting, head_at, tokens_at, first, effect, effect_of, with_head, taking, has_room, enabled}
use Rattle.net_core.specs.States.{state_of}
use Rattle.net_core.specs.Uses.{used}
use Rattle.net_worker.specs.Local.{values}
use Rattle.net_worker.specs.Asking.{PutAsked, PutsAsked, TakesAsked, IsAsked}
use Rattle.net_worker.specs.Ends.{IsUnspent}
use Rattle.net_worker.specs.Ends as ends
use Rattle.net_worker.specs.Glances.{NoTokenAt, HoldsNone, PutLooked, PutsLooked, IsLooked, IsSeen}
use Rattle.net_worker.specs.Going.{base_of, IsRefused, IsAllHeld}
use Rattle.net_worker.specs.Offers.{greatest_in, held_stamp, ToldAt, ToldFor, NoCreditAt, NoSlotAt, IsNotOffered}
use Rattle.net_worker.specs.Offers as refusal
use Rattle.net_worker.specs.Plays.{putter, taker}
use Rattle.net_worker.specs.Sweeps.{asked, waits_at, waits, IsHeldBack, AllHeldBack}
use Rattle.net_worker.specs.Sweeps as cause
use Rattle.net_worker.specs.Waits.{IsLookedAll}
use Rattle.net_worker.specs.Workers.{owner_in, IsMadeOf, IsWhole, IsInto, IsOutOf, PutWaits, put_end, take_end, held_by}
use Rattle.net_worker.specs.declared.tables.Tables.{Tables}
use Rattle.net_worker.specs.declared.worker.Worker.{Worker}
use Rattle.net_worker.proofs.Asking.{held_asked, prefix_self, prefix_trans, none_some}
use Rattle.net_worker.proofs.Assembly.{room_held}
use Rattle.net_worker.proofs.Glancing.{asked_looked, puts_asked_looked, looked_same, looked_trans, same_whole, seen_later}

-- ---- rows without a head

asked_none : (o : Option ℕ) (q p : ℕ) (next : ℕ → Option ℕ) (h : ℕ → Option ℕ) → h q ≡ o → ((v : ℕ) → next v ≡ Some p → h p ≡ None) → asked o q next ≡ Some p → h p ≡ None
asked_none None q p next h is f k = (let z : q ≡ p = cc in ap h (sym z) ∙ is)
asked_none (Some v) q p next h is f k = f v k

waits_none : (r : Row) (h : ℕ → Option ℕ) (p : ℕ) → waits_at r h ≡ Some p → h p ≡ None
waits_none Stop h p w = cc
waits_none (Look q next) h p w = asked_none (h q) q p (λ v. waits_at (next v) h) h refl (λ v k. waits_none (next v) h p k) w
waits_none (Take q next) h p w = asked_none (h q) q p (λ v. waits_at (next v) h) h refl (λ v k. waits_none (next v) h p k) w
waits_none (Fires put own array strays) h p w = cc

asked_effect : (o : Option ℕ) (q p : ℕ) (next : ℕ → Option ℕ) (does : ℕ → Option Effect) → ((v : ℕ) → next v ≡ Some p → does v ≡ None) → asked o q next ≡ Some p → with_head o does ≡ None
asked_effect None q p next does f k = refl
asked_effect (Some v) q p next does f k = f v k

pub waits_effect : (r : Row) (h : ℕ → Option ℕ) (p : ℕ) → waits_at r h ≡ Some p → effect_of r h ≡ None
waits_effect Stop h p w = cc
waits_effect (Look q next) h p w = asked_effect (h q) q p (λ v. waits_at (next v) h) (λ v. effect_of (next v) h) (λ v k. waits_effect (next v) h p k) w
waits_effect (Take q next) h p w = asked_effect (h q) q p (λ v. waits_at (next v) h) (λ v. taking q (effect_of (next v) h)) (λ v k. ap (taking q) (waits_effect (next v) h p k)) w
waits_effect (Fires put own array strays) h p w = cc

-- ---- ends later

pub no_credit_since : (z o q : Option PutEnd) → PutLooked z o → NoCreditAt o q → NoCreditAt z q
no_credit_since None None q h k = absurd k
no_credit_since None (Some o) q h k = absurd h
no_credit_since (Some z) None q h k = absurd h
no_credit_since (Some z) (Some o) None h k = absurd k
no_credit_since (Some z) (Some o) (Some q) h (none, rose) = (none, omega (arith, h.messages_shown))

no_slot_since : (z o q : Option PutEnd) → PutLooked z o → NoSlotAt o q → NoSlotAt z q
no_slot_since None None q h k = absurd k
no_slot_since None (Some o) q h k = absurd h
no_slot_since (Some z) None q h k = absurd h
no_slot_since (Some z) (Some o) None h k = absurd k
no_slot_since (Some z) (Some o) (Some q) h k = omega (arith, h.slots_shown)

told_at_since : (z o q : Option PutEnd) (r : ℕ) → PutLooked z o → ToldAt o q r → ToldAt z q r
told_at_since None None q r h k = k
told_at_since None (Some o) q r h k = absurd h
told_at_since (Some z) None q r h k = absurd h
told_at_since (Some z) (Some o) q r h (ms, a, b, is) = (ms, prefix_trans _ _ ms h.received a, b, is)

told_for_since : (net : Net) (u : ℕ) (put : Option Put) (zs os qs : List (Option PutEnd)) (r : ℕ) → PutsLooked zs os → ToldFor net u put os qs r → ToldFor net u put zs qs r
told_for_since net u None zs os qs r h k = k
told_for_since net u (Some w) zs os qs r h k = told_at_since (get_or zs (out_of u w.place net.chans) None) (get_or os (out_of u w.place net.chans) None) (get_or qs (out_of u w.place net.chans) None) r (h.each (out_of u w.place net.chans)) k

greatest_asked : (net : Net) (es es' : List (Option TakeEnd)) (u : ℕ) (ps : List ℕ) → TakesAsked es es' → greatest_in net es' u ps ≡ greatest_in net es u ps
greatest_asked net es es' u [] h = refl
greatest_asked net es es' u (p ∷ ps) h =
    let x = ap held_stamp (held_asked (get_or es (into u p net.chans) None) (get_or es' (into u p net.chans) None) (h.each (into u p net.chans))) in
    let y = greatest_asked net es es' u ps h in
    omega arith

none_held : (o : Option TakeEnd) → first (values (held_by o)) ≡ None → HoldsNone o
none_held None q = tt
none_held (Some e) q = by (token_held e) refl q
  where
    by : (o : Option Token) → token_held e ≡ o → first (values (tokens_of o)) ≡ None → token_held e ≡ None
    by None is k = is
    by (Some x) is k = cc

-- a refused end is one of an output to another worker
no_credit_end : (o q : Option PutEnd) → NoCreditAt o q → IsSome q
no_credit_end None q k = absurd k
no_credit_end (Some p) None k = absurd k
no_credit_end (Some p) (Some q) k = refl

no_slot_end : (o q : Option PutEnd) → NoSlotAt o q → IsSome q
no_slot_end None q k = absurd k
no_slot_end (Some p) None k = absurd k
no_slot_end (Some p) (Some q) k = refl

pub into_or : (t : Tables) (j c : ℕ) → IsInto t j c ⊎ (IsInto t j c → ⊥)
into_or t j c = by (cases_lt c (length t.net.now.chans)) (cases_eq (taker t.net.now (owner_in t) c) j) (cases_eq (putter t.net.now (owner_in t) c) j)
  where
    by : (c < length t.net.now.chans) ⊎ (length t.net.now.chans ≤ c) → (taker t.net.now (owner_in t) c ≡ j) ⊎ (taker t.net.now (owner_in t) c ≡ j → ⊥) → (putter t.net.now (owner_in t) c ≡ j) ⊎ (putter t.net.now (owner_in t) c ≡ j → ⊥)
        → IsInto t j c ⊎ (IsInto t j c → ⊥)
    by (inr l) q r = inr (λ i. absurd (omega (arith, i.0)))
    by (inl l) (inr n) r = inr (λ i. n i.1)
    by (inl l) (inl q) (inl r) = inr (λ i. i.2 r)
    by (inl l) (inl q) (inr n) = inl (l, q, n)

-- ---- an idle sweep

not_out : (t : Tables) (a b : Worker) → b.number ≡ a.number → IsWhole t b → (c : ℕ) → put_end b c ≡ None → IsOutOf t a.number c → ⊥
not_out t a b number whole c is o = none_some PutEnd (subst IsSome is (whole.puts c (subst (λ k. IsOutOf t k c) (sym number) o)))

is_out : (t : Tables) (a b : Worker) → b.number ≡ a.number → IsMadeOf t b → (c : ℕ) (o : Option PutEnd) → put_end b c ≡ o → IsSome o → IsOutOf t a.number c
is_out t a b number now c None is k = cc
is_out t a b number now c (Some p) is k = subst (λ i. IsOutOf t i c) number (now.puts_out c p is).0

none_b : (b : Worker) (c : ℕ) (o q : Option PutEnd) → o ≡ None → put_end b c ≡ q → PutAsked o q → put_end b c ≡ None
none_b b c o None e is k = is
none_b b c None (Some q) e is k = absurd k
none_b b c (Some p) (Some q) e is k = cc

-- the worker looked at all channels from others, and each enabled firing was held back
module _ (t : Tables) (a b : Worker) (checked : IsChecked t.net.now) (whole : IsWhole t a) (now : IsMadeOf t b) (looked : IsLooked a b) (seen : (c : ℕ) → IsInto t a.number c → IsSeen c a b)
    (barred : (f : Firing) → owner_in t f.unit ≡ a.number → enabled t.net.now (state_of b.portion.state) f → (x : Effect) → effect t.net.now (state_of b.portion.state) f ≡ Some x → IsHeldBack t a b f) where
  abbrev s : State
  s = state_of b.portion.state

  whole_b : IsWhole t b
  whole_b = same_whole t a b (looked_same a b looked) whole

  no_token : (f : Firing) → owner_in t f.unit ≡ a.number → (p : ℕ) → head_at t.net.now s f.unit p ≡ None → IsInto t a.number (into f.unit p t.net.now.chans) → NoTokenAt (take_end a (into f.unit p t.net.now.chans)) (take_end b (into f.unit p t.net.now.chans))
  no_token f mine p h i =
      let c = into f.unit p t.net.now.chans in
      let ib = subst (λ k. IsInto t k c) (sym looked.number) i in
      let q : first (values (held_by (take_end b c))) ≡ None = ap first (sym (now.held c ib) ∙ now.sees.into c ib.1) ∙ h in
      seen c i (none_held (take_end b c) q)

  module _ (f : Firing) (mine : owner_in t f.unit ≡ a.number) where
    abbrev Cause : Type 0
    Cause = IsHeldBack t a b f

    of_enabled : (x : Effect) → effect t.net.now s f ≡ Some x → has_room t.net.now s f.unit x.put → Cause
    of_enabled x does room = barred f mine (subst (λ o. IsSomeAnd o (λ y. has_room t.net.now s f.unit y.put)) (sym does) room) x does

    of_effect : (x : Effect) → effect t.net.now s f ≡ Some x → (o : Option Put) → x.put ≡ o → Cause
    of_effect x does None is = of_enabled x does (subst (has_room t.net.now s f.unit) (sym is) tt)
    of_effect x does (Some w) is = by (put_end b c) refl
      where
        c : ℕ
        c = out_of f.unit w.place t.net.now.chans

        room : (o : Option PutEnd) → put_end b c ≡ o → Rattle.net_worker.specs.Offers.RoomAt t.net.now s c o → Cause
        room o e r = of_enabled x does (room_held t b now checked f.unit (mine ∙ sym looked.number) x.put (subst (λ p. Rattle.net_worker.specs.Offers.RoomFor t.net.now s f.unit p b.puts.items) (sym is) (subst (Rattle.net_worker.specs.Offers.RoomAt t.net.now s c) (sym e) r)))

        by : (o : Option PutEnd) → put_end b c ≡ o → Cause
        by (Some p) e = room (Some p) e tt
        by None e =
            elim (cases_lt (length (tokens_at s c)) (chan_at t.net.now c).slots) [
              | inl l ↦ room None e l
              | inr l ↦ cause.inner_output x w does is (not_out t a b looked.number whole_b c e) l
            ]

    of_waits : effect t.net.now s f ≡ None → (o : Option ℕ) → waits t.net.now s f ≡ o → Cause
    of_waits none None is = cause.stops none is
    of_waits none (Some p) is =
        let h = waits_none (row (kind_of t.net.now f.unit) f.act (get_or s.own f.unit idle) (at_array s.arrays (uses (kind_of t.net.now f.unit))) (setting t.net.now s)) (head_at t.net.now s f.unit) p is in
        elim (into_or t a.number (into f.unit p t.net.now.chans)) [
          | inl i ↦ cause.no_token p is i (no_token f mine p h i)
          | inr i ↦ cause.inner_input p is i
        ]

    held_back : (o : Option Effect) → effect t.net.now s f ≡ o → Cause
    held_back None is = of_waits is (waits t.net.now s f) refl
    held_back (Some x) is = of_effect x is x.put refl

  all_barred : AllHeldBack t a b
  all_barred f mine = held_back f mine (effect t.net.now (state_of b.portion.state) f) refl

-- each enabled firing was tried and refused
module _ (t : Tables) (a n b : Worker) (checked : IsChecked t.net.now) (whole : IsWhole t a) (now : IsMadeOf t b) (looked : IsLooked a n) (seen : (c : ℕ) → IsInto t a.number c → IsSeen c a n) (all : IsAllHeld t n b) where
  looked_b : IsLooked a b
  looked_b = looked_trans a n b looked (asked_looked n b all.asked)

  whole_n : IsWhole t b
  whole_n = same_whole t a b (looked_same a b looked_b) whole

  state_n : state_of n.portion.state ≡ state_of b.portion.state
  state_n = ap (λ p. state_of p.state) (sym all.asked.portion)

  module _ (f : Firing) (mine : owner_in t f.unit ≡ a.number) (x : Effect) (does : effect t.net.now (state_of b.portion.state) f ≡ Some x) where
    base_is : base_of t n f ≡ max b.clock (greatest_in t.net.now b.takes.items f.unit (used t.net.now (state_of b.portion.state) f))
    base_is =
        let x = greatest_asked t.net.now n.takes.items b.takes.items f.unit (used t.net.now (state_of b.portion.state) f) all.asked.takes in
        let y : base_of t n f ≡ max n.clock (greatest_in t.net.now n.takes.items f.unit (used t.net.now (state_of b.portion.state) f)) = ap (λ k. max n.clock (greatest_in t.net.now n.takes.items f.unit (used t.net.now k f))) state_n in
        omega (arith, all.asked.clock)

    of_refusal : IsNotOffered t.net.now (state_of b.portion.state) f.unit x.put (base_of t n f) n.puts.items b.puts.items → IsHeldBack t a b f
    of_refusal (refusal.no_room w is e l) =
        let c = out_of f.unit w.place t.net.now.chans in
        cause.inner_output x w does is (not_out t a b looked_b.number whole_n c (none_b b c (put_end n c) (put_end b c) e refl (all.asked.puts.each c))) l
    of_refusal (refusal.no_credit w is k) =
        let c = out_of f.unit w.place t.net.now.chans in
        cause.no_credit x w does is (is_out t a b looked_b.number now c (put_end b c) refl (no_credit_end (put_end n c) (put_end b c) k)) (no_credit_since (put_end a c) (put_end n c) (put_end b c) (looked.puts.each c) k)
    of_refusal (refusal.no_slot w is k) =
        let c = out_of f.unit w.place t.net.now.chans in
        cause.no_slot x w does is (is_out t a b looked_b.number now c (put_end b c) refl (no_slot_end (put_end n c) (put_end b c) k)) (no_slot_since (put_end a c) (put_end n c) (put_end b c) (looked.puts.each c) k)
    of_refusal (refusal.late r told l) =
        cause.late x r does (told_for_since t.net.now f.unit x.put a.puts.items n.puts.items b.puts.items r looked.puts told) (omega (arith, base_is))

    refused : enabled t.net.now (state_of b.portion.state) f → IsHeldBack t a b f
    refused e =
        let r = all.refused f (mine ∙ sym looked.number) (subst (λ k. enabled t.net.now k f) (sym state_n) e) x (ap (λ k. effect t.net.now k f) state_n ∙ does) in
        of_refusal (subst (λ k. IsNotOffered t.net.now k f.unit x.put (base_of t n f) n.puts.items b.puts.items) state_n r)

  pub all_held_back : AllHeldBack t a b
  all_held_back = all_barred t a b checked whole now looked_b (λ c i. seen_later c a n b (seen c i) (asked_looked n b all.asked)) (λ f mine e x does. refused f mine x does e)

-- each enabled firing waits for a credit that was denied
pub rested_held_back : (t : Tables) (a b : Worker) → IsChecked t.net.now → IsWhole t a → IsMadeOf t b → IsLookedAll t a b → b.resting ≡ true → AllHeldBack t a b
rested_held_back t a b checked whole now l rests = all_barred t a b checked whole now l.looked l.seen (λ f mine e x does. by f x does x.put refl (now.rests rests f (mine ∙ sym l.looked.number) e x does))
  where
    by : (f : Firing) (x : Effect) → effect t.net.now (state_of b.portion.state) f ≡ Some x → (o : Option Put) → x.put ≡ o → PutWaits t b f.unit x.put → IsHeldBack t a b f
    by f x does None is h = absurd (subst (PutWaits t b f.unit) is h)
    by f x does (Some w) is h =
        let k = subst (PutWaits t b f.unit) is h in
        let out = subst (λ i. IsOutOf t i (out_of f.unit w.place t.net.now.chans)) l.looked.number k.0 in
        cause.no_credit x w does is out (l.denied rests (out_of f.unit w.place t.net.now.chans) out k.1)

-- what held a worker back holds one back that is the same but for its notes
pub record IsSameStill (b c : Worker) : Type 0 where
  pub clock : c.clock ≡ b.clock
  pub portion : c.portion ≡ b.portion
  pub puts : c.puts ≡ b.puts
  pub takes : c.takes ≡ b.takes

module _ (t : Tables) (a b c : Worker) (f : Firing) (h : IsSameStill b c) where
  does_still : (o : Option Effect) → effect t.net.now (state_of b.portion.state) f ≡ o → effect t.net.now (state_of c.portion.state) f ≡ o
  does_still o x = subst (λ s. effect t.net.now (state_of s.state) f ≡ o) (sym h.portion) x

  waits_still : (o : Option ℕ) → waits t.net.now (state_of b.portion.state) f ≡ o → waits t.net.now (state_of c.portion.state) f ≡ o
  waits_still o x = subst (λ s. waits t.net.now (state_of s.state) f ≡ o) (sym h.portion) x

  still_held_back : IsHeldBack t a b f → IsHeldBack t a c f
  still_held_back (cause.stops x y) = cause.stops (does_still None x) (waits_still None y)
  still_held_back (cause.inner_input p x y) = cause.inner_input p (waits_still (Some p) x) y
  still_held_back (cause.inner_output x w y z k l) =
      cause.inner_output x w (does_still (Some x) y) z k
      (subst (λ s. (chan_at t.net.now (out_of f.unit w.place t.net.now.chans)).slots ≤ length (tokens_at (state_of s.state) (out_of f.unit w.place t.net.now.chans))) (sym h.portion) l)
  still_held_back (cause.no_token p x y z) =
      cause.no_token p (waits_still (Some p) x) y (subst (λ v. NoTokenAt (take_end a (into f.unit p t.net.now.chans)) (get_or v.items (into f.unit p t.net.now.chans) None)) (sym h.takes) z)
  still_held_back (cause.no_credit x w y z k l) =
      cause.no_credit x w (does_still (Some x) y) z k (subst (λ v. NoCreditAt (put_end a (out_of f.unit w.place t.net.now.chans)) (get_or v.items (out_of f.unit w.place t.net.now.chans) None)) (sym h.puts) l)
  still_held_back (cause.no_slot x w y z k l) =
      cause.no_slot x w (does_still (Some x) y) z k (subst (λ v. NoSlotAt (put_end a (out_of f.unit w.place t.net.now.chans)) (get_or v.items (out_of f.unit w.place t.net.now.chans) None)) (sym h.puts) l)
  still_held_back (cause.late x r y z l) =
      cause.late x r (does_still (Some x) y) (subst (λ v. ToldFor t.net.now f.unit x.put a.puts.items v.items r) (sym h.puts) z)
      (subst (λ s. 2 ^ 62 ≤ suc (max c.clock (max (greatest_in t.net.now c.takes.items f.unit (used t.net.now (state_of s.state) f)) r))) (sym h.portion)
      (subst (λ v. 2 ^ 62 ≤ suc (max c.clock (max (greatest_in t.net.now v.items f.unit (used t.net.now (state_of b.portion.state) f)) r))) (sym h.takes)
      (subst (λ n. 2 ^ 62 ≤ suc (max n (max (greatest_in t.net.now b.takes.items f.unit (used t.net.now (state_of b.portion.state) f)) r))) (sym h.clock) l)))

pub all_still_held : (t : Tables) (a b c : Worker) → IsSameStill b c → AllHeldBack t a b → AllHeldBack t a c
all_still_held t a b c h k f mine = still_held_back t a b c f h (k f mine)

-- ---- refusals over more asking

no_slot_on : (o q r : Option PutEnd) → PutAsked q r → NoSlotAt o q → NoSlotAt o r
no_slot_on None q r h k = absurd k
no_slot_on (Some o) None r h k = absurd k
no_slot_on (Some o) (Some q) None h k = absurd h
no_slot_on (Some o) (Some q) (Some r) h k = omega (arith, h.slots_shown)

told_at_on : (o q r : Option PutEnd) (n : ℕ) → PutAsked q r → ToldAt o q n → ToldAt o r n
told_at_on None q r n h k = k
told_at_on (Some o) None None n h k = k
told_at_on (Some o) None (Some r) n h k = absurd h
told_at_on (Some o) (Some q) None n h k = absurd h
told_at_on (Some o) (Some q) (Some r) n h (ms, a, b, is) = (ms, a, prefix_trans ms _ _ b h.received, is)

told_for_on : (net : Net) (u : ℕ) (put : Option Put) (os qs rs : List (Option PutEnd)) (n : ℕ) → PutsAsked qs rs → ToldFor net u put os qs n → ToldFor net u put os rs n
told_for_on net u None os qs rs n h k = k
told_for_on net u (Some w) os qs rs n h k = told_at_on (get_or os (out_of u w.place net.chans) None) (get_or qs (out_of u w.place net.chans) None) (get_or rs (out_of u w.place net.chans) None) n (h.each (out_of u w.place net.chans)) k

none_since : (z o : Option PutEnd) → PutAsked z o → o ≡ None → z ≡ None
none_since None o h k = refl
none_since (Some z) None h k = absurd h
none_since (Some z) (Some o) h k = cc

both_at : (P : Option PutEnd → Option PutEnd → Type 0) (x y o r : Option PutEnd) → x ≡ o → y ≡ r → P o r → P x y
both_at P x y o r p q h = subst (λ z. P z y) (sym p) (subst (P o) (sym q) h)

-- an end that had no credit and was asked again: it has none; or it has, and its token had no slot or no stamp
credit_on : (net : Net) (s : State) (u : ℕ) (put : Option Put) (above : ℕ) (os rs : List (Option PutEnd)) (w : Put) → put ≡ Some w
    → (o q r : Option PutEnd) → get_or os (out_of u w.place net.chans) None ≡ o → get_or rs (out_of u w.place net.chans) None ≡ r
    → PutAsked o q → PutAsked q r → NoCreditAt o q → IsNotOffered net s u put above os rs
credit_on net s u put above os rs w is None q r x y before h k = absurd k
credit_on net s u put above os rs w is (Some o) None r x y before h k = absurd k
credit_on net s u put above os rs w is (Some o) (Some q) None x y before h k = absurd h
credit_on net s u put above os rs w is (Some o) (Some q) (Some r) x y before h (none, rose) = by h.hand
  where
    c : ℕ
    c = out_of u w.place net.chans

    still : credits_in_hand r ≡ 0 → IsNotOffered net s u put above os rs
    still z = refusal.no_credit w is (both_at NoCreditAt (get_or os c None) (get_or rs c None) (Some o) (Some r) x y (z, omega (arith, h.messages_shown)))

    told : ToldAt (Some o) (Some r) (newest_stamp (messages_received r))
    told = (messages_received r, prefix_trans _ _ _ before.received h.received, prefix_self (messages_received r), refl)

    by : IsUnspent q r → IsNotOffered net s u put above os rs
    by (ends.as_before z) = still (z ∙ none)
    by (ends.spent z) = still z
    by (ends.slotless z) = refusal.no_slot w is (both_at NoSlotAt (get_or os c None) (get_or rs c None) (Some o) (Some r) x y (omega (arith, before.slots_shown)))
    by (ends.stampless z) =
        refusal.late (newest_stamp (messages_received r))
        (subst (λ p. ToldFor net u p os rs (newest_stamp (messages_received r))) (sym is) (both_at (λ o r'. ToldAt o r' (newest_stamp (messages_received r))) (get_or os c None) (get_or rs c None) (Some o) (Some r) x y told))
        (omega arith)

not_offered_on : (net : Net) (s : State) (u : ℕ) (put : Option Put) (above : ℕ) (os qs rs : List (Option PutEnd)) → PutsAsked os qs → PutsAsked qs rs → IsNotOffered net s u put above os qs → IsNotOffered net s u put above os rs
not_offered_on net s u put above os qs rs before h (refusal.no_room w is e l) = refusal.no_room w is e l
not_offered_on net s u put above os qs rs before h (refusal.no_credit w is k) =
    credit_on net s u put above os rs w is (get_or os (out_of u w.place net.chans) None) (get_or qs (out_of u w.place net.chans) None) (get_or rs (out_of u w.place net.chans) None) refl refl (before.each (out_of u w.place net.chans)) (h.each (out_of u w.place net.chans)) k
not_offered_on net s u put above os qs rs before h (refusal.no_slot w is k) = refusal.no_slot w is (no_slot_on (get_or os (out_of u w.place net.chans) None) (get_or qs (out_of u w.place net.chans) None) (get_or rs (out_of u w.place net.chans) None) (h.each (out_of u w.place net.chans)) k)
not_offered_on net s u put above os qs rs before h (refusal.late r told l) = refusal.late r (told_for_on net u put os qs rs r h told) l

not_offered_since : (net : Net) (s : State) (u : ℕ) (put : Option Put) (above : ℕ) (zs os qs : List (Option PutEnd)) → PutsAsked zs os → IsNotOffered net s u put above os qs → IsNotOffered net s u put above zs qs
not_offered_since net s u put above zs os qs h (refusal.no_room w is e l) = refusal.no_room w is (none_since (get_or zs (out_of u w.place net.chans) None) (get_or os (out_of u w.place net.chans) None) (h.each (out_of u w.place net.chans)) e) l
not_offered_since net s u put above zs os qs h (refusal.no_credit w is k) = refusal.no_credit w is (no_credit_since (get_or zs (out_of u w.place net.chans) None) (get_or os (out_of u w.place net.chans) None) (get_or qs (out_of u w.place net.chans) None) ((puts_asked_looked zs os h).each (out_of u w.place net.chans)) k)
not_offered_since net s u put above zs os qs h (refusal.no_slot w is k) = refusal.no_slot w is (no_slot_since (get_or zs (out_of u w.place net.chans) None) (get_or os (out_of u w.place net.chans) None) (get_or qs (out_of u w.place net.chans) None) ((puts_asked_looked zs os h).each (out_of u w.place net.chans)) k)
not_offered_since net s u put above zs os qs h (refusal.late r told l) = refusal.late r (told_for_since net u put zs os qs r (puts_asked_looked zs os h) told) l

pub refused_on : (t : Tables) (a b c : Worker) (f : Firing) → IsAsked a b → IsAsked b c → IsRefused t a b f → IsRefused t a c f
refused_on t a b c f before h r x q = not_offered_on t.net.now (state_of a.portion.state) f.unit x.put (base_of t a f) a.puts.items b.puts.items c.puts.items before.puts h.puts (r x q)

pub refused_since : (t : Tables) (a b c : Worker) (f : Firing) → IsAsked a b → IsRefused t b c f → IsRefused t a c f
refused_since t a b c f h r x q =
    let g = greatest_asked t.net.now a.takes.items b.takes.items f.unit (used t.net.now (state_of a.portion.state) f) h.takes in
    let s : state_of b.portion.state ≡ state_of a.portion.state = ap (λ p. state_of p.state) h.portion in
    let k : base_of t b f ≡ max b.clock (greatest_in t.net.now b.takes.items f.unit (used t.net.now (state_of a.portion.state) f)) = ap (λ y. max b.clock (greatest_in t.net.now b.takes.items f.unit (used t.net.now y f))) s in
    let e : base_of t b f ≡ base_of t a f = omega (arith, h.clock) in
    let old = r x (ap (λ y. effect t.net.now y f) s ∙ q) in
    not_offered_since t.net.now (state_of a.portion.state) f.unit x.put (base_of t a f) a.puts.items b.puts.items c.puts.items h.puts
    (subst (λ y. IsNotOffered t.net.now y f.unit x.put (base_of t a f) b.puts.items c.puts.items) s (subst (λ y. IsNotOffered t.net.now (state_of b.portion.state) f.unit x.put y b.puts.items c.puts.items) e old))
