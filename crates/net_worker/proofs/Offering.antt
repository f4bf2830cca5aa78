-- A token that is offered to an output.
use Rattle.std.proofs.Common.{◌≡◌, ◌≢◌, ◌⊎◌, inl, inr, ℕ, suc, ◌<◌, ◌≤◌, ◌^◌, cond, Option, Some, None, IfSome, IfNone, List, length, get_or, set, refl, ap, ◌∙◌, sym, subst, arith, eq-eqb, ne_eqb, get_or-set_same, get_or-set_other, length-set}
use mathlib.Core.List.{IsPrefix}
use Rattle.std.proofs.lemmas.Bool.{cases_lt, cases_eq}
use Rattle.std.proofs.lemmas.List.{get_or_past}
use Rattle.elastic_link.specs.declared.put_end.PutEnd.{PutEnd}
use Rattle.elastic_link.specs.Credits.{newest_stamp, IsStamp}
use Rattle.elastic_link.specs.Ends.{tokens_put, messages_received, no_slot_count, no_message_count, SamePutEnd}
use Rattle.net_types.specs.declared.net.Net.{Net}
use Rattle.net_types.specs.Nets.{out_of, chan_at}
use Rattle.net_core.specs.declared.plan.Put.{Put}
use Rattle.net_core.specs.Fire.{State, tokens_at, puts_on}
use Rattle.net_worker.specs.Asking.{AskedPut, PutAsked, PutsAsked}
use Rattle.net_worker.specs.Ends.{IsPutAbove, IsNotPut, IsUnspent}
use Rattle.net_worker.specs.Ends as unput
use Rattle.net_worker.specs.Fires.{PutStep}
use Rattle.net_worker.specs.Offers.{ToldAt, RoomAt, IsOffered, NoCreditAt, NoSlotAt, IsNotOffered}
use Rattle.net_worker.specs.Offers as refusal
use Rattle.net_worker.proofs.Asking.{prefix_self, put_asked_self, put_asked_step}

pub offered_none : (net : Net) (s : State) (u above n : ℕ) (ps : List (Option PutEnd)) → n ≡ suc above → IsStamp n → IsOffered net s u None above n ps ps
offered_none net s u above n ps is fits = record {
  long = refl;
  fits = fits;
  puts = λ c. put_asked_step n (get_or ps c None) (get_or ps c None) (put_asked_self (get_or ps c None));
  told = 0;
  by = refl;
  stamp = omega arith;
  room = tt;
}

module _ (net : Net) (s : State) (u above : ℕ) (w : Put) (ps : List (Option PutEnd)) (c : ℕ) (at : c ≡ out_of u w.place net.chans) where
  here : (d : ℕ) → d ≡ c → puts_on net u (Some w) d ≡ Some w.value
  here d q = ap (λ b. cond b (Some w.value) None) (eq-eqb d (out_of u w.place net.chans) (q ∙ at))

  there : (d : ℕ) → d ≢ c → puts_on net u (Some w) d ≡ None
  there d n = ap (λ b. cond b (Some w.value) None) (ne_eqb d (out_of u w.place net.chans) (λ z. n (z ∙ sym at)))

  -- the channel has no end
  module _ (no_end : get_or ps c None ≡ None) where
    pub offered_inner : (n : ℕ) → n ≡ suc above → IsStamp n → length (tokens_at s c) < (chan_at net c).slots → IsOffered net s u (Some w) above n ps ps
    offered_inner n is fits room = record {
      long = refl;
      fits = fits;
      puts = λ d. step d (cases_eq d c);
      told = 0;
      by = subst (λ k. ToldAt (get_or ps k None) (get_or ps k None) 0) at (subst (λ o. ToldAt o (get_or ps c None) 0) (sym no_end) refl);
      stamp = omega arith;
      room = subst (λ k. RoomAt net s k (get_or ps k None)) at (subst (RoomAt net s c) (sym no_end) room);
    }
      where
        step : (d : ℕ) → (d ≡ c) ⊎ (d ≡ c → ⊥) → PutStep n (puts_on net u (Some w) d) (get_or ps d None) (get_or ps d None)
        step d (inl q) = subst (λ o. PutStep n (puts_on net u (Some w) d) o o) (sym (ap (λ k. get_or ps k None) q ∙ no_end)) tt
        step d (inr m) = subst (λ v. PutStep n v (get_or ps d None) (get_or ps d None)) (sym (there d m)) (put_asked_step n (get_or ps d None) (get_or ps d None) (put_asked_self (get_or ps d None)))

    pub late_inner : 2 ^ 62 ≤ suc above → IsNotOffered net s u (Some w) above ps ps
    late_inner l = refusal.late 0 (subst (λ k. ToldAt (get_or ps k None) (get_or ps k None) 0) at (subst (λ o. ToldAt o (get_or ps c None) 0) (sym no_end) refl)) (omega arith)

    pub full_inner : (chan_at net c).slots ≤ length (tokens_at s c) → IsNotOffered net s u (Some w) above ps ps
    full_inner l = refusal.no_room w refl (ap (λ k. get_or ps k None) (sym at) ∙ no_end) (subst (λ k. (chan_at net k).slots ≤ length (tokens_at s k)) at l)

  -- the channel has an end
  module _ (p q : PutEnd) (old : get_or ps c None ≡ Some p) where
    within : c < length ps
    within = by (cases_lt c (length ps))
      where
        by : (c < length ps) ⊎ (length ps ≤ c) → c < length ps
        by (inl l) = l
        by (inr l) = (let z : None ≡ Some p = sym (get_or_past ps c None l) ∙ old in cc)

    abbrev qs : List (Option PutEnd)
    qs = set ps c (Some q)

    new : get_or qs c None ≡ Some q
    new = get_or-set_same ps c (Some q) None within

    told : IsPrefix (messages_received p) (messages_received q) → ToldAt (get_or ps (out_of u w.place net.chans) None) (get_or qs (out_of u w.place net.chans) None) (newest_stamp (messages_received q))
    told h = subst (λ k. ToldAt (get_or ps k None) (get_or qs k None) (newest_stamp (messages_received q))) at
        (subst (λ o. ToldAt o (get_or qs c None) (newest_stamp (messages_received q))) (sym old)
        (subst (λ o. ToldAt (Some p) o (newest_stamp (messages_received q))) (sym new) (messages_received q, h, prefix_self (messages_received q), refl)))

    pub offered_end : (n : ℕ) → SamePutEnd p q → IsPrefix (messages_received p) (messages_received q) → IsPutAbove p q w.value above n → IsOffered net s u (Some w) above n ps qs
    offered_end n same received i = record {
      long = length-set ps c (Some q);
      fits = i.bound;
      puts = λ d. step d (cases_eq d c);
      told = newest_stamp (messages_received q);
      by = told received;
      stamp = omega (arith, i.stamp);
      room = subst (λ k. RoomAt net s k (get_or ps k None)) at (subst (RoomAt net s c) (sym old) tt);
    }
      where
        step : (d : ℕ) → (d ≡ c) ⊎ (d ≡ c → ⊥) → PutStep n (puts_on net u (Some w) d) (get_or ps d None) (get_or qs d None)
        step d (inl e) =
            subst (λ v. PutStep n v (get_or ps d None) (get_or qs d None)) (sym (here d e))
            (subst (λ k. PutStep n (Some w.value) (get_or ps k None) (get_or qs k None)) (sym e)
            (subst (λ o. PutStep n (Some w.value) o (get_or qs c None)) (sym old)
            (subst (λ o. PutStep n (Some w.value) (Some p) o) (sym new)
            (record { same = same; received = received; put = i.put; newer = λ v z. omega (arith, i.stamp); room = λ v z. i.room }))))
        step d (inr m) =
            subst (λ v. PutStep n v (get_or ps d None) (get_or qs d None)) (sym (there d m))
            (subst (λ o. PutStep n None (get_or ps d None) o) (sym (get_or-set_other ps c d (Some q) None m)) (put_asked_step n (get_or ps d None) (get_or ps d None) (put_asked_self (get_or ps d None))))

    pub asked_end : AskedPut p q → PutsAsked ps qs
    asked_end h = record { long = length-set ps c (Some q); each = λ d. each d (cases_eq d c) }
      where
        each : (d : ℕ) → (d ≡ c) ⊎ (d ≡ c → ⊥) → PutAsked (get_or ps d None) (get_or qs d None)
        each d (inl e) = subst (λ k. PutAsked (get_or ps k None) (get_or qs k None)) (sym e) (subst (λ o. PutAsked o (get_or qs c None)) (sym old) (subst (λ o. PutAsked (Some p) o) (sym new) h))
        each d (inr m) = subst (λ o. PutAsked (get_or ps d None) o) (sym (get_or-set_other ps c d (Some q) None m)) (put_asked_self (get_or ps d None))

    pub asked_none : (o : Option ℕ) → SamePutEnd p q → IsPrefix (messages_received p) (messages_received q) → IfNone o (tokens_put q ≡ tokens_put p) → no_slot_count p ≤ no_slot_count q → no_message_count p ≤ no_message_count q
        → IfNone o (IsUnspent p q) → IfNone o (PutsAsked ps qs)
    asked_none None same received put slots messages hand = asked_end (record { same = same; received = received; put = put; slots_shown = slots; messages_shown = messages; hand = hand })
    asked_none (Some n) same received put slots messages hand = tt

    pub refused_end : IsPrefix (messages_received p) (messages_received q) → IsNotPut p q above → IsNotOffered net s u (Some w) above ps qs
    refused_end h (unput.no_credit none rose) =
        refusal.no_credit w refl
        (subst (λ k. NoCreditAt (get_or ps k None) (get_or qs k None)) at (subst (λ o. NoCreditAt o (get_or qs c None)) (sym old) (subst (λ o. NoCreditAt (Some p) o) (sym new)
        (none, rose))))
    refused_end h (unput.no_slot rose) =
        refusal.no_slot w refl (subst (λ k. NoSlotAt (get_or ps k None) (get_or qs k None)) at (subst (λ o. NoSlotAt o (get_or qs c None)) (sym old) (subst (λ o. NoSlotAt (Some p) o) (sym new) rose)))
    refused_end h (unput.late l) = refusal.late (newest_stamp (messages_received q)) (told h) l

    pub end_some : (o : Option ℕ) → SamePutEnd p q → IsPrefix (messages_received p) (messages_received q) → IfSome o (λ n. IsPutAbove p q w.value above n) → IfSome o (λ n. IsOffered net s u (Some w) above n ps qs)
    end_some None same h k = tt
    end_some (Some n) same h k = offered_end n same h k

    pub end_none : (o : Option ℕ) → IsPrefix (messages_received p) (messages_received q) → IfNone o (IsNotPut p q above) → IfNone o (IsNotOffered net s u (Some w) above ps qs)
    end_none None h k = refused_end h k
    end_none (Some n) h k = tt

  module _ (gone : get_or ps c None ≡ None) where
    pub inner_some : (o : Option ℕ) → IfSome o (λ n. (n ≡ suc above) × IsStamp n) → IfSome o (λ _. length (tokens_at s c) < (chan_at net c).slots) → IfSome o (λ n. IsOffered net s u (Some w) above n ps ps)
    inner_some None h k = tt
    inner_some (Some n) h k = offered_inner gone n h.0 h.1 k

    pub inner_none : (o : Option ℕ) → IfNone o (((chan_at net c).slots ≤ length (tokens_at s c)) ⊎ (2 ^ 62 ≤ suc above)) → IfNone o (IsNotOffered net s u (Some w) above ps ps)
    inner_none None (inl l) = full_inner gone l
    inner_none None (inr l) = late_inner gone l
    inner_none (Some n) h = tt

pub plain_none : (net : Net) (s : State) (u above : ℕ) (ps : List (Option PutEnd)) (o : Option ℕ) → IfNone o (2 ^ 62 ≤ suc above) → IfNone o (IsNotOffered net s u None above ps ps)
plain_none net s u above ps None l = refusal.late 0 refl (omega arith)
plain_none net s u above ps (Some n) l = tt
