-- A firing by the channels of its moves.
use Rattle.std.proofs.Common.{◌≡◌, ◌≢◌, ◌⊎◌, inl, inr, ℕ, zero, suc, ◌+◌, ◌<◌, ◌≤◌, max, Bool, true, false, Option, Some, None, IfNone, IfSome, List, [], ◌∷◌, ◌++◌, length, get_or, set, refl, ap, ◌∙◌, sym, subst, arith, get_or-set_other}
use Rattle.std.proofs.lemmas.Bool.{cases_lt, cases_eq}
use Rattle.std.proofs.lemmas.List.{get_or_append_left}
use Rattle.std.proofs.Math.Seq.{get_or-append_seam}
use Rattle.elastic_link.specs.declared.take_end.TakeEnd.{TakeEnd}
use Rattle.elastic_link.specs.declared.put_end.PutEnd.{PutEnd}
use mathlib.Core.List.{IsPrefix}
use Rattle.elastic_link.specs.Credits.{IsStamp}
use Rattle.elastic_link.specs.Ends.{tokens_put, messages_received, no_slot_count, no_message_count, SamePutEnd}
use Rattle.net_types.specs.declared.net.Chan.{Chan}
use Rattle.net_types.specs.declared.net.Net.{Net}
use Rattle.net_types.specs.Nets.{into, out_of, chan_at, nowhere}
use Rattle.net_check.specs.Pins.{pins_of}
use Rattle.net_core.specs.declared.plan.Takes.{Takes}
use Rattle.net_core.specs.declared.plan.Takes.TheVariants.{None as no_place, One, Two, Three}
use Rattle.net_core.specs.declared.plan.Laid.{Laid}
use Rattle.net_core.specs.declared.plan.Put.{Put}
use Rattle.net_core.specs.Fire.{State, among, tokens_at}
use Rattle.net_core.specs.Plans.{places_of, taken_of, laid_of, chans_of}
use Rattle.net_core.specs.Uses.{places_used}
use Rattle.net_worker.specs.Asking.{PutsAsked, TakeAsked, TakesAsked}
use Rattle.net_worker.specs.Crossing.{HasOneOwner}
use Rattle.net_worker.specs.Ends.{IsPutAbove, IsUnspent}
use Rattle.net_worker.specs.Fires.{TakeStep}
use Rattle.net_worker.specs.Firings.{AllDistinct, AllHold, AllPayable, AreTaken, chans_into}
use Rattle.net_worker.specs.Inside.{StaysInside, AreBetween}
use Rattle.net_worker.specs.Moved.{AllHoldOn, AllPayableOn, AreTakenOn, greatest_on, taken_or_seen}
use Rattle.net_worker.specs.Offers.{held_stamp, greatest_in, IsOffered}
use Rattle.net_worker.specs.Workers.{IsMadeOf, put_end, take_end, held_by}
use Rattle.net_worker.specs.declared.end_places.EndPlaces.{EndPlaces}
use Rattle.net_worker.specs.declared.tables.Tables.{Tables}
use Rattle.net_worker.specs.declared.worker.Worker.{Worker}
use Rattle.net_worker.proofs.Asking.{held_asked}
use Rattle.net_worker.proofs.Offering.{asked_none, end_some, inner_some, offered_none}
use Rattle.net_worker.proofs.Paying.{not_among, among_here, among_there, same_step}

-- ---- channels and places

pub moved_chans : (net : Net) (u : ℕ) (p : Takes) → chans_of (taken_of net u p) ≡ chans_into net u (places_of p)
moved_chans net u no_place = refl
moved_chans net u (One p) = refl
moved_chans net u (Two p q) = refl
moved_chans net u (Three p q r) = refl

pub used_moved : (net : Net) (u : ℕ) (b : Bool) (p : Takes) → chans_of (taken_or_seen b (pins_of u net.chans) (taken_of net u p)) ≡ chans_into net u (places_used b p)
used_moved net u true p = refl
used_moved net u false p = moved_chans net u p

pub greatest_moved : (net : Net) (es : List (Option TakeEnd)) (u : ℕ) (ps : List ℕ) → greatest_on es (chans_into net u ps) ≡ greatest_in net es u ps
greatest_moved net es u [] = refl
greatest_moved net es u (p ∷ ps) = ap (max (held_stamp (held_by (get_or es (into u p net.chans) None)))) (greatest_moved net es u ps)

pub hold_moved : (net : Net) (es : List (Option TakeEnd)) (u : ℕ) (ps : List ℕ) → AllHold net u es ps → AllHoldOn es (chans_into net u ps)
hold_moved net es u [] h = tt
hold_moved net es u (p ∷ ps) h = (h.0, hold_moved net es u ps h.1)

pub payable_moved : (net : Net) (es : List (Option TakeEnd)) (u n : ℕ) (ps : List ℕ) → AllPayable net u n es ps → AllPayableOn n es (chans_into net u ps)
payable_moved net es u n [] h = tt
payable_moved net es u n (p ∷ ps) h = (h.0, payable_moved net es u n ps h.1)

pub taken_moved : (net : Net) (es es' : List (Option TakeEnd)) (u n : ℕ) (p : Takes) → AreTakenOn n (chans_of (taken_of net u p)) es es' → AreTaken net u n (places_of p) es es'
taken_moved net es es' u n p h = by (subst (λ cs. AreTakenOn n cs es es') (moved_chans net u p) h)
  where
    by : AreTakenOn n (chans_into net u (places_of p)) es es' → AreTaken net u n (places_of p) es es'
    by k = record { long = k.long; each = k.each }

-- ---- ends between workers

none_asked : (o q : Option TakeEnd) → TakeAsked o q → o ≡ None → q ≡ None
none_asked None None h e = refl
none_asked None (Some q) h e = absurd h
none_asked (Some p) q h e = cc

pub between_asked : (t : Tables) (es es' : List (Option TakeEnd)) → AreBetween t es → TakesAsked es es' → AreBetween t es'
between_asked t es es' h k c inside = none_asked (get_or es c None) (get_or es' c None) (k.each c) (h c inside)

pub between_set : (t : Tables) (es : List (Option TakeEnd)) (c : ℕ) (p q : TakeEnd) → AreBetween t es → get_or es c None ≡ Some p → AreBetween t (set es c (Some q))
between_set t es c p q h old d inside = by (cases_eq d c)
  where
    by : (d ≡ c) ⊎ (d ≡ c → ⊥) → get_or (set es c (Some q)) d None ≡ None
    by (inl e) = (let z : None ≡ Some p = sym (ap (λ k. get_or es k None) (sym e) ∙ h d inside) ∙ old in cc)
    by (inr n) = get_or-set_other es c d (Some q) None n ∙ h d inside

none_taken : (n : ℕ) (o q : Option TakeEnd) → TakeStep true n o q → o ≡ None → q ≡ None
none_taken n None None h e = refl
none_taken n None (Some q) h e = absurd h
none_taken n (Some p) q h e = cc

pub between_taken : (t : Tables) (es es' : List (Option TakeEnd)) (c n : ℕ) → AreBetween t es → TakeStep true n (get_or es c None) (get_or es' c None) → ((d : ℕ) → d ≢ c → get_or es' d None ≡ get_or es d None) → AreBetween t es'
between_taken t es es' c n h taken others d inside = by (cases_eq d c)
  where
    by : (d ≡ c) ⊎ (d ≡ c → ⊥) → get_or es' d None ≡ None
    by (inl e) = ap (λ k. get_or es' k None) e ∙ none_taken n (get_or es c None) (get_or es' c None) taken (ap (λ k. get_or es k None) (sym e) ∙ h d inside)
    by (inr m) = others d m ∙ h d inside

pub puts_between : (t : Tables) (a : Worker) → IsMadeOf t a → AreBetween t a.puts.items
puts_between t a m c inside = by (put_end a c) refl
  where
    by : (o : Option PutEnd) → put_end a c ≡ o → put_end a c ≡ None
    by None is = is
    by (Some p) is = (let i = (m.puts_out c p is).0 in absurd (i.2 (sym (inside i.0) ∙ i.1)))

pub takes_between : (t : Tables) (a : Worker) → IsMadeOf t a → AreBetween t a.takes.items
takes_between t a m c inside = by (take_end a c) refl
  where
    by : (o : Option TakeEnd) → take_end a c ≡ o → take_end a c ≡ None
    by None is = is
    by (Some e) is = (let i = (m.takes_in c e is).0 in absurd (i.2 (inside i.0 ∙ i.1)))

-- ---- the greatest of two stamps, and of three

pub above_two_on : (es e1 : List (Option TakeEnd)) (c d x y clock : ℕ) → TakesAsked es e1 → x ≡ held_stamp (held_by (get_or es c None)) → y ≡ held_stamp (held_by (get_or e1 d None))
    → max clock (max x y) ≡ max clock (greatest_on es (c ∷ d ∷ []))
above_two_on es e1 c d x y clock h sx sy =
    let y1 : y ≡ held_stamp (held_by (get_or es d None)) = sy ∙ ap held_stamp (held_asked (get_or es d None) (get_or e1 d None) (h.each d)) in
    omega arith

pub above_three_on : (es e1 e2 : List (Option TakeEnd)) (c d e x y z clock : ℕ) → TakesAsked es e1 → TakesAsked e1 e2
    → x ≡ held_stamp (held_by (get_or es c None)) → y ≡ held_stamp (held_by (get_or e1 d None)) → z ≡ held_stamp (held_by (get_or e2 e None))
    → max clock (max x (max y z)) ≡ max clock (greatest_on es (c ∷ d ∷ e ∷ []))
above_three_on es e1 e2 c d e x y z clock h k sx sy sz =
    let y1 : y ≡ held_stamp (held_by (get_or es d None)) = sy ∙ ap held_stamp (held_asked (get_or es d None) (get_or e1 d None) (h.each d)) in
    let z1 : z ≡ held_stamp (held_by (get_or es e None)) = sz ∙ (ap held_stamp (held_asked (get_or e1 e None) (get_or e2 e None) (k.each e)) ∙ ap held_stamp (held_asked (get_or es e None) (get_or e1 e None) (h.each e))) in
    omega arith

-- ---- places of ends, one channel more

get_or_same : (cs : List Chan) (n : ℕ) (a b : Chan) → n < length cs → get_or cs n a ≡ get_or cs n b
get_or_same [] n a b l = absurd (omega arith)
get_or_same (c ∷ cs) zero a b l = refl
get_or_same (c ∷ cs) (suc n) a b l = get_or_same cs n a b (omega arith)

if_none : {A : Type 0} (o : Option EndPlaces) → IfNone o A → o ≡ None → A
if_none None h e = h
if_none (Some p) h e = cc

pub placed_more : (owners : List ℕ) (cs : List Chan) (ps : List (Option EndPlaces)) (n : ℕ) (a : Chan) (p : Option EndPlaces) → n < length cs → length ps ≡ n
    → ((i : ℕ) → i < n → get_or ps i None ≡ None → HasOneOwner owners (get_or cs i nowhere)) → IfNone p (HasOneOwner owners (get_or cs n a))
    → (i : ℕ) → i < n + 1 → get_or (ps ++ p ∷ []) i None ≡ None → HasOneOwner owners (get_or cs i nowhere)
placed_more owners cs ps n a p within long before now i l none = by (cases_lt i n)
  where
    by : (i < n) ⊎ (n ≤ i) → HasOneOwner owners (get_or cs i nowhere)
    by (inl k) = before i k (sym (get_or_append_left ps (p ∷ []) None i (omega arith)) ∙ none)
    by (inr k) =
        let e : i ≡ length ps = omega arith in
        let r : p ≡ None = sym (ap (λ j. get_or (ps ++ p ∷ []) j None) e ∙ get_or-append_seam ps p [] None) ∙ none in
        let s : get_or cs n a ≡ get_or cs i nowhere = get_or_same cs n a nowhere within ∙ ap (λ j. get_or cs j nowhere) (sym long ∙ sym e) in
        subst (HasOneOwner owners) s (if_none p now r)

pub stays_inside : (t : Tables) (c : ℕ) (o : Option EndPlaces) → get_or t.end_places.items c None ≡ o → IfNone o (StaysInside t c)
stays_inside t c (Some p) is = tt
stays_inside t c None is = λ l. t.placed c l is

-- ---- the token that is laid

-- the place at which a token is put that is laid on a channel
module _ (net : Net) (s : State) (u above : ℕ) (ps : List (Option PutEnd)) where
  laid_same : (w : Put) (l : Laid) → laid_of net u (Some w) ≡ Some l → (l.chan ≡ out_of u w.place net.chans) × (l.value ≡ w.value)
  laid_same w l is =
      let e : ◌≡◌ {A = Laid} (record { chan = out_of u w.place net.chans; value = w.value }) l = cc in
      (sym (ap (λ (x : Laid). x.chan) e), sym (ap (λ (x : Laid). x.value) e))

  pub laid_end : (put : Option Put) (l : Laid) → laid_of net u put ≡ Some l → (p q : PutEnd) → get_or ps l.chan None ≡ Some p → (o : Option ℕ) → SamePutEnd p q → IsPrefix (messages_received p) (messages_received q)
      → IfSome o (λ n. IsPutAbove p q l.value above n) → IfSome o (λ n. IsOffered net s u put above n ps (set ps l.chan (Some q)))
  laid_end None l is p q old o same received h = cc
  laid_end (Some w) l is p q old o same received h =
      let e = laid_same w l is in
      end_some net s u above w ps l.chan e.0 p q old o same received (subst (λ v. IfSome o (λ n. IsPutAbove p q v above n)) e.1 h)

  pub laid_asked : (put : Option Put) (l : Laid) → laid_of net u put ≡ Some l → (p q : PutEnd) → get_or ps l.chan None ≡ Some p → (o : Option ℕ) → SamePutEnd p q → IsPrefix (messages_received p) (messages_received q)
      → IfNone o (tokens_put q ≡ tokens_put p) → no_slot_count p ≤ no_slot_count q → no_message_count p ≤ no_message_count q → IfNone o (IsUnspent p q) → IfNone o (PutsAsked ps (set ps l.chan (Some q)))
  laid_asked None l is p q old o same received put slots messages hand = cc
  laid_asked (Some w) l is p q old o same received put slots messages hand = asked_none net s u above w ps l.chan (laid_same w l is).0 p q old o same received put slots messages hand

  pub laid_inner : (put : Option Put) (l : Laid) → laid_of net u put ≡ Some l → get_or ps l.chan None ≡ None → (o : Option ℕ) → IfSome o (λ n. (n ≡ suc above) × IsStamp n)
      → IfSome o (λ _. length (tokens_at s l.chan) < (chan_at net l.chan).slots) → IfSome o (λ n. IsOffered net s u put above n ps ps)
  laid_inner None l is gone o h k = cc
  laid_inner (Some w) l is gone o h k = inner_some net s u above w ps l.chan (laid_same w l is).0 gone o h k

  pub laid_none : (put : Option Put) → laid_of net u put ≡ None → (o : Option ℕ) → IfSome o (λ n. n ≡ suc above) → IfSome o (λ n. IsStamp n) → IfSome o (λ n. IsOffered net s u put above n ps ps)
  laid_none None is None h k = tt
  laid_none None is (Some n) h k = offered_none net s u above n ps h k
  laid_none (Some w) is o h k = cc

-- ---- two tokens that are taken

module _ (n a b : ℕ) (es e1 e2 : List (Option TakeEnd)) (distinct : AllDistinct (a ∷ b ∷ []))
    (s1 : TakeStep true n (get_or es a None) (get_or e1 a None)) (o1 : (c : ℕ) → c ≢ a → get_or e1 c None ≡ get_or es c None)
    (s2 : TakeStep true n (get_or e1 b None) (get_or e2 b None)) (o2 : (c : ℕ) → c ≢ b → get_or e2 c None ≡ get_or e1 c None) where
  two_apart : a ≢ b
  two_apart = (not_among a b [] distinct.0).0

  pub two_steps : (c : ℕ) → TakeStep (among c (a ∷ b ∷ [])) n (get_or es c None) (get_or e2 c None)
  two_steps c = by_a (cases_eq c a)
    where
      by_b : c ≢ a → (c ≡ b) ⊎ (c ≡ b → ⊥) → TakeStep (among c (a ∷ b ∷ [])) n (get_or es c None) (get_or e2 c None)
      by_b na (inl q) =
          subst (λ g. TakeStep g n (get_or es c None) (get_or e2 c None)) (sym (among_there c a (b ∷ []) na ∙ among_here c b [] q))
          (subst (λ k. TakeStep true n (get_or es k None) (get_or e2 k None)) (sym q) (subst (λ o. TakeStep true n o (get_or e2 b None)) (o1 b (λ z. two_apart (sym z))) s2))
      by_b na (inr m) =
          subst (λ g. TakeStep g n (get_or es c None) (get_or e2 c None)) (sym (among_there c a (b ∷ []) na ∙ among_there c b [] m))
          (same_step n (get_or es c None) (get_or e2 c None) (o2 c m ∙ o1 c na))

      by_a : (c ≡ a) ⊎ (c ≡ a → ⊥) → TakeStep (among c (a ∷ b ∷ [])) n (get_or es c None) (get_or e2 c None)
      by_a (inl q) =
          subst (λ g. TakeStep g n (get_or es c None) (get_or e2 c None)) (sym (among_here c a (b ∷ []) q))
          (subst (λ k. TakeStep true n (get_or es k None) (get_or e2 k None)) (sym q) (subst (TakeStep true n (get_or es a None)) (sym (o2 a two_apart)) s1))
      by_a (inr m) = by_b m (cases_eq c b)
