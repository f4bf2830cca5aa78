-- Data that may be saved, with one part changed.
use Rattle.std.proofs.Common.{◌≡◌, ◌≢◌, ℕ, ◌<◌, ◌≤◌, ◌^◌, ◌⊎◌, Bool, true, false, Option, List, [], length, get_or, set, refl, sym, ap, subst, ◌∙◌, inl, inr, arith, get_or-set_same, get_or-set_other, length-set}
use Rattle.std.proofs.lemmas.Bool.{cases_eq, false≢true}
use Rattle.std.specs.List.{All}
use Rattle.net_types.specs.declared.firing.Inputs.{Inputs}
use Rattle.net_types.specs.declared.net.Net.{Net}
use Rattle.net_types.specs.declared.net.Unit.{Unit as Kind}
use Rattle.net_types.specs.declared.net.Unit.TheVariants.{Entry, Fork, Lsq, Exit}
use Rattle.net_types.specs.Inputs.{InputsFit}
use Rattle.net_types.specs.Nets.{into, chan_at, kind_of}
use Rattle.net_types.specs.Tables.{array_width}
use Rattle.net_check.specs.Ends.{is_lsq}
use Rattle.lsq_core.specs.declared.part.QueuePart.{QueuePart}
use Rattle.lsq_core.specs.Parts.{MayStand, queue_of}
use Rattle.net_core.specs.declared.parts.Parts.{Parts}
use Rattle.net_core.specs.Parts.{no_part, OwnStands, Rising, SentFits, fires_once, noted_outs}
use Rattle.snapshot.specs.Fits.{EntryFits, Fits, UnitFits, ValueFits, max_count}

-- what a unit's data are asked depends on its bits and its queue alone
own_frame : (k : Kind) (p q : Parts) (u : ℕ) → get_or q.sent u [] ≡ get_or p.sent u [] → get_or q.queues u no_part ≡ get_or p.queues u no_part → OwnStands k p u → OwnStands k q u
own_frame (Fork w outs) p q u e f h = subst (SentFits outs) (sym e) h
own_frame (Lsq a d ps gs g) p q u e f h = subst (λ x. MayStand d (length ps) (queue_of g x)) (sym f) h
own_frame k p q u e f h = h

-- and on the token at its input
unit_frame : (net : Net) (k : Kind) (p q : Parts) (u : ℕ) → get_or q.sent u [] ≡ get_or p.sent u [] → get_or q.queues u no_part ≡ get_or p.queues u no_part
    → (get_or p.sent u [] ≢ [] → get_or p.tokens (into u 0 net.chans) [] ≢ [] → get_or q.tokens (into u 0 net.chans) [] ≢ []) → UnitFits net p u k → UnitFits net q u k
unit_frame net (Fork w outs) p q u e f t h = λ n. let m : get_or p.sent u [] ≢ [] = λ z. n (e ∙ z) in t m (h m)
unit_frame net (Lsq a d ps gs g) p q u e f t h = subst (λ (x : QueuePart). All (EntryFits (array_width net.arrays a) ps) x.entries) (sym f) h
unit_frame net k p q u e f t h = h

abbrev pub with_plain : Parts → Inputs → List Bool → Option ℕ → List ℕ → Parts
with_plain p g fl v st = record p { given = g; fired = fl; value = v; strays = st }

pub fits_plain : (net : Net) (p : Parts) (g : Inputs) (fl : List Bool) (v : Option ℕ) (st : List ℕ) → Fits net p → InputsFit net g → length fl ≡ length net.units
    → ((u : ℕ) → fires_once (kind_of net u) ≡ false → get_or fl u false ≡ false) → ((x : ℕ) → kind_of net x ≡ Exit → ValueFits net.result (get_or fl x false) v)
    → length st ≡ length net.arrays → ((a : ℕ) → get_or st a 0 ≤ max_count) → Fits net (with_plain p g fl v st)
fits_plain net p g fl v st f given long once value stray_long counts = record {
  stands = record {
    fit = given;
    chans = f.stands.chans;
    slots = f.stands.slots;
    own = λ u l. own_frame (kind_of net u) p (with_plain p g fl v st) u refl refl (f.stands.own u l);
    strays = stray_long;
  };
  by_unit = record {
    sent_long = f.by_unit.sent_long;
    fired_long = long;
    queues_long = f.by_unit.queues_long;
    rising = f.by_unit.rising;
    within = f.by_unit.within;
    fired = once;
    queues = f.by_unit.queues;
  };
  tokens = f.tokens;
  units = λ u. unit_frame net (kind_of net u) p (with_plain p g fl v st) u refl refl (λ n t. t) (f.units u);
  value = value;
  serials = f.serials;
  strays = counts;
}

-- other tokens, where no fork has bits
pub fits_tokens : (net : Net) (p : Parts) (ts : List (List ℕ)) → Fits net p → ((u : ℕ) → get_or p.sent u [] ≡ []) → length ts ≡ length net.chans
    → ((c : ℕ) → length (get_or ts c []) ≤ (chan_at net c).slots) → ((c : ℕ) → All (λ v. v < 2 ^ (chan_at net c).width) (get_or ts c [])) → Fits net (record p { tokens = ts })
fits_tokens net p ts f none long slots patterns = record {
  stands = record {
    fit = f.stands.fit;
    chans = long;
    slots = slots;
    own = λ u l. own_frame (kind_of net u) p (record p { tokens = ts }) u refl refl (f.stands.own u l);
    strays = f.stands.strays;
  };
  by_unit = record {
    sent_long = f.by_unit.sent_long;
    fired_long = f.by_unit.fired_long;
    queues_long = f.by_unit.queues_long;
    rising = f.by_unit.rising;
    within = f.by_unit.within;
    fired = f.by_unit.fired;
    queues = f.by_unit.queues;
  };
  tokens = patterns;
  units = λ u. unit_frame net (kind_of net u) p (record p { tokens = ts }) u refl refl (λ n t. absurd (n (none u))) (f.units u);
  value = f.value;
  serials = f.serials;
  strays = f.strays;
}

-- bits of one fork more, which has a token
own_sent : (k : Kind) (p q : Parts) (u : ℕ) → SentFits (noted_outs k) (get_or q.sent u []) → get_or q.queues u no_part ≡ get_or p.queues u no_part → OwnStands k p u → OwnStands k q u
own_sent (Fork w outs) p q u s f h = s
own_sent (Lsq a d ps gs g) p q u s f h = subst (λ x. MayStand d (length ps) (queue_of g x)) (sym f) h
own_sent k p q u s f h = h

unit_sent : (net : Net) (k : Kind) (p q : Parts) (u : ℕ) → get_or q.tokens (into u 0 net.chans) [] ≢ [] → get_or q.queues u no_part ≡ get_or p.queues u no_part → UnitFits net p u k → UnitFits net q u k
unit_sent net (Fork w outs) p q u t f h = λ n. t
unit_sent net (Lsq a d ps gs g) p q u t f h = subst (λ (x : QueuePart). All (EntryFits (array_width net.arrays a) ps) x.entries) (sym f) h
unit_sent net k p q u t f h = h

module _ (net : Net) (p : Parts) (at : ℕ) (js : List ℕ) (f : Fits net p) (within : at < length net.units) (sent : SentFits (noted_outs (kind_of net at)) js) (head : get_or p.tokens (into at 0 net.chans) [] ≢ []) where
  abbrev sent_parts : Parts
  sent_parts = record p { sent = set p.sent at js }

  bits_at : get_or (set p.sent at js) at [] ≡ js
  bits_at = get_or-set_same p.sent at js [] (let l = f.by_unit.sent_long in omega arith)

  sent_each : (P : ℕ → List ℕ → Type 0) → P at js → ((u : ℕ) → P u (get_or p.sent u [])) → (u : ℕ) → P u (get_or (set p.sent at js) u [])
  sent_each P here others u = by (cases_eq u at)
    where
      by : (u ≡ at) ⊎ (u ≡ at → ⊥) → P u (get_or (set p.sent at js) u [])
      by (inl e) = subst (λ i. P i (get_or (set p.sent at js) i [])) (sym e) (subst (P at) (sym bits_at) here)
      by (inr n) = subst (P u) (sym (get_or-set_other p.sent at u js [] n)) (others u)

  pub fits_sent : Fits net sent_parts
  fits_sent = record {
    stands = record {
      fit = f.stands.fit;
      chans = f.stands.chans;
      slots = f.stands.slots;
      own = λ u l. own_at u l (cases_eq u at);
      strays = f.stands.strays;
    };
    by_unit = record {
      sent_long = length-set p.sent at js ∙ f.by_unit.sent_long;
      fired_long = f.by_unit.fired_long;
      queues_long = f.by_unit.queues_long;
      rising = sent_each (λ u l. Rising l) sent.rising f.by_unit.rising;
      within = sent_each (λ u l. All (λ j. j < noted_outs (kind_of net u)) l) sent.within f.by_unit.within;
      fired = f.by_unit.fired;
      queues = f.by_unit.queues;
    };
    tokens = f.tokens;
    units = λ u. units_at u (cases_eq u at);
    value = f.value;
    serials = f.serials;
    strays = f.strays;
  }
    where
      own_at : (u : ℕ) → u < length net.units → (u ≡ at) ⊎ (u ≡ at → ⊥) → OwnStands (kind_of net u) sent_parts u
      own_at u l (inl e) = subst (λ i. OwnStands (kind_of net i) sent_parts i) (sym e) (own_sent (kind_of net at) p sent_parts at (subst (SentFits (noted_outs (kind_of net at))) (sym bits_at) sent) refl (f.stands.own at within))
      own_at u l (inr n) = own_frame (kind_of net u) p sent_parts u (get_or-set_other p.sent at u js [] n) refl (f.stands.own u l)

      units_at : (u : ℕ) → (u ≡ at) ⊎ (u ≡ at → ⊥) → UnitFits net sent_parts u (kind_of net u)
      units_at u (inl e) = subst (λ i. UnitFits net sent_parts i (kind_of net i)) (sym e) (unit_sent net (kind_of net at) p sent_parts at head refl (f.units at))
      units_at u (inr n) = unit_frame net (kind_of net u) p sent_parts u (get_or-set_other p.sent at u js [] n) refl (λ m t. t) (f.units u)

-- another queue of one unit
abbrev pub QueueFits : Net → QueuePart → Kind → Type 0
QueueFits net q (Lsq a d ps gs g) = MayStand d (length ps) (queue_of g q) × All (EntryFits (array_width net.arrays a) ps) q.entries
QueueFits net q _ = ⊥

queue_kind : (net : Net) (q : QueuePart) (k : Kind) → QueueFits net q k → is_lsq k ≡ true
queue_kind net q (Lsq a d ps gs g) h = refl
queue_kind net q Entry h = absurd h
queue_kind net q k h = absurd h

queue_own : (net : Net) (q : QueuePart) (k : Kind) (p : Parts) (u : ℕ) → QueueFits net q k → get_or p.queues u no_part ≡ q → OwnStands k p u
queue_own net q (Lsq a d ps gs g) p u h e = subst (λ x. MayStand d (length ps) (queue_of g x)) (sym e) h.0
queue_own net q Entry p u h e = absurd h
queue_own net q k p u h e = absurd h

queue_units : (net : Net) (q : QueuePart) (k : Kind) (p : Parts) (u : ℕ) → QueueFits net q k → get_or p.queues u no_part ≡ q → UnitFits net p u k
queue_units net q (Lsq a d ps gs g) p u h e = subst (λ (x : QueuePart). All (EntryFits (array_width net.arrays a) ps) x.entries) (sym e) h.1
queue_units net q Entry p u h e = absurd h
queue_units net q k p u h e = absurd h

module _ (net : Net) (p : Parts) (at : ℕ) (q : QueuePart) (f : Fits net p) (within : at < length net.units) (fits : QueueFits net q (kind_of net at)) (next : q.next ≤ max_count) where
  abbrev queue_parts : Parts
  queue_parts = record p { queues = set p.queues at q }

  queue_at : get_or (set p.queues at q) at no_part ≡ q
  queue_at = get_or-set_same p.queues at q no_part (let l = f.by_unit.queues_long in omega arith)

  queue_other : (u : ℕ) → (u ≡ at → ⊥) → get_or (set p.queues at q) u no_part ≡ get_or p.queues u no_part
  queue_other u n = get_or-set_other p.queues at u q no_part n

  pub fits_queue : Fits net queue_parts
  fits_queue = record {
    stands = record {
      fit = f.stands.fit;
      chans = f.stands.chans;
      slots = f.stands.slots;
      own = λ u l. own_at u l (cases_eq u at);
      strays = f.stands.strays;
    };
    by_unit = record {
      sent_long = f.by_unit.sent_long;
      fired_long = f.by_unit.fired_long;
      queues_long = length-set p.queues at q ∙ f.by_unit.queues_long;
      rising = f.by_unit.rising;
      within = f.by_unit.within;
      fired = f.by_unit.fired;
      queues = λ u never. none_at u never (cases_eq u at);
    };
    tokens = f.tokens;
    units = λ u. units_at u (cases_eq u at);
    value = f.value;
    serials = λ u. serial_at u (cases_eq u at);
    strays = f.strays;
  }
    where
      own_at : (u : ℕ) → u < length net.units → (u ≡ at) ⊎ (u ≡ at → ⊥) → OwnStands (kind_of net u) queue_parts u
      own_at u l (inl e) = subst (λ i. OwnStands (kind_of net i) queue_parts i) (sym e) (queue_own net q (kind_of net at) queue_parts at fits queue_at)
      own_at u l (inr n) = own_frame (kind_of net u) p queue_parts u refl (queue_other u n) (f.stands.own u l)

      none_at : (u : ℕ) → is_lsq (kind_of net u) ≡ false → (u ≡ at) ⊎ (u ≡ at → ⊥) → get_or (set p.queues at q) u no_part ≡ no_part
      none_at u never (inl e) = absurd (false≢true (sym never ∙ ap (λ i. is_lsq (kind_of net i)) e ∙ queue_kind net q (kind_of net at) fits))
      none_at u never (inr n) = queue_other u n ∙ f.by_unit.queues u never

      units_at : (u : ℕ) → (u ≡ at) ⊎ (u ≡ at → ⊥) → UnitFits net queue_parts u (kind_of net u)
      units_at u (inl e) = subst (λ i. UnitFits net queue_parts i (kind_of net i)) (sym e) (queue_units net q (kind_of net at) queue_parts at fits queue_at)
      units_at u (inr n) = unit_frame net (kind_of net u) p queue_parts u refl (queue_other u n) (λ m t. t) (f.units u)

      serial_at : (u : ℕ) → (u ≡ at) ⊎ (u ≡ at → ⊥) → (get_or (set p.queues at q) u no_part).next ≤ max_count
      serial_at u (inl e) = subst (λ (x : QueuePart). x.next ≤ max_count) (sym (ap (λ i. get_or (set p.queues at q) i no_part) e ∙ queue_at)) next
      serial_at u (inr n) = subst (λ (x : QueuePart). x.next ≤ max_count) (sym (queue_other u n)) (f.serials u)
