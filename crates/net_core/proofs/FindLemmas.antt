-- The least enabled act of each kind of units, and the least enabled firing.
use Rattle.std.proofs.Common.{◌≡◌, ℕ, ◌+◌, ◌<◌, ◌≤◌, ◌⊎◌, Bool, true, false, cond, Option, Some, None, List, [], length, get_or, refl, sym, ap, subst, ◌∙◌, inl, inr, arith, MatchOption, eq-eqb, ne_eqb, ltb-true, nat_lt}
use Rattle.std.proofs.lemmas.Bool.{cases_lt, cases_eq, and_parts}
use Rattle.std.proofs.lemmas.List.{get_or_past}
use Rattle.net_types.specs.declared.net.Net.{Net}
use Rattle.net_types.specs.declared.net.Port.{Port}
use Rattle.net_types.specs.declared.net.Unit.{Unit as Kind}
use Rattle.net_types.specs.declared.net.Unit.TheVariants.{Fork, Cmerge, Sink, Lsq}
use Rattle.net_types.specs.declared.firing.Act.{Act}
use Rattle.net_types.specs.declared.firing.Act.TheVariants.{Go, Send}
use Rattle.net_types.specs.declared.firing.Firing.{Firing}
use Rattle.net_types.specs.Nets.{kind_of, firing, into, chan_at, uses}
use Rattle.net_types.specs.Order.{act_rank, act_number, is_before, ActLe, FiringLe}
use Rattle.net_check.specs.Checks.{IsChecked}
use Rattle.net_core.specs.declared.find.Family.TheVariants as family
use Rattle.net_core.specs.Fire.{State, Effect, idle, enabled, with_head, effect, effect_of, row, head_at, at_array, setting}
use Rattle.net_core.specs.Finds.{IsLeastFiring, IsLeastFrom, IsQuietFrom, IsQuiet, IsLeastAct}
use Rattle.net_core.specs.private.Searches.{start_from, act_from, NoneIn, IsFirstIn}
use Rattle.net_core.proofs.GoesLemmas.{goes}
use Rattle.net_core.proofs.ForkLemmas.{fork_is, send_inv}
use Rattle.net_core.proofs.ApartLemmas.{into-at, is_at-inv, first_within}
use Rattle.net_core.proofs.ActLemmas.{plain_act, merge_inv, fork_act}
use Rattle.net_core.proofs.OrderLemmas.{le_before, before_le, before_or, go_least}
use Rattle.net_core.proofs.SearchLemmas.{range_from, family_found}

module _ (net : Net) (s : State) (u : ℕ) (from : Act) where
  pub fork_found : (w n : ℕ) (o : Option Act) → kind_of net u ≡ Fork w n
      → MatchOption o (NoneIn net s u family.Send (start_from family.Send from n) n) (λ act. IsFirstIn net s u family.Send (start_from family.Send from n) n act)
      → MatchOption o (IsQuiet net s u from) (λ act. IsLeastAct net s u from act)
  fork_found w n o is h = family_found net s u from family.Send (start_from family.Send from n) n o (λ b e. (all b e).0) (range_from net s u from family.Send n (λ b r e. (all b e).1)) h
    where
      all : (b : Act) → enabled net s (firing u b) → (act_rank b ≡ 2) × (act_number b < n)
      all b e =
          let g = goes net s (firing u b) e in
          let j = fork_act net s u w n b is g.0 g.1.is in
          let q : effect net s (firing u (Send j.0)) ≡ Some g.0 = ap (λ x. effect net s (firing u x)) (sym j.1) ∙ g.1.is in
          let i = send_inv n j.0 (get_or s.own u idle) [] (head_at net s u) g.0 (sym (fork_is net s u w n is s j.0) ∙ q) in
          let l : j.0 < n = ltb-true _ _ (and_parts (nat_lt j.0 n) _ i.0).0 in
          (ap act_rank j.1, (let k : act_number b ≡ j.0 = ap act_number j.1 in omega arith))

  pub merge_found : (n : ℕ) (o : Option Act) → kind_of net u ≡ Cmerge n
      → MatchOption o (NoneIn net s u family.From (start_from family.From from n) n) (λ act. IsFirstIn net s u family.From (start_from family.From from n) n act)
      → MatchOption o (IsQuiet net s u from) (λ act. IsLeastAct net s u from act)
  merge_found n o is h = family_found net s u from family.From (start_from family.From from n) n o (λ b e. (all b e).0) (range_from net s u from family.From n (λ b r e. (all b e).1)) h
    where
      all : (b : Act) → enabled net s (firing u b) → (act_rank b ≡ 1) × (act_number b < n)
      all b e =
          let g = goes net s (firing u b) e in
          let j = merge_inv net s u n b is g.0 g.1.is in
          (ap act_rank j.1, (let k : act_number b ≡ j.0 = ap act_number j.1 in let l = j.2 in omega arith))

  -- the other kinds only go
  pub go_found : (k : Kind) (o : Option Act) → kind_of net u ≡ k → ((w n : ℕ) → k ≡ Fork w n → ⊥) → ((n : ℕ) → k ≡ Cmerge n → ⊥)
      → ((a d : ℕ) (ps : List Port) (gs : List (List ℕ)) (fw : Bool) → k ≡ Lsq a d ps gs fw → ⊥)
      → MatchOption o (NoneIn net s u family.Go (start_from family.Go from 1) 1) (λ act. IsFirstIn net s u family.Go (start_from family.Go from 1) 1 act)
      → MatchOption o (IsQuiet net s u from) (λ act. IsLeastAct net s u from act)
  unfolding row
  go_found (Fork w n) o is nf nc nq h = absurd (nf w n refl)
  go_found (Cmerge n) o is nf nc nq h = absurd (nc n refl)
  go_found (Lsq a d ps gs fw) o is nf nc nq h = absurd (nq a d ps gs fw refl)
  go_found k o is nf nc nq h =
      let all : (b : Act) → enabled net s (firing u b) → b ≡ Go = λ b e. (let g = goes net s (firing u b) e in plain_act net s u b k refl is g.0 g.1.is) in
      family_found net s u from family.Go (start_from family.Go from 1) 1 o (λ b e. ap act_rank (all b e)) (range_from net s u from family.Go 1 (λ b r e. (let k = ap act_number (all b e) in omega arith))) h

-- past the units nothing is enabled
pub past_quiet : (net : Net) (s : State) (f : Firing) → IsChecked net → length s.tokens ≡ length net.chans → length net.units ≤ f.unit → enabled net s f → ⊥
unfolding row
past_quiet net s f checked long l h =
    let g = goes net s f h in
    let is : kind_of net f.unit ≡ Sink 0 = get_or_past net.units f.unit (Sink 0) l in
    let go : f.act ≡ Go = plain_act net s f.unit f.act (Sink 0) refl is g.0 g.1.is in
    let q : effect_of (row (Sink 0) Go (get_or s.own f.unit idle) [] (setting net s)) (head_at net s f.unit) ≡ Some g.0 =
    sym (ap (λ k. effect_of (row k Go (get_or s.own f.unit idle) (at_array s.arrays (uses k)) (setting net s)) (head_at net s f.unit)) is) ∙ sym (ap (λ x. effect net s (firing f.unit x)) go) ∙ g.1.is in
    let w = some (head_at net s f.unit 0) _ q in
    let c : into f.unit 0 net.chans < length net.chans = (let a = first_within s.tokens (into f.unit 0 net.chans) w.0 w.1 in omega arith) in
    let t = (is_at-inv (chan_at net (into f.unit 0 net.chans)).to f.unit 0 (into-at f.unit 0 net.chans c)).0 in
    let k = checked.within.to (into f.unit 0 net.chans) c in
    omega arith
  where
    some : {e : Effect} (o : Option ℕ) (k : ℕ → Option Effect) → with_head o k ≡ Some e → (v : ℕ) × (o ≡ Some v)
    some None k q = cc
    some (Some v) k q = (v, refl)

-- from a place on

pub act_after : (place g : Firing) → FiringLe place g → (place.unit ≤ g.unit) × ActLe (act_from place g.unit) g.act
act_after place g h = (within h, by h (cases_eq g.unit place.unit))
  where
    within : FiringLe place g → place.unit ≤ g.unit
    within (inl l) = omega arith
    within (inr m) = let e = m.0 in omega arith

    by : FiringLe place g → (g.unit ≡ place.unit) ⊎ (g.unit ≡ place.unit → ⊥) → ActLe (act_from place g.unit) g.act
    by (inl l) (inl e) = absurd (omega arith)
    by (inr m) (inl e) = rw (eq-eqb g.unit place.unit e) m.1
    by h (inr n) = rw (ne_eqb g.unit place.unit n) (go_least g.act)

pub quiet_next : (net : Net) (s : State) (place : Firing) (i : ℕ) → ((v : ℕ) → place.unit ≤ v → v < i → IsQuiet net s v (act_from place v)) → IsQuiet net s i (act_from place i)
    → (v : ℕ) → place.unit ≤ v → v < i + 1 → IsQuiet net s v (act_from place v)
quiet_next net s place i h here v m l = by (cases_lt v i)
  where
    by : (v < i) ⊎ (i ≤ v) → IsQuiet net s v (act_from place v)
    by (inl k) = h v m k
    by (inr k) = let e : i ≡ v = omega arith in subst (λ x. IsQuiet net s x (act_from place x)) e here

pub least_from : (net : Net) (s : State) (place : Firing) (u : ℕ) (act : Act) → place.unit ≤ u → ((v : ℕ) → place.unit ≤ v → v < u → IsQuiet net s v (act_from place v))
    → IsLeastAct net s u (act_from place u) act → IsLeastFrom net s place (firing u act)
least_from net s place u act m before w = record {
  fires = w.fires;
  from = le_before place (firing u act) (after w.after (cases_eq u place.unit));
  least = λ g e n. le_before (firing u act) g (by g e (act_after place g (before_le place g n)) (cases_lt g.unit u) (cases_lt u g.unit));
}
  where
    after : ActLe (act_from place u) act → (u ≡ place.unit) ⊎ (u ≡ place.unit → ⊥) → FiringLe place (firing u act)
    after h (inl e) = inr (sym e, subst (λ x. ActLe x act) (ap (λ x. cond x place.act Go) (eq-eqb u place.unit e)) h)
    after h (inr n) = by (cases_lt place.unit u)
      where
        by : (place.unit < u) ⊎ (u ≤ place.unit) → FiringLe place (firing u act)
        by (inl l) = inl l
        by (inr l) = absurd (n (omega arith))

    by : (g : Firing) → enabled net s g → (place.unit ≤ g.unit) × ActLe (act_from place g.unit) g.act → (g.unit < u) ⊎ (u ≤ g.unit) → (u < g.unit) ⊎ (g.unit ≤ u) → FiringLe (firing u act) g
    by g e a (inl l) y = absurd (before g.unit a.0 l g.act e a.1)
    by g e a (inr l) (inl k) = inl k
    by g e a (inr l) (inr k) =
        let q : g.unit ≡ u = omega arith in
        inr (sym q, w.least g.act (subst (λ x. enabled net s (firing x g.act)) q e) (subst (λ x. ActLe (act_from place x) g.act) q a.1))

pub quiet_from : (net : Net) (s : State) (place : Firing) (i : ℕ) → IsChecked net → length s.tokens ≡ length net.chans → length net.units ≤ i
    → ((v : ℕ) → place.unit ≤ v → v < i → IsQuiet net s v (act_from place v)) → IsQuietFrom net s place
quiet_from net s place i checked long past quiet g h = by (before_or place g)
  where
    at : (place.unit ≤ g.unit) × ActLe (act_from place g.unit) g.act → (g.unit < i) ⊎ (i ≤ g.unit) → ⊥
    at a (inl l) = quiet g.unit a.0 l g.act h a.1
    at a (inr l) = past_quiet net s g checked long (omega arith) h

    by : (is_before g place ≡ true) ⊎ FiringLe place g → is_before g place ≡ true
    by (inl e) = e
    by (inr e) = absurd (at (act_after place g e) (cases_lt g.unit i))

-- from the least firing on

first_of_all : (g : Firing) → is_before g (firing 0 Go) ≡ false
first_of_all g = le_before (firing 0 Go) g (by (cases_lt 0 g.unit))
  where
    by : (0 < g.unit) ⊎ (g.unit ≤ 0) → FiringLe (firing 0 Go) g
    by (inl l) = inl l
    by (inr l) = inr (omega arith, go_least g.act)

pub found_all : (net : Net) (s : State) (o : Option Firing) → MatchOption o (IsQuietFrom net s (firing 0 Go)) (λ f. IsLeastFrom net s (firing 0 Go) f)
    → MatchOption o ((f : Firing) → enabled net s f → ⊥) (λ f. IsLeastFiring net s f)
found_all net s None h = λ g e. (let z : true ≡ false = sym (h g e) ∙ first_of_all g in cc)
found_all net s (Some f) h = record { fires = h.fires; least = λ g e. h.least g e (first_of_all g) }
