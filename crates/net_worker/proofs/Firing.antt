-- The stamp of a firing that a worker made is exact, and so are those of all entries of a sweep.
use Rattle.std.proofs.Common.{◌≡◌, ◌⊎◌, inl, inr, ℕ, suc, ◌<◌, max, Option, Some, None, List, [], ◌∷◌, ◌++◌, length, get_or, refl, ap, ◌∙◌, sym, subst, arith, append_assoc}
use mathlib.Core.Path.{fun_ext}
use Rattle.std.specs.List.{AllByRecursion}
use Rattle.std.proofs.lemmas.Bool.{cases_eq}
use Rattle.elastic_link.specs.declared.message.Token.{Token}
use Rattle.elastic_link.specs.declared.take_end.TakeEnd.{TakeEnd}
use Rattle.net_types.specs.declared.firing.Firing.{Firing}
use Rattle.net_types.specs.Nets.{into, chan_at, kind_of, uses}
use Rattle.net_core.specs.Fire.{effect, first, tokens_at, takes_from, head_at, row, idle, at_array, setting}
use Rattle.net_core.specs.States.{state_of}
use Rattle.net_core.specs.Uses.{used}
use Rattle.net_core.proofs.RowLemmas.{Has}
use Rattle.net_core.proofs.ApartLemmas.{is_at-inv, into-at, first_within}
use Rattle.net_worker.specs.Stamped.{stamps_at}
use Rattle.net_worker.specs.Plays.{putter, taker, Plays}
use Rattle.net_worker.specs.Local.{stamps_of, fed_opening}
use Rattle.net_worker.specs.Steps.{last_stamp}
use Rattle.net_worker.specs.Firings.{IsFiredExactly}
use Rattle.net_worker.specs.Going.{IsLater, GoesOn}
use Rattle.net_worker.specs.Offers.{held_stamp, greatest_in}
use Rattle.net_worker.specs.Sweeps.{greatest, stamp_or_0, SweptExactly}
use Rattle.net_worker.specs.Workers.{owner_in, IsMadeOf, IsInto, SameWorker, put_end, take_end, handed_by, held_by}
use Rattle.firing_log.specs.declared.entry.Entry.{Entry}
use Rattle.net_worker.specs.declared.tables.Tables.{Tables}
use Rattle.net_worker.specs.declared.worker.Worker.{Worker}
use Rattle.net_worker.proofs.Exact.{exact_on, exact_snoc, plays_rest, last_more, told_since, swept_self, swept_looked}
use Rattle.net_worker.proofs.Fires.{handed_kept}
use Rattle.net_worker.proofs.Glancing.{fired_same, looked_same, asked_looked, same_worker_self, same_worker_trans}
use Rattle.net_worker.proofs.Mays.{worker_may, used_there, stamp_of, inner_most, after_paired, uses_same}

first_stamp : (ts : List Token) → stamp_or_0 (first (stamps_of ts)) ≡ held_stamp ts
first_stamp [] = refl
first_stamp (x ∷ xs) = refl

no_end : (o : Option TakeEnd) → ((e : TakeEnd) → o ≡ Some e → ⊥) → held_stamp (held_by o) ≡ 0
no_end None f = refl
no_end (Some e) f = absurd (f e refl)

some_stamp : (o : Option ℕ) (y : ℕ) → o ≡ Some y → stamp_or_0 o ≡ y
some_stamp o y q = ap stamp_or_0 q

module _ (t : Tables) (a : Worker) (m : IsMadeOf t a) (u : ℕ) (mine : owner_in t u ≡ a.number) where
  at_place : (p : ℕ) → Has (head_at t.net.now (state_of a.portion.state) u) p
      → max a.clock (stamp_or_0 (first (stamps_at m.after (into u p t.net.now.chans)))) ≡ max a.clock (held_stamp (held_by (take_end a (into u p t.net.now.chans))))
  at_place p h = by (cases_eq (putter t.net.now (owner_in t) c) a.number)
    where
      c : ℕ
      c = into u p t.net.now.chans

      within : c < length t.net.now.chans
      within = let k = first_within (state_of a.portion.state).tokens c h.0 h.1 in omega (arith, m.of.long)

      to : taker t.net.now (owner_in t) c ≡ a.number
      to = ap (owner_in t) (is_at-inv (chan_at t.net.now c).to u p (into-at u p t.net.now.chans within)).0 ∙ mine

      stamp : (y : ℕ) × (first (stamps_at m.after c) ≡ Some y)
      stamp = stamp_of (tokens_at m.after.state c) (stamps_at m.after c) h.0 (after_paired t a m c) (ap first (m.sees.into c to) ∙ h.1)

      by : (putter t.net.now (owner_in t) c ≡ a.number) ⊎ (putter t.net.now (owner_in t) c ≡ a.number → ⊥)
          → max a.clock (stamp_or_0 (first (stamps_at m.after c))) ≡ max a.clock (held_stamp (held_by (take_end a c)))
      by (inl q) =
          let k = inner_most t a m c stamp.0 within (q ∙ sym to) stamp.1 in
          let z = no_end (take_end a c) (λ e is. (m.takes_in c e is).0.2 q) in
          let y = some_stamp (first (stamps_at m.after c)) stamp.0 stamp.1 in
          omega arith
      by (inr q) = ap (λ ns. max a.clock (stamp_or_0 (first ns))) (m.held_stamps c (within, to, q)) ∙ ap (max a.clock) (first_stamp (held_by (take_end a c)))

  at_places : (ps : List ℕ) → AllByRecursion (Has (head_at t.net.now (state_of a.portion.state) u)) ps
      → max a.clock (greatest t.net.now m.after u ps) ≡ max a.clock (greatest_in t.net.now a.takes.items u ps)
  at_places [] h = refl
  at_places (p ∷ ps) h =
      let x = at_place p h.0 in
      let y = at_places ps h.1 in
      omega arith

module _ (t : Tables) (z a b : Worker) (f : Firing) (m : IsMadeOf t a) (same : SameWorker z a) (clock : z.clock ≡ last_stamp 0 z.log.items) (s : SweptExactly t z a) (o : IsFiredExactly t a b f) where
  abbrev owner : ℕ → ℕ
  owner = owner_in t

  abbrev j : ℕ
  j = a.number

  abbrev n : ℕ
  n = o.stamp

  abbrev entry : Entry
  entry = record { stamp = n; firing = f }

  abbrev given : ℕ → List Token
  given c = handed_by (take_end a c)

  given_same : ◌≡◌ {A = ℕ → List Token} (λ c. handed_by (take_end b c)) given
  given_same = fun_ext (λ c. handed_kept (takes_from t.net.now f.unit o.effect c) n (take_end a c) (take_end b c) (o.fired.takes c))

  plays_all : Plays t.net.now owner j 0 (fed_opening t.net.now t.inputs given) (z.log.items ++ s.added) m.after
  plays_all = subst (λ es. Plays t.net.now owner j 0 (fed_opening t.net.now t.inputs given) es m.after) s.log m.local.plays

  plays_first : Plays t.net.now owner j 0 (fed_opening t.net.now t.inputs given) z.log.items s.from
  plays_first = subst (λ i. Plays t.net.now owner i 0 (fed_opening t.net.now t.inputs given) z.log.items s.from) (sym same.number) s.plays

  plays_added : Plays t.net.now owner j (last_stamp 0 z.log.items) s.from s.added m.after
  plays_added = plays_rest t.net.now owner j 0 (fed_opening t.net.now t.inputs given) z.log.items s.added s.from m.after plays_all plays_first

  clock_is : a.clock ≡ last_stamp z.clock s.added
  clock_is = m.clock ∙ (ap (last_stamp 0) s.log ∙ (last_more 0 z.log.items s.added ∙ ap (λ k. last_stamp k s.added) (sym clock)))

  may : (effect t.net.now m.after.state f ≡ Some o.effect) × Rattle.net_worker.specs.Plays.MayIn t.net.now owner j n m.after f
  may = worker_may t a m f o.effect n o.fired.may

  greatest_is : max a.clock (greatest t.net.now m.after f.unit (used t.net.now m.after.state f)) ≡ max a.clock (greatest_in t.net.now a.takes.items f.unit (used t.net.now (state_of a.portion.state) f))
  greatest_is =
      ap (λ ps. max a.clock (greatest t.net.now m.after f.unit ps)) (uses_same t a m f o.effect n o.fired.may)
      ∙ at_places t a m f.unit o.fired.may.mine (used t.net.now (state_of a.portion.state) f)
      (used_there (row (kind_of t.net.now f.unit) f.act (get_or (state_of a.portion.state).own f.unit idle) (at_array (state_of a.portion.state).arrays (uses (kind_of t.net.now f.unit))) (setting t.net.now (state_of a.portion.state))) (head_at t.net.now (state_of a.portion.state) f.unit) o.effect o.fired.may.does)

  stamp_is : n ≡ suc (max (last_stamp z.clock s.added) (max (greatest t.net.now m.after f.unit (used t.net.now m.after.state f)) o.told))
  stamp_is = omega (arith, o.exact, greatest_is, clock_is)

  swept_then : SweptExactly t z b
  swept_then = record {
    added = s.added ++ entry ∷ [];
    log = o.fired.items ∙ (ap (λ es. es ++ entry ∷ []) s.log ∙ append_assoc z.log.items s.added (entry ∷ []));
    from = s.from;
    plays = subst (λ g. Plays t.net.now owner z.number 0 (fed_opening t.net.now t.inputs g) z.log.items s.from) (sym given_same) s.plays;
    exact = exact_snoc t z b j z.clock (last_stamp 0 z.log.items) s.from s.added m.after entry o.effect o.told plays_added
        (exact_on t z a b z.clock s.from s.added (fired_same t a b f o.effect n o.fired) s.exact) may.0
        (told_since t z a b f.unit o.effect.put o.told same o.by) stamp_is;
  }

-- ---- how a worker goes on

pub later_self : (t : Tables) (a : Worker) → IsMadeOf t a → IsLater t a a
later_self t a m = record { same = same_worker_self a; exact = swept_self t a m; clock = m.clock }

pub later_same : (t : Tables) (a b : Worker) → IsMadeOf t a → GoesOn t a b → SameWorker a b
later_same t a b m g = (g a (later_self t a m)).same

pub goes_self : (t : Tables) (a : Worker) → GoesOn t a a
goes_self t a z l = l

pub goes_trans : (t : Tables) (a b c : Worker) → GoesOn t a b → GoesOn t b c → GoesOn t a c
goes_trans t a b c g h z l = h z (g z l)

pub goes_looked : (t : Tables) (a b : Worker) → IsMadeOf t a → IsMadeOf t b → Rattle.net_worker.specs.Glances.IsLooked a b → GoesOn t a b
goes_looked t a b m k l z s = record { same = same_worker_trans z a b s.same (looked_same a b l); exact = swept_looked t z a b m k s.same l s.exact; clock = s.clock }

pub goes_asked : (t : Tables) (a b : Worker) → IsMadeOf t a → Rattle.net_worker.specs.Asking.IsAsked a b → GoesOn t a b
goes_asked t a b m h = goes_looked t a b m (Rattle.net_worker.proofs.Asking.asked_made t a b m h) (asked_looked a b h)

pub goes_fired : (t : Tables) (a b : Worker) (f : Firing) → IsMadeOf t a → IsFiredExactly t a b f → GoesOn t a b
goes_fired t a b f m o z s = record { same = same_worker_trans z a b s.same (fired_same t a b f o.effect o.stamp o.fired); exact = swept_then t z a b f m s.same s.clock s.exact o; clock = s.clock }

pub fired_made : (t : Tables) (a b : Worker) (f : Firing) → IsMadeOf t a → Rattle.net_worker.specs.Workers.IsWhole t a → IsFiredExactly t a b f → IsMadeOf t b
fired_made t a b f m w o = Rattle.net_worker.proofs.Fires.made_fires t a b f o.effect o.stamp m w o.fired

pub goes_then_asked : (t : Tables) (a m b : Worker) → IsMadeOf t m → GoesOn t a m → Rattle.net_worker.specs.Asking.IsAsked m b → GoesOn t a b
goes_then_asked t a m b k g h z l = goes_asked t m b k h z (g z l)

-- after a firing, marks were set and it looked again
pub goes_again : (t : Tables) (a m w b : Worker) (f : Firing) → Rattle.net_worker.specs.Glances.IsLooked w b → IsMadeOf t b → IsMadeOf t a → Rattle.net_worker.specs.Workers.IsWhole t a → IsFiredExactly t a m f → Rattle.net_worker.specs.Asking.IsAsked m w → GoesOn t a b
goes_again t a m w b f l k made whole o h z s =
    let mm = fired_made t a m f made whole o in
    goes_looked t w b (Rattle.net_worker.proofs.Asking.asked_made t m w mm h) k l z (goes_asked t m w mm h z (goes_fired t a m f made o z s))
