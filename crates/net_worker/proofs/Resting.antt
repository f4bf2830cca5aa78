-- After an idle sweep the worker's inner units rest.
use Rattle.std.proofs.Common.{◌≡◌, inl, inr, ℕ, ◌+◌, ◌^◌, Option, Some, None, IsSomeAnd, List, [], ◌∷◌, get_or, refl, ap, ◌∙◌, sym, subst, arith}
use Rattle.elastic_link.specs.declared.put_end.PutEnd.{PutEnd}
use Rattle.elastic_link.specs.declared.take_end.TakeEnd.{TakeEnd}
use Rattle.net_types.specs.declared.firing.Firing.{Firing}
use Rattle.net_types.specs.Nets.{into, out_of, chan_at, kind_of, uses}
use Rattle.net_core.specs.declared.plan.Put.{Put}
use Rattle.net_core.specs.Fire.{Effect, row, idle, at_array, setting, head_at, effect, has_room, enabled}
use Rattle.net_core.specs.States.{state_of}
use Rattle.net_core.specs.Uses.{used}
use Rattle.net_core.proofs.ApartLemmas.{is_at-inv, into-at, out_of-at}
use Rattle.net_worker.specs.Merged.{IsInner}
use Rattle.net_worker.specs.Offers.{greatest_in, held_stamp, ToldAt}
use Rattle.net_worker.specs.Rests.{IdleRests}
use Rattle.net_worker.specs.Sweeps.{waits, IsHeldBack, ToldBy}
use Rattle.net_worker.specs.Sweeps as cause
use Rattle.net_worker.specs.Steps.{last_stamp}
use Rattle.net_worker.specs.Workers.{owner_in, IsMadeOf, IsInto, IsOutOf, IsFull, put_end, take_end, held_by}
use Rattle.net_worker.specs.declared.tables.Tables.{Tables}
use Rattle.net_worker.specs.declared.worker.Worker.{Worker}
use Rattle.net_worker.proofs.HeldBack.{waits_effect}

no_effect : {X : Type 0} (o : Option X) (P : X → Type 0) → o ≡ None → IsSomeAnd o P → ⊥
no_effect None P q h = h
no_effect (Some x) P q h = cc

module _ (t : Tables) (a b : Worker) (m : IsMadeOf t a) (k : IsMadeOf t b) (number : b.number ≡ a.number) (log : b.log ≡ a.log) (not_full : IsFull a → ⊥) (f : Firing) (mine : owner_in t f.unit ≡ b.number) (inner : IsInner t.net.now (owner_in t) f.unit) (e : enabled t.net.now (state_of b.portion.state) f) where
  not_into : (p : ℕ) → IsInto t a.number (into f.unit p t.net.now.chans) → ⊥
  not_into p i =
      let c = into f.unit p t.net.now.chans in
      let at = (is_at-inv (chan_at t.net.now c).to f.unit p (into-at f.unit p t.net.now.chans i.0)).0 in
      i.2 (inner c (inr at) ∙ i.1)

  not_out : (p : ℕ) → IsOutOf t a.number (out_of f.unit p t.net.now.chans) → ⊥
  not_out p i =
      let c = out_of f.unit p t.net.now.chans in
      let at = (is_at-inv (chan_at t.net.now c).from f.unit p (out_of-at f.unit p t.net.now.chans i.0)).0 in
      i.2 (sym (inner c (inl at)) ∙ i.1)

  none_held : (p : ℕ) → held_stamp (held_by (take_end b (into f.unit p t.net.now.chans))) ≡ 0
  none_held p = by (take_end b (into f.unit p t.net.now.chans)) refl
    where
      by : (o : Option TakeEnd) → take_end b (into f.unit p t.net.now.chans) ≡ o → held_stamp (held_by o) ≡ 0
      by None is = refl
      by (Some x) is = absurd (not_into p (subst (λ n. IsInto t n (into f.unit p t.net.now.chans)) number (k.takes_in (into f.unit p t.net.now.chans) x is).0))

  none_greatest : (ps : List ℕ) → greatest_in t.net.now b.takes.items f.unit ps ≡ 0
  none_greatest [] = refl
  none_greatest (p ∷ ps) = (let x = none_held p in let y = none_greatest ps in omega arith)

  none_told : (put : Option Put) (r : ℕ) → ToldBy t a b f.unit put r → r ≡ 0
  none_told None r h = h
  none_told (Some w) r h = by (put_end a (out_of f.unit w.place t.net.now.chans)) refl h
    where
      by : (o : Option PutEnd) → put_end a (out_of f.unit w.place t.net.now.chans) ≡ o → ToldAt o (put_end b (out_of f.unit w.place t.net.now.chans)) r → r ≡ 0
      by None is h = h
      by (Some p) is h = absurd (not_out w.place (m.puts_out (out_of f.unit w.place t.net.now.chans) p is).0)

  clock : b.clock ≡ a.clock
  clock = k.clock ∙ (ap (λ g. last_stamp 0 g.items) log ∙ sym m.clock)

  waiting : (p : ℕ) → waits t.net.now (state_of b.portion.state) f ≡ Some p → ⊥
  waiting p w = no_effect (effect t.net.now (state_of b.portion.state) f) (λ y. has_room t.net.now (state_of b.portion.state) f.unit y.put)
      (waits_effect (row (kind_of t.net.now f.unit) f.act (get_or (state_of b.portion.state).own f.unit idle) (at_array (state_of b.portion.state).arrays (uses (kind_of t.net.now f.unit))) (setting t.net.now (state_of b.portion.state))) (head_at t.net.now (state_of b.portion.state) f.unit) p w) e

  room : (x : Effect) → effect t.net.now (state_of b.portion.state) f ≡ Some x → has_room t.net.now (state_of b.portion.state) f.unit x.put
  room x does = subst (λ o. IsSomeAnd o (λ y. has_room t.net.now (state_of b.portion.state) f.unit y.put)) does e

  never : IsHeldBack t a b f → ⊥
  never (cause.stops none w) = no_effect (effect t.net.now (state_of b.portion.state) f) (λ y. has_room t.net.now (state_of b.portion.state) f.unit y.put) none e
  never (cause.inner_input p w n) = waiting p w
  never (cause.inner_output x w does is n l) = (let r = subst (has_room t.net.now (state_of b.portion.state) f.unit) is (room x does) in absurd (omega arith))
  never (cause.no_token p w i n) = not_into p i
  never (cause.no_credit x w does is i n) = not_out w.place i
  never (cause.no_slot x w does is i n) = not_out w.place i
  never (cause.late x r does told l) =
      let g = none_greatest (used t.net.now (state_of b.portion.state) f) in
      let z = none_told x.put r told in
      let s = a.stamp in
      let full : a.clock + 1 ≡ 2 ^ 62 = omega (arith, clock) in
      not_full (inr full)

pub idle_rests : IdleRests
idle_rests t a b m k number swept f mine inner e = never t a b m k number swept.0 swept.3 f mine inner e (swept.1 f (mine ∙ number))
