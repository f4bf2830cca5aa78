-- Inner units rest in a worker that went idle.
use Rattle.std.proofs.Common.{◌≡◌, ◌≢◌, ◌⊎◌, inl, inr, ℕ, suc, ◌+◌, ◌^◌, ◌<◌, ◌≤◌, max, List, [], ◌∷◌, length, get_or, Option, Some, None, refl, ap, ◌∙◌, sym, subst, arith}
use Rattle.elastic_link.specs.declared.put_end.PutEnd.{PutEnd}
use Rattle.elastic_link.specs.declared.take_end.TakeEnd.{TakeEnd}
use Rattle.net_types.specs.declared.net.Net.{Net}
use Rattle.net_types.specs.declared.firing.Firing.{Firing}
use Rattle.net_types.specs.Nets.{into, out_of, chan_at, kind_of, uses}
use Rattle.net_core.specs.declared.plan.Put.{Put}
use Rattle.net_core.specs.Fire.{State, Row, Stop, Look, Take, Fires, Effect, effect_of, with_head, taking, row, idle, at_array, setting, head_at, effect, enabled, has_room}
use Rattle.net_core.specs.Uses.{used}
use Rattle.net_core.proofs.ApartLemmas.{is_at-inv, into-at, out_of-at}
use Rattle.net_core.proofs.GoesLemmas.{goes}
use Rattle.net_worker.specs.declared.tables.Tables.{Tables}
use Rattle.net_worker.specs.declared.worker.Worker.{Worker}
use Rattle.net_worker.specs.Plays.{putter, taker}
use Rattle.net_worker.specs.Merged.{IsInner}
use Rattle.net_worker.specs.Offers.{ToldFor, ToldAt, greatest_in, held_stamp}
use Rattle.net_worker.specs.Steps.{last_stamp}
use Rattle.net_worker.specs.Sweeps.{IsHeldBack, stops, inner_input, inner_output, no_token, no_credit, no_slot, late, asked, waits_at, waits, AllHeldBack, ToldBy}
use Rattle.net_worker.specs.Views.{net_of, owner_in, number_of, clock_of, log_of, held_state, put_end, take_end}
use Rattle.net_worker.specs.Workers.{IsMadeOf, IsOutOf, IsInto, IsFull, HasRested, held_by}

-- ---- a row that waits for a head has no effect

waits_head : (o : Option ℕ) (p q : ℕ) (next : ℕ → Option ℕ) (k : ℕ → Option Effect) → asked o p next ≡ Some q → ((v : ℕ) → next v ≡ Some q → k v ≡ None) → with_head o k ≡ None
waits_head None p q next k is more = refl
waits_head (Some v) p q next k is more = more v is

waits_none : (r : Row) (h : ℕ → Option ℕ) (q : ℕ) → waits_at r h ≡ Some q → effect_of r h ≡ None
waits_none Stop h q is = refl
waits_none (Look p next) h q is = waits_head (h p) p q (λ v. waits_at (next v) h) (λ v. effect_of (next v) h) is (λ v e. waits_none (next v) h q e)
waits_none (Take p next) h q is = waits_head (h p) p q (λ v. waits_at (next v) h) (λ v. taking p (effect_of (next v) h)) is (λ v e. ap (taking p) (waits_none (next v) h q e))
waits_none (Fires put own array strays) h q is = cc

waits_stop : (net : Net) (s : State) (f : Firing) (q : ℕ) → waits net s f ≡ Some q → effect net s f ≡ None
waits_stop net s f q is =
    waits_none (row (kind_of net f.unit) f.act (get_or s.own f.unit idle) (at_array s.arrays (uses (kind_of net f.unit))) (setting net s)) (head_at net s f.unit) q is

none_some : {X : Type 0} (o : Option X) (x : X) → o ≡ None → o ≡ Some x → ⊥
none_some o x a b = let e : None ≡ Some x = sym a ∙ b in absurd (cc)

one_effect : (o : Option Effect) (x y : Effect) → o ≡ Some x → o ≡ Some y → y ≡ x
one_effect o x y a b = let e : Some x ≡ Some y = sym a ∙ b in let k : x ≡ y = cc in sym k

-- ---- inner units

module _ (t : Tables) (j u : ℕ) (mine : owner_in t u ≡ j) (inner : IsInner (net_of t) (owner_in t) u) where
  no_out : (p : ℕ) → IsOutOf t j (out_of u p (net_of t).chans) → ⊥
  no_out p o =
      let c = out_of u p (net_of t).chans in
      let at : (chan_at (net_of t) c).from.unit ≡ u = (is_at-inv (chan_at (net_of t) c).from u p (out_of-at u p (net_of t).chans o.0)).0 in
      o.2 (sym (inner c (inl at)) ∙ o.1)

  no_into : (p : ℕ) → IsInto t j (into u p (net_of t).chans) → ⊥
  no_into p o =
      let c = into u p (net_of t).chans in
      let at : (chan_at (net_of t) c).to.unit ≡ u = (is_at-inv (chan_at (net_of t) c).to u p (into-at u p (net_of t).chans o.0)).0 in
      o.2 (inner c (inr at) ∙ o.1)

  none_held : (w : Worker) (c : ℕ) → number_of w ≡ j → IsMadeOf t w → (IsInto t j c → ⊥) → held_by (take_end w c) ≡ []
  none_held w c n m outside = by (take_end w c) refl
    where
      by : (o : Option TakeEnd) → take_end w c ≡ o → held_by o ≡ []
      by None is = refl
      by (Some e) is = absurd (outside (subst (λ i. IsInto t i c) n (m.takes_in c e is).0))

  nothing_held : (w : Worker) → number_of w ≡ j → IsMadeOf t w → (ps : List ℕ) → greatest_in (net_of t) w.takes.items u ps ≡ 0
  nothing_held w n m [] = refl
  nothing_held w n m (p ∷ ps) =
      let one : held_stamp (held_by (take_end w (into u p (net_of t).chans))) ≡ 0 = ap held_stamp (none_held w (into u p (net_of t).chans) n m (no_into p)) in
      omega (arith, one, nothing_held w n m ps)

  none_told : (w b : Worker) → number_of w ≡ j → IsMadeOf t w → (o : Option Put) (r : ℕ) → ToldBy t w b u o r → r ≡ 0
  none_told w b n m None r is = is
  none_told w b n m (Some x) r is = by (put_end w c) refl is
    where
      c : ℕ
      c = out_of u x.place (net_of t).chans

      by : (o : Option PutEnd) → put_end w c ≡ o → ToldAt o (put_end b c) r → r ≡ 0
      by None e told = told
      by (Some p) e told = absurd (no_out x.place (subst (λ i. IsOutOf t i c) n (m.puts_out c p e).0))

-- ---- a worker that went idle

too_late : (b : Worker) (above told : ℕ) → above ≡ 0 → told ≡ 0 → 2 ^ 62 ≤ suc (max (clock_of b) (max above told)) → clock_of b + 1 ≡ 2 ^ 62
too_late b above told a r l = omega (arith, b.stamp)

same_clock : (t : Tables) (a b : Worker) → IsMadeOf t a → IsMadeOf t b → log_of b ≡ log_of a → clock_of b ≡ clock_of a
same_clock t a b m n log = n.clock ∙ (ap (last_stamp 0) log ∙ sym m.clock)

not_enabled : (t : Tables) (a b : Worker) (f : Firing) (x : Effect) → IsMadeOf t a → IsMadeOf t b → number_of b ≡ number_of a → log_of b ≡ log_of a → (IsFull a → ⊥)
    → owner_in t f.unit ≡ number_of a → IsInner (net_of t) (owner_in t) f.unit
    → effect (net_of t) (held_state b) f ≡ Some x → has_room (net_of t) (held_state b) f.unit x.put → IsHeldBack t a b f → ⊥
not_enabled t a b f x m n number log full mine inner does room (stops e w) = none_some (effect (net_of t) (held_state b) f) x e does
not_enabled t a b f x m n number log full mine inner does room (inner_input p w outside) = none_some (effect (net_of t) (held_state b) f) x (waits_stop (net_of t) (held_state b) f p w) does
not_enabled t a b f x m n number log full mine inner does room (inner_output y w e put outside least) =
    let same : x.put ≡ Some w = ap (λ (z : Effect). z.put) (one_effect (effect (net_of t) (held_state b) f) y x e does) ∙ put in
    let has = subst (has_room (net_of t) (held_state b) f.unit) same room in
    absurd (omega (arith, has, least))
not_enabled t a b f x m n number log full mine inner does room (no_token p w into_me none) = none_some (effect (net_of t) (held_state b) f) x (waits_stop (net_of t) (held_state b) f p w) does
not_enabled t a b f x m n number log full mine inner does room (no_credit y w e put out none) = no_out t (number_of a) f.unit mine inner w.place out
not_enabled t a b f x m n number log full mine inner does room (no_slot y w e put out none) = no_out t (number_of a) f.unit mine inner w.place out
not_enabled t a b f x m n number log full mine inner does room (late y r e told above) =
    let held = nothing_held t (number_of a) f.unit mine inner b number n (used (net_of t) (held_state b) f) in
    let none = none_told t (number_of a) f.unit mine inner a b refl m y.put r told in
    let last = too_late b (greatest_in (net_of t) b.takes.items f.unit (used (net_of t) (held_state b) f)) r held none above in
    full (inr (let same = same_clock t a b m n log in omega (arith, last, same)))

pub rests : (t : Tables) (a b : Worker) → IsMadeOf t a → IsMadeOf t b → number_of b ≡ number_of a → log_of b ≡ log_of a → (IsFull a → ⊥) → AllHeldBack t a b → HasRested t b
rests t a b m n number log full held f mine inner can =
    let g = goes (net_of t) (held_state b) f can in
    not_enabled t a b f g.0 m n number log full (mine ∙ number) inner g.1.is g.1.room (held f (mine ∙ number))
