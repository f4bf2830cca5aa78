-- Turns of one of a worker's own units.
use Rattle.std.proofs.Common.{◌≡◌, ℕ, ◌+◌, ◌∷◌, [], Option, Some, None, length, ap, ◌∙◌, sym, subst, arith, length-append}
use Rattle.net_types.specs.declared.net.Net.{Net}
use Rattle.net_types.specs.declared.firing.Firing.{Firing}
use Rattle.net_core.specs.declared.plan.Put.{Put}
use Rattle.net_core.specs.Fire.{State, has_room}
use Rattle.net_core.specs.declared.plan.Plan.{Plan}
use Rattle.net_core.specs.declared.plan.Moves.{Moves}
use Rattle.net_core.specs.Plans.{laid_of, moves_of}
use Rattle.net_worker.specs.Asking.{IsAsked}
use Rattle.net_worker.specs.Firings.{IsFiredExactly}
use Rattle.net_worker.specs.Glances.{IsLooked}
use Rattle.net_worker.specs.Turns.{HasUnit, HasMade, HasRoomToLay}
use Rattle.net_worker.specs.Workers.{IsMadeOf}
use Rattle.net_worker.specs.declared.tables.Tables.{Tables}
use Rattle.net_worker.specs.declared.worker.Worker.{Worker}
use Rattle.net_worker.proofs.Asking.{asked_trans, asked_made}
use Rattle.net_worker.proofs.Firing.{later_same, goes_again, goes_asked, goes_fired, fired_made}
use Rattle.net_worker.proofs.Glancing.{same_whole}
use Rattle.net_worker.specs.Portions.{HasPins}
use Rattle.net_worker.proofs.Holdings.{pins_on, unit_pins}

pub laid_room : (net : Net) (s : State) (u : ℕ) (put : Option Put) → HasRoomToLay net s (laid_of net u put) → has_room net s u put
laid_room net s u None h = tt
laid_room net s u (Some w) h = h

-- the worker was only asked
pub made_none : (t : Tables) (a b : Worker) → IsMadeOf t a → IsAsked a b → HasMade t 0 a b
made_none t a b m h = record {
  made = asked_made t a b m h;
  later = goes_asked t a b m h;
  added = (let e = ap (λ (l : Rattle.el_base.specs.Logs.Logged Rattle.firing_log.specs.declared.entry.Entry.Entry). length l.items) h.log in omega arith);
  none = λ _. h;
}

-- a firing was made, and marks were set
pub made_one : (t : Tables) (a m b : Worker) (f : Firing) → HasUnit t a f.unit → IsFiredExactly t a m f → IsAsked m b → HasMade t 1 a b
made_one t a m b f own o h =
    let k : IsMadeOf t m = fired_made t a m f own.made own.whole o in
    record {
      made = asked_made t m b k h;
      later = λ z l. goes_asked t m b k h z (goes_fired t a m f own.made o z l);
      added =
          (let e = ap (λ (l : Rattle.el_base.specs.Logs.Logged Rattle.firing_log.specs.declared.entry.Entry.Entry). length l.items) h.log in
          let g : length m.log.items ≡ length a.log.items + 1 = ap length o.fired.items ∙ length-append a.log.items ((record { stamp = o.stamp; firing = f }) ∷ []) in
          omega arith);
      none = λ q. absurd (omega arith);
    }

-- a firing was made, marks were set, and it looked again
pub made_looked : (t : Tables) (a m w b : Worker) (f : Firing) → HasUnit t a f.unit → IsFiredExactly t a m f → IsAsked m w → IsLooked w b → IsMadeOf t b → HasMade t 1 a b
made_looked t a m w b f own o h l k = record {
  made = k;
  later = goes_again t a m w b f l k own.made own.whole o h;
  added = (let s : length w.log.items ≡ length a.log.items + 1 = (made_one t a m w f own o h).added in
      let e = ap (λ (l : Rattle.el_base.specs.Logs.Logged Rattle.firing_log.specs.declared.entry.Entry.Entry). length l.items) l.log in
      omega arith);
  none = λ q. absurd (omega arith);
}

-- firings were made, and then more
pub made_more : (t : Tables) (n k : ℕ) (a m b : Worker) → HasMade t n a m → HasMade t k m b → HasMade t (n + k) a b
made_more t n k a m b h g = record {
  made = g.made;
  later = λ z l. g.later z (h.later z l);
  added = (let x = h.added in let y = g.added in omega arith);
  none = λ q. asked_trans a m b (h.none (omega arith)) (g.none (omega arith));
}

-- the unit is the worker's own still
pub still_has : (t : Tables) (n : ℕ) (a b : Worker) (u : ℕ) → HasUnit t a u → HasMade t n a b → HasUnit t b u
still_has t n a b u own h =
    let s = later_same t a b own.made h.later in
    record {
      made = h.made;
      whole = same_whole t a b s own.whole;
      mine = own.mine ∙ sym s.number;
      within = own.within;
    }

pub room_by_moves : (net : Net) (s : State) (u : ℕ) (p : Plan) (m : Moves) → m ≡ moves_of net u p → HasRoomToLay net s m.laid → has_room net s u p.put
room_by_moves net s u p m is h = laid_room net s u p.put (subst (λ (x : Moves). HasRoomToLay net s x.laid) is h)

-- after a firing its unit is here with all channels at it
pub fired_pins : (t : Tables) (a m : Worker) (f : Firing) → HasUnit t a f.unit → IsFiredExactly t a m f → HasPins t.net.now m.portion f.unit
fired_pins t a m f own o = pins_on t.net.now a.portion m.portion f.unit o.fired.here (unit_pins t a f.unit own)
