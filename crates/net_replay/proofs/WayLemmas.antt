-- The plain runner, one firing after another.
use Rattle.std.proofs.Common.{◌≡◌, ℕ, ◌+◌, ◌*◌, ◌^◌, ◌<◌, ◌≤◌, ◌∙◌, Bool, true, false, List, [], ◌∷◌, ◌++◌, refl, sym, ap, arith, length-append, append_assoc}
use Rattle.std.proofs.lemmas.List.{append-nil}
use Rattle.el_base.specs.Limits.{max_depth, max_firings}
use Rattle.el_base.specs.Logs.{Logged}
use Rattle.net_types.specs.declared.net.Net.{Net}
use Rattle.net_types.specs.declared.firing.Firing.{Firing}
use Rattle.net_core.specs.Fire.{State, enabled, after}
use Rattle.net_core.specs.Runs.{AtRest}
use Rattle.net_core.specs.States.{CountsWithin, CountsRise}
use Rattle.net_replay.specs.declared.runner.Ended.TheVariants.{Rest, Limit}
use Rattle.net_replay.specs.Finishes.{Finished, IsLogged}
use Rattle.net_replay.specs.private.Advances.{Advances, MayAdvance}
use Rattle.net_replay.proofs.PathLemmas.{leads_on, counts_less, counts_more}

pub logged_none : (keep : Bool) (log : Logged Firing) → IsLogged keep [] log log
logged_none true log = record { items = sym (append-nil log.items); room = omega arith }
logged_none false log = record { items = sym (append-nil log.items); room = omega arith }

logged_then : (keep : Bool) (fs gs : List Firing) (old mid new : Logged Firing) → IsLogged keep fs old mid → IsLogged keep gs mid new → IsLogged keep (fs ++ gs) old new
logged_then true fs gs old mid new a b = record {
  items = b.items ∙ ap (λ x. x ++ gs) a.items ∙ append_assoc old.items fs gs;
  room = omega (arith, a.room, b.room, length-append fs gs);
}
logged_then false fs gs old mid new a b = record {
  items = b.items ∙ append-nil mid.items ∙ a.items;
  room = omega (arith, a.room, b.room);
}

pub may_start : (s : State) (limit : ℕ) (keep : Bool) (made : ℕ) (log : Logged Firing) → made ≤ limit → limit ≤ max_firings → CountsWithin (2 ^ 60) s
    → (keep ≡ true → limit ≤ made + log.room) → MayAdvance s limit keep made log
may_start s limit keep made log l few h room = record {
  within = l;
  few = few;
  counts = counts_less (2 ^ 60) (2 ^ 60 + made * max_depth) s (omega arith) h;
  room = room;
}

pub may_counts : (s : State) (limit : ℕ) (keep : Bool) (count : ℕ) (log : Logged Firing) → MayAdvance s limit keep count log → CountsWithin (2 ^ 62) s
may_counts s limit keep count log h = counts_less (2 ^ 60 + count * max_depth) (2 ^ 62) s (omega (arith, h.within, h.few)) h.counts

pub may_room : (s : State) (limit : ℕ) (keep : Bool) (count : ℕ) (log : Logged Firing) → MayAdvance s limit keep count log → count < limit → keep ≡ true → 0 < log.room
may_room s limit keep count log h l is = omega (arith, h.room is)

pub way_none : (net : Net) (s : State) (limit : ℕ) (keep : Bool) (count : ℕ) (log : Logged Firing) → MayAdvance s limit keep count log
    → Advances net s s limit keep count count log log
way_none net s limit keep count log h = record { firings = []; leads = refl; counted = omega arith; logged = logged_none keep log; may = h }

room_one : (limit : ℕ) (keep : Bool) (count : ℕ) (f : Firing) (log new : Logged Firing) → IsLogged keep (f ∷ []) log new → (keep ≡ true → limit ≤ count + log.room)
    → keep ≡ true → limit ≤ (count + 1) + new.room
room_one limit true count f log new logged room is = omega (arith, room is, logged.room)
room_one limit false count f log new logged room is = cc

pub way_one : (net : Net) (s t : State) (limit : ℕ) (keep : Bool) (count : ℕ) (f : Firing) (log new : Logged Firing) → MayAdvance s limit keep count log → count < limit
    → enabled net s f → t ≡ after net s f → CountsRise max_depth s t → IsLogged keep (f ∷ []) log new → Advances net s t limit keep count (count + 1) log new
way_one net s t limit keep count f log new h l e is rise logged = record {
  firings = f ∷ [];
  leads = (e, sym is);
  counted = omega arith;
  logged = logged;
  may = record {
    within = omega arith;
    few = h.few;
    counts = counts_more (2 ^ 60 + count * max_depth) (2 ^ 60 + (count + 1) * max_depth) max_depth s t (omega arith) h.counts rise;
    room = room_one limit keep count f log new logged h.room;
  };
}

pub way_then : (net : Net) (s t u : State) (limit : ℕ) (keep : Bool) (a b c : ℕ) (old mid new : Logged Firing) → Advances net s t limit keep a b old mid
    → Advances net t u limit keep b c mid new → Advances net s u limit keep a c old new
way_then net s t u limit keep a b c old mid new h k = record {
  firings = h.firings ++ k.firings;
  leads = leads_on net s h.firings k.firings t u h.leads k.leads;
  counted = omega (arith, h.counted, k.counted, length-append h.firings k.firings);
  logged = logged_then keep h.firings k.firings old mid new h.logged k.logged;
  may = k.may;
}

pub way_rests : (net : Net) (s t : State) (made limit : ℕ) (keep : Bool) (count : ℕ) (old log : Logged Firing) → Advances net s t limit keep made count old log → AtRest net t
    → Finished net s t made limit keep old log (Rest count)
way_rests net s t made limit keep count old log h rest = record {
  firings = h.firings;
  finishes = record { leads = h.leads; ends = record { rest = rest; counted = h.counted; within = h.may.within } };
  logged = h.logged;
}

pub way_limited : (net : Net) (s t : State) (made limit : ℕ) (keep : Bool) (count : ℕ) (old log : Logged Firing) (f : Firing) → Advances net s t limit keep made count old log
    → count ≡ limit → enabled net t f → Finished net s t made limit keep old log Limit
way_limited net s t made limit keep count old log f h is e = record {
  firings = h.firings;
  finishes = record { leads = h.leads; ends = record { reached = sym h.counted ∙ is; next = f; goes = e } };
  logged = h.logged;
}
