-- A new worker.
use Rattle.std.proofs.Common.{◌≡◌, ◌⊎◌, inl, inr, ℕ, ◌<◌, ◌≤◌, ◌*◌, false, Option, Some, None, List, [], length, get_or, replicate, refl, ap, ◌∙◌, sym, subst, arith}
use Rattle.std.specs.List.{All, Contains}
use Rattle.std.proofs.lemmas.Bool.{cases_lt, false≢true}
use Rattle.el_base.specs.Limits.{max_depth}
use Rattle.net_types.specs.Nets.{chan_at, kind_of, uses}
use Rattle.net_core.specs.Fire.{idle, at_array, tokens_at}
use Rattle.net_core.specs.Runs.{opening}
use Rattle.net_core.specs.States.{IsOf, CountsWithin, state_of}
use Rattle.net_worker.specs.Stamped.{Stamped, stamps_at}
use Rattle.net_worker.specs.Plays.{Plays, take_stamps}
use Rattle.net_worker.specs.Local.{values, stamps_of, StandFor, HadRoom, IsLocal, fed_opening}
use Rattle.net_worker.specs.Steps.{last_stamp}
use Rattle.net_worker.specs.Workers.{owner_in, HoldsOwn, IsMadeOf, IsInto, IsOutOf, Sees, shown, put_end, take_end, held_by, handed_by, put_by, received_by, repaid_by}
use Rattle.firing_log.specs.declared.entry.Entry.{Entry}
use Rattle.net_worker.specs.declared.tables.Tables.{Tables}
use Rattle.net_worker.specs.declared.worker.Worker.{Worker}
use Rattle.net_core.proofs.RegularLemmas.{opening_tokens}
use Rattle.net_worker.proofs.EndPlaces.{nothing_there}
use Rattle.net_worker.proofs.Exits.{exit_opening}
use Rattle.net_worker.proofs.Opening.{fed_tokens, fed_stamps, fed_past}

none_is : {X : Type 0} (o : Option X) (x : X) → o ≡ None → o ≡ Some x → ⊥
none_is o x p q = cc

no_entries : (n k : ℕ) (es : List Entry) → es ≡ [] → n * length es ≡ 0
no_entries n k es h = ap (λ l. n * length l) h ∙ omega arith

-- what a worker begins with
pub record IsBegun (t : Tables) (w : Worker) : Type 0 where
  pub of : IsOf t.net.now w.portion.state
  pub own : HoldsOwn t w.number w.portion
  pub state : state_of w.portion.state ≡ opening t.net.now t.inputs
  pub counts : CountsWithin 0 (state_of w.portion.state)
  pub log : w.log.items ≡ []
  pub room : w.log.room ≡ w.share
  pub clock : w.clock ≡ 0
  pub resting : w.resting ≡ false
  pub puts : w.puts.items ≡ replicate (length t.net.now.chans) None
  pub takes : w.takes.items ≡ replicate (length t.net.now.chans) None
  pub outs : (c : ℕ) → IsOutOf t w.number c → Contains w.outs.items c
  pub outs_only : All (IsOutOf t w.number) w.outs.items
  pub ins : (c : ℕ) → IsInto t w.number c → Contains w.ins.items c
  pub ins_only : All (IsInto t w.number) w.ins.items

module _ (t : Tables) (w : Worker) (b : IsBegun t w) where
  no_put : (c : ℕ) → put_end w c ≡ None
  no_put c = ap (λ l. get_or l c None) b.puts ∙ nothing_there (length t.net.now.chans) c

  no_take : (c : ℕ) → take_end w c ≡ None
  no_take c = ap (λ l. get_or l c None) b.takes ∙ nothing_there (length t.net.now.chans) c

  abbrev after : Stamped
  after = fed_opening t.net.now t.inputs (λ c. handed_by (take_end w c))

  empty : (c : ℕ) → tokens_at after.state c ≡ []
  empty c = by (cases_lt c (length t.net.now.chans))
    where
      by : (c < length t.net.now.chans) ⊎ (length t.net.now.chans ≤ c) → tokens_at after.state c ≡ []
      by (inl l) = fed_tokens t.net.now t.inputs (λ c. handed_by (take_end w c)) c l ∙ ap (λ o. values (handed_by o)) (no_take c)
      by (inr l) = fed_past t.net.now t.inputs (λ c. handed_by (take_end w c)) c l

  unstamped : (c : ℕ) → c < length t.net.now.chans → stamps_at after c ≡ []
  unstamped c l = fed_stamps t.net.now t.inputs (λ c. handed_by (take_end w c)) c l ∙ ap (λ o. stamps_of (handed_by o)) (no_take c)

  here_empty : (c : ℕ) → tokens_at (state_of w.portion.state) c ≡ []
  here_empty c = ap (λ s. tokens_at s c) b.state ∙ opening_tokens t.net.now t.inputs c

  local : IsLocal t.net.now t.inputs (owner_in t) w.number (shown w after)
  local = record {
    plays = subst (λ es. Plays t.net.now (owner_in t) w.number 0 after es after) (sym b.log) refl;
    from_others = λ c q. ap handed_by (no_take c);
    to_itself = λ c q. ap handed_by (no_take c);
    values_put = λ c l p q. empty c ∙ ap (λ o. values (put_by o)) (sym (no_put c));
    stamps_put = λ c l p q. unstamped c l ∙ ap (λ o. stamps_of (put_by o)) (sym (no_put c));
    had_room = λ c l p q. subst (λ o. HadRoom (chan_at t.net.now c).slots (put_by o) (received_by (put_end w c))) (sym (no_put c)) (λ k h. absurd (omega arith));
    stand_for = λ c l p q. subst (λ o. StandFor (repaid_by o) (take_stamps t.net.now c after w.log.items)) (sym (no_take c)) (ap (take_stamps t.net.now c after) b.log);
  }

  sees : Sees t.net.now (owner_in t) w.number (state_of w.portion.state) after.state
  sees = record {
    scalars = ap (λ s. s.scalars) (sym b.state);
    own = λ u q. ap (λ s. get_or s.own u idle) (sym b.state);
    arrays = λ u q. ap (λ s. at_array s.arrays (uses (kind_of t.net.now u))) (sym b.state);
    into = λ c q. empty c ∙ sym (here_empty c);
    out = λ c l q. here_empty c;
    arrays_long = ap (λ s. length s.arrays) (sym b.state);
    strays = ap (λ s. s.strays) (sym b.state);
  }

  begun : IsMadeOf t w
  begun = record {
    of = b.of;
    own = b.own;
    counts = subst (λ n. CountsWithin n (state_of w.portion.state)) (sym (no_entries max_depth 0 w.log.items b.log)) b.counts;
    room = (let e = ap length b.log in omega (arith, b.room));
    ends = ap length b.puts ∙ Rattle.std.proofs.lemmas.List.length-replicate (length t.net.now.chans) None;
    ends_too = ap length b.takes ∙ Rattle.std.proofs.lemmas.List.length-replicate (length t.net.now.chans) None;
    clock = b.clock ∙ ap (last_stamp 0) (sym b.log);
    after = after;
    local = local;
    sees = sees;
    exit = exit_opening t.net.now t.inputs w.portion.state w.log.items b.of b.state b.log;
    held = λ c i. empty c ∙ ap (λ o. values (held_by o)) (sym (no_take c));
    held_stamps = λ c i. unstamped c i.0 ∙ ap (λ o. stamps_of (held_by o)) (sym (no_take c));
    puts_out = λ c p is. absurd (none_is (put_end w c) p (no_put c) is);
    takes_in = λ c e is. absurd (none_is (take_end w c) e (no_take c) is);
    outs = b.outs;
    outs_only = b.outs_only;
    ins = b.ins;
    ins_only = b.ins_only;
    repaid = λ c e is. absurd (none_is (take_end w c) e (no_take c) is);
    rests = λ r. absurd (false≢true (sym b.resting ∙ r));
  }

pub begun_made : (t : Tables) (w : Worker) → IsBegun t w → IsMadeOf t w
begun_made t w b = begun t w b
