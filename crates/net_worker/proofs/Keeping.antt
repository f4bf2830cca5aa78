-- A worker whose ends took in messages, sent what they owed or were only asked.
use Rattle.std.proofs.Common.{◌≡◌, ℕ, ◌+◌, ◌*◌, false, Option, Some, None, List, length, refl, ap, ◌∙◌, sym, subst, arith, append-nil}
use Rattle.std.specs.List.{All, Contains}
use mathlib.Core.Path.{fun_ext}
use Rattle.el_base.specs.Limits.{max_depth}
use Rattle.elastic_link.specs.declared.message.Token.{Token}
use Rattle.elastic_link.specs.declared.put_end.PutEnd.{PutEnd}
use Rattle.elastic_link.specs.declared.take_end.TakeEnd.{TakeEnd}
use Rattle.elastic_link.specs.Held.{tokens_of}
use Rattle.elastic_link.specs.Ends.{repaid_stamp}
use Rattle.net_types.specs.Nets.{chan_at}
use Rattle.net_core.specs.States.{IsOf, CountsWithin, state_of}
use Rattle.net_worker.specs.Plays.{Plays, take_stamps}
use Rattle.net_worker.specs.Local.{values, stamps_of, StandFor, HadRoom, IsLocal, fed_opening}
use Rattle.net_worker.specs.Steps.{last_stamp}
use Rattle.net_worker.specs.Fires.{PutStep, TakeStep}
use Rattle.net_worker.specs.Keeps.{IsKept, MadeKeeps}
use Rattle.net_worker.specs.Workers.{owner_in, IsInto, IsOutOf, IsMadeOf, Sees, shown, take_end, put_end, held_by, handed_by, put_by, received_by, repaid_by}
use Rattle.net_worker.specs.declared.tables.Tables.{Tables}
use Rattle.net_worker.specs.declared.worker.Worker.{Worker}
use Rattle.net_worker.proofs.Exits.{exit_kept}
use Rattle.net_worker.proofs.Locals.{room_later}
use Rattle.net_worker.proofs.Waits.{waits_on}
use Rattle.net_worker.proofs.Fires.{handed_kept, repaid_kept, put_before, took_before, got_more}
use Rattle.net_worker.proofs.Holdings.{own_on, here_same}

held_kept : (o q : Option TakeEnd) → TakeStep false 0 o q → held_by q ≡ held_by o
held_kept None None s = refl
held_kept None (Some q) s = absurd s
held_kept (Some p) None s = absurd s
held_kept (Some p) (Some q) s = ap tokens_of s.held

put_kept : (o q : Option PutEnd) → PutStep 0 None o q → put_by q ≡ put_by o
put_kept None None s = refl
put_kept None (Some q) s = absurd s
put_kept (Some p) None s = absurd s
put_kept (Some p) (Some q) s = s.put ∙ append-nil (put_by (Some p))

stamp_kept : (o : Option TakeEnd) (q : TakeEnd) → TakeStep false 0 o (Some q) → (p : TakeEnd) × (o ≡ Some p) × (repaid_stamp q ≡ repaid_stamp p)
stamp_kept None q s = absurd s
stamp_kept (Some p) q s = (p, refl, s.stamp)

module _ (t : Tables) (a b : Worker) (m : IsMadeOf t a) (k : IsKept t a b) where
  abbrev owner : ℕ → ℕ
  owner = owner_in t

  handed_same : ◌≡◌ {A = ℕ → List Token} (λ c. handed_by (take_end b c)) (λ c. handed_by (take_end a c))
  handed_same = fun_ext (λ c. handed_kept false 0 (take_end a c) (take_end b c) (k.takes c))

  local_same : IsLocal t.net.now t.inputs owner a.number (shown b m.after)
  local_same = record {
    plays = subst (λ h. Plays t.net.now owner a.number 0 (fed_opening t.net.now t.inputs h) b.log.items m.after) (sym handed_same) (subst (λ g. Plays t.net.now owner a.number 0 (fed_opening t.net.now t.inputs (λ c. handed_by (take_end a c))) g.items m.after) (sym k.log) m.local.plays);
    from_others = λ c q. ap (λ h. h c) handed_same ∙ m.local.from_others c q;
    to_itself = λ c q. ap (λ h. h c) handed_same ∙ m.local.to_itself c q;
    values_put = λ c l p q. m.local.values_put c l p q ∙ ap values (sym (put_kept (put_end a c) (put_end b c) (k.puts c)));
    stamps_put = λ c l p q. m.local.stamps_put c l p q ∙ ap stamps_of (sym (put_kept (put_end a c) (put_end b c) (k.puts c)));
    had_room = λ c l p q.
        subst (λ x. HadRoom (chan_at t.net.now c).slots x (received_by (put_end b c))) (sym (put_kept (put_end a c) (put_end b c) (k.puts c)))
        (room_later (chan_at t.net.now c).slots (put_by (put_end a c)) (received_by (put_end a c)) (received_by (put_end b c)) (got_more 0 None (put_end a c) (put_end b c) (k.puts c)) (m.local.had_room c l p q));
    stand_for = λ c l p q.
        subst (λ x. StandFor x (take_stamps t.net.now c (fed_opening t.net.now t.inputs (shown b m.after).handed) b.log.items)) (sym (repaid_kept 0 (take_end a c) (take_end b c) (k.takes c)))
        (subst (λ h. StandFor (repaid_by (take_end a c)) (take_stamps t.net.now c (fed_opening t.net.now t.inputs h) b.log.items)) (sym handed_same)
        (subst (λ g. StandFor (repaid_by (take_end a c)) (take_stamps t.net.now c (fed_opening t.net.now t.inputs (λ c. handed_by (take_end a c))) g.items)) (sym k.log) (m.local.stand_for c l p q)));
  }

  kept : IsMadeOf t b
  kept = record {
    of = subst (λ p. IsOf t.net.now p.state) (sym k.portion) m.of;
    own = own_on t a.number b.number a.portion b.portion k.number (here_same a.portion b.portion k.portion) m.own;
    counts = subst (λ g. CountsWithin (max_depth * length g.items) (state_of b.portion.state)) (sym k.log) (subst (λ s. CountsWithin (max_depth * length a.log.items) (state_of s.state)) (sym k.portion) m.counts);
    room = ap (λ g. length g.items + g.room) k.log ∙ (m.room ∙ sym k.share);
    ends = k.ends ∙ m.ends;
    ends_too = k.ends_too ∙ m.ends_too;
    clock = k.clock ∙ (m.clock ∙ ap (λ g. last_stamp 0 g.items) (sym k.log));
    after = m.after;
    local = subst (λ n. IsLocal t.net.now t.inputs owner n (shown b m.after)) (sym k.number) local_same;
    sees = subst (λ n. Sees t.net.now owner n (state_of b.portion.state) m.after.state) (sym k.number) (subst (λ s. Sees t.net.now owner a.number (state_of s.state) m.after.state) (sym k.portion) m.sees);
    exit = exit_kept t.net.now (state_of a.portion.state) (state_of b.portion.state) a.log.items b.log.items (ap (λ s. (state_of s.state).own) k.portion) (ap (λ g. g.items) k.log) m.exit;
    held = λ c i. m.held c (subst (λ n. IsInto t n c) k.number i) ∙ ap values (sym (held_kept (take_end a c) (take_end b c) (k.takes c)));
    held_stamps = λ c i. m.held_stamps c (subst (λ n. IsInto t n c) k.number i) ∙ ap stamps_of (sym (held_kept (take_end a c) (take_end b c) (k.takes c)));
    puts_out = λ c q is. (let p = put_before 0 None (put_end a c) q (subst (PutStep 0 None (put_end a c)) is (k.puts c)) in let o = m.puts_out c p.end p.is in (subst (λ i. IsOutOf t i c) (sym k.number) o.0, p.slots ∙ o.1));
    takes_in = λ c q is. (let p = took_before false 0 0 (take_end a c) q (subst (TakeStep false 0 (take_end a c)) is (k.takes c)) in let o = m.takes_in c p.end p.is in (subst (λ i. IsInto t i c) (sym k.number) o.0, p.slots ∙ o.1));
    outs = λ c i. subst (λ v. Contains v.items c) (sym k.outs) (m.outs c (subst (λ n. IsOutOf t n c) k.number i));
    outs_only = subst (λ v. All (IsOutOf t b.number) v.items) (sym k.outs) (subst (λ n. All (IsOutOf t n) a.outs.items) (sym k.number) m.outs_only);
    ins = λ c i. subst (λ v. Contains v.items c) (sym k.ins) (m.ins c (subst (λ n. IsInto t n c) k.number i));
    ins_only = subst (λ v. All (IsInto t b.number) v.items) (sym k.ins) (subst (λ n. All (IsInto t n) a.ins.items) (sym k.number) m.ins_only);
    repaid = λ c q is. (let s = subst (TakeStep false 0 (take_end a c)) is (k.takes c) in let p = took_before false 0 0 (take_end a c) q s in let z = stamp_kept (take_end a c) q s in (p.repaid (m.repaid c p.end p.is).0, omega (arith, (m.repaid c z.0 z.1).1, z.2, k.clock)));
    rests = λ r. waits_on t a b k.number (ap (λ p. state_of p.state) k.portion) (k.rests r).1 (m.rests (k.rests r).0);
  }

pub made_keeps : MadeKeeps
made_keeps t a b m k = kept t a b m k
