-- A firing that a worker made.
use Rattle.std.proofs.Common.{◌≡◌, ◌≢◌, ◌⊎◌, ◌↔◌, inl, inr, ℕ, ◌+◌, ◌*◌, ◌<◌, ◌≤◌, max, Bool, true, false, cond, nat_lt, Option, Some, None, IsSome, List, [], ◌∷◌, ◌++◌, length, get_or, map, refl, ap, ◌∙◌, sym, subst, arith, append-nil, append_assoc}
use Rattle.std.specs.List.{All, Contains}
use Rattle.std.proofs.lemmas.Bool.{false≢true}
use mathlib.Core.Path.{fun_ext}
use mathlib.Core.List.{IsPrefix}
use Rattle.std.proofs.lemmas.Grind.{common_steps}
use Rattle.std.proofs.lemmas.List.{length-append}
use Rattle.el_base.specs.Limits.{max_depth}
use Rattle.elastic_link.specs.declared.message.Token.{Token}
use Rattle.elastic_link.specs.declared.message.Credit.{Credit}
use Rattle.elastic_link.specs.declared.put_end.PutEnd.{PutEnd}
use Rattle.elastic_link.specs.declared.take_end.TakeEnd.{TakeEnd}
use Rattle.elastic_link.specs.Credits.{newest_stamp, credits_in}
use Rattle.elastic_link.specs.Held.{tokens_of}
use Rattle.elastic_link.specs.Ends.{messages_received, slots_of, tokens_taken, token_held, credits_repaid, repaid_stamp}
use Rattle.net_types.specs.declared.firing.Firing.{Firing}
use Rattle.net_types.specs.Nets.{chan_at}
use Rattle.net_core.specs.Fire.{Effect, effect, takes_from, puts_on, taken, added, tokens_at}
use Rattle.net_core.specs.Runs.{HasExited}
use Rattle.net_core.specs.States.{CountsWithin, state_of}
use Rattle.net_worker.specs.Stamped.{Stamped, stamps_at, after_by, after_at}
use Rattle.net_worker.specs.Plays.{putter, taker}
use Rattle.net_worker.specs.Merge.{Measures}
use Rattle.net_worker.specs.Local.{values, stamps_of, credits_below, IsLocal, fed_opening}
use Rattle.net_worker.specs.Locally.{token_put, Repays, OneFiring}
use Rattle.net_worker.specs.Steps.{last_stamp}
use Rattle.net_worker.specs.Fires.{PutStep, TakesIf, TakeStep, IsFired, MadeFires}
use Rattle.net_worker.specs.Workers.{owner_in, IsInto, IsOutOf, IsWhole, HasExitAmong, IsMadeOf, Sees, shown, take_end, put_end, held_by, handed_by, put_by, received_by, repaid_by}
use Rattle.firing_log.specs.declared.entry.Entry.{Entry}
use Rattle.net_worker.specs.declared.tables.Tables.{Tables}
use Rattle.net_worker.specs.declared.worker.Worker.{Worker}
use Rattle.net_worker.proofs.Moves.{tokens_after, stamps_after, not_put_there}
use Rattle.net_worker.proofs.Steps.{after_is}
use Rattle.net_worker.proofs.Opening.{fed_stamps_long}
use Rattle.net_worker.proofs.Locals.{local_fires, plays_stamps}
use Rattle.net_worker.proofs.Sights.{sees_fires}
use Rattle.net_worker.proofs.Mays.{worker_may, after_measures}
use Rattle.net_worker.proofs.Exits.{exit_more}
use Rattle.net_worker.proofs.Holdings.{own_on}

last_snoc : (k : ℕ) (es : List Entry) (e : Entry) → last_stamp k (es ++ e ∷ []) ≡ e.stamp
last_snoc k [] e = refl
last_snoc k (x ∷ es) e = last_snoc x.stamp es e

below_is_all : (n : ℕ) (ms : List Credit) → newest_stamp ms < n → credits_below n ms ≡ credits_in ms
below_is_all n [] h = refl
below_is_all n (m ∷ ms) h = grind (arith, common_steps, below_is_all n ms (omega arith))

-- ---- one end

pub handed_kept : (g : Bool) (n : ℕ) (o q : Option TakeEnd) → TakeStep g n o q → handed_by q ≡ handed_by o
handed_kept g n None None s = refl
handed_kept g n None (Some q) s = absurd s
handed_kept g n (Some p) None s = absurd s
handed_kept true n (Some p) (Some q) s =
    ap (λ o. tokens_taken q ++ tokens_of o) s.held ∙ (append-nil (tokens_taken q) ∙ (s.taken ∙ ap (λ o. tokens_taken p ++ tokens_of o) (sym s.was)))
handed_kept false n (Some p) (Some q) s = ap (λ o. tokens_taken q ++ tokens_of o) s.held ∙ ap (λ ts. ts ++ tokens_of (token_held p)) s.taken

held_moved : (f : Token → ℕ) (g : Bool) (n : ℕ) (o q : Option TakeEnd) → TakeStep g n o q → taken g (map f (held_by o)) ≡ map f (held_by q)
held_moved f true n None None s = refl
held_moved f false n None None s = refl
held_moved f g n None (Some q) s = absurd s
held_moved f g n (Some p) None s = absurd s
held_moved f true n (Some p) (Some q) s = ap (λ o. taken true (map f (tokens_of o))) s.was ∙ ap (λ o. map f (tokens_of o)) (sym s.held)
held_moved f false n (Some p) (Some q) s = ap (λ o. map f (tokens_of o)) (sym s.held)

pub repaid_kept : (n : ℕ) (o q : Option TakeEnd) → TakeStep false n o q → repaid_by q ≡ repaid_by o
repaid_kept n None None s = refl
repaid_kept n None (Some q) s = absurd s
repaid_kept n (Some p) None s = absurd s
repaid_kept n (Some p) (Some q) s = s.messages

repaid_more : (n : ℕ) (o q : Option TakeEnd) → IsSome o → TakeStep true n o q → Repays n (repaid_by o) (repaid_by q)
repaid_more n None q i s = cc
repaid_more n (Some p) None i s = absurd s
repaid_more n (Some p) (Some q) i s = s.messages

put_more : (n : ℕ) (v : Option ℕ) (o q : Option PutEnd) → IsSome o → PutStep n v o q → put_by q ≡ put_by o ++ token_put v n
put_more n v None q i s = cc
put_more n v (Some p) None i s = absurd s
put_more n v (Some p) (Some q) i s = s.put

pub got_more : (n : ℕ) (v : Option ℕ) (o q : Option PutEnd) → PutStep n v o q → IsPrefix (received_by o) (received_by q)
got_more n v None None s = ([], refl)
got_more n v None (Some q) s = absurd s
got_more n v (Some p) None s = absurd s
got_more n v (Some p) (Some q) s = s.received

had_room : (n slots v : ℕ) (w : Option ℕ) (o q : Option PutEnd) → IsSome o → ((p : PutEnd) → o ≡ Some p → slots_of p ≡ slots) → PutStep n w o q → w ≡ Some v → length (put_by o) < slots + credits_below n (received_by q)
had_room n slots v w None q i h s is = cc
had_room n slots v w (Some p) None i h s is = absurd s
had_room n slots v w (Some p) (Some q) i h s is =
    let r = s.room v is in
    let a = below_is_all n (messages_received q) (s.newer v is) in
    let z = h p refl in omega arith

pub record Before (n : ℕ) (v : Option ℕ) (o : Option PutEnd) (q : PutEnd) : Type 0 where
  pub end : PutEnd
  pub is : o ≡ Some end
  pub slots : slots_of q ≡ slots_of end

pub put_before : (n : ℕ) (v : Option ℕ) (o : Option PutEnd) (q : PutEnd) → PutStep n v o (Some q) → Before n v o q
put_before n v None q s = absurd s
put_before n v (Some p) q s = record { end = p; is = refl; slots = s.same.slots }

pub record TookBefore (n clock : ℕ) (o : Option TakeEnd) (q : TakeEnd) : Type 0 where
  pub end : TakeEnd
  pub is : o ≡ Some end
  pub slots : q.slots ≡ end.slots
  pub repaid : (credits_repaid end ≡ length (tokens_taken end)) → credits_repaid q ≡ length (tokens_taken q)
  pub stamp : repaid_stamp end ≤ clock → clock < n → repaid_stamp q ≤ n

took_ends : (g : Bool) (n clock : ℕ) (p q : TakeEnd) → TakesIf g n p q → TookBefore n clock (Some p) q
took_ends true n clock p q s = record { end = p; is = refl; slots = s.same.slots; repaid = λ h. s.repaid; stamp = λ h k. omega (arith, s.stamp) }
took_ends false n clock p q s = record { end = p; is = refl; slots = s.same.slots; repaid = λ h. s.repaid ∙ (h ∙ ap length (sym s.taken)); stamp = λ h k. omega (arith, s.stamp) }

pub took_before : (g : Bool) (n clock : ℕ) (o : Option TakeEnd) (q : TakeEnd) → TakeStep g n o (Some q) → TookBefore n clock o q
took_before g n clock None q s = absurd s
took_before g n clock (Some p) q s = took_ends g n clock p q s

-- ---- the worker

module _ (t : Tables) (a b : Worker) (f : Firing) (x : Effect) (n : ℕ) (m : IsMadeOf t a) (whole : IsWhole t a) (o : IsFired t a b f x n) where
  abbrev owner : ℕ → ℕ
  owner = owner_in t

  abbrev j : ℕ
  j = a.number

  abbrev e : Entry
  e = record { stamp = n; firing = f }

  abbrev after : Stamped
  after = after_at t.net.now n m.after f

  may : (effect t.net.now m.after.state f ≡ Some x) × Rattle.net_worker.specs.Plays.MayIn t.net.now owner j n m.after f
  may = worker_may t a m f x n o.may

  one : OneFiring t.net.now owner j (shown a m.after) (shown b after) e x
  one = record {
    may = may.1;
    does = may.0;
    later = omega (arith, m.clock, o.may.later);
    log = o.items;
    after = refl;
    handed = fun_ext (λ c. handed_kept (takes_from t.net.now f.unit x c) n (take_end a c) (take_end b c) (o.takes c));
    put = λ c l p q. put_more n (puts_on t.net.now f.unit x.put c) (put_end a c) (put_end b c) (whole.puts c (l, p, q)) (o.puts c);
    received = λ c. got_more n (puts_on t.net.now f.unit x.put c) (put_end a c) (put_end b c) (o.puts c);
    room = λ c v l p q is. had_room n (chan_at t.net.now c).slots v (puts_on t.net.now f.unit x.put c) (put_end a c) (put_end b c) (whole.puts c (l, p, q)) (λ k z. (m.puts_out c k z).1) (o.puts c) is;
    repaid = λ c l p q is. repaid_kept n (take_end a c) (take_end b c) (subst (λ g. TakeStep g n (take_end a c) (take_end b c)) is (o.takes c));
    repays = λ c l p q is. repaid_more n (take_end a c) (take_end b c) (whole.takes c (l, p, q)) (subst (λ g. TakeStep g n (take_end a c) (take_end b c)) is (o.takes c));
  }

  measures : Measures t.net.now (length t.inputs.arrays) (state_of a.portion.state)
  measures = record { tokens = m.of.long; own = Rattle.std.proofs.lemmas.List.length-map a.portion.state.cells.items Rattle.net_core.specs.Plans.own_of ∙ m.of.cells; arrays = sym m.sees.arrays_long ∙ (after_measures t a m).arrays }

  sight : Rattle.net_worker.specs.Sights.SeesAfter t.net.now owner j f x (state_of b.portion.state) m.after.state
  sight = sees_fires t.net.now owner (length t.inputs.arrays) j f x (state_of a.portion.state) (state_of b.portion.state) m.after.state measures (after_measures t a m) o.may.mine m.sees o.may.does o.state

  is_by : after ≡ after_by t.net.now n m.after f.unit (Some x)
  is_by = after_is t.net.now n m.after f x may.0

  held_tokens : (c : ℕ) → IsInto t j c → tokens_at after.state c ≡ values (held_by (take_end b c))
  held_tokens c i =
      let none : puts_on t.net.now f.unit x.put c ≡ None = not_put_there t.net.now f.unit c x.put i.0 (λ z. i.2 (ap owner z ∙ o.may.mine)) in
      let l : c < length m.after.state.tokens = omega (arith, i.0, (after_measures t a m).tokens) in
      ap (λ (s : Stamped). tokens_at s.state c) is_by
      ∙ (tokens_after t.net.now f.unit x m.after.state c l
      ∙ (ap (λ p. added p (taken (takes_from t.net.now f.unit x c) (tokens_at m.after.state c))) none
      ∙ (ap (taken (takes_from t.net.now f.unit x c)) (m.held c i) ∙ held_moved (λ (y : Token). y.value) (takes_from t.net.now f.unit x c) n (take_end a c) (take_end b c) (o.takes c))))

  held_stamps : (c : ℕ) → IsInto t j c → stamps_at after c ≡ stamps_of (held_by (take_end b c))
  held_stamps c i =
      let none : puts_on t.net.now f.unit x.put c ≡ None = not_put_there t.net.now f.unit c x.put i.0 (λ z. i.2 (ap owner z ∙ o.may.mine)) in
      let long = plays_stamps t.net.now owner j 0 (fed_opening t.net.now t.inputs (shown a m.after).handed) a.log.items m.after m.local.plays (fed_stamps_long t.net.now t.inputs (shown a m.after).handed) in
      let l : c < length m.after.stamps = omega (arith, i.0) in
      ap (λ (s : Stamped). stamps_at s c) is_by
      ∙ (stamps_after t.net.now n f.unit x m.after c l
      ∙ (ap (λ p. added (cond (Rattle.std.proofs.Common.is_some p) (Some n) None) (taken (takes_from t.net.now f.unit x c) (stamps_at m.after c))) none
      ∙ (ap (taken (takes_from t.net.now f.unit x c)) (m.held_stamps c i) ∙ held_moved (λ (y : Token). y.stamp) (takes_from t.net.now f.unit x c) n (take_end a c) (take_end b c) (o.takes c))))

  longer : length b.log.items ≡ length a.log.items + 1
  longer = ap length o.items ∙ length-append a.log.items (e ∷ [])

  fired : IsMadeOf t b
  fired = record {
    of = o.of;
    own = own_on t a.number b.number a.portion b.portion o.number o.here m.own;
    counts = (let k : max_depth * length a.log.items + max_depth ≡ max_depth * length b.log.items = omega (arith, longer) in subst (λ k. CountsWithin k (state_of b.portion.state)) k (o.counts (max_depth * length a.log.items) m.counts));
    room = omega (arith, longer, o.log_room, m.room, o.share);
    ends = o.ends ∙ m.ends;
    ends_too = o.ends_too ∙ m.ends_too;
    clock = o.clock ∙ (sym (last_snoc 0 a.log.items e) ∙ ap (last_stamp 0) (sym o.items));
    after = after;
    local = subst (λ k. IsLocal t.net.now t.inputs owner k (shown b after)) (sym o.number) (local_fires t.net.now t.inputs owner j (shown a m.after) (shown b after) e x m.local one);
    sees = subst (λ k. Sees t.net.now owner k (state_of b.portion.state) after.state) (sym o.number) (subst (λ (s : Stamped). Sees t.net.now owner j (state_of b.portion.state) s.state) (sym is_by) sight.sees);
    exit = subst (λ es. HasExited t.net.now (state_of b.portion.state) ↔ HasExitAmong t.net.now es) (sym o.items) (exit_more t.net.now a.portion.state m.of (state_of b.portion.state) f x n a.log.items o.may.does o.state.own m.exit);
    held = λ c i. held_tokens c (subst (λ k. IsInto t k c) o.number i);
    held_stamps = λ c i. held_stamps c (subst (λ k. IsInto t k c) o.number i);
    puts_out = λ c q is. (let p = put_before n (puts_on t.net.now f.unit x.put c) (put_end a c) q (subst (PutStep n (puts_on t.net.now f.unit x.put c) (put_end a c)) is (o.puts c)) in let k = m.puts_out c p.end p.is in (subst (λ i. IsOutOf t i c) (sym o.number) k.0, p.slots ∙ k.1));
    takes_in = λ c q is. (let p = took_before (takes_from t.net.now f.unit x c) n a.clock (take_end a c) q (subst (TakeStep (takes_from t.net.now f.unit x c) n (take_end a c)) is (o.takes c)) in let k = m.takes_in c p.end p.is in (subst (λ i. IsInto t i c) (sym o.number) k.0, p.slots ∙ k.1));
    outs = λ c i. subst (λ v. Contains v.items c) (sym o.outs) (m.outs c (subst (λ k. IsOutOf t k c) o.number i));
    outs_only = subst (λ v. All (IsOutOf t b.number) v.items) (sym o.outs) (subst (λ k. All (IsOutOf t k) a.outs.items) (sym o.number) m.outs_only);
    ins = λ c i. subst (λ v. Contains v.items c) (sym o.ins) (m.ins c (subst (λ k. IsInto t k c) o.number i));
    ins_only = subst (λ v. All (IsInto t b.number) v.items) (sym o.ins) (subst (λ k. All (IsInto t k) a.ins.items) (sym o.number) m.ins_only);
    repaid = λ c q is. (let p = took_before (takes_from t.net.now f.unit x c) n a.clock (take_end a c) q (subst (TakeStep (takes_from t.net.now f.unit x c) n (take_end a c)) is (o.takes c)) in let k = m.repaid c p.end p.is in (p.repaid k.0, subst (λ i. repaid_stamp q ≤ i) (sym o.clock) (p.stamp k.1 o.may.later)));
    rests = λ r. absurd (false≢true (sym o.resting ∙ r));
  }

pub made_fires : MadeFires
made_fires t a b f x n m whole o = fired t a b f x n m whole o
