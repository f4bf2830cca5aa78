-- A worker to which an unused end is given.
use Rattle.std.proofs.Common.{◌≡◌, ◌≢◌, ◌⊎◌, inl, inr, ℕ, ◌+◌, ◌<◌, ◌≤◌, ◌*◌, Option, Some, None, IsSome, List, [], ◌∷◌, ◌++◌, length, get_or, map, set, refl, ap, ◌∙◌, sym, subst, arith, get_or-set_same, get_or-set_other, length-set}
use mathlib.Core.Path.{fun_ext}
use Rattle.std.specs.List.{All, Contains}
use Rattle.std.proofs.lemmas.Bool.{cases_eq}
use Rattle.el_base.specs.Limits.{max_depth}
use Rattle.elastic_link.specs.declared.message.Token.{Token}
use Rattle.elastic_link.specs.declared.message.Credit.{Credit}
use Rattle.elastic_link.specs.declared.put_end.PutEnd.{PutEnd}
use Rattle.elastic_link.specs.declared.take_end.TakeEnd.{TakeEnd}
use Rattle.elastic_link.specs.Ends.{IsNewPut, IsNewTake, slots_of}
use Rattle.net_types.specs.declared.net.Chan.{Chan}
use Rattle.net_types.specs.Nets.{chan_at}
use Rattle.net_core.specs.States.{IsOf, CountsWithin, state_of}
use Rattle.net_worker.specs.Local.{values, stamps_of, Shown, IsLocal}
use Rattle.net_worker.specs.Steps.{last_stamp}
use Rattle.net_worker.specs.Workers.{owner_in, IsMadeOf, IsInto, IsOutOf, Sees, shown, put_end, take_end, held_by, handed_by, put_by, received_by, repaid_by}
use Rattle.firing_log.specs.declared.entry.Entry.{Entry}
use Rattle.net_worker.specs.declared.tables.Tables.{Tables}
use Rattle.net_worker.specs.declared.worker.Worker.{Worker}
use Rattle.net_worker.proofs.Exits.{exit_kept}
use Rattle.net_worker.proofs.Waits.{waits_on}
use Rattle.net_worker.proofs.Holdings.{own_on, here_same}

-- two tables of which one worker was made have the same channels to others, with the same slots
same_out : (s t : Tables) (w : Worker) (c : ℕ) → IsMadeOf s w → IsMadeOf t w → IsOutOf s w.number c → IsOutOf t w.number c
same_out s t w c m k o = let h = m.outs c o in subst (IsOutOf t w.number) h.2 (k.outs_only h.0 c h.1)

same_into : (s t : Tables) (w : Worker) (c : ℕ) → IsMadeOf s w → IsMadeOf t w → IsInto s w.number c → IsInto t w.number c
same_into s t w c m k o = let h = m.ins c o in subst (IsInto t w.number) h.2 (k.ins_only h.0 c h.1)

slots_at : (cs : List Chan) (c : ℕ) → c < length cs → get_or (map (λ (k : Chan). k.slots) cs) c 0 ≡ (get_or cs c Rattle.net_types.specs.Nets.nowhere).slots
slots_at [] c l = absurd (omega arith)
slots_at (k ∷ cs) Rattle.std.proofs.Common.zero l = refl
slots_at (k ∷ cs) (Rattle.std.proofs.Common.suc c) l = slots_at cs c (omega arith)

same_slots : (s t : Tables) (w : Worker) (c : ℕ) → IsMadeOf s w → IsMadeOf t w → c < length s.net.now.chans → c < length t.net.now.chans → (chan_at s.net.now c).slots ≡ (chan_at t.net.now c).slots
same_slots s t w c m k l n = sym (slots_at s.net.now.chans c l) ∙ (ap (λ xs. get_or xs c 0) (sym m.of.slots ∙ k.of.slots) ∙ slots_at t.net.now.chans c n)

within_takes : (xs : List (Option TakeEnd)) (n c : ℕ) → length xs ≡ n → c < n → c < length xs
within_takes xs n c e l = omega arith

within_puts : (xs : List (Option PutEnd)) (n c : ℕ) → length xs ≡ n → c < n → c < length xs
within_puts xs n c e l = omega arith

some_same : {X : Type 0} (p q : X) → Some p ≡ Some q → p ≡ q
some_same p q h = cc

new_repaid : (e : TakeEnd) (k : ℕ) → IsNewTake e → (Rattle.elastic_link.specs.Ends.credits_repaid e ≡ length (Rattle.elastic_link.specs.Ends.tokens_taken e)) × (Rattle.elastic_link.specs.Ends.repaid_stamp e ≤ k)
new_repaid e k new =
    let x = ap Rattle.elastic_link.specs.Credits.credits_in new.sent in
    let w = ap length new.taken in
    (omega (arith, new.owed), omega (arith, new.stamp))

-- what is the same of both
pub record SameElse (a b : Worker) : Type 0 where
  pub number : b.number ≡ a.number
  pub share : b.share ≡ a.share
  pub clock : b.clock ≡ a.clock
  pub log : b.log ≡ a.log
  pub portion : b.portion ≡ a.portion
  pub outs : b.outs ≡ a.outs
  pub ins : b.ins ≡ a.ins
  pub resting : b.resting ≡ a.resting
  pub waits : b.waits ≡ a.waits

module _ (s t : Tables) (a b : Worker) (c : ℕ) (p : PutEnd) (m : IsMadeOf s a) (o : IsOutOf s a.number c) (new : IsNewPut (chan_at s.net.now c).slots p) (none : put_end a c ≡ None) (k : IsMadeOf t a) (e : SameElse a b) (takes : b.takes ≡ a.takes) (puts : b.puts.items ≡ set a.puts.items c (Some p)) where
  inside : c < length a.puts.items
  inside = within_puts a.puts.items (length s.net.now.chans) c m.ends o.0

  at_c : put_end b c ≡ Some p
  at_c = ap (λ l. get_or l c None) puts ∙ get_or-set_same a.puts.items c (Some p) None inside

  elsewhere : (d : ℕ) → d ≢ c → put_end b d ≡ put_end a d
  elsewhere d n = ap (λ l. get_or l d None) puts ∙ get_or-set_other a.puts.items c d (Some p) None n

  put_same : (d : ℕ) → put_by (put_end b d) ≡ put_by (put_end a d)
  put_same d = by (cases_eq d c)
    where
      by : (d ≡ c) ⊎ (d ≡ c → ⊥) → put_by (put_end b d) ≡ put_by (put_end a d)
      by (inl q) = ap (λ i. put_by (put_end b i)) q ∙ (ap put_by at_c ∙ (new.put ∙ sym (ap (λ i. put_by (put_end a i)) q ∙ ap put_by none)))
      by (inr n) = ap put_by (elsewhere d n)

  got_same : (d : ℕ) → received_by (put_end b d) ≡ received_by (put_end a d)
  got_same d = by (cases_eq d c)
    where
      by : (d ≡ c) ⊎ (d ≡ c → ⊥) → received_by (put_end b d) ≡ received_by (put_end a d)
      by (inl q) = ap (λ i. received_by (put_end b i)) q ∙ (ap received_by at_c ∙ (new.received ∙ sym (ap (λ i. received_by (put_end a i)) q ∙ ap received_by none)))
      by (inr n) = ap received_by (elsewhere d n)

  abbrev show : List Entry → (ℕ → List Token) → (ℕ → List Token) → (ℕ → List Credit) → (ℕ → List Credit) → Shown
  show log handed put received repaid = record { log = log; after = k.after; handed = handed; put = put; received = received; repaid = repaid }

  shown_same : shown b k.after ≡ shown a k.after
  shown_same =
      ap (λ l. show l (λ d. handed_by (take_end b d)) (λ d. put_by (put_end b d)) (λ d. received_by (put_end b d)) (λ d. repaid_by (take_end b d))) (ap (λ g. g.items) e.log)
      ∙ (ap (λ h. show a.log.items (λ d. handed_by (get_or h.items d None)) (λ d. put_by (put_end b d)) (λ d. received_by (put_end b d)) (λ d. repaid_by (get_or h.items d None))) takes
      ∙ (ap (λ h. show a.log.items (λ d. handed_by (take_end a d)) h (λ d. received_by (put_end b d)) (λ d. repaid_by (take_end a d))) (fun_ext put_same)
      ∙ ap (λ h. show a.log.items (λ d. handed_by (take_end a d)) (λ d. put_by (put_end a d)) h (λ d. repaid_by (take_end a d))) (fun_ext got_same)))

  ends_out : (d : ℕ) (q : PutEnd) → put_end b d ≡ Some q → (d ≡ c) ⊎ (d ≡ c → ⊥) → IsOutOf t b.number d × (slots_of q ≡ (chan_at t.net.now d).slots)
  ends_out d q is (inl z) =
      let same : p ≡ q = some_same p q (sym at_c ∙ (ap (put_end b) (sym z) ∙ is)) in
      let out = same_out s t a c m k o in
      subst (λ i. IsOutOf t b.number i × (slots_of q ≡ (chan_at t.net.now i).slots)) (sym z)
      (subst (λ n. IsOutOf t n c) (sym e.number) out, ap slots_of (sym same) ∙ (new.slots ∙ same_slots s t a c m k o.0 out.0))
  ends_out d q is (inr n) = (let r = k.puts_out d q (sym (elsewhere d n) ∙ is) in (subst (λ i. IsOutOf t i d) (sym e.number) r.0, r.1))

  put_given : IsMadeOf t b
  put_given = record {
    of = subst (λ p. IsOf t.net.now p.state) (sym e.portion) k.of;
    own = own_on t a.number b.number a.portion b.portion e.number (here_same a.portion b.portion e.portion) k.own;
    counts = subst (λ g. CountsWithin (max_depth * length g.items) (state_of b.portion.state)) (sym e.log) (subst (λ s. CountsWithin (max_depth * length a.log.items) (state_of s.state)) (sym e.portion) k.counts);
    room = ap (λ g. length g.items + g.room) e.log ∙ (k.room ∙ sym e.share);
    ends = ap length puts ∙ (length-set a.puts.items c (Some p) ∙ k.ends);
    ends_too = ap (λ v. length v.items) takes ∙ k.ends_too;
    clock = e.clock ∙ (k.clock ∙ ap (λ g. last_stamp 0 g.items) (sym e.log));
    after = k.after;
    local = subst (λ n. IsLocal t.net.now t.inputs (owner_in t) n (shown b k.after)) (sym e.number) (subst (IsLocal t.net.now t.inputs (owner_in t) a.number) (sym shown_same) k.local);
    sees = subst (λ n. Sees t.net.now (owner_in t) n (state_of b.portion.state) k.after.state) (sym e.number) (subst (λ s. Sees t.net.now (owner_in t) a.number (state_of s.state) k.after.state) (sym e.portion) k.sees);
    exit = exit_kept t.net.now (state_of a.portion.state) (state_of b.portion.state) a.log.items b.log.items (ap (λ s. (state_of s.state).own) e.portion) (ap (λ g. g.items) e.log) k.exit;
    held = λ d i. k.held d (subst (λ n. IsInto t n d) e.number i) ∙ ap (λ v. values (held_by (get_or v.items d None))) (sym takes);
    held_stamps = λ d i. k.held_stamps d (subst (λ n. IsInto t n d) e.number i) ∙ ap (λ v. stamps_of (held_by (get_or v.items d None))) (sym takes);
    puts_out = λ d q is. ends_out d q is (cases_eq d c);
    takes_in = λ d q is. (let r = k.takes_in d q (ap (λ v. get_or v.items d None) (sym takes) ∙ is) in (subst (λ n. IsInto t n d) (sym e.number) r.0, r.1));
    outs = λ d i. subst (λ v. Contains v.items d) (sym e.outs) (k.outs d (subst (λ n. IsOutOf t n d) e.number i));
    outs_only = subst (λ v. All (IsOutOf t b.number) v.items) (sym e.outs) (subst (λ n. All (IsOutOf t n) a.outs.items) (sym e.number) k.outs_only);
    ins = λ d i. subst (λ v. Contains v.items d) (sym e.ins) (k.ins d (subst (λ n. IsInto t n d) e.number i));
    ins_only = subst (λ v. All (IsInto t b.number) v.items) (sym e.ins) (subst (λ n. All (IsInto t n) a.ins.items) (sym e.number) k.ins_only);
    repaid = λ d q is. (let r = k.repaid d q (ap (λ v. get_or v.items d None) (sym takes) ∙ is) in (r.0, subst (λ n. Rattle.elastic_link.specs.Ends.repaid_stamp q ≤ n) (sym e.clock) r.1));
    rests = λ r. waits_on t a b e.number (ap (λ p. state_of p.state) e.portion) (λ d w. subst (λ v. IsSome (get_or v.items d None)) (sym e.waits) w) (k.rests (sym e.resting ∙ r));
  }

pub give_put_made : (s t : Tables) (a b : Worker) (c : ℕ) (p : PutEnd) → IsMadeOf s a → IsOutOf s a.number c → IsNewPut (chan_at s.net.now c).slots p → put_end a c ≡ None → IsMadeOf t a → SameElse a b → b.takes ≡ a.takes → b.puts.items ≡ set a.puts.items c (Some p) → IsMadeOf t b
give_put_made s t a b c p m o new none k e takes puts = put_given s t a b c p m o new none k e takes puts

-- ---- an end that takes

no_messages : (e : TakeEnd) → IsNewTake e → repaid_by (Some e) ≡ []
no_messages e new = ap (λ l. l ++ Rattle.elastic_link.specs.Credits.owed_message e.owed e.newest) new.sent ∙ ap (λ n. Rattle.elastic_link.specs.Credits.owed_message n e.newest) new.owed

no_tokens : (e : TakeEnd) → IsNewTake e → handed_by (Some e) ≡ []
no_tokens e new = ap (λ l. l ++ Rattle.elastic_link.specs.Held.tokens_of (Rattle.elastic_link.specs.Ends.token_held e)) new.taken ∙ ap Rattle.elastic_link.specs.Held.tokens_of new.held

none_held : (e : TakeEnd) → IsNewTake e → held_by (Some e) ≡ []
none_held e new = ap Rattle.elastic_link.specs.Held.tokens_of new.held

module _ (s t : Tables) (a b : Worker) (c : ℕ) (p : TakeEnd) (m : IsMadeOf s a) (o : IsInto s a.number c) (new : IsNewTake p) (slots : p.slots ≡ (chan_at s.net.now c).slots) (none : take_end a c ≡ None) (k : IsMadeOf t a) (e : SameElse a b) (puts : b.puts ≡ a.puts) (takes : b.takes.items ≡ set a.takes.items c (Some p)) where
  inside_takes : c < length a.takes.items
  inside_takes = within_takes a.takes.items (length s.net.now.chans) c m.ends_too o.0

  take_at_c : take_end b c ≡ Some p
  take_at_c = ap (λ l. get_or l c None) takes ∙ get_or-set_same a.takes.items c (Some p) None inside_takes

  take_elsewhere : (d : ℕ) → d ≢ c → take_end b d ≡ take_end a d
  take_elsewhere d n = ap (λ l. get_or l d None) takes ∙ get_or-set_other a.takes.items c d (Some p) None n

  of_takes : {X : Type 0} (f : Option TakeEnd → X) → f (Some p) ≡ f None → (d : ℕ) → f (take_end b d) ≡ f (take_end a d)
  of_takes f h d = by (cases_eq d c)
    where
      by : (d ≡ c) ⊎ (d ≡ c → ⊥) → f (take_end b d) ≡ f (take_end a d)
      by (inl q) = ap (λ i. f (take_end b i)) q ∙ (ap f take_at_c ∙ (h ∙ sym (ap (λ i. f (take_end a i)) q ∙ ap f none)))
      by (inr n) = ap f (take_elsewhere d n)

  abbrev show_takes : List Entry → (ℕ → List Token) → (ℕ → List Token) → (ℕ → List Credit) → (ℕ → List Credit) → Shown
  show_takes log handed put received repaid = record { log = log; after = k.after; handed = handed; put = put; received = received; repaid = repaid }

  takes_shown : shown b k.after ≡ shown a k.after
  takes_shown =
      ap (λ l. show_takes l (λ d. handed_by (take_end b d)) (λ d. put_by (put_end b d)) (λ d. received_by (put_end b d)) (λ d. repaid_by (take_end b d))) (ap (λ g. g.items) e.log)
      ∙ (ap (λ h. show_takes a.log.items (λ d. handed_by (take_end b d)) (λ d. put_by (get_or h.items d None)) (λ d. received_by (get_or h.items d None)) (λ d. repaid_by (take_end b d))) puts
      ∙ (ap (λ h. show_takes a.log.items h (λ d. put_by (put_end a d)) (λ d. received_by (put_end a d)) (λ d. repaid_by (take_end b d))) (fun_ext (of_takes handed_by (no_tokens p new)))
      ∙ ap (λ h. show_takes a.log.items (λ d. handed_by (take_end a d)) (λ d. put_by (put_end a d)) (λ d. received_by (put_end a d)) h) (fun_ext (of_takes repaid_by (no_messages p new)))))

  takes_in_b : (d : ℕ) (q : TakeEnd) → take_end b d ≡ Some q → (d ≡ c) ⊎ (d ≡ c → ⊥) → IsInto t b.number d × (q.slots ≡ (chan_at t.net.now d).slots)
  takes_in_b d q is (inl z) =
      let same : p ≡ q = some_same p q (sym take_at_c ∙ (ap (take_end b) (sym z) ∙ is)) in
      let into = same_into s t a c m k o in
      subst (λ i. IsInto t b.number i × (q.slots ≡ (chan_at t.net.now i).slots)) (sym z)
      (subst (λ n. IsInto t n c) (sym e.number) into, ap (λ (y : TakeEnd). y.slots) (sym same) ∙ (slots ∙ same_slots s t a c m k o.0 into.0))
  takes_in_b d q is (inr n) = (let r = k.takes_in d q (sym (take_elsewhere d n) ∙ is) in (subst (λ i. IsInto t i d) (sym e.number) r.0, r.1))

  abbrev Repaid : TakeEnd → Type 0
  Repaid q = (Rattle.elastic_link.specs.Ends.credits_repaid q ≡ length (Rattle.elastic_link.specs.Ends.tokens_taken q)) × (Rattle.elastic_link.specs.Ends.repaid_stamp q ≤ b.clock)

  repaid_in_b : (d : ℕ) (q : TakeEnd) → take_end b d ≡ Some q → (d ≡ c) ⊎ (d ≡ c → ⊥) → Repaid q
  repaid_in_b d q is (inl z) =
      let same : p ≡ q = some_same p q (sym take_at_c ∙ (ap (take_end b) (sym z) ∙ is)) in
      subst Repaid same (new_repaid p b.clock new)
  repaid_in_b d q is (inr n) = (let r = k.repaid d q (sym (take_elsewhere d n) ∙ is) in (r.0, subst (λ n. Rattle.elastic_link.specs.Ends.repaid_stamp q ≤ n) (sym e.clock) r.1))

  take_given : IsMadeOf t b
  take_given = record {
    of = subst (λ p. IsOf t.net.now p.state) (sym e.portion) k.of;
    own = own_on t a.number b.number a.portion b.portion e.number (here_same a.portion b.portion e.portion) k.own;
    counts = subst (λ g. CountsWithin (max_depth * length g.items) (state_of b.portion.state)) (sym e.log) (subst (λ s. CountsWithin (max_depth * length a.log.items) (state_of s.state)) (sym e.portion) k.counts);
    room = ap (λ g. length g.items + g.room) e.log ∙ (k.room ∙ sym e.share);
    ends = ap (λ v. length v.items) puts ∙ k.ends;
    ends_too = ap length takes ∙ (length-set a.takes.items c (Some p) ∙ k.ends_too);
    clock = e.clock ∙ (k.clock ∙ ap (λ g. last_stamp 0 g.items) (sym e.log));
    after = k.after;
    local = subst (λ n. IsLocal t.net.now t.inputs (owner_in t) n (shown b k.after)) (sym e.number) (subst (IsLocal t.net.now t.inputs (owner_in t) a.number) (sym takes_shown) k.local);
    sees = subst (λ n. Sees t.net.now (owner_in t) n (state_of b.portion.state) k.after.state) (sym e.number) (subst (λ s. Sees t.net.now (owner_in t) a.number (state_of s.state) k.after.state) (sym e.portion) k.sees);
    exit = exit_kept t.net.now (state_of a.portion.state) (state_of b.portion.state) a.log.items b.log.items (ap (λ s. (state_of s.state).own) e.portion) (ap (λ g. g.items) e.log) k.exit;
    held = λ d i. k.held d (subst (λ n. IsInto t n d) e.number i) ∙ ap values (sym (of_takes held_by (none_held p new) d));
    held_stamps = λ d i. k.held_stamps d (subst (λ n. IsInto t n d) e.number i) ∙ ap stamps_of (sym (of_takes held_by (none_held p new) d));
    puts_out = λ d q is. (let r = k.puts_out d q (ap (λ v. get_or v.items d None) (sym puts) ∙ is) in (subst (λ n. IsOutOf t n d) (sym e.number) r.0, r.1));
    takes_in = λ d q is. takes_in_b d q is (cases_eq d c);
    outs = λ d i. subst (λ v. Contains v.items d) (sym e.outs) (k.outs d (subst (λ n. IsOutOf t n d) e.number i));
    outs_only = subst (λ v. All (IsOutOf t b.number) v.items) (sym e.outs) (subst (λ n. All (IsOutOf t n) a.outs.items) (sym e.number) k.outs_only);
    ins = λ d i. subst (λ v. Contains v.items d) (sym e.ins) (k.ins d (subst (λ n. IsInto t n d) e.number i));
    ins_only = subst (λ v. All (IsInto t b.number) v.items) (sym e.ins) (subst (λ n. All (IsInto t n) a.ins.items) (sym e.number) k.ins_only);
    repaid = λ d q is. repaid_in_b d q is (cases_eq d c);
    rests = λ r. waits_on t a b e.number (ap (λ p. state_of p.state) e.portion) (λ d w. subst (λ v. IsSome (get_or v.items d None)) (sym e.waits) w) (k.rests (sym e.resting ∙ r));
  }

pub give_take_made : (s t : Tables) (a b : Worker) (c : ℕ) (p : TakeEnd) → IsMadeOf s a → IsInto s a.number c → IsNewTake p → p.slots ≡ (chan_at s.net.now c).slots → take_end a c ≡ None → IsMadeOf t a → SameElse a b → b.puts ≡ a.puts → b.takes.items ≡ set a.takes.items c (Some p) → IsMadeOf t b
give_take_made s t a b c p m o new slots none k e puts takes = take_given s t a b c p m o new slots none k e puts takes
