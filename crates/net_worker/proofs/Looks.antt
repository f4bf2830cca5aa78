-- A token that is handed to a worker and laid into its state.
use Rattle.std.proofs.Common.{◌≡◌, ◌≢◌, ◌⊎◌, inl, inr, ℕ, ◌*◌, ◌+◌, ◌<◌, ◌≤◌, cond, Some, None, List, [], ◌∷◌, ◌++◌, length, get_or, refl, ap, ◌∙◌, sym, subst, arith, append-nil, eq-eqb, ne_eqb, get_or-set_same, get_or-set_other, length-set}
use Rattle.std.specs.List.{All, Contains}
use mathlib.Core.Path.{fun_ext}
use mathlib.Core.List.{IsPrefix}
use Rattle.std.proofs.lemmas.Bool.{cases_eq, false≢true}
use Rattle.el_base.specs.Limits.{max_depth}
use Rattle.elastic_link.specs.declared.message.Token.{Token}
use Rattle.elastic_link.specs.declared.message.Credit.{Credit}
use Rattle.elastic_link.specs.declared.take_end.TakeEnd.{TakeEnd}
use Rattle.elastic_link.specs.Credits.{credits_in}
use Rattle.elastic_link.specs.Held.{tokens_of}
use Rattle.elastic_link.specs.Ends.{tokens_taken, token_held, messages_sent, messages_repaid, credits_owed, credits_repaid, repaid_stamp}
use Rattle.net_types.specs.Nets.{chan_at}
use Rattle.net_core.specs.Fire.{State, tokens_at}
use Rattle.net_core.specs.Held.{put_at_end}
use Rattle.net_core.specs.States.{CountsWithin, state_of, with_tokens}
use Rattle.net_worker.specs.Stamped.{stamps_at}
use Rattle.net_worker.specs.Plays.{taker}
use Rattle.net_worker.specs.Local.{values, stamps_of, IsLocal}
use Rattle.net_worker.specs.Locally.{OneLook, LooksOn}
use Rattle.net_worker.specs.Looks.{IsLaid, MadeLooks}
use Rattle.net_worker.specs.Workers.{owner_in, IsInto, IsOutOf, IsMadeOf, Sees, shown, take_end, put_end, held_by, handed_by, put_by, received_by, repaid_by}
use Rattle.net_worker.specs.declared.tables.Tables.{Tables}
use Rattle.net_worker.specs.declared.worker.Worker.{Worker}
use Rattle.net_worker.proofs.Exits.{exit_kept}
use Rattle.net_worker.proofs.Locals.{local_looks}
use Rattle.net_worker.proofs.Holdings.{own_on}

some_inj : (x y : TakeEnd) → Some x ≡ Some y → x ≡ y
some_inj x y h = cc

prefix_same : (ms : List Credit) → IsPrefix ms ms
prefix_same ms = ([], append-nil ms)

module _ (t : Tables) (a b : Worker) (c : ℕ) (e e' : TakeEnd) (x : Token) (m : IsMadeOf t a) (l : IsLaid t a b c e e' x) where
  abbrev j : ℕ
  j = a.number

  abbrev owner : ℕ → ℕ
  owner = owner_in t

  within : c < length a.takes.items
  within = omega (arith, l.into.0, m.ends_too)

  end_here : take_end b c ≡ Some e'
  end_here = ap (λ xs. get_or xs c None) l.takes ∙ get_or-set_same a.takes.items c (Some e') None within

  end_there : (d : ℕ) → d ≢ c → take_end b d ≡ take_end a d
  end_there d n = ap (λ xs. get_or xs d None) l.takes ∙ get_or-set_other a.takes.items c d (Some e') None n

  repaid_same : messages_repaid e' ≡ messages_repaid e
  repaid_same = rw (l.credits.0, l.credits.1, l.credits.2) refl

  repaid_at : (d : ℕ) → repaid_by (take_end b d) ≡ repaid_by (take_end a d)
  repaid_at d =
      elim (cases_eq d c) [
        | inl q ↦ ap (λ k. repaid_by (take_end b k)) q ∙ (ap repaid_by end_here ∙ (repaid_same ∙ (sym (ap repaid_by l.old) ∙ ap (λ k. repaid_by (take_end a k)) (sym q))))
        | inr n ↦ ap repaid_by (end_there d n)
      ]

  handed_here : handed_by (take_end b c) ≡ handed_by (take_end a c) ++ x ∷ []
  handed_here =
      let old : handed_by (take_end a c) ≡ tokens_taken e ++ [] = ap handed_by l.old ∙ ap (λ o. tokens_taken e ++ tokens_of o) l.none in
      ap handed_by end_here ∙ (ap (λ o. tokens_taken e' ++ tokens_of o) l.held ∙ (ap (λ ts. ts ++ x ∷ []) (l.taken ∙ sym (append-nil (tokens_taken e))) ∙ ap (λ ts. ts ++ x ∷ []) (sym old)))

  look : OneLook t.net.now owner j c (x ∷ []) (shown a m.after) (shown b m.after)
  look = record {
    from_other = l.into.2;
    to_me = l.into.1;
    within = l.into.0;
    log = ap (λ g. g.items) l.log;
    handed = handed_here;
    others = λ d n. ap handed_by (end_there d n);
    put = ap (λ ps. λ d. put_by (get_or ps d None)) l.puts;
    received = λ d. subst (λ ps. IsPrefix (received_by (put_end a d)) (received_by (get_or ps d None))) (sym l.puts) (prefix_same (received_by (put_end a d)));
    repaid = fun_ext repaid_at;
  }

  on : LooksOn t.net.now t.inputs owner j c (x ∷ []) (shown a m.after) (shown b m.after)
  on = local_looks t.net.now t.inputs owner j c (x ∷ []) (shown a m.after) (shown b m.after) m.local look

  abbrev s : State
  s = state_of a.portion.state

  abbrev s' : State
  s' = with_tokens (put_at_end c x.value s.tokens) s

  chan_within : c < length s.tokens
  chan_within = omega (arith, l.into.0, m.of.long)

  laid_here : tokens_at s' c ≡ tokens_at s c ++ x.value ∷ []
  laid_here = get_or-set_same s.tokens c (tokens_at s c ++ x.value ∷ []) [] chan_within

  laid_there : (d : ℕ) → d ≢ c → tokens_at s' d ≡ tokens_at s d
  laid_there d n = get_or-set_other s.tokens c d (tokens_at s c ++ x.value ∷ []) [] n

  more_here : tokens_at on.to.state c ≡ tokens_at m.after.state c ++ x.value ∷ []
  more_here = on.fuller.tokens c ∙ ap (λ g. tokens_at m.after.state c ++ cond g (x.value ∷ []) []) (eq-eqb c c refl)

  more_there : (d : ℕ) → d ≢ c → tokens_at on.to.state d ≡ tokens_at m.after.state d
  more_there d n = on.fuller.tokens d ∙ (ap (λ g. tokens_at m.after.state d ++ cond g (x.value ∷ []) []) (ne_eqb d c n) ∙ append-nil (tokens_at m.after.state d))

  stamps_here : stamps_at on.to c ≡ stamps_at m.after c ++ x.stamp ∷ []
  stamps_here = on.fuller.stamps c ∙ ap (λ g. stamps_at m.after c ++ cond g (x.stamp ∷ []) []) (eq-eqb c c refl)

  stamps_there : (d : ℕ) → d ≢ c → stamps_at on.to d ≡ stamps_at m.after d
  stamps_there d n = on.fuller.stamps d ∙ (ap (λ g. stamps_at m.after d ++ cond g (x.stamp ∷ []) []) (ne_eqb d c n) ∙ append-nil (stamps_at m.after d))

  sees_on : Sees t.net.now owner j s' on.to.state
  sees_on = record {
    scalars = on.fuller.scalars ∙ m.sees.scalars;
    own = λ u q. ap (λ os. get_or os u Rattle.net_core.specs.Fire.idle) on.fuller.own ∙ m.sees.own u q;
    arrays = λ u q. ap (λ xs. Rattle.net_core.specs.Fire.at_array xs (Rattle.net_types.specs.Nets.uses (Rattle.net_types.specs.Nets.kind_of t.net.now u))) on.fuller.arrays ∙ m.sees.arrays u q;
    into = λ d q. at_in d q (cases_eq d c);
    out = λ d b q. laid_there d (λ z. q (ap (taker t.net.now owner) z ∙ l.into.1)) ∙ m.sees.out d b q;
    arrays_long = ap length on.fuller.arrays ∙ m.sees.arrays_long;
    strays = on.fuller.strays ∙ m.sees.strays;
  }
    where
      at_in : (d : ℕ) → taker t.net.now owner d ≡ j → (d ≡ c) ⊎ (d ≡ c → ⊥) → tokens_at on.to.state d ≡ tokens_at s' d
      at_in d q (inl z) = subst (λ k. tokens_at on.to.state k ≡ tokens_at s' k) (sym z) (more_here ∙ (ap (λ ts. ts ++ x.value ∷ []) (m.sees.into c l.into.1) ∙ sym laid_here))
      at_in d q (inr n) = more_there d n ∙ (m.sees.into d q ∙ sym (laid_there d n))

  held_none : held_by (take_end a c) ≡ []
  held_none = ap held_by l.old ∙ ap tokens_of l.none

  held_one : held_by (take_end b c) ≡ x ∷ []
  held_one = ap held_by end_here ∙ ap tokens_of l.held

  made : IsMadeOf t b
  made = record {
    of = l.of;
    own = own_on t a.number b.number a.portion b.portion l.number l.here m.own;
    counts = subst (λ k. CountsWithin (max_depth * length k.items) (state_of b.portion.state)) (sym l.log) (subst (CountsWithin (max_depth * length a.log.items)) (sym l.state) (record { serials = m.counts.serials; strays = m.counts.strays }));
    room = ap (λ k. length k.items + k.room) l.log ∙ (m.room ∙ sym l.share);
    ends = ap length l.puts ∙ m.ends;
    ends_too = ap length l.takes ∙ (length-set a.takes.items c (Some e') ∙ m.ends_too);
    clock = l.clock ∙ (m.clock ∙ ap (λ k. Rattle.net_worker.specs.Steps.last_stamp 0 k.items) (sym l.log));
    after = on.to;
    local = subst (λ n. IsLocal t.net.now t.inputs owner n (shown b on.to)) (sym l.number) on.local;
    sees = subst (λ n. Sees t.net.now owner n (state_of b.portion.state) on.to.state) (sym l.number) (subst (λ y. Sees t.net.now owner j y on.to.state) (sym l.state) sees_on);
    exit = exit_kept t.net.now (state_of a.portion.state) (state_of b.portion.state) a.log.items b.log.items (ap (λ s. s.own) l.state) (ap (λ g. g.items) l.log) m.exit;
    held = λ d i. held_at d i (cases_eq d c);
    held_stamps = λ d i. held_stamps_at d i (cases_eq d c);
    puts_out = λ d p q. subst (λ n. IsOutOf t n d × (Rattle.elastic_link.specs.Ends.slots_of p ≡ (chan_at t.net.now d).slots)) (sym l.number) (m.puts_out d p (ap (λ ps. get_or ps d None) (sym l.puts) ∙ q));
    takes_in = λ d y q. takes_at d y q (cases_eq d c);
    outs = λ d i. subst (λ v. Contains v.items d) (sym l.outs) (m.outs d (subst (λ k. IsOutOf t k d) l.number i));
    outs_only = subst (λ v. All (IsOutOf t b.number) v.items) (sym l.outs) (subst (λ k. All (IsOutOf t k) a.outs.items) (sym l.number) m.outs_only);
    ins = λ d i. subst (λ v. Contains v.items d) (sym l.ins) (m.ins d (subst (λ k. IsInto t k d) l.number i));
    ins_only = subst (λ v. All (IsInto t b.number) v.items) (sym l.ins) (subst (λ k. All (IsInto t k) a.ins.items) (sym l.number) m.ins_only);
    repaid = λ d y q. repaid_is d y q (cases_eq d c);
    rests = λ r. absurd (false≢true (sym l.resting ∙ r));
  }
    where
      mine : (d : ℕ) → IsInto t b.number d → IsInto t j d
      mine d i = subst (λ n. IsInto t n d) l.number i

      held_at : (d : ℕ) → IsInto t b.number d → (d ≡ c) ⊎ (d ≡ c → ⊥) → tokens_at on.to.state d ≡ values (held_by (take_end b d))
      held_at d i (inl z) = subst (λ k. tokens_at on.to.state k ≡ values (held_by (take_end b k))) (sym z) (more_here ∙ (ap (λ ts. ts ++ x.value ∷ []) (m.held c l.into ∙ ap values held_none) ∙ sym (ap values held_one)))
      held_at d i (inr n) = more_there d n ∙ (m.held d (mine d i) ∙ ap (λ o. values (held_by o)) (sym (end_there d n)))

      held_stamps_at : (d : ℕ) → IsInto t b.number d → (d ≡ c) ⊎ (d ≡ c → ⊥) → stamps_at on.to d ≡ stamps_of (held_by (take_end b d))
      held_stamps_at d i (inl z) = subst (λ k. stamps_at on.to k ≡ stamps_of (held_by (take_end b k))) (sym z) (stamps_here ∙ (ap (λ ts. ts ++ x.stamp ∷ []) (m.held_stamps c l.into ∙ ap stamps_of held_none) ∙ sym (ap stamps_of held_one)))
      held_stamps_at d i (inr n) = stamps_there d n ∙ (m.held_stamps d (mine d i) ∙ ap (λ o. stamps_of (held_by o)) (sym (end_there d n)))

      takes_at : (d : ℕ) (y : TakeEnd) → take_end b d ≡ Some y → (d ≡ c) ⊎ (d ≡ c → ⊥) → IsInto t b.number d × (y.slots ≡ (chan_at t.net.now d).slots)
      takes_at d y q (inl z) =
          let k : e' ≡ y = some_inj e' y (sym end_here ∙ (ap (take_end b) (sym z) ∙ q)) in
          let old = m.takes_in c e l.old in
          subst (λ i. IsInto t b.number i × (y.slots ≡ (chan_at t.net.now i).slots)) (sym z) (subst (λ n. IsInto t n c) (sym l.number) old.0, ap (λ (y : TakeEnd). y.slots) (sym k) ∙ (l.same.slots ∙ old.1))
      takes_at d y q (inr n) = subst (λ i. IsInto t i d × (y.slots ≡ (chan_at t.net.now d).slots)) (sym l.number) (m.takes_in d y (sym (end_there d n) ∙ q))

      repaid_is : (d : ℕ) (y : TakeEnd) → take_end b d ≡ Some y → (d ≡ c) ⊎ (d ≡ c → ⊥) → (credits_repaid y ≡ length (tokens_taken y)) × (repaid_stamp y ≤ b.clock)
      repaid_is d y q (inl z) =
          let k : e' ≡ y = some_inj e' y (sym end_here ∙ (ap (take_end b) (sym z) ∙ q)) in
          let old = m.repaid c e l.old in
          let all : credits_repaid e' ≡ credits_repaid e = omega (arith, ap credits_in l.credits.0, l.credits.1) in
          subst (λ (y : TakeEnd). (credits_repaid y ≡ length (tokens_taken y)) × (repaid_stamp y ≤ b.clock)) k
          (all ∙ (old.0 ∙ ap length (sym l.taken)), omega (arith, old.1, l.credits.2, l.clock))
      repaid_is d y q (inr n) = subst (λ i. (credits_repaid y ≡ length (tokens_taken y)) × (repaid_stamp y ≤ i)) (sym l.clock) (m.repaid d y (sym (end_there d n) ∙ q))

pub made_looks : MadeLooks
made_looks t a b c e e' x m l = made t a b c e e' x m l
