-- A firing from its parts.
use Rattle.std.proofs.Common.{◌≡◌, ◌≢◌, ◌⊎◌, inl, inr, ℕ, suc, ◌+◌, ◌*◌, ◌^◌, ◌<◌, ◌≤◌, max, Bool, true, false, cond, Option, Some, None, IsSome, List, [], ◌∷◌, ◌++◌, length, get_or, refl, ap, ◌∙◌, sym, subst, arith, append-nil, get_or-set_same, get_or-set_other}
use Rattle.std.specs.List.{AllByRecursion}
use Rattle.std.proofs.lemmas.Bool.{cases_lt, cases_eq}
use Rattle.std.proofs.lemmas.List.{get_or_past}
use Rattle.el_base.specs.Limits.{max_depth}
use Rattle.elastic_link.specs.declared.message.Token.{Token}
use Rattle.elastic_link.specs.declared.message.Credit.{Credit}
use Rattle.elastic_link.specs.declared.put_end.PutEnd.{PutEnd}
use Rattle.elastic_link.specs.declared.take_end.TakeEnd.{TakeEnd}
use Rattle.elastic_link.specs.Credits.{credits_in, owed_message}
use Rattle.elastic_link.specs.Held.{tokens_of}
use Rattle.elastic_link.specs.Ends.{token_held, messages_sent, messages_repaid, credits_owed, credits_repaid, repaid_stamp}
use Rattle.net_types.specs.declared.net.Net.{Net}
use Rattle.net_types.specs.declared.firing.Firing.{Firing}
use Rattle.net_types.specs.Nets.{into, out_of, chan_at, nowhere}
use Rattle.net_check.specs.Checks.{IsChecked}
use Rattle.net_core.specs.declared.plan.Put.{Put}
use Rattle.net_core.specs.Fire.{State, Effect, effect, after, applied, first, tokens_at, head_at, takes_from, puts_on, taken, added, has_room}
use Rattle.net_core.specs.Held.{take_at}
use Rattle.net_core.specs.States.{IsOf, CountsWithin, CountsRise, state_of, with_tokens}
use Rattle.net_core.specs.Uses.{used}
use Rattle.net_core.proofs.RowLemmas.{Has}
use Rattle.net_core.proofs.ApartLemmas.{is_at-inv, out_of-at}
use Rattle.net_worker.specs.Plays.{putter, taker, HasRoomIn}
use Rattle.net_worker.specs.Local.{values, StandFor, fed_opening}
use Rattle.net_worker.specs.Plays.{take_stamps, takes_by}
use Rattle.net_worker.specs.Mays.{IsEarlyAt}
use Rattle.net_worker.specs.Sights.{IsMadeHere}
use Rattle.net_worker.specs.Asking.{TakesAsked}
use Rattle.net_worker.specs.Firings.{AreTaken, HoldsIfAny, IsPayable, OutAt, IsHandedOver, IsFiredExactly}
use Rattle.net_worker.specs.Fires.{TakeStep, IsFired}
use Rattle.net_worker.specs.Going.{base_of}
use Rattle.net_worker.specs.Offers.{held_stamp, greatest_in, RoomAt, RoomFor, IsOffered}
use Rattle.net_worker.specs.Workers.{owner_in, IsMadeOf, IsWhole, put_end, take_end, held_by, handed_by, repaid_by}
use Rattle.firing_log.specs.declared.entry.Entry.{Entry}
use Rattle.net_worker.specs.declared.tables.Tables.{Tables}
use Rattle.net_worker.specs.Portions.{SameHere}
use Rattle.net_worker.specs.declared.worker.Worker.{Worker}
use Rattle.net_worker.proofs.Asking.{take_step_later, none_some}
use Rattle.net_worker.proofs.Moves.{tokens_after, not_taken_there}

-- ---- one list

no_token : (o : Option ℕ) (v : ℕ) → o ≡ Some v → (o ≡ None → ⊥)
no_token None v q h = cc
no_token (Some x) v q h = cc

some_held : (o : Option TakeEnd) (v : ℕ) → first (values (held_by o)) ≡ Some v → HoldsIfAny o
some_held None v q = tt
some_held (Some e) v q = by (token_held e) q
  where
    by : (o : Option Token) → first (values (tokens_of o)) ≡ Some v → IsSome o
    by None q = cc
    by (Some x) q = refl

pub slots_within : (net : Net) (c n : ℕ) → n < (chan_at net c).slots → c < length net.chans
slots_within net c n l = by (cases_lt c (length net.chans))
  where
    by : (c < length net.chans) ⊎ (length net.chans ≤ c) → c < length net.chans
    by (inl b) = b
    by (inr b) =
        let z : chan_at net c ≡ nowhere = get_or_past net.chans c nowhere b in
        let s : (chan_at net c).slots ≡ 0 = ap (λ (k : Rattle.net_types.specs.declared.net.Chan.Chan). k.slots) z in
        absurd (omega arith)

-- ---- takes are repaid by few credits

repaid_all : (ms : List Credit) (owed last : ℕ) → credits_in (ms ++ owed_message owed last) ≡ credits_in ms + owed
repaid_all [] Rattle.std.proofs.Common.zero last = omega arith
repaid_all [] (suc owed) last = omega arith
repaid_all (m ∷ ms) owed last = omega (arith, repaid_all ms owed last)

stand_length : (ms : List Credit) (ns : List ℕ) → StandFor ms ns → credits_in ms ≡ length ns
stand_length [] ns h = ap length (sym h)
stand_length (m ∷ ms) ns h = omega (arith, stand_length ms (Rattle.std.proofs.Common.drop m.count ns) h.3, Rattle.std.proofs.Common.length-drop m.count ns, h.1)

takes_few : (net : Net) (c : ℕ) (s : Rattle.net_worker.specs.Stamped.Stamped) (es : List Entry) → length (take_stamps net c s es) ≤ length es
takes_few net c s [] = omega arith
takes_few net c s (e ∷ es) = one (takes_by net e.firing.unit (effect net s.state e.firing) c) e.stamp (take_stamps net c (Rattle.net_worker.specs.Stamped.after_at net e.stamp s e.firing) es) (length es) (takes_few net c (Rattle.net_worker.specs.Stamped.after_at net e.stamp s e.firing) es)
  where
    one : (g : Bool) (n : ℕ) (ns : List ℕ) (k : ℕ) → length ns ≤ k → length (cond g (n ∷ ns) ns) ≤ suc k
    one true n ns k h = omega arith
    one false n ns k h = omega arith

-- ---- a worker's ends

module _ (t : Tables) (a : Worker) (m : IsMadeOf t a) where
  abbrev owner : ℕ → ℕ
  owner = owner_in t

  abbrev j : ℕ
  j = a.number

  -- where the state has a head, an end holds a token
  pub holds_at : (u : ℕ) → owner u ≡ j → (p : ℕ) → Has (head_at t.net.now (state_of a.portion.state) u) p → HoldsIfAny (take_end a (into u p t.net.now.chans))
  holds_at u mine p h = by (take_end a (into u p t.net.now.chans)) refl
    where
      c : ℕ
      c = into u p t.net.now.chans

      by : (o : Option TakeEnd) → take_end a c ≡ o → HoldsIfAny o
      by None is = tt
      by (Some e) is =
          let i = (m.takes_in c e is).0 in
          some_held (Some e) h.0 (ap (λ o. first (values (held_by o))) (sym is) ∙ (ap first (sym (m.held c i) ∙ m.sees.into c i.1) ∙ h.1))

  few_repaid : (c : ℕ) (e : TakeEnd) → take_end a c ≡ Some e → credits_repaid e < 2 ^ 62
  few_repaid c e is =
      let i = (m.takes_in c e is).0 in
      let s = subst (λ o. StandFor (repaid_by o) (take_stamps t.net.now c (fed_opening t.net.now t.inputs (λ c. handed_by (take_end a c))) a.log.items)) is (m.local.stand_for c i.0 i.1 i.2) in
      let n = stand_length (messages_repaid e) (take_stamps t.net.now c (fed_opening t.net.now t.inputs (λ c. handed_by (take_end a c))) a.log.items) s in
      let k = takes_few t.net.now c (fed_opening t.net.now t.inputs (λ c. handed_by (take_end a c))) a.log.items in
      let r = repaid_all (messages_sent e) (credits_owed e) (repaid_stamp e) in
      omega (arith, m.room, a.most)

  pub payable_at : (c n : ℕ) (es : List (Option TakeEnd)) → a.clock < n → TakesAsked a.takes.items es → HoldsIfAny (take_end a c) → IsPayable n (get_or es c None)
  payable_at c n es later asked holds = by (take_end a c) (get_or es c None) refl (asked.each c) holds
    where
      by : (o q : Option TakeEnd) → take_end a c ≡ o → Rattle.net_worker.specs.Asking.TakeAsked o q → HoldsIfAny o → IsPayable n q
      by None None is k h = tt
      by None (Some q) is k h = absurd k
      by (Some p) None is k h = absurd k
      by (Some p) (Some q) is k h =
          let r = m.repaid c p is in
          record {
            held = subst IsSome (sym k.held) h;
            stamp = omega (arith, k.stamp, r.1);
            all = k.repaid ∙ (r.0 ∙ ap length (sym k.taken));
            few = (let f = few_repaid c p is in omega (arith, k.repaid));
          }

  -- an output to another worker is empty in the state, and has slots
  pub room_held : IsChecked t.net.now → (u : ℕ) → owner u ≡ j → (o : Option Put) → RoomFor t.net.now (state_of a.portion.state) u o a.puts.items → has_room t.net.now (state_of a.portion.state) u o
  room_held checked u mine None r = tt
  room_held checked u mine (Some w) r = by (put_end a (out_of u w.place t.net.now.chans)) refl r
    where
      c : ℕ
      c = out_of u w.place t.net.now.chans

      by : (o : Option PutEnd) → put_end a c ≡ o → RoomAt t.net.now (state_of a.portion.state) c o → length (tokens_at (state_of a.portion.state) c) < (chan_at t.net.now c).slots
      by None is r = r
      by (Some p) is r =
          let i = (m.puts_out c p is).0 in
          let z = ap length (m.sees.out c i.0 i.2) in
          omega (arith, (checked.sized c i.0).slots_some)

  room_in : (u : ℕ) → (o : Option Put) → RoomFor t.net.now (state_of a.portion.state) u o a.puts.items → HasRoomIn t.net.now owner j (state_of a.portion.state) u o
  room_in u None r = tt
  room_in u (Some w) r = by (put_end a (out_of u w.place t.net.now.chans)) refl r
    where
      c : ℕ
      c = out_of u w.place t.net.now.chans

      by : (o : Option PutEnd) → put_end a c ≡ o → RoomAt t.net.now (state_of a.portion.state) c o → (c < length t.net.now.chans) × (taker t.net.now owner c ≡ j → length (tokens_at (state_of a.portion.state) c) < (chan_at t.net.now c).slots)
      by None is r = (slots_within t.net.now c _ r, λ q. r)
      by (Some p) is r = (let i = (m.puts_out c p is).0 in (i.0, λ q. absurd (i.2 q)))

  early_all : (u n : ℕ) (ps : List ℕ) → greatest_in t.net.now a.takes.items u ps < n → AllByRecursion (IsEarlyAt t a u n) ps
  early_all u n [] l = tt
  early_all u n (p ∷ ps) l = (λ x i h. (let k = ap held_stamp h in omega arith), early_all u n ps (omega arith))

  pub few_counts : CountsWithin (2 ^ 62) (state_of a.portion.state)
  few_counts = record {
    serials = λ u. (let k = m.counts.serials u in omega (arith, m.room, a.most));
    strays = λ x. (let k = m.counts.strays x in omega (arith, m.room, a.most));
  }

-- ---- the state, without the token that went to another worker

module _ (t : Tables) (a : Worker) (m : IsMadeOf t a) (f : Firing) (x : Effect) (mine : owner_in t f.unit ≡ a.number) (does : effect t.net.now (state_of a.portion.state) f ≡ Some x) (within : HasRoomIn t.net.now (owner_in t) a.number (state_of a.portion.state) f.unit x.put) where
  abbrev s : State
  s = state_of a.portion.state

  abbrev s1 : State
  s1 = applied t.net.now f.unit x s

  tokens_here : (c : ℕ) → c < length t.net.now.chans → tokens_at s1 c ≡ added (puts_on t.net.now f.unit x.put c) (taken (takes_from t.net.now f.unit x c) (tokens_at s c))
  tokens_here c l = tokens_after t.net.now f.unit x s c (omega (arith, m.of.long))

  others_empty : (c : ℕ) → c < length t.net.now.chans → taker t.net.now (owner_in t) c ≢ a.number → taken (takes_from t.net.now f.unit x c) (tokens_at s c) ≡ []
  others_empty c l q =
      let g : takes_from t.net.now f.unit x c ≡ false = not_taken_there t.net.now s f x c l does (λ z. q (ap (owner_in t) z ∙ mine)) in
      ap (λ b. taken b (tokens_at s c)) g ∙ m.sees.out c l q

  abbrev Made : State → Type 0
  Made s2 = IsMadeHere t.net.now (owner_in t) a.number f.unit x s s2

  none_put : (w : Put) (c d : ℕ) → d ≡ out_of f.unit w.place t.net.now.chans → c ≢ d → puts_on t.net.now f.unit (Some w) c ≡ None
  none_put w c d is n = ap (λ b. cond b (Some w.value) None) (Rattle.std.proofs.Common.ne_eqb c (out_of f.unit w.place t.net.now.chans) (λ z. n (z ∙ sym is)))

  made_none : (o : Option Put) → x.put ≡ o → (s2 : State) → IsHandedOver t.net.now f.unit o a.puts.items s1 s2 → IsWhole t a → Made s2
  made_none None is s2 h w = subst Made (sym h) (record {
    scalars = refl;
    own = refl;
    arrays = refl;
    strays = refl;
    into = λ c q. refl;
    out = λ c l q. tokens_here c l ∙ (ap (λ o. added (puts_on t.net.now f.unit o c) (taken (takes_from t.net.now f.unit x c) (tokens_at s c))) is ∙ others_empty c l q);
  })
  made_none (Some w) is s2 h whole = by (put_end a d) refl h
    where
      d : ℕ
      d = out_of f.unit w.place t.net.now.chans

      inside : d < length t.net.now.chans
      inside = (subst (HasRoomIn t.net.now (owner_in t) a.number s f.unit) is within).0

      from : putter t.net.now (owner_in t) d ≡ a.number
      from = ap (owner_in t) (is_at-inv (chan_at t.net.now d).from f.unit w.place (out_of-at f.unit w.place t.net.now.chans inside)).0 ∙ mine

      elsewhere : (c : ℕ) → c < length t.net.now.chans → taker t.net.now (owner_in t) c ≢ a.number → c ≢ d → tokens_at s1 c ≡ []
      elsewhere c l q n =
          tokens_here c l ∙ (ap (λ o. added (puts_on t.net.now f.unit o c) (taken (takes_from t.net.now f.unit x c) (tokens_at s c))) is
          ∙ (ap (λ o. added o (taken (takes_from t.net.now f.unit x c) (tokens_at s c))) (none_put w c d refl n) ∙ others_empty c l q))

      by : (o : Option PutEnd) → put_end a d ≡ o → OutAt d o s1 s2 → Made s2
      by None e h = subst Made (sym h) (record {
        scalars = refl;
        own = refl;
        arrays = refl;
        strays = refl;
        into = λ c q. refl;
        out = λ c l q. elsewhere c l q (λ z. none_some PutEnd (subst IsSome e (whole.puts d (inside, from, λ k. q (ap (taker t.net.now (owner_in t)) z ∙ k)))));
      })
      by (Some p) e h = subst Made (sym h) (record {
        scalars = refl;
        own = refl;
        arrays = refl;
        strays = refl;
        into = λ c q. get_or-set_other s1.tokens d c (taken true (tokens_at s1 d)) [] (λ z. (m.puts_out d p e).0.2 (ap (taker t.net.now (owner_in t)) (sym z) ∙ q));
        out = λ c l q. out c l q (cases_eq c d);
      })
        where
          long : d < length s1.tokens
          long = omega (arith, inside, Rattle.net_core.proofs.RowLemmas.length-changed (Rattle.net_core.specs.Fire.moved t.net.now f.unit x) 0 s.tokens, m.of.long)

          put_here : puts_on t.net.now f.unit (Some w) d ≡ Some w.value
          put_here = ap (λ b. cond b (Some w.value) None) (Rattle.std.proofs.Common.eq-eqb d d refl)

          one : tokens_at s1 d ≡ w.value ∷ []
          one =
              tokens_here d inside ∙ (ap (λ o. added (puts_on t.net.now f.unit o d) (taken (takes_from t.net.now f.unit x d) (tokens_at s d))) is
              ∙ (ap (λ o. added o (taken (takes_from t.net.now f.unit x d) (tokens_at s d))) put_here
              ∙ ap (λ l. l ++ w.value ∷ []) (others_empty d inside (m.puts_out d p e).0.2)))

          gone : tokens_at (with_tokens (take_at d s1.tokens) s1) d ≡ []
          gone = get_or-set_same s1.tokens d (taken true (tokens_at s1 d)) [] long ∙ ap (taken true) one

          out : (c : ℕ) → c < length t.net.now.chans → taker t.net.now (owner_in t) c ≢ a.number → (c ≡ d) ⊎ (c ≡ d → ⊥) → tokens_at (with_tokens (take_at d s1.tokens) s1) c ≡ []
          out c l q (inl z) = ap (tokens_at (with_tokens (take_at d s1.tokens) s1)) z ∙ gone
          out c l q (inr n) = get_or-set_other s1.tokens d c (taken true (tokens_at s1 d)) [] n ∙ elsewhere c l q n

handed_counts : (net : Net) (u n : ℕ) (o : Option Put) (ps : List (Option PutEnd)) (s1 s2 : State) → IsHandedOver net u o ps s1 s2 → CountsWithin n s1 → CountsWithin n s2
handed_counts net u n None ps s1 s2 h c = subst (CountsWithin n) (sym h) c
handed_counts net u n (Some w) ps s1 s2 h c = by (get_or ps (out_of u w.place net.chans) None) h
  where
    by : (o : Option PutEnd) → OutAt (out_of u w.place net.chans) o s1 s2 → CountsWithin n s2
    by None h = subst (CountsWithin n) (sym h) c
    by (Some p) h = subst (CountsWithin n) (sym h) (record { serials = c.serials; strays = c.strays })

-- ends are there before and after they are offered a token
over_before : (c n : ℕ) (v : Option ℕ) (o q : Option PutEnd) (s1 s2 : State) → Rattle.net_worker.specs.Fires.PutStep n v o q → OutAt c q s1 s2 → OutAt c o s1 s2
over_before c n v None None s1 s2 k h = h
over_before c n v None (Some q) s1 s2 k h = absurd k
over_before c n v (Some p) None s1 s2 k h = absurd k
over_before c n v (Some p) (Some q) s1 s2 k h = h

-- what the parts of a firing leave of a worker
pub record IsMadeUp (t : Tables) (a b : Worker) (f : Firing) (x : Effect) (n : ℕ) (es : List (Option TakeEnd)) (s1 : State) : Type 0 where
  pub mine : owner_in t f.unit ≡ a.number
  pub does : effect t.net.now (state_of a.portion.state) f ≡ Some x
  pub asked : TakesAsked a.takes.items es
  pub offered : IsOffered t.net.now (state_of a.portion.state) f.unit x.put (base_of t a f) n a.puts.items b.puts.items
  pub made : s1 ≡ applied t.net.now f.unit x (state_of a.portion.state)
  pub rise : CountsRise max_depth (state_of a.portion.state) s1
  pub over : IsHandedOver t.net.now f.unit x.put b.puts.items s1 (state_of b.portion.state)
  pub taken : AreTaken t.net.now f.unit n x.takes es b.takes.items
  pub number : b.number ≡ a.number
  pub share : b.share ≡ a.share
  pub items : b.log.items ≡ a.log.items ++ (record { stamp = n; firing = f }) ∷ []
  pub log_room : b.log.room + 1 ≡ a.log.room
  pub clock : b.clock ≡ n
  pub of : IsOf t.net.now b.portion.state
  pub here : SameHere a.portion b.portion
  pub outs : b.outs ≡ a.outs
  pub ins : b.ins ≡ a.ins
  pub closed : b.closed ≡ a.closed
  pub resting : b.resting ≡ false

module _ (t : Tables) (a b : Worker) (m : IsMadeOf t a) (w : IsWhole t a) (f : Firing) (x : Effect) (n : ℕ) (es : List (Option TakeEnd)) (s1 : State) (o : IsMadeUp t a b f x n es s1) where
  over_old : (p : Option Put) → x.put ≡ p → IsHandedOver t.net.now f.unit p a.puts.items s1 (state_of b.portion.state)
  over_old None is = subst (λ p. IsHandedOver t.net.now f.unit p b.puts.items s1 (state_of b.portion.state)) is o.over
  over_old (Some v) is =
      let c = out_of f.unit v.place t.net.now.chans in
      over_before c n (puts_on t.net.now f.unit x.put c) (put_end a c) (put_end b c) s1 (state_of b.portion.state) (o.offered.puts c) (subst (λ p. IsHandedOver t.net.now f.unit p b.puts.items s1 (state_of b.portion.state)) is o.over)

  room_now : HasRoomIn t.net.now (owner_in t) a.number (state_of a.portion.state) f.unit x.put
  room_now = room_in t a m f.unit x.put o.offered.room

  state_now : IsMadeHere t.net.now (owner_in t) a.number f.unit x (state_of a.portion.state) (state_of b.portion.state)
  state_now = made_none t a m f x o.mine o.does room_now x.put refl (state_of b.portion.state) (subst (λ s. IsHandedOver t.net.now f.unit x.put a.puts.items s (state_of b.portion.state)) o.made (over_old x.put refl)) w

  pub made_up : IsFiredExactly t a b f
  made_up = record {
    effect = x;
    stamp = n;
    fired = record {
      may = record {
        mine = o.mine;
        does = o.does;
        room = room_now;
        later = omega (arith, o.offered.stamp);
        early = early_all t a m f.unit n (used t.net.now (state_of a.portion.state) f) (omega (arith, o.offered.stamp));
      };
      number = o.number;
      share = o.share;
      items = o.items;
      log_room = o.log_room;
      clock = o.clock;
      of = o.of;
      here = o.here;
      counts = λ k c. handed_counts t.net.now f.unit (k + max_depth) x.put b.puts.items s1 (state_of b.portion.state) o.over (o.rise k c);
      state = state_now;
      ends = o.offered.long;
      ends_too = o.taken.long ∙ o.asked.long;
      outs = o.outs;
      ins = o.ins;
      closed = o.closed;
      resting = o.resting;
      puts = λ c. o.offered.puts c;
      takes = λ c. take_step_later (takes_from t.net.now f.unit x c) n (take_end a c) (get_or es c None) (take_end b c) (o.asked.each c) (o.taken.each c);
    };
    told = o.offered.told;
    by = o.offered.by;
    exact = o.offered.stamp;
  }
