-- What a part of a state says of the whole.
use Rattle.std.proofs.Common.{◌≡◌, ℕ, ◌<◌, ◌≤◌, true, List, [], ◌∷◌, ◌++◌, length, get_or, set, map, drop, None, vec_len, IsTrue, ◌↔◌, Bool, false, refl, sym, ap, subst, ◌∙◌, arith}
use Rattle.std.proofs.Math.ListN.{get_or-map}
use Rattle.std.proofs.lemmas.List.{length-map, length-set, map-set, set-get_or, get_or_default, get_or_past}
use Rattle.std.specs.declared.alloc.Global.{Global}
use Rattle.std.specs.declared.vec.Vec.{Vec}
use Rattle.net_types.specs.declared.net.Net.{Net}
use Rattle.net_types.specs.declared.net.Chan.{Chan}
use Rattle.net_types.specs.Nets.{chan_at, nowhere}
use Rattle.net_core.specs.declared.cell.Cell.{Cell}
use Rattle.net_core.specs.declared.cell.Cell.TheVariants.{Plain}
use Rattle.net_core.specs.declared.state.State.{State as Stored}
use Rattle.net_core.specs.declared.opening.Home.TheVariants as home
use Rattle.net_core.specs.Fire.{Own, first, idle, taken, tokens_at}
use Rattle.net_core.specs.Plans.{own_of}
use Rattle.net_core.specs.Runs.{HasExited}
use Rattle.net_core.specs.Held.{Lane, lane, take_at, put_at_end}
use Rattle.net_core.specs.States.{IsOf, array_in, arrays_of, cell_at, home_at, queue_array, state_of, with_tokens}
use Rattle.net_core.proofs.ExchangeLemmas.{tokens_of}
use Rattle.net_worker.specs.ChannelEnds.{AreChannels, IsNotAmong, StandsAt, put_over, length-put_over}
use Rattle.net_worker.specs.Portions.{ArePortion, PortionView, SameButTokens, IsUnitHere, IsInHere, IsOutHere, held_over, with_rooms, portion_of}
use Rattle.net_worker.specs.declared.places.Places.{Places}
use Rattle.net_worker.specs.declared.portion.Portion.TheInside.{Inside}
use Rattle.net_worker.proofs.PutOver.{put_over_none, put_over_some, put_over_set}

-- the item read at a place
pub read_at : {A B : Type 0} (f : A → B) (xs : List A) (i : ℕ) (q : A) (d : B) → i < length xs → q ≡ get_or xs i q → get_or (map f xs) i d ≡ f q
read_at f xs i q d l e =
    get_or_default (map f xs) i d (f q) (subst (λ n. i < n) (sym (length-map xs f)) l) ∙ (get_or-map f xs i q ∙ ap f (sym e))

-- a place as the code reads it
stands : (places read among : List ℕ) (u i : ℕ) → read ≡ places → i ≡ get_or read u i → (u < length places) × StandsAt among u (get_or places u 0) → StandsAt among u i
stands places read among u i same e here =
    subst (StandsAt among u) (get_or_default places u 0 i here.0 ∙ (ap (λ xs. get_or xs u i) (sym same) ∙ sym e)) here.1

drop_taken : (xs : List ℕ) → drop 1 xs ≡ taken true xs
drop_taken [] = refl
drop_taken (x ∷ xs) = refl

-- past the channels
past_tokens : (net : Net) (s : Stored) (c : ℕ) → IsOf net s → length net.chans ≤ c → get_or s.tokens.tokens c [] ≡ []
past_tokens net s c of l = get_or_past s.tokens.tokens c [] (subst (λ n. n ≤ c) (sym of.long) l)

past_slots : (net : Net) (c : ℕ) → length net.chans ≤ c → (chan_at net c).slots ≡ 0
past_slots net c l = ap (λ (x : Chan). x.slots) (get_or_past net.chans c nowhere l)

-- the slots of a channel of the net
pub slot_at : (net : Net) (s : Stored) (c : ℕ) → IsOf net s → get_or s.tokens.slots c 0 ≡ (chan_at net c).slots
slot_at net s c of = ap (λ ns. get_or ns c 0) of.slots ∙ get_or-map (λ (x : Chan). x.slots) net.chans c nowhere

module _ (s : Stored) (p : Places) (us : List ℕ) (cells : List Cell) (cs : List ℕ) (ls : List Lane) (strays : Vec ℕ Global) (h : ArePortion s p us cells cs ls) where
  -- ---- units

  pub unit_long : (i : ℕ) → i < length us → i < length cells
  unit_long i l = subst (λ n. i < n) (sym h.cells_long) l

  pub cell_is : (u i : ℕ) (q : Cell) → StandsAt us u i → q ≡ get_or cells i q → cell_at (with_rooms us cells cs ls strays s) u ≡ q
  cell_is u i q here e =
      put_over_some us cells s.cells.items u i Plain h.units h.cells_long here ∙ (get_or_default cells i Plain q (unit_long i here.0) ∙ sym e)

  -- ---- channels

  pub chan_long : (i : ℕ) → i < length cs → i < length ls
  chan_long i l = subst (λ n. i < n) (sym h.channels_long) l

  map_long : {A : Type 0} (f : Lane → A) → length (map f ls) ≡ length cs
  map_long f = length-map ls f ∙ h.channels_long

  over_is : {A : Type 0} (f : Lane → A) (base : List A) (c i : ℕ) (q : Lane) (d : A) → length base ≡ length s.tokens.tokens → StandsAt cs c i → q ≡ get_or ls i q
      → get_or (put_over cs (map f ls) base) c d ≡ f q
  over_is f base c i q d long here e =
      put_over_some cs (map f ls) base c i d (subst (λ n. AreChannels n cs) (sym long) h.chans) (map_long f) here ∙ read_at f ls i q d (chan_long i here.0) e

  pub tokens_is : (c i : ℕ) (q : Lane) → StandsAt cs c i → q ≡ get_or ls i q → get_or (with_rooms us cells cs ls strays s).tokens.tokens c [] ≡ q.tokens
  tokens_is c i q here e = over_is (λ l. l.tokens) s.tokens.tokens c i q [] refl here e

  pub slots_is : (c i : ℕ) (q : Lane) → length s.tokens.slots ≡ length s.tokens.tokens → StandsAt cs c i → q ≡ get_or ls i q → get_or (with_rooms us cells cs ls strays s).tokens.slots c 0 ≡ q.slots
  slots_is c i q long here e = over_is (λ l. l.slots) s.tokens.slots c i q 0 long here e

  over_set : {A : Type 0} (f : Lane → A) (base : List A) (c i : ℕ) (new : Lane) → StandsAt cs c i → put_over cs (map f (set ls i new)) base ≡ set (put_over cs (map f ls) base) c (f new)
  over_set f base c i new here = ap (λ xs. put_over cs xs base) (map-set f ls i new) ∙ put_over_set (length s.tokens.tokens) cs (map f ls) base c i (f new) h.chans (map_long f) here

  pub tokens_set : (c i : ℕ) (new : Lane) → StandsAt cs c i → (held_over cs (set ls i new) s.tokens).tokens ≡ set (held_over cs ls s.tokens).tokens c new.tokens
  tokens_set c i new here = over_set (λ l. l.tokens) s.tokens.tokens c i new here

  -- slots that stay
  pub slots_set : (c i : ℕ) (q new : Lane) → length s.tokens.slots ≡ length s.tokens.tokens → StandsAt cs c i → q ≡ get_or ls i q → new.slots ≡ q.slots
      → (held_over cs (set ls i new) s.tokens).slots ≡ (held_over cs ls s.tokens).slots
  slots_set c i q new long here e same =
      let old = (held_over cs ls s.tokens).slots in
      over_set (λ l. l.slots) s.tokens.slots c i new here ∙ (ap (set old c) (same ∙ sym (slots_is c i q long here e)) ∙ set-get_or old c 0)

  -- a channel with other tokens and the same slots
  lane_of : (net : Net) (c i : ℕ) (q new : Lane) → IsOf net (with_rooms us cells cs ls strays s) → length s.tokens.slots ≡ length s.tokens.tokens → StandsAt cs c i → q ≡ get_or ls i q → new.slots ≡ q.slots
      → IsOf net (with_rooms us cells cs (set ls i new) strays s)
  lane_of net c i q new of long here e same =
      tokens_of net (with_rooms us cells cs ls strays s) (with_rooms us cells cs (set ls i new) strays s) of refl refl refl (slots_set c i q new long here e same)
      (ap length (tokens_set c i new here) ∙ length-set (held_over cs ls s.tokens).tokens c new.tokens)

  same_length : (net : Net) → IsOf net (with_rooms us cells cs ls strays s) → length s.tokens.slots ≡ length s.tokens.tokens
  same_length net of =
      sym (length-put_over cs (map (λ (l : Lane). l.slots) ls) s.tokens.slots) ∙ (ap length of.slots ∙ (length-map net.chans (λ (c : Chan). c.slots)
      ∙ (sym of.long ∙ length-put_over cs (map (λ (l : Lane). l.tokens) ls) s.tokens.tokens)))

-- ---- what is read and written at a place, where a clause sees this

module _ (p : Inside) (h : ArePortion p.base.value p.places.value p.units.items p.cells.items p.chans.items p.channels.items)
    (now : PortionView) (view : portion_of p.units.items p.cells.items p.chans.items p.channels.items p.strays p.base.value p.places.value ≡ now) where
  -- the same with other channels
  abbrev rooms : List Lane → Stored
  rooms ls = with_rooms p.units.items p.cells.items p.chans.items ls p.strays p.base.value

  -- the places of what is here, as the code reads them
  pub unit_here : (read : Places) (u i : ℕ) → read ≡ p.places.value → i ≡ get_or read.units.items u i → IsUnitHere now u → StandsAt p.units.items u i
  unit_here read u i same e here = stands p.places.value.units.items read.units.items p.units.items u i (ap (λ (q : Places). q.units.items) same) e (subst (λ n. IsUnitHere n u) (sym view) here)

  pub in_here : (read : Places) (c i : ℕ) → read ≡ p.places.value → i ≡ get_or read.ins.items c i → IsInHere now c → StandsAt p.chans.items c i
  in_here read c i same e here = stands p.places.value.ins.items read.ins.items p.chans.items c i (ap (λ (q : Places). q.ins.items) same) e (subst (λ n. IsInHere n c) (sym view) here)

  pub out_here : (read : Places) (c i : ℕ) → read ≡ p.places.value → i ≡ get_or read.outs.items c i → IsOutHere now c → StandsAt p.chans.items c i
  out_here read c i same e here = stands p.places.value.outs.items read.outs.items p.chans.items c i (ap (λ (q : Places). q.outs.items) same) e (subst (λ n. IsOutHere n c) (sym view) here)

  pub of_rooms : (net : Net) → IsOf net now.state → IsOf net (rooms p.channels.items)
  of_rooms net of = subst (λ n. IsOf net n.state) (sym view) of

  -- as many places as channels
  pub tokens_long : length p.base.value.tokens.tokens ≡ length now.state.tokens.tokens
  tokens_long = sym (length-put_over p.chans.items (map (λ (l : Lane). l.tokens) p.channels.items) p.base.value.tokens.tokens) ∙ ap (λ (n : PortionView). length n.state.tokens.tokens) view

  pub ins_all : (net : Net) → IsOf net now.state → length p.places.value.ins.items ≡ length net.chans
  ins_all net of = h.ins_long ∙ (sym (length-put_over p.chans.items (map (λ (l : Lane). l.tokens) p.channels.items) p.base.value.tokens.tokens) ∙ (of_rooms net of).long)

  pub outs_all : (net : Net) → IsOf net now.state → length p.places.value.outs.items ≡ length net.chans
  outs_all net of = h.outs_long ∙ (sym (length-put_over p.chans.items (map (λ (l : Lane). l.tokens) p.channels.items) p.base.value.tokens.tokens) ∙ (of_rooms net of).long)

  pub cell_read : (u i : ℕ) (q : Cell) → StandsAt p.units.items u i → q ≡ get_or p.cells.items i q → q ≡ cell_at now.state u
  cell_read u i q here e = subst (λ n. q ≡ cell_at n.state u) view (sym (cell_is p.base.value p.places.value p.units.items p.cells.items p.chans.items p.channels.items p.strays h u i q here e))

  pub tokens_read : (c i : ℕ) (q : Lane) → StandsAt p.chans.items c i → q ≡ get_or p.channels.items i q → q.tokens ≡ tokens_at (state_of now.state) c
  tokens_read c i q here e = subst (λ n. q.tokens ≡ tokens_at (state_of n.state) c) view (sym (tokens_is p.base.value p.places.value p.units.items p.cells.items p.chans.items p.channels.items p.strays h c i q here e))

  pub slots_read : (net : Net) (c i : ℕ) (q : Lane) → IsOf net now.state → StandsAt p.chans.items c i → q ≡ get_or p.channels.items i q → q.slots ≡ (chan_at net c).slots
  slots_read net c i q of here e =
      let all = of_rooms net of in
      sym (slots_is p.base.value p.places.value p.units.items p.cells.items p.chans.items p.channels.items p.strays h c i q (same_length p.base.value p.places.value p.units.items p.cells.items p.chans.items p.channels.items p.strays h net all) here e) ∙ slot_at net (rooms p.channels.items) c all

  pub room_there : (net : Net) (c i : ℕ) (q : Lane) → IsOf net now.state → StandsAt p.chans.items c i → q ≡ get_or p.channels.items i q
      → length (tokens_at (state_of now.state) c) < (chan_at net c).slots → length q.tokens < q.slots
  room_there net c i q of here e l = let a = ap length (tokens_read c i q here e) in let b = slots_read net c i q of here e in omega (arith, a, b, l)

  pub room_read : (net : Net) (c i : ℕ) (q : Lane) (r : Bool) → IsOf net now.state → StandsAt p.chans.items c i → q ≡ get_or p.channels.items i q → IsTrue r ↔ (length q.tokens < q.slots)
      → IsTrue r ↔ (length (tokens_at (state_of now.state) c) < (chan_at net c).slots)
  room_read net c i q r of here e w =
      let a = ap length (tokens_read c i q here e) in let b = slots_read net c i q of here e in
      (λ t. (let l = w.0 t in omega (arith, a, b, l)), λ l. w.1 (room_there net c i q of here e l))

  -- a channel that has a place is one of the net
  pub ins_within : (read : Places) (c n : ℕ) → read ≡ p.places.value → n ≡ vec_len read.ins → c < n → c < length now.state.tokens.tokens
  ins_within read c n same e l =
      let a = read.ins.ok.0 in
      let b = ap (λ (q : Places). length q.ins.items) same in
      omega (arith, a, b, h.ins_long, tokens_long, e, l)

  pub outs_within : (net : Net) (read : Places) (c n : ℕ) → IsOf net now.state → read ≡ p.places.value → n ≡ vec_len read.outs → c < n → c < length net.chans
  outs_within net read c n of same e l =
      let a = read.outs.ok.0 in
      let b = ap (λ (q : Places). length q.outs.items) same in
      omega (arith, a, b, outs_all net of, e, l)

  -- what is here has a room
  pub channel_within : (i : ℕ) {c : ℕ} → StandsAt p.chans.items c i → i < vec_len p.channels
  channel_within i here = let a = p.channels.ok.0 in omega (arith, a, h.channels_long, here.0)

  pub cell_within : (i : ℕ) {u : ℕ} → StandsAt p.units.items u i → i < vec_len p.cells
  cell_within i here = let a = p.cells.ok.0 in omega (arith, a, h.cells_long, here.0)

  -- nothing past the channels
  pub none_past : (c : ℕ) → length p.places.value.ins.items ≤ c → None ≡ first (get_or now.state.tokens.tokens c [])
  none_past c l = sym (ap first (get_or_past now.state.tokens.tokens c [] (subst (λ n. n ≤ c) (h.ins_long ∙ tokens_long) l)))

  pub full_past : (net : Net) (c : ℕ) → IsOf net now.state → length p.places.value.outs.items ≤ c → length (tokens_at (state_of now.state) c) < (chan_at net c).slots → IsTrue false
  full_past net c of l less = let z = past_slots net c (subst (λ n. n ≤ c) (outs_all net of) l) in absurd (omega (arith, less, z))

  -- a unit that is here is one of the net
  pub unit_within : (net : Net) (u : ℕ) → IsOf net now.state → IsUnitHere now u → u < length net.units
  unit_within net u of here =
      let place = subst (λ n. IsUnitHere n u) (sym view) here in
      let l = subst (λ v. v < length p.base.value.cells.items) place.1.1 (h.units.within (get_or p.places.value.units.items u 0) place.1.0) in
      let long : length p.base.value.cells.items ≡ length net.units =
      sym (length-put_over p.units.items p.cells.items p.base.value.cells.items) ∙ (of_rooms net of).cells in
      omega (arith, l, long)

  -- what is not here is as at first
  pub cell_left : (u : ℕ) → IsNotAmong now.units u → cell_at p.base.value u ≡ cell_at now.state u
  cell_left u gone =
      sym (put_over_none p.units.items p.cells.items p.base.value.cells.items u Plain (subst (λ n. IsNotAmong n.units u) (sym view) gone)) ∙ ap (λ (n : PortionView). cell_at n.state u) view

  pub cell_found : (u i : ℕ) (q : Cell) → StandsAt now.units u i → q ≡ get_or p.cells.items i q → q ≡ cell_at now.state u
  cell_found u i q here e = cell_read u i q (subst (λ n. StandsAt n.units u i) (sym view) here) e

  pub none_left : (u : ℕ) → length p.base.value.cells.items ≤ u → cell_at now.state u ≡ Plain
  none_left u l =
      get_or_past now.state.cells.items u Plain (subst (λ n. n ≤ u) (sym (length-put_over p.units.items p.cells.items p.base.value.cells.items) ∙ ap (λ (n : PortionView). length n.state.cells.items) view) l)

  array_read : (a u : ℕ) → home_at p.base.value a ≡ home.Queue u → get_or (arrays_of now.state) a [] ≡ queue_array (cell_at now.state u)
  array_read a u is =
      get_or-map (array_in now.state.cells.items) now.state.homes.items a (home.Here [])
      ∙ ap (array_in now.state.cells.items) (ap (λ (n : PortionView). home_at n.state a) (sym view) ∙ is)

  pub queue_elements : (a u i : ℕ) (q : Cell) → home_at p.base.value a ≡ home.Queue u → StandsAt now.units u i → q ≡ get_or p.cells.items i q → queue_array q ≡ get_or (arrays_of now.state) a []
  queue_elements a u i q is here e = ap queue_array (cell_found u i q here e) ∙ sym (array_read a u is)

  pub base_elements : (a u : ℕ) → home_at p.base.value a ≡ home.Queue u → IsNotAmong now.units u → get_or (arrays_of p.base.value) a [] ≡ get_or (arrays_of now.state) a []
  base_elements a u is gone =
      get_or-map (array_in p.base.value.cells.items) p.base.value.homes.items a (home.Here []) ∙ (ap (array_in p.base.value.cells.items) is
      ∙ (ap queue_array (cell_left u gone) ∙ sym (array_read a u is)))

  -- whether the exit has fired, by its cell
  pub exit_is : (x : ℕ) (read : Stored) → read ≡ p.base.value → x ≡ read.exit → x ≡ now.state.exit
  exit_is x read same is = is ∙ (ap (λ (s : Stored). s.exit) same ∙ ap (λ (n : PortionView). n.state.exit) view)

  pub exit_tells : (exit : ℕ) (r : Bool) (q : Cell) → r ≡ (own_of q).fired → exit ≡ now.state.exit → q ≡ cell_at now.state exit → (net : Net) → IsOf net now.state → IsTrue r ↔ HasExited net (state_of now.state)
  exit_tells exit r q is at e net of = (told, λ known. is ∙ (sym (own now.state.exit refl) ∙ known now.state.exit of.exit))
    where
      own : (x : ℕ) → x ≡ now.state.exit → (get_or (state_of now.state).own x idle).fired ≡ (own_of q).fired
      own x same =
          ap (λ (o : Own). o.fired) (get_or-map own_of now.state.cells.items x Plain) ∙ (ap (λ y. (own_of (cell_at now.state y)).fired) (same ∙ sym at) ∙ ap (λ z. (own_of z).fired) (sym e))

      told : IsTrue r → HasExited net (state_of now.state)
      told t x kind = own x (of.exits x kind) ∙ (sym is ∙ t)

  -- ---- a channel that is written

  pub lane_changed : (net : Net) (c i : ℕ) (q new : Lane) → IsOf net now.state → StandsAt p.chans.items c i → q ≡ get_or p.channels.items i q → new.slots ≡ q.slots
      → IsOf net (rooms (set p.channels.items i new))
  lane_changed net c i q new of here e same =
      let all = of_rooms net of in lane_of p.base.value p.places.value p.units.items p.cells.items p.chans.items p.channels.items p.strays h net c i q new all (same_length p.base.value p.places.value p.units.items p.cells.items p.chans.items p.channels.items p.strays h net all) here e same

  pub rest_changed : (net : Net) (c i : ℕ) (q new : Lane) → IsOf net now.state → StandsAt p.chans.items c i → q ≡ get_or p.channels.items i q → new.slots ≡ q.slots
      → SameButTokens now.state (rooms (set p.channels.items i new))
  rest_changed net c i q new of here e same =
      let all = of_rooms net of in
      record {
        scalars = ap (λ (n : PortionView). n.state.scalars) view;
        slots = slots_set p.base.value p.places.value p.units.items p.cells.items p.chans.items p.channels.items p.strays h c i q new (same_length p.base.value p.places.value p.units.items p.cells.items p.chans.items p.channels.items p.strays h net all) here e same ∙ ap (λ (n : PortionView). n.state.tokens.slots) view;
        cells = ap (λ (n : PortionView). n.state.cells) view;
        homes = ap (λ (n : PortionView). n.state.homes) view;
        strays = ap (λ (n : PortionView). n.state.strays) view;
        exit = ap (λ (n : PortionView). n.state.exit) view;
      }

  pub tokens_changed : (c i : ℕ) (new : Lane) (xs : List ℕ) → StandsAt p.chans.items c i → new.tokens ≡ xs
      → state_of (rooms (set p.channels.items i new)) ≡ with_tokens (set (state_of now.state).tokens c xs) (state_of now.state)
  tokens_changed c i new xs here e =
      let all = state_of (rooms p.channels.items) in
      ap (λ xss. with_tokens xss all) (tokens_set p.base.value p.places.value p.units.items p.cells.items p.chans.items p.channels.items p.strays h c i new here ∙ ap (set all.tokens c) e)
      ∙ ap (λ (n : PortionView). with_tokens (set (state_of n.state).tokens c xs) (state_of n.state)) view

  pub taken_state : (c i : ℕ) (q new : Lane) → StandsAt p.chans.items c i → q ≡ get_or p.channels.items i q → new ≡ lane (drop 1 q.tokens) (drop 1 q.dates) q.slots
      → state_of (rooms (set p.channels.items i new)) ≡ with_tokens (take_at c (state_of now.state).tokens) (state_of now.state)
  taken_state c i q new here e is =
      tokens_changed c i new _ here (ap (λ (l : Lane). l.tokens) is ∙ (drop_taken q.tokens ∙ ap (taken true) (tokens_read c i q here e)))

  pub put_state : (c i v d : ℕ) (q new : Lane) → StandsAt p.chans.items c i → q ≡ get_or p.channels.items i q → new ≡ lane (q.tokens ++ v ∷ []) (q.dates ++ d ∷ []) q.slots
      → state_of (rooms (set p.channels.items i new)) ≡ with_tokens (put_at_end c v (state_of now.state).tokens) (state_of now.state)
  put_state c i v d q new here e is =
      tokens_changed c i new _ here (ap (λ (l : Lane). l.tokens) is ∙ ap (λ xs. xs ++ v ∷ []) (tokens_read c i q here e))
