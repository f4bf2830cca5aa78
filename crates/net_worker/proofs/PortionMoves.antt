-- Moves of a firing in the rooms of a worker.
use Rattle.std.proofs.Common.{◌≡◌, ◌⊎◌, inl, inr, ℕ, ◌<◌, ◌≤◌, ◌^◌, true, Option, Some, None, IfSome, List, [], ◌∷◌, length, get_or, set, map, refl, sym, ap, subst, ◌∙◌, arith}
use Rattle.std.proofs.Math.ListN.{get_or-map}
use Rattle.std.proofs.lemmas.Bool.{cases_lt}
use Rattle.std.proofs.lemmas.List.{get_or_default, get_or_past}
use Rattle.std.specs.declared.alloc.Global.{Global}
use Rattle.std.specs.declared.vec.Vec.{Vec}
use Rattle.el_base.specs.Limits.{max_depth}
use Rattle.net_types.specs.declared.firing.Firing.{Firing}
use Rattle.net_types.specs.declared.net.Chan.{Chan}
use Rattle.net_types.specs.declared.net.Net.{Net}
use Rattle.net_types.specs.declared.net.Unit.{Unit as Kind}
use Rattle.net_types.specs.Nets.{chan_at, into, kind_of, nowhere, out_of, uses}
use Rattle.net_check.specs.Checks.{IsChecked}
use Rattle.net_core.specs.declared.cell.Cell.{Cell}
use Rattle.net_core.specs.declared.cell.Cell.TheVariants as cell
use Rattle.net_core.specs.declared.plan.Laid.{Laid}
use Rattle.net_core.specs.declared.plan.Moves.{Moves}
use Rattle.net_core.specs.declared.plan.Plan.{Plan}
use Rattle.net_core.specs.declared.plan.Put.{Put}
use Rattle.net_core.specs.declared.state.State.{State as Stored}
use Rattle.net_core.specs.Exchanges.{chan_from, with_unit}
use Rattle.net_core.specs.Fire.{Own, after, changed_from, counted, has_room, moved}
use Rattle.net_core.specs.Held.{AllWithin, HasRoom, Held, Lane, lane, laid_on, taken_all}
use Rattle.net_core.specs.Plans.{IsShaped, admits, apart, cell_after, chans_of, effect_by, keeps, laid_of, moves_of, next_of, own_of, places_of, strays_after}
use Rattle.net_core.specs.States.{CountsRise, CountsWithin, IsOf, IsPlanOf, array_at, cell_at, own_at, queue_array, state_of, with_tokens}
use Rattle.net_core.proofs.ApartLemmas.{into-at, is_at-inv, out_of-at}
use Rattle.net_core.proofs.ExchangeLemmas.{exchanged_of, exchanged_state}
use Rattle.net_core.proofs.MoveLemmas.{chans_are, distinct_of, laid_room, moves_are, shorter}
use Rattle.net_core.proofs.RaiseLemmas.{counts_after}
use Rattle.net_core.proofs.StateLemmas.{fired_of, fired_state, plan_within, unit_is}
use Rattle.net_worker.specs.ChannelEnds.{StandsAt}
use Rattle.net_worker.specs.Portions.{AreInsHere, ArePortion, PortionView, IsInHere, IsOutHere, HasIns, HasPins, SameButTokens, SameHere, portion_of, with_rooms}
use Rattle.net_worker.specs.declared.portion.Portion.TheInside.{Inside}
use Rattle.net_worker.proofs.Here.{out_on}
use Rattle.net_worker.proofs.PortionLemmas.{cell_read, lane_changed, slots_read, tokens_changed, tokens_read}
use Rattle.net_worker.proofs.PutOver.{put_over_set}

-- ---- all but the tokens stays

pub rest_again : {r s t : Stored} → SameButTokens r s → SameButTokens s t → SameButTokens r t
rest_again a b = record {
  scalars = b.scalars ∙ a.scalars;
  slots = b.slots ∙ a.slots;
  cells = b.cells ∙ a.cells;
  homes = b.homes ∙ a.homes;
  strays = b.strays ∙ a.strays;
  exit = b.exit ∙ a.exit;
}

-- the next serial number of a cell is that of what its unit keeps
pub next_is : (c : Cell) → next_of c ≡ (own_of c).queue.next
next_is cell.Plain = refl
next_is (cell.Start b) = refl
next_is (cell.Exit b v) = refl
next_is (cell.Fork bits) = refl
next_is (cell.Queue b) = refl

-- ---- what a firing asks for

-- the channels that a unit takes from are here
pub ins_here : (net : Net) (p : PortionView) (u : ℕ) (ps : List ℕ) → HasPins net p u → AllWithin (length net.chans) (map (λ q. into u q net.chans) ps) → AreInsHere p (map (λ q. into u q net.chans) ps)
ins_here net p u [] pins w = tt
ins_here net p u (q ∷ ps) pins w =
    (pins.ins (into u q net.chans) w.0 (is_at-inv (chan_at net (into u q net.chans)).to u q (into-at u q net.chans w.0)).0, ins_here net p u ps pins w.1)

-- and so is the one that it puts on
pub laid_here : (net : Net) (p : PortionView) (u : ℕ) (o : Option Put) (laid : Option Laid) → HasPins net p u → laid ≡ laid_of net u o → has_room net (state_of p.state) u o → IfSome laid (λ w. IsOutHere p w.chan)
laid_here net p u o laid pins is room =
    let P : Option Laid → Type 0 = λ l. IfSome l (λ w. IsOutHere p w.chan) in
    subst P (sym is) (by o room)
  where
    by : (o : Option Put) → has_room net (state_of p.state) u o → IfSome (laid_of net u o) (λ w. IsOutHere p w.chan)
    by None r = tt
    by (Some w) r = at (cases_lt (out_of u w.place net.chans) (length net.chans))
      where
        at : (out_of u w.place net.chans < length net.chans) ⊎ (length net.chans ≤ out_of u w.place net.chans) → IsOutHere p (out_of u w.place net.chans)
        at (inl l) = pins.outs (out_of u w.place net.chans) l (is_at-inv (chan_at net (out_of u w.place net.chans)).from u w.place (out_of-at u w.place net.chans l)).0
        at (inr l) = let z : (chan_at net (out_of u w.place net.chans)).slots ≡ 0 = ap (λ (x : Chan). x.slots) (get_or_past net.chans (out_of u w.place net.chans) nowhere l) in absurd (omega (arith, r, z))

pub has_ins : (net : Net) (p : PortionView) (u : ℕ) → IsOf net p.state → HasPins net p u → HasIns net p u
has_ins net p u of pins q l =
    let w : into u q net.chans < length net.chans = subst (λ n. into u q net.chans < n) of.long l in
    pins.ins (into u q net.chans) w (is_at-inv (chan_at net (into u q net.chans)).to u q (into-at u q net.chans w)).0

-- so by the number of the channel
pub in_there : (net : Net) (p : PortionView) (u q c : ℕ) → HasIns net p u → c ≡ into u q net.chans → c < length p.state.tokens.tokens → IsInHere p c
in_there net p u q c here is l = subst (IsInHere p) (sym is) (here q (subst (λ n. n < length p.state.tokens.tokens) is l))

-- the channel from an output place, where there is one
pub out_there : (net : Net) (p : PortionView) (u q c : ℕ) → HasPins net p u → c ≡ out_of u q net.chans → c < length net.chans → IsOutHere p c
out_there net p u q c pins is l =
    let w : out_of u q net.chans < length net.chans = subst (λ n. n < length net.chans) is l in
    subst (IsOutHere p) (sym is) (pins.outs (out_of u q net.chans) w (is_at-inv (chan_at net (out_of u q net.chans)).from u q (out_of-at u q net.chans w)).0)

-- the cell that the code reads stands at its unit
pub cell_inside : (net : Net) (s : Stored) (u : ℕ) (c : Cell) → IsOf net s → u < length net.units → c ≡ cell_at s u → c ≡ get_or s.cells.items u c
cell_inside net s u c of l is = is ∙ get_or_default s.cells.items u cell.Plain c (subst (λ n. u < n) (sym of.cells) l)

-- the kind that the code reads
pub kind_read : (net : Net) (us : List Kind) (u : ℕ) (k : Kind) → us ≡ net.units → u < length net.units → k ≡ get_or us u k → k ≡ kind_of net u
kind_read net us u k same l is = sym (unit_is net us u k same (subst (λ (xs : List Kind). u < length xs) (sym same) l) is)

-- what is kept of these
pub laid_kept : (p q : PortionView) (o : Option Laid) → SameHere p q → IfSome o (λ w. IsOutHere p w.chan) → IfSome o (λ w. IsOutHere q w.chan)
laid_kept p q None s here = tt
laid_kept p q (Some w) s here = out_on p q w.chan s here

pub room_kept : (a b : Held) (cs : List ℕ) (o : Option Laid) → b.tokens ≡ taken_all cs a.tokens → b.slots ≡ a.slots → IfSome o (λ w. HasRoom a w.chan) → IfSome o (λ w. HasRoom b w.chan)
room_kept a b cs None tokens slots room = tt
room_kept a b cs (Some w) tokens slots room =
    let x = ap (λ xss. length (get_or xss w.chan [])) tokens in
    let y = ap (λ ns. get_or ns w.chan 0) slots in
    let z = shorter cs a.tokens w.chan in
    omega (arith, x, y, z, room)

-- ---- a planned firing

module _ (net : Net) (s : Stored) (f : Firing) (plan : Plan) (moves : Moves) (of : IsOf net s) (does : IsPlanOf net s f (Some plan)) (are : moves ≡ moves_of net f.unit plan) where
  within : AllWithin (length net.chans) (map (λ q. into f.unit q net.chans) (places_of plan.takes))
  within = subst (λ n. AllWithin n (map (λ q. into f.unit q net.chans) (places_of plan.takes))) of.long (plan_within net s f plan (sym does))

  pub taken_here : (p : PortionView) → HasPins net p f.unit → AreInsHere p (chans_of moves.taken)
  taken_here p pins =
      subst (AreInsHere p) (sym (ap (λ (m : Moves). chans_of m.taken) are ∙ chans_are net f.unit plan.takes)) (ins_here net p f.unit (places_of plan.takes) pins within)

  pub first_room : has_room net (state_of s) f.unit plan.put → IfSome moves.laid (λ w. HasRoom s.tokens w.chan)
  first_room room = laid_room net (state_of s) f.unit plan.put moves.laid s.tokens of.slots refl (ap (λ (m : Moves). m.laid) are) room

  -- the rooms in which the moves are made, of which the unit's cell and the counts of strays then change
  module _ (p : Inside) (h : ArePortion p.base.value p.places.value p.units.items p.cells.items p.chans.items p.channels.items)
      (now : PortionView) (view : portion_of p.units.items p.cells.items p.chans.items p.channels.items p.strays p.base.value p.places.value ≡ now)
      (rest : SameButTokens s now.state) (tokens : now.state.tokens.tokens ≡ laid_on moves.laid (taken_all (chans_of moves.taken) s.tokens.tokens))
      (i : ℕ) (q : Cell) (here : StandsAt p.units.items f.unit i) (at : q ≡ get_or p.cells.items i q) where
    pub cell_was : q ≡ cell_at s f.unit
    cell_was = cell_read p h now view f.unit i q here at ∙ ap (λ v. get_or v.items f.unit cell.Plain) rest.cells

    pub serial_was : CountsWithin (2 ^ 62) (state_of s) → next_of q ≤ 2 ^ 62
    serial_was counts =
        let a = ap next_of cell_was ∙ (next_is (cell_at s f.unit) ∙ ap (λ (o : Own). o.queue.next) (sym (get_or-map own_of s.cells.items f.unit cell.Plain))) in
        let b = counts.serials f.unit in
        omega (arith, a, b)

    strays_were : p.strays.items ≡ s.strays.items
    strays_were = ap (λ (n : PortionView). n.state.strays.items) view ∙ ap (λ v. v.items) rest.strays

    pub counts_were : CountsWithin (2 ^ 62) (state_of s) → (a : ℕ) → get_or p.strays.items a 0 ≤ 2 ^ 62
    counts_were counts a = subst (λ xs. get_or xs a 0 ≤ 2 ^ 62) (sym strays_were) (counts.strays a)

    module _ (apart_of : apart plan.takes ≡ true) (admitted : admits (cell_at s f.unit) plan.change ≡ true) (new : Cell) (changed : new ≡ cell_after plan.change q)
        (n : ℕ) (told : n ≡ strays_after plan.change q) (strays : Vec ℕ Global) (count : strays.items ≡ counted (uses (kind_of net f.unit)) n p.strays.items) where
      abbrev made : Stored
      made = with_rooms p.units.items (set p.cells.items i new) p.chans.items p.channels.items strays p.base.value

      abbrev moving : ℕ → List ℕ → List ℕ
      moving = moved net f.unit (effect_by (kind_of net f.unit) (own_at s f.unit) (array_at net s f.unit) plan)

      moved_tokens : made.tokens.tokens ≡ changed_from moving 0 s.tokens.tokens
      moved_tokens =
          ap (λ (m : PortionView). m.state.tokens.tokens) view ∙ (tokens ∙ (ap (λ (m : Moves). laid_on m.laid (taken_all (chans_of m.taken) s.tokens.tokens)) are
          ∙ moves_are net f.unit plan s.tokens.tokens (distinct_of net f.unit plan.takes apart_of within)))

      cells_made : made.cells.items ≡ set s.cells.items f.unit (cell_after plan.change (cell_at s f.unit))
      cells_made =
          put_over_set (length p.base.value.cells.items) p.units.items p.cells.items p.base.value.cells.items f.unit i new h.units h.cells_long here
          ∙ (ap (λ xs. set xs f.unit new) (ap (λ (m : PortionView). m.state.cells.items) view ∙ ap (λ v. v.items) rest.cells)
          ∙ ap (set s.cells.items f.unit) (changed ∙ ap (cell_after plan.change) cell_was))

      pub made_state : state_of made ≡ after net (state_of s) f
      made_state =
          fired_state net s made f plan n of (sym does) admitted (ap (λ (m : PortionView). m.state.scalars) view ∙ rest.scalars) (ap (λ (m : PortionView). m.state.homes) view ∙ rest.homes)
          moved_tokens cells_made (told ∙ ap (strays_after plan.change) cell_was) (count ∙ ap (counted (uses (kind_of net f.unit)) n) strays_were)

      pub made_counts : IsChecked net → CountsRise max_depth (state_of s) (state_of made)
      made_counts checked = subst (CountsRise max_depth (state_of s)) (sym made_state) (counts_after net (state_of s) f _ checked (sym does))

      pub made_of : IsChecked net → CountsWithin (2 ^ 62) (state_of s) → IsOf net made
      made_of checked counts =
          fired_of net s made moving f.unit plan.change of (ap (λ (m : PortionView). m.state.tokens.slots) view ∙ rest.slots) moved_tokens (ap (λ (m : PortionView). m.state.homes) view ∙ rest.homes)
          (ap (λ (m : PortionView). m.state.exit) view ∙ rest.exit) (λ u. (let m = (made_counts checked (2 ^ 62) counts).serials u in omega arith)) cells_made

      pub made_here : SameHere now (portion_of p.units.items (set p.cells.items i new) p.chans.items p.channels.items strays p.base.value p.places.value)
      made_here = record { units = ap (λ (m : PortionView). m.units) view; chans = ap (λ (m : PortionView). m.chans) view; places = ap (λ (m : PortionView). m.places) view }

-- ---- what is exchanged with a state

module _ (p : Inside) (h : ArePortion p.base.value p.places.value p.units.items p.cells.items p.chans.items p.channels.items)
    (now : PortionView) (view : portion_of p.units.items p.cells.items p.chans.items p.channels.items p.strays p.base.value p.places.value ≡ now)
    (net : Net) (of : IsOf net now.state) where
  -- a cell fits its unit in each state of the net
  module _ (u i : ℕ) (q : Cell) (here : StandsAt p.units.items u i) (at : q ≡ get_or p.cells.items i q) where
    pub keeps_it : keeps (kind_of net u) q ≡ true
    keeps_it = subst (λ x. keeps (kind_of net u) x ≡ true) (sym (cell_read p h now view u i q here at)) (of.kept u)

    pub shaped_as : IsShaped (kind_of net u) q (queue_array q)
    shaped_as = subst (λ x. IsShaped (kind_of net u) x (queue_array x)) (sym (cell_read p h now view u i q here at)) (of.shaped u)

    pub serial_below : (own_of q).queue.next < 2 ^ 63
    serial_below =
        subst (λ (o : Own). o.queue.next < 2 ^ 63) (get_or-map own_of now.state.cells.items u cell.Plain ∙ ap own_of (sym (cell_read p h now view u i q here at))) (of.serials u)

    -- the state that gets it
    module _ (s t : Stored) (other : IsOf net s) (within_net : u < length net.units) (rest : t ≡ record s { cells = t.cells }) (cells : t.cells.items ≡ set s.cells.items u q) where
      cells_too : t.cells.items ≡ set s.cells.items u (cell_at now.state u)
      cells_too = cells ∙ ap (set s.cells.items u) (cell_read p h now view u i q here at)

      pub given_unit : state_of t ≡ with_unit net u (state_of now.state) (state_of s)
      given_unit =
          exchanged_state net s now.state t u within_net other of (ap (λ (x : Stored). x.scalars) rest) (ap (λ (x : Stored). x.tokens) rest) (ap (λ (x : Stored). x.homes) rest)
          (ap (λ (x : Stored). x.strays) rest) (ap (λ (x : Stored). x.exit) rest) cells_too

    -- the rooms that get one of a state
    module _ (s : Stored) (other : IsOf net s) (within_net : u < length net.units) (new : Cell) (is : new ≡ cell_at s u) where
      abbrev with_cell : Stored
      with_cell = with_rooms p.units.items (set p.cells.items i new) p.chans.items p.channels.items p.strays p.base.value

      cells_set : with_cell.cells.items ≡ set now.state.cells.items u (cell_at s u)
      cells_set =
          put_over_set (length p.base.value.cells.items) p.units.items p.cells.items p.base.value.cells.items u i new h.units h.cells_long here
          ∙ ((λ j. set (view j).state.cells.items u (is j)))

      pub held_unit_of : IsOf net with_cell
      held_unit_of =
          exchanged_of net now.state s with_cell u within_net of other (ap (λ (m : PortionView). m.state.scalars) view) (ap (λ (m : PortionView). m.state.tokens) view) (ap (λ (m : PortionView). m.state.homes) view)
          (ap (λ (m : PortionView). m.state.strays) view) (ap (λ (m : PortionView). m.state.exit) view) cells_set

      pub held_unit : state_of with_cell ≡ with_unit net u (state_of s) (state_of now.state)
      held_unit =
          exchanged_state net now.state s with_cell u within_net of other (ap (λ (m : PortionView). m.state.scalars) view) (ap (λ (m : PortionView). m.state.tokens) view) (ap (λ (m : PortionView). m.state.homes) view)
          (ap (λ (m : PortionView). m.state.strays) view) (ap (λ (m : PortionView). m.state.exit) view) cells_set

  -- the tokens of a channel
  module _ (c i : ℕ) (q : Lane) (here : StandsAt p.chans.items c i) (at : q ≡ get_or p.channels.items i q) (s : Stored) where
    pub given_chan : (t : Stored) → t ≡ record s { tokens = t.tokens } → t.tokens.tokens ≡ set s.tokens.tokens c q.tokens
        → state_of t ≡ with_tokens (chan_from c (state_of now.state).tokens (state_of s).tokens) (state_of s)
    given_chan t rest tokens =
        ap state_of rest ∙ ap (λ xss. with_tokens xss (state_of s)) (tokens ∙ ap (set s.tokens.tokens c) (tokens_read p h now view c i q here at))

    module _ (new : Lane) (ds : List ℕ) (is : new ≡ lane (get_or s.tokens.tokens c []) ds (chan_at net c).slots) where
      pub held_chan_of : IsOf net (with_rooms p.units.items p.cells.items p.chans.items (set p.channels.items i new) p.strays p.base.value)
      held_chan_of = lane_changed p h now view net c i q new of here at (ap (λ (l : Lane). l.slots) is ∙ sym (slots_read p h now view net c i q of here at))

      pub held_chan : state_of (with_rooms p.units.items p.cells.items p.chans.items (set p.channels.items i new) p.strays p.base.value)
          ≡ with_tokens (chan_from c (state_of s).tokens (state_of now.state).tokens) (state_of now.state)
      held_chan = tokens_changed p h now view c i new (get_or s.tokens.tokens c []) here (ap (λ (l : Lane). l.tokens) is)
