-- Whole runs: the entry, the visits in order, and the return join.
use Rattle.std.proofs.Common.{◌≡◌, ℕ, zero, suc, ◌+◌, ◌*◌, ◌^◌, ◌<◌, ◌≤◌, ◌⊎◌, Option, Some, None, List, [], ◌∷◌, ◌++◌, length, map, get_or, inl, inr, refl, sym, ap, ◌∙◌, subst, arith, slice_get, length-append}
use Rattle.std.specs.List.{All}
use Rattle.std.specs.Prelude.{sum_by}
use Rattle.std.proofs.lemmas.List.Sums.{sum_by-cons}
use Rattle.std.proofs.lemmas.List.Elements.{All-head, All-tail}
use Rattle.std.proofs.lemmas.Slice.Zip.{AllZip-long}
use Rattle.std.proofs.lemmas.Option.{get_or_from_slice_get}
use Rattle.el_base.specs.declared.ty.Ty.{Ty}
use Rattle.el_base.specs.declared.ty.Scalar.{Scalar}
use Rattle.ir.specs.declared.graph.Block.{Block}
use Rattle.ir.specs.declared.graph.Jump.{Jump}
use Rattle.ir.specs.declared.graph.Jump.TheVariants.{Go, Two, Return}
use Rattle.ir.specs.declared.groups.Groups.{Groups}
use Rattle.ir.specs.Graphs.{Graph, IsGraph, IsBlock, IsJump, shape_of, handed, side, onward_of, no_block, block_at, block_weight, passage, first_visit, weight, size}
use Rattle.ir.specs.Shapes.{Shape}
use Rattle.ir.specs.Steps.{value_at, through, beginning}
use Rattle.ir.specs.Visits.{Visit, Onward, onto, leaves, Passage, next_of, AreNext, Returns, Finishes, over_visits, strays_of}
use Rattle.net_types.specs.Inputs.{IsPatternOf}
use Rattle.net_types.specs.declared.firing.Firing.{Firing}
use Rattle.net_types.specs.declared.firing.Inputs.{Inputs}
use Rattle.net_types.specs.declared.net.Net.{Net}
use Rattle.net_types.specs.declared.net.Place.{Place}
use Rattle.net_types.specs.Inputs.{InputsFit}
use Rattle.net_core.specs.Fire.{State}
use Rattle.net_core.specs.Laws.{SpentIsAtRest}
use Rattle.net_core.specs.Runs.{opening, Leads, Exited}
use Rattle.circuit_build.specs.declared.draft.Edge.{Edge}
use Rattle.circuit_build.specs.declared.draft.End.{End}
use Rattle.circuit_build.specs.Asks.{IsAsked}
use Rattle.circuit_build.specs.Built.{join_of, front_of, with_feeders, with_join, built}
use Rattle.circuit_build.specs.Endings.{result_widths, ones, all_ended}
use Rattle.circuit_build.specs.Follows.{Follows, FollowsVisits, CompletesVisits, CircuitsFollow, CircuitsComplete, FollowsIfAsked, CompletesIfAsked}
use Rattle.circuit_build.proofs.Marks.{Aside}
use Rattle.circuit_build.proofs.MarkLemmas.{leads_on}
use Rattle.circuit_build.proofs.Stages.{Outside}
use Rattle.circuit_build.proofs.Targets.{tops_of, top_last}
use Rattle.circuit_build.proofs.LaySections.{Extends, Leaves}
use Rattle.circuit_build.proofs.LayExtends.{extends_then, within_less, all_ended_extends, exited_extends}
use Rattle.circuit_build.proofs.LayWires.{net_leaves}
use Rattle.circuit_build.proofs.LayBlocks.{edge_places, SideAt, inputs_of, args_of, entry_edge, join_head, NetAt}
use Rattle.circuit_build.proofs.LayNet.{net_at}
use Rattle.circuit_build.proofs.Opening.{Opened, opens}
use Rattle.circuit_build.proofs.Ending.{taken_result, Finished, join_tokens, ending}
use Rattle.circuit_build.proofs.StageVisit.{OnEdge, target_of, handed_values, target_head, visited}

all_at : {X : Type 0} (P : X → Type 0) (xs : List X) (i : ℕ) (x : X) → All P xs → slice_get xs i ≡ Some x → P x
all_at P [] i x h e = absurd (cc)
all_at P (y ∷ xs) zero x h e = let z : y ≡ x = cc in subst P z (All-head P y xs h)
all_at P (y ∷ xs) (suc i) x h e = all_at P xs i x (All-tail P y xs h) e

block_of : (g : Graph) → IsGraph g → (b : ℕ) (k : Block) → slice_get g.blocks b ≡ Some k → IsBlock g k
block_of g fine b k h = all_at (IsBlock g) g.blocks b k fine.blocks h

-- ---- visits and their targets

abbrev pub last_of : Visit → List Visit → Visit
last_of v [] = v
last_of v (w ∷ ws) = last_of w ws

-- the visit after another begins where that leads, with what it hands on and the arrays that it leaves
record Next (o : Onward) (arrays : List (List ℕ)) (w : Visit) : Type 0 where
  onward : o ≡ onto w.block w.given
  same : arrays ≡ w.arrays

next_from : (o : Onward) (arrays : List (List ℕ)) (w : Visit) → next_of o arrays ≡ Some w → Next o arrays w
next_from (onto b vs) arrays w e =
    let z : ◌≡◌ {A = Visit} (record { block = b; given = vs; arrays = arrays }) w = cc in
    record { onward = ap (λ (v : Visit). onto v.block v.given) z; same = ap (λ (v : Visit). v.arrays) z }
next_from (leaves r) arrays w e = absurd (cc)

finishes_next : (f : Visit → Passage) (v : Visit) (rest : List Visit) (r : Option ℕ) (arrays : List (List ℕ)) → Finishes f v rest r arrays → AreNext f v rest × Returns f (last_of v rest) r arrays
finishes_next f v [] r arrays h = (tt, h)
finishes_next f v (w ∷ ws) r arrays h = let i = finishes_next f w ws r arrays h.1 in ((h.0, i.0), i.1)

-- the block that a jump leads to stands in the graph
target_stands : (g : Graph) (ws : Shape) (j : Jump) (vs : List ℕ) (b : ℕ) (xs : List ℕ) → IsJump g ws j → onward_of j vs ≡ onto b xs → (k : Block) × (slice_get g.blocks b ≡ Some k)
target_stands g ws (Go to) vs b xs is e = let z : to.block ≡ b = cc in (is.block, ap (slice_get g.blocks) (sym z) ∙ is.exists)
target_stands g ws (Two c yes_part no_part) vs b xs (ic, iy, jn) e = by (value_at vs c) e
  where
    by : (x : ℕ) → side x (handed vs yes_part) (handed vs no_part) ≡ onto b xs → (k : Block) × (slice_get g.blocks b ≡ Some k)
    by zero h = let z : no_part.block ≡ b = cc in (jn.block, ap (slice_get g.blocks) (sym z) ∙ jn.exists)
    by (suc n) h = let z : yes_part.block ≡ b = cc in (iy.block, ap (slice_get g.blocks) (sym z) ∙ iy.exists)
target_stands g ws (Return v) vs b xs is e = absurd (cc)

-- ---- the visits in order

record Ran (g : Graph) (gs : Groups) (net : Net) (scalars : List ℕ) (s : State) (a : Aside) (v : Visit) (rest : List Visit) : Type 0 where
  firings : List Firing
  to : State
  run : Leads net s firings to
  some : length rest ≤ length firings
  -- where the last visit leads on it fires, too
  onward : (b : ℕ) (xs : List ℕ) → (passage g (last_of v rest)).onward ≡ onto b xs → length (v ∷ rest) ≤ length firings
  few : length firings ≤ 12 * over_visits (weight g) (v ∷ rest)
  after : Aside
  edge : Edge
  z : ℕ
  on_edge : OnEdge net scalars to after edge z (handed_values (passage g (last_of v rest)).onward)
  edge_side : SideAt g gs net edge
  goes : edge.to ≡ target_of (join_of g) (passage g (last_of v rest)).onward
  arrays : after.arrays ≡ (passage g (last_of v rest)).arrays
  strays : after.strays ≡ a.strays + strays_of (passage g) (v ∷ rest)

-- a visit that leads on fires
fires : (n b : ℕ) (xs : List ℕ) (o : Onward) → (1 ≤ n) ⊎ ((r : Option ℕ) × (o ≡ leaves r)) → o ≡ onto b xs → 1 ≤ n
fires n b xs o (inl l) e = l
fires n b xs o (inr h) e = let z : onto b xs ≡ leaves h.0 = sym e ∙ h.1 in absurd (cc)

-- no block weighs more than the graph
weighs : (ks : List Block) (i : ℕ) (k : Block) → slice_get ks i ≡ Some k → block_weight k ≤ sum_by block_weight ks
weighs [] i k e = absurd (cc)
weighs (x ∷ ks) zero k e = let z : x ≡ k = cc in let w = ap block_weight z in let s = sum_by-cons block_weight x ks in omega (arith, w, s)
weighs (x ∷ ks) (suc i) k e = let h = weighs ks i k e in let s = sum_by-cons block_weight x ks in omega (arith, h, s)

module _ (g : Graph) (gs : Groups) (fine : IsGraph g) (light : size g ≤ 8000000) {net : Net} {scalars : List ℕ} (leaves_of : Leaves net) (found : NetAt g gs net) where
  one_visit : (v : Visit) (k : Block) → slice_get g.blocks v.block ≡ Some k → IsBlock g k → (s : State) (a : Aside) (e : Edge) (z : ℕ) → OnEdge net scalars s a e z v.given → SideAt g gs net e → e.to ≡ v.block → a.arrays ≡ v.arrays
      → Ran g gs net scalars s a v []
  one_visit v k h ok s a e z on_edge at_side goes same =
      let x = visited g gs leaves_of v.block k ok (let w = weighs g.blocks v.block k h in omega (arith, w, light)) h (found.blocks v.block k h) s a e z v.given v.arrays on_edge at_side goes same in
      let is : block_at g v.block ≡ k = get_or_from_slice_get g.blocks v.block k no_block h in
      let O : Block → Onward = λ b. onward_of b.jump (through b.steps (beginning v.given v.arrays)).values in
      record {
        firings = x.firings;
        to = x.to;
        run = x.run;
        some = omega arith;
        onward = λ b xs e. fires (length x.firings) b xs (onward_of k.jump (through k.steps (beginning v.given v.arrays)).values) x.some (ap (λ b. O b) (sym is) ∙ e);
        few = (let w : weight g v ≡ block_weight k = ap block_weight is in let i = x.few in omega (arith, i, w));
        after = x.after;
        edge = x.edge;
        z = x.z;
        on_edge = subst (λ b. OnEdge net scalars x.to x.after x.edge x.z (handed_values (O b))) (sym is) x.on_edge;
        edge_side = x.edge_side;
        goes = x.goes ∙ ap (λ b. target_of (join_of g) (O b)) (sym is);
        arrays = x.arrays ∙ ap (λ (b : Block). (through b.steps (beginning v.given v.arrays)).arrays) (sym is);
        strays = (let w : (passage g v).strays ≡ (through k.steps (beginning v.given v.arrays)).strays = ap (λ (b : Block). (through b.steps (beginning v.given v.arrays)).strays) is in let i = x.strays in omega (arith, i, w));
      }

  runs : (rest : List Visit) (v : Visit) (k : Block) → slice_get g.blocks v.block ≡ Some k → AreNext (passage g) v rest → (s : State) (a : Aside) (e : Edge) (z : ℕ) → OnEdge net scalars s a e z v.given → SideAt g gs net e → e.to ≡ v.block
      → a.arrays ≡ v.arrays → Ran g gs net scalars s a v rest
  runs [] v k h follow s a e z on_edge at_side goes same = one_visit v k h (block_of g fine v.block k h) s a e z on_edge at_side goes same
  runs (w ∷ ws) v k h follow s a e z on_edge at_side goes same =
      let ok = block_of g fine v.block k h in
      let x = one_visit v k h ok s a e z on_edge at_side goes same in
      let n = next_from (passage g v).onward (passage g v).arrays w follow.0 in
      let is : block_at g v.block ≡ k = get_or_from_slice_get g.blocks v.block k no_block h in
      let o : onward_of k.jump (through k.steps (beginning v.given v.arrays)).values ≡ onto w.block w.given =
      ap (λ (b : Block). onward_of b.jump (through b.steps (beginning v.given v.arrays)).values) (sym is) ∙ n.onward in
      let t = target_stands g (shape_of g k) k.jump (through k.steps (beginning v.given v.arrays)).values w.block w.given ok.jump o in
      let b = subst (λ q. OnEdge net scalars x.to x.after x.edge x.z (handed_values q)) n.onward x.on_edge in
      let r = runs ws w t.0 t.1 follow.1 x.to x.after x.edge x.z b x.edge_side (x.goes ∙ ap (target_of (join_of g)) n.onward) (x.arrays ∙ n.same) in
      record {
        firings = x.firings ++ r.firings;
        to = r.to;
        run = leads_on net s x.firings r.firings x.to r.to x.run r.run;
        some = (let i = x.onward w.block w.given n.onward in let j = r.some in omega (arith, i, j, length-append x.firings r.firings));
        onward = λ b xs e. (let i = x.onward w.block w.given n.onward in let j = r.onward b xs e in omega (arith, i, j, length-append x.firings r.firings));
        few = (let i = x.few in let j = r.few in omega (arith, i, j, length-append x.firings r.firings));
        after = r.after;
        edge = r.edge;
        z = r.z;
        on_edge = r.on_edge;
        edge_side = r.edge_side;
        goes = r.goes;
        arrays = r.arrays;
        strays = (let i = x.strays in let j = r.strays in omega (arith, i, j));
      }

-- ---- from the opening state

-- all places are outside of no range
all_outside : (ps : List (Option Place)) → Outside 0 0 0 ps
all_outside [] = tt
all_outside (None ∷ ps) = all_outside ps
all_outside (Some p ∷ ps) = (omega arith, inr (omega arith), all_outside ps)

-- the entry and the parameters, and then the visits
record Begun (g : Graph) (gs : Groups) (net : Net) (i : Inputs) (v : Visit) (rest : List Visit) : Type 0 where
  opened : Opened g net i 0 0 0
  ran : Ran g gs net i.scalars opened.reach.to opened.aside v rest

module _ (g : Graph) (gs : Groups) (ask : IsAsked g gs) where
  abbrev net : Net
  net = built g gs

  leaves_of : Leaves net
  leaves_of = net_leaves g gs ask

  found : NetAt g gs net
  found = net_at g gs ask

  begun : (i : Inputs) (v : Visit) (rest : List Visit) → InputsFit net i → v ≡ first_visit i.scalars i.arrays → AreNext (passage g) v rest → Begun g gs net i v rest
  begun i v rest fit first follow =
      let at_side = found.front.side in
      let long : length i.scalars ≡ length g.scalars = AllZip-long (λ (s : Scalar) n. IsPatternOf s.ty n) g.scalars i.scalars fit.scalars in
      let o = opens g gs net i leaves_of found.front long 0 0 0 (all_outside (edge_places (entry_edge g))) in
      let st = o.reach.stage in
      let b : OnEdge net i.scalars o.reach.to o.aside (entry_edge g) 0 i.scalars = record { shows = st.shows; apart = st.apart; same = st.same; calm = o.calm; waits = o.waits } in
      let given : i.scalars ≡ v.given = ap (λ (w : Visit). w.given) (sym first) in
      let block : 0 ≡ v.block = ap (λ (w : Visit). w.block) (sym first) in
      let arrays : i.arrays ≡ v.arrays = ap (λ (w : Visit). w.arrays) (sym first) in
      record {
        opened = o;
        ran = runs g gs ask.graph ask.small.bounded leaves_of found rest v ask.graph.entry (ap (slice_get g.blocks) (sym block) ∙ ask.graph.first) follow o.reach.to o.aside (entry_edge g) 0
            (subst (OnEdge net i.scalars o.reach.to o.aside (entry_edge g) 0) given b) at_side block (o.arrays ∙ arrays);
      }

  pub follows_visits : FollowsVisits g net
  follows_visits i [] fit are = record { firings = []; to = opening net i; run = refl; some = omega arith; few = omega arith }
  follows_visits i (v ∷ rest) fit are =
      let b = begun i v rest fit are.0 are.1 in
      let o = b.opened.reach in
      let r = b.ran in
      record {
        firings = o.firings ++ r.firings;
        to = r.to;
        run = leads_on net (opening net i) o.firings r.firings o.to r.to o.run r.run;
        some = (let s = r.some in let t = b.opened.some in omega (arith, s, t, length-append o.firings r.firings));
        few = (let s = o.few in let t = r.few in omega (arith, s, t, length-append o.firings r.firings));
      }

  -- ---- the return join

  taken_is : (t : Option Ty) (r : Option ℕ) → length (handed_values (leaves r)) ≡ length (result_widths t) → taken_result t (handed_values (leaves r)) ≡ r
  taken_is None None l = refl
  taken_is None (Some v) l = absurd (omega arith)
  taken_is (Some t) None l = absurd (omega arith)
  taken_is (Some t) (Some v) l = refl

  -- the join's head, the ends of the queues and the exit
  joined : (scalars : List ℕ) (s : State) (a : Aside) (e : Edge) (z : ℕ) (r : Option ℕ) → OnEdge net scalars s a e z (handed_values (leaves r)) → SideAt g gs net e → e.to ≡ join_of g → Finished net s (length g.arrays + 7) r a.arrays a.strays
  joined scalars s a e z r on_edge at_side goes =
      let join = found.join in
      let d0 = with_feeders g gs in
      let ins = inputs_of g (join_of g) in
      let ws = result_widths g.result in
      let us = ones ws in
      let d1 = join_head g gs in
      let vs = handed_values (leaves r) in
      let x : Extends d1 (with_join g gs) = extends_then d1 (all_ended d1.queues d1) (with_join g gs) (all_ended_extends d1 d1.queues) (exited_extends (all_ended d1.queues d1) g.result) in
      let w1 = within_less net d1 (with_join g gs) x join.laid in
      let blocks : join_of g ≡ length g.blocks = (let b = ask.small.blocks in omega (arith, b)) in
      let widths : args_of g (join_of g) ≡ ws = get_or_from_slice_get (tops_of g) (join_of g) ws [] (top_last g.blocks ws (join_of g) blocks) in
      let short : length ws ≤ 1 = widths_few g.result in
      let with_many : length e.with ≡ length ws = at_side.many ∙ ap (λ (xs : List ℕ). length xs) (ap (args_of g) goes ∙ widths) in
      let h = target_head g gs leaves_of (join_of g) ws us 0 d0 join.head w1 join.late (ones_few ws) (omega (arith, short)) s a e z vs on_edge at_side goes with_many in
      let many : length vs ≡ length ws = (let i = on_edge.same in omega (arith, i, with_many, length_ends e.with)) in
      let f = ending g gs ask join scalars h.comes.to a (length (front_of g gs).units) (length net.units) h.z vs (omega arith) on_edge.waits h.many many h.comes.there in
      let tokens = join_tokens g.result d1 h.z vs h.many many in
      record {
        firings = h.comes.firings ++ f.firings;
        to = f.to;
        run = leads_on net s h.comes.firings f.firings h.comes.to f.to h.comes.run f.run;
        few = (let i = h.comes.few in let l = f.few in omega (arith, i, l, short, many, tokens, length-append h.comes.firings f.firings));
        spent = f.spent;
        exited = subst (λ q. Exited net q f.to) (taken_is g.result r many) f.exited;
        arrays_are = f.arrays_are;
        most = f.most;
      }
    where
      length_ends : (xs : List End) → length (map (λ (x : End). Some x.place) xs) ≡ length xs
      length_ends [] = refl
      length_ends (x ∷ xs) = ap suc (length_ends xs)

      widths_few : (t : Option Ty) → length (result_widths t) ≤ 1
      widths_few None = omega arith
      widths_few (Some t) = omega arith

      ones_few : (ws : List ℕ) (v : ℕ) → get_or (ones ws) v 0 < 2 ^ 32
      ones_few [] v = omega arith
      ones_few (w ∷ ws) zero = omega arith
      ones_few (w ∷ ws) (suc v) = ones_few ws v

  pub completes_visits : SpentIsAtRest → CompletesVisits g net
  completes_visits spent_rests i rest r arrays fit done =
      let v = first_visit i.scalars i.arrays in
      let split = finishes_next (passage g) v rest r arrays done in
      let last = split.1 in
      let b = begun i v rest fit refl split.0 in
      let o = b.opened.reach in
      let x = b.ran in
      let on_edge = subst (λ q. OnEdge net i.scalars x.to x.after x.edge x.z (handed_values q)) last.result x.on_edge in
      let f = joined i.scalars x.to x.after x.edge x.z r on_edge x.edge_side (x.goes ∙ ap (target_of (join_of g)) last.result) in
      let follows : Follows net g i (v ∷ rest) = record {
        firings = o.firings ++ (x.firings ++ f.firings);
        to = f.to;
        run = leads_on net (opening net i) o.firings (x.firings ++ f.firings) o.to f.to o.run (leads_on net o.to x.firings f.firings x.to f.to x.run f.run);
        some = (let s = x.some in let t = b.opened.some in omega (arith, s, t, length-append o.firings (x.firings ++ f.firings), length-append x.firings f.firings));
        few = (let s = o.few in let t = x.few in let u = f.few in omega (arith, s, t, u, length-append o.firings (x.firings ++ f.firings), length-append x.firings f.firings));
      } in
      record {
        follows = follows;
        rests = spent_rests net f.to f.spent;
        spent = f.spent;
        exited = f.exited;
        arrays_are = f.arrays_are ∙ (x.arrays ∙ last.last_arrays);
        clean = λ none c. (let m = f.most c in let s = x.strays in let t = b.opened.strays in omega (arith, m, s, t, none));
      }

pub circuits_follow : CircuitsFollow
circuits_follow g gs ask = follows_visits g gs ask

pub circuits_complete : SpentIsAtRest → CircuitsComplete
circuits_complete spent_rests g gs ask = completes_visits g gs ask spent_rests

-- so of a net that is the built one
pub followed : (g : Graph) (gs : Groups) (net : Net) → net ≡ built g gs → FollowsIfAsked g gs net
followed g gs n e ask = subst (FollowsVisits g) (sym e) (circuits_follow g gs ask)

pub completed : SpentIsAtRest → (g : Graph) (gs : Groups) (net : Net) → net ≡ built g gs → CompletesIfAsked g gs net
completed rest g gs n e ask = subst (CompletesVisits g) (sym e) (circuits_complete rest g gs ask)
