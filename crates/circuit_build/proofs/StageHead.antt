-- The head of a target: from the tokens of an edge to the control token and the arguments.
use Rattle.std.proofs.Common.{◌≡◌, ℕ, zero, suc, ◌+◌, ◌*◌, ◌^◌, ◌<◌, ◌≤◌, false, true, Option, Some, None, List, [], ◌∷◌, ◌++◌, length, map, get_or, refl, sym, ap, ◌∙◌, subst, inl, inr, arith, slice_get, length-append, append_assoc}
use Rattle.std.proofs.lemmas.List.{append-nil}
use Rattle.net_types.specs.declared.net.Place.{Place}
use Rattle.net_types.specs.declared.net.Net.{Net}
use Rattle.net_types.specs.declared.net.Unit.TheVariants.{Fork, Mux, Cmerge}
use Rattle.net_types.specs.Nets.{at}
use Rattle.net_core.specs.Fire.{State}
use Rattle.circuit_build.specs.declared.draft.Draft.{Draft}
use Rattle.circuit_build.specs.declared.draft.Edge.{Edge}
use Rattle.circuit_build.specs.declared.draft.End.{End}
use Rattle.circuit_build.specs.declared.draft.Queue.{Queue}
use Rattle.circuit_build.specs.Blocks.{mux_laid, muxes_laid, args_defined, ends_defined, merged, opened, passed_in}
use Rattle.circuit_build.specs.Drafts.{number, plus, next, with_control, defined, triggered, control_forked, after_place}
use Rattle.circuit_build.specs.Jumps.{head_end}
use Rattle.circuit_build.proofs.Marks.{Aside, Wired}
use Rattle.circuit_build.proofs.Stages.{Outside, Stage, Reaches}
use Rattle.circuit_build.proofs.SpreadLemmas.{fresh}
use Rattle.circuit_build.proofs.CountBooks.{chan}
use Rattle.circuit_build.proofs.LaySections.{Extends, Within, EdgeAt, Leaves, AllUsed}
use Rattle.circuit_build.proofs.LayExtends.{extends_own, extends_then, within_less, muxes_extend, ends_extend, control_extends}
use Rattle.circuit_build.proofs.LayBlocks.{edge_places}
use Rattle.circuit_build.proofs.MarkLemmas.{leads_on}
use Rattle.circuit_build.proofs.StageParts.{and_then, by_stage, here, loosen}
use Rattle.circuit_build.proofs.StageKinds.{Calm, mux_front, cmerge_front, fork_front}
use Rattle.circuit_build.proofs.StageTokens.{Token, token, places, values, as_many, Swaps, same, keep, swap, follow, swaps_as, swaps_of, swaps_back, swapped, row, row_long, kept}
use Rattle.circuit_build.proofs.StageUses.{Stands, NewUnit, new_unit, stands_between, last_wire, open_tokens, tokens_as, other_first, At, Comes, at_swapped, at_as, comes_here, comes_then, comes_from, comes_within, comes_swapped, gains, spread_quiet, defined_more, defined_ends, defined_comes, control_forked_comes}
use Rattle.circuit_build.proofs.StageCounts.{table}
use Rattle.circuit_build.proofs.StageBlock.{defined_many}

-- ---- tokens of an edge

abbrev pub data_tokens : List End → List ℕ → List Token
data_tokens [] vs = []
data_tokens (e ∷ es) [] = []
data_tokens (e ∷ es) (v ∷ vs) = token e.place v ∷ data_tokens es vs

abbrev pub edge_tokens : Edge → ℕ → List ℕ → List Token
edge_tokens e z vs = token e.control z ∷ data_tokens e.with vs

pub data_places : (es : List End) (vs : List ℕ) → length es ≡ length vs → (places (data_tokens es vs) ≡ map (λ (x : End). Some x.place) es) × (values (data_tokens es vs) ≡ vs)
data_places [] [] l = (refl, refl)
data_places [] (v ∷ vs) l = absurd (omega arith)
data_places (e ∷ es) [] l = absurd (omega arith)
data_places (e ∷ es) (v ∷ vs) l = let i = data_places es vs (omega arith) in (ap (λ ps. Some e.place ∷ ps) i.0, ap (λ xs. v ∷ xs) i.1)

pub data_long : (es : List End) (vs : List ℕ) → length es ≡ length vs → length (data_tokens es vs) ≡ length vs
data_long [] [] l = refl
data_long [] (v ∷ vs) l = absurd (omega arith)
data_long (e ∷ es) [] l = absurd (omega arith)
data_long (e ∷ es) (v ∷ vs) l = ap suc (data_long es vs (omega arith))

-- the ends of muxes in a row
abbrev pub arg_ends : ℕ → List ℕ → List End
arg_ends u [] = []
arg_ends u (w ∷ ws) = record { place = at u 0; width = w } ∷ arg_ends (plus u 1) ws

args_as : (u : ℕ) (ws : List ℕ) (d : Draft) → args_defined u ws d ≡ ends_defined (arg_ends u ws) d
args_as u [] d = refl
args_as u (w ∷ ws) d = args_as (plus u 1) ws (defined (at u 0) w d)

arg_ends_long : (u : ℕ) (ws : List ℕ) → length (arg_ends u ws) ≡ length ws
arg_ends_long u [] = refl
arg_ends_long u (w ∷ ws) = ap suc (arg_ends_long (plus u 1) ws)

pub ends_many : (es : List End) (d : Draft) → length (ends_defined es d).ends ≡ length d.ends + length es
ends_many [] d = omega arith
ends_many (e ∷ es) d = let i = ends_many es (defined e.place e.width d) in let m = defined_many e.place e.width d in omega (arith, i, m)

-- ---- tokens at units of a head

abbrev Inside : ℕ → ℕ → List Token → Type 0
Inside low n [] = Unit {0}
Inside low n (t ∷ ts) = (low ≤ t.place.unit) × (t.place.unit < n) × Inside low n ts

inside_outside : (low n m : ℕ) (ts : List Token) → Inside low n ts → Outside 0 n m (places ts)
inside_outside low n m [] h = tt
inside_outside low n m (t ∷ ts) h = (omega arith, inl h.1, inside_outside low n m ts h.2)

inside_used : (low n : ℕ) (qs : List (Option Queue)) (ts : List Token) → Inside low n ts → AllUsed low qs (places ts)
inside_used low n qs [] h = tt
inside_used low n qs (t ∷ ts) h = (inl h.0, inside_used low n qs ts h.2)

inside_row : (low n : ℕ) (p : Place) (k v : ℕ) (ts : List Token) → low ≤ p.unit → p.unit < n → Inside low n ts → Inside low n (row p k v ++ ts)
inside_row low n p zero v ts l u h = h
inside_row low n p (suc k) v ts l u h = (l, u, inside_row low n (after_place p) k v ts l u h)

inside_args : (low n u : ℕ) (ws vs : List ℕ) → low ≤ u → u + length ws ≤ n → n < 2 ^ 32 → Inside low n (data_tokens (arg_ends u ws) vs)
inside_args low n u [] vs l m few = tt
inside_args low n u (w ∷ ws) [] l m few = tt
inside_args low n u (w ∷ ws) (v ∷ vs) l m few = let e : plus u 1 ≡ suc u = omega (arith, m, few) in (l, omega (arith, m), inside_args low n (plus u 1) ws vs (omega (arith, e, l)) (omega (arith, e, m)) few)

-- ---- the arguments

module _ {net : Net} {scalars : List ℕ} {low m : ℕ} (leaves : Leaves net) (U : List ℕ) (few : (v : ℕ) → get_or U v 0 < 2 ^ 32) where
  pub ends_comes : (es : List End) (vs us : List ℕ) (z t : ℕ) {s : State} {a : Aside} (d : Draft) → d.uses ≡ U → At net scalars low m s a d (open_tokens d z t (table U) us (data_tokens es vs)) → length es ≡ length vs → length d.ends ≡ length us
      → Stands net low m (ends_defined es d) → Comes net scalars low m s (length d.chans) (length (open_tokens d z t (table U) us (data_tokens es vs))) (2 * length es) a (ends_defined es d) (open_tokens (ends_defined es d) z t (table U) (us ++ vs) [])
  ends_comes [] [] us z t d uses o l many sr = comes_swapped (swaps_of (ap (λ xs. open_tokens d z t (table U) xs []) (sym (append-nil us)))) (comes_here o)
  ends_comes [] (v ∷ vs) us z t d uses o l many sr = absurd (omega arith)
  ends_comes (e ∷ es) [] us z t d uses o l many sr = absurd (omega arith)
  ends_comes (e ∷ es) (v ∷ vs) us z t {s = s} {a = a} d uses o l many sr =
      let f = defined e.place e.width d in
      let r = ends_defined (e ∷ es) d in
      let handed = data_tokens es vs in
      let x = token e.place v in
      let first = other_first (token d.control z) (row d.trigger t z) (kept (table U) d.ends us) handed x in
      let sf = stands_between {d = d} {e = f} {f = r} (defined_more e.place e.width d) (ends_extend f es) o.stands sr in
      let left : table U (length d.ends) ≡ get_or d.uses (length d.ends) 0 = ap (λ u. get_or u (length d.ends) 0) (sym uses) in
      let f0 = few (length d.ends) in
      let one = defined_comes leaves e.place e.width v z t (table U) us handed (at_swapped first o) left (omega (arith, left, f0)) many sf in
      let lv = length-append us (v ∷ []) in
      let dm = defined_many e.place e.width d in
      let rest = ends_comes es vs (us ++ v ∷ []) z t f ((spread_quiet (record { place = e.place; width = e.width }) (get_or d.uses (length d.ends) 0) d).uses ∙ uses) one.there (omega arith) (omega (arith, lv, dm, many)) sr in
      let all = comes_from (open_tokens d z t (table U) us (x ∷ handed)) (x ∷ open_tokens d z t (table U) us handed) first (comes_then one rest) in
      comes_within (omega arith) (comes_swapped (swaps_of (ap (λ xs. open_tokens r z t (table U) xs []) (append_assoc us (v ∷ []) vs))) all)

-- ---- the muxes

record Muxed (d e : Draft) : Type 0 where
  control : e.control ≡ d.control
  ends : e.ends ≡ d.ends
  uses : e.uses ≡ d.uses

muxes_keep : (ins : ℕ) (ws : List ℕ) (d : Draft) → Muxed d (muxes_laid ins ws d)
muxes_keep ins [] d = record { control = refl; ends = refl; uses = refl }
muxes_keep ins (w ∷ ws) d = let i = muxes_keep ins ws (mux_laid ins w d) in record { control = i.control; ends = i.ends; uses = i.uses }

muxes_trigger : (ins : ℕ) (ws : List ℕ) (d : Draft) → (muxes_laid ins ws d).trigger.unit ≡ d.trigger.unit
muxes_trigger ins [] d = refl
muxes_trigger ins (w ∷ ws) d = muxes_trigger ins ws (mux_laid ins w d)

mux_more : (ins w : ℕ) (d : Draft) → Extends d (mux_laid ins w d)
mux_more ins w d = record { more_units = Mux w ins ∷ []; more_chans = chan d.trigger (at (next d) 0) 32 false ∷ []; units = refl; chans = refl }

muxes_next : {net : Net} {low m : ℕ} (ins : ℕ) (ws : List ℕ) (d : Draft) → Stands net low m d → Stands net low m (muxes_laid ins ws d) → next (muxes_laid ins ws d) ≡ next d + length ws
muxes_next ins [] d sd sr = omega arith
muxes_next ins (w ∷ ws) d sd sr =
    let e = mux_laid ins w d in
    let se = stands_between {d = d} {e = e} {f = muxes_laid ins ws e} (mux_more ins w d) (muxes_extend e ins ws) sd sr in
    let n = (new_unit {d = d} {e = e} (Mux w ins) sd se refl).after in
    let i = muxes_next ins ws e se sr in
    omega (arith, n, i)

module _ {net : Net} {scalars : List ℕ} {m : ℕ} (leaves : Leaves net) where
  muxes_reach : (ins j : ℕ) (ws : List ℕ) (es : List End) (vs : List ℕ) (d : Draft) (c : Place) (t : ℕ) (done : List Token) {s : State} {a : Aside} → length es ≡ length ws → length vs ≡ length ws → j < ins
      → Stage net scalars s a 0 (next d) m (places (token c j ∷ (row d.trigger (length ws + t) j ++ (done ++ data_tokens es vs)))) (values (token c j ∷ (row d.trigger (length ws + t) j ++ (done ++ data_tokens es vs))))
      → ((i : ℕ) (x : End) → slice_get es i ≡ Some x → Wired net x.place (at (next d + i) (j + 1))) → Stands net 0 m d → Stands net 0 m (muxes_laid ins ws d)
      → Reaches net scalars s (length ws) a 0 (next (muxes_laid ins ws d)) m (places (token c j ∷ (row (muxes_laid ins ws d).trigger t j ++ (done ++ data_tokens (arg_ends (next d) ws) vs))))
      (values (token c j ∷ (row (muxes_laid ins ws d).trigger t j ++ (done ++ data_tokens (arg_ends (next d) ws) vs))))
  muxes_reach ins j [] [] [] d c t done {s = s} {a = a} l k lt st wires sd sr =
      here (subst (λ q. Stage net scalars s a 0 (next d) m (places (token c j ∷ (row d.trigger q j ++ (done ++ [])))) (values (token c j ∷ (row d.trigger q j ++ (done ++ []))))) (let z : 0 + t ≡ t = omega arith in z) st)
  muxes_reach ins j [] [] (v ∷ vs) d c t done l k lt st wires sd sr = absurd (omega arith)
  muxes_reach ins j [] (x ∷ es) vs d c t done l k lt st wires sd sr = absurd (omega arith)
  muxes_reach ins j (w ∷ ws) [] vs d c t done l k lt st wires sd sr = absurd (omega arith)
  muxes_reach ins j (w ∷ ws) (x ∷ es) [] d c t done l k lt st wires sd sr = absurd (omega arith)
  muxes_reach ins j (w ∷ ws) (x ∷ es) (v ∷ vs) d c t done {s = s} {a = a} l k lt st wires sd sr =
      let e = mux_laid ins w d in
      let r = muxes_laid ins ws e in
      let handed = data_tokens es vs in
      let q = length ws + t in
      let R = row (after_place d.trigger) q j in
      let p = token x.place v in
      let y = token (at (next d) 0) v in
      let all : List Token = done ++ handed in
      let se = stands_between {d = d} {e = e} {f = r} (mux_more ins w d) (muxes_extend e ins ws) sd sr in
      let n = new_unit {d = d} {e = e} (Mux w ins) sd se refl in
      let count : length (w ∷ ws) + t ≡ suc q = omega arith in
      let st1 = subst (λ b. Stage net scalars s a 0 (next d) m (places (token c j ∷ (row d.trigger b j ++ (done ++ p ∷ handed)))) (values (token c j ∷ (row d.trigger b j ++ (done ++ p ∷ handed))))) count st in
      let first : Swaps (token c j ∷ (row d.trigger (suc q) j ++ (done ++ p ∷ handed))) (token d.trigger j ∷ p ∷ token c j ∷ (R ++ all)) =
      follow (other_first (token c j) (row d.trigger (suc q) j) done handed p) (follow (keep swap) swap) in
      let st2 = swapped first st1 in
      let wire = last_wire {d = e} d.chans (chan d.trigger (at (next d) 0) 32 false) se.within refl in
      let start : next d + 0 ≡ next d = omega arith in
      let wp : Wired net x.place (at (next d) (j + 1)) = subst (λ u. Wired net x.place (at u (j + 1))) start (wires 0 x refl) in
      let z0 : 0 ≤ next d = omega arith in
      let go = mux_front leaves z0 n.below st2 w ins n.is lt wire wp in
      let joined : done ++ y ∷ handed ≡ (done ++ y ∷ []) ++ handed = sym (append_assoc done (y ∷ []) handed) in
      let back : Swaps (y ∷ token c j ∷ (R ++ all)) (token c j ∷ (R ++ ((done ++ y ∷ []) ++ handed))) = swaps_as (ap (λ b. token c j ∷ (R ++ b)) joined) (swaps_back (other_first (token c j) R done handed y)) in
      let go1 = by_stage (λ i b. swapped back b) go in
      let go2 = subst (λ b. Reaches net scalars s 1 a 0 b m (places (token c j ∷ (R ++ ((done ++ y ∷ []) ++ handed)))) (values (token c j ∷ (R ++ ((done ++ y ∷ []) ++ handed))))) (sym n.after) go1 in
      let later : (i : ℕ) (b : End) → slice_get es i ≡ Some b → Wired net b.place (at (next e + i) (j + 1)) =
      (λ i b h. subst (λ u. Wired net b.place (at u (j + 1))) (let o = n.after in let g : next d + suc i ≡ next e + i = omega (arith, o) in g) (wires (suc i) b h)) in
      let rest = muxes_reach ins j ws es vs e c t (done ++ y ∷ []) (omega arith) (omega arith) lt go2.stage later se sr in
      let number_next : next e ≡ plus (next d) 1 = (let o = n.after in omega (arith, o)) in
      let listed : token c j ∷ (row r.trigger t j ++ ((done ++ y ∷ []) ++ data_tokens (arg_ends (next e) ws) vs)) ≡ token c j ∷ (row r.trigger t j ++ (done ++ y ∷ data_tokens (arg_ends (plus (next d) 1) ws) vs)) =
      ap (λ b. token c j ∷ (row r.trigger t j ++ b)) (append_assoc done (y ∷ []) (data_tokens (arg_ends (next e) ws) vs) ∙ ap (λ u. done ++ y ∷ data_tokens (arg_ends u ws) vs) number_next) in
      loosen (omega arith) (by_stage (λ i b. swapped (swaps_of listed) b) (and_then go2 rest))

-- ---- the head

-- the tokens of the control token, of t triggers and of the arguments, at a head
pub record HeadDone (net : Net) (scalars : List ℕ) (low m : ℕ) (s : State) (a : Aside) (c : ℕ) (ws us : List ℕ) (t : ℕ) (r : Draft) (vs : List ℕ) : Type 0 where
  pub z : ℕ
  pub comes : Comes net scalars low m s c (suc (length vs)) (2 + 4 * length ws) a r (open_tokens r z t (table us) vs [])
  pub many : length r.ends ≡ length vs

merged_more : (ins : ℕ) (d : Draft) → Extends d (merged ins d)
merged_more ins d = record { more_units = Cmerge ins ∷ []; more_chans = []; units = refl; chans = sym (append-nil d.chans) }

pub nothing_of : {X : Type 0} (xs : List X) → length xs ≡ 0 → xs ≡ []
nothing_of [] l = refl
nothing_of (x ∷ xs) l = absurd (omega arith)

-- what stands of a head with some arguments, and k triggers but one
record Built (net : Net) (ins : ℕ) (d : Draft) (k : ℕ) (all : List ℕ) : Type 0 where
  first : Within net (merged ins d)
  second : Within net (control_forked (suc k) (merged ins d))
  third : Within net (muxes_laid ins all (control_forked (suc k) (merged ins d)))
  one : next (merged ins d) ≡ suc (next d)
  two : next (control_forked (suc k) (merged ins d)) ≡ suc (next (merged ins d))
  three : next (muxes_laid ins all (control_forked (suc k) (merged ins d))) ≡ next (control_forked (suc k) (merged ins d)) + length all

stood : {net : Net} (ins : ℕ) (d : Draft) (k : ℕ) (all : List ℕ) → Within net (muxes_laid ins all (control_forked (suc k) (merged ins d))) → Built net ins d k all
stood {net = net} ins d k all wd3 =
    let d1 = merged ins d in
    let d2 = control_forked (suc k) d1 in
    let d3 = muxes_laid ins all d2 in
    let wd2 = within_less net d2 d3 (muxes_extend d2 ins all) wd3 in
    let wd1 = within_less net d1 d2 (control_extends d1 (suc k)) wd2 in
    let wd = within_less net d d1 (merged_more ins d) wd1 in
    let M = length net.units in
    let l1 = length-append d.units (Cmerge ins ∷ []) in
    let less1 = wd1.less in
    let less2 = wd2.less in
    let less3 = wd3.less in
    let big : Stands net 0 M d = record { within = wd; above = omega arith; below = omega (arith, l1, less1) } in
    let big1 : Stands net 0 M d1 = record { within = wd1; above = omega arith; below = omega (arith, less1) } in
    let big2 : Stands net 0 M d2 = record { within = wd2; above = omega arith; below = omega (arith, less2) } in
    let big3 : Stands net 0 M d3 = record { within = wd3; above = omega arith; below = omega (arith, less3) } in
    record {
      first = wd1;
      second = wd2;
      third = wd3;
      one = (new_unit {d = d} {e = d1} (Cmerge ins) big big1 refl).after;
      two = (new_unit {d = d1} {e = d2} (Fork 32 (plus (suc k) 1)) big1 big2 refl).after;
      three = muxes_next ins all d2 big2 big3;
    }

-- some firings lead to a stage, at most k
record Fires (net : Net) (scalars : List ℕ) (s : State) (k : ℕ) (a : Aside) (n m : ℕ) (ts : List Token) : Type 0 where
  reach : Reaches net scalars s k a 0 n m (places ts) (values ts)
  some : 1 ≤ length reach.firings

fires_then : {net : Net} {scalars : List ℕ} {s : State} {k l g n m o q : ℕ} {a b : Aside} {ps : List (Option Place)} {vs : List ℕ} (us : List Token) → (x : Reaches net scalars s k a 0 n m ps vs) → 1 ≤ length x.firings → Reaches net scalars x.to l b 0 o q (places us) (values us) → k + l ≤ g
    → Fires net scalars s g b o q us
fires_then {net = net} {s = s} us x f y le =
    let q = length-append x.firings y.firings in
    record {
      reach = record { firings = x.firings ++ y.firings; to = y.to; run = leads_on net s x.firings y.firings x.to y.to x.run y.run; few = (let i = x.few in let j = y.few in omega (arith, i, j, q, le)); stage = y.stage };
      some = omega (arith, q, f);
    }

module _ {net : Net} {scalars : List ℕ} {low : ℕ} (leaves : Leaves net) (us : List ℕ) (few : (v : ℕ) → get_or us v 0 < 2 ^ 32) where
  -- what the edge hands on are the arguments
  pub lean_head : {s : State} {a : Aside} (ws : List ℕ) (e : Edge) (z t : ℕ) (vs : List ℕ) (d : Draft) → d.uses ≡ us → d.ends ≡ [] → Within net d → Within net (passed_in e t d) → low ≤ next d → Calm net a → length e.with ≡ length vs → length vs ≡ length ws → t + 2 < 2 ^ 32
      → Stage net scalars s a 0 (next d) (length net.units) (places (edge_tokens e z vs)) (values (edge_tokens e z vs)) → AllUsed low d.queues (places (edge_tokens e z vs))
      → HeadDone net scalars low (length net.units) s a (length d.chans) ws us t (passed_in e t d) vs
  lean_head {s = s} {a = a} ws e z t vs d uses none wd wr above calm l k small st used =
      let m = length net.units in
      let d1 : Draft = record (with_control e.control d) { heads = d.heads ++ 0 ∷ [] } in
      let d2 = control_forked t d1 in
      let r = passed_in e t d in
      let handed = data_tokens e.with vs in
      let less = wd.less in
      let rless = wr.less in
      let sd : Stands net low m d = record { within = wd; above = above; below = omega (arith, less) } in
      let x1 : Extends d d1 = record { more_units = []; more_chans = []; units = sym (append-nil d.units); chans = sym (append-nil d.chans) } in
      let x2 : Extends d1 d2 = control_extends d1 t in
      let s1 : Stands net low m d1 = record { within = within_less net d1 r (extends_then d1 d2 r x2 (ends_extend d2 e.with)) wr; above = above; below = omega (arith, less) } in
      let sr : Stands net low m r = record { within = wr; above = (let q = extends_up d r (extends_then d d1 r x1 (extends_then d1 d2 r x2 (ends_extend d2 e.with))) in omega (arith, q, above)); below = omega (arith, rless) } in
      let s2 = stands_between {d = d1} {e = d2} {f = r} x2 (ends_extend d2 e.with) s1 sr in
      let o : At net scalars low m s a d1 (edge_tokens e z vs) = record { stands = s1; calm = calm; stage = st; used = used } in
      let listed : edge_tokens e z vs ≡ open_tokens d1 z 0 (table us) [] handed = tokens_as {p = d.trigger} z 0 (table us) [] handed refl refl (sym none) in
      let one = control_forked_comes leaves t z (table us) [] handed (at_swapped (swaps_of listed) o) small s2 in
      let uses2 : d2.uses ≡ us = forked_uses t d1 ∙ uses in
      let ends2 : d2.ends ≡ [] = forked_ends t d1 ∙ none in
      let two = ends_comes leaves us few e.with vs [] z t d2 uses2 one.there l (ap length ends2) sr in
      let ld = data_long e.with vs l in
      let b : length (open_tokens d1 z 0 (table us) [] handed) ≡ suc (length vs) = ap length (sym listed) ∙ ap suc ld in
      record {
        z = z;
        comes = comes_within (omega (arith, b, l, k)) (comes_then one two);
        many = (let i = ends_many e.with d2 in let j = ap length ends2 in omega (arith, i, j, l));
      }
    where
      extends_up : (d e : Draft) → Extends d e → next d ≤ next e
      extends_up d e x = let q = length-append d.units x.more_units in let u = ap length x.units in omega (arith, q, u)

      forked_uses : (t : ℕ) (d : Draft) → (control_forked t d).uses ≡ d.uses
      forked_uses zero d = refl
      forked_uses (suc t) d = refl

      forked_ends : (t : ℕ) (d : Draft) → (control_forked t d).ends ≡ d.ends
      forked_ends zero d = refl
      forked_ends (suc t) d = refl

  -- the merge, the fork of its token and the muxes, and then the arguments
  module _ (ins j : ℕ) (e : Edge) (z : ℕ) (vs : List ℕ) (d : Draft) {s : State} {a : Aside} (uses : d.uses ≡ us) (none : d.ends ≡ []) (above : low ≤ next d) (calm : Calm net a) (lt : j < ins) (wires : EdgeAt net (next d) j e) where
    -- without arguments
    bare_head : (t n : ℕ) → n ≡ t → t + 2 < 2 ^ 32 → Within net (control_forked n (merged ins d)) → (m : ℕ) → next d < m → Stage net scalars s a 0 (next d) m (places (token e.control z ∷ [])) (values (token e.control z ∷ []))
        → HeadDone net scalars low (length net.units) s a (length d.chans) [] us t (control_forked n (merged ins d)) []
    bare_head t n same_count small wr m lm st =
        let h = next d in
        let d1 = merged ins d in
        let wd1 = within_less net d1 (control_forked n d1) (control_extends d1 n) wr in
        let wd = within_less net d d1 (merged_more ins d) wd1 in
        let l1 = length-append d.units (Cmerge ins ∷ []) in
        let less = wd1.less in
        let sd : Stands net low (length net.units) d = record { within = wd; above = above; below = omega (arith, l1, less) } in
        let few1 = wd1.few in
        let s1 : Stands net low (length net.units) d1 = record { within = wd1; above = omega (arith, above, l1); below = omega (arith, less) } in
        let n1 = new_unit {d = d} {e = d1} (Cmerge ins) sd s1 refl in
        let z0 : 0 ≤ h = omega arith in
        let go = cmerge_front leaves z0 lm st ins j n1.is lt wires.control in
        let out = leaves h 0 (Cmerge ins) n1.is (inl refl) in
        let first : Comes net scalars low (length net.units) s (length d.chans) 1 1 a d1 (token (at h 0) j ∷ []) = record {
          firings = go.firings;
          to = go.to;
          run = go.run;
          few = (let f = go.few in omega (arith, f));
          some = inl (gains (token e.control z ∷ []) st (fresh 0 h m 0 (places (token e.control z ∷ [])) lm st.outside) go);
          there = record {
            stands = s1;
            calm = calm;
            stage = record { shows = go.stage.shows; apart = go.stage.apart; outside = (omega arith, inl (let o = n1.after in omega (arith, o)), tt); same = refl };
            used = (inl above, tt);
          };
        } in
        let sr : Stands net low (length net.units) (control_forked n d1) = record { within = wr; above = (let q = up d1 (control_forked n d1) (control_extends d1 n) in let o = n1.after in omega (arith, q, o, above)); below = (let q = wr.less in omega (arith, q)) } in
        let listed : (token (at h 0) j ∷ []) ≡ open_tokens d1 j 0 (table us) [] [] = tokens_as {p = d.trigger} j 0 (table us) [] [] refl refl (sym none) in
        let f2 = comes_swapped (swaps_of listed) first in
        let two = control_forked_comes leaves n j (table us) [] [] f2.there (omega (arith, same_count, small)) sr in
        let count : open_tokens (control_forked n d1) j n (table us) [] [] ≡ open_tokens (control_forked n d1) j t (table us) [] [] = ap (λ k. open_tokens (control_forked n d1) j k (table us) [] []) same_count in
        record { z = j; comes = comes_within (omega arith) (comes_swapped (swaps_of count) (comes_then f2 two)); many = ap length (forked_ends n d1 ∙ none) }
      where
        up : (d e : Draft) → Extends d e → next d ≤ next e
        up d e x = let q = length-append d.units x.more_units in let u = ap length x.units in omega (arith, q, u)

        forked_ends : (t : ℕ) (d : Draft) → (control_forked t d).ends ≡ d.ends
        forked_ends zero d = refl
        forked_ends (suc t) d = refl

    -- with some arguments, and k triggers but one
    forked_token : (k m : ℕ) (handed : List Token) → k + 3 < 2 ^ 32 → Stands net 0 m d → Stands net 0 m (merged ins d) → Stands net 0 m (control_forked (suc k) (merged ins d))
        → Stage net scalars s a 0 (next d) m (places (token e.control z ∷ handed)) (values (token e.control z ∷ handed)) → Fires net scalars s (suc (suc (suc k))) a (next (control_forked (suc k) (merged ins d))) m (token (at (next (merged ins d)) 0) j ∷ (row (at (next (merged ins d)) 1) (suc k) j ++ handed))
    forked_token k m handed small sd s1 s2 st =
        let h = next d in
        let d1 = merged ins d in
        let d2 = control_forked (suc k) d1 in
        let n1 = new_unit {d = d} {e = d1} (Cmerge ins) sd s1 refl in
        let z0 : 0 ≤ h = omega arith in
        let go1 = subst (λ q. Reaches net scalars s 1 a 0 q m (places (token (at h 0) j ∷ handed)) (values (token (at h 0) j ∷ handed))) (sym n1.after) (cmerge_front leaves z0 n1.below st ins j n1.is lt wires.control) in
        let n2 = new_unit {d = d1} {e = d2} (Fork 32 (plus (suc k) 1)) s1 s2 refl in
        let outputs : plus (suc k) 1 ≡ suc (suc k) = omega (arith, small) in
        let is2 : slice_get net.units (next d1) ≡ Some (Fork 32 (suc (suc k))) = n2.is ∙ ap (λ q. Some (Fork 32 q)) outputs in
        let wire2 = last_wire {d = d2} d1.chans (record { from = at h 0; to = at (next d1) 0; width = 32; slots = 1; delay = 1; ctl = true }) s2.within refl in
        let z1 : 0 ≤ next d1 = omega arith in
        let go2 = fork_front leaves z1 n2.below {s = go1.to} handed go1.stage 32 (suc k) (omega (arith, small)) calm is2 wire2 in
        let go3 = subst (λ q. Reaches net scalars go1.to (suc (suc k)) a 0 q m (places (row (at (next d1) 0) (suc (suc k)) j ++ handed)) (values (row (at (next d1) 0) (suc (suc k)) j ++ handed))) (sym n2.after) go2 in
        let f0 = gains (token e.control z ∷ handed) st (fresh 0 h m 0 (places (token e.control z ∷ handed)) n1.below st.outside) go1 in
        fires_then (row (at (next d1) 0) (suc (suc k)) j ++ handed) go1 f0 go3 (omega arith)

    -- from the muxes on
    muxed : (t k : ℕ) (all : List ℕ) → Built net ins d k all → suc k ≡ length all + t → length e.with ≡ length all → length vs ≡ length all
        → Within net (ends_defined (arg_ends (next (control_forked (suc k) (merged ins d))) all) (muxes_laid ins all (control_forked (suc k) (merged ins d)))) → (m n : ℕ)
        → (go : Reaches net scalars s n a 0 (next (muxes_laid ins all (control_forked (suc k) (merged ins d)))) m
        (places (token (at (next (merged ins d)) 0) j ∷ (row (muxes_laid ins all (control_forked (suc k) (merged ins d))).trigger t j ++ data_tokens (arg_ends (next (control_forked (suc k) (merged ins d))) all) vs)))
        (values (token (at (next (merged ins d)) 0) j ∷ (row (muxes_laid ins all (control_forked (suc k) (merged ins d))).trigger t j ++ data_tokens (arg_ends (next (control_forked (suc k) (merged ins d))) all) vs))))
        → n ≡ suc (suc (suc k)) + length all → 1 ≤ length go.firings
        → HeadDone net scalars low (length net.units) s a (length d.chans) all us t (ends_defined (arg_ends (next (control_forked (suc k) (merged ins d))) all) (muxes_laid ins all (control_forked (suc k) (merged ins d)))) vs
    muxed t k all b count l lv wr m n go steps f0 =
        let d1 = merged ins d in
        let d2 = control_forked (suc k) d1 in
        let d3 = muxes_laid ins all d2 in
        let es = arg_ends (next d2) all in
        let r = ends_defined es d3 in
        let M = length net.units in
        let ts = token (at (next d1) 0) j ∷ (row d3.trigger t j ++ data_tokens es vs) in
        let a1 = b.one in
        let a2 = b.two in
        let a3 = b.three in
        let tr = muxes_trigger ins all d2 in
        let less3 = b.third.less in
        let lessr = wr.less in
        let inside : Inside low (next d3) ts = (
          omega (arith, above, a1),
          omega (arith, a2, a3),
          inside_row low (next d3) d3.trigger t j (data_tokens es vs) (omega (arith, tr, above, a1)) (omega (arith, tr, a2, a3))
              (inside_args low (next d3) (next d2) all vs (omega (arith, above, a1, a2)) (omega (arith, a3)) (omega arith)),
        ) in
        let S3 : Stands net low M d3 = record { within = b.third; above = omega (arith, above, a1, a2, a3); below = omega (arith, less3) } in
        let mk = muxes_keep ins all d2 in
        let listed : ts ≡ open_tokens d3 j t (table us) [] (data_tokens es vs) = tokens_as {p = d3.trigger} j t (table us) [] (data_tokens es vs) (sym mk.control) refl (sym (mk.ends ∙ none)) in
        let el = arg_ends_long (next d2) all in
        let ld = data_long es vs (omega (arith, el, lv)) in
        let lr = length-append (row d3.trigger t j) (data_tokens es vs) in
        let rl = row_long d3.trigger t j in
        let first : Comes net scalars low M s (length d.chans) (suc (length vs)) (2 + 2 * length all) a d3 ts = record {
          firings = go.firings;
          to = go.to;
          run = go.run;
          few = (let f = go.few in omega (arith, f, lr, rl, ld, lv, count, steps));
          some = inl f0;
          there = record {
            stands = S3;
            calm = calm;
            stage = record { shows = go.stage.shows; apart = go.stage.apart; outside = inside_outside low (next d3) M ts inside; same = as_many ts };
            used = inside_used low (next d3) d3.queues ts inside;
          };
        } in
        let f2 = comes_swapped (swaps_of listed) first in
        let wr_up = up d3 r (ends_extend d3 es) in
        let sr : Stands net low M r = record { within = wr; above = omega (arith, wr_up, above, a1, a2, a3); below = omega (arith, lessr) } in
        let two = ends_comes leaves us few es vs [] j t {s = f2.to} d3 (mk.uses ∙ uses) f2.there (omega (arith, el, lv)) (ap length (mk.ends ∙ none)) sr in
        record {
          z = j;
          comes = comes_within (omega (arith, el)) (comes_then f2 two);
          many = (let i = ends_many es d3 in let g = ap length (mk.ends ∙ none) in omega (arith, i, g, el, lv));
        }
      where
        up : (d e : Draft) → Extends d e → next d ≤ next e
        up d e x = let q = length-append d.units x.more_units in let u = ap length x.units in omega (arith, q, u)

    full_head : (t k w : ℕ) (ws : List ℕ) → suc k ≡ length (w ∷ ws) + t → k + 3 < 2 ^ 32 → length e.with ≡ length (w ∷ ws) → length vs ≡ length (w ∷ ws)
        → Within net (args_defined (next (control_forked (suc k) (merged ins d))) (w ∷ ws) (muxes_laid ins (w ∷ ws) (control_forked (suc k) (merged ins d))))
        → Stage net scalars s a 0 (next d) (head_end (next d) (length (w ∷ ws))) (places (edge_tokens e z vs)) (values (edge_tokens e z vs))
        → HeadDone net scalars low (length net.units) s a (length d.chans) (w ∷ ws) us t (args_defined (next (control_forked (suc k) (merged ins d))) (w ∷ ws) (muxes_laid ins (w ∷ ws) (control_forked (suc k) (merged ins d)))) vs
    full_head t k w ws count small l lv wr st =
        let h = next d in
        let d1 = merged ins d in
        let all = w ∷ ws in
        let d2 = control_forked (suc k) d1 in
        let d3 = muxes_laid ins all d2 in
        let es = arg_ends (next d2) all in
        let r = ends_defined es d3 in
        let m = head_end h (length all) in
        let handed = data_tokens e.with vs in
        let wr' : Within net r = subst (Within net) (args_as (next d2) all d3) wr in
        let b = stood ins d k all (within_less net d3 r (ends_extend d3 es) wr') in
        let a1 = b.one in
        let a2 = b.two in
        let a3 = b.three in
        let small_net = wr.few in
        let ends_here : m ≡ next d3 = omega (arith, a1, a2, a3) in
        let sd : Stands net 0 m d = record { within = within_less net d d1 (merged_more ins d) b.first; above = omega arith; below = omega (arith, a1, a2, a3, ends_here) } in
        let s1 : Stands net 0 m d1 = record { within = b.first; above = omega arith; below = omega (arith, a2, a3, ends_here) } in
        let s2 : Stands net 0 m d2 = record { within = b.second; above = omega arith; below = omega (arith, a3, ends_here) } in
        let s3 : Stands net 0 m d3 = record { within = b.third; above = omega arith; below = omega (arith, ends_here) } in
        let f = forked_token k m handed small sd s1 s2 st in
        let st2 = subst (λ q. Stage net scalars f.reach.to a 0 (next d2) m (places (token (at (next d1) 0) j ∷ (row (at (next d1) 1) q j ++ ([] ++ handed)))) (values (token (at (next d1) 0) j ∷ (row (at (next d1) 1) q j ++ ([] ++ handed))))) count f.reach.stage in
        let wires' : (i : ℕ) (x : End) → slice_get e.with i ≡ Some x → Wired net x.place (at (next d2 + i) (j + 1)) =
        (λ i x g. subst (λ u. Wired net x.place (at u (j + 1))) (let q : h + 2 + i ≡ next d2 + i = omega (arith, a1, a2) in q) (wires.values i x g)) in
        let go3 = muxes_reach leaves ins j all e.with vs d2 (at (next d1) 0) t [] {s = f.reach.to} {a = a} l lv lt st2 wires' s2 s3 in
        let go = fires_then (token (at (next d1) 0) j ∷ (row d3.trigger t j ++ data_tokens es vs)) f.reach f.some go3 (omega arith) in
        let done = muxed t k all b count l lv wr' m (suc (suc (suc k)) + length all) go.reach refl go.some in
        subst (λ q. HeadDone net scalars low (length net.units) s a (length d.chans) all us t q vs) (sym (args_as (next d2) all d3)) done

    pub merged_head : (ws : List ℕ) (t : ℕ) → length e.with ≡ length vs → length vs ≡ length ws → t + length ws + 2 < 2 ^ 32 → Within net (opened ins ws t d)
        → Stage net scalars s a 0 (next d) (head_end (next d) (length ws)) (places (edge_tokens e z vs)) (values (edge_tokens e z vs))
        → HeadDone net scalars low (length net.units) s a (length d.chans) ws us t (opened ins ws t d) vs
    merged_head [] t l k small wr st =
        let no_vs : vs ≡ [] = nothing_of vs k in
        let no_ends : e.with ≡ [] = nothing_of e.with (l ∙ k) in
        let listed : edge_tokens e z vs ≡ token e.control z ∷ [] = ap (λ es. token e.control z ∷ data_tokens es vs) no_ends in
        let st' = swapped (swaps_of listed) st in
        let n = plus t (number (length {A = ℕ} [])) in
        let count : n ≡ t = omega (arith, small) in
        let f = wr.few in
        let under : next d < head_end (next d) 0 = (let q = (within_less net (merged ins d) (control_forked n (merged ins d)) (control_extends (merged ins d) n) wr).less in let l1 = length-append d.units (Cmerge ins ∷ []) in omega (arith, q, l1, f)) in
        subst (λ xs. HeadDone net scalars low (length net.units) s a (length d.chans) [] us t (opened ins [] t d) xs) (sym no_vs) (bare_head t n count (omega (arith, small)) wr (head_end (next d) 0) under st')
    merged_head (w ∷ ws) t l k small wr st =
        let d1 = merged ins d in
        let all = w ∷ ws in
        let n = plus t (number (length all)) in
        let c = length ws + t in
        let count : n ≡ suc c = omega (arith, small) in
        let of : ℕ → Draft = λ q. args_defined (next (control_forked q d1)) all (muxes_laid ins all (control_forked q d1)) in
        let done = full_head t c w ws (omega arith) (omega (arith, small)) (l ∙ k) k (subst (λ q. Within net (of q)) count wr) st in
        subst (λ q. HeadDone net scalars low (length net.units) s a (length d.chans) all us t (of q) vs) (sym count) done
