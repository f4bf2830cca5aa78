-- The opening: the entry and the parameters fire, and the tokens of the first edge are there.
use Rattle.std.proofs.Common.{◌≡◌, ℕ, zero, suc, ◌+◌, ◌^◌, ◌<◌, ◌≤◌, ◌==◌, ◌⊎◌, true, false, Option, Some, None, List, [], ◌∷◌, ◌++◌, length, map, get_or, refl, sym, ap, subst, ◌∙◌, inl, inr, arith, eq-eqb, ne_eqb, slice_get, length-append, append_assoc}
use Rattle.std.proofs.lemmas.Bool.{cases_eq}
use Rattle.el_base.specs.declared.ty.Scalar.{Scalar}
use Rattle.ir.specs.declared.groups.Groups.{Groups}
use Rattle.ir.specs.Graphs.{Graph}
use Rattle.net_types.specs.declared.net.Chan.{Chan}
use Rattle.net_types.specs.declared.net.Net.{Net}
use Rattle.net_types.specs.declared.net.Place.{Place}
use Rattle.net_types.specs.declared.net.Unit.{Unit as Kind}
use Rattle.net_types.specs.declared.net.Unit.TheVariants.{Entry, Param, Sink, Lsq}
use Rattle.net_types.specs.declared.firing.Act.TheVariants.{Go}
use Rattle.net_types.specs.declared.firing.Firing.{Firing}
use Rattle.net_types.specs.declared.firing.Inputs.{Inputs}
use Rattle.net_types.specs.Nets.{out_of, kind_of, at, firing}
use Rattle.net_core.specs.Fire.{Own, idle, opened}
use Rattle.net_core.specs.Runs.{opening}
use Rattle.circuit_build.specs.declared.draft.Draft.{Draft}
use Rattle.circuit_build.specs.declared.draft.End.{End}
use Rattle.circuit_build.specs.Drafts.{next, with_unit, plus}
use Rattle.circuit_build.specs.Fronts.{started, params_laid, param_ends, entered}
use Rattle.circuit_build.proofs.Marks.{pushed, Aside, with_own, Shows, Goes}
use Rattle.circuit_build.proofs.Stages.{spread, NotIn, Outside, Reaches}
use Rattle.circuit_build.proofs.MarkLemmas.{unit_at}
use Rattle.circuit_build.proofs.KindLemmas.{entry_goes, param_goes}
use Rattle.circuit_build.proofs.SpreadLemmas.{spread_none, add_front, reaches_of_goes, then_reaches}
use Rattle.circuit_build.proofs.LaySections.{Within, Leaves}
use Rattle.circuit_build.proofs.LayExtends.{extends_own, same_more, within_less, params_extend}
use Rattle.circuit_build.proofs.LayBlocks.{FrontAt, entry_edge, edge_places}
use Rattle.circuit_build.proofs.StageKinds.{Calm, settled}
use Rattle.circuit_build.proofs.StageUses.{gains}
use Rattle.circuit_build.proofs.Waits.{NoneWaits}

-- ---- the opening state

abbrev nothing : Chan → List ℕ
nothing c = []

no_tokens : (cs : List Chan) (k : ℕ) → get_or (map nothing cs) k [] ≡ []
no_tokens [] k = refl
no_tokens (c ∷ cs) zero = refl
no_tokens (c ∷ cs) (suc k) = no_tokens cs k

all_opened : (ks : List Kind) (u : ℕ) → get_or (map opened ks) u idle ≡ opened (get_or ks u (Sink 0))
all_opened [] u = refl
all_opened (k ∷ ks) zero = refl
all_opened (k ∷ ks) (suc u) = all_opened ks u

no_strays : (xss : List (List ℕ)) (b : ℕ) → get_or (map (λ (xs : List ℕ). 0) xss) b 0 ≤ 0
no_strays [] b = omega arith
no_strays (xs ∷ xss) zero = omega arith
no_strays (xs ∷ xss) (suc b) = no_strays xss b

as_long : {A B : Type 0} (f : A → B) (xs : List A) → length (map f xs) ≡ length xs
as_long f [] = refl
as_long f (x ∷ xs) = ap suc (as_long f xs)

opening_shows : (net : Net) (i : Inputs) → Shows net i.scalars (opening net i) (λ r. []) (record { own = λ u. opened (kind_of net u); arrays = i.arrays; strays = 0 })
opening_shows net i = record {
  given = refl;
  sees = λ r. no_tokens net.chans (out_of r.unit r.place net.chans);
  own = λ u. all_opened net.units u;
  same = refl;
  few = no_strays i.arrays;
  long = as_long nothing net.chans;
  owned = as_long opened net.units;
}

-- ---- what has fired

settled_opened : (k : Kind) → (k ≡ Entry → ⊥) → ((j : ℕ) → k ≡ Param j → ⊥) → opened k ≡ settled k
settled_opened Entry e f = absurd (e refl)
settled_opened (Param j) e f = absurd (f j refl)
settled_opened _ e f = refl

pub slice_kind : (ks : List Kind) (u : ℕ) (k : Kind) → (Sink 0 ≡ k → ⊥) → get_or ks u (Sink 0) ≡ k → slice_get ks u ≡ Some k
slice_kind [] u k n e = absurd (n e)
slice_kind (x ∷ ks) zero k n e = ap Some e
slice_kind (x ∷ ks) (suc u) k n e = slice_kind ks u k n e

-- the parameters from number j on have fired, and what else has fired at all is later
record Fired (net : Net) (i : Inputs) (j k : ℕ) (ps : List (Option Place)) (vs : List ℕ) : Type 0 where
  aside : Aside
  late : (u : ℕ) → suc j ≤ u → aside.own u ≡ settled (kind_of net u)
  early : (u : ℕ) → u ≤ j → aside.own u ≡ opened (kind_of net u)
  arrays : aside.arrays ≡ i.arrays
  strays : aside.strays ≡ 0
  reach : Reaches net i.scalars (opening net i) k aside (suc j) 0 0 ps vs

not_low : (n o : ℕ) (ps : List (Option Place)) → Outside (suc n) 0 0 ps → NotIn (at n o) ps
not_low n o [] b = tt
not_low n o (None ∷ ps) b = not_low n o ps b
not_low n o (Some p ∷ ps) b = (λ e. (let x : n ≡ p.unit = ap (λ (r : Place). r.unit) e in let y = b.0 in absurd (omega (arith, x, y))), not_low n o ps b.2)

lower : (n : ℕ) (ps : List (Option Place)) → Outside (suc n) 0 0 ps → Outside n 0 0 ps
lower n [] b = tt
lower n (None ∷ ps) b = lower n ps b
lower n (Some p ∷ ps) b = ((let y = b.0 in omega (arith, y)), b.1, lower n ps b.2)

module _ (net : Net) (i : Inputs) (leaves : Leaves net) where
  -- one that fires without a token, in front of those that have fired
  one_more : (j k : ℕ) (v : ℕ) (ps : List (Option Place)) (vs : List ℕ) (a a' : Aside) (fs : List Firing) → (r : Reaches net i.scalars (opening net i) k a (suc j) 0 0 ps vs) → length fs ≤ 1
      → Goes net i.scalars r.to fs (pushed (at j 0) v (spread ps vs)) a' → Reaches net i.scalars (opening net i) (k + 1) a' j 0 0 (Some (at j 0) ∷ ps) (v ∷ vs)
  one_more j k v ps vs a a' fs r few go =
      let new = not_low j 0 ps r.stage.outside in
      then_reaches net i.scalars (opening net i) k 1 a a' (suc j) j 0 0 0 0 ps (Some (at j 0) ∷ ps) vs (v ∷ vs) r
      (reaches_of_goes net i.scalars r.to 1 fs _ a' j 0 0 (Some (at j 0) ∷ ps) (v ∷ vs) go few (add_front (at j 0) v ps vs new) (new, r.stage.apart)
      ((omega arith), inr (omega arith), lower j ps r.stage.outside) (ap suc r.stage.same))

  own_fired : (j : ℕ) (k : Kind) (a : Aside) → slice_get net.units j ≡ Some k → a.own j ≡ opened k → record (opened k) { fired = true } ≡ settled k → ((u : ℕ) → suc j ≤ u → a.own u ≡ settled (kind_of net u))
      → (u : ℕ) → j ≤ u → (with_own j (record (a.own j) { fired = true }) a).own u ≡ settled (kind_of net u)
  own_fired j k a is own same late u l = by (cases_eq u j)
    where
      by : (u ≡ j) ⊎ (u ≡ j → ⊥) → (with_own j (record (a.own j) { fired = true }) a).own u ≡ settled (kind_of net u)
      by (inl e) =
          let b : (u == j) ≡ true = eq-eqb u j e in
          let x : kind_of net u ≡ k = ap (kind_of net) e ∙ (unit_at net.units j k is).0 in
          let y : record (a.own j) { fired = true } ≡ settled (kind_of net u) = ap (λ (o : Own). record o { fired = true }) own ∙ (same ∙ sym (ap settled x)) in
          rw b y
      by (inr n) = let b : (u == j) ≡ false = ne_eqb u j n in let l' : suc j ≤ u = grind (arith, l, n) in rw b (late u l')

  own_early : (j : ℕ) (o : Own) (a : Aside) (u : ℕ) → u < j → (with_own j o a).own u ≡ a.own u
  own_early j o a u l = let b : (u == j) ≡ false = ne_eqb u j (λ e. absurd (omega (arith, e, l))) in rw b refl

  param_fires : (j k : ℕ) (before xs : List ℕ) (x : ℕ) (ps : List (Option Place)) (vs : List ℕ) → i.scalars ≡ before ++ x ∷ xs → length before ≡ j → slice_get net.units (suc j) ≡ Some (Param j)
      → Fired net i (suc j) k ps vs → Fired net i j (k + 1) (Some (at (suc j) 0) ∷ ps) (x ∷ vs)
  param_fires j k before xs x ps vs split long is f =
      let a = f.aside in
      let st = f.reach.stage in
      let own : a.own (suc j) ≡ opened (Param j) = f.early (suc j) (omega arith) ∙ ap opened (unit_at net.units (suc j) (Param j) is).0 in
      let out = leaves (suc j) 0 (Param j) is (inl refl) in
      let free = spread_none (at (suc j) 0) ps vs (not_low (suc j) 0 ps st.outside) in
      let go = param_goes net i.scalars f.reach.to (spread ps vs) a st.shows (suc j) j out.0 is (ap (λ (o : Own). o.fired) own) out.1 free in
      let value : get_or i.scalars j 0 ≡ x = ap (λ l. get_or l j 0) split ∙ at_seam before xs x j long in
      let r = one_more (suc j) k (get_or i.scalars j 0) ps vs a (with_own (suc j) (record (a.own (suc j)) { fired = true }) a) (firing (suc j) Go ∷ []) f.reach (omega arith) go in
      record {
        aside = with_own (suc j) (record (a.own (suc j)) { fired = true }) a;
        late = own_fired (suc j) (Param j) a is own refl f.late;
        early = λ u l. own_early (suc j) (record (a.own (suc j)) { fired = true }) a u (omega arith) ∙ f.early u (omega arith);
        arrays = f.arrays;
        strays = f.strays;
        reach = subst (λ y. Reaches net i.scalars (opening net i) (k + 1) (with_own (suc j) (record (a.own (suc j)) { fired = true }) a) (suc j) 0 0 (Some (at (suc j) 0) ∷ ps) (y ∷ vs)) value r;
      }
    where
      at_seam : (before xs : List ℕ) (x j : ℕ) → length before ≡ j → get_or (before ++ x ∷ xs) j 0 ≡ x
      at_seam [] xs x zero e = refl
      at_seam [] xs x (suc j) e = absurd (omega arith)
      at_seam (b ∷ before) xs x zero e = absurd (omega arith)
      at_seam (b ∷ before) xs x (suc j) e = at_seam before xs x j (omega arith)

abbrev place_at : End → Option Place
place_at x = Some x.place

pub last_unit : (ks : List Kind) (k : Kind) → slice_get (ks ++ k ∷ []) (length ks) ≡ Some k
last_unit [] k = refl
last_unit (x ∷ ks) k = last_unit ks k

module _ (net : Net) (i : Inputs) (leaves : Leaves net) (total : ℕ) (few : total + 1 < 2 ^ 32)
    (entries : (u : ℕ) → slice_get net.units u ≡ Some Entry → u ≡ 0) (params : (u j : ℕ) → slice_get net.units u ≡ Some (Param j) → (u ≡ 1 + j) × (j < total)) where
  none_fired : Fired net i total 0 [] []
  none_fired =
      let a : Aside = record { own = λ u. opened (kind_of net u); arrays = i.arrays; strays = 0 } in
      record {
        aside = a;
        late = λ u l. settled_opened (kind_of net u)
            (λ e. (let x = entries u (slice_kind net.units u Entry (λ z. cc) e) in absurd (omega (arith, x, l))))
            (λ j e. (let x = params u j (slice_kind net.units u (Param j) (λ z. cc) e) in absurd (omega (arith, x.0, x.1, l))));
        early = λ u l. refl;
        arrays = refl;
        strays = refl;
        reach = record { firings = []; to = opening net i; run = refl; few = omega arith; stage = record { shows = opening_shows net i; apart = tt; outside = tt; same = refl } };
      }

  all_params : (ss : List Scalar) (d : Draft) (j : ℕ) (before xs : List ℕ) → length d.units ≡ suc j → j + length ss ≡ total → length ss ≡ length xs → i.scalars ≡ before ++ xs → length before ≡ j
      → Within net (params_laid j ss d) → Fired net i j (length ss) (map place_at (param_ends j ss d)) xs
  all_params [] d j before [] l t n split long w = let e : total ≡ j = omega (arith, t) in subst (λ x. Fired net i x 0 [] []) e none_fired
  all_params [] d j before (x ∷ xs) l t n split long w = absurd (omega arith)
  all_params (s ∷ ss) d j before [] l t n split long w = absurd (omega arith)
  all_params (s ∷ ss) d j before (x ∷ xs) l t n split long w =
      let e = with_unit (Param j) d in
      let one : plus j 1 ≡ suc j = omega (arith, t, few) in
      let this : next d ≡ suc j = omega (arith, l, t, few) in
      let here = within_less net e (params_laid (plus j 1) ss e) (params_extend e (plus j 1) ss) w in
      let is : slice_get net.units (suc j) ≡ Some (Param j) = here.unit (suc j) (Param j) (ap (slice_get e.units) (sym l) ∙ last_unit d.units (Param j)) in
      let more : length e.units ≡ suc (suc j) = length-append d.units (Param j ∷ []) ∙ (let y : length d.units + 1 ≡ suc (suc j) = omega (arith, l) in y) in
      let rest = all_params ss e (plus j 1) (before ++ x ∷ []) xs (more ∙ ap suc (sym one)) (omega (arith, one, t)) (omega arith) (split ∙ sym (append_assoc before (x ∷ []) xs))
      (length-append before (x ∷ []) ∙ (let y : length before + 1 ≡ plus j 1 = omega (arith, one, long) in y)) w in
      let f : Fired net i (suc j) (length ss) (map place_at (param_ends (plus j 1) ss e)) xs = subst (λ y. Fired net i y (length ss) (map place_at (param_ends (plus j 1) ss e)) xs) one rest in
      let g = param_fires net i leaves j (length ss) before xs x (map place_at (param_ends (plus j 1) ss e)) xs split long is f in
      let count : length ss + 1 ≡ length (s ∷ ss) = omega arith in
      subst (λ y. Fired net i j y (Some (at (next d) 0) ∷ map place_at (param_ends (plus j 1) ss e)) (x ∷ xs)) count
      (subst (λ y. Fired net i j (length ss + 1) (Some (at y 0) ∷ map place_at (param_ends (plus j 1) ss e)) (x ∷ xs)) (sym this) g)

-- the tokens of the first edge are there, and nothing else is
pub record Opened (g : Graph) (net : Net) (i : Inputs) (low n m : ℕ) : Type 0 where
  pub aside : Aside
  pub calm : Calm net aside
  pub waits : NoneWaits net aside
  pub arrays : aside.arrays ≡ i.arrays
  pub strays : aside.strays ≡ 0
  pub reach : Reaches net i.scalars (opening net i) (1 + length g.scalars) aside low n m (edge_places (entry_edge g)) (0 ∷ i.scalars)
  pub some : 1 ≤ length reach.firings

pub opens : (g : Graph) (gs : Groups) (net : Net) (i : Inputs) → Leaves net → FrontAt g gs net → length i.scalars ≡ length g.scalars → (low n m : ℕ) → Outside low n m (edge_places (entry_edge g)) → Opened g net i low n m
opens g gs net i leaves front long low n m out =
    let total = length g.scalars in
    let few : total + 1 < 2 ^ 32 = front.few in
    let d = params_laid 0 g.scalars (started (length g.blocks + 1)) in
    let w = within_less net d (entered g.scalars (started (length g.blocks + 1))) (same_more d d (entered g.scalars (started (length g.blocks + 1))) refl refl (extends_own d)) front.laid in
    let f = all_params net i leaves total few front.entries front.params g.scalars (started (length g.blocks + 1)) 0 [] i.scalars refl (omega arith) (sym long) refl refl w in
    let a = f.aside in
    let st = f.reach.stage in
    let ps = map place_at (param_ends 0 g.scalars (started (length g.blocks + 1))) in
    let is : slice_get net.units 0 ≡ Some Entry = (within_less net (started (length g.blocks + 1)) d (params_extend (started (length g.blocks + 1)) 0 g.scalars) w).unit 0 Entry refl in
    let own : a.own 0 ≡ opened Entry = f.early 0 (omega arith) ∙ ap opened (unit_at net.units 0 Entry is).0 in
    let r = leaves 0 0 Entry is (inl refl) in
    let free = spread_none (at 0 0) ps i.scalars (not_low 0 0 ps st.outside) in
    let go = entry_goes net i.scalars f.reach.to (spread ps i.scalars) a st.shows 0 r.0 is (ap (λ (o : Own). o.fired) own) r.1 free in
    let b : Aside = with_own 0 (record (a.own 0) { fired = true }) a in
    let x = one_more net i leaves 0 total 0 ps i.scalars a b (firing 0 Go ∷ []) f.reach (omega arith) go in
    let all : (u : ℕ) → b.own u ≡ settled (kind_of net u) = (λ u. own_fired net i leaves 0 Entry a is own refl f.late u (omega arith)) in
    record {
      aside = b;
      calm = λ u k e none. all u ∙ ap settled (unit_at net.units u k e).0;
      waits = λ u c d ports groups forward e. (0, all u ∙ ap settled (unit_at net.units u (Lsq c d ports groups forward) e).0);
      arrays = f.arrays;
      strays = f.strays;
      reach = record {
        firings = x.firings;
        to = x.to;
        run = x.run;
        few = (let y = x.few in omega (arith, y));
        stage = record { shows = x.stage.shows; apart = x.stage.apart; outside = out; same = x.stage.same };
      };
      some = gains {low = 0} {n = 0} {m = 0} {p = at 0 0} [] (record { shows = opening_shows net i; apart = tt; outside = tt; same = refl }) tt x;
    }
