-- A state into which workers have handed over what they hold is put together of it.
use Rattle.std.proofs.Common.{◌≡◌, ◌⊎◌, inl, inr, ℕ, zero, suc, ◌+◌, ◌*◌, ◌<◌, ◌≤◌, ◌^◌, IsSome, List, [], ◌∷◌, length, get_or, take, map, refl, ap, ◌∙◌, sym, subst, arith}
use Rattle.std.specs.List.{sum_by}
use Rattle.std.proofs.lemmas.Bool.{cases_lt}
use Rattle.std.proofs.lemmas.List.{length-map, get_or_past, get_or-map, get_or_default}
use Rattle.std.proofs.lemmas.List.Sums.{sum_by_more}
use Rattle.net_types.specs.declared.net.Net.{Net}
use Rattle.net_types.specs.declared.net.Chan.{Chan}
use Rattle.net_types.specs.declared.net.Unit.TheVariants.{Exit, Sink}
use Rattle.net_core.specs.declared.state.State.{State as Stored}
use Rattle.net_core.specs.Fire.{State, idle, opened, tokens_at}
use Rattle.net_core.specs.Runs.{opening}
use Rattle.net_core.specs.States.{IsOf, strays_at}
use Rattle.net_worker.specs.declared.tables.Tables.{Tables}
use Rattle.net_worker.specs.declared.worker.Worker.{Worker}
use Rattle.net_worker.specs.Plays.{putter, taker}
use Rattle.net_worker.specs.Views.{net_of, inputs_of, owner_in, held_state, put_end, take_end}
use Rattle.worker_run.specs.Crews.{AreLinked}
use Rattle.worker_run.specs.Gathers.{IsAssembled}
use Rattle.worker_run.specs.private.Handings.{StraysAreFew, AreStraysOf, AreUnitsHanded, AreChansHanded, CanDrain, AreHandedOver}
use Rattle.worker_run.specs.private.Settlings.{AreClosed}
use Rattle.worker_run.proofs.HandLemmas.{same_logged_then}
use Rattle.worker_run.proofs.KeptLemmas.{linked_closed}

-- ---- a net has a unit, and its opening state no tokens and no strays

pub some_unit : (net : Net) (s : Stored) → IsOf net s → s.exit < length net.units
some_unit net s of = by (cases_lt s.exit (length net.units))
  where
    by : (s.exit < length net.units) ⊎ (length net.units ≤ s.exit) → s.exit < length net.units
    by (inl l) = l
    by (inr l) = let e : Sink 0 ≡ Exit = sym (get_or_past net.units s.exit (Sink 0) l) ∙ of.exit in absurd (cc)

abbrev nothing : Chan → List ℕ
nothing x = []

none_each : (cs : List Chan) (c : ℕ) → get_or (map nothing cs) c [] ≡ []
none_each [] c = refl
none_each (x ∷ cs) zero = refl
none_each (x ∷ cs) (suc c) = none_each cs c

abbrev naught : List ℕ → ℕ
naught x = 0

zero_each : (xss : List (List ℕ)) (a : ℕ) → get_or (map naught xss) a 0 ≡ 0
zero_each [] a = refl
zero_each (x ∷ xss) zero = refl
zero_each (x ∷ xss) (suc a) = zero_each xss a

pub no_tokens : (net : Net) (t : Tables) (s : State) (c : ℕ) → s ≡ opening net (inputs_of t) → tokens_at s c ≡ []
no_tokens net t s c is = ap (λ (x : State). tokens_at x c) is ∙ none_each net.chans c

pub no_strays : (net : Net) (t : Tables) (s : State) (a : ℕ) → s ≡ opening net (inputs_of t) → strays_at s a ≡ 0
no_strays net t s a is = ap (λ (x : State). strays_at x a) is ∙ zero_each (inputs_of t).arrays a

-- ---- strays

abbrev pub StraysTo : List Worker → State → ℕ → State → Type 0
StraysTo ws s n r = AreStraysOf (take n ws) s r

strays_most : (ws : List Worker) (n a : ℕ) → StraysAreFew ws → n ≤ length ws → sum_by (λ (w : Worker). strays_at (held_state w) a) (take n ws) ≤ n * 2 ^ 50
strays_most ws zero a few l = omega arith
strays_most [] (suc n) a few l = absurd (omega (arith, l))
strays_most (w ∷ ws) (suc n) a few l =
    let f : Worker → ℕ = λ (w : Worker). strays_at (held_state w) a in
    let step : sum_by f (w ∷ take n ws) ≡ f w + sum_by f (take n ws) = Rattle.std.proofs.lemmas.List.Sums.sum_by-cons f w (take n ws) in
    omega (arith, step, few 0 w (omega arith) a, strays_most ws n a (λ j d k. few (suc j) d (omega (arith, k))) (omega (arith, l)))

-- no sum wraps
pub strays_fit : (ws : List Worker) (s r : State) (n : ℕ) (w : Worker) → length ws ≤ 64 → StraysAreFew ws → n < length ws → ((a : ℕ) → strays_at s a ≡ 0) → StraysTo ws s n r → w ≡ get_or ws n w → (a : ℕ)
    → strays_at r a + strays_at (held_state w) a < 2 ^ 64
strays_fit ws s r n w short few l none h is a =
    let one : strays_at (held_state w) a ≤ 2 ^ 50 = subst (λ z. strays_at (held_state z) a ≤ 2 ^ 50) (sym is) (few n w l a) in
    omega (arith, one, so_far (cases_lt a (length s.strays)))
  where
    so_far : (a < length s.strays) ⊎ (length s.strays ≤ a) → strays_at r a ≤ 64 * 2 ^ 50
    so_far (inl k) = omega (arith, h.each a k, strays_most ws n a few (omega (arith, l)), l, short)
    so_far (inr k) = let z : strays_at r a ≡ 0 = get_or_past r.strays a 0 (omega (arith, k, h.long)) in omega (arith, z)

-- ---- all together

module _ (t : Tables) (ws ys zs : List Worker) (s0 s1 s2 s3 : State) (from : s0 ≡ opening (net_of t) (inputs_of t)) (strays : AreStraysOf ws s0 s1)
    (units : AreUnitsHanded (net_of t) (owner_in t) ws ys s1 s2 (length (net_of t).units)) (chans : AreChansHanded (net_of t) (owner_in t) ys zs s2 s3 (length (net_of t).chans))
    (can : (c : ℕ) → c < length (net_of t).chans → CanDrain (net_of t) (owner_in t) ws c) where
  own_is : s3.own ≡ s2.own
  own_is = ap (λ (x : State). x.own) chans.rest

  arrays_is : s3.arrays ≡ s2.arrays
  arrays_is = ap (λ (x : State). x.arrays) chans.rest

  strays_is : s3.strays ≡ s1.strays
  strays_is = ap (λ (x : State). x.strays) chans.rest ∙ ap (λ (x : State). x.strays) units.rest

  tokens_were : length s3.tokens ≡ length (net_of t).chans
  tokens_were =
      chans.tokens_long ∙ (ap (λ (x : State). length x.tokens) units.rest ∙ (ap (λ (x : State). length x.tokens) strays.rest
      ∙ (ap (λ (x : State). length x.tokens) from ∙ length-map (net_of t).chans nothing)))

  own_were : length s3.own ≡ length (net_of t).units
  own_were =
      ap length own_is ∙ (units.own_long ∙ (ap (λ (x : State). length x.own) strays.rest ∙ (ap (λ (x : State). length x.own) from ∙ length-map (net_of t).units opened)))

  arrays_were : length s3.arrays ≡ length (inputs_of t).arrays
  arrays_were = ap length arrays_is ∙ (units.arrays_long ∙ (ap (λ (x : State). length x.arrays) strays.rest ∙ ap (λ (x : State). length x.arrays) from))

  strays_were : length s0.strays ≡ length (inputs_of t).arrays
  strays_were = ap (λ (x : State). length x.strays) from ∙ length-map (inputs_of t).arrays naught

  put_was : (v c : ℕ) (d : Worker) → v < length ws → put_end (get_or ys v d) c ≡ put_end (get_or ws v d) c
  put_was v c d l = (units.each v d l).puts c

  take_was : (v c : ℕ) (d : Worker) → v < length ws → take_end (get_or ys v d) c ≡ take_end (get_or ws v d) c
  take_was v c d l = (units.each v d l).takes c

  assemble_own : (d : Worker) → IsAssembled t ws d s3
  assemble_own d = record {
    measures = record { tokens = tokens_were; own = own_were; arrays = arrays_were };
    scalars = ap (λ (x : State). x.scalars) chans.rest ∙ (ap (λ (x : State). x.scalars) units.rest ∙ (ap (λ (x : State). x.scalars) strays.rest ∙ ap (λ (x : State). x.scalars) from));
    own = λ u l. ap (λ os. get_or os u idle) own_is ∙ units.own u d l;
    arrays = λ u a l own. ap (λ xss. get_or xss a []) arrays_is ∙ units.arrays u a d l own;
    others = λ a free. ap (λ xss. get_or xss a []) arrays_is
        ∙ (units.others a (λ u l. free u) ∙ (ap (λ (x : State). get_or x.arrays a []) strays.rest ∙ ap (λ (x : State). get_or x.arrays a []) from));
    inner = λ c l same. (
        let at = (units.each (taker (net_of t) (owner_in t) c) d (can c l).to).tokens in
        chans.inner c l same d ∙ ap (λ xss. get_or xss c []) at);
    between = λ c l ne p e is_put is_take.
        chans.between c l ne d d p e
        (put_was (putter (net_of t) (owner_in t) c) c d (can c l).from ∙ is_put)
        (take_was (taker (net_of t) (owner_in t) c) c d (can c l).to ∙ is_take);
    strays_long = ap length strays_is ∙ (strays.long ∙ strays_were);
    strays = λ a l. ap (λ xs. get_or xs a 0) strays_is ∙ strays.each a (omega (arith, l, strays_were));
  }

pub assembled : (t : Tables) (net : Net) (ws ys zs : List Worker) (s0 s1 s2 s3 : State) → net_of t ≡ net → s0 ≡ opening net (inputs_of t) → AreStraysOf ws s0 s1
    → AreUnitsHanded net (owner_in t) ws ys s1 s2 (length net.units) → AreChansHanded net (owner_in t) ys zs s2 s3 (length net.chans)
    → ((c : ℕ) → c < length net.chans → CanDrain net (owner_in t) ws c) → (d : Worker) → IsAssembled t ws d s3
assembled t net ws ys zs s0 s1 s2 s3 is from strays units chans can =
    let P : Net → Type 0 = λ n. s0 ≡ opening n (inputs_of t) → AreUnitsHanded n (owner_in t) ws ys s1 s2 (length n.units) → AreChansHanded n (owner_in t) ys zs s2 s3 (length n.chans)
    → ((c : ℕ) → c < length n.chans → CanDrain n (owner_in t) ws c) → (d : Worker) → IsAssembled t ws d s3 in
    let here : P (net_of t) = λ f u c k. assemble_own t ws ys zs s0 s1 s2 s3 f strays u c k in
    subst P is here from units chans can

-- the ends of channels are where they were while units are handed over
pub units_linked : (t : Tables) (net : Net) (ws ys : List Worker) (s r : State) (n : ℕ) → AreUnitsHanded net (owner_in t) ws ys s r n → AreLinked t ws → AreLinked t ys
units_linked t net ws ys s r n h linked c d e l ne p q x z is_put is_take =
    let v = putter (net_of t) (owner_in t) c in
    let w = taker (net_of t) (owner_in t) c in
    let hv : v < length ws = omega (arith, p, h.long) in
    let hw : w < length ws = omega (arith, q, h.long) in
    linked c d e l ne hv hw x z (sym ((h.each v d hv).puts c) ∙ is_put) (sym ((h.each w e hw).takes c) ∙ is_take)

pub units_can : (net : Net) (owner : ℕ → ℕ) (ws ys : List Worker) (s r : State) (n c : ℕ) → AreUnitsHanded net owner ws ys s r n → CanDrain net owner ws c → CanDrain net owner ys c
units_can net owner ws ys s r n c h can = record {
  from = omega (arith, can.from, h.long);
  to = omega (arith, can.to, h.long);
  put = λ ne d. subst (λ o. IsSome o) (sym ((h.each (putter net owner c) d can.from).puts c)) (can.put ne d);
  take = λ ne d. subst (λ o. IsSome o) (sym ((h.each (taker net owner c) d can.to).takes c)) (can.take ne d);
  few = λ ne d e p x is_put is_take. can.few ne d e p x (sym ((h.each (putter net owner c) d can.from).puts c) ∙ is_put) (sym ((h.each (taker net owner c) e can.to).takes c) ∙ is_take);
}

-- no token came with the units
pub units_tokens : (net : Net) (owner : ℕ → ℕ) (ws ys : List Worker) (s0 s r : State) (n c : ℕ) → AreUnitsHanded net owner ws ys s r n → AreStraysOf ws s0 s → tokens_at s0 c ≡ [] → tokens_at r c ≡ []
units_tokens net owner ws ys s0 s r n c h strays none = ap (λ (x : State). tokens_at x c) h.rest ∙ (ap (λ (x : State). tokens_at x c) strays.rest ∙ none)

pub handed_over : (t : Tables) (net : Net) (ws ys zs xs : List Worker) (s r q : State) (n m : ℕ) → AreUnitsHanded net (owner_in t) ws ys s r n → AreChansHanded net (owner_in t) ys zs r q m
    → AreLinked t zs → AreClosed zs xs → ((d : Worker) → IsAssembled t ws d q) → AreHandedOver t ws xs q
handed_over t net ws ys zs xs s r q n m units chans linked closed all = record {
  long = closed.long ∙ (chans.long ∙ units.long);
  each = λ j d l. (
      let ly : j < length ys = omega (arith, l, units.long) in
      let lz : j < length zs = omega (arith, ly, chans.long) in
      let k = (closed.each j d lz).rest.work in
      same_logged_then (get_or ws j d) (get_or zs j d) (get_or xs j d) (same_logged_then (get_or ws j d) (get_or ys j d) (get_or zs j d) (units.each j d l).logged (chans.each j d ly).logged)
      (record { number = k.number; share = k.share; log = k.log; room = k.room; clock = k.clock }));
  closed = λ j d l. (closed.each j d (omega (arith, l, closed.long))).closed;
  linked = linked_closed t zs xs closed linked;
  assembled = all;
}
